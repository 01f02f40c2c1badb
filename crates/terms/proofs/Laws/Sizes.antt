-- Laws of the sizes and of the margins.
use mathlib.Core.Path.{◌≡◌, refl, ap}
use mathlib.Core.Bool.{Bool, true, false, and-false, cond, false≢true}
use mathlib.Core.List.{List, [], ◌∷◌}
use Prim.Native.Nat.{ℕ, zero, suc, ◌+◌, ◌-◌, ◌*◌, ◌/◌, ◌≤◌, ◌<◌}
use native.Mathlib.Nat.{div-eq_of_lt, div-le_of_le-mul, div-lt_iff_lt-mul, le_of_eq, le_of_suc-le-suc, lt-div-mul-add, mul-suc, suc-mul}
use native.Mathlib.Omega.{arith}
use lib.Dec.{eqb, leb}
use lib.ListN.{get_or}
use borrow.Author.Tests.{eqb-false, leb-true}
use Rattle.std.specs.Prelude.{Option, None, Some, is_none, not}
use Rattle.std.specs.List.{position_from}
use Rattle.terms.specs.Types.{Sizes}
use Rattle.terms.specs.Refusal.{Refuses}
use Rattle.terms.specs.Sizes.{check_sizes, divide_up, first_fault, margin_in_use, ranges_kept, refusal_in_sizes, sizes_have, sizes_in_range, within}
use Rattle.terms.proofs.Laws.Tests.{and_left, and_right}

-- a quotient that is rounded up, by less than a whole, is at most the number itself
pub add_div_le : (n x d : ℕ) → x < d → (n + x) / d ≤ n
add_div_le n x zero h = omega arith
add_div_le zero x (suc d) h = le_of_eq (div-eq_of_lt (omega arith))
add_div_le (suc n) x (suc d) h = div-le_of_le-mul (suc d) (simp (mul-suc, suc-mul) (omega arith))

-- The quotient rounded up is the least number of wholes that covers n.

pub divide_up_covers : (n d : ℕ) → zero < d → n ≤ divide_up n d * d
divide_up_covers n d h = omega (arith, lt-div-mul-add {a = n + (d - 1)} h)

pub divide_up_least : (n d m : ℕ) → zero < d → n ≤ m * d → divide_up n d ≤ m
divide_up_least n d m h covers = le_of_suc-le-suc ((div-lt_iff_lt-mul {x = n + (d - 1)} {y = suc m} h).1 (rw suc-mul (omega arith)))

-- ── Sizes in range ──────────────────────────────────────────────────────────────────────────────────────────────────────────

-- What the table of sizes allows.
pub record SizeBounds (s : Sizes) : Type 0 where
  pub slots_some : 0 < s.slots
  pub slots_least : 2 ≤ s.slots
  pub slots_most : s.slots ≤ 256
  pub buffer_least : 1 ≤ s.buffer
  pub buffer_most : s.buffer ≤ 64
  pub spacing_most : s.spacing ≤ 63
  pub margin_most : s.margin ≤ 64
  pub thieves_least : 1 ≤ s.thieves
  pub thieves_most : s.thieves ≤ 8
  pub start_most : s.start ≤ 2147483647

-- where no fault is found, every test passed
pub kept_at : (place : ℕ) (l : List Bool) (i : ℕ) → is_none (first_fault place l) ≡ true → get_or l i true ≡ true
kept_at place [] i h = refl
kept_at place (true ∷ l) zero h = refl
kept_at place (true ∷ l) (suc i) h = kept_at (place + 1) l i h
kept_at place (false ∷ l) i h = absurd (false≢true h)

-- which is the first test that answers false
pub position_is_first_fault : (place : ℕ) (l : List Bool) → position_from not place l ≡ first_fault place l
position_is_first_fault place [] = refl
position_is_first_fault place (true ∷ l) = position_is_first_fault (place + 1) l
position_is_first_fault place (false ∷ l) = refl

-- where one is, that test failed
found_none : {at : ℕ} → None ≡ Some at → ⊥
found_none e = let clash : ◌≡◌ {A = ℕ} 0 1 = cc in omega arith

pub fault_told : (place at : ℕ) (l : List Bool) → first_fault place l ≡ Some at → (i : ℕ) × ((place + i ≡ at) × (get_or l i true ≡ false))
fault_told place at [] e = absurd (found_none e)
fault_told place at (true ∷ l) e = let found = fault_told (place + 1) at l e in (suc found.0, (omega (arith, found.1.0), found.1.1))
fault_told place at (false ∷ l) e = let same : place ≡ at = cc in (zero, (omega arith, refl))

-- the check of the sizes refuses by a fault that they have
pub sizes_refused : (s : Sizes) → Refuses (sizes_have s) (refusal_in_sizes (check_sizes s))
sizes_refused s = go (check_sizes s) refl
  where
    go : (c : Option ℕ) → check_sizes s ≡ c → Refuses (sizes_have s) (refusal_in_sizes c)
    go None found = λ number place. rw (kept_at 0 (ranges_kept s) place (ap is_none found), and-false)
    go (Some at) found =
        let told = fault_told 0 at (ranges_kept s) found in
        let same : at ≡ told.0 = omega (arith, told.1.0) in
        rw (same, told.1.1)

-- a number within a range is neither below the least nor above the greatest
pub within_bounds : (least greatest n : ℕ) → within least greatest n ≡ true → (least ≤ n) × (n ≤ greatest)
within_bounds least greatest n h = (leb-true least n (and_left (leb least n) (leb n greatest) h), leb-true n greatest (and_right (leb least n) (leb n greatest) h))

pub sizes_bounds : (s : Sizes) → sizes_in_range s ≡ true → SizeBounds s
sizes_bounds s h =
    let slots = within_bounds 2 256 s.slots (kept_at 0 (ranges_kept s) 0 h) in
    let buffer = within_bounds 1 64 s.buffer (kept_at 0 (ranges_kept s) 1 h) in
    let thieves = within_bounds 1 8 s.thieves (kept_at 0 (ranges_kept s) 4 h) in
    record {
      slots_some = omega arith;
      slots_least = slots.0;
      slots_most = slots.1;
      buffer_least = buffer.0;
      buffer_most = buffer.1;
      spacing_most = (within_bounds 0 63 s.spacing (kept_at 0 (ranges_kept s) 2 h)).1;
      margin_most = (within_bounds 0 64 s.margin (kept_at 0 (ranges_kept s) 3 h)).1;
      thieves_least = thieves.0;
      thieves_most = thieves.1;
      start_most = (within_bounds 0 2147483647 s.start (kept_at 0 (ranges_kept s) 5 h)).1;
    }

-- a margin in use is never 0
pub margin_in_use_some : (s : Sizes) → 1 ≤ s.buffer → 1 ≤ margin_in_use s
margin_in_use_some s some = go (eqb s.margin 0) refl
  where
    go : (t : Bool) → eqb s.margin 0 ≡ t → 1 ≤ cond t s.buffer s.margin
    go true e = some
    go false e = let none : s.margin ≡ 0 → ⊥ = eqb-false s.margin 0 e in omega arith
