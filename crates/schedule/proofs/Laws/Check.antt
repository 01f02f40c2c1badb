-- Laws of checks: of several in their order, of one at each number below a bound, and of the seven sizes.
use mathlib.Core.Path.{◌≡◌, refl, ap, sym, ◌∙◌}
use mathlib.Core.Bool.{Bool, true, false, cond}
use mathlib.Core.List.{List, [], ◌∷◌, ◌++◌, map, map-append}
use Prim.Native.Nat.{ℕ, zero, suc, ◌+◌, ◌≤◌, ◌<◌, suc-le-suc}
use native.Mathlib.Nat.{add-zero, le_dest, le_of_suc-le-suc, not-suc-le-zero, zero-add, zero-lt-suc}
use native.Mathlib.Numerals.{add-one}
use native.Mathlib.Omega.{arith}
use lib.Dec.{leb}
use lib.ListN.{get_or, length, length-map}
use borrow.Author.Tests.{leb-true}
use Rattle.std.proofs.Common.{Result, Ok, Err, Option, Some, None, is_none}
use Rattle.terms.specs.Sizes.{check_sizes, first_fault, ranges_kept, sizes_in_range, within}
use Rattle.terms.proofs.Laws.Sizes.{fault_told, kept_at}
use Rattle.terms.proofs.Laws.Tests.{and_right, cond_map}
use Rattle.terms.specs.Lists.{range_from, range}
use Rattle.terms.proofs.Laws.Sums.{length_range, range_suc}
use Rattle.schedule.specs.Types.{Refusal, Size, Sizes}
use Rattle.schedule.specs.Check.{check_ranges, fail_if, first, size_refusal, sizes_kept}

-- ── Checks in their order ───────────────────────────────────────────────────────────────────────────────────────────────────

-- what a check by one test says of the test
pub fail_if_passed : (fault : Bool) (q : Refusal) → fail_if fault q ≡ Ok tt → fault ≡ false
fail_if_passed true q e = cc
fail_if_passed false q e = refl

pub fail_if_failed : (fault : Bool) (q : Refusal) {r : Refusal} → fail_if fault q ≡ Err r → (fault ≡ true) × (r ≡ q)
fail_if_failed true q e = (refl, cc)
fail_if_failed false q e = cc

-- where none failed, each passed; and the refusal that is given, one of them failed with, and those before it passed

pub first_passed : (l : List (Result Unit Refusal)) → first l ≡ Ok tt → (i : ℕ) → get_or l i (Ok tt) ≡ Ok tt
first_passed [] e i = refl
first_passed (Ok _ ∷ l) e zero = refl
first_passed (Ok _ ∷ l) e (suc i) = first_passed l e i
first_passed (Err r ∷ l) e i = cc

pub first_failed : (l : List (Result Unit Refusal)) (r : Refusal) → first l ≡ Err r
    → (i : ℕ) × ((i < length l) × ((get_or l i (Ok tt) ≡ Err r) × ((j : ℕ) → j < i → get_or l j (Ok tt) ≡ Ok tt)))
first_failed [] r e = cc
first_failed (Ok _ ∷ l) r e = let found = first_failed l r e in (suc found.0, (suc-le-suc found.1.0, (found.1.1.0, before found.0 found.1.1.1)))
  where
    before : (i : ℕ) → ((j : ℕ) → j < i → get_or l j (Ok tt) ≡ Ok tt) → (j : ℕ) → j < suc i → get_or (Ok tt ∷ l) j (Ok tt) ≡ Ok tt
    before i each zero h = refl
    before i each (suc j) h = each j (le_of_suc-le-suc h)
first_failed (Err q ∷ l) r e = (zero, (zero-lt-suc (length l), (e, λ j h. absurd (not-suc-le-zero h))))

-- checks behind others count where these passed
pub first_append : (s t : List (Result Unit Refusal)) → first s ≡ Ok tt → first (s ++ t) ≡ first t
first_append [] t e = refl
first_append (Ok _ ∷ s) t e = first_append s t e
first_append (Err r ∷ s) t e = cc

pub first_append_failed : (s t : List (Result Unit Refusal)) (r : Refusal) → first s ≡ Err r → first (s ++ t) ≡ Err r
first_append_failed [] t r e = cc
first_append_failed (Ok _ ∷ s) t r e = first_append_failed s t r e
first_append_failed (Err q ∷ s) t r e = e

-- one check decides by itself
pub first_one : (c : Result Unit Refusal) → first (c ∷ []) ≡ c
first_one (Ok _) = refl
first_one (Err r) = refl

-- ── A check at each number below a bound ────────────────────────────────────────────────────────────────────────────────────

-- m + j numbers from k up: m of them, then j
range_from_add : (k m j : ℕ) → range_from k (m + j) ≡ range_from k m ++ range_from (k + m) j
range_from_add k zero j = rw (zero-add, add-zero)
range_from_add k (suc m) j =
    let more : suc m + j ≡ suc (m + j) = omega arith in
    let from : suc k + m ≡ k + suc m = omega arith in
    rw more (ap (λ l. k ∷ l) (range_from_add (suc k) m j ∙ ap (λ n. range_from (suc k) m ++ range_from n j) from))

-- what a function makes of the number at a place
pub get_d_map-range_from : {A : Type 0} (f : ℕ → A) (d : A) (k n i : ℕ) → i < n → get_or (map f (range_from k n)) i d ≡ f (k + i)
get_d_map-range_from f d k zero i h = absurd (not-suc-le-zero h)
get_d_map-range_from f d k (suc n) zero h = rw add-zero
get_d_map-range_from f d k (suc n) (suc i) h = get_d_map-range_from f d (suc k) n i (le_of_suc-le-suc h) ∙ ap f (omega arith)

module _ (f : ℕ → Result Unit Refusal) where
  at_range : (n i : ℕ) → i < n → get_or (map f (range n)) i (Ok tt) ≡ f i
  at_range n i h = get_d_map-range_from f (Ok tt) 0 n i h ∙ ap f (zero-add i)

  -- there are as many checks as numbers
  length_checks : (n : ℕ) → length (map f (range n)) ≡ n
  length_checks n = length-map (range n) f ∙ length_range n

  -- where none failed, each passed; and the refusal that is given, one of them failed with, and those before it passed

  pub range_passed : (n : ℕ) → first (map f (range n)) ≡ Ok tt → (i : ℕ) → i < n → f i ≡ Ok tt
  range_passed n e i h = sym (at_range n i h) ∙ first_passed (map f (range n)) e i

  pub range_failed : (n : ℕ) (r : Refusal) → first (map f (range n)) ≡ Err r → (i : ℕ) × ((i < n) × ((f i ≡ Err r) × ((j : ℕ) → j < i → f j ≡ Ok tt)))
  range_failed n r e =
      let found = first_failed (map f (range n)) r e in
      let below : found.0 < n = omega (arith, length_checks n, found.1.0) in
      (found.0, (below, (sym (at_range n found.0 below) ∙ found.1.1.0, λ j h. sym (at_range n j (omega arith)) ∙ found.1.1.1 j h)))

  -- a loop's turn: where all before passed, one more decides
  pub first_more : (i : ℕ) → first (map f (range i)) ≡ Ok tt → first (map f (range (i + 1))) ≡ f i
  first_more i e =
      ap (λ l. first (map f l)) (range_suc i)
      ∙ ap first (map-append f (range i) (i ∷ []))
      ∙ first_append (map f (range i)) (f i ∷ []) e
      ∙ first_one (f i)

  -- .. so that none failed where each passed
  pub range_all : (n : ℕ) → ((i : ℕ) → i < n → f i ≡ Ok tt) → first (map f (range n)) ≡ Ok tt
  range_all zero each = refl
  range_all (suc n) each = rw add-one at (first_more n (range_all n (λ i h. each i (omega arith))) ∙ each n (omega arith))

  -- .. and if it fails, it is the first of all
  pub first_stops : (n i : ℕ) (r : Refusal) → i < n → first (map f (range i)) ≡ Ok tt → f i ≡ Err r → first (map f (range n)) ≡ Err r
  first_stops n i r h e fails =
      let rest = le_dest h in
      let front : first (map f (range (suc i))) ≡ Err r = rw add-one at (first_more i e ∙ fails) in
      ap (λ k. first (map f (range k))) (sym rest.1)
      ∙ ap (λ l. first (map f l)) (range_from_add 0 (suc i) rest.0)
      ∙ ap first (map-append f (range (suc i)) (range_from (0 + suc i) rest.0))
      ∙ first_append_failed (map f (range (suc i))) (map f (range_from (0 + suc i) rest.0)) r front

-- ── Sizes ───────────────────────────────────────────────────────────────────────────────────────────────────────────────────

-- tests behind others count where these passed, and do not where one of these failed
fault_append : (place : ℕ) (l m : List Bool) → first_fault place l ≡ None → first_fault place (l ++ m) ≡ first_fault (place + length l) m
fault_append place [] m e = rw add-zero
fault_append place (true ∷ l) m e =
    let further : place + 1 + length l ≡ place + suc (length l) = omega arith in
    fault_append (place + 1) l m e ∙ ap (λ n. first_fault n m) further
fault_append place (false ∷ l) m e = cc

fault_append_found : (place at : ℕ) (l m : List Bool) → first_fault place l ≡ Some at → first_fault place (l ++ m) ≡ Some at
fault_append_found place at [] m e = cc
fault_append_found place at (true ∷ l) m e = fault_append_found (place + 1) at l m e
fault_append_found place at (false ∷ l) m e = e

-- the seven sizes, by what the check of the first six found
module _ (s : Sizes) (entries : ℕ) where
  pub ranges_found : (place : ℕ) → check_sizes s ≡ Some place → check_ranges s entries ≡ Err (Size place)
  ranges_found place e = ap size_refusal (fault_append_found 0 place (ranges_kept s) (within 0 4096 entries ∷ []) e)

  pub ranges_kept_lem : check_sizes s ≡ None → check_ranges s entries ≡ cond (within 0 4096 entries) (Ok tt) (Err (Size 6))
  ranges_kept_lem e =
      ap size_refusal (fault_append 0 (ranges_kept s) (within 0 4096 entries ∷ []) e)
      ∙ sym (cond_map size_refusal (within 0 4096 entries) refl refl)

module _ (s : Sizes) (entries : ℕ) where
  -- what the check of the seven sizes says of each

  pub ranges_passed : check_ranges s entries ≡ Ok tt → (place : ℕ) → get_or (sizes_kept s entries) place true ≡ true
  ranges_passed e = go (first_fault 0 (sizes_kept s entries)) refl e
    where
      go : (c : Option ℕ) → first_fault 0 (sizes_kept s entries) ≡ c → size_refusal c ≡ Ok tt
          → (place : ℕ) → get_or (sizes_kept s entries) place true ≡ true
      go None found passed = λ place. kept_at 0 (sizes_kept s entries) place (ap is_none found)
      go (Some at) found passed = cc

  pub ranges_failed : (r : Refusal) → check_ranges s entries ≡ Err r
      → (place : ℕ) × ((r ≡ Size place) × (get_or (sizes_kept s entries) place true ≡ false))
  ranges_failed r e = go (first_fault 0 (sizes_kept s entries)) refl e
    where
      go : (c : Option ℕ) → first_fault 0 (sizes_kept s entries) ≡ c → size_refusal c ≡ Err r
          → (place : ℕ) × ((r ≡ Size place) × (get_or (sizes_kept s entries) place true ≡ false))
      go None found failed = cc
      go (Some at) found failed =
          let told = fault_told 0 at (sizes_kept s entries) found in
          let same : at ≡ told.0 = omega (arith, told.1.0) in
          let size : r ≡ Size at = cc in
          (told.0, (size ∙ ap Size same, told.1.1))

  -- .. and so of the first six
  pub ranges_sizes : check_ranges s entries ≡ Ok tt → sizes_in_range s ≡ true
  ranges_sizes e = go (check_sizes s) refl
    where
      go : (c : Option ℕ) → check_sizes s ≡ c → is_none c ≡ true
      go None found = refl
      go (Some at) found = cc (ranges_found s entries at found)

-- .. and so of the last: there are few entries
pub few_entries : (s : Sizes) (entries : ℕ) → check_ranges s entries ≡ Ok tt → entries ≤ 4096
few_entries s entries in_range_lem = leb-true entries 4096 (and_right (leb 0 entries) (leb entries 4096) (ranges_passed s entries in_range_lem 6))
