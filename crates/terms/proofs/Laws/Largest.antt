-- The largest of some numbers: that it is, and what one number more makes of it.
use mathlib.Core.Path.{◌≡◌, refl, ap, ◌∙◌}
use mathlib.Core.Bool.{Bool, true, false}
use mathlib.Core.List.{List, [], ◌∷◌, ◌++◌}
use Prim.Native.Nat.{ℕ, zero, suc, ◌≤◌, ◌<◌, max, suc-le-suc, zero-le}
use native.Mathlib.Nat.{le_antisymm, le-max_left, le-max_right, max_comm, max-eq_left, max-eq_right, max-le, not-suc-le-zero}
use native.Mathlib.Omega.{arith}
use lib.Dec.{leb}
use lib.ListN.{get_or, length}
use borrow.Author.Tests.{leb-false, leb-true}
use Rattle.terms.specs.Lists.{LargestIsLargest, largest}

-- the larger of two numbers is one of them
max_one : (R : ℕ → Type 0) (a b : ℕ) → (b ≤ a → R a) → (a ≤ b → R b) → R (max a b)
max_one R a b left right = go (leb b a) refl
  where
    go : (t : Bool) → leb b a ≡ t → R (max a b)
    go true p = let below = leb-true b a p in rw (max-eq_left below) (left below)
    go false p = let below : a ≤ b = omega (arith, leb-false b a p) in rw (max-eq_right below) (right below)

-- one number more, behind the others
pub largest_more : (l : List ℕ) (x : ℕ) → largest (l ++ (x ∷ [])) ≡ max (largest l) x
largest_more [] x = max_comm x 0
largest_more (y ∷ l) x =
    let whole = largest_more l x in
    ap (max y) whole
    ∙ le_antisymm
    (max-le (omega (arith, le-max_left y (largest l), le-max_left (max y (largest l)) x)) (max-le (omega (arith, le-max_right y (largest l), le-max_left (max y (largest l)) x)) (le-max_right (max y (largest l)) x)))
    (max-le (max-le (le-max_left y (max (largest l) x)) (omega (arith, le-max_left (largest l) x, le-max_right y (max (largest l) x)))) (omega (arith, le-max_right (largest l) x, le-max_right y (max (largest l) x))))

-- where no number is above a bound, the largest is not
pub largest_within : (l : List ℕ) (most : ℕ) → ((i : ℕ) → get_or l i 0 ≤ most) → largest l ≤ most
largest_within [] most each = zero-le
largest_within (x ∷ l) most each = max-le (each 0) (largest_within l most (λ i. each (suc i)))

pub largest_is_largest : LargestIsLargest
largest_is_largest [] = record { not_above = λ i. zero-le; there = λ some. absurd (not-suc-le-zero some) }
largest_is_largest (x ∷ l) =
    let rest = largest_is_largest l in
    record {
      not_above = above rest.not_above;
      there = max_one (λ n. 0 < n → (i : ℕ) × ((i < length (x ∷ l)) × (get_or (x ∷ l) i 0 ≡ n))) x (largest l)
          (λ below some. (0, (omega arith, refl)))
          (λ below some. let found = rest.there some in (suc found.0, (suc-le-suc found.1.0, found.1.1)));
    }
  where
    above : ((i : ℕ) → get_or l i 0 ≤ largest l) → (i : ℕ) → get_or (x ∷ l) i 0 ≤ max x (largest l)
    above rest zero = le-max_left x (largest l)
    above rest (suc i) = omega (arith, rest i, le-max_right x (largest l))
