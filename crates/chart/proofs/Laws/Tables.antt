-- Tables whose entries keep a rule by their places: a test of the whole table, and what it says of each entry.
use mathlib.Core.Path.{◌≡◌, ap, ◌∙◌}
use mathlib.Core.Bool.{Bool, true, ◌&&◌}
use mathlib.Core.List.{List, [], ◌∷◌}
use Prim.Native.Nat.{ℕ, zero, suc, ◌+◌, ◌<◌}
use native.Mathlib.Nat.{le_of_suc-le-suc, not-suc-le-zero}
use native.Mathlib.Omega.{arith}
use lib.Dec.{eqb}
use lib.ListN.{get_or, length}
use borrow.Author.Tests.{eqb-true}
use Rattle.terms.proofs.Laws.Tests.{and_left, and_right}

module _ (rule : ℕ → ℕ) where
  -- each number of a table whose first place is k is what the rule has for its place
  abbrev pub keeps_from : ℕ → List ℕ → Bool
  keeps_from k [] = true
  keeps_from k (x ∷ l) = eqb x (rule k) && keeps_from (suc k) l

  carried_from : (k : ℕ) (l : List ℕ) (i : ℕ) → keeps_from k l ≡ true → i < length l → get_or l i 0 ≡ rule (k + i)
  carried_from k [] i kept there = absurd (not-suc-le-zero there)
  carried_from k (x ∷ l) zero kept there =
      eqb-true x (rule k) (and_left (eqb x (rule k)) (keeps_from (suc k) l) kept) ∙ ap rule (omega arith)
  carried_from k (x ∷ l) (suc i) kept there =
      carried_from (suc k) l i (and_right (eqb x (rule k)) (keeps_from (suc k) l) kept) (le_of_suc-le-suc there) ∙ ap rule (omega arith)

  -- a rule that the whole table keeps, each entry keeps
  pub carried : (l : List ℕ) (i : ℕ) → keeps_from 0 l ≡ true → i < length l → get_or l i 0 ≡ rule i
  carried l i kept there = carried_from 0 l i kept there ∙ ap rule (omega arith)
