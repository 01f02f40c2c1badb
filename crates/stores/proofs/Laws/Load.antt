-- What is loaded from the slots between two indices, by their numbers (`Index`).
use mathlib.Core.Path.{◌≡◌, ap, ◌∙◌}
use mathlib.Core.List.{map}
use Prim.Native.Nat.{ℕ, ◌+◌, ◌≤◌}
use native.Mathlib.Omega.{arith}
use lib.IntN.{pos, ◌+ℤ◌, ◌-ℤ◌}
use Rattle.terms.specs.Lists.{range}
use Rattle.stores.specs.Types.{Index}
use Rattle.stores.specs.Load.{loaded_between, steps_up}
use Rattle.stores.proofs.Laws.Index.{idx, idx_minus, idx_plus}

pub loaded_between_lem : (load : Index → ℕ) (from to : Index) (a n : ℕ) → from ≡ idx a → to ≡ idx (a + n) → 1 ≤ a
    → loaded_between load from to ≡ map (λ k. load (idx (a + k))) (range n)
loaded_between_lem load from to a n low high some = λ j. map (λ k. loads k j) (range (steps j))
  where
    steps : steps_up (to.at -ℤ from.at) ≡ n
    steps = (λ j. steps_up ((high j).at -ℤ (low j).at)) ∙ ap steps_up (idx_minus (a + n) a some (omega arith)) ∙ omega arith

    loads : (k : ℕ) → load (record { at = from.at +ℤ pos k }) ≡ load (idx (a + k))
    loads k = ap (λ i. load (record { at = i.at +ℤ pos k })) low ∙ ap load (idx_plus a k)
