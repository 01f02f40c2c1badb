-- How far memory lags behind the worker, on any machine of which each entry hands on the number of the machine that it returns.
use mathlib.Core.Path.{◌≡◌, refl, ◌∙◌}
use mathlib.Core.Bool.{Bool, true, false}
use mathlib.Core.List.{List, [], ◌∷◌}
use Prim.Native.Nat.{ℕ, zero, suc, ◌≤◌, ◌<◌}
use native.Mathlib.Nat.{le_of_suc-le-suc, not-suc-le-zero}
use native.Mathlib.Omega.{arith}
use lib.Dec.{ltb}
use lib.ListN.{get_or-eq_default, get_or, length, length-take, take}
use borrow.Author.Tests.{ltb-false, ltb-true}
use Rattle.terms.specs.Sizes.{needed_margin, sizes_in_range}
use Rattle.terms.proofs.Laws.Runs.{length_each}
use Rattle.claim.specs.Implementation.{Implementation}
use Rattle.claim.specs.Run.{hidden_of, machine_after}
use Rattle.properties.specs.Types.{Entry, Sizes}
use Rattle.properties.specs.Hidden.{HiddenIsPending, HiddenWithinNeeded}

module _ {M : Type 0} (b : Implementation M Entry) (hidden : M → ℕ) (hands_on : (m : M) (e : Entry) → b.hidden m e ≡ hidden (b.next m e)) where
  -- the number that an entry hands on is that of the machine which all entries up to it leave
  hidden_there : (m : M) (es : List Entry) (at : ℕ) → at < length es → get_or (hidden_of b m es) at 0 ≡ hidden (machine_after b m (take (suc at) es))
  hidden_there m [] at inside = absurd (not-suc-le-zero inside)
  hidden_there m (e ∷ es) zero inside = hands_on m e
  hidden_there m (e ∷ es) (suc at) inside = hidden_there (b.next m e) es at (le_of_suc-le-suc inside)

  module _ (takes_pending : M → ℕ) where
    -- the bound on what is pending after any list is one on the number
    pub within_needed : ((m : M) → hidden m ≤ takes_pending m)
        → ((s : Sizes) (es : List Entry) → sizes_in_range s ≡ true → takes_pending (machine_after b (b.fresh s) es) ≤ needed_margin s.buffer s.spacing)
        → HiddenWithinNeeded b
    within_needed no_more bound s es ranged at = go (ltb at (length es)) refl
      where
        go : (inside : Bool) → ltb at (length es) ≡ inside → get_or (hidden_of b (b.fresh s) es) at 0 ≤ needed_margin s.buffer s.spacing
        go true p =
            let then = take (suc at) es in
            omega (arith, hidden_there (b.fresh s) es at (ltb-true at (length es) p), no_more (machine_after b (b.fresh s) then), bound s then ranged)
        go false p =
            let past = get_or-eq_default (hidden_of b (b.fresh s) es) 0 {n = at} (omega (arith, ltb-false at (length es) p, length_each b.next b.hidden (b.fresh s) es)) in
            omega (arith, past)

    -- where runs stay in range, and of a machine in range the number is what is pending, it always is
    pub is_pending : (in_range : M → Bool) → ((m : M) → in_range m ≡ true → hidden m ≡ takes_pending m)
        → ((s : Sizes) (es : List Entry) → sizes_in_range s ≡ true → length es ≤ 4096 → in_range (machine_after b (b.fresh s) es) ≡ true)
        → HiddenIsPending b takes_pending
    is_pending in_range known stays s es ranged short at inside =
        let then = take (suc at) es in
        hidden_there (b.fresh s) es at inside ∙ known (machine_after b (b.fresh s) then) (stays s then ranged (omega (arith, length-take (suc at) es)))
