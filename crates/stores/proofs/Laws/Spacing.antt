-- The spacing rule, by what it still asks for.
use mathlib.Core.Path.{◌≡◌}
use mathlib.Core.Bool.{Bool, true, false, cond}
use Prim.Native.Nat.{ℕ, ◌+◌, ◌-◌, ◌≤◌}
use native.Mathlib.Omega.{arith}
use borrow.Author.Tests.{le-ltb, ltb-false}
use Rattle.terms.proofs.Laws.Tests.{by_test, either}
use Rattle.stores.specs.Types.{Option, Maker, StoreKind, None, Some, Spacing}
use Rattle.stores.specs.Spacing.{counted_in, counted_in_or_same, counts, too_early}

pub counted_in_in_range : (p : Option (Maker × StoreKind)) (s : Spacing) → s.count ≤ 4096 → counted_in_or_same p s ≡ counted_in p s
counted_in_in_range p s most = by_test _ _ (le-ltb 4096 s.count most)

-- how many stores the spacing rule asks for before the next take
abbrev pub asked : Spacing → ℕ → ℕ
asked s spacing = cond s.begun (spacing - s.count) 0

-- after one store more one less is due, and one less is asked for where it counts
pub counted_in_asked : (p : Option (Maker × StoreKind)) (s : Spacing) (spacing owed : ℕ) → owed ≤ asked s spacing → owed - 1 ≤ asked (counted_in p s) spacing
counted_in_asked None s spacing owed h = omega arith
counted_in_asked (Some (w, k)) s spacing owed h = either (λ (t : Spacing). owed - 1 ≤ asked t spacing) (counts w) (counted_asked s.begun h) (omega arith)
  where
    counted_asked : (begun : Bool) → owed ≤ cond begun (spacing - s.count) 0 → owed - 1 ≤ cond begun (spacing - cond begun (s.count + 1) 0) 0
    counted_asked true h = omega arith
    counted_asked false h = omega arith

-- each entry counts once at most
pub counted_in_most : (p : Option (Maker × StoreKind)) (s : Spacing) (n : ℕ) → s.count ≤ n → (counted_in p s).count ≤ n + 1
counted_in_most None s n h = omega arith
counted_in_most (Some (w, k)) s n h = either (λ (t : Spacing). t.count ≤ n + 1) (counts w) (counted_most_lem s.begun) (omega arith)
  where
    counted_most_lem : (begun : Bool) → cond begun (s.count + 1) 0 ≤ n + 1
    counted_most_lem true = omega arith
    counted_most_lem false = omega arith

-- where a take is not too early, no store is asked for
pub not_early : (s : Spacing) (spacing owed : ℕ) → too_early s spacing ≡ false → owed ≤ asked s spacing → owed ≤ 0
not_early s spacing owed late h = go s.begun late h
  where
    go : (begun : Bool) → too_early (record { count = s.count; begun = begun }) spacing ≡ false → owed ≤ cond begun (spacing - s.count) 0 → owed ≤ 0
    go true late h = omega (arith, ltb-false s.count spacing late)
    go false late h = h
