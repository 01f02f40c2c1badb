-- By computation: the run of M2, whose margin is one short of the needed one, violates the claim of demand 3; and that of M3 satisfies it, as do one that ends with a
-- call past its effect and one that ends with two tasks standing.
use mathlib.Core.Path.{◌≡◌, refl, ap, sym, ◌∙◌}
use mathlib.Core.Bool.{false≢true}
use mathlib.Core.List.{List, [], ◌∷◌, ◌++◌, map}
use Prim.Native.Nat.{ℕ}
use native.Mathlib.Omega.{arith}
use Rattle.terms.specs.Lists.{occurrences, range}
use Rattle.stores.specs.Look.{memory_in_range}
use Rattle.claim.specs.Watch.{events, watch_fresh, watched}
use Rattle.claim.specs.Linearizable.{Linearizable, tasks_of}
use Rattle.machine.specs.Types.{Abort, BeginTake, Moved, Sizes, Stored, Task}
use Rattle.machine.specs.InRange.{in_range}
use Rattle.machine.specs.Linearizable.{ff_the}
use Rattle.claim.specs.Stories.{Line, does, entries_in, filled, worker_moves}
use Rattle.machine.specs.Rehearsals.{m2, m2_sizes, m3, m3_sizes}

-- three numbers have been handed out, 12, 11 and again 11, though two puts were STORED
pub m2_violates : Linearizable ff_the m2_sizes (entries_in m2) → ⊥
unfolding in_range memory_in_range
m2_violates l =
    let e : ◌≡◌ {A = ℕ} 3 2 = l.no_other in
    omega arith

-- the puts in the plain queue's account of a story, and those that were STORED
abbrev account : Sizes → List Line → List ℕ
account s l = map (λ t. t.put) (tasks_of s (events ff_the (watch_fresh ff_the s) (entries_in l)) (watched ff_the (watch_fresh ff_the s) (entries_in l)))

abbrev counted : Sizes → List Line → List ℕ
counted s l = range (watched ff_the (watch_fresh ff_the s) (entries_in l)).queue.stored

-- ── M3: of its two puts the second was taken first ──────────────────────────────────────────────────────────────────────────

m3_account : account m3_sizes m3 ≡ 1 ∷ 0 ∷ []
unfolding in_range memory_in_range
m3_account = λ i. 1 ∷ 0 ∷ []

m3_counted : counted m3_sizes m3 ≡ 0 ∷ 1 ∷ []
unfolding in_range memory_in_range
m3_counted = λ i. 0 ∷ 1 ∷ []

-- each equation by the list or number that both of its sides compute to
pub m3_satisfies : Linearizable ff_the m3_sizes (entries_in m3)
unfolding in_range memory_in_range
m3_satisfies =
    record {
      answers = λ i. (Stored ∷ []) ∷ (Stored ∷ []) ∷ (Task 12 ∷ []) ∷ (Task 11 ∷ []) ∷ (Abort ∷ []) ∷ [];
      held = λ i. [] ∷ [] ∷ [];
      limits = refl;
      once = λ k. ap (occurrences k) m3_account ∙ omega arith ∙ ap (occurrences k) (sym m3_counted);
      no_other = λ i. 2;
      standing = λ quiet i. [];
    }

-- ── A take past its effect, which holds task 2 ──────────────────────────────────────────────────────────────────────────────

abbrev taking : List Line
taking = filled 2 ++ does BeginTake Moved ∷ worker_moves 2

taking_account : account m3_sizes taking ≡ 1 ∷ 0 ∷ []
unfolding in_range memory_in_range
taking_account = λ i. 1 ∷ 0 ∷ []

taking_counted : counted m3_sizes taking ≡ 0 ∷ 1 ∷ []
unfolding in_range memory_in_range
taking_counted = λ i. 0 ∷ 1 ∷ []

pub taking_satisfies : Linearizable ff_the m3_sizes (entries_in taking)
unfolding in_range memory_in_range
taking_satisfies =
    record {
      answers = λ i. (Stored ∷ []) ∷ (Stored ∷ []) ∷ [];
      held = λ i. (Task 2 ∷ []) ∷ [] ∷ [];
      limits = refl;
      once = λ k. ap (occurrences k) taking_account ∙ omega arith ∙ ap (occurrences k) (sym taking_counted);
      no_other = λ i. 2;
      standing = λ quiet. absurd (false≢true quiet);
    }

-- ── Two tasks that stand ────────────────────────────────────────────────────────────────────────────────────────────────────

two_stand_account : account m3_sizes (filled 2) ≡ 0 ∷ 1 ∷ []
unfolding in_range memory_in_range
two_stand_account = λ i. 0 ∷ 1 ∷ []

two_stand_counted : counted m3_sizes (filled 2) ≡ 0 ∷ 1 ∷ []
unfolding in_range memory_in_range
two_stand_counted = λ i. 0 ∷ 1 ∷ []

pub two_stand_satisfies : Linearizable ff_the m3_sizes (entries_in (filled 2))
unfolding in_range memory_in_range
two_stand_satisfies =
    record {
      answers = λ i. (Stored ∷ []) ∷ (Stored ∷ []) ∷ [];
      held = λ i. [] ∷ [] ∷ [];
      limits = refl;
      once = λ k. ap (occurrences k) (two_stand_account ∙ sym two_stand_counted);
      no_other = λ i. 2;
      standing = λ quiet i. 1 ∷ 2 ∷ [];
    }
