-- The claim, from an invariant: what holds at first and is kept by every entry, with the plain queue's answers, has every part of the claim.
use mathlib.Core.Path.{◌≡◌, refl, subst}
use mathlib.Core.Bool.{Bool, true, false, cond}
use mathlib.Core.List.{List, [], ◌∷◌, ◌++◌, map}
use Prim.Native.Nat.{ℕ, suc, ◌+◌, ◌≤◌, ◌<◌}
use native.Mathlib.Omega.{arith}
use lib.ListN.{length, length-map}
use Rattle.terms.specs.Lists.{all}
use Rattle.terms.specs.Outcome.{is_answer}
use Rattle.terms.proofs.Laws.Sums.{adds_length}
use Rattle.claim.specs.Types.{Outcome, Sizes}
use Rattle.claim.specs.PlainQueue.{within_limits}
use Rattle.claim.specs.Calls.{Party, answers_to, parties}
use Rattle.claim.specs.Implementation.{Implementation}
use Rattle.claim.specs.Watch.{Event, Watch, call_at, event_at, events, told_at, watch_after, watch_fresh, watched}
use Rattle.claim.specs.Account.{stored_in}
use Rattle.claim.specs.Linearizable.{Linearizable, answering, expected, no_call_runs}
use Rattle.claim.proofs.Lawful.{Lawful}
use Rattle.claim.proofs.Account.{account_numbers, account_once, stored_many}

module _ {M E : Type 0} (b : Implementation M E) (most : ℕ) (Inv : ℕ → Watch M → Type 0) (keeps : (n : ℕ) (w : Watch M) → n < most → Inv n w → (e : E) → Inv (n + 1) (watch_after b w e)) where
  -- the invariant at the end of a list of so many entries at most
  pub run_keeps : (n : ℕ) (w : Watch M) (es : List E) → n + length es ≤ most → Inv n w → Inv (n + length es) (watched b w es)
  run_keeps n w [] short v = subst (λ k. Inv k w) (omega arith) v
  run_keeps n w (e ∷ es) short v =
      let more : n + 1 + length es ≡ n + suc (length es) = omega arith in
      subst (λ k. Inv k (watched b w (e ∷ es))) more (run_keeps (n + 1) (watch_after b w e) es (omega arith) (keeps n w (omega arith) v e))

-- one event more, which has the plain queue's answer if it answers
answering_more :
    (expects : Event → List Outcome) (v : Event) (h : List Event) → (is_answer v.outcome ≡ true → answers_to v.call ≡ expects v)
    → map (λ v. answers_to v.call) (answering h) ≡ map expects (answering h)
    → map (λ v. answers_to v.call) (answering (v ∷ h)) ≡ map expects (answering (v ∷ h))
answering_more expects v h answers rest = go (is_answer v.outcome) refl
  where
    go : (t : Bool) → is_answer v.outcome ≡ t → map (λ v. answers_to v.call) (cond t (v ∷ []) [] ++ answering h) ≡ map expects (cond t (v ∷ []) [] ++ answering h)
    go true answer = λ j. answers answer j ∷ rest j
    go false silent = rest

-- What an invariant shows of sizes s, in runs of so many entries at most: at each entry, and at each moment.
pub record Shows {M E : Type 0} (b : Implementation M E) (s : Sizes) (most : ℕ) (Inv : ℕ → Watch M → Type 0) : Type 0 where
  -- it is kept
  pub keeps : (n : ℕ) (w : Watch M) → n < most → Inv n w → (e : E) → Inv (n + 1) (watch_after b w e)
  -- what the plain queue is told at an entry keeps the limits, and an answer is the plain queue's
  pub limits : (n : ℕ) (w : Watch M) → Inv n w → (e : E) → all (within_limits (b.limits s) w.queue) (told_at b w e) ≡ true
  pub answers :
      (n : ℕ) (w : Watch M) → Inv n w → (e : E) → is_answer (b.outcome w.machine e) ≡ true
      → answers_to (call_at b w e) ≡ expected b (call_at b w e).begun (b.outcome w.machine e)
  -- every party owes what the plain queue has answered to it
  pub owed : (n : ℕ) (w : Watch M) → Inv n w → (p : Party) → answers_to (w.calls p) ≡ b.owes w.machine p
  -- and where no call runs, the tasks stand in the slots
  pub standing : (n : ℕ) (w : Watch M) → Inv n w → no_call_runs s w ≡ true → map (λ t. t.number) w.queue.tasks ≡ b.standing w.machine

module _ {M E : Type 0} {b : Implementation M E} (lawful : Lawful b) {s : Sizes} {most : ℕ} {Inv : ℕ → Watch M → Type 0} (shows : Shows b s most Inv) where
  run_answers : (n : ℕ) (w : Watch M) (es : List E) → n + length es ≤ most → Inv n w
      → map (λ v. answers_to v.call) (answering (events b w es)) ≡ map (λ v. expected b v.call.begun v.outcome) (answering (events b w es))
  run_answers n w [] short v = refl
  run_answers n w (e ∷ es) short v =
      answering_more (λ v. expected b v.call.begun v.outcome) (event_at b w e) (events b (watch_after b w e) es)
      (λ answer. at_step answer)
      (run_answers (n + 1) (watch_after b w e) es (omega arith) (shows.keeps n w (omega arith) v e))
    where
      at_step : is_answer (b.outcome w.machine e) ≡ true → answers_to (event_at b w e).call ≡ expected b (event_at b w e).call.begun (b.outcome w.machine e)
      at_step answer = rw (lawful.answers_at_steps w.machine e answer) (shows.answers n w v e answer)

  -- whatever the plain queue is told, it is told within its limits
  run_limits : (n : ℕ) (w : Watch M) (es : List E) → n + length es ≤ most → Inv n w → all (λ v. all (within_limits (b.limits s) v.queue) v.told) (events b w es) ≡ true
  run_limits n w [] short v = refl
  run_limits n w (e ∷ es) short v = rw (shows.limits n w v e) (run_limits (n + 1) (watch_after b w e) es (omega arith) (shows.keeps n w (omega arith) v e))

  pub linearizes : (es : List E) → length es ≤ most → Inv 0 (watch_fresh b s) → Linearizable b s es
  linearizes es short at_first =
      let few : 0 + length es ≤ most = omega arith in
      let w = watched b (watch_fresh b s) es in
      let v = run_keeps b most Inv shows.keeps 0 (watch_fresh b s) es few at_first in
      let answers = run_answers 0 (watch_fresh b s) es few at_first in
      let held : map (λ p. answers_to (w.calls p)) (parties s) ≡ map (b.owes w.machine) (parties s) = λ j. map (λ p. shows.owed _ w v p j) (parties s) in
      record {
        answers = answers;
        held = held;
        limits = run_limits 0 (watch_fresh b s) es few at_first;
        once = account_once lawful s es;
        no_other =
            omega (
              arith,
              account_numbers adds_length lawful s es answers held,
              length-map w.queue.tasks (λ t. t.number),
              length-map (stored_in (events b (watch_fresh b s) es)) (λ t. t.number),
              stored_many b s es,
            );
        standing = λ quiet. shows.standing _ w v quiet;
      }
