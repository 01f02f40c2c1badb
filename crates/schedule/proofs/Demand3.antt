-- Demand 3 of a trace that was written, by any queue of which it is proved: the theorem, of the file's entries, and the answers in the trace's bytes, which are those of the outcomes.
use mathlib.Core.Path.{◌≡◌, refl, ap, sym, ◌∙◌}
use mathlib.Core.Bool.{Bool, true, false, cond}
use mathlib.Core.List.{List, [], ◌∷◌, ◌++◌, map}
use Prim.Native.Nat.{ℕ, ◌≤◌}
use native.Mathlib.Omega.{arith}
use lib.Dec.{leb}
use lib.ListN.{length}
use borrow.Author.Tests.{leb-true}
use Rattle.terms.specs.Outcome.{is_answer}
use Rattle.terms.proofs.Laws.Tests.{and_right}
use Rattle.claim.specs.Watch.{Event, events, watch_fresh}
use Rattle.claim.specs.Calls.{answers_to}
use Rattle.claim.specs.Implementation.{Implementation}
use Rattle.claim.specs.Linearizable.{Linearizable, answering, expected}
use Rattle.claim.specs.Run.{outcomes_of}
use Rattle.terms.specs.Lists.{concat_map}
use Rattle.claim.proofs.Watched.{events_outcomes}
use Rattle.schedule.specs.Types.{Entry, Outcome, Sizes}
use Rattle.schedule.specs.Demand3.{RunLinearizesBy, answer_in, answers_in, plain_answers, untold}
use Rattle.schedule.specs.Format.{all_below, entries_in, sizes_in}
use Rattle.number.specs.Number.{overwritten}
use Rattle.schedule.specs.Run.{outcomes_in_by, run_file_by, schedule_in, trace_after_by, trace_if}
use Rattle.schedule.specs.Trace.{Line, line_of, trace_of}
use Rattle.schedule.proofs.Laws.Check.{ranges_passed, ranges_sizes}
use Rattle.schedule.proofs.Laws.Reader.{accepted_readable}
use Rattle.schedule.proofs.Laws.Trace.{answers_in_written}
use Rattle.schedule.proofs.Laws.Proved.{Proved}
use Rattle.schedule.proofs.Laws.Run.{file_values_fit, length-outcomes_of, ran_accepted, schedule_length}

-- ── Answers ─────────────────────────────────────────────────────────────────────────────────────────────────────────────────

-- the answers among the outcomes of a run are the outcomes of the events that answer
answers_of_events : (h : List Event)
    → map (λ l. l ∷ []) (concat_map (λ o. answer_in (line_of o)) (map (λ v. v.outcome) h)) ≡ map (λ v. line_of v.outcome ∷ []) (answering h)
answers_of_events [] = refl
answers_of_events (v ∷ h) =
    go (is_answer v.outcome) (concat_map (λ o. answer_in (line_of o)) (map (λ v. v.outcome) h)) (answering h) (answers_of_events h)
  where
    go : (answers : Bool) (ls : List Line) (vs : List Event) → map (λ l. l ∷ []) ls ≡ map (λ v. line_of v.outcome ∷ []) vs
        → map (λ l. l ∷ []) (cond answers (line_of v.outcome ∷ []) [] ++ ls) ≡ map (λ v. line_of v.outcome ∷ []) (cond answers (v ∷ []) [] ++ vs)
    go true ls vs e = ap (λ r. (line_of v.outcome ∷ []) ∷ r) e
    go false ls vs e = e

-- the line of an answer is that of one that the plain queue is not told of, or of the one that is expected of it
one_line : (told : Bool) (o : Outcome) → line_of o ∷ [] ≡ cond told [] (line_of o ∷ []) ++ map line_of (cond told (o ∷ []) [])
one_line true o = refl
one_line false o = refl

module _ {M : Type 0} (b : Implementation M Entry) where
  -- .. so each is the plain queue's one, or one that it is not told of, where its answers are the expected ..
  answers_expected : (vs : List Event) → map (λ v. answers_to v.call) vs ≡ map (λ v. expected b v.call.begun v.outcome) vs
      → map (λ v. line_of v.outcome ∷ []) vs ≡ map (λ v. untold b v ++ map line_of (answers_to v.call)) vs
  answers_expected [] same = refl
  answers_expected (v ∷ vs) same =
      let here : expected b v.call.begun v.outcome ≡ answers_to v.call = cc in
      let line = one_line (b.is_told v.call.begun v.outcome) v.outcome ∙ ap (λ os. untold b v ++ map line_of os) here in
      λ i. line i ∷ answers_expected vs (cc) i

  -- .. as they are where demand 3 is true
  answers_plain : (s : Sizes) (es : List Entry) → Linearizable b s es
      → map (λ l. l ∷ []) (concat_map (λ o. answer_in (line_of o)) (outcomes_of b (b.fresh s) es)) ≡ plain_answers b s es
  answers_plain s es claim =
      let h = events b (watch_fresh b s) es in
      ap (λ os. map (λ l. l ∷ []) (concat_map (λ o. answer_in (line_of o)) os)) (sym (events_outcomes b (watch_fresh b s) es))
      ∙ answers_of_events h
      ∙ answers_expected (answering h) claim.answers

-- ── A file that was run ─────────────────────────────────────────────────────────────────────────────────────────────────────

pub run_linearizes : {M : Type 0} (b : Implementation M Entry) → Proved b → (file trace : List ℕ) → all_below 256 file ≡ true
    → RunLinearizesBy b file (trace_after_by b file trace) (run_file_by b file (length trace))
run_linearizes b proved file trace bytes t ran margin =
    let s = sizes_in file in
    let n = entries_in file in
    let es = schedule_in file in
    let os = outcomes_in_by b file in
    let accepted = ran_accepted b file (length trace) t ran in
    let readable = (accepted_readable file s n accepted).1.1 in
    let few : n ≤ 4096 = leb-true n 4096 (and_right (leb 0 n) (leb n 4096) (ranges_passed s n readable.ranges 6)) in
    let long : length es ≡ n = schedule_length file s n accepted in
    let as_long : length os ≡ n = length-outcomes_of b (b.fresh s) es ∙ long in
    let claim : Linearizable b s es = proved.linearizable s es (ranges_sizes s n readable.ranges) margin (omega arith) in
    record {
      answers =
          ap (λ r. map (λ l. l ∷ []) (answers_in n (trace_if (trace_of os) trace r))) ran
          ∙ ap (λ k. map (λ l. l ∷ []) (answers_in k (overwritten 0 (trace_of os) trace))) (sym as_long)
          ∙ ap (map (λ l. l ∷ [])) (answers_in_written os trace (file_values_fit b proved file bytes))
          ∙ answers_plain b s es claim;
      linearizable = claim;
      once = proved.once s es (ranges_sizes s n readable.ranges) margin (omega arith);
    }
