-- What a run is (`specs/Run.antt`): one step after the other, over all entries of its file; and what comes of sizes and arrays that nobody has checked.
use mathlib.Core.Path.{◌≡◌, refl, ap, sym, ◌∙◌}
use mathlib.Core.Bool.{Bool, true, false, ◌&&◌}
use mathlib.Core.List.{List, [], ◌∷◌, ◌++◌, map, map-append}
use Prim.Native.Nat.{ℕ, zero, suc, ◌≤◌, max}
use native.Mathlib.Numerals.{add-one}
use native.Mathlib.Omega.{arith}
use lib.Dec.{ltb}
use lib.ListN.{get_or, length, replicate, take}
use lib.Seq.{take-length, take-suc}
use borrow.Author.Tests.{le-ltb}
use Rattle.std.proofs.Common.{Ok}
use Rattle.terms.specs.Kinds.{kind_of, operand_of}
use Rattle.terms.specs.Lists.{largest}
use Rattle.terms.specs.Tally.{counted, none_counted}
use Rattle.terms.proofs.Laws.Runs.{each_there}
use Rattle.claim.specs.Implementation.{Implementation}
use Rattle.claim.specs.Run.{hidden_of, machine_after, outcomes_of}
use Rattle.machine.specs.InRange.{in_range}
use Rattle.machine.specs.Machine.{fresh}
use Rattle.machine.proofs.Laws.Obey.{out_of_range_waits}
use Rattle.machine.specs.Linearizable.{ff_the}
use Rattle.machine.specs.Obey.{obey}
use Rattle.machine.proofs.Laws.InRange.{bounds}
use Rattle.terms.specs.Sizes.{sizes_in_range}
use Rattle.terms.specs.declared.outcome.Outcome.TheVariants.{Moved, Wait}
use Rattle.schedule.specs.Types.{Drain, Entry, Machine, Sizes, Tally, ThiefStep}
use Rattle.schedule.specs.Entries.{check_entries, entry_to_obey}
use Rattle.schedule.specs.Format.{entries_in, kinds_in, operands_in, sizes_in}
use Rattle.schedule.specs.Run.{AnyArraysObeyed, NoEntryWaits, RunBySteps, ScheduleOfFile, after_steps, entries_of, hidden_of_steps, outcomes_of_steps}
use Rattle.schedule.specs.Totals.{counted_from}
use Rattle.schedule.proofs.Laws.Entries.{entry_as_read, entry_at_both}
use Rattle.schedule.proofs.Laws.Format.{length-kinds_in, length-operands_in}
use Rattle.schedule.proofs.Laws.Proved.{Proved}
use Rattle.schedule.proofs.Laws.Reader.{accepted_readable}
use Rattle.schedule.proofs.Laws.Run.{all_allowed, entries_up_to, entries_up_to_more, entry_there, length_entries_up_to, length-outcomes_from}

-- ── One step after the other ────────────────────────────────────────────────────────────────────────────────────────────────

steps_outcomes : (m : Machine) (t : Tally) (es : List Entry) → outcomes_of_steps m t es ≡ outcomes_of ff_the m es
steps_outcomes m t [] = refl
steps_outcomes m t (e ∷ es) = ap (λ os. (obey m e).outcome ∷ os) (steps_outcomes (obey m e).machine (counted t (obey m e).outcome) es)

steps_hidden : (m : Machine) (t : Tally) (es : List Entry) → hidden_of_steps m t es ≡ hidden_of ff_the m es
steps_hidden m t [] = refl
steps_hidden m t (e ∷ es) = ap (λ ns. (obey m e).hidden ∷ ns) (steps_hidden (obey m e).machine (counted t (obey m e).outcome) es)

steps_after : (m : Machine) (t : Tally) (es : List Entry) → after_steps m t es ≡ (machine_after ff_the m es, counted_from t (outcomes_of ff_the m es))
steps_after m t [] = refl
steps_after m t (e ∷ es) = steps_after (obey m e).machine (counted t (obey m e).outcome) es

pub run_by_steps : RunBySteps
run_by_steps s es = (steps_outcomes (fresh s) none_counted es, steps_hidden (fresh s) none_counted es, steps_after (fresh s) none_counted es)

-- ── What nobody has checked ─────────────────────────────────────────────────────────────────────────────────────────────────

-- a machine in range has at most eight thieves
pub no_entry_waits : NoEntryWaits
no_entry_waits m r = out_of_range_waits m (ThiefStep 4294967295) (go (in_range m) refl)
  where
    go : (b : Bool) → in_range m ≡ b → (b && ltb 4294967295 m.sizes.thieves) ≡ false
    go true p = le-ltb 4294967295 m.sizes.thieves (omega (arith, (bounds m p).memory.sizes.thieves_most))
    go false p = refl

module _ {M : Type 0} (b : Implementation M Entry) (proved : Proved b) where
  module _ (s : Sizes) (out : sizes_in_range s ≡ false) where
    -- with sizes out of range every answer is 7 ..
    all_wait_lem : (es : List Entry) → outcomes_of b (b.fresh s) es ≡ replicate (length es) Wait
    all_wait_lem [] = refl
    all_wait_lem (e ∷ es) = (λ i. proved.out_waits s out e i ∷ outcomes_of b (proved.out_stays s out e i) es) ∙ ap (λ os. Wait ∷ os) (all_wait_lem es)

    -- .. and 0 is handed on
    none_hidden : (es : List Entry) → largest (hidden_of b (b.fresh s) es) ≡ 0
    none_hidden [] = refl
    none_hidden (e ∷ es) = (λ i. max (proved.out_hides s out e i) (largest (hidden_of b (proved.out_stays s out e i) es))) ∙ ap (max 0) (none_hidden es)

  pub any_arrays_obeyed : AnyArraysObeyed b
  any_arrays_obeyed s kinds operands =
      let es = entries_of s kinds operands in
      let count = length_entries_up_to s kinds operands (length kinds) in
      record {
        each = length-outcomes_from b s kinds operands;
        no_entry = λ at r inside refused.
            let before = machine_after b (b.fresh s) (take at es) in
            each_there b.next b.outcome (b.fresh s) es at Moved Drain (omega (arith, count))
            ∙ ap (b.outcome before) (entry_there s kinds operands at inside ∙ ap entry_to_obey refused)
            ∙ proved.no_entry before r;
        out_of_range = λ out. all_wait_lem s out es ∙ ap (λ n. replicate n Wait) count;
        nothing_hidden = λ out. none_hidden s out es;
      }

-- ── All entries of a file ───────────────────────────────────────────────────────────────────────────────────────────────────

module _ (s : Sizes) (kinds operands : List ℕ) (parallel : length kinds ≡ length operands) (passed : check_entries s kinds operands ≡ Ok tt) where
  -- the entries at the first places have the kinds and the operands that stand there
  as_read : (n : ℕ) → n ≤ length kinds
      → (map kind_of (entries_up_to s kinds operands n) ≡ take n kinds) × (map operand_of (entries_up_to s kinds operands n) ≡ take n operands)
  as_read zero inside = (refl, refl)
  as_read (suc n) inside =
      let found = all_allowed s kinds operands passed n inside in
      let before = as_read n (omega arith) in
      let more = rw add-one at (entries_up_to_more s kinds operands n ∙ ap (λ m. entries_up_to s kinds operands n ++ (entry_to_obey m ∷ [])) found.1) in
      let read = entry_as_read s.thieves n (get_or kinds n 0) (get_or operands n 0) found.0 (sym (entry_at_both s kinds operands n inside (omega arith)) ∙ found.1) in (
        ap (map kind_of) more
            ∙ map-append kind_of (entries_up_to s kinds operands n) (found.0 ∷ [])
            ∙ (λ i. before.0 i ++ (read.0 i ∷ []))
            ∙ sym (take-suc kinds n 0 inside),
        ap (map operand_of) more
            ∙ map-append operand_of (entries_up_to s kinds operands n) (found.0 ∷ [])
            ∙ (λ i. before.1 i ++ (read.1 i ∷ []))
            ∙ sym (take-suc operands n 0 (omega arith)),
      )

pub schedule_of_file : ScheduleOfFile
schedule_of_file file s n accepted =
    let read = accepted_readable file s n accepted in
    let m = entries_in file in
    let kinds = kinds_in m file in
    let operands = operands_in m file in
    let parallel : length kinds ≡ length operands = length-kinds_in m file ∙ sym (length-operands_in m file) in
    let all = as_read (sizes_in file) kinds operands parallel read.1.1.each (length kinds) (omega arith) in (
      all.0 ∙ take-length kinds ∙ ap (λ k. kinds_in k file) (sym read.1.0),
      all.1 ∙ ap (λ k. take k operands) parallel ∙ take-length operands ∙ ap (λ k. operands_in k file) (sym read.1.0),
    )
