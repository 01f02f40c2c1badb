-- what the reading is decides, then the room; and demand 3 is a theorem about what it then writes
use Rattle.std.proofs.Common.{◌∙◌, length, ap, sym, arith, Ok}
use Rattle.terms.proofs.Laws.Tests.{known}
use Rattle.schedule.specs.Reader.{kind_part, operand_part}
use Rattle.schedule.specs.Run.{trace_put}
use Rattle.schedule.proofs.Promises.{run_promises}
use Rattle.schedule.proofs.Queues.{parts_outcomes, parts_summary, run_with_room, trace_after_run}
use Rattle.schedule.proofs.Laws.Bytes.{each_below}
use Rattle.schedule.proofs.Laws.Run.{fits_room, parts_obeyed}
use Rattle.schedule.proofs.runner.run_on.Goals as goal

pub returns : goal.returns
returns c =
    let a = c.args in
    let bytes = each_below 256 a.file.now (λ i. omega (arith, c.type_inv.file i)) in
    let told = known c.read-reading.ensures.value c.in-Ok.is in
    let fits = known c.trace_fits.ensures c.if-not-trace_fits.false in
    let parts = parts_obeyed a.file.now told (c.kind_part-kinds.ensures.result_value ∙ ap (kind_part a.file.now) c.in-Ok.is)
    (c.operand_part-operands.ensures.result_value ∙ ap (operand_part a.file.now) c.in-Ok.is) in
    let p = run_promises a.queue a.file.now a.trace.now bytes
    (ap Ok (c.obey_entries_on.ensures.value ∙ parts_summary a.queue parts) ∙ sym (run_with_room a.queue a.file.now (length a.trace.now) told (fits_room _ (length a.trace.now) fits)))
    (c.obey_entries_on.ensures.trace_after ∙ ap (λ os. trace_put os a.trace.now) (parts_outcomes a.queue parts) ∙ sym (trace_after_run a.queue a.file.now a.trace.now told fits))
    in
    record { value = p.0; trace_after = p.1.0; run_linearizes_on = p.1.1.0; refuses = p.1.1.1.0; run_within_needed = p.1.1.1.1 }
