-- the trace fits, and what stands in it are the answers
use Rattle.std.proofs.Common.{◌∙◌, ◌≤◌, length, arith}
use Rattle.machine.specs.Linearizable.{ff_the}
use Rattle.schedule.specs.Format.{words_in}
use Rattle.schedule.specs.Run.{outcomes_from}
use Rattle.schedule.proofs.FfThe.{ff_the_proved}
use Rattle.schedule.proofs.Laws.Bytes.{each_below}
use Rattle.schedule.proofs.Laws.Run.{length-outcomes_from, parts_values_fit, trace_fits_lem, trace_put_lem}
use Rattle.comparison.proofs.Laws.Runs.{run_of}
use Rattle.comparison.proofs.run.Run.new.Goals as goal

pub returns : goal.returns
returns c =
    let a = c.args in
    let os = outcomes_from a.sizes a.kinds.now (words_in a.operands.now) in
    let bytes = each_below 256 a.operands.now (λ i. omega (arith, c.type_inv.operands i)) in
    let few : length os ≤ 4096 = omega (arith, length-outcomes_from ff_the a.sizes a.kinds.now (words_in a.operands.now), c.requires) in
    run_of _ a.trace.now (parts_values_fit ff_the ff_the_proved a.sizes a.kinds.now a.operands.now bytes)
    (c.obey_entries.ensures.trace_after ∙ trace_put_lem os a.trace.now (trace_fits_lem (length os) (length a.trace.now) few (omega (arith, c.told-trace, few))))
