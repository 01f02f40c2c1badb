-- the three parts are put one behind the other, and the lines of the trace are those of its outcomes
use Rattle.std.proofs.Common.{◌++◌, ◌∙◌, ◌≤◌, length, ap, arith}
use Rattle.std.proofs.Math.ListN.{replicate}
use Rattle.schedule.specs.Format.{words_in}
use Rattle.schedule.specs.Run.{outcomes_from_on}
use Rattle.schedule.proofs.Laws.Bytes.{each_below}
use Rattle.schedule.proofs.Laws.Run.{longest_put}
use Rattle.schedule.proofs.Queues.{length-outcomes_from, parts_values_fit}
use Rattle.lines.specs.FromTrace.{lines_from_trace}
use Rattle.lines.specs.Lines.{last_line_on, sizes_line}
use Rattle.lines.proofs.Laws.Lines.{trace_lines}
use Rattle.lines.proofs.Laws.Text.{appends_as, appends_more, appends_within}
use Rattle.lines.proofs.lines.put_run.Goals as goal

pub returns : goal.returns
returns c =
    let a = c.args in
    let n = length a.kinds.now in
    let ran = c.obey_entries_on-summary in
    let os = outcomes_from_on a.queue a.sizes a.kinds.now (words_in a.operands.now) in
    let bytes = each_below 256 a.operands.now (λ i. omega (arith, c.type_inv.operands i)) in
    let as_many = length-outcomes_from a.queue a.sizes a.kinds.now (words_in a.operands.now) in
    let trace = ran.ensures.trace_after ∙ longest_put os (omega (arith, as_many, c.requires.1)) in
    let lines = ap (lines_from_trace n) trace ∙ trace_lines os (replicate 20484 0) n as_many (parts_values_fit a.queue a.sizes a.kinds.now a.operands.now bytes) in
    let inside : a.text.now.length ≤ length a.text.now.bytes = omega arith in
    let all = appends_more (appends_more c.put_sizes.ensures c.put_entries.ensures inside) c.put_last.ensures inside in
    appends_within (omega arith) (appends_as (λ i. sizes_line a.sizes ++ lines i ++ last_line_on a.queue (ran.ensures.value i)) all)
