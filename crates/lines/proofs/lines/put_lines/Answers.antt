-- the parts of a file that was read are run
use Rattle.std.proofs.Common.{◌∙◌, ap, sym}
use Rattle.terms.proofs.Laws.Tests.{known}
use Rattle.schedule.specs.Reader.{kind_part, operand_part}
use Rattle.schedule.proofs.Laws.Run.{parts_obeyed}
use Rattle.schedule.proofs.Queues.{parts_outcomes, parts_summary}
use Rattle.lines.specs.Lines.{lines_for, run_lines}
use Rattle.lines.proofs.Laws.Text.{appends_as}
use Rattle.lines.proofs.lines.put_lines.Goals as goal

pub returns : goal.returns
returns c =
    let a = c.args in
    let file = a.file.now in
    let told = known c.read-reading.ensures.value c.in-Ok.is in
    let parts = parts_obeyed file told (c.kind_part-kinds.ensures.result_value ∙ ap (kind_part file) c.in-Ok.is) (c.operand_part-operands.ensures.result_value ∙ ap (operand_part file) c.in-Ok.is) in
    appends_as ((λ i. run_lines a.queue c.in-Ok.sizes (parts_outcomes a.queue parts i) (parts_summary a.queue parts i)) ∙ sym (ap (lines_for a.queue file) told)) c.put_run.ensures
