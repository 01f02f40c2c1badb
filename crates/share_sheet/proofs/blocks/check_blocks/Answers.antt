use Rattle.std.proofs.Common.{◌∙◌, length, sym, arith}
use Rattle.schedule.specs.Format.{words_in}
use Rattle.schedule.proofs.Laws.Run.{entry_there, length_entries_up_to}
use Rattle.share_sheet.specs.Filling.{entries}
use Rattle.share_sheet.proofs.Laws.Blocks.{right_all, right_more, right_none, wrong_decides}
use Rattle.share_sheet.proofs.blocks.check_blocks.Goals as goal

pub loop-at-init : goal.loop-at-init
loop-at-init c = right_none c.args.count (entries c.args.schedule.now)

pub returns-then-uses_wrongly : goal.returns-then-uses_wrongly
returns-then-uses_wrongly c =
    let a = c.args.schedule.now in
    let entry = c.entry_at-entry.ensures ∙ sym (entry_there a.sizes a.kinds.now (words_in a.operands.now) c.loop-at.at c.loop-at-test.true) in
    wrong_decides c.args.count (entries a) c.requires _ c.loop-at.at
    (omega (arith, length_entries_up_to a.sizes a.kinds.now (words_in a.operands.now) (length a.kinds.now))) c.loop-at.invariant _ entry _ c.uses_wrongly.ensures.value c.if-uses_wrongly.true

pub loop-at-preserved : goal.loop-at-preserved
loop-at-preserved c =
    let a = c.args.schedule.now in
    let entry = c.entry_at-entry.ensures ∙ sym (entry_there a.sizes a.kinds.now (words_in a.operands.now) c.loop-at.at c.loop-at-test.true) in
    right_more c.args.count (entries a) c.requires _ c.loop-at.at
    (omega (arith, length_entries_up_to a.sizes a.kinds.now (words_in a.operands.now) (length a.kinds.now))) c.loop-at.invariant _ entry _ c.uses_wrongly.ensures.value c.if-uses_wrongly.false _ c.uses_wrongly.ensures.marks_after

pub returns : goal.returns
returns c =
    let a = c.args.schedule.now in
    right_all c.args.count (entries a) _ c.loop-at.at
    (omega (arith, length_entries_up_to a.sizes a.kinds.now (words_in a.operands.now) (length a.kinds.now), c.loop-at-test.false)) c.loop-at.invariant
