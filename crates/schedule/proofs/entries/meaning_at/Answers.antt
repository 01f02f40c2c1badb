-- the two tests say whether the entry is there, and the four bytes of its operand are that number of the operand array
use Rattle.std.proofs.Common.{◌∙◌, ap, sym, get_or}
use Rattle.terms.specs.Kinds.{entry_of}
use Rattle.schedule.specs.Format.{words_in}
use Rattle.schedule.proofs.Laws.Entries.{entry_at_bytes, entry_at_no_kind, entry_at_no_operand}
use Rattle.schedule.proofs.Laws.Format.{length_words_in}
use Rattle.schedule.proofs.entries.meaning_at.Goals as goal
use Rattle.schedule.proofs.entries.meaning_at.Goals.{else-at-kinds-via-then-at-kinds+else-at-operands, else-at-kinds-via-else-at-kinds}

pub returns-then-at-operands : goal.returns-then-at-operands
returns-then-at-operands c =
    let a = c.args in
    c.entry_of.ensures
    ∙ ap (entry_of a.sizes.thieves a.at (get_or a.kinds.now a.at 0)) c.word_at.ensures
    ∙ sym (entry_at_bytes a.sizes a.kinds.now a.operands.now a.at c.if-at-kinds.true c.if-at-operands.true)

pub returns : goal.returns
returns c =
    let a = c.args in
    elim c.else-at-kinds.branch [
      | else-at-kinds-via-then-at-kinds+else-at-operands w ↦
          sym (entry_at_no_operand a.sizes a.kinds.now (words_in a.operands.now) a.at w.if-at-kinds.true (rw length_words_in w.if-at-operands.false))
      | else-at-kinds-via-else-at-kinds w ↦ sym (entry_at_no_kind a.sizes a.kinds.now (words_in a.operands.now) a.at w.if-at-kinds.false)
    ]
