-- the outcome's byte decides, and then whose entry it is
use Rattle.std.proofs.Common.{◌∙◌, ap, sym}
use mathlib.Core.Bool.{◌&&◌}
use lib.Dec.{eqb}
use Rattle.terms.specs.Kinds.{party_number}
use Rattle.terms.proofs.Laws.Tests.{known}
use Rattle.schedule.specs.Entries.{entry_at, entry_to_obey}
use Rattle.schedule.specs.Format.{words_in}
use Rattle.comparison.proofs.Laws.Comparison.{answered_byte}
use Rattle.comparison.proofs.run.Run.answers.Goals as goal

pub returns-then-is_answer : goal.returns-then-is_answer
returns-then-is_answer c =
    let a = c.args in
    let r = a.self.now in
    ap (λ n. eqb n a.party) (c.party.ensures ∙ ap party_number c.entry_at.ensures)
    ∙ ap (λ b. b && eqb (party_number (entry_to_obey (entry_at r.sizes r.kinds.now (words_in r.operands.now) a.at))) a.party) (sym (known c.is_answer.ensures c.if-is_answer.true))
    ∙ sym (answered_byte r a.at c.requires a.party)

pub returns-else-is_answer : goal.returns-else-is_answer
returns-else-is_answer c =
    let a = c.args in
    let r = a.self.now in
    c.if-is_answer.false
    ∙ ap (λ b. b && eqb (party_number (entry_to_obey (entry_at r.sizes r.kinds.now (words_in r.operands.now) a.at))) a.party) (sym (known c.is_answer.ensures c.if-is_answer.false))
    ∙ sym (answered_byte r a.at c.requires a.party)
