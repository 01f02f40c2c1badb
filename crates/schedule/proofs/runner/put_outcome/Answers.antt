-- a store keeps the length, and is one place overwritten
use Rattle.std.proofs.Common.{◌∙◌, ◌+◌, ◌*◌, ◌≤◌, [], ◌∷◌, length, set, ap, sym, arith, length-set}
use Rattle.number.specs.Number.{little_endian, overwritten}
use Rattle.number.proofs.Laws.Overwritten.{overwritten_one}
use Rattle.number.proofs.Laws.Words.{put_there}
use Rattle.terms.proofs.Laws.Tests.{by_test, known}
use Rattle.schedule.proofs.Laws.Run.{fits_room}
use Rattle.schedule.proofs.runner.put_outcome.Goals as goal

pub returns-then-trace_fits : goal.returns-then-trace_fits
returns-then-trace_fits c =
    let a = c.args in
    let number = c.number-number in
    let value = c.value-value in
    let fits = known c.trace_fits.ensures c.if-trace_fits.true in
    let room : 4 + 5 * a.entries ≤ length a.trace.now = fits_room a.entries (length a.trace.now) fits in
    let below = c.requires in
    let stored = set a.trace.now (4 + a.at) number.result in
    let there : 4 + a.entries + 4 * a.at + 4 ≤ length stored = simp length-set (omega arith) in
    c.put_word.ensures
    ∙ put_there (4 + a.entries + 4 * a.at) value.result stored there
    ∙ ap (λ l. overwritten (4 + a.entries + 4 * a.at) (little_endian 4 value.result) l) (overwritten_one (4 + a.at) number.result a.trace.now (omega arith))
    ∙ (λ i. overwritten (4 + a.entries + 4 * a.at) (little_endian 4 (value.ensures i)) (overwritten (4 + a.at) (number.ensures i ∷ []) a.trace.now))
    ∙ sym (by_test _ _ fits)
