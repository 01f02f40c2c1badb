-- each call puts one word more
use Rattle.std.proofs.Common.{◌≡◌, [], ◌∷◌, ◌∙◌, ◌≤◌, length, arith}
use Rattle.lines.specs.Text.{ascii, decimal, line}
use Rattle.lines.specs.Lines.{refusal_line}
use Rattle.lines.proofs.Laws.Text.{appends_as, appends_more, four_words_lem}
use Rattle.lines.proofs.lines.put_refusal.Goals as goal

pub returns : goal.returns
returns c =
    let a = c.args in
    let number = decimal c.number.result in
    let place = decimal c.place.result in
    let inside : a.text.now.length ≤ length a.text.now.bytes = omega arith in
    let two = appends_more c.put_bytes.ensures c.put_number.ensures inside in
    let three = appends_more two c.put_bytes-2.ensures inside in
    let told_as : line (ascii "refused" ∷ number ∷ ascii "place" ∷ place ∷ []) ≡ refusal_line a.refusal =
    λ i. line (ascii "refused" ∷ decimal (c.number.ensures i) ∷ ascii "place" ∷ decimal (c.place.ensures i) ∷ []) in
    appends_as (four_words_lem (ascii "refused") number (ascii "place") place ∙ told_as) (appends_more three c.put_number-2.ensures inside)
