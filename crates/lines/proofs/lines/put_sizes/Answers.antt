-- each call puts one word more
use Rattle.std.proofs.Common.{◌≡◌, [], ◌∷◌, ◌∙◌, ◌≤◌, length, arith}
use Rattle.lines.specs.Text.{decimal, line}
use Rattle.lines.specs.Lines.{margin_word, sizes_line}
use Rattle.lines.proofs.Laws.Text.{appends_as, appends_more, seven_words}
use Rattle.lines.proofs.lines.put_sizes.Goals as goal

pub returns : goal.returns
returns c =
    let s = c.args.sizes in
    let text = c.args.text.now in
    let in_use = decimal c.margin_in_use.result in
    let inside : text.length ≤ length text.bytes = omega arith in
    let two = appends_more c.put_number.ensures c.put_number-2.ensures inside in
    let three = appends_more two c.put_number-3.ensures inside in
    let four = appends_more three c.put_number-4.ensures inside in
    let five = appends_more four c.put_number-5.ensures inside in
    let six = appends_more five c.put_number-6.ensures inside in
    let words = seven_words (decimal s.slots) (decimal s.buffer) (decimal s.spacing) in_use (decimal s.thieves) (decimal s.start) (margin_word s) in
    let told_as : line (decimal s.slots ∷ decimal s.buffer ∷ decimal s.spacing ∷ in_use ∷ decimal s.thieves ∷ decimal s.start ∷ margin_word s ∷ []) ≡ sizes_line s =
    λ i. line (decimal s.slots ∷ decimal s.buffer ∷ decimal s.spacing ∷ decimal (c.margin_in_use.ensures i) ∷ decimal s.thieves ∷ decimal s.start ∷ margin_word s ∷ []) in
    appends_as (words ∙ told_as) (appends_more six c.put_margin_word.ensures inside)
