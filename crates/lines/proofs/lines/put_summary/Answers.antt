-- the totals, and one word more
use Rattle.std.proofs.Common.{[], ◌∷◌, ◌++◌, ◌∙◌, ◌≤◌, length, drop, arith, append_assoc}
use Rattle.lines.specs.Text.{ascii, decimal, joined}
use Rattle.lines.specs.Lines.{totals_words}
use Rattle.lines.proofs.Laws.Text.{appends_as, appends_more, joined_more}
use Rattle.lines.proofs.lines.put_summary.Goals as goal

pub returns : goal.returns
returns c =
    let a = c.args in
    let t = a.summary.tally in
    let totals = joined (ascii " ") (totals_words t) in
    let hidden = decimal a.summary.hidden in
    let inside : a.text.now.length ≤ length a.text.now.bytes = omega arith in
    let words = append_assoc totals (ascii "hidden ") (hidden ++ ascii "\n") ∙ joined_more (ascii "given") (drop 1 (totals_words t)) (ascii "hidden") (hidden ∷ []) in
    appends_as words (appends_more (appends_more c.put_totals.ensures c.put_bytes.ensures inside) c.put_number.ensures inside)
