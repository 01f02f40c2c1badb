-- each call puts one word more
use Rattle.std.proofs.Common.{[], ◌∷◌, ◌≤◌, length, arith}
use Rattle.lines.specs.Text.{ascii, decimal}
use Rattle.lines.proofs.Laws.Text.{appends_as, appends_more, six_words}
use Rattle.lines.proofs.lines.put_totals.Goals as goal

pub returns : goal.returns
returns c =
    let a = c.args in
    let t = a.tally in
    let inside : a.text.now.length ≤ length a.text.now.bytes = omega arith in
    let two = appends_more c.put_bytes.ensures c.put_number.ensures inside in
    let three = appends_more two c.put_bytes-2.ensures inside in
    let four = appends_more three c.put_number-2.ensures inside in
    let five = appends_more four c.put_bytes-3.ensures inside in
    appends_as (six_words (a.behind ∷ []) (ascii "given") (decimal t.given) (ascii "aborts") (decimal t.aborts) (ascii "waits") (decimal t.waits))
    (appends_more five c.put_number-3.ensures inside)
