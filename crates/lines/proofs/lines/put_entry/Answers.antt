-- each call puts one number more, right behind those before it
use Rattle.std.proofs.Common.{◌≤◌, length, arith}
use Rattle.lines.specs.Text.{decimal}
use Rattle.lines.proofs.Laws.Text.{appends_as, appends_more, three_words}
use Rattle.lines.proofs.lines.put_entry.Goals as goal

pub returns : goal.returns
returns c =
    let a = c.args in
    let inside : a.text.now.length ≤ length a.text.now.bytes = omega arith in
    let two = appends_more c.put_number.ensures c.put_number-2.ensures inside in
    appends_as (three_words (decimal a.entry) (decimal a.outcome) (decimal a.value)) (appends_more two c.put_number-3.ensures inside)
