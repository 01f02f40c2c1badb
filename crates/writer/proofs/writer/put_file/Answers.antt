-- the three parts are written one behind the other, and together they are the file
use Rattle.std.proofs.Common.{◌∙◌, ap, length}
use Rattle.number.specs.Number.{bytes_put, word_bytes}
use Rattle.schedule.proofs.Laws.Entries.{entries_bytes}
use Rattle.writer.proofs.Laws.Writer.{file_written, passed_writable}
use Rattle.writer.proofs.writer.put_file.Goals as goal

pub returns : goal.returns
returns c =
    let a = c.args in
    let right = passed_writable a.sizes a.kinds.now a.operands.now (length a.buffer.now) c.requires in
    let bytes = entries_bytes a.sizes a.kinds.now a.operands.now right.each in
    file_written a.sizes a.kinds.now a.operands.now bytes right.parallel a.buffer.now _ _ _ right.fits (c.put_words.ensures ∙ ap (λ numbers. bytes_put 0 (word_bytes numbers) a.buffer.now) c.size_numbers.ensures) c.put_bytes.ensures c.put_words-2.ensures
