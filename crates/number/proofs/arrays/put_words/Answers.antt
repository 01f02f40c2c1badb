use Rattle.std.proofs.Common.{◌+◌, ◌*◌, ◌-◌, ◌<◌, ◌≡◌, ◌∙◌, get_or, length, refl, sym, arith, rules}
use Rattle.std.proofs.lemmas.Slice.{put_mid-paste}
use Rattle.number.specs.Number.{little_endian, word_bytes}
use Rattle.number.proofs.Laws.Words.{bytes_missing, length_word_bytes, put_there, words_more}
use Rattle.number.proofs.arrays.put_words.Goals as goal
use Rattle.number.proofs.arrays.put_words.Goals.{in_default-via-in-None-1, in_default-via-in-Some+else-end-buffer}

pub loop-i-preserved : goal.loop-i-preserved
loop-i-preserved c =
    let a = c.args in
    let more = words_more a.at a.numbers.now a.buffer.now (omega (arith, c.in-Some.ensures)) c.loop-i.i c.loop-i-test.true in
    let place = a.at + 4 * c.loop-i.i in
    let number = get_or a.numbers.now c.loop-i.i 0 in
    let bytes : c.copy_from_slice.new.self ≡ little_endian 4 number = c.copy_from_slice.ensures.after ∙ search (rules, c.to_le_bytes.ensures) in
    (more _ _ c.loop-i.invariant.0 (put_mid-paste place (place + 4 - place) c.loop-i.buffer c.copy_from_slice.new.self (little_endian 4 number) 4 bytes (omega arith) refl ∙ sym (put_there place number c.loop-i.buffer (omega (arith, c.in-Some.ensures)))), omega arith)

pub returns-in_default : goal.returns-in_default
returns-in_default c =
    let a = c.args in
    let missing : length a.buffer.now < a.at + 4 * length a.numbers.now =
    elim c.in_default.branch [ in_default-via-in-None-1 w ↦ omega arith | in_default-via-in-Some+else-end-buffer w ↦ omega (arith, w.in-Some.ensures) ] in
    sym (bytes_missing a.at (word_bytes a.numbers.now) a.buffer.now (omega (arith, missing, length_word_bytes a.numbers.now)))
