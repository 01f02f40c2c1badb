-- A number that was put is read at its place, and nothing else has changed; and what is read and put at the end of the bytes, by computation.
use mathlib.Core.Path.{◌≡◌, refl, ap, ◌∙◌}
use mathlib.Core.List.{◌++◌, append_assoc}
use Prim.Native.Nat.{◌+◌, ◌≤◌}
use native.Mathlib.Omega.{arith}
use lib.ListN.{drop, length, length-append, take}
use lib.Seq.{drop_at, length-take-le, take_at}
use Rattle.number.specs.Number.{AtTheEnd, ReadAsPut, little_endian, of_bytes, overwritten, word_at}
use Rattle.number.proofs.Laws.Number.{length-little_endian, of_bytes_little_endian}
use Rattle.number.proofs.Laws.Overwritten.{length_overwritten}
use Rattle.number.proofs.Laws.Words.{put_there, word_there}

pub read_as_put : ReadAsPut
read_as_put at n l small there =
    let word = little_endian 4 n in
    let after = overwritten at word l in
    let front = take at l in
    let rest = drop (at + 4) l in
    let put = put_there at n l there in
    let front_ends : length front ≡ at = length-take-le at l (omega arith) in
    let word_ends : length (front ++ word) ≡ at + 4 = length-append front word ∙ omega (arith, front_ends, length-little_endian 4 n) in
    let room : at + 4 ≤ length after = omega (arith, length_overwritten at word l there) in
    let parts : after ≡ front ++ (word ++ rest) = append_assoc front word rest in
    let here : take 4 (drop at after) ≡ word =
    ap (λ k. take 4 (drop at k)) parts ∙ ap (take 4) (drop_at front (word ++ rest) at front_ends) ∙ take_at word rest 4 (length-little_endian 4 n) in (
      ap (λ k. word_at k at) put ∙ word_there after at room ∙ ap of_bytes here ∙ of_bytes_little_endian 4 n small,
      ap (take at) (put ∙ parts) ∙ take_at front (word ++ rest) at front_ends,
      ap (drop (at + 4)) put ∙ drop_at (front ++ word) rest (at + 4) word_ends,
    )

pub at_the_end_lem : AtTheEnd
at_the_end_lem = (refl, refl, refl, refl, refl, refl, refl, refl, refl, refl, refl)
