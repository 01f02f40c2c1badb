-- Laws of numbers of four bytes: which bytes they are, what is read or put where all four are there, and several that are put one behind the other.
use mathlib.Core.Path.{◌≡◌, refl, ap, sym, ◌∙◌}
use mathlib.Core.List.{List, [], ◌∷◌, ◌++◌}
use Prim.Native.Nat.{ℕ, ◌+◌, ◌*◌, ◌≤◌, ◌<◌}
use native.Mathlib.Nat.{add-zero}
use native.Mathlib.Numerals.{add-one}
use native.Mathlib.Omega.{arith}
use lib.ListN.{length, drop, get_or, length-append, length-drop, take}
use lib.Seq.{get_or-drop, length-take-le, take-suc}
use borrow.Author.Tests.{le-leb, lt-leb}
use Rattle.terms.proofs.Laws.Tests.{by_test}
use Rattle.terms.proofs.Laws.Sums.{concat_map-append}
use Rattle.number.specs.Number.{bytes_put, little_endian, of_bytes, overwritten, word_at, word_bytes, word_put}
use Rattle.number.proofs.Laws.Number.{length-little_endian}
use Rattle.number.proofs.Laws.Overwritten.{length_overwritten, overwritten_behind}

-- the first four of a list, one by one ..
first_four : (l : List ℕ) → 4 ≤ length l → take 4 l ≡ get_or l 0 0 ∷ get_or l 1 0 ∷ get_or l 2 0 ∷ get_or l 3 0 ∷ []
first_four [] h = absurd (omega arith)
first_four (a ∷ []) h = absurd (omega arith)
first_four (a ∷ b ∷ []) h = absurd (omega arith)
first_four (a ∷ b ∷ c ∷ []) h = absurd (omega arith)
first_four (a ∷ b ∷ c ∷ d ∷ l) h = refl

-- .. and the four from a place on
pub four_from : (l : List ℕ) (at : ℕ) → at + 4 ≤ length l
    → take 4 (drop at l) ≡ get_or l at 0 ∷ get_or l (at + 1) 0 ∷ get_or l (at + 2) 0 ∷ get_or l (at + 3) 0 ∷ []
four_from l at there =
    let inside : 4 ≤ length (drop at l) = simp length-drop (omega arith) in
    first_four (drop at l) inside ∙ simp (get_or-drop, add-zero)

-- where all four bytes are there, they are the number that is read ..
pub word_there : (l : List ℕ) (at : ℕ) → at + 4 ≤ length l → word_at l at ≡ of_bytes (take 4 (drop at l))
word_there l at there = by_test _ _ (le-leb (at + 4) (length l) there)

-- .. and they are overwritten with the number that is put
pub put_there : (at n : ℕ) (l : List ℕ) → at + 4 ≤ length l → word_put at n l ≡ overwritten at (little_endian 4 n) l
put_there at n l there = by_test _ _ (le-leb (at + 4) (length l) there)

-- where one is missing, 0 is read and nothing is put
pub word_missing : (l : List ℕ) (at : ℕ) → length l < at + 4 → word_at l at ≡ 0
word_missing l at missing = by_test _ _ (lt-leb (at + 4) (length l) missing)

pub put_missing : (at n : ℕ) (l : List ℕ) → length l < at + 4 → word_put at n l ≡ l
put_missing at n l missing = by_test _ _ (lt-leb (at + 4) (length l) missing)

-- ── Several at once ─────────────────────────────────────────────────────────────────────────────────────────────────────────

-- bytes that all lie within are put, and else none is
pub bytes_there : (at : ℕ) (new l : List ℕ) → at + length new ≤ length l → bytes_put at new l ≡ overwritten at new l
bytes_there at new l there = by_test _ _ (le-leb (at + length new) (length l) there)

pub bytes_missing : (at : ℕ) (new l : List ℕ) → length l < at + length new → bytes_put at new l ≡ l
bytes_missing at new l missing = by_test _ _ (lt-leb (at + length new) (length l) missing)

-- numbers of four bytes each have four times as many bytes
pub length_word_bytes : (l : List ℕ) → length (word_bytes l) ≡ 4 * length l
length_word_bytes [] = refl
length_word_bytes (n ∷ l) = length-append (little_endian 4 n) (word_bytes l) ∙ omega (arith, length-little_endian 4 n, length_word_bytes l)

-- the bytes of two lists of numbers stand one behind the other
pub word_bytes_append : (a b : List ℕ) → word_bytes (a ++ b) ≡ word_bytes a ++ word_bytes b
word_bytes_append a b = concat_map-append (little_endian 4) a b

-- A list whose elements from a place on are overwritten with numbers, one after the other: where the next one is written right behind
-- the first i of them, the list is overwritten with one number more.
pub words_more : (at : ℕ) (numbers l : List ℕ) → at + 4 * length numbers ≤ length l → (i : ℕ) → i < length numbers → (b b' : List ℕ)
    → b ≡ overwritten at (word_bytes (take i numbers)) l
    → b' ≡ word_put (at + 4 * i) (get_or numbers i 0) b
    → b' ≡ overwritten at (word_bytes (take (i + 1) numbers)) l
words_more at numbers l inside i there b b' before next =
    let n = get_or numbers i 0 in
    let so_far = word_bytes (take i numbers) in
    let place : at + 4 * i ≡ at + length so_far = omega (arith, length_word_bytes (take i numbers), length-take-le i numbers (omega arith)) in
    let long : length b ≡ length l = ap length before ∙ length_overwritten at so_far l (omega (arith, place)) in
    next
    ∙ put_there (at + 4 * i) n b (omega (arith, long))
    ∙ ap (overwritten (at + 4 * i) (little_endian 4 n)) before
    ∙ ap (λ k. overwritten k (little_endian 4 n) (overwritten at so_far l)) place
    ∙ overwritten_behind at so_far l (little_endian 4 n) (omega arith)
    ∙ sym (simp (add-one, take-suc numbers i 0 there, word_bytes_append))
