-- Laws of layouts: encoding and decoding part by part, there and back again over any layout; and the parts of a schedule file.
use mathlib.Core.Path.{◌≡◌, refl, ap, sym, ◌∙◌}
use mathlib.Core.Bool.{Bool, true, false, ◌&&◌, false≢true}
use mathlib.Core.List.{List, [], ◌∷◌, ◌++◌, append_assoc}
use Prim.Native.Nat.{ℕ, zero, suc, ◌+◌, ◌*◌, ◌/◌, ◌^◌, ◌≤◌, ◌<◌}
use native.Mathlib.Nat.{add-zero, le_of_suc-le-suc, mod-eq_of_lt, not-suc-le-zero, suc_inj, suc-ne-zero, suc-mul}
use native.Mathlib.Omega.{arith}
use lib.Dec.{ltb}
use lib.ListN.{length, drop, get_or, replicate, take, length-append, length-drop, length-replicate, take-append-drop}
use lib.Seq.{drop_at, drop-drop, length-take-le, take_at}
use borrow.Author.Tests.{lt-ltb, ltb-true}
use Rattle.terms.proofs.Laws.Tests.{and_left, and_right}
use Rattle.terms.proofs.Laws.Sums.{sum_of, sum_of_append}
use Rattle.schedule.specs.Types.{Sizes}
use Rattle.number.specs.Number.{little_endian, of_bytes, word_bytes}
use Rattle.schedule.specs.Format.{FileLength, all_below, arrays, decode, encode, file_of, kinds_in, layout, operands_in, size_bytes, size_numbers, words_in}
use Rattle.number.proofs.Laws.Number.{length-little_endian, of_bytes_little_endian}
use Rattle.schedule.proofs.Laws.Bytes.{all_below_drop, all_below_take, little_endian_of_bytes, of_bytes_below}

-- ── Any layout ──────────────────────────────────────────────────────────────────────────────────────────────────────────────

-- how many bytes a layout has
abbrev pub total : List ℕ → ℕ
total l = sum_of (λ n. n) l

-- so many numbers of one width
pub total_replicate : (n w : ℕ) → total (replicate n w) ≡ n * w
total_replicate zero w = omega arith
total_replicate (suc n) w = rw suc-mul (omega (arith, total_replicate n w))

-- a layout gives as many numbers as it has widths, and as many bytes as these are together
pub length_decode : (ws bs : List ℕ) → length (decode ws bs) ≡ length ws
length_decode [] bs = refl
length_decode (w ∷ ws) bs = ap suc (length_decode ws (drop w bs))

pub length_encode : (ws ns : List ℕ) → length ws ≡ length ns → length (encode ws ns) ≡ total ws
length_encode [] ns e = refl
length_encode (w ∷ ws) [] e = absurd (suc-ne-zero (length ws) e)
length_encode (w ∷ ws) (n ∷ ns) e =
    length-append (little_endian w n) (encode ws ns) ∙ rw (length-little_endian w n, length_encode ws ns (suc_inj e))

-- a layout in two parts: the numbers and the bytes of the one, then those of the other
pub decode_append : (ws vs bs : List ℕ) → decode (ws ++ vs) bs ≡ decode ws bs ++ decode vs (drop (total ws) bs)
decode_append [] vs bs = refl
decode_append (w ∷ ws) vs bs = ap (λ l. of_bytes (take w bs) ∷ l) (decode_append ws vs (drop w bs) ∙ rw drop-drop)

pub encode_append : (ws vs ns ms : List ℕ) → length ws ≡ length ns → encode (ws ++ vs) (ns ++ ms) ≡ encode ws ns ++ encode vs ms
encode_append [] vs [] ms e = refl
encode_append [] vs (n ∷ ns) ms e = absurd (suc-ne-zero (length ns) (sym e))
encode_append (w ∷ ws) vs [] ms e = absurd (suc-ne-zero (length ws) e)
encode_append (w ∷ ws) vs (n ∷ ns) ms e =
    ap (λ l. little_endian w n ++ l) (encode_append ws vs ns ms (suc_inj e)) ∙ sym (append_assoc (little_endian w n) (encode ws ns) (encode vs ms))

-- there are as many numbers as widths, and each fits its width
abbrev pub fitting : List ℕ → List ℕ → Bool
fitting [] [] = true
fitting [] (n ∷ ns) = false
fitting (w ∷ ws) [] = false
fitting (w ∷ ws) (n ∷ ns) = ltb n (256 ^ w) && fitting ws ns

-- a layout in two parts: what fits the one, then what fits the other
pub fitting_append : (ws vs ns ms : List ℕ) → fitting ws ns ≡ true → fitting vs ms ≡ true → fitting (ws ++ vs) (ns ++ ms) ≡ true
fitting_append [] vs [] ms p q = q
fitting_append [] vs (n ∷ ns) ms p q = absurd (false≢true p)
fitting_append (w ∷ ws) vs [] ms p q = absurd (false≢true p)
fitting_append (w ∷ ws) vs (n ∷ ns) ms p q =
    rw (and_left (ltb n (256 ^ w)) (fitting ws ns) p) (fitting_append ws vs ns ms (and_right (ltb n (256 ^ w)) (fitting ws ns) p) q)

-- numbers of one width fit where all are below its bound
pub fitting_replicate : (w : ℕ) (l : List ℕ) → fitting (replicate (length l) w) l ≡ all_below (256 ^ w) l
fitting_replicate w [] = refl
fitting_replicate w (n ∷ l) = ap (λ b. ltb n (256 ^ w) && b) (fitting_replicate w l)

-- Decoding what was encoded gives the numbers back, whatever follows.
pub decode_encode : (ws ns rest : List ℕ) → fitting ws ns ≡ true → decode ws (encode ws ns ++ rest) ≡ ns
decode_encode [] [] rest fits = refl
decode_encode [] (n ∷ ns) rest fits = absurd (false≢true fits)
decode_encode (w ∷ ws) [] rest fits = absurd (false≢true fits)
decode_encode (w ∷ ws) (n ∷ ns) rest fits =
    let long = length-little_endian w n in
    let first = of_bytes_little_endian w n (ltb-true n (256 ^ w) (and_left (ltb n (256 ^ w)) (fitting ws ns) fits)) in
    rw (
      append_assoc (little_endian w n) (encode ws ns) rest,
      take_at (little_endian w n) (encode ws ns ++ rest) w long,
      drop_at (little_endian w n) (encode ws ns ++ rest) w long,
      first,
    )
    (ap (λ l. n ∷ l) (decode_encode ws ns rest (and_right (ltb n (256 ^ w)) (fitting ws ns) fits)))

-- Encoding what was decoded gives the bytes back.
pub encode_decode : (ws bs : List ℕ) → all_below 256 bs ≡ true → length bs ≡ total ws → encode ws (decode ws bs) ≡ bs
encode_decode [] [] below e = refl
encode_decode [] (b ∷ bs) below e = absurd (suc-ne-zero (length bs) e)
encode_decode (w ∷ ws) bs below e =
    let long : length (take w bs) ≡ w = length-take-le w bs (omega arith) in
    let front = rw long at (little_endian_of_bytes (take w bs) (all_below_take 256 w bs below)) in
    rw (encode_decode ws (drop w bs) (all_below_drop 256 w bs below) (simp length-drop (omega arith)), front) (take-append-drop w bs)

-- ── Numbers of one byte, and of four ────────────────────────────────────────────────────────────────────────────────────────

-- numbers of one byte are the bytes
pub decode_bytes : (n : ℕ) (bs : List ℕ) → n ≤ length bs → decode (replicate n 1) bs ≡ take n bs
decode_bytes zero bs h = refl
decode_bytes (suc n) [] h = absurd (not-suc-le-zero h)
decode_bytes (suc n) (b ∷ bs) h = rw add-zero (ap (λ l. b ∷ l) (decode_bytes n bs (le_of_suc-le-suc h)))

pub encode_bytes : (l : List ℕ) → all_below 256 l ≡ true → encode (replicate (length l) 1) l ≡ l
encode_bytes [] below = refl
encode_bytes (b ∷ l) below =
    rw (mod-eq_of_lt (ltb-true b 256 (and_left (ltb b 256) (all_below 256 l) below)))
    (ap (λ r. b ∷ r) (encode_bytes l (and_right (ltb b 256) (all_below 256 l) below)))

-- a number of one byte, of several, is the byte
pub get_d_bytes : (n i : ℕ) (bs : List ℕ) → i < n → get_or (decode (replicate n 1) bs) i 0 ≡ get_or bs i 0
get_d_bytes zero i bs h = absurd (not-suc-le-zero h)
get_d_bytes (suc n) zero [] h = refl
get_d_bytes (suc n) zero (b ∷ bs) h = add-zero b
get_d_bytes (suc n) (suc i) [] h = get_d_bytes n i [] (le_of_suc-le-suc h)
get_d_bytes (suc n) (suc i) (b ∷ bs) h = get_d_bytes n i bs (le_of_suc-le-suc h)

-- a number of four bytes, of several
pub get_d_words : (n i : ℕ) (bs : List ℕ) → i < n → get_or (decode (replicate n 4) bs) i 0 ≡ of_bytes (take 4 (drop (4 * i) bs))
get_d_words zero i bs h = absurd (not-suc-le-zero h)
get_d_words (suc n) zero bs h = refl
get_d_words (suc n) (suc i) bs h =
    let next : 4 + 4 * i ≡ 4 * suc i = omega arith in
    get_d_words n i (drop 4 bs) (le_of_suc-le-suc h) ∙ ap (λ l. of_bytes (take 4 l)) (drop-drop (4 * i) 4 bs ∙ ap (λ k. drop k bs) next)

-- numbers that so many bytes are fit so many bytes
pub decode_below : (n w : ℕ) (bs : List ℕ) → all_below 256 bs ≡ true → all_below (256 ^ w) (decode (replicate n w) bs) ≡ true
decode_below zero w bs below = refl
decode_below (suc n) w bs below =
    rw (lt-ltb (of_bytes (take w bs)) (256 ^ w) (of_bytes_below w bs below)) (decode_below n w (drop w bs) (all_below_drop 256 w bs below))

-- numbers of four bytes each stand one behind the other
pub encode_words : (l : List ℕ) → encode (replicate (length l) 4) l ≡ word_bytes l
encode_words [] = refl
encode_words (n ∷ l) = ap (λ r. little_endian 4 n ++ r) (encode_words l)

-- two parallel arrays, of bytes and of numbers of four bytes
pub encode_arrays : (bytes words : List ℕ) → all_below 256 bytes ≡ true → length bytes ≡ length words
    → encode (arrays (length bytes)) (bytes ++ words) ≡ bytes ++ word_bytes words
encode_arrays bytes words below parallel =
    let n = length bytes in
    encode_append (replicate n 1) (replicate n 4) bytes words (length-replicate n 1)
    ∙ rw (encode_bytes bytes below) (ap (λ k. bytes ++ encode (replicate k 4) words) parallel ∙ ap (λ l. bytes ++ l) (encode_words words))

-- ── The parts of a schedule file ────────────────────────────────────────────────────────────────────────────────────────────

-- the seven sizes have 28 bytes
pub length-size_bytes : (s : Sizes) (entries : ℕ) → length (size_bytes s entries) ≡ 28
length-size_bytes s entries = length_encode (layout 0) (size_numbers s entries) refl

-- a file has 28 bytes, and five for each entry
pub total_layout : (n : ℕ) → total (layout n) ≡ 28 + 5 * n
total_layout n =
    sum_of_append (λ w. w) (replicate 7 4) (replicate n 1 ++ replicate n 4)
    ∙ ap (λ k. 28 + k) (sum_of_append (λ w. w) (replicate n 1) (replicate n 4))
    ∙ rw (total_replicate n 1, total_replicate n 4) (omega arith)

-- what stands behind the sizes: the kinds, then the operands
decode_entries : (n : ℕ) (file : List ℕ)
    → drop 7 (decode (layout n) file) ≡ decode (replicate n 1) (drop 28 file) ++ decode (replicate n 4) (drop (28 + n) file)
decode_entries n file =
    let kinds : total (replicate n 1) ≡ n = total_replicate n 1 ∙ omega arith in
    ap (drop 7) (decode_append (replicate 7 4) (replicate n 1 ++ replicate n 4) file)
    ∙ decode_append (replicate n 1) (replicate n 4) (drop 28 file)
    ∙ rw (kinds, drop-drop)

-- there are as many kinds as are asked for
length_kinds : (n : ℕ) (bs : List ℕ) → length (decode (replicate n 1) bs) ≡ n
length_kinds n bs = length_decode (replicate n 1) bs ∙ length-replicate n 1

-- the kinds are the bytes from 28 on, and the operands the numbers of four bytes behind these

pub kinds_in_bytes : (n : ℕ) (file : List ℕ) → kinds_in n file ≡ decode (replicate n 1) (drop 28 file)
kinds_in_bytes n file =
    ap (take n) (decode_entries n file)
    ∙ take_at (decode (replicate n 1) (drop 28 file)) (decode (replicate n 4) (drop (28 + n) file)) n (length_kinds n (drop 28 file))

pub kinds_in_part : (n : ℕ) (file : List ℕ) → 28 + n ≤ length file → kinds_in n file ≡ take n (drop 28 file)
kinds_in_part n file h = kinds_in_bytes n file ∙ decode_bytes n (drop 28 file) (simp length-drop (omega arith))

pub operands_in_words : (n : ℕ) (file : List ℕ) → operands_in n file ≡ decode (replicate n 4) (drop (28 + n) file)
operands_in_words n file =
    sym (drop-drop n 7 (decode (layout n) file))
    ∙ ap (drop n) (decode_entries n file)
    ∙ drop_at (decode (replicate n 1) (drop 28 file)) (decode (replicate n 4) (drop (28 + n) file)) n (length_kinds n (drop 28 file))

pub operands_in_part : (n : ℕ) (file : List ℕ) → length file ≡ 28 + 5 * n → operands_in n file ≡ words_in (drop (28 + n) file)
operands_in_part n file h =
    let words : length (drop (28 + n) file) / 4 ≡ n = simp length-drop (omega arith) in
    operands_in_words n file ∙ ap (λ k. decode (replicate k 4) (drop (28 + n) file)) (sym words)

-- .. and each array has as many elements as there are entries
pub length-kinds_in : (n : ℕ) (file : List ℕ) → length (kinds_in n file) ≡ n
length-kinds_in n file = ap length (kinds_in_bytes n file) ∙ length_kinds n (drop 28 file)

pub length-operands_in : (n : ℕ) (file : List ℕ) → length (operands_in n file) ≡ n
length-operands_in n file = ap length (operands_in_words n file) ∙ length_decode (replicate n 4) (drop (28 + n) file) ∙ length-replicate n 4

-- a file of two parallel arrays: the sizes, the kinds, the operands
pub file_of_parts : (s : Sizes) (kinds operands : List ℕ) → all_below 256 kinds ≡ true → length kinds ≡ length operands
    → file_of s kinds operands ≡ size_bytes s (length kinds) ++ kinds ++ word_bytes operands
file_of_parts s kinds operands below parallel =
    let n = length kinds in
    encode_append (replicate 7 4) (arrays n) (size_numbers s n) (kinds ++ operands) refl
    ∙ ap (λ l. size_bytes s n ++ l) (encode_arrays kinds operands below parallel)
    ∙ sym (append_assoc (size_bytes s n) kinds (word_bytes operands))

-- .. as long as its layout
pub length-file_of : (s : Sizes) (kinds operands : List ℕ) → length kinds ≡ length operands → length (file_of s kinds operands) ≡ 28 + 5 * length kinds
length-file_of s kinds operands parallel =
    length_encode (layout (length kinds)) (size_numbers s (length kinds) ++ (kinds ++ operands)) (simp (length-append, length-replicate, parallel))
    ∙ total_layout (length kinds)

pub file_length_lem : FileLength
file_length_lem s kinds operands parallel = (length-size_bytes s (length kinds), length-file_of s kinds operands (sym parallel))

-- some bytes hold a number of four bytes for each four of them
pub length_words_in : (bytes : List ℕ) → length (words_in bytes) ≡ length bytes / 4
length_words_in bytes = length_decode (replicate (length bytes / 4) 4) bytes ∙ length-replicate (length bytes / 4) 4
