-- Laws of the trace: how it is put into a buffer, outcome by outcome, and what stands in its bytes.
use mathlib.Core.Path.{◌≡◌, refl, ap, sym, ◌∙◌}
use mathlib.Core.Bool.{true}
use mathlib.Core.List.{List, [], ◌∷◌, ◌++◌, append_assoc, map, map-append}
use Prim.Native.Nat.{ℕ, ◌+◌, ◌*◌, ◌≤◌, ◌<◌, zero-le}
use native.Mathlib.Nat.{zero-add}
use native.Mathlib.Omega.{arith}
use lib.ListN.{length, drop, get_or, length-append, length-map, length-replicate, get_or-append, get_or-map, replicate, take}
use lib.Seq.{drop-drop, get_or-append-add, get_or-drop}
use Rattle.terms.specs.Outcome.{number_of, value_of}
use Rattle.terms.specs.declared.outcome.Outcome.TheVariants.{Moved, Place, Early, Wait, Stored, Task, Empty, Abort, Full, End}
use Rattle.terms.specs.Lists.{concat_map}
use Rattle.terms.proofs.Laws.Lists.{concat_map_places}
use Rattle.schedule.specs.Types.{Outcome}
use Rattle.number.specs.Number.{little_endian, of_bytes, overwritten, word_at, word_bytes}
use Rattle.schedule.specs.Format.{all_below, arrays, decode, encode}
use Rattle.schedule.specs.Trace.{TraceLength, line_in, line_of, trace_layout, trace_of}
use Rattle.schedule.specs.Demand3.{answer_in, answers_in}
use Rattle.number.proofs.Laws.Number.{length-little_endian}
use Rattle.schedule.proofs.Laws.Format.{decode_append, decode_encode, encode_arrays, fitting, fitting_append, fitting_replicate}
use Rattle.schedule.proofs.Laws.Format.{get_d_bytes, get_d_words, length_decode, total, total_replicate}
use Rattle.number.proofs.Laws.Words.{length_word_bytes, word_there, word_bytes_append}
use Rattle.number.proofs.Laws.Overwritten.{length_overwritten, overwritten_apart, overwritten_behind, overwritten_nothing}

-- ── A trace that is written ─────────────────────────────────────────────────────────────────────────────────────────────────

-- the trace of n entries in a buffer, but for their number, when the first have been obeyed with these outcomes
abbrev pub trace_so_far : ℕ → List Outcome → List ℕ → List ℕ
trace_so_far n os l = overwritten (4 + n) (word_bytes (map value_of os)) (overwritten 4 (map number_of os) l)

-- at first, nothing
pub trace_so_far_none : (n : ℕ) (l : List ℕ) → l ≡ trace_so_far n [] l
trace_so_far_none n l = overwritten_nothing 4 l ∙ overwritten_nothing (4 + n) (overwritten 4 [] l)

-- a value has four bytes
length_values : (os : List Outcome) → length (word_bytes (map value_of os)) ≡ 4 * length os
length_values os = length_word_bytes (map value_of os) ∙ ap (λ k. 4 * k) (length-map os value_of)

-- A buffer with room for the trace stays as long as it was: with at most as many outcomes' numbers, and with as many values.
length_numbered : (n : ℕ) (l : List ℕ) → 4 + 5 * n ≤ length l → (numbers : List ℕ) → length numbers ≤ n → length (overwritten 4 numbers l) ≡ length l
length_numbered n l room numbers few = length_overwritten 4 numbers l (omega arith)

-- one outcome more: its number right behind the numbers, its value right behind the values
pub trace_so_far_more : (n : ℕ) (os : List Outcome) (o : Outcome) (l : List ℕ) → length os < n → 4 + 5 * n ≤ length l
    → overwritten (4 + n + 4 * length os) (little_endian 4 (value_of o)) (overwritten (4 + length os) (number_of o ∷ []) (trace_so_far n os l))
    ≡ trace_so_far n (os ++ (o ∷ [])) l
trace_so_far_more n os o l more room =
    let k = length os in
    let numbers = map number_of os in
    let values = word_bytes (map value_of os) in
    let number = number_of o ∷ [] in
    let value = little_endian 4 (value_of o) in
    let before = overwritten 4 numbers l in
    let after = overwritten 4 (numbers ++ number) l in
    let many : length numbers ≡ k = length-map os number_of in
    let long-before = length_numbered n l room numbers (omega arith) in
    let long_after = length_numbered n l room (numbers ++ number) (omega (arith, length-append numbers number)) in
    let at_number : 4 + k ≡ 4 + length numbers = omega arith in
    let at_value : 4 + n + 4 * k ≡ 4 + n + length values = omega (arith, length_values os) in
    let put_number : overwritten (4 + k) number before ≡ after =
    ap (λ at. overwritten at number before) at_number ∙ overwritten_behind 4 numbers l number (omega arith) in
    ap (overwritten (4 + n + 4 * k) value)
    (overwritten_apart (4 + k) (4 + n) number values before (omega arith) (omega arith) ∙ ap (overwritten (4 + n) values) put_number)
    ∙ ap (λ at. overwritten at value (overwritten (4 + n) values after)) at_value
    ∙ overwritten_behind (4 + n) values after value (omega arith)
    ∙ sym (rw (map-append number_of os (o ∷ []), map-append value_of os (o ∷ []), word_bytes_append (map value_of os) (value_of o ∷ [])))

-- ── The parts of a trace ────────────────────────────────────────────────────────────────────────────────────────────────────

-- each number of an outcome is a byte
pub numbers_are_bytes : (os : List Outcome) → all_below 256 (map number_of os) ≡ true
numbers_are_bytes [] = refl
numbers_are_bytes (Moved ∷ os) = numbers_are_bytes os
numbers_are_bytes (Place ∷ os) = numbers_are_bytes os
numbers_are_bytes (Early ∷ os) = numbers_are_bytes os
numbers_are_bytes (Wait ∷ os) = numbers_are_bytes os
numbers_are_bytes (Stored ∷ os) = numbers_are_bytes os
numbers_are_bytes (Task x ∷ os) = numbers_are_bytes os
numbers_are_bytes (Empty ∷ os) = numbers_are_bytes os
numbers_are_bytes (Abort ∷ os) = numbers_are_bytes os
numbers_are_bytes (Full ∷ os) = numbers_are_bytes os
numbers_are_bytes (End ∷ os) = numbers_are_bytes os

module _ (os : List Outcome) where
  -- the number of entries, the outcomes' numbers, the values
  trace_of_parts : trace_of os ≡ little_endian 4 (length os) ++ map number_of os ++ word_bytes (map value_of os)
  trace_of_parts =
      let n = length os in
      let numbers = map number_of os in
      let values = map value_of os in
      let many : n ≡ length numbers = sym (length-map os number_of) in
      ap (λ l. little_endian 4 n ++ l)
      (ap (λ k. encode (arrays k) (numbers ++ values)) many ∙ encode_arrays numbers values (numbers_are_bytes os) (length-map os number_of ∙ sym (length-map os value_of)))
      ∙ sym (append_assoc (little_endian 4 n) numbers (word_bytes values))

pub length-trace_of : TraceLength
length-trace_of os =
    ap length (trace_of_parts os) ∙ omega (arith, length-append (map number_of os) (word_bytes (map value_of os)), length-map os number_of, length_values os)

-- with all outcomes, and then the number of entries in front, the trace
pub trace_so_far_all : (os : List Outcome) (l : List ℕ) → 4 + 5 * length os ≤ length l
    → overwritten 0 (little_endian 4 (length os)) (trace_so_far (length os) os l) ≡ overwritten 0 (trace_of os) l
trace_so_far_all os l room =
    let n = length os in
    let start = little_endian 4 n in
    let numbers = map number_of os in
    let values = word_bytes (map value_of os) in
    let at_numbers : 4 ≡ 0 + length start = omega (arith, length-little_endian 4 n) in
    let at_values : 4 + n ≡ 0 + length (start ++ numbers) = omega (arith, length-append start numbers, length-little_endian 4 n, length-map os number_of) in
    let long = length_numbered n l room numbers (omega (arith, length-map os number_of)) in
    overwritten_apart 0 (4 + n) start values (overwritten 4 numbers l) (omega arith) (omega arith)
    ∙ ap (overwritten (4 + n) values) (overwritten_apart 0 4 start numbers l (omega arith) (omega arith))
    ∙ ap (λ at. overwritten (4 + n) values (overwritten at numbers (overwritten 0 start l))) at_numbers
    ∙ ap (overwritten (4 + n) values) (overwritten_behind 0 start l numbers zero-le)
    ∙ ap (λ at. overwritten at values (overwritten 0 (start ++ numbers) l)) at_values
    ∙ overwritten_behind 0 (start ++ numbers) l values zero-le
    ∙ ap (λ trace. overwritten 0 trace l) (sym (trace_of_parts os))

-- ── What stands in a trace ──────────────────────────────────────────────────────────────────────────────────────────────────

module _ (n : ℕ) (trace : List ℕ) where
  -- the numbers of one byte in a trace, and those of four
  abbrev bytes : List ℕ
  bytes = decode (replicate n 1) (drop 4 trace)

  abbrev words : List ℕ
  words = decode (replicate n 4) (drop (4 + n) trace)

  length_bytes : length bytes ≡ n
  length_bytes = length_decode (replicate n 1) (drop 4 trace) ∙ length-replicate n 1

  -- they stand behind the number of entries
  behind : (k : ℕ) → get_or (decode (trace_layout n) trace) (1 + k) 0 ≡ get_or (bytes ++ words) k 0
  behind k =
      let all = decode (trace_layout n) trace in
      let one_each : total (replicate n 1) ≡ n = total_replicate n 1 ∙ omega arith in
      let place : drop (total (replicate n 1)) (drop 4 trace) ≡ drop (4 + n) trace = ap (λ i. drop i (drop 4 trace)) one_each ∙ drop-drop n 4 trace in
      sym (get_or-drop 1 all k 0)
      ∙ ap (λ l. get_or l k 0) (decode_append (replicate n 1) (replicate n 4) (drop 4 trace) ∙ ap (λ l. bytes ++ decode (replicate n 4) l) place)

  module _ (at : ℕ) (there : at < n) where
    -- the number of an outcome is one of the bytes from 4 on ..
    pub line_in_number : (line_in n trace at).number ≡ get_or trace (4 + at) 0
    line_in_number =
        behind at ∙ get_or-append bytes words 0 at (omega (arith, length_bytes)) ∙ get_d_bytes n at (drop 4 trace) there ∙ get_or-drop 4 trace at 0

    -- .. and its value is four of those behind these
    pub line_in_value : 4 + 5 * n ≤ length trace → (line_in n trace at).value ≡ word_at trace (4 + n + 4 * at)
    line_in_value long =
        let next : 1 + n + at ≡ 1 + (n + at) = omega arith in
        let place : n + at ≡ length bytes + at = omega (arith, length_bytes) in
        ap (λ k. get_or (decode (trace_layout n) trace) k 0) next
        ∙ behind (n + at)
        ∙ ap (λ k. get_or (bytes ++ words) k 0) place
        ∙ get_or-append-add bytes words at 0
        ∙ get_d_words n at (drop (4 + n) trace) there
        ∙ ap (λ l. of_bytes (take 4 l)) (drop-drop (4 * at) (4 + n) trace)
        ∙ sym (word_there trace (4 + n + 4 * at) (omega arith))

-- ── What stands in a trace that was written ─────────────────────────────────────────────────────────────────────────────────

-- the outcomes' numbers, and the values where these fit
numbers_written : (os : List Outcome) (l : List ℕ) → all_below 4294967296 (map value_of os) ≡ true
    → drop 1 (decode (trace_layout (length os)) (overwritten 0 (trace_of os) l)) ≡ map number_of os ++ map value_of os
numbers_written os l words =
    let n = length os in
    let numbers = map number_of os in
    let values = map value_of os in
    let numbers_fit = ap (λ k. fitting (replicate k 1) numbers) (sym (length-map os number_of)) ∙ fitting_replicate 1 numbers ∙ numbers_are_bytes os in
    let values_fit = ap (λ k. fitting (replicate k 4) values) (sym (length-map os value_of)) ∙ fitting_replicate 4 values ∙ words in
    decode_encode (replicate n 1 ++ replicate n 4) (numbers ++ values) (drop (0 + length (trace_of os)) l)
    (fitting_append (replicate n 1) (replicate n 4) numbers values numbers_fit values_fit)

-- so each entry's line is that of its outcome ..
pub line_in_written : (os : List Outcome) (l : List ℕ) (at : ℕ) → all_below 4294967296 (map value_of os) ≡ true → at < length os
    → line_in (length os) (overwritten 0 (trace_of os) l) at ≡ line_of (get_or os at Moved)
line_in_written os l at words there =
    let n = length os in
    let numbers = map number_of os in
    let values = map value_of os in
    let all = decode (trace_layout n) (overwritten 0 (trace_of os) l) in
    let written = numbers_written os l words in
    let number : get_or all (1 + at) 0 ≡ number_of (get_or os at Moved) =
    sym (get_or-drop 1 all at 0)
    ∙ ap (λ r. get_or r at 0) written
    ∙ get_or-append numbers values 0 at (omega (arith, length-map os number_of))
    ∙ get_or-map number_of os at Moved in
    let next : 1 + n + at ≡ 1 + (n + at) = omega arith in
    let place : n + at ≡ length numbers + at = omega (arith, length-map os number_of) in
    let value : get_or all (1 + n + at) 0 ≡ value_of (get_or os at Moved) =
    ap (λ k. get_or all k 0) next
    ∙ sym (get_or-drop 1 all (n + at) 0)
    ∙ (λ i. get_or (written i) (place i) 0)
    ∙ get_or-append-add numbers values at 0
    ∙ get_or-map value_of os at Moved in
    λ i. record { number = number i; value = value i }

-- .. and the answers are those among the outcomes
pub answers_in_written : (os : List Outcome) (l : List ℕ) → all_below 4294967296 (map value_of os) ≡ true
    → answers_in (length os) (overwritten 0 (trace_of os) l) ≡ concat_map (λ o. answer_in (line_of o)) os
answers_in_written os l words =
    let line = line_in (length os) (overwritten 0 (trace_of os) l) in
    concat_map_places (λ at. answer_in (line at)) (λ o. answer_in (line_of o)) Moved os 0
    (λ at there. ap (λ k. answer_in (line k)) (zero-add at) ∙ ap answer_in (line_in_written os l at words there))
