-- Laws of sheets: which check decides, what has passed all of them, and that three parts written one behind the other are the sheet.
use Rattle.std.proofs.Common.{Result, Ok, Err}
use mathlib.Core.Path.{◌≡◌, refl, ap, sym, ◌∙◌}
use mathlib.Core.Bool.{true, false, not}
use mathlib.Core.List.{List, [], ◌∷◌, ◌++◌, map}
use Prim.Native.Nat.{ℕ, zero, suc, ◌+◌, ◌%◌, ◌≤◌, ◌<◌}
use native.Mathlib.Nat.{le_of_suc-le-suc, not-suc-le-zero}
use native.Mathlib.Omega.{arith}
use lib.ListN.{length, drop, get_or, length-append, length-map, length-replicate, replicate, set, take}
use borrow.Author.Tests.{le-ltb, lt-ltb, ltb-false, not-false}
use Rattle.terms.specs.Lists.{range_from}
use Rattle.terms.specs.Kinds.{party_number}
use Rattle.terms.specs.Sizes.{enough_margin, sizes_in_range, within}
use Rattle.terms.proofs.Laws.Lists.{map_take}
use Rattle.terms.proofs.Laws.Sizes.{sizes_bounds}
use Rattle.terms.proofs.Laws.Sums.{length-range_from, sum_of_append}
use Rattle.number.specs.Number.{bytes_put, overwritten, word_bytes}
use Rattle.number.proofs.Laws.Overwritten.{length_overwritten, overwritten_one, overwritten_three}
use Rattle.number.proofs.Laws.Words.{bytes_there, length_word_bytes}
use Rattle.schedule.specs.Check.{fail_if, first}
use Rattle.schedule.specs.Entries.{check_entries}
use Rattle.schedule.specs.Format.{all_below, arrays, encode, entries_in, sizes_in}
use Rattle.schedule.specs.Reader.{read_file, reading_checks, reading_of}
use Rattle.schedule.specs.Run.{entries_of, schedule_in}
use Rattle.schedule.proofs.Laws.Check.{fail_if_passed, first_append, first_append_failed, first_passed}
use Rattle.schedule.proofs.Laws.Format.{encode_arrays, length_encode, total_replicate}
use Rattle.schedule.proofs.Laws.Run.{party_there}
use Rattle.schedule.proofs.Laws.Reader.{Readable, accepted_readable, readable_accepted}
use Rattle.share_sheet.specs.Types.{Drain, Entry, Margin, Outcome, Refusal, Room, Size, Sizes}
use Rattle.share_sheet.specs.Filling.{PartiesFit}
use Rattle.share_sheet.specs.Sheet.{SheetLength, answer_by, blocks, check_blocks, checks_after_reading, giving, parties_of, places_of, share_by, share_of, make_sheet, sheet_checks, sheet_layout, sheet_length, sheet_of}

-- ── Checks ──────────────────────────────────────────────────────────────────────────────────────────────────────────────────

-- which check decides, where one fails
module _ (s : Sizes) (es : List Entry) (count room : ℕ) where
  pub count_decides : within 1 255 count ≡ false → first (checks_after_reading s es count room) ≡ Err (Size 7)
  count_decides out = λ i. first (fail_if (not (out i)) (Size 7) ∷ drop 1 (checks_after_reading s es count room))

  module _ (inside : within 1 255 count ≡ true) where
    pub margin_decides : enough_margin s ≡ false → first (checks_after_reading s es count room) ≡ Err Margin
    margin_decides few = λ i. first (fail_if (not (inside i)) (Size 7) ∷ fail_if (not (few i)) Margin ∷ drop 2 (checks_after_reading s es count room))

    module _ (enough : enough_margin s ≡ true) where
      pub block_decides : (r : Refusal) → check_blocks count es ≡ Err r → first (checks_after_reading s es count room) ≡ Err r
      block_decides r wrong = λ i. first (fail_if (not (inside i)) (Size 7) ∷ fail_if (not (enough i)) Margin ∷ wrong i ∷ drop 3 (checks_after_reading s es count room))

      module _ (right : check_blocks count es ≡ Ok tt) where
        pub room_decides : room < sheet_length count → first (checks_after_reading s es count room) ≡ Err Room
        room_decides under =
            let small = lt-ltb room (sheet_length count) under in
            λ i. first (fail_if (not (inside i)) (Size 7) ∷ fail_if (not (enough i)) Margin ∷ right i ∷ fail_if (small i) Room ∷ [])

        pub none_fails : sheet_length count ≤ room → first (checks_after_reading s es count room) ≡ Ok tt
        none_fails fits =
            let large = le-ltb room (sheet_length count) fits in
            λ i. first (fail_if (not (inside i)) (Size 7) ∷ fail_if (not (enough i)) Margin ∷ right i ∷ fail_if (large i) Room ∷ [])

-- what a schedule, a count and a room are that have passed every check
pub record Fit (s : Sizes) (es : List Entry) (count room : ℕ) : Type 0 where
  pub inside : within 1 255 count ≡ true
  pub enough : enough_margin s ≡ true
  pub right : check_blocks count es ≡ Ok tt
  pub fits : sheet_length count ≤ room

pub passed_fit : (s : Sizes) (es : List Entry) (count room : ℕ) → first (checks_after_reading s es count room) ≡ Ok tt → Fit s es count room
passed_fit s es count room passed =
    let each = first_passed (checks_after_reading s es count room) passed in
    record {
      inside = not-false (within 1 255 count) (fail_if_passed _ (Size 7) (each 0));
      enough = not-false (enough_margin s) (fail_if_passed _ Margin (each 1));
      right = each 2;
      fits = ltb-false room (sheet_length count) (fail_if_passed _ Room (each 3));
    }

-- no party is beyond the eighth thief
pub party_most : (s : Sizes) (kinds operands : List ℕ) → sizes_in_range s ≡ true → check_entries s kinds operands ≡ Ok tt → (at : ℕ) → party_number (get_or (entries_of s kinds operands) at Drain) ≤ 8
party_most s kinds operands ranged allowed at = omega (arith, party_there s kinds operands allowed at, (sizes_bounds s ranged).thieves_most)

-- ── Bytes ───────────────────────────────────────────────────────────────────────────────────────────────────────────────────

-- the first so many of a range
take_range : (k count n : ℕ) → count ≤ n → take count (range_from k n) ≡ range_from k count
take_range k zero n few = refl
take_range k (suc count) zero few = absurd (not-suc-le-zero few)
take_range k (suc count) (suc n) few = ap (λ l. k ∷ l) (take_range (suc k) count n (le_of_suc-le-suc few))

-- something of each block, of the first so many
pub take_blocks : (f : ℕ → ℕ) (count n : ℕ) → count ≤ n → take count (map f (blocks n)) ≡ map f (blocks count)
take_blocks f count n few = map_take f count (blocks n) ∙ ap (map f) (take_range 1 count n few)

pub length_blocks : (f : ℕ → ℕ) (count : ℕ) → length (map f (blocks count)) ≡ count
length_blocks f count = length-map (blocks count) f ∙ length-range_from 1 count

-- what a function makes of any numbers is below a bound where each of its values is
pub blocks_below : (f : ℕ → ℕ) (bound : ℕ) → ((b : ℕ) → f b < bound) → (l : List ℕ) → all_below bound (map f l) ≡ true
blocks_below f bound below [] = refl
blocks_below f bound below (b ∷ l) = rw (lt-ltb (f b) bound (below b)) (blocks_below f bound below l)

module _ (count : ℕ) (es : List Entry) (os : List Outcome) where
  pub length_parties : length (parties_of count es os) ≡ count
  length_parties = length_blocks (λ b. (share_of es os b).party) count

  pub length_places : length (places_of count es os) ≡ count
  length_places = length_blocks (λ b. (share_of es os b).entry) count

  abbrev numbers : List ℕ
  numbers = count ∷ (parties_of count es os ++ places_of count es os)

  as_many : length (sheet_layout count) ≡ length numbers
  as_many =
      omega (
        arith,
        length-append {A = ℕ} (replicate count 1) (replicate count 4),
        length-replicate {A = ℕ} count 1,
        length-replicate {A = ℕ} count 4,
        length-append (parties_of count es os) (places_of count es os),
        length_parties,
        length_places,
      )

  module _ (few : count ≤ 255) (fit : PartiesFit es) where
    -- a party is a byte
    party_fits : (l : List ℕ) → (share_by es l).party < 256
    party_fits [] = omega arith
    party_fits (at ∷ l) = fit at

    pub parties_fit : all_below 256 (parties_of count es os) ≡ true
    parties_fit = blocks_below (λ b. (share_of es os b).party) 256 (λ b. party_fits (giving b os)) (blocks count)

    -- the count, the parties, the entries
    pub sheet_of_parts : sheet_of count es os ≡ (count ∷ []) ++ parties_of count es os ++ word_bytes (places_of count es os)
    sheet_of_parts =
        let byte : count % 256 ≡ count = omega arith in
        let parties = parties_of count es os in
        let places = places_of count es os in
        let arrays-are = ap (λ n. encode (arrays n) (parties ++ places)) (sym length_parties) ∙ encode_arrays parties places parties_fit (length_parties ∙ sym length_places) in
        λ i. byte i ∷ arrays-are i

    -- each written where the part before it ends, in a buffer that has room for them
    pub sheet_written : (b b₁ b₂ b₃ : List ℕ) → sheet_length count ≤ length b
        → b₁ ≡ set b 0 count
        → b₂ ≡ bytes_put 1 (parties_of count es os) b₁
        → b₃ ≡ bytes_put (1 + count) (word_bytes (places_of count es os)) b₂
        → b₃ ≡ overwritten 0 (sheet_of count es os) b
    sheet_written b b₁ b₂ b₃ room count-put parties-put entries-put =
        let parties = parties_of count es os in
        let places = word_bytes (places_of count es os) in
        let many = length_parties in
        let words = length_word_bytes (places_of count es os) in
        let put₁ = count-put ∙ overwritten_one 0 count b (omega arith) in
        let long₁ : length b₁ ≡ length b = ap length put₁ ∙ length_overwritten 0 (count ∷ []) b (omega arith) in
        let put₂ = parties-put ∙ bytes_there 1 parties b₁ (omega arith) in
        let long₂ : length b₂ ≡ length b = ap length put₂ ∙ length_overwritten 1 parties b₁ (omega arith) ∙ long₁ in
        let put₃ = entries-put ∙ bytes_there (1 + count) places b₂ (omega (arith, words, length_places)) in
        overwritten_three (count ∷ []) parties places b b₁ b₂ b₃ put₁ put₂ (put₃ ∙ ap (λ n. overwritten (1 + n) places b₂) (sym many))
        ∙ ap (λ l. overwritten 0 l b) (sym sheet_of_parts)

pub length-sheet_of : SheetLength
length-sheet_of count es os =
    length_encode (sheet_layout count) (numbers count es os) (as_many count es os)
    ∙ ap (λ k. 1 + k) (sum_of_append (λ w. w) (replicate count 1) (replicate count 4))
    ∙ rw (total_replicate count 1, total_replicate count 4) (omega arith)

-- ── Files ───────────────────────────────────────────────────────────────────────────────────────────────────────────────────

module _ (file : List ℕ) (count room : ℕ) where
  -- a file that is refused is refused so here
  pub file_decides : (r : Refusal) → read_file file ≡ Err r → make_sheet file count room ≡ Err r
  file_decides r refused =
      let found = first_of (first (reading_checks file)) refl refused in
      ap (answer_by count) (first_append_failed (reading_checks file) (checks_after_reading (sizes_in file) (schedule_in file) count room) r found)
    where
      first_of : (c : Result Unit Refusal) → first (reading_checks file) ≡ c → reading_of file c ≡ Err r → first (reading_checks file) ≡ Err r
      first_of (Ok _) is e = cc
      first_of (Err q) is e = let same : q ≡ r = cc in is ∙ ap Err same

  -- of one that is read, the checks behind decide
  pub behind_decides : (s : Sizes) (n : ℕ) → read_file file ≡ Ok (s, n) → make_sheet file count room ≡ answer_by count (first (checks_after_reading s (schedule_in file) count room))
  behind_decides s n accepted =
      let passed = all_passed (first (reading_checks file)) refl accepted in
      ap (answer_by count) (first_append (reading_checks file) (checks_after_reading (sizes_in file) (schedule_in file) count room) passed)
      ∙ ap (λ t. answer_by count (first (checks_after_reading t (schedule_in file) count room))) (sym (accepted_readable file s n accepted).0)
    where
      all_passed : (c : Result Unit Refusal) → first (reading_checks file) ≡ c → reading_of file c ≡ Ok (s, n) → first (reading_checks file) ≡ Ok tt
      all_passed (Ok _) is e = is
      all_passed (Err q) is e = cc

  pub written_length : (n : ℕ) → make_sheet file count room ≡ Ok n → sheet_length count ≡ n
  written_length n written = go (first (sheet_checks file count room)) written
    where
      go : (c : Result Unit Refusal) → answer_by count c ≡ Ok n → sheet_length count ≡ n
      go (Ok _) e = cc
      go (Err r) e = cc

  -- what a file is of which a sheet is written
  pub record Checked : Type 0 where
    pub readable : Readable file
    pub behind : Fit (sizes_in file) (schedule_in file) count room

  pub written_checked : (n : ℕ) → make_sheet file count room ≡ Ok n → Checked
  written_checked n written = go (read_file file) refl
    where
      fit_of : (c : Result Unit Refusal) → first (checks_after_reading (sizes_in file) (schedule_in file) count room) ≡ c → answer_by count c ≡ Ok n → Fit (sizes_in file) (schedule_in file) count room
      fit_of (Ok _) passed e = passed_fit (sizes_in file) (schedule_in file) count room passed
      fit_of (Err r) failed e = cc

      go : (answer : Result (Sizes × ℕ) Refusal) → read_file file ≡ answer → Checked
      go (Err r) refused = let both = sym (file_decides r refused) ∙ written in cc
      go (Ok (s, m)) accepted =
          let readable = (accepted_readable file s m accepted).1.1 in
          record { readable = readable; behind = fit_of _ refl (sym (behind_decides (sizes_in file) (entries_in file) (readable_accepted file readable)) ∙ written) }
