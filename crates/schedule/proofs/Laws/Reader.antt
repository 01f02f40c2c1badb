-- Laws of reading: where in a file its sizes and arrays lie, which check decides, and what an answer says of the checks.
use mathlib.Core.Path.{◌≡◌, refl, ap, sym, ◌∙◌}
use mathlib.Core.Bool.{false, not, true}
use mathlib.Core.List.{List, [], ◌∷◌}
use Prim.Native.Nat.{ℕ, ◌+◌, ◌*◌, ◌≤◌, ◌<◌}
use native.Mathlib.Nat.{zero-add}
use native.Mathlib.Omega.{arith}
use lib.Dec.{eqb, ltb}
use lib.ListN.{length, drop, get_or, length-drop, take}
use borrow.Author.Tests.{eq-eqb, eqb-true, le-leb, le-ltb, ne_eqb, not-false}
use Rattle.std.proofs.Common.{Result, Ok, Err}
use Rattle.terms.proofs.Laws.Tests.{by_test}
use Rattle.schedule.specs.Types.{Refusal, Short, Sizes}
use Rattle.number.specs.Number.{word_at}
use Rattle.number.proofs.Laws.Words.{word_there}
use Rattle.schedule.specs.Check.{check_ranges, fail_if, first}
use Rattle.schedule.specs.Format.{entries_in, kinds_in, operands_in, size_in, sizes_in, words_in}
use Rattle.schedule.specs.Entries.{check_entries, check_parts}
use Rattle.schedule.specs.Reader.{behind, holds_kinds, kind_part, operand_part, part_of, read_file, reading_checks, reading_of, size_checks, start_of}
use Rattle.schedule.proofs.Laws.Check.{fail_if_passed, first_append, first_append_failed, first_failed, first_one, first_passed}
use Rattle.schedule.proofs.Laws.Entries.{parts_together}
use Rattle.schedule.proofs.Laws.Format.{get_d_words, kinds_in_part, length-kinds_in, operands_in_part}

-- nothing behind a place is that place
behind_none : (place : ℕ × ℕ) → behind 0 place ≡ place
behind_none place = λ i. (place.0, zero-add place.1 i)

-- what is cut out of a file that lies at a place, and where the part lies, by the answer that is handed in
module _ (file : List ℕ) (place : ℕ × ℕ) (part : ℕ → List ℕ) (start : ℕ → ℕ) where
  abbrev pub IsPart : Result (Sizes × ℕ) Refusal → List ℕ → ℕ × ℕ → Type 0
  IsPart answer cut at = (cut ≡ part_of file answer part) × (at ≡ behind (start_of file answer start) place)

  pub cut_refused : {answer : Result (Sizes × ℕ) Refusal} {r : Refusal} → answer ≡ Err r → IsPart answer [] place
  cut_refused told = (sym (ap (λ a. part_of file a part) told), sym (ap (λ a. behind (start_of file a start) place) told ∙ behind_none place))

  module _ {answer : Result (Sizes × ℕ) Refusal} {s : Sizes} {n : ℕ} (told : answer ≡ Ok (s, n)) where
    pub cut_nothing : holds_kinds file n ≡ false → IsPart answer [] place
    cut_nothing none = (
      sym (ap (λ a. part_of file a part) told ∙ by_test _ _ none),
      sym (ap (λ a. behind (start_of file a start) place) told ∙ ap (λ k. behind k place) (by_test _ _ none) ∙ behind_none place),
    )

    pub cut_there : holds_kinds file n ≡ true → {cut : List ℕ} → cut ≡ part n → IsPart answer cut (behind (start n) place)
    cut_there held cut = (
      cut ∙ sym (ap (λ a. part_of file a part) told ∙ by_test _ _ held),
      sym (ap (λ a. behind (start_of file a start) place) told ∙ ap (λ k. behind k place) (by_test _ _ held)),
    )

module _ (file : List ℕ) where
  -- the size at each place of the table lies at four times its place
  pub size_in_at : 28 ≤ length file → (place : ℕ) → place < 7 → size_in place file ≡ word_at file (4 * place)
  size_in_at there place known = get_d_words 7 place file known ∙ sym (word_there file (4 * place) (omega arith))

  -- the two parts of a file whose length is that of so many entries are its arrays
  module _ (s : Sizes) (n : ℕ) (whole : length file ≡ 28 + 5 * n) where
    held : holds_kinds file n ≡ true
    held = le-leb (28 + n) (length file) (omega arith)

    pub kinds_taken : kind_part file (Ok (s, n)) ≡ take n (drop 28 file)
    kinds_taken = by_test _ _ held

    pub kinds_cut : kind_part file (Ok (s, n)) ≡ kinds_in n file
    kinds_cut = kinds_taken ∙ sym (kinds_in_part n file (omega arith))

    pub operands_drop : operand_part file (Ok (s, n)) ≡ drop (28 + n) file
    operands_drop = by_test _ _ held

    pub operands_cut : words_in (operand_part file (Ok (s, n))) ≡ operands_in n file
    operands_cut = ap words_in operands_drop ∙ sym (operands_in_part n file whole)

    pub length_kinds_cut : length (kind_part file (Ok (s, n))) ≡ n
    length_kinds_cut = ap length kinds_cut ∙ length-kinds_in n file

    pub length_operands_cut : length (operand_part file (Ok (s, n))) ≡ 4 * n
    length_operands_cut = ap length operands_drop ∙ simp length-drop (omega arith)

    -- .. and the check of the parts is that of the arrays
    pub parts_checked : check_parts s (kind_part file (Ok (s, n))) (operand_part file (Ok (s, n))) ≡ check_entries s (kinds_in n file) (operands_in n file)
    parts_checked =
        parts_together s (kind_part file (Ok (s, n))) (operand_part file (Ok (s, n))) (length_operands_cut ∙ ap (λ k. 4 * k) (sym length_kinds_cut))
        ∙ (λ i. check_entries s (kinds_cut i) (operands_cut i))

-- ── The sizes ───────────────────────────────────────────────────────────────────────────────────────────────────────────────

-- two readings that are one have the same sizes and the same number of entries
same_reading : {s t : Sizes} {m n : ℕ} → ◌≡◌ {A = Result (Sizes × ℕ) Refusal} (Ok (s, m)) (Ok (t, n)) → (t ≡ s) × (n ≡ m)
same_reading {s} {t} {m} {n} told =
    let pair : ◌≡◌ {A = Sizes × ℕ} (s, m) (t, n) = cc in
    (sym (ap (λ p. p.0) pair), sym (ap (λ p. p.1) pair))

-- what is answered before the entries are looked at
abbrev pub sizes_read : List ℕ → Result (Sizes × ℕ) Refusal
sizes_read file = reading_of file (first (size_checks file))

module _ (file : List ℕ) where
  -- which check of the sizes decides

  module _ (sizes-there : 28 ≤ length file) where
    there : ltb (length file) 28 ≡ false
    there = le-ltb (length file) 28 sizes-there

    pub sizes_out_of_range : (r : Refusal) → check_ranges (sizes_in file) (entries_in file) ≡ Err r → sizes_read file ≡ Err r
    sizes_out_of_range r out = λ i. reading_of file (first (fail_if (there i) Short ∷ out i ∷ drop 2 (size_checks file)))

    module _ (in_range_lem : check_ranges (sizes_in file) (entries_in file) ≡ Ok tt) where
      pub sizes_short : (length file ≡ 28 + 5 * entries_in file → ⊥) → sizes_read file ≡ Err Short
      sizes_short other =
          let wrong = ne_eqb (length file) (28 + 5 * entries_in file) other in
          λ i. reading_of file (first (fail_if (there i) Short ∷ in_range_lem i ∷ fail_if (not (wrong i)) Short ∷ []))

      pub sizes_accepted : length file ≡ 28 + 5 * entries_in file → sizes_read file ≡ Ok (sizes_in file, entries_in file)
      sizes_accepted long =
          let whole = eq-eqb (length file) (28 + 5 * entries_in file) long in
          λ i. reading_of file (first (fail_if (there i) Short ∷ in_range_lem i ∷ fail_if (not (whole i)) Short ∷ []))

  -- the check of the entries that stand in a file
  abbrev pub entries_checked : Result Unit Refusal
  entries_checked = check_entries (sizes_in file) (kinds_in (entries_in file) file) (operands_in (entries_in file) file)

  -- what is refused before its entries are looked at is refused; of other files the entries decide

  pub sizes_refused : (r : Refusal) → sizes_read file ≡ Err r → read_file file ≡ Err r
  sizes_refused r e = go (first (size_checks file)) refl e
    where
      go : (c : Result Unit Refusal) → first (size_checks file) ≡ c → reading_of file c ≡ Err r → read_file file ≡ Err r
      go (Ok _) found told = cc
      go (Err q) found told = ap (reading_of file) (first_append_failed (size_checks file) (entries_checked ∷ []) q found) ∙ told

  -- What a file is whose sizes, and whose length, are right.
  pub record Sized : Type 0 where
    pub ranges : check_ranges (sizes_in file) (entries_in file) ≡ Ok tt
    pub long : length file ≡ 28 + 5 * entries_in file

  sized : check_ranges (sizes_in file) (entries_in file) ≡ Ok tt → fail_if (not (eqb (length file) (28 + 5 * entries_in file))) Short ≡ Ok tt → Sized
  sized ranges as_long =
      record { ranges = ranges; long = eqb-true (length file) (28 + 5 * entries_in file) (not-false (eqb (length file) (28 + 5 * entries_in file)) (fail_if_passed _ Short as_long)) }

  pub sizes_decide : (s : Sizes) (n : ℕ) → sizes_read file ≡ Ok (s, n)
      → (s ≡ sizes_in file) × ((n ≡ entries_in file) × (Sized × (read_file file ≡ reading_of file entries_checked)))
  sizes_decide s n e = go (first (size_checks file)) refl e
    where
      go : (c : Result Unit Refusal) → first (size_checks file) ≡ c → reading_of file c ≡ Ok (s, n)
          → (s ≡ sizes_in file) × ((n ≡ entries_in file) × (Sized × (read_file file ≡ reading_of file entries_checked)))
      go (Ok _) found told =
          let each = first_passed (size_checks file) found in
          let same = same_reading told in
          (same.0, (same.1, (sized (each 1) (each 2), ap (reading_of file) (first_append (size_checks file) (entries_checked ∷ []) found ∙ first_one entries_checked))))
      go (Err q) found told = cc

-- ── The whole file ──────────────────────────────────────────────────────────────────────────────────────────────────────────

-- What a file is that passes every check.
pub record Readable (file : List ℕ) : Type 0 where
  pub ranges : check_ranges (sizes_in file) (entries_in file) ≡ Ok tt
  pub long : length file ≡ 28 + 5 * entries_in file
  pub each : entries_checked file ≡ Ok tt

module _ (file : List ℕ) where
  -- it is accepted
  pub readable_accepted : Readable file → read_file file ≡ Ok (sizes_in file, entries_in file)
  readable_accepted p =
      let there = le-ltb (length file) 28 (omega (arith, p.long)) in
      let whole = eq-eqb (length file) (28 + 5 * entries_in file) p.long in
      λ i. reading_of file (first (fail_if (there i) Short ∷ p.ranges i ∷ fail_if (not (whole i)) Short ∷ p.each i ∷ []))

  -- .. and nothing else is
  pub accepted_readable : (s : Sizes) (entries : ℕ) → read_file file ≡ Ok (s, entries)
      → (s ≡ sizes_in file) × ((entries ≡ entries_in file) × Readable file)
  accepted_readable s entries e = go (first (reading_checks file)) refl e
    where
      go : (c : Result Unit Refusal) → first (reading_checks file) ≡ c → reading_of file c ≡ Ok (s, entries)
          → (s ≡ sizes_in file) × ((entries ≡ entries_in file) × Readable file)
      go (Ok _) passed told =
          let each = first_passed (reading_checks file) passed in
          let right = sized file (each 1) (each 2) in
          let same = same_reading told in
          (same.0, (same.1, record { ranges = right.ranges; long = right.long; each = each 3 }))
      go (Err q) passed told = cc

  -- what a refusal tells, one of the checks failed with
  pub refused_reading : (r : Refusal) → read_file file ≡ Err r → (i : ℕ) × (get_or (reading_checks file) i (Ok tt) ≡ Err r)
  refused_reading r e = go (first (reading_checks file)) refl e
    where
      go : (c : Result Unit Refusal) → first (reading_checks file) ≡ c → reading_of file c ≡ Err r
          → (i : ℕ) × (get_or (reading_checks file) i (Ok tt) ≡ Err r)
      go (Ok _) found told = cc
      go (Err q) found told = let failed = first_failed (reading_checks file) r (found ∙ cc) in (failed.0, failed.1.1.0)

  -- an accepted file is as long as its number of entries says
  pub accepted_long : (s : Sizes) (entries : ℕ) → read_file file ≡ Ok (s, entries) → length file ≡ 28 + 5 * entries
  accepted_long s entries accepted = let read = accepted_readable s entries accepted in omega (arith, read.1.0, read.1.1.long)
