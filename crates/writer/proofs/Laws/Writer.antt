-- Laws of writing: which check decides, what an answer says of the checks, and that three parts written one behind the other are the file.
use Rattle.std.proofs.Common.{Result, Ok, Err}
use mathlib.Core.Path.{◌≡◌, refl, ap, sym, ◌∙◌}
use mathlib.Core.Bool.{not, true}
use mathlib.Core.List.{List, [], ◌∷◌}
use Prim.Native.Nat.{ℕ, ◌+◌, ◌*◌, ◌≤◌, ◌<◌}
use native.Mathlib.Omega.{arith}
use lib.Dec.{eqb, ltb}
use lib.ListN.{length, drop, get_or}
use borrow.Author.Tests.{eq-eqb, eqb-true, le-ltb, lt-ltb, ltb-false, ne_eqb, not-false}
use Rattle.writer.specs.Types.{Refusal, Room, Short, Sizes}
use Rattle.number.specs.Number.{bytes_put, overwritten, word_bytes}
use Rattle.schedule.specs.Check.{check_ranges, fail_if, first}
use Rattle.schedule.specs.Format.{all_below, file_of, size_bytes, size_numbers}
use Rattle.schedule.specs.Entries.{check_entries}
use Rattle.writer.specs.Writer.{writing_of, check_writing, write_file, writing_checks}
use Rattle.schedule.proofs.Laws.Check.{fail_if_passed, first_failed, first_passed}
use Rattle.schedule.proofs.Laws.Format.{file_of_parts, length-size_bytes}
use Rattle.number.proofs.Laws.Overwritten.{length_overwritten, overwritten_three}
use Rattle.number.proofs.Laws.Words.{bytes_there, length_word_bytes}

-- which check decides, where one fails
module _ (s : Sizes) (kinds operands : List ℕ) (room : ℕ) where
  pub write_out_of_range : (r : Refusal) → check_ranges s (length kinds) ≡ Err r → check_writing s kinds operands room ≡ Err r
  write_out_of_range r out = λ i. first (out i ∷ drop 1 (writing_checks s kinds operands room))

  module _ (in_range_lem : check_ranges s (length kinds) ≡ Ok tt) where
    pub write_short : (length kinds ≡ length operands → ⊥) → check_writing s kinds operands room ≡ Err Short
    write_short other =
        let apart = ne_eqb (length kinds) (length operands) other in
        λ i. first (in_range_lem i ∷ fail_if (not (apart i)) Short ∷ drop 2 (writing_checks s kinds operands room))

    module _ (parallel : length kinds ≡ length operands) where
      same : eqb (length kinds) (length operands) ≡ true
      same = eq-eqb (length kinds) (length operands) parallel

      pub write_faulty : (r : Refusal) → check_entries s kinds operands ≡ Err r → check_writing s kinds operands room ≡ Err r
      write_faulty r faulty = λ i. first (in_range_lem i ∷ fail_if (not (same i)) Short ∷ faulty i ∷ drop 3 (writing_checks s kinds operands room))

      pub write_no_room : check_entries s kinds operands ≡ Ok tt → room < 28 + 5 * length kinds → check_writing s kinds operands room ≡ Err Room
      write_no_room none under =
          let small = lt-ltb room (28 + 5 * length kinds) under in
          λ i. first (in_range_lem i ∷ fail_if (not (same i)) Short ∷ none i ∷ fail_if (small i) Room ∷ [])

-- What sizes, arrays and room are that pass every check.
pub record Writable (s : Sizes) (kinds operands : List ℕ) (room : ℕ) : Type 0 where
  pub ranges : check_ranges s (length kinds) ≡ Ok tt
  pub parallel : length kinds ≡ length operands
  pub each : check_entries s kinds operands ≡ Ok tt
  pub fits : 28 + 5 * length kinds ≤ room

module _ (s : Sizes) (kinds operands : List ℕ) (room : ℕ) where
  -- they are written
  pub writable_passes : Writable s kinds operands room → check_writing s kinds operands room ≡ Ok tt
  writable_passes p =
      let parallel = eq-eqb (length kinds) (length operands) p.parallel in
      let enough = le-ltb room (28 + 5 * length kinds) p.fits in
      λ i. first (p.ranges i ∷ fail_if (not (parallel i)) Short ∷ p.each i ∷ fail_if (enough i) Room ∷ [])

  -- .. and nothing else is
  pub written_writable : (n : ℕ) → write_file s kinds operands room ≡ Ok n → (n ≡ 28 + 5 * length kinds) × Writable s kinds operands room
  written_writable n e = go (check_writing s kinds operands room) refl e
    where
      go : (c : Result Unit Refusal) → check_writing s kinds operands room ≡ c → writing_of (28 + 5 * length kinds) c ≡ Ok n
          → (n ≡ 28 + 5 * length kinds) × Writable s kinds operands room
      go (Ok _) passed told =
          let each = first_passed (writing_checks s kinds operands room) passed in
          let as_long = not-false (eqb (length kinds) (length operands)) (fail_if_passed _ Short (each 1)) in
          let enough = fail_if_passed (ltb room (28 + 5 * length kinds)) Room (each 3) in (
            cc,
            record {
              ranges = each 0;
              parallel = eqb-true (length kinds) (length operands) as_long;
              each = each 2;
              fits = ltb-false room (28 + 5 * length kinds) enough;
            },
          )
      go (Err q) passed told = cc

  -- what a refusal tells, one of the checks failed with
  pub refused_writing : (r : Refusal) → write_file s kinds operands room ≡ Err r
      → (i : ℕ) × (get_or (writing_checks s kinds operands room) i (Ok tt) ≡ Err r)
  refused_writing r e = go (check_writing s kinds operands room) refl e
    where
      go : (c : Result Unit Refusal) → check_writing s kinds operands room ≡ c → writing_of (28 + 5 * length kinds) c ≡ Err r
          → (i : ℕ) × (get_or (writing_checks s kinds operands room) i (Ok tt) ≡ Err r)
      go (Ok _) found told = cc
      go (Err q) found told = let failed = first_failed (writing_checks s kinds operands room) r (found ∙ cc) in (failed.0, failed.1.1.0)

-- what has passed all checks can be written
pub passed_writable : (s : Sizes) (kinds operands : List ℕ) (room : ℕ) → check_writing s kinds operands room ≡ Ok tt → Writable s kinds operands room
passed_writable s kinds operands room passed =
    (written_writable s kinds operands room (28 + 5 * length kinds) (ap (writing_of (28 + 5 * length kinds)) passed)).1

-- the sizes, the kinds and the operands, each written where the part before it ends, in a buffer that has room for them
pub file_written : (s : Sizes) (kinds operands : List ℕ) → all_below 256 kinds ≡ true → length kinds ≡ length operands → (b b₁ b₂ b₃ : List ℕ)
    → 28 + 5 * length kinds ≤ length b
    → b₁ ≡ bytes_put 0 (word_bytes (size_numbers s (length kinds))) b
    → b₂ ≡ bytes_put 28 kinds b₁
    → b₃ ≡ bytes_put (28 + length kinds) (word_bytes operands) b₂
    → b₃ ≡ overwritten 0 (file_of s kinds operands) b
file_written s kinds operands bytes parallel b b₁ b₂ b₃ room sizes-put kinds-put operands-put =
    let sizes = size_bytes s (length kinds) in
    let at_kinds : 28 ≡ length sizes = sym (length-size_bytes s (length kinds)) in
    let words = length_word_bytes operands in
    let put₁ = sizes-put ∙ bytes_there 0 sizes b (omega arith) in
    let long₁ : length b₁ ≡ length b = ap length put₁ ∙ length_overwritten 0 sizes b (omega arith) in
    let put₂ = kinds-put ∙ bytes_there 28 kinds b₁ (omega arith) in
    let long₂ : length b₂ ≡ length b = ap length put₂ ∙ length_overwritten 28 kinds b₁ (omega arith) ∙ long₁ in
    let put₃ = operands-put ∙ bytes_there (28 + length kinds) (word_bytes operands) b₂ (omega (arith, words, parallel)) in
    overwritten_three sizes kinds (word_bytes operands) b b₁ b₂ b₃ put₁ (put₂ ∙ ap (λ at. overwritten at kinds b₁) at_kinds)
    (put₃ ∙ ap (λ at. overwritten (at + length kinds) (word_bytes operands) b₂) at_kinds)
    ∙ ap (λ file. overwritten 0 file b) (sym (file_of_parts s kinds operands bytes parallel))
