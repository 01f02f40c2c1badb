-- Laws of a file's lines: those of its entries as a trace has them, and that the place of a refusal is a number of 32 bits.
use mathlib.Core.Path.{◌≡◌, refl, ap, sym, ◌∙◌, subst}
use mathlib.Core.Bool.{Bool, true, false, cond, not, false≢true, ◌&&◌}
use mathlib.Core.List.{List, [], ◌∷◌, ◌++◌, map}
use Prim.Native.Nat.{ℕ, zero, suc, ◌+◌, ◌<◌, suc-le-suc}
use native.Mathlib.Nat.{add-zero, zero-add, zero-lt-suc}
use native.Mathlib.Numerals.{add-one}
use native.Mathlib.Omega.{arith}
use lib.Dec.{eqb, ltb}
use lib.ListN.{length, get_or}
use borrow.Author.Tests.{eqb-true, ltb-true}
use Rattle.std.proofs.Common.{Err}
use Rattle.terms.specs.Outcome.{value_of}
use Rattle.terms.specs.Refusal.{Refuses, number_of, place_of, refusal_in}
use Rattle.terms.specs.declared.outcome.Outcome.TheVariants.{Moved}
use Rattle.terms.proofs.Laws.Tests.{and_left}
use Rattle.terms.specs.Lists.{concat_map, range_from}
use Rattle.terms.proofs.Laws.Lists.{all_get_d}
use Rattle.number.specs.Number.{overwritten}
use Rattle.schedule.specs.Check.{sizes_kept}
use Rattle.schedule.specs.Faults.{file_has}
use Rattle.schedule.specs.Format.{all_below, decode, entries_in, kinds_in, layout, sizes_in}
use Rattle.schedule.specs.Reader.{read_file}
use Rattle.schedule.specs.Trace.{trace_of}
use Rattle.schedule.proofs.Faults.{reader_refuses_faults}
use Rattle.schedule.proofs.Laws.Format.{decode_below, length-kinds_in}
use Rattle.schedule.proofs.Laws.Trace.{line_in_written}
use Rattle.lines.specs.Types.{Outcome, Refusal}
use Rattle.lines.specs.FromTrace.{line_from_trace, lines_from_trace, three_numbers}
use Rattle.lines.specs.Lines.{entry_line, entry_lines}

-- ── The lines of the entries ────────────────────────────────────────────────────────────────────────────────────────────────

-- lines that are gathered by the numbers of the entries, each that of its outcome, are the lines of the outcomes
concat_map_lines : (f : ℕ → List ℕ) (os : List Outcome) (k : ℕ)
    → ((i : ℕ) → i < length os → f (k + i) ≡ entry_line (k + i) (get_or os i Moved)) → concat_map f (range_from k (length os)) ≡ entry_lines k os
concat_map_lines f [] k same = refl
concat_map_lines f (o ∷ os) k same =
    let first : f k ≡ entry_line k o = rw add-zero at (same 0 (zero-lt-suc (length os))) in
    let next : (i : ℕ) → k + suc i ≡ suc k + i = λ i. omega arith in
    let others = concat_map_lines f os (suc k) (λ i there. rw (next i) at (same (suc i) (suc-le-suc there))) in
    λ i. first i ++ (others ∙ ap (λ j. entry_lines j os) (sym (add-one k))) i

-- the lines of all entries, from the trace of a run whose values fit four bytes
pub trace_lines : (os : List Outcome) (l : List ℕ) (n : ℕ) → length os ≡ n → all_below 4294967296 (map value_of os) ≡ true
    → lines_from_trace n (overwritten 0 (trace_of os) l) ≡ entry_lines 0 os
trace_lines os l n as_many fit =
    let trace = overwritten 0 (trace_of os) l in
    ap (λ k. lines_from_trace k trace) (sym as_many)
    ∙ concat_map_lines (line_from_trace (length os) trace) os 0
    (λ i there. ap (λ k. line_from_trace (length os) trace k) (zero-add i) ∙ ap (λ line. three_numbers i line.number line.value) (line_in_written os l i fit there) ∙ ap (λ k. entry_line k (get_or os i Moved)) (sym (zero-add i)))

-- ── The place of a refusal ──────────────────────────────────────────────────────────────────────────────────────────────────

-- a test that is not passed stands in its list
inside : (tests : List Bool) (i : ℕ) → not (get_or tests i true) ≡ true → i < length tests
inside [] i p = absurd (false≢true p)
inside (t ∷ tests) zero p = zero-lt-suc (length tests)
inside (t ∷ tests) (suc i) p = suc-le-suc (inside tests i p)

-- the number of entries that a file says is a number of four bytes
entries_fit : (file : List ℕ) → all_below 256 file ≡ true → entries_in file < 4294967296
entries_fit file bytes = ltb-true (entries_in file) 4294967296 (all_get_d (λ n. ltb n 4294967296) (decode (layout 0) file) 6 0 refl (decode_below 7 4 file bytes))

pub place_fits : (file : List ℕ) → all_below 256 file ≡ true → (r : Refusal) → read_file file ≡ Err r → place_of r < 4294967296
place_fits file bytes r told =
    go (eqb (number_of r) 1) (eqb (number_of r) 2) (eqb (number_of r) 8) _ _ _ (subst (λ a. Refuses (file_has file) (refusal_in a)) told (reader_refuses_faults file))
  where
    kinds : List ℕ
    kinds = kinds_in (entries_in file) file

    -- of a size, of the length, of the room that is not asked for, of an entry
    go : (one two eight a b c : Bool)
        → cond one (not (get_or (sizes_kept (sizes_in file) (entries_in file)) (place_of r) true)) (cond two (eqb (place_of r) 0 && a) (cond eight (eqb (place_of r) 0 && b) (ltb (place_of r) (length kinds) && c))) ≡ true
        → place_of r < 4294967296
    go true two eight a b c p = omega (arith, inside (sizes_kept (sizes_in file) (entries_in file)) (place_of r) p)
    go false true eight a b c p = omega (arith, eqb-true (place_of r) 0 (and_left (eqb (place_of r) 0) a p))
    go false false true a b c p = omega (arith, eqb-true (place_of r) 0 (and_left (eqb (place_of r) 0) b p))
    go false false false a b c p =
        omega (arith, ltb-true (place_of r) (length kinds) (and_left (ltb (place_of r) (length kinds)) c p), length-kinds_in (entries_in file) file, entries_fit file bytes)
