-- What is refused has the fault that is given, and what has a fault is refused: by the reader, and where a file is run.
use mathlib.Core.Path.{◌≡◌, refl, ap, sym, ◌∙◌, subst}
use mathlib.Core.Bool.{Bool, true, false, cond, and-false, not, ◌&&◌, ◌||◌, false≢true}
use mathlib.Core.List.{List}
use Prim.Native.Nat.{ℕ, zero, suc, ◌+◌, ◌*◌, ◌≤◌, ◌<◌}
use native.Mathlib.Omega.{arith}
use lib.Dec.{eqb, ltb}
use lib.ListN.{get_or, length}
use borrow.Author.Tests.{eq-eqb, eqb-true, le-ltb, ltb-false, ltb-true}
use Rattle.std.proofs.Common.{Result, Ok, Err}
use Rattle.claim.specs.Implementation.{Implementation}
use Rattle.schedule.specs.Types.{Entry, Refusal, Short, Sizes, Summary}
use Rattle.schedule.specs.Check.{check_ranges}
use Rattle.schedule.specs.Entries.{check_entries, check_of, entry_at}
use Rattle.schedule.specs.Faults.{ReaderRefusesFaults, RefusedRunUntouched, RunnerRefusesFaults}
use Rattle.schedule.specs.Faults.{entry_has, fault_at, faults_of, file_has, run_has}
use Rattle.terms.specs.Refusal.{Refuses, number_of, place_of, refusal_in}
use Rattle.terms.proofs.Laws.Tests.{decide, either}
use Rattle.schedule.specs.Format.{entries_in, kinds_in, operands_in, sizes_in}
use Rattle.schedule.specs.Reader as reader
use Rattle.schedule.specs.Run.{outcomes_in_by, running_by, trace_if}
use Rattle.schedule.specs.Trace.{trace_length, trace_of}
use Rattle.schedule.proofs.Laws.Reader.{accepted_readable, refused_reading}
use Rattle.schedule.proofs.Laws.Check.{fail_if_failed}
use Rattle.schedule.proofs.Laws.Check.{ranges_failed, ranges_passed, range_failed}
use Rattle.schedule.proofs.FirstFault.{entry_told, none_faulty}
use Rattle.schedule.proofs.Laws.Entries.{entry_at_no_operand}
use Rattle.schedule.proofs.Laws.Format.{length-kinds_in, length-operands_in}

-- ── What reader and writer share ────────────────────────────────────────────────────────────────────────────────────────────

-- whether there is the fault that a refusal tells, by its number and its place
abbrev pub has_fault : Sizes → ℕ → List ℕ → List ℕ → Bool → Bool → Refusal → Bool
has_fault s entries kinds operands wrongLength no_room r = fault_at s entries kinds operands wrongLength no_room (number_of r) (place_of r)

module _ (s : Sizes) (entries : ℕ) (kinds operands : List ℕ) (wrongLength no_room : Bool) where
  -- what the check of the sizes tells is a fault of the sizes
  pub ranges_fault : (r : Refusal) → check_ranges s entries ≡ Err r → has_fault s entries kinds operands wrongLength no_room r ≡ true
  ranges_fault r e = let found = ranges_failed s entries r e in rw (found.1.0, found.1.1)

  -- a fault of an entry is one: it has none of the numbers 1, 2 and 8
  entry_has_lem : (number place : ℕ) → entry_has s kinds operands number place ≡ true → fault_at s entries kinds operands wrongLength no_room number place ≡ true
  entry_has_lem number place e =
      decide (λ b. b ≡ true) (eqb number 1) (λ one. absurd (other 1 one refl))
      (λ not-one.
      decide (λ b. b ≡ true) (eqb number 2) (λ two. absurd (other 2 two refl))
      (λ not-two. decide (λ b. b ≡ true) (eqb number 8) (λ eight. absurd (other 8 eight refl)) (λ not_eight. e)))
    where
      other : (k : ℕ) → eqb number k ≡ true → entry_has s kinds operands k place ≡ (ltb place (length kinds) && false) → ⊥
      other k same none = false≢true (sym (and-false (ltb place (length kinds))) ∙ sym none ∙ subst (λ n. entry_has s kinds operands n place ≡ true) (eqb-true number k same) e)

  -- what the check of an entry tells is a fault of this entry, or that the operands end before it
  entry_fault : (r : Refusal) → ((at : ℕ) → at < length kinds → length operands ≤ at → wrongLength ≡ true)
      → (at : ℕ) → at < length kinds → check_of (entry_at s kinds operands at) ≡ Err r
      → has_fault s entries kinds operands wrongLength no_room r ≡ true
  entry_fault r ends at inside e = go (ltb at (length operands)) refl
    where
      go : (there : Bool) → ltb at (length operands) ≡ there → has_fault s entries kinds operands wrongLength no_room r ≡ true
      go true p = entry_has_lem (number_of r) (place_of r) (entry_told s kinds operands at inside (ltb-true at (length operands) p) r e).0
      go false p =
          let past = ltb-false at (length operands) p in
          let told = sym e ∙ ap check_of (entry_at_no_operand s kinds operands at inside past) in
          let same : r ≡ Short = cc in
          rw same (ends at inside past)

  pub entries_fault : (r : Refusal) → ((at : ℕ) → at < length kinds → length operands ≤ at → wrongLength ≡ true)
      → check_entries s kinds operands ≡ Err r → has_fault s entries kinds operands wrongLength no_room r ≡ true
  entries_fault r ends e =
      let found = range_failed (λ at. check_of (entry_at s kinds operands at)) (length kinds) r e in
      entry_fault r ends found.0 found.1.0 found.1.1.0

  -- what passed every check has no fault
  pub no_fault_at : check_ranges s entries ≡ Ok tt → wrongLength ≡ false → check_entries s kinds operands ≡ Ok tt → no_room ≡ false
      → (number place : ℕ) → fault_at s entries kinds operands wrongLength no_room number place ≡ false
  no_fault_at ranges as_long each room number place =
      either (λ b. b ≡ false) (eqb number 1) (rw (ranges_passed s entries ranges place))
      (either (λ b. b ≡ false) (eqb number 2) (rw (as_long, and-false))
      (either (λ b. b ≡ false) (eqb number 8) (rw (room, and-false)) (none_faulty s kinds operands each number place)))

-- ── The reader ──────────────────────────────────────────────────────────────────────────────────────────────────────────────

or_right : (a : Bool) {b : Bool} → b ≡ true → (a || b) ≡ true
or_right true p = refl
or_right false p = p

or_neither : {a b : Bool} → a ≡ false → b ≡ false → (a || b) ≡ false
or_neither p q = rw (p, q)

-- a file is not as long as it should be
abbrev wrong : List ℕ → Bool
wrong file = ltb (length file) 28 || not (eqb (length file) (28 + 5 * entries_in file))

-- whatever a file's check failed with is a fault that it has
check_fault : (file : List ℕ) (r : Refusal) (i : ℕ) → get_or (reader.reading_checks file) i (Ok tt) ≡ Err r → file_has file (number_of r) (place_of r) ≡ true
check_fault file r zero e =
    let found = fail_if_failed (ltb (length file) 28) Short e in rw (found.1, found.0)
check_fault file r (suc zero) e =
    let n = entries_in file in
    ranges_fault (sizes_in file) n (kinds_in n file) (operands_in n file) (wrong file) false r e
check_fault file r (suc (suc zero)) e =
    let found = fail_if_failed (not (eqb (length file) (28 + 5 * entries_in file))) Short e in
    rw found.1 (or_right (ltb (length file) 28) found.0)
check_fault file r (suc (suc (suc zero))) e =
    let n = entries_in file in
    entries_fault (sizes_in file) n (kinds_in n file) (operands_in n file) (wrong file) false r
    (λ at inside ends. absurd (omega (arith, length-kinds_in n file, length-operands_in n file))) e
check_fault file r (suc (suc (suc (suc i)))) e = cc

pub reader_refuses_faults : ReaderRefusesFaults
reader_refuses_faults file = go (reader.read_file file) refl
  where
    go : (answer : Result (Sizes × ℕ) Refusal) → reader.read_file file ≡ answer → Refuses (file_has file) (refusal_in answer)
    go (Err r) e = let found = refused_reading file r e in check_fault file r found.0 found.1
    go (Ok (s, entries)) e =
        let n = entries_in file in
        let p = (accepted_readable file s entries e).1.1 in
        let there = le-ltb (length file) 28 (omega (arith, p.long)) in
        let as_long = or_neither there (ap not (eq-eqb (length file) (28 + 5 * n) p.long)) in
        no_fault_at (sizes_in file) n (kinds_in n file) (operands_in n file) (wrong file) false p.ranges as_long p.each refl

-- what `read` promises, of the answer that it hands back
pub read_promises : (file : List ℕ) (answer : Result (Sizes × ℕ) Refusal) → answer ≡ reader.read_file file
    → (answer ≡ reader.read_file file) × Refuses (file_has file) (refusal_in answer)
read_promises file answer told = (told, subst (λ r. Refuses (file_has file) (refusal_in r)) (sym told) (reader_refuses_faults file))

-- ── Running ─────────────────────────────────────────────────────────────────────────────────────────────────────────────────

-- a fault that a file has when it is read, it has for whoever lends a buffer
pub still_fault : (file : List ℕ) (no_room : Bool) (number place : ℕ) → file_has file number place ≡ true → faults_of file no_room number place ≡ true
still_fault file no_room number place e = go (eqb number 1) (eqb number 2) (eqb number 8) _ _ _ e
  where
    go : (one two eight a b c : Bool) → cond one a (cond two b (cond eight (eqb place 0 && false) c)) ≡ true → cond one a (cond two b (cond eight (eqb place 0 && no_room) c)) ≡ true
    go true two eight a b c p = p
    go false true eight a b c p = p
    go false false true a b c p = absurd (false≢true (sym (and-false (eqb place 0)) ∙ p))
    go false false false a b c p = p

pub runner_refuses_faults : {M : Type 0} (b : Implementation M Entry) → RunnerRefusesFaults b
runner_refuses_faults b file room = go (reader.read_file file) refl (reader_refuses_faults file)
  where
    small : ℕ → Bool
    small n = ltb room (trace_length n)

    go : (answer : Result (Sizes × ℕ) Refusal) → reader.read_file file ≡ answer → Refuses (file_has file) (refusal_in (reader.read_file file)) → Refuses (run_has file room) (refusal_in (running_by b file room answer))
    go (Err r) e faults = still_fault file (small (entries_in file)) (number_of r) (place_of r) (subst (λ a. Refuses (file_has file) (refusal_in a)) e faults)
    go (Ok (s, n)) e faults =
        decide (λ (a : Result Summary Refusal). Refuses (run_has file room) (refusal_in a)) (small n)
        (λ full. ap small same ∙ full)
        (λ fits number place. ap (λ no_room. faults_of file no_room number place) (ap small same ∙ fits) ∙ subst (λ a. Refuses (file_has file) (refusal_in a)) e faults number place)
      where
        same : entries_in file ≡ n
        same = sym (accepted_readable file s n e).1.0

pub refused_run_untouched : {M : Type 0} (b : Implementation M Entry) → RefusedRunUntouched b
refused_run_untouched b file trace r e = ap (trace_if (trace_of (outcomes_in_by b file)) trace) e
