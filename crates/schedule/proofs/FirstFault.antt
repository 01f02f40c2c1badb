-- The first faulty entry is told, exactly when there is one (`specs/Faults.antt`).
use mathlib.Core.Path.{◌≡◌, refl, ap, subst, sym, ◌∙◌}
use mathlib.Core.Bool.{Bool, true, false, cond, not, ◌&&◌, false≢true}
use mathlib.Core.List.{List}
use Prim.Native.Nat.{ℕ, ◌<◌}
use native.Mathlib.Omega.{arith}
use lib.Dec.{eqb, ltb}
use lib.ListN.{get_or, length}
use borrow.Author.Tests.{eqb-true, le-leb, lt-leb, lt-ltb, ltb-false, ltb-true}
use Rattle.std.proofs.Common.{Result, Ok, Err}
use Rattle.terms.specs.Refusal.{number_of, place_of}
use Rattle.terms.proofs.Laws.Tests.{and_left, by_test, either}
use Rattle.schedule.specs.Types.{Kind, Refusal, Sizes, Who}
use Rattle.schedule.specs.Entries.{check_entries, check_of, check_parts, entry_at}
use Rattle.schedule.specs.Faults.{CheckTellsFirstFault, PartsTellFirstFault, TellsFirstFault, entry_has, operand_allowed}
use Rattle.schedule.specs.Format.{words_in}
use Rattle.schedule.proofs.Laws.Check.{first_stops, range_all, range_failed}
use Rattle.schedule.proofs.Laws.Entries.{entries_passed, entry_passed, entry_at_check, parts_apart, parts_together}
use Rattle.schedule.proofs.Laws.Format.{length_words_in}

-- ── One entry ───────────────────────────────────────────────────────────────────────────────────────────────────────────────

-- a refusal with this number and this place is what a check failed with
abbrev Told : Result Unit Refusal → ℕ → ℕ → Type 0
Told c number place = (r : Refusal) × ((c ≡ Err r) × ((number_of r ≡ number) × (place_of r ≡ place)))

module _ (s : Sizes) (kinds operands : List ℕ) (at : ℕ) (inside : at < length kinds) where
  abbrev past : Bool
  past = ltb 6 (get_or kinds at 0)

  abbrev allowed : Bool
  allowed = operand_allowed s.thieves (get_or kinds at 0) (get_or operands at 0)

  -- its faults, by two tests: that of its kind and that of its operand
  has : (number : ℕ) (p a : Bool) → past ≡ p → allowed ≡ a
      → entry_has s kinds operands number at ≡ cond (eqb number 3) p (cond (eqb number 4) (not p && not a) false)
  has number true a past-6 found =
      λ i. lt-ltb at (length kinds) inside i
      && cond (eqb number 3) (past-6 i) (cond (eqb number 4) (lt-leb (get_or kinds at 0) 6 (ltb-true 6 (get_or kinds at 0) past-6) i && not (found i)) false)
  has number false a past-6 found =
      λ i. lt-ltb at (length kinds) inside i
      && cond (eqb number 3) (past-6 i) (cond (eqb number 4) (le-leb (get_or kinds at 0) 6 (ltb-false 6 (get_or kinds at 0) past-6) i && not (found i)) false)

  -- an entry that passed has none
  pub entry_clean : check_of (entry_at s kinds operands at) ≡ Ok tt → (number : ℕ) → entry_has s kinds operands number at ≡ false
  entry_clean passed number =
      let clean = entry_passed s kinds operands at inside passed in
      has number false true clean.0 clean.1
      ∙ either (λ b. b ≡ false) (eqb number 3) refl (either (λ b. b ≡ false) (eqb number 4) refl refl)

  module _ (there : at < length operands) where
    by_tests : check_of (entry_at s kinds operands at) ≡ cond past (Err (Kind at)) (cond allowed (Ok tt) (Err (Who at)))
    by_tests = entry_at_check s kinds operands at inside ∙ by_test _ _ (lt-ltb at (length operands) there)

    -- the refusal of one that failed tells a fault that it has
    pub entry_told : (r : Refusal) → check_of (entry_at s kinds operands at) ≡ Err r
        → (entry_has s kinds operands (number_of r) (place_of r) ≡ true) × (place_of r ≡ at)
    entry_told r e = go past allowed refl refl (sym by_tests ∙ e)
      where
        go : (p a : Bool) → past ≡ p → allowed ≡ a → cond p (Err (Kind at)) (cond a (Ok (tt {0})) (Err (Who at))) ≡ Err r
            → (entry_has s kinds operands (number_of r) (place_of r) ≡ true) × (place_of r ≡ at)
        go true a past-6 found failed = let same : r ≡ Kind at = cc in rw same (has 3 true a past-6 found, refl)
        go false true past-6 found failed = cc
        go false false past-6 found failed = let same : r ≡ Who at = cc in rw same (has 4 false false past-6 found, refl)

    -- and a fault that it has, it fails with
    pub entry_found : (number : ℕ) → entry_has s kinds operands number at ≡ true → Told (check_of (entry_at s kinds operands at)) number at
    entry_found number e = go past allowed refl refl (eqb number 3) (eqb number 4) refl refl
      where
        go : (p a : Bool) → past ≡ p → allowed ≡ a → (three four : Bool) → eqb number 3 ≡ three → eqb number 4 ≡ four
            → Told (check_of (entry_at s kinds operands at)) number at
        go true a past-6 found true four is-3 is-4 =
            (Kind at, (by_tests ∙ by_test _ _ past-6, (sym (eqb-true number 3 is-3), refl)))
        go true a past-6 found false four is-3 is-4 =
            absurd (false≢true (sym (has number true a past-6 found ∙ (λ i. cond (is-3 i) true (cond (eqb number 4) false false)) ∙ either (λ b. b ≡ false) (eqb number 4) refl refl) ∙ e))
        go false a past-6 found true four is-3 is-4 =
            absurd (false≢true (sym (has number false a past-6 found ∙ by_test _ _ is-3) ∙ e))
        go false a past-6 found false false is-3 is-4 =
            absurd (false≢true (sym (has number false a past-6 found ∙ (λ i. cond (is-3 i) false (cond (is-4 i) (not a) false))) ∙ e))
        go false true past-6 found false true is-3 is-4 =
            absurd (false≢true (sym (has number false true past-6 found ∙ (λ i. cond (is-3 i) false (cond (is-4 i) false false))) ∙ e))
        go false false past-6 found false true is-3 is-4 =
            (Who at, (by_tests ∙ (λ i. cond (past-6 i) (Err (Kind at)) (cond (found i) (Ok tt) (Err (Who at)))), (sym (eqb-true number 4 is-4), refl)))

-- ── All entries ─────────────────────────────────────────────────────────────────────────────────────────────────────────────

-- entries that all passed have no fault
pub none_faulty : (s : Sizes) (kinds operands : List ℕ) → check_entries s kinds operands ≡ Ok tt → (number place : ℕ) → entry_has s kinds operands number place ≡ false
none_faulty s kinds operands passed number place = go (ltb place (length kinds)) refl
  where
    go : (b : Bool) → ltb place (length kinds) ≡ b → entry_has s kinds operands number place ≡ false
    go true p =
        let inside = ltb-true place (length kinds) p in
        entry_clean s kinds operands place inside (entries_passed s kinds operands passed place inside) number
    go false p = rw p

module _ (s : Sizes) (kinds operands : List ℕ) (parallel : length operands ≡ length kinds) where
  abbrev check_at : ℕ → Result Unit Refusal
  check_at at = check_of (entry_at s kinds operands at)

  -- an entry without a fault passed
  clean_passed : (at : ℕ) → at < length kinds → ((number : ℕ) → entry_has s kinds operands number at ≡ false) → check_at at ≡ Ok tt
  clean_passed at inside clean = go (check_at at) refl
    where
      go : (c : Result Unit Refusal) → check_at at ≡ c → check_at at ≡ Ok tt
      go (Ok _) e = e
      go (Err r) e =
          let told = entry_told s kinds operands at inside (omega arith) r e in
          absurd (false≢true (sym (clean (number_of r)) ∙ ap (entry_has s kinds operands (number_of r)) (sym told.1) ∙ told.0))

  -- a fault is that of an entry that is there
  fault_inside : (number place : ℕ) → entry_has s kinds operands number place ≡ true → place < length kinds
  fault_inside number place e = ltb-true place (length kinds) (and_left (ltb place (length kinds)) _ e)

  tells : TellsFirstFault s kinds operands (check_entries s kinds operands)
  tells =
      record {
        told = λ r e.
            let found = range_failed check_at (length kinds) r e in
            let fault = entry_told s kinds operands found.0 found.1.0 (omega (arith, found.1.0)) r found.1.1.0 in
            record {
              here = fault.0;
              none_before = λ other before h.
                  entry_clean s kinds operands before (omega (arith, found.1.0, fault.1)) (found.1.1.1 before (omega (arith, fault.1))) other;
            };
        found = λ number place first.
            let inside = fault_inside number place first.here in
            let here = entry_found s kinds operands place inside (omega arith) number first.here in
            let before = range_all check_at place (λ j h. clean_passed j (omega arith) (λ n. first.none_before n j h)) in
            (here.0, (first_stops check_at (length kinds) place here.0 inside before here.1.0, here.1.1));
        passed = none_faulty s kinds operands;
      }

pub check_tells_first_fault : CheckTellsFirstFault
check_tells_first_fault = tells

-- what `check_entries` promises, of the answer that it hands back
pub check_promises : (s : Sizes) (kinds bytes : List ℕ) (answer : Result Unit Refusal) → answer ≡ check_parts s kinds bytes → (answer ≡ check_parts s kinds bytes) × PartsTellFirstFault s kinds bytes answer
check_promises s kinds bytes answer told = (
  told,
  record {
    together = λ whole.
        let parallel : length (words_in bytes) ≡ length kinds = rw length_words_in (omega arith) in
        subst (TellsFirstFault s kinds (words_in bytes)) (sym (told ∙ parts_together s kinds bytes whole)) (check_tells_first_fault s kinds (words_in bytes) parallel);
    apart = λ apart. told ∙ parts_apart s kinds bytes apart;
  },
)
