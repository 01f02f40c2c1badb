-- Laws of entries: what the check of one says, where it lies in two arrays, and a search for the first faulty one.
use mathlib.Core.Path.{◌≡◌, refl, ap, subst, sym, ◌∙◌}
use mathlib.Core.Bool.{Bool, true, false, cond, not}
use mathlib.Core.List.{List, [], ◌∷◌, map}
use Prim.Native.Nat.{ℕ, zero, suc, ◌+◌, ◌*◌, ◌/◌, ◌≤◌, ◌<◌, zero-le}
use native.Mathlib.Omega.{arith}
use lib.Dec.{eqb, ltb}
use lib.ListN.{length, get_or, get_or-eq_default}
use borrow.Author.Tests.{eq-eqb, eqb-true, le-ltb, lt-ltb, ltb-false, ltb-true, ne_eqb}
use Rattle.std.proofs.Common.{Result, Ok, Err}
use Rattle.terms.specs.Kinds.{allowed_if, entry_of, kind_of, operand_of, party_number}
use Rattle.terms.proofs.Laws.Tests.{cond_map}
use Rattle.terms.specs.Lists.{range}
use Rattle.terms.proofs.Laws.Lists.{all_each}
use Rattle.schedule.specs.Types.{BeginPut, BeginSteal, BeginTake, ClientStore, Drain, Entry, ThiefStep, WorkerStep}
use Rattle.schedule.specs.Types.{Kind, Refusal, Short, Sizes, Who}
use Rattle.number.specs.Number.{word_at}
use Rattle.number.proofs.Laws.Words.{word_there}
use Rattle.schedule.specs.Check.{fail_if, first}
use Rattle.schedule.specs.Format.{all_below, words_in}
use Rattle.schedule.specs.Entries.{check_entries, check_of, check_parts, entry_at}
use Rattle.schedule.specs.Faults.{operand_allowed}
use Rattle.schedule.proofs.Laws.Check.{first_more, first_one, first_stops, range_passed}
use Rattle.schedule.proofs.Laws.Format.{get_d_words, length_words_in}

-- ── What the check of an entry says ─────────────────────────────────────────────────────────────────────────────────────────

-- the check of an allowed or refused operand
allowed_check : (allowed : Bool) (place : ℕ) (entry : Entry) → check_of (allowed_if allowed place entry) ≡ cond allowed (Ok tt) (Err (Who place))
allowed_check allowed place entry = sym (cond_map check_of allowed refl refl)

-- the check of an entry: a kind past 6 is KIND, and an operand that is not allowed WHO
pub entry_check : (thieves place kind operand : ℕ)
    → check_of (entry_of thieves place kind operand)
    ≡ cond (ltb 6 kind) (Err (Kind place)) (cond (operand_allowed thieves kind operand) (Ok tt) (Err (Who place)))
entry_check thieves place zero operand = allowed_check (eqb operand 0) place Drain
entry_check thieves place (suc zero) operand = allowed_check (eqb operand 0) place ClientStore
entry_check thieves place (suc (suc zero)) operand = refl
entry_check thieves place (suc (suc (suc zero))) operand = allowed_check (eqb operand 0) place BeginTake
entry_check thieves place (suc (suc (suc (suc zero)))) operand = allowed_check (eqb operand 0) place WorkerStep
entry_check thieves place (suc (suc (suc (suc (suc zero))))) operand = allowed_check (ltb operand thieves) place (BeginSteal operand)
entry_check thieves place (suc (suc (suc (suc (suc (suc zero)))))) operand = allowed_check (ltb operand thieves) place (ThiefStep operand)
entry_check thieves place (suc (suc (suc (suc (suc (suc (suc kind))))))) operand =
    rw (lt-ltb 6 (suc (suc (suc (suc (suc (suc (suc kind))))))) (omega arith))

-- an entry whose check passed is allowed
pub check_allowed : (m : Result Entry Refusal) → check_of m ≡ Ok tt → (entry : Entry) × (m ≡ Ok entry)
check_allowed (Ok entry) e = (entry, refl)
check_allowed (Err r) e = cc

-- an operand that is allowed, and the entry with it
allowed_entry : (allowed : Bool) (place : ℕ) (e : Entry) {f : Entry} → allowed_if allowed place e ≡ Ok f → (allowed ≡ true) × (f ≡ e)
allowed_entry true place e p = (refl, cc)
allowed_entry false place e p = cc

-- an allowed entry has the kind and the operand that it was read from
module _ (thieves place : ℕ) where
  -- one that takes 0 alone ..
  zero_operand : (operand : ℕ) (e : Entry) {f : Entry} → operand_of e ≡ 0 → allowed_if (eqb operand 0) place e ≡ Ok f
      → (kind_of f ≡ kind_of e) × (operand_of f ≡ operand)
  zero_operand operand e none p =
      let found = allowed_entry (eqb operand 0) place e p in
      (ap kind_of found.1, ap operand_of found.1 ∙ none ∙ sym (eqb-true operand 0 found.0))

  -- .. and one that takes a thief
  thief_operand : (operand : ℕ) (e : Entry) {f : Entry} → operand_of e ≡ operand → allowed_if (ltb operand thieves) place e ≡ Ok f
      → (kind_of f ≡ kind_of e) × (operand_of f ≡ operand)
  thief_operand operand e same p = let found = allowed_entry (ltb operand thieves) place e p in (ap kind_of found.1, ap operand_of found.1 ∙ same)

  pub entry_as_read : (kind operand : ℕ) (f : Entry) → entry_of thieves place kind operand ≡ Ok f → (kind_of f ≡ kind) × (operand_of f ≡ operand)
  entry_as_read zero operand f p = zero_operand operand Drain refl p
  entry_as_read (suc zero) operand f p = zero_operand operand ClientStore refl p
  entry_as_read (suc (suc zero)) operand f p = let same : f ≡ BeginPut operand = cc in (ap kind_of same, ap operand_of same)
  entry_as_read (suc (suc (suc zero))) operand f p = zero_operand operand BeginTake refl p
  entry_as_read (suc (suc (suc (suc zero)))) operand f p = zero_operand operand WorkerStep refl p
  entry_as_read (suc (suc (suc (suc (suc zero))))) operand f p = thief_operand operand (BeginSteal operand) refl p
  entry_as_read (suc (suc (suc (suc (suc (suc zero)))))) operand f p = thief_operand operand (ThiefStep operand) refl p
  entry_as_read (suc (suc (suc (suc (suc (suc (suc kind))))))) operand f p = cc

  -- .. and is the worker's, or a thief's that is there
  pub allowed_party : (kind operand : ℕ) (f : Entry) → entry_of thieves place kind operand ≡ Ok f → party_number f ≤ thieves
  allowed_party zero operand f p = omega (arith, ap party_number (allowed_entry (eqb operand 0) place Drain p).1)
  allowed_party (suc zero) operand f p = omega (arith, ap party_number (allowed_entry (eqb operand 0) place ClientStore p).1)
  allowed_party (suc (suc zero)) operand f p = let same : f ≡ BeginPut operand = cc in omega (arith, ap party_number same)
  allowed_party (suc (suc (suc zero))) operand f p = omega (arith, ap party_number (allowed_entry (eqb operand 0) place BeginTake p).1)
  allowed_party (suc (suc (suc (suc zero)))) operand f p = omega (arith, ap party_number (allowed_entry (eqb operand 0) place WorkerStep p).1)
  allowed_party (suc (suc (suc (suc (suc zero))))) operand f p =
      let found = allowed_entry (ltb operand thieves) place (BeginSteal operand) p in omega (arith, ap party_number found.1, ltb-true operand thieves found.0)
  allowed_party (suc (suc (suc (suc (suc (suc zero)))))) operand f p =
      let found = allowed_entry (ltb operand thieves) place (ThiefStep operand) p in omega (arith, ap party_number found.1, ltb-true operand thieves found.0)
  allowed_party (suc (suc (suc (suc (suc (suc (suc kind))))))) operand f p = cc

module _ (s : Sizes) (kinds operands : List ℕ) where
  -- the entry at a place that both arrays have
  pub entry_at_both : (at : ℕ) → at < length kinds → at < length operands
      → entry_at s kinds operands at ≡ entry_of s.thieves at (get_or kinds at 0) (get_or operands at 0)
  entry_at_both at k o = rw (lt-ltb at (length kinds) k, lt-ltb at (length operands) o)

  -- the check of the entry at a place of two arrays: SHORT, where the second ends before it
  pub entry_at_check : (at : ℕ) → at < length kinds
      → check_of (entry_at s kinds operands at)
      ≡ cond (ltb at (length operands))
      (cond (ltb 6 (get_or kinds at 0)) (Err (Kind at))
      (cond (operand_allowed s.thieves (get_or kinds at 0) (get_or operands at 0)) (Ok tt) (Err (Who at))))
      (Err Short)
  entry_at_check at h =
      rw (lt-ltb at (length kinds) h)
      (sym (cond_map check_of (ltb at (length operands)) (sym (entry_check s.thieves at (get_or kinds at 0) (get_or operands at 0))) refl))

  -- where it passed, the kind is none past 6, and the operand is allowed
  pub entry_passed : (at : ℕ) → at < length kinds → check_of (entry_at s kinds operands at) ≡ Ok tt
      → (ltb 6 (get_or kinds at 0) ≡ false) × (operand_allowed s.thieves (get_or kinds at 0) (get_or operands at 0) ≡ true)
  entry_passed at h e =
      go (ltb at (length operands)) (ltb 6 (get_or kinds at 0)) (operand_allowed s.thieves (get_or kinds at 0) (get_or operands at 0))
      (sym (entry_at_check at h) ∙ e)
    where
      go : (there past allowed : Bool) → cond there (cond past (Err (Kind at)) (cond allowed (Ok (tt {0})) (Err (Who at)))) (Err Short) ≡ Ok tt
          → (past ≡ false) × (allowed ≡ true)
      go true true allowed p = cc
      go true false true p = (refl, refl)
      go true false false p = cc
      go false past allowed p = cc

  -- where all entries passed, each did, and its kind is a byte

  pub entries_passed : check_entries s kinds operands ≡ Ok tt
      → (at : ℕ) → at < length kinds → check_of (entry_at s kinds operands at) ≡ Ok tt
  entries_passed e = range_passed (λ at. check_of (entry_at s kinds operands at)) (length kinds) e

  pub entries_bytes : check_entries s kinds operands ≡ Ok tt → all_below 256 kinds ≡ true
  entries_bytes e = all_each (λ n. ltb n 256) kinds 0 (λ i. byte i (ltb i (length kinds)) refl)
    where
      byte : (i : ℕ) (inside : Bool) → ltb i (length kinds) ≡ inside → ltb (get_or kinds i 0) 256 ≡ true
      byte i true p =
          let below = ltb-true i (length kinds) p in
          lt-ltb (get_or kinds i 0) 256 (omega (arith, ltb-false 6 (get_or kinds i 0) (entry_passed i below (entries_passed e i below)).0))
      byte i false p = rw (get_or-eq_default kinds 0 (ltb-false i (length kinds) p))

-- ── One entry of two arrays ─────────────────────────────────────────────────────────────────────────────────────────────────

module _ (s : Sizes) (kinds operands : List ℕ) where
  -- an entry that one of the arrays does not have

  pub entry_at_no_kind : (at : ℕ) → length kinds ≤ at → entry_at s kinds operands at ≡ Err Short
  entry_at_no_kind at past = rw (le-ltb at (length kinds) past)

  pub entry_at_no_operand : (at : ℕ) → at < length kinds → length operands ≤ at → entry_at s kinds operands at ≡ Err Short
  entry_at_no_operand at there past = rw (lt-ltb at (length kinds) there, le-ltb at (length operands) past)

-- an entry whose operand lies in four bytes
pub entry_at_bytes : (s : Sizes) (kinds bytes : List ℕ) (at : ℕ) → at < length kinds → at < length bytes / 4
    → entry_at s kinds (words_in bytes) at ≡ entry_of s.thieves at (get_or kinds at 0) (word_at bytes (4 * at))
entry_at_bytes s kinds bytes at there inside =
    entry_at_both s kinds (words_in bytes) at there (rw length_words_in inside)
    ∙ ap (entry_of s.thieves at (get_or kinds at 0)) (get_d_words (length bytes / 4) at bytes inside ∙ sym (word_there bytes (4 * at) (omega arith)))

-- the check of two parts: where they belong together it is that of the entries, and else SHORT
module _ (s : Sizes) (kinds bytes : List ℕ) where
  pub parts_together : length bytes ≡ 4 * length kinds → check_parts s kinds bytes ≡ check_entries s kinds (words_in bytes)
  parts_together whole =
      (λ i. first (fail_if (not (eq-eqb (length bytes) (4 * length kinds) whole i)) Short ∷ check_entries s kinds (words_in bytes) ∷ []))
      ∙ first_one (check_entries s kinds (words_in bytes))

  pub parts_apart : (length bytes ≡ 4 * length kinds → ⊥) → check_parts s kinds bytes ≡ Err Short
  parts_apart apart = λ i. first (fail_if (not (ne_eqb (length bytes) (4 * length kinds) apart i)) Short ∷ check_entries s kinds (words_in bytes) ∷ [])

-- ── A search for the first faulty entry ─────────────────────────────────────────────────────────────────────────────────────

module _ (s : Sizes) (kinds operands : List ℕ) where
  abbrev check_at : ℕ → Result Unit Refusal
  check_at at = check_of (entry_at s kinds operands at)

  -- no entry before this one is faulty
  abbrev pub NoneBefore : ℕ → Type 0
  NoneBefore at = (at ≤ length kinds) × (first (map check_at (range at)) ≡ Ok tt)

  pub none_before_first : NoneBefore 0
  none_before_first = (zero-le, refl)

  pub none_before_next : (at : ℕ) (entry : Entry) → NoneBefore at → at < length kinds → entry_at s kinds operands at ≡ Ok entry → NoneBefore (at + 1)
  none_before_next at entry none there allowed = (omega arith, first_more check_at at none.1 ∙ ap check_of allowed)

  pub none_at_all : (at : ℕ) → NoneBefore at → length kinds ≤ at → Ok tt ≡ check_entries s kinds operands
  none_at_all at none past =
      let whole : at ≡ length kinds = omega (arith, none.0) in
      sym (subst (λ n. first (map check_at (range n)) ≡ Ok tt) whole none.1)

  pub first_faulty : (at : ℕ) (r : Refusal) → NoneBefore at → at < length kinds → entry_at s kinds operands at ≡ Err r
      → Err r ≡ check_entries s kinds operands
  first_faulty at r none there refused = sym (first_stops check_at (length kinds) at r there none.1 (ap check_of refused))
