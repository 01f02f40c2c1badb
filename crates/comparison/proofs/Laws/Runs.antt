-- Laws of a run that is compared: the lines of a party in the bytes of its trace are the party's answers.
use mathlib.Core.Path.{◌≡◌, refl, ap, sym, ◌∙◌}
use mathlib.Core.Bool.{Bool, true, cond, ◌&&◌}
use mathlib.Core.List.{List, [], ◌∷◌, map}
use Prim.Native.Nat.{ℕ, suc, ◌+◌, ◌<◌}
use native.Mathlib.Nat.{suc_inj, suc-ne-zero}
use native.Mathlib.Omega.{arith}
use lib.Dec.{eqb}
use lib.ListN.{length, get_or}
use Rattle.std.proofs.Common.{filter}
use Rattle.terms.specs.declared.outcome.Outcome.TheVariants.{Moved}
use Rattle.terms.specs.Outcome.{is_answer, is_answer_number, value_of}
use Rattle.terms.specs.Kinds.{party_number}
use Rattle.terms.specs.Lists.{range_from}
use Rattle.terms.proofs.Laws.Tests.{cond_map}
use Rattle.number.specs.Number.{overwritten}
use Rattle.machine.specs.Linearizable.{ff_the}
use Rattle.machine.specs.Machine.{fresh}
use Rattle.schedule.specs.Format.{all_below, words_in}
use Rattle.schedule.specs.Run.{entries_of, outcomes_from}
use Rattle.schedule.specs.Trace.{line_in, line_of, trace_of}
use Rattle.schedule.proofs.Laws.Run.{entry_there, length_entries_up_to, length-outcomes_of, line_there}
use Rattle.comparison.specs.Types.{Drain, Entry, Outcome, Run, Sizes}
use Rattle.comparison.specs.Alike.{answers_for}
use Rattle.comparison.specs.Comparison.{RunOf, answered, line_at, lines_for}

-- what a function gives at the elements that pass
passing : {A B : Type 0} (f : A → B) (test : A → Bool) (x : A) (l : List A) {b : Bool} {y : B} → test x ≡ b → f x ≡ y → map f (filter test (x ∷ l)) ≡ cond b (y ∷ map f (filter test l)) (map f (filter test l))
passing f test x l {b} {y} e p = (λ i. map f (cond (e i) (x ∷ filter test l) (filter test l))) ∙ sym (cond_map (map f) b refl refl) ∙ (λ i. cond b (p i ∷ map f (filter test l)) (map f (filter test l)))

-- a run of two arrays, whose values fit four bytes, and the buffer that its trace was written into
module _ (r : Run) (l : List ℕ) where
  abbrev s : Sizes
  s = r.sizes

  abbrev kinds : List ℕ
  kinds = r.kinds.now

  abbrev operands : List ℕ
  operands = words_in r.operands.now

  abbrev os : List Outcome
  os = outcomes_from s kinds operands

  module _ (fit : all_below 4294967296 (map value_of os) ≡ true) (written : r.trace.now ≡ overwritten 0 (trace_of os) l) (party : ℕ) where
    -- the line of an entry
    line_told : (at : ℕ) → at < length kinds → line_at r at ≡ line_of (get_or os at Moved)
    unfolding line_at
    line_told at there = ap (λ t. line_in (length kinds) t at) written ∙ line_there ff_the s kinds operands l fit at there

    -- whether an entry gets an answer for the party
    answered_there : (at : ℕ) → at < length kinds
        → answered party r at ≡ (is_answer (get_or os at Moved) && eqb (party_number (get_or (entries_of s kinds operands) at Drain)) party)
    unfolding answered
    answered_there at there = λ i. is_answer_number (line_told at there i).number && eqb (party_number (sym (entry_there s kinds operands at there) i)) party

    -- from a place on, where the entries and the outcomes from there on are known
    answers_from : (es : List Entry) (os' : List Outcome) (at : ℕ) → length es ≡ length os' → at + length es ≡ length kinds
        → ((i k : ℕ) → k ≡ at + i → (get_or es i Drain ≡ get_or (entries_of s kinds operands) k Drain) × (get_or os' i Moved ≡ get_or os k Moved))
        → map (line_at r) (filter (answered party r) (range_from at (length es))) ≡ answers_for party es os'
    answers_from [] os' at long end each = refl
    answers_from (e ∷ es) [] at long end each = absurd (suc-ne-zero (length es) long)
    answers_from (e ∷ es) (o ∷ os') at long end each =
        let there : at < length kinds = omega arith in
        let here = each 0 at (omega arith) in
        let line = line_told at there ∙ ap line_of (sym here.1) in
        let test = answered_there at there ∙ (λ i. is_answer (sym here.1 i) && eqb (party_number (sym here.0 i)) party) in
        let rest = answers_from es os' (suc at) (suc_inj long) (omega arith) (λ i k p. each (suc i) k (omega arith)) in
        passing (line_at r) (answered party r) at (range_from (suc at) (length es)) test line
        ∙ ap (λ m. cond (is_answer o && eqb (party_number e) party) (line_of o ∷ m) m) rest

    -- the lines that are compared are the party's answers
    lines_of_run : lines_for party r ≡ answers_for party (entries_of s kinds operands) os
    lines_of_run =
        let count = length_entries_up_to s kinds operands (length kinds) in
        ap (λ k. map (line_at r) (filter (answered party r) (range_from 0 k))) (sym count)
        ∙ answers_from (entries_of s kinds operands) os 0 (sym (length-outcomes_of ff_the (fresh s) (entries_of s kinds operands))) (omega (arith, count))
        (λ i k p. let same : i ≡ k = omega arith in (ap (λ j. get_or (entries_of s kinds operands) j Drain) same, ap (λ j. get_or os j Moved) same))

-- so a run is one of its schedule
pub run_of : (r : Run) (l : List ℕ) → all_below 4294967296 (map value_of (outcomes_from r.sizes r.kinds.now (words_in r.operands.now))) ≡ true
    → r.trace.now ≡ overwritten 0 (trace_of (outcomes_from r.sizes r.kinds.now (words_in r.operands.now))) l → RunOf r.sizes r.kinds.now r.operands.now r
run_of r l fit written = record { sizes = refl; answers = lines_of_run r l fit written }
