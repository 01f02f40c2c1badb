-- What alike means (`specs/Alike.antt`): the tests of sizes and of answers are equality, and the test of every party's answers passes exactly where each party's does.
use mathlib.Core.Path.{◌≡◌, sym, ◌∙◌}
use mathlib.Core.Bool.{Bool, true, false, ◌&&◌}
use Prim.Native.Nat.{ℕ, ◌+◌}
use Rattle.std.proofs.Common.{Ok}
use Rattle.terms.proofs.Laws.Tests.{and_left, and_right}
use Rattle.terms.proofs.Laws.Lists.{all_below_lem, all_range}
use Rattle.comparison.specs.Alike.{AlikeExactly, Equals, answers_of, likeness, likeness_of, same_answers, same_lines, same_sizes}
use Rattle.comparison.proofs.Laws.Alike.{equal_lines, equal_sizes, same_lines_lem, same_sizes_lem}

pub alike_exactly : AlikeExactly
alike_exactly first second s t n m read other-read = (equals, alike, λ differ. unlike differ (same_sizes s t && same_answers s.thieves first second) by_tests)
  where
    by_tests : likeness first second ≡ Ok (same_sizes s t && same_answers s.thieves first second)
    by_tests = λ i. likeness_of first second (read i) (other-read i)

    same_for_lem : ℕ → Bool
    same_for_lem party = same_lines (answers_of party first) (answers_of party second)

    equals : likeness first second ≡ Ok true → Equals first second s t
    equals e =
        let told = sym by_tests ∙ e in
        let both : (same_sizes s t && same_answers s.thieves first second) ≡ true = cc in
        let All-same = and_right (same_sizes s t) (same_answers s.thieves first second) both in
        record {
          sizes = same_sizes_lem s t (and_left (same_sizes s t) (same_answers s.thieves first second) both);
          answers = λ party h. same_lines_lem (answers_of party first) (answers_of party second) (all_range same_for_lem (s.thieves + 1) party All-same h);
        }

    alike : Equals first second s t → likeness first second ≡ Ok true
    alike e =
        let sizes = equal_sizes s t e.sizes in
        let answers = all_below_lem same_for_lem (s.thieves + 1) (λ party h. equal_lines (answers_of party first) (answers_of party second) (e.answers party h)) in
        by_tests ∙ (λ i. Ok (sizes i && answers i))

    unlike : (Equals first second s t → ⊥) → (b : Bool) → likeness first second ≡ Ok b → likeness first second ≡ Ok false
    unlike differ true e = absurd (differ (equals e))
    unlike differ false e = e
