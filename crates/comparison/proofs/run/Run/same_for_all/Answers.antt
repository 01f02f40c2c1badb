-- the iterator gives each party, and stops at the first that gets other answers
use Rattle.std.proofs.Common.{arith, ◌≡◌, ◌+◌, refl, true, false, rules}
use borrow.Author.Tests.{tests}
use Rattle.std.proofs.lemmas.Iterator.{YieldsList-from_range, cases_from_all}
use Rattle.comparison.specs.Comparison.{same_for}
use Rattle.comparison.proofs.Laws.Comparison.{all_passed}
use Rattle.comparison.proofs.run.Run.same_for_all.Goals as goal

pub returns : goal.returns
returns c =
    let one = c.args.self.now in
    let two = c.args.other.now in
    all_passed (same_for one two) (one.sizes.thieves + 1) c.all.result
    (cases_from_all _ _ _ (λ party. same_for one two party ≡ true) (λ party. same_for one two party ≡ false) c.all.ensures.ran (YieldsList-from_range 0 (one.sizes.thieves + 1) (one.sizes.thieves + 1) refl (omega arith)) (λ x q k. search (rules, tests)) (λ x q k. search (rules, tests)))
