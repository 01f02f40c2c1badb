-- each iterator gives the lines of its run, one by one
use Rattle.std.proofs.Common.{arith, ◌∙◌, ℕ, length, map, filter, refl, rules}
use borrow.Author.Tests.{tests}
use Rattle.std.proofs.lemmas.Iterator.{YieldsList-from_map_by, YieldsList-from_range}
use Rattle.std.proofs.lemmas.Iterator.Consumers.{YieldsList-at, YieldsList-from_filter}
use Rattle.comparison.specs.Alike.{same_lines}
use Rattle.comparison.specs.Comparison.{answered, line_at}
use Rattle.schedule.specs.Trace.{Line}
use Rattle.comparison.proofs.Laws.Comparison.{compared, range_list}
use Rattle.comparison.proofs.run.Run.same_for.Goals as goal

line : ℕ × ℕ → Line
line p = record { number = p.0; value = p.1 }

pub returns : goal.returns
unfolding line
returns c =
    let a = c.args in
    let one = a.self.now in
    let two = a.other.now in
    compared _ _ line _ (λ x y. refl) c.eq.result
    (YieldsList-from_map_by _ line (line_at one)
    (YieldsList-at c.map-lines.ensures.source (YieldsList-from_filter _ (answered a.party one) (YieldsList-at c.filter.ensures.source (YieldsList-from_range 0 (length one.kinds.now) (length one.kinds.now) refl (omega arith))) c.filter.ensures.closure (λ x b q k. search (rules, tests))))
    c.map-lines.ensures.closure (λ x r q k. search (rules, tests)))
    (YieldsList-from_map_by _ line (line_at two)
    (YieldsList-at c.map-others.ensures.source (YieldsList-from_filter _ (answered a.party two) (YieldsList-at c.filter-2.ensures.source (YieldsList-from_range 0 (length two.kinds.now) (length two.kinds.now) refl (omega arith))) c.filter-2.ensures.closure (λ x b q k. search (rules, tests))))
    c.map-others.ensures.closure (λ x r q k. search (rules, tests)))
    c.eq.ensures.ran
    ∙ (λ i. same_lines (map (line_at one) (filter (answered a.party one) (range_list 0 (length one.kinds.now) i))) (map (line_at two) (filter (answered a.party two) (range_list 0 (length two.kinds.now) i))))
