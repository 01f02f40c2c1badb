-- within the ranges the place is in the chart, and what stands there agrees with the division
use Rattle.std.proofs.Common.{◌≡◌, ◌∙◌, ap, sym, true, get_or}
use Rattle.terms.specs.Sizes.{needed_margin}
use Rattle.terms.proofs.Laws.Tests.{by_test, known}
use Rattle.chart.specs.Chart.{is_charted, place_of}
use Rattle.chart.proofs.Agreement.{each_agrees}
use Rattle.chart.proofs.margins.charted_margin.Goals as goal

pub returns-then-is_charted : goal.returns-then-is_charted
returns-then-is_charted c =
    let a = c.args in
    let p : is_charted a.buffer a.spacing ≡ true = known c.is_charted.ensures c.if-is_charted.true in
    ap (λ l. get_or l (place_of a.buffer a.spacing) 0) c.chart.ensures
    ∙ each_agrees.agrees a.buffer a.spacing p
    ∙ sym (by_test (needed_margin a.buffer a.spacing) 0 p)
