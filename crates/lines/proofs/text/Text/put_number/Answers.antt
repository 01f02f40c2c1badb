use Rattle.std.proofs.Common.{◌≤◌, length, sym, arith}
use Rattle.lines.specs.Text.{digit, units}
use Rattle.lines.proofs.Laws.Text.{appends_as, appends_more, concat_map_more}
use Rattle.lines.proofs.text.Text.put_number.Goals as goal

pub loop-unit-preserved : goal.loop-unit-preserved
loop-unit-preserved c =
    let a = c.args in
    let inside : a.self.now.length ≤ length a.self.now.bytes = omega arith in
    appends_as (sym (concat_map_more (digit a.n) units 0 c.loop-unit.unit-index c.loop-unit-test.true))
    (appends_more c.loop-unit.invariant c.put_digit.ensures inside)
