-- the digits at the places so far are put
use Rattle.std.proofs.Common.{take}
use Rattle.terms.specs.Lists.{concat_map}
use Rattle.lines.specs.Appends.{Appends}
use Rattle.lines.specs.Text.{digit, units}
use Rattle.lines.proofs.text.Text.put_number.Given as goal

abbrev pub invariant-loop-unit : goal.invariant-loop-unit
invariant-loop-unit l = Appends l.unit-index (concat_map (digit l.n) (take l.unit-index units)) l.initial.self l.self
