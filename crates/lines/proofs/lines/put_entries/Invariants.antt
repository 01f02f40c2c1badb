-- the lines of the entries before `at` are put
use Rattle.std.proofs.Common.{◌*◌}
use Rattle.terms.specs.Lists.{concat_map, range}
use Rattle.lines.specs.Appends.{Appends}
use Rattle.lines.specs.FromTrace.{line_from_trace}
use Rattle.lines.proofs.lines.put_entries.Given as goal

abbrev pub invariant-loop-at : goal.invariant-loop-at
invariant-loop-at l = Appends (33 * l.at) (concat_map (line_from_trace l.entries l.trace) (range l.at)) l.initial.text l.text
