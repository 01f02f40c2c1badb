-- Every row of the table of lines holds, by one computation.
use mathlib.Core.Path.{◌≡◌, refl}
use mathlib.Core.Bool.{true}
use Rattle.terms.specs.Lists.{all}
use Rattle.stores.specs.Look.{memory_in_range}
use Rattle.cas.specs.Machine.{in_range as cas_in_range}
use Rattle.machine.specs.InRange.{in_range}
use Rattle.lines.specs.Examples.{holds, table}

pub lines_hold : all holds table ≡ true
unfolding in_range cas_in_range memory_in_range
lines_hold = refl
