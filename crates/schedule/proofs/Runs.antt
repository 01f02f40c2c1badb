-- Every row of the table of runs holds, by one computation.
use mathlib.Core.Path.{◌≡◌, refl}
use mathlib.Core.Bool.{true}
use Rattle.terms.specs.Lists.{all}
use Rattle.stores.specs.Look.{memory_in_range}
use Rattle.machine.specs.InRange.{in_range}
use Rattle.schedule.specs.Runs.{holds, table}

pub runs_hold : all holds table ≡ true
unfolding in_range memory_in_range
runs_hold = refl
