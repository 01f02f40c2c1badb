-- Every row of the table of pairs holds, by one computation.
use mathlib.Core.Path.{◌≡◌, refl}
use mathlib.Core.Bool.{true}
use Rattle.terms.specs.Lists.{all}
use Rattle.stores.specs.Look.{memory_in_range}
use Rattle.machine.specs.InRange.{in_range}
use Rattle.comparison.specs.Pairs.{holds, pairs}

pub pairs_hold : all holds pairs ≡ true
unfolding in_range memory_in_range
pairs_hold = refl
