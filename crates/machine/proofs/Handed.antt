-- Every row of the table of machines handed in holds, by one computation, and those out of range come back as they were.
use mathlib.Core.Path.{◌≡◌, refl}
use mathlib.Core.Bool.{true}
use Rattle.terms.specs.Lists.{all}
use Rattle.stores.specs.Look.{memory_in_range}
use Rattle.machine.specs.InRange.{in_range}
use Rattle.machine.specs.Stories.{row_holds}
use Rattle.machine.specs.Handed.{HandedBack, handed_in}

pub handed_hold : all row_holds handed_in ≡ true
unfolding in_range memory_in_range
handed_hold = refl

pub handed_back : HandedBack
unfolding in_range memory_in_range
handed_back = (refl, refl)
