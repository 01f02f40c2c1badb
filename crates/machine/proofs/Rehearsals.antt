-- Every row of the table of rehearsals holds, by one computation.
use mathlib.Core.Path.{◌≡◌, refl}
use mathlib.Core.Bool.{true}
use Rattle.terms.specs.Lists.{all}
use Rattle.stores.specs.Look.{memory_in_range}
use Rattle.machine.specs.InRange.{in_range}
use Rattle.machine.specs.Stories.{row_holds}
use Rattle.machine.specs.Rehearsals.{every_number_shown, rehearsals}

pub rehearsals_hold : all row_holds rehearsals ≡ true
unfolding in_range memory_in_range
rehearsals_hold = refl

-- the table shows every number that an outcome can have
pub every_number_shown_lem : every_number_shown ≡ true
every_number_shown_lem = refl
