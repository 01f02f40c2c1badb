-- Every row of the table of sheets holds, by one computation.
use mathlib.Core.Path.{◌≡◌, refl}
use mathlib.Core.Bool.{true}
use Rattle.terms.specs.Lists.{all}
use Rattle.stores.specs.Look.{memory_in_range}
use Rattle.machine.specs.InRange.{in_range}
use Rattle.share_sheet.specs.Sheets.{holds, table}

pub sheets_hold : all holds table ≡ true
unfolding in_range memory_in_range
sheets_hold = refl
