-- Every row of the table holds, by one computation.
use mathlib.Core.Path.{◌≡◌, refl}
use mathlib.Core.Bool.{true}
use Rattle.terms.specs.Lists.{all}
use Rattle.chart.specs.Chart.{chart}
use Rattle.chart.specs.Rows.{holds, rows}

pub rows_hold : all holds rows ≡ true
unfolding chart
rows_hold = refl
