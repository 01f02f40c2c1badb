-- the constants are the defined chart, number by number, as computing it shows
use Rattle.std.proofs.Common.{refl}
use Rattle.chart.specs.Chart.{chart}
use Rattle.chart.proofs.margins.chart.Goals as goal

pub returns : goal.returns
unfolding chart
returns c = refl
