-- Every row of the table of edges holds, by one computation.
use mathlib.Core.Path.{◌≡◌, refl}
use mathlib.Core.Bool.{true}
use Rattle.terms.specs.Lists.{all}
use Rattle.schedule.specs.Edges.{edges, holds}

pub edges_hold : all holds edges ≡ true
edges_hold = refl
