-- Every test of the table of edges passes, by one computation.
use mathlib.Core.Path.{◌≡◌, refl}
use mathlib.Core.Bool.{true}
use Rattle.terms.specs.Lists.{all}
use Rattle.stores.specs.Edges.{edges}
use Rattle.stores.specs.Look.{memory_in_range}

pub edges_hold : all (λ t. t) edges ≡ true
unfolding memory_in_range
edges_hold = refl
