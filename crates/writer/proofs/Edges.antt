-- Every row of the table of edges holds, by one computation.
use mathlib.Core.Path.{◌≡◌, refl}
use mathlib.Core.Bool.{true}
use Rattle.terms.specs.Lists.{all}
use Rattle.writer.specs.Edges.{holds, writings}

pub writings_hold : all holds writings ≡ true
writings_hold = refl
