-- The order of bytes, by computation.
use mathlib.Core.Path.{refl}
use Rattle.number.specs.Number.{LeastSignificantFirst}

pub least_significant_first : LeastSignificantFirst
least_significant_first = (refl, refl)
