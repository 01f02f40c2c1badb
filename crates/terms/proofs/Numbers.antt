-- Every row of the table of numbers holds, by one computation.
use mathlib.Core.Path.{◌≡◌, refl}
use mathlib.Core.Bool.{true}
use Rattle.terms.specs.Lists.{all}
use Rattle.terms.specs.Numbers.{holds, numbers}

pub numbers_hold : all holds numbers ≡ true
numbers_hold = refl
