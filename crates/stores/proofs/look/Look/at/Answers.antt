-- the tests are joined as in the definition, and the number is told by them
use Rattle.stores.specs.Look.{memory_in_range}
use Rattle.stores.proofs.look.Look.at.Goals as goal

pub returns : goal.returns
unfolding memory_in_range
returns c = simp (c.hidden_if.ensures, c.in_range-4.ensures, c.in_range-3.ensures, c.in_range-2.ensures, c.in_range.ensures, c.scan-found.ensures)
