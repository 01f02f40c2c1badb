-- a look tells it
use Rattle.std.proofs.Common.{ap}
use Rattle.machine.specs.InRange.{in_range}
use Rattle.machine.proofs.machine.Machine.in_range.Goals as goal

pub returns : goal.returns
unfolding in_range
returns c = ap (λ seen. seen.ranged) c.look.ensures
