-- a look tells it
use Rattle.std.proofs.Common.{ap}
use Rattle.cas.specs.Machine.{in_range}
use Rattle.cas.proofs.state.Machine.in_range.Goals as goal

pub returns : goal.returns
unfolding in_range
returns c = ap (λ seen. seen.ranged) c.look.ensures
