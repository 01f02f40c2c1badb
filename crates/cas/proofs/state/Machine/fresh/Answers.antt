-- a thief's idle call, stored where the array holds it anyway, changes nothing
use Rattle.std.proofs.Common.{◌%◌}
use Rattle.terms.proofs.Laws.Lists.{set_same}
use Rattle.cas.specs.Thief.{idle_thief}
use Rattle.cas.proofs.state.Machine.fresh.Goals as goal

pub returns : goal.returns
returns c = simp (c.from-start.ensures, c.empty.ensures, c.no_take.ensures, set_same 8 (c.args.sizes.thieves % 8) idle_thief)
