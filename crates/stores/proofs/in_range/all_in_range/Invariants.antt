-- the answer is that for those so far
use Rattle.std.proofs.Common.{◌≡◌, take}
use Rattle.terms.specs.Lists.{all}
use Rattle.stores.proofs.in_range.all_in_range.Given as goal

abbrev pub invariant-loop-one : goal.invariant-loop-one
invariant-loop-one g l = l.ok ≡ all g.T.InRange.ranged (take l.one-index l.each)
