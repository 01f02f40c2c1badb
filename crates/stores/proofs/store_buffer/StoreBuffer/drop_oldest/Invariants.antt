-- the first i − 1 cells hold what stood one cell further
use Rattle.std.proofs.Common.{◌≡◌, ◌-◌, ◌≤◌}
use Rattle.terms.proofs.Laws.Lists.{shifted}
use Rattle.stores.proofs.store_buffer.StoreBuffer.drop_oldest.Given as goal

abbrev pub invariant-loop-i : goal.invariant-loop-i
invariant-loop-i l = (l.stores ≡ shifted l.initial.stores (l.i - 1)) × (1 ≤ l.i) × (l.i ≤ l.count)

abbrev pub decreases-loop-i : goal.decreases-loop-i
decreases-loop-i l = l.count - l.i
