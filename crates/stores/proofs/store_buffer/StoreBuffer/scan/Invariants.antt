-- what was found so far is what is to be found in the stores so far
use Rattle.std.proofs.Common.{◌≡◌, take}
use Rattle.stores.proofs.Laws.StoreBuffer.{scan_of}
use Rattle.stores.proofs.store_buffer.StoreBuffer.scan.Given as goal

abbrev pub invariant-loop-store : goal.invariant-loop-store
invariant-loop-store l = l.found ≡ scan_of l.initial.found.tail (take l.store-index l.store-items)
