-- a store of what the array holds everywhere changes nothing
use Rattle.std.proofs.Common.{◌%◌}
use Rattle.terms.proofs.Laws.Lists.{set_same}
use Rattle.stores.specs.Types.{Client, Store}
use Rattle.stores.proofs.store_buffer.StoreBuffer.empty.Goals as goal

pub returns : goal.returns
returns c =
    let stores = set_same {A = Store} 64 (c.args.buffer % 64) (record { kind = Client }) in
    λ i. record { stores = stores i; count = 0 }
