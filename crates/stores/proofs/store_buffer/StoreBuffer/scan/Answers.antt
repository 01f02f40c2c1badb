use Rattle.std.proofs.Common.{◌∙◌, take, get_or, ap, sym, arith, length-take, add-one, take-suc}
use Rattle.stores.specs.StoreBuffer.{client_store, scanned}
use Rattle.stores.proofs.Laws.StoreBuffer.{scan_of_snoc, take_stores_most}
use Rattle.stores.proofs.store_buffer.StoreBuffer.scan.Goals as goal

pub after-found-requires : goal.after-found-requires
after-found-requires c =
    let so_far = take c.loop-store.store-index c.pending-store-items.result.now in
    let few = take_stores_most c.args.tail so_far in
    simp c.loop-store.invariant (omega (arith, length-take c.loop-store.store-index c.pending-store-items.result.now))

pub loop-store-preserved : goal.loop-store-preserved
loop-store-preserved c =
    let stores = c.pending-store-items.result.now in
    let i = c.loop-store.store-index in
    let store = get_or stores i client_store in
    rw (add-one, take-suc stores i client_store c.loop-store-test.true) (
    c.after-found.ensures ∙ ap (λ f. scanned f store.kind) c.loop-store.invariant ∙ sym (scan_of_snoc c.args.tail (take i stores) store)
    )
