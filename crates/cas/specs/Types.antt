-- The declared types of `src/`, and those of `terms` and `stores`, passed on under one name for the definitions beside this file. `Done` alone is defined here, as it is there.
pub use Rattle.terms.specs.declared.entry.Entry.{Entry}
pub use Rattle.terms.specs.declared.entry.Entry.TheVariants.{Drain, ClientStore, BeginPut, BeginTake, WorkerStep, BeginSteal, ThiefStep}
pub use Rattle.terms.specs.declared.outcome.Outcome.{Outcome}
pub use Rattle.terms.specs.declared.outcome.Outcome.TheVariants.{Moved, Place, Early, Wait, Stored, Task, Empty, Abort, Full, End}
pub use Rattle.terms.specs.declared.sizes.Sizes.{Sizes}
use Rattle.stores.specs.declared.done.Done as handed
pub use Rattle.stores.specs.declared.index.Index.{Index}
pub use Rattle.std.specs.Prelude.{Option, None, Some}
pub use Rattle.stores.specs.declared.look.Look.{Look}
pub use Rattle.stores.specs.declared.spacing.Spacing.{Spacing}
pub use Rattle.stores.specs.declared.store_buffer.Store.{Store}
pub use Rattle.stores.specs.declared.store_buffer.StoreBuffer.{StoreBuffer}
pub use Rattle.stores.specs.declared.store_buffer.StoreKind.{StoreKind}
pub use Rattle.stores.specs.declared.store_buffer.StoreKind.TheVariants.{Client, Tail, Slot}
pub use Rattle.stores.specs.declared.store_buffer.Maker.{Maker}
pub use Rattle.stores.specs.declared.store_buffer.Maker.TheVariants.{TheClient, APut, ATake}
pub use Rattle.cas.specs.declared.state.Machine.{Machine}
pub use Rattle.cas.specs.declared.state.Worker.{Worker}
pub use Rattle.cas.specs.declared.thief.Thief.{Thief}
pub use Rattle.cas.specs.declared.thief.ThiefCall.{ThiefCall}
pub use Rattle.cas.specs.declared.thief.ThiefCall.TheVariants.{StealLoadHead, StealLoadTail, StealLoadSlot, StealSwapHead}
pub use Rattle.cas.specs.declared.thief.ThiefView.{ThiefView}
pub use Rattle.cas.specs.declared.thief.ThiefMove.{ThiefMove}
pub use Rattle.cas.specs.declared.worker.WorkerCall.{WorkerCall}
pub use Rattle.cas.specs.declared.worker.WorkerCall.TheVariants.{PutLoadHead, PutStoreSlot, PutStoreTail, TakeStoreTail, TakeLoadHead, TakeLoadSlot, TakeTailToHead, TakeTailPastHead, TakeSwapHead, TakeLoadLastSlot}
pub use Rattle.cas.specs.declared.worker.WorkerView.{WorkerView}
pub use Rattle.cas.specs.declared.worker.WorkerMove.{WorkerMove}

abbrev pub Done : Type 0
Done = handed.Done Machine
