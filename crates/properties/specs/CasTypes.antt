-- The declared types of FF-CL's machine that proofs here speak of, passed on under one name; those that every queue has are in `Types`. Nothing is defined here.
pub use Rattle.cas.specs.Types.{Done}
pub use Rattle.cas.specs.declared.state.Machine.{Machine}
pub use Rattle.cas.specs.declared.thief.Thief.{Thief}
pub use Rattle.cas.specs.declared.thief.ThiefCall.{ThiefCall}
pub use Rattle.cas.specs.declared.thief.ThiefCall.TheVariants.{StealLoadHead, StealLoadTail, StealLoadSlot, StealSwapHead}
pub use Rattle.cas.specs.declared.thief.ThiefView.{ThiefView}
pub use Rattle.cas.specs.declared.thief.ThiefMove.{ThiefMove}
pub use Rattle.cas.specs.declared.worker.WorkerCall.{WorkerCall}
pub use Rattle.cas.specs.declared.worker.WorkerCall.TheVariants.{PutLoadHead, PutStoreSlot, PutStoreTail, TakeStoreTail, TakeLoadHead, TakeLoadSlot, TakeTailToHead, TakeTailPastHead, TakeSwapHead, TakeLoadLastSlot}
pub use Rattle.cas.specs.declared.worker.WorkerView.{WorkerView}
pub use Rattle.cas.specs.declared.worker.WorkerMove.{WorkerMove}
