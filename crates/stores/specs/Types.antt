-- The declared types of `src/`, and those of `terms`, passed on. Nothing is defined here.
pub use Rattle.terms.specs.declared.entry.Entry.{Entry}
pub use Rattle.terms.specs.declared.entry.Entry.TheVariants.{Drain, ClientStore, BeginPut, BeginTake, WorkerStep, BeginSteal, ThiefStep}
pub use Rattle.terms.specs.declared.outcome.Outcome.{Outcome}
pub use Rattle.terms.specs.declared.sizes.Sizes.{Sizes}
pub use Rattle.stores.specs.declared.done.Done.{Done}
pub use Rattle.stores.specs.declared.index.Index.{Index}
pub use Rattle.std.specs.Prelude.{Option, None, Some}
pub use Rattle.stores.specs.declared.lock.Holder.{Holder}
pub use Rattle.stores.specs.declared.lock.Holder.TheVariants.{Nobody, TheWorker, TheThief}
pub use Rattle.stores.specs.declared.lock.Lock.{Lock}
pub use Rattle.stores.specs.declared.look.Look.{Look}
pub use Rattle.stores.specs.declared.spacing.Spacing.{Spacing}
pub use Rattle.stores.specs.declared.store_buffer.Scan.{Scan}
pub use Rattle.stores.specs.declared.store_buffer.Store.{Store}
pub use Rattle.stores.specs.declared.store_buffer.StoreBuffer.{StoreBuffer}
pub use Rattle.stores.specs.declared.store_buffer.StoreKind.{StoreKind}
pub use Rattle.stores.specs.declared.store_buffer.StoreKind.TheVariants.{Client, Tail, Slot}
pub use Rattle.stores.specs.declared.store_buffer.Maker.{Maker}
pub use Rattle.stores.specs.declared.store_buffer.Maker.TheVariants.{TheClient, APut, ATake}
