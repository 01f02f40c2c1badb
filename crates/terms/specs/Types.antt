-- The declared types of `src/`, passed on under one name for the definitions beside this file. Nothing is defined here.
pub use Rattle.terms.specs.declared.entry.Entry.{Entry}
pub use Rattle.terms.specs.declared.entry.Entry.TheVariants.{Drain, ClientStore, BeginPut, BeginTake, WorkerStep, BeginSteal, ThiefStep}
pub use Rattle.terms.specs.declared.outcome.Outcome.{Outcome}
pub use Rattle.terms.specs.declared.outcome.Outcome.TheVariants.{Moved, Place, Early, Wait, Stored, Task, Empty, Abort, Full, End}
pub use Rattle.terms.specs.declared.refusal.Refusal.{Refusal}
pub use Rattle.terms.specs.declared.refusal.Refusal.TheVariants.{Size, Short, Kind, Who, Room, Margin, Block}
pub use Rattle.terms.specs.declared.sizes.Sizes.{Sizes}
pub use Rattle.terms.specs.declared.tally.Tally.{Tally}
