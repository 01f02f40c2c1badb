-- The declared types that the definitions beside this file speak of, passed on under one name. Nothing is defined here.
pub use Rattle.terms.specs.declared.entry.Entry.{Entry}
pub use Rattle.terms.specs.declared.entry.Entry.TheVariants.{Drain, ClientStore, BeginPut, BeginTake, WorkerStep, BeginSteal, ThiefStep}
pub use Rattle.terms.specs.declared.outcome.Outcome.{Outcome}
pub use Rattle.terms.specs.declared.refusal.Refusal.{Refusal}
pub use Rattle.terms.specs.declared.refusal.Refusal.TheVariants.{Size, Short, Kind, Who, Room}
pub use Rattle.terms.specs.declared.sizes.Sizes.{Sizes}
pub use Rattle.terms.specs.declared.tally.Tally.{Tally}
pub use Rattle.machine.specs.declared.machine.Machine.{Machine}
pub use Rattle.schedule.specs.declared.runner.Queue.{Queue}
pub use Rattle.schedule.specs.declared.runner.Queue.TheVariants.{FfThe, FfCl}
pub use Rattle.schedule.specs.declared.runner.Stepped.{Stepped}
pub use Rattle.schedule.specs.declared.runner.Summary.{Summary}
