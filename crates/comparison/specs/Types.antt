-- The declared types that the definitions beside this file speak of, passed on under one name. Nothing is defined here.
pub use Rattle.terms.specs.declared.entry.Entry.{Entry}
pub use Rattle.terms.specs.declared.entry.Entry.TheVariants.{Drain, ClientStore, BeginPut, BeginTake, WorkerStep, BeginSteal, ThiefStep}
pub use Rattle.terms.specs.declared.outcome.Outcome.{Outcome}
pub use Rattle.terms.specs.declared.refusal.Refusal.{Refusal}
pub use Rattle.terms.specs.declared.sizes.Sizes.{Sizes}
pub use Rattle.comparison.specs.declared.likeness.RefusedFile.{RefusedFile}
pub use Rattle.comparison.specs.declared.likeness.RefusedFile.TheVariants.{First, Second}
pub use Rattle.comparison.specs.declared.run.Run.{Run}
