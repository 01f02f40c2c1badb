-- The declared types that the definitions beside this file speak of, passed on under one name. Nothing is defined here.
pub use Rattle.terms.specs.declared.refusal.Refusal.{Refusal}
pub use Rattle.terms.specs.declared.refusal.Refusal.TheVariants.{Room}
pub use Rattle.terms.specs.declared.sizes.Sizes.{Sizes}
pub use Rattle.schedule.specs.declared.runner.Queue.{Queue}
pub use Rattle.schedule.specs.declared.runner.Queue.TheVariants.{FfThe, FfCl}
pub use Rattle.schedule.specs.declared.runner.Summary.{Summary}
pub use Rattle.comparison.specs.declared.likeness.RefusedFile.{RefusedFile}
pub use Rattle.comparison.specs.declared.likeness.RefusedFile.TheVariants.{First, Second}
