-- The declared types that the definitions beside this file speak of, passed on under one name. Nothing is defined here.
pub use Rattle.terms.specs.declared.entry.Entry.{Entry}
pub use Rattle.terms.specs.declared.refusal.Refusal.{Refusal}
pub use Rattle.terms.specs.declared.refusal.Refusal.TheVariants.{Short, Room}
pub use Rattle.terms.specs.declared.sizes.Sizes.{Sizes}
