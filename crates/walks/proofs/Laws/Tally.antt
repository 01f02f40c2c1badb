-- Tallies and outcomes are plain data, and each total of a tally is a number of 32 bits.
use mathlib.Core.Path.{refl}
use mathlib.Core.List.{[], ◌∷◌}
use Prim.Native.Nat.{◌<◌, ◌^◌}
use denote.Laws.{Is}
use denote.Enum.Laws as enums
use denote.Struct.Laws as structs
use Rattle.terms.specs.declared.tally.Tally.{Tally}
use Rattle.walks.proofs.Laws.Walk.{Plain}
use Rattle.terms.specs.contracts.outcome.Outcome as outcome
use Rattle.terms.proofs.outcome.Outcome.TheLaws as outcome-laws
use Rattle.terms.specs.contracts.tally.Tally as tally
use Rattle.terms.proofs.tally.Tally.TheLaws as tally-laws

abbrev pub tallies : Plain tally.the_row
tallies = record {
  ty = tally-laws.mir;
  ty_is = refl;
  val = structs.val tally.the_type tally-laws.the_laws;
  tells = structs.tells tally.the_type tally-laws.the_laws;
  makes = λ 𝓛. structs.makes tally.the_type tally-laws.the_plain 𝓛;
  lawful = structs.lawful tally.the_type tally-laws.the_laws;
}

abbrev pub outcomes : Plain outcome.the_row
outcomes = record {
  ty = outcome-laws.mir;
  ty_is = refl;
  val = enums.val outcome.the_type outcome-laws.the_laws;
  tells = enums.tells outcome.the_type outcome-laws.the_laws;
  makes = λ 𝓛. enums.makes outcome.the_type outcome-laws.the_plain 𝓛;
  lawful = λ 𝓛. enums.lawful outcome.the_type outcome-laws.the_laws 𝓛 tt;
}

abbrev pub TotalsFit : Tally → Type 0
TotalsFit t = (t.given < 2 ^ 32) × (t.aborts < 2 ^ 32) × (t.waits < 2 ^ 32)

pub totals_fit : (t : Tally) → Is tally.the_row t (tallies.val t ∷ []) → TotalsFit t
totals_fit t is =
    let total-is = structs.owed tally.the_type tally-laws.the_laws t _ is in
    (total-is.0.1, total-is.1.0.1, total-is.1.1.0.1)
