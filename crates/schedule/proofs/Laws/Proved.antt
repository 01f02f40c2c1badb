-- What has to be proved of a queue on its machine, elsewhere, before the laws of its runs hold. `proofs/FfThe.antt` has it of FF-THE.
use mathlib.Core.Path.{◌≡◌}
use mathlib.Core.Bool.{true, false}
use mathlib.Core.List.{List}
use Prim.Native.Nat.{◌≤◌}
use lib.ListN.{length}
use Rattle.std.proofs.Common.{Err}
use Rattle.terms.specs.Sizes.{enough_margin, sizes_in_range}
use Rattle.terms.specs.declared.outcome.Outcome.TheVariants.{Wait}
use Rattle.claim.specs.Implementation.{Implementation}
use Rattle.claim.specs.Linearizable.{Linearizable}
use Rattle.properties.specs.ExactlyOnce.{NoneLostOrGivenTwice}
use Rattle.properties.specs.Hidden.{HiddenWithinNeeded}
use Rattle.properties.specs.Renumbering.{BlindToNumbers}
use Rattle.schedule.specs.Types.{Entry, Refusal, Sizes}
use Rattle.schedule.specs.Entries.{entry_to_obey}

pub record Proved {M : Type 0} (b : Implementation M Entry) : Type 0 where
  -- no step depends on a task's number
  pub blind : BlindToNumbers b
  -- demand 3
  pub linearizable : (s : Sizes) (es : List Entry) → sizes_in_range s ≡ true → enough_margin s ≡ true → length es ≤ 4096 → Linearizable b s es
  -- no task is lost or given twice
  pub once : NoneLostOrGivenTwice b
  -- memory never lags by more than the needed margin
  pub lag : HiddenWithinNeeded b
  -- where no entry is allowed, every machine answers 7
  pub no_entry : (m : M) (r : Refusal) → b.outcome m (entry_to_obey (Err r)) ≡ Wait
  -- a fresh machine with sizes out of range answers 7 to every entry ..
  pub out_waits : (s : Sizes) → sizes_in_range s ≡ false → (e : Entry) → b.outcome (b.fresh s) e ≡ Wait
  -- .. stays as it is ..
  pub out_stays : (s : Sizes) → sizes_in_range s ≡ false → (e : Entry) → b.next (b.fresh s) e ≡ b.fresh s
  -- .. and hands on 0
  pub out_hides : (s : Sizes) → sizes_in_range s ≡ false → (e : Entry) → b.hidden (b.fresh s) e ≡ 0
