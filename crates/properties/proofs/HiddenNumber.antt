-- How far FF-THE's memory lags behind the worker: never more than the needed margin, by the law on pending take stores of `machine`; and the sizes of the table reach it.
use mathlib.Core.Path.{◌≡◌, refl}
use mathlib.Core.Bool.{true}
use Rattle.terms.specs.Lists.{all}
use Rattle.stores.specs.Look.{memory_in_range}
use Rattle.machine.specs.InRange.{in_range}
use Rattle.machine.specs.Linearizable.{ff_the}
use Rattle.machine.specs.Machine.{hidden, takes_pending}
use Rattle.machine.specs.Stories.{looks}
use Rattle.machine.proofs.Laws.Hidden.{hidden_known, hidden_pending}
use Rattle.machine.proofs.Laws.Obey.{hands_on_hidden}
use Rattle.machine.proofs.Linearizable.AnyMargin.{run_in_range, run_take_stores}
use Rattle.properties.specs.Hidden.{HiddenIsPending, HiddenWithinNeeded, reaches, reaching}
use Rattle.properties.proofs.Laws.Hidden.{is_pending, within_needed}

pub hidden_within_needed : HiddenWithinNeeded ff_the
hidden_within_needed = within_needed ff_the hidden hands_on_hidden takes_pending hidden_pending run_take_stores

pub hidden_is_pending : HiddenIsPending ff_the takes_pending
hidden_is_pending = is_pending ff_the hidden hands_on_hidden takes_pending in_range hidden_known run_in_range

-- the sizes of the table reach it
pub bound_reached : all (reaches ff_the looks) reaching ≡ true
unfolding in_range memory_in_range
bound_reached = refl
