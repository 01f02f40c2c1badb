-- What the laws of runs have to know of FF-THE: the theorems of `machine` and `properties`, and what its machines do that are out of range. Last, that its plain queue is told of every call.
use mathlib.Core.Path.{◌≡◌, refl, ap, ◌∙◌}
use mathlib.Core.Bool.{false, ◌&&◌}
use Rattle.terms.specs.Sizes.{sizes_in_range}
use Rattle.terms.specs.declared.outcome.Outcome.TheVariants.{Wait}
use Rattle.stores.specs.Look.{memory_in_range}
use Rattle.machine.specs.InRange.{in_range}
use Rattle.machine.specs.Linearizable.{ff_the}
use Rattle.machine.specs.Machine.{done, fresh}
use Rattle.machine.specs.Obey.{obey}
use Rattle.terms.specs.Kinds.{thief_is_there}
use Rattle.machine.proofs.Laws.Hidden.{hidden_out}
use Rattle.machine.proofs.Laws.Obey.{out_of_range_waits}
use Rattle.machine.proofs.Linearizable.Theorem.{demand3}
use Rattle.properties.proofs.ExactlyOnce.{none_lost_or_given_twice}
use Rattle.properties.proofs.HiddenNumber.{hidden_within_needed}
use Rattle.properties.proofs.Renumbering.{blind_to_numbers}
use Rattle.schedule.specs.Types.{Entry, Sizes}
use Rattle.schedule.specs.Demand3.{AllTold}
use Rattle.schedule.proofs.Laws.Proved.{Proved}
use Rattle.schedule.proofs.Schedules.{no_entry_waits}

module _ (s : Sizes) (out : sizes_in_range s ≡ false) where
  fresh_out : in_range (fresh s) ≡ false
  unfolding in_range memory_in_range
  fresh_out = rw out

  waits : (e : Entry) → obey (fresh s) e ≡ done Wait (fresh s)
  waits e = out_of_range_waits (fresh s) e (ap (λ ranged. ranged && thief_is_there s e) fresh_out)

pub ff_the_proved : Proved ff_the
ff_the_proved =
    record {
      blind = blind_to_numbers;
      linearizable = demand3;
      once = none_lost_or_given_twice;
      lag = hidden_within_needed;
      no_entry = λ m r. ap (λ d. d.outcome) (no_entry_waits m r);
      out_waits = λ s out e. ap (λ d. d.outcome) (waits s out e);
      out_stays = λ s out e. ap (λ d. d.machine) (waits s out e);
      out_hides = λ s out e. ap (λ d. d.hidden) (waits s out e) ∙ hidden_out (fresh s) (fresh_out s out);
    }

pub all_told : AllTold
all_told s es = refl
