-- What the laws of runs have to know of FF-CL: the theorems of `cas` and `properties`, and what its machines do that are out of range.
use mathlib.Core.Path.{◌≡◌, refl, ap, ◌∙◌}
use mathlib.Core.Bool.{Bool, true, false, ◌&&◌}
use native.Mathlib.Omega.{arith}
use lib.Dec.{ltb}
use borrow.Author.Tests.{le-ltb}
use Rattle.terms.specs.Kinds.{thief_is_there}
use Rattle.terms.specs.Sizes.{sizes_in_range}
use Rattle.terms.specs.declared.outcome.Outcome.TheVariants.{Wait}
use Rattle.stores.specs.Look.{memory_in_range}
use Rattle.cas.specs.declared.state.Machine.{Machine}
use Rattle.cas.specs.Entries.{obey}
use Rattle.cas.specs.Linearizable.{ff_cl}
use Rattle.cas.specs.Machine.{done, fresh, in_range}
use Rattle.cas.proofs.Laws.Hidden.{hidden_out}
use Rattle.cas.proofs.Laws.InRange.{bounds}
use Rattle.cas.proofs.Laws.Obey.{out_of_range_waits}
use Rattle.cas.proofs.Linearizable.Theorem.{demand3}
use Rattle.properties.proofs.CasRenumbering.{cas_blind_to_numbers}
use Rattle.properties.proofs.FfCl.{cas_hidden_within_needed, cas_none_lost_or_given_twice}
use Rattle.schedule.specs.Types.{Entry, Sizes, ThiefStep}
use Rattle.schedule.proofs.Laws.Proved.{Proved}

-- where no entry is allowed, there is no such thief: a machine in range has at most eight
no_entry_waits : (m : Machine) → obey m (ThiefStep 4294967295) ≡ done Wait m
no_entry_waits m = out_of_range_waits m (ThiefStep 4294967295) (go (in_range m) refl)
  where
    go : (b : Bool) → in_range m ≡ b → (b && ltb 4294967295 m.sizes.thieves) ≡ false
    go true p = le-ltb 4294967295 m.sizes.thieves (omega (arith, (bounds m p).memory.sizes.thieves_most))
    go false p = refl

module _ (s : Sizes) (out : sizes_in_range s ≡ false) where
  fresh_out : in_range (fresh s) ≡ false
  unfolding in_range memory_in_range
  fresh_out = rw out

  waits : (e : Entry) → obey (fresh s) e ≡ done Wait (fresh s)
  waits e = out_of_range_waits (fresh s) e (ap (λ ranged. ranged && thief_is_there s e) fresh_out)

pub ff_cl_proved : Proved ff_cl
ff_cl_proved =
    record {
      blind = cas_blind_to_numbers;
      linearizable = demand3;
      once = cas_none_lost_or_given_twice;
      lag = cas_hidden_within_needed;
      no_entry = λ m r. ap (λ d. d.outcome) (no_entry_waits m);
      out_waits = λ s out e. ap (λ d. d.outcome) (waits s out e);
      out_stays = λ s out e. ap (λ d. d.machine) (waits s out e);
      out_hides = λ s out e. ap (λ d. d.hidden) (waits s out e) ∙ hidden_out (fresh s) (fresh_out s out);
    }
