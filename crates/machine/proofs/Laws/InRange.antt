-- What a machine in range is known to keep: its parts, whichever queue runs on it (`Look`, of `stores`), and its calls.
use mathlib.Core.Path.{◌≡◌, refl}
use mathlib.Core.Bool.{true, ◌&&◌}
use Prim.Native.Nat.{ℕ, ◌<◌}
use lib.Dec.{ltb}
use Rattle.terms.proofs.Laws.Tests.{and_left, and_right}
use Rattle.stores.proofs.Laws.Look.{MachineBounds, machine_bounds, thief_call_ranged, thief_within}
use Rattle.machine.specs.Types.{Machine}
use Rattle.machine.specs.Thief.{idle_thief, thief_in_range}
use Rattle.machine.specs.Machine.{thief_call}
use Rattle.machine.specs.Worker.{worker_in_range}
use Rattle.machine.specs.InRange.{in_range}

-- What is so of a machine in range.
abbrev pub Bounds : Machine → Type 0
Bounds m = MachineBounds (λ t. thief_in_range t.call) m.sizes m.head m.tail m.buffer m.spacing (worker_in_range m.worker.call) m.thieves

pub bounds : (m : Machine) → in_range m ≡ true → Bounds m
unfolding in_range
bounds m ready = machine_bounds ready

-- what a thief's entry tests first: the machine is in range, and the thief is there. Then it has a cell in the array, and its call is in range
pub record ThiefReady (m : Machine) (i : ℕ) : Type 0 where
  pub ready : in_range m ≡ true
  pub below : i < 8
  pub call : thief_in_range (thief_call m i) ≡ true

pub thief_ready : (m : Machine) (i : ℕ) → (in_range m && ltb i m.sizes.thieves) ≡ true → ThiefReady m i
thief_ready m i p =
    let ready = and_left (in_range m) (ltb i m.sizes.thieves) p in
    let k = bounds m ready in
    record { ready = ready; below = thief_within k i (and_right (in_range m) (ltb i m.sizes.thieves) p); call = thief_call_ranged k i idle_thief refl }
