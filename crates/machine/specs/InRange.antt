-- When a machine is in range. Renders the list, in "Parts", of what an operation tests before all else.
use Rattle.std.specs.Prelude.{Bool, ◌&&◌}
use Rattle.terms.specs.Lists.{all}
use Rattle.stores.specs.Look.{memory_in_range}
use Rattle.machine.specs.Types.{Machine}
use Rattle.machine.specs.Worker.{worker_in_range}
use Rattle.machine.specs.Thief.{thief_in_range}

-- every index in a call
abbrev pub calls_in_range : Machine → Bool
calls_in_range m = worker_in_range m.worker.call && all (λ t. thief_in_range t.call) m.thieves

-- the sizes, how many stores are pending, the spacing count, and every index in memory, in a pending store or in a call
unfoldable pub in_range : Machine → Bool
in_range m = memory_in_range m.sizes m.head m.tail m.buffer m.spacing && calls_in_range m
