-- What the worker and the thieves load, under a push and under a drain; and indices of a window, whose slots are apart.
use mathlib.Core.Path.{◌≡◌}
use Prim.Native.Nat.{◌≤◌, ◌<◌}
use lib.ListN.{length}
use Rattle.stores.specs.Index.{slot_of}
use Rattle.stores.specs.StoreBuffer.{slot_after, tail_after}
use Rattle.stores.proofs.Laws.StoreBuffer.{drain_newest_in_slot, drain_newest_tail, push_newest_in_slot, push_newest_tail}
use Rattle.machine.specs.Types.{Index, Machine, Store}
use Rattle.machine.specs.Machine.{memory_load, worker_load, worker_tail}
use Rattle.machine.specs.Update.{pushed}
use Rattle.machine.specs.Entries.{drained}

-- ── The worker ──────────────────────────────────────────────────────────────────────────────────────────────────────────────

-- after a push: the pushed value, if the store is to the place

pub pushed_worker_tail : (a : Store) (m : Machine) → m.buffer.count < length m.buffer.stores → worker_tail (pushed a m) ≡ tail_after (worker_tail m) a.kind
pushed_worker_tail a m room = push_newest_tail m.tail a m.buffer room

pub pushed_worker_load :
    (a : Store) (m : Machine) (i : Index) → m.buffer.count < length m.buffer.stores
    → worker_load (pushed a m) i ≡ slot_after m.sizes.slots (slot_of m.sizes.slots i) (worker_load m i) a.kind
pushed_worker_load a m i room = push_newest_in_slot m.sizes.slots (slot_of m.sizes.slots i) (memory_load m i) a m.buffer room

-- a drain changes nothing that the worker loads

module _ (m : Machine) (some : 0 < m.buffer.count) (within : m.buffer.count ≤ length m.buffer.stores) where
  pub drained_worker_tail : worker_tail (drained m) ≡ worker_tail m
  drained_worker_tail = drain_newest_tail m.buffer some within m.tail

  pub drained_worker_load : (i : Index) → slot_of m.sizes.slots i < length m.slots → worker_load (drained m) i ≡ worker_load m i
  drained_worker_load i there = drain_newest_in_slot m.buffer some within m.sizes.slots (slot_of m.sizes.slots i) m.slots there
