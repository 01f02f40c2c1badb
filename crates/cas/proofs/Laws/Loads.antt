-- What the worker loads, under a push and under a drain.
use mathlib.Core.Path.{◌≡◌}
use Prim.Native.Nat.{◌≤◌, ◌<◌}
use lib.ListN.{length}
use Rattle.stores.specs.Index.{slot_of}
use Rattle.stores.specs.StoreBuffer.{push, slot_after, tail_after}
use Rattle.stores.proofs.Laws.StoreBuffer.{drain_newest_in_slot, drain_newest_tail, push_newest_in_slot, push_newest_tail}
use Rattle.cas.specs.Types.{Index, Machine, Store}
use Rattle.cas.specs.Machine.{memory_load, with_buffer, worker_load, worker_tail}
use Rattle.cas.specs.Entries.{drained}

-- after a push: the pushed value, if the store is to the place

module _ (a : Store) (m : Machine) (room : m.buffer.count < length m.buffer.stores) where
  pub pushed_worker_tail : worker_tail (with_buffer (push a m.buffer) m) ≡ tail_after (worker_tail m) a.kind
  pushed_worker_tail = push_newest_tail m.tail a m.buffer room

  pub pushed_worker_load : (i : Index) → worker_load (with_buffer (push a m.buffer) m) i ≡ slot_after m.sizes.slots (slot_of m.sizes.slots i) (worker_load m i) a.kind
  pushed_worker_load i = push_newest_in_slot m.sizes.slots (slot_of m.sizes.slots i) (memory_load m i) a m.buffer room

-- a drain changes nothing that the worker loads

module _ (m : Machine) (some : 0 < m.buffer.count) (within : m.buffer.count ≤ length m.buffer.stores) where
  pub drained_worker_tail : worker_tail (drained m) ≡ worker_tail m
  drained_worker_tail = drain_newest_tail m.buffer some within m.tail

  pub drained_worker_load : (i : Index) → slot_of m.sizes.slots i < length m.slots → worker_load (drained m) i ≡ worker_load m i
  drained_worker_load i there = drain_newest_in_slot m.buffer some within m.sizes.slots (slot_of m.sizes.slots i) m.slots there
