-- Memory moves on while no call does: of the stores that have not reached it, some land or are given up, and nothing changes that the worker
-- loads, or that a thief is about to load. What a memory does with its stores is said by `Shift`; the rest is the same for every memory.
use mathlib.Core.Path.{◌≡◌, ap, sym, ◌∙◌, subst}
use mathlib.Core.List.{List, foldl}
use Prim.Native.Nat.{ℕ, ◌+◌, ◌≤◌}
use native.Mathlib.Omega.{arith}
use lib.ListN.{length}
use Rattle.stores.specs.StoreBuffer.{slots_after, tail_after}
use Rattle.stores.proofs.Laws.Index.{idx, slot_of_below}
use Rattle.stores.proofs.Laws.Chain.{SlotsWithin}
use Rattle.stores.proofs.Laws.Pending.{Memory, Shift, seen_tail, shifted, unlanded}
use Rattle.claim.specs.PlainQueue.{PlainQueue}
use Rattle.machine.specs.Types.{Index, Machine, StoreBuffer, ThiefCall, StealLoadSlot, WorkerCall}
use Rattle.machine.specs.Machine.{memory_load, worker_load}
use Rattle.machine.specs.Update.{with_memory}
use Rattle.machine.specs.Linearizable.{worker_owes}
use Rattle.machine.proofs.Linearizable.Invariant.{AgreesOn, Environment, HoldsHead, Sound, bare, stolen, worker_begun}
use Rattle.claim.proofs.Laws.Tasks.{shows_load}
use Rattle.machine.proofs.Linearizable.Owed.{worker_begun_same, worker_owes_same}

-- ── The machine ─────────────────────────────────────────────────────────────────────────────────────────────────────────────

-- The memory afterwards, and the worker's machine with the buffer b and with the tail and the slots that it then loads past.
pub record Settles {g : Environment} {n : ℕ} {m : Machine} {c : WorkerCall} {p : ThiefCall} (v : Sound g n m c p) (memory : Memory) (slots : List ℕ) (tail : Index) (b : StoreBuffer) : Type 0 where
  pub shift : Shift m.sizes v.buffer.bound v.buffer.owed v.buffer.seen g.memory memory (unlanded g.memory m.buffer) (unlanded memory b)
  pub tail_after_lem : foldl (λ i a. tail_after i a.kind) memory.tail memory.front ≡ tail
  pub slots_after_lem : foldl (λ l a. slots_after m.sizes.slots l a.kind) memory.slots memory.front ≡ slots
  pub fits : b.count ≤ m.sizes.buffer
  pub cells : length b.stores ≡ 64
  pub load : (k : ℕ) → worker_load (with_memory slots tail b m) (idx k) ≡ worker_load m (idx k)

-- what thieves go by stays as it was
abbrev pub settled_on : Memory → Environment → Environment
settled_on memory g = record { memory = memory; margin = g.margin; is_told = g.is_told }

module _ {g : Environment} {memory : Memory} {n : ℕ} {m : Machine} {c : WorkerCall} {p : ThiefCall} {slots : List ℕ} {tail : Index} {b : StoreBuffer} (v : Sound g n m c p) (d : Settles v memory slots tail b) where
  abbrev pub settled_sound : Sound (settled_on memory g) (n + 1) (with_memory slots tail b m) c p
  settled_sound =
      record {
        sizes = v.sizes;
        memory = d.shift.memory ∙ v.memory;
        margin_some = v.margin_some;
        slots_after_lem = d.slots_after_lem;
        buffer = shifted v.buffer d.shift d.tail_after_lem d.fits d.cells;
        head = v.head;
        tail = v.tail;
        spaced = v.spaced;
        counted = omega (arith, v.counted);
        lock = v.lock;
      }

  pub settled_agrees : (q : PlainQueue) → AgreesOn v q → AgreesOn settled_sound q
  settled_agrees q a =
      record {
        count = a.count;
        sum = a.sum;
        room = a.room;
        below = a.below;
        shows = shows_load (λ k. worker_load m (idx k)) (v.head.lo + stolen p) q.tasks a.shows (λ k. worker_load (with_memory slots tail b m) (idx k))
            (λ k h. d.load (v.head.lo + stolen p + k));
        unwritten = λ has. d.shift.within v.head.lo (a.unwritten has);
      }

  -- ── What the calls were begun as, and what they are about to load ───────────────────────────────────────────────────────────

  pub settled_begun : worker_begun m c ≡ worker_begun (with_memory slots tail b m) c
  settled_begun =
      worker_begun_same m (with_memory slots tail b m) v.buffer.seen (sym (d.load v.buffer.seen)) c (seen_tail v.buffer) (seen_tail settled_sound.buffer)

  pub settled_owes : worker_owes m c ≡ worker_owes (with_memory slots tail b m) c
  settled_owes = worker_owes_same m (with_memory slots tail b m) v.buffer.seen (sym (d.load v.buffer.seen)) c v.tail.holds_tail

  -- no store that lands is to the slot that the thief inside has stolen and not loaded
  pub settled_stolen : (q : PlainQueue) (h : Index) → p ≡ StealLoadSlot h → AgreesOn v q → memory_load (bare (settled_on memory g) (with_memory slots tail b m)) h ≡ memory_load (bare g m) h
  settled_stolen q h inside a =
      let lo = v.head.lo in
      let here : h ≡ idx lo = subst (λ p. HoldsHead p lo) inside v.head.holds_head in
      let above : SlotsWithin lo v.buffer.bound (unlanded g.memory m.buffer) = a.unwritten (ap stolen inside) in
      let there = slot_of_below m.sizes.slots (idx lo) (omega (arith, v.sizes.slots_least)) in
      ap (memory_load (bare (settled_on memory g) (with_memory slots tail b m))) here
      ∙ d.shift.leaves lo (omega (arith, v.head.floor)) a.below (omega (arith, v.memory, v.sizes.slots_most)) above
      ∙ ap (memory_load (bare g m)) (sym here)
