-- A drain settles: in the worker's eyes the oldest store of its buffer has landed, which changes nothing that it loads; where nothing lies below
-- the buffer, it has landed.
use mathlib.Core.Path.{◌≡◌, refl, ap, sym, ◌∙◌}
use mathlib.Core.List.{List, ◌∷◌}
use mathlib.Core.Bool.{Bool, true, not}
use Prim.Native.Nat.{ℕ, ◌≤◌, ◌<◌}
use native.Mathlib.Omega.{arith}
use lib.ListN.{length}
use borrow.Author.Tests.{eqb-false, not-true}
use Rattle.stores.specs.StoreBuffer.{drop_oldest, oldest, pending, slots_after}
use Rattle.stores.proofs.Laws.Index.{idx, slot_of_below}
use Rattle.stores.proofs.Laws.StoreBuffer.{slots_after-length}
use Rattle.stores.proofs.Laws.Pending as Pending
use Rattle.claim.specs.Calls.{Begun}
use Rattle.machine.specs.Types.{Machine, Store, ThiefCall, WorkerCall, Outcome}
use Rattle.machine.specs.Machine.{worker_load, nothing_pending}
use Rattle.machine.specs.Entries.{drained}
use Rattle.machine.proofs.Laws.Loads.{drained_worker_load}
use Rattle.machine.proofs.Linearizable.Invariant.{Environment, Sound, plain_memory, plain_telling}
use Rattle.machine.proofs.Linearizable.Settle.{Settles}

-- the slots of the worker's machine are as many as memory's
slots_long : {g : Environment} {n : ℕ} {m : Machine} {c : WorkerCall} {p : ThiefCall} → Sound g n m c p → length m.slots ≡ 256
slots_long {g = g} {m = m} v = ap length (sym v.slots_after_lem) ∙ fold_long g.memory.slots g.memory.front ∙ v.memory
  where
    fold_long : (l : List ℕ) (f : List Store) → length (mathlib.Core.List.foldl (λ l a. slots_after m.sizes.slots l a.kind) l f) ≡ length l
    fold_long l mathlib.Core.List.[] = refl
    fold_long l (a ∷ f) = fold_long (slots_after m.sizes.slots l a.kind) f ∙ slots_after-length m.sizes.slots l a.kind

module _ {g : Environment} {n : ℕ} {m : Machine} {c : WorkerCall} {p : ThiefCall} (v : Sound g n m c p) (some : 0 < m.buffer.count) where
  -- the oldest store of the buffer, and the others
  pub first : pending m.buffer ≡ oldest m.buffer ∷ pending (drop_oldest m.buffer)
  first = Pending.first v.buffer v.sizes some

  pub drained_fits : (drop_oldest m.buffer).count ≤ m.sizes.buffer
  drained_fits = Pending.drained_fits v.buffer v.sizes some

  pub drained_cells : length (drop_oldest m.buffer).stores ≡ 64
  drained_cells = Pending.drained_cells v.buffer v.sizes some

  pub drained_load : (k : ℕ) → worker_load (drained m) (idx k) ≡ worker_load m (idx k)
  drained_load k =
      drained_worker_load m some (Pending.within_cells v.buffer v.sizes some) (idx k)
      (omega (arith, slot_of_below m.sizes.slots (idx k) (omega (arith, v.sizes.slots_least)), slots_long v, v.sizes.slots_most))

pub some_pending : (m : Machine) → not (nothing_pending m) ≡ true → 0 < m.buffer.count
some_pending m some = positive (eqb-false m.buffer.count 0 (not-true (nothing_pending m) some))
  where
    positive : (m.buffer.count ≡ 0 → ⊥) → 0 < m.buffer.count
    positive some = omega arith

-- with nothing below the buffer, the oldest store reaches memory
pub drain_settles : {is_told : Begun → Outcome → Bool} {n : ℕ} {m : Machine} {c : WorkerCall} {p : ThiefCall} (v : Sound (plain_telling is_told m) n m c p) → 0 < m.buffer.count
    → Settles v (plain_memory (drained m)) (drained m).slots (drained m).tail (drained m).buffer
drain_settles {m = m} v some =
    record {
      shift = Pending.shift_land v.buffer (oldest m.buffer) _ (pending (drop_oldest m.buffer)) (first v some);
      tail_after_lem = refl;
      slots_after_lem = refl;
      fits = drained_fits v some;
      cells = drained_cells v some;
      load = drained_load v some;
    }
