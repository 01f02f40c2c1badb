-- Each entry of the worker's keeps the invariant: the steps of its calls, client stores, beginnings, and the drain.
use mathlib.Core.Path.{◌≡◌, refl, ap, sym, ◌∙◌, subst}
use mathlib.Core.Bool.{true, false, cond, not}
use mathlib.Core.List.{[]}
use Prim.Native.Nat.{ℕ, ◌+◌, ◌-◌, ◌<◌}
use native.Mathlib.Nat.{le_refl}
use native.Mathlib.Omega.{arith}
use lib.ListN.{length}
use borrow.Author.Tests.{eqb-false, ltb-true, not-true}
use Rattle.terms.proofs.Laws.Tests.{decide}
use Rattle.stores.specs.Index.{slot_of}
use Rattle.stores.specs.Spacing.{counted_in, take_begins, too_early}
use Rattle.stores.specs.StoreBuffer.{client_store, drop_oldest, oldest, pending, push}
use Rattle.stores.proofs.Laws.Index.{idx, slot_of_below}
use Rattle.stores.proofs.Laws.Chain.{client, no_store, none as no-link, past_client}
use Rattle.stores.proofs.Laws.Pending.{Shift, drained_cells, drained_fits, first, pushing, shift_land, shifted, within_cells}
use Rattle.stores.proofs.Laws.Spacing.{counted_in_asked, counted_in_most, not_early}
use Rattle.claim.specs.PlainQueue.{PlainQueue}
use Rattle.claim.specs.Calls.{Begun, nothing, a_put, a_take, none}
use Rattle.claim.proofs.Laws.Tasks.{shows_load}
use Rattle.claim.proofs.Turn.{moves}
use Rattle.cas.specs.Types.{Done, Index, Machine, Moved, Place, Early, Wait, Option, Maker, StoreKind, Some, TheClient, Client, WorkerCall, PutLoadHead, PutStoreSlot, PutStoreTail, TakeStoreTail, TakeLoadHead, TakeLoadSlot, TakeTailToHead, TakeTailPastHead, TakeSwapHead, TakeLoadLastSlot}
use Rattle.cas.specs.Worker.{worker_runs}
use Rattle.cas.specs.Machine.{done, has_room, needing, nothing_pending, thief_call, with_spacing, with_store, with_worker, worker_load, worker_tail}
use Rattle.cas.specs.Entries as entries
use Rattle.cas.specs.Entries.{begin_put, begin_take, drained, make_client_store, step_of_worker, unless_worker_runs}
use Rattle.cas.specs.Linearizable.{worker_owes}
use Rattle.cas.proofs.Laws.Loads.{drained_worker_load, drained_worker_tail}
use Rattle.cas.proofs.Linearizable.Invariant.{AgreesOn, Holds, Sound, memory_of, worker_begun}
use Rattle.cas.proofs.Linearizable.Rebuild.{agrees_call, pushed_agrees, rebuilt, recalled, sure_map}
use Rattle.cas.proofs.Linearizable.Turn.{StepTurn, WorkerTurn, alone, refused, stayed}
use Rattle.cas.proofs.Linearizable.Put.{put_load_head_lem, put_store_slot_lem, put_store_tail_lem}
use Rattle.cas.proofs.Linearizable.Take.{take_load_head_lem, take_load_last_slot, take_load_slot_lem, take_store_tail_lem, take_swap_head_lem, take_tail_past_head_lem, take_tail_to_head_lem}

module _ {n : ℕ} {m : Machine} (q : PlainQueue) where
  -- ── The next step of the worker's call ──────────────────────────────────────────────────────────────────────────────────────

  pub worker_step : (c : WorkerCall) (v : Sound n m c) → StepTurn v q (step_of_worker m c)
  worker_step WorkerCall.Idle v = stayed v Place refl refl
  worker_step (PutLoadHead x) v = put_load_head_lem q x v
  worker_step (PutStoreSlot x) v = put_store_slot_lem q x v
  worker_step PutStoreTail v = put_store_tail_lem q v
  worker_step TakeStoreTail v = take_store_tail_lem q v
  worker_step (TakeLoadHead t) v = take_load_head_lem q t v
  worker_step (TakeLoadSlot t) v = take_load_slot_lem q t v
  worker_step (TakeTailToHead h) v = take_tail_to_head_lem q h v
  worker_step (TakeTailPastHead t) v = take_tail_past_head_lem q t v
  worker_step (TakeSwapHead t) v = take_swap_head_lem q t v
  worker_step (TakeLoadLastSlot t) v = take_load_last_slot q t v

  -- ── Client stores and beginnings ────────────────────────────────────────────────────────────────────────────────────────────

  -- an entry that takes no effect, of which the plain queue is told nothing
  abbrev Quiet : {c : WorkerCall} → Sound n m c → Begun → Done → Type 0
  Quiet v next d = WorkerTurn v q next (λ o. none) d

  -- it needs the worker to have no call
  module _ (next : Begun) (d : Done) (idle : (v : Sound n m WorkerCall.Idle) → m.worker.call ≡ WorkerCall.Idle → Quiet v next d) where
    runs : (c : WorkerCall) (v : Sound n m c) → m.worker.call ≡ c → worker_runs c ≡ true → Quiet v next (unless_worker_runs m d)
    runs c v at running = subst (λ b. Quiet v next (cond b (done Place m) d)) (sym (ap worker_runs at ∙ running)) (refused v Place at refl refl)

    unless_runs : (c : WorkerCall) (v : Sound n m c) → m.worker.call ≡ c → Quiet v next (unless_worker_runs m d)
    unless_runs WorkerCall.Idle v at = subst (λ b. Quiet v next (cond b (done Place m) d)) (sym (ap worker_runs at)) (idle v at)
    unless_runs (PutLoadHead x) v at = runs (PutLoadHead x) v at refl
    unless_runs (PutStoreSlot x) v at = runs (PutStoreSlot x) v at refl
    unless_runs PutStoreTail v at = runs PutStoreTail v at refl
    unless_runs TakeStoreTail v at = runs TakeStoreTail v at refl
    unless_runs (TakeLoadHead t) v at = runs (TakeLoadHead t) v at refl
    unless_runs (TakeLoadSlot t) v at = runs (TakeLoadSlot t) v at refl
    unless_runs (TakeTailToHead h) v at = runs (TakeTailToHead h) v at refl
    unless_runs (TakeTailPastHead t) v at = runs (TakeTailPastHead t) v at refl
    unless_runs (TakeSwapHead t) v at = runs (TakeSwapHead t) v at refl
    unless_runs (TakeLoadLastSlot t) v at = runs (TakeLoadLastSlot t) v at refl

  module _ (v : Sound n m WorkerCall.Idle) (at : m.worker.call ≡ WorkerCall.Idle) where
    abbrev made : Option (Maker × StoreKind)
    made = Some (TheClient, Client)

    stores : has_room m ≡ true → Quiet v nothing (done Moved (with_store made m))
    stores some-room =
        let room = ltb-true m.buffer.count m.sizes.buffer some-room in
        let sound =
        rebuilt v (push client_store m.buffer) (counted_in made m.spacing) WorkerCall.Idle
        (pushing v.buffer v.sizes room client_store v.buffer.bound 0 (v.buffer.owed - 1) v.buffer.seen (le_refl v.buffer.bound) refl
        (λ c few. client (no-link (omega arith))))
        v.tail
        (counted_in_asked made m.spacing m.sizes.spacing v.buffer.owed v.spaced)
        (counted_in_most made m.spacing n v.counted) in
        subst (λ c. Quiet v nothing (done Moved (with_worker c (with_store made m)))) (sym at)
        (alone v refl
        []
        refl
        sound
        (λ g.
        moves {A = AgreesOn sound} refl refl
        (pushed_agrees v room client_store q v.buffer.seen v.buffer.bound refl g.room (le_refl v.buffer.bound) g.below (λ k h. refl)
        (λ some. past_client no_store) g)))

    idle_store : Quiet v nothing (needing (has_room m) m (done Moved (with_store made m)))
    idle_store = decide (Quiet v nothing) (has_room m) stores (λ e. refused v Wait at refl refl)

    idle_put : (x : ℕ) → Quiet v (a_put x) (done Moved (with_worker (PutLoadHead x) m))
    idle_put x =
        alone v refl
        []
        refl
        (recalled v (PutLoadHead x) (record { holds = tt; floor = v.tail.floor; top = v.tail.top }) v.spaced)
        (λ g. moves refl refl (agrees_call refl g.room g))

    -- stores are counted from here, and none is due before the take's own store
    begins : too_early m.spacing m.sizes.spacing ≡ false → Quiet v a_take (done Moved (with_worker TakeStoreTail (with_spacing take_begins m)))
    begins late =
        alone v refl
        []
        refl
        (rebuilt v m.buffer take_begins TakeStoreTail v.buffer
        (record { holds = tt; floor = v.tail.floor; top = v.tail.top })
        (not_early m.spacing m.sizes.spacing v.buffer.owed late v.spaced, omega arith)
        (omega arith))
        (λ g. moves refl refl (agrees_call refl g.room g))

    idle_take : Quiet v a_take (cond (too_early m.spacing m.sizes.spacing) (done Early m) (done Moved (with_worker TakeStoreTail (with_spacing take_begins m))))
    idle_take = decide (Quiet v a_take) (too_early m.spacing m.sizes.spacing) (λ e. refused v Early at refl refl) begins

  pub client_store_lem : (v : Holds n m) → Quiet v nothing (make_client_store m)
  client_store_lem v = unless_runs nothing _ idle_store m.worker.call v refl

  pub begin_put_lem : (x : ℕ) (v : Holds n m) → Quiet v (a_put x) (begin_put x m)
  begin_put_lem x v = unless_runs (a_put x) _ (λ v at. idle_put v at x) m.worker.call v refl

  pub begin_take_lem : (v : Holds n m) → Quiet v a_take (begin_take m)
  begin_take_lem v = unless_runs a_take _ idle_take m.worker.call v refl

  -- ── The drain ───────────────────────────────────────────────────────────────────────────────────────────────────────────────

  module _ (v : Holds n m) (some : 0 < m.buffer.count) where
    slot_there : (i : Index) → slot_of m.sizes.slots i < length m.slots
    slot_there i = omega (arith, slot_of_below m.sizes.slots i v.sizes.slots_some, v.memory, v.sizes.slots_most)

    -- it changes nothing that the worker loads

    drained_load : worker_load (drained m) ≡ worker_load m
    drained_load = λ j i. drained_worker_load m some (within_cells v.buffer v.sizes some) i (slot_there i) j

    drained_tail : worker_tail (drained m) ≡ worker_tail m
    drained_tail = drained_worker_tail m some (within_cells v.buffer v.sizes some)

    -- .. nor what a thief that is sure has to know
    lands : Shift m.sizes v.buffer.bound v.buffer.owed v.buffer.seen (memory_of m) (memory_of (drained m)) (pending m.buffer) (pending (drop_oldest m.buffer))
    lands = shift_land v.buffer (oldest m.buffer) [] (pending (drop_oldest m.buffer)) (first v.buffer v.sizes some)

    abbrev drained_sound : Holds (n + 1) (drained m)
    drained_sound =
        record {
          sizes = v.sizes;
          memory = lands.memory ∙ v.memory;
          long = v.long;
          buffer = shifted v.buffer lands refl (drained_fits v.buffer v.sizes some) (drained_cells v.buffer v.sizes some);
          head = v.head;
          tail = v.tail;
          spaced = v.spaced;
          counted = omega (arith, v.counted);
          aims = v.aims;
        }

    drains : Quiet v nothing (done Moved (drained m))
    drains =
        alone v refl
        []
        refl
        drained_sound
        (λ g.
        let head = v.head.at in
        moves {A = AgreesOn drained_sound} (λ j. worker_begun (drained_load j (drained_tail j)) m.worker.call) (λ j. worker_owes (drained_load j) m.worker.call)
        (record {
          enough = g.enough;
          count = g.count;
          sum = g.sum;
          room = g.room;
          below = g.below;
          shows = shows_load (λ k. worker_load m (idx k)) head q.tasks g.shows (λ k. worker_load (drained m) (idx k)) (λ k h j. drained_load j (idx (head + k)));
          sure = λ i.
              sure_map m.head (thief_call m i) (g.sure i)
              (λ s. (
                record {
                  some = s.some;
                  above = lands.within head s.above;
                  number = s.number ∙ sym (lands.leaves head (omega (arith, v.head.floor, v.head.reached)) g.below (slot_there (idx head)) s.above);
                },
                refl,
              ));
        }))

  pub drain : (v : Holds n m) → Quiet v nothing (entries.drain m)
  drain v =
      decide (Quiet v nothing) (not (nothing_pending m)) (λ e. drains v (positive (eqb-false m.buffer.count 0 (not-true (nothing_pending m) e))))
      (λ e. refused v Wait refl refl refl)
    where
      positive : (m.buffer.count ≡ 0 → ⊥) → 0 < m.buffer.count
      positive some = omega arith
