-- Each entry of the worker's, apart from a drain, keeps the invariant: the steps of its calls, client stores, and beginnings.
use mathlib.Core.Path.{◌≡◌, refl, ap, sym, ◌∙◌, subst}
use mathlib.Core.Bool.{true, false, cond}
use mathlib.Core.List.{[]}
use Prim.Native.Nat.{ℕ, ◌+◌, ◌-◌}
use native.Mathlib.Omega.{arith}
use borrow.Author.Tests.{ltb-true}
use Rattle.terms.proofs.Laws.Tests.{decide}
use Rattle.stores.specs.Spacing.{counted_in, take_begins, too_early}
use Rattle.stores.specs.StoreBuffer.{client_store, push}
use Rattle.stores.proofs.Laws.Chain.{client, no_store, none as no-link, past_client}
use Rattle.stores.proofs.Laws.Spacing.{counted_in_asked, counted_in_most, not_early}
use Rattle.stores.proofs.Laws.Pending.{pushing}
use Rattle.claim.specs.PlainQueue.{PlainQueue}
use Rattle.claim.specs.Calls.{none}
use Rattle.claim.proofs.Turn.{moves}
use Rattle.machine.specs.Types.{Done, Entry, ClientStore, BeginPut, BeginTake, Option, Maker, StoreKind, Some, TheClient, Client, Machine, Moved, Place, Early, Wait, ThiefCall, WorkerCall, PutLoadHead, PutStoreSlot, PutStoreTail, TakeStoreTail, TakeLoadHead, TakeLoadSlot, TakeLock, TakeReloadHead, TakeRestoreTail, TakeUnlockEmpty, TakeUnlockTask, TakeLoadLastSlot}
use Rattle.machine.specs.Machine.{done, has_room, needing}
use Rattle.machine.specs.Update.{with_spacing, with_store}
use Rattle.machine.specs.Worker.{worker_runs}
use Rattle.machine.specs.Entries.{begin_put, begin_take, make_client_store, unless_worker_runs, worker_goes_on}
use Rattle.machine.specs.Perform.{step_of_worker}
use Rattle.machine.proofs.Linearizable.Invariant.{Environment, AgreesOn, Sound, stolen}
use Rattle.machine.proofs.Linearizable.Turn.{StepTurn, WorkerTurn, after_worker}
use Rattle.machine.proofs.Linearizable.Rebuild.{agrees_call, pushed_shows, pushed_unwritten, pushes, rebuilt, recalled, recalls, refused, stayed}
use Rattle.machine.proofs.Linearizable.Put.{put_load_head_lem, put_store_slot_lem, put_store_tail_lem}
use Rattle.machine.proofs.Linearizable.Take.{take_load_head_lem, take_load_last_slot, take_load_slot_lem, take_lock_lem, take_reload_head_lem, take_restore_tail_lem, take_store_tail_lem, take_unlock_empty_lem, take_unlock_task_lem}

-- ── The next step of the worker's call ──────────────────────────────────────────────────────────────────────────────────────

module _ {g : Environment} {n : ℕ} {m : Machine} {p : ThiefCall} (q : PlainQueue) where
  pub worker_step : (c : WorkerCall) (v : Sound g n m c p) → m.worker.call ≡ c → StepTurn v q (step_of_worker m c)
  worker_step WorkerCall.Idle v at = stayed v Place at refl refl
  worker_step (PutLoadHead x) v at = put_load_head_lem q x v
  worker_step (PutStoreSlot x) v at = put_store_slot_lem q x v at
  worker_step PutStoreTail v at = put_store_tail_lem q v at
  worker_step TakeStoreTail v at = take_store_tail_lem q v at
  worker_step (TakeLoadHead t) v at = take_load_head_lem q t v
  worker_step (TakeLoadSlot t) v at = take_load_slot_lem q t v
  worker_step (TakeLock t) v at = take_lock_lem q t v at
  worker_step (TakeReloadHead t) v at = take_reload_head_lem q t v
  worker_step (TakeRestoreTail t) v at = take_restore_tail_lem q t v at
  worker_step TakeUnlockEmpty v at = take_unlock_empty_lem q v at
  worker_step (TakeUnlockTask t) v at = take_unlock_task_lem q t v at
  worker_step (TakeLoadLastSlot t) v at = take_load_last_slot q t v

-- ── Client stores and beginnings ────────────────────────────────────────────────────────────────────────────────────────────

module _ {g : Environment} {n : ℕ} {m : Machine} {p : ThiefCall} (q : PlainQueue) where
  -- an entry that takes no effect, of which the plain queue is told nothing
  abbrev Quiet : {c : WorkerCall} → Sound g n m c p → Entry → Done → Type 0
  Quiet v e d = WorkerTurn v q e (λ o. none) d

  -- it needs the worker to have no call
  module _ (e : Entry) (d : Done) (idle : (v : Sound g n m WorkerCall.Idle p) → m.worker.call ≡ WorkerCall.Idle → Quiet v e d) where
    runs : (c : WorkerCall) (v : Sound g n m c p) → m.worker.call ≡ c → worker_runs c ≡ true → Quiet v e (unless_worker_runs m d)
    runs c v at running = subst (λ b. Quiet v e (cond b (done Place m) d)) (sym (ap worker_runs at ∙ running)) (refused v Place at refl refl)

    unless_runs : (c : WorkerCall) (v : Sound g n m c p) → m.worker.call ≡ c → Quiet v e (unless_worker_runs m d)
    unless_runs WorkerCall.Idle v at = subst (λ b. Quiet v e (cond b (done Place m) d)) (sym (ap worker_runs at)) (idle v at)
    unless_runs (PutLoadHead x) v at = runs (PutLoadHead x) v at refl
    unless_runs (PutStoreSlot x) v at = runs (PutStoreSlot x) v at refl
    unless_runs PutStoreTail v at = runs PutStoreTail v at refl
    unless_runs TakeStoreTail v at = runs TakeStoreTail v at refl
    unless_runs (TakeLoadHead t) v at = runs (TakeLoadHead t) v at refl
    unless_runs (TakeLoadSlot t) v at = runs (TakeLoadSlot t) v at refl
    unless_runs (TakeLock t) v at = runs (TakeLock t) v at refl
    unless_runs (TakeReloadHead t) v at = runs (TakeReloadHead t) v at refl
    unless_runs (TakeRestoreTail t) v at = runs (TakeRestoreTail t) v at refl
    unless_runs TakeUnlockEmpty v at = runs TakeUnlockEmpty v at refl
    unless_runs (TakeUnlockTask t) v at = runs (TakeUnlockTask t) v at refl
    unless_runs (TakeLoadLastSlot t) v at = runs (TakeLoadLastSlot t) v at refl

  module _ (v : Sound g n m WorkerCall.Idle p) (at : m.worker.call ≡ WorkerCall.Idle) where
    abbrev made : Option (Maker × StoreKind)
    made = Some (TheClient, Client)

    stores : has_room m ≡ true → Quiet v ClientStore (done Moved (with_store made m))
    stores some-room =
        let room = ltb-true m.buffer.count m.sizes.buffer some-room in
        let sound =
        rebuilt v m.lock (push client_store m.buffer) (counted_in made m.spacing) WorkerCall.Idle
        (pushing v.buffer v.sizes room client_store v.buffer.bound 0 (v.buffer.owed - 1) v.buffer.seen (omega arith) refl
        (λ c few. client (no-link (omega arith))))
        v.tail
        (counted_in_asked made m.spacing m.sizes.spacing v.buffer.owed v.spaced)
        (counted_in_most made m.spacing n v.counted)
        v.lock
        in
        pushes v Moved [] client_store (counted_in made m.spacing) WorkerCall.Idle
        (ap (λ c. done Moved (after_worker m m.lock (push client_store m.buffer) (counted_in made m.spacing) c)) (sym at))
        refl
        sound
        (λ g.
        moves {A = AgreesOn sound} refl refl
        (record {
          count = g.count;
          sum = g.sum;
          room = g.room;
          below = g.below;
          shows = pushed_shows v room client_store q.tasks (v.head.lo + stolen p) (λ k h. refl) g.shows;
          unwritten = pushed_unwritten v room client_store v.buffer.bound (omega arith) (λ has. past_client no_store) g.unwritten;
        }))

    idle_store : Quiet v ClientStore (needing (has_room m) m (done Moved (with_store made m)))
    idle_store = decide (Quiet v ClientStore) (has_room m) stores (λ e. refused v Wait at refl refl)

    idle_put : (x : ℕ) → Quiet v (BeginPut x) (worker_goes_on (PutLoadHead x) m)
    idle_put x =
        recalls v Moved [] m.lock (PutLoadHead x) refl (λ i. refl)
        (recalled v m.lock (PutLoadHead x) (record { holds_tail = tt; floor = v.tail.floor; top = v.tail.top }) v.spaced v.lock)
        (λ g. moves refl refl (agrees_call refl g.room g))

    -- stores are counted from here, and none is due before the take's own store
    begins : too_early m.spacing m.sizes.spacing ≡ false → Quiet v BeginTake (worker_goes_on TakeStoreTail (with_spacing take_begins m))
    begins late =
        record {
          outcome = Moved;
          told = [];
          lock = m.lock;
          buffer = m.buffer;
          spacing = take_begins;
          call = TakeStoreTail;
          is = refl;
          told_is = refl;
          holder = λ i. refl;
          sound =
              rebuilt v m.lock m.buffer take_begins TakeStoreTail v.buffer
              (record { holds_tail = tt; floor = v.tail.floor; top = v.tail.top })
              (not_early m.spacing m.sizes.spacing v.buffer.owed late v.spaced, omega arith)
              (omega arith)
              v.lock;
          turn = λ g. moves refl refl (agrees_call refl g.room g);
        }

    idle_take : Quiet v BeginTake (cond (too_early m.spacing m.sizes.spacing) (done Early m) (worker_goes_on TakeStoreTail (with_spacing take_begins m)))
    idle_take = decide (Quiet v BeginTake) (too_early m.spacing m.sizes.spacing) (λ e. refused v Early at refl refl) begins

  pub client_store_lem : (c : WorkerCall) (v : Sound g n m c p) → m.worker.call ≡ c → Quiet v ClientStore (make_client_store m)
  client_store_lem = unless_runs ClientStore _ idle_store

  pub begin_put_lem : (x : ℕ) (c : WorkerCall) (v : Sound g n m c p) → m.worker.call ≡ c → Quiet v (BeginPut x) (begin_put x m)
  begin_put_lem x = unless_runs (BeginPut x) _ (λ v at. idle_put v at x)

  pub begin_take_lem : (c : WorkerCall) (v : Sound g n m c p) → m.worker.call ≡ c → Quiet v BeginTake (begin_take m)
  begin_take_lem = unless_runs BeginTake _ idle_take
