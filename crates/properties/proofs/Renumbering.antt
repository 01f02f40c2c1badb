-- No step of FF-THE depends on a task's number: a machine whose tasks are numbered anew does what the machine does, numbered anew.
use mathlib.Core.Path.{◌≡◌, refl, ap, ◌∙◌}
use mathlib.Core.Bool.{not, ◌&&◌}
use mathlib.Core.List.{List, map}
use Prim.Native.Nat.{ℕ}
use lib.ListN.{get_or-map}
use Rattle.terms.proofs.Laws.Tests.{cond_map}
use Rattle.terms.proofs.Laws.Lists.{all_map, map-set}
use Rattle.stores.specs.Lock.{is_nobody}
use Rattle.stores.specs.Spacing.{too_early}
use Rattle.machine.specs.Worker.{at_end, at_or_above_head, head_is_past, is_full, loads, worker_in_range, worker_move, worker_runs}
use Rattle.machine.specs.Thief.{idle_thief, keeps_margin, loads as thief_loads, thief_in_range, thief_move, thief_runs}
use Rattle.machine.specs.Machine.{done, fresh, has_room, memory_loads, nothing_pending, thief_call, worker_loads}
use Rattle.machine.specs.Update.{with_lock, with_memory, with_store, with_worker}
use Rattle.machine.specs.InRange.{in_range}
use Rattle.machine.specs.Obey.{obey, obey_in_range}
use Rattle.machine.specs.Linearizable.{ff_the}
use Rattle.machine.specs.Perform.{thief_view, worker_view, perform_worker, step_of_worker, perform_thief, step_of_thief}
use Rattle.machine.specs.Entries.{unless_worker_runs, worker_goes_on}
use Rattle.properties.specs.Types.{Entry, Drain, ClientStore, BeginPut, BeginTake, WorkerStep, BeginSteal, ThiefStep, Done, Machine, Moved, Client, Option, Maker, StoreKind, Some, TheClient, Thief, ThiefCall, StealLock, StealLoadHead, StealRaiseHead, StealLoadTail, StealLoadSlot, StealUnlockTask, StealRestoreHead, StealUnlockAbort, ThiefView, ThiefMove, WorkerCall, PutLoadHead, PutStoreSlot, PutStoreTail, TakeStoreTail, TakeLoadHead, TakeLoadSlot, TakeLock, TakeReloadHead, TakeRestoreTail, TakeUnlockEmpty, TakeUnlockTask, TakeLoadLastSlot, WorkerView, WorkerMove}
use Rattle.properties.specs.Renumbering.{BlindToNumbers, renumber_entry, renumber_outcome}
use Rattle.properties.proofs.Laws.Renumbering.{blind_by_renumbering, choice_renumber, count_renumber, drained_renumber, loads_renumber, looked_at_renumber, memory_renumber, push_renumber, renumber_buffer, renumber_push, tail_renumber, thief_load_renumber, worker_load_renumber, zeros_renumber}

-- the thieves replaced
abbrev with_thieves : List Thief → Machine → Machine
with_thieves l m = record { sizes = m.sizes; slots = m.slots; head = m.head; tail = m.tail; lock = m.lock; buffer = m.buffer; spacing = m.spacing; worker = m.worker; thieves = l }

module _ (f : ℕ → ℕ) where
  -- ── A machine numbered anew by f ────────────────────────────────────────────────────────────────────────────────────────────

  abbrev renumber_worker : WorkerCall → WorkerCall
  renumber_worker WorkerCall.Idle = WorkerCall.Idle
  renumber_worker (PutLoadHead x) = PutLoadHead (f x)
  renumber_worker (PutStoreSlot x) = PutStoreSlot (f x)
  renumber_worker PutStoreTail = PutStoreTail
  renumber_worker TakeStoreTail = TakeStoreTail
  renumber_worker (TakeLoadHead t) = TakeLoadHead t
  renumber_worker (TakeLoadSlot t) = TakeLoadSlot t
  renumber_worker (TakeLock t) = TakeLock t
  renumber_worker (TakeReloadHead t) = TakeReloadHead t
  renumber_worker (TakeRestoreTail t) = TakeRestoreTail t
  renumber_worker TakeUnlockEmpty = TakeUnlockEmpty
  renumber_worker (TakeUnlockTask t) = TakeUnlockTask t
  renumber_worker (TakeLoadLastSlot t) = TakeLoadLastSlot t

  abbrev renumber_steal : ThiefCall → ThiefCall
  renumber_steal ThiefCall.Idle = ThiefCall.Idle
  renumber_steal StealLock = StealLock
  renumber_steal StealLoadHead = StealLoadHead
  renumber_steal (StealRaiseHead h) = StealRaiseHead h
  renumber_steal (StealLoadTail h) = StealLoadTail h
  renumber_steal (StealLoadSlot h) = StealLoadSlot h
  renumber_steal (StealUnlockTask x) = StealUnlockTask (f x)
  renumber_steal (StealRestoreHead h) = StealRestoreHead h
  renumber_steal StealUnlockAbort = StealUnlockAbort

  abbrev renumber_thief : Thief → Thief
  renumber_thief t = record { call = renumber_steal t.call }

  abbrev renumber : Machine → Machine
  renumber m =
      with_memory (map f m.slots) m.tail (renumber_buffer f m.buffer)
      (with_worker (renumber_worker m.worker.call) (with_thieves (map renumber_thief m.thieves) m))

  abbrev renumber_done : Done → Done
  renumber_done d = done (renumber_outcome f d.outcome) (renumber d.machine)

  -- .. what a party sees, and what its step does

  abbrev renumber_worker_view : WorkerView → WorkerView
  renumber_worker_view v =
      record {
        call = renumber_worker v.call;
        slots = v.slots;
        tail = v.tail;
        head = v.head;
        lock = v.lock;
        room = v.room;
        drained = v.drained;
        loaded = f v.loaded;
      }

  abbrev renumber_worker_move : WorkerMove → WorkerMove
  renumber_worker_move d =
      record { push = renumber_push f d.push; lock = d.lock; call = renumber_worker d.call; outcome = renumber_outcome f d.outcome }

  abbrev renumber_thief_view : ThiefView → ThiefView
  renumber_thief_view v =
      record {
        call = renumber_steal v.call;
        me = v.me;
        head = v.head;
        tail = v.tail;
        lock = v.lock;
        margin = v.margin;
        loaded = f v.loaded;
      }

  abbrev renumber_thief_move : ThiefMove → ThiefMove
  renumber_thief_move d = record { head = d.head; lock = d.lock; call = renumber_steal d.call; outcome = renumber_outcome f d.outcome }

  -- ── What looks at no number comes out the same ──────────────────────────────────────────────────────────────────────────────

  -- a function that has the same value wherever a number stands has the same value at a worker's and at a thief's call
  worker_blind : {A : Type 0} (g : WorkerCall → A) → ((x : ℕ) → g (PutLoadHead (f x)) ≡ g (PutLoadHead x))
      → ((x : ℕ) → g (PutStoreSlot (f x)) ≡ g (PutStoreSlot x)) → (c : WorkerCall) → g (renumber_worker c) ≡ g c
  worker_blind g load store WorkerCall.Idle = refl
  worker_blind g load store (PutLoadHead x) = load x
  worker_blind g load store (PutStoreSlot x) = store x
  worker_blind g load store PutStoreTail = refl
  worker_blind g load store TakeStoreTail = refl
  worker_blind g load store (TakeLoadHead t) = refl
  worker_blind g load store (TakeLoadSlot t) = refl
  worker_blind g load store (TakeLock t) = refl
  worker_blind g load store (TakeReloadHead t) = refl
  worker_blind g load store (TakeRestoreTail t) = refl
  worker_blind g load store TakeUnlockEmpty = refl
  worker_blind g load store (TakeUnlockTask t) = refl
  worker_blind g load store (TakeLoadLastSlot t) = refl

  thief_blind : {A : Type 0} (g : ThiefCall → A) → ((x : ℕ) → g (StealUnlockTask (f x)) ≡ g (StealUnlockTask x))
      → (c : ThiefCall) → g (renumber_steal c) ≡ g c
  thief_blind g task ThiefCall.Idle = refl
  thief_blind g task StealLock = refl
  thief_blind g task StealLoadHead = refl
  thief_blind g task (StealRaiseHead h) = refl
  thief_blind g task (StealLoadTail h) = refl
  thief_blind g task (StealLoadSlot h) = refl
  thief_blind g task (StealUnlockTask x) = task x
  thief_blind g task (StealRestoreHead h) = refl
  thief_blind g task StealUnlockAbort = refl

  in_range_renumber : (m : Machine) → in_range (renumber m) ≡ in_range m
  unfolding in_range
  in_range_renumber m =
      rw (
        memory_renumber f m.sizes m.head m.tail m.buffer m.spacing,
        worker_blind worker_in_range (λ x. refl) (λ x. refl) m.worker.call,
        all_map renumber_thief (λ t. thief_in_range t.call) (λ t. thief_blind thief_in_range (λ x. refl) t.call) m.thieves,
      )

  thief_call_renumber : (m : Machine) (i : ℕ) → thief_call (renumber m) i ≡ renumber_steal (thief_call m i)
  thief_call_renumber m i = ap (λ t. t.call) (get_or-map renumber_thief m.thieves i idle_thief)

  -- ── What an entry changes ───────────────────────────────────────────────────────────────────────────────────────────────────

  -- a store becomes pending, if there is one
  store_renumber : (p : Option (Maker × StoreKind)) (m : Machine) → with_store (renumber_push f p) (renumber m) ≡ renumber (with_store p m)
  store_renumber p m = rw (push_renumber f p m.buffer, count_renumber f p m.spacing)

  -- a thief's move
  thief_renumber : (i : ℕ) (m : Machine) (d : ThiefMove) → perform_thief i (renumber m) (renumber_thief_move d) ≡ renumber_done (perform_thief i m d)
  thief_renumber i m d = rw (map-set renumber_thief m.thieves i (record { call = d.call }))

  -- a beginning or a client store, unless the worker's call runs
  unless_renumber : (m : Machine) (d : Done) {r : Done} → r ≡ renumber_done d
      → unless_worker_runs (renumber m) r ≡ renumber_done (unless_worker_runs m d)
  unless_renumber m d e = choice_renumber renumber_done (worker_blind worker_runs (λ x. refl) (λ x. refl) m.worker.call) refl e

  -- ── Each step, as its party sees the machine ────────────────────────────────────────────────────────────────────────────────

  work_renumber : (c : WorkerCall) (v : WorkerView)
      → worker_move (renumber_worker c) (renumber_worker_view v) ≡ renumber_worker_move (worker_move c v)
  work_renumber WorkerCall.Idle v = refl
  work_renumber (PutLoadHead x) v = cond_map renumber_worker_move (at_end v) refl (cond_map renumber_worker_move (is_full v) refl refl)
  work_renumber (PutStoreSlot x) v = cond_map renumber_worker_move v.room refl refl
  work_renumber PutStoreTail v = cond_map renumber_worker_move v.room refl refl
  work_renumber TakeStoreTail v = cond_map renumber_worker_move v.room refl refl
  work_renumber (TakeLoadHead t) v = cond_map renumber_worker_move (at_or_above_head t v) refl refl
  work_renumber (TakeLoadSlot t) v = refl
  work_renumber (TakeLock t) v = cond_map renumber_worker_move (is_nobody v.lock.holder && v.drained) refl refl
  work_renumber (TakeReloadHead t) v = cond_map renumber_worker_move (head_is_past t v) refl refl
  work_renumber (TakeRestoreTail t) v = cond_map renumber_worker_move v.room refl refl
  work_renumber TakeUnlockEmpty v = cond_map renumber_worker_move v.drained refl refl
  work_renumber (TakeUnlockTask t) v = cond_map renumber_worker_move v.drained refl refl
  work_renumber (TakeLoadLastSlot t) v = refl

  steal_renumber : (c : ThiefCall) (v : ThiefView)
      → thief_move (renumber_steal c) (renumber_thief_view v) ≡ renumber_thief_move (thief_move c v)
  steal_renumber ThiefCall.Idle v = refl
  steal_renumber StealLock v = cond_map renumber_thief_move (is_nobody v.lock.holder) refl refl
  steal_renumber StealLoadHead v = refl
  steal_renumber (StealRaiseHead h) v = refl
  steal_renumber (StealLoadTail h) v = cond_map renumber_thief_move (keeps_margin h v.tail v.margin) refl refl
  steal_renumber (StealLoadSlot h) v = refl
  steal_renumber (StealUnlockTask x) v = refl
  steal_renumber (StealRestoreHead h) v = refl
  steal_renumber StealUnlockAbort v = refl

  -- ── With 0 for 0: a slot that holds no task holds 0 ─────────────────────────────────────────────────────────────────────────
  module _ (zero-kept : f 0 ≡ 0) where
    -- what a party sees, and what its step does to the machine
    worker_step_renumber : (m : Machine) (c : WorkerCall) → step_of_worker (renumber m) (renumber_worker c) ≡ renumber_done (step_of_worker m c)
    worker_step_renumber m c =
        let d = worker_move c (worker_view m c) in
        let sees : worker_view (renumber m) (renumber_worker c) ≡ renumber_worker_view (worker_view m c) =
        rw (worker_blind loads (λ x. refl) (λ x. refl) c, loads_renumber f zero-kept (worker_loads (renumber m)) (worker_loads m) refl refl (worker_load_renumber f zero-kept m.sizes.slots m.slots m.buffer) (loads c), tail_renumber f m.tail m.buffer) in
        ap (λ v. perform_worker (renumber m) (worker_move (renumber_worker c) v)) sees
        ∙ ap (perform_worker (renumber m)) (work_renumber c (worker_view m c))
        ∙ ap (λ n. done (renumber_outcome f d.outcome) (with_worker (renumber_worker d.call) (with_lock d.lock.holder n))) (store_renumber d.push m)

    thief_step_renumber : (i : ℕ) (m : Machine) (c : ThiefCall) → step_of_thief i (renumber m) (renumber_steal c) ≡ renumber_done (step_of_thief i m c)
    thief_step_renumber i m c =
        let sees : thief_view (renumber m) i (renumber_steal c) ≡ renumber_thief_view (thief_view m i c) =
        rw (thief_blind thief_loads (λ x. refl) c, loads_renumber f zero-kept (memory_loads (renumber m)) (memory_loads m) refl refl (thief_load_renumber f zero-kept m.sizes.slots m.slots) (thief_loads c)) in
        ap (λ v. perform_thief i (renumber m) (thief_move (renumber_steal c) v)) sees
        ∙ ap (perform_thief i (renumber m)) (steal_renumber c (thief_view m i c))
        ∙ thief_renumber i m (thief_move c (thief_view m i c))

    -- each entry
    obey_in_range_renumber : (m : Machine) (e : Entry) → obey_in_range (renumber m) (renumber_entry f e) ≡ renumber_done (obey_in_range m e)
    obey_in_range_renumber m Drain =
        cond_map renumber_done (not (nothing_pending m)) (drained_renumber f (λ l t b. done Moved (with_memory l t b (renumber m))) m.sizes.slots m.slots m.tail m.buffer) refl
    obey_in_range_renumber m ClientStore = unless_renumber m _ (cond_map renumber_done (has_room m) (ap (done Moved) (store_renumber (Some (TheClient, Client)) m)) refl)
    obey_in_range_renumber m (BeginPut x) = unless_renumber m (worker_goes_on (PutLoadHead x) m) refl
    obey_in_range_renumber m BeginTake = unless_renumber m _ (cond_map renumber_done (too_early m.spacing m.sizes.spacing) refl refl)
    obey_in_range_renumber m WorkerStep = worker_step_renumber m m.worker.call
    obey_in_range_renumber m (BeginSteal i) =
        choice_renumber renumber_done (ap thief_runs (thief_call_renumber m i) ∙ thief_blind thief_runs (λ x. refl) (thief_call m i)) refl
        (thief_renumber i m (record { head = m.head; lock = m.lock; call = StealLock; outcome = Moved }))
    obey_in_range_renumber m (ThiefStep i) = rw (thief_call_renumber m i) (thief_step_renumber i m (thief_call m i))

    obey_renumber : (m : Machine) (e : Entry) → obey (renumber m) (renumber_entry f e) ≡ renumber_done (obey m e)
    obey_renumber m e = looked_at_renumber f renumber_done m.sizes e (in_range_renumber m) (obey_in_range_renumber m e) refl

pub blind_to_numbers : BlindToNumbers ff_the
blind_to_numbers =
    blind_by_renumbering ff_the
    (λ f zero-kept.
    record {
      renumber = renumber f;
      next_renumber = λ m e. ap (λ d. d.machine) (obey_renumber f zero-kept m e);
      outcome_renumber = λ m e. ap (λ d. d.outcome) (obey_renumber f zero-kept m e);
      fresh_renumber = λ s. ap (λ l. with_memory l (fresh s).tail (fresh s).buffer (fresh s)) (zeros_renumber f zero-kept 256);
    })
