-- No step of FF-CL depends on a task's number: a machine whose tasks are numbered anew does what the machine does, numbered anew.
use mathlib.Core.Path.{◌≡◌, refl, ap, ◌∙◌}
use mathlib.Core.Bool.{not}
use mathlib.Core.List.{map}
use Prim.Native.Nat.{ℕ}
use lib.ListN.{get_or-map}
use Rattle.terms.proofs.Laws.Tests.{cond_map}
use Rattle.terms.proofs.Laws.Lists.{all_map, map-set}
use Rattle.stores.specs.Spacing.{too_early}
use Rattle.cas.specs.Worker.{at_end, is_above_head, is_full, is_head, loads, worker_in_range, worker_move, worker_runs}
use Rattle.cas.specs.Thief.{idle_thief, is_head as thief_is_head, loads as thief_loads, none_above, thief_in_range, thief_move, thief_runs, within_margin}
use Rattle.cas.specs.Machine.{done, fresh, has_room, in_range, memory_loads, nothing_pending, thief_call, with_head, with_memory, with_store, with_worker, worker_loads}
use Rattle.cas.specs.Entries.{obey, obey_in_range, perform_thief, perform_worker, step_of_thief, step_of_worker, thief_view, unless_worker_runs, worker_view}
use Rattle.cas.specs.Linearizable.{ff_cl}
use Rattle.properties.specs.Types.{Entry, Drain, ClientStore, BeginPut, BeginTake, WorkerStep, BeginSteal, ThiefStep, Index, Client, TheClient, Some, Option, Maker, StoreKind, Moved}
use Rattle.properties.specs.CasTypes.{Done, Machine, Thief, ThiefCall, StealLoadHead, StealLoadTail, StealLoadSlot, StealSwapHead, ThiefMove, ThiefView, WorkerCall, PutLoadHead, PutStoreSlot, PutStoreTail, TakeStoreTail, TakeLoadHead, TakeLoadSlot, TakeTailToHead, TakeTailPastHead, TakeSwapHead, TakeLoadLastSlot, WorkerMove, WorkerView}
use Rattle.properties.specs.Renumbering.{BlindToNumbers, renumber_entry, renumber_outcome}
use Rattle.properties.proofs.Laws.Renumbering.{blind_by_renumbering, choice_renumber, count_renumber, drained_renumber, loads_renumber, looked_at_renumber, memory_renumber, push_renumber, renumber_buffer, renumber_push, tail_renumber, thief_load_renumber, worker_load_renumber, zeros_renumber}

module _ (f : ℕ → ℕ) where
  -- ── A machine numbered anew by f ────────────────────────────────────────────────────────────────────────────────────────────

  abbrev renumber_worker : WorkerCall → WorkerCall
  renumber_worker WorkerCall.Idle = WorkerCall.Idle
  renumber_worker (PutLoadHead x) = PutLoadHead (f x)
  renumber_worker (PutStoreSlot x) = PutStoreSlot (f x)
  renumber_worker PutStoreTail = PutStoreTail
  renumber_worker TakeStoreTail = TakeStoreTail
  renumber_worker (TakeLoadHead t) = TakeLoadHead t
  renumber_worker (TakeLoadSlot t) = TakeLoadSlot t
  renumber_worker (TakeTailToHead h) = TakeTailToHead h
  renumber_worker (TakeTailPastHead t) = TakeTailPastHead t
  renumber_worker (TakeSwapHead t) = TakeSwapHead t
  renumber_worker (TakeLoadLastSlot t) = TakeLoadLastSlot t

  abbrev renumber_steal : ThiefCall → ThiefCall
  renumber_steal ThiefCall.Idle = ThiefCall.Idle
  renumber_steal StealLoadHead = StealLoadHead
  renumber_steal (StealLoadTail h) = StealLoadTail h
  renumber_steal (StealLoadSlot h) = StealLoadSlot h
  renumber_steal (StealSwapHead x h) = StealSwapHead (f x) h

  abbrev renumber_thief : Thief → Thief
  renumber_thief t = record { call = renumber_steal t.call }

  abbrev renumber : Machine → Machine
  renumber m =
      record {
        sizes = m.sizes;
        slots = map f m.slots;
        head = m.head;
        tail = m.tail;
        buffer = renumber_buffer f m.buffer;
        spacing = m.spacing;
        worker = record { call = renumber_worker m.worker.call };
        thieves = map renumber_thief m.thieves;
      }

  abbrev renumber_done : Done → Done
  renumber_done d = done (renumber_outcome f d.outcome) (renumber d.machine)

  -- .. what a party sees, and what its step does

  abbrev renumber_worker_view : WorkerView → WorkerView
  renumber_worker_view v = record { call = renumber_worker v.call; slots = v.slots; tail = v.tail; head = v.head; room = v.room; drained = v.drained; loaded = f v.loaded }

  abbrev renumber_worker_move : WorkerMove → WorkerMove
  renumber_worker_move d = record { push = renumber_push f d.push; head = d.head; call = renumber_worker d.call; outcome = renumber_outcome f d.outcome }

  abbrev renumber_thief_view : ThiefView → ThiefView
  renumber_thief_view v = record { call = renumber_steal v.call; head = v.head; tail = v.tail; margin = v.margin; loaded = f v.loaded }

  abbrev renumber_thief_move : ThiefMove → ThiefMove
  renumber_thief_move d = record { head = d.head; call = renumber_steal d.call; outcome = renumber_outcome f d.outcome }

  -- ── What looks at no number comes out the same ──────────────────────────────────────────────────────────────────────────────

  -- a function that has the same value wherever a number stands has the same value at a worker's and at a thief's call
  worker_blind : {A : Type 0} (g : WorkerCall → A) → ((x : ℕ) → g (PutLoadHead (f x)) ≡ g (PutLoadHead x))
      → ((x : ℕ) → g (PutStoreSlot (f x)) ≡ g (PutStoreSlot x)) → (c : WorkerCall) → g (renumber_worker c) ≡ g c
  worker_blind g load store WorkerCall.Idle = refl
  worker_blind g load store (PutLoadHead x) = load x
  worker_blind g load store (PutStoreSlot x) = store x
  worker_blind g load store PutStoreTail = refl
  worker_blind g load store TakeStoreTail = refl
  worker_blind g load store (TakeLoadHead t) = refl
  worker_blind g load store (TakeLoadSlot t) = refl
  worker_blind g load store (TakeTailToHead h) = refl
  worker_blind g load store (TakeTailPastHead t) = refl
  worker_blind g load store (TakeSwapHead t) = refl
  worker_blind g load store (TakeLoadLastSlot t) = refl

  thief_blind : {A : Type 0} (g : ThiefCall → A) → ((h : Index) (x : ℕ) → g (StealSwapHead (f x) h) ≡ g (StealSwapHead x h))
      → (c : ThiefCall) → g (renumber_steal c) ≡ g c
  thief_blind g swap ThiefCall.Idle = refl
  thief_blind g swap StealLoadHead = refl
  thief_blind g swap (StealLoadTail h) = refl
  thief_blind g swap (StealLoadSlot h) = refl
  thief_blind g swap (StealSwapHead x h) = swap h x

  in_range_renumber : (m : Machine) → in_range (renumber m) ≡ in_range m
  unfolding in_range
  in_range_renumber m =
      rw (
        memory_renumber f m.sizes m.head m.tail m.buffer m.spacing,
        worker_blind worker_in_range (λ x. refl) (λ x. refl) m.worker.call,
        all_map renumber_thief (λ t. thief_in_range t.call) (λ t. thief_blind thief_in_range (λ h x. refl) t.call) m.thieves,
      )

  thief_call_renumber : (m : Machine) (i : ℕ) → thief_call (renumber m) i ≡ renumber_steal (thief_call m i)
  thief_call_renumber m i = ap (λ t. t.call) (get_or-map renumber_thief m.thieves i idle_thief)

  -- ── What an entry changes ───────────────────────────────────────────────────────────────────────────────────────────────────

  -- a store becomes pending, if there is one
  store_renumber : (p : Option (Maker × StoreKind)) (m : Machine) → with_store (renumber_push f p) (renumber m) ≡ renumber (with_store p m)
  store_renumber p m = rw (push_renumber f p m.buffer, count_renumber f p m.spacing)

  -- a thief's move
  thief_renumber : (i : ℕ) (m : Machine) (d : ThiefMove) → perform_thief i (renumber m) (renumber_thief_move d) ≡ renumber_done (perform_thief i m d)
  thief_renumber i m d = rw (map-set renumber_thief m.thieves i (record { call = d.call }))

  -- a beginning or a client store, unless the worker's call runs
  unless_renumber : (m : Machine) (d : Done) {r : Done} → r ≡ renumber_done d → unless_worker_runs (renumber m) r ≡ renumber_done (unless_worker_runs m d)
  unless_renumber m d e = choice_renumber renumber_done (worker_blind worker_runs (λ x. refl) (λ x. refl) m.worker.call) refl e

  -- ── Each step, as its party sees the machine ────────────────────────────────────────────────────────────────────────────────

  work_renumber : (c : WorkerCall) (v : WorkerView) → worker_move (renumber_worker c) (renumber_worker_view v) ≡ renumber_worker_move (worker_move c v)
  work_renumber WorkerCall.Idle v = refl
  work_renumber (PutLoadHead x) v = cond_map renumber_worker_move (at_end v) refl (cond_map renumber_worker_move (is_full v) refl refl)
  work_renumber (PutStoreSlot x) v = cond_map renumber_worker_move v.room refl refl
  work_renumber PutStoreTail v = cond_map renumber_worker_move v.room refl refl
  work_renumber TakeStoreTail v = cond_map renumber_worker_move v.room refl refl
  work_renumber (TakeLoadHead t) v = cond_map renumber_worker_move (is_above_head t v) refl (cond_map renumber_worker_move (is_head t v) refl refl)
  work_renumber (TakeLoadSlot t) v = refl
  work_renumber (TakeTailToHead h) v = cond_map renumber_worker_move v.room refl refl
  work_renumber (TakeTailPastHead t) v = cond_map renumber_worker_move v.room refl refl
  work_renumber (TakeSwapHead t) v = cond_map renumber_worker_move v.drained (cond_map renumber_worker_move (is_head t v) refl refl) refl
  work_renumber (TakeLoadLastSlot t) v = refl

  steal_renumber : (c : ThiefCall) (v : ThiefView) → thief_move (renumber_steal c) (renumber_thief_view v) ≡ renumber_thief_move (thief_move c v)
  steal_renumber ThiefCall.Idle v = refl
  steal_renumber StealLoadHead v = refl
  steal_renumber (StealLoadTail h) v = cond_map renumber_thief_move (none_above h v) refl (cond_map renumber_thief_move (within_margin h v) refl refl)
  steal_renumber (StealLoadSlot h) v = refl
  steal_renumber (StealSwapHead x h) v = cond_map renumber_thief_move (thief_is_head h v) refl refl

  -- ── With 0 for 0: a slot that holds no task holds 0 ─────────────────────────────────────────────────────────────────────────
  module _ (zero-kept : f 0 ≡ 0) where
    -- what a party sees, and what its step does to the machine
    worker_step_renumber : (m : Machine) (c : WorkerCall) → step_of_worker (renumber m) (renumber_worker c) ≡ renumber_done (step_of_worker m c)
    worker_step_renumber m c =
        let d = worker_move c (worker_view m c) in
        let sees : worker_view (renumber m) (renumber_worker c) ≡ renumber_worker_view (worker_view m c) =
        rw (worker_blind loads (λ x. refl) (λ x. refl) c, loads_renumber f zero-kept (worker_loads (renumber m)) (worker_loads m) refl refl (worker_load_renumber f zero-kept m.sizes.slots m.slots m.buffer) (loads c), tail_renumber f m.tail m.buffer) in
        ap (λ v. perform_worker (renumber m) (worker_move (renumber_worker c) v)) sees
        ∙ ap (perform_worker (renumber m)) (work_renumber c (worker_view m c))
        ∙ ap (λ n. done (renumber_outcome f d.outcome) (with_worker (renumber_worker d.call) (with_head d.head n))) (store_renumber d.push m)

    thief_step_renumber : (i : ℕ) (m : Machine) (c : ThiefCall) → step_of_thief i (renumber m) (renumber_steal c) ≡ renumber_done (step_of_thief i m c)
    thief_step_renumber i m c =
        let sees : thief_view (renumber m) (renumber_steal c) ≡ renumber_thief_view (thief_view m c) =
        rw (thief_blind thief_loads (λ h x. refl) c, loads_renumber f zero-kept (memory_loads (renumber m)) (memory_loads m) refl refl (thief_load_renumber f zero-kept m.sizes.slots m.slots) (thief_loads c)) in
        ap (λ v. perform_thief i (renumber m) (thief_move (renumber_steal c) v)) sees
        ∙ ap (perform_thief i (renumber m)) (steal_renumber c (thief_view m c))
        ∙ thief_renumber i m (thief_move c (thief_view m c))

    -- each entry
    obey_in_range_renumber : (m : Machine) (e : Entry) → obey_in_range (renumber m) (renumber_entry f e) ≡ renumber_done (obey_in_range m e)
    obey_in_range_renumber m Drain =
        cond_map renumber_done (not (nothing_pending m)) (drained_renumber f (λ l t b. done Moved (with_memory l t b (renumber m))) m.sizes.slots m.slots m.tail m.buffer) refl
    obey_in_range_renumber m ClientStore = unless_renumber m _ (cond_map renumber_done (has_room m) (ap (done Moved) (store_renumber (Some (TheClient, Client)) m)) refl)
    obey_in_range_renumber m (BeginPut x) = unless_renumber m (done Moved (with_worker (PutLoadHead x) m)) refl
    obey_in_range_renumber m BeginTake = unless_renumber m _ (cond_map renumber_done (too_early m.spacing m.sizes.spacing) refl refl)
    obey_in_range_renumber m WorkerStep = worker_step_renumber m m.worker.call
    obey_in_range_renumber m (BeginSteal i) =
        choice_renumber renumber_done (ap thief_runs (thief_call_renumber m i) ∙ thief_blind thief_runs (λ h x. refl) (thief_call m i)) refl
        (thief_renumber i m (record { head = m.head; call = StealLoadHead; outcome = Moved }))
    obey_in_range_renumber m (ThiefStep i) = rw (thief_call_renumber m i) (thief_step_renumber i m (thief_call m i))

    obey_renumber : (m : Machine) (e : Entry) → obey (renumber m) (renumber_entry f e) ≡ renumber_done (obey m e)
    obey_renumber m e = looked_at_renumber f renumber_done m.sizes e (in_range_renumber m) (obey_in_range_renumber m e) refl

pub cas_blind_to_numbers : BlindToNumbers ff_cl
cas_blind_to_numbers =
    blind_by_renumbering ff_cl
    (λ f zero-kept.
    record {
      renumber = renumber f;
      next_renumber = λ m e. ap (λ d. d.machine) (obey_renumber f zero-kept m e);
      outcome_renumber = λ m e. ap (λ d. d.outcome) (obey_renumber f zero-kept m e);
      fresh_renumber = λ s. ap (λ l. with_memory l (fresh s).tail (fresh s).buffer (fresh s)) (zeros_renumber f zero-kept 256);
    })
