-- Each step of a take keeps the invariant, and is answered as the plain queue answers.
use mathlib.Core.Path.{◌≡◌, refl, ap, sym, ◌∙◌}
use mathlib.Core.Bool.{true, false, ◌&&◌}
use mathlib.Core.List.{List, [], ◌∷◌}
use Prim.Native.Nat.{ℕ, ◌+◌, ◌-◌, ◌≤◌, ◌<◌}
use native.Mathlib.Omega.{arith}
use lib.Dec.{leb}
use lib.ListN.{length, length-take}
use lib.Signed.{le_z}
use borrow.Author.Tests.{leb-false, leb-true, ltb-true}
use Rattle.terms.specs.Outcome.{is_answer}
use Rattle.terms.proofs.Laws.Tests.{and_left, decide, known}
use Rattle.stores.specs.Index.{next, previous}
use Rattle.stores.specs.Spacing.{counted_in}
use Rattle.stores.specs.StoreBuffer.{push, tail_store}
use Rattle.stores.proofs.Laws.Index.{idx, idx_le, idx_next, idx_previous}
use Rattle.stores.proofs.Laws.Pending.{lowering, seen_tail}
use Rattle.stores.proofs.Laws.Spacing.{asked, counted_in_asked, counted_in_most}
use Rattle.claim.specs.PlainQueue.{Limits, told_take, PlainQueue}
use Rattle.claim.specs.Calls.{a_take, only_where, told_of}
use Rattle.claim.proofs.Turn.{ends, moves, takes_effect, told_in}
use Rattle.machine.specs.Types.{WorkerStep, Nobody, TheWorker, Index, Lock, Machine, Outcome, Moved, Wait, Task, Empty, Option, Maker, StoreKind, Some, ATake, Tail, Store, ThiefCall, WorkerCall, TakeStoreTail, TakeLoadHead, TakeLoadSlot, TakeLock, TakeReloadHead, TakeRestoreTail, TakeUnlockEmpty, TakeUnlockTask, TakeLoadLastSlot}
use Rattle.machine.specs.Machine.{done, has_room, lock_is_free, nothing_pending, worker_load, worker_tail}
use Rattle.machine.specs.Update.{with_lock, with_store}
use Rattle.machine.specs.Worker.{at_or_above_head, head_is_past}
use Rattle.machine.specs.Effect.{worker_effect}
use Rattle.machine.specs.Linearizable.{worker_owes}
use Rattle.machine.specs.Perform.{worker_view, step_of_worker}
use Rattle.machine.specs.Entries.{worker_goes_on}
use Rattle.machine.proofs.Linearizable.Invariant.{Environment, Agrees, AgreesOn, Exclusive, Sound, filling, head_at, holds, lowered, raised, stolen, worker_begun}
use Rattle.claim.proofs.Laws.Tasks.{replies_empty, replies_taken, shows_taken, task_at}
use Rattle.machine.proofs.Linearizable.Turn.{MoveTurn, StepTurn, Turn, after_worker}
use Rattle.machine.proofs.Linearizable.Exclusion.{free_holds, free_quiet, working_holds, working_quiet}
use Rattle.machine.proofs.Linearizable.Rebuild.{agrees_call, pushes, rebuilt, recalled, recalls, stayed, tail_agrees, tail_pushing, tail_raising}

-- ── What several steps do ───────────────────────────────────────────────────────────────────────────────────────────────────

-- the effect of a take that finds a task: it is given the newest, which lies at the tail that the take has stored
takes_newest :
    {limit : Limits} {n : ℕ} {load : ℕ → ℕ} {b : List Store} {low low' fill fill' gone seen lo bound : ℕ} {q : PlainQueue} (x : ℕ)
    → low ≡ 1 → low' ≡ 0 → fill' ≡ 0 → 1 ≤ seen → lo + gone ≤ seen → x ≡ load seen
    → Agrees n load b low fill gone seen lo bound q
    → Turn limit a_take [] q (told_take false ∷ []) Moved WorkerStep a_take (Task x ∷ []) (Agrees n load b low' fill' gone seen lo bound)
takes_newest {load = load} {gone = gone} {seen = seen} {lo = lo} {q = q} x low level still positive above here g =
    let some : 0 < length q.tasks = omega (arith, g.count) in
    let last : lo + gone + (length q.tasks - 1) ≡ seen = omega (arith, g.count) in
    let number : (task_at q.tasks (length q.tasks - 1)).number ≡ x =
    g.shows (length q.tasks - 1) (omega arith) ∙ ap load last ∙ sym here
    in
    takes_effect (replies_taken q false some) refl refl (ap (λ x. Task x ∷ []) (sym number))
    (record {
      count = simp length-take (omega (arith, g.count));
      sum = omega (arith, g.sum, g.count);
      room = omega (arith, g.room);
      below = g.below;
      shows = shows_taken load (lo + gone) q.tasks g.shows;
      unwritten = g.unwritten;
    })

module _ {g : Environment} {n : ℕ} {m : Machine} {c : WorkerCall} {p : ThiefCall} (v : Sound g n m c p) where
  -- a take past its effect ends with the answer that it owes
  answers_owed :
      {q : PlainQueue} (o : Outcome) (l : Lock)
      → is_answer o ≡ true
      → [] ≡ told_in (worker_begun m c) o (worker_effect o m c)
      → worker_owes m c ≡ o ∷ []
      → lowered c ≡ 0
      → filling c ≡ 0
      → v.buffer.owed ≤ asked m.spacing m.sizes.spacing
      → Exclusive l.holder false p
      → ((i : ℕ) → holds l.holder i ≡ holds m.lock.holder i)
      → StepTurn v q (done o (after_worker m l m.buffer m.spacing WorkerCall.Idle))
  answers_owed o l answer told owes level still spaced lock holder =
      recalls v o [] l WorkerCall.Idle told holder (recalled v l WorkerCall.Idle (record { holds_tail = tt; floor = omega (arith, v.tail.floor); top = omega (arith, v.tail.top) }) spaced lock)
      (λ g. ends answer owes (agrees_call level (omega (arith, g.room)) g))

  -- the tests of head, as natural numbers, for the index that the take holds

  at_or_above_head_is : (t : Index) → t ≡ idx v.buffer.seen → at_or_above_head t (worker_view m WorkerCall.Idle) ≡ leb (head_at v.head) v.buffer.seen
  at_or_above_head_is t here = (λ i. le_z (v.head.head_is_lem i).at (here i).at) ∙ idx_le (head_at v.head) v.buffer.seen

  head_is_past_is : (t : Index) → t ≡ idx v.buffer.seen → head_is_past t (worker_view m WorkerCall.Idle) ≡ leb (v.buffer.seen + 1) (head_at v.head)
  head_is_past_is t here =
      (λ i. le_z (next (here i)).at (v.head.head_is_lem i).at)
      ∙ ap (λ i. le_z i.at (idx (head_at v.head)).at) (idx_next v.buffer.seen)
      ∙ idx_le (v.buffer.seen + 1) (head_at v.head)

module _ {g : Environment} {n : ℕ} {m : Machine} {p : ThiefCall} (q : PlainQueue) where
  -- ── Step 1 ──────────────────────────────────────────────────────────────────────────────────────────────────────────────────

  module _ (v : Sound g n m TakeStoreTail p) (at : m.worker.call ≡ TakeStoreTail) where
    -- the store is a dip of the chain, since no store is due
    lowers : has_room m ≡ true → StepTurn v q (worker_goes_on (TakeLoadHead (previous (worker_tail m))) (with_store (Some (ATake, Tail (previous (worker_tail m)))) m))
    lowers some-room =
        let room = ltb-true m.buffer.count m.sizes.buffer some-room in
        let seen = v.buffer.seen in
        let a = tail_store (idx (seen - 1)) in
        let lower : idx (seen - 1) ≡ previous (worker_tail m) = sym (ap previous (seen_tail v.buffer) ∙ idx_previous seen (omega arith)) in
        let sound =
        rebuilt v m.lock (push a m.buffer) m.spacing (TakeLoadHead (idx (seen - 1)))
        (tail_pushing v room (seen - 1) 1 m.sizes.spacing (omega arith) (lowering v.buffer (omega (arith, v.tail.floor)) v.spaced.0))
        (record { holds_tail = refl; floor = omega arith; top = omega arith })
        (omega (arith, v.spaced.1))
        (omega (arith, v.counted))
        v.lock
        in
        pushes v Moved [] a m.spacing (TakeLoadHead (idx (seen - 1)))
        (ap (λ i. done Moved (after_worker m m.lock (push (tail_store i) m.buffer) m.spacing (TakeLoadHead i))) lower)
        refl
        sound
        (λ g. moves {A = AgreesOn sound} refl refl (tail_agrees v room (seen - 1) (TakeLoadHead (idx (seen - 1))) q (omega arith) refl g))

    pub take_store_tail_lem : StepTurn v q (step_of_worker m TakeStoreTail)
    take_store_tail_lem = decide (MoveTurn v q) (has_room m) lowers (λ e. stayed v Wait at refl refl)

  -- ── Step 2 ──────────────────────────────────────────────────────────────────────────────────────────────────────────────────

  module _ (t : Index) (v : Sound g n m (TakeLoadHead t) p) where
    takes : at_or_above_head t (worker_view m WorkerCall.Idle) ≡ true → StepTurn v q (worker_goes_on (TakeLoadSlot t) m)
    takes found =
        let above = leb-true (head_at v.head) v.buffer.seen (known (at_or_above_head_is v t v.tail.holds_tail) found) in
        recalls v Moved (told_take false ∷ []) m.lock (TakeLoadSlot t)
        (ap (λ b. told_of a_take (only_where b false)) (sym found))
        (λ i. refl)
        (recalled v m.lock (TakeLoadSlot t) (record { holds_tail = v.tail.holds_tail; floor = omega arith; top = omega arith }) v.spaced v.lock)
        (λ g. takes_newest (worker_load m t) refl refl refl (omega arith) (omega arith) (ap (worker_load m) v.tail.holds_tail) g)

    -- not yet decided
    goes_to_lock : at_or_above_head t (worker_view m WorkerCall.Idle) ≡ false → StepTurn v q (worker_goes_on (TakeLock t) m)
    goes_to_lock below =
        recalls v Moved [] m.lock (TakeLock t)
        (ap (λ b. told_of a_take (only_where b false)) (sym below))
        (λ i. refl)
        (recalled v m.lock (TakeLock t) (record { holds_tail = v.tail.holds_tail; floor = v.tail.floor; top = v.tail.top }) v.spaced v.lock)
        (λ g. moves refl refl (agrees_call refl g.room g))

    pub take_load_head_lem : StepTurn v q (step_of_worker m (TakeLoadHead t))
    take_load_head_lem = decide (MoveTurn v q) (at_or_above_head t (worker_view m WorkerCall.Idle)) takes goes_to_lock

  -- ── Step 3 without the lock, and step 6 after it ────────────────────────────────────────────────────────────────────────────

  pub take_load_slot_lem : (t : Index) (v : Sound g n m (TakeLoadSlot t) p) → StepTurn v q (step_of_worker m (TakeLoadSlot t))
  take_load_slot_lem t v = answers_owed v (Task (worker_load m t)) m.lock refl refl refl refl refl v.spaced v.lock (λ i. refl)

  pub take_load_last_slot : (t : Index) (v : Sound g n m (TakeLoadLastSlot t) p) → StepTurn v q (step_of_worker m (TakeLoadLastSlot t))
  take_load_last_slot t v = answers_owed v (Task (worker_load m t)) m.lock refl refl refl refl refl v.spaced v.lock (λ i. refl)

  -- ── Step 3 with the lock ────────────────────────────────────────────────────────────────────────────────────────────────────

  module _ (t : Index) (v : Sound g n m (TakeLock t) p) (at : m.worker.call ≡ TakeLock t) where
    locks : (lock_is_free m && nothing_pending m) ≡ true → StepTurn v q (worker_goes_on (TakeReloadHead t) (with_lock TheWorker m))
    locks met =
        let free = and_left (lock_is_free m) (nothing_pending m) met in
        let mine : Lock = record { holder = TheWorker } in
        recalls v Moved [] mine (TakeReloadHead t) refl (λ i. free_holds m.lock.holder i free)
        (recalled v mine (TakeReloadHead t) (record { holds_tail = v.tail.holds_tail; floor = v.tail.floor; top = v.tail.top }) v.spaced (refl, (free_quiet m.lock.holder false p free v.lock).1))
        (λ g. moves refl refl (agrees_call refl g.room g))

    pub take_lock_lem : StepTurn v q (step_of_worker m (TakeLock t))
    take_lock_lem = decide (MoveTurn v q) (lock_is_free m && nothing_pending m) locks (λ e. stayed v Wait at refl refl)

  -- ── Step 4 ──────────────────────────────────────────────────────────────────────────────────────────────────────────────────

  module _ (t : Index) (v : Sound g n m (TakeReloadHead t) p) where
    -- no thief is inside, so head is the oldest task's index
    alone : p ≡ ThiefCall.Idle
    alone = working_quiet m.lock.holder p v.lock

    finds_none : head_is_past t (worker_view m WorkerCall.Idle) ≡ true → StepTurn v q (worker_goes_on (TakeRestoreTail t) m)
    finds_none past =
        let above = leb-true (v.buffer.seen + 1) (head_at v.head) (known (head_is_past_is v t v.tail.holds_tail) past) in
        recalls v Moved (told_take false ∷ []) m.lock (TakeRestoreTail t) refl (λ i. refl)
        (recalled v m.lock (TakeRestoreTail t) (record { holds_tail = v.tail.holds_tail; floor = v.tail.floor; top = v.tail.top }) v.spaced v.lock)
        (λ g.
        takes_effect (replies_empty q false (omega (arith, g.count, ap raised alone, ap stolen alone))) refl refl refl (agrees_call refl g.room g))

    takes_last_lem : head_is_past t (worker_view m WorkerCall.Idle) ≡ false → StepTurn v q (worker_goes_on (TakeUnlockTask t) m)
    takes_last_lem not-past =
        let above = leb-false (v.buffer.seen + 1) (head_at v.head) (known (head_is_past_is v t v.tail.holds_tail) not-past) in
        recalls v Moved (told_take false ∷ []) m.lock (TakeUnlockTask t) refl (λ i. refl)
        (recalled v m.lock (TakeUnlockTask t) (record { holds_tail = v.tail.holds_tail; floor = omega arith; top = omega arith }) v.spaced v.lock)
        (λ g. takes_newest (worker_load m t) refl refl refl (omega arith) (omega arith) (ap (worker_load m) v.tail.holds_tail) g)

    pub take_reload_head_lem : StepTurn v q (step_of_worker m (TakeReloadHead t))
    take_reload_head_lem = decide (MoveTurn v q) (head_is_past t (worker_view m WorkerCall.Idle)) finds_none takes_last_lem

  -- ── Step 5 where the task is gone ───────────────────────────────────────────────────────────────────────────────────────────

  module _ (t : Index) (v : Sound g n m (TakeRestoreTail t) p) (at : m.worker.call ≡ TakeRestoreTail t) where
    abbrev made : Option (Maker × StoreKind)
    made = Some (ATake, Tail (next t))

    restores : has_room m ≡ true → StepTurn v q (worker_goes_on TakeUnlockEmpty (with_store made m))
    restores some-room =
        let room = ltb-true m.buffer.count m.sizes.buffer some-room in
        let seen = v.buffer.seen in
        let a = tail_store (idx (seen + 1)) in
        let sound =
        rebuilt v m.lock (push a m.buffer) (counted_in made m.spacing) TakeUnlockEmpty
        (tail_raising v room (seen + 1) (omega arith) (omega arith))
        (record { holds_tail = tt; floor = omega arith; top = omega arith })
        (counted_in_asked made m.spacing m.sizes.spacing v.buffer.owed v.spaced)
        (counted_in_most made m.spacing n v.counted)
        v.lock
        in
        pushes v Moved [] a (counted_in made m.spacing) TakeUnlockEmpty
        (ap (λ i. done Moved (after_worker m m.lock (push (tail_store i) m.buffer) (counted_in made m.spacing) TakeUnlockEmpty))
        (sym (ap next v.tail.holds_tail ∙ idx_next seen)))
        refl
        sound
        (λ g. moves {A = AgreesOn sound} refl refl (tail_agrees v room (seen + 1) TakeUnlockEmpty q (omega arith) refl g))

    pub take_restore_tail_lem : StepTurn v q (step_of_worker m (TakeRestoreTail t))
    take_restore_tail_lem = decide (MoveTurn v q) (has_room m) restores (λ e. stayed v Wait at refl refl)

  -- ── Unlocking: step 6 where the task is gone, step 5 where it is still there ────────────────────────────────────────────────

  pub take_unlock_empty_lem : (v : Sound g n m TakeUnlockEmpty p) → m.worker.call ≡ TakeUnlockEmpty → StepTurn v q (step_of_worker m TakeUnlockEmpty)
  take_unlock_empty_lem v at =
      decide (MoveTurn v q) (nothing_pending m)
      (λ e.
      answers_owed v Empty (record { holder = Nobody }) refl refl refl refl refl v.spaced
      (refl, working_quiet m.lock.holder p v.lock)
      (λ i. working_holds m.lock.holder i p v.lock))
      (λ e. stayed v Wait at refl refl)

  pub take_unlock_task_lem : (t : Index) (v : Sound g n m (TakeUnlockTask t) p) → m.worker.call ≡ TakeUnlockTask t → StepTurn v q (step_of_worker m (TakeUnlockTask t))
  take_unlock_task_lem t v at =
      decide (MoveTurn v q) (nothing_pending m)
      (λ e.
      recalls v Moved [] (record { holder = Nobody }) (TakeLoadLastSlot t) refl (λ i. working_holds m.lock.holder i p v.lock)
      (recalled v (record { holder = Nobody }) (TakeLoadLastSlot t) (record { holds_tail = v.tail.holds_tail; floor = v.tail.floor; top = v.tail.top }) v.spaced (refl, working_quiet m.lock.holder p v.lock))
      (λ g. moves refl refl (agrees_call refl g.room g)))
      (λ e. stayed v Wait at refl refl)
