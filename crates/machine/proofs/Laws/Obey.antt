-- What every entry does, whatever the machine: refused, it leaves the machine as it is; it keeps the sizes; it answers only at steps; it hands
-- on the number for the machine that it returns; and it waits where its thief is not there. One line for each step.
use mathlib.Core.Path.{◌≡◌, refl, ap, sym, ◌∙◌, subst}
use mathlib.Core.Bool.{Bool, true, false, and-false, cond, not, ◌&&◌, false≢true}
use mathlib.Core.List.{List}
use Prim.Native.Nat.{ℕ}
use lib.Seq.{set-get_or}
use Rattle.terms.specs.Outcome.{is_answer, is_refusal}
use Rattle.terms.specs.Sizes.{margin_in_use}
use Rattle.terms.specs.Kinds.{thief_is_there}
use Rattle.terms.proofs.Laws.Tests.{by_test, either}
use Rattle.stores.specs.Spacing.{too_early}
use Rattle.claim.specs.Calls.{is_step}
use Rattle.claim.proofs.Obeys as every
use Rattle.claim.proofs.Lawful.{Lawful, party_there}
use Rattle.machine.specs.Types.{Done, Entry, Drain, ClientStore, BeginPut, BeginTake, WorkerStep, BeginSteal, ThiefStep, Machine, Outcome, Moved, Place, Wait, Thief, ThiefCall, StealLock, StealLoadHead, StealRaiseHead, StealLoadTail, StealLoadSlot, StealUnlockTask, StealRestoreHead, StealUnlockAbort, WorkerCall, PutLoadHead, PutStoreSlot, PutStoreTail, TakeStoreTail, TakeLoadHead, TakeLoadSlot, TakeLock, TakeReloadHead, TakeRestoreTail, TakeUnlockEmpty, TakeUnlockTask, TakeLoadLastSlot, ThiefMove, WorkerMove}
use Rattle.machine.specs.Machine.{done, has_room, hidden, lock_is_free, nothing_pending, thief_call, thief_tail}
use Rattle.machine.specs.InRange.{in_range}
use Rattle.machine.specs.Worker.{at_end, at_or_above_head, head_is_past, is_full, stays, worker_runs}
use Rattle.machine.specs.Update.{with_thief, with_worker}
use Rattle.machine.specs.Thief.{keeps_margin, thief_runs, idle_thief, stays as thief_stays}
use Rattle.machine.specs.Obey.{HandsOnHidden, OutOfRangeWaits, RefusalKeeps, obey, obey_in_range}
use Rattle.machine.specs.Linearizable.{ff_the}
use Rattle.machine.specs.Perform.{view_keeping, worker_view, perform_worker, step_of_worker, step_keeping, perform_thief}

-- What holds of the result d of an entry e on the machine m.
abbrev pub Obeys : Machine → Entry → Done → Type 0
Obeys m e d = every.Obeys (λ m. m.sizes) hidden m e d.outcome d.hidden d.machine

module _ {m : Machine} {e : Entry} where
  refuses : {o : Outcome} → is_answer o ≡ false → Obeys m e (done o m)
  refuses = every.refuses (λ m. m.sizes) hidden

  moves : {n : Machine} → n.sizes ≡ m.sizes → Obeys m e (done Moved n)
  moves = every.moves (λ m. m.sizes) hidden

  answers : {n : Machine} {o : Outcome} → is_refusal o ≡ false → n.sizes ≡ m.sizes → is_step e ≡ true → Obeys m e (done o n)
  answers = every.answers (λ m. m.sizes) hidden

-- .. of a move of the worker's; and of one that leaves all as it is, where the worker's call is its own
abbrev WorkerObeys : Machine → WorkerMove → Type 0
WorkerObeys m d = Obeys m WorkerStep (perform_worker m d)

worker_stays : {m : Machine} {c : WorkerCall} (o : Outcome) → m.worker.call ≡ c → is_answer o ≡ false → WorkerObeys m (stays o (worker_view m c))
worker_stays {m = m} o at no_answer = subst (λ c. Obeys m WorkerStep (done o (with_worker c m))) at (refuses no_answer)

pub worker_obeys : (m : Machine) (c : WorkerCall) → m.worker.call ≡ c → Obeys m WorkerStep (step_of_worker m c)
worker_obeys m WorkerCall.Idle at = worker_stays Place at refl
worker_obeys m (PutLoadHead x) at =
    let v = worker_view m (PutLoadHead x) in
    either (WorkerObeys m) (at_end v) (answers refl refl refl) (either (WorkerObeys m) (is_full v) (answers refl refl refl) (moves refl))
worker_obeys m (PutStoreSlot x) at = either (WorkerObeys m) (has_room m) (moves refl) (worker_stays Wait at refl)
worker_obeys m PutStoreTail at = either (WorkerObeys m) (has_room m) (answers refl refl refl) (worker_stays Wait at refl)
worker_obeys m TakeStoreTail at = either (WorkerObeys m) (has_room m) (moves refl) (worker_stays Wait at refl)
worker_obeys m (TakeLoadHead t) at = either (WorkerObeys m) (at_or_above_head t (worker_view m (TakeLoadHead t))) (moves refl) (moves refl)
worker_obeys m (TakeLoadSlot t) at = answers refl refl refl
worker_obeys m (TakeLock t) at = either (WorkerObeys m) (lock_is_free m && nothing_pending m) (moves refl) (worker_stays Wait at refl)
worker_obeys m (TakeReloadHead t) at = either (WorkerObeys m) (head_is_past t (worker_view m (TakeReloadHead t))) (moves refl) (moves refl)
worker_obeys m (TakeRestoreTail t) at = either (WorkerObeys m) (has_room m) (moves refl) (worker_stays Wait at refl)
worker_obeys m TakeUnlockEmpty at = either (WorkerObeys m) (nothing_pending m) (answers refl refl refl) (worker_stays Wait at refl)
worker_obeys m (TakeUnlockTask t) at = either (WorkerObeys m) (nothing_pending m) (moves refl) (worker_stays Wait at refl)
worker_obeys m (TakeLoadLastSlot t) at = answers refl refl refl

-- a thief's own call put back in its place changes nothing
pub thief_put_back : (m : Machine) (i : ℕ) {c : ThiefCall} → thief_call m i ≡ c → with_thief i c m ≡ m
thief_put_back m i at =
    let with_thieves_lem : List Thief → Machine = λ l.
    record {
      sizes = m.sizes;
      slots = m.slots;
      head = m.head;
      tail = m.tail;
      lock = m.lock;
      buffer = m.buffer;
      spacing = m.spacing;
      worker = m.worker;
      thieves = l;
    }
    in
    ap (λ c. with_thief i c m) (sym at) ∙ ap with_thieves_lem (set-get_or m.thieves i idle_thief)

-- the same for a thief's move
abbrev ThiefObeys : ℕ → Machine → ThiefMove → Type 0
ThiefObeys i m d = Obeys m (ThiefStep i) (perform_thief i m d)

thief_stays_lem :
    (margin : ℕ) {i : ℕ} {m : Machine} {c : ThiefCall} (o : Outcome) → thief_call m i ≡ c → is_answer o ≡ false
    → ThiefObeys i m (thief_stays o (view_keeping margin m i c))
thief_stays_lem margin {i = i} {m = m} o at no_answer = subst (λ n. Obeys m (ThiefStep i) (done o n)) (sym (thief_put_back m i at)) (refuses no_answer)

pub thief_obeys : (margin i : ℕ) (m : Machine) (c : ThiefCall) → thief_call m i ≡ c → Obeys m (ThiefStep i) (step_keeping margin i m c)
thief_obeys margin i m ThiefCall.Idle at = thief_stays_lem margin Place at refl
thief_obeys margin i m StealLock at = either (ThiefObeys i m) (lock_is_free m) (moves refl) (thief_stays_lem margin Wait at refl)
thief_obeys margin i m StealLoadHead at = moves refl
thief_obeys margin i m (StealRaiseHead h) at = moves refl
thief_obeys margin i m (StealLoadTail h) at = either (ThiefObeys i m) (keeps_margin h (thief_tail m) margin) (moves refl) (moves refl)
thief_obeys margin i m (StealLoadSlot h) at = moves refl
thief_obeys margin i m (StealUnlockTask x) at = answers refl refl refl
thief_obeys margin i m (StealRestoreHead h) at = moves refl
thief_obeys margin i m StealUnlockAbort at = answers refl refl refl

obey_in_range_obeys : (m : Machine) (e : Entry) → Obeys m e (obey_in_range m e)
obey_in_range_obeys m Drain = either (Obeys m Drain) (not (nothing_pending m)) (moves refl) (refuses refl)
obey_in_range_obeys m ClientStore =
    either (Obeys m ClientStore) (worker_runs m.worker.call) (refuses refl) (either (Obeys m ClientStore) (has_room m) (moves refl) (refuses refl))
obey_in_range_obeys m (BeginPut x) = either (Obeys m (BeginPut x)) (worker_runs m.worker.call) (refuses refl) (moves refl)
obey_in_range_obeys m BeginTake =
    either (Obeys m BeginTake) (worker_runs m.worker.call) (refuses refl) (either (Obeys m BeginTake) (too_early m.spacing m.sizes.spacing) (refuses refl) (moves refl))
obey_in_range_obeys m WorkerStep = worker_obeys m m.worker.call refl
obey_in_range_obeys m (BeginSteal i) = either (Obeys m (BeginSteal i)) (thief_runs (thief_call m i)) (refuses refl) (moves refl)
obey_in_range_obeys m (ThiefStep i) = thief_obeys (margin_in_use m.sizes) i m (thief_call m i) refl

-- .. of an entry that is looked at

pub obeyed_sizes : (m : Machine) (e : Entry) → (obey_in_range m e).machine.sizes ≡ m.sizes
obeyed_sizes m e = (obey_in_range_obeys m e).sizes

pub obeyed_answers : (m : Machine) (e : Entry) → is_answer (obey_in_range m e).outcome ≡ true → is_step e ≡ true
obeyed_answers m e = (obey_in_range_obeys m e).answers

obey_obeys : (m : Machine) (e : Entry) → Obeys m e (obey m e)
obey_obeys m e = either (Obeys m e) (in_range m && thief_is_there m.sizes e) (obey_in_range_obeys m e) (refuses refl)

-- 5, 6 and 7 leave the machine as it is
pub refusal_keeps : RefusalKeeps
refusal_keeps m e = (obey_obeys m e).keeps

pub sizes_kept_lem : (m : Machine) (e : Entry) → (obey m e).machine.sizes ≡ m.sizes
sizes_kept_lem m e = (obey_obeys m e).sizes

-- 16 to 21 come only at steps
pub answers_at_steps : (m : Machine) (e : Entry) → is_answer (obey m e).outcome ≡ true → is_step e ≡ true
answers_at_steps m e answer = (obey_obeys m e).answers answer

-- each hands on the number for the machine that it returns
pub hands_on_hidden : HandsOnHidden
hands_on_hidden m e = (obey_obeys m e).hands_on

-- 7 WAIT where the thief is not there
pub thief_there : (m : Machine) (e : Entry) → thief_is_there m.sizes e ≡ false → obey m e ≡ done Wait m
thief_there m e gone = rw (gone, and-false)

pub out_of_range_waits : OutOfRangeWaits
out_of_range_waits m e out = by_test _ _ out

-- the entry is looked at where the machine is in range and the thief there, and only there
pub obey_by : (m : Machine) (e : Entry) {b : Bool} → (in_range m && thief_is_there m.sizes e) ≡ b → obey m e ≡ cond b (obey_in_range m e) (done Wait m)
obey_by m e p = ap (λ b. cond b (obey_in_range m e) (done Wait m)) p

-- so FF-THE is a lawful implementation
pub ff_the_lawful : Lawful ff_the
ff_the_lawful =
    record {
      sizes = λ m. m.sizes;
      sizes_fresh = λ s. refl;
      sizes_kept_lem = sizes_kept_lem;
      answers_at_steps = answers_at_steps;
      absent = λ m e gone. ap (λ d. is_refusal d.outcome) (thief_there m e (party_there m.sizes e ∙ gone));
      untold = λ begun answer is_told. absurd (false≢true (sym is_told));
    }
