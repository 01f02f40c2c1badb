-- What every entry does, whatever the machine: refused, it leaves the machine as it is; it keeps the sizes; it answers only at steps; it hands
-- on the number for the machine that it returns; and it waits where its thief is not there. One line for each step.
use mathlib.Core.Path.{◌≡◌, refl, ap, sym, ◌∙◌, subst}
use mathlib.Core.Bool.{Bool, true, false, and-false, cond, not, ◌&&◌, false≢true}
use mathlib.Core.List.{List, []}
use Prim.Native.Nat.{ℕ}
use lib.Seq.{set-get_or}
use Rattle.terms.specs.Outcome.{is_answer, is_refusal}
use Rattle.terms.specs.Kinds.{thief_is_there}
use Rattle.terms.proofs.Laws.Tests.{by_test, either}
use Rattle.stores.specs.Spacing.{too_early}
use Rattle.claim.specs.Calls.{Begun, nothing, a_put, a_take, a_steal, is_step, task_in}
use Rattle.claim.proofs.Obeys as every
use Rattle.claim.proofs.Lawful.{Lawful, party_there}
use Rattle.cas.specs.Types.{Done, Entry, Drain, ClientStore, BeginPut, BeginTake, WorkerStep, BeginSteal, ThiefStep, Machine, Outcome, Moved, Place, Early, Wait, Stored, Task, Empty, Abort, Full, End, Thief, ThiefCall, StealLoadHead, StealLoadTail, StealLoadSlot, StealSwapHead, ThiefMove, WorkerCall, PutLoadHead, PutStoreSlot, PutStoreTail, TakeStoreTail, TakeLoadHead, TakeLoadSlot, TakeTailToHead, TakeTailPastHead, TakeSwapHead, TakeLoadLastSlot, WorkerMove}
use Rattle.cas.specs.Worker.{at_end, is_above_head, is_full, is_head, stays, worker_runs}
use Rattle.cas.specs.Thief.{idle_thief, none_above, thief_runs, within_margin, is_head as thief_is_head, stays as thief_stays}
use Rattle.cas.specs.Machine.{done, has_room, hidden, in_range, nothing_pending, thief_call, with_thief, with_worker}
use Rattle.cas.specs.Entries.{HandsOnHidden, OutOfRangeWaits, RefusalKeeps, obey, obey_in_range, perform_thief, perform_worker, step_of_thief, step_of_worker, thief_view, worker_view}
use Rattle.cas.specs.Linearizable.{ff_cl, told_of_all_but_empty_steals}

-- What holds of the result d of an entry e on the machine m.
abbrev pub Obeys : Machine → Entry → Done → Type 0
Obeys m e d = every.Obeys (λ m. m.sizes) hidden m e d.outcome d.hidden d.machine

module _ {m : Machine} {e : Entry} where
  refuses : {o : Outcome} → is_answer o ≡ false → Obeys m e (done o m)
  refuses = every.refuses (λ m. m.sizes) hidden

  moves : {n : Machine} → n.sizes ≡ m.sizes → Obeys m e (done Moved n)
  moves = every.moves (λ m. m.sizes) hidden

  answers : {n : Machine} {o : Outcome} → is_refusal o ≡ false → n.sizes ≡ m.sizes → is_step e ≡ true → Obeys m e (done o n)
  answers = every.answers (λ m. m.sizes) hidden

-- .. of a move of the worker's; and of one that leaves all as it is, where the worker's call is its own
abbrev WorkerObeys : Machine → WorkerMove → Type 0
WorkerObeys m d = Obeys m WorkerStep (perform_worker m d)

worker_stays : {m : Machine} {c : WorkerCall} (o : Outcome) → m.worker.call ≡ c → is_answer o ≡ false → WorkerObeys m (stays o (worker_view m c))
worker_stays {m = m} o at no_answer = subst (λ c. Obeys m WorkerStep (done o (with_worker c m))) at (refuses no_answer)

pub worker_obeys : (m : Machine) (c : WorkerCall) → m.worker.call ≡ c → Obeys m WorkerStep (step_of_worker m c)
worker_obeys m WorkerCall.Idle at = worker_stays Place at refl
worker_obeys m (PutLoadHead x) at =
    let v = worker_view m (PutLoadHead x) in
    either (WorkerObeys m) (at_end v) (answers refl refl refl) (either (WorkerObeys m) (is_full v) (answers refl refl refl) (moves refl))
worker_obeys m (PutStoreSlot x) at = either (WorkerObeys m) (has_room m) (moves refl) (worker_stays Wait at refl)
worker_obeys m PutStoreTail at = either (WorkerObeys m) (has_room m) (answers refl refl refl) (worker_stays Wait at refl)
worker_obeys m TakeStoreTail at = either (WorkerObeys m) (has_room m) (moves refl) (worker_stays Wait at refl)
worker_obeys m (TakeLoadHead t) at =
    let v = worker_view m (TakeLoadHead t) in
    either (WorkerObeys m) (is_above_head t v) (moves refl) (either (WorkerObeys m) (is_head t v) (moves refl) (moves refl))
worker_obeys m (TakeLoadSlot t) at = answers refl refl refl
worker_obeys m (TakeTailToHead h) at = either (WorkerObeys m) (has_room m) (answers refl refl refl) (worker_stays Wait at refl)
worker_obeys m (TakeTailPastHead t) at = either (WorkerObeys m) (has_room m) (moves refl) (worker_stays Wait at refl)
worker_obeys m (TakeSwapHead t) at =
    either (WorkerObeys m) (nothing_pending m) (either (WorkerObeys m) (is_head t (worker_view m (TakeSwapHead t))) (moves refl) (answers refl refl refl)) (worker_stays Wait at refl)
worker_obeys m (TakeLoadLastSlot t) at = answers refl refl refl

-- a thief's own call put back in its place changes nothing
pub thief_put_back : (m : Machine) (i : ℕ) {c : ThiefCall} → thief_call m i ≡ c → with_thief i c m ≡ m
thief_put_back m i at =
    let with_thieves_lem : List Thief → Machine = λ l.
    record {
      sizes = m.sizes;
      slots = m.slots;
      head = m.head;
      tail = m.tail;
      buffer = m.buffer;
      spacing = m.spacing;
      worker = m.worker;
      thieves = l;
    }
    in
    ap (λ c. with_thief i c m) (sym at) ∙ ap with_thieves_lem (set-get_or m.thieves i idle_thief)

-- the same for a thief's move
abbrev ThiefObeys : ℕ → Machine → ThiefMove → Type 0
ThiefObeys i m d = Obeys m (ThiefStep i) (perform_thief i m d)

thief_stays_lem : {i : ℕ} {m : Machine} {c : ThiefCall} (o : Outcome) → thief_call m i ≡ c → is_answer o ≡ false → ThiefObeys i m (thief_stays o (thief_view m c))
thief_stays_lem {i = i} {m = m} o at no_answer = subst (λ n. Obeys m (ThiefStep i) (done o n)) (sym (thief_put_back m i at)) (refuses no_answer)

pub thief_obeys : (i : ℕ) (m : Machine) (c : ThiefCall) → thief_call m i ≡ c → Obeys m (ThiefStep i) (step_of_thief i m c)
thief_obeys i m ThiefCall.Idle at = thief_stays_lem Place at refl
thief_obeys i m StealLoadHead at = moves refl
thief_obeys i m (StealLoadTail h) at =
    let v = thief_view m (StealLoadTail h) in
    either (ThiefObeys i m) (none_above h v) (answers refl refl refl) (either (ThiefObeys i m) (within_margin h v) (answers refl refl refl) (moves refl))
thief_obeys i m (StealLoadSlot h) at = moves refl
thief_obeys i m (StealSwapHead x h) at = either (ThiefObeys i m) (thief_is_head h (thief_view m (StealSwapHead x h))) (answers refl refl refl) (moves refl)

obey_in_range_obeys : (m : Machine) (e : Entry) → Obeys m e (obey_in_range m e)
obey_in_range_obeys m Drain = either (Obeys m Drain) (not (nothing_pending m)) (moves refl) (refuses refl)
obey_in_range_obeys m ClientStore =
    either (Obeys m ClientStore) (worker_runs m.worker.call) (refuses refl) (either (Obeys m ClientStore) (has_room m) (moves refl) (refuses refl))
obey_in_range_obeys m (BeginPut x) = either (Obeys m (BeginPut x)) (worker_runs m.worker.call) (refuses refl) (moves refl)
obey_in_range_obeys m BeginTake =
    either (Obeys m BeginTake) (worker_runs m.worker.call) (refuses refl) (either (Obeys m BeginTake) (too_early m.spacing m.sizes.spacing) (refuses refl) (moves refl))
obey_in_range_obeys m WorkerStep = worker_obeys m m.worker.call refl
obey_in_range_obeys m (BeginSteal i) = either (Obeys m (BeginSteal i)) (thief_runs (thief_call m i)) (refuses refl) (moves refl)
obey_in_range_obeys m (ThiefStep i) = thief_obeys i m (thief_call m i) refl

obey_obeys : (m : Machine) (e : Entry) → Obeys m e (obey m e)
obey_obeys m e = either (Obeys m e) (in_range m && thief_is_there m.sizes e) (obey_in_range_obeys m e) (refuses refl)

-- 5, 6 and 7 leave the machine as it is
pub refusal_keeps : RefusalKeeps
refusal_keeps m e = (obey_obeys m e).keeps

pub sizes_kept_lem : (m : Machine) (e : Entry) → (obey m e).machine.sizes ≡ m.sizes
sizes_kept_lem m e = (obey_obeys m e).sizes

-- 16 to 21 come only at steps
pub answers_at_steps : (m : Machine) (e : Entry) → is_answer (obey m e).outcome ≡ true → is_step e ≡ true
answers_at_steps m e answer = (obey_obeys m e).answers answer

-- each hands on the number for the machine that it returns
pub hands_on_hidden : HandsOnHidden
hands_on_hidden m e = (obey_obeys m e).hands_on

-- 7 WAIT where the thief is not there
pub thief_there : (m : Machine) (e : Entry) → thief_is_there m.sizes e ≡ false → obey m e ≡ done Wait m
thief_there m e gone = rw (gone, and-false)

pub out_of_range_waits : OutOfRangeWaits
out_of_range_waits m e out = by_test _ _ out

-- the entry is looked at where the machine is in range and the thief there, and only there
pub obey_by : (m : Machine) (e : Entry) {b : Bool} → (in_range m && thief_is_there m.sizes e) ≡ b → obey m e ≡ cond b (obey_in_range m e) (done Wait m)
obey_by m e p = ap (λ b. cond b (obey_in_range m e) (done Wait m)) p

-- so FF-CL is a lawful implementation: of the answers only EMPTY, which is no task, is kept from the plain queue

pub untold : (c : Begun) (o : Outcome) → told_of_all_but_empty_steals c o ≡ false → task_in o ≡ []
untold c Moved kept = refl
untold c Place kept = refl
untold c Early kept = refl
untold c Wait kept = refl
untold c Stored kept = refl
untold c Empty kept = refl
untold c Abort kept = refl
untold c Full kept = refl
untold c End kept = refl
untold nothing (Task x) kept = absurd (false≢true (sym kept))
untold (a_put y) (Task x) kept = absurd (false≢true (sym kept))
untold a_take (Task x) kept = absurd (false≢true (sym kept))
untold a_steal (Task x) kept = absurd (false≢true (sym kept))

pub ff_cl_lawful : Lawful ff_cl
ff_cl_lawful =
    record {
      sizes = λ m. m.sizes;
      sizes_fresh = λ s. refl;
      sizes_kept_lem = sizes_kept_lem;
      answers_at_steps = answers_at_steps;
      absent = λ m e gone. ap (λ d. is_refusal d.outcome) (thief_there m e (party_there m.sizes e ∙ gone));
      untold = untold;
    }
