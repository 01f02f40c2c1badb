-- How many steps a call has: by the step that is next.
use mathlib.Core.Path.{◌≡◌, refl, ap, sym, ◌∙◌, subst}
use mathlib.Core.Bool.{Bool, true, false, cond, not, ◌&&◌, ◌||◌, false≢true}
use mathlib.Core.List.{List, [], ◌∷◌}
use Prim.Native.Nat.{ℕ, ◌<◌}
use native.Mathlib.Omega.{arith}
use lib.Dec.{ltb}
use lib.ListN.{get_or, length, length-set, set}
use lib.Seq.{get_or-set_other, get_or-set_same}
use borrow.Author.Tests.{eqb-false, ltb-true}
use Rattle.terms.specs.Outcome.{is_answer, is_refusal}
use Rattle.terms.specs.Kinds.{thief_is_there}
use Rattle.terms.proofs.Laws.Tests.{and_left, and_right, decide, either}
use Rattle.stores.specs.Lock.{is_nobody}
use Rattle.stores.specs.Spacing.{too_early}
use Rattle.claim.specs.Calls.{Party, worker, thief, begun_by, is_step, nothing, party_of, same_party}
use Rattle.machine.specs.Worker.{at_end, at_or_above_head, head_is_past, is_full, stays, worker_move, worker_runs}
use Rattle.machine.specs.Thief.{idle_thief, keeps_margin, thief_move, thief_runs}
use Rattle.machine.specs.Machine.{done, fresh, has_room, nothing_pending, thief_call}
use Rattle.machine.specs.InRange.{in_range}
use Rattle.machine.specs.Entries.{drained}
use Rattle.machine.specs.Obey.{obey, obey_in_range}
use Rattle.machine.specs.Perform.{thief_view, worker_view}
use Rattle.claim.proofs.Follows.{same_party_lem}
use Rattle.machine.proofs.Laws.InRange.{bounds}
use Rattle.machine.proofs.Linearizable.Theorem.{idle_at}
use Rattle.properties.specs.Types.{Done, Entry, Drain, ClientStore, BeginPut, BeginTake, WorkerStep, BeginSteal, ThiefStep, Machine, Outcome, Moved, Place, Early, Wait, ThiefCall, StealLock, StealLoadHead, StealRaiseHead, StealLoadTail, StealLoadSlot, StealUnlockTask, StealRestoreHead, StealUnlockAbort, ThiefMove, ThiefView, WorkerCall, PutLoadHead, PutStoreSlot, PutStoreTail, TakeStoreTail, TakeLoadHead, TakeLoadSlot, TakeLock, TakeReloadHead, TakeRestoreTail, TakeUnlockEmpty, TakeUnlockTask, TakeLoadLastSlot, WorkerMove, WorkerView}
use Rattle.properties.specs.CallLength.{CallsEndInPlace, put, take, steal, Progress, as_long_as_it_may, begins_alone, calls_end_in_place, counting, goes_on_after, no_call, none_runs, unless_answered}

-- ── The steps that a call has made, by the one that is next ─────────────────────────────────────────────────────────────────

abbrev pub worker_made : WorkerCall → Progress
worker_made WorkerCall.Idle = no_call
worker_made (PutLoadHead x) = record { kind = put; steps = 0 }
worker_made (PutStoreSlot x) = record { kind = put; steps = 1 }
worker_made PutStoreTail = record { kind = put; steps = 2 }
worker_made TakeStoreTail = record { kind = take; steps = 0 }
worker_made (TakeLoadHead t) = record { kind = take; steps = 1 }
worker_made (TakeLoadSlot t) = record { kind = take; steps = 2 }
worker_made (TakeLock t) = record { kind = take; steps = 2 }
worker_made (TakeReloadHead t) = record { kind = take; steps = 3 }
worker_made (TakeRestoreTail t) = record { kind = take; steps = 4 }
worker_made TakeUnlockEmpty = record { kind = take; steps = 5 }
worker_made (TakeUnlockTask t) = record { kind = take; steps = 4 }
worker_made (TakeLoadLastSlot t) = record { kind = take; steps = 5 }

abbrev thief_made : ThiefCall → Progress
thief_made ThiefCall.Idle = no_call
thief_made StealLock = record { kind = steal; steps = 0 }
thief_made StealLoadHead = record { kind = steal; steps = 1 }
thief_made (StealRaiseHead h) = record { kind = steal; steps = 2 }
thief_made (StealLoadTail h) = record { kind = steal; steps = 3 }
thief_made (StealLoadSlot h) = record { kind = steal; steps = 4 }
thief_made (StealUnlockTask x) = record { kind = steal; steps = 5 }
thief_made (StealRestoreHead h) = record { kind = steal; steps = 4 }
thief_made StealUnlockAbort = record { kind = steal; steps = 5 }

-- what is to be shown of an entry of a party whose call has made c, with its outcome, where the call has made d afterwards
record Counts (c : Progress) (e : Entry) (o : Outcome) (d : Progress) : Type 0 where
  alone : (is_refusal o || begins_alone c (begun_by e)) ≡ true
  in_place : as_long_as_it_may (counting c e o) o ≡ true
  after : unless_answered o (counting c e o) ≡ d

-- of a step, which begins nothing
at : {c : Progress} {e : Entry} {o : Outcome} {d : Progress} → begun_by e ≡ nothing → as_long_as_it_may (counting c e o) o ≡ true → unless_answered o (counting c e o) ≡ d → Counts c e o d
at {c = c} {o = o} idle p q = record { alone = ap (λ b. is_refusal o || begins_alone c b) idle ∙ or_true (is_refusal o); in_place = p; after = q }
  where
    or_true : (a : Bool) → (a || true) ≡ true
    or_true true = refl
    or_true false = refl

-- ── Each step ───────────────────────────────────────────────────────────────────────────────────────────────────────────────

abbrev WorkerCounts : WorkerCall → WorkerMove → Type 0
WorkerCounts c d = Counts (worker_made c) WorkerStep d.outcome (worker_made d.call)

-- a step that is refused leaves the call as it was
refused : (c : WorkerCall) (v : WorkerView) → v.call ≡ c → goes_on_after (worker_made c).kind (worker_made c).steps ≡ true → WorkerCounts c (stays Wait v)
refused c v same fewer = at refl fewer (ap worker_made (sym same))

worker_counts : (c : WorkerCall) (v : WorkerView) → v.call ≡ c → WorkerCounts c (worker_move c v)
worker_counts WorkerCall.Idle v same = at refl refl (ap worker_made (sym same))
worker_counts (PutLoadHead x) v same = either (WorkerCounts (PutLoadHead x)) (at_end v) (at refl refl refl) (either (WorkerCounts (PutLoadHead x)) (is_full v) (at refl refl refl) (at refl refl refl))
worker_counts (PutStoreSlot x) v same = either (WorkerCounts (PutStoreSlot x)) v.room (at refl refl refl) (refused (PutStoreSlot x) v same refl)
worker_counts PutStoreTail v same = either (WorkerCounts PutStoreTail) v.room (at refl refl refl) (refused PutStoreTail v same refl)
worker_counts TakeStoreTail v same = either (WorkerCounts TakeStoreTail) v.room (at refl refl refl) (refused TakeStoreTail v same refl)
worker_counts (TakeLoadHead t) v same = either (WorkerCounts (TakeLoadHead t)) (at_or_above_head t v) (at refl refl refl) (at refl refl refl)
worker_counts (TakeLoadSlot t) v same = at refl refl refl
worker_counts (TakeLock t) v same = either (WorkerCounts (TakeLock t)) (is_nobody v.lock.holder && v.drained) (at refl refl refl) (refused (TakeLock t) v same refl)
worker_counts (TakeReloadHead t) v same = either (WorkerCounts (TakeReloadHead t)) (head_is_past t v) (at refl refl refl) (at refl refl refl)
worker_counts (TakeRestoreTail t) v same = either (WorkerCounts (TakeRestoreTail t)) v.room (at refl refl refl) (refused (TakeRestoreTail t) v same refl)
worker_counts TakeUnlockEmpty v same = either (WorkerCounts TakeUnlockEmpty) v.drained (at refl refl refl) (refused TakeUnlockEmpty v same refl)
worker_counts (TakeUnlockTask t) v same = either (WorkerCounts (TakeUnlockTask t)) v.drained (at refl refl refl) (refused (TakeUnlockTask t) v same refl)
worker_counts (TakeLoadLastSlot t) v same = at refl refl refl

abbrev ThiefCounts : ℕ → ThiefCall → ThiefMove → Type 0
ThiefCounts i c d = Counts (thief_made c) (ThiefStep i) d.outcome (thief_made d.call)

thief_counts : (i : ℕ) (c : ThiefCall) (v : ThiefView) → v.call ≡ c → ThiefCounts i c (thief_move c v)
thief_counts i ThiefCall.Idle v same = at refl refl (ap thief_made (sym same))
thief_counts i StealLock v same = either (ThiefCounts i StealLock) (is_nobody v.lock.holder) (at refl refl refl) (at refl refl (ap thief_made (sym same)))
thief_counts i StealLoadHead v same = at refl refl refl
thief_counts i (StealRaiseHead h) v same = at refl refl refl
thief_counts i (StealLoadTail h) v same = either (ThiefCounts i (StealLoadTail h)) (keeps_margin h v.tail v.margin) (at refl refl refl) (at refl refl refl)
thief_counts i (StealLoadSlot h) v same = at refl refl refl
thief_counts i (StealUnlockTask x) v same = at refl refl refl
thief_counts i (StealRestoreHead h) v same = at refl refl refl
thief_counts i StealUnlockAbort v same = at refl refl refl

-- a call that runs has made fewer steps than it may
worker_fewer : (c : WorkerCall) → goes_on_after (worker_made c).kind (worker_made c).steps ≡ true
worker_fewer WorkerCall.Idle = refl
worker_fewer (PutLoadHead x) = refl
worker_fewer (PutStoreSlot x) = refl
worker_fewer PutStoreTail = refl
worker_fewer TakeStoreTail = refl
worker_fewer (TakeLoadHead t) = refl
worker_fewer (TakeLoadSlot t) = refl
worker_fewer (TakeLock t) = refl
worker_fewer (TakeReloadHead t) = refl
worker_fewer (TakeRestoreTail t) = refl
worker_fewer TakeUnlockEmpty = refl
worker_fewer (TakeUnlockTask t) = refl
worker_fewer (TakeLoadLastSlot t) = refl

thief_fewer : (c : ThiefCall) → goes_on_after (thief_made c).kind (thief_made c).steps ≡ true
thief_fewer ThiefCall.Idle = refl
thief_fewer StealLock = refl
thief_fewer StealLoadHead = refl
thief_fewer (StealRaiseHead h) = refl
thief_fewer (StealLoadTail h) = refl
thief_fewer (StealLoadSlot h) = refl
thief_fewer (StealUnlockTask x) = refl
thief_fewer (StealRestoreHead h) = refl
thief_fewer StealUnlockAbort = refl

-- ── Each entry ──────────────────────────────────────────────────────────────────────────────────────────────────────────────

-- what each party's call on a machine has made
abbrev made : Machine → Party → Progress
made m worker = worker_made m.worker.call
made m (thief i) = thief_made (thief_call m i)

fewer : (m : Machine) (p : Party) → goes_on_after (made m p).kind (made m p).steps ≡ true
fewer m worker = worker_fewer m.worker.call
fewer m (thief i) = thief_fewer (thief_call m i)

-- an entry that hands back d: its party's call counts, and no other party's changes
record Kept (m : Machine) (e : Entry) (d : Done) : Type 0 where
  long : length d.machine.thieves ≡ length m.thieves
  own : Counts (made m (party_of e)) e d.outcome (made d.machine (party_of e))
  others : (p : Party) → same_party p (party_of e) ≡ false → made d.machine p ≡ made m p

-- an entry that is refused changes nothing
kept_refused : (m : Machine) (e : Entry) (o : Outcome) → is_refusal o ≡ true → is_answer o ≡ false → Kept m e (done o m)
kept_refused m e o refusal silent =
    record { long = refl; own = record { alone = rw refusal; in_place = rw (refusal, silent) (fewer m (party_of e)); after = rw (refusal, silent) }; others = λ p other. refl }

-- a drain or a client store leaves every call as it was
kept_apart : (m m' : Machine) (e : Entry) → is_step e ≡ false → begun_by e ≡ nothing → m'.worker ≡ m.worker → m'.thieves ≡ m.thieves → Kept m e (done Moved m')
kept_apart m m' e no_step no_call_is same alike =
    record { long = ap length alike; own = at no_call_is (rw (no_step, no_call_is) (fewer m (party_of e))) (rw (no_step, no_call_is) (sym (call (party_of e)))); others = λ p other. call p }
  where
    call : (p : Party) → made m' p ≡ made m p
    call worker = ap (λ w. worker_made w.call) same
    call (thief i) = ap (λ l. thief_made (get_or l i idle_thief).call) alike

-- an entry of the worker's, with its call afterwards
kept_worker : (m m' : Machine) (e : Entry) (o : Outcome) → party_of e ≡ worker → m'.thieves ≡ m.thieves
    → Counts (worker_made m.worker.call) e o (worker_made m'.worker.call) → Kept m e (done o m')
kept_worker m m' e o whose alike counts =
    record { long = ap length alike; own = subst (λ p. Counts (made m p) e o (made m' p)) (sym whose) counts; others = λ p other. call p (subst (λ r. same_party p r ≡ false) whose other) }
  where
    call : (p : Party) → same_party p worker ≡ false → made m' p ≡ made m p
    call worker other = absurd (false≢true (sym other))
    call (thief i) other = ap (λ l. thief_made (get_or l i idle_thief).call) alike

-- an entry of a thief's that is there
kept_thief : (m m' : Machine) (e : Entry) (o : Outcome) (i : ℕ) (c : ThiefCall) → party_of e ≡ thief i → i < length m.thieves → m'.worker ≡ m.worker
    → m'.thieves ≡ set m.thieves i (record { call = c }) → Counts (thief_made (thief_call m i)) e o (thief_made c) → Kept m e (done o m')
kept_thief m m' e o i c whose there same is counts =
    record {
      long = ap length is ∙ length-set m.thieves i (record { call = c });
      own = subst (λ p. Counts (made m p) e o (made m' p)) (sym whose) (subst (Counts (thief_made (thief_call m i)) e o) (sym mine) counts);
      others = λ p other. call p (subst (λ r. same_party p r ≡ false) whose other);
    }
  where
    mine : thief_made (thief_call m' i) ≡ thief_made c
    mine = ap (λ l. thief_made (get_or l i idle_thief).call) is ∙ ap (λ a. thief_made a.call) (get_or-set_same m.thieves i (record { call = c }) idle_thief there)

    call : (p : Party) → same_party p (thief i) ≡ false → made m' p ≡ made m p
    call worker other = ap (λ w. worker_made w.call) same
    call (thief j) other = ap (λ l. thief_made (get_or l j idle_thief).call) is ∙ ap (λ a. thief_made a.call) (get_or-set_other m.thieves i j (record { call = c }) idle_thief (eqb-false j i other))

-- no call runs where the test says so
pub worker_idle : (c : WorkerCall) → worker_runs c ≡ false → none_runs (worker_made c).kind ≡ true
worker_idle WorkerCall.Idle e = refl
worker_idle (PutLoadHead x) e = absurd (false≢true (sym e))
worker_idle (PutStoreSlot x) e = absurd (false≢true (sym e))
worker_idle PutStoreTail e = absurd (false≢true (sym e))
worker_idle TakeStoreTail e = absurd (false≢true (sym e))
worker_idle (TakeLoadHead t) e = absurd (false≢true (sym e))
worker_idle (TakeLoadSlot t) e = absurd (false≢true (sym e))
worker_idle (TakeLock t) e = absurd (false≢true (sym e))
worker_idle (TakeReloadHead t) e = absurd (false≢true (sym e))
worker_idle (TakeRestoreTail t) e = absurd (false≢true (sym e))
worker_idle TakeUnlockEmpty e = absurd (false≢true (sym e))
worker_idle (TakeUnlockTask t) e = absurd (false≢true (sym e))
worker_idle (TakeLoadLastSlot t) e = absurd (false≢true (sym e))

thief_idle : (c : ThiefCall) → thief_runs c ≡ false → none_runs (thief_made c).kind ≡ true
thief_idle ThiefCall.Idle e = refl
thief_idle StealLock e = absurd (false≢true (sym e))
thief_idle StealLoadHead e = absurd (false≢true (sym e))
thief_idle (StealRaiseHead h) e = absurd (false≢true (sym e))
thief_idle (StealLoadTail h) e = absurd (false≢true (sym e))
thief_idle (StealLoadSlot h) e = absurd (false≢true (sym e))
thief_idle (StealUnlockTask x) e = absurd (false≢true (sym e))
thief_idle (StealRestoreHead h) e = absurd (false≢true (sym e))
thief_idle StealUnlockAbort e = absurd (false≢true (sym e))

module _ (m : Machine) where
  kept_in_range : (e : Entry) → ((i : ℕ) → ltb i m.sizes.thieves ≡ true → i < length m.thieves) → thief_is_there m.sizes e ≡ true → Kept m e (obey_in_range m e)
  kept_in_range Drain cell there =
      either (Kept m Drain) (not (nothing_pending m)) (kept_apart m (drained m) Drain refl refl refl refl) (kept_refused m Drain Wait refl refl)
  kept_in_range ClientStore cell there =
      either (Kept m ClientStore) (worker_runs m.worker.call) (kept_refused m ClientStore Place refl refl)
      (either (Kept m ClientStore) (has_room m) (kept_apart m _ ClientStore refl refl refl refl) (kept_refused m ClientStore Wait refl refl))
  kept_in_range (BeginPut x) cell there =
      decide (Kept m (BeginPut x)) (worker_runs m.worker.call) (λ runs. kept_refused m (BeginPut x) Place refl refl)
      (λ idle. kept_worker m _ (BeginPut x) Moved refl refl (record { alone = worker_idle m.worker.call idle; in_place = refl; after = refl }))
  kept_in_range BeginTake cell there =
      decide (Kept m BeginTake) (worker_runs m.worker.call) (λ runs. kept_refused m BeginTake Place refl refl)
      (λ idle.
      either (Kept m BeginTake) (too_early m.spacing m.sizes.spacing) (kept_refused m BeginTake Early refl refl)
      (kept_worker m _ BeginTake Moved refl refl (record { alone = worker_idle m.worker.call idle; in_place = refl; after = refl })))
  kept_in_range WorkerStep cell there = kept_worker m _ WorkerStep _ refl refl (worker_counts m.worker.call (worker_view m m.worker.call) refl)
  kept_in_range (BeginSteal i) cell there =
      decide (Kept m (BeginSteal i)) (thief_runs (thief_call m i)) (λ runs. kept_refused m (BeginSteal i) Place refl refl)
      (λ idle. kept_thief m _ (BeginSteal i) Moved i StealLock refl (cell i there) refl refl (record { alone = thief_idle (thief_call m i) idle; in_place = refl; after = refl }))
  kept_in_range (ThiefStep i) cell there =
      kept_thief m _ (ThiefStep i) _ i _ refl (cell i there) refl refl (thief_counts i (thief_call m i) (thief_view m i (thief_call m i)) refl)

  kept : length m.thieves ≡ 8 → (e : Entry) → Kept m e (obey m e)
  kept long e =
      decide (Kept m e) (in_range m && thief_is_there m.sizes e)
      (λ met.
      kept_in_range e
      (λ i there. omega (arith, ltb-true i m.sizes.thieves there, (bounds m (and_left (in_range m) (thief_is_there m.sizes e) met)).memory.sizes.thieves_most))
      (and_right (in_range m) (thief_is_there m.sizes e) met))
      (λ unmet. kept_refused m e Wait refl refl)

-- ── A list ──────────────────────────────────────────────────────────────────────────────────────────────────────────────────

run_in_place : (calls : Party → Progress) (m : Machine) (es : List Entry) → length m.thieves ≡ 8 → ((p : Party) → calls p ≡ made m p) → calls_end_in_place calls m es ≡ true
run_in_place calls m [] long same = refl
run_in_place calls m (e ∷ es) long same =
    let k = kept m long e in
    let o : Outcome = (obey m e).outcome in
    rw (
      ap (λ c. is_refusal o || begins_alone c (begun_by e)) (same (party_of e)) ∙ k.own.alone,
      ap (λ c. as_long_as_it_may (counting c e o) o) (same (party_of e)) ∙ k.own.in_place,
    )
    (run_in_place (λ p. cond (same_party p (party_of e)) (unless_answered o (counting (calls (party_of e)) e o)) (calls p)) (obey m e).machine es (k.long ∙ long) (λ p. next p (same_party p (party_of e)) refl k.own.after (k.others p)))
  where
    o : Outcome
    o = (obey m e).outcome

    next : (p : Party) (t : Bool) → same_party p (party_of e) ≡ t
        → unless_answered o (counting (made m (party_of e)) e o) ≡ made (obey m e).machine (party_of e)
        → (same_party p (party_of e) ≡ false → made (obey m e).machine p ≡ made m p)
        → cond t (unless_answered o (counting (calls (party_of e)) e o)) (calls p) ≡ made (obey m e).machine p
    next p true own after others = ap (λ c. unless_answered o (counting c e o)) (same (party_of e)) ∙ after ∙ ap (made (obey m e).machine) (sym (same_party_lem p (party_of e) own))
    next p false other after others = same p ∙ sym (others other)

pub calls_end_in_place_lem : CallsEndInPlace
calls_end_in_place_lem s es = run_in_place (λ p. no_call) (fresh s) es refl idle
  where
    idle : (p : Party) → no_call ≡ made (fresh s) p
    idle worker = refl
    idle (thief i) = ap thief_made (idle_at s i)
