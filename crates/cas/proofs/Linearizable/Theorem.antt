-- Demand 3: from the fresh machine the invariant holds at every moment of a run, and it has every part of the claim; and what else it says of the tasks.
use mathlib.Core.Path.{◌≡◌, refl, ap, sym, ◌∙◌, subst}
use mathlib.Core.Bool.{true, false≢true, ◌&&◌}
use mathlib.Core.List.{List, [], ◌∷◌, map}
use Prim.Native.Nat.{ℕ, zero, suc, ◌+◌, ◌≤◌, zero-le}
use native.Mathlib.Nat.{le_refl, not-suc-le-zero}
use native.Mathlib.Omega.{arith}
use lib.ListN.{get_or, length, replicate}
use borrow.Author.Tests.{leb-true, ltb-true}
use Rattle.terms.specs.Kinds.{thief_is_there}
use Rattle.terms.specs.Lists.{all, range}
use Rattle.terms.specs.Sizes.{enough_margin, margin_in_use, needed_margin, sizes_in_range}
use Rattle.terms.proofs.Laws.Sizes.{SizeBounds, sizes_bounds}
use Rattle.terms.proofs.Laws.Tests.{and_left, and_right, decide}
use Rattle.stores.specs.Index.{next}
use Rattle.stores.specs.Load.{loaded_between}
use Rattle.stores.proofs.Laws.Index.{idx, idx_as, idx_next, idx_of}
use Rattle.stores.proofs.Laws.Load.{loaded_between_lem}
use Rattle.stores.proofs.Laws.Pending.{none_pending, seen_tail}
use Rattle.claim.specs.PlainQueue.{PlainQueue}
use Rattle.claim.specs.Calls.{Party, worker, thief, begun_by, is_nothing, no_call, party_of}
use Rattle.claim.specs.Linearizable.{no_call_runs}
use Rattle.claim.specs.Watch.{Watch, watch_fresh, watched}
use Rattle.claim.proofs.Entries.{EntryTurn, Invariant, keeps, shows_by_turns, waits}
use Rattle.claim.proofs.Follows.{Follows}
use Rattle.claim.proofs.Laws.Tasks.{oldest_first, shows_list, task_at}
use Rattle.claim.proofs.Theorem.{Shows, linearizes, run_keeps}
use Rattle.claim.proofs.Watched.{watched_machine}
use Rattle.cas.specs.Types.{Done, Entry, Drain, ClientStore, BeginPut, BeginTake, WorkerStep, BeginSteal, ThiefStep, Index, Machine, Sizes, ThiefCall, WorkerCall, PutLoadHead, PutStoreSlot, PutStoreTail, TakeStoreTail, TakeLoadHead, TakeLoadSlot, TakeTailToHead, TakeTailPastHead, TakeSwapHead, TakeLoadLastSlot}
use Rattle.cas.specs.Thief.{idle_thief}
use Rattle.cas.specs.Machine.{fresh, in_range, thief_call, worker_load, worker_tail}
use Rattle.cas.specs.Entries.{obey, obey_in_range}
use Rattle.cas.specs.Linearizable.{Demand3, LoadedIsTheTask, NeverMoreThanSlots, StandsNow, effect_of, ff_cl, limits, owes, standing_in_slots, standing_now, tail_before}
use Rattle.cas.proofs.Laws.Obey.{ff_cl_lawful, sizes_kept_lem}
use Rattle.cas.proofs.Linearizable.Invariant.{AgreesOn, AimOf, Holds, HoldsBeside, HoldsIndex, SureOf, begun_of, lowered, thief_begun, worker_begun}
use Rattle.cas.proofs.Linearizable.Rebuild.{later}
use Rattle.cas.proofs.Linearizable.Worker.{begin_put_lem, begin_take_lem, client_store_lem, drain, worker_step}
use Rattle.cas.proofs.Linearizable.Thief.{begin_steal_lem, thief_step}

-- ── Entry by entry ──────────────────────────────────────────────────────────────────────────────────────────────────────────

module _ (n : ℕ) (m : Machine) (q : PlainQueue) (v : Holds n m) where
  -- what an entry with the result d has to show
  abbrev TurnAt : Entry → Done → Type 0
  TurnAt e d =
      EntryTurn ff_cl begun_of Holds HoldsBeside (AgreesOn v q) (limits m.sizes) m q (party_of e) (begun_of m (party_of e)) (owes m (party_of e)) (begun_by e)
      (effect_of d.outcome m e) d.outcome (n + 1) d.machine

  -- an entry on a machine in range, by a thief that is there
  in_range_lem : (e : Entry) → thief_is_there m.sizes e ≡ true → TurnAt e (obey_in_range m e)
  in_range_lem Drain there = drain q v
  in_range_lem ClientStore there = client_store_lem q v
  in_range_lem (BeginPut x) there = begin_put_lem q x v
  in_range_lem BeginTake there = begin_take_lem q v
  in_range_lem WorkerStep there = worker_step q m.worker.call v
  in_range_lem (BeginSteal i) there = begin_steal_lem v q i (ltb-true i m.sizes.thieves there)
  in_range_lem (ThiefStep i) there = thief_step v q i (ltb-true i m.sizes.thieves there)

  -- every entry
  entry_turn : (e : Entry) → TurnAt e (obey m e)
  entry_turn e =
      decide (TurnAt e) (in_range m && thief_is_there m.sizes e) (λ met. in_range_lem e (and_right (in_range m) (thief_is_there m.sizes e) met))
      (λ e. waits ff_cl begun_of Holds HoldsBeside refl refl (later v) (λ g. g))

-- the invariant of a run of sizes s, after n entries
abbrev pub Run : Sizes → ℕ → Watch Machine → Type 0
Run s n w = Invariant ff_cl begun_of Holds HoldsBeside (λ m. m.sizes) sizes_kept_lem (enough_margin s ≡ true) s n w

-- at the end of a list
pub run_invariant : (s : Sizes) (n : ℕ) (w : Watch Machine) (es : List Entry) → Run s n w → Run s (n + length es) (watched ff_cl w es)
run_invariant s n w es = run_keeps ff_cl (n + length es) (Run s) (λ n w short v e. keeps ff_cl begun_of Holds HoldsBeside (λ m. m.sizes) sizes_kept_lem entry_turn v e) n w es (le_refl (n + length es))

-- ── At first ────────────────────────────────────────────────────────────────────────────────────────────────────────────────

-- every thief of the fresh machine is idle
idle_at : (s : Sizes) (i : ℕ) → ThiefCall.Idle ≡ thief_call (fresh s) i
idle_at s i = sym (ap (λ t. t.call) (get_d_all 8 i))
  where
    get_d_all : (n i : ℕ) → get_or (replicate n idle_thief) i idle_thief ≡ idle_thief
    get_d_all zero i = refl
    get_d_all (suc n) zero = refl
    get_d_all (suc n) (suc i) = get_d_all n i

abbrev fresh_sound : (s : Sizes) → SizeBounds s → Holds 0 (fresh s)
fresh_sound s b =
    record {
      sizes = b;
      memory = refl;
      long = refl;
      buffer = none_pending s (replicate 256 0) b.start_most;
      head = record { at = s.start + 1; is = idx_of s.start; saw = s.start + 1; floor = le_refl (s.start + 1); reached = le_refl (s.start + 1); top = omega (arith, b.start_most) };
      tail = record { holds = tt; floor = omega arith; top = omega (arith, b.start_most) };
      spaced = zero-le;
      counted = zero-le;
      aims = λ i. subst (AimOf s.start (s.start + 1)) (idle_at s i) tt;
    }

pub fresh_run : (s : Sizes) → sizes_in_range s ≡ true → Run s 0 (watch_fresh ff_cl s)
fresh_run s ranged =
    record {
      sizes_are = refl;
      sound = fresh_sound s (sizes_bounds s ranged);
      agrees = λ enough.
          record {
            enough = leb-true (needed_margin s.buffer s.spacing) (margin_in_use s) enough;
            count = omega arith;
            sum = omega arith;
            room = omega arith;
            below = zero-le;
            shows = λ k none. absurd (not-suc-le-zero none);
            sure = λ i. subst (SureOf _ _ _) (idle_at s i) tt;
          };
      calls = λ enough. calls;
    }
  where
    calls : (r : Party) → Follows no_call (begun_of (fresh s) r) (owes (fresh s) r)
    calls worker = record { begun = refl; answers = refl }
    calls (thief i) = record { begun = ap thief_begun (idle_at s i); answers = refl }

-- ── The tasks that stand ────────────────────────────────────────────────────────────────────────────────────────────────────

-- the worker's tail without what a take has lowered it by
tail_before_lem : (seen saw : ℕ) (tail : Index) (c : WorkerCall) → tail ≡ idx seen → HoldsIndex c seen saw → saw ≤ seen + lowered c → tail_before tail c ≡ idx (seen + lowered c)
tail_before_lem seen saw tail WorkerCall.Idle is holds most = idx_as seen (seen + 0) is (omega arith)
tail_before_lem seen saw tail (PutLoadHead x) is holds most = idx_as seen (seen + 0) is (omega arith)
tail_before_lem seen saw tail (PutStoreSlot x) is holds most = idx_as seen (seen + 0) is (omega arith)
tail_before_lem seen saw tail PutStoreTail is holds most = idx_as seen (seen + 0) is (omega arith)
tail_before_lem seen saw tail TakeStoreTail is holds most = idx_as seen (seen + 0) is (omega arith)
tail_before_lem seen saw tail (TakeLoadHead t) is holds most = ap next holds ∙ idx_next seen
tail_before_lem seen saw tail (TakeLoadSlot t) is holds most = idx_as seen (seen + 0) is (omega arith)
tail_before_lem seen saw tail (TakeTailToHead h) is holds most = idx_as saw (seen + 1) holds.0 (omega (arith, holds.1))
tail_before_lem seen saw tail (TakeTailPastHead t) is holds most = idx_as (saw + 1) (seen + 1) (ap next holds.0 ∙ idx_next saw) (omega (arith, holds.1))
tail_before_lem seen saw tail (TakeSwapHead t) is holds most = idx_as seen (seen + 0) is (omega arith)
tail_before_lem seen saw tail (TakeLoadLastSlot t) is holds most = idx_as seen (seen + 0) is (omega arith)

-- a worker without a call has not lowered it
idle_tail : (x : ℕ) (tail : Index) (c : WorkerCall) → is_nothing (worker_begun x c) ≡ true → tail_before tail c ≡ tail
idle_tail x tail WorkerCall.Idle e = refl
idle_tail x tail (PutLoadHead y) e = refl
idle_tail x tail (PutStoreSlot y) e = refl
idle_tail x tail PutStoreTail e = refl
idle_tail x tail TakeStoreTail e = refl
idle_tail x tail (TakeLoadHead t) e = absurd (false≢true e)
idle_tail x tail (TakeLoadSlot t) e = refl
idle_tail x tail (TakeTailToHead h) e = absurd (false≢true e)
idle_tail x tail (TakeTailPastHead t) e = absurd (false≢true e)
idle_tail x tail (TakeSwapHead t) e = refl
idle_tail x tail (TakeLoadLastSlot t) e = refl

module _ {s : Sizes} {n : ℕ} {w : Watch Machine} (v : Run s n w) (enough : enough_margin s ≡ true) where
  -- the tasks lie between head and the queue's tail
  stands_now : map (λ t. t.number) w.queue.tasks ≡ standing_now w.machine
  stands_now =
      let m = w.machine in
      let u = v.sound in
      let g = v.agrees enough in
      let head = u.head.at in
      shows_list (λ k. worker_load m (idx k)) head w.queue.tasks g.shows
      ∙ sym
      (loaded_between_lem (worker_load m) m.head (tail_before (worker_tail m) m.worker.call) head (length w.queue.tasks) u.head.is
      (tail_before_lem u.buffer.seen u.head.saw (worker_tail m) m.worker.call (seen_tail u.buffer) u.tail.holds (omega (arith, g.count, u.head.reached))
      ∙ ap idx (sym g.count))
      (omega (arith, u.head.floor, u.head.reached)))

  -- where no call runs, that is the worker's tail
  standing : no_call_runs s w ≡ true → map (λ t. t.number) w.queue.tasks ≡ standing_in_slots w.machine
  standing quiet =
      let m = w.machine in
      stands_now
      ∙ ap (loaded_between (worker_load m) m.head)
      (idle_tail (worker_load m (worker_tail m)) (worker_tail m) m.worker.call
      (ap is_nothing (sym (v.calls enough worker).begun)
      ∙ and_left (is_nothing (w.calls worker).begun) (all (λ p. is_nothing (w.calls p).begun) (map thief (range s.thieves))) quiet))

-- ── The claim ───────────────────────────────────────────────────────────────────────────────────────────────────────────────

pub invariant_shows : (s : Sizes) → enough_margin s ≡ true → Shows ff_cl s 4096 (Run s)
invariant_shows s enough = shows_by_turns ff_cl begun_of Holds HoldsBeside (λ m. m.sizes) sizes_kept_lem entry_turn enough 4096 (λ n w v quiet. standing v enough quiet)

pub demand3 : Demand3
demand3 s es ranged enough short = linearizes ff_cl_lawful (invariant_shows s enough) es short (fresh_run s ranged)

-- ── What else is true of every list ─────────────────────────────────────────────────────────────────────────────────────────

-- the invariant after every list
pub run_from_fresh : (s : Sizes) (es : List Entry) → sizes_in_range s ≡ true → Run s (length es) (watched ff_cl (watch_fresh ff_cl s) es)
run_from_fresh s es ranged = subst (λ n. Run s n (watched ff_cl (watch_fresh ff_cl s) es)) (omega arith) (run_invariant s 0 (watch_fresh ff_cl s) es (fresh_run s ranged))

-- the tasks that stand, at every moment
pub run_stands_now : StandsNow
run_stands_now s es ranged enough = stands_now (run_from_fresh s es ranged) enough ∙ ap standing_now (watched_machine ff_cl (watch_fresh ff_cl s) es)

-- what a thief has loaded is the oldest task's number, while its head stands
pub loaded_is_the_task : LoadedIsTheTask
loaded_is_the_task s es ranged enough i x h at here =
    let v = run_from_fresh s es ranged in
    let w = watched ff_cl (watch_fresh ff_cl s) es in
    let tasks = w.queue.tasks in
    let same = watched_machine ff_cl (watch_fresh ff_cl s) es in
    let sure = subst (SureOf w.machine.head _ (task_at tasks 0).number) (ap (λ m. thief_call m i) same ∙ at) ((v.agrees enough).sure i) (here ∙ ap (λ m. m.head) (sym same)) in
    ap (map (λ t. t.number)) (sym (oldest_first tasks sure.0.some)) ∙ ap (λ y. y ∷ []) sure.1

-- the tasks lie in slots of their own
pub never_more_than_slots : NeverMoreThanSlots
never_more_than_slots s es ranged enough =
    let v = run_from_fresh s es ranged in
    let w = watched ff_cl (watch_fresh ff_cl s) es in
    let g = v.agrees enough in
    let few : length w.queue.tasks ≤ w.machine.sizes.slots = omega (arith, g.count, g.room) in
    subst (λ s. length w.queue.tasks ≤ s.slots) v.sizes_are few
