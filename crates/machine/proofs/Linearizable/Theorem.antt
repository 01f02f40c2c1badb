-- Demand 3: from the fresh machine the invariant holds at every moment of a run, and it has every part of the claim.
use mathlib.Core.Path.{◌≡◌, refl, ap, sym, ◌∙◌, subst}
use mathlib.Core.Bool.{Bool, true, false≢true, cond}
use mathlib.Core.List.{List, [], map, ◌∷◌}
use Prim.Native.Nat.{ℕ, zero, suc, ◌+◌, ◌≤◌, ◌<◌, zero-le}
use native.Mathlib.Nat.{le_refl, not-suc-le-zero}
use native.Mathlib.Omega.{arith}
use lib.ListN.{get_or, length, replicate}
use borrow.Author.Tests.{eq-eqb}
use Rattle.terms.specs.Sizes.{enough_margin, margin_in_use, sizes_in_range}
use Rattle.terms.specs.Lists.{all, range}
use Rattle.terms.proofs.Laws.Tests.{and_left, and_right}
use Rattle.terms.proofs.Laws.Sizes.{SizeBounds, margin_in_use_some, sizes_bounds}
use Rattle.terms.proofs.Laws.Lists.{all_map, all_range}
use Rattle.stores.specs.Index.{next}
use Rattle.stores.specs.Load.{loaded_between}
use Rattle.stores.proofs.Laws.Index.{idx, idx_as, idx_next, idx_of}
use Rattle.stores.proofs.Laws.Load.{loaded_between_lem}
use Rattle.stores.proofs.Laws.Pending.{none_pending, seen_tail}
use Rattle.claim.specs.PlainQueue.{PlainQueue, empty_queue}
use Rattle.claim.specs.Calls.{Begun, a_steal, Party, PartyCall, worker, thief, answers_to, is_nothing, no_call, parties}
use Rattle.claim.specs.Watch.{Watch, watch_fresh, watched}
use Rattle.claim.proofs.Theorem.{Shows, linearizes, run_keeps}
use Rattle.machine.specs.Types.{Entry, Holder, Nobody, TheWorker, TheThief, Index, Machine, Outcome, Abort, Sizes, ThiefCall, StealLock, StealLoadHead, StealRaiseHead, StealLoadTail, StealLoadSlot, StealUnlockTask, StealRestoreHead, StealUnlockAbort, WorkerCall, PutLoadHead, PutStoreSlot, PutStoreTail, TakeStoreTail, TakeLoadHead, TakeLoadSlot, TakeLock, TakeReloadHead, TakeRestoreTail, TakeUnlockEmpty, TakeUnlockTask, TakeLoadLastSlot}
use Rattle.machine.specs.Thief.{idle_thief}
use Rattle.machine.specs.Machine.{fresh, thief_call, worker_load, worker_tail}
use Rattle.machine.specs.Linearizable.{Demand3, StandsNow, call_inside, ff_the, head_before, owes, standing_in_slots, standing_now, tail_before, thief_owes}
use Rattle.machine.proofs.Laws.Obey.{ff_the_lawful}
use Rattle.machine.proofs.Linearizable.Invariant.{Exclusive, Environment, HeadState, HoldsTail, plain_memory, InPlace, Invariant, Sound, holds, lowered, outside, raised, stolen, thief_begun, worker_begun}
use Rattle.claim.proofs.Laws.Tasks.{shows_list}
use Rattle.machine.proofs.Linearizable.Plain.{Plain, entry_keeps}
use Rattle.claim.proofs.Watched.{watched_machine}

-- ── At first ────────────────────────────────────────────────────────────────────────────────────────────────────────────────

-- every thief of the fresh machine is idle
pub idle_at : (s : Sizes) (i : ℕ) → ThiefCall.Idle ≡ thief_call (fresh s) i
idle_at s i = sym (ap (λ t. t.call) (get_d_all 8 i))
  where
    get_d_all : (n i : ℕ) → get_or (replicate n idle_thief) i idle_thief ≡ idle_thief
    get_d_all zero i = refl
    get_d_all (suc n) zero = refl
    get_d_all (suc n) (suc i) = get_d_all n i

-- memory at first, with the margin that thieves keep, and the calls that the plain queue is told of
abbrev pub fresh_environment : (Begun → Outcome → Bool) → ℕ → Sizes → Environment
fresh_environment is_told margin s = record { memory = plain_memory (fresh s); margin = margin; is_told = is_told }

abbrev fresh_sound : (is_told : Begun → Outcome → Bool) (margin : ℕ) → 1 ≤ margin → (s : Sizes) → SizeBounds s → Sound (fresh_environment is_told margin s) 0 (fresh s) WorkerCall.Idle ThiefCall.Idle
fresh_sound is_told margin some s b =
    record {
      sizes = b;
      memory = refl;
      margin_some = some;
      slots_after_lem = refl;
      buffer = none_pending s (replicate 256 0) b.start_most;
      head =
          record {
            lo = s.start + 1;
            head_is_lem = idx_as (s.start + 1) (s.start + 1 + 0) (idx_of s.start) (omega arith);
            holds_head = tt;
            floor = omega arith;
            top = omega (arith, b.start_most);
          };
      tail = record { holds_tail = tt; floor = omega arith; top = omega (arith, b.start_most) };
      spaced = zero-le;
      counted = zero-le;
      lock = (refl, refl);
    }

pub fresh_invariant : (E : Type 0) (is_told : Begun → Outcome → Bool) (margin : ℕ) → 1 ≤ margin → (s : Sizes) → sizes_in_range s ≡ true → Invariant E s 0 (fresh_environment is_told margin s) (fresh s) (empty_queue s.start) (λ p. no_call)
fresh_invariant E is_told margin some s ranged =
    let count : s.start + 1 + 0 + 0 ≡ s.start + 1 + 0 = omega arith in
    let sum : s.start + 1 ≡ s.start + 1 + 0 = omega arith in
    let room : s.start + 1 + 0 + 0 ≤ s.start + 1 + s.slots = omega arith in
    record {
      inside = ThiefCall.Idle;
      sizes_are = refl;
      long = refl;
      sound = fresh_sound is_told margin some s (sizes_bounds s ranged);
      thieves = λ i. ap outside (sym (idle_at s i));
      agrees = λ enough.
          record { count = count; sum = sum; room = room; below = zero-le; shows = λ k none. absurd (not-suc-le-zero none); unwritten = λ has. absurd (omega arith) };
      worker_call = λ enough. record { begun = refl; answers = refl };
      thief_call_lem = λ enough i. record { begun = ap thief_begun (idle_at s i); answers = ap (thief_owes (cond (is_told a_steal Abort) (Abort ∷ []) []) (fresh s)) (idle_at s i) };
    }

-- .. with the margin in use
pub fresh_plain : (s : Sizes) → sizes_in_range s ≡ true → Plain s 0 (watch_fresh ff_the s)
fresh_plain s ranged =
    fresh_invariant (enough_margin s ≡ true) (λ begun answer. true) (margin_in_use s) (margin_in_use_some s (sizes_bounds s ranged).buffer_least) s ranged

-- ── Entry by entry ──────────────────────────────────────────────────────────────────────────────────────────────────────────

-- the invariant at the end of a list
pub run_invariant : (s : Sizes) (n : ℕ) (w : Watch Machine) (es : List Entry) → Plain s n w → Plain s (n + length es) (watched ff_the w es)
run_invariant s n w es = run_keeps ff_the (n + length es) (Plain s) (λ n w short v e. (entry_keeps v e).next) n w es (le_refl (n + length es))

-- ── The tasks that stand ────────────────────────────────────────────────────────────────────────────────────────────────────

-- head without what a steal has raised it by, and the worker's tail without what a take has lowered it by

head_before_lem : {start : ℕ} (head : Index) (p : ThiefCall) (v : HeadState start head p) → head_before head p ≡ idx (v.lo + stolen p)
head_before_lem head ThiefCall.Idle v = v.head_is_lem
head_before_lem head StealLock v = v.head_is_lem
head_before_lem head StealLoadHead v = v.head_is_lem
head_before_lem head (StealRaiseHead h) v = v.head_is_lem
head_before_lem head (StealLoadTail h) v = idx_as v.lo (v.lo + 0) v.holds_head (omega arith)
head_before_lem head (StealLoadSlot h) v = v.head_is_lem
head_before_lem head (StealUnlockTask x) v = v.head_is_lem
head_before_lem head (StealRestoreHead h) v = idx_as v.lo (v.lo + 0) v.holds_head (omega arith)
head_before_lem head StealUnlockAbort v = v.head_is_lem

tail_before_lem : (seen : ℕ) (tail : Index) (c : WorkerCall) → tail ≡ idx seen → HoldsTail c seen → tail_before tail c ≡ idx (seen + lowered c)
tail_before_lem seen tail WorkerCall.Idle is holds = idx_as seen (seen + 0) is (omega arith)
tail_before_lem seen tail (PutLoadHead x) is holds = idx_as seen (seen + 0) is (omega arith)
tail_before_lem seen tail (PutStoreSlot x) is holds = idx_as seen (seen + 0) is (omega arith)
tail_before_lem seen tail PutStoreTail is holds = idx_as seen (seen + 0) is (omega arith)
tail_before_lem seen tail TakeStoreTail is holds = idx_as seen (seen + 0) is (omega arith)
tail_before_lem seen tail (TakeLoadHead t) is holds = ap next holds ∙ idx_next seen
tail_before_lem seen tail (TakeLoadSlot t) is holds = idx_as seen (seen + 0) is (omega arith)
tail_before_lem seen tail (TakeLock t) is holds = ap next holds ∙ idx_next seen
tail_before_lem seen tail (TakeReloadHead t) is holds = ap next holds ∙ idx_next seen
tail_before_lem seen tail (TakeRestoreTail t) is holds = ap next holds ∙ idx_next seen
tail_before_lem seen tail TakeUnlockEmpty is holds = idx_as seen (seen + 0) is (omega arith)
tail_before_lem seen tail (TakeUnlockTask t) is holds = idx_as seen (seen + 0) is (omega arith)
tail_before_lem seen tail (TakeLoadLastSlot t) is holds = idx_as seen (seen + 0) is (omega arith)

-- the thief inside is the one that has the lock
inside_is :
    (m : Machine) (l : Holder) (working : Bool) (k : ℕ) (p : ThiefCall) → Exclusive l working p → ((i : ℕ) → InPlace (holds l i) k i p (thief_call m i))
    → call_inside m l ≡ p
inside_is m Nobody working k p x place = sym x.1
inside_is m TheWorker working k p x place = sym x.1
inside_is m (TheThief i) working k p x place = (subst (λ b. InPlace b k i p (thief_call m i)) (eq-eqb i i refl) (place i)).0

module _ {E : Type 0} {s : Sizes} {n : ℕ} {g : Environment} {m : Machine} {q : PlainQueue} {cs : Party → PartyCall} (v : Invariant E s n g m q cs) (enough : E) where
  -- the tasks lie between the oldest and the queue's tail
  shown_between : (from to : Index) → from ≡ idx (v.sound.head.lo + stolen v.inside) → to ≡ idx (v.sound.buffer.seen + lowered m.worker.call)
      → map (λ t. t.number) q.tasks ≡ loaded_between (worker_load m) from to
  shown_between from to low high =
      let a : ℕ = v.sound.head.lo + stolen v.inside in
      let n : ℕ = length q.tasks in
      let same : v.sound.buffer.seen + lowered m.worker.call ≡ a + n = omega (arith, (v.agrees enough).count) in
      shows_list (λ k. worker_load m (idx k)) a q.tasks (v.agrees enough).shows
      ∙ sym (loaded_between_lem (worker_load m) from to a n low (high ∙ ap idx same) (omega (arith, v.sound.head.floor)))

  -- at every moment
  stands_now : map (λ t. t.number) q.tasks ≡ standing_now m
  stands_now =
      shown_between (head_before m.head (call_inside m m.lock.holder)) (tail_before (worker_tail m) m.worker.call)
      (ap (head_before m.head) (inside_is m m.lock.holder _ m.sizes.thieves v.inside v.sound.lock v.thieves) ∙ head_before_lem m.head v.inside v.sound.head)
      (tail_before_lem v.sound.buffer.seen (worker_tail m) m.worker.call (seen_tail v.sound.buffer) v.sound.tail.holds_tail)

-- ── Where no call runs ──────────────────────────────────────────────────────────────────────────────────────────────────────

idle_worker : (m : Machine) (c : WorkerCall) → is_nothing (worker_begun m c) ≡ true → lowered c ≡ 0
idle_worker m WorkerCall.Idle e = refl
idle_worker m (PutLoadHead x) e = refl
idle_worker m (PutStoreSlot x) e = refl
idle_worker m PutStoreTail e = refl
idle_worker m TakeStoreTail e = refl
idle_worker m (TakeLoadHead t) e = absurd (false≢true e)
idle_worker m (TakeLoadSlot t) e = refl
idle_worker m (TakeLock t) e = absurd (false≢true e)
idle_worker m (TakeReloadHead t) e = absurd (false≢true e)
idle_worker m (TakeRestoreTail t) e = absurd (false≢true e)
idle_worker m TakeUnlockEmpty e = refl
idle_worker m (TakeUnlockTask t) e = refl
idle_worker m (TakeLoadLastSlot t) e = refl

idle_outside : (c : ThiefCall) → is_nothing (thief_begun c) ≡ true → outside c ≡ true
idle_outside ThiefCall.Idle e = refl
idle_outside StealLock e = refl
idle_outside StealLoadHead e = absurd (false≢true e)
idle_outside (StealRaiseHead h) e = absurd (false≢true e)
idle_outside (StealLoadTail h) e = absurd (false≢true e)
idle_outside (StealLoadSlot h) e = absurd (false≢true e)
idle_outside (StealUnlockTask x) e = absurd (false≢true e)
idle_outside (StealRestoreHead h) e = absurd (false≢true e)
idle_outside StealUnlockAbort e = absurd (false≢true e)

-- no thief is inside
nobody_inside :
    (l : Holder) (working : Bool) (k : ℕ) (p : ThiefCall) (call : ℕ → ThiefCall) → Exclusive l working p → ((i : ℕ) → InPlace (holds l i) k i p (call i))
    → ((i : ℕ) → i < k → is_nothing (thief_begun (call i)) ≡ true) → p ≡ ThiefCall.Idle
nobody_inside Nobody working k p call x place idle = x.1
nobody_inside TheWorker working k p call x place idle = x.1
nobody_inside (TheThief i) working k p call x place idle =
    let here = subst (λ b. InPlace b k i p (call i)) (eq-eqb i i refl) (place i) in
    absurd (false≢true (sym x.1 ∙ ap outside (sym here.0) ∙ idle_outside (call i) (idle i here.1)))

module _ {E : Type 0} {s : Sizes} {n : ℕ} {g : Environment} {m : Machine} {q : PlainQueue} {cs : Party → PartyCall} (v : Invariant E s n g m q cs) (enough : E) (quiet : all (λ p. is_nothing (cs p).begun) (parties s) ≡ true) where
  worker_idle : is_nothing (worker_begun (m) m.worker.call) ≡ true
  worker_idle =
      ap is_nothing (sym (v.worker_call enough).begun)
      ∙ and_left (is_nothing (cs worker).begun) (all (λ p. is_nothing (cs p).begun) (map thief (range s.thieves))) quiet

  thief_idle : (i : ℕ) → i < m.sizes.thieves → is_nothing (thief_begun (thief_call (m) i)) ≡ true
  thief_idle i there =
      ap is_nothing (sym (v.thief_call_lem enough i).begun)
      ∙ all_range (λ i. is_nothing (cs (thief i)).begun) s.thieves i
      (sym (all_map thief (λ p. is_nothing (cs p).begun) (λ i. refl) (range s.thieves))
      ∙ and_right (is_nothing (cs worker).begun) (all (λ p. is_nothing (cs p).begun) (map thief (range s.thieves))) quiet)
      (subst (λ s. i < s.thieves) v.sizes_are there)

  alone : v.inside ≡ ThiefCall.Idle
  alone = nobody_inside m.lock.holder _ m.sizes.thieves v.inside (thief_call (m)) v.sound.lock v.thieves thief_idle

  level : lowered m.worker.call ≡ 0
  level = idle_worker (m) m.worker.call worker_idle

  -- so head is the oldest task's index, and the worker's tail is the queue's: the slots between show the tasks that stand
  pub standing : map (λ t. t.number) q.tasks ≡ standing_in_slots m
  standing =
      let lo = v.sound.head.lo in
      shown_between v enough m.head (worker_tail m)
      (idx_as (lo + (raised v.inside + stolen v.inside)) (lo + stolen v.inside) v.sound.head.head_is_lem (omega (arith, ap raised alone)))
      (idx_as v.sound.buffer.seen (v.sound.buffer.seen + lowered m.worker.call) (seen_tail v.sound.buffer) (omega (arith, level)))

-- ── The claim ───────────────────────────────────────────────────────────────────────────────────────────────────────────────

-- every party owes what the plain queue has answered to it
owed : {s : Sizes} {n : ℕ} {w : Watch Machine} → enough_margin s ≡ true → Plain s n w → (p : Party) → answers_to (w.calls p) ≡ owes w.machine p
owed enough v worker = (v.worker_call enough).answers
owed enough v (thief i) = (v.thief_call_lem enough i).answers

pub invariant_shows : (s : Sizes) → enough_margin s ≡ true → Shows ff_the s 4096 (Plain s)
invariant_shows s enough =
    record {
      keeps = λ n w short v e. (entry_keeps v e).next;
      limits = λ n w v e. (entry_keeps v e).limits enough;
      answers = λ n w v e. (entry_keeps v e).answers enough;
      owed = λ n w v p. owed enough v p;
      standing = λ n w v quiet. standing v enough quiet;
    }

pub demand3 : Demand3
demand3 s es ranged enough short = linearizes ff_the_lawful (invariant_shows s enough) es short (fresh_plain s ranged)

-- .. and the tasks that stand, at every moment
pub run_stands_now : StandsNow
run_stands_now s es ranged enough =
    stands_now (run_invariant s 0 (watch_fresh ff_the s) es (fresh_plain s ranged)) enough ∙ ap standing_now (watched_machine ff_the (watch_fresh ff_the s) es)
