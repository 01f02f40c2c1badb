-- What holds of every run from the fresh machine, whichever margin is set: the machine is in range, and the pending take stores are never
-- more than the needed margin.
use mathlib.Core.Path.{◌≡◌, refl, ap, sym, ◌∙◌, subst}
use mathlib.Core.Bool.{Bool, true, false, false≢true}
use mathlib.Core.List.{List}
use Prim.Native.Nat.{ℕ, ◌+◌, ◌≤◌}
use native.Mathlib.Omega.{arith}
use borrow.Author.Tests.{le-leb}
use Rattle.terms.specs.Sizes.{needed_margin, sizes_in_range}
use Rattle.terms.proofs.Laws.Lists.{all_each}
use Rattle.stores.specs.Look.{memory_in_range}
use Rattle.stores.proofs.Laws.Index.{index_ranged, slot_ranged}
use Rattle.stores.proofs.Laws.Pending.{takes_needed}
use Rattle.claim.specs.Watch.{Watch, watch_fresh, watched}
use Rattle.machine.specs.Types.{Entry, Machine, Sizes, ThiefCall, StealLock, StealLoadHead, StealRaiseHead, StealLoadTail, StealLoadSlot, StealUnlockTask, StealRestoreHead, StealUnlockAbort, WorkerCall, PutLoadHead, PutStoreSlot, PutStoreTail, TakeStoreTail, TakeLoadHead, TakeLoadSlot, TakeLock, TakeReloadHead, TakeRestoreTail, TakeUnlockEmpty, TakeUnlockTask, TakeLoadLastSlot}
use Rattle.machine.specs.Thief.{idle_thief, thief_in_range}
use Rattle.machine.specs.Machine.{fresh, takes_pending, thief_call}
use Rattle.machine.specs.Worker.{worker_in_range}
use Rattle.machine.specs.InRange.{in_range}
use Rattle.machine.specs.Obey.{RunInRange, machine_after}
use Rattle.machine.specs.Linearizable.{ff_the}
use Rattle.machine.proofs.Linearizable.Invariant.{Environment, InPlace, Sound, holds, outside, raised, raised_stolen, stolen}
use Rattle.machine.proofs.Linearizable.Plain.{Plain}
use Rattle.claim.proofs.Watched.{watched_machine}
use Rattle.machine.proofs.Linearizable.Theorem.{fresh_plain, run_invariant}

-- ── In range ────────────────────────────────────────────────────────────────────────────────────────────────────────────────

module _ {g : Environment} {n : ℕ} {m : Machine} {p : ThiefCall} where
  worker_ranged : (c : WorkerCall) → Sound g n m c p → worker_in_range c ≡ true
  worker_ranged WorkerCall.Idle v = refl
  worker_ranged (PutLoadHead x) v = refl
  worker_ranged (PutStoreSlot x) v = refl
  worker_ranged PutStoreTail v = refl
  worker_ranged TakeStoreTail v = refl
  worker_ranged (TakeLoadHead t) v = index_ranged t v.buffer.seen v.tail.holds_tail (omega (arith, v.tail.top))
  worker_ranged (TakeLoadSlot t) v = slot_ranged t v.buffer.seen v.tail.holds_tail (omega (arith, v.tail.floor)) (omega (arith, v.tail.top))
  worker_ranged (TakeLock t) v = index_ranged t v.buffer.seen v.tail.holds_tail (omega (arith, v.tail.top))
  worker_ranged (TakeReloadHead t) v = index_ranged t v.buffer.seen v.tail.holds_tail (omega (arith, v.tail.top))
  worker_ranged (TakeRestoreTail t) v = index_ranged t v.buffer.seen v.tail.holds_tail (omega (arith, v.tail.top))
  worker_ranged TakeUnlockEmpty v = refl
  worker_ranged (TakeUnlockTask t) v = slot_ranged t v.buffer.seen v.tail.holds_tail (omega (arith, v.tail.floor)) (omega (arith, v.tail.top))
  worker_ranged (TakeLoadLastSlot t) v = slot_ranged t v.buffer.seen v.tail.holds_tail (omega (arith, v.tail.floor)) (omega (arith, v.tail.top))

module _ {g : Environment} {n : ℕ} {m : Machine} {c : WorkerCall} where
  inside_ranged : (p : ThiefCall) → Sound g n m c p → thief_in_range p ≡ true
  inside_ranged ThiefCall.Idle v = refl
  inside_ranged StealLock v = refl
  inside_ranged StealLoadHead v = refl
  inside_ranged (StealRaiseHead h) v = index_ranged h v.head.lo v.head.holds_head (omega (arith, v.head.top))
  inside_ranged (StealLoadTail h) v = index_ranged h v.head.lo v.head.holds_head (omega (arith, v.head.top))
  inside_ranged (StealLoadSlot h) v = slot_ranged h v.head.lo v.head.holds_head (omega (arith, v.head.floor)) (omega (arith, v.head.top))
  inside_ranged (StealUnlockTask x) v = refl
  inside_ranged (StealRestoreHead h) v = index_ranged h v.head.lo v.head.holds_head (omega (arith, v.head.top))
  inside_ranged StealUnlockAbort v = refl

outside_ranged : (c : ThiefCall) → outside c ≡ true → thief_in_range c ≡ true
outside_ranged ThiefCall.Idle out = refl
outside_ranged StealLock out = refl
outside_ranged StealLoadHead out = refl
outside_ranged (StealRaiseHead h) out = absurd (false≢true out)
outside_ranged (StealLoadTail h) out = absurd (false≢true out)
outside_ranged (StealLoadSlot h) out = absurd (false≢true out)
outside_ranged (StealUnlockTask x) out = refl
outside_ranged (StealRestoreHead h) out = absurd (false≢true out)
outside_ranged StealUnlockAbort out = refl

-- a machine of the invariant, after at most 4,096 entries, is in range
invariant_ranged : {s : Sizes} {n : ℕ} {w : Watch Machine} → Plain s n w → sizes_in_range s ≡ true → n ≤ 4096 → in_range w.machine ≡ true
unfolding in_range memory_in_range
invariant_ranged {w = w} v ranged short =
    let m = w.machine in
    let u = v.sound in
    rw (
      ap sizes_in_range v.sizes_are ∙ ranged,
      le-leb m.buffer.count m.sizes.buffer u.buffer.fits,
      le-leb m.spacing.count 4096 (omega (arith, u.counted)),
      index_ranged m.head (u.head.lo + (raised v.inside + stolen v.inside)) u.head.head_is_lem (omega (arith, u.head.top, raised_stolen v.inside)),
      u.buffer.tail_ranged,
      u.buffer.ranged,
      worker_ranged m.worker.call u,
    )
    (all_each (λ t. thief_in_range t.call) m.thieves idle_thief (λ i. each i (holds m.lock.holder i) (v.thieves i)))
  where
    each : (i : ℕ) (b : Bool) → InPlace b w.machine.sizes.thieves i v.inside (thief_call w.machine i) → thief_in_range (thief_call w.machine i) ≡ true
    each i true place = ap thief_in_range place.0 ∙ inside_ranged v.inside v.sound
    each i false place = outside_ranged (thief_call w.machine i) place

-- every machine that a run of at most 4,096 entries reaches is in range
pub run_in_range : RunInRange
run_in_range s es ranged short =
    let v = run_invariant s 0 (watch_fresh ff_the s) es (fresh_plain s ranged) in
    ap in_range (sym (watched_machine ff_the (watch_fresh ff_the s) es)) ∙ invariant_ranged v ranged (omega arith)

-- ── Pending take stores ─────────────────────────────────────────────────────────────────────────────────────────────────────

-- how many of the pending stores are a take's step 1 is at most the needed margin, after every list of entries
pub run_take_stores :
    (s : Sizes) (es : List Entry) → sizes_in_range s ≡ true
    → takes_pending (machine_after (fresh s) es) ≤ needed_margin s.buffer s.spacing
run_take_stores s es ranged =
    let v = run_invariant s 0 (watch_fresh ff_the s) es (fresh_plain s ranged) in
    subst (λ m. takes_pending m ≤ needed_margin s.buffer s.spacing) (watched_machine ff_the (watch_fresh ff_the s) es)
    (subst (λ s'. takes_pending (watched ff_the (watch_fresh ff_the s) es).machine ≤ needed_margin s'.buffer s'.spacing) v.sizes_are (takes_needed v.sound.buffer))
