-- What holds of every run from the fresh machine, whichever margin is set: the machine is in range, and the pending take stores are never
-- more than the needed margin.
use mathlib.Core.Path.{◌≡◌, refl, ap, sym, ◌∙◌, subst}
use mathlib.Core.Bool.{true}
use Prim.Native.Nat.{ℕ, ◌≤◌}
use native.Mathlib.Omega.{arith}
use borrow.Author.Tests.{le-leb}
use Rattle.terms.specs.Sizes.{needed_margin, sizes_in_range}
use Rattle.terms.proofs.Laws.Lists.{all_each}
use Rattle.stores.specs.Look.{memory_in_range}
use Rattle.stores.proofs.Laws.Index.{index_ranged, slot_ranged}
use Rattle.stores.proofs.Laws.Pending.{takes_needed}
use Rattle.claim.specs.Watch.{Watch, watch_fresh, watched}
use Rattle.claim.proofs.Watched.{watched_machine}
use Rattle.cas.specs.Types.{Machine, Sizes, ThiefCall, StealLoadHead, StealLoadTail, StealLoadSlot, StealSwapHead, WorkerCall, PutLoadHead, PutStoreSlot, PutStoreTail, TakeStoreTail, TakeLoadHead, TakeLoadSlot, TakeTailToHead, TakeTailPastHead, TakeSwapHead, TakeLoadLastSlot}
use Rattle.cas.specs.Worker.{worker_in_range}
use Rattle.cas.specs.Thief.{idle_thief, thief_in_range}
use Rattle.cas.specs.Machine.{in_range, takes_pending, thief_call}
use Rattle.cas.specs.Entries.{RunInRange}
use Rattle.cas.specs.Linearizable.{TakeStoresWithinNeeded, ff_cl}
use Rattle.cas.proofs.Linearizable.Invariant.{AimOf, Sound}
use Rattle.cas.proofs.Linearizable.Theorem.{Run, run_from_fresh}

-- ── In range ────────────────────────────────────────────────────────────────────────────────────────────────────────────────

module _ {n : ℕ} {m : Machine} where
  worker_ranged : (c : WorkerCall) → Sound n m c → worker_in_range c ≡ true
  worker_ranged WorkerCall.Idle v = refl
  worker_ranged (PutLoadHead x) v = refl
  worker_ranged (PutStoreSlot x) v = refl
  worker_ranged PutStoreTail v = refl
  worker_ranged TakeStoreTail v = refl
  worker_ranged (TakeLoadHead t) v = index_ranged t v.buffer.seen v.tail.holds (omega (arith, v.tail.top))
  worker_ranged (TakeLoadSlot t) v = slot_ranged t v.buffer.seen v.tail.holds (omega (arith, v.tail.floor)) (omega (arith, v.tail.top))
  worker_ranged (TakeTailToHead h) v = index_ranged h v.head.saw v.tail.holds.0 (omega (arith, v.head.reached, v.head.top))
  worker_ranged (TakeTailPastHead t) v = index_ranged t v.head.saw v.tail.holds.0 (omega (arith, v.head.reached, v.head.top))
  worker_ranged (TakeSwapHead t) v = index_ranged t v.head.saw v.tail.holds.0 (omega (arith, v.head.reached, v.head.top))
  worker_ranged (TakeLoadLastSlot t) v = slot_ranged t v.head.saw v.tail.holds.0 (omega (arith, v.head.floor)) (omega (arith, v.head.reached, v.head.top))

thief_ranged : (start head : ℕ) (c : ThiefCall) → AimOf start head c → thief_in_range c ≡ true
thief_ranged start head ThiefCall.Idle a = refl
thief_ranged start head StealLoadHead a = refl
thief_ranged start head (StealLoadTail h) a = index_ranged h a.at a.is (omega (arith, a.top))
thief_ranged start head (StealLoadSlot h) a = slot_ranged h a.at a.is (omega (arith, a.floor)) (omega (arith, a.top))
thief_ranged start head (StealSwapHead x h) a = index_ranged h a.at a.is (omega (arith, a.top))

-- a machine of the invariant, after at most 4,096 entries, is in range
invariant_ranged : {s : Sizes} {n : ℕ} {w : Watch Machine} → Run s n w → sizes_in_range s ≡ true → n ≤ 4096 → in_range w.machine ≡ true
unfolding in_range memory_in_range
invariant_ranged {w = w} v ranged short =
    let m = w.machine in
    let u = v.sound in
    rw (
      ap sizes_in_range v.sizes_are ∙ ranged,
      le-leb m.buffer.count m.sizes.buffer u.buffer.fits,
      le-leb m.spacing.count 4096 (omega (arith, u.counted)),
      index_ranged m.head u.head.at u.head.is (omega (arith, u.head.top)),
      u.buffer.tail_ranged,
      u.buffer.ranged,
      worker_ranged m.worker.call u,
    )
    (all_each (λ t. thief_in_range t.call) m.thieves idle_thief (λ i. thief_ranged m.sizes.start u.head.at (thief_call m i) (u.aims i)))

-- every machine that a run of at most 4,096 entries reaches is in range
pub run_in_range : RunInRange
run_in_range s es ranged short =
    ap in_range (sym (watched_machine ff_cl (watch_fresh ff_cl s) es)) ∙ invariant_ranged (run_from_fresh s es ranged) ranged short

-- ── Pending take stores ─────────────────────────────────────────────────────────────────────────────────────────────────────

-- they are the dips of the chain: only step 1 of a take lowers the tail, and what puts it back raises it
pub take_stores_within_needed : TakeStoresWithinNeeded
take_stores_within_needed s es ranged =
    let v = run_from_fresh s es ranged in
    let m = (watched ff_cl (watch_fresh ff_cl s) es).machine in
    subst (λ m. takes_pending m ≤ needed_margin s.buffer s.spacing) (watched_machine ff_cl (watch_fresh ff_cl s) es)
    (subst (λ s. takes_pending m ≤ needed_margin s.buffer s.spacing) v.sizes_are (takes_needed v.sound.buffer))
