-- Where the machine is in range and the thief there, each party's entry is what its move comes to.
use Rattle.std.proofs.Common.{◌≡◌, ◌∙◌, ◌<◌, ◌≤◌, true, length, refl, ap, sym, arith}
use Rattle.terms.proofs.Laws.Kinds.{thiefs_entry, workers_entry}
use Rattle.terms.proofs.Laws.Tests.{known}
use Rattle.stores.specs.StoreBuffer.{drop_oldest, oldest, pushed_or_same, slots_after, tail_after}
use Rattle.stores.specs.Look.{hidden_after_drain, hidden_after_store}
use Rattle.stores.specs.Spacing.{spacing_after}
use Rattle.stores.proofs.Laws.Look.{newest_tail_in_range_lem, pending_within}
use Rattle.stores.proofs.Laws.StoreBuffer.{drop_oldest_some, nothing_made, other_store_leaves, slot_store_leaves}
use Rattle.machine.specs.Types.{Machine, Moved, None, Wait}
use Rattle.machine.specs.InRange.{in_range}
use Rattle.machine.specs.Machine.{handing, look}
use Rattle.machine.specs.Worker.{WorkerViewInRange, worker_in_range}
use Rattle.machine.specs.Update.{with_buffer, with_lock, with_memory, with_spacing, with_worker}
use Rattle.machine.specs.Perform.{worker_view}
use Rattle.machine.proofs.Laws.InRange.{bounds}
use Rattle.machine.proofs.Laws.Hidden.{told}
use Rattle.machine.proofs.Laws.Performed.{drain_performed, obey_tested, passed, thief_performed, thief_refused, worker_performed, worker_refused}
use Rattle.machine.proofs.obey.MachineOperations.obey.Goals as goal

pub returns-then-not-seen-thief : goal.returns-then-not-seen-thief
returns-then-not-seen-thief c =
    let m = c.args.self in
    told m m Wait c.look-seen.ensures refl c.refused.ensures ∙ sym (obey_tested m c.args.entry c.look-seen.ensures c.thief-thief.ensures c.if-not-seen-thief.true)

-- ── The drain ───────────────────────────────────────────────────────────────────────────────────────────────────────────────

pub returns-in-Slot : goal.returns-in-Slot
returns-in-Slot c =
    let m = c.args.self in
    let p = passed m c.args.entry c.look-seen.ensures c.thief-thief.ensures c.if-not-seen-thief.false in
    let some : 0 < m.buffer.count = omega arith in
    let few = pending_within (bounds m p.there.ready).memory in
    let within : m.buffer.count ≤ length m.buffer.stores = omega arith in
    let k = (oldest m.buffer).kind in
    let dropped = c.drop_oldest-dropped in
    let same = slot_store_leaves m.tail dropped.result.oldest.kind c.in-Slot.is ∙ ap (λ d. tail_after m.tail d.oldest.kind) dropped.ensures in
    simp (c.drained_to_slot.ensures, c.after_drain-hidden.ensures, dropped.ensures, drop_oldest_some m.buffer some few, c.look-seen.ensures)
    ((λ i. handing Moved (hidden_after_drain m.tail k (look m)) (with_memory (slots_after m.sizes.slots m.slots k) (same i) (drop_oldest m.buffer) m))
    ∙ drain_performed m c.args.entry p c.in-Drain.is some within)

pub returns-in-Drain : goal.returns-in-Drain
returns-in-Drain c =
    let m = c.args.self in
    let p = passed m c.args.entry c.look-seen.ensures c.thief-thief.ensures c.if-not-seen-thief.false in
    let some : 0 < m.buffer.count = omega arith in
    let few = pending_within (bounds m p.there.ready).memory in
    let within : m.buffer.count ≤ length m.buffer.stores = omega arith in
    let k = (oldest m.buffer).kind in
    let dropped = c.drop_oldest-dropped in
    let same = other_store_leaves m.sizes.slots m.slots dropped.result.oldest.kind c.in_default.not-Slot ∙ ap (λ d. slots_after m.sizes.slots m.slots d.oldest.kind) dropped.ensures in
    simp (c.drained_to_tail.ensures, c.tail_after.ensures, c.after_drain-hidden.ensures, dropped.ensures, drop_oldest_some m.buffer some few, c.look-seen.ensures)
    ((λ i. handing Moved (hidden_after_drain m.tail k (look m)) (with_memory (same i) (tail_after m.tail k) (drop_oldest m.buffer) m))
    ∙ drain_performed m c.args.entry p c.in-Drain.is some within)

-- ── The worker ──────────────────────────────────────────────────────────────────────────────────────────────────────────────

-- what the worker sees of a machine in range is in range
view_in_range : (m : Machine) → in_range m ≡ true → WorkerViewInRange (worker_view m m.worker.call)
view_in_range m ready =
    let b = bounds m ready in
    record { slots = b.memory.sizes.slots_some; tail = newest_tail_in_range_lem b.memory; head = b.memory.head; call = b.worker }

pub worker_entry-step-requires : goal.worker_entry-step-requires
worker_entry-step-requires c =
    let p = passed c.args.self c.args.entry c.look-seen.ensures c.thief-thief.ensures c.if-not-seen-thief.false in
    simp c.worker_view-view.ensures (view_in_range c.args.self p.there.ready)

pub returns-then-is_refusal : goal.returns-then-is_refusal
returns-then-is_refusal c =
    let m = c.args.self in
    let p = passed m c.args.entry c.look-seen.ensures c.thief-thief.ensures c.if-not-seen-thief.false in
    told m m c.worker_entry-step.result.outcome c.look-seen.ensures refl c.refused-then-is_refusal.ensures
    ∙ worker_refused m c.args.entry p (workers_entry c.in-ClientStore.is) c.too_early.ensures c.worker_view-view.ensures c.worker_entry-step.ensures c.is_refusal.ensures c.if-is_refusal.true

pub returns-then-is_some : goal.returns-then-is_some
returns-then-is_some c =
    let m = c.args.self in
    let p = passed m c.args.entry c.look-seen.ensures c.thief-thief.ensures c.if-not-seen-thief.false in
    simp (c.worker_moved_storing.ensures, c.after_store-hidden.ensures, c.in_range.ensures, c.after-counted.ensures, c.look-seen.ensures)
    (worker_performed m c.args.entry p (workers_entry c.in-ClientStore.is) c.too_early.ensures c.worker_view-view.ensures c.worker_entry-step.ensures c.is_refusal.ensures c.if-is_refusal.false (omega arith))

pub returns-in-ClientStore : goal.returns-in-ClientStore
returns-in-ClientStore c =
    let m = c.args.self in
    let e = c.args.entry in
    let p = passed m e c.look-seen.ensures c.thief-thief.ensures c.if-not-seen-thief.false in
    let d = c.worker_entry-step.result in
    let spaced = spacing_after e d.push m.spacing in
    let none : None ≡ d.push = nothing_made d.push (known c.is_some.ensures c.if-is_some.false) in
    simp (c.worker_moved.ensures, c.after_store-hidden.ensures, c.in_range.ensures, c.after-counted.ensures, c.look-seen.ensures)
    ((λ i. handing d.outcome (hidden_after_store d.push spaced (worker_in_range d.call) (look m)) (with_worker d.call (with_lock d.lock.holder (with_spacing spaced (with_buffer (pushed_or_same (none i) m.buffer) m)))))
    ∙ worker_performed m e p (workers_entry c.in-ClientStore.is) c.too_early.ensures c.worker_view-view.ensures c.worker_entry-step.ensures c.is_refusal.ensures c.if-is_refusal.false (omega arith))

-- ── A thief ─────────────────────────────────────────────────────────────────────────────────────────────────────────────────

pub bounds-thieves-thief : goal.bounds-thieves-thief
bounds-thieves-thief c =
    let p = passed c.args.self c.args.entry c.look-seen.ensures c.thief-thief.ensures c.if-not-seen-thief.false in
    simp c.thief-thief.ensures p.there.below

pub thief_entry-step-requires : goal.thief_entry-step-requires
thief_entry-step-requires c =
    let m = c.args.self in
    let p = passed m c.args.entry c.look-seen.ensures c.thief-thief.ensures c.if-not-seen-thief.false in
    simp (c.thief_view-view.ensures, c.thief-thief.ensures) (record { tail = (bounds m p.there.ready).memory.tail; call = p.there.call })

pub returns-then-is_refusal-2 : goal.returns-then-is_refusal-2
returns-then-is_refusal-2 c =
    let m = c.args.self in
    let p = passed m c.args.entry c.look-seen.ensures c.thief-thief.ensures c.if-not-seen-thief.false in
    told m m c.thief_entry-step.result.outcome c.look-seen.ensures refl c.refused-then-is_refusal-2.ensures
    ∙ thief_refused m c.args.entry p (thiefs_entry c.in-BeginSteal.is) c.thief-thief.ensures c.thief_view-view.ensures c.thief_entry-step.ensures c.is_refusal-in-BeginSteal.ensures c.if-is_refusal-2.true

pub thief_moved-requires : goal.thief_moved-requires
thief_moved-requires c =
    let p = passed c.args.self c.args.entry c.look-seen.ensures c.thief-thief.ensures c.if-not-seen-thief.false in
    simp c.thief-thief.ensures p.there.below

pub returns-in-BeginSteal : goal.returns-in-BeginSteal
returns-in-BeginSteal c =
    let m = c.args.self in
    let p = passed m c.args.entry c.look-seen.ensures c.thief-thief.ensures c.if-not-seen-thief.false in
    let below = p.there.below in
    simp (c.thief_moved.ensures, c.after_head-hidden.ensures, c.in_range-in-BeginSteal.ensures, c.thief-thief.ensures, c.look-seen.ensures)
    (thief_performed m c.args.entry p (thiefs_entry c.in-BeginSteal.is) c.thief-thief.ensures c.thief_view-view.ensures c.thief_entry-step.ensures c.is_refusal-in-BeginSteal.ensures c.if-is_refusal-2.false (omega arith))
