-- Each step of a put keeps the invariant, and is answered as the plain queue answers.
use mathlib.Core.Path.{◌≡◌, refl, ap, sym, ◌∙◌}
use mathlib.Core.Bool.{true, false, cond}
use mathlib.Core.List.{[], ◌∷◌}
use Prim.Native.Nat.{ℕ, ◌+◌, ◌-◌, ◌≤◌, ◌<◌}
use native.Mathlib.Omega.{arith}
use lib.Dec.{eqb, leb}
use lib.IntN.{pos, ◌-ℤ◌}
use lib.ListN.{length, length-append}
use lib.Signed.{le_z}
use borrow.Author.Tests.{eq-eqb, eqb-false, eqb-true, le-leb, leb-false, leb-true, lt-ltb, ltb-true, ne_eqb}
use Rattle.terms.proofs.Laws.Tests.{decide, known}
use Rattle.stores.specs.Index.{eq_z, next, slot_of}
use Rattle.stores.specs.Spacing.{counted_in}
use Rattle.stores.specs.StoreBuffer.{push, slot_store, store_in_range, tail_store}
use Rattle.stores.proofs.Laws.Index.{idx, idx_above, idx_eq, idx_next, idx_slot_in_range}
use Rattle.stores.proofs.Laws.Chain.{between, no_store, none, slot}
use Rattle.stores.proofs.Laws.Slots.{slot_after_apart}
use Rattle.stores.proofs.Laws.Pending.{inside_cells, pushing, seen_tail}
use Rattle.stores.proofs.Laws.Spacing.{counted_in_asked, counted_in_most}
use Rattle.claim.specs.PlainQueue.{told_put, PlainQueue}
use Rattle.claim.specs.Calls.{a_put}
use Rattle.claim.proofs.Turn.{answers_at_once, moves}
use Rattle.machine.specs.Types.{Option, Maker, StoreKind, Some, APut, Slot, Tail, Machine, Moved, Wait, Stored, Full, End, ThiefCall, WorkerCall, PutLoadHead, PutStoreSlot, PutStoreTail}
use Rattle.machine.specs.Machine.{done, has_room, worker_load, worker_tail}
use Rattle.machine.specs.Update.{pushed, with_store, with_worker}
use Rattle.machine.specs.Worker.{at_end, is_full}
use Rattle.machine.specs.Perform.{worker_view, step_of_worker}
use Rattle.machine.specs.Entries.{worker_goes_on}
use Rattle.machine.proofs.Laws.Loads.{pushed_worker_load, pushed_worker_tail}
use Rattle.machine.proofs.Linearizable.Invariant.{Environment, AgreesOn, Sound, head_at, raised_stolen, stolen}
use Rattle.claim.proofs.Laws.Tasks.{replies_end, replies_full, replies_stored, shows_joined}
use Rattle.machine.proofs.Linearizable.Turn.{MoveTurn, StepTurn, after_worker}
use Rattle.machine.proofs.Linearizable.Rebuild.{agrees_call, pushed_shows, pushed_unwritten, pushes, rebuilt, recalled, recalls, stayed, tail_raising, tail_shows, tail_unwritten}

module _ {g : Environment} {n : ℕ} {m : Machine} {p : ThiefCall} (q : PlainQueue) where
  -- ── Step 1 ──────────────────────────────────────────────────────────────────────────────────────────────────────────────────

  module _ (x : ℕ) (v : Sound g n m (PutLoadHead x) p) where
    -- its tests, as natural numbers

    at_end_is : at_end (worker_view m WorkerCall.Idle) ≡ eqb v.buffer.seen 2147483648
    at_end_is = ap (λ i. eq_z i.at (pos 2147483647)) (seen_tail v.buffer) ∙ idx_eq v.buffer.seen 2147483648

    is_full_is : is_full (worker_view m WorkerCall.Idle) ≡ leb (m.sizes.slots - 1 + head_at v.head) v.buffer.seen
    is_full_is =
        (λ i. le_z (pos (m.sizes.slots - 1)) ((seen_tail v.buffer i).at -ℤ (v.head.head_is_lem i).at))
        ∙ idx_above (m.sizes.slots - 1) v.buffer.seen (head_at v.head) (omega (arith, v.head.floor))

    abbrev idle : Sound g (n + 1) (after_worker m m.lock m.buffer m.spacing WorkerCall.Idle) WorkerCall.Idle p
    idle = recalled v m.lock WorkerCall.Idle (record { holds_tail = tt; floor = v.tail.floor; top = v.tail.top }) v.spaced v.lock

    -- the sum is the largest
    ended : at_end (worker_view m WorkerCall.Idle) ≡ true → StepTurn v q (done End (with_worker WorkerCall.Idle m))
    ended at-end =
        let last = eqb-true v.buffer.seen 2147483648 (known at_end_is at-end) in
        recalls v End (told_put x false ∷ []) m.lock WorkerCall.Idle refl (λ i. refl) idle
        (λ a.
        answers_at_once (replies_end q x false (omega (arith, a.sum))) (rw (eq-eqb q.sum 2147483647 (omega (arith, a.sum)))) refl refl
        (agrees_call refl a.room a))

    -- all slots but one are filled, for head is no lower than the oldest task
    full : at_end (worker_view m WorkerCall.Idle) ≡ false → is_full (worker_view m WorkerCall.Idle) ≡ true → StepTurn v q (done Full (with_worker WorkerCall.Idle m))
    full not-ended no_room =
        let not_last = eqb-false v.buffer.seen 2147483648 (known at_end_is not-ended) in
        let close = leb-true (m.sizes.slots - 1 + head_at v.head) v.buffer.seen (known is_full_is no_room) in
        recalls v Full (told_put x true ∷ []) m.lock WorkerCall.Idle refl (λ i. refl) idle
        (λ a.
        answers_at_once (replies_full q x (λ e. not_last (omega (arith, a.sum)))) (le-leb (m.sizes.slots - 1) (length q.tasks) (omega (arith, a.count))) refl refl
        (agrees_call refl a.room a))

    -- the slot of the tail is free, for head is at most one above lo
    passed : at_end (worker_view m WorkerCall.Idle) ≡ false → is_full (worker_view m WorkerCall.Idle) ≡ false → StepTurn v q (worker_goes_on (PutStoreSlot x) m)
    passed not-ended some-room =
        let not_last = eqb-false v.buffer.seen 2147483648 (known at_end_is not-ended) in
        let far = leb-false (m.sizes.slots - 1 + head_at v.head) v.buffer.seen (known is_full_is some-room) in
        let room : v.buffer.seen + 0 + 1 ≤ v.head.lo + m.sizes.slots = omega (arith, raised_stolen p) in
        recalls v Moved [] m.lock (PutStoreSlot x) refl (λ i. refl)
        (recalled v m.lock (PutStoreSlot x) (record { holds_tail = tt; floor = v.tail.floor; top = omega (arith, v.tail.top) }) v.spaced v.lock)
        (λ a. moves refl refl (agrees_call refl room a))

    pub put_load_head_lem : StepTurn v q (step_of_worker m (PutLoadHead x))
    put_load_head_lem = decide (MoveTurn v q) (at_end (worker_view m WorkerCall.Idle)) ended (λ not-ended. decide (MoveTurn v q) (is_full (worker_view m WorkerCall.Idle)) (full not-ended) (passed not-ended))

  -- ── Step 2 ──────────────────────────────────────────────────────────────────────────────────────────────────────────────────

  module _ (x : ℕ) (v : Sound g n m (PutStoreSlot x) p) (at : m.worker.call ≡ PutStoreSlot x) where
    abbrev slot_made : Option (Maker × StoreKind)
    slot_made = Some (APut, Slot x (worker_tail m))

    -- no task lies in the slot that is written, nor one that a thief is about to load
    stores_slot : has_room m ≡ true → StepTurn v q (worker_goes_on PutStoreTail (with_store slot_made m))
    stores_slot some-room =
        let room = ltb-true m.buffer.count m.sizes.buffer some-room in
        let cells = inside_cells v.buffer v.sizes room in
        let seen = v.buffer.seen in
        let lo = v.head.lo in
        let a = slot_store (idx seen) x in
        let bound = v.buffer.bound + (seen + 1 - v.buffer.bound) in
        let low : seen < bound = omega arith in
        let ranged : store_in_range a.kind ≡ true =
        rw (idx_slot_in_range seen, le-leb 1 seen (omega arith), le-leb seen 2147483649 (omega arith))
        in
        let sound =
        rebuilt v m.lock (push a m.buffer) (counted_in slot_made m.spacing) PutStoreTail
        (pushing v.buffer v.sizes room a bound 0 (v.buffer.owed - 1) seen (omega arith) ranged (λ c few. slot x low (none (omega arith))))
        (record { holds_tail = tt; floor = v.tail.floor; top = v.tail.top })
        (counted_in_asked slot_made m.spacing m.sizes.spacing v.buffer.owed v.spaced)
        (counted_in_most slot_made m.spacing n v.counted)
        v.lock
        in
        let m' = after_worker m m.lock (push a m.buffer) (counted_in slot_made m.spacing) PutStoreTail in
        let tail : worker_tail m' ≡ idx seen = pushed_worker_tail a m cells ∙ seen_tail v.buffer in
        let filled : worker_load m' (idx seen) ≡ x =
        pushed_worker_load a m (idx seen) cells
        ∙ ap (λ b. cond b x (worker_load m (idx seen))) (eq-eqb (slot_of m.sizes.slots (idx seen)) (slot_of m.sizes.slots (idx seen)) refl)
        in
        pushes v Moved [] a (counted_in slot_made m.spacing) PutStoreTail
        (ap (λ i. done Moved (after_worker m m.lock (push (slot_store i x) m.buffer) (counted_in slot_made m.spacing) PutStoreTail)) (sym (seen_tail v.buffer)))
        refl
        sound
        (λ g.
        moves {A = AgreesOn sound} (ap a_put (ap (worker_load m') tail ∙ filled)) refl
        (record {
          count = g.count;
          sum = g.sum;
          room = g.room;
          below = omega (arith, g.below, g.room);
          shows =
              pushed_shows v room a q.tasks (lo + stolen p)
              (λ k h.
              slot_after_apart m.sizes.slots lo seen (lo + stolen p + k) x _ (omega arith) (omega (arith, g.count)) (omega (arith, g.room))
              (omega arith) (omega (arith, g.count, g.room)) (λ same. omega (arith, g.count)))
              g.shows;
          unwritten = pushed_unwritten v room a bound (omega arith) (λ has. between seen x (omega (arith, g.count)) low no_store) g.unwritten;
        }))

    pub put_store_slot_lem : StepTurn v q (step_of_worker m (PutStoreSlot x))
    put_store_slot_lem = decide (MoveTurn v q) (has_room m) stores_slot (λ e. stayed v Wait at refl refl)

  -- ── Step 3 ──────────────────────────────────────────────────────────────────────────────────────────────────────────────────

  module _ (v : Sound g n m PutStoreTail p) (at : m.worker.call ≡ PutStoreTail) where
    abbrev tail_made : Option (Maker × StoreKind)
    tail_made = Some (APut, Tail (next (worker_tail m)))

    -- the task in the slot of the tail joins those that stand
    stores_tail : has_room m ≡ true → StepTurn v q (done Stored (with_worker WorkerCall.Idle (with_store tail_made m)))
    stores_tail some-room =
        let room = ltb-true m.buffer.count m.sizes.buffer some-room in
        let cells = inside_cells v.buffer v.sizes room in
        let seen = v.buffer.seen in
        let lo = v.head.lo in
        let a = tail_store (idx (seen + 1)) in
        let x = worker_load m (worker_tail m) in
        let sound =
        rebuilt v m.lock (push a m.buffer) (counted_in tail_made m.spacing) WorkerCall.Idle
        (tail_raising v room (seen + 1) (omega arith) (omega arith))
        (record { holds_tail = tt; floor = omega arith; top = omega arith })
        (counted_in_asked tail_made m.spacing m.sizes.spacing v.buffer.owed v.spaced)
        (counted_in_most tail_made m.spacing n v.counted)
        v.lock
        in
        pushes v Stored (told_put x false ∷ []) a (counted_in tail_made m.spacing) WorkerCall.Idle
        (ap (λ i. done Stored (after_worker m m.lock (push (tail_store i) m.buffer) (counted_in tail_made m.spacing) WorkerCall.Idle))
        (sym (ap next (seen_tail v.buffer) ∙ idx_next seen)))
        refl
        sound
        (λ g.
        let below_end : q.sum ≡ 2147483647 → ⊥ = λ e. omega (arith, g.sum) in
        let end : seen ≡ lo + stolen p + length q.tasks = omega (arith, g.count) in
        answers_at_once (replies_stored q x below_end)
        (rw (ne_eqb q.sum 2147483647 below_end) (lt-ltb (length q.tasks) m.sizes.slots (omega (arith, g.count, g.room)))) refl refl
        (record {
          count = simp length-append (omega (arith, g.count));
          sum = omega (arith, g.sum);
          room = omega (arith, g.room);
          below = g.below;
          shows =
              shows_joined (λ k. worker_load (pushed a m) (idx k)) (lo + stolen p) q.tasks
              (tail_shows v room (seen + 1) q g)
              (record { put = q.stored; number = x })
              (ap (worker_load m) (seen_tail v.buffer ∙ ap idx end) ∙ sym (pushed_worker_load a m (idx (lo + stolen p + length q.tasks)) cells));
          unwritten = tail_unwritten v room (seen + 1) q g;
        }))

    pub put_store_tail_lem : StepTurn v q (step_of_worker m PutStoreTail)
    put_store_tail_lem = decide (MoveTurn v q) (has_room m) stores_tail (λ e. stayed v Wait at refl refl)
