-- Each step of a put keeps the invariant, and is answered as the plain queue answers.
use mathlib.Core.Path.{◌≡◌, refl, ap, sym, ◌∙◌, subst}
use mathlib.Core.Bool.{true, false, cond}
use mathlib.Core.List.{[], ◌∷◌, ◌++◌}
use Prim.Native.Nat.{ℕ, ◌+◌, ◌-◌, ◌≤◌, ◌<◌}
use native.Mathlib.Nat.{le_refl}
use native.Mathlib.Omega.{arith}
use lib.Dec.{eqb, leb}
use lib.IntN.{pos, ◌-ℤ◌}
use lib.ListN.{get_or-append, length, length-append}
use lib.Signed.{le_z}
use borrow.Author.Tests.{eq-eqb, eqb-false, eqb-true, le-leb, leb-false, leb-true, lt-ltb, ltb-true, ne_eqb}
use Rattle.terms.proofs.Laws.Tests.{decide, known}
use Rattle.stores.specs.Index.{eq_z, next, slot_of}
use Rattle.stores.specs.Spacing.{counted_in}
use Rattle.stores.specs.StoreBuffer.{pending, push, slot_store, store_in_range, tail_store}
use Rattle.stores.proofs.Laws.Index.{idx, idx_above, idx_eq, idx_next, idx_slot_in_range}
use Rattle.stores.proofs.Laws.Chain.{between, no_store, none, past_tail, slot}
use Rattle.stores.proofs.Laws.Slots.{slot_after_apart}
use Rattle.stores.proofs.Laws.Pending.{inside_cells, pushing, raising, seen_tail}
use Rattle.stores.proofs.Laws.Spacing.{counted_in_asked, counted_in_most}
use Rattle.claim.specs.PlainQueue.{told_put, PlainQueue, StoredTask}
use Rattle.claim.specs.Calls.{a_put}
use Rattle.claim.proofs.Laws.Tasks.{replies_end, replies_full, replies_stored, shows_joined}
use Rattle.claim.proofs.Turn.{answers_at_once, moves}
use Rattle.cas.specs.Types.{Option, Some, Maker, StoreKind, APut, Slot, Tail, Machine, Moved, Wait, Stored, Full, End, WorkerCall, PutLoadHead, PutStoreSlot, PutStoreTail}
use Rattle.cas.specs.Worker.{answers, at_end, goes_on, is_full}
use Rattle.cas.specs.Machine.{has_room, memory_load, thief_call, worker_load, worker_tail}
use Rattle.cas.specs.Entries.{step_of_worker, worker_view}
use Rattle.cas.proofs.Laws.Loads.{pushed_worker_load, pushed_worker_tail}
use Rattle.cas.proofs.Linearizable.Invariant.{AgreesOn, Sound}
use Rattle.cas.proofs.Linearizable.Rebuild.{after_worker, agrees_call, pushed_agrees, pushed_shows, pushed_sure, rebuilt, recalled, sure_tasks}
use Rattle.cas.proofs.Linearizable.Turn.{MoveTurn, StepTurn, alone, making, stayed}

module _ {n : ℕ} {m : Machine} (q : PlainQueue) where
  -- ── Step 1 ──────────────────────────────────────────────────────────────────────────────────────────────────────────────────

  module _ (x : ℕ) (v : Sound n m (PutLoadHead x)) where
    -- its tests, as natural numbers

    at_end_is : at_end (worker_view m (PutLoadHead x)) ≡ eqb v.buffer.seen 2147483648
    at_end_is = ap (λ i. eq_z i.at (pos 2147483647)) (seen_tail v.buffer) ∙ idx_eq v.buffer.seen 2147483648

    is_full_is : is_full (worker_view m (PutLoadHead x)) ≡ leb (m.sizes.slots + v.head.at) v.buffer.seen
    is_full_is =
        (λ i. le_z (pos m.sizes.slots) ((seen_tail v.buffer i).at -ℤ (v.head.is i).at))
        ∙ idx_above m.sizes.slots v.buffer.seen v.head.at (omega (arith, v.head.floor, v.head.reached))

    abbrev idle : Sound (n + 1) (after_worker m m.head m.buffer m.spacing WorkerCall.Idle) WorkerCall.Idle
    idle = recalled v WorkerCall.Idle (record { holds = tt; floor = v.tail.floor; top = v.tail.top }) v.spaced

    -- the sum is the largest
    ended : at_end (worker_view m (PutLoadHead x)) ≡ true → MoveTurn v q (answers End (worker_view m (PutLoadHead x)))
    ended at-end =
        let last = eqb-true v.buffer.seen 2147483648 (known at_end_is at-end) in
        alone v refl
        (told_put x false ∷ [])
        refl
        idle
        (λ g.
        answers_at_once (replies_end q x false (omega (arith, g.sum))) (rw (eq-eqb q.sum 2147483647 (omega (arith, g.sum)))) refl refl
        (agrees_call refl g.room g))

    -- all slots are filled
    full : at_end (worker_view m (PutLoadHead x)) ≡ false → is_full (worker_view m (PutLoadHead x)) ≡ true → MoveTurn v q (answers Full (worker_view m (PutLoadHead x)))
    full not-ended no_room =
        let not_last = eqb-false v.buffer.seen 2147483648 (known at_end_is not-ended) in
        let close = leb-true (m.sizes.slots + v.head.at) v.buffer.seen (known is_full_is no_room) in
        alone v refl
        (told_put x true ∷ [])
        refl
        idle
        (λ g.
        answers_at_once (replies_full q x (λ e. not_last (omega (arith, g.sum)))) (le-leb m.sizes.slots (length q.tasks) (omega (arith, g.count))) refl refl
        (agrees_call refl g.room g))

    -- the slot of the tail is free, and stays so, for head never goes back
    passed : at_end (worker_view m (PutLoadHead x)) ≡ false → is_full (worker_view m (PutLoadHead x)) ≡ false → MoveTurn v q (goes_on (PutStoreSlot x) (worker_view m (PutLoadHead x)))
    passed not-ended some-room =
        let not_last = eqb-false v.buffer.seen 2147483648 (known at_end_is not-ended) in
        let far = leb-false (m.sizes.slots + v.head.at) v.buffer.seen (known is_full_is some-room) in
        alone v refl
        []
        refl
        (recalled v (PutStoreSlot x) (record { holds = tt; floor = v.tail.floor; top = omega (arith, v.tail.top) }) v.spaced)
        (λ g. moves refl refl (agrees_call refl (omega arith) g))

    pub put_load_head_lem : StepTurn v q (step_of_worker m (PutLoadHead x))
    put_load_head_lem =
        decide (MoveTurn v q) (at_end (worker_view m (PutLoadHead x))) ended
        (λ not-ended. decide (MoveTurn v q) (is_full (worker_view m (PutLoadHead x))) (full not-ended) (passed not-ended))

  -- ── Step 2 ──────────────────────────────────────────────────────────────────────────────────────────────────────────────────

  module _ (x : ℕ) (v : Sound n m (PutStoreSlot x)) where
    -- no task lies in the slot that is written
    stores_slot : has_room m ≡ true → MoveTurn v q (making (Some (APut, Slot x (worker_tail m))) Moved PutStoreTail m)
    stores_slot some-room =
        let room = ltb-true m.buffer.count m.sizes.buffer some-room in
        let seen = v.buffer.seen in
        let head = v.head.at in
        let made : Option (Maker × StoreKind) = Some (APut, Slot x (idx seen)) in
        let a = slot_store (idx seen) x in
        let bound = v.buffer.bound + (seen + 1 - v.buffer.bound) in
        let low : seen < bound = omega arith in
        let floor : 1 ≤ head = omega (arith, v.head.floor, v.head.reached) in
        let ranged : store_in_range a.kind ≡ true =
        rw (idx_slot_in_range seen, le-leb 1 seen (omega (arith, v.tail.floor)), le-leb seen 2147483649 (omega (arith, v.tail.top))) in
        let m' = after_worker m m.head (push a m.buffer) (counted_in made m.spacing) PutStoreTail in
        let tail : worker_tail m' ≡ idx seen = pushed_worker_tail a m (inside_cells v.buffer v.sizes room) ∙ seen_tail v.buffer in
        let filled : worker_load m' (idx seen) ≡ x =
        pushed_worker_load a m (inside_cells v.buffer v.sizes room) (idx seen)
        ∙ ap (λ b. cond b x (worker_load m (idx seen))) (eq-eqb (slot_of m.sizes.slots (idx seen)) (slot_of m.sizes.slots (idx seen)) refl) in
        let sound =
        rebuilt v (push a m.buffer) (counted_in made m.spacing) PutStoreTail
        (pushing v.buffer v.sizes room a bound 0 (v.buffer.owed - 1) seen (omega arith) ranged (λ c few. slot x low (none (omega arith))))
        (record { holds = tt; floor = v.tail.floor; top = v.tail.top })
        (counted_in_asked made m.spacing m.sizes.spacing v.buffer.owed v.spaced)
        (counted_in_most made m.spacing n v.counted) in
        subst (λ i. MoveTurn v q (making (Some (APut, Slot x i)) Moved PutStoreTail m)) (sym (seen_tail v.buffer))
        (alone v refl
        []
        refl
        sound
        (λ g.
        let long : head + length q.tasks ≡ seen = omega (arith, g.count) in
        let fits : seen + 1 ≤ head + m.sizes.slots = omega (arith, g.room) in
        moves {A = AgreesOn sound} (ap a_put (ap (worker_load m') tail ∙ filled)) refl
        (pushed_agrees v room a q seen bound refl g.room (omega arith) (omega (arith, g.below))
        (λ k h. slot_after_apart m.sizes.slots head seen (head + k) x _ floor (omega arith) (omega arith) (omega arith) (omega arith) (λ same. omega arith))
        (λ some. between seen x (omega arith) low no_store) g)))

    pub put_store_slot_lem : StepTurn v q (step_of_worker m (PutStoreSlot x))
    put_store_slot_lem = decide (MoveTurn v q) (has_room m) stores_slot (λ e. stayed v Wait refl refl)

  -- ── Step 3 ──────────────────────────────────────────────────────────────────────────────────────────────────────────────────

  module _ (v : Sound n m PutStoreTail) where
    -- the task in the slot of the tail joins those that stand
    stores_tail : has_room m ≡ true → MoveTurn v q (making (Some (APut, Tail (next (worker_tail m)))) Stored WorkerCall.Idle m)
    stores_tail some-room =
        let room = ltb-true m.buffer.count m.sizes.buffer some-room in
        let seen = v.buffer.seen in
        let head = v.head.at in
        let made : Option (Maker × StoreKind) = Some (APut, Tail (idx (seen + 1))) in
        let a = tail_store (idx (seen + 1)) in
        let x = worker_load m (worker_tail m) in
        let t : StoredTask = record { put = q.stored; number = x } in
        subst (λ i. MoveTurn v q (making (Some (APut, Tail i)) Stored WorkerCall.Idle m)) (sym (ap next (seen_tail v.buffer) ∙ idx_next seen))
        (alone v refl
        (told_put x false ∷ [])
        refl
        (rebuilt v (push a m.buffer) (counted_in made m.spacing) WorkerCall.Idle
        (raising v.buffer v.sizes room (seen + 1) (omega arith) (omega (arith, v.tail.top)))
        (record { holds = tt; floor = omega (arith, v.tail.floor); top = omega (arith, v.tail.top) })
        (counted_in_asked made m.spacing m.sizes.spacing v.buffer.owed v.spaced)
        (counted_in_most made m.spacing n v.counted))
        (λ g.
        let below_end : q.sum ≡ 2147483647 → ⊥ = λ e. omega (arith, g.sum, v.tail.top) in
        let end : seen ≡ head + length q.tasks = omega (arith, g.count) in
        answers_at_once (replies_stored q x below_end)
        (rw (ne_eqb q.sum 2147483647 below_end) (lt-ltb (length q.tasks) m.sizes.slots (omega (arith, g.count, g.room)))) refl refl
        (record {
          enough = g.enough;
          count = simp length-append (omega (arith, g.count));
          sum = omega (arith, g.sum);
          room = omega (arith, g.room);
          below = g.below;
          shows =
              pushed_shows v room a (counted_in made m.spacing) WorkerCall.Idle (q.tasks ++ (t ∷ [])) (λ k h. refl)
              (shows_joined (λ k. worker_load m (idx k)) head q.tasks g.shows t (ap (worker_load m) (seen_tail v.buffer ∙ ap idx end)));
          sure = λ i.
              sure_tasks m.head head v.buffer.bound (memory_load m (idx head)) (pending (push a m.buffer)) q.tasks (q.tasks ++ (t ∷ [])) (thief_call m i)
              (λ some. (simp length-append (omega arith), sym (get_or-append q.tasks (t ∷ []) (record { put = 0; number = 0 }) 0 some)))
              (pushed_sure v room a q v.buffer.bound (le_refl v.buffer.bound) (λ some. past_tail no_store) g i);
        })))

    pub put_store_tail_lem : StepTurn v q (step_of_worker m PutStoreTail)
    put_store_tail_lem = decide (MoveTurn v q) (has_room m) stores_tail (λ e. stayed v Wait refl refl)
