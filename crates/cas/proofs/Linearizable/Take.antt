-- Each step of a take keeps the invariant, and is answered as the plain queue answers.
use mathlib.Core.Path.{◌≡◌, refl, ap, sym, ◌∙◌, subst}
use mathlib.Core.Bool.{Bool, true, false, not}
use mathlib.Core.List.{[], ◌∷◌}
use Prim.Native.Nat.{ℕ, ◌+◌, ◌-◌, ◌≤◌, ◌<◌}
use native.Mathlib.Nat.{le_refl}
use native.Mathlib.Omega.{arith}
use lib.Dec.{eqb, ltb}
use lib.ListN.{length, length-take}
use lib.Seq.{get_or-take}
use lib.Signed.{lt_z}
use borrow.Author.Tests.{eqb-false, eqb-true, ltb-false, ltb-true, ne_eqb}
use Rattle.terms.proofs.Laws.Tests.{decide, known}
use Rattle.stores.specs.Index.{eq_z, next, previous}
use Rattle.stores.specs.StoreBuffer.{pending, push, tail_store}
use Rattle.stores.proofs.Laws.Index.{idx, idx_eq, idx_lt, idx_next, idx_previous}
use Rattle.stores.proofs.Laws.Pending.{lowering, raising, seen_tail, storing_tail}
use Rattle.claim.specs.PlainQueue.{told_take, PlainQueue}
use Rattle.claim.specs.Calls.{a_take, only_where, told_of}
use Rattle.claim.proofs.Laws.Tasks.{after_take, replies_empty, replies_taken, shows_taken, task_at}
use Rattle.claim.proofs.Turn.{answers_at_once, ends, moves, takes_effect}
use Rattle.cas.specs.Types.{Index, Machine, Moved, Wait, Task, Empty, None, Some, ATake, Tail, WorkerCall, TakeStoreTail, TakeLoadHead, TakeLoadSlot, TakeTailToHead, TakeTailPastHead, TakeSwapHead, TakeLoadLastSlot}
use Rattle.cas.specs.Worker.{answers, goes_on, is_above_head, is_head}
use Rattle.cas.specs.Machine.{has_room, memory_load, nothing_pending, thief_call, worker_load, worker_tail}
use Rattle.cas.specs.Entries.{step_of_worker, worker_view}
use Rattle.cas.proofs.Linearizable.Invariant.{AgreesOn, Sound}
use Rattle.cas.proofs.Linearizable.Rebuild.{after_worker, agrees_call, aim_of_raised, rebuilt, recalled, sure_raised, sure_tasks, tail_agrees}
use Rattle.cas.proofs.Linearizable.Turn.{MoveTurn, StepTurn, alone, answers_owed, making, stayed}

-- a take that comes to its swap is told to the plain queue as one of a swap, won or lost
abbrev by_swap : Bool
by_swap = true

module _ {n : ℕ} {m : Machine} (q : PlainQueue) where
  -- ── Step 1 ──────────────────────────────────────────────────────────────────────────────────────────────────────────────────

  module _ (v : Sound n m TakeStoreTail) where
    -- the store is a dip of the chain, since no store is due
    lowers : has_room m ≡ true → MoveTurn v q (making (Some (ATake, Tail (previous (worker_tail m)))) Moved (TakeLoadHead (previous (worker_tail m))) m)
    lowers some-room =
        let room = ltb-true m.buffer.count m.sizes.buffer some-room in
        let seen = v.buffer.seen in
        let positive : 1 ≤ seen = omega (arith, v.tail.floor) in
        let sound =
        rebuilt v (push (tail_store (idx (seen - 1))) m.buffer) m.spacing (TakeLoadHead (idx (seen - 1)))
        (storing_tail v.buffer v.sizes room (seen - 1) 1 m.sizes.spacing (omega (arith, v.tail.top)) (lowering v.buffer positive v.spaced.0))
        (record { holds = refl; floor = omega (arith, v.tail.floor); top = omega (arith, v.tail.top) })
        (omega (arith, v.spaced.1))
        (omega (arith, v.counted)) in
        subst (λ i. MoveTurn v q (making (Some (ATake, Tail i)) Moved (TakeLoadHead i) m)) (sym (ap previous (seen_tail v.buffer) ∙ idx_previous seen positive))
        (alone v refl
        []
        refl
        sound
        (λ g. moves {A = AgreesOn sound} refl refl (tail_agrees v room q (seen - 1) (omega arith) refl g)))

    pub take_store_tail_lem : StepTurn v q (step_of_worker m TakeStoreTail)
    take_store_tail_lem = decide (MoveTurn v q) (has_room m) lowers (λ e. stayed v Wait refl refl)

  -- ── Step 2 ──────────────────────────────────────────────────────────────────────────────────────────────────────────────────

  module _ (t : Index) (v : Sound n m (TakeLoadHead t)) where
    is_above_head_is : is_above_head t (worker_view m (TakeLoadHead t)) ≡ ltb v.head.at v.buffer.seen
    is_above_head_is = (λ i. lt_z (v.head.is i).at (v.tail.holds i).at) ∙ idx_lt v.head.at v.buffer.seen

    is_head_is : is_head t (worker_view m (TakeLoadHead t)) ≡ eqb v.buffer.seen v.head.at
    is_head_is = (λ i. eq_z (v.tail.holds i).at (v.head.is i).at) ∙ idx_eq v.buffer.seen v.head.at

    -- the take has loaded head
    abbrev looked : Sound n m (TakeLoadHead t)
    looked =
        record {
          sizes = v.sizes;
          memory = v.memory;
          long = v.long;
          buffer = v.buffer;
          head = record { at = v.head.at; is = v.head.is; saw = v.head.at; floor = omega (arith, v.head.floor, v.head.reached); reached = le_refl v.head.at; top = v.head.top };
          tail = record { holds = v.tail.holds; floor = v.tail.floor; top = v.tail.top };
          spaced = v.spaced;
          counted = v.counted;
          aims = v.aims;
        }

    -- the take is given the newest task, which lies at t, above the oldest
    takes : is_above_head t (worker_view m (TakeLoadHead t)) ≡ true → MoveTurn v q (goes_on (TakeLoadSlot t) (worker_view m (TakeLoadHead t)))
    takes found =
        let head = v.head.at in
        let seen = v.buffer.seen in
        let above : head < seen = ltb-true head seen (known is_above_head_is found) in
        let apart : is_head t (worker_view m (TakeLoadHead t)) ≡ false = is_head_is ∙ ne_eqb seen head (λ e. omega arith) in
        let sound = recalled v (TakeLoadSlot t) (record { holds = v.tail.holds; floor = omega (arith, v.head.floor, v.head.reached); top = omega (arith, v.tail.top) }) v.spaced in
        alone v refl
        (told_take false ∷ [])
        (ap (λ b. told_of a_take (only_where (not b) false)) (sym apart))
        sound
        (λ g.
        let two : 1 < length q.tasks = omega (arith, g.count) in
        let last : head + (length q.tasks - 1) ≡ seen = omega (arith, g.count) in
        let number : (task_at q.tasks (length q.tasks - 1)).number ≡ worker_load m t =
        g.shows (length q.tasks - 1) (omega arith) ∙ ap (λ k. worker_load m (idx k)) last ∙ ap (worker_load m) (sym v.tail.holds) in
        takes_effect {A = AgreesOn sound} (replies_taken q false (omega arith)) refl refl (ap (λ x. Task x ∷ []) (sym number))
        (record {
          enough = g.enough;
          count = simp length-take (omega (arith, g.count));
          sum = omega (arith, g.sum, g.count);
          room = omega (arith, g.room);
          below = g.below;
          shows = shows_taken (λ k. worker_load m (idx k)) head q.tasks g.shows;
          sure = λ i.
              sure_tasks m.head head v.buffer.bound (memory_load m (idx head)) (pending m.buffer) q.tasks (after_take q false).tasks (thief_call m i)
              (λ some. (simp length-take (omega arith), sym (get_or-take (length q.tasks - 1) q.tasks 0 (record { put = 0; number = 0 }) (omega arith))))
              (g.sure i);
        }))

    -- t is head: the swap will decide
    doubts : is_head t (worker_view m (TakeLoadHead t)) ≡ true → MoveTurn v q (goes_on (TakeTailPastHead t) (worker_view m (TakeLoadHead t)))
    doubts equal =
        let here : v.buffer.seen ≡ v.head.at = eqb-true v.buffer.seen v.head.at (known is_head_is equal) in
        alone v refl
        []
        (ap (λ b. told_of a_take (only_where (not b) false)) (sym equal))
        (recalled looked (TakeTailPastHead t) (record { holds = (v.tail.holds ∙ ap idx here, here); floor = v.tail.floor; top = v.tail.top }) v.spaced)
        (λ g. moves refl refl (agrees_call refl g.room g))

    -- t is below head: no task stands
    finds_none : is_above_head t (worker_view m (TakeLoadHead t)) ≡ false → is_head t (worker_view m (TakeLoadHead t)) ≡ false
        → MoveTurn v q (goes_on (TakeTailToHead m.head) (worker_view m (TakeLoadHead t)))
    finds_none not_above not_equal =
        let head = v.head.at in
        let seen = v.buffer.seen in
        let low = ltb-false head seen (known is_above_head_is not_above) in
        let apart : seen ≡ head → ⊥ = eqb-false seen head (known is_head_is not_equal) in
        alone v refl
        (told_take false ∷ [])
        (ap (λ b. told_of a_take (only_where (not b) false)) (sym not_equal))
        (recalled looked (TakeTailToHead m.head) (record { holds = (v.head.is, omega arith); floor = v.tail.floor; top = v.tail.top }) v.spaced)
        (λ g. takes_effect (replies_empty q false (omega (arith, g.count))) refl refl refl (agrees_call refl g.room g))

    pub take_load_head_lem : StepTurn v q (step_of_worker m (TakeLoadHead t))
    take_load_head_lem =
        decide (MoveTurn v q) (is_above_head t (worker_view m (TakeLoadHead t))) takes
        (λ not_above. decide (MoveTurn v q) (is_head t (worker_view m (TakeLoadHead t))) doubts (finds_none not_above))

  -- ── Step 3 where t is above head, and step 5 ────────────────────────────────────────────────────────────────────────────────

  pub take_load_slot_lem : (t : Index) (v : Sound n m (TakeLoadSlot t)) → StepTurn v q (step_of_worker m (TakeLoadSlot t))
  take_load_slot_lem t v = answers_owed v (Task (worker_load m t)) refl refl refl refl refl v.spaced

  pub take_load_last_slot : (t : Index) (v : Sound n m (TakeLoadLastSlot t)) → StepTurn v q (step_of_worker m (TakeLoadLastSlot t))
  take_load_last_slot t v = answers_owed v (Task (worker_load m t)) refl refl refl refl refl v.spaced

  -- ── Step 3 where t is below head ────────────────────────────────────────────────────────────────────────────────────────────

  module _ (h : Index) (v : Sound n m (TakeTailToHead h)) where
    -- with enough margin, head is one above the worker's tail, and the queue's tail
    restores : has_room m ≡ true → MoveTurn v q (making (Some (ATake, Tail h)) Empty WorkerCall.Idle m)
    restores some-room =
        let room = ltb-true m.buffer.count m.sizes.buffer some-room in
        let saw = v.head.saw in
        let higher : v.buffer.seen < saw = v.tail.holds.1 in
        let sound =
        rebuilt v (push (tail_store (idx saw)) m.buffer) m.spacing WorkerCall.Idle
        (raising v.buffer v.sizes room saw higher (omega (arith, v.head.reached, v.head.top)))
        (record { holds = tt; floor = omega (arith, v.head.floor); top = omega (arith, v.head.reached, v.head.top) })
        (omega (arith, v.spaced))
        (omega (arith, v.counted)) in
        subst (λ i. MoveTurn v q (making (Some (ATake, Tail i)) Empty WorkerCall.Idle m)) (sym v.tail.holds.0)
        (alone v refl
        []
        refl
        sound
        (λ g. ends {A = AgreesOn sound} refl refl (tail_agrees v room q saw (omega (arith, g.count, v.head.reached)) refl g)))

    pub take_tail_to_head_lem : StepTurn v q (step_of_worker m (TakeTailToHead h))
    take_tail_to_head_lem = decide (MoveTurn v q) (has_room m) restores (λ e. stayed v Wait refl refl)

  -- ── Step 3 where t is head ──────────────────────────────────────────────────────────────────────────────────────────────────

  module _ (t : Index) (v : Sound n m (TakeTailPastHead t)) where
    puts_back : has_room m ≡ true → MoveTurn v q (making (Some (ATake, Tail (next t))) Moved (TakeSwapHead t) m)
    puts_back some-room =
        let room = ltb-true m.buffer.count m.sizes.buffer some-room in
        let saw = v.head.saw in
        let here : v.buffer.seen ≡ saw = v.tail.holds.1 in
        let sound =
        rebuilt v (push (tail_store (idx (saw + 1))) m.buffer) m.spacing (TakeSwapHead t)
        (raising v.buffer v.sizes room (saw + 1) (omega arith) (omega (arith, v.tail.top)))
        (record { holds = (v.tail.holds.0, refl); floor = omega (arith, v.tail.floor); top = omega (arith, v.tail.top) })
        (omega (arith, v.spaced))
        (omega (arith, v.counted)) in
        subst (λ i. MoveTurn v q (making (Some (ATake, Tail i)) Moved (TakeSwapHead t) m)) (sym (ap next v.tail.holds.0 ∙ idx_next saw))
        (alone v refl
        []
        refl
        sound
        (λ g. moves {A = AgreesOn sound} refl refl (tail_agrees v room q (saw + 1) (omega arith) refl g)))

    pub take_tail_past_head_lem : StepTurn v q (step_of_worker m (TakeTailPastHead t))
    take_tail_past_head_lem = decide (MoveTurn v q) (has_room m) puts_back (λ e. stayed v Wait refl refl)

  -- ── Step 4: the swap ────────────────────────────────────────────────────────────────────────────────────────────────────────

  module _ (t : Index) (v : Sound n m (TakeSwapHead t)) where
    still_is : is_head t (worker_view m (TakeSwapHead t)) ≡ eqb v.head.saw v.head.at
    still_is = (λ i. eq_z (v.tail.holds.0 i).at (v.head.is i).at) ∙ idx_eq v.head.saw v.head.at

    -- the one task that stands is the worker's, and whoever else has loaded this head has lost it
    wins : is_head t (worker_view m (TakeSwapHead t)) ≡ true
        → MoveTurn v q (record { push = None; head = next t; call = TakeLoadLastSlot t; outcome = Moved })
    wins still =
        let head = v.head.at in
        let here : v.head.saw ≡ head = eqb-true v.head.saw head (known still_is still) in
        let past : v.buffer.seen ≡ v.head.saw + 1 = v.tail.holds.1 in
        let raised : next t ≡ idx (head + 1) = ap next (v.tail.holds.0 ∙ ap idx here) ∙ idx_next head in
        let sound : Sound (n + 1) (after_worker m (next t) m.buffer m.spacing (TakeLoadLastSlot t)) (TakeLoadLastSlot t) =
        record {
          sizes = v.sizes;
          memory = v.memory;
          long = v.long;
          buffer = v.buffer;
          head = record { at = head + 1; is = raised; saw = v.head.saw; floor = v.head.floor; reached = omega arith; top = omega (arith, v.tail.top) };
          tail = record { holds = v.tail.holds; floor = v.tail.floor; top = v.tail.top };
          spaced = v.spaced;
          counted = omega (arith, v.counted);
          aims = λ i. aim_of_raised m.sizes.start head (thief_call m i) (v.aims i);
        } in
        alone v refl
        (told_take by_swap ∷ [])
        refl
        sound
        (λ g.
        let one : length q.tasks ≡ 1 = omega (arith, g.count) in
        let last : head + (length q.tasks - 1) ≡ v.head.saw = omega arith in
        let number : (task_at q.tasks (length q.tasks - 1)).number ≡ worker_load m t =
        g.shows (length q.tasks - 1) (omega arith) ∙ ap (λ k. worker_load m (idx k)) last ∙ ap (worker_load m) (sym v.tail.holds.0) in
        let none_left : length (after_take q by_swap).tasks ≡ 0 = simp length-take (omega arith) in
        takes_effect {A = AgreesOn sound} (replies_taken q by_swap (omega arith)) refl refl (ap (λ x. Task x ∷ []) (sym number))
        (record {
          enough = g.enough;
          count = omega arith;
          sum = g.sum;
          room = omega (arith, g.room);
          below = omega (arith, g.below);
          shows = λ k h. absurd (omega arith);
          sure = λ i. sure_raised m.sizes.start head _ _ raised (thief_call m i) (v.aims i);
        }))

    -- a thief was faster
    loses : is_head t (worker_view m (TakeSwapHead t)) ≡ false → MoveTurn v q (answers Empty (worker_view m (TakeSwapHead t)))
    loses gone =
        let apart : v.head.saw ≡ v.head.at → ⊥ = eqb-false v.head.saw v.head.at (known still_is gone) in
        let past : v.buffer.seen ≡ v.head.saw + 1 = v.tail.holds.1 in
        alone v refl
        (told_take by_swap ∷ [])
        refl
        (recalled v WorkerCall.Idle (record { holds = tt; floor = v.tail.floor; top = v.tail.top }) v.spaced)
        (λ g.
        answers_at_once (replies_empty q by_swap (omega (arith, g.count, v.head.reached))) refl refl refl (agrees_call refl g.room g))

    pub take_swap_head_lem : StepTurn v q (step_of_worker m (TakeSwapHead t))
    take_swap_head_lem =
        decide (MoveTurn v q) (nothing_pending m) (λ empty. decide (MoveTurn v q) (is_head t (worker_view m (TakeSwapHead t))) wins loses)
        (λ e. stayed v Wait refl refl)
