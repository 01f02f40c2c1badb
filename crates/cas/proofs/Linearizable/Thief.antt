-- Each entry of a thief's keeps the invariant, and is answered as the plain queue answers. No thief keeps another out: where one has raised head,
-- every other that had loaded it fails.
use mathlib.Core.Path.{◌≡◌, refl, ap, sym, ◌∙◌, subst}
use mathlib.Core.Bool.{Bool, true, false, not}
use mathlib.Core.List.{List, [], ◌∷◌}
use Prim.Native.Nat.{ℕ, ◌+◌, ◌≤◌, ◌<◌}
use native.Mathlib.Nat.{le_refl}
use native.Mathlib.Omega.{arith}
use lib.Dec.{eqb}
use lib.IntN.{pos, ◌-ℤ◌}
use lib.ListN.{length, length-drop, length-set, length-take}
use lib.Seq.{get_or-set_other, get_or-set_same}
use borrow.Author.Tests.{eqb-false, eqb-true, leb-true, lt-ltb, ltb-true}
use Rattle.terms.specs.Sizes.{margin_in_use}
use Rattle.terms.proofs.Laws.Sizes.{margin_in_use_some}
use Rattle.terms.proofs.Laws.Tests.{decide, known}
use Rattle.stores.specs.Index.{below_by_more, eq_z, index_in_range, next}
use Rattle.stores.specs.StoreBuffer.{pending}
use Rattle.stores.proofs.Laws.Index.{idx, idx_below, idx_eq, idx_in_range, idx_next, idx_same, lt_z_not}
use Rattle.stores.proofs.Laws.Chain.{chain_safe}
use Rattle.stores.proofs.Laws.Slots.{slots_leave}
use Rattle.claim.specs.PlainQueue.{Told, told_steal, PlainQueue, unchanged}
use Rattle.claim.specs.Calls.{Begun, nothing, a_steal, Effect, none, Party, worker, thief, same_party}
use Rattle.claim.proofs.Entries.{waits}
use Rattle.claim.proofs.Laws.Tasks.{after_steal, replies_stolen, shows_stolen, task_at}
use Rattle.claim.proofs.Turn.{Turn, answers_at_once, begun_after, ends, moves, refuses, told_in}
use Rattle.cas.specs.Types.{Index, Machine, Outcome, Moved, Place, Task, Empty, Abort, ThiefCall, StealLoadHead, StealLoadTail, StealLoadSlot, StealSwapHead, ThiefMove}
use Rattle.cas.specs.Thief.{idle_thief, is_head, none_above, thief_runs, within_margin}
use Rattle.cas.specs.Machine.{memory_load, thief_call, with_head, with_thief, worker_load}
use Rattle.cas.specs.Entries.{begin_steal, perform_thief, step_of_thief, thief_view}
use Rattle.cas.specs.Linearizable.{ff_cl, limits, owes, thief_effect}
use Rattle.cas.proofs.Linearizable.Invariant.{Agrees, AgreesOn, Aim, AimOf, Holds, HoldsBeside, Sure, SureOf, begun_of, filling, lowered, thief_begun}
use Rattle.cas.proofs.Linearizable.Rebuild.{aim_of_raised, later, sure_raised}
use Rattle.cas.proofs.Linearizable.Turn.{ThiefTurn, ThiefTurnTo}

-- what thieves are sure of
abbrev SureIn : {n : ℕ} {m : Machine} → Holds n m → PlainQueue → Type 0
SureIn {m = m} v q = Sure v.head.at v.buffer.bound (memory_load m (idx v.head.at)) (pending m.buffer) q.tasks

module _ {n : ℕ} {m : Machine} (v : Holds n m) (q : PlainQueue) (i : ℕ) (there : i < m.sizes.thieves) where
  -- ── The call of thief i is replaced ─────────────────────────────────────────────────────────────────────────────────────────

  module _ (c : ThiefCall) (h : Index) where
    abbrev replaced : Machine
    replaced = with_thief i c (with_head h m)

    own_call : thief_call replaced i ≡ c
    own_call = ap (λ t. t.call) (get_or-set_same m.thieves i (record { call = c }) idle_thief (omega (arith, v.long, v.sizes.thieves_most)))

    other_call : (j : ℕ) → (j ≡ i → ⊥) → thief_call replaced j ≡ thief_call m j
    other_call j apart = ap (λ t. t.call) (get_or-set_other m.thieves i j (record { call = c }) idle_thief apart)

    -- a property of every thief's call: of the new one, and of the others' as before
    each : (P : ThiefCall → Type 0) → P c → ((j : ℕ) → P (thief_call m j)) → (j : ℕ) → P (thief_call replaced j)
    each P own other j = go (eqb j i) refl
      where
        go : (b : Bool) → eqb j i ≡ b → P (thief_call replaced j)
        go true e = subst (λ j. P (thief_call replaced j)) (sym (eqb-true j i e)) (subst P (sym own_call) own)
        go false e = subst P (sym (other_call j (eqb-false j i e))) (other j)

    others_alone : (r : Party) → same_party r (thief i) ≡ false → (begun_of replaced r ≡ begun_of m r) × (owes replaced r ≡ owes m r)
    others_alone worker e = (refl, refl)
    others_alone (thief j) e = (ap thief_begun (other_call j (eqb-false j i e)), refl)

    -- so an entry shows its turn by the new call
    replaces : {next : Begun} {f : Effect} (own : ThiefCall) (o : Outcome) (told : List Told) → told ≡ told_in (thief_begun own) o f
        → (sound : Holds (n + 1) replaced)
        → (AgreesOn v q → Turn ff_cl.is_told (limits m.sizes) (thief_begun own) [] q told o next (thief_begun c) [] (AgreesOn sound))
        → ThiefTurnTo v q i own next f o replaced
    replaces {next = next} own o told told_is sound turn =
        record {
          told = told;
          told_is = told_is;
          others = others_alone;
          sound = sound;
          turn = λ g.
              subst (λ b. Turn ff_cl.is_told (limits m.sizes) (thief_begun own) [] q told o next b [] (AgreesOn sound)) (sym (ap thief_begun own_call)) (turn g);
        }

  -- ── Head stays ──────────────────────────────────────────────────────────────────────────────────────────────────────────────

  module _ (c : ThiefCall) where
    abbrev stays_sound : AimOf m.sizes.start v.head.at c → Holds (n + 1) (replaced c m.head)
    stays_sound aim =
        record {
          sizes = v.sizes;
          memory = v.memory;
          long = length-set m.thieves i (record { call = c }) ∙ v.long;
          buffer = v.buffer;
          head = v.head;
          tail = v.tail;
          spaced = v.spaced;
          counted = omega (arith, v.counted);
          aims = each c m.head (AimOf m.sizes.start v.head.at) aim v.aims;
        }

    stays_agrees : SureOf m.head (SureIn v q) (task_at q.tasks 0).number c → AgreesOn v q
        → Agrees (replaced c m.head) (lowered m.worker.call) (filling m.worker.call) v.buffer.seen v.head.at v.buffer.bound q
    stays_agrees sure g =
        record {
          enough = g.enough;
          count = g.count;
          sum = g.sum;
          room = g.room;
          below = g.below;
          shows = g.shows;
          sure = each c m.head (SureOf m.head (SureIn v q) (task_at q.tasks 0).number) sure g.sure;
        }

  -- the call goes on, or begins
  goes : {next : Begun} {f : Effect} (own c : ThiefCall) → [] ≡ told_in (thief_begun own) Moved f → thief_begun c ≡ begun_after (thief_begun own) Moved next
      → AimOf m.sizes.start v.head.at c → (AgreesOn v q → SureOf m.head (SureIn v q) (task_at q.tasks 0).number c)
      → ThiefTurnTo v q i own next f Moved (replaced c m.head)
  goes own c told_is begun aim sure = replaces c m.head own Moved [] told_is (stays_sound c aim) (λ g. moves begun refl (stays_agrees c (sure g) g))

  -- .. or there is none afterwards, and no task has left
  ends_idle : {next : Begun} {f : Effect} (own : ThiefCall) (o : Outcome) (told : List Told) → told ≡ told_in (thief_begun own) o f
      → (AgreesOn (stays_sound ThiefCall.Idle tt) q
      → Turn ff_cl.is_told (limits m.sizes) (thief_begun own) [] q told o next nothing [] (AgreesOn (stays_sound ThiefCall.Idle tt)))
      → ThiefTurnTo v q i own next f o (replaced ThiefCall.Idle m.head)
  ends_idle own o told told_is turn =
      replaces ThiefCall.Idle m.head own o told told_is (stays_sound ThiefCall.Idle tt) (λ g. turn (stays_agrees ThiefCall.Idle tt g))

  -- a step, by what it does
  abbrev Step : ThiefCall → ThiefMove → Type 0
  Step own d = ThiefTurn v q i own nothing (λ o. thief_effect o own) (perform_thief i m d)

  -- ── Step 2 ──────────────────────────────────────────────────────────────────────────────────────────────────────────────────

  module _ (h : Index) (aim : Aim m.sizes.start v.head.at 2147483648 h) where
    -- where the tail is not within the margin, memory's tail is that far above h
    kept : within_margin h (thief_view m (StealLoadTail h)) ≡ false → aim.at + margin_in_use m.sizes < v.buffer.landed
    kept far =
        let margin = margin_in_use m.sizes in
        ltb-true (aim.at + margin) v.buffer.landed
        (sym (idx_below aim.at v.buffer.landed margin)
        ∙ sym (λ j. below_by_more (aim.is j) (v.buffer.tail_is_lem j) margin)
        ∙ lt_z_not h.at (m.tail.at -ℤ pos margin)
        ∙ ap not far)

    -- .. and so, whichever margin is set, h is below the tail's greatest value
    aims : within_margin h (thief_view m (StealLoadTail h)) ≡ false → Aim m.sizes.start v.head.at 2147483647 h
    aims far =
        let most = leb-true v.buffer.landed 2147483649 (sym (idx_in_range v.buffer.landed) ∙ ap index_in_range (sym v.buffer.tail_is_lem) ∙ v.buffer.tail_ranged) in
        record { at = aim.at; is = aim.is; floor = aim.floor; reached = aim.reached; top = omega (arith, kept far, margin_in_use_some m.sizes v.sizes.buffer_least) }

    -- The one use of a margin that is enough: where h is head, a task stands, and no pending store is to its slot.
    sure : within_margin h (thief_view m (StealLoadTail h)) ≡ false → AgreesOn v q → h ≡ m.head → SureIn v q
    sure far g here =
        let head = v.head.at in
        let same : aim.at ≡ head = idx_same aim.at head (sym aim.is ∙ here ∙ v.head.is) in
        let short : length (pending m.buffer) ≤ m.sizes.buffer = simp length-take (omega (arith, v.buffer.fits)) in
        let safe = chain_safe m.sizes.buffer (margin_in_use m.sizes) head v.buffer.few short g.enough (omega (arith, kept far)) v.buffer.chain in
        let standing : 0 < length q.tasks = omega (arith, g.count, safe.0) in
        let zeroth : head + 0 ≡ head = omega arith in
        record {
          some = standing;
          above = safe.1;
          number =
              g.shows 0 standing
              ∙ ap (λ k. worker_load m (idx k)) zeroth
              ∙ slots_leave (pending m.buffer) m.sizes.slots head (memory_load m (idx head)) (omega (arith, v.head.floor, v.head.reached)) g.below safe.1;
        }

    steal_load_tail_lem : ThiefTurn v q i (StealLoadTail h) nothing (λ o. thief_effect o (StealLoadTail h)) (step_of_thief i m (StealLoadTail h))
    steal_load_tail_lem =
        decide (Step (StealLoadTail h)) (none_above h (thief_view m (StealLoadTail h))) (λ empty. ends_idle (StealLoadTail h) Empty [] refl (λ g. ends refl refl g))
        (λ some.
        decide (Step (StealLoadTail h)) (within_margin h (thief_view m (StealLoadTail h)))
        (λ near. ends_idle (StealLoadTail h) Abort (told_steal true ∷ []) refl (λ g. answers_at_once {r = unchanged q Abort} refl refl refl refl g))
        (λ far. goes (StealLoadTail h) (StealLoadSlot h) refl refl (aims far) (sure far)))

  -- ── Step 3 ──────────────────────────────────────────────────────────────────────────────────────────────────────────────────

  steal_load_slot : (h : Index) → Aim m.sizes.start v.head.at 2147483647 h → (AgreesOn v q → h ≡ m.head → SureIn v q)
      → ThiefTurn v q i (StealLoadSlot h) nothing (λ o. thief_effect o (StealLoadSlot h)) (step_of_thief i m (StealLoadSlot h))
  steal_load_slot h aim sure =
      goes (StealLoadSlot h) (StealSwapHead (memory_load m h) h) refl refl aim
      (λ g here. (sure g here, (sure g here).number ∙ ap (memory_load m) (sym (here ∙ v.head.is))))

  -- ── Step 4: the swap ────────────────────────────────────────────────────────────────────────────────────────────────────────

  module _ (x : ℕ) (h : Index) (aim : Aim m.sizes.start v.head.at 2147483647 h) (sure : AgreesOn v q → h ≡ m.head → SureIn v q × ((task_at q.tasks 0).number ≡ x)) where
    is_head_is : is_head h (thief_view m (StealSwapHead x h)) ≡ eqb aim.at v.head.at
    is_head_is = (λ j. eq_z (aim.is j).at (v.head.is j).at) ∙ idx_eq aim.at v.head.at

    -- head stands, and the oldest task is the thief's
    wins : is_head h (thief_view m (StealSwapHead x h)) ≡ true → Step (StealSwapHead x h) (record { head = next h; call = ThiefCall.Idle; outcome = Task x })
    wins still =
        let start = m.sizes.start in
        let head = v.head.at in
        let same : aim.at ≡ head = eqb-true aim.at head (known is_head_is still) in
        let here : h ≡ idx head = aim.is ∙ ap idx same in
        let raised : next h ≡ idx (head + 1) = ap next here ∙ idx_next head in
        let sound : Holds (n + 1) (replaced ThiefCall.Idle (next h)) =
        record {
          sizes = v.sizes;
          memory = v.memory;
          long = length-set m.thieves i (record { call = ThiefCall.Idle }) ∙ v.long;
          buffer = v.buffer;
          head = record { at = head + 1; is = raised; saw = v.head.saw; floor = v.head.floor; reached = omega (arith, v.head.reached); top = omega (arith, aim.top) };
          tail = v.tail;
          spaced = v.spaced;
          counted = omega (arith, v.counted);
          aims = each ThiefCall.Idle (next h) (AimOf start (head + 1)) tt (λ j. aim_of_raised start head (thief_call m j) (v.aims j));
        } in
        replaces ThiefCall.Idle (next h) (StealSwapHead x h) (Task x) (told_steal false ∷ []) refl sound
        (λ g.
        let s = sure g (here ∙ sym v.head.is) in
        let standing : 0 < length q.tasks = s.0.some in
        let S = Sure (head + 1) v.buffer.bound (memory_load m (idx (head + 1))) (pending m.buffer) (after_steal q).tasks in
        let y = (task_at (after_steal q).tasks 0).number in
        answers_at_once {A = AgreesOn sound} (replies_stolen q standing) (lt-ltb 0 (length q.tasks) standing) refl (ap (λ y. Task y ∷ []) s.1)
        (record {
          enough = g.enough;
          count = simp length-drop (omega (arith, g.count));
          sum = g.sum;
          room = omega (arith, g.room);
          below = omega (arith, g.below);
          shows = shows_stolen (λ k. worker_load m (idx k)) head q.tasks g.shows;
          sure = each ThiefCall.Idle (next h) (SureOf (next h) S y) tt (λ j. sure_raised start head S y raised (thief_call m j) (v.aims j));
        }))

    steal_swap_head_lem : ThiefTurn v q i (StealSwapHead x h) nothing (λ o. thief_effect o (StealSwapHead x h)) (step_of_thief i m (StealSwapHead x h))
    steal_swap_head_lem = decide (Step (StealSwapHead x h)) (is_head h (thief_view m (StealSwapHead x h))) wins (λ lost. goes (StealSwapHead x h) StealLoadHead refl refl tt (λ g. tt))

  -- ── The entries ─────────────────────────────────────────────────────────────────────────────────────────────────────────────

  -- the next step of the thief's call, which has loaded what it has loaded
  steps : (own : ThiefCall) → AimOf m.sizes.start v.head.at own → (AgreesOn v q → SureOf m.head (SureIn v q) (task_at q.tasks 0).number own)
      → ThiefTurn v q i own nothing (λ o. thief_effect o own) (step_of_thief i m own)
  steps ThiefCall.Idle aim sure = ends_idle ThiefCall.Idle Place [] refl (λ g. refuses refl refl refl refl g)
  steps StealLoadHead aim sure =
      goes StealLoadHead (StealLoadTail m.head) refl refl
      (record { at = v.head.at; is = v.head.is; floor = omega (arith, v.head.floor, v.head.reached); reached = le_refl v.head.at; top = v.head.top }) (λ g. tt)
  steps (StealLoadTail h) aim sure = steal_load_tail_lem h aim
  steps (StealLoadSlot h) aim sure = steal_load_slot h aim sure
  steps (StealSwapHead x h) aim sure = steal_swap_head_lem x h aim sure

  pub thief_step : ThiefTurn v q i (thief_call m i) nothing (λ o. thief_effect o (thief_call m i)) (step_of_thief i m (thief_call m i))
  thief_step = steps (thief_call m i) (v.aims i) (λ g. g.sure i)

  pub begin_steal_lem : ThiefTurn v q i (thief_call m i) a_steal (λ o. none) (begin_steal i m)
  begin_steal_lem =
      decide (ThiefTurn v q i (thief_call m i) a_steal (λ o. none)) (thief_runs (thief_call m i)) (λ runs. waits ff_cl begun_of Holds HoldsBeside refl refl (later v) (λ g. g))
      (λ rests. goes (thief_call m i) StealLoadHead refl refl tt (λ g. tt))
