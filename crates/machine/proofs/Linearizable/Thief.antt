-- Each entry of a thief's keeps the invariant, and is answered as the plain queue answers. The steps inside the lock are shown for the one
-- thief that holds it; that every other is outside is a matter of `Exclusion`.
use mathlib.Core.Path.{◌≡◌, refl, ap, sym, ◌∙◌, subst}
use mathlib.Core.Bool.{true, false, cond, not}
use mathlib.Core.List.{List, [], ◌∷◌}
use Prim.Native.Nat.{ℕ, ◌+◌, ◌≤◌, ◌<◌}
use native.Mathlib.Omega.{arith}
use lib.Dec.{ltb}
use lib.IntN.{pos, ◌-ℤ◌}
use lib.ListN.{length, length-append, length-drop, length-take}
use lib.Signed.{lt_z}
use borrow.Author.Tests.{leb-true, lt-ltb, ltb-true}
use Rattle.terms.specs.Outcome.{is_answer, is_refusal}
use Rattle.terms.proofs.Laws.Tests.{decide, known}
use Rattle.stores.specs.Index.{index_in_range, next}
use Rattle.stores.proofs.Laws.Index.{idx, idx_as, idx_in_range, idx_below, idx_next}
use Rattle.stores.proofs.Laws.Chain.{chain_safe, SlotsWithin}
use Rattle.stores.proofs.Laws.Slots.{slots_leave}
use Rattle.stores.proofs.Laws.Pending.{unlanded}
use Rattle.claim.specs.PlainQueue.{Told, told_steal, PlainQueue, unchanged}
use Rattle.claim.specs.Calls.{Effect, none, a_steal, nothing}
use Rattle.claim.proofs.Turn as claim
use Rattle.claim.proofs.Turn.{ends, moves, refuses, takes_effect, told_in}
use Rattle.machine.specs.Types.{Done, Entry, BeginSteal, ThiefStep, Nobody, TheThief, Index, Lock, Machine, Outcome, Moved, Place, Wait, Task, Abort, Store, ThiefCall, StealLock, StealLoadHead, StealRaiseHead, StealLoadTail, StealLoadSlot, StealUnlockTask, StealRestoreHead, StealUnlockAbort, WorkerCall}
use Rattle.machine.specs.Thief.{stays as leaves, keeps_margin, thief_runs}
use Rattle.machine.specs.Machine.{done, lock_is_free, memory_load, thief_call, thief_tail, worker_load}
use Rattle.machine.specs.Update.{with_lock}
use Rattle.machine.specs.Effect.{effect_keeping}
use Rattle.machine.specs.Linearizable.{limits, thief_owes}
use Rattle.machine.specs.Perform.{view_keeping, step_keeping, perform_thief}
use Rattle.machine.specs.Entries.{begin_steal, thief_goes_on}
use Rattle.machine.proofs.Laws.Obey.{thief_put_back}
use Rattle.machine.proofs.Linearizable.Rebuild.{load_below}
use Rattle.machine.proofs.Linearizable.Invariant.{Enough, Environment, bare, Agrees, AgreesOn, Exclusive, HeadState, InPlace, Sound, denied, head_at, holds, locked, lowered, outside, raised, stolen, thief_begun}
use Rattle.claim.proofs.Laws.Tasks.{replies_stolen, after_steal, shows_as, shows_stolen, task_at}
use Rattle.machine.proofs.Linearizable.Turn.{StealTurn, ThiefTurn, after_thief}
use Rattle.machine.proofs.Linearizable.Exclusion.{free_outside, free_quiet, held_outside, holder_stays, inside_holds, others_stay, outside_stays}

-- ── The invariant, rebuilt ──────────────────────────────────────────────────────────────────────────────────────────────────

module _ {g : Environment} {n : ℕ} {m : Machine} {c : WorkerCall} where
  -- a sound machine, from what an entry changes
  abbrev pub reheaded :
      {p : ThiefCall} (v : Sound g n m c p) (h : Index) (l : Lock) (i : ℕ) (call p' : ThiefCall) → HeadState m.sizes.start h p'
      → Exclusive l.holder (locked c) p' → Sound g (n + 1) (after_thief m h l i call) c p'
  reheaded v h l i call p' head lock =
      record {
        sizes = v.sizes;
        memory = v.memory;
        margin_some = v.margin_some;
        slots_after_lem = v.slots_after_lem;
        buffer = v.buffer;
        head = head;
        tail = v.tail;
        spaced = v.spaced;
        counted = omega (arith, v.counted);
        lock = lock;
      }

-- another call inside, with which the oldest task is where it was
pub agrees_inside :
    {n : ℕ} {load : ℕ → ℕ} {b : List Store} {low fill gone gone' seen lo bound : ℕ} {q : PlainQueue}
    → gone ≡ gone' → Agrees n load b low fill gone seen lo bound q → Agrees n load b low fill gone' seen lo bound q
agrees_inside {load = load} {gone = gone} {gone' = gone'} {lo = lo} {q = q} same a =
    record {
      count = omega (arith, a.count);
      sum = a.sum;
      room = a.room;
      below = a.below;
      shows = shows_as load (lo + gone) q.tasks a.shows (lo + gone') (omega arith);
      unwritten = λ has. a.unwritten (same ∙ has);
    }

-- the queue's tail and every pending slot store are above lo
abbrev pub Clear : {g : Environment} {n : ℕ} {m : Machine} {c : WorkerCall} {p : ThiefCall} → Sound g n m c p → Type 0
Clear {g = g} {m = m} {c = c} v = (v.head.lo < v.buffer.seen + lowered c) × SlotsWithin v.head.lo v.buffer.bound (unlanded g.memory m.buffer)

-- a refused entry
pub refused :
    {g : Environment} {n : ℕ} {m : Machine} {c : WorkerCall} {p : ThiefCall} (v : Sound g n m c p) {q : PlainQueue} {i : ℕ} {e : Entry} {effect : Effect} (own : ThiefCall) (o : Outcome)
    → thief_call m i ≡ own → InPlace (holds m.lock.holder i) m.sizes.thieves i p own → is_refusal o ≡ true → is_answer o ≡ false
    → ThiefTurn v q i own e effect (done o (bare g m))
refused {g = g} {m = m} {p = p} v {i = i} own o at place refusal no_answer =
    let whole : after_thief (bare g m) m.head m.lock i own ≡ bare g m = thief_put_back (bare g m) i at in
    record {
      outcome = o;
      told = [];
      head = m.head;
      lock = m.lock;
      call = own;
      inside = p;
      is = ap (done o) whole;
      told_is = rw refusal;
      in_place = place;
      others = λ j other apart there. there;
      sound = reheaded v m.head m.lock i own p v.head v.lock;
      turn = λ enough a. refuses refusal no_answer refl (ap (λ m. thief_owes (denied g) m own) whole) (agrees_inside refl a);
    }

-- .. as a step leaves all as it is
pub stayed :
    {g : Environment} {n : ℕ} {m : Machine} {c : WorkerCall} {p : ThiefCall} (v : Sound g n m c p) {q : PlainQueue} {i : ℕ} {e : Entry} {effect : Effect} (own : ThiefCall) (o : Outcome)
    → thief_call m i ≡ own → InPlace (holds m.lock.holder i) m.sizes.thieves i p own → is_refusal o ≡ true → is_answer o ≡ false
    → ThiefTurn v q i own e effect (perform_thief i (bare g m) (leaves o (view_keeping g.margin (bare g m) i own)))
stayed {g = g} {m = m} v {q = q} {i = i} {e = e} {effect = effect} own o at place refusal no_answer =
    subst (ThiefTurn v q i own e effect) (sym (ap (done o) (thief_put_back (bare g m) i at))) (refused v own o at place refusal no_answer)

-- ── Inside the lock ─────────────────────────────────────────────────────────────────────────────────────────────────────────

module _ {g : Environment} {n : ℕ} {m : Machine} {c : WorkerCall} (q : PlainQueue) (i : ℕ) (held : m.lock.holder ≡ TheThief i) (there : i < m.sizes.thieves) (quiet : locked c ≡ false) where
  -- the thief stays inside
  abbrev pub inside_state :
      {own : ThiefCall} (v : Sound g n m c own) (h : Index) (p : ThiefCall) → outside p ≡ false → HeadState m.sizes.start h p
      → Sound g (n + 1) (after_thief m h m.lock i p) c p
  inside_state v h p inside head = reheaded v h m.lock i p p head (subst (λ l. Exclusive l (locked c) p) (sym held) (quiet, inside))

  pub stays :
      {own : ThiefCall} (v : Sound g n m c own) (effect : Effect) (told : List Told) (h : Index) (p : ThiefCall) (inside : outside p ≡ false) (head : HeadState m.sizes.start h p)
      → told ≡ told_in (thief_begun own) Moved effect
      → (Enough g m.sizes
      → AgreesOn v q
      → claim.Turn g.is_told (limits m.sizes) (thief_begun own) (thief_owes (denied g) (bare g m) own) q told Moved nothing
      (thief_begun p)
      (thief_owes (denied g) (after_thief (bare g m) h m.lock i p) p)
      (AgreesOn (inside_state v h p inside head)))
      → ThiefTurn v q i own (ThiefStep i) effect (done Moved (after_thief (bare g m) h m.lock i p))
  stays {own = own} v effect told h p inside head told_is turn =
      record {
        outcome = Moved;
        told = told;
        head = h;
        lock = m.lock;
        call = p;
        inside = p;
        is = refl;
        told_is = told_is;
        in_place = subst (λ l. InPlace (holds l i) m.sizes.thieves i p p) (sym held) (holder_stays i m.sizes.thieves p there);
        others = λ j other apart place.
            subst (λ l. InPlace (holds l j) m.sizes.thieves j p other) (sym held)
            (others_stay i j m.sizes.thieves p other apart (held_outside m.lock.holder i j m.sizes.thieves own other held apart place));
        sound = inside_state v h p inside head;
        turn = turn;
      }

  -- step 2
  pub steal_load_head : (v : Sound g n m c StealLoadHead) → StealTurn v q i StealLoadHead (step_keeping g.margin i (bare g m) StealLoadHead)
  steal_load_head v =
      let here : m.head ≡ idx v.head.lo = idx_as (v.head.lo + 0) v.head.lo v.head.head_is_lem (omega arith) in
      stays v none [] m.head (StealRaiseHead m.head) refl
      (record { lo = v.head.lo; head_is_lem = v.head.head_is_lem; holds_head = here; floor = v.head.floor; top = v.head.top })
      refl
      (λ enough a. moves refl refl (agrees_inside refl a))

  -- step 3
  pub steal_raise_head : (h : Index) (v : Sound g n m c (StealRaiseHead h)) → StealTurn v q i (StealRaiseHead h) (step_keeping g.margin i (bare g m) (StealRaiseHead h))
  steal_raise_head h v =
      let above : next h ≡ idx (v.head.lo + 1) = ap next v.head.holds_head ∙ idx_next v.head.lo in
      stays v none [] (next h) (StealLoadTail h) refl
      (record { lo = v.head.lo; head_is_lem = above; holds_head = v.head.holds_head; floor = v.head.floor; top = v.head.top })
      refl
      (λ enough a. moves refl refl (agrees_inside refl a))

  -- step 4
  module _ (h : Index) (v : Sound g n m c (StealLoadTail h)) where
    keeps_margin_is : keeps_margin h (thief_tail (bare g m)) g.margin ≡ ltb (v.head.lo + g.margin) v.buffer.landed
    keeps_margin_is =
        (λ j. lt_z (v.head.holds_head j).at ((v.buffer.tail_is_lem j).at -ℤ pos g.margin))
        ∙ idx_below v.head.lo v.buffer.landed g.margin

    landed_most : v.buffer.landed ≤ 2147483649
    landed_most =
        leb-true v.buffer.landed 2147483649
        (sym (ap index_in_range v.buffer.tail_is_lem ∙ idx_in_range v.buffer.landed) ∙ v.buffer.tail_ranged)

    -- a thief is let in: a task stands, and memory's slot of lo has its number
    pub let_in :
        (effect : Effect) → told_steal false ∷ [] ≡ told_in a_steal Moved effect
        → v.head.lo + 1 ≤ 2147483648
        → (Enough g m.sizes → Clear v)
        → ThiefTurn v q i (StealLoadTail h) (ThiefStep i) effect (thief_goes_on i (StealLoadSlot h) (bare g m))
    let_in effect told top above =
        let lo = v.head.lo in
        stays v effect (told_steal false ∷ []) m.head (StealLoadSlot h) refl
        (record { lo = lo; head_is_lem = v.head.head_is_lem; holds_head = v.head.holds_head; floor = v.head.floor; top = top })
        told
        (λ enough a.
        let safe = above enough in
        let standing : 0 < length q.tasks = omega (arith, a.count, safe.0) in
        let first : lo + 0 + 0 ≡ lo = omega arith in
        let oldest : (task_at q.tasks 0).number ≡ memory_load (bare g m) h =
        a.shows 0 standing
        ∙ ap (λ j. worker_load m (idx j)) first
        ∙ load_below v lo
        ∙ slots_leave (unlanded g.memory m.buffer) m.sizes.slots lo (memory_load (bare g m) (idx lo)) (omega (arith, v.head.floor)) a.below safe.1
        ∙ ap (memory_load (bare g m)) (sym v.head.holds_head)
        in
        takes_effect (replies_stolen q standing) (lt-ltb 0 (length q.tasks) standing) refl (ap (λ x. Task x ∷ []) (sym oldest))
        (record {
          count = simp length-drop (omega (arith, a.count));
          sum = a.sum;
          room = a.room;
          below = a.below;
          shows =
              shows_as (λ k. worker_load m (idx k)) (lo + 0 + 1) (after_steal q).tasks
              (shows_stolen (λ k. worker_load m (idx k)) (lo + 0) q.tasks a.shows)
              (lo + 1) (omega arith);
          unwritten = λ has. safe.1;
        }))

    -- it is so with enough margin
    pub margin_lets_in :
        (effect : Effect) → told_steal false ∷ [] ≡ told_in a_steal Moved effect → keeps_margin h (thief_tail (bare g m)) g.margin ≡ true
        → ThiefTurn v q i (StealLoadTail h) (ThiefStep i) effect (thief_goes_on i (StealLoadSlot h) (bare g m))
    margin_lets_in effect told kept =
        let lo = v.head.lo in
        let far = ltb-true (lo + g.margin) v.buffer.landed (known keeps_margin_is kept) in
        let some : 1 ≤ g.margin = v.margin_some in
        let short : length (unlanded g.memory m.buffer) ≤ length g.memory.front + m.sizes.buffer = simp (length-append, length-take) (omega (arith, v.buffer.fits)) in
        let_in effect told (omega (arith, landed_most))
        (λ enough.
        let safe = chain_safe (length g.memory.front + m.sizes.buffer) g.margin lo v.buffer.few short enough far v.buffer.chain in
        (omega (arith, safe.0), safe.1))

    steals : keeps_margin h (thief_tail (bare g m)) g.margin ≡ true → StealTurn v q i (StealLoadTail h) (thief_goes_on i (StealLoadSlot h) (bare g m))
    steals kept = margin_lets_in (effect_keeping g.margin (bare g m) (StealLoadTail h)) (ap (λ b. told_steal (not b) ∷ []) (sym kept)) kept

    -- where the plain queue is told of a steal that gets nothing
    aborts : g.is_told a_steal Abort ≡ true → keeps_margin h (thief_tail (bare g m)) g.margin ≡ false → StealTurn v q i (StealLoadTail h) (thief_goes_on i (StealRestoreHead h) (bare g m))
    aborts told not-kept =
        stays v (effect_keeping g.margin (bare g m) (StealLoadTail h)) (told_steal true ∷ []) m.head (StealRestoreHead h) refl
        (record { lo = v.head.lo; head_is_lem = v.head.head_is_lem; holds_head = v.head.holds_head; floor = v.head.floor; top = v.head.top })
        (ap (λ b. told_steal (not b) ∷ []) (sym not-kept))
        (λ enough a. takes_effect {r = unchanged q Abort} refl refl refl (ap (λ b. cond b (Abort ∷ []) []) told) (agrees_inside refl a))

    -- .. and where it is not
    pub gives_up : (effect : Effect) → [] ≡ told_in a_steal Moved effect → denied g ≡ []
        → ThiefTurn v q i (StealLoadTail h) (ThiefStep i) effect (thief_goes_on i (StealRestoreHead h) (bare g m))
    gives_up effect told silent =
        stays v effect [] m.head (StealRestoreHead h) refl
        (record { lo = v.head.lo; head_is_lem = v.head.head_is_lem; holds_head = v.head.holds_head; floor = v.head.floor; top = v.head.top })
        told
        (λ enough a. moves refl silent (agrees_inside refl a))

    -- it goes on looking
    pub looks_on : (effect : Effect) → [] ≡ told_in a_steal Moved effect → ThiefTurn v q i (StealLoadTail h) (ThiefStep i) effect (thief_goes_on i (StealLoadTail h) (bare g m))
    looks_on effect told =
        stays v effect [] m.head (StealLoadTail h) refl
        (record { lo = v.head.lo; head_is_lem = v.head.head_is_lem; holds_head = v.head.holds_head; floor = v.head.floor; top = v.head.top })
        told
        (λ enough a. moves refl refl (agrees_inside refl a))

    steal_load_tail_lem : g.is_told a_steal Abort ≡ true → StealTurn v q i (StealLoadTail h) (step_keeping g.margin i (bare g m) (StealLoadTail h))
    steal_load_tail_lem told = decide (λ d. StealTurn v q i (StealLoadTail h) (perform_thief i (bare g m) d)) (keeps_margin h (thief_tail (bare g m)) g.margin) steals (aborts told)

  -- step 5 with the margin kept: the slot is free from here on
  pub steal_load_slot : (h : Index) (v : Sound g n m c (StealLoadSlot h)) → StealTurn v q i (StealLoadSlot h) (step_keeping g.margin i (bare g m) (StealLoadSlot h))
  steal_load_slot h v =
      let lo = v.head.lo in
      let here : m.head ≡ idx (lo + 1 + 0) = idx_as (lo + 1) (lo + 1 + 0) v.head.head_is_lem (omega arith) in
      stays v none [] m.head (StealUnlockTask (memory_load (bare g m) h)) refl
      (record { lo = lo + 1; head_is_lem = here; holds_head = tt; floor = omega (arith, v.head.floor); top = omega (arith, v.head.top) })
      refl
      (λ enough a.
      moves refl refl
      (record {
        count = omega (arith, a.count);
        sum = a.sum;
        room = omega (arith, a.room);
        below = omega (arith, a.below);
        shows = shows_as (λ k. worker_load m (idx k)) (lo + 1) q.tasks a.shows (lo + 1 + 0) (omega arith);
        unwritten = λ has. absurd (omega arith);
      }))

  -- step 5 with the margin not kept
  pub steal_restore_head : (h : Index) (v : Sound g n m c (StealRestoreHead h)) → StealTurn v q i (StealRestoreHead h) (step_keeping g.margin i (bare g m) (StealRestoreHead h))
  steal_restore_head h v =
      let here : h ≡ idx (v.head.lo + 0) = idx_as v.head.lo (v.head.lo + 0) v.head.holds_head (omega arith) in
      stays v none [] h StealUnlockAbort refl
      (record { lo = v.head.lo; head_is_lem = here; holds_head = tt; floor = v.head.floor; top = v.head.top })
      refl
      (λ enough a. moves refl refl (agrees_inside refl a))

  -- step 6: the thief ends with the answer that it owes
  pub steal_unlock_lem :
      {own : ThiefCall} (v : Sound g n m c own) (effect : Effect) (o : Outcome)
      → [] ≡ told_in (thief_begun own) o effect
      → is_answer o ≡ true
      → thief_owes (denied g) (bare g m) own ≡ cond (g.is_told (thief_begun own) o) (o ∷ []) []
      → raised own ≡ 0
      → stolen own ≡ 0
      → ThiefTurn v q i own (ThiefStep i) effect (done o (after_thief (bare g m) m.head (record { holder = Nobody }) i ThiefCall.Idle))
  steal_unlock_lem {own = own} v effect o told answer owes level whole =
      let here : m.head ≡ idx (v.head.lo + 0) = idx_as (head_at v.head) (v.head.lo + 0) v.head.head_is_lem (omega arith) in
      record {
        outcome = o;
        told = [];
        head = m.head;
        lock = record { holder = Nobody };
        call = ThiefCall.Idle;
        inside = ThiefCall.Idle;
        is = refl;
        told_is = told;
        in_place = refl;
        others = λ j other apart place. held_outside m.lock.holder i j m.sizes.thieves own other held apart place;
        sound =
            reheaded v m.head (record { holder = Nobody }) i ThiefCall.Idle ThiefCall.Idle
            (record { lo = v.head.lo; head_is_lem = here; holds_head = tt; floor = v.head.floor; top = omega (arith, v.head.top) })
            (quiet, refl);
        turn = λ enough a. ends answer owes (agrees_inside whole a);
      }

-- ── Outside the lock ────────────────────────────────────────────────────────────────────────────────────────────────────────

module _ {g : Environment} {n : ℕ} {m : Machine} {c : WorkerCall} (q : PlainQueue) (i : ℕ) where
  -- step 1, on a machine with no thief inside
  enters :
      lock_is_free m ≡ true → i < m.sizes.thieves → locked c ≡ false → (v : Sound g n m c ThiefCall.Idle)
      → StealTurn v q i StealLock (thief_goes_on i StealLoadHead (with_lock (TheThief i) (bare g m)))
  enters free there quiet v =
      record {
        outcome = Moved;
        told = [];
        head = m.head;
        lock = record { holder = TheThief i };
        call = StealLoadHead;
        inside = StealLoadHead;
        is = refl;
        told_is = refl;
        in_place = holder_stays i m.sizes.thieves StealLoadHead there;
        others = λ j other apart place.
            others_stay i j m.sizes.thieves StealLoadHead other apart (free_outside m.lock.holder j m.sizes.thieves ThiefCall.Idle other free place);
        sound =
            reheaded v m.head (record { holder = TheThief i }) i StealLoadHead StealLoadHead
            (record { lo = v.head.lo; head_is_lem = v.head.head_is_lem; holds_head = tt; floor = v.head.floor; top = v.head.top })
            (quiet, refl);
        turn = λ enough a. moves refl refl (agrees_inside refl a);
      }

  module _ {p : ThiefCall} (v : Sound g n m c p) (there : i < m.sizes.thieves) where
    -- the thief's call is in its place
    abbrev Placed : ThiefCall → Type 0
    Placed own = InPlace (holds m.lock.holder i) m.sizes.thieves i p own

    pub steal_lock_lem : thief_call m i ≡ StealLock → Placed StealLock → StealTurn v q i StealLock (step_keeping g.margin i (bare g m) StealLock)
    steal_lock_lem at place =
        decide (λ d. StealTurn v q i StealLock (perform_thief i (bare g m) d)) (lock_is_free m)
        (λ free.
        let alone = free_quiet m.lock.holder (locked c) p free v.lock in
        subst (λ p. (v : Sound g n m c p) → StealTurn v q i StealLock (thief_goes_on i StealLoadHead (with_lock (TheThief i) (bare g m)))) (sym alone.1)
        (enters free there alone.0) v)
        (λ e. stayed v StealLock Wait at place refl refl)

    -- a step of the thief that is inside
    pub inside_step :
        {effect : Effect} (own : ThiefCall) (d : Done) → Placed own → outside own ≡ false
        → (m.lock.holder ≡ TheThief i → i < m.sizes.thieves → locked c ≡ false → (v : Sound g n m c own) → ThiefTurn v q i own (ThiefStep i) effect d)
        → ThiefTurn v q i own (ThiefStep i) effect d
    inside_step {effect = effect} own d place inside step =
        let holder = inside_holds m.lock.holder i m.sizes.thieves p own place inside in
        let quiet = subst (λ l. Exclusive l (locked c) p) holder.0 v.lock in
        subst (λ p. (v : Sound g n m c p) → ThiefTurn v q i own (ThiefStep i) effect d) holder.1 (step holder.0 there quiet.0) v

    -- ── The next step of the thief's call ───────────────────────────────────────────────────────────────────────────────────────

    -- where the plain queue is told of every steal
    pub thief_step : ((o : Outcome) → g.is_told a_steal o ≡ true) → (own : ThiefCall) → thief_call m i ≡ own → Placed own → StealTurn v q i own (step_keeping g.margin i (bare g m) own)
    thief_step told ThiefCall.Idle at place = stayed v ThiefCall.Idle Place at place refl refl
    thief_step told StealLock at place = steal_lock_lem at place
    thief_step told StealLoadHead at place = inside_step StealLoadHead _ place refl (steal_load_head q i)
    thief_step told (StealRaiseHead h) at place = inside_step (StealRaiseHead h) _ place refl (λ held there quiet. steal_raise_head q i held there quiet h)
    thief_step told (StealLoadTail h) at place = inside_step (StealLoadTail h) _ place refl (λ held there quiet v. steal_load_tail_lem q i held there quiet h v (told Abort))
    thief_step told (StealLoadSlot h) at place = inside_step (StealLoadSlot h) _ place refl (λ held there quiet. steal_load_slot q i held there quiet h)
    thief_step told (StealUnlockTask x) at place =
        inside_step (StealUnlockTask x) _ place refl (λ held there quiet v. steal_unlock_lem q i held there quiet v none (Task x) refl refl (ap (λ b. cond b (Task x ∷ []) []) (sym (told (Task x)))) refl refl)
    thief_step told (StealRestoreHead h) at place = inside_step (StealRestoreHead h) _ place refl (λ held there quiet. steal_restore_head q i held there quiet h)
    thief_step told StealUnlockAbort at place =
        inside_step StealUnlockAbort _ place refl (λ held there quiet v. steal_unlock_lem q i held there quiet v none Abort refl refl refl refl refl)

    -- ── Beginnings ──────────────────────────────────────────────────────────────────────────────────────────────────────────────

    abbrev BeginTurn : ThiefCall → Done → Type 0
    BeginTurn own d = ThiefTurn v q i own (BeginSteal i) none d

    begins : Placed ThiefCall.Idle → BeginTurn ThiefCall.Idle (thief_goes_on i StealLock (bare g m))
    begins place =
        record {
          outcome = Moved;
          told = [];
          head = m.head;
          lock = m.lock;
          call = StealLock;
          inside = p;
          is = refl;
          told_is = refl;
          in_place = outside_stays m.lock.holder i m.sizes.thieves (locked c) p ThiefCall.Idle StealLock v.lock refl refl place;
          others = λ j other apart place. place;
          sound = reheaded v m.head m.lock i StealLock p v.head v.lock;
          turn = λ enough a. moves refl refl (agrees_inside refl a);
        }

    runs : (own : ThiefCall) → thief_call m i ≡ own → Placed own → thief_runs own ≡ true → BeginTurn own (begin_steal i (bare g m))
    runs own at place running =
        subst (λ b. BeginTurn own (cond b (done Place (bare g m)) (thief_goes_on i StealLock (bare g m)))) (sym (ap thief_runs at ∙ running)) (refused v own Place at place refl refl)

    pub begin_steal_lem : (own : ThiefCall) → thief_call m i ≡ own → Placed own → BeginTurn own (begin_steal i (bare g m))
    begin_steal_lem ThiefCall.Idle at place =
        subst (λ b. BeginTurn ThiefCall.Idle (cond b (done Place (bare g m)) (thief_goes_on i StealLock (bare g m)))) (sym (ap thief_runs at)) (begins place)
    begin_steal_lem StealLock at place = runs StealLock at place refl
    begin_steal_lem StealLoadHead at place = runs StealLoadHead at place refl
    begin_steal_lem (StealRaiseHead h) at place = runs (StealRaiseHead h) at place refl
    begin_steal_lem (StealLoadTail h) at place = runs (StealLoadTail h) at place refl
    begin_steal_lem (StealLoadSlot h) at place = runs (StealLoadSlot h) at place refl
    begin_steal_lem (StealUnlockTask x) at place = runs (StealUnlockTask x) at place refl
    begin_steal_lem (StealRestoreHead h) at place = runs (StealRestoreHead h) at place refl
    begin_steal_lem StealUnlockAbort at place = runs StealUnlockAbort at place refl
