-- The stores that lower the tail are those that take step 1 makes: each pending store does, from the tail before it, exactly where take step 1 made it.
use mathlib.Core.Path.{◌≡◌, refl, ap, sym, ◌∙◌}
use mathlib.Core.Bool.{Bool, true, false, cond, not, ◌&&◌}
use mathlib.Core.List.{List, [], ◌∷◌, ◌++◌, append-nil, foldl}
use Prim.Native.Nat.{ℕ, ◌+◌, ◌-◌, ◌≤◌, ◌<◌}
use native.Mathlib.Omega.{arith}
use lib.ListN.{drop, length}
use lib.Signed.{lt_z}
use borrow.Author.Tests.{le-ltb, lt-ltb, ltb-true}
use Rattle.terms.specs.Outcome.{is_refusal}
use Rattle.terms.specs.Kinds.{thief_is_there}
use Rattle.terms.proofs.Laws.Tests.{decide, either}
use Rattle.stores.specs.Index.{next, previous}
use Rattle.stores.specs.Lock.{is_nobody}
use Rattle.stores.specs.Spacing.{too_early}
use Rattle.stores.specs.StoreBuffer.{drop_oldest, lowers_tail, newest_tail, oldest, pending, pushed_in, tail_after, take_stores}
use Rattle.stores.proofs.Laws.Index.{idx, idx_lt, idx_next, idx_previous}
use Rattle.stores.proofs.Laws.Pending.{seen_tail}
use Rattle.stores.proofs.Laws.StoreBuffer.{pending_dropped, PushFits, push_pending}
use Rattle.claim.specs.Watch.{Watch, watch_after, watch_fresh}
use Rattle.machine.specs.Worker.{at_end, at_or_above_head, head_is_past, is_full, worker_move, worker_runs}
use Rattle.machine.specs.Thief.{thief_move, thief_runs}
use Rattle.machine.specs.Machine.{fresh, has_room, nothing_pending, thief_call}
use Rattle.machine.specs.InRange.{in_range}
use Rattle.machine.specs.Linearizable.{ff_the}
use Rattle.machine.specs.Obey.{machine_after, obey, obey_in_range}
use Rattle.machine.specs.Perform.{thief_view, worker_view}
use Rattle.machine.proofs.Laws.Worker.{push_fits}
use Rattle.machine.proofs.Linearizable.Drain.{some_pending}
use Rattle.machine.proofs.Linearizable.Invariant.{HoldsTail, lowered}
use Rattle.machine.proofs.Linearizable.Plain.{Plain, entry_keeps}
use Rattle.machine.proofs.Linearizable.Theorem.{fresh_plain}
use Rattle.properties.specs.Types.{Done, Entry, Drain, ClientStore, BeginPut, BeginTake, WorkerStep, BeginSteal, ThiefStep, Index, Machine, Sizes, Option, Maker, StoreKind, None, Some, TheClient, Client, Tail, Store, StoreBuffer, WorkerCall, PutLoadHead, PutStoreSlot, PutStoreTail, TakeStoreTail, TakeLoadHead, TakeLoadSlot, TakeLock, TakeReloadHead, TakeRestoreTail, TakeUnlockEmpty, TakeUnlockTask, TakeLoadLastSlot, WorkerMove, WorkerView}
use Rattle.properties.specs.TakeStores.{TakeStoresAreTakes, how_many, made_after, made_by, made_by_step, made_then}

-- ── Which stores of a list lower the tail ───────────────────────────────────────────────────────────────────────────────────

abbrev lowering : Index → List Store → List Bool
lowering t [] = []
lowering t (a ∷ b) = lowers_tail t a.kind ∷ lowering (tail_after t a.kind) b

lowering_counted : (t : Index) (l : List Store) → how_many (lowering t l) ≡ take_stores t l
lowering_counted t [] = refl
lowering_counted t (a ∷ b) = ap (λ n. cond (lowers_tail t a.kind) 1 0 + n) (lowering_counted (tail_after t a.kind) b)

lowering_snoc : (t : Index) (l : List Store) (s : Store) → lowering t (l ++ (s ∷ [])) ≡ lowering t l ++ (lowers_tail (foldl (λ u s. tail_after u s.kind) t l) s.kind ∷ [])
lowering_snoc t [] s = refl
lowering_snoc t (a ∷ l) s = ap (λ r. lowers_tail t a.kind ∷ r) (lowering_snoc (tail_after t a.kind) l s)

-- of the store that an entry makes, if it makes one
abbrev lowering_push : Index → Option (Maker × StoreKind) → List Bool
lowering_push t None = []
lowering_push t (Some (w, k)) = lowers_tail t k ∷ []

pushed_lowering : (t : Index) (b : StoreBuffer) (p : Option (Maker × StoreKind)) → length b.stores ≡ 64 → PushFits 64 p b.count
    → lowering t (pending (pushed_in p b)) ≡ lowering t (pending b) ++ lowering_push (newest_tail t b) p
pushed_lowering t b None long fits = sym (append-nil (lowering t (pending b)))
pushed_lowering t b (Some (w, k)) long fits = ap (lowering t) (push_pending (record { kind = k }) b (omega arith)) ∙ lowering_snoc t (pending b) (record { kind = k })

-- .. pending in a machine
abbrev lowering_in : Machine → List Bool
lowering_in m = lowering m.tail (pending m.buffer)

-- ── Each step ───────────────────────────────────────────────────────────────────────────────────────────────────────────────

-- a refused step makes no store; any other makes take step 1's, another, or none, as its call says
abbrev StepMakes : WorkerCall → WorkerView → WorkerMove → Type 0
StepMakes c v d = lowering_push v.tail d.push ≡ cond (is_refusal d.outcome) [] (made_by_step c)

module _ (start seen : ℕ) (v : WorkerView) (tail_is_lem : v.tail ≡ idx seen) where
  lower : start + 1 ≤ seen → lowers_tail v.tail (Tail (previous v.tail)) ≡ true
  lower floor =
      ap (λ t. lt_z (previous t).at t.at) tail_is_lem
      ∙ ap (λ t. lt_z t.at (idx seen).at) (idx_previous seen (omega arith))
      ∙ idx_lt (seen - 1) seen
      ∙ lt-ltb (seen - 1) seen (omega arith)

  raise : (t : Index) → t ≡ idx seen → lowers_tail v.tail (Tail (next t)) ≡ false
  raise t is =
      (λ i. lt_z (next (is i)).at (tail_is_lem i).at)
      ∙ ap (λ t. lt_z t.at (idx seen).at) (idx_next seen)
      ∙ idx_lt (seen + 1) seen
      ∙ le-ltb (seen + 1) seen (omega arith)

  step_makes : (c : WorkerCall) → HoldsTail c seen → start + 1 ≤ seen + lowered c → StepMakes c v (worker_move c v)
  step_makes WorkerCall.Idle holds floor = refl
  step_makes (PutLoadHead x) holds floor = either (StepMakes (PutLoadHead x) v) (at_end v) refl (either (StepMakes (PutLoadHead x) v) (is_full v) refl refl)
  step_makes (PutStoreSlot x) holds floor = either (StepMakes (PutStoreSlot x) v) v.room refl refl
  step_makes PutStoreTail holds floor = either (StepMakes PutStoreTail v) v.room (ap (λ b. b ∷ []) (raise v.tail tail_is_lem)) refl
  step_makes TakeStoreTail holds floor = either (StepMakes TakeStoreTail v) v.room (ap (λ b. b ∷ []) (lower (omega arith))) refl
  step_makes (TakeLoadHead t) holds floor = either (StepMakes (TakeLoadHead t) v) (at_or_above_head t v) refl refl
  step_makes (TakeLoadSlot t) holds floor = refl
  step_makes (TakeLock t) holds floor = either (StepMakes (TakeLock t) v) (is_nobody v.lock.holder && v.drained) refl refl
  step_makes (TakeReloadHead t) holds floor = either (StepMakes (TakeReloadHead t) v) (head_is_past t v) refl refl
  step_makes (TakeRestoreTail t) holds floor = either (StepMakes (TakeRestoreTail t) v) v.room (ap (λ b. b ∷ []) (raise t holds)) refl
  step_makes TakeUnlockEmpty holds floor = either (StepMakes TakeUnlockEmpty v) v.drained refl refl
  step_makes (TakeUnlockTask t) holds floor = either (StepMakes (TakeUnlockTask t) v) v.drained refl refl
  step_makes (TakeLoadLastSlot t) holds floor = refl

-- ── Each entry ──────────────────────────────────────────────────────────────────────────────────────────────────────────────

-- what was refused has added nothing
none_added : (refused : Bool) (made more : List Bool) → cond refused made (made ++ more) ≡ made ++ cond refused [] more
none_added true made more = sym (append-nil made)
none_added false made more = refl

-- an entry with the result d has left as many
abbrev Made : Machine → Entry → Done → Type 0
Made m e d = cond (is_refusal d.outcome) (lowering_in m) (made_then m (lowering_in m) e) ≡ lowering_in d.machine

module _ {s : Sizes} {n : ℕ} {w : Watch Machine} (v : Plain s n w) where
  abbrev m : Machine
  m = w.machine

  with_room : has_room m ≡ true → m.buffer.count < 64
  with_room room = omega (arith, ltb-true m.buffer.count m.sizes.buffer room, v.sound.sizes.buffer_most)

  worker_made : Made m WorkerStep (obey_in_range m WorkerStep)
  worker_made =
      let b = v.sound.buffer in
      let c = m.worker.call in
      let d = worker_move c (worker_view m c) in
      none_added (is_refusal d.outcome) (lowering_in m) (made_by_step c)
      ∙ ap (λ more. lowering_in m ++ more) (sym (step_makes m.sizes.start b.seen (worker_view m c) (seen_tail b) c v.sound.tail.holds_tail v.sound.tail.floor))
      ∙ sym (pushed_lowering m.tail m.buffer d.push b.cells (push_fits 64 m.buffer.count (worker_view m c) with_room c))

  drained_made : not (nothing_pending m) ≡ true → drop 1 (lowering_in m) ≡ lowering (tail_after m.tail (oldest m.buffer).kind) (pending (drop_oldest m.buffer))
  drained_made some =
      let b = v.sound.buffer in
      ap (λ l. drop 1 (lowering m.tail l)) (pending_dropped m.buffer (some_pending m some) (omega (arith, b.cells, b.fits, v.sound.sizes.buffer_most)))

  in_range_made : (e : Entry) → Made m e (obey_in_range m e)
  in_range_made Drain = decide (Made m Drain) (not (nothing_pending m)) drained_made (λ none. refl)
  in_range_made ClientStore =
      either (Made m ClientStore) (worker_runs m.worker.call) refl
      (decide (Made m ClientStore) (has_room m) (λ room. sym (pushed_lowering m.tail m.buffer (Some (TheClient, Client)) v.sound.buffer.cells (with_room room))) (λ full. refl))
  in_range_made (BeginPut x) = either (Made m (BeginPut x)) (worker_runs m.worker.call) refl refl
  in_range_made BeginTake = either (Made m BeginTake) (worker_runs m.worker.call) refl (either (Made m BeginTake) (too_early m.spacing m.sizes.spacing) refl refl)
  in_range_made WorkerStep = worker_made
  in_range_made (BeginSteal i) = either (Made m (BeginSteal i)) (thief_runs (thief_call m i)) refl refl
  in_range_made (ThiefStep i) = either (λ l. l ≡ lowering_in m) (is_refusal (thief_move (thief_call m i) (thief_view m i (thief_call m i))).outcome) refl refl

  entry_made : (e : Entry) → made_after m (lowering_in m) e ≡ lowering_in (obey m e).machine
  entry_made e = either (Made m e) (in_range m && thief_is_there m.sizes e) (in_range_made e) refl

-- ── A list of entries ───────────────────────────────────────────────────────────────────────────────────────────────────────

list_made : (s : Sizes) (n : ℕ) (w : Watch Machine) (es : List Entry) → Plain s n w → made_by w.machine (lowering_in w.machine) es ≡ lowering_in (machine_after w.machine es)
list_made s n w [] v = refl
list_made s n w (e ∷ es) v =
    ap (λ made. made_by (obey w.machine e).machine made es) (entry_made v e) ∙ list_made s (n + 1) (watch_after ff_the w e) es (entry_keeps v e).next

pub take_stores_are_takes : TakeStoresAreTakes
take_stores_are_takes s es ranged =
    let m = machine_after (fresh s) es in
    ap how_many (list_made s 0 (watch_fresh ff_the s) es (fresh_plain s ranged)) ∙ lowering_counted m.tail (pending m.buffer)
