-- A take is too early where a reader of entries and outcomes says so: the machine's count is the reader's, and one more within a put that has made its first store.
use mathlib.Core.Path.{◌≡◌, refl, ap, sym, ◌∙◌, subst}
use mathlib.Core.Bool.{Bool, true, false, not, ◌&&◌, false≢true}
use mathlib.Core.List.{List, [], ◌∷◌}
use Prim.Native.Nat.{ℕ, ◌+◌, ◌-◌}
use native.Mathlib.Omega.{arith}
use lib.Dec.{ltb}
use Rattle.terms.specs.Kinds.{thief_is_there}
use Rattle.terms.proofs.Laws.Tests.{by_test, cond_map, decide, either}
use Rattle.stores.specs.Lock.{is_nobody}
use Rattle.stores.specs.Spacing.{counted, counted_in, take_begins, too_early}
use Rattle.machine.specs.Worker.{at_end, at_or_above_head, head_is_past, is_full, worker_move, worker_runs}
use Rattle.machine.specs.Thief.{thief_runs}
use Rattle.machine.specs.Machine.{fresh, has_room, nothing_pending, thief_call}
use Rattle.machine.specs.Update.{with_spacing}
use Rattle.machine.specs.InRange.{in_range}
use Rattle.machine.specs.Entries.{worker_goes_on}
use Rattle.machine.specs.Obey.{machine_after, obey, obey_in_range, outcomes_of}
use Rattle.machine.specs.Perform.{worker_view}
use Rattle.machine.proofs.Laws.Obey.{obey_by, sizes_kept_lem}
use Rattle.properties.specs.Types.{Done, Entry, Drain, ClientStore, BeginPut, BeginTake, WorkerStep, BeginSteal, ThiefStep, Machine, Wait, Spacing, WorkerCall, PutLoadHead, PutStoreSlot, PutStoreTail, TakeStoreTail, TakeLoadHead, TakeLoadSlot, TakeLock, TakeReloadHead, TakeRestoreTail, TakeUnlockEmpty, TakeUnlockTask, TakeLoadLastSlot, WorkerMove, WorkerView}
use Rattle.properties.specs.CallLength.{CallKind, none, put, take, steal, none_runs}
use Rattle.properties.specs.TakesApart.{SinceTake, TakesApart, at_first, is_early, since_take, since_then}
use Rattle.properties.proofs.CallLength.{worker_idle, worker_made}

-- the stores that a call of the worker's has made and that count, though it has not answered: a put stores from its second step on
abbrev counting : CallKind → ℕ → ℕ
counting none n = 0
counting put n = n - 1
counting take n = 0
counting steal n = 0

abbrev within_put : WorkerCall → ℕ
within_put c = counting (worker_made c).kind (worker_made c).steps

idle_within : (c : WorkerCall) → worker_runs c ≡ false → within_put c ≡ 0
idle_within c idle = go (worker_made c).kind (worker_idle c idle)
  where
    go : (k : CallKind) → none_runs k ≡ true → counting k (worker_made c).steps ≡ 0
    go none e = refl
    go put e = absurd (false≢true e)
    go take e = refl
    go steal e = refl

-- the machine's count, by the reader's and by what a put has stored
record Seen (c : SinceTake) (s : Spacing) (more : ℕ) : Type 0 where
  same : s.begun ≡ c.begun
  count : s.begun ≡ true → s.count ≡ c.stores + more

-- ── Each step ───────────────────────────────────────────────────────────────────────────────────────────────────────────────

module _ (c : SinceTake) (s : Spacing) where
  -- one more store that counts, which the reader sees now, or has yet to see
  one_more_lem : {more more' : ℕ} {c' : SinceTake} → Seen c s more → c.begun ≡ c'.begun → c.stores + more + 1 ≡ c'.stores + more' → Seen c' (counted s) more'
  one_more_lem seen same stores = record { same = seen.same ∙ same; count = λ begun. rw begun (omega (arith, seen.count begun, stores)) }

  abbrev StepSeen : WorkerCall → WorkerMove → Type 0
  StepSeen k d = Seen c s (within_put k) → Seen (since_then c WorkerStep d.outcome) (counted_in d.push s) (within_put d.call)

  -- a step that is refused leaves the call as it was
  refused : {k : WorkerCall} (v : WorkerView) → v.call ≡ k → Seen c s (within_put k) → Seen c s (within_put v.call)
  refused v same = subst (λ call. Seen c s (within_put call)) (sym same)

  step_seen : (k : WorkerCall) (v : WorkerView) → v.call ≡ k → StepSeen k (worker_move k v)
  step_seen WorkerCall.Idle v same = refused v same
  step_seen (PutLoadHead x) v same = either (StepSeen (PutLoadHead x)) (at_end v) (λ e. e) (either (StepSeen (PutLoadHead x)) (is_full v) (λ e. e) (λ e. e))
  step_seen (PutStoreSlot x) v same = either (StepSeen (PutStoreSlot x)) v.room (λ e. one_more_lem e refl (omega arith)) (refused v same)
  step_seen PutStoreTail v same = either (StepSeen PutStoreTail) v.room (λ e. one_more_lem e refl (omega arith)) (refused v same)
  step_seen TakeStoreTail v same = either (StepSeen TakeStoreTail) v.room (λ e. e) (refused v same)
  step_seen (TakeLoadHead t) v same = either (StepSeen (TakeLoadHead t)) (at_or_above_head t v) (λ e. e) (λ e. e)
  step_seen (TakeLoadSlot t) v same = λ e. e
  step_seen (TakeLock t) v same = either (StepSeen (TakeLock t)) (is_nobody v.lock.holder && v.drained) (λ e. e) (refused v same)
  step_seen (TakeReloadHead t) v same = either (StepSeen (TakeReloadHead t)) (head_is_past t v) (λ e. e) (λ e. e)
  step_seen (TakeRestoreTail t) v same = either (StepSeen (TakeRestoreTail t)) v.room (λ e. e) (refused v same)
  step_seen TakeUnlockEmpty v same = either (StepSeen TakeUnlockEmpty) v.drained (λ e. e) (refused v same)
  step_seen (TakeUnlockTask t) v same = either (StepSeen (TakeUnlockTask t)) v.drained (λ e. e) (refused v same)
  step_seen (TakeLoadLastSlot t) v same = λ e. e

-- ── Each entry ──────────────────────────────────────────────────────────────────────────────────────────────────────────────

abbrev SeenOn : SinceTake → Machine → Type 0
SeenOn c m = Seen c m.spacing (within_put m.worker.call)

module _ (c : SinceTake) (m : Machine) (seen : SeenOn c m) where
  abbrev EntrySeen : Entry → Done → Type 0
  EntrySeen e d = SeenOn (since_then c e d.outcome) d.machine

  idle_seen : worker_runs m.worker.call ≡ false → Seen c m.spacing 0
  idle_seen idle = subst (Seen c m.spacing) (idle_within m.worker.call idle) seen

  in_range_seen : (e : Entry) → EntrySeen e (obey_in_range m e)
  in_range_seen Drain = either (EntrySeen Drain) (not (nothing_pending m)) seen seen
  in_range_seen ClientStore =
      either (EntrySeen ClientStore) (worker_runs m.worker.call) seen
      (either (EntrySeen ClientStore) (has_room m) (one_more_lem c m.spacing seen refl (omega arith)) seen)
  in_range_seen (BeginPut x) = decide (EntrySeen (BeginPut x)) (worker_runs m.worker.call) (λ runs. seen) idle_seen
  in_range_seen BeginTake =
      either (EntrySeen BeginTake) (worker_runs m.worker.call) seen
      (either (EntrySeen BeginTake) (too_early m.spacing m.sizes.spacing) {y = worker_goes_on TakeStoreTail (with_spacing take_begins m)} seen
      (record { same = refl; count = λ begun. refl }))
  in_range_seen WorkerStep = step_seen c m.spacing m.worker.call (worker_view m m.worker.call) refl seen
  in_range_seen (BeginSteal i) = either (EntrySeen (BeginSteal i)) (thief_runs (thief_call m i)) seen seen
  in_range_seen (ThiefStep i) = seen

  waits : (e : Entry) → since_then c e Wait ≡ c
  waits Drain = refl
  waits ClientStore = refl
  waits (BeginPut x) = refl
  waits BeginTake = refl
  waits WorkerStep = refl
  waits (BeginSteal i) = refl
  waits (ThiefStep i) = refl

  entry_seen : (e : Entry) → EntrySeen e (obey m e)
  entry_seen e = either (EntrySeen e) (in_range m && thief_is_there m.sizes e) (in_range_seen e) (subst (λ c'. SeenOn c' m) (sym (waits e)) seen)

-- ── A list ──────────────────────────────────────────────────────────────────────────────────────────────────────────────────

run_seen : (c : SinceTake) (m : Machine) (es : List Entry) → SeenOn c m → SeenOn (since_take c es (outcomes_of m es)) (machine_after m es)
run_seen c m [] seen = seen
run_seen c m (e ∷ es) seen = run_seen (since_then c e (obey m e).outcome) (obey m e).machine es (entry_seen c m seen e)

run_sizes : (m : Machine) (es : List Entry) → (machine_after m es).sizes ≡ m.sizes
run_sizes m [] = refl
run_sizes m (e ∷ es) = run_sizes (obey m e).machine es ∙ sizes_kept_lem m e

-- machine and reader judge alike where no put is on its way
judged_alike : (c : SinceTake) (s : Spacing) (spacing : ℕ) → Seen c s 0 → too_early s spacing ≡ is_early spacing c
judged_alike c s spacing seen = go s.begun refl
  where
    go : (b : Bool) → s.begun ≡ b → too_early s spacing ≡ is_early spacing c
    go true begun = rw (sym seen.same, begun) (ap (λ n. ltb n spacing) (omega (arith, seen.count begun)))
    go false free = rw (sym seen.same, free)

pub takes_apart : TakesApart
takes_apart s es ready idle =
    let m = machine_after (fresh s) es in
    let seen = idle_seen _ m (run_seen at_first (fresh s) es (record { same = refl; count = λ begun. refl })) idle in
    ap (λ (d : Done). d.outcome) (obey_by m BeginTake (ap (λ t. t && true) ready) ∙ by_test _ _ idle)
    ∙ sym (cond_map (λ (d : Done). d.outcome) (too_early m.spacing m.sizes.spacing) refl refl)
    ∙ by_test _ _ (ap (too_early m.spacing) (ap (λ z. z.spacing) (run_sizes (fresh s) es)) ∙ judged_alike _ m.spacing s.spacing seen)
