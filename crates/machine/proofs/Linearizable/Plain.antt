-- Every entry keeps the invariant where nothing lies between memory and buffer, as on the machine of paper 01.
use mathlib.Core.Path.{◌≡◌, refl, ap, ◌∙◌, subst}
use mathlib.Core.Bool.{Bool, true, not, ◌&&◌}
use Prim.Native.Nat.{ℕ, ◌<◌}
use native.Mathlib.Nat.{zero-add}
use borrow.Author.Tests.{leb-true, ltb-true}
use Rattle.terms.specs.Sizes.{enough_margin, margin_in_use, needed_margin}
use Rattle.terms.specs.Kinds.{thief_is_there}
use Rattle.terms.proofs.Laws.Tests.{and_right, decide}
use Rattle.claim.specs.Calls.{Effect, none, worker, thief, begun_by, party_of, Begun, nothing, Party, PartyCall}
use Rattle.claim.specs.Watch.{Watch}
use Rattle.claim.specs.PlainQueue.{PlainQueue}
use Rattle.machine.specs.Types.{Done, Entry, Drain, ClientStore, BeginPut, BeginTake, WorkerStep, BeginSteal, ThiefStep, Machine, Sizes, Outcome, Moved}
use Rattle.machine.specs.Machine.{nothing_pending, thief_call, done}
use Rattle.machine.specs.InRange.{in_range}
use Rattle.machine.specs.Update.{with_memory}
use Rattle.machine.specs.Obey.{obey, obey_in_range}
use Rattle.machine.specs.Effect.{effect_of, thief_effect}
use Rattle.machine.specs.Entries.{drained}
use Rattle.machine.proofs.Linearizable.Invariant.{Enough, Invariant, plain, plain_telling, worker_begun}
use Rattle.machine.proofs.Linearizable.Turn.{ThiefTurn, WorkerTurn}
use Rattle.machine.proofs.Linearizable.Drain.{drain_settles, some_pending}
use Rattle.machine.proofs.Linearizable.Run.{Kept, by_a_thief, by_nobody, by_settling, by_the_worker, steal_begins, thief_cell, thief_steps, worker_entry_lem}

-- ── Whichever calls the plain queue is told of ──────────────────────────────────────────────────────────────────────────────

module _ {is_told : Begun → Outcome → Bool} {s : Sizes} {n : ℕ} {m : Machine} {q : PlainQueue} {cs : Party → PartyCall} (v : Invariant (enough_margin s ≡ true) s n (plain_telling is_told m) m q cs) where
  -- an entry of party p with the result d and the effect f
  abbrev pub KeptAs : Party → Begun → Effect → Done → Type 0
  KeptAs p begins f d = Kept (enough_margin s ≡ true) s n q cs p begins d.outcome f (plain_telling is_told d.machine) d.machine

  enough_here : enough_margin s ≡ true → Enough (plain_telling is_told m) m.sizes
  enough_here enough =
      let z = m.sizes in
      rw zero-add (leb-true (needed_margin z.buffer z.spacing) (margin_in_use z) (ap enough_margin v.sizes_are ∙ enough))

  -- the worker's entries, and those of thieves, leave memory as it is

  pub by_worker : ((o : Outcome) → is_told (worker_begun m m.worker.call) o ≡ true) → (e : Entry) {d : Done} (f : Outcome → Effect) → WorkerTurn v.sound q e f d → KeptAs worker (begun_by e) (f d.outcome) d
  by_worker told e {d = d} f t =
      subst (λ g. Kept (enough_margin s ≡ true) s n q cs worker (begun_by e) d.outcome (f d.outcome) g d.machine) (ap (λ d. plain_telling is_told d.machine) t.is)
      (by_the_worker v told e f t)

  pub by_thief : (i : ℕ) (e : Entry) {d : Done} (f : Effect) → i < m.sizes.thieves → ThiefTurn v.sound q i (thief_call m i) e f d → KeptAs (thief i) (begun_by e) f d
  by_thief i e {d = d} f few t =
      subst (λ g. Kept (enough_margin s ≡ true) s n q cs (thief i) (begun_by e) d.outcome f g d.machine) (ap (λ d. plain_telling is_told d.machine) t.is)
      (subst (Kept (enough_margin s ≡ true) s n q cs (thief i) (begun_by e) d.outcome f (plain_telling is_told m))
      (subst (λ d. with_memory m.slots m.tail d.machine.buffer d.machine ≡ d.machine) t.is refl)
      (by_a_thief v i e f enough_here (thief_cell v i few) t))

  -- a drain moves the oldest store to memory
  pub by_draining : not (nothing_pending m) ≡ true → KeptAs worker nothing none (done Moved (drained m))
  by_draining some = by_settling v (drain_settles v.sound (some_pending m some))

-- ── FF-THE, where it is told of all ─────────────────────────────────────────────────────────────────────────────────────────

abbrev pub Plain : Sizes → ℕ → Watch Machine → Type 0
Plain s n w = Invariant (enough_margin s ≡ true) s n (plain w.machine) w.machine w.queue w.calls

module _ {s : Sizes} {n : ℕ} {w : Watch Machine} (v : Plain s n w) where
  -- what an entry with the result d has to show
  abbrev pub KeptBy : Entry → Done → Type 0
  KeptBy e d = KeptAs v (party_of e) (begun_by e) (effect_of d.outcome w.machine e) d

  worker_keeps : (e : Entry) {d : Done} → WorkerTurn v.sound w.queue e (λ o. effect_of o w.machine e) d → KeptAs v worker (begun_by e) (effect_of d.outcome w.machine e) d
  worker_keeps e t = by_worker v (λ o. refl) e (λ o. effect_of o w.machine e) t

  -- an entry on a machine in range, by a thief that is there
  in_range_lem : (e : Entry) → thief_is_there w.machine.sizes e ≡ true → KeptBy e (obey_in_range w.machine e)
  in_range_lem Drain there = decide (KeptBy Drain) (not (nothing_pending w.machine)) (by_draining v) (λ e. by_nobody v worker _ _)
  in_range_lem ClientStore there = worker_keeps ClientStore (worker_entry_lem v ClientStore refl)
  in_range_lem (BeginPut x) there = worker_keeps (BeginPut x) (worker_entry_lem v (BeginPut x) refl)
  in_range_lem BeginTake there = worker_keeps BeginTake (worker_entry_lem v BeginTake refl)
  in_range_lem WorkerStep there = worker_keeps WorkerStep (worker_entry_lem v WorkerStep refl)
  in_range_lem (BeginSteal i) there = let few = ltb-true i w.machine.sizes.thieves there in by_thief v i (BeginSteal i) none few (steal_begins v i few)
  in_range_lem (ThiefStep i) there =
      let few = ltb-true i w.machine.sizes.thieves there in
      by_thief v i (ThiefStep i) (thief_effect w.machine (thief_call w.machine i)) few (thief_steps v (λ o. refl) i few)

  -- every entry
  pub entry_keeps : (e : Entry) → KeptBy e (obey w.machine e)
  entry_keeps e =
      decide (KeptBy e) (in_range w.machine && thief_is_there w.machine.sizes e)
      (λ met. in_range_lem e (and_right (in_range w.machine) (thief_is_there w.machine.sizes e) met))
      (λ e'. by_nobody v (party_of e) _ _)
