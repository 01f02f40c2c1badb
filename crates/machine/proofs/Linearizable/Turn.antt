-- What an entry has to show, of the machine and of the plain queue beside it.
use mathlib.Core.Path.{◌≡◌}
use mathlib.Core.List.{List}
use Prim.Native.Nat.{ℕ, ◌+◌}
use lib.ListN.{set}
use Rattle.claim.specs.PlainQueue.{Limits, Told, PlainQueue}
use Rattle.claim.specs.Calls.{Begun, Effect, begun_by}
use Rattle.claim.proofs.Turn as claim
use Rattle.claim.proofs.Turn.{told_in}
use Rattle.machine.specs.Types.{Done, Spacing, Entry, WorkerStep, ThiefStep, Index, Lock, Machine, Outcome, StoreBuffer, ThiefCall, WorkerCall, WorkerMove}
use Rattle.machine.specs.Machine.{done}
use Rattle.machine.specs.Effect.{effect_keeping, worker_effect}
use Rattle.machine.specs.Linearizable.{ff_the, limits, thief_owes, worker_owes}
use Rattle.machine.specs.Perform.{perform_worker}
use Rattle.machine.proofs.Linearizable.Invariant.{Enough, Environment, AgreesOn, bare, denied, InPlace, Sound, holds, thief_begun, worker_begun}

-- ── A party's turn ──────────────────────────────────────────────────────────────────────────────────────────────────────────

-- as any queue's, at an entry e; the plain queue is told of all that the worker does
abbrev pub Turn : Limits → Begun → List Outcome → PlainQueue → List Told → Outcome → Entry → Begun → List Outcome → (PlainQueue → Type 0) → Type 0
Turn l b owed q told o e b' owed' A = claim.Turn ff_the.is_told l b owed q told o (begun_by e) b' owed' A

-- ── The worker's entries, apart from a drain ────────────────────────────────────────────────────────────────────────────────

-- they leave alone the slots, head, memory's tail, and the thieves
abbrev pub after_worker : Machine → Lock → StoreBuffer → Spacing → WorkerCall → Machine
after_worker m l b spacing c =
    record {
      sizes = m.sizes;
      slots = m.slots;
      head = m.head;
      tail = m.tail;
      lock = l;
      buffer = b;
      spacing = spacing;
      worker = record { call = c };
      thieves = m.thieves;
    }

-- An entry e of the worker's with the result d, from a sound machine and the plain queue q.
pub record WorkerTurn {g : Environment} {n : ℕ} {m : Machine} {c : WorkerCall} {p : ThiefCall} (v : Sound g n m c p) (q : PlainQueue) (e : Entry)
    (effect : Outcome → Effect) (d : Done) : Type 0 where
  pub outcome : Outcome
  pub told : List Told
  pub lock : Lock
  pub buffer : StoreBuffer
  pub spacing : Spacing
  pub call : WorkerCall
  pub is : done outcome (after_worker m lock buffer spacing call) ≡ d
  pub told_is : told ≡ told_in (worker_begun m c) outcome (effect outcome)
  -- no thief gets the lock or loses it
  pub holder : (i : ℕ) → holds lock.holder i ≡ holds m.lock.holder i
  pub sound : Sound g (n + 1) (after_worker m lock buffer spacing call) call p
  pub turn :
      AgreesOn v q
      → Turn (limits m.sizes) (worker_begun m c) (worker_owes m c) q told outcome e
      (worker_begun (after_worker m lock buffer spacing call) call)
      (worker_owes (after_worker m lock buffer spacing call) call)
      (AgreesOn sound)

-- a step of its call
abbrev pub StepTurn : {g : Environment} {n : ℕ} {m : Machine} {c : WorkerCall} {p : ThiefCall} → Sound g n m c p → PlainQueue → Done → Type 0
StepTurn {m = m} {c = c} v q d = WorkerTurn v q WorkerStep (λ o. worker_effect o m c) d

-- a step of its call, by what it does
abbrev pub MoveTurn : {g : Environment} {n : ℕ} {m : Machine} {c : WorkerCall} {p : ThiefCall} → Sound g n m c p → PlainQueue → WorkerMove → Type 0
MoveTurn {m = m} v q d = StepTurn v q (perform_worker m d)

-- ── A thief's entries ───────────────────────────────────────────────────────────────────────────────────────────────────────

-- they leave alone the slots, memory's tail, the pending stores, and the worker
abbrev pub after_thief : Machine → Index → Lock → ℕ → ThiefCall → Machine
after_thief m h l i c =
    record {
      sizes = m.sizes;
      slots = m.slots;
      head = h;
      tail = m.tail;
      lock = l;
      buffer = m.buffer;
      spacing = m.spacing;
      worker = m.worker;
      thieves = set m.thieves i (record { call = c });
    }

-- An entry e of thief i, whose call is `own`, with the result d, from a sound machine and the plain queue q.
pub record ThiefTurn {g : Environment} {n : ℕ} {m : Machine} {c : WorkerCall} {p : ThiefCall} (v : Sound g n m c p) (q : PlainQueue) (i : ℕ) (own : ThiefCall)
    (e : Entry) (effect : Effect) (d : Done) : Type 0 where
  pub outcome : Outcome
  pub told : List Told
  pub head : Index
  pub lock : Lock
  pub call : ThiefCall
  -- the call of the thief inside, afterwards
  pub inside : ThiefCall
  pub is : done outcome (after_thief (bare g m) head lock i call) ≡ d
  pub told_is : told ≡ told_in (thief_begun own) outcome effect
  -- every thief is in its place, inside the lock or outside
  pub in_place : InPlace (holds lock.holder i) m.sizes.thieves i inside call
  pub others :
      (j : ℕ) (other : ThiefCall) → (j ≡ i → ⊥) → InPlace (holds m.lock.holder j) m.sizes.thieves j p other
      → InPlace (holds lock.holder j) m.sizes.thieves j inside other
  pub sound : Sound g (n + 1) (after_thief m head lock i call) c inside
  pub turn :
      Enough g m.sizes
      → AgreesOn v q
      → claim.Turn g.is_told (limits m.sizes) (thief_begun own) (thief_owes (denied g) (bare g m) own) q told outcome (begun_by e)
      (thief_begun call)
      (thief_owes (denied g) (after_thief (bare g m) head lock i call) call)
      (AgreesOn sound)

-- a step of its call
abbrev pub StealTurn : {g : Environment} {n : ℕ} {m : Machine} {c : WorkerCall} {p : ThiefCall} → Sound g n m c p → PlainQueue → ℕ → ThiefCall → Done → Type 0
StealTurn {g = g} {m = m} v q i own d = ThiefTurn v q i own (ThiefStep i) (effect_keeping g.margin (bare g m) own) d
