-- What an entry has to show, of the machine and of the plain queue beside it; and the ways to show it that several entries of the worker's share.
use mathlib.Core.Path.{◌≡◌, refl, ap, sym, subst}
use mathlib.Core.Bool.{true, false, cond, false≢true}
use mathlib.Core.List.{List, [], ◌∷◌}
use Prim.Native.Nat.{ℕ, ◌+◌, ◌≤◌}
use native.Mathlib.Omega.{arith}
use lib.ListN.{get_or}
use Rattle.terms.specs.Outcome.{is_answer, is_refusal}
use Rattle.stores.proofs.Laws.Spacing.{asked}
use Rattle.claim.specs.PlainQueue.{PlainQueue, Told}
use Rattle.claim.specs.Calls.{Begun, nothing, Effect, Party, worker, thief, same_party}
use Rattle.claim.proofs.Entries.{EntryTurn}
use Rattle.claim.proofs.Turn.{Turn, ends, refuses, told_in}
use Rattle.cas.specs.Types.{Done, Machine, Outcome, Option, Maker, StoreKind, ThiefCall, WorkerCall, WorkerMove}
use Rattle.cas.specs.Worker.{answers, stays}
use Rattle.cas.specs.Thief.{idle_thief}
use Rattle.cas.specs.Machine.{worker_load, worker_tail}
use Rattle.cas.specs.Entries.{perform_worker, worker_view}
use Rattle.cas.specs.Linearizable.{ff_cl, limits, owes, worker_effect, worker_owes}
use Rattle.cas.proofs.Linearizable.Invariant.{AgreesOn, Holds, HoldsBeside, Sound, begun_of, filling, lowered, thief_begun, worker_begun}
use Rattle.cas.proofs.Linearizable.Rebuild.{after_worker, agrees_call, recalled}

-- ── A party's turn ──────────────────────────────────────────────────────────────────────────────────────────────────────────

-- an entry of the worker's, from a sound machine and the plain queue q, that begins `next`, has the effect f and the outcome o, and leaves the machine m'
abbrev pub TurnTo : {n : ℕ} {m : Machine} {c : WorkerCall} → Sound n m c → PlainQueue → Begun → Effect → Outcome → Machine → Type 0
TurnTo {n = n} {m = m} {c = c} v q next f o m' =
    EntryTurn ff_cl begun_of Holds HoldsBeside (AgreesOn v q) (limits m.sizes) m q worker (worker_begun (worker_load m (worker_tail m)) c) (worker_owes (worker_load m) c) next f o (n + 1) m'

-- .. by its result
abbrev pub WorkerTurn : {n : ℕ} {m : Machine} {c : WorkerCall} → Sound n m c → PlainQueue → Begun → (Outcome → Effect) → Done → Type 0
WorkerTurn v q next effect d = TurnTo v q next (effect d.outcome) d.outcome d.machine

-- a step of its call
abbrev pub StepTurn : {n : ℕ} {m : Machine} {c : WorkerCall} → Sound n m c → PlainQueue → Done → Type 0
StepTurn {m = m} {c = c} v q d = WorkerTurn v q nothing (λ o. worker_effect o m c) d

-- .. by what it does
abbrev pub MoveTurn : {n : ℕ} {m : Machine} {c : WorkerCall} → Sound n m c → PlainQueue → WorkerMove → Type 0
MoveTurn {m = m} v q d = StepTurn v q (perform_worker m d)

-- .. which may be to make a store
abbrev pub making : Option (Maker × StoreKind) → Outcome → WorkerCall → Machine → WorkerMove
making p o c m = record { push = p; head = m.head; call = c; outcome = o }

-- an entry of thief i, whose call is `own`
abbrev pub ThiefTurnTo : {n : ℕ} {m : Machine} → Holds n m → PlainQueue → ℕ → ThiefCall → Begun → Effect → Outcome → Machine → Type 0
ThiefTurnTo {n = n} {m = m} v q i own next f o m' =
    EntryTurn ff_cl begun_of Holds HoldsBeside (AgreesOn v q) (limits m.sizes) m q (thief i) (thief_begun own) [] next f o (n + 1) m'

-- .. by its result
abbrev pub ThiefTurn : {n : ℕ} {m : Machine} → Holds n m → PlainQueue → ℕ → ThiefCall → Begun → (Outcome → Effect) → Done → Type 0
ThiefTurn v q i own next effect d = ThiefTurnTo v q i own next (effect d.outcome) d.outcome d.machine

-- ── The worker's entries ────────────────────────────────────────────────────────────────────────────────────────────────────

-- they leave the thieves alone v refl
pub thieves_alone : (m t : Machine) → m.thieves ≡ t.thieves → (r : Party) → same_party r worker ≡ false → (begun_of t r ≡ begun_of m r) × (owes t r ≡ owes m r)
thieves_alone m t same worker e = absurd (false≢true (sym e))
thieves_alone m t same (thief j) e = (ap (λ l. thief_begun (get_or l j idle_thief).call) (sym same), refl)

-- what is left to show of an entry that does
pub alone :
    {n : ℕ} {m m' : Machine} {c : WorkerCall} (v : Sound n m c) {q : PlainQueue} {next : Begun} {f : Effect} {o : Outcome} → m.thieves ≡ m'.thieves → (told : List Told)
    → told ≡ told_in (worker_begun (worker_load m (worker_tail m)) c) o f
    → (sound : Holds (n + 1) m')
    → (AgreesOn v q
    → Turn ff_cl.is_told (limits m.sizes) (worker_begun (worker_load m (worker_tail m)) c) (worker_owes (worker_load m) c) q told o next (begun_of m' worker) (owes m' worker) (HoldsBeside (n + 1) m' sound))
    → TurnTo v q next f o m'
alone {m = m} {m' = m'} v same told told_is sound turn =
    record { told = told; told_is = told_is; others = thieves_alone m m' same; sound = sound; turn = turn }

module _ {n : ℕ} {m : Machine} {c : WorkerCall} (v : Sound n m c) {q : PlainQueue} where
  module _ {next : Begun} {f : Effect} where
    -- a step that is refused leaves all as it is
    pub stayed : (o : Outcome) → is_refusal o ≡ true → is_answer o ≡ false → TurnTo v q next f o (perform_worker m (stays o (worker_view m c))).machine
    stayed o refusal no_answer =
        alone v refl
        []
        (rw refusal)
        (recalled v c v.tail v.spaced)
        (λ g. refuses refusal no_answer refl refl (agrees_call refl g.room g))

    -- .. and so does any other entry
    pub refused : (o : Outcome) → m.worker.call ≡ c → is_refusal o ≡ true → is_answer o ≡ false → TurnTo v q next f o m
    refused o at refusal no_answer =
        subst (TurnTo v q next f o) (ap (after_worker m m.head m.buffer m.spacing) (sym at)) (stayed o refusal no_answer)

  -- a take past its effect ends with the answer that it owes
  pub answers_owed :
      (o : Outcome) → is_answer o ≡ true → [] ≡ told_in (worker_begun (worker_load m (worker_tail m)) c) o (worker_effect o m c)
      → worker_owes (worker_load m) c ≡ cond (ff_cl.is_told (worker_begun (worker_load m (worker_tail m)) c) o) (o ∷ []) [] → lowered c ≡ 0 → filling c ≡ 0 → v.buffer.owed ≤ asked m.spacing m.sizes.spacing
      → MoveTurn v q (answers o (worker_view m c))
  answers_owed o answer told_is owed level still spaced =
      alone v refl
      []
      told_is
      (recalled v WorkerCall.Idle (record { holds = tt; floor = omega (arith, v.tail.floor); top = omega (arith, v.tail.top) }) spaced)
      (λ g. ends answer owed (agrees_call level (omega (arith, g.room)) g))
