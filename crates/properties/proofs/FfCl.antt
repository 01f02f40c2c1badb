-- What is so of every run of FF-CL: how far memory lags behind the worker, and that no task is lost or given twice. All of it by the laws of `Laws`, from the theorems of `cas`.
use mathlib.Core.Path.{◌≡◌, refl}
use mathlib.Core.Bool.{true}
use Prim.Native.Nat.{ℕ}
use Rattle.terms.specs.Lists.{all}
use Rattle.stores.specs.Look.{memory_in_range}
use Rattle.claim.specs.Calls.{Begun, nothing, a_put, a_take, a_steal, Party, worker, thief}
use Rattle.claim.proofs.Stored.{StoresAtOnce, stored_times}
use Rattle.cas.specs.Machine.{hidden, in_range, takes_pending, worker_load}
use Rattle.cas.specs.Linearizable.{ff_cl, owes, told_of_all_but_empty_steals, worker_owes}
use Rattle.cas.specs.Stories.{looks}
use Rattle.cas.proofs.Laws.Hidden.{hidden_known, hidden_pending}
use Rattle.cas.proofs.Laws.Obey.{ff_cl_lawful, hands_on_hidden}
use Rattle.cas.proofs.Linearizable.AnyMargin.{run_in_range, take_stores_within_needed}
use Rattle.cas.proofs.Linearizable.Theorem.{fresh_run, invariant_shows, run_stands_now}
use Rattle.properties.specs.Types.{Index, Stored}
use Rattle.properties.specs.CasTypes.{Machine, WorkerCall, PutLoadHead, PutStoreSlot, PutStoreTail, TakeStoreTail, TakeLoadHead, TakeLoadSlot, TakeTailToHead, TakeTailPastHead, TakeSwapHead, TakeLoadLastSlot}
use Rattle.properties.specs.ExactlyOnce.{AccountedByNumber, NoneLostOrGivenTwice}
use Rattle.properties.specs.Hidden.{HiddenIsPending, HiddenWithinNeeded, reaches, reaching}
use Rattle.properties.proofs.Laws.ExactlyOnce.{accounted, exactly_once}
use Rattle.properties.proofs.Laws.Hidden.{is_pending, within_needed}
use Rattle.properties.proofs.CasRenumbering.{cas_blind_to_numbers}

-- ── How far memory lags ─────────────────────────────────────────────────────────────────────────────────────────────────────

pub cas_hidden_within_needed : HiddenWithinNeeded ff_cl
cas_hidden_within_needed = within_needed ff_cl hidden hands_on_hidden takes_pending hidden_pending take_stores_within_needed

pub cas_hidden_is_pending : HiddenIsPending ff_cl takes_pending
cas_hidden_is_pending = is_pending ff_cl hidden hands_on_hidden takes_pending in_range hidden_known run_in_range

-- the sizes of the table reach it
pub cas_bound_reached : all (reaches ff_cl looks) reaching ≡ true
unfolding in_range memory_in_range
cas_bound_reached = refl

-- ── Exactly once ────────────────────────────────────────────────────────────────────────────────────────────────────────────

-- no call owes STORED: a put answers at its effect, and a thief owes nothing
worker_owes_none : (load : Index → ℕ) (c : WorkerCall) → stored_times (worker_owes load c) ≡ 0
worker_owes_none load WorkerCall.Idle = refl
worker_owes_none load (PutLoadHead x) = refl
worker_owes_none load (PutStoreSlot x) = refl
worker_owes_none load PutStoreTail = refl
worker_owes_none load TakeStoreTail = refl
worker_owes_none load (TakeLoadHead t) = refl
worker_owes_none load (TakeLoadSlot t) = refl
worker_owes_none load (TakeTailToHead h) = refl
worker_owes_none load (TakeTailPastHead t) = refl
worker_owes_none load (TakeSwapHead t) = refl
worker_owes_none load (TakeLoadLastSlot t) = refl

stores_at_once : StoresAtOnce ff_cl
stores_at_once = record { owes_none = owes_none; told = told }
  where
    owes_none : (m : Machine) (p : Party) → stored_times (owes m p) ≡ 0
    owes_none m worker = worker_owes_none (worker_load m) m.worker.call
    owes_none m (thief i) = refl

    -- and the plain queue is told of it
    told : (c : Begun) → told_of_all_but_empty_steals c Stored ≡ true
    told nothing = refl
    told (a_put x) = refl
    told a_take = refl
    told a_steal = refl

pub cas_accounted_by_number : AccountedByNumber ff_cl
cas_accounted_by_number s es ranged enough short =
    accounted ff_cl ff_cl_lawful stores_at_once (invariant_shows s enough) (fresh_run s ranged) es short (run_stands_now s es ranged enough)

pub cas_none_lost_or_given_twice : NoneLostOrGivenTwice ff_cl
cas_none_lost_or_given_twice = exactly_once ff_cl cas_accounted_by_number cas_blind_to_numbers
