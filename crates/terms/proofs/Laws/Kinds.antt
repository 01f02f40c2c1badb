-- Laws of entries: whose they are.
use mathlib.Core.Path.{◌≡◌, refl, ap}
use mathlib.Core.Bool.{Bool, true, false}
use mathlib.Core.Logic.{◌⊎◌, inl, inr}
use Prim.Native.Nat.{ℕ}
use lib.Dec.{ltb}
use borrow.Author.Tests.{lt-ltb}
use Rattle.terms.specs.Types.{Entry, Drain, ClientStore, BeginPut, BeginTake, WorkerStep, BeginSteal, ThiefStep, Sizes}
use Rattle.terms.specs.Kinds.{thief_is_there, thief_of}
use Rattle.terms.specs.Sizes.{sizes_in_range}
use Rattle.terms.proofs.Laws.Sizes.{sizes_bounds}

-- with sizes in range there is a first thief, so that an entry which names none passes the test of its thief's number, too
pub thief_by_number : (z : Sizes) (e : Entry) → sizes_in_range z ≡ true → ltb (thief_of e) z.thieves ≡ thief_is_there z e
thief_by_number z e sized = go e
  where
    first : ltb 0 z.thieves ≡ true
    first = lt-ltb 0 z.thieves (sizes_bounds z sized).thieves_least

    go : (e : Entry) → ltb (thief_of e) z.thieves ≡ thief_is_there z e
    go Drain = first
    go ClientStore = first
    go (BeginPut x) = first
    go BeginTake = first
    go WorkerStep = first
    go (BeginSteal i) = refl
    go (ThiefStep i) = refl

-- ── Whose an entry is, as a `match` finds it ────────────────────────────────────────────────────────────────────────────────

abbrev pub is_workers : Entry → Bool
is_workers Drain = false
is_workers ClientStore = true
is_workers (BeginPut x) = true
is_workers BeginTake = true
is_workers WorkerStep = true
is_workers (BeginSteal i) = false
is_workers (ThiefStep i) = false

abbrev pub is_thiefs : Entry → Bool
is_thiefs Drain = false
is_thiefs ClientStore = false
is_thiefs (BeginPut x) = false
is_thiefs BeginTake = false
is_thiefs WorkerStep = false
is_thiefs (BeginSteal i) = true
is_thiefs (ThiefStep i) = true

pub workers_entry : {e : Entry} → (e ≡ ClientStore) ⊎ (((x : ℕ) × (e ≡ BeginPut x)) ⊎ ((e ≡ BeginTake) ⊎ (e ≡ WorkerStep))) → is_workers e ≡ true
workers_entry (inl p) = ap is_workers p
workers_entry (inr (inl p)) = ap is_workers p.1
workers_entry (inr (inr (inl p))) = ap is_workers p
workers_entry (inr (inr (inr p))) = ap is_workers p

pub thiefs_entry : {e : Entry} → ((i : ℕ) × (e ≡ BeginSteal i)) ⊎ ((i : ℕ) × (e ≡ ThiefStep i)) → is_thiefs e ≡ true
thiefs_entry (inl p) = ap is_thiefs p.1
thiefs_entry (inr p) = ap is_thiefs p.1
