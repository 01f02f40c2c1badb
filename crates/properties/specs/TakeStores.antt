-- Whose the pending stores are. Request 4, in 02, says its number twice: how many stores of take step 1 are pending, and how many tail stores are below the one before them or, for the first, below memory's tail. The second is what the machine counts; here stands the
-- first, by who made each store, and that it comes to the same. Proved in `proofs/TakeStores.antt`.
use Rattle.std.specs.Prelude.{◌≡◌, Bool, true, false, cond, List, [], ◌∷◌, ◌++◌, ℕ, ◌+◌, drop}
use Rattle.terms.specs.Outcome.{is_refusal}
use Rattle.terms.specs.Sizes.{sizes_in_range}
use Rattle.machine.specs.Machine.{fresh, takes_pending}
use Rattle.machine.specs.Obey.{machine_after, obey}
use Rattle.properties.specs.Types.{Entry, Drain, ClientStore, BeginPut, BeginTake, WorkerStep, BeginSteal, ThiefStep, Machine, Sizes, WorkerCall, PutLoadHead, PutStoreSlot, PutStoreTail, TakeStoreTail, TakeLoadHead, TakeLoadSlot, TakeLock, TakeReloadHead, TakeRestoreTail, TakeUnlockEmpty, TakeUnlockTask, TakeLoadLastSlot}

-- the store that a step of the worker's makes, if it makes one: whether it is that of take step 1
abbrev pub made_by_step : WorkerCall → List Bool
made_by_step WorkerCall.Idle = []
made_by_step (PutLoadHead x) = []
made_by_step (PutStoreSlot x) = false ∷ []
made_by_step PutStoreTail = false ∷ []
made_by_step TakeStoreTail = true ∷ []
made_by_step (TakeLoadHead t) = []
made_by_step (TakeLoadSlot t) = []
made_by_step (TakeLock t) = []
made_by_step (TakeReloadHead t) = []
made_by_step (TakeRestoreTail t) = false ∷ []
made_by_step TakeUnlockEmpty = []
made_by_step (TakeUnlockTask t) = []
made_by_step (TakeLoadLastSlot t) = []

-- The pending stores after an entry that was not refused, oldest first, each as whether take step 1 made it: a drain takes the oldest away, a store stands behind the others.
abbrev pub made_then : Machine → List Bool → Entry → List Bool
made_then m made Drain = drop 1 made
made_then m made ClientStore = made ++ (false ∷ [])
made_then m made (BeginPut x) = made
made_then m made BeginTake = made
made_then m made WorkerStep = made ++ made_by_step m.worker.call
made_then m made (BeginSteal i) = made
made_then m made (ThiefStep i) = made

-- .. after any entry, and after a list
abbrev pub made_after : Machine → List Bool → Entry → List Bool
made_after m made e = cond (is_refusal (obey m e).outcome) made (made_then m made e)

abbrev pub made_by : Machine → List Bool → List Entry → List Bool
made_by m made [] = made
made_by m made (e ∷ es) = made_by (obey m e).machine (made_after m made e) es

abbrev pub how_many : List Bool → ℕ
how_many [] = 0
how_many (one ∷ made) = cond one 1 0 + how_many made

-- after every list of entries from the fresh machine, where nothing is pending yet, with any margin
abbrev pub TakeStoresAreTakes : Type 0
TakeStoresAreTakes =
    (s : Sizes) (es : List Entry) → sizes_in_range s ≡ true
    → how_many (made_by (fresh s) [] es) ≡ takes_pending (machine_after (fresh s) es)
