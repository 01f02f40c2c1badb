-- Machines handed in, as one table over the definitions, in rows as `Stories` has them: machines in range that no schedule reaches, steps that lead out of range, and machines out of range. Renders, of "Parts", what an
-- operation does that is handed a machine; of "The numbers", that 7 leaves the machine unchanged; and of request 4, in 02, that the number for a machine out of range is 0. `proofs/Handed.antt` proves that every row holds, and `HandedBack`.
use Rattle.std.specs.Prelude.{◌≡◌, true, false, List, [], ◌∷◌, ◌++◌, map, ℤ, pos, negsuc, replicate}
use Rattle.terms.specs.Lists.{concat_map}
use Rattle.terms.specs.Sizes.{sized}
use Rattle.stores.specs.StoreBuffer.{client_store, empty_buffer, slot_store, tail_store}
use Rattle.machine.specs.Types.{Entry, ClientStore, BeginTake, WorkerStep, BeginSteal, ThiefStep, Early, Index, Machine, Sizes, Spacing, Moved, Wait, Stored, Task, PutLoadHead, PutStoreSlot, PutStoreTail, StealRaiseHead, StealLoadTail, StealLoadSlot, StealRestoreHead, TakeStoreTail, TakeLoadHead, TakeLoadSlot, TakeLock, TakeReloadHead, TakeRestoreTail, TakeUnlockTask, TakeLoadLastSlot}
use Rattle.machine.specs.Machine.{done, fresh}
use Rattle.machine.specs.Update.{pushed, with_buffer, with_head, with_memory, with_spacing, with_thief, with_worker}
use Rattle.machine.specs.Obey.{obey}
use Rattle.claim.specs.Stories.{Row, margin, story, handed, hiding, brink, beyond, count_is, does, drains, head_is, one_of_each, thief_moves, worker_gets, worker_moves}
use Rattle.machine.specs.Stories.{empty_steps}
use Rattle.machine.specs.Rehearsals.{m3_sizes}

-- with one thief
abbrev pub absent_thieves : List Entry
absent_thieves = BeginSteal 1 ∷ ThiefStep 1 ∷ BeginSteal 8 ∷ ThiefStep 8 ∷ BeginSteal 4294967295 ∷ ThiefStep 4294967295 ∷ []

-- a machine with this tail and no store pending
abbrev pub with_tail : ℤ → Machine → Machine
with_tail z m = with_memory m.slots (record { at = z }) empty_buffer m

abbrev pub minus_one : Index
minus_one = record { at = negsuc 0 }

abbrev pub zeroth : Index
zeroth = record { at = pos 0 }

-- two below 0, and the greatest index in range
abbrev pub minus_two : Index
minus_two = record { at = negsuc 1 }

abbrev pub greatest : Index
greatest = record { at = pos 2147483648 }

-- the largest spacing count in range; a count with no take begun, and one with a take begun
abbrev pub counted_most : Spacing
counted_most = record { count = 4096; begun = true }

abbrev pub count_before_take : Spacing
count_before_take = record { count = 5; begun = false }

abbrev pub count_since_take : Spacing
count_since_take = record { count = 5; begun = true }

-- sizes that ask for six stores between takes
abbrev pub spaced_sizes : Sizes
spaced_sizes = sized 4 2 6 1 1 0

-- Steps on machines in range that no schedule reaches. An unlock waits for pending stores, a restoring store for a place in the list and for nothing else; steal 3 goes by its own h; END comes at a tail of
-- 2,147,483,647 and at no other; the last load of a take sees pending stores; cells past the pending stores are not looked at. A count that a machine brings along, though it says that no take has begun, is no
-- ground for EARLY, and becomes 0 with the next store that counts; no step of a take changes the count, nor whether a take has begun.
abbrev pub handed_rows : List (Row Machine)
handed_rows =
    handed (pushed client_store (with_worker (TakeUnlockTask zeroth) (fresh m3_sizes))) (worker_gets Wait ++ drains 1 ++ worker_moves 1 ++ worker_gets (Task 0))
    ∷ handed (pushed client_store (pushed client_store (with_worker (TakeRestoreTail zeroth) (fresh m3_sizes)))) (worker_gets Wait ++ drains 1 ++ worker_moves 1)
    ∷ handed (with_thief 0 (StealRaiseHead (record { at = pos 3 })) (fresh m3_sizes)) (thief_moves 1 ++ head_is (pos 4) ∷ [])
    ∷ handed (with_head greatest (with_tail (pos 2147483648) (with_worker (PutLoadHead 1) (fresh m3_sizes)))) (worker_moves 1)
    ∷ handed (pushed (slot_store zeroth 9) (with_worker (TakeLoadLastSlot zeroth) (fresh m3_sizes))) (worker_gets (Task 9))
    ∷ handed (with_buffer (record { stores = replicate 64 (slot_store minus_one 1); count = 0 }) (fresh m3_sizes)) (does BeginTake Moved ∷ [])
    ∷ handed (with_spacing count_before_take (fresh m3_sizes)) (does ClientStore Moved ∷ count_is 0 ∷ [])
    ∷ handed (with_spacing count_before_take (with_worker (PutLoadHead 1) (fresh m3_sizes))) (worker_moves 1 ++ count_is 5 ∷ worker_moves 1 ++ count_is 0 ∷ [])
    ∷ handed (with_spacing count_before_take (with_worker PutStoreTail (fresh m3_sizes))) (worker_gets Stored ++ count_is 0 ∷ [])
    ∷ handed (with_spacing count_before_take (fresh spaced_sizes)) (does BeginTake Moved ∷ count_is 0 ∷ [])
    ∷ handed (with_spacing count_before_take (with_worker TakeStoreTail (fresh spaced_sizes))) (empty_steps ++ count_is 5 ∷ does BeginTake Moved ∷ [])
    ∷ handed (with_spacing count_before_take (with_worker (TakeLoadHead zeroth) (fresh spaced_sizes))) (worker_moves 1 ++ worker_gets (Task 0) ++ count_is 5 ∷ does BeginTake Moved ∷ [])
    ∷ handed (with_spacing count_before_take (with_worker (TakeReloadHead zeroth) (fresh spaced_sizes))) (worker_moves 2 ++ worker_gets (Task 0) ++ count_is 5 ∷ does BeginTake Moved ∷ [])
    ∷ handed (with_spacing count_since_take (with_worker TakeStoreTail (fresh spaced_sizes))) (empty_steps ++ count_is 5 ∷ does BeginTake Early ∷ [])
    ∷ handed (with_spacing count_since_take (with_worker (TakeLoadHead zeroth) (fresh spaced_sizes))) (worker_moves 1 ++ worker_gets (Task 0) ++ count_is 5 ∷ does BeginTake Early ∷ [])
    ∷ handed (with_spacing count_since_take (with_worker (TakeReloadHead zeroth) (fresh spaced_sizes))) (worker_moves 2 ++ worker_gets (Task 0) ++ count_is 5 ∷ does BeginTake Early ∷ [])
    ∷ []

-- A store that is counted past 4,096, the client's and each of a put's; and each step that leads an index out of range: put 2 and 3, take 1, take 2 and 4 at t = head = −1, take 5, steal 3,
-- and steal 4 at h = −1. No run of at most 4,096 entries gets there (`run_in_range`).
abbrev pub brinks : List (Row Machine)
brinks =
    brink (with_spacing counted_most (fresh m3_sizes)) ClientStore Moved
    ∷ brink (with_spacing counted_most (with_worker (PutStoreSlot 5) (fresh m3_sizes))) WorkerStep Moved
    ∷ brink (with_spacing counted_most (with_worker PutStoreTail (fresh m3_sizes))) WorkerStep Stored
    ∷ brink (with_tail (pos 2147483648) (with_worker PutStoreTail (fresh m3_sizes))) WorkerStep Stored
    ∷ brink (with_tail (negsuc 0) (with_worker (PutStoreSlot 5) (fresh m3_sizes))) WorkerStep Moved
    ∷ brink (with_tail (negsuc 0) (with_worker TakeStoreTail (fresh m3_sizes))) WorkerStep Moved
    ∷ brink (with_head minus_one (with_worker (TakeLoadHead minus_one) (fresh m3_sizes))) WorkerStep Moved
    ∷ brink (with_head minus_one (with_worker (TakeReloadHead minus_one) (fresh m3_sizes))) WorkerStep Moved
    ∷ brink (with_worker (TakeRestoreTail greatest) (fresh m3_sizes)) WorkerStep Moved
    ∷ brink (with_thief 0 (StealRaiseHead greatest) (fresh m3_sizes)) (ThiefStep 0) Moved
    ∷ brink (with_tail (pos 2) (with_thief 0 (StealLoadTail minus_one) (fresh m3_sizes))) (ThiefStep 0) Moved
    ∷ []

-- with a tail store of −1 pending: a take's, where memory's tail is 0
abbrev pub take_pending : Machine → Machine
take_pending m = pushed (tail_store minus_one) m

-- .. or with one of 0, below memory's tail of 1
abbrev pub take_pending_at0 : Machine → Machine
take_pending_at0 m = pushed (tail_store zeroth) (with_tail (pos 1) m)

-- The same where a take's store is pending: the number that is handed on is 0 all the same, since it is for the machine that the step leads to.
abbrev pub hidden_brinks : List (Row Machine)
hidden_brinks =
    brink (take_pending_at0 (with_spacing counted_most (fresh m3_sizes))) ClientStore Moved
    ∷ brink (take_pending_at0 (with_spacing counted_most (with_worker (PutStoreSlot 5) (fresh m3_sizes)))) WorkerStep Moved
    ∷ brink (take_pending_at0 (with_spacing counted_most (with_worker PutStoreTail (fresh m3_sizes)))) WorkerStep Stored
    ∷ brink (pushed (tail_store greatest) (take_pending_at0 (with_worker PutStoreTail (fresh (sized 4 3 0 3 1 0))))) WorkerStep Stored
    ∷ brink (take_pending (with_worker (PutStoreSlot 5) (fresh m3_sizes))) WorkerStep Moved
    ∷ brink (take_pending (with_worker TakeStoreTail (fresh m3_sizes))) WorkerStep Moved
    ∷ brink (take_pending (with_head minus_one (with_worker (TakeLoadHead minus_one) (fresh m3_sizes)))) WorkerStep Moved
    ∷ brink (take_pending (with_head minus_one (with_worker (TakeReloadHead minus_one) (fresh m3_sizes)))) WorkerStep Moved
    ∷ brink (take_pending (with_worker (TakeRestoreTail greatest) (fresh m3_sizes))) WorkerStep Moved
    ∷ brink (take_pending (with_thief 0 (StealRaiseHead greatest) (fresh m3_sizes))) (ThiefStep 0) Moved
    ∷ brink (pushed (tail_store zeroth) (with_tail (pos 2) (with_thief 0 (StealLoadTail minus_one) (fresh m3_sizes)))) (ThiefStep 0) Moved
    ∷ []

-- one part out of range: each size, how many stores are pending, the spacing count, head, the tail, a pending store, the index of a call
abbrev pub out_of_range : List Machine
out_of_range =
    fresh (sized 1 2 0 2 1 0)
    ∷ fresh (sized 4 65 0 2 1 0)
    ∷ fresh (sized 4 2 64 2 1 0)
    ∷ fresh (sized 4 2 0 65 1 0)
    ∷ fresh (sized 4 2 0 2 9 0)
    ∷ fresh (sized 4 2 0 2 1 2147483648)
    ∷ with_buffer (record { stores = replicate 64 client_store; count = 3 }) (fresh m3_sizes)
    ∷ with_spacing (record { count = 4097; begun = true }) (fresh m3_sizes)
    ∷ with_spacing (record { count = 4097; begun = false }) (fresh m3_sizes)
    ∷ with_head minus_two (fresh m3_sizes)
    ∷ with_tail (pos 2147483649) (fresh m3_sizes)
    ∷ pushed (tail_store minus_two) (fresh m3_sizes)
    ∷ pushed (slot_store minus_one 1) (fresh m3_sizes)
    ∷ with_worker (TakeLoadHead minus_two) (fresh m3_sizes)
    ∷ with_worker (TakeLoadSlot minus_one) (fresh m3_sizes)
    ∷ with_worker (TakeLock minus_two) (fresh m3_sizes)
    ∷ with_worker (TakeReloadHead minus_two) (fresh m3_sizes)
    ∷ with_worker (TakeRestoreTail minus_two) (fresh m3_sizes)
    ∷ with_worker (TakeUnlockTask minus_one) (fresh m3_sizes)
    ∷ with_worker (TakeLoadLastSlot minus_one) (fresh m3_sizes)
    ∷ with_thief 0 (StealRaiseHead minus_two) (fresh m3_sizes)
    ∷ with_thief 7 (StealLoadTail (record { at = pos 2147483649 })) (fresh m3_sizes)
    ∷ with_thief 0 (StealLoadSlot minus_one) (fresh m3_sizes)
    ∷ with_thief 0 (StealRestoreHead minus_two) (fresh m3_sizes)
    -- where a take would also be early
    ∷ with_head minus_two (with_spacing (record { count = 0; begun = true }) (fresh (sized 4 2 1 2 1 0)))
    ∷ []

-- the machines to which a step has led
abbrev pub after_brink : Row Machine → List Machine
after_brink (margin b s n) = []
after_brink (story s l) = []
after_brink (handed m l) = []
after_brink (hiding m l ns) = []
after_brink (brink m e o) = (obey m e).machine ∷ []
after_brink (beyond m) = []

-- each of these machines is handed back as it was, whichever of the seven the entry is; and so is one that is asked for a thief that is not there
abbrev pub HandedBack : Type 0
HandedBack =
    (map (λ m. map (obey m) one_of_each) (out_of_range ++ concat_map after_brink brinks)
    ≡ map (λ m. map (λ e. done Wait m) one_of_each) (out_of_range ++ concat_map after_brink brinks))
    × (map (obey (fresh m3_sizes)) absent_thieves ≡ map (λ e. done Wait (fresh m3_sizes)) absent_thieves)

abbrev pub handed_in : List (Row Machine)
handed_in = handed_rows ++ brinks ++ hidden_brinks ++ map beyond (out_of_range ++ map take_pending out_of_range)
