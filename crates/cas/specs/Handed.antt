-- Machines that are handed in, also such as no run reaches: what each step makes of an index that it holds, whatever head and tail are, what leads out of range, and what is out of it. `proofs/Rehearsals.antt` proves that every row holds.
use Rattle.std.specs.Prelude.{true, List, [], ◌∷◌, ◌++◌, ℤ, pos, negsuc}
use Rattle.terms.specs.Sizes.{sized}
use Rattle.claim.specs.Stories.{Row, handed, brink, does, head_is, tail_is, drains, thief_gets, thief_moves, worker_gets, worker_moves}
use Rattle.stores.specs.StoreBuffer.{empty_buffer, push, slot_store, tail_store}
use Rattle.cas.specs.Types.{ClientStore, BeginPut, WorkerStep, ThiefStep, Index, Machine, Moved, Wait, Stored, Task, Empty, StealLoadTail, StealLoadSlot, StealSwapHead, TakeLoadHead, TakeLoadSlot, TakeTailToHead, TakeTailPastHead, TakeSwapHead, TakeLoadLastSlot, TakeStoreTail, PutStoreTail}
use Rattle.cas.specs.Machine.{fresh, with_buffer, with_head, with_memory, with_spacing, with_thief, with_worker}
use Rattle.cas.specs.Stories.{enough}

abbrev pub index : ℤ → Index
index z = record { at = z }

abbrev pub greatest : Index
greatest = index (pos 2147483648)

-- the fresh machine with head and memory's tail at these indices
abbrev pub between : Index → Index → Machine
between h t = with_head h (with_memory (fresh enough).slots t empty_buffer (fresh enough))

-- a take below head stores the head that it has loaded, whatever the tail is
abbrev pub tail_to_head : Row Machine
tail_to_head = handed (with_worker (TakeTailToHead (index (pos 7))) (between (index (pos 9)) (index (pos 3)))) (worker_gets Empty ++ drains 1 ++ tail_is (pos 7) ∷ head_is (pos 9) ∷ [])

-- one at head stores the index past it, and swaps head there
abbrev pub tail_past_head : Row Machine
tail_past_head = handed (with_worker (TakeTailPastHead (index (pos 7))) (between (index (pos 7)) (index (pos 3)))) (worker_moves 1 ++ drains 1 ++ tail_is (pos 8) ∷ worker_moves 1 ++ head_is (pos 8) ∷ [])

-- a swap compares head with what was loaded, be it above or below, of the worker's ..
abbrev pub take_swaps : ℤ → Machine
take_swaps z = with_worker (TakeSwapHead (index (pos 7))) (between (index z) (index (pos 8)))

-- .. and of a thief's, which waits for no pending store
abbrev pub steal_swaps : ℤ → Machine
steal_swaps z = with_buffer (push (tail_store (index (pos 2))) empty_buffer) (with_thief 0 (StealSwapHead 5 (index (pos 7))) (between (index z) (index (pos 9))))

-- a swap that is going to be lost waits for the pending stores too
abbrev pub lost_swap_waits : Row Machine
lost_swap_waits = handed (with_buffer (push (tail_store (index (pos 8))) empty_buffer) (take_swaps (pos 9))) (worker_gets Wait ++ drains 1 ++ worker_gets Empty ++ head_is (pos 9) ∷ [])

-- END is at the greatest tail alone, which 01's test names
abbrev pub past_the_end : Row Machine
past_the_end = handed (between greatest greatest) (does (BeginPut 5) Moved ∷ worker_moves 1)

-- -1 is in range for an index that is stored or swapped, and the greatest for every one
abbrev pub edges_in_range : List (Row Machine)
edges_in_range =
    handed (with_worker (TakeTailToHead (index (negsuc 0))) (between (index (pos 0)) (index (pos 3)))) (worker_gets Empty ++ drains 1 ++ tail_is (negsuc 0) ∷ [])
    ∷ handed (with_worker (TakeTailPastHead (index (negsuc 0))) (between (index (negsuc 0)) (index (pos 3)))) (worker_moves 1 ++ drains 1 ++ tail_is (pos 0) ∷ [])
    ∷ handed (with_thief 0 (StealSwapHead 5 (index (negsuc 0))) (between (index (negsuc 0)) (index (pos 9)))) (thief_gets (Task 5) ++ head_is (pos 0) ∷ [])
    ∷ handed (with_worker (TakeLoadSlot greatest) (fresh enough)) (worker_gets (Task 0))
    ∷ handed (with_thief 0 (StealLoadSlot greatest) (fresh enough)) (thief_moves 1)
    ∷ []

-- a thief loads memory's slot, whatever is pending
abbrev pub loads_memory : Row Machine
loads_memory =
    handed (with_buffer (push (slot_store (index (pos 1)) 6) empty_buffer) (with_thief 0 (StealLoadSlot (index (pos 1))) (between (index (pos 1)) (index (pos 9)))))
    (thief_moves 1 ++ thief_gets (Task 0))

abbrev pub handed_rows : List (Row Machine)
handed_rows =
    tail_to_head
    ∷ tail_past_head
    ∷ handed (take_swaps (pos 7)) (worker_moves 1 ++ head_is (pos 8) ∷ worker_gets (Task 0))
    ∷ handed (take_swaps (pos 8)) (worker_gets Empty ++ head_is (pos 8) ∷ [])
    ∷ handed (take_swaps (pos 6)) (worker_gets Empty ++ head_is (pos 6) ∷ [])
    ∷ handed (steal_swaps (pos 7)) (thief_gets (Task 5) ++ head_is (pos 8) ∷ [])
    ∷ handed (steal_swaps (pos 8)) (thief_moves 1 ++ head_is (pos 8) ∷ [])
    ∷ handed (steal_swaps (pos 6)) (thief_moves 1 ++ head_is (pos 6) ∷ [])
    ∷ loads_memory
    ∷ lost_swap_waits
    ∷ past_the_end
    ∷ edges_in_range

-- a swap past the greatest index, a slot below 0 that is to be loaded next, and a tail stored out of range
abbrev pub brinks : List (Row Machine)
brinks =
    brink (with_worker (TakeSwapHead greatest) (between greatest greatest)) WorkerStep Moved
    ∷ brink (with_worker (TakeSwapHead (index (negsuc 0))) (between (index (negsuc 0)) (index (pos 0)))) WorkerStep Moved
    ∷ brink (with_worker (TakeTailPastHead greatest) (between greatest greatest)) WorkerStep Moved
    ∷ brink (with_thief 0 (StealSwapHead 5 greatest) (between greatest greatest)) (ThiefStep 0) (Task 5)
    ∷ brink (with_thief 0 (StealLoadTail (index (negsuc 0))) (between (index (pos 0)) (index (pos 9)))) (ThiefStep 0) Moved
    ∷ brink (with_worker PutStoreTail (between (index (pos 0)) greatest)) WorkerStep Stored
    ∷ brink (with_worker TakeStoreTail (between (index (pos 0)) (index (negsuc 0)))) WorkerStep Moved
    ∷ brink (with_spacing (record { count = 4096; begun = true }) (fresh enough)) ClientStore Moved
    ∷ []

-- every index that a call holds is looked at, a slot's from 0 ..
abbrev pub calls_holding : Index → Index → List Machine
calls_holding i slot =
    with_worker (TakeLoadHead i) (fresh enough)
    ∷ with_worker (TakeLoadSlot slot) (fresh enough)
    ∷ with_worker (TakeTailToHead i) (fresh enough)
    ∷ with_worker (TakeTailPastHead i) (fresh enough)
    ∷ with_worker (TakeSwapHead i) (fresh enough)
    ∷ with_worker (TakeLoadLastSlot slot) (fresh enough)
    ∷ with_thief 7 (StealLoadTail i) (fresh enough)
    ∷ with_thief 7 (StealLoadSlot slot) (fresh enough)
    ∷ with_thief 7 (StealSwapHead 0 i) (fresh enough)
    ∷ []

-- .. and so are head, tail, the sizes, how many stores are pending and each of them
abbrev pub out_of_range : List Machine
out_of_range =
    with_head (index (negsuc 1)) (fresh enough)
    ∷ between (index (pos 0)) (index (negsuc 1))
    ∷ fresh (sized 1 2 0 2 1 0)
    ∷ with_buffer (record { stores = empty_buffer.stores; count = 3 }) (fresh enough)
    ∷ with_buffer (push (slot_store (index (negsuc 0)) 6) empty_buffer) (fresh enough)
    ∷ calls_holding (index (negsuc 1)) (index (negsuc 0))
    ++ calls_holding (index (pos 2147483649)) (index (pos 2147483649))
