-- The rehearsals of the paper, M1 to M9, as one table over the definitions, with rows for the example under "The program's lines", for
-- the lines of "Broken thread" that a run can show, for each limit of the plain queue, for each refusal in its order, in `SpacedTakes`, for what keeps takes apart, and, in `HiddenStores`, for how far memory lags. Rows of machines that no
-- run of a schedule reaches are in `Handed`.
-- `proofs/Rehearsals.antt` proves one fact: every row holds.
use Rattle.std.specs.Prelude.{Bool, List, [], ◌∷◌, ◌++◌, ℕ, ◌-◌, ltb, pos, negsuc}
use Rattle.terms.specs.Sizes.{sized}
use Rattle.terms.specs.Lists.{all, concat_map, occurrences, range_from}
use Rattle.claim.specs.Calls.{worker, thief}
use Rattle.machine.specs.Types.{Drain, ClientStore, BeginPut, BeginTake, WorkerStep, BeginSteal, ThiefStep, Outcome, Moved, Place, Early, Wait, Stored, Task, Empty, Abort, Full, End, Machine, Sizes}
use Rattle.claim.specs.Stories.{Line, Row, margin, story, does, head_is, tail_is, slot_is, count_is, tasks_stand, standing, owed, drains, client_stores, worker_moves, worker_gets, thief_moves, thief_gets, puts, put_ends, takes, filled, undrained_takes, numbers_in}
use Rattle.machine.specs.Stories.{steals}
use Rattle.machine.specs.SpacedTakes.{spaced_takes}
use Rattle.machine.specs.HiddenStores.{hidden_stores}

-- ── The table ───────────────────────────────────────────────────────────────────────────────────────────────────────────────

abbrev pub m1 : List (Row Machine)
m1 = margin 33 1 17 ∷ margin 32 0 32 ∷ margin 64 63 1 ∷ []

-- two takes undrained: memory still has the old tail when a thief comes
abbrev pub two_takes_then_steal : Outcome → List Line
two_takes_then_steal o = puts 11 ++ drains 2 ++ puts 12 ++ drains 2 ++ takes 12 ++ takes 11 ++ steals o

-- M2: the margin is one short, and 11 is given twice
abbrev pub m2_sizes : Sizes
m2_sizes = sized 4 2 0 1 1 0

abbrev pub m2 : List Line
m2 = two_takes_then_steal (Task 11)

-- M3: the needed margin
abbrev pub m3_sizes : Sizes
m3_sizes = sized 4 2 0 2 1 0

abbrev pub m3 : List Line
m3 = two_takes_then_steal Abort ++ head_is (pos 0) ∷ []

-- M4: of two slots one is left free. FULL comes with slots − 1 tasks standing.
abbrev pub m4 : List Line
m4 = puts 1 ++ tasks_stand 1 ∷ put_ends 2 Full

-- M5: a thief has raised head and not put it back, after its step 3 or after its step 4. STORED comes with slots − 1 tasks standing, and
-- FULL with as many as there are slots.
abbrev pub m5 : ℕ → List Line
m5 made =
    puts 1 ++ drains 2 ++ does (BeginSteal 0) Moved ∷ thief_moves made
    ++ head_is (pos 1) ∷ tasks_stand 1 ∷ puts 2
    ++ tasks_stand 2 ∷ put_ends 3 Full
    ++ thief_moves (5 - made) ++ thief_gets Abort ++ head_is (pos 0) ∷ []

-- M6: a take from an empty queue lowers the tail to −1, and raises it again. Lock and unlock wait for the drain; then the lock is free.
abbrev pub m6 : List Line
m6 =
    does BeginTake Moved ∷ worker_moves 2 ++ worker_gets Wait ++ drains 1
    ++ tail_is (negsuc 0) ∷ worker_moves 3 ++ worker_gets Wait ++ drains 1
    ++ tail_is (pos 0) ∷ worker_gets Empty ++ steals Abort

-- M7: the tail's greatest value, and the one before it
abbrev pub m7 : List Line
m7 = put_ends 1 End

abbrev pub m7_before : List Line
m7_before = puts 1 ++ put_ends 2 End

-- M8: the next take is EARLY until a store is made, here a client's. One made before the first take does not count.
abbrev pub m8 : List Line
m8 =
    client_stores 1 ++ count_is 0 ∷ puts 1 ++ drains 3 ++ takes 1 ++ does BeginTake Early ∷ client_stores 1
    ++ count_is 1 ∷ does BeginTake Moved ∷ count_is 0 ∷ []

-- M9: one task, and the lock is a thief's when the worker wants it; the worker's tail store has drained, so the lock is all that it
-- waits for, and free again afterwards
abbrev pub m9 : List Line
m9 =
    puts 7 ++ drains 2 ++ does (BeginSteal 0) Moved ∷ thief_moves 3
    ++ head_is (pos 1) ∷ does BeginTake Moved ∷ worker_moves 2 ++ drains 1
    ++ worker_gets Wait ++ thief_moves 2 ++ thief_gets Abort
    ++ worker_moves 3 ++ worker_gets (Task 7) ++ steals Abort

-- .. with entries out of place while the lock is freed and the task loaded
abbrev pub m9_place : List Line
m9_place =
    puts 7 ++ drains 2 ++ does (BeginSteal 0) Moved ∷ thief_moves 3 ++ does BeginTake Moved ∷ worker_moves 2 ++ drains 1 ++ thief_moves 2 ++ thief_gets Abort
    ++ worker_moves 2 ++ does ClientStore Place ∷ does BeginTake Place ∷ owed worker (Task 7) ∷ worker_moves 1
    ++ does ClientStore Place ∷ does (BeginPut 9) Place ∷ owed worker (Task 7) ∷ worker_gets (Task 7) ++ count_is 0 ∷ does BeginTake Early ∷ []

-- the example under "The program's lines"
abbrev pub example_lines : List Line
example_lines = does (BeginPut 7) Moved ∷ worker_moves 2 ++ does WorkerStep Wait ∷ drains 1 ++ worker_gets Stored

-- a put's two stores, in their order: the task is in memory before the tail shows it
abbrev pub slot_before_tail : List Line
slot_before_tail = puts 1 ++ drains 1 ++ tail_is (pos 0) ∷ drains 1 ++ tail_is (pos 1) ∷ []

-- "Broken thread", the margin rounded down: 17 takes are pending at once, with a client store between each two, and 16 is one short
abbrev pub seventeen_takes_then_steal : Outcome → List Line
seventeen_takes_then_steal o = filled 17 ++ undrained_takes 17 1 ++ steals o

-- "Broken thread", FULL one task too late: a thief has stolen task 1 and not yet loaded its slot, which one more put would overwrite
abbrev pub slot_about_to_be_loaded : List Line
slot_about_to_be_loaded =
    puts 1 ++ drains 2 ++ does (BeginSteal 0) Moved ∷ thief_moves 3 ++ puts 2 ++ drains 2
    ++ thief_moves 1 ++ put_ends 3 Full ++ thief_moves 1 ++ thief_gets (Task 1)

-- "Broken thread", what a thief sees: the tasks are there for it only once they have drained
abbrev pub thief_sees_memory : List Line
thief_sees_memory = puts 1 ++ puts 2 ++ tail_is (pos 0) ∷ steals Abort ++ drains 4 ++ tail_is (pos 2) ∷ steals (Task 1)

-- the same for a slot: task 9 is pending for slot 0, and a thief still loads task 1 there; the margin is short, so that it gets so far
abbrev pub thief_loads_memory : List Line
thief_loads_memory = filled 2 ++ takes 2 ++ takes 1 ++ puts 9 ++ steals (Task 1)

-- "Broken thread", what the worker sees: its own puts count before they have drained
abbrev pub worker_sees_pending : List Line
worker_sees_pending = puts 1 ++ puts 2 ++ tail_is (pos 0) ∷ takes 2 ++ takes 1 ++ tail_is (pos 0) ∷ []

-- "Broken thread", the steal's test: a tail just at the margin is not enough
abbrev pub tail_at_margin : List Line
tail_at_margin = filled 1 ++ steals Abort ++ puts 2 ++ drains 2 ++ steals (Task 1)

-- "Broken thread", signs, besides M6's tail of −1: the differences are negative, since a thief has raised head over an empty queue
abbrev pub head_ahead_of_tail : List Line
head_ahead_of_tail = does (BeginSteal 0) Moved ∷ thief_moves 3 ++ head_is (pos 1) ∷ puts 1 ++ thief_moves 2 ++ thief_gets Abort ++ drains 2 ++ takes 1

-- a steal without ABORT where one task stands: the worker has taken the others, unseen
abbrev pub last_task_standing : List Line
last_task_standing = filled 3 ++ takes 3 ++ takes 2 ++ tasks_stand 1 ∷ steals (Task 1) ++ tasks_stand 0 ∷ []

-- of 4 slots, index 4 lies in slot 0 again: task 5 is put there, and taken or stolen from there
abbrev pub around_the_slots : List Line
around_the_slots =
    slot_is 0 0 ∷ filled 3 ++ slot_is 0 1 ∷ steals (Task 1) ++ steals (Task 2) ++ puts 4 ++ drains 2
    ++ slot_is 3 4 ∷ puts 5 ++ drains 2
    ++ slot_is 0 5 ∷ []

abbrev pub taken_from_slot0 : List Line
taken_from_slot0 = around_the_slots ++ takes 5

abbrev pub stolen_from_slot0 : List Line
stolen_from_slot0 = around_the_slots ++ steals (Task 3) ++ puts 6 ++ drains 2 ++ steals (Task 4) ++ steals (Task 5)

-- a margin of 0 is the buffer size, not the needed margin: a steal just beyond it, and one within it
abbrev pub beyond_buffer : List Line
beyond_buffer = filled 3 ++ steals (Task 1) ++ steals Abort

-- 7 WAIT for a place in the list: a client store, a put's two stores, and a take's first
abbrev pub no_room : List Line
no_room =
    client_stores 1 ++ does ClientStore Wait ∷ does (BeginPut 1) Moved ∷ worker_moves 1
    ++ worker_gets Wait ++ drains 1 ++ worker_moves 1
    ++ worker_gets Wait ++ drains 1 ++ worker_gets Stored
    ++ does BeginTake Moved ∷ worker_gets Wait ++ drains 1 ++ worker_moves 1

-- 5 comes before 7: no client store within a call, whether or not the list has a place
abbrev pub place_before_wait : List Line
place_before_wait = client_stores 1 ++ does (BeginPut 1) Moved ∷ does ClientStore Place ∷ []

-- 5 comes before 6: no beginning within a call, whether or not a take is early
abbrev pub place_before_early : List Line
place_before_early = does BeginTake Moved ∷ does BeginTake Place ∷ []

-- 5 PLACE, each way; two thieves, of whom one waits for the lock; a third is not there
abbrev pub out_of_place : List Line
out_of_place =
    does WorkerStep Place
    ∷ does (ThiefStep 1) Place
    ∷ does (BeginPut 1) Moved
    ∷ does (BeginPut 2) Place
    ∷ does BeginTake Place
    ∷ does ClientStore Place
    ∷ does (BeginSteal 1) Moved
    ∷ does (BeginSteal 1) Place
    ∷ does (ThiefStep 1) Moved
    ∷ does (BeginSteal 0) Moved
    ∷ does (ThiefStep 0) Wait
    ∷ does (BeginSteal 2) Wait
    ∷ does (ThiefStep 2) Wait
    ∷ does Drain Wait
    ∷ []

-- 5 PLACE at each step of a call: while a put runs no other begins, nor a steal while that thief's runs
abbrev pub place_within_put : List Line
place_within_put = does (BeginPut 1) Moved ∷ worker_moves 1 ++ does (BeginPut 2) Place ∷ worker_moves 1 ++ does (BeginPut 2) Place ∷ worker_gets Stored

-- .. nor does any call of the worker's begin, or a client store come, at any step of its calls
abbrev pub all_place : List Line
all_place = does (BeginPut 9) Place ∷ does BeginTake Place ∷ does ClientStore Place ∷ []

abbrev pub place_within_workers_calls : List Line
place_within_workers_calls =
    does (BeginPut 1) Moved ∷ all_place ++ worker_moves 1 ++ all_place ++ worker_moves 1 ++ all_place ++ worker_gets Stored
    ++ drains 2 ++ does BeginTake Moved ∷ all_place ++ worker_moves 1 ++ all_place ++ worker_moves 1 ++ all_place ++ worker_gets (Task 1)
    ++ drains 1 ++ does BeginTake Moved ∷ worker_moves 1 ++ all_place ++ worker_moves 1 ++ drains 1
    ++ all_place ++ worker_moves 1 ++ all_place ++ worker_moves 1 ++ all_place ++ worker_moves 1 ++ drains 1 ++ all_place ++ worker_gets Empty

abbrev pub place_within_steal : Outcome → List Line
place_within_steal o = does (BeginSteal 0) Moved ∷ concat_map (λ k. does (BeginSteal 0) Place ∷ thief_moves 1) (range_from 1 5) ++ does (BeginSteal 0) Place ∷ thief_gets o

-- a lock that is held stays held: a thief's, while the other waits and the worker looks on; the worker's, while a thief waits
abbrev pub lock_of_a_thief : List Line
lock_of_a_thief =
    puts 1 ++ does (BeginSteal 0) Moved ∷ thief_moves 1 ++ does (BeginSteal 1) Moved ∷ does (ThiefStep 1) Wait ∷ does (ThiefStep 1) Wait
    ∷ put_ends 2 Full ++ does (ThiefStep 1) Wait ∷ does (BeginSteal 2) Wait ∷ does (ThiefStep 2) Wait ∷ []

abbrev pub lock_of_the_worker : List Line
lock_of_the_worker = does BeginTake Moved ∷ worker_moves 2 ++ drains 1 ++ worker_moves 1 ++ does (BeginSteal 0) Moved ∷ thief_gets Wait

-- indices that start elsewhere than at 0, past pending stores
abbrev pub from_another_start : List Line
from_another_start = puts 1 ++ puts 2 ++ takes 2 ++ takes 1

-- of two pending stores to one slot the worker loads the newest
abbrev pub newest_of_a_slot : List Line
newest_of_a_slot = puts 1 ++ takes 1 ++ puts 2 ++ takes 2

-- the tail's greatest value at FULL's distance: END comes first
abbrev pub end_before_full : List Line
end_before_full = puts 1 ++ tasks_stand 1 ∷ put_ends 2 End

-- two tasks stand, before and after their stores have drained
abbrev pub two_stand : List Line
two_stand = puts 5 ++ puts 6 ++ standing (5 ∷ 6 ∷ []) ∷ drains 4 ++ standing (5 ∷ 6 ∷ []) ∷ []

-- calls past their effect: a take and a steal that have yet to load their task, a steal that has, and a steal and a take that have found none
abbrev pub calls_past_effect : List Line
calls_past_effect =
    filled 3 ++ does BeginTake Moved ∷ worker_moves 2
    ++ owed worker (Task 3) ∷ does (BeginSteal 0) Moved ∷ thief_moves 4
    ++ owed (thief 0) (Task 1) ∷ thief_moves 1 ++ owed (thief 0) (Task 1) ∷ worker_gets (Task 3) ++ thief_gets (Task 1)
    ++ standing (2 ∷ []) ∷ drains 1 ++ does (BeginSteal 0) Moved ∷ thief_moves 4
    ++ owed (thief 0) Abort ∷ thief_moves 1 ++ owed (thief 0) Abort ∷ []

abbrev pub empty_past_effect : List Line
empty_past_effect = does BeginTake Moved ∷ worker_moves 2 ++ drains 1 ++ worker_moves 2 ++ owed worker Empty ∷ worker_moves 1 ++ owed worker Empty ∷ []

abbrev pub stories : List (Row Machine)
stories =
    story m2_sizes m2
    ∷ story m3_sizes m3
    ∷ story (sized 2 2 0 2 1 0) m4
    ∷ story (sized 2 2 0 2 1 0) (m5 3)
    ∷ story (sized 2 2 0 2 1 0) (m5 4)
    ∷ story (sized 4 2 0 2 1 0) m6
    ∷ story (sized 4 2 0 2 1 2147483647) m7
    ∷ story (sized 4 2 0 2 1 2147483646) m7_before
    ∷ story (sized 4 4 1 2 1 0) m8
    ∷ story (sized 4 2 0 2 1 0) m9
    ∷ story (sized 4 1 0 1 1 0) example_lines
    ∷ story (sized 4 2 0 2 1 0) slot_before_tail
    ∷ story (sized 32 33 1 16 1 0) (seventeen_takes_then_steal (Task 1))
    ∷ story (sized 32 33 1 17 1 0) (seventeen_takes_then_steal Abort)
    ∷ story (sized 2 2 1 1 1 0) slot_about_to_be_loaded
    ∷ story (sized 4 8 7 1 1 0) thief_sees_memory
    ∷ story (sized 4 4 0 1 1 0) thief_loads_memory
    ∷ story (sized 4 8 0 8 1 0) worker_sees_pending
    ∷ story (sized 4 2 1 1 1 0) tail_at_margin
    ∷ story (sized 4 2 0 2 1 0) head_ahead_of_tail
    ∷ story (sized 4 2 0 2 1 0) last_task_standing
    ∷ story (sized 4 2 1 1 1 0) taken_from_slot0
    ∷ story (sized 4 2 1 1 1 0) stolen_from_slot0
    ∷ story (sized 4 2 0 0 1 0) m3
    ∷ story (sized 4 2 1 0 1 0) beyond_buffer
    ∷ story (sized 4 1 0 1 1 0) no_room
    ∷ story (sized 4 1 0 1 1 0) place_before_wait
    ∷ story (sized 4 1 1 1 1 0) place_before_early
    ∷ story (sized 4 2 0 2 2 0) out_of_place
    ∷ story (sized 4 2 0 2 1 0) place_within_put
    ∷ story (sized 4 2 1 1 1 0) (filled 2 ++ place_within_steal (Task 1))
    ∷ story (sized 4 2 1 1 1 0) (filled 1 ++ place_within_steal Abort)
    ∷ story (sized 2 3 0 3 2 0) lock_of_a_thief
    ∷ story (sized 4 2 0 2 1 0) lock_of_the_worker
    ∷ story (sized 4 8 0 7 1 3) from_another_start
    ∷ story (sized 4 8 0 8 1 0) newest_of_a_slot
    ∷ story (sized 2 2 0 2 1 2147483646) end_before_full
    ∷ story (sized 4 2 1 1 1 0) m9_place
    ∷ story (sized 4 2 0 2 1 0) place_within_workers_calls
    ∷ story (sized 4 4 0 4 1 0) two_stand
    ∷ story (sized 4 2 1 1 1 0) calls_past_effect
    ∷ story (sized 4 2 0 2 1 0) empty_past_effect
    ∷ []

abbrev pub rehearsals : List (Row Machine)
rehearsals = m1 ++ stories ++ spaced_takes ++ hidden_stores

-- ── Every number ────────────────────────────────────────────────────────────────────────────────────────────────────────────

-- each number that an outcome can have is in the table
abbrev pub every_number_shown : Bool
every_number_shown =
    all (λ n. ltb 0 (occurrences n (concat_map numbers_in rehearsals))) (0 ∷ 5 ∷ 6 ∷ 7 ∷ 16 ∷ 17 ∷ 18 ∷ 19 ∷ 20 ∷ 21 ∷ [])
