-- What keeps takes apart, and what does not: rows for the spacing rule of "The machine", as request 1 widens it. They are part of the table of `Rehearsals`.
use Rattle.std.specs.Prelude.{List, [], ◌∷◌, ◌++◌}
use Rattle.terms.specs.Sizes.{sized}
use Rattle.machine.specs.Types.{ClientStore, BeginPut, BeginTake, BeginSteal, Outcome, Machine, Moved, Place, Early, Wait, Stored, Task, Abort, Full, End}
use Rattle.claim.specs.Stories.{Line, Row, story, does, count_is, tasks_stand, standing, drains, client_stores, worker_moves, worker_gets, thief_moves, thief_gets, puts, put_ends, takes, filled}
use Rattle.machine.specs.Stories.{takes_nothing, steals}

-- a put between two takes keeps them apart by its two stores: by as much as a spacing of 1 or 2 asks for, and not one of 3; the rule asks for as much whichever margin is set
abbrev pub put_between_takes : Outcome → List Line
put_between_takes o = puts 1 ++ takes 1 ++ does BeginTake Early ∷ puts 2 ++ count_is 2 ∷ does BeginTake o ∷ []

-- .. together with client stores
abbrev pub put_and_client_store : List Line
put_and_client_store = put_between_takes Early ++ client_stores 1 ++ count_is 3 ∷ takes 2

-- .. each as soon as it is pending, and not while it waits for a place
abbrev pub counts_once_pending : List Line
counts_once_pending =
    filled 1 ++ takes 1 ++ client_stores 1 ++ does (BeginPut 2) Moved ∷ worker_moves 1 ++ count_is 1 ∷ worker_gets Wait
    ++ count_is 1 ∷ drains 1 ++ worker_moves 1 ++ count_is 2 ∷ worker_gets Wait ++ count_is 2 ∷ drains 1 ++ worker_gets Stored ++ count_is 3 ∷ []

-- .. two puts by four
abbrev pub two_fresh_tasks : List Line
two_fresh_tasks = puts 1 ++ takes 1 ++ puts 2 ++ count_is 2 ∷ puts 3 ++ count_is 4 ∷ takes 3

-- .. also once they have drained; from the second take on stores are counted anew
abbrev pub two_puts_between_takes : List Line
two_puts_between_takes =
    puts 1 ++ takes 1 ++ puts 2 ++ drains 5 ++ count_is 2 ∷ puts 3 ++ drains 2 ++ count_is 4 ∷ takes 3
    ++ puts 4 ++ count_is 2 ∷ does BeginTake Early ∷ []

-- .. also by stores of what memory has already: task 0, where task 0 was
abbrev pub same_value_counts : List Line
same_value_counts = puts 0 ++ drains 2 ++ takes 0 ++ puts 0 ++ count_is 2 ∷ does BeginTake Moved ∷ []

-- .. also while a thief holds the lock, which waives nothing either
abbrev pub counts_beside_thief : List Line
counts_beside_thief =
    filled 1 ++ takes 1 ++ does (BeginSteal 0) Moved ∷ thief_moves 1 ++ does BeginTake Early ∷ puts 2 ++ count_is 2 ∷ client_stores 1 ++ count_is 3 ∷ does BeginTake Moved ∷ []

-- .. and no task is lost or given twice, with the margin that is needed for the spacing
abbrev pub put_between_takes_then_steal : List Line
put_between_takes_then_steal = filled 3 ++ takes 3 ++ puts 4 ++ takes 4 ++ steals (Task 1) ++ standing (2 ∷ []) ∷ []

-- before the first take no store counts and nothing makes it wait: no put, no steal
abbrev pub puts_before_first_take : List Line
puts_before_first_take =
    does (BeginPut 1) Moved ∷ worker_moves 2 ++ count_is 0 ∷ worker_gets Stored ++ count_is 0 ∷ takes 1 ++ count_is 0 ∷ does BeginTake Early ∷ []

abbrev pub steal_before_first_take : List Line
steal_before_first_take = filled 2 ++ steals (Task 1) ++ takes 2

-- a put that stores nothing counts nothing. FULL comes right after a take here: a thief raised head while 2 was put, and has put it back, so that before the take as many tasks stood as there are
-- slots.
abbrev pub full_counts_nothing : List Line
full_counts_nothing =
    filled 1 ++ does (BeginSteal 0) Moved ∷ thief_moves 3 ++ puts 2 ++ thief_moves 2 ++ thief_gets Abort
    ++ tasks_stand 2 ∷ takes 2 ++ put_ends 3 Full ++ count_is 0 ∷ does BeginTake Early ∷ []

abbrev pub end_counts_nothing : List Line
end_counts_nothing = takes_nothing ++ put_ends 3 End ++ count_is 0 ∷ does BeginTake Early ∷ []

-- .. and leaves the count, and the first take, as they are
abbrev pub full_leaves_the_count : List Line
full_leaves_the_count = puts 1 ++ put_ends 2 Full ++ takes 1 ++ client_stores 1 ++ puts 2 ++ put_ends 3 Full ++ count_is 3 ∷ does BeginTake Moved ∷ []

abbrev pub end_leaves_the_count : List Line
end_leaves_the_count = puts 1 ++ put_ends 2 End ++ takes 1 ++ puts 2 ++ put_ends 3 End ++ count_is 2 ∷ does BeginTake Moved ∷ []

-- an EMPTY take is a take, from which stores are counted anew; and the tail that it puts back is no put's
abbrev pub empty_waives_nothing : List Line
empty_waives_nothing = takes_nothing ++ count_is 0 ∷ does BeginTake Early ∷ client_stores 1 ++ drains 1 ++ takes_nothing ++ count_is 0 ∷ does BeginTake Early ∷ []

-- the count stays through steals and drains and begins anew as a take begins, whose own store does not count
abbrev pub count_stays : List Line
count_stays =
    filled 3 ++ takes 3 ++ client_stores 1 ++ count_is 1 ∷ steals (Task 1) ++ steals Abort ++ count_is 1 ∷ drains 2
    ++ count_is 1 ∷ puts 4 ++ count_is 3 ∷ does BeginTake Moved ∷ count_is 0 ∷ worker_moves 1 ++ count_is 0 ∷ []

-- .. also where no spacing is asked for
abbrev pub counts_without_spacing : List Line
counts_without_spacing = takes_nothing ++ client_stores 1 ++ count_is 1 ∷ does BeginTake Moved ∷ count_is 0 ∷ []

-- a spacing above the buffer size is asked for in full
abbrev pub spacing_above_buffer : List Line
spacing_above_buffer = takes_nothing ++ client_stores 1 ++ drains 1 ++ does BeginTake Early ∷ client_stores 1 ++ does BeginTake Moved ∷ []

-- the second take is one store early, of two that are asked for
abbrev pub two_stores_apart : List Line
two_stores_apart = puts 1 ++ puts 2 ++ takes 2 ++ client_stores 1 ++ does BeginTake Early ∷ client_stores 1 ++ takes 1

-- the largest spacing
abbrev pub sixty_three_apart : List Line
sixty_three_apart = takes_nothing ++ client_stores 62 ++ count_is 62 ∷ does BeginTake Early ∷ client_stores 1 ++ count_is 63 ∷ does BeginTake Moved ∷ []

-- 5 comes before 6, within a put too; and a beginning that is out of place leaves the count
abbrev pub place_before_early_in_put : List Line
place_before_early_in_put = takes_nothing ++ does (BeginPut 1) Moved ∷ does BeginTake Place ∷ []

abbrev pub place_keeps_count : List Line
place_keeps_count = puts 1 ++ takes 1 ++ client_stores 1 ++ does (BeginPut 2) Moved ∷ does BeginTake Place ∷ count_is 1 ∷ []

-- a client store that waits is not counted; and 6 comes where the list has no place, too
abbrev pub wait_counts_nothing : List Line
wait_counts_nothing =
    count_is 0 ∷ filled 2 ++ client_stores 1 ++ takes 2 ++ does ClientStore Wait ∷ count_is 0 ∷ does BeginTake Early ∷ drains 1 ++ does BeginTake Early ∷ []

abbrev pub spaced_takes : List (Row Machine)
spaced_takes =
    story (sized 4 8 1 4 1 0) (put_between_takes Moved)
    ∷ story (sized 4 8 1 0 1 0) (put_between_takes Moved)
    ∷ story (sized 4 8 1 1 1 0) (put_between_takes Moved)
    ∷ story (sized 4 8 2 3 1 0) (put_between_takes Moved)
    ∷ story (sized 4 8 3 2 1 0) put_and_client_store
    ∷ story (sized 4 2 1 1 1 0) counts_once_pending
    ∷ story (sized 4 8 4 2 1 0) two_fresh_tasks
    ∷ story (sized 4 8 4 2 1 0) two_puts_between_takes
    ∷ story (sized 4 8 2 3 1 0) same_value_counts
    ∷ story (sized 4 8 1 4 1 0) counts_beside_thief
    ∷ story (sized 8 4 2 2 1 0) put_between_takes_then_steal
    ∷ story (sized 4 8 1 4 1 0) puts_before_first_take
    ∷ story (sized 4 2 1 1 1 0) steal_before_first_take
    ∷ story (sized 2 4 1 2 1 0) full_counts_nothing
    ∷ story (sized 4 2 1 1 1 2147483647) end_counts_nothing
    ∷ story (sized 2 8 1 4 1 0) full_leaves_the_count
    ∷ story (sized 4 8 1 4 1 2147483646) end_leaves_the_count
    ∷ story (sized 4 2 1 1 1 0) empty_waives_nothing
    ∷ story (sized 4 4 1 2 1 0) count_stays
    ∷ story (sized 4 2 0 2 1 0) counts_without_spacing
    ∷ story (sized 4 1 2 1 1 0) spacing_above_buffer
    ∷ story (sized 4 8 2 3 1 0) two_stores_apart
    ∷ story (sized 4 64 63 1 1 0) sixty_three_apart
    ∷ story (sized 4 2 1 1 1 0) place_before_early_in_put
    ∷ story (sized 4 4 1 2 1 0) place_keeps_count
    ∷ story (sized 4 2 1 1 1 0) wait_counts_nothing
    ∷ []
