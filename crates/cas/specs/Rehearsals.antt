-- What each step of the compare-and-swap queue shows, as one table over the definitions: each answer of each call, the thief that starts over, two thieves that have loaded one head, the take that loses its swap, both ways to put the tail back, what waits and
-- what does not, the limits, the margin and one less, and machines that are handed in (`Handed`). `proofs/Rehearsals.antt` proves one fact: every row holds; and that the run whose margin is one short violates the claim.
use Rattle.std.specs.Prelude.{Bool, true, false, not, List, [], ◌∷◌, ◌++◌, map, ℕ, ltb, pos, negsuc, replicate}
use Rattle.terms.specs.Sizes.{sized}
use Rattle.terms.specs.Lists.{all, concat_map, occurrences}
use Rattle.claim.specs.PlainQueue.{PlainQueue, told_put, within_limits}
use Rattle.claim.specs.Calls.{worker}
use Rattle.claim.specs.Linearizable.{Linearizable}
use Rattle.claim.specs.Stories.{Line, Row, story, hiding, beyond, does, head_is, tail_is, slot_is, count_is, tasks_stand, standing, owed, tells, client_stores, drains, entries_in, filled, numbers_in, put_ends, puts, takes, thief_gets, thief_moves, worker_gets, worker_moves}
use Rattle.cas.specs.Types.{Drain, ClientStore, BeginPut, BeginTake, WorkerStep, BeginSteal, ThiefStep, Machine, Moved, Place, Early, Wait, Stored, Task, Empty, Abort, Full, End}
use Rattle.cas.specs.Machine.{fresh}
use Rattle.cas.specs.Linearizable.{ff_cl, limits}
use Rattle.cas.specs.Stories.{begins, enough, one_short, steal_ends, steals, steps, take_looks, takes_last, takes_nothing}
use Rattle.cas.specs.Handed.{brinks, handed_rows, out_of_range}

-- ── Each call, and its answers ──────────────────────────────────────────────────────────────────────────────────────────────

-- STORED, and FULL at all slots: of 2 slots the second put fits, which FF-THE's does not, and the third is FULL
abbrev pub puts_fill : List Line
puts_fill = puts 7 ++ drains 2 ++ puts 8 ++ drains 2 ++ tasks_stand 2 ∷ standing (7 ∷ 8 ∷ []) ∷ put_ends 9 Full

-- END at the greatest tail, whatever is free: a take that its swap has won raises head, and gives no index back
abbrev pub puts_end : List Line
puts_end = puts 7 ++ drains 2 ++ put_ends 8 End ++ takes_last 7 ++ tail_is (pos 2147483647) ∷ head_is (pos 2147483647) ∷ put_ends 8 End

-- t > h: the newest task at once, and head stays
abbrev pub takes_above : List Line
takes_above = filled 2 ++ take_looks ++ owed worker (Task 2) ∷ standing (1 ∷ []) ∷ worker_gets (Task 2) ++ head_is (pos 0) ∷ tail_is (pos 2) ∷ drains 1 ++ tail_is (pos 1) ∷ []

-- t < h: the tail goes back to h; it is -1 meanwhile, where start is 0
abbrev pub takes_from_none : List Line
takes_from_none = take_looks ++ owed worker Empty ∷ drains 1 ++ tail_is (negsuc 0) ∷ worker_gets Empty ++ drains 1 ++ tail_is (pos 0) ∷ head_is (pos 0) ∷ []

-- t = h: the tail goes past h, and the swap waits for both stores; won, head is past the task and the task is loaded next. The tail is where it was, and so is the sum.
abbrev pub takes_the_last : List Line
takes_the_last =
    filled 1
    ++ take_looks
    ++ tasks_stand 1
    ∷ worker_moves 1
    ++ worker_gets Wait
    ++ drains 1
    ++ tail_is (pos 0)
    ∷ worker_gets Wait
    ++ drains 1
    ++ tail_is (pos 1)
    ∷ head_is (pos 0)
    ∷ worker_moves 1
    ++ head_is (pos 1)
    ∷ tasks_stand 0
    ∷ owed worker (Task 1)
    ∷ worker_gets (Task 1)
    ++ tail_is (pos 1)
    ∷ standing []
    ∷ []

-- .. lost: a thief has the task, and the take is EMPTY at that entry. The thief has looked while two tasks stood, and keeps a margin of 1.
abbrev pub swap_lost : List Line
swap_lost =
    filled 2
    ++ begins 0
    ++ thief_moves 2
    ++ takes 2
    ++ client_stores 1
    ++ drains 2
    ++ take_looks
    ++ worker_moves 1
    ++ drains 2
    ++ thief_moves 1
    ++ thief_gets (Task 1)
    ++ head_is (pos 1)
    ∷ tasks_stand 0
    ∷ worker_gets Empty
    ++ head_is (pos 1)
    ∷ tail_is (pos 1)
    ∷ count_is 0
    ∷ standing []
    ∷ []

-- the worker loads what it has put, though it is pending
abbrev pub takes_pending_put : List Line
takes_pending_put = filled 1 ++ puts 2 ++ slot_is 1 0 ∷ takes 2

-- a steal: head is raised by its swap alone, and the worker's tail is as it was
abbrev pub steals_oldest : List Line
steals_oldest = filled 3 ++ begins 0 ++ thief_moves 2 ++ head_is (pos 0) ∷ thief_moves 1 ++ head_is (pos 0) ∷ tasks_stand 3 ∷ thief_gets (Task 1) ++ head_is (pos 1) ∷ standing (2 ∷ 3 ∷ []) ∷ []

-- h ≥ T is EMPTY, and comes before ABORT; a put that lags is not seen
abbrev pub steals_none : List Line
steals_none = steal_ends Empty ++ puts 1 ++ tasks_stand 1 ∷ steal_ends Empty ++ drains 2 ++ steal_ends Abort

-- a tail below head, which a take has lowered, shows no task either
abbrev pub steals_below_head : List Line
steals_below_head = take_looks ++ drains 1 ++ tail_is (negsuc 0) ∷ steal_ends Empty

-- of an empty steal the plain queue is not told, and of ABORT it is
abbrev pub steals_told : List Line
steals_told = begins 0 ++ thief_moves 1 ++ tells (ThiefStep 0) 0 ∷ thief_gets Empty ++ filled 2 ++ begins 0 ++ thief_moves 1 ++ tells (ThiefStep 0) 1 ∷ thief_gets Abort

-- T − margin ≤ h is ABORT: two tasks with a margin of 2, where three are enough
abbrev pub steals_abort : List Line
steals_abort = filled 2 ++ steal_ends Abort ++ tasks_stand 2 ∷ puts 3 ++ steal_ends Abort ++ drains 2 ++ steals 1

-- ── Thieves against each other ──────────────────────────────────────────────────────────────────────────────────────────────

-- two thieves have loaded one h: the first to swap wins, the other starts over, with nothing of what it held, and gets the next
abbrev pub two_thieves : List Line
two_thieves =
    filled 4
    ++ begins 0
    ++ begins 1
    ++ steps 0 Moved
    ++ steps 1 Moved
    ++ steps 0 Moved
    ++ steps 1 Moved
    ++ steps 0 Moved
    ++ steps 1 Moved
    ++ steps 1 (Task 1)
    ++ head_is (pos 1)
    ∷ steps 0 Moved
    ++ head_is (pos 1)
    ∷ steps 0 Moved
    ++ steps 0 Moved
    ++ steps 0 Moved
    ++ steps 0 (Task 2)
    ++ head_is (pos 2)
    ∷ standing (3 ∷ 4 ∷ [])
    ∷ []

-- a thief that starts over looks at the tail anew: it may end with ABORT, or with EMPTY
abbrev pub starts_over_in_vain : List Line
starts_over_in_vain = filled 3 ++ begins 0 ++ thief_moves 3 ++ begins 1 ++ steps 1 Moved ++ steps 1 Moved ++ steps 1 Moved ++ steps 1 (Task 1) ++ thief_moves 2 ++ thief_gets Abort

abbrev pub starts_over_to_none : List Line
starts_over_to_none = filled 3 ++ begins 0 ++ thief_moves 3 ++ takes 3 ++ drains 1 ++ takes 2 ++ drains 1 ++ takes_last 1 ++ thief_moves 2 ++ thief_gets Empty

-- ── What keeps takes apart, and what is refused ─────────────────────────────────────────────────────────────────────────────

-- the stores of a put count and those of a take do not, neither the lowered tail nor the one that is put back
abbrev pub counts_stores : List Line
counts_stores = takes_nothing ++ count_is 0 ∷ does BeginTake Early ∷ client_stores 1 ++ count_is 1 ∷ drains 3 ++ take_looks ++ worker_gets Empty ++ count_is 0 ∷ puts 1 ++ count_is 2 ∷ []

-- 5 before 6, and 5 before 7
abbrev pub place_before_early : List Line
place_before_early = does BeginTake Moved ∷ does BeginTake Place ∷ []

abbrev pub place_before_wait : List Line
place_before_wait = take_looks ++ does ClientStore Place ∷ []

-- the count begins anew as a take begins, before its store
abbrev pub counts_from_the_beginning : List Line
counts_from_the_beginning = takes_nothing ++ client_stores 1 ++ count_is 1 ∷ does BeginTake Moved ∷ count_is 0 ∷ []

-- 5 for a step with no call and a beginning with one, and 7 for a drain of nothing and a thief that is not there
abbrev pub refused : List Line
refused =
    does WorkerStep Place
    ∷ does (ThiefStep 0) Place
    ∷ does Drain Wait
    ∷ does (BeginSteal 0) Moved
    ∷ does (BeginSteal 0) Place
    ∷ does (BeginSteal 1) Moved
    ∷ does BeginTake Moved
    ∷ does BeginTake Place
    ∷ does (BeginPut 1) Place
    ∷ does ClientStore Place
    ∷ does (BeginSteal 2) Wait
    ∷ does (ThiefStep 2) Wait
    ∷ []

-- a store waits for room
abbrev pub waits : List Line
waits = does (BeginPut 5) Moved ∷ worker_moves 2 ++ worker_gets Wait ++ drains 1 ++ worker_gets Stored ++ does ClientStore Wait ∷ drains 1 ++ client_stores 1

-- ── The margin ──────────────────────────────────────────────────────────────────────────────────────────────────────────────

-- Two takes undrained, so that memory still has the old tail when a thief comes. It may have task 1, which nobody has taken ..
abbrev pub two_takes_then_steal : List Line
two_takes_then_steal = filled 3 ++ takes 3 ++ takes 2 ++ steals 1

-- .. and then, with the needed margin of 2, no other
abbrev pub margin_kept : List Line
margin_kept = two_takes_then_steal ++ steal_ends Abort ++ head_is (pos 1) ∷ standing [] ∷ []

-- with a margin one short it has task 2, which the worker has too
abbrev pub given_twice : List Line
given_twice = two_takes_then_steal ++ steals 2

-- .. and that run violates the claim. Proved in `proofs/Rehearsals.antt`.
abbrev pub GivenTwiceViolates : Type 0
GivenTwiceViolates = Linearizable ff_cl one_short (entries_in given_twice) → ⊥

-- ── How far memory lags ─────────────────────────────────────────────────────────────────────────────────────────────────────

-- the stores of take step 1 alone: neither way to put the tail back is one
abbrev pub hidden_rows : List (Row Machine)
hidden_rows =
    hiding (fresh enough) takes_nothing (0 ∷ 1 ∷ 1 ∷ 1 ∷ [])
    ∷ hiding (fresh (sized 4 4 0 4 1 0)) (puts 1 ++ take_looks ++ worker_moves 1) (0 ∷ 0 ∷ 0 ∷ 0 ∷ 0 ∷ 1 ∷ 1 ∷ 1 ∷ [])
    ∷ hiding (fresh (sized 4 8 0 8 1 0)) (puts 1 ++ puts 2 ++ puts 3 ++ takes 3 ++ takes 2 ++ drains 6 ++ drains 2)
    (replicate 13 0 ++ (1 ∷ 1 ∷ 1 ∷ 1 ∷ 2 ∷ 2 ∷ 2 ∷ 2 ∷ 2 ∷ 2 ∷ 2 ∷ 2 ∷ 2 ∷ 1 ∷ 0 ∷ []))
    ∷ []

-- ── The table ───────────────────────────────────────────────────────────────────────────────────────────────────────────────

abbrev pub stories : List (Row Machine)
stories =
    story (sized 2 2 0 2 1 0) puts_fill
    ∷ story (sized 4 2 0 2 1 2147483646) puts_end
    ∷ story enough takes_above
    ∷ story enough takes_from_none
    ∷ story enough takes_the_last
    ∷ story (sized 4 2 1 1 2 0) swap_lost
    ∷ story (sized 4 4 0 4 1 0) takes_pending_put
    ∷ story enough steals_oldest
    ∷ story enough steals_none
    ∷ story enough steals_below_head
    ∷ story enough steals_told
    ∷ story enough steals_abort
    ∷ story (sized 4 2 1 0 1 0) (filled 3 ++ steals 1 ++ steal_ends Abort)
    ∷ story enough two_thieves
    ∷ story enough starts_over_in_vain
    ∷ story enough starts_over_to_none
    ∷ story (sized 4 4 1 0 1 0) counts_stores
    ∷ story (sized 4 4 1 0 1 0) counts_from_the_beginning
    ∷ story (sized 4 4 1 0 1 0) place_before_early
    ∷ story (sized 4 1 0 1 1 0) place_before_wait
    ∷ story enough refused
    ∷ story (sized 4 1 0 1 1 0) waits
    ∷ story enough margin_kept
    ∷ story one_short given_twice
    ∷ []

abbrev pub rows : List (Row Machine)
rows = stories ++ handed_rows ++ brinks ++ map beyond out_of_range ++ hidden_rows

-- the limits, at their edges: with four slots a put may be FULL with four tasks standing and not with three, and STORED with three and not with four
abbrev pub standing_tasks : ℕ → PlainQueue
standing_tasks n = record { tasks = replicate n (record { put = 0; number = 0 }); sum = n; stored = n }

abbrev pub limits_at_their_edges : List Bool
limits_at_their_edges =
    within_limits (limits enough) (standing_tasks 4) (told_put 9 true)
    ∷ not (within_limits (limits enough) (standing_tasks 3) (told_put 9 true))
    ∷ within_limits (limits enough) (standing_tasks 3) (told_put 9 false)
    ∷ not (within_limits (limits enough) (standing_tasks 4) (told_put 9 false))
    ∷ []

-- every number that an outcome can have is shown
abbrev pub every_number_shown : Bool
every_number_shown =
    all (λ n. ltb 0 (occurrences n (concat_map numbers_in stories))) (0 ∷ 5 ∷ 6 ∷ 7 ∷ 16 ∷ 17 ∷ 18 ∷ 19 ∷ 20 ∷ 21 ∷ [])
