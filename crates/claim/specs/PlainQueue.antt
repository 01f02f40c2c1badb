-- The plain two-ended queue that every answer is compared with: the sequential specification. Renders the first paragraph
-- of "Demand 3's plain queue". It knows nothing of the machine.
use Rattle.std.specs.Prelude.{Bool, true, false, cond, ◌||◌, List, [], ◌∷◌, ◌++◌, ℕ, ◌+◌, ◌-◌, leb, ltb, eqb, length, take, drop}
use Rattle.claim.specs.Types.{Outcome, Stored, Task, Empty, Abort, Full, End}

-- A task with the put that it came from, counted from 0 among the puts that were STORED. Two tasks of one number differ in their put.
pub record StoredTask : Type 0 where
  pub put : ℕ
  pub number : ℕ

pub record PlainQueue : Type 0 where
  -- the tasks that stand, oldest first
  pub tasks : List StoredTask
  -- start at first; it counts up with each put that joins and down with each take that gives a task
  pub sum : ℕ
  -- how many puts were STORED
  pub stored : ℕ

abbrev pub empty_queue : ℕ → PlainQueue
empty_queue start = record { tasks = []; sum = start; stored = 0 }

-- What the queue is told, in 01's word: a call, with a put its number and whether the step says FULL, with a steal whether it says ABORT, and with a
-- take whether it came to a compare-and-swap, won or lost: the sum leaves out a take that a swap has won (02's request 5; in 01's queue none does).
pub data Told : Type 0 where
  told_put : ℕ → Bool → Told
  told_take : Bool → Told
  told_steal : Bool → Told

-- What the queue does about it: the queue after the call, its answer, and the task that left the list, if one did.
pub record Reply : Type 0 where
  pub queue : PlainQueue
  pub answer : Outcome
  pub given : List StoredTask

-- an answer that changes nothing
abbrev pub unchanged : PlainQueue → Outcome → Reply
unchanged q o = record { queue = q; answer = o; given = [] }

-- one task more, behind the others, and one more in the sum
abbrev pub joined : ℕ → PlainQueue → Reply
joined x q =
    record {
      queue = record { tasks = q.tasks ++ (record { put = q.stored; number = x } ∷ []); sum = q.sum + 1; stored = q.stored + 1 };
      answer = Stored;
      given = [];
    }

-- of a list of at most one, the task leaves, and `after` is the queue without it; where there is none, the answer is `otherwise`
abbrev pub leaves : List StoredTask → PlainQueue → PlainQueue → Outcome → Reply
leaves [] after q otherwise = unchanged q otherwise
leaves (t ∷ ts) after q otherwise = record { queue = after; answer = Task t.number; given = t ∷ [] }

-- the newest task, in a list of at most one, and the tasks without it
abbrev pub newest : List StoredTask → List StoredTask
newest l = drop (length l - 1) l

abbrev pub without_newest : List StoredTask → List StoredTask
without_newest l = take (length l - 1) l

-- The queue itself knows END, by its sum, and EMPTY, by its list; FULL and ABORT it is told. A steal that is not told ABORT while no task stands breaks
-- a limit below; the queue answers it ABORT all the same.
abbrev pub respond : PlainQueue → Told → Reply
respond q (told_put x full) = cond (eqb q.sum 2147483647) (unchanged q End) (cond full (unchanged q Full) (joined x q))
respond q (told_take swapped) =
    leaves (newest q.tasks) (record { tasks = without_newest q.tasks; sum = cond swapped q.sum (q.sum - 1); stored = q.stored }) q Empty
respond q (told_steal true) = unchanged q Abort
respond q (told_steal false) = leaves (take 1 q.tasks) (record { tasks = drop 1 q.tasks; sum = q.sum; stored = q.stored }) q Abort

-- What it may be told has limits, counted in tasks that stand at that moment: which they are, each queue says.
pub record Limits : Type 0 where
  -- a put may be FULL with so many or more
  pub full : ℕ
  -- .. and STORED with fewer than these
  pub stored : ℕ

-- A put that is told FULL or STORED keeps them, and a steal that gives a task is told only where one stands.
abbrev pub within_limits : Limits → PlainQueue → Told → Bool
within_limits l q (told_put x true) = leb l.full (length q.tasks)
within_limits l q (told_put x false) = eqb q.sum 2147483647 || ltb (length q.tasks) l.stored
within_limits l q (told_take swapped) = true
within_limits l q (told_steal abort) = abort || ltb 0 (length q.tasks)

-- ── What a call adds to the account ─────────────────────────────────────────────────────────────────────────────────────────

-- the task of a put that is STORED, in a list of at most one
abbrev pub stored_by : PlainQueue → Told → List StoredTask
stored_by q (told_put x full) = cond (eqb q.sum 2147483647 || full) [] (record { put = q.stored; number = x } ∷ [])
stored_by q (told_take swapped) = []
stored_by q (told_steal abort) = []

-- the task that a take gives to the worker, unless a swap won it
abbrev pub taken_by : PlainQueue → Told → List StoredTask
taken_by q (told_put x full) = []
taken_by q (told_take swapped) = cond swapped [] (respond q (told_take swapped)).given
taken_by q (told_steal abort) = []
