-- Rows of tables over the definitions, of any queue on its machine: a row is a story, entries with their outcomes and looks at the machine meanwhile; such a story with the numbers that its entries hand on; a needed margin; or a machine at the edge of
-- its range, or past it. With words for stories, as far as they are those of every queue. The rows themselves stand with each queue.
use Rattle.std.specs.Prelude.{Bool, true, not, ◌&&◌, List, [], ◌∷◌, ◌++◌, map, ℕ, ◌-◌, eqb, ℤ, length, replicate}
use Rattle.terms.specs.Sizes.{needed_margin}
use Rattle.terms.specs.Outcome.{number_of, value_of}
use Rattle.terms.specs.Lists.{all, concat_map, equal, range_from}
use Rattle.claim.specs.Types.{Entry, Drain, ClientStore, BeginPut, BeginTake, WorkerStep, BeginSteal, ThiefStep, Outcome, Moved, Wait, Stored, Task, Sizes}
use Rattle.claim.specs.PlainQueue.{empty_queue}
use Rattle.claim.specs.Calls.{Party, answers_to, no_call}
use Rattle.claim.specs.Implementation.{Implementation}
use Rattle.claim.specs.Run.{hidden_of}
use Rattle.claim.specs.Watch.{Watch, told_at, watch_after, watch_fresh}

-- ── Rows ────────────────────────────────────────────────────────────────────────────────────────────────────────────────────

-- A line of a story: an entry with its outcome, or a look at memory's head, at memory's tail, at what one of memory's slots holds, at
-- the spacing count, at how many tasks stand, at the numbers of those in the plain queue and in the slots, at what a party's call owes and the plain
-- queue has answered to it, or at how many calls the plain queue is told of at an entry.
pub data Line : Type 0 where
  does : Entry → Outcome → Line
  head_is : ℤ → Line
  tail_is : ℤ → Line
  slot_is : ℕ → ℕ → Line
  count_is : ℕ → Line
  tasks_stand : ℕ → Line
  standing : List ℕ → Line
  owed : Party → Outcome → Line
  tells : Entry → ℕ → Line

pub data Row (M : Type 0) : Type 0 where
  -- the needed margin of a buffer size and a spacing
  margin : (buffer spacing needed : ℕ) → Row M
  -- a story that starts at the fresh machine
  story : Sizes → List Line → Row M
  -- a story that starts at a machine in range, which may be one that no schedule reaches; the plain queue beside it tells nothing
  handed : M → List Line → Row M
  -- such a story, and the number that each of its entries hands on
  hiding : M → List Line → List ℕ → Row M
  -- a machine in range that the entry, with this outcome and the number 0, leads out of range, so that every next operation answers 7
  brink : M → Entry → Outcome → Row M
  -- a machine out of range: every operation answers 7 and hands on 0
  beyond : M → Row M

abbrev pub same_outcome : Outcome → Outcome → Bool
same_outcome o p = eqb (number_of o) (number_of p) && eqb (value_of o) (value_of p)

abbrev pub same_outcomes : List Outcome → List Outcome → Bool
same_outcomes l m = equal (map number_of l) (map number_of m) && equal (map value_of l) (map value_of m)

abbrev pub one_of_each : List Entry
one_of_each = Drain ∷ ClientStore ∷ BeginPut 1 ∷ BeginTake ∷ WorkerStep ∷ BeginSteal 0 ∷ ThiefStep 0 ∷ []

-- the entries of a story
abbrev pub entry_in : Line → List Entry
entry_in (does e o) = e ∷ []
entry_in (head_is z) = []
entry_in (tail_is z) = []
entry_in (slot_is k x) = []
entry_in (count_is n) = []
entry_in (tasks_stand n) = []
entry_in (standing xs) = []
entry_in (owed p o) = []
entry_in (tells e n) = []

abbrev pub entries_in : List Line → List Entry
entries_in l = concat_map entry_in l

-- ── When a row holds ────────────────────────────────────────────────────────────────────────────────────────────────────────

-- What a story can look at in a machine: whether memory's head and tail are these indices, a slot of memory has this number, the spacing count is this one; and whether the machine is in range.
pub record Looks (M : Type 0) : Type 0 where
  pub head_is : M → ℤ → Bool
  pub tail_is : M → ℤ → Bool
  pub slot_is : M → ℕ → ℕ → Bool
  pub count_is : M → ℕ → Bool
  pub in_range : M → Bool

module _ {M : Type 0} (b : Implementation M Entry) (looks : Looks M) where
  -- the entry has this outcome, and hands on this number
  abbrev pub hands : M → Entry → Outcome → ℕ → Bool
  hands m e o n = same_outcome (b.outcome m e) o && eqb (b.hidden m e) n

  -- the machine is out of range, and so every operation on it answers 7 and hands on 0
  abbrev pub all_wait : M → Bool
  all_wait m = not (looks.in_range m) && all (λ e. hands m e Wait 0) one_of_each

  abbrev pub comes_true : Watch M → List Line → Bool
  comes_true w [] = true
  comes_true w (does e o ∷ l) = same_outcome (b.outcome w.machine e) o && comes_true (watch_after b w e) l
  comes_true w (head_is z ∷ l) = looks.head_is w.machine z && comes_true w l
  comes_true w (tail_is z ∷ l) = looks.tail_is w.machine z && comes_true w l
  comes_true w (slot_is k x ∷ l) = looks.slot_is w.machine k x && comes_true w l
  comes_true w (count_is n ∷ l) = looks.count_is w.machine n && comes_true w l
  comes_true w (tasks_stand n ∷ l) = eqb (length w.queue.tasks) n && comes_true w l
  comes_true w (standing xs ∷ l) =
      equal (map (λ t. t.number) w.queue.tasks) xs && equal (b.standing w.machine) xs && equal (b.standing_now w.machine) xs && comes_true w l
  comes_true w (owed p o ∷ l) = same_outcomes (b.owes w.machine p) (o ∷ []) && same_outcomes (answers_to (w.calls p)) (o ∷ []) && comes_true w l
  comes_true w (tells e n ∷ l) = eqb (length (told_at b w e)) n && comes_true w l

  -- a machine that is handed in, with a plain queue that knows nothing of it
  abbrev pub watch_handed : M → Watch M
  watch_handed m = record { machine = m; queue = empty_queue 0; calls = λ p. no_call }

  abbrev pub holds : Row M → Bool
  holds (margin buffer spacing needed) = eqb (needed_margin buffer spacing) needed
  holds (story s l) = comes_true (watch_fresh b s) l
  holds (handed m l) = looks.in_range m && comes_true (watch_handed m) l
  holds (hiding m l ns) = looks.in_range m && comes_true (watch_handed m) l && equal (hidden_of b m (entries_in l)) ns
  holds (brink m e o) = looks.in_range m && hands m e o 0 && all_wait (b.next m e)
  holds (beyond m) = all_wait m

-- ── Which outcomes a row shows ──────────────────────────────────────────────────────────────────────────────────────────────

-- the number of the outcome in a line
abbrev pub number_in : Line → List ℕ
number_in (does e o) = number_of o ∷ []
number_in (head_is z) = []
number_in (tail_is z) = []
number_in (slot_is k x) = []
number_in (count_is n) = []
number_in (tasks_stand n) = []
number_in (standing xs) = []
number_in (owed p o) = []
number_in (tells e n) = []

-- the numbers of the outcomes that a row shows
abbrev pub numbers_in : {M : Type 0} → Row M → List ℕ
numbers_in (margin b s n) = []
numbers_in (story s l) = concat_map number_in l
numbers_in (handed m l) = concat_map number_in l
numbers_in (hiding m l ns) = concat_map number_in l
numbers_in (brink m e o) = number_of o ∷ []
numbers_in (beyond m) = []

-- ── Words for stories ───────────────────────────────────────────────────────────────────────────────────────────────────────

abbrev pub drains : ℕ → List Line
drains n = replicate n (does Drain Moved)

abbrev pub client_stores : ℕ → List Line
client_stores n = replicate n (does ClientStore Moved)

abbrev pub worker_moves : ℕ → List Line
worker_moves n = replicate n (does WorkerStep Moved)

abbrev pub worker_gets : Outcome → List Line
worker_gets o = does WorkerStep o ∷ []

abbrev pub thief_moves : ℕ → List Line
thief_moves n = replicate n (does (ThiefStep 0) Moved)

abbrev pub thief_gets : Outcome → List Line
thief_gets o = does (ThiefStep 0) o ∷ []

-- a whole put that is STORED
abbrev pub puts : ℕ → List Line
puts x = does (BeginPut x) Moved ∷ worker_moves 2 ++ worker_gets Stored

-- a whole put that ends at its first step
abbrev pub put_ends : ℕ → Outcome → List Line
put_ends x o = does (BeginPut x) Moved ∷ worker_gets o

-- a whole take of a task that is not the last
abbrev pub takes : ℕ → List Line
takes x = does BeginTake Moved ∷ worker_moves 2 ++ worker_gets (Task x)

-- puts of 1 to n, each fully drained
abbrev pub filled : ℕ → List Line
filled n = concat_map (λ x. puts x ++ drains 2) (range_from 1 n)

-- so many takes, from the task with that number down, undrained, with client stores between each two
abbrev pub undrained_takes : ℕ → ℕ → List Line
undrained_takes n apart = takes n ++ concat_map (λ k. client_stores apart ++ takes (n - k)) (range_from 1 (n - 1))
