-- How the rows of the compare-and-swap queue's tables are told: what a row looks at in its machine, steals and takes in a word, and two sizes. The rest of a row's words is of any queue (`Stories`, of `claim`).
use Rattle.std.specs.Prelude.{Bool, List, [], ◌∷◌, ◌++◌, ℕ, eqb, get_or}
use Rattle.terms.specs.Sizes.{sized}
use Rattle.claim.specs.Stories.{Line, Looks, Row, does, drains, holds, thief_gets, thief_moves, worker_gets, worker_moves}
use Rattle.stores.specs.Index.{eq_z}
use Rattle.cas.specs.Types.{BeginTake, BeginSteal, ThiefStep, Machine, Outcome, Moved, Task, Empty, Sizes}
use Rattle.cas.specs.Machine.{in_range}
use Rattle.cas.specs.Linearizable.{ff_cl}

abbrev pub looks : Looks Machine
looks =
    record {
      head_is = λ m z. eq_z m.head.at z;
      tail_is = λ m z. eq_z m.tail.at z;
      slot_is = λ m k x. eqb (get_or m.slots k 0) x;
      count_is = λ m n. eqb m.spacing.count n;
      in_range = in_range;
    }

abbrev pub row_holds : Row Machine → Bool
row_holds r = holds ff_cl looks r

-- ── Words ───────────────────────────────────────────────────────────────────────────────────────────────────────────────────

-- a step of the thief with this number, with its outcome
abbrev pub steps : ℕ → Outcome → List Line
steps i o = does (ThiefStep i) o ∷ []

abbrev pub begins : ℕ → List Line
begins i = does (BeginSteal i) Moved ∷ []

-- a whole steal of thief 0 that ends at its load of the tail, and one that ends at its swap
abbrev pub steal_ends : Outcome → List Line
steal_ends o = begins 0 ++ thief_moves 1 ++ thief_gets o

abbrev pub steals : ℕ → List Line
steals x = begins 0 ++ thief_moves 3 ++ thief_gets (Task x)

-- a take that has loaded head
abbrev pub take_looks : List Line
take_looks = does BeginTake Moved ∷ worker_moves 2

-- a whole take of the last task, drained before its swap
abbrev pub takes_last : ℕ → List Line
takes_last x = take_looks ++ worker_moves 1 ++ drains 2 ++ worker_moves 1 ++ worker_gets (Task x)

-- a whole take from an empty queue
abbrev pub takes_nothing : List Line
takes_nothing = take_looks ++ worker_gets Empty

-- ── Sizes ───────────────────────────────────────────────────────────────────────────────────────────────────────────────────

-- a buffer of 2 without spacing needs a margin of 2
abbrev pub enough : Sizes
enough = sized 4 2 0 2 2 0

abbrev pub one_short : Sizes
one_short = sized 4 2 0 1 2 0
