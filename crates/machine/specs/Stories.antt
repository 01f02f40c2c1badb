-- Rows of tables (`Stories`, of `claim`) of FF-THE on its machine, and the words for stories that are its own. The rows themselves are in `Rehearsals`, `SpacedTakes`, `HiddenStores` and `Handed`.
use Rattle.std.specs.Prelude.{Bool, List, ◌∷◌, ◌++◌, eqb, get_or}
use Rattle.claim.specs.Stories.{Line, Looks, Row, does, drains, holds, thief_gets, thief_moves, worker_gets, worker_moves}
use Rattle.stores.specs.Index.{eq_z}
use Rattle.machine.specs.Types.{BeginSteal, BeginTake, Empty, Machine, Moved, Outcome}
use Rattle.machine.specs.InRange.{in_range}
use Rattle.machine.specs.Linearizable.{ff_the}

abbrev pub looks : Looks Machine
looks =
    record {
      head_is = λ m z. eq_z m.head.at z;
      tail_is = λ m z. eq_z m.tail.at z;
      slot_is = λ m k x. eqb (get_or m.slots k 0) x;
      count_is = λ m n. eqb m.spacing.count n;
      in_range = in_range;
    }

abbrev pub row_holds : Row Machine → Bool
row_holds r = holds ff_the looks r

-- the steps of a take that finds no task, drained where needed; and the whole take
abbrev pub empty_steps : List Line
empty_steps = worker_moves 2 ++ drains 1 ++ worker_moves 3 ++ drains 1 ++ worker_gets Empty

abbrev pub takes_nothing : List Line
takes_nothing = does BeginTake Moved ∷ empty_steps

-- a whole steal
abbrev pub steals : Outcome → List Line
steals o = does (BeginSteal 0) Moved ∷ thief_moves 5 ++ thief_gets o
