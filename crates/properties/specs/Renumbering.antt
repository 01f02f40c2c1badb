-- Numbers of tasks are only carried. Renders, of "Demand 3's plain queue", that a task is known by its put and not by its number, for the
-- machine's answers: where the puts of a list are numbered anew, the outcomes are those of the list, numbered anew. (0 stays
-- 0, since slots hold 0 at first.) So every list has the outcomes of the list that gives each put a number of its own, none of them 0, numbered
-- back; and in that list an answer's number names one put.
use Rattle.std.specs.Prelude.{◌≡◌, List, map, ℕ}
use Rattle.properties.specs.Types.{Entry, Drain, ClientStore, BeginPut, BeginTake, WorkerStep, BeginSteal, ThiefStep, Outcome, Moved, Place, Early, Wait, Stored, Task, Empty, Abort, Full, End, Sizes}
use Rattle.claim.specs.Implementation.{Implementation}
use Rattle.claim.specs.Run.{outcomes_of}

abbrev pub renumber_entry : (ℕ → ℕ) → Entry → Entry
renumber_entry f Drain = Drain
renumber_entry f ClientStore = ClientStore
renumber_entry f (BeginPut x) = BeginPut (f x)
renumber_entry f BeginTake = BeginTake
renumber_entry f WorkerStep = WorkerStep
renumber_entry f (BeginSteal i) = BeginSteal i
renumber_entry f (ThiefStep i) = ThiefStep i

abbrev pub renumber_outcome : (ℕ → ℕ) → Outcome → Outcome
renumber_outcome f Moved = Moved
renumber_outcome f Place = Place
renumber_outcome f Early = Early
renumber_outcome f Wait = Wait
renumber_outcome f Stored = Stored
renumber_outcome f (Task x) = Task (f x)
renumber_outcome f Empty = Empty
renumber_outcome f Abort = Abort
renumber_outcome f Full = Full
renumber_outcome f End = End

-- Proved of FF-THE in `proofs/Renumbering.antt`, of FF-CL in `proofs/CasRenumbering.antt`.
abbrev pub BlindToNumbers : {M : Type 0} → Implementation M Entry → Type 0
BlindToNumbers b =
    (f : ℕ → ℕ)
    → f 0 ≡ 0
    → (s : Sizes) (es : List Entry)
    → outcomes_of b (b.fresh s) (map (renumber_entry f) es) ≡ map (renumber_outcome f) (outcomes_of b (b.fresh s) es)
