-- The outcome of an entry, in the paper's numbers. Renders "The numbers, by who can cause them", as far as one entry goes, and the
-- sentence on the trace's outcomes and values.
use Rattle.std.specs.Prelude.{Bool, ◌&&◌, ℕ, eqb, leb}
use Rattle.terms.specs.Types.{Outcome, Moved, Place, Early, Wait, Stored, Task, Empty, Abort, Full, End}

-- the number of each outcome
abbrev pub number_of : Outcome → ℕ
number_of Moved = 0
number_of Place = 5
number_of Early = 6
number_of Wait = 7
number_of Stored = 16
number_of (Task x) = 17
number_of Empty = 18
number_of Abort = 19
number_of Full = 20
number_of End = 21

-- the value of each outcome: the task's number for TASK, else 0
abbrev pub value_of : Outcome → ℕ
value_of Moved = 0
value_of Place = 0
value_of Early = 0
value_of Wait = 0
value_of Stored = 0
value_of (Task x) = x
value_of Empty = 0
value_of Abort = 0
value_of Full = 0
value_of End = 0

-- 16 to 21 are answers; an answer ends its call
abbrev pub is_answer_number : ℕ → Bool
is_answer_number n = leb 16 n && leb n 21

abbrev pub is_answer : Outcome → Bool
is_answer o = is_answer_number (number_of o)

-- a refusal leaves the machine as it is: 5, 6 and 7
abbrev pub is_refusal : Outcome → Bool
is_refusal o = leb 5 (number_of o) && leb (number_of o) 7

abbrev pub is_moved : Outcome → Bool
is_moved o = eqb (number_of o) (number_of Moved)

abbrev pub is_stored : Outcome → Bool
is_stored o = eqb (number_of o) (number_of Stored)
