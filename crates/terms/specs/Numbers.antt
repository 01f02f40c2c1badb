-- The paper's numbers, as one table over the definitions: each outcome with number and value, each refusal with number and place, sizes and entries of a file that are refused, each kind of entry
-- with its party and its thief, and margins that are enough or short. It refuses a number that is another in definition and code alike. `proofs/Numbers.antt` proves one fact: every row holds.
use Rattle.std.specs.Prelude.{Bool, true, false, not, ◌&&◌, List, [], ◌∷◌, ℕ, eqb, Result, Ok, Err}
use Rattle.terms.specs.Types.{Abort, BeginPut, BeginSteal, BeginTake, Block, ClientStore, Drain, Early, Empty, End, Entry, Full, Kind, Margin, Moved, Outcome, Place, Refusal, Room, Short, Size, Sizes, Stored, Task, ThiefStep, Wait, Who, WorkerStep}
use Rattle.terms.specs.Outcome.{is_answer, is_answer_number, is_refusal, number_of, value_of}
use Rattle.terms.specs.Refusal.{refused_by}
use Rattle.terms.specs.Sizes.{check_sizes, enough_margin, refusal_in_sizes, sized}
use Rattle.terms.specs.Kinds.{entry_of, party_number, thief_is_there, thief_of}

pub data Row : Type 0 where
  -- an outcome's number and value, and whether it is an answer or a refusal
  outcome : Outcome → (number value : ℕ) (answered refused : Bool) → Row
  -- whether a number is an answer's
  answer : ℕ → Bool → Row
  refusal : Refusal → (number place : ℕ) → Row
  -- sizes of a file that are refused
  size : Sizes → (number place : ℕ) → Row
  -- an entry of a file, with so many thieves and at this place, that is refused
  entry : (thieves at kind operand number place : ℕ) → Row
  -- whose entry it is
  party : Entry → ℕ → Row
  -- the thief that it names, and whether that thief is there, with so many
  names : Entry → (thieves thief : ℕ) (there : Bool) → Row
  -- whether the margin is enough
  enough : Sizes → Bool → Row

abbrev pub same : Bool → Bool → Bool
same true b = b
same false b = not b

abbrev pub is_refused : ℕ → ℕ → List Refusal → Bool
is_refused number place [] = false
is_refused number place (r ∷ l) = refused_by r number place

abbrev pub is_no_entry : ℕ → ℕ → Result Entry Refusal → Bool
is_no_entry number place (Ok e) = false
is_no_entry number place (Err r) = refused_by r number place

abbrev pub holds : Row → Bool
holds (outcome o number value answered refused) =
    eqb (number_of o) number && eqb (value_of o) value && same (is_answer o) answered && same (is_refusal o) refused
holds (answer n is) = same (is_answer_number n) is
holds (refusal r number place) = refused_by r number place
holds (size s number place) = is_refused number place (refusal_in_sizes (check_sizes s))
holds (entry thieves at kind operand number place) = is_no_entry number place (entry_of thieves at kind operand)
holds (party e number) = eqb (party_number e) number
holds (names e thieves thief there) = eqb (thief_of e) thief && same (thief_is_there (sized 2 1 0 0 thieves 0) e) there
holds (enough s is) = same (enough_margin s) is

abbrev pub numbers : List Row
numbers =
    outcome Moved 0 0 false false
    ∷ outcome Place 5 0 false true
    ∷ outcome Early 6 0 false true
    ∷ outcome Wait 7 0 false true
    ∷ outcome Stored 16 0 true false
    ∷ outcome (Task 9) 17 9 true false
    ∷ outcome Empty 18 0 true false
    ∷ outcome Abort 19 0 true false
    ∷ outcome Full 20 0 true false
    ∷ outcome End 21 0 true false
    ∷ answer 8 false
    ∷ answer 15 false
    ∷ answer 22 false
    ∷ refusal (Size 3) 1 3
    ∷ refusal Short 2 0
    ∷ refusal (Kind 5) 3 5
    ∷ refusal (Who 5) 4 5
    ∷ refusal Room 8 0
    ∷ refusal Margin 9 3
    ∷ refusal (Block 5) 10 5
    ∷ size (sized 1 1 0 0 1 0) 1 0
    ∷ size (sized 257 0 0 0 1 0) 1 0
    ∷ size (sized 2 0 0 0 1 0) 1 1
    ∷ size (sized 2 65 0 65 1 0) 1 1
    ∷ size (sized 2 1 64 0 1 0) 1 2
    ∷ size (sized 2 1 0 65 0 0) 1 3
    ∷ size (sized 2 1 0 0 0 0) 1 4
    ∷ size (sized 2 1 0 0 9 0) 1 4
    ∷ size (sized 2 1 0 0 1 2147483648) 1 5
    ∷ entry 2 5 7 0 3 5
    ∷ entry 2 5 255 2 3 5
    ∷ entry 2 5 0 1 4 5
    ∷ entry 2 5 5 2 4 5
    ∷ entry 2 5 6 2 4 5
    ∷ party Drain 0
    ∷ party ClientStore 0
    ∷ party (BeginPut 5) 0
    ∷ party BeginTake 0
    ∷ party WorkerStep 0
    ∷ party (BeginSteal 0) 1
    ∷ party (BeginSteal 7) 8
    ∷ party (ThiefStep 0) 1
    ∷ party (ThiefStep 7) 8
    ∷ names Drain 0 0 true
    ∷ names ClientStore 0 0 true
    ∷ names (BeginPut 5) 2 0 true
    ∷ names BeginTake 0 0 true
    ∷ names WorkerStep 0 0 true
    ∷ names (BeginSteal 1) 2 1 true
    ∷ names (BeginSteal 2) 2 2 false
    ∷ names (ThiefStep 1) 2 1 true
    ∷ names (ThiefStep 2) 2 2 false
    -- a margin just enough, one short, 0, which is the buffer size, and one beyond the buffer
    ∷ enough (sized 4 33 1 17 1 0) true
    ∷ enough (sized 4 33 1 16 1 0) false
    ∷ enough (sized 4 33 0 0 1 0) true
    ∷ enough (sized 4 1 0 64 1 0) true
    ∷ []
