-- Pairs of schedules, as one table over the definitions: pairs that are alike or differ in one thing, and refused files. `proofs/Pairs.antt` proves one fact: every row holds.
use Rattle.std.specs.Prelude.{Bool, false, not, List, [], ◌∷◌, ◌++◌, ℕ, Result, Ok, Err}
use Rattle.schedule.specs.Format.{file_of}
use Rattle.terms.specs.Sizes.{sized}
use Rattle.terms.specs.Refusal.{refused_by}
use Rattle.schedule.specs.Runs.{drains, file, put, steal, take}
use Rattle.comparison.specs.Types.{First, RefusedFile, Second}
use Rattle.comparison.specs.Types.{BeginPut, BeginSteal, BeginTake, Drain, Entry, ThiefStep, WorkerStep}
use Rattle.comparison.specs.Alike.{likeness}

-- ── Rows ────────────────────────────────────────────────────────────────────────────────────────────────────────────────────

pub data Row : Type 0 where
  -- two files that are alike, and two that are not
  like : (first second : List ℕ) → Row
  unlike : (first second : List ℕ) → Row
  -- two files of which the first is refused, or else the second, with number and place
  refuses_first : (first second : List ℕ) (number place : ℕ) → Row
  refuses_second : (first second : List ℕ) (number place : ℕ) → Row

abbrev pub is_like : Result Bool RefusedFile → Bool
is_like (Ok same) = same
is_like (Err r) = false

abbrev pub is_unlike : Result Bool RefusedFile → Bool
is_unlike (Ok same) = not same
is_unlike (Err r) = false

abbrev pub is_first_refused : ℕ → ℕ → Result Bool RefusedFile → Bool
is_first_refused number place (Ok same) = false
is_first_refused number place (Err (First r)) = refused_by r number place
is_first_refused number place (Err (Second r)) = false

abbrev pub is_second_refused : ℕ → ℕ → Result Bool RefusedFile → Bool
is_second_refused number place (Ok same) = false
is_second_refused number place (Err (First r)) = false
is_second_refused number place (Err (Second r)) = refused_by r number place

abbrev pub holds : Row → Bool
holds (like first second) = is_like (likeness first second)
holds (unlike first second) = is_unlike (likeness first second)
holds (refuses_first first second number place) = is_first_refused number place (likeness first second)
holds (refuses_second first second number place) = is_second_refused number place (likeness first second)

-- ── The rows ────────────────────────────────────────────────────────────────────────────────────────────────────────────────

-- a schedule under six sizes; one put and one take; three puts
abbrev pub plain : List Entry → List ℕ
plain es = file (sized 8 2 0 2 2 0) es

abbrev pub one : List Entry
one = put 7 ++ drains ++ take

abbrev pub three : ℕ → List Entry
three x = put x ++ drains ++ put 2 ++ drains ++ put 3 ++ drains

-- a put that ends with its first step, and a take that finds nothing
abbrev pub at_the_end : List Entry
at_the_end = BeginPut 1 ∷ WorkerStep ∷ []

abbrev pub take_of_nothing : List Entry
take_of_nothing = BeginTake ∷ WorkerStep ∷ WorkerStep ∷ Drain ∷ WorkerStep ∷ WorkerStep ∷ WorkerStep ∷ Drain ∷ WorkerStep ∷ []

abbrev pub pairs : List Row
pairs =
    like (plain []) (plain [])
    ∷ like (plain one) (plain one)
    -- other refusals, and other entries beside the answers
    ∷ like (plain one) (plain (WorkerStep ∷ Drain ∷ one))
    ∷ like (plain one) (plain (one ++ (BeginTake ∷ BeginTake ∷ ThiefStep 1 ∷ [])))
    ∷ like (plain (one ++ (Drain ∷ Drain ∷ []))) (plain one)
    ∷ like (file (sized 8 2 1 2 2 0) one) (file (sized 8 2 1 2 2 0) (one ++ (BeginTake ∷ [])))
    -- the order between parties
    ∷ like (plain (steal 0 ++ put 7 ++ drains)) (plain (put 7 ++ drains ++ steal 0))
    ∷ like (plain (steal 0 ++ steal 1)) (plain (steal 1 ++ steal 0))
    -- another value, another answer, one answer more or less
    ∷ unlike (plain one) (plain (put 8 ++ drains ++ take))
    ∷ unlike (plain (put 7 ++ drains ++ put 7)) (plain one)
    ∷ unlike (plain (put 0 ++ drains ++ take)) (plain (put 0 ++ drains ++ put 0))
    ∷ unlike (plain one) (plain (put 7))
    ∷ unlike (plain (put 7)) (plain one)
    ∷ unlike (plain (put 7)) (plain [])
    ∷ unlike (plain one) (plain (put 16777223 ++ drains ++ take))
    -- END, FULL or EMPTY once more
    ∷ unlike (file (sized 4 1 0 1 1 2147483647) at_the_end) (file (sized 4 1 0 1 1 2147483647) (at_the_end ++ at_the_end))
    ∷ unlike (file (sized 2 2 0 2 1 0) (put 1)) (file (sized 2 2 0 2 1 0) (put 1 ++ at_the_end))
    ∷ unlike (file (sized 4 1 1 1 1 0) []) (file (sized 4 1 1 1 1 0) take_of_nothing)
    -- a thief's answers: another thief, another value, one more or less; the worker's are the same
    ∷ unlike (plain (steal 0)) (plain (steal 1))
    ∷ unlike (plain (three 1 ++ steal 0)) (plain (three 9 ++ steal 0))
    ∷ like (plain (three 1 ++ steal 0)) (plain (three 1 ++ steal 0))
    ∷ unlike (plain (steal 1)) (plain [])
    ∷ unlike (plain []) (plain (steal 1))
    ∷ unlike (plain (three 1 ++ steal 0 ++ steal 0)) (plain (three 1 ++ steal 0 ++ (BeginSteal 0 ∷ [])))
    -- the same answers in another order
    ∷ unlike (plain (put 1 ++ drains ++ put 2 ++ drains ++ take ++ take)) (plain (put 2 ++ drains ++ put 1 ++ drains ++ take ++ take))
    -- other sizes, each by itself; a margin of 0 is not the buffer size
    ∷ unlike (plain []) (file (sized 9 2 0 2 2 0) [])
    ∷ unlike (plain []) (file (sized 8 3 0 2 2 0) [])
    ∷ unlike (plain []) (file (sized 8 2 1 2 2 0) [])
    ∷ unlike (plain []) (file (sized 8 2 0 0 2 0) [])
    ∷ unlike (plain []) (file (sized 8 2 0 2 3 0) [])
    ∷ unlike (plain []) (file (sized 8 2 0 2 2 1) [])
    -- refused files: the first one's first
    ∷ refuses_first [] (plain one) 2 0
    ∷ refuses_first (file (sized 8 2 0 2 0 0) []) [] 1 4
    ∷ refuses_first (file_of (sized 8 2 0 2 2 0) (7 ∷ []) (0 ∷ [])) (plain one) 3 0
    ∷ refuses_second (plain one) [] 2 0
    ∷ refuses_second (plain one) (plain (Drain ∷ ThiefStep 2 ∷ [])) 4 1
    ∷ refuses_second (plain []) (file (sized 9 2 0 2 9 0) []) 1 4
    ∷ []
