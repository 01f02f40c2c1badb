-- Kinds of entries: what a kind byte means, which operands are allowed, and whose entry each is. Renders "Kinds", of "The schedule file", and 3 KIND and 4 WHO, of "The numbers", as far as one
-- entry goes.
use Rattle.std.specs.Prelude.{Bool, true, cond, List, [], ◌∷◌, ℕ, suc, eqb, ltb, get_or, Result, Ok, Err}
use Rattle.terms.specs.Types.{BeginPut, BeginSteal, BeginTake, ClientStore, Drain, Entry, Kind, Refusal, Sizes, ThiefStep, Who, WorkerStep}

-- the kind and the operand of each entry, as a file has them
abbrev pub kind_of : Entry → ℕ
kind_of Drain = 0
kind_of ClientStore = 1
kind_of (BeginPut task) = 2
kind_of BeginTake = 3
kind_of WorkerStep = 4
kind_of (BeginSteal thief) = 5
kind_of (ThiefStep thief) = 6

abbrev pub operand_of : Entry → ℕ
operand_of Drain = 0
operand_of ClientStore = 0
operand_of (BeginPut task) = task
operand_of BeginTake = 0
operand_of WorkerStep = 0
operand_of (BeginSteal thief) = thief
operand_of (ThiefStep thief) = thief

-- whose entry it is, as 02's request 2 numbers the parties: 0 is the worker, and i + 1 is thief i; a drain is the worker's
abbrev pub party_number : Entry → ℕ
party_number Drain = 0
party_number ClientStore = 0
party_number (BeginPut task) = 0
party_number BeginTake = 0
party_number WorkerStep = 0
party_number (BeginSteal thief) = suc thief
party_number (ThiefStep thief) = suc thief

-- the thief that an entry names; 0, the first, where it names none
abbrev pub thief_of : Entry → ℕ
thief_of Drain = 0
thief_of ClientStore = 0
thief_of (BeginPut x) = 0
thief_of BeginTake = 0
thief_of WorkerStep = 0
thief_of (BeginSteal i) = i
thief_of (ThiefStep i) = i

-- the thief that the entry names, if it names one, is below the number of thieves
abbrev pub thief_is_there : Sizes → Entry → Bool
thief_is_there s Drain = true
thief_is_there s ClientStore = true
thief_is_there s (BeginPut x) = true
thief_is_there s BeginTake = true
thief_is_there s WorkerStep = true
thief_is_there s (BeginSteal i) = ltb i s.thieves
thief_is_there s (ThiefStep i) = ltb i s.thieves

-- an entry, if its operand is allowed; else WHO
abbrev pub allowed_if : Bool → ℕ → Entry → Result Entry Refusal
allowed_if allowed place entry = cond allowed (Ok entry) (Err (Who place))

-- What the kinds mean, 0 first. Kind 2 takes any operand, the task's number; 5 and 6 take a thief, counted from 0 and so below the number
-- of thieves; the others take 0 alone.
abbrev pub meanings : ℕ → ℕ → ℕ → List (Result Entry Refusal)
meanings thieves place operand =
    allowed_if (eqb operand 0) place Drain
    ∷ allowed_if (eqb operand 0) place ClientStore
    ∷ Ok (BeginPut operand)
    ∷ allowed_if (eqb operand 0) place BeginTake
    ∷ allowed_if (eqb operand 0) place WorkerStep
    ∷ allowed_if (ltb operand thieves) place (BeginSteal operand)
    ∷ allowed_if (ltb operand thieves) place (ThiefStep operand)
    ∷ []

-- a kind byte and its operand, at a place of a schedule; a kind past the last is KIND, whatever its operand
abbrev pub entry_of : ℕ → ℕ → ℕ → ℕ → Result Entry Refusal
entry_of thieves place kind operand = get_or (meanings thieves place operand) kind (Err (Kind place))
