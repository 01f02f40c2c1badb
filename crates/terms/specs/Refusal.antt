-- Refusals of a whole file, in the papers' numbers. Renders "The numbers, by who can cause them": 1 to 4 and, for whoever lends a buffer, 8; and 9 and 10, of 02's request 2.
use Rattle.std.specs.Prelude.{◌≡◌, Bool, true, false, ◌&&◌, List, [], ◌∷◌, ℕ, eqb, Result, Ok, Err}
use Rattle.terms.specs.Types.{Refusal, Size, Short, Kind, Who, Room, Margin, Block}

-- the number of each refusal
abbrev pub number_of : Refusal → ℕ
number_of (Size place) = 1
number_of Short = 2
number_of (Kind entry) = 3
number_of (Who entry) = 4
number_of Room = 8
number_of Margin = 9
number_of (Block entry) = 10

-- the place of each refusal: a size's by the table, MARGIN having the margin's, and 7 for the count of a share sheet; or the entry; else 0
abbrev pub place_of : Refusal → ℕ
place_of (Size place) = place
place_of Short = 0
place_of (Kind entry) = entry
place_of (Who entry) = entry
place_of Room = 0
place_of Margin = 3
place_of (Block entry) = entry

-- a refusal has this number and this place
abbrev pub refused_by : Refusal → ℕ → ℕ → Bool
refused_by r number place = eqb (number_of r) number && eqb (place_of r) place

-- What an answer that may refuse promises, by the refusal in it, if there is one, and by which faults there are: number and place are those of a
-- fault that there is; and where nothing is refused, there is none.
abbrev pub Refuses : (ℕ → ℕ → Bool) → List Refusal → Type 0
Refuses has [] = (number place : ℕ) → has number place ≡ false
Refuses has (r ∷ l) = has (number_of r) (place_of r) ≡ true

-- The refusal in an answer, if there is one.
abbrev pub refusal_in : {A : Type 0} → Result A Refusal → List Refusal
refusal_in (Ok a) = []
refusal_in (Err r) = r ∷ []
