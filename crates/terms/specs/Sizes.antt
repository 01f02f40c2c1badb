-- The sizes of a schedule: their ranges and the margins. Renders "The schedule file": the table, places 0 to 5 (place 6, the number
-- of entries, is a matter of the file), and the paragraph under it.
use Rattle.std.specs.Prelude.{Bool, true, cond, not, ◌&&◌, List, [], ◌∷◌, ℕ, ◌+◌, ◌-◌, ◌/◌, leb, eqb, get_or, Option, None, Some, is_none}
use Rattle.terms.specs.Types.{Refusal, Size, Sizes}

-- six numbers as sizes, in the order of the table
abbrev pub sized : ℕ → ℕ → ℕ → ℕ → ℕ → ℕ → Sizes
sized slots buffer spacing margin thieves start =
    record { slots = slots; buffer = buffer; spacing = spacing; margin = margin; thieves = thieves; start = start }

-- a number is neither below the least nor above the greatest
abbrev pub within : ℕ → ℕ → ℕ → Bool
within least greatest n = leb least n && leb n greatest

-- the table: for each size in its place, whether it is in its range
abbrev pub ranges_kept : Sizes → List Bool
ranges_kept s =
    within 2 256 s.slots
    ∷ within 1 64 s.buffer
    ∷ within 0 63 s.spacing
    ∷ within 0 64 s.margin
    ∷ within 1 8 s.thieves
    ∷ within 0 2147483647 s.start
    ∷ []

-- the place of the first test that failed, counted from a given one
abbrev pub first_fault : ℕ → List Bool → Option ℕ
first_fault place [] = None
first_fault place (kept ∷ l) = cond kept (first_fault (place + 1) l) (Some place)

-- which size is refused, if one is: of those out of range, the one with the lowest place
abbrev pub check_sizes : Sizes → Option ℕ
check_sizes s = first_fault 0 (ranges_kept s)

-- the refusal in such an answer: SIZE, with the place
abbrev pub refusal_in_sizes : Option ℕ → List Refusal
refusal_in_sizes None = []
refusal_in_sizes (Some place) = Size place ∷ []

-- whether the six sizes have the fault with this number and this place
abbrev pub sizes_have : Sizes → ℕ → ℕ → Bool
sizes_have s number place = eqb number 1 && not (get_or (ranges_kept s) place true)

-- every size is in its range
abbrev pub sizes_in_range : Sizes → Bool
sizes_in_range s = is_none (check_sizes s)

-- a margin of 0 is the buffer size; no other size has such a meaning
abbrev pub margin_in_use : Sizes → ℕ
margin_in_use s = cond (eqb s.margin 0) s.buffer s.margin

-- a quotient, rounded up: a remainder counts as a whole
abbrev pub divide_up : ℕ → ℕ → ℕ
divide_up n d = (n + (d - 1)) / d

-- the needed margin of a buffer size and a spacing
abbrev pub needed_margin : ℕ → ℕ → ℕ
needed_margin buffer spacing = divide_up buffer (spacing + 1)

-- what the program calls enough: a margin in use that is not below the needed one
abbrev pub enough_margin : Sizes → Bool
enough_margin s = leb (needed_margin s.buffer s.spacing) (margin_in_use s)
