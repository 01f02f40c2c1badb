-- Checks in their order, and the check of the sizes. Renders the table of "The schedule file" and 1 SIZE, of "The numbers".
use Rattle.std.specs.Prelude.{Bool, cond, List, [], ◌∷◌, ◌++◌, ℕ, Result, Ok, Err, Option}
use Rattle.terms.specs.Sizes.{first_fault, ranges_kept, refusal_in_sizes, within}
use Rattle.schedule.specs.Types.{Refusal, Sizes}

-- of several checks in their order, the first that fails decides
abbrev pub first : List (Result Unit Refusal) → Result Unit Refusal
first [] = Ok tt
first (Ok _ ∷ l) = first l
first (Err r ∷ l) = Err r

-- a check by one test
abbrev pub fail_if : Bool → Refusal → Result Unit Refusal
fail_if fault r = cond fault (Err r) (Ok tt)

-- the table, all seven places: the ranges of the first six sizes, and that of the number of entries
abbrev pub sizes_kept : Sizes → ℕ → List Bool
sizes_kept s entries = ranges_kept s ++ (within 0 4096 entries ∷ [])

-- a check that fails with the refusal that there is
abbrev pub fails_with : List Refusal → Result Unit Refusal
fails_with [] = Ok tt
fails_with (r ∷ l) = Err r

-- a size out of its range is SIZE, with its place
abbrev pub size_refusal : Option ℕ → Result Unit Refusal
size_refusal c = fails_with (refusal_in_sizes c)

-- the seven sizes: the lowest place decides
abbrev pub check_ranges : Sizes → ℕ → Result Unit Refusal
check_ranges s entries = size_refusal (first_fault 0 (sizes_kept s entries))
