-- Entries: one entry of two parallel arrays, the first faulty one, and the one to obey. Renders, of "The numbers", 3 KIND and 4 WHO for a whole schedule, and the last two sentences of request 3 in 02.
use Rattle.std.specs.Prelude.{cond, not, ◌&&◌, List, [], ◌∷◌, map, ℕ, ◌*◌, eqb, ltb, length, get_or, Result, Ok, Err}
use Rattle.terms.specs.Lists.{range}
use Rattle.terms.specs.Kinds.{entry_of}
use Rattle.schedule.specs.Types.{Entry, Refusal, Short, Sizes, ThiefStep}
use Rattle.schedule.specs.Check.{fail_if, first}
use Rattle.schedule.specs.Format.{words_in}

-- the entry at a place of two parallel arrays, by the decoded sizes. If one of the arrays ends before it, it is SHORT; 01 does not
-- speak of this case, and no file and no writing is refused by it.
abbrev pub entry_at : Sizes → List ℕ → List ℕ → ℕ → Result Entry Refusal
entry_at s kinds operands at =
    cond (ltb at (length kinds) && ltb at (length operands)) (entry_of s.thieves at (get_or kinds at 0) (get_or operands at 0)) (Err Short)

abbrev pub check_of : Result Entry Refusal → Result Unit Refusal
check_of (Ok entry) = Ok tt
check_of (Err r) = Err r

-- all entries: the first faulty one decides
abbrev pub check_entries : Sizes → List ℕ → List ℕ → Result Unit Refusal
check_entries s kinds operands = first (map (λ at. check_of (entry_at s kinds operands at)) (range (length kinds)))

-- All entries of two parts, kinds and operands, the operands still in bytes. Where there are not four bytes of operand for each kind, it is SHORT before any entry is looked
-- at, as a file of another length is. The two parts of an accepted file, by its own reading, belong together (`PartsOfAccepted`); 02 does not speak of others.
abbrev pub check_parts : Sizes → List ℕ → List ℕ → Result Unit Refusal
check_parts s kinds bytes = first (fail_if (not (eqb (length bytes) (4 * length kinds))) Short ∷ check_entries s kinds (words_in bytes) ∷ [])

-- The entry to obey, by what stands at a place. Where none is allowed, it is a step of the thief with the largest number of 32 bits, whom no machine has: each
-- answers 7 and stays as it is (`NoEntryWaits`, in `Run`). A file with such a place is refused before anything is obeyed.
abbrev pub entry_to_obey : Result Entry Refusal → Entry
entry_to_obey (Ok entry) = entry
entry_to_obey (Err r) = ThiefStep 4294967295
