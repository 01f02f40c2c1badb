-- How two runs are compared, party by party and entry by entry, in the bytes of their traces. Nothing here is of the paper: `Alike` says what is compared, and here stands what the functions promise each other
-- that compare it. `proofs/Laws/Alike.antt` has that both are equal.
use Rattle.std.specs.Prelude.{◌≡◌, Bool, ◌&&◌, List, filter, map, ℕ, ◌+◌, eqb, length}
use Rattle.terms.specs.Outcome.{is_answer_number}
use Rattle.terms.specs.Lists.{all, range}
use Rattle.comparison.specs.Types.{Run, Sizes}
use Rattle.terms.specs.Kinds.{party_number}
use Rattle.comparison.specs.Alike.{answers_for, same_lines}
use Rattle.schedule.specs.Entries.{entry_at, entry_to_obey}
use Rattle.schedule.specs.Format.{words_in}
use Rattle.schedule.specs.Run.{entries_of, outcomes_from}
use Rattle.schedule.specs.Trace.{Line, line_in}

-- the line at a place of a run's trace
unfoldable pub line_at : Run → ℕ → Line
line_at r at = line_in (length r.kinds.now) r.trace.now at

-- whether the entry at a place of a run gets an answer, and for the party
unfoldable pub answered : ℕ → Run → ℕ → Bool
answered party r at = is_answer_number (line_at r at).number && eqb (party_number (entry_to_obey (entry_at r.sizes r.kinds.now (words_in r.operands.now) at))) party

-- the party's answers in a run
abbrev pub lines_for : ℕ → Run → List Line
lines_for party r = map (line_at r) (filter (answered party r) (range (length r.kinds.now)))

-- a run of a schedule with these sizes, kinds and operands, of which its trace tells each party's answers
pub record RunOf (s : Sizes) (kinds operands : List ℕ) (r : Run) : Type 0 where
  pub sizes : r.sizes ≡ s
  pub answers : (party : ℕ) → lines_for party r ≡ answers_for party (entries_of s kinds (words_in operands)) (outcomes_from s kinds (words_in operands))

-- a party gets the same answers in two runs
abbrev pub same_for : Run → Run → ℕ → Bool
same_for r other party = same_lines (lines_for party r) (lines_for party other)

-- the worker and each thief do
abbrev pub same_for_all : Run → Run → Bool
same_for_all r other = all (same_for r other) (range (r.sizes.thieves + 1))
