-- How the lines of the entries are read off a trace. Nothing here is of the paper: it is what the functions that put these lines promise each other.
use Rattle.std.specs.Prelude.{List, [], ◌∷◌, ℕ}
use Rattle.terms.specs.Lists.{concat_map, range}
use Rattle.schedule.specs.Trace.{line_in}
use Rattle.lines.specs.Text.{decimal, line}

-- a line of three numbers
abbrev pub three_numbers : ℕ → ℕ → ℕ → List ℕ
three_numbers a b c = line (decimal a ∷ decimal b ∷ decimal c ∷ [])

-- the line of an entry, by what a trace of so many entries has of it
abbrev pub line_from_trace : ℕ → List ℕ → ℕ → List ℕ
line_from_trace entries trace at = three_numbers at (line_in entries trace at).number (line_in entries trace at).value

-- the lines of all entries of a trace
abbrev pub lines_from_trace : ℕ → List ℕ → List ℕ
lines_from_trace entries trace = concat_map (line_from_trace entries trace) (range entries)
