-- The three totals. Renders, of "The program's lines", the sentence on the last line and the one on the running tally: "given" counts outcome 17, "aborts" 19 and "waits" 7.
use Rattle.std.specs.Prelude.{Bool, cond, ℕ, ◌+◌, eqb, ltb}
use Rattle.terms.specs.Types.{Outcome, Tally}
use Rattle.terms.specs.Outcome.{number_of}

-- one more; a total at the largest number of 32 bits stays there
abbrev pub one_more : ℕ → ℕ
one_more total = cond (ltb total 4294967295) (total + 1) total

-- a total after an outcome that it counts, or does not count
abbrev pub counted_if : Bool → ℕ → ℕ
counted_if counts total = cond counts (one_more total) total

-- the tally after one outcome more
abbrev pub counted : Tally → Outcome → Tally
counted t o =
    record {
      given = counted_if (eqb (number_of o) 17) t.given;
      aborts = counted_if (eqb (number_of o) 19) t.aborts;
      waits = counted_if (eqb (number_of o) 7) t.waits;
    }

abbrev pub none_counted : Tally
none_counted = record { given = 0; aborts = 0; waits = 0 }
