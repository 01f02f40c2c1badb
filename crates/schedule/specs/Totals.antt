-- What a run tells of all its entries together. Renders, of "The program's lines", the sentence on the last line and the one on the running tally, and of request 4, in 02, the largest number.
use Rattle.std.specs.Prelude.{◌≡◌, cond, List, [], ◌∷◌, map, ℕ, leb}
use Rattle.terms.specs.Lists.{largest, occurrences}
use Rattle.terms.specs.Outcome.{number_of}
use Rattle.terms.specs.Tally.{counted, none_counted}
use Rattle.claim.specs.Implementation.{Implementation}
use Rattle.claim.specs.Run.{hidden_of, outcomes_of}
use Rattle.machine.specs.Linearizable.{ff_the}
use Rattle.schedule.specs.Types.{Entry, Machine, Outcome, Summary, Tally}

-- brought up to date by every outcome of a list, the first one first
abbrev pub counted_from : Tally → List Outcome → Tally
counted_from t [] = t
counted_from t (o ∷ os) = counted_from (counted t o) os

-- the totals of a run with these outcomes
abbrev pub tally_of : List Outcome → Tally
tally_of os = counted_from none_counted os

-- of the entries of a queue's run from this machine: the totals of their outcomes, and the largest number of stores of take step 1 that were pending after any of them; 0 for no entries
abbrev pub summary_by : {M : Type 0} → Implementation M Entry → M → List Entry → Summary
summary_by b m es = record { tally = tally_of (outcomes_of b m es); hidden = largest (hidden_of b m es) }

-- .. of FF-THE's run
abbrev pub summary_of : Machine → List Entry → Summary
summary_of = summary_by ff_the

-- ── What a total is ─────────────────────────────────────────────────────────────────────────────────────────────────────────

-- how often a number stands among the outcomes, but the largest number of 32 bits where it is more often
abbrev pub how_often : ℕ → List Outcome → ℕ
how_often number os = cond (leb (occurrences number (map number_of os)) 4294967295) (occurrences number (map number_of os)) 4294967295

-- The totals count, and nothing else. Proved in `proofs/Totals.antt`.
abbrev pub TotalsCount : Type 0
TotalsCount = (os : List Outcome) → tally_of os ≡ record { given = how_often 17 os; aborts = how_often 19 os; waits = how_often 7 os }
