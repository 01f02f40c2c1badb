-- How far memory lagged in a run, of any queue on its machine. Renders the last two sentences of request 4, in 02, of files: what the largest number is, which a run tells and the program prints, and that it never exceeds the needed margin. `properties` has the same of lists of
-- entries, one by one. Proved in `proofs/HiddenNumber.antt`.
use Rattle.std.specs.Prelude.{◌≡◌, List, ℕ, ◌≤◌, Result, Ok}
use Rattle.terms.specs.Lists.{IsLargest}
use Rattle.terms.specs.Sizes.{needed_margin}
use Rattle.claim.specs.Implementation.{Implementation}
use Rattle.claim.specs.Run.{hidden_of}
use Rattle.schedule.specs.Types.{Entry, Refusal, Sizes, Summary}
use Rattle.schedule.specs.Format.{sizes_in}
use Rattle.schedule.specs.Reader.{read_file}
use Rattle.schedule.specs.Run.{schedule_in, summary_in_by}

-- what is told of a file: the largest number after any of its entries, and no more than its needed margin, whichever margin it sets
pub record LagOf {M : Type 0} (b : Implementation M Entry) (file : List ℕ) (s : Sizes) : Type 0 where
  pub largest_told : IsLargest (hidden_of b (b.fresh s) (schedule_in file)) (summary_in_by b file).hidden
  pub within_needed : (summary_in_by b file).hidden ≤ needed_margin s.buffer s.spacing

-- so it is of every accepted file
abbrev pub LagBounded : {M : Type 0} → Implementation M Entry → Type 0
LagBounded b = (file : List ℕ) (s : Sizes) (n : ℕ) → read_file file ≡ Ok (s, n) → LagOf b file s

-- and `run_on` promises of its answer, whichever queue it runs, that it is within the needed margin
abbrev pub RunWithinNeeded : List ℕ → Result Summary Refusal → Type 0
RunWithinNeeded file answer = (t : Summary) → answer ≡ Ok t → t.hidden ≤ needed_margin (sizes_in file).buffer (sizes_in file).spacing
