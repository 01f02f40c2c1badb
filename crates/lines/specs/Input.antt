-- Inputs of any length. Renders, of "The numbers", 2 SHORT for a file that is too long, as far as the program is concerned: it keeps one byte more than the longest file has, 28 + 5 × 4,096, and prints for these what it would
-- print for the whole input. An overlong input is refused and never cut to a file. Proved in `proofs/Input.antt`.
use Rattle.std.specs.Prelude.{◌≡◌, List, ℕ, take}
use Rattle.lines.specs.Types.{Queue}
use Rattle.lines.specs.Lines.{lines_of}

abbrev pub BeginningDecides : Type 0
BeginningDecides = (q : Queue) (input : List ℕ) → lines_of q (take 20509 input) ≡ lines_of q input
