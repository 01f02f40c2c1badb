-- Lines by example, as one table over the definitions: the example of "The program's lines" with what request 4 adds, a task that is given, steals that abort, two takes undrained and then drained, a refused file, first lines with a margin of 0 and with one that is short, FF-CL's lines, among them steals that are EMPTY and ABORT and a take that is won by its swap, and numbers at the ends of their range. `proofs/Examples.antt`
-- proves one fact: every row holds.
use Rattle.std.specs.Prelude.{Bool, List, [], ◌∷◌, ℕ}
use Prim.Native.String.{String}
use Rattle.terms.specs.Lists.{equal}
use Rattle.schedule.specs.Format.{file_of}
use Rattle.lines.specs.Types.{FfCl, FfThe, Queue, Sizes}
use Rattle.lines.specs.Text.{ascii, decimal}
use Rattle.lines.specs.Lines.{last_line, lines_of}

pub data Row : Type 0 where
  -- sizes, kinds and operands of a file, and what the program of a queue prints for it
  prints : Queue → Sizes → (kinds operands : List ℕ) → String → Row
  -- totals and how far memory lagged, and the last line
  ends : (given aborts waits hidden : ℕ) → String → Row
  -- a number, and how it is written
  writes : ℕ → String → Row

abbrev pub holds : Row → Bool
holds (prints q s kinds operands text) = equal (lines_of q (file_of s kinds operands)) (ascii text)
holds (ends given aborts waits hidden text) =
    equal (last_line (record { tally = record { given = given; aborts = aborts; waits = waits }; hidden = hidden })) (ascii text)
holds (writes n text) = equal (decimal n) (ascii text)

abbrev pub table : List Row
table =
    prints FfThe (record { slots = 4; buffer = 1; spacing = 0; margin = 1; thieves = 1; start = 0 }) (2 ∷ 4 ∷ 4 ∷ 4 ∷ 0 ∷ 4 ∷ []) (7 ∷ 0 ∷ 0 ∷ 0 ∷ 0 ∷ 0 ∷ [])
    "4 1 0 1 1 0 enough\n0 0 0\n1 0 0\n2 0 0\n3 7 0\n4 0 0\n5 16 0\ngiven 0 aborts 0 waits 1 hidden 0\n"
    ∷ prints FfThe (record { slots = 4; buffer = 2; spacing = 0; margin = 2; thieves = 1; start = 0 }) (2 ∷ 4 ∷ 4 ∷ 4 ∷ 0 ∷ 0 ∷ 3 ∷ 4 ∷ 4 ∷ 4 ∷ [])
    (305419896 ∷ 0 ∷ 0 ∷ 0 ∷ 0 ∷ 0 ∷ 0 ∷ 0 ∷ 0 ∷ 0 ∷ [])
    "4 2 0 2 1 0 enough\n0 0 0\n1 0 0\n2 0 0\n3 16 0\n4 0 0\n5 0 0\n6 0 0\n7 0 0\n8 0 0\n9 17 305419896\ngiven 1 aborts 0 waits 0 hidden 1\n"
    ∷ prints FfThe (record { slots = 4; buffer = 1; spacing = 0; margin = 1; thieves = 1; start = 0 }) (5 ∷ 6 ∷ 6 ∷ 6 ∷ 6 ∷ 6 ∷ 6 ∷ 5 ∷ 6 ∷ 6 ∷ 6 ∷ 6 ∷ 6 ∷ 6 ∷ [])
    (0 ∷ 0 ∷ 0 ∷ 0 ∷ 0 ∷ 0 ∷ 0 ∷ 0 ∷ 0 ∷ 0 ∷ 0 ∷ 0 ∷ 0 ∷ 0 ∷ [])
    "4 1 0 1 1 0 enough\n0 0 0\n1 0 0\n2 0 0\n3 0 0\n4 0 0\n5 0 0\n6 19 0\n7 0 0\n8 0 0\n9 0 0\n10 0 0\n11 0 0\n12 0 0\n13 19 0\ngiven 0 aborts 2 waits 0 hidden 0\n"
    ∷ prints FfThe (record { slots = 4; buffer = 2; spacing = 0; margin = 1; thieves = 1; start = 0 }) (2 ∷ 4 ∷ 4 ∷ 4 ∷ 0 ∷ 0 ∷ 2 ∷ 4 ∷ 4 ∷ 4 ∷ 0 ∷ 0 ∷ 3 ∷ 4 ∷ 4 ∷ 4 ∷ 3 ∷ 4 ∷ 4 ∷ 4 ∷ 0 ∷ 0 ∷ [])
    (8 ∷ 0 ∷ 0 ∷ 0 ∷ 0 ∷ 0 ∷ 9 ∷ 0 ∷ 0 ∷ 0 ∷ 0 ∷ 0 ∷ 0 ∷ 0 ∷ 0 ∷ 0 ∷ 0 ∷ 0 ∷ 0 ∷ 0 ∷ 0 ∷ 0 ∷ [])
    "4 2 0 1 1 0 short\n0 0 0\n1 0 0\n2 0 0\n3 16 0\n4 0 0\n5 0 0\n6 0 0\n7 0 0\n8 0 0\n9 16 0\n10 0 0\n11 0 0\n12 0 0\n13 0 0\n14 0 0\n15 17 9\n16 0 0\n17 0 0\n18 0 0\n19 17 8\n20 0 0\n21 0 0\ngiven 2 aborts 0 waits 0 hidden 2\n"
    ∷ prints FfThe (record { slots = 4; buffer = 1; spacing = 0; margin = 1; thieves = 1; start = 0 }) (5 ∷ 6 ∷ []) (0 ∷ 1 ∷ []) "refused 4 place 1\n"
    ∷ prints FfThe (record { slots = 256; buffer = 33; spacing = 1; margin = 0; thieves = 8; start = 2147483647 }) [] []
    "256 33 1 33 8 2147483647 enough\ngiven 0 aborts 0 waits 0 hidden 0\n"
    ∷ prints FfThe (record { slots = 2; buffer = 33; spacing = 1; margin = 16; thieves = 1; start = 10 }) [] []
    "2 33 1 16 1 10 short\ngiven 0 aborts 0 waits 0 hidden 0\n"
    ∷ prints FfCl (record { slots = 4; buffer = 1; spacing = 0; margin = 1; thieves = 1; start = 0 }) (2 ∷ 4 ∷ 4 ∷ 4 ∷ 0 ∷ 4 ∷ []) (7 ∷ 0 ∷ 0 ∷ 0 ∷ 0 ∷ 0 ∷ [])
    "4 1 0 1 1 0 enough\n0 0 0\n1 0 0\n2 0 0\n3 7 0\n4 0 0\n5 16 0\ngiven 0 aborts 0 waits 1\n"
    ∷ prints FfCl (record { slots = 4; buffer = 2; spacing = 0; margin = 2; thieves = 1; start = 0 }) (2 ∷ 4 ∷ 4 ∷ 4 ∷ 5 ∷ 6 ∷ 6 ∷ 0 ∷ 0 ∷ 5 ∷ 6 ∷ 6 ∷ 3 ∷ 4 ∷ 4 ∷ 4 ∷ 4 ∷ 0 ∷ 0 ∷ 4 ∷ 4 ∷ [])
    (9 ∷ 0 ∷ 0 ∷ 0 ∷ 0 ∷ 0 ∷ 0 ∷ 0 ∷ 0 ∷ 0 ∷ 0 ∷ 0 ∷ 0 ∷ 0 ∷ 0 ∷ 0 ∷ 0 ∷ 0 ∷ 0 ∷ 0 ∷ 0 ∷ [])
    "4 2 0 2 1 0 enough\n0 0 0\n1 0 0\n2 0 0\n3 16 0\n4 0 0\n5 0 0\n6 18 0\n7 0 0\n8 0 0\n9 0 0\n10 0 0\n11 19 0\n12 0 0\n13 0 0\n14 0 0\n15 0 0\n16 7 0\n17 0 0\n18 0 0\n19 0 0\n20 17 9\ngiven 1 aborts 1 waits 1\n"
    ∷ prints FfCl (record { slots = 4; buffer = 1; spacing = 0; margin = 1; thieves = 1; start = 0 }) (5 ∷ 6 ∷ []) (0 ∷ 1 ∷ []) "refused 4 place 1\n"
    ∷ ends 10 9 100 64 "given 10 aborts 9 waits 100 hidden 64\n"
    ∷ ends 4294967295 0 4096 17 "given 4294967295 aborts 0 waits 4096 hidden 17\n"
    ∷ writes 0 "0"
    ∷ writes 9 "9"
    ∷ writes 10 "10"
    ∷ writes 4096 "4096"
    ∷ writes 1000000000 "1000000000"
    ∷ writes 4294967295 "4294967295"
    ∷ []
