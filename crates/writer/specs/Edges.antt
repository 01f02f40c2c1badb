-- Writing at its edges, as one table over the definitions: the example of "The program's lines" byte by byte, a file of six different sizes, an operand whose bytes are 1, 2, 3 and 4, buffers as long as the file, longer, and one byte short, and
-- schedules with several faults, which show the order of the checks. `proofs/Edges.antt` proves one fact: every row holds.
use Rattle.std.specs.Prelude.{Bool, false, ◌&&◌, List, [], ◌∷◌, ◌++◌, ℕ, eqb, replicate, Result, Ok, Err}
use Rattle.schedule.specs.Format.{size_bytes}
use Rattle.terms.specs.Lists.{equal}
use Rattle.terms.specs.Sizes.{sized}
use Rattle.terms.specs.Refusal.{refused_by}
use Rattle.schedule.specs.Edges.{different, different_file, example, example_file, example_operands, with_thieves}
use Rattle.schedule.specs.Runs.{before}
use Rattle.writer.specs.Types.{Sizes, Refusal}
use Rattle.writer.specs.Writer.{buffer_after, write_file}

-- ── Rows ────────────────────────────────────────────────────────────────────────────────────────────────────────────────────

pub data Row : Type 0 where
  -- what is written into a buffer of so many bytes, what the buffer holds afterwards, and how many bytes are answered
  writes : Sizes → (kinds operands : List ℕ) (room : ℕ) (after : List ℕ) (bytes : ℕ) → Row
  -- what is not written, with number and place; the buffer, of so many bytes, holds what it held
  declines : Sizes → (kinds operands : List ℕ) (room number place : ℕ) → Row

abbrev pub is_written : ℕ → Result ℕ Refusal → Bool
is_written bytes (Ok n) = eqb n bytes
is_written bytes (Err r) = false

abbrev pub is_not_written : ℕ → ℕ → Result ℕ Refusal → Bool
is_not_written number place (Ok n) = false
is_not_written number place (Err r) = refused_by r number place

abbrev pub holds : Row → Bool
holds (writes s kinds operands room after bytes) =
    is_written bytes (write_file s kinds operands room) && equal (buffer_after s kinds operands (before room)) after
holds (declines s kinds operands room number place) =
    is_not_written number place (write_file s kinds operands room) && equal (buffer_after s kinds operands (before room)) (before room)

-- ── The table ───────────────────────────────────────────────────────────────────────────────────────────────────────────────

abbrev pub writings : List Row
writings =
    writes example (2 ∷ 4 ∷ 4 ∷ 4 ∷ 0 ∷ 4 ∷ []) example_operands 60 (example_file ++ before 2) 58
    ∷ writes different [] [] 29 (different_file ++ before 1) 28
    ∷ writes example (2 ∷ []) (67305985 ∷ []) 33 (size_bytes example 1 ++ (2 ∷ 1 ∷ 2 ∷ 3 ∷ 4 ∷ [])) 33
    -- in their order: the sizes, lowest place first, the lengths, the first faulty entry with its kind first, the room
    ∷ declines (sized 4 65 0 1 9 0) (7 ∷ []) [] 27 1 1
    ∷ declines (with_thieves 9) (replicate 4097 0) [] 27 1 4
    ∷ declines example (replicate 4097 0) [] 27 1 6
    ∷ declines example (replicate 4096 0) [] 27 2 0
    ∷ declines example (7 ∷ 0 ∷ []) (0 ∷ []) 37 2 0
    ∷ declines example (7 ∷ []) (0 ∷ 0 ∷ []) 32 2 0
    ∷ declines example (7 ∷ []) (9 ∷ []) 32 3 0
    ∷ declines example (2 ∷ 9 ∷ 5 ∷ []) (3 ∷ 0 ∷ 2 ∷ []) 42 3 1
    ∷ declines example (0 ∷ 5 ∷ 7 ∷ []) (0 ∷ 1 ∷ 0 ∷ []) 42 4 1
    ∷ declines example [] [] 27 8 0
    ∷ declines example (2 ∷ []) (7 ∷ []) 32 8 0
    ∷ []
