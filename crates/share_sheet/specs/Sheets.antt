-- Share sheets, as one table over the definitions: a design with blocks for every party and for none, sheets at the edges of count and room, and what is refused, with number and place, in the order of the checks. `proofs/Sheets.antt` proves one fact: every row holds.
use Rattle.std.specs.Prelude.{Bool, false, ◌&&◌, List, [], ◌∷◌, ◌++◌, ℕ, eqb, replicate, take, Result, Ok, Err}
use Rattle.terms.specs.Lists.{equal}
use Rattle.terms.specs.Refusal.{refused_by}
use Rattle.terms.specs.Sizes.{sized}
use Rattle.schedule.specs.Edges.{file_with}
use Rattle.schedule.specs.Runs.{before, drains, file, put, steal, take as takes}
use Rattle.share_sheet.specs.Types.{BeginPut, BeginTake, ClientStore, Drain, Entry, Sizes, ThiefStep, WorkerStep, Refusal}
use Rattle.share_sheet.specs.Sheet.{sheet_after, make_sheet}

-- ── Rows ────────────────────────────────────────────────────────────────────────────────────────────────────────────────────

pub data Row : Type 0 where
  -- a file, a count and a buffer of so many bytes: how long the sheet is that is written, and what the buffer holds afterwards
  writes : (file : List ℕ) (count room bytes : ℕ) (after : List ℕ) → Row
  -- one of which no sheet is made, with number and place; the buffer, of so many bytes, holds what it held
  declines : (file : List ℕ) (count room number place : ℕ) → Row

abbrev pub is_written : ℕ → Result ℕ Refusal → Bool
is_written bytes (Ok n) = eqb n bytes
is_written bytes (Err r) = false

abbrev pub is_not_written : ℕ → ℕ → Result ℕ Refusal → Bool
is_not_written number place (Ok n) = false
is_not_written number place (Err r) = refused_by r number place

abbrev pub holds : Row → Bool
holds (writes file count room bytes after) = is_written bytes (make_sheet file count room) && equal (sheet_after file count (before room)) after
holds (declines file count room number place) = is_not_written number place (make_sheet file count room) && equal (sheet_after file count (before room)) (before room)

-- ── Designs ─────────────────────────────────────────────────────────────────────────────────────────────────────────────────

-- two thieves, and a margin that is just enough, or one short
abbrev pub enough : Sizes
enough = sized 8 2 0 2 2 0

abbrev pub short : Sizes
short = sized 8 2 0 1 2 0

abbrev pub enough_file : List Entry → List ℕ
enough_file es = file enough es

-- Blocks 5, 3, 1 and 4 are put; thief 1 is given 5, thief 0 is given 3, and the worker 4. Block 1 is put and not given, and 2 is not put.
abbrev pub design : List Entry
design = put 5 ++ drains ++ put 3 ++ drains ++ put 1 ++ drains ++ put 4 ++ drains ++ steal 1 ++ steal 0 ++ takes

abbrev pub design_sheet : List ℕ
design_sheet =
    (5 ∷ []) ++ (255 ∷ 255 ∷ 1 ∷ 0 ∷ 2 ∷ []) ++ (0 ∷ 0 ∷ 0 ∷ 0 ∷ 0 ∷ 0 ∷ 0 ∷ 0 ∷ 37 ∷ 0 ∷ 0 ∷ 0 ∷ 41 ∷ 0 ∷ 0 ∷ 0 ∷ 30 ∷ 0 ∷ 0 ∷ 0 ∷ [])

-- one block, that is put and taken
abbrev pub one : List Entry
one = put 1 ++ drains ++ takes

-- a put with a store buffer of 1: each store is drained as it is made
abbrev pub put_by_one : ℕ → List Entry
put_by_one x = BeginPut x ∷ WorkerStep ∷ WorkerStep ∷ Drain ∷ WorkerStep ∷ Drain ∷ []

-- a take that finds no block, drained where needed
abbrev pub take_of_nothing : List Entry
take_of_nothing = BeginTake ∷ WorkerStep ∷ Drain ∷ replicate 4 WorkerStep ++ (Drain ∷ WorkerStep ∷ [])

-- ── The table ───────────────────────────────────────────────────────────────────────────────────────────────────────────────

abbrev pub written : List Row
written =
    writes (enough_file design) 5 26 26 design_sheet
    ∷ writes (enough_file design) 5 29 26 (design_sheet ++ before 3)
    -- one entry fewer: block 4 is not answered yet
    ∷ writes (enough_file (take 41 design)) 5 26 26
    ((5 ∷ []) ++ (255 ∷ 255 ∷ 1 ∷ 255 ∷ 2 ∷ []) ++ (0 ∷ 0 ∷ 0 ∷ 0 ∷ 0 ∷ 0 ∷ 0 ∷ 0 ∷ 37 ∷ 0 ∷ 0 ∷ 0 ∷ 0 ∷ 0 ∷ 0 ∷ 0 ∷ 30 ∷ 0 ∷ 0 ∷ 0 ∷ []))
    -- an entry whose number has two bytes, behind entries that wait
    ∷ writes (enough_file (replicate 256 Drain ++ one)) 1 6 6 (1 ∷ 0 ∷ 9 ∷ 1 ∷ 0 ∷ 0 ∷ [])
    -- no entries; the greatest count; a margin of 0, which is the buffer size
    ∷ writes (enough_file []) 1 6 6 (1 ∷ 255 ∷ 0 ∷ 0 ∷ 0 ∷ 0 ∷ [])
    ∷ writes (enough_file one) 255 1276 1276 ((255 ∷ []) ++ (0 ∷ replicate 254 255) ++ (9 ∷ replicate 1019 0))
    ∷ writes (enough_file (BeginPut 255 ∷ [])) 255 1276 1276 ((255 ∷ []) ++ replicate 255 255 ++ replicate 1020 0)
    ∷ writes (file (sized 8 2 0 0 2 0) one) 1 6 6 (1 ∷ 0 ∷ 9 ∷ 0 ∷ 0 ∷ 0 ∷ [])
    -- the needed margin below the buffer size, and a margin above the needed one
    ∷ writes (file (sized 8 33 1 17 1 0) one) 1 6 6 (1 ∷ 0 ∷ 9 ∷ 0 ∷ 0 ∷ 0 ∷ [])
    ∷ writes (file (sized 8 33 1 18 1 0) one) 1 6 6 (1 ∷ 0 ∷ 9 ∷ 0 ∷ 0 ∷ 0 ∷ [])
    -- the eighth thief; indices that start elsewhere, client stores between
    ∷ writes (file (sized 8 1 0 1 8 7) (put_by_one 1 ++ (ClientStore ∷ Drain ∷ []) ++ put_by_one 2 ++ steal 7)) 2 11 11
    ((2 ∷ []) ++ (8 ∷ 255 ∷ []) ++ (20 ∷ 0 ∷ 0 ∷ 0 ∷ 0 ∷ 0 ∷ 0 ∷ 0 ∷ []))
    -- a block whose put was answered FULL or END is given to nobody; ABORT and EMPTY give nothing; operands that are thieves are no blocks
    ∷ writes (file (sized 2 2 0 2 2 0) (put 1 ++ drains ++ (BeginPut 2 ∷ WorkerStep ∷ []) ++ steal 1 ++ takes)) 2 11 11 ((2 ∷ []) ++ (0 ∷ 255 ∷ []) ++ (18 ∷ 0 ∷ 0 ∷ 0 ∷ 0 ∷ 0 ∷ 0 ∷ 0 ∷ []))
    ∷ writes (file (sized 8 2 0 2 2 2147483647) (BeginPut 1 ∷ WorkerStep ∷ [])) 1 6 6 (1 ∷ 255 ∷ 0 ∷ 0 ∷ 0 ∷ 0 ∷ [])
    ∷ writes (enough_file (steal 0 ++ take_of_nothing)) 1 6 6 (1 ∷ 255 ∷ 0 ∷ 0 ∷ 0 ∷ 0 ∷ [])
    ∷ []

abbrev pub declined : List Row
declined =
    -- room for the sheet, to the byte
    declines (enough_file design) 5 25 8 0
    ∷ declines (enough_file []) 1 5 8 0
    ∷ declines (enough_file []) 1 0 8 0
    ∷ declines (enough_file one) 255 1275 8 0
    -- a count outside 1 to 255
    ∷ declines (enough_file []) 0 2000 1 7
    ∷ declines (enough_file []) 256 2000 1 7
    ∷ declines (enough_file []) 257 2000 1 7
    ∷ declines (enough_file []) 4294967295 2000 1 7
    -- a margin that is short
    ∷ declines (file short []) 1 6 9 3
    ∷ declines (file (sized 8 33 1 16 1 0) one) 1 6 9 3
    -- a begin put of 0, of more than the count, of a number whose lowest byte is a block's, of a block once more
    ∷ declines (enough_file (Drain ∷ BeginPut 0 ∷ [])) 5 26 10 1
    ∷ declines (enough_file design) 4 21 10 0
    ∷ declines (enough_file (put 1 ++ put 2)) 1 6 10 4
    ∷ declines (enough_file (put 257)) 255 1276 10 0
    ∷ declines (enough_file (one ++ one)) 1 6 10 10
    ∷ declines (enough_file (BeginPut 1 ∷ BeginPut 2 ∷ BeginPut 1 ∷ [])) 2 11 10 2
    -- whatever their outcomes: a begin put that gets 5, one of the block of such a one, one of a block that was answered FULL, or END
    ∷ declines (enough_file (BeginPut 1 ∷ BeginPut 2 ∷ [])) 1 6 10 1
    ∷ declines (enough_file (BeginPut 1 ∷ BeginPut 1 ∷ [])) 1 6 10 1
    ∷ declines (enough_file (BeginPut 1 ∷ BeginPut 2 ∷ BeginPut 2 ∷ [])) 2 11 10 2
    ∷ declines (enough_file (BeginPut 1 ∷ BeginPut 2 ∷ WorkerStep ∷ WorkerStep ∷ WorkerStep ∷ BeginPut 2 ∷ [])) 2 11 10 5
    ∷ declines (file (sized 2 2 0 2 1 0) (put 1 ++ drains ++ (BeginPut 2 ∷ WorkerStep ∷ BeginPut 2 ∷ []))) 2 11 10 8
    ∷ declines (file (sized 8 2 0 2 2 2147483647) (BeginPut 1 ∷ WorkerStep ∷ BeginPut 1 ∷ [])) 1 6 10 2
    -- the first of several
    ∷ declines (enough_file (BeginPut 1 ∷ BeginPut 0 ∷ BeginPut 1 ∷ BeginPut 9 ∷ [])) 5 26 10 1
    ∷ declines (enough_file (BeginPut 1 ∷ BeginPut 1 ∷ BeginPut 0 ∷ [])) 5 26 10 1
    -- the order: the file's own faults, the count, the margin, the blocks, the room
    ∷ declines [] 0 0 2 0
    ∷ declines (enough_file [] ++ (0 ∷ [])) 0 0 2 0
    ∷ declines (file (sized 8 2 0 1 9 0) (BeginPut 0 ∷ [])) 0 0 1 4
    ∷ declines (file_with short (2 ∷ 7 ∷ []) (0 ∷ 0 ∷ [])) 0 0 3 1
    ∷ declines (file short (BeginPut 0 ∷ ThiefStep 2 ∷ [])) 0 0 4 1
    ∷ declines (file short (BeginPut 0 ∷ [])) 0 0 1 7
    ∷ declines (file short (BeginPut 0 ∷ [])) 256 0 1 7
    ∷ declines (file short (BeginPut 0 ∷ [])) 1 0 9 3
    ∷ declines (enough_file (BeginPut 0 ∷ [])) 1 0 10 0
    ∷ []

abbrev pub table : List Row
table = written ++ declined
