-- The layout of a schedule file. Renders the first paragraph of "The schedule file". `layout` is the one description of the format: the writer encodes by it, and the reader decodes by it. The lengths that 01 gives as
-- numbers stand as numbers, `file_length` here and 28 in `Reader`; `FileLength` ties them to the layout.
use Rattle.std.specs.Prelude.{◌≡◌, Bool, List, [], ◌∷◌, ◌++◌, ℕ, ◌+◌, ◌*◌, ◌/◌, ltb, length, drop, get_or, replicate, take}
use Rattle.terms.specs.Lists.{all}
use Rattle.schedule.specs.Types.{Sizes}
use Rattle.number.specs.Number.{little_endian, of_bytes}

-- Two parallel arrays, as a file and a trace have them: how many bytes each number has, one for each entry in the first array, then four for each
-- entry in the second.
abbrev pub arrays : ℕ → List ℕ
arrays entries = replicate entries 1 ++ replicate entries 4

-- How many bytes each number of a file has, in the file's order: seven sizes of four, then the kinds and the operands.
abbrev pub layout : ℕ → List ℕ
layout entries = replicate 7 4 ++ arrays entries

-- how many bytes a file of so many entries has
abbrev pub file_length : ℕ → ℕ
file_length entries = 28 + 5 * entries

-- numbers one after the other, each in as many bytes as the layout gives it
abbrev pub encode : List ℕ → List ℕ → List ℕ
encode [] numbers = []
encode (width ∷ l) [] = []
encode (width ∷ l) (n ∷ numbers) = little_endian width n ++ encode l numbers

-- the numbers that stand one after the other in some bytes, each in as many as the layout gives it; bytes that are missing count as 0, and
-- no file is accepted or refused by such a number
abbrev pub decode : List ℕ → List ℕ → List ℕ
decode [] bytes = []
decode (width ∷ l) bytes = of_bytes (take width bytes) ∷ decode l (drop width bytes)

-- ── What a schedule's file is ───────────────────────────────────────────────────────────────────────────────────────────────

-- the seven sizes, by their places in the table
abbrev pub size_numbers : Sizes → ℕ → List ℕ
size_numbers s entries = s.slots ∷ s.buffer ∷ s.spacing ∷ s.margin ∷ s.thieves ∷ s.start ∷ entries ∷ []

-- the file of six sizes and two parallel arrays
abbrev pub file_of : Sizes → List ℕ → List ℕ → List ℕ
file_of s kinds operands = encode (layout (length kinds)) (size_numbers s (length kinds) ++ (kinds ++ operands))

-- ── What stands in a file ───────────────────────────────────────────────────────────────────────────────────────────────────

-- the size at a place of the table; the sizes stand first, however many entries follow
abbrev pub size_in : ℕ → List ℕ → ℕ
size_in place file = get_or (decode (layout 0) file) place 0

abbrev pub sizes_in : List ℕ → Sizes
sizes_in file =
    record {
      slots = size_in 0 file;
      buffer = size_in 1 file;
      spacing = size_in 2 file;
      margin = size_in 3 file;
      thieves = size_in 4 file;
      start = size_in 5 file;
    }

abbrev pub entries_in : List ℕ → ℕ
entries_in file = size_in 6 file

-- the two parallel arrays of a file with so many entries
abbrev pub kinds_in : ℕ → List ℕ → List ℕ
kinds_in entries file = take entries (drop 7 (decode (layout entries) file))

abbrev pub operands_in : ℕ → List ℕ → List ℕ
operands_in entries file = drop (7 + entries) (decode (layout entries) file)

-- ── Parts of a file ─────────────────────────────────────────────────────────────────────────────────────────────────────────

-- the bytes of the seven sizes
abbrev pub size_bytes : Sizes → ℕ → List ℕ
size_bytes s entries = encode (layout 0) (size_numbers s entries)

-- as many numbers of four bytes as some bytes hold
abbrev pub words_in : List ℕ → List ℕ
words_in bytes = decode (replicate (length bytes / 4) 4) bytes

-- every number of a list is below a bound, as every byte is below 256
abbrev pub all_below : ℕ → List ℕ → Bool
all_below bound l = all (λ n. ltb n bound) l

-- The lengths that 01 gives as numbers are the layout's. Proved in `proofs/Laws/Format.antt`.
abbrev pub FileLength : Type 0
FileLength =
    (s : Sizes) (kinds operands : List ℕ) → length operands ≡ length kinds
    → (length (size_bytes s (length kinds)) ≡ 28) × (length (file_of s kinds operands) ≡ file_length (length kinds))
