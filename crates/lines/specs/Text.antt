-- Text in bytes: words, and numbers in base ten. Renders "Numbers here are base ten" and, of "The program's lines", how numbers and words follow each other.
use Rattle.std.specs.Prelude.{◌≡◌, Bool, cond, ◌||◌, List, [], ◌∷◌, ◌++◌, ℕ, ◌+◌, ◌*◌, ◌-◌, ◌/◌, ◌%◌, ◌<◌, eqb, leb}
use Prim.Native.Char.{code}
use Prim.Native.String.{String, [], ◌∷◌}
use Rattle.terms.specs.Lists.{concat_map}

-- a text in ASCII, each character by its code
abbrev pub ascii : String → List ℕ
ascii [] = []
ascii (c ∷ s) = code c ∷ ascii s

-- words with a space between each two, and an end behind the last
abbrev pub joined : List ℕ → List (List ℕ) → List ℕ
joined end [] = end
joined end (word ∷ []) = word ++ end
joined end (word ∷ next ∷ words) = word ++ (ascii " " ++ joined end (next ∷ words))

-- a line of words
abbrev pub line : List (List ℕ) → List ℕ
line words = joined (ascii "\n") words

-- ── Numbers ─────────────────────────────────────────────────────────────────────────────────────────────────────────────────

-- the value of each decimal place that a number of 32 bits can have, the greatest first
abbrev pub units : List ℕ
units = 1000000000 ∷ 100000000 ∷ 10000000 ∷ 1000000 ∷ 100000 ∷ 10000 ∷ 1000 ∷ 100 ∷ 10 ∷ 1 ∷ []

-- a place is shown where the number reaches it, and the last one always: no zero stands in front
abbrev pub shown : ℕ → ℕ → Bool
shown n unit = leb unit n || eqb unit 1

abbrev pub digit : ℕ → ℕ → List ℕ
digit n unit = cond (shown n unit) ((48 + n / unit % 10) ∷ []) []

-- a number of at most ten digits in base ten
abbrev pub decimal : ℕ → List ℕ
decimal n = concat_map (digit n) units

-- the number that digits are, behind those that were read as a number so far
abbrev pub number_in : ℕ → List ℕ → ℕ
number_in so_far [] = so_far
number_in so_far (d ∷ ds) = number_in (10 * so_far + (d - 48)) ds

-- A number's digits are read as the number. Proved in `proofs/Decimal.antt`.
abbrev pub DigitsRead : Type 0
DigitsRead = (n : ℕ) → n < 10000000000 → number_in 0 (decimal n) ≡ n
