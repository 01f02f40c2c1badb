-- The chart at its edges and within, in numbers: a literal place and margin for some buffer sizes and spacings, and pairs that are not in the chart. The rows tell the chart from one with spacing by
-- buffer, whatever definitions and constants say. `proofs/Rows.antt` proves one fact: every row holds.
use Rattle.std.specs.Prelude.{Bool, ◌&&◌, List, [], ◌∷◌, ℕ, eqb, get_or}
use Rattle.chart.specs.Chart.{chart, charted_margin, place_of}

pub data Row : Type 0 where
  -- the margin of a buffer size and a spacing, which stands at this place
  charted : (buffer spacing place margin : ℕ) → Row
  -- not in the chart: 0 is looked up
  beyond : (buffer spacing : ℕ) → Row

abbrev pub holds : Row → Bool
holds (charted buffer spacing place margin) =
    eqb (place_of buffer spacing) place && eqb (get_or chart place 0) margin && eqb (charted_margin buffer spacing) margin
holds (beyond buffer spacing) = eqb (charted_margin buffer spacing) 0

abbrev pub rows : List Row
rows =
    -- the corners
    charted 1 0 0 1
    ∷ charted 1 63 63 1
    ∷ charted 64 0 4032 64
    ∷ charted 64 63 4095 1
    -- from one buffer size to the next
    ∷ charted 2 0 64 2
    ∷ charted 32 0 1984 32
    -- quotients that are rounded up, and one that is not
    ∷ charted 33 1 2049 17
    ∷ charted 64 62 4094 2
    ∷ charted 64 31 4063 2
    -- no stores, too many, and a spacing too large
    ∷ beyond 0 0
    ∷ beyond 65 0
    ∷ beyond 1 64
    ∷ beyond 64 64
    ∷ beyond 4294967295 4294967295
    ∷ []
