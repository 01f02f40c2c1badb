-- The chart of needed margins, for the planner. Renders the two sentences of request 6, in 02, on the chart: which margins it has, where each stands, and that each is what the division gives. The division is `needed_margin`, of `terms`; the ranges are
-- those of 01's table of sizes.
use Rattle.std.specs.Prelude.{◌≡◌, Bool, true, cond, ◌&&◌, List, map, ℕ, ◌+◌, ◌-◌, ◌*◌, get_or, length}
use Rattle.terms.specs.Lists.{concat_map, range, range_from}
use Rattle.terms.specs.Sizes.{needed_margin, within}

-- where the margin of a buffer size and a spacing stands
abbrev pub place_of : ℕ → ℕ → ℕ
place_of buffer spacing = 64 * (buffer - 1) + spacing

-- both are in their ranges
abbrev pub is_charted : ℕ → ℕ → Bool
is_charted buffer spacing = within 1 64 buffer && within 0 63 spacing

-- what is looked up: the needed margin, or 0 for what is not in the chart
abbrev pub charted_margin : ℕ → ℕ → ℕ
charted_margin buffer spacing = cond (is_charted buffer spacing) (needed_margin buffer spacing) 0

-- the margins of one buffer size, at the spacings 0 to 63
abbrev pub margins_of : ℕ → List ℕ
margins_of buffer = map (needed_margin buffer) (range 64)

-- the whole: those of each buffer size, from 1 up to 64
unfoldable pub chart : List ℕ
chart = concat_map margins_of (range_from 1 64)

-- 4,096 margins, and each, at its place, is what the division gives. Proved in `proofs/Agreement.antt`.
pub record EachAgrees : Type 0 where
  pub many : length chart ≡ 4096
  pub agrees : (buffer spacing : ℕ) → is_charted buffer spacing ≡ true → get_or chart (place_of buffer spacing) 0 ≡ needed_margin buffer spacing
