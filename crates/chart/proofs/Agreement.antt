-- Each margin of the chart agrees with the division: the rule is computed once, over the whole chart, and carried to each entry.
use mathlib.Core.Path.{◌≡◌, refl, ◌∙◌}
use mathlib.Core.Bool.{true}
use Prim.Native.Nat.{ℕ, ◌+◌, ◌/◌, ◌%◌, ◌<◌}
use lib.ListN.{length}
use Rattle.terms.specs.Sizes.{needed_margin}
use Rattle.chart.specs.Chart.{EachAgrees, chart, place_of}
use Rattle.chart.proofs.Laws.Places.{Charted, buffer_at, charted_bounds, place_below, spacing_at}
use Rattle.chart.proofs.Laws.Tables.{carried, keeps_from}

-- the rule: what the division gives for the buffer size and the spacing of a place
unfoldable by_division : ℕ → ℕ
by_division place = needed_margin (place / 64 + 1) (place % 64)

-- the one test of the whole chart
chart_keeps : keeps_from by_division 0 chart ≡ true
unfolding by_division chart
chart_keeps = refl

chart_length : length chart ≡ 4096
unfolding chart
chart_length = refl

by_place : (buffer spacing : ℕ) → Charted buffer spacing → by_division (place_of buffer spacing) ≡ needed_margin buffer spacing
unfolding by_division
by_place buffer spacing b = λ i. needed_margin (buffer_at buffer spacing b i) (spacing_at buffer spacing b i)

pub each_agrees : EachAgrees
each_agrees =
    record {
      many = chart_length;
      agrees = λ buffer spacing h.
          let b = charted_bounds buffer spacing h in
          let there : place_of buffer spacing < length chart = rw chart_length (place_below buffer spacing b) in
          carried by_division chart (place_of buffer spacing) chart_keeps there ∙ by_place buffer spacing b;
    }
