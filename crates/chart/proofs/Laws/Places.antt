-- Places in the chart: the bounds of what it has, and which buffer size and spacing a place is for.
use mathlib.Core.Path.{◌≡◌}
use mathlib.Core.Bool.{true}
use Prim.Native.Nat.{ℕ, ◌+◌, ◌/◌, ◌%◌, ◌≤◌, ◌<◌}
use native.Mathlib.Omega.{arith}
use Rattle.terms.specs.Sizes.{within}
use Rattle.terms.proofs.Laws.Sizes.{within_bounds}
use Rattle.terms.proofs.Laws.Tests.{and_left, and_right}
use Rattle.chart.specs.Chart.{is_charted, place_of}

-- What the ranges allow.
pub record Charted (buffer spacing : ℕ) : Type 0 where
  pub some : 1 ≤ buffer
  pub buffer_most : buffer ≤ 64
  pub spacing_most : spacing ≤ 63

pub charted_bounds : (buffer spacing : ℕ) → is_charted buffer spacing ≡ true → Charted buffer spacing
charted_bounds buffer spacing h =
    let sizes = within_bounds 1 64 buffer (and_left (within 1 64 buffer) (within 0 63 spacing) h) in
    let spacings = within_bounds 0 63 spacing (and_right (within 1 64 buffer) (within 0 63 spacing) h) in
    record { some = sizes.0; buffer_most = sizes.1; spacing_most = spacings.1 }

module _ (buffer spacing : ℕ) (b : Charted buffer spacing) where
  pub place_below : place_of buffer spacing < 4096
  place_below = omega arith

  -- the quotient of a place by 64 tells the buffer size, and the remainder is the spacing
  pub buffer_at : place_of buffer spacing / 64 + 1 ≡ buffer
  buffer_at = omega arith

  pub spacing_at : place_of buffer spacing % 64 ≡ spacing
  spacing_at = omega arith
