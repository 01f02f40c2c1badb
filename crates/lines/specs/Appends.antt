-- What a function that puts text promises. Nothing here is of the paper: it is what the functions that put lines promise each other.
use Rattle.std.specs.Prelude.{◌≡◌, List, ℕ, ◌+◌, ◌≤◌, length}
use Rattle.number.specs.Number.{overwritten}
use Rattle.lines.specs.Types.{Text}

-- text, at most so many bytes of it, was put behind what was there before
pub record Appends (most : ℕ) (more : List ℕ) (before after : Text) : Type 0 where
  pub there : after.bytes ≡ overwritten before.length more before.bytes
  pub ends : after.length ≡ before.length + length more
  pub within : length more ≤ most
