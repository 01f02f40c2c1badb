-- How far memory lags behind the worker. Renders, of request 4 in 02, what the number is and its last sentence. Proved of FF-THE in `proofs/HiddenNumber.antt`, of FF-CL in `proofs/FfCl.antt`.
use Rattle.std.specs.Prelude.{◌≡◌, Bool, true, ◌&&◌, List, [], ◌∷◌, ◌++◌, ℕ, suc, ◌≤◌, ◌<◌, eqb, get_or, length, take}
use Rattle.terms.specs.Lists.{largest}
use Rattle.terms.specs.Sizes.{needed_margin, sized, sizes_in_range}
use Rattle.claim.specs.Implementation.{Implementation}
use Rattle.claim.specs.Run.{hidden_of, machine_after}
use Rattle.claim.specs.Watch.{watch_fresh}
use Rattle.claim.specs.Stories.{Line, Looks, comes_true, does, drains, entries_in, filled, puts, undrained_takes, worker_moves}
use Rattle.properties.specs.Types.{BeginTake, Entry, Moved, Sizes}

-- after any entry of any list the number is at most the needed margin, whichever margin is set
abbrev pub HiddenWithinNeeded : {M : Type 0} → Implementation M Entry → Type 0
HiddenWithinNeeded b =
    (s : Sizes) (es : List Entry) → sizes_in_range s ≡ true
    → (at : ℕ) → get_or (hidden_of b (b.fresh s) es) at 0 ≤ needed_margin s.buffer s.spacing

-- In a run it is always the count of the pending stores of take step 1, since no machine there is out of range (`RunInRange`, of `machine` and of `cas`).
abbrev pub HiddenIsPending : {M : Type 0} → Implementation M Entry → (M → ℕ) → Type 0
HiddenIsPending b takes_pending =
    (s : Sizes) (es : List Entry) → sizes_in_range s ≡ true → length es ≤ 4096
    → (at : ℕ) → at < length es → get_or (hidden_of b (b.fresh s) es) at 0 ≡ takes_pending (machine_after b (b.fresh s) (take (suc at) es))

-- ── The bound is reached ────────────────────────────────────────────────────────────────────────────────────────────────────

-- sizes, and a story from the fresh machine with these
pub data Row : Type 0 where
  row : Sizes → List Line → Row

-- a queue's run is as the story says, and the largest number of its entries is the needed margin
abbrev pub reaches : {M : Type 0} → Implementation M Entry → Looks M → Row → Bool
reaches b looks (row s l) = comes_true b looks (watch_fresh b s) l && eqb (largest (hidden_of b (b.fresh s) (entries_in l))) (needed_margin s.buffer s.spacing)

-- so many takes undrained, with so many client stores between each two; a task stays below them, since FF-CL's take of the last one waits for its stores
abbrev pub lagging : ℕ → ℕ → List Line
lagging n apart = puts 0 ++ drains 2 ++ filled n ++ undrained_takes n apart

-- Margins that are short, the needed one, and more; buffers that spacing + 1 divides, and others. With a buffer of 1, where a put waits for its own store, a take of nothing does it. Both queues reach it in every row.
abbrev pub reaching : List Row
reaching =
    row (sized 4 1 0 1 1 0) (does BeginTake Moved ∷ worker_moves 1)
    ∷ row (sized 4 1 63 64 1 0) (does BeginTake Moved ∷ worker_moves 1)
    ∷ row (sized 4 2 0 1 1 0) (lagging 2 0)
    ∷ row (sized 4 2 1 0 1 7) (lagging 1 1)
    ∷ row (sized 8 5 1 1 1 0) (lagging 3 1)
    ∷ row (sized 8 5 1 3 1 0) (lagging 3 1)
    ∷ row (sized 8 6 1 64 8 0) (lagging 3 1)
    ∷ row (sized 8 7 2 2 1 2147483000) (lagging 3 2)
    ∷ row (sized 32 33 1 16 1 0) (lagging 17 1)
    ∷ row (sized 256 64 0 63 1 0) (lagging 64 0)
    ∷ row (sized 4 64 63 1 1 0) (lagging 1 63)
    ∷ []
