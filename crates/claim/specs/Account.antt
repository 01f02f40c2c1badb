-- The plain queue's account of a run, whichever queue and margin it is of: what was STORED, what the worker took, and the sum. Renders, of "Demand 3's plain
-- queue", the sentence on what the sum is.
use Rattle.std.specs.Prelude.{◌≡◌, List, ◌+◌, length}
use Rattle.terms.specs.Lists.{concat_map}
use Rattle.claim.specs.Types.{Sizes}
use Rattle.claim.specs.PlainQueue.{StoredTask, stored_by, taken_by}
use Rattle.claim.specs.Implementation.{Implementation}
use Rattle.claim.specs.Watch.{Event, events, watch_fresh, watched}

-- the tasks that the plain queue has stored, and those that it has given to the worker's takes but for takes won by a swap, in the order of the effects
abbrev pub stored_in : List Event → List StoredTask
stored_in h = concat_map (λ v. concat_map (stored_by v.queue) v.told) h

abbrev pub taken_in : List Event → List StoredTask
taken_in h = concat_map (λ v. concat_map (taken_by v.queue) v.told) h

-- After every list the sum of the run's own queue is start + stored − taken by the worker without a swap. Proved in `proofs/Sum.antt`.
abbrev pub SumCounts : {M E : Type 0} → Implementation M E → Type 0
SumCounts {M} {E} b =
    (s : Sizes) (es : List E)
    → let h = events b (watch_fresh b s) es in
    (watched b (watch_fresh b s) es).queue.sum + length (taken_in h) ≡ s.start + length (stored_in h)
