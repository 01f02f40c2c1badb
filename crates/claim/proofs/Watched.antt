-- The claim speaks of the list obeyed entry by entry.
use mathlib.Core.Path.{◌≡◌, refl, ap}
use mathlib.Core.List.{List, [], ◌∷◌, map}
use Rattle.claim.specs.Implementation.{Implementation}
use Rattle.claim.specs.Run.{machine_after, outcomes_of}
use Rattle.claim.specs.Watch.{Watch, events, watch_after, watched}

module _ {M E : Type 0} (b : Implementation M E) where
  -- the events have the outcomes of the list, and the watch ends at its machine

  pub events_outcomes : (w : Watch M) (es : List E) → map (λ v. v.outcome) (events b w es) ≡ outcomes_of b w.machine es
  events_outcomes w [] = refl
  events_outcomes w (e ∷ es) = ap (λ l. b.outcome w.machine e ∷ l) (events_outcomes (watch_after b w e) es)

  pub watched_machine : (w : Watch M) (es : List E) → (watched b w es).machine ≡ machine_after b w.machine es
  watched_machine w [] = refl
  watched_machine w (e ∷ es) = watched_machine (watch_after b w e) es
