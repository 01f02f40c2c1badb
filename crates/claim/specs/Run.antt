-- A list of entries obeyed one by one, each on the machine that the one before it handed back. Renders, of "Demand 3's plain queue", how its list is run, for any queue.
use Rattle.std.specs.Prelude.{List, ℕ}
use Rattle.terms.specs.Lists.{after, each}
use Rattle.claim.specs.Types.{Outcome}
use Rattle.claim.specs.Implementation.{Implementation}

module _ {M E : Type 0} (b : Implementation M E) where
  abbrev pub machine_after : M → List E → M
  machine_after m es = after b.next m es

  abbrev pub outcomes_of : M → List E → List Outcome
  outcomes_of m es = each b.next b.outcome m es

  -- the number that each of them hands on
  abbrev pub hidden_of : M → List E → List ℕ
  hidden_of m es = each b.next b.hidden m es
