-- What every implementation has to be for the account to add up: little enough that it says nothing of queues.
use mathlib.Core.Path.{◌≡◌, refl}
use mathlib.Core.Bool.{Bool, true, false}
use mathlib.Core.List.{[]}
use lib.Dec.{ltb}
use Rattle.terms.specs.Kinds.{thief_is_there}
use Rattle.terms.specs.Outcome.{is_answer, is_refusal}
use Rattle.claim.specs.Types.{Entry, Drain, ClientStore, BeginPut, BeginTake, WorkerStep, BeginSteal, ThiefStep, Outcome, Sizes}
use Rattle.claim.specs.Calls.{Begun, Party, worker, thief, party_of, task_in}
use Rattle.claim.specs.Implementation.{Implementation}

-- the party is one of those that are there
abbrev pub is_there : Sizes → Party → Bool
is_there s worker = true
is_there s (thief i) = ltb i s.thieves

-- .. where it is an entry's: the thief that the entry names, if it names one
pub party_there : (s : Sizes) (e : Entry) → thief_is_there s e ≡ is_there s (party_of e)
party_there s Drain = refl
party_there s ClientStore = refl
party_there s (BeginPut x) = refl
party_there s BeginTake = refl
party_there s WorkerStep = refl
party_there s (BeginSteal i) = refl
party_there s (ThiefStep i) = refl

pub record Lawful {M E : Type 0} (b : Implementation M E) : Type 0 where
  -- a machine's sizes, which no entry changes
  pub sizes : M → Sizes
  pub sizes_fresh : (s : Sizes) → sizes (b.fresh s) ≡ s
  pub sizes_kept_lem : (m : M) (e : E) → sizes (b.next m e) ≡ sizes m
  -- only steps answer
  pub answers_at_steps : (m : M) (e : E) → is_answer (b.outcome m e) ≡ true → b.is_step e ≡ true
  -- an entry of a party that is not there is refused
  pub absent : (m : M) (e : E) → is_there (sizes m) (b.party e) ≡ false → is_refusal (b.outcome m e) ≡ true
  -- no task is answered that the plain queue is not told of
  pub untold : (c : Begun) (o : Outcome) → b.is_told c o ≡ false → task_in o ≡ []
