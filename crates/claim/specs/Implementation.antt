-- What the claim has to know of a queue on its machine.
use Rattle.std.specs.Prelude.{Bool, List, ℕ}
use Rattle.claim.specs.Types.{Outcome, Sizes}
use Rattle.claim.specs.PlainQueue.{Limits}
use Rattle.claim.specs.Calls.{Begun, Effect, Party}

-- A queue on machines M, which obey entries E: a transition system, with its calls and their linearization points.
pub record Implementation (M E : Type 0) : Type 0 where
  -- the machine at first; the machine after an entry, and the entry's outcome
  pub fresh : Sizes → M
  pub next : M → E → M
  pub outcome : M → E → Outcome
  -- how many stores of take step 1 are pending after an entry (02's request 4): the claim says nothing of it, but whoever runs a list tells it
  pub hidden : M → E → ℕ
  -- whose entry it is, what it begins, and whether it is a step of a call
  pub party : E → Party
  pub begins : E → Begun
  pub is_step : E → Bool
  -- whether the running call takes effect at an entry that is not refused: its linearization point
  pub effect : M → E → Effect
  -- what a running call past its effect is going to answer, where a task is what it would load from its slot now, or has loaded
  pub owes : M → Party → List Outcome
  -- what the worker would load from the slots of head up to its tail − 1
  pub standing : M → List ℕ
  -- the numbers of the tasks that stand, oldest first, at any moment: also while calls run, which may have moved head or tail and have no task yet
  pub standing_now : M → List ℕ
  -- whether the plain queue is told of a call, by what was begun and what it answers
  pub is_told : Begun → Outcome → Bool
  -- when a put may be told to be FULL, and when STORED
  pub limits : Sizes → Limits
