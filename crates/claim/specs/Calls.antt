-- Calls, as their entries begin and end them, and what the plain queue is told of them. Renders, of "Demand 3's plain queue", what that queue
-- is told and when. An effect, in 01's word, is a linearization point.
use Rattle.std.specs.Prelude.{Bool, true, false, cond, List, [], ◌∷◌, map, ℕ, zero, suc, eqb}
use Rattle.terms.specs.Kinds.{party_number}
use Rattle.terms.specs.Lists.{concat_map, range}
use Rattle.terms.specs.Outcome.{is_answer, is_refusal}
use Rattle.claim.specs.Types.{Entry, Drain, ClientStore, BeginPut, BeginTake, WorkerStep, BeginSteal, ThiefStep, Outcome, Moved, Place, Early, Wait, Stored, Task, Empty, Abort, Full, End, Sizes}
use Rattle.claim.specs.PlainQueue.{Told, told_put, told_take, told_steal, Reply, StoredTask}

-- ── Parties ─────────────────────────────────────────────────────────────────────────────────────────────────────────────────

pub data Party : Type 0 where
  worker : Party
  thief : ℕ → Party

-- the party with this number (`party_number`)
abbrev pub party_with : ℕ → Party
party_with zero = worker
party_with (suc i) = thief i

abbrev pub same_party : Party → Party → Bool
same_party worker worker = true
same_party worker (thief j) = false
same_party (thief i) worker = false
same_party (thief i) (thief j) = eqb i j

abbrev pub parties : Sizes → List Party
parties s = worker ∷ map thief (range s.thieves)

-- ── What is begun, and what takes effect ────────────────────────────────────────────────────────────────────────────────────

pub data Begun : Type 0 where
  nothing : Begun
  a_put : ℕ → Begun
  a_take : Begun
  a_steal : Begun

abbrev pub is_nothing : Begun → Bool
is_nothing nothing = true
is_nothing (a_put x) = false
is_nothing a_take = false
is_nothing a_steal = false

-- Whether the running call takes effect at an entry, and then what the step decides: whether a put is FULL, a steal ABORT, or a take came to
-- a compare-and-swap (02's request 5; none of 01's queue does).
pub data Effect : Type 0 where
  none : Effect
  decided : Bool → Effect

-- an effect that is there only where the test passes
abbrev pub only_where : Bool → Bool → Effect
only_where there decision = cond there (decided decision) none

-- what the plain queue is told at an effect: the call that was begun
abbrev pub call_told : Begun → Bool → List Told
call_told nothing d = []
call_told (a_put x) d = told_put x d ∷ []
call_told a_take d = told_take d ∷ []
call_told a_steal d = told_steal d ∷ []

abbrev pub told_of : Begun → Effect → List Told
told_of b none = []
told_of b (decided d) = call_told b d

-- ── A party's call ──────────────────────────────────────────────────────────────────────────────────────────────────────────

-- What was begun, and what the plain queue has replied to it since.
pub record PartyCall : Type 0 where
  pub begun : Begun
  pub replies : List Reply

abbrev pub no_call : PartyCall
no_call = record { begun = nothing; replies = [] }

-- the call goes on, unless an entry begins another; replies that were never answered stay
abbrev pub or_begun : PartyCall → Begun → PartyCall
or_begun c nothing = c
or_begun c (a_put x) = record { begun = a_put x; replies = c.replies }
or_begun c a_take = record { begun = a_take; replies = c.replies }
or_begun c a_steal = record { begun = a_steal; replies = c.replies }

-- a party's call after an entry of its own that begins b: an answer ends it, and a refusal changes nothing
abbrev pub call_after : PartyCall → Outcome → Begun → PartyCall
call_after c o b = cond (is_answer o) no_call (cond (is_refusal o) c (or_begun c b))

-- the plain queue's answers to a call, and the tasks that it gave it
abbrev pub answers_to : PartyCall → List Outcome
answers_to c = map (λ r. r.answer) c.replies

abbrev pub given_to : PartyCall → List StoredTask
given_to c = concat_map (λ r. r.given) c.replies

-- the task's number, of an answer that is TASK
abbrev pub task_in : Outcome → List ℕ
task_in Moved = []
task_in Place = []
task_in Early = []
task_in Wait = []
task_in Stored = []
task_in (Task x) = x ∷ []
task_in Empty = []
task_in Abort = []
task_in Full = []
task_in End = []

-- ── The seven kinds of entry ────────────────────────────────────────────────────────────────────────────────────────────────

-- whose entry it is
abbrev pub party_of : Entry → Party
party_of e = party_with (party_number e)

-- what it begins
abbrev pub begun_by : Entry → Begun
begun_by Drain = nothing
begun_by ClientStore = nothing
begun_by (BeginPut x) = a_put x
begun_by BeginTake = a_take
begun_by WorkerStep = nothing
begun_by (BeginSteal i) = a_steal
begun_by (ThiefStep i) = nothing

-- only steps belong to a call
abbrev pub is_step : Entry → Bool
is_step Drain = false
is_step ClientStore = false
is_step (BeginPut x) = false
is_step BeginTake = false
is_step WorkerStep = true
is_step (BeginSteal i) = false
is_step (ThiefStep i) = true
