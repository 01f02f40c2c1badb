-- When a take is too early, for a reader of a schedule and its outcomes. Renders the spacing rule of "The machine", as request 1 widens it: of every list of entries, with every margin.
-- The machine counts each store as it becomes pending (`Spacing`, of `stores`); the reader counts a client store that moved as one and a put that is STORED as two, since no take begins within a
-- put.
use Rattle.std.specs.Prelude.{◌≡◌, Bool, true, false, cond, ◌&&◌, List, [], ◌∷◌, ℕ, ◌+◌, ltb}
use Rattle.terms.specs.Outcome.{is_moved, is_stored}
use Rattle.machine.specs.Worker.{worker_runs}
use Rattle.machine.specs.Machine.{fresh}
use Rattle.machine.specs.InRange.{in_range}
use Rattle.machine.specs.Obey.{machine_after, obey, outcomes_of}
use Rattle.properties.specs.Types.{Entry, Drain, ClientStore, BeginPut, BeginTake, WorkerStep, BeginSteal, ThiefStep, Outcome, Moved, Early, Sizes}

-- whether a take has begun, and how many stores of the client and of puts were seen since the last one did; before the first, nothing goes by their number
pub record SinceTake : Type 0 where
  pub begun : Bool
  pub stores : ℕ

abbrev pub at_first : SinceTake
at_first = record { begun = false; stores = 0 }

abbrev pub stores_more : ℕ → SinceTake → SinceTake
stores_more n c = record { begun = c.begun; stores = c.stores + n }

-- with one more entry and its outcome
abbrev pub since_then : SinceTake → Entry → Outcome → SinceTake
since_then c Drain o = c
since_then c ClientStore o = cond (is_moved o) (stores_more 1 c) c
since_then c (BeginPut x) o = c
since_then c BeginTake o = cond (is_moved o) (record { begun = true; stores = 0 }) c
since_then c WorkerStep o = cond (is_stored o) (stores_more 2 c) c
since_then c (BeginSteal i) o = c
since_then c (ThiefStep i) o = c

abbrev pub since_take : SinceTake → List Entry → List Outcome → SinceTake
since_take c [] os = c
since_take c (e ∷ es) [] = c
since_take c (e ∷ es) (o ∷ os) = since_take (since_then c e o) es os

-- fewer stores than the spacing since the last take; the first take is free
abbrev pub is_early : ℕ → SinceTake → Bool
is_early spacing c = c.begun && ltb c.stores spacing

-- A take behind any list, where the machine is in range (after at most 4,096 entries it is: `run_in_range`, of `machine`) and the worker runs no call: 6 EARLY exactly where the reader says so, else it is moved. Proved in
-- `proofs/TakesApart.antt`.
abbrev pub TakesApart : Type 0
TakesApart =
    (s : Sizes) (es : List Entry)
    → in_range (machine_after (fresh s) es) ≡ true
    → worker_runs (machine_after (fresh s) es).worker.call ≡ false
    → (obey (machine_after (fresh s) es) BeginTake).outcome ≡ cond (is_early s.spacing (since_take at_first es (outcomes_of (fresh s) es))) Early Moved
