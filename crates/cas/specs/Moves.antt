-- An entry of the worker's or of a thief's as a move, like the steps of `Worker` and `Thief`; for the code alone, which decides every entry of a party in one place. What an entry does to the machine is said in `Entries`; that this comes to it
-- is a law (`proofs/Laws/Moves.antt`). Entries of another party never get here; their lines stand because a definition has one for every entry.
use Rattle.std.specs.Prelude.{Bool, cond}
use Rattle.cas.specs.Types.{Client, Entry, Drain, ClientStore, BeginPut, BeginTake, WorkerStep, BeginSteal, ThiefStep, Some, TheClient, Moved, Place, Early, Wait, PutLoadHead, TakeStoreTail, StealLoadHead, ThiefMove, ThiefView, WorkerMove, WorkerView}
use Rattle.cas.specs.Worker.{goes_on, stays, storing, worker_move, worker_runs}
use Rattle.cas.specs.Thief.{goes_on as thief_goes_on, stays as thief_stays, thief_move, thief_runs}

-- an entry of the worker's, by whether a take would be too early
abbrev pub worker_entry : Bool → Entry → WorkerView → WorkerMove
worker_entry early ClientStore v = cond (worker_runs v.call) (stays Place v) (storing (Some (TheClient, Client)) Moved v.call v)
worker_entry early (BeginPut x) v = cond (worker_runs v.call) (stays Place v) (goes_on (PutLoadHead x) v)
worker_entry early BeginTake v = cond (worker_runs v.call) (stays Place v) (cond early (stays Early v) (goes_on TakeStoreTail v))
worker_entry early WorkerStep v = worker_move v.call v
worker_entry early Drain v = stays Wait v
worker_entry early (BeginSteal i) v = stays Wait v
worker_entry early (ThiefStep i) v = stays Wait v

-- an entry of a thief's, from what that thief sees
abbrev pub thief_entry : Entry → ThiefView → ThiefMove
thief_entry (BeginSteal i) v = cond (thief_runs v.call) (thief_stays Place v) (thief_goes_on StealLoadHead v)
thief_entry (ThiefStep i) v = thief_move v.call v
thief_entry Drain v = thief_stays Wait v
thief_entry ClientStore v = thief_stays Wait v
thief_entry (BeginPut x) v = thief_stays Wait v
thief_entry BeginTake v = thief_stays Wait v
thief_entry WorkerStep v = thief_stays Wait v
