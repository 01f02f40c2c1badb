-- An entry obeyed, and a list of them. Renders, of "Parts", what an operation does first, of "The numbers" the order in which one entry is
-- refused, of "Demand 3's plain queue" how a list is run, and of request 4, in 02, for which machine a number is handed on.
use Rattle.std.specs.Prelude.{◌≡◌, true, false, cond, ◌&&◌, List, ℕ, ◌≤◌, length}
use Rattle.terms.specs.Kinds.{thief_is_there}
use Rattle.terms.specs.Lists.{after, each}
use Rattle.terms.specs.Outcome.{is_refusal}
use Rattle.terms.specs.Sizes.{sizes_in_range}
use Rattle.machine.specs.Types.{Done, Entry, Drain, ClientStore, BeginPut, BeginTake, WorkerStep, BeginSteal, ThiefStep, Machine, Outcome, Wait, Sizes}
use Rattle.machine.specs.Machine.{done, fresh, hidden, thief_call}
use Rattle.machine.specs.InRange.{in_range}
use Rattle.machine.specs.Perform.{step_of_thief, step_of_worker}
use Rattle.machine.specs.Entries.{begin_put, begin_steal, begin_take, drain, make_client_store}

-- each of the seven kinds, on a machine in range and with a thief that is there
abbrev pub obey_in_range : Machine → Entry → Done
obey_in_range m Drain = drain m
obey_in_range m ClientStore = make_client_store m
obey_in_range m (BeginPut x) = begin_put x m
obey_in_range m BeginTake = begin_take m
obey_in_range m WorkerStep = step_of_worker m m.worker.call
obey_in_range m (BeginSteal i) = begin_steal i m
obey_in_range m (ThiefStep i) = step_of_thief i m (thief_call m i)

-- 7 comes first, where the machine is not in range or the entry's thief is not there; only otherwise is the entry obeyed
abbrev pub obey : Machine → Entry → Done
obey m e = cond (in_range m && thief_is_there m.sizes e) (obey_in_range m e) (done Wait m)

-- ── What is so of every machine and every entry ─────────────────────────────────────────────────────────────────────────────

-- Proved in `proofs/Laws/Obey.antt`. 5, 6 and 7 leave the machine as it is; and 7 comes first.
abbrev pub RefusalKeeps : Type 0
RefusalKeeps = (m : Machine) (e : Entry) → is_refusal (obey m e).outcome ≡ true → (obey m e).machine ≡ m

abbrev pub OutOfRangeWaits : Type 0
OutOfRangeWaits = (m : Machine) (e : Entry) → (in_range m && thief_is_there m.sizes e) ≡ false → obey m e ≡ done Wait m

-- whether the entry moved, answered or was refused, the number that it hands on is that of the machine that it returns
abbrev pub HandsOnHidden : Type 0
HandsOnHidden = (m : Machine) (e : Entry) → (obey m e).hidden ≡ hidden (obey m e).machine

-- ── A list of entries, each on the machine left by the one before it ────────────────────────────────────────────────────

abbrev pub machine_after : Machine → List Entry → Machine
machine_after m es = after (λ m e. (obey m e).machine) m es

-- a part of what each of them hands back
abbrev pub each_of : {A : Type 0} → (Done → A) → Machine → List Entry → List A
each_of part m es = each (λ m e. (obey m e).machine) (λ m e. part (obey m e)) m es

abbrev pub outcomes_of : Machine → List Entry → List Outcome
outcomes_of m es = each_of (λ d. d.outcome) m es

-- the number that each of them hands on: how many stores of take step 1 are pending after it
abbrev pub hidden_of : Machine → List Entry → List ℕ
hidden_of m es = each_of (λ d. d.hidden) m es

-- A run of at most 4,096 entries never leads out of range, whichever margin is set. Proved in `proofs/Linearizable/AnyMargin.antt`.
abbrev pub RunInRange : Type 0
RunInRange = (s : Sizes) (es : List Entry) → sizes_in_range s ≡ true → length es ≤ 4096 → in_range (machine_after (fresh s) es) ≡ true
