-- Every entry of a party is a move of it: refused, or performed part by part. So the code decides the entries of a party in one place, and knows by the outcome alone that the machine is handed back as it was.
use mathlib.Core.Path.{◌≡◌, refl, ap, sym, ◌∙◌}
use mathlib.Core.Bool.{true, false≢true, cond, ◌&&◌}
use Prim.Native.Nat.{◌≤◌, ◌<◌}
use lib.Dec.{ltb}
use borrow.Author.Tests.{ltb-true}
use Rattle.terms.specs.Outcome.{is_refusal}
use Rattle.terms.specs.Sizes.{margin_in_use}
use Rattle.terms.specs.Kinds.{thief_is_there, thief_of}
use Rattle.terms.proofs.Laws.Kinds.{is_thiefs, is_workers, thief_by_number}
use Rattle.terms.proofs.Laws.Tests.{and_after, cond_map, decide, either}
use Rattle.stores.specs.Spacing.{counted_in, counted_in_or_same, spacing_after, take_begins, too_early}
use Rattle.stores.specs.StoreBuffer.{pushed_in}
use Rattle.stores.proofs.Laws.Spacing.{counted_in_in_range}
use Rattle.stores.proofs.Laws.StoreBuffer.{PushFits}
use Rattle.machine.specs.Types.{Client, Done, Entry, Drain, ClientStore, BeginPut, BeginTake, WorkerStep, BeginSteal, ThiefStep, Machine, Moved, None, Some, Outcome, Option, Maker, StoreKind, PutLoadHead, Spacing, TheClient, ThiefMove, WorkerMove}
use Rattle.machine.specs.InRange.{in_range}
use Rattle.machine.specs.Machine.{done, has_room, thief_call}
use Rattle.machine.specs.Worker.{worker_runs}
use Rattle.machine.specs.Thief.{thief_runs}
use Rattle.machine.specs.Update.{with_buffer, with_lock, with_spacing, with_worker}
use Rattle.machine.specs.Perform.{perform_thief, thief_view, worker_view}
use Rattle.machine.specs.Obey.{obey_in_range}
use Rattle.machine.specs.Moves.{thief_entry, worker_entry}
use Rattle.machine.proofs.Laws.InRange.{bounds}
use Rattle.machine.proofs.Laws.Obey.{thief_obeys, worker_obeys}
use Rattle.machine.proofs.Laws.Worker.{push_fits}

-- refused or not: the machine as it was, or this one
abbrev unless_refused : Outcome → Machine → Machine → Done
unless_refused o m n = cond (is_refusal o) (done o m) (done o n)

-- what is performed alike for both, where a refusal leaves all as it is
kept : (o : Outcome) (m n : Machine) → (is_refusal o ≡ true → n ≡ m) → done o n ≡ unless_refused o m n
kept o m n same = decide (λ d. done o n ≡ d) (is_refusal o) (λ refused. ap (done o) (same refused)) (λ performed. refl)

-- ── The worker ──────────────────────────────────────────────────────────────────────────────────────────────────────────────

-- the store that the move makes is pending; spacing count, lock and call are as they are told
abbrev pub worked : Machine → Spacing → WorkerMove → Machine
worked m s d = with_worker d.call (with_lock d.lock.holder (with_spacing s (with_buffer (pushed_in d.push m.buffer) m)))

-- its entry, as a move
abbrev pub worker_entry_move : Machine → Entry → WorkerMove
worker_entry_move m e = worker_entry (too_early m.spacing m.sizes.spacing) e (worker_view m m.worker.call)

module _ (m : Machine) (few : m.spacing.count ≤ 4096) where
  -- a count in range is the definitions' own
  counted : (p : Option (Maker × StoreKind)) (f : Spacing → Done) → f (counted_in p m.spacing) ≡ f (counted_in_or_same p m.spacing)
  counted p f = ap f (sym (counted_in_in_range p m.spacing few))

  -- a move that the spacing rule counts by its store, told
  abbrev told_counting : WorkerMove → Done
  told_counting d = unless_refused d.outcome m (worked m (counted_in_or_same d.push m.spacing) d)

  pub worker_moves_lem : (e : Entry) → is_workers e ≡ true
      → obey_in_range m e ≡ unless_refused (worker_entry_move m e).outcome m (worked m (spacing_after e (worker_entry_move m e).push m.spacing) (worker_entry_move m e))
  worker_moves_lem ClientStore ours =
      cond_map told_counting (worker_runs m.worker.call) refl (cond_map told_counting (has_room m) (counted (Some (TheClient, Client)) (λ s. done Moved (with_spacing s (with_buffer (pushed_in (Some (TheClient, Client)) m.buffer) m)))) refl)
  worker_moves_lem (BeginPut x) ours =
      cond_map told_counting (worker_runs m.worker.call) refl (counted None (λ s. done Moved (with_worker (PutLoadHead x) (with_spacing s m))))
  worker_moves_lem BeginTake ours =
      let told_beginning : WorkerMove → Done = λ d. unless_refused d.outcome m (worked m take_begins d) in
      cond_map told_beginning (worker_runs m.worker.call) refl (cond_map told_beginning (too_early m.spacing m.sizes.spacing) refl refl)
  worker_moves_lem WorkerStep ours =
      let d = worker_entry_move m WorkerStep in
      kept d.outcome m (worked m (counted_in d.push m.spacing) d) (worker_obeys m m.worker.call refl).keeps
      ∙ counted d.push (λ s. unless_refused d.outcome m (worked m s d))
  worker_moves_lem Drain ours = absurd (false≢true ours)
  worker_moves_lem (BeginSteal i) ours = absurd (false≢true ours)
  worker_moves_lem (ThiefStep i) ours = absurd (false≢true ours)

-- a store is made only where there is room
module _ (m : Machine) where
  abbrev Fits : WorkerMove → Type 0
  Fits d = PushFits m.sizes.buffer d.push m.buffer.count

  room : has_room m ≡ true → m.buffer.count < m.sizes.buffer
  room = ltb-true m.buffer.count m.sizes.buffer

  pub move_fits : (e : Entry) → Fits (worker_entry_move m e)
  move_fits ClientStore = either Fits (worker_runs m.worker.call) tt (decide Fits (has_room m) room (λ none. tt))
  move_fits (BeginPut x) = either Fits (worker_runs m.worker.call) tt tt
  move_fits BeginTake = either Fits (worker_runs m.worker.call) tt (either Fits (too_early m.spacing m.sizes.spacing) tt tt)
  move_fits WorkerStep = push_fits m.sizes.buffer m.buffer.count (worker_view m m.worker.call) room m.worker.call
  move_fits Drain = tt
  move_fits (BeginSteal i) = tt
  move_fits (ThiefStep i) = tt

-- ── A thief ─────────────────────────────────────────────────────────────────────────────────────────────────────────────────

-- its entry, as a move
abbrev pub thief_entry_move : Machine → Entry → ThiefMove
thief_entry_move m e = thief_entry e (thief_view m (thief_of e) (thief_call m (thief_of e)))

pub thief_moves_lem : (m : Machine) (e : Entry) → is_thiefs e ≡ true → obey_in_range m e ≡ unless_refused (thief_entry_move m e).outcome m (perform_thief (thief_of e) m (thief_entry_move m e)).machine
thief_moves_lem m (BeginSteal i) ours = cond_map (λ d. unless_refused d.outcome m (perform_thief i m d).machine) (thief_runs (thief_call m i)) refl refl
thief_moves_lem m (ThiefStep i) ours =
    let d = thief_entry_move m (ThiefStep i) in
    kept d.outcome m (perform_thief i m d).machine (thief_obeys (margin_in_use m.sizes) i m (thief_call m i) refl).keeps
thief_moves_lem m Drain ours = absurd (false≢true ours)
thief_moves_lem m ClientStore ours = absurd (false≢true ours)
thief_moves_lem m (BeginPut x) ours = absurd (false≢true ours)
thief_moves_lem m BeginTake ours = absurd (false≢true ours)
thief_moves_lem m WorkerStep ours = absurd (false≢true ours)

-- ── The test before both ────────────────────────────────────────────────────────────────────────────────────────────────────

-- with sizes in range there is a first thief, so that an entry which names none passes too
pub there_by_number : (m : Machine) (e : Entry) → (in_range m && ltb (thief_of e) m.sizes.thieves) ≡ (in_range m && thief_is_there m.sizes e)
there_by_number m e = and_after (in_range m) (λ ready. thief_by_number m.sizes e (bounds m ready).memory.sized)
