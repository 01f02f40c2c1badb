-- What an entry comes to as the code obeys it, part by part: from what the calls before each way out of `obey` have ensured, what that way out hands back is the definition's. Each fact is told of the step that the code has
-- decided, so that no proof at a way out says once more that this step is the move.
use mathlib.Core.Path.{◌≡◌, ap, sym, ◌∙◌, subst}
use mathlib.Core.Bool.{Bool, true, false, cond, not, ◌&&◌}
use Prim.Native.Nat.{ℕ, ◌≤◌, ◌<◌}
use native.Mathlib.Omega.{arith}
use lib.Dec.{ltb}
use lib.ListN.{length}
use borrow.Author.Tests.{ne_eqb}
use Rattle.terms.specs.Kinds.{thief_of}
use Rattle.terms.specs.Outcome.{is_refusal}
use Rattle.terms.proofs.Laws.Kinds.{is_thiefs, is_workers}
use Rattle.terms.proofs.Laws.Tests.{by_test, known}
use Rattle.stores.specs.Index.{index_in_range}
use Rattle.stores.specs.Look.{hidden_after_drain, hidden_after_head, hidden_after_store}
use Rattle.stores.specs.Spacing.{spacing_after, too_early}
use Rattle.stores.specs.StoreBuffer.{oldest, pushed_or_same}
use Rattle.stores.proofs.Laws.StoreBuffer.{fits_more, pushed_free}
use Rattle.cas.specs.Types.{Drain, Entry, Look, Machine, Moved, ThiefMove, ThiefView, Wait, WorkerMove, WorkerView}
use Rattle.cas.specs.Machine.{done, handing, in_range, look, thief_call, with_buffer, with_head, with_spacing, with_worker}
use Rattle.cas.specs.Worker.{worker_in_range}
use Rattle.cas.specs.Thief.{thief_in_range}
use Rattle.cas.specs.Entries.{drained, obey, obey_in_range, perform_thief, thief_view, worker_view}
use Rattle.cas.specs.Moves.{thief_entry, worker_entry}
use Rattle.cas.proofs.Laws.InRange.{ThiefReady, bounds, thief_ready}
use Rattle.cas.proofs.Laws.Hidden.{drained_hidden, thief_hidden, worker_hidden}
use Rattle.cas.proofs.Laws.Obey.{obey_by}
use Rattle.cas.proofs.Laws.Moves.{move_fits, there_by_number, thief_entry_move, thief_moves_lem, worked, worker_entry_move, worker_moves_lem}

-- ── Before the entry: the test of machine and thief ─────────────────────────────────────────────────────────────────────────

module _ (m : Machine) (e : Entry) {seen : Look} {thief : ℕ} (seen_is : seen ≡ look m) (thief_is : thief ≡ thief_of e) where
  tested : (seen.ranged && ltb thief m.sizes.thieves) ≡ (in_range m && ltb (thief_of e) m.sizes.thieves)
  unfolding in_range
  tested = λ i. (seen_is i).ranged && ltb (thief_is i) m.sizes.thieves

  -- by its result the entry is looked at
  pub obey_tested : {b : Bool} → (seen.ranged && ltb thief m.sizes.thieves) ≡ b → obey m e ≡ cond b (obey_in_range m e) (done Wait m)
  obey_tested found = obey_by m e (sym (there_by_number m e) ∙ known tested found)

-- where it has passed
pub record Passed (m : Machine) (e : Entry) : Type 0 where
  pub there : ThiefReady m (thief_of e)
  pub obeyed : obey m e ≡ obey_in_range m e

pub passed : (m : Machine) (e : Entry) {seen : Look} {thief : ℕ} → seen ≡ look m → thief ≡ thief_of e
    → (seen.ranged && ltb thief m.sizes.thieves) ≡ true → Passed m e
passed m e seen_is thief_is found =
    record { there = thief_ready m (thief_of e) (known (tested m e seen_is thief_is) found); obeyed = obey_tested m e seen_is thief_is found }

-- ── The drain ───────────────────────────────────────────────────────────────────────────────────────────────────────────────

-- where a store is pending
pub drain_performed : (m : Machine) (e : Entry) → Passed m e → e ≡ Drain → 0 < m.buffer.count → m.buffer.count ≤ length m.buffer.stores
    → handing Moved (hidden_after_drain m.tail (oldest m.buffer).kind (look m)) (drained m) ≡ obey m e
drain_performed m e p is some within =
    ap (λ h. handing Moved h (drained m)) (sym (drained_hidden m p.there.ready some within))
    ∙ sym (p.obeyed ∙ ap (obey_in_range m) is ∙ by_test _ _ (ap not (ne_eqb m.buffer.count 0 (omega arith))))

-- ── The worker ──────────────────────────────────────────────────────────────────────────────────────────────────────────────

module _ (m : Machine) (e : Entry) (p : Passed m e) (ours : is_workers e ≡ true) where
  -- what is told of a step, once it is known whether it is refused: that it is handed back so ..
  abbrev WorkerTold : Bool → WorkerMove → Type 0
  WorkerTold b d = is_refusal d.outcome ≡ b → cond b (done d.outcome m) (done d.outcome (worked m (spacing_after e d.push m.spacing) d)) ≡ obey m e

  -- .. and, where it is performed, with the number that the code tells, and its store pushed if a cell is free
  abbrev WorkerPerformed : WorkerMove → Type 0
  WorkerPerformed d =
      let spaced = spacing_after e d.push m.spacing in
      is_refusal d.outcome ≡ false
      → handing d.outcome (hidden_after_store d.push spaced (index_in_range d.head && worker_in_range d.call) (look m)) (with_worker d.call (with_head d.head (with_spacing spaced (with_buffer (pushed_or_same d.push m.buffer) m))))
      ≡ obey m e

  move_told : (b : Bool) → WorkerTold b (worker_entry_move m e)
  move_told b tells = sym (p.obeyed ∙ worker_moves_lem m (bounds m p.there.ready).memory.spacing e ours ∙ by_test _ _ tells)

  move_performed : length m.buffer.stores ≡ 64 → WorkerPerformed (worker_entry_move m e)
  move_performed long tells =
      let d = worker_entry_move m e in
      let spaced = spacing_after e d.push m.spacing in
      let number = sym (worker_hidden m p.there.ready d.push spaced d.head d.call long (move_fits m e)) in
      let push_is = pushed_free d.push m.buffer (fits_more d.push m.buffer.count (bounds m p.there.ready).memory.sizes.buffer_most (move_fits m e)) in
      (λ i. handing d.outcome (number i) (with_worker d.call (with_head d.head (with_spacing spaced (with_buffer (push_is i) m))))) ∙ move_told false tells

  -- the step that the code has decided is the move
  module _ {early refusal : Bool} {view : WorkerView} {step : WorkerMove} (early_is : early ≡ too_early m.spacing m.sizes.spacing) (view_is : view ≡ worker_view m m.worker.call)
      (step_is : step ≡ worker_entry early e view) (asked : refusal ≡ is_refusal step.outcome) where
    is_move : worker_entry_move m e ≡ step
    is_move = sym (step_is ∙ (λ i. worker_entry (early_is i) e (view_is i)))

    pub worker_refused : refusal ≡ true → done step.outcome m ≡ obey m e
    worker_refused found = subst (WorkerTold true) is_move (move_told true) (known asked found)

    pub worker_performed : refusal ≡ false → length m.buffer.stores ≡ 64
        → handing step.outcome (hidden_after_store step.push (spacing_after e step.push m.spacing) (index_in_range step.head && worker_in_range step.call) (look m))
        (with_worker step.call (with_head step.head (with_spacing (spacing_after e step.push m.spacing) (with_buffer (pushed_or_same step.push m.buffer) m))))
        ≡ obey m e
    worker_performed found long = subst WorkerPerformed is_move (move_performed long) (known asked found)

-- ── A thief ─────────────────────────────────────────────────────────────────────────────────────────────────────────────────

module _ (m : Machine) (e : Entry) (p : Passed m e) (ours : is_thiefs e ≡ true) where
  abbrev ThiefTold : Bool → ThiefMove → Type 0
  ThiefTold b d = is_refusal d.outcome ≡ b → cond b (done d.outcome m) (done d.outcome (perform_thief (thief_of e) m d).machine) ≡ obey m e

  abbrev ThiefPerformed : ThiefMove → Type 0
  ThiefPerformed d =
      is_refusal d.outcome ≡ false
      → handing d.outcome (hidden_after_head d.head (thief_in_range d.call) (look m)) (perform_thief (thief_of e) m d).machine ≡ obey m e

  thief_move_told : (b : Bool) → ThiefTold b (thief_entry_move m e)
  thief_move_told b tells = sym (p.obeyed ∙ thief_moves_lem m e ours ∙ by_test _ _ tells)

  thief_move_performed : thief_of e < length m.thieves → ThiefPerformed (thief_entry_move m e)
  thief_move_performed cell tells =
      let d = thief_entry_move m e in
      ap (λ h. handing d.outcome h (perform_thief (thief_of e) m d).machine) (sym (thief_hidden m p.there.ready (thief_of e) d.head d.call cell)) ∙ thief_move_told false tells

  module _ {thief : ℕ} {refusal : Bool} {view : ThiefView} {step : ThiefMove} (thief_is : thief ≡ thief_of e) (view_is : view ≡ thief_view m (thief_call m thief))
      (step_is : step ≡ thief_entry e view) (asked : refusal ≡ is_refusal step.outcome) where
    is_thief_move : thief_entry_move m e ≡ step
    is_thief_move = sym (step_is ∙ ap (thief_entry e) (view_is ∙ ap (λ i. thief_view m (thief_call m i)) thief_is))

    pub thief_refused : refusal ≡ true → done step.outcome m ≡ obey m e
    thief_refused found = subst (ThiefTold true) is_thief_move (thief_move_told true) (known asked found)

    pub thief_performed : refusal ≡ false → thief_of e < length m.thieves
        → handing step.outcome (hidden_after_head step.head (thief_in_range step.call) (look m)) (perform_thief (thief_of e) m step).machine ≡ obey m e
    thief_performed found cell = subst ThiefPerformed is_thief_move (thief_move_performed cell) (known asked found)
