-- Laws of the plain queue: what a call does to the account of its tasks, and to its sum.
use mathlib.Core.Path.{◌≡◌, refl, ap, sym, ◌∙◌}
use mathlib.Core.Bool.{Bool, true, false, cond, ◌||◌}
use mathlib.Core.List.{List, [], ◌∷◌, ◌++◌, append-nil, map}
use Prim.Native.Nat.{ℕ, ◌+◌, ◌-◌, ◌≤◌, ◌<◌}
use native.Mathlib.Omega.{arith}
use lib.Dec.{eqb}
use lib.ListN.{length, take, drop, length-append, length-drop, length-take}
use Rattle.terms.proofs.Laws.Tests.{either}
use Rattle.claim.specs.Types.{Outcome, Empty, Abort, Full, End}
use Rattle.terms.specs.Lists.{range}
use Rattle.claim.specs.PlainQueue.{Told, told_put, told_take, told_steal, PlainQueue, Reply, StoredTask, joined, leaves, newest, respond, stored_by, taken_by, unchanged, without_newest}
use Rattle.claim.specs.Calls.{task_in}
use Rattle.terms.proofs.Laws.Sums.{Adds, adds_take_drop, range_suc}

-- ── The account of the tasks ────────────────────────────────────────────────────────────────────────────────────────────────

-- By a measure of tasks: those that left and those that stand are those that stood and the one that joined.
abbrev Accounts : (List StoredTask → ℕ) → PlainQueue → List StoredTask → Reply → Type 0
Accounts φ q stored r = φ r.given + φ r.queue.tasks ≡ φ q.tasks + φ stored

module _ {φ : List StoredTask → ℕ} (adds : Adds φ) (q : PlainQueue) where
  unchanged_accounts : (o : Outcome) → Accounts φ q [] (unchanged q o)
  unchanged_accounts o = omega (arith, adds.none)

  put_accounts : (x : ℕ) (end full : Bool)
      → Accounts φ q (cond (end || full) [] (record { put = q.stored; number = x } ∷ [])) (cond end (unchanged q End) (cond full (unchanged q Full) (joined x q)))
  put_accounts x true full = unchanged_accounts End
  put_accounts x false true = unchanged_accounts Full
  put_accounts x false false = omega (arith, adds.none, adds.append q.tasks (record { put = q.stored; number = x } ∷ []))

  -- a list of at most one leaves, and the rest stands
  leaves_accounts : (l rest : List StoredTask) (n : ℕ) (o : Outcome) → length l ≤ 1 → φ l + φ rest ≡ φ q.tasks
      → Accounts φ q [] (leaves l (record { tasks = rest; sum = n; stored = q.stored }) q o)
  leaves_accounts [] rest n o few split = unchanged_accounts o
  leaves_accounts (t ∷ []) rest n o few split = omega (arith, adds.none)
  leaves_accounts (t ∷ u ∷ l) rest n o few split = absurd (omega arith)

  pub respond_accounts : (c : Told) → Accounts φ q (stored_by q c) (respond q c)
  respond_accounts (told_put x full) = put_accounts x (eqb q.sum 2147483647) full
  respond_accounts (told_take swapped) =
      leaves_accounts (newest q.tasks) _ _ Empty (simp length-drop (omega arith))
      (omega (arith, adds_take_drop adds (length q.tasks - 1) q.tasks))
  respond_accounts (told_steal true) = unchanged_accounts Abort
  respond_accounts (told_steal false) =
      leaves_accounts (take 1 q.tasks) _ _ Abort (simp length-take (omega arith))
      (adds_take_drop adds 1 q.tasks)

-- the number that is answered is that of the task that is given
abbrev Names : Reply → Type 0
Names r = task_in r.answer ≡ map (λ t. t.number) r.given

leaves_names : (l : List StoredTask) (after q : PlainQueue) (o : Outcome) → task_in o ≡ [] → Names (leaves l after q o)
leaves_names [] after q o e = e
leaves_names (t ∷ l) after q o e = refl

pub respond_names : (q : PlainQueue) (c : Told) → task_in (respond q c).answer ≡ map (λ t. t.number) (respond q c).given
respond_names q (told_put x full) = either Names (eqb q.sum 2147483647) refl (either Names full refl refl)
respond_names q (told_take swapped) = leaves_names (newest q.tasks) _ q Empty refl
respond_names q (told_steal true) = refl
respond_names q (told_steal false) = leaves_names (take 1 q.tasks) _ q Abort refl

-- puts are counted as they are STORED
leaves_stored : (l : List StoredTask) (after q : PlainQueue) (o : Outcome) → after.stored ≡ q.stored → range (leaves l after q o).queue.stored ≡ range q.stored ++ []
leaves_stored [] after q o e = sym (append-nil (range q.stored))
leaves_stored (t ∷ l) after q o e = ap range e ∙ sym (append-nil (range q.stored))

pub respond_stored : (q : PlainQueue) (c : Told)
    → range (respond q c).queue.stored ≡ range q.stored ++ map (λ t. t.put) (stored_by q c)
respond_stored q (told_put x full) = go (eqb q.sum 2147483647) full
  where
    go : (end full : Bool)
        → range (cond end (unchanged q End) (cond full (unchanged q Full) (joined x q))).queue.stored
        ≡ range q.stored ++ map (λ (t : StoredTask). t.put) (cond (end || full) [] (record { put = q.stored; number = x } ∷ []))
    go true full = sym (append-nil (range q.stored))
    go false true = sym (append-nil (range q.stored))
    go false false = range_suc q.stored
respond_stored q (told_take swapped) = leaves_stored (newest q.tasks) _ q Empty refl
respond_stored q (told_steal true) = sym (append-nil (range q.stored))
respond_stored q (told_steal false) = leaves_stored (take 1 q.tasks) _ q Abort refl

-- ── The account of the sum ──────────────────────────────────────────────────────────────────────────────────────────────────

-- From a queue to a later one: the sum has grown by the tasks that were stored and fallen by those that the worker took, and is no fewer than the
-- tasks that stand.
pub record Balances (q later : PlainQueue) (stored taken : ℕ) : Type 0 where
  pub sum : later.sum + taken ≡ q.sum + stored
  pub covers : length later.tasks ≤ later.sum

module _ (q : PlainQueue) (covered : length q.tasks ≤ q.sum) where
  pub unchanged_balances : Balances q q 0 0
  unchanged_balances = record { sum = omega arith; covers = covered }

  put_balances : (x : ℕ) (end full : Bool)
      → Balances q (cond end (unchanged q End) (cond full (unchanged q Full) (joined x q))).queue (length {A = StoredTask} (cond (end || full) [] (record { put = q.stored; number = x } ∷ []))) 0
  put_balances x true full = unchanged_balances
  put_balances x false true = unchanged_balances
  put_balances x false false = record { sum = omega arith; covers = simp length-append (omega arith) }

  take_balances : (l : List StoredTask) → newest q.tasks ≡ l
      → let r = leaves l (record { tasks = without_newest q.tasks; sum = q.sum - 1; stored = q.stored }) q Empty in Balances q r.queue 0 (length r.given)
  take_balances [] e = unchanged_balances
  take_balances (t ∷ l) e =
      let some : 0 < length q.tasks = omega (arith, simp length-drop at (ap length e)) in
      record { sum = omega arith; covers = simp length-take (omega arith) }

  swap_balances : (l : List StoredTask) → Balances q (leaves l (record { tasks = without_newest q.tasks; sum = q.sum; stored = q.stored }) q Empty).queue 0 0
  swap_balances [] = unchanged_balances
  swap_balances (t ∷ l) = record { sum = omega arith; covers = simp length-take (omega arith) }

  steal_balances : (l : List StoredTask) → Balances q (leaves l (record { tasks = drop 1 q.tasks; sum = q.sum; stored = q.stored }) q Abort).queue 0 0
  steal_balances [] = unchanged_balances
  steal_balances (t ∷ l) = record { sum = omega arith; covers = simp length-drop (omega arith) }

  pub respond_balances : (c : Told) → Balances q (respond q c).queue (length (stored_by q c)) (length (taken_by q c))
  respond_balances (told_put x full) = put_balances x (eqb q.sum 2147483647) full
  respond_balances (told_take false) = take_balances (newest q.tasks) refl
  respond_balances (told_take true) = swap_balances (newest q.tasks)
  respond_balances (told_steal true) = unchanged_balances
  respond_balances (told_steal false) = steal_balances (take 1 q.tasks)
