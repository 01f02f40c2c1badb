-- No task is lost or given twice, said of the machine alone: there is no plain queue in it. Renders, of "Demand 3's plain queue", that tasks are told apart by
-- their put, and that each is given to exactly one call or still stands.
--
-- Each put of a list gets a number of its own, so that a number names one put. That changes no outcome but for the numbers (`outcomes`); and the numbers that were
-- answered with TASK, those that running calls hold and those that stand in the queue are together the numbers of the STORED puts (`together`), each once (`once`).
use Rattle.std.specs.Prelude.{◌≡◌, true, cond, List, [], ◌∷◌, ◌++◌, map, ℕ, ◌+◌, ◌≤◌, get_or, length}
use Rattle.terms.specs.Lists.{Permutation, concat_map, occurrences}
use Rattle.terms.specs.Outcome.{is_answer, is_moved, is_stored}
use Rattle.terms.specs.Sizes.{enough_margin, sizes_in_range}
use Rattle.claim.specs.Calls.{parties, task_in}
use Rattle.claim.specs.Implementation.{Implementation}
use Rattle.claim.specs.Run.{machine_after, outcomes_of}
use Rattle.properties.specs.Types.{Entry, Drain, ClientStore, BeginPut, BeginTake, WorkerStep, BeginSteal, ThiefStep, Outcome, Sizes}
use Rattle.properties.specs.Renumbering.{renumber_outcome}

-- ── Puts numbered apart ─────────────────────────────────────────────────────────────────────────────────────────────────────

abbrev pub numbered_from : ℕ → List Entry → List Entry
numbered_from k [] = []
numbered_from k (Drain ∷ es) = Drain ∷ numbered_from k es
numbered_from k (ClientStore ∷ es) = ClientStore ∷ numbered_from k es
numbered_from k (BeginPut x ∷ es) = BeginPut k ∷ numbered_from (k + 1) es
numbered_from k (BeginTake ∷ es) = BeginTake ∷ numbered_from k es
numbered_from k (WorkerStep ∷ es) = WorkerStep ∷ numbered_from k es
numbered_from k (BeginSteal i ∷ es) = BeginSteal i ∷ numbered_from k es
numbered_from k (ThiefStep i ∷ es) = ThiefStep i ∷ numbered_from k es

-- put k of the list gets number k, counted from 1: the slots hold 0 at first, so 0 names no put
abbrev pub numbered_apart : List Entry → List Entry
numbered_apart es = numbered_from 1 es

-- the numbers that the list itself gives to its puts, in their order, and the one that it gives to put k
abbrev pub number_put : Entry → List ℕ
number_put Drain = []
number_put ClientStore = []
number_put (BeginPut x) = x ∷ []
number_put BeginTake = []
number_put WorkerStep = []
number_put (BeginSteal i) = []
number_put (ThiefStep i) = []

abbrev pub number_in : List Entry → ℕ → ℕ
number_in es k = get_or (0 ∷ concat_map number_put es) k 0

-- ── The STORED puts ─────────────────────────────────────────────────────────────────────────────────────────────────────────

-- Their numbers, by entries and outcomes: STORED answers the put that runs, whose number is in a list of at most one. It runs from its beginning to the worker's next
-- answer, and no take begins meanwhile.
abbrev pub stored_puts : List ℕ → List Entry → List Outcome → List ℕ
stored_puts running [] os = []
stored_puts running (e ∷ es) [] = []
stored_puts running (Drain ∷ es) (o ∷ os) = stored_puts running es os
stored_puts running (ClientStore ∷ es) (o ∷ os) = stored_puts running es os
stored_puts running (BeginPut x ∷ es) (o ∷ os) = stored_puts (cond (is_moved o) (x ∷ []) running) es os
stored_puts running (BeginTake ∷ es) (o ∷ os) = stored_puts (cond (is_moved o) [] running) es os
stored_puts running (WorkerStep ∷ es) (o ∷ os) = cond (is_stored o) running [] ++ stored_puts (cond (is_answer o) [] running) es os
stored_puts running (BeginSteal i ∷ es) (o ∷ os) = stored_puts running es os
stored_puts running (ThiefStep i ∷ es) (o ∷ os) = stored_puts running es os

-- ── The account of a list ───────────────────────────────────────────────────────────────────────────────────────────────────

module _ {M : Type 0} (b : Implementation M Entry) (s : Sizes) (es : List Entry) where
  -- the numbers that were answered with TASK, those that running calls hold, and those that stand
  abbrev pub given : List ℕ
  given = concat_map task_in (outcomes_of b (b.fresh s) es)

  abbrev pub held : List ℕ
  held = concat_map task_in (concat_map (b.owes (machine_after b (b.fresh s) es)) (parties s))

  abbrev pub standing : List ℕ
  standing = b.standing_now (machine_after b (b.fresh s) es)

  -- the numbers of the STORED puts
  abbrev pub stored : List ℕ
  stored = stored_puts [] es (outcomes_of b (b.fresh s) es)

-- ── Exactly once ────────────────────────────────────────────────────────────────────────────────────────────────────────────

-- `together` is what enough margin is for; `outcomes` and `once` hold with any.
pub record ExactlyOnce {M : Type 0} (b : Implementation M Entry) (s : Sizes) (es : List Entry) : Type 0 where
  -- the outcomes are those of the list with its puts numbered apart, the numbers exchanged
  pub outcomes : outcomes_of b (b.fresh s) es ≡ map (renumber_outcome (number_in es)) (outcomes_of b (b.fresh s) (numbered_apart es))
  -- in that list, what was given, is held or stands is what was STORED ..
  pub together : Permutation (given b s (numbered_apart es) ++ held b s (numbered_apart es) ++ standing b s (numbered_apart es)) (stored b s (numbered_apart es))
  -- .. and no number stands in it twice
  pub once : (k : ℕ) → occurrences k (stored b s (numbered_apart es)) ≤ 1

-- Of the lists that demand 3 speaks of. Each prefix of a list is a list, so it is true at every moment. Proved of FF-THE in `proofs/ExactlyOnce.antt`, of FF-CL in `proofs/FfCl.antt`.
abbrev pub NoneLostOrGivenTwice : {M : Type 0} → Implementation M Entry → Type 0
NoneLostOrGivenTwice b = (s : Sizes) (es : List Entry) → sizes_in_range s ≡ true → enough_margin s ≡ true → length es ≤ 4096 → ExactlyOnce b s es

-- The same account in a list's own numbers, each as often. They tell its puts apart only where no two puts have one number, as in a schedule of which a share sheet is made (02's request 2). Proved in the same files.
abbrev pub AccountedByNumber : {M : Type 0} → Implementation M Entry → Type 0
AccountedByNumber b =
    (s : Sizes) (es : List Entry) → sizes_in_range s ≡ true → enough_margin s ≡ true → length es ≤ 4096
    → Permutation (given b s es ++ held b s es ++ standing b s es) (stored b s es)
