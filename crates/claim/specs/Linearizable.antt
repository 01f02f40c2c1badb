-- The claim that a queue answers as the plain queue does, and that no task is lost or given twice: linearizability. Renders, of "Demand 3's plain
-- queue", the limits on what that queue is told and the paragraph on tasks that stand and are given; of which lists it is claimed, each queue says.
use Rattle.std.specs.Prelude.{◌≡◌, Bool, true, cond, List, [], ◌∷◌, ◌++◌, map, ℕ, ◌+◌, length}
use Rattle.terms.specs.Lists.{Permutation, all, concat_map, range}
use Rattle.terms.specs.Outcome.{is_answer}
use Rattle.claim.specs.Types.{Outcome, Sizes}
use Rattle.claim.specs.PlainQueue.{StoredTask, within_limits}
use Rattle.claim.specs.Calls.{Begun, answers_to, given_to, is_nothing, parties, task_in}
use Rattle.claim.specs.Implementation.{Implementation}
use Rattle.claim.specs.Watch.{Event, Watch, events, watch_fresh, watched}

-- the events that answer a call
abbrev pub answering : List Event → List Event
answering h = concat_map (λ v. cond (is_answer v.outcome) (v ∷ []) []) h

-- the plain queue's account: the tasks given to calls that have answered, those given to running calls, and those that stand
abbrev pub tasks_of : {M : Type 0} → Sizes → List Event → Watch M → List StoredTask
tasks_of s h w = concat_map (λ v. given_to v.call) (answering h) ++ concat_map (λ p. given_to (w.calls p)) (parties s) ++ w.queue.tasks

abbrev pub no_call_runs : {M : Type 0} → Sizes → Watch M → Bool
no_call_runs s w = all (λ p. is_nothing (w.calls p).begun) (parties s)

module _ {M E : Type 0} (b : Implementation M E) where
  -- the plain queue's answers to a call that answers o: that one, unless it is not told of such calls
  abbrev pub expected : Begun → Outcome → List Outcome
  expected c o = cond (b.is_told c o) (o ∷ []) []

  -- the machine's account: the numbers that calls have answered, and those that running calls owe
  abbrev pub numbers_answered_or_owed : Sizes → List Event → Watch M → List ℕ
  numbers_answered_or_owed s h w = concat_map (λ v. task_in v.outcome) h ++ concat_map task_in (concat_map (b.owes w.machine) (parties s))

  -- Each part of the claim, of the events h of a run and of the watch w at its end. Each prefix of a list is a list, so what is claimed at the
  -- end of every list is claimed at every moment. `answers`, `held`, `limits` and `standing` stand by themselves; `once` holds of every run of a queue whose answers come
  -- at steps, whatever the margin, and `no_other` follows from `answers` and `held`.
  pub record Linearizes (s : Sizes) (h : List Event) (w : Watch M) : Type 0 where
    -- Calls answer as the plain queue does: of each call that has answered, the plain queue's answers to it since it began are that one
    -- answer, with its value; or none, where the plain queue is not told of such a call. It carries that every answer is the plain queue's.
    pub answers : map (λ v. answers_to v.call) (answering h) ≡ map (λ v. expected v.call.begun v.outcome) (answering h)
    -- Between its effect and its answer a call has its task: what each running call owes, which for a task is the number that it would load
    -- from its slot now or has loaded, is what the plain queue has answered to it, if anything. It carries that nobody overwrites the slot of a task that is given.
    pub held : map (λ p. answers_to (w.calls p)) (parties s) ≡ map (b.owes w.machine) (parties s)
    -- Whatever the plain queue was told, it was told within its limits, by the tasks that stood just before. It carries that FULL is not said at will, and no task is
    -- stored or stolen where the plain queue has no place or none.
    pub limits : all (λ v. all (within_limits (b.limits s) v.queue) v.told) h ≡ true
    -- The plain queue's account: each STORED put's task, known by its put, was given to one call, or stands, and not both. It is true of the plain queue beside such a run
    -- whatever the machine answers; `answers` and `held` tie the machine to it.
    pub once : Permutation (map (λ t. t.put) (tasks_of s h w)) (range w.queue.stored)
    -- The machine's account has no other: as many numbers were answered or are owed as tasks were STORED and do not stand. M2's run, which has one
    -- number too many, breaks it.
    pub no_other : length (numbers_answered_or_owed s h w) + length w.queue.tasks ≡ w.queue.stored
    -- While no call runs, the slots from head to below the worker's tail show it the numbers of the standing tasks, oldest first. It carries that no task is lost.
    pub standing : no_call_runs s w ≡ true → map (λ t. t.number) w.queue.tasks ≡ b.standing w.machine

  abbrev pub Linearizable : Sizes → List E → Type 0
  Linearizable s es = Linearizes s (events b (watch_fresh b s) es) (watched b (watch_fresh b s) es)
