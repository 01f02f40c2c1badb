-- The accounts of every run from the fresh machine of a lawful implementation: in the plain queue's, each STORED put's task stands once; and where calls
-- answer and owe as the plain queue does, the machine's has the numbers of those tasks and no other. Both are one account of the plain queue's
-- replies, by two measures of them: a reply joins its party's call, stays with it to its answer, and is of a task that the queue stored.
use mathlib.Core.Path.{◌≡◌, refl, ap, sym, ◌∙◌}
use mathlib.Core.Bool.{Bool, true, false, cond, false≢true}
use mathlib.Core.List.{List, [], ◌∷◌, ◌++◌, append_assoc, append-nil, map, map-append}
use Prim.Native.Nat.{ℕ, ◌+◌}
use native.Mathlib.Omega.{arith}
use lib.ListN.{length, length-map}
use Rattle.terms.specs.Lists.{Permutation, concat_map, occurrences, range}
use Rattle.terms.specs.Outcome.{is_answer, is_refusal}
use Rattle.terms.proofs.Laws.Tests.{cond_map, either}
use Rattle.terms.proofs.Laws.Sums.{Adds, adds_concat_map, adds_map, adds_occurrences, adds_sum_of, length_range, measure_concat_map, sum_of, sum_of_map, sum_of_map_same, sum_of_replace, sum_of_same, sum_of_range, sum_of_zero}
use Rattle.claim.specs.Types.{Outcome, Moved, Place, Early, Wait, Stored, Task, Empty, Abort, Full, End, Sizes}
use Rattle.claim.specs.PlainQueue.{Told, told_put, told_take, told_steal, PlainQueue, Reply, StoredTask, empty_queue, respond, stored_by}
use Rattle.claim.specs.Calls.{Begun, nothing, a_put, a_take, a_steal, Effect, none, decided, Party, worker, thief, PartyCall, answers_to, call_after, given_to, no_call, or_begun, parties, same_party, task_in, told_of}
use Rattle.claim.specs.Implementation.{Implementation}
use Rattle.claim.specs.Watch.{Event, Watch, call_at, effect_at, events, queue_after, replies_at, told_at, watch_after, watch_fresh, watched}
use Rattle.claim.specs.Account.{stored_in}
use Rattle.claim.specs.Linearizable.{answering, expected, numbers_answered_or_owed, tasks_of}
use Rattle.claim.proofs.Laws.PlainQueue.{respond_accounts, respond_names, respond_stored}
use Rattle.claim.proofs.Lawful.{Lawful, is_there}

-- ── The parties ─────────────────────────────────────────────────────────────────────────────────────────────────────────────

-- over the parties, what only the worker has, and what only thief i has

worker_sum : (g : Party → ℕ) (s : Sizes) → sum_of (λ p. cond (same_party p worker) (g p) 0) (parties s) ≡ g worker
worker_sum g s =
    let l : List ℕ = range s.thieves in
    omega (arith, sum_of_map (λ p. cond (same_party p worker) (g p) 0) thief l, sum_of_zero {f = λ i. 0} (λ i. refl) l)

thief_sum : (g : Party → ℕ) (s : Sizes) (i : ℕ)
    → sum_of (λ p. cond (same_party p (thief i)) (g p) 0) (parties s) ≡ cond (is_there s (thief i)) (g (thief i)) 0
thief_sum g s i =
    let n : ℕ = s.thieves in
    omega (arith, sum_of_map (λ p. cond (same_party p (thief i)) (g p) 0) thief (range n), sum_of_range (λ j. g (thief j)) i n)

-- over the parties, what only one has
party_sum : (g : Party → ℕ) (s : Sizes) (r : Party) → sum_of (λ p. cond (same_party p r) (g p) 0) (parties s) ≡ cond (is_there s r) (g r) 0
party_sum g s worker = worker_sum g s
party_sum g s (thief i) = thief_sum g s i

-- ── Calls and answers ───────────────────────────────────────────────────────────────────────────────────────────────────────

-- only an answer takes the replies from a party's call
pub call_after_replies : (c : PartyCall) (o : Outcome) (b : Begun) → cond (is_answer o) [] c.replies ≡ (call_after c o b).replies
call_after_replies c o b =
    cond_map (λ (d : PartyCall). d.replies) (is_answer o) refl
    (either (λ (d : PartyCall). c.replies ≡ d.replies) (is_refusal o) refl (or_begun_replies b))
  where
    or_begun_replies : (b : Begun) → c.replies ≡ (or_begun c b).replies
    or_begun_replies nothing = refl
    or_begun_replies (a_put x) = refl
    or_begun_replies a_take = refl
    or_begun_replies a_steal = refl

-- a refusal is no answer
refusal_silent : (o : Outcome) → is_refusal o ≡ true → is_answer o ≡ false
refusal_silent Moved r = refl
refusal_silent Place r = refl
refusal_silent Early r = refl
refusal_silent Wait r = refl
refusal_silent Stored r = absurd (false≢true r)
refusal_silent (Task x) r = absurd (false≢true r)
refusal_silent Empty r = absurd (false≢true r)
refusal_silent Abort r = absurd (false≢true r)
refusal_silent Full r = absurd (false≢true r)
refusal_silent End r = absurd (false≢true r)

-- a sum over the events that answer is one over all events, in which the others have 0
answering_sum : (f : Event → ℕ) (h : List Event) → sum_of f (answering h) ≡ sum_of (λ v. cond (is_answer v.outcome) (f v) 0) h
answering_sum f h =
    measure_concat_map (adds_sum_of f) (λ v. cond (is_answer v.outcome) (v ∷ []) []) h ∙ sum_of_same (λ v. one v (is_answer v.outcome)) h
  where
    one : (v : Event) (t : Bool) → sum_of f (cond t (v ∷ []) []) ≡ cond t (f v) 0
    one v true = omega arith
    one v false = refl

-- ── One account ─────────────────────────────────────────────────────────────────────────────────────────────────────────────

-- By a measure Φ of replies, τ of the tasks that stand and σ of what a call stores, the account of each call balances.
abbrev Balanced : (List Reply → ℕ) → (PlainQueue → ℕ) → (PlainQueue → Told → ℕ) → Type 0
Balanced Φ τ σ = (q : PlainQueue) (c : Told) → Φ (respond q c ∷ []) + τ (respond q c).queue ≡ τ q + σ q c

-- the replies to calls that have answered, those to running calls, and what was stored
abbrev answered : (List Reply → ℕ) → List Event → ℕ
answered Φ h = sum_of (λ v. cond (is_answer v.outcome) (Φ v.call.replies) 0) h

abbrev running : {M : Type 0} → (List Reply → ℕ) → Sizes → Watch M → ℕ
running Φ s w = sum_of (λ p. Φ (w.calls p).replies) (parties s)

abbrev stored : (PlainQueue → Told → ℕ) → List Event → ℕ
stored σ h = sum_of (λ v. sum_of (σ v.queue) v.told) h

module _ {Φ : List Reply → ℕ} (adds : Adds Φ) (τ : PlainQueue → ℕ) (σ : PlainQueue → Told → ℕ) (balanced : Balanced Φ τ σ) where
  -- what the plain queue is told at an entry is at most one call
  told_balanced : (q : PlainQueue) (b : Begun) (f : Effect)
      → let l = map (respond q) (told_of b f) in Φ l + τ (queue_after q l) ≡ τ q + sum_of (σ q) (told_of b f)
  told_balanced q b none = omega (arith, adds.none)
  told_balanced q nothing (decided d) = omega (arith, adds.none)
  told_balanced q (a_put x) (decided d) = omega (arith, balanced q (told_put x d))
  told_balanced q a_take (decided d) = omega (arith, balanced q (told_take d))
  told_balanced q a_steal (decided d) = omega (arith, balanced q (told_steal d))

module _ {M E : Type 0} {b : Implementation M E} (lawful : Lawful b) {Φ : List Reply → ℕ} (adds : Adds Φ) where
  -- an entry of a party that is not there is refused, and the plain queue hears nothing of it
  replies_at_none : (w : Watch M) (e : E) → is_there (lawful.sizes w.machine) (b.party e) ≡ false → replies_at b w e ≡ []
  replies_at_none w e gone = rw (lawful.absent w.machine e gone)

  module _ (s : Sizes) (w : Watch M) (e : E) (sized : lawful.sizes w.machine ≡ s) where
    -- the calls change at the entry's party only, if it is there
    running_after :
        running Φ s (watch_after b w e) + cond (is_there s (b.party e)) (Φ (w.calls (b.party e)).replies) 0
        ≡ running Φ s w + cond (is_there s (b.party e)) (Φ (cond (is_answer (b.outcome w.machine e)) [] (call_at b w e).replies)) 0
    running_after =
        let o : Outcome = b.outcome w.machine e in
        let c : PartyCall = call_after (call_at b w e) o (b.begins e) in
        rw (call_after_replies (call_at b w e) o (b.begins e))
        (omega (
          arith,
          sum_of_replace (λ c. Φ c.replies) (λ p. same_party p (b.party e)) w.calls c (parties s),
          party_sum (λ p. Φ (w.calls p).replies) s (b.party e),
          party_sum (λ p. Φ c.replies) s (b.party e),
        ))

    -- the replies at the entry join those of a call, which has answered or runs
    replies_join :
        cond (is_answer (b.outcome w.machine e)) (Φ (cond (b.is_step e) (call_at b w e) no_call).replies) 0 + running Φ s (watch_after b w e)
        ≡ running Φ s w + Φ (replies_at b w e)
    replies_join =
        go (is_there s (b.party e)) (is_answer (b.outcome w.machine e)) refl refl (running Φ s (watch_after b w e)) running_after
      where
        go : (there answer : Bool) → is_there s (b.party e) ≡ there → is_answer (b.outcome w.machine e) ≡ answer → (n : ℕ)
            → n + cond there (Φ (w.calls (b.party e)).replies) 0 ≡ running Φ s w + cond there (Φ (cond answer [] (call_at b w e).replies)) 0
            → cond answer (Φ (cond (b.is_step e) (call_at b w e) no_call).replies) 0 + n ≡ running Φ s w + Φ (replies_at b w e)
        go true true t a n after =
            rw (lawful.answers_at_steps w.machine e a)
            (omega (arith, adds.none, adds.append (w.calls (b.party e)).replies (replies_at b w e)))
        go true false t a n after = omega (arith, adds.append (w.calls (b.party e)).replies (replies_at b w e))
        go false true t a n after = absurd (false≢true (sym (refusal_silent (b.outcome w.machine e) (lawful.absent w.machine e (rw sized t))) ∙ a))
        go false false t a n after = rw (replies_at_none w e (rw sized t)) (omega (arith, adds.none))

  module _ (τ : PlainQueue → ℕ) (σ : PlainQueue → Told → ℕ) (balanced : Balanced Φ τ σ) where
    run_balanced : (s : Sizes) (w : Watch M) (es : List E) → lawful.sizes w.machine ≡ s
        → answered Φ (events b w es) + running Φ s (watched b w es) + τ (watched b w es).queue ≡ running Φ s w + τ w.queue + stored σ (events b w es)
    run_balanced s w [] sized = omega arith
    run_balanced s w (e ∷ es) sized =
        omega (
          arith,
          replies_join s w e sized,
          told_balanced adds τ σ balanced w.queue (w.calls (b.party e)).begun (effect_at b w.machine e),
          run_balanced s (watch_after b w e) es (lawful.sizes_kept_lem w.machine e ∙ sized),
        )

    -- from the fresh machine, with no call and no task
    pub fresh_balanced : (s : Sizes) (es : List E) → τ (empty_queue s.start) ≡ 0
        → let h = events b (watch_fresh b s) es in
        let w = watched b (watch_fresh b s) es in
        answered Φ h + running Φ s w + τ w.queue ≡ stored σ h
    fresh_balanced s es e =
        omega (arith, e, run_balanced s (watch_fresh b s) es (lawful.sizes_fresh s), sum_of_zero {f = λ p. Φ []} (λ p. adds.none) (parties s))

-- what the calls of a run store, by a measure of tasks
stored_in_lem : {φ : List StoredTask → ℕ} → Adds φ → (h : List Event) → stored (λ q c. φ (stored_by q c)) h ≡ φ (stored_in h)
stored_in_lem {φ = φ} adds h =
    sum_of_same (λ v. sym (measure_concat_map adds (stored_by v.queue) v.told)) h ∙ sym (measure_concat_map adds (λ v. concat_map (stored_by v.queue) v.told) h)

-- ── The plain queue's account ───────────────────────────────────────────────────────────────────────────────────────────────

tasks_balanced : {φ : List StoredTask → ℕ} → Adds φ → Balanced (λ l. φ (concat_map (λ r. r.given) l)) (λ q. φ q.tasks) (λ q c. φ (stored_by q c))
tasks_balanced adds q c = rw append-nil (respond_accounts adds q c)

-- by every measure, the tasks in the account are those that were STORED
account_tasks : {M E : Type 0} {b : Implementation M E} → Lawful b → {φ : List StoredTask → ℕ} → Adds φ → (s : Sizes) (es : List E)
    → let h = events b (watch_fresh b s) es in
    φ (tasks_of s h (watched b (watch_fresh b s) es)) ≡ φ (stored_in h)
account_tasks {b = b} lawful {φ = φ} adds s es =
    let h = events b (watch_fresh b s) es in
    let w = watched b (watch_fresh b s) es in
    let given : List StoredTask = concat_map (λ v. given_to v.call) (answering h) in
    let held : List StoredTask = concat_map (λ p. given_to (w.calls p)) (parties s) in
    omega (
      arith,
      adds.append (given ++ held) w.queue.tasks,
      adds.append given held,
      measure_concat_map adds (λ v. given_to v.call) (answering h),
      measure_concat_map adds (λ p. given_to (w.calls p)) (parties s),
      answering_sum (λ v. φ (given_to v.call)) h,
      fresh_balanced lawful (adds_concat_map adds (λ r. r.given)) _ _ (tasks_balanced adds) s es adds.none,
      stored_in_lem adds h,
    )

-- the puts that were STORED are counted from 0
told_puts : (q : PlainQueue) (b : Begun) (f : Effect)
    → range (queue_after q (map (respond q) (told_of b f))).stored ≡ range q.stored ++ map (λ t. t.put) (concat_map (stored_by q) (told_of b f))
told_puts q b none = sym (append-nil (range q.stored))
told_puts q nothing (decided d) = sym (append-nil (range q.stored))
told_puts q (a_put x) (decided d) = rw append-nil (respond_stored q (told_put x d))
told_puts q a_take (decided d) = respond_stored q (told_take d)
told_puts q a_steal (decided d) = respond_stored q (told_steal d)

run_puts : {M E : Type 0} (b : Implementation M E) (w : Watch M) (es : List E)
    → range (watched b w es).queue.stored ≡ range w.queue.stored ++ map (λ t. t.put) (stored_in (events b w es))
run_puts b w [] = sym (append-nil (range w.queue.stored))
run_puts b w (e ∷ es) =
    let now : List StoredTask = concat_map (stored_by w.queue) (told_at b w e) in
    run_puts b (watch_after b w e) es
    ∙ ap (λ l. l ++ map (λ t. t.put) (stored_in (events b (watch_after b w e) es))) (told_puts w.queue (w.calls (b.party e)).begun (effect_at b w.machine e))
    ∙ append_assoc (range w.queue.stored) (map (λ t. t.put) now) (map (λ t. t.put) (stored_in (events b (watch_after b w e) es)))
    ∙ ap (λ l. range w.queue.stored ++ l) (sym (map-append (λ t. t.put) now (stored_in (events b (watch_after b w e) es))))

pub account_once : {M E : Type 0} {b : Implementation M E} → Lawful b → (s : Sizes) (es : List E)
    → let h = events b (watch_fresh b s) es in
    let w = watched b (watch_fresh b s) es in
    Permutation (map (λ t. t.put) (tasks_of s h w)) (range w.queue.stored)
account_once {b = b} lawful s es k =
    account_tasks lawful (adds_map (adds_occurrences k) (λ t. t.put)) s es ∙ ap (occurrences k) (sym (run_puts b (watch_fresh b s) es))

-- .. and there are as many
pub stored_many : {M E : Type 0} (b : Implementation M E) (s : Sizes) (es : List E)
    → length (stored_in (events b (watch_fresh b s) es)) ≡ (watched b (watch_fresh b s) es).queue.stored
stored_many b s es =
    sym (length-map (stored_in (events b (watch_fresh b s) es)) (λ t. t.put))
    ∙ sym (ap length (run_puts b (watch_fresh b s) es))
    ∙ length_range (watched b (watch_fresh b s) es).queue.stored

-- ── The machine's account ───────────────────────────────────────────────────────────────────────────────────────────────────

module _ {φ : List ℕ → ℕ} (adds : Adds φ) where
  -- the numbers of tasks in the outcomes, by a measure of them
  abbrev numbers_in : List Outcome → ℕ
  numbers_in l = φ (concat_map task_in l)

  adds_numbers_in : Adds numbers_in
  adds_numbers_in = adds_concat_map adds task_in

  -- .. and only an answer has one
  task_in_answer : (o : Outcome) → cond (is_answer o) (numbers_in (o ∷ [])) 0 ≡ φ (task_in o)
  task_in_answer Moved = sym adds.none
  task_in_answer Place = sym adds.none
  task_in_answer Early = sym adds.none
  task_in_answer Wait = sym adds.none
  task_in_answer Stored = refl
  task_in_answer (Task x) = refl
  task_in_answer Empty = refl
  task_in_answer Abort = refl
  task_in_answer Full = refl
  task_in_answer End = refl

  numbers : Adds (λ (l : List StoredTask). φ (map (λ t. t.number) l))
  numbers = adds_map adds (λ t. t.number)

  numbers_balanced :
      Balanced (λ l. numbers_in (map (λ r. r.answer) l)) (λ q. φ (map (λ t. t.number) q.tasks)) (λ q c. φ (map (λ t. t.number) (stored_by q c)))
  numbers_balanced q c = rw (append-nil, respond_names q c) (respond_accounts numbers q c)

  module _ {M E : Type 0} {b : Implementation M E} (lawful : Lawful b) where
    -- an answer that the plain queue is not told of has no number
    expected_number : (c : Begun) (o : Outcome) → cond (is_answer o) (numbers_in (expected b c o)) 0 ≡ φ (task_in o)
    expected_number c o = go (b.is_told c o) refl
      where
        go : (h : Bool) → b.is_told c o ≡ h → cond (is_answer o) (numbers_in (cond h (o ∷ []) [])) 0 ≡ φ (task_in o)
        go true e = task_in_answer o
        go false e = either (λ (n : ℕ). n ≡ φ (task_in o)) (is_answer o) (ap φ (sym (lawful.untold c o e))) (sym adds.none ∙ ap φ (sym (lawful.untold c o e)))

    -- by every measure: the numbers that were answered, are owed, or are those of standing tasks, are those of the puts that were STORED
    pub account_numbers : (s : Sizes) (es : List E)
        → let h = events b (watch_fresh b s) es in
        let w = watched b (watch_fresh b s) es in
        map (λ v. answers_to v.call) (answering h) ≡ map (λ v. expected b v.call.begun v.outcome) (answering h)
        → map (λ p. answers_to (w.calls p)) (parties s) ≡ map (b.owes w.machine) (parties s)
        → φ (numbers_answered_or_owed b s h w) + φ (map (λ t. t.number) w.queue.tasks) ≡ φ (map (λ t. t.number) (stored_in h))
    account_numbers s es answers held =
        let h = events b (watch_fresh b s) es in
        let w = watched b (watch_fresh b s) es in
        let m = w.machine in
        omega (
          arith,
          adds.append (concat_map (λ v. task_in v.outcome) h) (concat_map task_in (concat_map (b.owes m) (parties s))),
          measure_concat_map adds (λ v. task_in v.outcome) h,
          measure_concat_map adds_numbers_in (b.owes m) (parties s),
          sum_of_same (λ v. expected_number v.call.begun v.outcome) h,
          answering_sum (λ v. numbers_in (expected b v.call.begun v.outcome)) h,
          answering_sum (λ v. numbers_in (answers_to v.call)) h,
          sum_of_map_same numbers_in (λ v. answers_to v.call) (λ v. expected b v.call.begun v.outcome) (answering h) answers,
          sum_of_map_same numbers_in (λ p. answers_to (w.calls p)) (b.owes m) (parties s) held,
          fresh_balanced lawful (adds_map adds_numbers_in (λ r. r.answer)) _ _ numbers_balanced s es adds.none,
          stored_in_lem numbers h,
        )
