-- The numbers of the puts that were STORED, read off the machine's outcomes alone: at each entry the plain queue answers STORED exactly where the machine does.
use mathlib.Core.Path.{◌≡◌, refl, ap, sym, ◌∙◌}
use mathlib.Core.Bool.{Bool, true, false, cond, ◌||◌}
use mathlib.Core.List.{List, [], ◌∷◌, ◌++◌, map, map-append}
use Prim.Native.Nat.{ℕ, ◌+◌, ◌≤◌, ◌<◌}
use native.Mathlib.Omega.{arith}
use lib.Dec.{eqb}
use lib.ListN.{length, take}
use borrow.Author.Tests.{eq-eqb}
use Rattle.terms.specs.Lists.{concat_map, occurrences}
use Rattle.terms.specs.Outcome.{is_answer, is_stored, number_of}
use Rattle.terms.proofs.Laws.Sums.{Adds, adds_map, adds_occurrences}
use Rattle.terms.proofs.Laws.Tests.{either}
use Rattle.claim.specs.Types.{Outcome, Moved, Place, Early, Wait, Stored, Task, Empty, Abort, Full, End, Sizes}
use Rattle.claim.specs.PlainQueue.{PlainQueue, StoredTask, joined, leaves, newest, respond, stored_by, unchanged}
use Rattle.claim.specs.Calls.{Begun, nothing, a_put, a_take, a_steal, Effect, none, decided, Party, worker, thief, PartyCall, answers_to, call_after, same_party, told_of}
use Rattle.claim.specs.Implementation.{Implementation}
use Rattle.claim.specs.Watch.{Watch, call_at, effect_at, events, replies_at, told_at, watch_after}
use Rattle.claim.specs.Account.{stored_in}
use Rattle.claim.specs.Linearizable.{expected}
use Rattle.claim.proofs.Account.{call_after_replies}
use Rattle.claim.proofs.Theorem.{Shows}

-- how often STORED stands among outcomes
abbrev pub stored_times : List Outcome → ℕ
stored_times l = occurrences (number_of Stored) (map number_of l)

adds_stored_times : Adds stored_times
adds_stored_times = adds_map (adds_occurrences (number_of Stored)) number_of

-- the number of a put, in a list of at most one
abbrev pub put_number : Begun → List ℕ
put_number nothing = []
put_number (a_put x) = x ∷ []
put_number a_take = []
put_number a_steal = []

-- ── One entry ───────────────────────────────────────────────────────────────────────────────────────────────────────────────

-- a list that is there where the test passes, by how often it is
never : (n : ℕ) (t : Bool) (l : List ℕ) → n ≡ cond t 1 0 → n ≡ 0 → [] ≡ cond t l []
never n true l e is = absurd (omega arith)
never n false l e is = refl

once : (n : ℕ) (t : Bool) (l : List ℕ) → n ≡ cond t 1 0 → n ≡ 1 → l ≡ cond t l []
once n true l e is = refl
once n false l e is = absurd (omega arith)

-- where the plain queue answers STORED exactly when the machine does, it stores the put that was begun
module _ (q : PlainQueue) (t : Bool) where
  put_stores : (x : ℕ) (end full : Bool)
      → stored_times ((cond end (unchanged q End) (cond full (unchanged q Full) (joined x q))).answer ∷ []) ≡ cond t 1 0
      → map (λ (a : StoredTask). a.number) (cond (end || full) [] (record { put = q.stored; number = x } ∷ []) ++ []) ≡ cond t (x ∷ []) []
  put_stores x true full e = never _ t (x ∷ []) e refl
  put_stores x false true e = never _ t (x ∷ []) e refl
  put_stores x false false e = once _ t (x ∷ []) e refl

  -- a take or a steal stores nothing
  leaves_silent : (l : List StoredTask) (after : PlainQueue) (o : Outcome) → stored_times (o ∷ []) ≡ 0 → stored_times ((leaves l after q o).answer ∷ []) ≡ 0
  leaves_silent [] after o e = e
  leaves_silent (a ∷ l) after o e = refl

  told_stores : (b : Begun) (f : Effect) → stored_times (map (λ r. r.answer) (map (respond q) (told_of b f))) ≡ cond t 1 0
      → map (λ a. a.number) (concat_map (stored_by q) (told_of b f)) ≡ cond t (put_number b) []
  told_stores b none e = never _ t (put_number b) e refl
  told_stores nothing (decided d) e = never _ t [] e refl
  told_stores (a_put x) (decided d) e = put_stores x (eqb q.sum 2147483647) d e
  told_stores a_take (decided d) e =
      never _ t [] e (leaves_silent (newest q.tasks) _ Empty refl)
  told_stores a_steal (decided true) e = never _ t [] e refl
  told_stores a_steal (decided false) e =
      never _ t [] e (leaves_silent (take 1 q.tasks) _ Abort refl)

own_party : (p : Party) → same_party p p ≡ true
own_party worker = refl
own_party (thief i) = eq-eqb i i refl

-- STORED is an answer
pub stored_answers : (o : Outcome) → is_answer o ≡ false → is_stored o ≡ false
stored_answers Moved e = refl
stored_answers Place e = refl
stored_answers Early e = refl
stored_answers Wait e = refl
stored_answers Stored e = e
stored_answers (Task x) e = refl
stored_answers Empty e = refl
stored_answers Abort e = refl
stored_answers Full e = refl
stored_answers End e = refl

-- ── A run ───────────────────────────────────────────────────────────────────────────────────────────────────────────────────

-- A queue whose puts answer STORED at their effect, and of which the plain queue is told.
pub record StoresAtOnce {M E : Type 0} (b : Implementation M E) : Type 0 where
  pub owes_none : (m : M) (p : Party) → stored_times (b.owes m p) ≡ 0
  pub told : (c : Begun) → b.is_told c Stored ≡ true

-- the numbers of the puts that are answered STORED, as they were begun
abbrev pub stored_from : {M E : Type 0} → Implementation M E → Watch M → List E → List ℕ
stored_from b w [] = []
stored_from b w (e ∷ es) = cond (is_stored (b.outcome w.machine e)) (put_number (w.calls (b.party e)).begun) [] ++ stored_from b (watch_after b w e) es

module _ {M E : Type 0} {b : Implementation M E} (at_once : StoresAtOnce b) where
  -- an answer is expected of the plain queue, or it is not STORED
  expected_times : (c : Begun) (o : Outcome) → stored_times (expected b c o) ≡ cond (is_stored o) 1 0
  expected_times c Moved = either (λ (l : List Outcome). stored_times l ≡ 0) (b.is_told c Moved) refl refl
  expected_times c Place = either (λ (l : List Outcome). stored_times l ≡ 0) (b.is_told c Place) refl refl
  expected_times c Early = either (λ (l : List Outcome). stored_times l ≡ 0) (b.is_told c Early) refl refl
  expected_times c Wait = either (λ (l : List Outcome). stored_times l ≡ 0) (b.is_told c Wait) refl refl
  expected_times c Stored = rw (at_once.told c)
  expected_times c (Task x) = either (λ (l : List Outcome). stored_times l ≡ 0) (b.is_told c (Task x)) refl refl
  expected_times c Empty = either (λ (l : List Outcome). stored_times l ≡ 0) (b.is_told c Empty) refl refl
  expected_times c Abort = either (λ (l : List Outcome). stored_times l ≡ 0) (b.is_told c Abort) refl refl
  expected_times c Full = either (λ (l : List Outcome). stored_times l ≡ 0) (b.is_told c Full) refl refl
  expected_times c End = either (λ (l : List Outcome). stored_times l ≡ 0) (b.is_told c End) refl refl

  module _ {s : Sizes} {most : ℕ} {Inv : ℕ → Watch M → Type 0} (shows : Shows b s most Inv) where
    -- the plain queue's answers to the party's call, with those at the entry
    answers_times : (n : ℕ) (w : Watch M) → n < most → Inv n w → (e : E)
        → stored_times (answers_to (call_at b w e)) ≡ cond (is_stored (b.outcome w.machine e)) 1 0
    answers_times n w short v e = go (is_answer (b.outcome w.machine e)) refl
      where
        o : Outcome
        o = b.outcome w.machine e

        w' : Watch M
        w' = watch_after b w e

        go : (answer : Bool) → is_answer o ≡ answer → stored_times (answers_to (call_at b w e)) ≡ cond (is_stored o) 1 0
        go true e₁ = ap stored_times (shows.answers n w v e e₁) ∙ expected_times (call_at b w e).begun o
        go false e₁ =
            let replies : (call_at b w e).replies ≡ (w'.calls (b.party e)).replies =
            ap (λ t. cond t [] (call_at b w e).replies) (sym e₁) ∙ call_after_replies (call_at b w e) o (b.begins e)
            ∙ ap (λ t. (cond t (call_after (call_at b w e) o (b.begins e)) (w.calls (b.party e))).replies) (sym (own_party (b.party e))) in
            ap (λ l. stored_times (map (λ r. r.answer) l)) replies
            ∙ ap stored_times (shows.owed (n + 1) w' (shows.keeps n w short v e) (b.party e))
            ∙ at_once.owes_none w'.machine (b.party e)
            ∙ ap (λ t. cond t 1 0) (sym (stored_answers o e₁))

    stored_at : (n : ℕ) (w : Watch M) → n < most → Inv n w → (e : E)
        → map (λ a. a.number) (concat_map (stored_by w.queue) (told_at b w e)) ≡ cond (is_stored (b.outcome w.machine e)) (put_number (w.calls (b.party e)).begun) []
    stored_at n w short v e =
        let call : PartyCall = w.calls (b.party e) in
        told_stores w.queue (is_stored (b.outcome w.machine e)) call.begun (effect_at b w.machine e)
        (omega (
          arith,
          answers_times n w short v e,
          ap stored_times (map-append (λ r. r.answer) call.replies (replies_at b w e)),
          adds_stored_times.append (answers_to call) (map (λ r. r.answer) (replies_at b w e)),
          ap stored_times (shows.owed n w v (b.party e)),
          at_once.owes_none w.machine (b.party e),
        ))

    pub run_stored : (n : ℕ) (w : Watch M) (es : List E) → n + length es ≤ most → Inv n w → map (λ a. a.number) (stored_in (events b w es)) ≡ stored_from b w es
    run_stored n w [] short v = refl
    run_stored n w (e ∷ es) short v =
        map-append (λ a. a.number) (concat_map (stored_by w.queue) (told_at b w e)) (stored_in (events b (watch_after b w e) es))
        ∙ (λ i. stored_at n w (omega arith) v e i ++ run_stored (n + 1) (watch_after b w e) es (omega arith) (shows.keeps n w (omega arith) v e) i)
