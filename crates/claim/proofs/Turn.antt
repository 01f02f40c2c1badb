-- What an entry has to show of the plain queue: a party's turn, and the ways to have one.
use mathlib.Core.Path.{◌≡◌, refl, ap, sym, ◌∙◌}
use mathlib.Core.Bool.{Bool, true, false, cond, false≢true}
use mathlib.Core.List.{List, [], ◌∷◌, ◌++◌, append-nil, map}
use Rattle.terms.specs.Lists.{all}
use Rattle.terms.specs.Outcome.{is_answer, is_refusal}
use Rattle.claim.specs.Types.{Outcome, Moved}
use Rattle.claim.specs.PlainQueue.{Limits, Told, PlainQueue, Reply, respond, within_limits}
use Rattle.claim.specs.Calls.{Begun, nothing, a_put, a_take, a_steal, Effect, none, told_of}
use Rattle.claim.specs.Watch.{queue_after}

-- what the plain queue is told, by the call that was begun and the step's effect, which a refused step has not
abbrev pub told_in : Begun → Outcome → Effect → List Told
told_in b o effect = told_of b (cond (is_refusal o) none effect)

abbrev pub or_else : Begun → Begun → Begun
or_else b nothing = b
or_else b (a_put x) = a_put x
or_else b a_take = a_take
or_else b a_steal = a_steal

-- what is begun, and what is owed, after an entry with this outcome that begins `next`
abbrev pub begun_after : Begun → Outcome → Begun → Begun
begun_after b o next = cond (is_answer o) nothing (cond (is_refusal o) b (or_else b next))

abbrev pub owed_after : List Outcome → List Reply → Outcome → List Outcome
owed_after owed replies o = cond (is_answer o) [] (owed ++ map (λ r. r.answer) replies)

-- The plain queue's replies to what it is told at an entry, where the party's call has been begun as b and owes what it owes: what is told
-- keeps the limits l, an answer that the plain queue is told of is its own, and what is owed afterwards is what it has answered. A holds
-- of the queue afterwards.
pub record Turn (is_told : Begun → Outcome → Bool) (l : Limits) (b : Begun) (owed : List Outcome) (q : PlainQueue) (told : List Told) (o : Outcome)
    (next b' : Begun) (owed' : List Outcome) (A : PlainQueue → Type 0) : Type 0 where
  pub replies : List Reply
  pub are : replies ≡ map (respond q) told
  pub limits : all (within_limits l q) told ≡ true
  pub answers : is_answer o ≡ true → owed ++ map (λ r. r.answer) replies ≡ cond (is_told b o) (o ∷ []) []
  pub begun : b' ≡ begun_after b o next
  pub owes : owed' ≡ owed_after owed replies o
  pub agrees : A (queue_after q replies)

-- ── Turns of which the plain queue hears nothing ────────────────────────────────────────────────────────────────────────────

module _ {is_told : Begun → Outcome → Bool} {l : Limits} {b b' next : Begun} {owed owed' : List Outcome} {q : PlainQueue} {A : PlainQueue → Type 0} where
  -- the call begins, or goes on
  pub moves : b' ≡ begun_after b Moved next → owed' ≡ owed → A q → Turn is_told l b owed q [] Moved next b' owed' A
  moves begun owes agrees =
      record {
        replies = [];
        are = refl;
        limits = refl;
        answers = λ e. absurd (false≢true e);
        begun = begun;
        owes = owes ∙ sym (append-nil owed);
        agrees = agrees;
      }

  -- the entry is refused
  pub refuses : {o : Outcome} → is_refusal o ≡ true → is_answer o ≡ false → b' ≡ b → owed' ≡ owed → A q → Turn is_told l b owed q [] o next b' owed' A
  refuses refusal no_answer begun owes agrees =
      record {
        replies = [];
        are = refl;
        limits = refl;
        answers = λ e. absurd (false≢true (sym no_answer ∙ e));
        begun = rw (no_answer, refusal) begun;
        owes = rw no_answer (owes ∙ sym (append-nil owed));
        agrees = agrees;
      }

-- the call ends with the answer that it owes, or with one that the plain queue is not told of and owes nothing
pub ends :
    {is_told : Begun → Outcome → Bool} {l : Limits} {b next : Begun} {owed : List Outcome} {q : PlainQueue} {o : Outcome} {A : PlainQueue → Type 0}
    → is_answer o ≡ true → owed ≡ cond (is_told b o) (o ∷ []) [] → A q → Turn is_told l b owed q [] o next nothing [] A
ends {owed = owed} answer owes agrees =
    record {
      replies = [];
      are = refl;
      limits = refl;
      answers = λ e. append-nil owed ∙ owes;
      begun = rw answer;
      owes = rw answer;
      agrees = agrees;
    }

-- ── Turns of which the plain queue hears: a call that owes nothing takes effect, and the reply is known ─────────────────────

module _ {is_told : Begun → Outcome → Bool} {l : Limits} {b next : Begun} {q : PlainQueue} {t : Told} {r : Reply} {A : PlainQueue → Type 0} (is : r ≡ respond q t) (within : within_limits l q t ≡ true) where
  -- the call ends with it
  pub answers_at_once : {o : Outcome} → is_answer o ≡ true → r.answer ∷ [] ≡ cond (is_told b o) (o ∷ []) [] → A r.queue → Turn is_told l b [] q (t ∷ []) o next nothing [] A
  answers_at_once answer same agrees =
      record {
        replies = r ∷ [];
        are = ap (λ r. r ∷ []) is;
        limits = rw within;
        answers = λ e. same;
        begun = rw answer;
        owes = rw answer;
        agrees = agrees;
      }

  -- the call goes on, and owes it
  pub takes_effect : {b' : Begun} {owed : List Outcome} → b' ≡ begun_after b Moved next → owed ≡ r.answer ∷ [] → A r.queue → Turn is_told l b [] q (t ∷ []) Moved next b' owed A
  takes_effect begun owes agrees =
      record {
        replies = r ∷ [];
        are = ap (λ r. r ∷ []) is;
        limits = rw within;
        answers = λ e. absurd (false≢true e);
        begun = begun;
        owes = owes;
        agrees = agrees;
      }
