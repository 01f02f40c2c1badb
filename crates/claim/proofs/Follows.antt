-- What a turn makes of the calls of all parties.
use mathlib.Core.Path.{◌≡◌, refl, ap, sym, ◌∙◌, subst}
use mathlib.Core.Bool.{Bool, true, false, cond}
use mathlib.Core.List.{List, [], ◌∷◌, ◌++◌, append-nil, map, map-append}
use borrow.Author.Tests.{eqb-true}
use Rattle.terms.specs.Lists.{all}
use Rattle.terms.specs.Outcome.{is_answer, is_refusal}
use Rattle.claim.specs.Types.{Outcome}
use Rattle.claim.specs.PlainQueue.{Limits, Told, PlainQueue, Reply, respond, within_limits}
use Rattle.claim.specs.Calls.{Begun, nothing, a_put, a_take, a_steal, Effect, Party, worker, thief, PartyCall, answers_to, call_after, no_call, or_begun, same_party}
use Rattle.claim.specs.Watch.{Watch, queue_after}
use Rattle.claim.proofs.Turn.{Turn, begun_after, or_else, owed_after, told_in}

-- a party's call, as it was begun, and with the plain queue's answers to it
pub record Follows (call : PartyCall) (b : Begun) (owed : List Outcome) : Type 0 where
  pub begun : call.begun ≡ b
  pub answers : answers_to call ≡ owed

-- a call with the replies at an entry
abbrev pub with_replies : PartyCall → List Reply → PartyCall
with_replies call replies = record { begun = call.begun; replies = call.replies ++ replies }

-- What a turn makes of the party's call, where the call itself says what was told.
pub record Turned (is_told : Begun → Outcome → Bool) (l : Limits) (call : PartyCall) (q : PlainQueue) (told : List Told) (o : Outcome) (next b : Begun)
    (owed : List Outcome) (A : PlainQueue → Type 0) : Type 0 where
  pub follows : Follows (call_after (with_replies call (map (respond q) told)) o next) b owed
  pub limits : all (within_limits l q) told ≡ true
  pub answers : is_answer o ≡ true → answers_to (with_replies call (map (respond q) told)) ≡ cond (is_told call.begun o) (o ∷ []) []
  pub agrees : A (queue_after q (map (respond q) told))

follows_begun : (call : PartyCall) (b : Begun) (owed : List Outcome) (next : Begun) → Follows call b owed → Follows (or_begun call next) (or_else b next) owed
follows_begun call b owed nothing f = f
follows_begun call b owed (a_put x) f = record { begun = refl; answers = f.answers }
follows_begun call b owed a_take f = record { begun = refl; answers = f.answers }
follows_begun call b owed a_steal f = record { begun = refl; answers = f.answers }

follows_after :
    (call : PartyCall) (b : Begun) (owed : List Outcome) (replies : List Reply) (o : Outcome) (next : Begun) → Follows call b owed
    → Follows (call_after (with_replies call replies) o next) (begun_after b o next) (owed_after owed replies o)
follows_after call b owed replies o next f = go (is_answer o) (is_refusal o)
  where
    more : Follows (with_replies call replies) b (owed ++ map (λ r. r.answer) replies)
    more = record { begun = f.begun; answers = map-append (λ r. r.answer) call.replies replies ∙ ap (λ l. l ++ map (λ r. r.answer) replies) f.answers }

    go : (answer refusal : Bool)
        → Follows (cond answer no_call (cond refusal (with_replies call replies) (or_begun (with_replies call replies) next)))
        (cond answer nothing (cond refusal b (or_else b next))) (cond answer [] (owed ++ map (λ r. r.answer) replies))
    go true refusal = record { begun = refl; answers = refl }
    go false true = more
    go false false = follows_begun (with_replies call replies) b (owed ++ map (λ r. r.answer) replies) next more

pub turned :
    {is_told : Begun → Outcome → Bool} {l : Limits} {b b' next : Begun} {owed owed' : List Outcome} {q : PlainQueue} {told : List Told} {o : Outcome} {A : PlainQueue → Type 0} (call : PartyCall) (effect : Effect)
    → Follows call b owed
    → told ≡ told_in b o effect
    → Turn is_told l b owed q told o next b' owed' A
    → Turned is_told l call q (told_in call.begun o effect) o next b' owed' A
turned {is_told = is_told} {l = l} {b = b} {next = next} {owed = owed} {q = q} {told = told} {o = o} {A = A} call effect f told_is t =
    let same : told ≡ told_in call.begun o effect = told_is ∙ ap (λ b. told_in b o effect) (sym f.begun) in
    let heard_of : t.replies ≡ map (respond q) (told_in call.begun o effect) = t.are ∙ ap (map (respond q)) same in
    record {
      follows =
          subst (λ rs. Follows (call_after (with_replies call rs) o next) _ _) heard_of
          (record {
            begun = (follows_after call b owed t.replies o next f).begun ∙ sym t.begun;
            answers = (follows_after call b owed t.replies o next f).answers ∙ sym t.owes;
          });
      limits = ap (all (within_limits l q)) (sym same) ∙ t.limits;
      answers = λ answer.
          map-append (λ r. r.answer) call.replies (map (respond q) (told_in call.begun o effect))
          ∙ ap (λ l. l ++ map (λ r. r.answer) (map (respond q) (told_in call.begun o effect))) f.answers
          ∙ ap (λ rs. owed ++ map (λ r. r.answer) rs) (sym heard_of)
          ∙ t.answers answer
          ∙ ap (λ b. cond (is_told b o) (o ∷ []) []) (sym f.begun);
      agrees = subst (λ rs. A (queue_after q rs)) heard_of t.agrees;
    }

-- ── An entry of party p that begins `next`, with the outcome o and the machine m after it ─────────────────────────────────────

module _ {M : Type 0} (w : Watch M) (p : Party) (next : Begun) (o : Outcome) (f : Effect) where
  abbrev pub told_by : List Told
  told_by = told_in (w.calls p).begun o f

  abbrev pub call_by : PartyCall
  call_by = with_replies (w.calls p) (map (respond w.queue) told_by)

  -- the watch afterwards
  abbrev pub watch_by : M → Watch M
  watch_by m =
      record {
        machine = m;
        queue = queue_after w.queue (map (respond w.queue) told_by);
        calls = λ r. cond (same_party r p) (call_after call_by o next) (w.calls r);
      }

pub same_party_lem : (r p : Party) → same_party r p ≡ true → r ≡ p
same_party_lem worker worker e = refl
same_party_lem worker (thief j) e = absurd (mathlib.Core.Bool.false≢true e)
same_party_lem (thief i) worker e = absurd (mathlib.Core.Bool.false≢true e)
same_party_lem (thief i) (thief j) e = ap thief (eqb-true i j e)

module _ (calls : Party → PartyCall) (p : Party) (call : PartyCall) (b : Party → Begun) (owed : Party → List Outcome) where
  -- the party's own call follows, and every other as it did
  pub all_follow : Follows call (b p) (owed p) → ((r : Party) → same_party r p ≡ false → Follows (calls r) (b r) (owed r))
      → (r : Party) → Follows (cond (same_party r p) call (calls r)) (b r) (owed r)
  all_follow own others r = go (same_party r p) refl
    where
      go : (same : Bool) → same_party r p ≡ same → Follows (cond same call (calls r)) (b r) (owed r)
      go true e = subst (λ r. Follows call (b r) (owed r)) (sym (same_party_lem r p e)) own
      go false e = others r e

-- a call that gets no reply
pub unanswered : (call : PartyCall) (b : Begun) (owed : List Outcome) → Follows call b owed → Follows (with_replies call []) b owed
unanswered call b owed f = record { begun = f.begun; answers = ap (map (λ r. r.answer)) (append-nil call.replies) ∙ f.answers }
