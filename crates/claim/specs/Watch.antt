-- A run watched beside the plain queue. Renders, of "Demand 3's plain queue", when that queue is told what.
use Rattle.std.specs.Prelude.{cond, List, [], ◌∷◌, ◌++◌, map}
use Rattle.terms.specs.Outcome.{is_refusal}
use Rattle.claim.specs.Types.{Outcome, Sizes}
use Rattle.claim.specs.PlainQueue.{Told, PlainQueue, Reply, empty_queue, respond}
use Rattle.claim.specs.Calls.{Effect, none, Party, PartyCall, call_after, no_call, same_party, told_of}
use Rattle.claim.specs.Implementation.{Implementation}

-- The machine, the plain queue beside it, and each party's call.
pub record Watch (M : Type 0) : Type 0 where
  pub machine : M
  pub queue : PlainQueue
  pub calls : Party → PartyCall

-- What there is to see of an entry: its outcome, the call that it is a step of, and what the plain queue was told, with the queue just
-- before.
pub record Event : Type 0 where
  pub outcome : Outcome
  pub call : PartyCall
  pub told : List Told
  pub queue : PlainQueue

-- the queue after its replies
abbrev pub queue_after : PlainQueue → List Reply → PlainQueue
queue_after q [] = q
queue_after q (r ∷ rs) = queue_after r.queue rs

module _ {M E : Type 0} (b : Implementation M E) where
  abbrev pub watch_fresh : Sizes → Watch M
  watch_fresh s = record { machine = b.fresh s; queue = empty_queue s.start; calls = λ p. no_call }

  -- an entry that is refused has no effect, so that the plain queue hears nothing of it
  abbrev pub effect_at : M → E → Effect
  effect_at m e = cond (is_refusal (b.outcome m e)) none (b.effect m e)

  -- what the plain queue is told at an entry: at most one call
  abbrev pub told_at : Watch M → E → List Told
  told_at w e = told_of (w.calls (b.party e)).begun (effect_at w.machine e)

  abbrev pub replies_at : Watch M → E → List Reply
  replies_at w e = map (respond w.queue) (told_at w e)

  -- the call of the entry's party, with the reply at the entry
  abbrev pub call_at : Watch M → E → PartyCall
  call_at w e = record { begun = (w.calls (b.party e)).begun; replies = (w.calls (b.party e)).replies ++ replies_at w e }

  abbrev pub watch_after : Watch M → E → Watch M
  watch_after w e =
      record {
        machine = b.next w.machine e;
        queue = queue_after w.queue (replies_at w e);
        calls = λ p. cond (same_party p (b.party e)) (call_after (call_at w e) (b.outcome w.machine e) (b.begins e)) (w.calls p);
      }

  -- only steps belong to a call
  abbrev pub event_at : Watch M → E → Event
  event_at w e =
      record { outcome = b.outcome w.machine e; call = cond (b.is_step e) (call_at w e) no_call; told = told_at w e; queue = w.queue }

  abbrev pub watched : Watch M → List E → Watch M
  watched w [] = w
  watched w (e ∷ es) = watched (watch_after w e) es

  abbrev pub events : Watch M → List E → List Event
  events w [] = []
  events w (e ∷ es) = event_at w e ∷ events (watch_after w e) es
