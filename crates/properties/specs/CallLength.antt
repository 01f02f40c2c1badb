-- How many steps a call has. Renders, of "The machine", the sentence on the moved step with which a put, a take and a steal end: of any list of entries and any margin.
use Rattle.std.specs.Prelude.{◌≡◌, Bool, true, false, cond, ◌&&◌, ◌||◌, List, [], ◌∷◌, ℕ, ◌+◌, eqb, ltb}
use Rattle.terms.specs.Outcome.{is_answer, is_refusal}
use Rattle.claim.specs.Calls.{Begun, nothing, a_put, a_take, a_steal, Party, begun_by, is_step, party_of, same_party}
use Rattle.machine.specs.Machine.{fresh}
use Rattle.machine.specs.Obey.{obey}
use Rattle.properties.specs.Types.{Entry, Machine, Outcome, Sizes}

pub data CallKind : Type 0 where
  none : CallKind
  put : CallKind
  take : CallKind
  steal : CallKind

-- A party's call, and how many of its steps were moved: those that were not refused.
pub record Progress : Type 0 where
  pub kind : CallKind
  pub steps : ℕ

abbrev pub no_call : Progress
no_call = record { kind = none; steps = 0 }

-- a beginning begins the count; any other entry that is no step leaves it
abbrev pub or_begun : Progress → Begun → Progress
or_begun c nothing = c
or_begun c (a_put x) = record { kind = put; steps = 0 }
or_begun c a_take = record { kind = take; steps = 0 }
or_begun c a_steal = record { kind = steal; steps = 0 }

-- a party's call with an entry of its own, which counts unless it is refused
abbrev pub counting : Progress → Entry → Outcome → Progress
counting c e o = cond (is_refusal o) c (cond (is_step e) (record { kind = c.kind; steps = c.steps + 1 }) (or_begun c (begun_by e)))

-- a call begins only where none runs, so that every call that has begun ends with an answer or runs
abbrev pub none_runs : CallKind → Bool
none_runs none = true
none_runs put = false
none_runs take = false
none_runs steal = false

abbrev pub begins_alone : Progress → Begun → Bool
begins_alone c nothing = true
begins_alone c (a_put x) = none_runs c.kind
begins_alone c a_take = none_runs c.kind
begins_alone c a_steal = none_runs c.kind

-- the moved step with which a call may end, and how many one that goes on may have made
abbrev pub ends_with : CallKind → ℕ → Bool
ends_with none n = false
ends_with put n = eqb n 1 || eqb n 3
ends_with take n = eqb n 3 || eqb n 6
ends_with steal n = eqb n 6

abbrev pub goes_on_after : CallKind → ℕ → Bool
goes_on_after none n = eqb n 0
goes_on_after put n = ltb n 3
goes_on_after take n = ltb n 6
goes_on_after steal n = ltb n 6

-- an answer ends the call
abbrev pub as_long_as_it_may : Progress → Outcome → Bool
as_long_as_it_may c o = cond (is_answer o) (ends_with c.kind c.steps) (goes_on_after c.kind c.steps)

abbrev pub unless_answered : Outcome → Progress → Progress
unless_answered o c = cond (is_answer o) no_call c

-- at every entry of a list, with the calls of the parties before it
abbrev pub calls_end_in_place : (Party → Progress) → Machine → List Entry → Bool
calls_end_in_place calls m [] = true
calls_end_in_place calls m (e ∷ es) =
    (is_refusal (obey m e).outcome || begins_alone (calls (party_of e)) (begun_by e))
    && as_long_as_it_may (counting (calls (party_of e)) e (obey m e).outcome) (obey m e).outcome
    && calls_end_in_place
    (λ p. cond (same_party p (party_of e)) (unless_answered (obey m e).outcome (counting (calls (party_of e)) e (obey m e).outcome)) (calls p))
    (obey m e).machine es

-- Proved in `proofs/CallLength.antt`.
abbrev pub CallsEndInPlace : Type 0
CallsEndInPlace = (s : Sizes) (es : List Entry) → calls_end_in_place (λ p. no_call) (fresh s) es ≡ true
