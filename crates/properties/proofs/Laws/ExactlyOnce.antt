-- No task is lost or given twice by any queue whose entries are the seven kinds, from what an invariant shows of it, with the puts numbered apart.
use mathlib.Core.Path.{◌≡◌, refl, ap, sym, ◌∙◌, subst}
use mathlib.Core.Bool.{Bool, true, false, cond, false≢true}
use mathlib.Core.List.{List, [], ◌∷◌, ◌++◌, map}
use Prim.Native.Nat.{ℕ, suc, ◌+◌, ◌≤◌}
use native.Mathlib.Omega.{arith}
use lib.Dec.{eqb, leb}
use lib.ListN.{get_or, length}
use borrow.Author.Tests.{eqb-true, leb-false, leb-true}
use Rattle.terms.specs.Lists.{Permutation, concat_map, occurrences}
use Rattle.terms.specs.Outcome.{is_answer, is_moved, is_stored}
use Rattle.terms.proofs.Laws.Sums.{adds_occurrences}
use Rattle.claim.specs.Calls.{Begun, nothing, a_put, a_take, a_steal, worker, thief, PartyCall, begun_by, call_after, is_step, or_begun, parties, party_of, same_party, task_in}
use Rattle.claim.specs.Implementation.{Implementation}
use Rattle.claim.specs.Run.{outcomes_of}
use Rattle.claim.specs.Watch.{Event, Watch, call_at, events, watch_after, watch_fresh, watched}
use Rattle.claim.proofs.Account.{account_numbers}
use Rattle.claim.proofs.Lawful.{Lawful}
use Rattle.claim.proofs.Stored.{StoresAtOnce, put_number, run_stored, stored_answers, stored_from}
use Rattle.claim.proofs.Theorem.{Shows, linearizes}
use Rattle.claim.proofs.Watched.{events_outcomes, watched_machine}
use Rattle.properties.specs.Types.{Entry, Drain, ClientStore, BeginPut, BeginTake, WorkerStep, BeginSteal, ThiefStep, Outcome, Moved, Place, Early, Wait, Stored, Task, Empty, Abort, Full, End, Sizes}
use Rattle.properties.specs.Renumbering.{BlindToNumbers, renumber_entry}
use Rattle.properties.specs.ExactlyOnce.{AccountedByNumber, NoneLostOrGivenTwice, given, held, number_in, number_put, numbered_apart, numbered_from, standing, stored, stored_puts}

-- ── Puts numbered apart ─────────────────────────────────────────────────────────────────────────────────────────────────────

-- numbered back, they are the list
numbered_back : (f : ℕ → ℕ) (k : ℕ) (es : List Entry) → ((j : ℕ) → f (k + j) ≡ get_or (concat_map number_put es) j 0) → map (renumber_entry f) (numbered_from k es) ≡ es
numbered_back f k [] same = refl
numbered_back f k (Drain ∷ es) same = ap (λ l. Drain ∷ l) (numbered_back f k es same)
numbered_back f k (ClientStore ∷ es) same = ap (λ l. ClientStore ∷ l) (numbered_back f k es same)
numbered_back f k (BeginPut x ∷ es) same =
    let here : k ≡ k + 0 = omega arith in
    λ i. BeginPut ((ap f here ∙ same 0) i) ∷ numbered_back f (k + 1) es (λ j. ap f (further j) ∙ same (suc j)) i
  where
    further : (j : ℕ) → k + 1 + j ≡ k + suc j
    further j = omega arith
numbered_back f k (BeginTake ∷ es) same = ap (λ l. BeginTake ∷ l) (numbered_back f k es same)
numbered_back f k (WorkerStep ∷ es) same = ap (λ l. WorkerStep ∷ l) (numbered_back f k es same)
numbered_back f k (BeginSteal i ∷ es) same = ap (λ l. BeginSteal i ∷ l) (numbered_back f k es same)
numbered_back f k (ThiefStep i ∷ es) same = ap (λ l. ThiefStep i ∷ l) (numbered_back f k es same)

apart_back : (es : List Entry) → map (renumber_entry (number_in es)) (numbered_apart es) ≡ es
apart_back es = numbered_back (number_in es) 1 es (λ j. ap (number_in es) (one j))
  where
    one : (j : ℕ) → 1 + j ≡ suc j
    one j = omega arith

length_numbered : (k : ℕ) (es : List Entry) → length (numbered_from k es) ≡ length es
length_numbered k [] = refl
length_numbered k (Drain ∷ es) = ap suc (length_numbered k es)
length_numbered k (ClientStore ∷ es) = ap suc (length_numbered k es)
length_numbered k (BeginPut x ∷ es) = ap suc (length_numbered (k + 1) es)
length_numbered k (BeginTake ∷ es) = ap suc (length_numbered k es)
length_numbered k (WorkerStep ∷ es) = ap suc (length_numbered k es)
length_numbered k (BeginSteal i ∷ es) = ap suc (length_numbered k es)
length_numbered k (ThiefStep i ∷ es) = ap suc (length_numbered k es)

-- ── Each STORED put once ────────────────────────────────────────────────────────────────────────────────────────────────────

-- a number that is k, or from k up
abbrev from : ℕ → ℕ → ℕ
from k j = cond (leb k j) 1 0

from_next : (k j : ℕ) → occurrences j (k ∷ []) + from (k + 1) j ≤ from k j
from_next k j = go (eqb j k) (leb (k + 1) j) (leb k j) refl refl refl
  where
    go : (same above at : Bool) → eqb j k ≡ same → leb (k + 1) j ≡ above → leb k j ≡ at → cond same 1 0 + 0 + cond above 1 0 ≤ cond at 1 0
    go true true at s a e = absurd (omega (arith, eqb-true j k s, leb-true (k + 1) j a))
    go true false true s a e = omega arith
    go true false false s a e = absurd (omega (arith, eqb-true j k s, leb-false k j e))
    go false true true s a e = omega arith
    go false true false s a e = absurd (omega (arith, leb-true (k + 1) j a, leb-false k j e))
    go false false at s a e = omega arith

-- a number is put once at most, of those from k up, and no lower one
numbered_few : (j k : ℕ) (es : List Entry) → occurrences j (concat_map number_put (numbered_from k es)) ≤ from k j
numbered_few j k [] = omega arith
numbered_few j k (Drain ∷ es) = numbered_few j k es
numbered_few j k (ClientStore ∷ es) = numbered_few j k es
numbered_few j k (BeginPut x ∷ es) = omega (arith, numbered_few j (k + 1) es, from_next k j)
numbered_few j k (BeginTake ∷ es) = numbered_few j k es
numbered_few j k (WorkerStep ∷ es) = numbered_few j k es
numbered_few j k (BeginSteal i ∷ es) = numbered_few j k es
numbered_few j k (ThiefStep i ∷ es) = numbered_few j k es

-- of a number no more puts are STORED than are begun, the one that runs among them
pub stored_put : (j : ℕ) (running : List ℕ) (es : List Entry) (os : List Outcome)
    → occurrences j (stored_puts running es os) ≤ occurrences j running + occurrences j (concat_map number_put es)
stored_put j running [] os = omega arith
stored_put j running (e ∷ es) [] = omega arith
stored_put j running (Drain ∷ es) (o ∷ os) = stored_put j running es os
stored_put j running (ClientStore ∷ es) (o ∷ os) = stored_put j running es os
stored_put j running (BeginPut x ∷ es) (o ∷ os) = go (is_moved o) (λ r. stored_put j r es os)
  where
    go : (moved : Bool) → ((r : List ℕ) → occurrences j (stored_puts r es os) ≤ occurrences j r + occurrences j (concat_map number_put es))
        → occurrences j (stored_puts (cond moved (x ∷ []) running) es os) ≤ occurrences j running + occurrences j (x ∷ concat_map number_put es)
    go true few = omega (arith, few (x ∷ []))
    go false few = omega (arith, few running)
stored_put j running (BeginTake ∷ es) (o ∷ os) = go (is_moved o) (λ r. stored_put j r es os)
  where
    go : (moved : Bool) → ((r : List ℕ) → occurrences j (stored_puts r es os) ≤ occurrences j r + occurrences j (concat_map number_put es))
        → occurrences j (stored_puts (cond moved [] running) es os) ≤ occurrences j running + occurrences j (concat_map number_put es)
    go true few = omega (arith, few [])
    go false few = few running
stored_put j running (WorkerStep ∷ es) (o ∷ os) = go (is_answer o) (is_stored o) refl refl (λ r. stored_put j r es os)
  where
    go : (answer done : Bool) → is_answer o ≡ answer → is_stored o ≡ done
        → ((r : List ℕ) → occurrences j (stored_puts r es os) ≤ occurrences j r + occurrences j (concat_map number_put es))
        → occurrences j (cond done running [] ++ stored_puts (cond answer [] running) es os) ≤ occurrences j running + occurrences j (concat_map number_put es)
    go true true a s few = omega (arith, (adds_occurrences j).append running (stored_puts [] es os), few [])
    go true false a s few = omega (arith, few [])
    go false true a s few = absurd (false≢true (sym (stored_answers o a) ∙ s))
    go false false a s few = few running
stored_put j running (BeginSteal i ∷ es) (o ∷ os) = stored_put j running es os
stored_put j running (ThiefStep i ∷ es) (o ∷ os) = stored_put j running es os

stored_once : (j : ℕ) (es : List Entry) (os : List Outcome) → occurrences j (stored_puts [] (numbered_apart es) os) ≤ 1
stored_once j es os = go (leb 1 j) (numbered_few j 1 es)
  where
    go : (t : Bool) → occurrences j (concat_map number_put (numbered_apart es)) ≤ cond t 1 0 → occurrences j (stored_puts [] (numbered_apart es) os) ≤ 1
    go true few = omega (arith, stored_put j [] (numbered_apart es) os)
    go false few = omega (arith, stored_put j [] (numbered_apart es) os)

-- ── STORED puts, by the watch ───────────────────────────────────────────────────────────────────────────────────────────────

-- The put that runs, by entries and outcomes, is the worker's call; thieves put nothing.
record Tracks {M : Type 0} (w : Watch M) (running : List ℕ) : Type 0 where
  of_worker : put_number (w.calls worker).begun ≡ running
  of_thief : (i : ℕ) → put_number (w.calls (thief i)).begun ≡ []

-- a party's call after an entry of its own
begun_after : (c : PartyCall) (o : Outcome) (b : Begun)
    → put_number (call_after c o b).begun ≡ cond (is_answer o) [] (cond (is_moved o) (put_number (or_begun c b).begun) (put_number c.begun))
begun_after c Moved b = refl
begun_after c Place b = refl
begun_after c Early b = refl
begun_after c Wait b = refl
begun_after c Stored b = refl
begun_after c (Task x) b = refl
begun_after c Empty b = refl
begun_after c Abort b = refl
begun_after c Full b = refl
begun_after c End b = refl

alike : {A : Type 0} (t : Bool) {x : A} → cond t x x ≡ x
alike true = refl
alike false = refl

-- no put runs in a thief's call, whatever its entry
none_after : (c : PartyCall) (o : Outcome) (b : Begun) → put_number c.begun ≡ [] → put_number (or_begun c b).begun ≡ [] → put_number (call_after c o b).begun ≡ []
none_after c o b is begun = begun_after c o b ∙ (λ i. cond (is_answer o) [] (cond (is_moved o) (begun i) (is i))) ∙ ap (cond (is_answer o) []) (alike (is_moved o)) ∙ alike (is_answer o)

module _ (c : PartyCall) (o : Outcome) (running : List ℕ) (is : put_number c.begun ≡ running) where
  -- the worker's call after a step ..
  step_after : put_number (call_after c o nothing).begun ≡ cond (is_answer o) [] running
  step_after = begun_after c o nothing ∙ ap (cond (is_answer o) []) (alike (is_moved o) ∙ is)

  -- .. and after another entry, which does not answer
  other_after : (b : Begun) → is_answer o ≡ false → put_number (call_after c o b).begun ≡ cond (is_moved o) (put_number (or_begun c b).begun) running
  other_after b silent = begun_after c o b ∙ (λ i. cond (silent i) [] (cond (is_moved o) (put_number (or_begun c b).begun) (is i)))

  idle_after : is_answer o ≡ false → put_number (call_after c o nothing).begun ≡ running
  idle_after silent = step_after ∙ ap (λ t. cond t [] running) silent

-- the put that runs after an entry
abbrev running_after : List ℕ → Entry → Outcome → List ℕ
running_after running Drain o = running
running_after running ClientStore o = running
running_after running (BeginPut x) o = cond (is_moved o) (x ∷ []) running
running_after running BeginTake o = cond (is_moved o) [] running
running_after running WorkerStep o = cond (is_answer o) [] running
running_after running (BeginSteal i) o = running
running_after running (ThiefStep i) o = running

-- b with the parties, beginnings and steps of the seven kinds: of a queue that has them, b itself by computation
abbrev pub of_kinds : {M : Type 0} → Implementation M Entry → Implementation M Entry
of_kinds b =
    record {
      fresh = b.fresh;
      next = b.next;
      outcome = b.outcome;
      hidden = b.hidden;
      party = party_of;
      begins = begun_by;
      is_step = is_step;
      effect = b.effect;
      owes = b.owes;
      standing = b.standing;
      standing_now = b.standing_now;
      is_told = b.is_told;
      limits = b.limits;
    }

module _ {M : Type 0} (b : Implementation M Entry) (lawful : Lawful (of_kinds b)) where
  -- an entry that is no step does not answer
  no_answer : (m : M) (e : Entry) → is_step e ≡ false → is_answer (b.outcome m e) ≡ false
  no_answer m e silent = go (is_answer (b.outcome m e)) refl
    where
      go : (t : Bool) → is_answer (b.outcome m e) ≡ t → t ≡ false
      go true a = sym (lawful.answers_at_steps m e a) ∙ silent
      go false a = refl

  module _ (w : Watch M) (running : List ℕ) (v : Tracks w running) where
    abbrev out : Entry → Outcome
    out e = b.outcome w.machine e

    abbrev call : Entry → PartyCall
    call e = call_at (of_kinds b) w e

    -- of a thief's entry, its own call and those of the others
    thieves_after : (i : ℕ) (c : PartyCall) → put_number c.begun ≡ [] → (j : ℕ) → put_number (cond (same_party (thief j) (thief i)) c (w.calls (thief j))).begun ≡ []
    thieves_after i c own j = go (same_party (thief j) (thief i))
      where
        go : (t : Bool) → put_number (cond t c (w.calls (thief j))).begun ≡ []
        go true = own
        go false = v.of_thief j

    tracks_after : (e : Entry) → Tracks (watch_after (of_kinds b) w e) (running_after running e (out e))
    tracks_after Drain = record { of_worker = idle_after (call Drain) (out Drain) running v.of_worker (no_answer w.machine Drain refl); of_thief = v.of_thief }
    tracks_after ClientStore = record { of_worker = idle_after (call ClientStore) (out ClientStore) running v.of_worker (no_answer w.machine ClientStore refl); of_thief = v.of_thief }
    tracks_after (BeginPut x) = record { of_worker = other_after (call (BeginPut x)) (out (BeginPut x)) running v.of_worker (a_put x) (no_answer w.machine (BeginPut x) refl); of_thief = v.of_thief }
    tracks_after BeginTake = record { of_worker = other_after (call BeginTake) (out BeginTake) running v.of_worker a_take (no_answer w.machine BeginTake refl); of_thief = v.of_thief }
    tracks_after WorkerStep = record { of_worker = step_after (call WorkerStep) (out WorkerStep) running v.of_worker; of_thief = v.of_thief }
    tracks_after (BeginSteal i) =
        record { of_worker = v.of_worker; of_thief = thieves_after i _ (none_after (call (BeginSteal i)) (out (BeginSteal i)) a_steal (v.of_thief i) refl) }
    tracks_after (ThiefStep i) =
        record { of_worker = v.of_worker; of_thief = thieves_after i _ (none_after (call (ThiefStep i)) (out (ThiefStep i)) nothing (v.of_thief i) (v.of_thief i)) }

    -- what an entry other than the worker's step adds is nothing: it does not answer, or no put runs in its call
    silent_adds : (e : Entry) → is_step e ≡ false → (l : List ℕ) → cond (is_stored (out e)) l [] ≡ []
    silent_adds e silent l = ap (λ t. cond t l []) (stored_answers (out e) (no_answer w.machine e silent))

  -- the numbers of the STORED puts, by the watch and by entries and outcomes
  stored_as_read : (w : Watch M) (running : List ℕ) (es : List Entry) → Tracks w running → stored_from (of_kinds b) w es ≡ stored_puts running es (outcomes_of b w.machine es)
  stored_as_read w running [] v = refl
  stored_as_read w running (Drain ∷ es) v =
      λ i. silent_adds w running v Drain refl (put_number (w.calls worker).begun) i ++ stored_as_read (watch_after (of_kinds b) w Drain) running es (tracks_after w running v Drain) i
  stored_as_read w running (ClientStore ∷ es) v =
      λ i. silent_adds w running v ClientStore refl (put_number (w.calls worker).begun) i ++ stored_as_read (watch_after (of_kinds b) w ClientStore) running es (tracks_after w running v ClientStore) i
  stored_as_read w running (BeginPut x ∷ es) v =
      λ i. silent_adds w running v (BeginPut x) refl (put_number (w.calls worker).begun) i ++ stored_as_read (watch_after (of_kinds b) w (BeginPut x)) _ es (tracks_after w running v (BeginPut x)) i
  stored_as_read w running (BeginTake ∷ es) v =
      λ i. silent_adds w running v BeginTake refl (put_number (w.calls worker).begun) i ++ stored_as_read (watch_after (of_kinds b) w BeginTake) _ es (tracks_after w running v BeginTake) i
  stored_as_read w running (WorkerStep ∷ es) v =
      λ i. cond (is_stored (b.outcome w.machine WorkerStep)) (v.of_worker i) [] ++ stored_as_read (watch_after (of_kinds b) w WorkerStep) _ es (tracks_after w running v WorkerStep) i
  stored_as_read w running (BeginSteal j ∷ es) v =
      λ i. silent_adds w running v (BeginSteal j) refl (put_number (w.calls (thief j)).begun) i ++ stored_as_read (watch_after (of_kinds b) w (BeginSteal j)) running es (tracks_after w running v (BeginSteal j)) i
  stored_as_read w running (ThiefStep j ∷ es) v =
      λ i. (ap (λ l. cond (is_stored (b.outcome w.machine (ThiefStep j))) l []) (v.of_thief j) ∙ alike (is_stored (b.outcome w.machine (ThiefStep j)))) i
      ++ stored_as_read (watch_after (of_kinds b) w (ThiefStep j)) running es (tracks_after w running v (ThiefStep j)) i

-- ── Exactly once ────────────────────────────────────────────────────────────────────────────────────────────────────────────

concat_map_outcomes : (h : List Event) → concat_map (λ v. task_in v.outcome) h ≡ concat_map task_in (map (λ v. v.outcome) h)
concat_map_outcomes [] = refl
concat_map_outcomes (v ∷ h) = ap (λ l. task_in v.outcome ++ l) (concat_map_outcomes h)

-- By every count, what was given, is held or stands is what was STORED, where an invariant shows the claim and the tasks that stand are those of `standing_now`.
pub accounted :
    {M : Type 0} (b : Implementation M Entry) → Lawful (of_kinds b) → StoresAtOnce (of_kinds b)
    → {s : Sizes} {most : ℕ} {Inv : ℕ → Watch M → Type 0} → Shows (of_kinds b) s most Inv → Inv 0 (watch_fresh (of_kinds b) s)
    → (es : List Entry) → length es ≤ most
    → map (λ t. t.number) (watched (of_kinds b) (watch_fresh (of_kinds b) s) es).queue.tasks ≡ standing b s es
    → Permutation (given b s es ++ held b s es ++ standing b s es) (stored b s es)
accounted {M} b lawful at_once {s} shows at_first es short stands k =
    let w₀ : Watch M = watch_fresh (of_kinds b) s in
    let h : List Event = events (of_kinds b) w₀ es in
    let w : Watch M = watched (of_kinds b) w₀ es in
    let l = linearizes lawful shows es short at_first in
    omega (
      arith,
      account_numbers (adds_occurrences k) lawful s es l.answers l.held,
      (adds_occurrences k).append (given b s es ++ held b s es) (standing b s es),
      (adds_occurrences k).append (given b s es) (held b s es),
      (adds_occurrences k).append (concat_map (λ v. task_in v.outcome) h) (concat_map task_in (concat_map (b.owes w.machine) (parties s))),
      ap (occurrences k) (concat_map_outcomes h ∙ ap (concat_map task_in) (events_outcomes (of_kinds b) w₀ es)),
      ap (λ m. occurrences k (concat_map task_in (concat_map (b.owes m) (parties s)))) (watched_machine (of_kinds b) w₀ es),
      ap (occurrences k) stands,
      ap (occurrences k) (run_stored at_once shows 0 w₀ es (omega arith) at_first ∙ stored_as_read b lawful w₀ [] es (record { of_worker = refl; of_thief = λ i. refl })),
    )

-- A queue that is blind to numbers and accounts for them loses no task and gives none twice: by the account of the list with its puts numbered apart.
pub exactly_once : {M : Type 0} (b : Implementation M Entry) → AccountedByNumber b → BlindToNumbers b → NoneLostOrGivenTwice b
exactly_once b accounts blind s es ranged enough short =
    record {
      outcomes = ap (outcomes_of b (b.fresh s)) (sym (apart_back es)) ∙ blind (number_in es) refl s (numbered_apart es);
      together = accounts s (numbered_apart es) ranged enough (subst (λ n. n ≤ 4096) (sym (length_numbered 1 es)) short);
      once = λ k. stored_once k es (outcomes_of b (b.fresh s) (numbered_apart es));
    }
