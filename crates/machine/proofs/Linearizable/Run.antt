-- Every entry keeps the invariant, whichever party makes it: what the steps show of machine and plain queue, joined with the calls of all
-- parties.
use mathlib.Core.Path.{◌≡◌, refl, ap, sym, ◌∙◌, subst}
use mathlib.Core.Bool.{Bool, true, false, cond, false≢true}
use mathlib.Core.List.{List, [], ◌∷◌, append-nil, map}
use Prim.Native.Nat.{ℕ, ◌+◌, ◌<◌}
use native.Mathlib.Omega.{arith}
use lib.Dec.{eqb}
use lib.ListN.{length, length-set}
use lib.Seq.{get_or-set_other, get_or-set_same}
use borrow.Author.Tests.{eq-eqb, eqb-false, eqb-true, ne_eqb}
use Rattle.terms.specs.Outcome.{is_answer}
use Rattle.terms.specs.Lists.{all}
use Rattle.stores.proofs.Laws.Pending.{Memory, seen_tail}
use Rattle.claim.specs.PlainQueue.{Told, PlainQueue, respond, within_limits}
use Rattle.claim.specs.Calls.{Begun, nothing, Effect, none, Party, worker, thief, PartyCall, answers_to, begun_by, call_after, same_party, a_steal}
use Rattle.claim.specs.Watch.{queue_after}
use Rattle.claim.proofs.Follows.{Follows, Turned, same_party_lem, turned, unanswered, with_replies}
use Rattle.claim.proofs.Turn.{told_in}
use Rattle.machine.specs.Types.{Done, Entry, Index, Drain, ClientStore, BeginPut, BeginTake, WorkerStep, BeginSteal, ThiefStep, Machine, Outcome, Moved, Wait, Sizes, StoreBuffer, ThiefCall, StealLoadSlot, WorkerCall}
use Rattle.machine.specs.Thief.{idle_thief}
use Rattle.machine.specs.Machine.{memory_load, thief_call}
use Rattle.machine.specs.Update.{with_memory}
use Rattle.machine.specs.Obey.{obey_in_range}
use Rattle.machine.specs.Effect.{effect_keeping, effect_of}
use Rattle.machine.specs.Linearizable.{ff_the, thief_owes, worker_owes}
use Rattle.machine.specs.Entries.{begin_steal}
use Rattle.machine.specs.Perform.{step_keeping}
use Rattle.machine.proofs.Linearizable.Invariant.{Enough, Environment, bare, denied, AgreesOn, InPlace, Invariant, Sound, holds, outside, thief_begun, worker_begun}
use Rattle.machine.proofs.Linearizable.Turn.{ThiefTurn, WorkerTurn, after_thief, after_worker}
use Rattle.machine.proofs.Linearizable.Worker.{begin_put_lem, begin_take_lem, client_store_lem, worker_step}
use Rattle.machine.proofs.Linearizable.Thief.{begin_steal_lem, thief_step}
use Rattle.machine.proofs.Linearizable.Settle.{Settles, settled_on, settled_agrees, settled_begun, settled_owes, settled_sound, settled_stolen}
use Rattle.machine.proofs.Linearizable.Owed.{thief_owes_same, worker_begun_same, worker_owes_same}

-- one entry more
abbrev later : {g : Environment} {n : ℕ} {m : Machine} {c : WorkerCall} {p : ThiefCall} → Sound g n m c p → Sound g (n + 1) m c p
later v =
    record { sizes = v.sizes; memory = v.memory; margin_some = v.margin_some; slots_after_lem = v.slots_after_lem; buffer = v.buffer; head = v.head; tail = v.tail; spaced = v.spaced; counted = omega (arith, v.counted); lock = v.lock }

-- the worker's entries, apart from a drain
abbrev pub is_workers : Entry → Bool
is_workers Drain = false
is_workers ClientStore = true
is_workers (BeginPut x) = true
is_workers BeginTake = true
is_workers WorkerStep = true
is_workers (BeginSteal i) = false
is_workers (ThiefStep i) = false

-- ── An entry of party p that begins `next`, with the outcome o and the effect f, which leaves the environment g and the worker's machine m ───

abbrev pub After : (E : Type 0) → Sizes → ℕ → PlainQueue → (Party → PartyCall) → Party → Begun → Outcome → Effect → Environment → Machine → Type 0
After E s n q cs p starts o f g m =
    let replies = map (respond q) (told_in (cs p).begun o f) in
    Invariant E s (n + 1) g m (queue_after q replies) (λ r. cond (same_party r p) (call_after (with_replies (cs p) replies) o starts) (cs r))

-- The invariant is kept, and with a margin that is enough the plain queue was told what it may be told, and has answered what was answered.
pub record Kept (E : Type 0) (s : Sizes) (n : ℕ) (q : PlainQueue) (cs : Party → PartyCall) (p : Party) (starts : Begun) (o : Outcome) (f : Effect) (g : Environment) (m : Machine) : Type 0 where
  pub next : After E s n q cs p starts o f g m
  pub limits : E → all (within_limits (ff_the.limits s) q) (told_in (cs p).begun o f) ≡ true
  pub answers : E → is_answer o ≡ true → answers_to (with_replies (cs p) (map (respond q) (told_in (cs p).begun o f))) ≡ cond (g.is_told (cs p).begun o) (o ∷ []) []

module _ {E : Type 0} {s : Sizes} {n : ℕ} {g : Environment} {m : Machine} {q : PlainQueue} {cs : Party → PartyCall} (v : Invariant E s n g m q cs) where
  -- an entry of the worker's
  pub by_the_worker :
      ((o : Outcome) → g.is_told (worker_begun m m.worker.call) o ≡ true)
      → {d : Done} (e : Entry) (effect : Outcome → Effect) → WorkerTurn v.sound q e effect d → Kept E s n q cs worker (begun_by e) d.outcome (effect d.outcome) g d.machine
  by_the_worker is_told e effect t =
      subst (λ d. Kept E s n q cs worker (begun_by e) d.outcome (effect d.outcome) g d.machine) t.is (record { next = next; limits = limits; answers = answers })
    where
      m' : Machine
      m' = after_worker m t.lock t.buffer t.spacing t.call

      turn : E → Turned ff_the.is_told (ff_the.limits m.sizes) (cs worker) q (told_in (cs worker).begun t.outcome (effect t.outcome)) t.outcome (begun_by e) (worker_begun m' t.call) (worker_owes m' t.call) (AgreesOn t.sound)
      turn enough = turned (cs worker) (effect t.outcome) (v.worker_call enough) t.told_is (t.turn (v.agrees enough))

      next : After E s n q cs worker (begun_by e) t.outcome (effect t.outcome) g m'
      next =
          record {
            inside = v.inside;
            sizes_are = v.sizes_are;
            long = v.long;
            sound = t.sound;
            thieves = λ i. subst (λ b. InPlace b m.sizes.thieves i v.inside (thief_call m i)) (sym (t.holder i)) (v.thieves i);
            agrees = λ enough. (turn enough).agrees;
            worker_call = λ enough. (turn enough).follows;
            thief_call_lem = λ enough i.
                record { begun = (v.thief_call_lem enough i).begun; answers = (v.thief_call_lem enough i).answers ∙ thief_owes_same (denied g) (bare g m) (bare g m') (thief_call m i) (λ h e. refl) };
          }

      limits : E → all (within_limits (ff_the.limits s) q) (told_in (cs worker).begun t.outcome (effect t.outcome)) ≡ true
      limits enough = ap (λ s. all (within_limits (ff_the.limits s) q) (told_in (cs worker).begun t.outcome (effect t.outcome))) (sym v.sizes_are) ∙ (turn enough).limits

      answers : E → is_answer t.outcome ≡ true → answers_to (with_replies (cs worker) (map (respond q) (told_in (cs worker).begun t.outcome (effect t.outcome)))) ≡ cond (g.is_told (cs worker).begun t.outcome) (t.outcome ∷ []) []
      answers enough a =
          (turn enough).answers a
          ∙ ap (λ b. cond b (t.outcome ∷ []) []) (sym (ap (λ b. g.is_told b t.outcome) (v.worker_call enough).begun ∙ is_told t.outcome))

  -- an entry of thief i's, with the result d on the machine as thieves load it
  pub by_a_thief :
      {d : Done} (i : ℕ) (e : Entry) (effect : Effect) → (E → Enough g m.sizes) → i < length m.thieves
      → ThiefTurn v.sound q i (thief_call m i) e effect d
      → Kept E s n q cs (thief i) (begun_by e) d.outcome effect g (with_memory m.slots m.tail d.machine.buffer d.machine)
  by_a_thief i e effect needed there t =
      subst (λ d. Kept E s n q cs (thief i) (begun_by e) d.outcome effect g (with_memory m.slots m.tail d.machine.buffer d.machine)) t.is (record { next = next; limits = limits; answers = answers })
    where
      m' : Machine
      m' = after_thief m t.head t.lock i t.call

      told : List Told
      told = told_in (cs (thief i)).begun t.outcome effect

      own_call : PartyCall
      own_call = call_after (with_replies (cs (thief i)) (map (respond q) told)) t.outcome (begun_by e)

      turn : E → Turned g.is_told (ff_the.limits m.sizes) (cs (thief i)) q told t.outcome (begun_by e) (thief_begun t.call) (thief_owes (denied g) (bare g m') t.call) (AgreesOn t.sound)
      turn enough = turned (cs (thief i)) effect (v.thief_call_lem enough i) t.told_is (t.turn (needed enough) (v.agrees enough))

      -- a property of every thief's call: of thief i's new one, and of the others' as before
      each :
          (P : ℕ → ThiefCall → Type 0) → P i t.call → ((j : ℕ) → (j ≡ i → ⊥) → P j (thief_call m j)) → (j : ℕ) → P j (thief_call m' j)
      each P own other j = go (eqb j i) refl
        where
          go : (b : Bool) → eqb j i ≡ b → P j (thief_call m' j)
          go true same =
              let here = eqb-true j i same in
              subst (λ j. P j (thief_call m' j)) (sym here) (subst (P i) (sym (ap (λ a. a.call) (get_or-set_same m.thieves i (record { call = t.call }) idle_thief there))) own)
          go false apart =
              subst (P j) (sym (ap (λ a. a.call) (get_or-set_other m.thieves i j (record { call = t.call }) idle_thief (eqb-false j i apart)))) (other j (eqb-false j i apart))

      next : After E s n q cs (thief i) (begun_by e) t.outcome effect g m'
      next =
          record {
            inside = t.inside;
            sizes_are = v.sizes_are;
            long = length-set m.thieves i (record { call = t.call }) ∙ v.long;
            sound = t.sound;
            thieves =
                each (λ j c. InPlace (holds t.lock.holder j) m.sizes.thieves j t.inside c) t.in_place
                (λ j apart. t.others j (thief_call m j) apart (v.thieves j));
            agrees = λ enough. (turn enough).agrees;
            worker_call = λ enough.
                record {
                  begun = (v.worker_call enough).begun ∙ worker_begun_same m m' v.sound.buffer.seen refl m.worker.call (seen_tail v.sound.buffer) (seen_tail v.sound.buffer);
                  answers = (v.worker_call enough).answers ∙ worker_owes_same m m' v.sound.buffer.seen refl m.worker.call v.sound.tail.holds_tail;
                };
            thief_call_lem = λ enough.
                each (λ j c. Follows (cond (eqb j i) own_call (cs (thief j))) (thief_begun c) (thief_owes (denied g) (bare g m') c))
                (subst (λ b. Follows (cond b own_call (cs (thief i))) (thief_begun t.call) (thief_owes (denied g) (bare g m') t.call))
                (sym (eq-eqb i i refl)) (turn enough).follows)
                (λ j apart.
                subst (λ b. Follows (cond b own_call (cs (thief j))) (thief_begun (thief_call m j)) (thief_owes (denied g) (bare g m') (thief_call m j)))
                (sym (ne_eqb j i apart))
                (record { begun = (v.thief_call_lem enough j).begun; answers = (v.thief_call_lem enough j).answers ∙ thief_owes_same (denied g) (bare g m) (bare g m') (thief_call m j) (λ h e. refl) }));
          }

      limits : E → all (within_limits (ff_the.limits s) q) told ≡ true
      limits enough = ap (λ s. all (within_limits (ff_the.limits s) q) told) (sym v.sizes_are) ∙ (turn enough).limits

      answers : E → is_answer t.outcome ≡ true → answers_to (with_replies (cs (thief i)) (map (respond q) told)) ≡ cond (g.is_told (cs (thief i)).begun t.outcome) (t.outcome ∷ []) []
      answers enough = (turn enough).answers

  -- an entry of the memory's, which the worker's entries are
  pub by_settling : {memory : Memory} {slots : List ℕ} {tail : Index} {b : StoreBuffer} → Settles v.sound memory slots tail b
      → Kept E s n q cs worker nothing Moved none (settled_on memory g) (with_memory slots tail b m)
  by_settling {memory = memory} {slots = slots} {tail = tail} {b = b} d = record { next = next; limits = λ enough. refl; answers = λ enough e. absurd (false≢true e) }
    where
      m' : Machine
      m' = with_memory slots tail b m

      -- a thief that is about to load a slot is inside, and no pending store is to that slot
      thief_loads :
          E → (i : ℕ) (b : Bool) → InPlace b m.sizes.thieves i v.inside (thief_call m i) → (h : Index)
          → thief_call m i ≡ StealLoadSlot h → memory_load (bare g m) h ≡ memory_load (bare (settled_on memory g) m') h
      thief_loads enough i true place h at = sym (settled_stolen v.sound d q h (sym place.0 ∙ at) (v.agrees enough))
      thief_loads enough i false place h at = absurd (false≢true (sym (ap outside at) ∙ place))

      next : After E s n q cs worker nothing Moved none (settled_on memory g) m'
      next =
          record {
            inside = v.inside;
            sizes_are = v.sizes_are;
            long = v.long;
            sound = settled_sound v.sound d;
            thieves = v.thieves;
            agrees = λ enough. settled_agrees v.sound d q (v.agrees enough);
            worker_call = λ enough.
                record {
                  begun = (v.worker_call enough).begun ∙ settled_begun v.sound d;
                  answers =
                      ap (map (λ r. r.answer)) (append-nil (cs worker).replies)
                      ∙ (v.worker_call enough).answers ∙ settled_owes v.sound d;
                };
            thief_call_lem = λ enough i.
                record {
                  begun = (v.thief_call_lem enough i).begun;
                  answers = (v.thief_call_lem enough i).answers ∙ thief_owes_same (denied g) (bare g m) (bare (settled_on memory g) m') (thief_call m i) (thief_loads enough i (holds m.lock.holder i) (v.thieves i));
                };
          }

  -- a party's call, after an entry of party p that was refused
  unmoved : (p r : Party) (b : Begun) (owed : List Outcome) → Follows (cs r) b owed → Follows (cond (same_party r p) (with_replies (cs p) []) (cs r)) b owed
  unmoved p r b owed f = go (same_party r p) refl
    where
      go : (same : Bool) → same_party r p ≡ same → Follows (cond same (with_replies (cs p) []) (cs r)) b owed
      go true e = unanswered (cs p) b owed (subst (λ r. Follows (cs r) b owed) (same_party_lem r p e) f)
      go false e = f

  -- an entry that waits
  pub by_nobody : (p : Party) (next : Begun) (f : Effect) → Kept E s n q cs p next Wait f g m
  by_nobody p next f =
      record {
        next =
            record {
              inside = v.inside;
              sizes_are = v.sizes_are;
              long = v.long;
              sound = later v.sound;
              thieves = v.thieves;
              agrees = λ enough. v.agrees enough;
              worker_call = λ enough. unmoved p worker _ _ (v.worker_call enough);
              thief_call_lem = λ enough i. unmoved p (thief i) _ _ (v.thief_call_lem enough i);
            };
        limits = λ enough. refl;
        answers = λ enough e. absurd (false≢true e);
      }

  -- ── The entries that every memory has ───────────────────────────────────────────────────────────────────────────────────────

  -- the worker's, on the machine as it loads it
  pub worker_entry_lem : (e : Entry) → is_workers e ≡ true → WorkerTurn v.sound q e (λ o. effect_of o m e) (obey_in_range m e)
  worker_entry_lem Drain own = absurd (false≢true own)
  worker_entry_lem ClientStore own = client_store_lem q m.worker.call v.sound refl
  worker_entry_lem (BeginPut x) own = begin_put_lem q x m.worker.call v.sound refl
  worker_entry_lem BeginTake own = begin_take_lem q m.worker.call v.sound refl
  worker_entry_lem WorkerStep own = worker_step q m.worker.call v.sound refl
  worker_entry_lem (BeginSteal i) own = absurd (false≢true own)
  worker_entry_lem (ThiefStep i) own = absurd (false≢true own)

  -- a thief's, on the machine as thieves load it
  pub steal_begins : (i : ℕ) → i < m.sizes.thieves → ThiefTurn v.sound q i (thief_call m i) (BeginSteal i) none (begin_steal i (bare g m))
  steal_begins i few = begin_steal_lem q i v.sound few (thief_call m i) refl (v.thieves i)

  pub thief_steps : ((o : Outcome) → g.is_told a_steal o ≡ true) → (i : ℕ) → i < m.sizes.thieves
      → ThiefTurn v.sound q i (thief_call m i) (ThiefStep i) (effect_keeping g.margin (bare g m) (thief_call m i)) (step_keeping g.margin i (bare g m) (thief_call m i))
  thief_steps told i few = thief_step q i v.sound few told (thief_call m i) refl (v.thieves i)

  pub thief_cell : (i : ℕ) → i < m.sizes.thieves → i < length m.thieves
  thief_cell i few = omega (arith, v.long, v.sound.sizes.thieves_most)
