-- The claim, from what each entry shows of machine and plain queue by itself. What the plain queue has been told of the calls of all parties, and has
-- answered them, follows, whichever queue it is.
use mathlib.Core.Path.{◌≡◌, refl, ap, sym, ◌∙◌}
use mathlib.Core.Bool.{true, false}
use mathlib.Core.List.{List, [], map}
use Prim.Native.Nat.{ℕ, ◌+◌}
use Rattle.terms.specs.Lists.{all}
use Rattle.terms.specs.Outcome.{is_answer, is_refusal}
use Rattle.claim.specs.Types.{Outcome, Sizes}
use Rattle.claim.specs.PlainQueue.{Limits, Told, PlainQueue, within_limits}
use Rattle.claim.specs.Calls.{Begun, Effect, Party, call_after, same_party}
use Rattle.claim.specs.Implementation.{Implementation}
use Rattle.claim.specs.Watch.{Watch, call_at, told_at, watch_after}
use Rattle.claim.specs.Linearizable.{no_call_runs}
use Rattle.claim.proofs.Follows.{Follows, Turned, all_follow, turned}
use Rattle.claim.proofs.Theorem.{Shows}
use Rattle.claim.proofs.Turn.{Turn, refuses, told_in}

-- What a party's call on a machine was begun as; what holds of a machine after so many entries, whatever its sizes; and what holds of it and of
-- the plain queue beside it, where the sizes are such that the claim is made.
module _ {M E : Type 0} (b : Implementation M E) (begun : M → Party → Begun) (Sound : ℕ → M → Type 0) (Agrees : (n : ℕ) (m : M) → Sound n m → PlainQueue → Type 0) where
  -- An entry of party p that begins `next`, has the effect f and the outcome o, and leads from the machine m, where the party's call has been
  -- begun as c and owes what it owes, to m' after n entries. A: what holds of m and the plain queue q.
  pub record EntryTurn (A : Type 0) (l : Limits) (m : M) (q : PlainQueue) (p : Party) (c : Begun) (owed : List Outcome) (next : Begun) (f : Effect) (o : Outcome) (n : ℕ) (m' : M) : Type 0 where
    pub told : List Told
    pub told_is : told ≡ told_in c o f
    -- no other party's call changes
    pub others : (r : Party) → same_party r p ≡ false → (begun m' r ≡ begun m r) × (b.owes m' r ≡ b.owes m r)
    pub sound : Sound n m'
    pub turn : A → Turn b.is_told l c owed q told o next (begun m' p) (b.owes m' p) (Agrees n m' sound)

  -- an entry that is refused and changes nothing
  pub waits : {A : Type 0} {l : Limits} {m : M} {q : PlainQueue} {p : Party} {next : Begun} {f : Effect} {o : Outcome} {n : ℕ} → is_refusal o ≡ true → is_answer o ≡ false
      → (v : Sound n m) → (A → Agrees n m v q) → EntryTurn A l m q p (begun m p) (b.owes m p) next f o n m
  waits refusal no_answer v agrees =
      record { told = []; told_is = rw refusal; others = λ r other. (refl, refl); sound = v; turn = λ a. refuses refusal no_answer refl refl (agrees a) }

  -- a machine's sizes, which no entry changes
  module _ (sizes : M → Sizes) (sizes_kept_lem : (m : M) (e : E) → sizes (b.next m e) ≡ sizes m) where
    -- The invariant of a run of sizes s, after n entries. C: the claim is made of these sizes.
    pub record Invariant (C : Type 0) (s : Sizes) (n : ℕ) (w : Watch M) : Type 0 where
      -- the sizes never change
      pub sizes_are : sizes w.machine ≡ s
      pub sound : Sound n w.machine
      pub agrees : C → Agrees n w.machine sound w.queue
      -- what each party's call owes is what the plain queue has answered to it
      pub calls : C → (r : Party) → Follows (w.calls r) (begun w.machine r) (b.owes w.machine r)

    -- every entry shows its turn
    abbrev pub Turns : Type 0
    Turns = (n : ℕ) (m : M) (q : PlainQueue) (v : Sound n m) (e : E)
        → EntryTurn (Agrees n m v q) (b.limits (sizes m)) m q (b.party e) (begun m (b.party e)) (b.owes m (b.party e)) (b.begins e) (b.effect m e) (b.outcome m e) (n + 1) (b.next m e)

    module _ (turns : Turns) {C : Type 0} {s : Sizes} {n : ℕ} {w : Watch M} (v : Invariant C s n w) (e : E) where
      abbrev turn_at : EntryTurn (Agrees n w.machine v.sound w.queue) (b.limits (sizes w.machine)) w.machine w.queue (b.party e) (begun w.machine (b.party e)) (b.owes w.machine (b.party e)) (b.begins e) (b.effect w.machine e) (b.outcome w.machine e) (n + 1) (b.next w.machine e)
      turn_at = turns n w.machine w.queue v.sound e

      by_turn :
          C
          → Turned b.is_told (b.limits (sizes w.machine)) (w.calls (b.party e)) w.queue (told_at b w e) (b.outcome w.machine e) (b.begins e)
          (begun (b.next w.machine e) (b.party e)) (b.owes (b.next w.machine e) (b.party e)) (Agrees (n + 1) (b.next w.machine e) turn_at.sound)
      by_turn claimed =
          turned (w.calls (b.party e)) (b.effect w.machine e) (v.calls claimed (b.party e)) turn_at.told_is (turn_at.turn (v.agrees claimed))

      pub keeps : Invariant C s (n + 1) (watch_after b w e)
      keeps =
          let m' = b.next w.machine e in
          record {
            sizes_are = sizes_kept_lem w.machine e ∙ v.sizes_are;
            sound = turn_at.sound;
            agrees = λ claimed. (by_turn claimed).agrees;
            calls = λ claimed.
                all_follow w.calls (b.party e) (call_after (call_at b w e) (b.outcome w.machine e) (b.begins e)) (begun m') (b.owes m') (by_turn claimed).follows
                (λ r other.
                let alone = turn_at.others r other in
                record { begun = (v.calls claimed r).begun ∙ sym alone.0; answers = (v.calls claimed r).answers ∙ sym alone.1 });
          }

      limits : C → all (within_limits (b.limits s) w.queue) (told_at b w e) ≡ true
      limits claimed = ap (λ s. all (within_limits (b.limits s) w.queue) (told_at b w e)) (sym v.sizes_are) ∙ (by_turn claimed).limits

    -- so where the claim is made, the invariant shows it, if it shows where no call runs that the tasks stand in the slots
    pub shows_by_turns :
        Turns → {C : Type 0} {s : Sizes} → C → (most : ℕ)
        → ((n : ℕ) (w : Watch M) → Invariant C s n w → no_call_runs s w ≡ true → map (λ t. t.number) w.queue.tasks ≡ b.standing w.machine)
        → Shows b s most (Invariant C s)
    shows_by_turns turns claimed most standing =
        record {
          keeps = λ n w short v e. keeps turns v e;
          limits = λ n w v e. limits turns v e claimed;
          answers = λ n w v e. (by_turn turns v e claimed).answers;
          owed = λ n w v p. (v.calls claimed p).answers;
          standing = standing;
        }
