-- Mutual exclusion: what the lock says of the worker, of the thief inside and of the others, and how each stays in its place when it changes.
use mathlib.Core.Path.{◌≡◌, refl, ap, sym, ◌∙◌, subst}
use mathlib.Core.Bool.{Bool, true, false, false≢true}
use Prim.Native.Nat.{ℕ, ◌<◌}
use lib.Dec.{eqb}
use borrow.Author.Tests.{eq-eqb, eqb-true, ne_eqb}
use Rattle.stores.specs.Lock.{is_nobody}
use Rattle.machine.specs.Types.{Holder, Nobody, TheWorker, TheThief, ThiefCall}
use Rattle.machine.proofs.Linearizable.Invariant.{Exclusive, InPlace, holds, outside}

-- ── Nobody has the lock ─────────────────────────────────────────────────────────────────────────────────────────────────────

pub free_quiet : (l : Holder) (working : Bool) (p : ThiefCall) → is_nobody l ≡ true → Exclusive l working p → (working ≡ false) × (p ≡ ThiefCall.Idle)
free_quiet Nobody working p free x = x
free_quiet TheWorker working p free x = absurd (false≢true free)
free_quiet (TheThief i) working p free x = absurd (false≢true free)

pub free_holds : (l : Holder) (i : ℕ) → is_nobody l ≡ true → false ≡ holds l i
free_holds Nobody i free = refl
free_holds TheWorker i free = refl
free_holds (TheThief j) i free = absurd (false≢true free)

-- ── The worker has it ───────────────────────────────────────────────────────────────────────────────────────────────────────

pub working_quiet : (l : Holder) (p : ThiefCall) → Exclusive l true p → p ≡ ThiefCall.Idle
working_quiet Nobody p x = absurd (false≢true (sym x.0))
working_quiet TheWorker p x = x.1
working_quiet (TheThief i) p x = absurd (false≢true (sym x.0))

pub working_holds : (l : Holder) (i : ℕ) (p : ThiefCall) → Exclusive l true p → false ≡ holds l i
working_holds Nobody i p x = refl
working_holds TheWorker i p x = refl
working_holds (TheThief j) i p x = absurd (false≢true (sym x.0))

-- ── A thief has it ──────────────────────────────────────────────────────────────────────────────────────────────────────────

-- a thief inside is the one that holds the lock
pub inside_holds :
    (l : Holder) (i k : ℕ) (p own : ThiefCall) → InPlace (holds l i) k i p own → outside own ≡ false → (l ≡ TheThief i) × (own ≡ p) × (i < k)
inside_holds Nobody i k p own place inside = absurd (false≢true (sym inside ∙ place))
inside_holds TheWorker i k p own place inside = absurd (false≢true (sym inside ∙ place))
inside_holds (TheThief j) i k p own place inside = go (eqb i j) refl place
  where
    go : (b : Bool) → eqb i j ≡ b → InPlace b k i p own → (TheThief j ≡ TheThief i) × (own ≡ p) × (i < k)
    go true e place = (ap TheThief (sym (eqb-true i j e)), place.0, place.1)
    go false e place = absurd (false≢true (sym inside ∙ place))

-- .. and stays in place with the next call inside
pub holder_stays : (i k : ℕ) (p : ThiefCall) → i < k → InPlace (eqb i i) k i p p
holder_stays i k p there = subst (λ b. InPlace b k i p p) (sym (eq-eqb i i refl)) (refl, there)

-- a thief outside stays in place with another call outside
pub outside_stays :
    (l : Holder) (i k : ℕ) (working : Bool) (p own call : ThiefCall) → Exclusive l working p → outside own ≡ true → outside call ≡ true
    → InPlace (holds l i) k i p own → InPlace (holds l i) k i p call
outside_stays Nobody i k working p own call x out stays place = stays
outside_stays TheWorker i k working p own call x out stays place = stays
outside_stays (TheThief j) i k working p own call x out stays place = go (eqb i j) place
  where
    go : (b : Bool) → InPlace b k i p own → InPlace b k i p call
    go true place = absurd (false≢true (sym x.1 ∙ sym (ap outside place.0) ∙ out))
    go false place = stays

-- ── The other thieves ───────────────────────────────────────────────────────────────────────────────────────────────────────

-- they are outside, whether the lock is free or thief i has it ..
pub free_outside : (l : Holder) (j k : ℕ) (p other : ThiefCall) → is_nobody l ≡ true → InPlace (holds l j) k j p other → outside other ≡ true
free_outside Nobody j k p other free place = place
free_outside TheWorker j k p other free place = place
free_outside (TheThief i) j k p other free place = absurd (false≢true free)

pub held_outside :
    (l : Holder) (i j k : ℕ) (p other : ThiefCall) → l ≡ TheThief i → (j ≡ i → ⊥) → InPlace (holds l j) k j p other → outside other ≡ true
held_outside l i j k p other held apart place =
    subst (λ b. InPlace b k j p other) (ap (λ l. holds l j) held ∙ ne_eqb j i apart) place

-- .. and so they are in place beside thief i
pub others_stay : (i j k : ℕ) (p other : ThiefCall) → (j ≡ i → ⊥) → outside other ≡ true → InPlace (eqb j i) k j p other
others_stay i j k p other apart out = subst (λ b. InPlace b k j p other) (sym (ne_eqb j i apart)) out
