-- How far memory's tail may be ahead of the worker's. The pending stores form a chain: each tail store is above the tail before it, equal
-- to it, or one below it (a dip: step 1 of a take), and between two dips lie at least s other stores. So a list of at most S stores has at
-- most ⌈S / (s + 1)⌉ dips, and no pending index is further below memory's tail than that.
--
-- Indices are natural numbers, one above (`Laws.Index`). Nothing here knows which store is allowed when: whoever pushes shows that.
use mathlib.Core.Path.{◌≡◌, refl, ap, ◌∙◌}
use mathlib.Core.List.{List, [], ◌∷◌, ◌++◌, foldl}
use Prim.Native.Nat.{ℕ, suc, ◌+◌, ◌-◌, ◌*◌, ◌≤◌, ◌<◌}
use native.Mathlib.Nat.{le-div_iff_mul-le, le_refl, suc-add, suc-mul, zero-add, zero-mul}
use native.Mathlib.Numerals.{one-add}
use native.Mathlib.Omega.{arith}
use lib.ListN.{length}
use borrow.Author.Tests.{le-ltb, lt-ltb}
use Rattle.terms.specs.Sizes.{needed_margin}
use Rattle.stores.specs.Types.{Index, Store}
use Rattle.stores.specs.StoreBuffer.{client_store, slot_store, tail_after, tail_store, take_stores}
use Rattle.stores.proofs.Laws.Index.{idx, idx_lt}

-- s: how many stores lie between dips; every slot store has an index below the bound. t: memory's tail. c: how many stores are still due
-- before the next dip. Then the pending stores, oldest first, d: how many of them are dips, e: how many stores are due behind them before
-- another dip, u: the tail behind them.
pub data Chain (s bound : ℕ) : ℕ → ℕ → List Store → ℕ → ℕ → ℕ → Type 0 where
  none : {t c e : ℕ} → c ≤ e → Chain s bound t c [] 0 e t
  up : {t c d e u : ℕ} {b : List Store} (v : ℕ) → t < v → Chain s bound v (c - 1) b d e u → Chain s bound t c (tail_store (idx v) ∷ b) d e u
  same : {t c d e u : ℕ} {b : List Store} → Chain s bound t c b d e u → Chain s bound t c (tail_store (idx t) ∷ b) d e u
  down : {t c d e u : ℕ} {b : List Store} → c ≤ 0 → Chain s bound t s b d e u → Chain s bound (suc t) c (tail_store (idx t) ∷ b) (suc d) e u
  slot : {t c d e u : ℕ} {b : List Store} (x : ℕ) → t < bound → Chain s bound t (c - 1) b d e u → Chain s bound t c (slot_store (idx t) x ∷ b) d e u
  client : {t c d e u : ℕ} {b : List Store} → Chain s bound t (c - 1) b d e u → Chain s bound t c (client_store ∷ b) d e u

-- What is left of a chain without its oldest store a: another memory's tail, other stores due, fewer dips or as many.
pub record Landed (s bound t e u : ℕ) (a : Store) (b : List Store) : Type 0 where
  pub memory : ℕ
  pub due : ℕ
  pub dips : ℕ
  pub lands : tail_after (idx t) a.kind ≡ idx memory
  pub few : due ≤ s
  pub chain : Chain s bound memory due b dips e u

-- Every slot store of a list has an index above h and below the bound.
pub data SlotsWithin (h bound : ℕ) : List Store → Type 0 where
  no_store : SlotsWithin h bound []
  past_tail : {i : Index} {b : List Store} → SlotsWithin h bound b → SlotsWithin h bound (tail_store i ∷ b)
  past_client : {b : List Store} → SlotsWithin h bound b → SlotsWithin h bound (client_store ∷ b)
  between : {b : List Store} (k x : ℕ) → h < k → k < bound → SlotsWithin h bound b → SlotsWithin h bound (slot_store (idx k) x ∷ b)

-- one list of slot stores after another
pub slots_append :
    {h bound higher : ℕ} {b b' : List Store} → bound ≤ higher → SlotsWithin h bound b → SlotsWithin h higher b' → SlotsWithin h higher (b ++ b')
slots_append raise no_store k = k
slots_append raise (past_tail r) k = past_tail (slots_append raise r k)
slots_append raise (past_client r) k = past_client (slots_append raise r k)
slots_append raise (between j x above below r) k = between j x above (omega arith) (slots_append raise r k)

-- without the oldest
pub slots_land : {h bound : ℕ} {a : Store} {b : List Store} → SlotsWithin h bound (a ∷ b) → SlotsWithin h bound b
slots_land (past_tail r) = r
slots_land (past_client r) = r
slots_land (between j x above below r) = r

module _ {s bound : ℕ} where
  -- ── The tail behind the chain is what the worker loads ──────────────────────────────────────────────────────────────────────

  pub chain_tail : {t c d e u : ℕ} {b : List Store} → Chain s bound t c b d e u → foldl (λ i a. tail_after i a.kind) (idx t) b ≡ idx u
  chain_tail (none h) = refl
  chain_tail (up v h k) = chain_tail k
  chain_tail (same k) = chain_tail k
  chain_tail (down h k) = chain_tail k
  chain_tail (slot x low k) = chain_tail k
  chain_tail (client k) = chain_tail k

  -- ── Push: a store behind the chain ──────────────────────────────────────────────────────────────────────────────────────────

  -- one that a single-link chain from u to v, with due counts e to f, stands for
  pub chain_push :
      {t c d e u d' f v : ℕ} {b : List Store} {a : Store}
      → ((c : ℕ) → c ≤ e → Chain s bound u c (a ∷ []) d' f v)
      → Chain s bound t c b d e u
      → Chain s bound t c (b ++ (a ∷ [])) (d + d') f v
  chain_push link (none h) = rw zero-add (link _ h)
  chain_push link (up v h k) = up v h (chain_push link k)
  chain_push link (same k) = same (chain_push link k)
  chain_push link (down h k) = rw suc-add (down h (chain_push link k))
  chain_push link (slot x low k) = slot x low (chain_push link k)
  chain_push link (client k) = client (chain_push link k)

  -- ── A higher bound ──────────────────────────────────────────────────────────────────────────────────────────────────────────

  pub chain_raise : {t c d e u : ℕ} {b : List Store} (higher : ℕ) → bound ≤ higher → Chain s bound t c b d e u → Chain s higher t c b d e u
  chain_raise r h (none e) = none e
  chain_raise r h (up v g k) = up v g (chain_raise r h k)
  chain_raise r h (same k) = same (chain_raise r h k)
  chain_raise r h (down g k) = down g (chain_raise r h k)
  chain_raise {t = t} r h (slot x low k) = slot {t = t} x (omega arith) (chain_raise r h k)
  chain_raise r h (client k) = client (chain_raise r h k)

  -- ── Landing: the oldest store reaches memory ────────────────────────────────────────────────────────────────────────────────

  pub chain_land : {t c d e u : ℕ} {a : Store} {b : List Store} → c ≤ s → Chain s bound t c (a ∷ b) d e u → Landed s bound t e u a b
  chain_land {c = c} few (up v h k) = record { memory = v; due = c - 1; dips = _; lands = refl; few = omega arith; chain = k }
  chain_land {c = c} few (same k) = record { memory = _; due = c; dips = _; lands = refl; few = few; chain = k }
  chain_land few (down h k) = record { memory = _; due = s; dips = _; lands = refl; few = le_refl s; chain = k }
  chain_land {c = c} few (slot x low k) = record { memory = _; due = c - 1; dips = _; lands = refl; few = omega arith; chain = k }
  chain_land {c = c} few (client k) = record { memory = _; due = c - 1; dips = _; lands = refl; few = omega arith; chain = k }

  -- ── How many dips fit ───────────────────────────────────────────────────────────────────────────────────────────────────────

  pub chain_spaced : {t c d e u : ℕ} {b : List Store} → c ≤ s → Chain s bound t c b d e u → d * (s + 1) + c ≤ length b + s
  chain_spaced few (none h) = simp zero-mul (omega arith)
  chain_spaced few (up v h k) = omega (arith, chain_spaced (omega arith) k)
  chain_spaced few (same k) = omega (arith, chain_spaced few k)
  chain_spaced few (down h k) = simp suc-mul (omega (arith, chain_spaced (le_refl _) k))
  chain_spaced few (slot x low k) = omega (arith, chain_spaced (omega arith) k)
  chain_spaced few (client k) = omega (arith, chain_spaced (omega arith) k)

  -- .. so never more than the needed margin, whichever margin is set
  pub chain_needed :
      {t c d e u : ℕ} {b : List Store} (S : ℕ) → c ≤ s → length b ≤ S → Chain s bound t c b d e u → d ≤ needed_margin S s
  chain_needed {d = d} S few short k = (le-div_iff_mul-le {k = s + 1} {x = d} {y = S + (s + 1 - 1)} (omega arith)).1 (omega (arith, chain_spaced few k))

  -- ── What lies above an index that memory's tail is far above ────────────────────────────────────────────────────────────────

  -- the tail behind it ..
  pub chain_above : {t c d e u : ℕ} {b : List Store} → Chain s bound t c b d e u → t ≤ u + d
  chain_above (none h) = omega arith
  chain_above (up v h k) = omega (arith, chain_above k)
  chain_above (same k) = chain_above k
  chain_above (down h k) = omega (arith, chain_above k)
  chain_above (slot x low k) = chain_above k
  chain_above (client k) = chain_above k

  -- .. and the index of every slot store
  pub chain_slots_within : {t c d e u : ℕ} {b : List Store} (h : ℕ) → h + d < t → Chain s bound t c b d e u → SlotsWithin h bound b
  chain_slots_within h far (none _) = no_store
  chain_slots_within h far (up v higher k) = past_tail (chain_slots_within h (omega arith) k)
  chain_slots_within h far (same k) = past_tail (chain_slots_within h far k)
  chain_slots_within h far (down _ k) = past_tail (chain_slots_within h (omega arith) k)
  chain_slots_within {t = t} h far (slot x low k) = between t x (omega arith) low (chain_slots_within h far k)
  chain_slots_within h far (client k) = past_client (chain_slots_within h far k)

  -- ── The margin, used once ───────────────────────────────────────────────────────────────────────────────────────────────────

  -- where a thief sees the tail more than a large enough margin above h, the worker's tail and every pending slot store are above h
  pub chain_safe :
      {t c d e u : ℕ} {b : List Store} (S margin h : ℕ)
      → c ≤ s
      → length b ≤ S
      → needed_margin S s ≤ margin
      → h + margin < t
      → Chain s bound t c b d e u
      → (h < u) × SlotsWithin h bound b
  chain_safe {t = t} {d = d} S margin h few short enough far k =
      let n = chain_needed S few short k in
      let far_dips : h + d < t = omega arith in
      (omega (arith, chain_above k), chain_slots_within h far_dips k)

-- ── Take stores, counted in the list itself ─────────────────────────────────────────────────────────────────────────────────

-- in a chain they are the dips
pub chain_take_stores : {s bound t c d e u : ℕ} {b : List Store} → Chain s bound t c b d e u → take_stores (idx t) b ≡ d
chain_take_stores (none h) = refl
chain_take_stores {t = t} (up v h k) = rw (idx_lt v t, le-ltb v t (omega arith)) (zero-add _ ∙ chain_take_stores k)
chain_take_stores {t = t} (same k) = rw (idx_lt t t, le-ltb t t (omega arith)) (zero-add _ ∙ chain_take_stores k)
chain_take_stores {t = suc t} (down h k) = rw (idx_lt t (suc t), lt-ltb t (suc t) (omega arith)) (one-add _ ∙ ap suc (chain_take_stores k))
chain_take_stores (slot x low k) = zero-add _ ∙ chain_take_stores k
chain_take_stores (client k) = zero-add _ ∙ chain_take_stores k
