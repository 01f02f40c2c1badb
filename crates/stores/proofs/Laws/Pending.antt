-- The stores that have not reached memory, whichever queue made them: what one more changes, and what is left where the oldest lands. Nothing
-- here names a call.
use mathlib.Core.Path.{◌≡◌, refl, ap, sym, ◌∙◌, subst}
use mathlib.Core.Bool.{true, ◌&&◌}
use mathlib.Core.List.{List, [], ◌∷◌, ◌++◌, append_assoc, foldl, foldl-append}
use Prim.Native.Nat.{ℕ, suc, ◌+◌, ◌-◌, ◌≤◌, ◌<◌, zero-le}
use native.Mathlib.Nat.{le_refl}
use native.Mathlib.Omega.{arith}
use lib.ListN.{get_or, length, length-append, length-drop, length-set, length-take}
use borrow.Author.Tests.{le-leb}
use Rattle.terms.specs.Lists.{all}
use Rattle.terms.specs.Sizes.{needed_margin}
use Rattle.terms.specs.declared.sizes.Sizes.{Sizes}
use Rattle.terms.proofs.Laws.Lists.{all_snoc}
use Rattle.terms.proofs.Laws.Sizes.{SizeBounds}
use Rattle.terms.proofs.Laws.Tests.{and_left, and_right}
use Rattle.stores.specs.Types.{Index, Store, StoreBuffer}
use Rattle.stores.specs.Index.{index_in_range, index_of, slot_of}
use Rattle.stores.specs.StoreBuffer.{drop_oldest, empty_buffer, newest_tail, oldest, pending, push, slots_after, store_in_range, tail_after, tail_store, take_stores}
use Rattle.stores.proofs.Laws.Index.{idx, idx_in_range, idx_of, index_ranged}
use Rattle.stores.proofs.Laws.StoreBuffer.{pending_dropped, push_pending, slots_after-length, slots_after-slot_after, tail_after_in_range}
use Rattle.stores.proofs.Laws.Chain.{Chain, SlotsWithin, down, none, up, chain_land, chain_needed, chain_push, chain_raise, chain_tail, chain_take_stores, slots_land}
use Rattle.stores.proofs.Laws.Slots.{slots_leave_one}

-- ── Memory, and the stores above it ─────────────────────────────────────────────────────────────────────────────────────────

-- What lies below the buffer: memory, as thieves load it, and the stores between memory and the buffer, oldest first (none, or that of a
-- register behind the buffer). To the worker these have landed: the slots and the tail that it loads past its buffer are memory's after them.
pub record Memory : Type 0 where
  pub front : List Store
  pub tail : Index
  pub slots : List ℕ

-- all stores that have not reached memory, oldest first
abbrev pub unlanded : Memory → StoreBuffer → List Store
unlanded g b = g.front ++ pending b

-- Those stores, from memory's tail to the worker's.
pub record Pending (z : Sizes) (g : Memory) (tail : Index) (b : StoreBuffer) : Type 0 where
  -- memory's tail
  pub landed : ℕ
  -- the tail as the worker loads it
  pub seen : ℕ
  -- the stores that are due before the first pending take store
  pub due : ℕ
  -- the pending take stores
  pub dips : ℕ
  -- the stores that are due behind the last before another take store
  pub owed : ℕ
  -- an index above that of every pending slot store
  pub bound : ℕ
  pub tail_is_lem : g.tail ≡ idx landed
  pub tail_after_lem : foldl (λ i a. tail_after i a.kind) g.tail g.front ≡ tail
  -- from memory's tail the stores lead to the worker's, and their take stores are spaced
  pub chain : Chain z.spacing bound landed due (unlanded g b) dips owed seen
  pub few : due ≤ z.spacing
  -- no more are pending than the buffer holds, and they lie within its array
  pub fits : b.count ≤ z.buffer
  pub cells : length b.stores ≡ 64
  -- each is in range, and so is memory's tail
  pub ranged : all (λ a. store_in_range a.kind) (unlanded g b) ≡ true
  pub tail_ranged : index_in_range g.tail ≡ true

-- ── At first, and how many are of takes ─────────────────────────────────────────────────────────────────────────────────────

-- none is pending, and the tail is at start
abbrev pub none_pending : (z : Sizes) (slots : List ℕ) → z.start ≤ 2147483647 → Pending z (record { front = []; tail = index_of z.start; slots = slots }) (index_of z.start) empty_buffer
none_pending z slots most =
    record {
      landed = z.start + 1;
      seen = z.start + 1;
      due = 0;
      dips = 0;
      owed = 0;
      bound = 0;
      tail_is_lem = idx_of z.start;
      tail_after_lem = refl;
      chain = none zero-le;
      few = zero-le;
      fits = zero-le;
      cells = refl;
      ranged = refl;
      tail_ranged = index_ranged (index_of z.start) (z.start + 1) (idx_of z.start) (omega arith);
    }

-- with nothing below the buffer, the take stores that are pending are at most as many as the needed margin
pub takes_needed : {z : Sizes} {i t : Index} {slots : List ℕ} {b : StoreBuffer} → Pending z (record { front = []; tail = i; slots = slots }) t b
    → take_stores i (pending b) ≤ needed_margin z.buffer z.spacing
takes_needed {z = z} {b = b} v =
    let short : length (pending b) ≤ z.buffer = simp length-take (omega (arith, v.fits)) in
    omega (arith, ap (λ i. take_stores i (pending b)) v.tail_is_lem, chain_take_stores v.chain, chain_needed z.buffer v.few short v.chain)

-- ── One more ────────────────────────────────────────────────────────────────────────────────────────────────────────────────

module _ {z : Sizes} {g : Memory} {t : Index} {b : StoreBuffer} (v : Pending z g t b) where
  -- the tail as the worker loads it
  pub seen_tail : newest_tail t b ≡ idx v.seen
  seen_tail =
      ap (λ i. newest_tail i b) (sym v.tail_after_lem)
      ∙ sym (foldl-append (λ i a. tail_after i a.kind) g.tail g.front (pending b))
      ∙ ap (λ i. foldl (λ i a. tail_after i a.kind) i (unlanded g b)) v.tail_is_lem
      ∙ chain_tail v.chain

  module _ (sizes : SizeBounds z) (room : b.count < z.buffer) where
    pub inside_cells : b.count < length b.stores
    inside_cells = omega arith

    -- a pushed store is the newest of all
    pub behind : (a : Store) → unlanded g (push a b) ≡ unlanded g b ++ (a ∷ [])
    behind a = ap (λ l. g.front ++ l) (push_pending a b inside_cells) ∙ sym (append_assoc g.front (pending b) (a ∷ []))

    -- a store more, which is a link of the chain
    abbrev pub pushing :
        (a : Store) (bound dip owed seen : ℕ) → v.bound ≤ bound → store_in_range a.kind ≡ true
        → ((c : ℕ) → c ≤ v.owed → Chain z.spacing bound v.seen c (a ∷ []) dip owed seen)
        → Pending z g t (push a b)
    pushing a bound dip owed seen higher ranged link =
        record {
          landed = v.landed;
          seen = seen;
          due = v.due;
          dips = v.dips + dip;
          owed = owed;
          bound = bound;
          tail_is_lem = v.tail_is_lem;
          tail_after_lem = v.tail_after_lem;
          chain = rw (behind a) (chain_push link (chain_raise bound higher v.chain));
          few = v.few;
          fits = omega arith;
          cells = length-set b.stores b.count a ∙ v.cells;
          ranged = rw (behind a, all_snoc (λ a. store_in_range a.kind) (unlanded g b) a, v.ranged) ranged;
          tail_ranged = v.tail_ranged;
        }

    -- ── A store to the tail ─────────────────────────────────────────────────────────────────────────────────────────────────────

    -- with a link of the chain from the worker's tail to u
    abbrev pub storing_tail :
        (u dip owed : ℕ) → u ≤ 2147483649
        → ((c : ℕ) → c ≤ v.owed → Chain z.spacing v.bound v.seen c (tail_store (idx u) ∷ []) dip owed u)
        → Pending z g t (push (tail_store (idx u)) b)
    storing_tail u dip owed most link =
        pushing (tail_store (idx u)) v.bound dip owed u (le_refl v.bound) (idx_in_range u ∙ le-leb u 2147483649 most) link

    -- a raised tail is always a link, and one of the stores that are due
    abbrev pub raising : (u : ℕ) → v.seen < u → u ≤ 2147483649 → Pending z g t (push (tail_store (idx u)) b)
    raising u higher most = storing_tail u 0 (v.owed - 1) most (λ c few. up u higher (none (omega arith)))

  -- a tail one lower is one where no store is due before it
  pub lowering :
      1 ≤ v.seen → v.owed ≤ 0 → (c : ℕ) → c ≤ v.owed
      → Chain z.spacing v.bound v.seen c (tail_store (idx (v.seen - 1)) ∷ []) 1 z.spacing (v.seen - 1)
  lowering some none-due c few =
      let positive : suc (v.seen - 1) ≡ v.seen = omega arith in
      subst (λ u. Chain z.spacing v.bound u c (tail_store (idx (v.seen - 1)) ∷ []) 1 z.spacing (v.seen - 1)) positive
      (down (omega arith) (none (le_refl z.spacing)))

-- ── One less ────────────────────────────────────────────────────────────────────────────────────────────────────────────────

-- Of the stores `old` above the memory of g, `new` are left above that of g': they lead to the same tail of the worker's, and what has gone was
-- to no slot that a thief is about to load.
pub record Shift (z : Sizes) (bound owed seen : ℕ) (g g' : Memory) (old new : List Store) : Type 0 where
  pub landed : ℕ
  pub due : ℕ
  pub dips : ℕ
  pub tail_is_lem : g'.tail ≡ idx landed
  pub chain : Chain z.spacing bound landed due new dips owed seen
  pub few : due ≤ z.spacing
  pub ranged : all (λ a. store_in_range a.kind) new ≡ true
  pub tail_ranged : index_in_range g'.tail ≡ true
  pub memory : length g'.slots ≡ length g.slots
  pub within : (lo : ℕ) → SlotsWithin lo bound old → SlotsWithin lo bound new
  pub leaves :
      (lo : ℕ) → 1 ≤ lo → bound ≤ lo + z.slots → slot_of z.slots (idx lo) < length g.slots → SlotsWithin lo bound old
      → get_or g'.slots (slot_of z.slots (idx lo)) 0 ≡ get_or g.slots (slot_of z.slots (idx lo)) 0

-- the memory of g after a store, below the stores f
abbrev pub landing : ℕ → Memory → Store → List Store → Memory
landing n g a f = record { front = f; tail = tail_after g.tail a.kind; slots = slots_after n g.slots a.kind }

module _ {z : Sizes} {g : Memory} {t : Index} {b : StoreBuffer} (v : Pending z g t b) where
  -- all stay
  pub shift_none : (f new : List Store) → unlanded g b ≡ new
      → Shift z v.bound v.owed v.seen g (record { front = f; tail = g.tail; slots = g.slots }) (unlanded g b) new
  shift_none f new same =
      record {
        landed = v.landed;
        due = v.due;
        dips = v.dips;
        tail_is_lem = v.tail_is_lem;
        chain = subst (λ l. Chain z.spacing v.bound v.landed v.due l v.dips v.owed v.seen) same v.chain;
        few = v.few;
        ranged = subst (λ l. all (λ a. store_in_range a.kind) l ≡ true) same v.ranged;
        tail_ranged = v.tail_ranged;
        memory = refl;
        within = λ lo k. subst (SlotsWithin lo v.bound) same k;
        leaves = λ lo some window there k. refl;
      }

  -- the oldest lands
  pub shift_land : (a : Store) (f new : List Store) → unlanded g b ≡ a ∷ new
      → Shift z v.bound v.owed v.seen g (landing z.slots g a f) (unlanded g b) new
  shift_land a f new first =
      let lands = chain_land v.few (subst (λ l. Chain z.spacing v.bound v.landed v.due l v.dips v.owed v.seen) first v.chain) in
      let ranged : (store_in_range a.kind && all (λ a. store_in_range a.kind) new) ≡ true = sym (ap (all (λ a. store_in_range a.kind)) first) ∙ v.ranged in
      record {
        landed = lands.memory;
        due = lands.due;
        dips = lands.dips;
        tail_is_lem = ap (λ i. tail_after i a.kind) v.tail_is_lem ∙ lands.lands;
        chain = lands.chain;
        few = lands.few;
        ranged = and_right (store_in_range a.kind) _ ranged;
        tail_ranged = tail_after_in_range g.tail a.kind v.tail_ranged (and_left (store_in_range a.kind) _ ranged);
        memory = slots_after-length z.slots g.slots a.kind;
        within = λ lo k. slots_land (subst (SlotsWithin lo v.bound) first k);
        leaves = λ lo some window there k.
            slots_after-slot_after z.slots (slot_of z.slots (idx lo)) g.slots a.kind there
            ∙ slots_leave_one z.slots lo _ some window (subst (SlotsWithin lo v.bound) first k);
      }

  -- .. so that what is left leads to the worker's tail
  abbrev pub shifted :
      {g' : Memory} {u : Index} {b' : StoreBuffer} → Shift z v.bound v.owed v.seen g g' (unlanded g b) (unlanded g' b')
      → foldl (λ i a. tail_after i a.kind) g'.tail g'.front ≡ u → b'.count ≤ z.buffer → length b'.stores ≡ 64
      → Pending z g' u b'
  shifted d tail_after_lem fits cells =
      record {
        landed = d.landed;
        seen = v.seen;
        due = d.due;
        dips = d.dips;
        owed = v.owed;
        bound = v.bound;
        tail_is_lem = d.tail_is_lem;
        tail_after_lem = tail_after_lem;
        chain = d.chain;
        few = d.few;
        fits = fits;
        cells = cells;
        ranged = d.ranged;
        tail_ranged = d.tail_ranged;
      }

  -- ── A drain of the buffer ───────────────────────────────────────────────────────────────────────────────────────────────────

  module _ (sizes : SizeBounds z) (some : 0 < b.count) where
    pub within_cells : b.count ≤ length b.stores
    within_cells = omega (arith, v.fits, v.cells, sizes.buffer_most)

    -- the oldest store of the buffer, and the others
    pub first : pending b ≡ oldest b ∷ pending (drop_oldest b)
    first = pending_dropped b some within_cells

    pub drained_fits : (drop_oldest b).count ≤ z.buffer
    drained_fits = omega (arith, v.fits)

    pub drained_cells : length (drop_oldest b).stores ≡ 64
    drained_cells = simp (length-append, length-drop, length-take) (omega (arith, v.fits, v.cells, sizes.buffer_most))
