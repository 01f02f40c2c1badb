-- What depends on no task's number, on any machine: stores, the store buffer and slots whose tasks are numbered anew; and a queue whose machines can be numbered anew is blind to numbers.
use mathlib.Core.Path.{◌≡◌, refl, ap, sym, ◌∙◌}
use mathlib.Core.Bool.{Bool, cond, ◌&&◌}
use mathlib.Core.List.{List, [], ◌∷◌, map, map-append}
use Prim.Native.Nat.{ℕ}
use lib.Dec.{eqb}
use lib.ListN.{get_or-map, get_or, replicate}
use Rattle.terms.specs.Kinds.{thief_is_there}
use Rattle.terms.specs.Lists.{all}
use Rattle.terms.proofs.Laws.Tests.{cond_map}
use Rattle.terms.proofs.Laws.Lists.{all_map, foldl_map, map-drop, map-replicate, map-set, map_take}
use Rattle.stores.specs.Index.{slot_of}
use Rattle.stores.specs.Load.{memory_load, worker_load}
use Rattle.stores.specs.Look.{memory_in_range}
use Rattle.stores.specs.Spacing.{counted_in}
use Rattle.stores.specs.StoreBuffer.{client_store, drop_oldest, newest_tail, oldest, pending, pushed_in, slot_after, slots_after, store_in_range, tail_after}
use Rattle.claim.specs.Implementation.{Implementation}
use Rattle.claim.specs.Run.{outcomes_of}
use Rattle.properties.specs.Types.{Entry, Drain, ClientStore, BeginPut, BeginTake, WorkerStep, BeginSteal, ThiefStep, Index, Option, None, Some, Sizes, Store, StoreBuffer, StoreKind, Client, Tail, Slot, Maker, Spacing}
use Rattle.properties.specs.Renumbering.{BlindToNumbers, renumber_entry, renumber_outcome}

-- a choice by a test that comes out the same
pub choice_renumber : {A B : Type 0} (g : A → B) {t u : Bool} {x y : A} {v w : B} → t ≡ u → v ≡ g x → w ≡ g y → cond t v w ≡ g (cond u x y)
choice_renumber g {u = u} same one other = rw same (cond_map g u one other)

-- ── Stores numbered anew by f ───────────────────────────────────────────────────────────────────────────────────────────────

module _ (f : ℕ → ℕ) where
  abbrev pub renumber_kind : StoreKind → StoreKind
  renumber_kind Client = Client
  renumber_kind (Tail t) = Tail t
  renumber_kind (Slot x i) = Slot (f x) i

  abbrev pub renumber_store : Store → Store
  renumber_store s = record { kind = renumber_kind s.kind }

  abbrev pub renumber_buffer : StoreBuffer → StoreBuffer
  renumber_buffer b = record { stores = map renumber_store b.stores; count = b.count }

  abbrev pub renumber_push : Option (Maker × StoreKind) → Option (Maker × StoreKind)
  renumber_push None = None
  renumber_push (Some (w, k)) = Some (w, renumber_kind k)

  -- ── What looks at no number comes out the same ──────────────────────────────────────────────────────────────────────────────

  -- a function that has the same value wherever a number stands has the same value at an entry, and at a kind of store

  entry_blind : {A : Type 0} (g : Entry → A) → ((x : ℕ) → g (BeginPut (f x)) ≡ g (BeginPut x)) → (e : Entry) → g (renumber_entry f e) ≡ g e
  entry_blind g put Drain = refl
  entry_blind g put ClientStore = refl
  entry_blind g put (BeginPut x) = put x
  entry_blind g put BeginTake = refl
  entry_blind g put WorkerStep = refl
  entry_blind g put (BeginSteal i) = refl
  entry_blind g put (ThiefStep i) = refl

  kind_blind : {A : Type 0} (g : StoreKind → A) → ((i : Index) (x : ℕ) → g (Slot (f x) i) ≡ g (Slot x i))
      → (k : StoreKind) → g (renumber_kind k) ≡ g k
  kind_blind g slot Client = refl
  kind_blind g slot (Tail t) = refl
  kind_blind g slot (Slot x i) = slot i x

  pending_renumber : (b : StoreBuffer) → pending (renumber_buffer b) ≡ map renumber_store (pending b)
  pending_renumber b = map_take renumber_store b.count b.stores

  -- whether the pending stores are in range
  ranged_renumber : (b : StoreBuffer) → all (λ s. store_in_range s.kind) (pending (renumber_buffer b)) ≡ all (λ s. store_in_range s.kind) (pending b)
  ranged_renumber b =
      rw (pending_renumber b)
      (all_map renumber_store (λ s. store_in_range s.kind) (λ s. kind_blind store_in_range (λ i x. refl) s.kind) (pending b))

  -- .. and all else that is tested and lies in no call
  pub memory_renumber : (z : Sizes) (head tail : Index) (b : StoreBuffer) (p : Spacing) → memory_in_range z head tail (renumber_buffer b) p ≡ memory_in_range z head tail b p
  unfolding memory_in_range
  memory_renumber z head tail b p = rw (ranged_renumber b)

  -- the tail after a store, and as the worker loads it

  tail_after_renumber : (t : Index) (k : StoreKind) → tail_after t (renumber_kind k) ≡ tail_after t k
  tail_after_renumber t = kind_blind (tail_after t) (λ i x. refl)

  pub tail_renumber : (t : Index) (b : StoreBuffer) → newest_tail t (renumber_buffer b) ≡ newest_tail t b
  tail_renumber t b =
      rw (pending_renumber b)
      (foldl_map renumber_store (λ t. t) _ _ (λ t s. tail_after_renumber t s.kind) t (pending b))

  -- an entry is looked at where the machine is in range and the entry's thief is there
  pub looked_at_renumber : {D : Type 0} (g : D → D) (s : Sizes) (e : Entry) {t u : Bool} {x y v w : D} → t ≡ u → v ≡ g x → w ≡ g y
      → cond (t && thief_is_there s (renumber_entry f e)) v w ≡ g (cond (u && thief_is_there s e) x y)
  looked_at_renumber g s e ranged = choice_renumber g (λ i. ranged i && entry_blind (thief_is_there s) (λ x. refl) e i)

  -- ── What an entry changes comes out numbered anew ───────────────────────────────────────────────────────────────────────────

  -- a store becomes pending, if there is one
  pub push_renumber : (p : Option (Maker × StoreKind)) (b : StoreBuffer) → pushed_in (renumber_push p) (renumber_buffer b) ≡ renumber_buffer (pushed_in p b)
  push_renumber None b = refl
  push_renumber (Some (w, k)) b = rw (map-set renumber_store b.stores b.count (record { kind = k }))

  -- .. and counts by who made it
  pub count_renumber : (p : Option (Maker × StoreKind)) (s : Spacing) → counted_in (renumber_push p) s ≡ counted_in p s
  count_renumber None s = refl
  count_renumber (Some (w, k)) s = refl

  -- a drain: what the oldest store leaves in the slots, the oldest store, and the others

  slots_renumber : (n : ℕ) (l : List ℕ) (k : StoreKind) → slots_after n (map f l) (renumber_kind k) ≡ map f (slots_after n l k)
  slots_renumber n l Client = refl
  slots_renumber n l (Tail t) = refl
  slots_renumber n l (Slot x i) = map-set f l (slot_of n i) x

  oldest_renumber : (b : StoreBuffer) → oldest (renumber_buffer b) ≡ renumber_store (oldest b)
  oldest_renumber b = get_or-map renumber_store b.stores 0 client_store

  drop_oldest_renumber : (b : StoreBuffer) → drop_oldest (renumber_buffer b) ≡ renumber_buffer (drop_oldest b)
  drop_oldest_renumber b = simp (map-append, map-drop, map_take)

  -- .. and so what is made of slots, tail and buffer after it
  pub drained_renumber : {A : Type 0} (made : List ℕ → Index → StoreBuffer → A) (n : ℕ) (slots : List ℕ) (t : Index) (b : StoreBuffer)
      → made (slots_after n (map f slots) (oldest (renumber_buffer b)).kind) (tail_after t (oldest (renumber_buffer b)).kind) (drop_oldest (renumber_buffer b))
      ≡ made (map f (slots_after n slots (oldest b).kind)) (tail_after t (oldest b).kind) (renumber_buffer (drop_oldest b))
  drained_renumber made n slots t b =
      let k = (oldest b).kind in
      rw (oldest_renumber b, slots_renumber n slots k, tail_after_renumber t k, drop_oldest_renumber b)

  -- what a pending store makes of the value loaded from a slot
  slot_renumber : (n k v : ℕ) (s : StoreKind) → slot_after n k (f v) (renumber_kind s) ≡ f (slot_after n k v s)
  slot_renumber n k v Client = refl
  slot_renumber n k v (Tail t) = refl
  slot_renumber n k v (Slot x i) = cond_map f (eqb (slot_of n i) k) refl refl

  -- ── With 0 for 0: a slot that holds no task holds 0 ─────────────────────────────────────────────────────────────────────────
  module _ (zero-kept : f 0 ≡ 0) where
    -- slots as they are at first
    pub zeros_renumber : (n : ℕ) → map f (replicate n 0) ≡ replicate n 0
    zeros_renumber n = map-replicate f n 0 ∙ ap (replicate n) zero-kept

    -- what a thief and what the worker load from the slot of an index

    pub thief_load_renumber : (n : ℕ) (slots : List ℕ) (i : Index) → memory_load n (map f slots) i ≡ f (memory_load n slots i)
    thief_load_renumber n slots i = let k = slot_of n i in ap (get_or (map f slots) k) (sym zero-kept) ∙ get_or-map f slots k 0

    pub worker_load_renumber : (n : ℕ) (slots : List ℕ) (b : StoreBuffer) (i : Index) → worker_load n (map f slots) (renumber_buffer b) i ≡ f (worker_load n slots b i)
    worker_load_renumber n slots b i =
        rw (thief_load_renumber n slots i, pending_renumber b)
        (foldl_map renumber_store f _ _ (λ v s. slot_renumber n (slot_of n i) v s.kind) (memory_load n slots i) (pending b))

    -- .. and what is loaded where a step may load from no slot, which is 0
    pub loads_renumber : (g h : Option Index → ℕ) → g None ≡ 0 → h None ≡ 0 → ((i : Index) → g (Some i) ≡ f (h (Some i))) → (l : Option Index) → g l ≡ f (h l)
    loads_renumber g h none none' load None = none ∙ sym zero-kept ∙ ap f (sym none')
    loads_renumber g h none none' load (Some i) = load i

-- ── A queue ─────────────────────────────────────────────────────────────────────────────────────────────────────────────────

-- The machines of a queue can be numbered anew by f: an entry numbered anew does to one what the entry does, numbered anew.
pub record Renumbers {M : Type 0} (b : Implementation M Entry) (f : ℕ → ℕ) : Type 0 where
  pub renumber : M → M
  pub next_renumber : (m : M) (e : Entry) → b.next (renumber m) (renumber_entry f e) ≡ renumber (b.next m e)
  pub outcome_renumber : (m : M) (e : Entry) → b.outcome (renumber m) (renumber_entry f e) ≡ renumber_outcome f (b.outcome m e)
  -- the fresh machine holds no number but 0
  pub fresh_renumber : (s : Sizes) → renumber (b.fresh s) ≡ b.fresh s

module _ {M : Type 0} (b : Implementation M Entry) where
  outcomes_renumber : {f : ℕ → ℕ} (r : Renumbers b f) (m : M) (es : List Entry)
      → outcomes_of b (r.renumber m) (map (renumber_entry f) es) ≡ map (renumber_outcome f) (outcomes_of b m es)
  outcomes_renumber r m [] = refl
  outcomes_renumber r m (e ∷ es) =
      rw (r.next_renumber m e) (λ i. r.outcome_renumber m e i ∷ outcomes_renumber r (b.next m e) es i)

  -- So no outcome depends on a number, where that is so by every f that keeps 0.
  pub blind_by_renumbering : ((f : ℕ → ℕ) → f 0 ≡ 0 → Renumbers b f) → BlindToNumbers b
  blind_by_renumbering renumbers f zero-kept s es =
      let r = renumbers f zero-kept in
      ap (λ m. outcomes_of b m (map (renumber_entry f) es)) (sym (r.fresh_renumber s)) ∙ outcomes_renumber r (b.fresh s) es
