-- A machine's parts in range: what is known of them then, whether they are after an entry, and how many stores of take step 1 are pending then, by what the look before it found. They hold for any queue: each machine cites them.
use mathlib.Core.Path.{◌≡◌, refl, ap, sym, ◌∙◌}
use mathlib.Core.Bool.{Bool, true, false, cond, ◌&&◌}
use mathlib.Core.List.{List}
use Prim.Native.Nat.{ℕ, ◌+◌, ◌-◌, ◌≤◌, ◌<◌}
use native.Mathlib.Omega.{arith}
use lib.Dec.{leb, ltb}
use lib.ListN.{get_or, length, length-take}
use borrow.Author.Tests.{le-leb, leb-true, lt-ltb, ltb-true}
use Rattle.terms.specs.Lists.{all}
use Rattle.terms.specs.Sizes.{sizes_in_range}
use Rattle.terms.proofs.Laws.Lists.{&&-true, all_get_d}
use Rattle.terms.proofs.Laws.Sizes.{SizeBounds, sizes_bounds}
use Rattle.terms.proofs.Laws.Tests.{and_left, and_right}
use Rattle.stores.specs.Types.{Index, Look, None, Some, Option, Maker, StoreKind, Sizes, Spacing, StoreBuffer}
use Rattle.stores.specs.Index.{index_in_range, slot_of}
use Rattle.stores.specs.Spacing.{spacing_in_range}
use Rattle.stores.specs.StoreBuffer.{drop_oldest, lowers_tail, newest_tail, oldest, pending, push_in_range, push_lowers_tail, pushed_in, store_in_range, tail_after, take_stores}
use Rattle.stores.specs.Look.{hidden_after_drain, hidden_after_head, hidden_after_store, hidden_if, look_at, memory_in_range}
use Rattle.stores.proofs.Laws.Index.{slot_of_below}
use Rattle.stores.proofs.Laws.StoreBuffer.{drain_takes, fits_more, newest_tail_in_range, pending_dropped, PushFits, pushed_count, pushed_ranged, pushed_takes, tail_after_in_range, take_stores_most}

-- What is so of parts in range, test by test.
pub record MemoryBounds (z : Sizes) (h t : Index) (b : StoreBuffer) (p : Spacing) : Type 0 where
  pub ready : memory_in_range z h t b p ≡ true
  pub sized : sizes_in_range z ≡ true
  pub sizes : SizeBounds z
  pub count : b.count ≤ z.buffer
  pub spacing : p.count ≤ 4096
  pub head : index_in_range h ≡ true
  pub tail : index_in_range t ≡ true
  pub stores : all (λ s. store_in_range s.kind) (pending b) ≡ true

pub memory_bounds : (z : Sizes) (h t : Index) (b : StoreBuffer) (p : Spacing) → memory_in_range z h t b p ≡ true → MemoryBounds z h t b p
unfolding memory_in_range
memory_bounds z h t b p ready =
    let pending-fit = leb b.count z.buffer in
    let stores-fit = all (λ s. store_in_range s.kind) (pending b) in
    let sized = sizes_in_range z && pending-fit in
    let counted = sized && spacing_in_range p in
    let headed = counted && index_in_range h in
    let tailed = headed && index_in_range t in
    let p4 = and_left tailed stores-fit ready in
    let p3 = and_left headed (index_in_range t) p4 in
    let p2 = and_left counted (index_in_range h) p3 in
    let p1 = and_left sized (spacing_in_range p) p2 in
    let p0 = and_left (sizes_in_range z) pending-fit p1 in
    record {
      ready = ready;
      sized = p0;
      sizes = sizes_bounds z p0;
      count = leb-true b.count z.buffer (and_right (sizes_in_range z) pending-fit p1);
      spacing = leb-true p.count 4096 (and_right sized (spacing_in_range p) p2);
      head = and_right counted (index_in_range h) p3;
      tail = and_right headed (index_in_range t) p4;
      stores = and_right tailed stores-fit ready;
    }

-- What is so of a machine in range, whose parts these are: of them, of the worker's call, and of the thieves with theirs.
pub record MachineBounds {T : Type 0} (thiefRanged : T → Bool) (z : Sizes) (h t : Index) (b : StoreBuffer) (p : Spacing) (workerRanged : Bool) (ts : List T) : Type 0 where
  pub memory : MemoryBounds z h t b p
  pub calls : (workerRanged && all thiefRanged ts) ≡ true
  pub worker : workerRanged ≡ true
  pub thieves : all thiefRanged ts ≡ true

module _ {T : Type 0} {thiefRanged : T → Bool} {z : Sizes} {h t : Index} {b : StoreBuffer} {p : Spacing} {workerRanged : Bool} {ts : List T} where
  pub machine_bounds : (memory_in_range z h t b p && (workerRanged && all thiefRanged ts)) ≡ true → MachineBounds thiefRanged z h t b p workerRanged ts
  machine_bounds ready =
      let memory = memory_in_range z h t b p in
      let thieves = all thiefRanged ts in
      let calls = and_right memory (workerRanged && thieves) ready in
      record {
        memory = memory_bounds z h t b p (and_left memory (workerRanged && thieves) ready);
        calls = calls;
        worker = and_left workerRanged thieves calls;
        thieves = and_right workerRanged thieves calls;
      }

  -- a thief that is there has a cell in the array, and its call is in range
  pub thief_within : (k : MachineBounds thiefRanged z h t b p workerRanged ts) (i : ℕ) → ltb i z.thieves ≡ true → i < 8
  thief_within k i there = omega (arith, ltb-true i z.thieves there, k.memory.sizes.thieves_most)

  pub thief_call_ranged : (k : MachineBounds thiefRanged z h t b p workerRanged ts) (i : ℕ) (idle : T) → thiefRanged idle ≡ true → thiefRanged (get_or ts i idle) ≡ true
  thief_call_ranged k i idle ranged = all_get_d thiefRanged ts i idle ranged k.thieves

-- what a look at them finds
abbrev pub found : Index → StoreBuffer → Look
found t b = record { ranged = true; tail = newest_tail t b; hidden = take_stores t (pending b) }

module _ {z : Sizes} {h t : Index} {b : StoreBuffer} {p : Spacing} (k : MemoryBounds z h t b p) where
  -- ── What follows ────────────────────────────────────────────────────────────────────────────────────────────────────────────

  -- the worker's tail is in range
  pub newest_tail_in_range_lem : index_in_range (newest_tail t b) ≡ true
  newest_tail_in_range_lem = newest_tail_in_range b t k.tail k.stores

  -- the pending stores lie within their array
  pub pending_within : b.count ≤ 64
  pending_within = omega (arith, k.count, k.sizes.buffer_most)

  -- whatever the index, its slot is one of memory's
  pub slot_below : (i : Index) → slot_of z.slots i < 256
  slot_below i = omega (arith, k.sizes.slots_most, slot_of_below z.slots i k.sizes.slots_some)

  -- ── After an entry: what it changes decides whether the parts are still in range ────────────────────────────────────────────

  -- the worker's changes the pending stores, by the store that it makes, if it makes one, and the spacing count
  pub stored_memory : (made : Option (Maker × StoreKind)) (s : Spacing) → length b.stores ≡ 64 → PushFits z.buffer made b.count
      → memory_in_range z h t (pushed_in made b) s ≡ (spacing_in_range s && push_in_range made)
  unfolding memory_in_range
  stored_memory made s long fits =
      let stores = pushed_ranged t b long made (fits_more made b.count k.sizes.buffer_most fits) ∙ ap (λ u. u && push_in_range made) k.stores in
      simp (k.sized, le-leb (pushed_in made b).count z.buffer (pushed_count made b k.count fits), k.head, k.tail, stores, &&-true)

  -- another head
  pub headed_memory : (g : Index) → memory_in_range z g t b p ≡ index_in_range g
  unfolding memory_in_range
  headed_memory g =
      simp (k.sized, le-leb b.count z.buffer k.count, le-leb p.count 4096 k.spacing, k.tail, k.stores, &&-true)

  -- a drain changes memory and the pending stores, and leads nowhere out of range
  pub drained_memory : 0 < b.count → b.count ≤ length b.stores → memory_in_range z h (tail_after t (oldest b).kind) (drop_oldest b) p ≡ true
  unfolding memory_in_range
  drained_memory some within =
      let left = all (λ s. store_in_range s.kind) (pending (drop_oldest b)) in
      let split : (store_in_range (oldest b).kind && left) ≡ true = sym (ap (all (λ s. store_in_range s.kind)) (pending_dropped b some within)) ∙ k.stores in
      rw (
        k.sized,
        le-leb (b.count - 1) z.buffer (omega (arith, k.count)),
        le-leb p.count 4096 k.spacing,
        k.head,
        tail_after_in_range t (oldest b).kind k.tail (and_left (store_in_range (oldest b).kind) left split),
      )
      (and_right (store_in_range (oldest b).kind) left split)

  -- ── How many stores of take step 1 are pending after it ─────────────────────────────────────────────────────────────────────

  -- they are no more than cells
  pub takes_most : take_stores t (pending b) ≤ 64
  takes_most = let few = take_stores_most t (pending b) in omega (arith, length-take b.count b.stores, pending_within)

  module _ {calls : Bool} (called : calls ≡ true) where
    -- a look at a machine in range tells the number
    pub looked : look_at z h t b p calls ≡ found t b
    looked = λ i. record { ranged = k.ready i && called i; tail = newest_tail t b; hidden = hidden_if (k.ready i && called i) (take_stores t (pending b)) }

    -- one more, if the store that the worker's entry makes lowers the tail
    pub stored_hidden : (made : Option (Maker × StoreKind)) (s : Spacing) (call : Bool) → length b.stores ≡ 64 → PushFits z.buffer made b.count
        → hidden_if (memory_in_range z h t (pushed_in made b) s && call) (take_stores t (pending (pushed_in made b))) ≡ hidden_after_store made s call (look_at z h t b p calls)
    stored_hidden made s call long fits =
        let still = stored_memory made s long fits in
        let takes = more made fits in
        (λ i. hidden_if (still i && call) (takes i)) ∙ ap (hidden_after_store made s call) (sym looked)
      where
        n : ℕ
        n = take_stores t (pending b)

        more : (made : Option (Maker × StoreKind)) → PushFits z.buffer made b.count
            → take_stores t (pending (pushed_in made b)) ≡ cond (push_lowers_tail (newest_tail t b) made && ltb n 64) (n + 1) n
        more None fits = refl
        more (Some (w, a)) fits =
            let few = take_stores_most t (pending b) in
            let free : n < 64 = omega (arith, length-take b.count b.stores, k.sizes.buffer_most) in
            rw (lt-ltb n 64 free, &&-true) (pushed_takes t b long (Some (w, a)) (omega (arith, k.sizes.buffer_most)))

    -- as many after another head
    pub headed_hidden : (g : Index) (call : Bool)
        → hidden_if (memory_in_range z g t b p && call) (take_stores t (pending b)) ≡ hidden_after_head g call (look_at z h t b p calls)
    headed_hidden g call = let still = headed_memory g in (λ i. hidden_if (still i && call) (take_stores t (pending b))) ∙ ap (hidden_after_head g call) (sym looked)

    -- one less, if the oldest lowers memory's tail
    pub drained_hidden : 0 < b.count → b.count ≤ length b.stores
        → hidden_if (memory_in_range z h (tail_after t (oldest b).kind) (drop_oldest b) p && calls) (take_stores (tail_after t (oldest b).kind) (pending (drop_oldest b)))
        ≡ hidden_after_drain t (oldest b).kind (look_at z h t b p calls)
    drained_hidden some within =
        let still = drained_memory some within in
        let less = fewer (lowers_tail t (oldest b).kind) (take_stores t (pending b)) (take_stores (tail_after t (oldest b).kind) (pending (drop_oldest b))) (drain_takes t b some within) in
        (λ i. hidden_if (still i && called i) (less i)) ∙ ap (hidden_after_drain t (oldest b).kind) (sym looked)
      where
        fewer : (lowered : Bool) (n left : ℕ) → n ≡ cond lowered 1 0 + left → left ≡ cond lowered (n - 1) n
        fewer true n left same = omega arith
        fewer false n left same = omega arith
