-- What a machine in range is known to keep: its parts, whichever queue runs on it (`Look`, of `stores`), and its calls; and whether it is in range after an entry.
use mathlib.Core.Path.{◌≡◌, refl, ap, sym, ◌∙◌}
use mathlib.Core.Bool.{Bool, true, false, and-false, ◌&&◌}
use Prim.Native.Nat.{ℕ, ◌≤◌, ◌<◌}
use lib.Dec.{leb, ltb}
use lib.ListN.{length}
use Rattle.terms.specs.Lists.{all}
use Rattle.terms.specs.Sizes.{sizes_in_range}
use Rattle.terms.proofs.Laws.Lists.{&&-true, all_set}
use Rattle.terms.proofs.Laws.Tests.{and_left, and_right}
use Rattle.stores.specs.Index.{index_in_range}
use Rattle.stores.specs.Look.{memory_in_range}
use Rattle.stores.specs.Spacing.{spacing_in_range}
use Rattle.stores.specs.StoreBuffer.{pending, push_in_range, pushed_in, store_in_range}
use Rattle.stores.proofs.Laws.Look.{MachineBounds, drained_memory, headed_memory, machine_bounds, stored_memory, thief_call_ranged, thief_within}
use Rattle.stores.proofs.Laws.StoreBuffer.{PushFits}
use Rattle.cas.specs.Types.{Index, Machine, Option, Maker, StoreKind, Spacing, ThiefCall, WorkerCall}
use Rattle.cas.specs.Worker.{worker_in_range}
use Rattle.cas.specs.Thief.{idle_thief, thief_in_range}
use Rattle.cas.specs.Machine.{in_range, thief_call, with_buffer, with_head, with_spacing, with_thief, with_worker}
use Rattle.cas.specs.Entries.{drained}

-- What is so of a machine in range.
abbrev pub Bounds : Machine → Type 0
Bounds m = MachineBounds (λ t. thief_in_range t.call) m.sizes m.head m.tail m.buffer m.spacing (worker_in_range m.worker.call) m.thieves

pub bounds : (m : Machine) → in_range m ≡ true → Bounds m
unfolding in_range
bounds m ready = machine_bounds ready

-- what a thief's entry tests first: the machine is in range, and the thief is there. Then it has a cell in the array, and its call is in range
pub record ThiefReady (m : Machine) (i : ℕ) : Type 0 where
  pub ready : in_range m ≡ true
  pub below : i < 8
  pub call : thief_in_range (thief_call m i) ≡ true

pub thief_ready : (m : Machine) (i : ℕ) → (in_range m && ltb i m.sizes.thieves) ≡ true → ThiefReady m i
thief_ready m i p =
    let ready = and_left (in_range m) (ltb i m.sizes.thieves) p in
    let k = bounds m ready in
    record { ready = ready; below = thief_within k i (and_right (in_range m) (ltb i m.sizes.thieves) p); call = thief_call_ranged k i idle_thief refl }

-- ── After an entry: what it changes decides whether the machine is still in range ───────────────────────────────────────────

-- The test of a new head stands among those of the parts. It may as well stand beside that of the worker's call, and that of the old head, which passed, in its place.
head_last : (before head tail stores call : Bool) → (before && head && tail && stores && (call && true)) ≡ (before && true && tail && stores && (head && call))
head_last true true tail stores call = ap (λ t. tail && stores && t) (&&-true call)
head_last true false tail stores call = sym (and-false (tail && stores))
head_last false head tail stores call = refl

module _ (m : Machine) (ready : in_range m ≡ true) where
  -- the worker's changes the pending stores, by the store that it makes, if it makes one, the spacing count, head and the worker's call ..
  pub worked_parts : (p : Option (Maker × StoreKind)) (s : Spacing) (h : Index) (c : WorkerCall)
      → in_range (with_worker c (with_head h (with_spacing s (with_buffer (pushed_in p m.buffer) m))))
      ≡ (memory_in_range m.sizes m.head m.tail (pushed_in p m.buffer) s && (index_in_range h && worker_in_range c))
  unfolding in_range memory_in_range
  worked_parts p s h c =
      let k = bounds m ready in
      let before = sizes_in_range m.sizes && leb (pushed_in p m.buffer).count m.sizes.buffer && spacing_in_range s in
      let stores = all (λ a. store_in_range a.kind) (pending (pushed_in p m.buffer)) in
      let behind : Bool → Bool → Bool = λ head calls. before && head && index_in_range m.tail && stores && calls in
      ap (λ t. behind (index_in_range h) (worker_in_range c && t)) k.thieves
      ∙ head_last before (index_in_range h) (index_in_range m.tail) stores (worker_in_range c)
      ∙ ap (λ t. behind t (index_in_range h && worker_in_range c)) (sym k.memory.head)

  -- .. a thief's head and that thief's call ..
  pub stolen_parts : (i : ℕ) (h : Index) (c : ThiefCall) → i < length m.thieves
      → in_range (with_thief i c (with_head h m)) ≡ (memory_in_range m.sizes h m.tail m.buffer m.spacing && thief_in_range c)
  unfolding in_range
  stolen_parts i h c there =
      let k = bounds m ready in
      let memory = memory_in_range m.sizes h m.tail m.buffer m.spacing in
      let worker = k.worker in
      let thieves = all_set (λ t. thief_in_range t.call) m.thieves i (record { call = c }) there k.thieves in
      λ j. memory && (worker j && thieves j)

  -- .. so that it is, where these are
  pub worker_ranged : (p : Option (Maker × StoreKind)) (s : Spacing) (h : Index) (c : WorkerCall) → length m.buffer.stores ≡ 64 → PushFits m.sizes.buffer p m.buffer.count
      → in_range (with_worker c (with_head h (with_spacing s (with_buffer (pushed_in p m.buffer) m)))) ≡ (spacing_in_range s && push_in_range p && (index_in_range h && worker_in_range c))
  worker_ranged p s h c long fits =
      worked_parts p s h c ∙ ap (λ t. t && (index_in_range h && worker_in_range c)) (stored_memory (bounds m ready).memory p s long fits)

  pub thief_ranged : (i : ℕ) (h : Index) (c : ThiefCall) → i < length m.thieves → in_range (with_thief i c (with_head h m)) ≡ (index_in_range h && thief_in_range c)
  thief_ranged i h c there = stolen_parts i h c there ∙ ap (λ t. t && thief_in_range c) (headed_memory (bounds m ready).memory h)

  -- a drain changes memory and the pending stores, and leads nowhere out of range
  pub drained_ranged : 0 < m.buffer.count → m.buffer.count ≤ length m.buffer.stores → in_range (drained m) ≡ true
  unfolding in_range
  drained_ranged some within =
      let k = bounds m ready in
      let memory = drained_memory k.memory some within in
      let calls = k.calls in
      λ j. memory j && calls j
