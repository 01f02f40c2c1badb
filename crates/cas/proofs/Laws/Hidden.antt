-- How many stores of take step 1 are pending after an entry: by what the entry changes, from what one look found before it. As far as no call goes, that is a law of the parts (`Look`, of `stores`).
use mathlib.Core.Path.{◌≡◌, ap, ◌∙◌}
use mathlib.Core.Bool.{true, false, ◌&&◌}
use Prim.Native.Nat.{ℕ, ◌≤◌, ◌<◌, zero-le}
use native.Mathlib.Nat.{le_refl}
use lib.ListN.{length}
use Rattle.terms.proofs.Laws.Tests.{either}
use Rattle.stores.specs.Index.{index_in_range}
use Rattle.stores.specs.Look.{hidden_after_drain, hidden_after_head, hidden_after_store, hidden_if}
use Rattle.stores.specs.StoreBuffer.{oldest, pending, pushed_in, take_stores}
use Rattle.stores.proofs.Laws.Look.{headed_hidden, stored_hidden}
use Rattle.stores.proofs.Laws.Look as parts
use Rattle.stores.proofs.Laws.StoreBuffer.{PushFits}
use Rattle.cas.specs.Types.{Done, Index, Look, Machine, Outcome, Option, Maker, StoreKind, Spacing, ThiefCall, WorkerCall}
use Rattle.cas.specs.Worker.{worker_in_range}
use Rattle.cas.specs.Thief.{thief_in_range}
use Rattle.cas.specs.Machine.{done, handing, hidden, in_range, look, takes_pending, with_buffer, with_head, with_spacing, with_thief, with_worker}
use Rattle.cas.specs.Entries.{drained}
use Rattle.cas.proofs.Laws.InRange.{bounds, stolen_parts, worked_parts}

-- What an operation hands back of a machine that it leaves as it was, by what a look at it has found.
pub told : (m : Machine) {seen : Look} {d : Done} (o : Outcome) → seen ≡ look m → d ≡ handing o seen.hidden m → d ≡ done o m
unfolding in_range
told m o found hands = hands ∙ ap (λ s. handing o s.hidden m) found

-- none, of a machine out of range
pub hidden_out : (m : Machine) → in_range m ≡ false → hidden m ≡ 0
hidden_out m out = ap (λ t. hidden_if t (takes_pending m)) out

-- and never more than are pending
pub hidden_pending : (m : Machine) → hidden m ≤ takes_pending m
hidden_pending m = either (λ n. n ≤ takes_pending m) (in_range m) (le_refl (takes_pending m)) zero-le

module _ (m : Machine) (ready : in_range m ≡ true) where
  -- of a machine in range it is told
  pub hidden_known : hidden m ≡ takes_pending m
  hidden_known = ap (λ t. hidden_if t (takes_pending m)) ready

  -- the worker's entry changes the pending stores, the spacing count, head and the worker's call
  pub worker_hidden : (p : Option (Maker × StoreKind)) (s : Spacing) (h : Index) (c : WorkerCall) → length m.buffer.stores ≡ 64 → PushFits m.sizes.buffer p m.buffer.count
      → hidden (with_worker c (with_head h (with_spacing s (with_buffer (pushed_in p m.buffer) m)))) ≡ hidden_after_store p s (index_in_range h && worker_in_range c) (look m)
  worker_hidden p s h c long fits =
      let k = bounds m ready in
      ap (λ t. hidden_if t (take_stores m.tail (pending (pushed_in p m.buffer)))) (worked_parts m ready p s h c)
      ∙ stored_hidden k.memory k.calls p s (index_in_range h && worker_in_range c) long fits

  -- a thief's changes head and that thief's call
  pub thief_hidden : (i : ℕ) (h : Index) (c : ThiefCall) → i < length m.thieves
      → hidden (with_thief i c (with_head h m)) ≡ hidden_after_head h (thief_in_range c) (look m)
  thief_hidden i h c there =
      let k = bounds m ready in
      ap (λ t. hidden_if t (takes_pending m)) (stolen_parts m ready i h c there) ∙ headed_hidden k.memory k.calls h (thief_in_range c)

  -- a drain changes memory and the pending stores
  pub drained_hidden : 0 < m.buffer.count → m.buffer.count ≤ length m.buffer.stores
      → hidden (drained m) ≡ hidden_after_drain m.tail (oldest m.buffer).kind (look m)
  unfolding in_range
  drained_hidden some within = let k = bounds m ready in parts.drained_hidden k.memory k.calls some within
