-- How many stores of take step 1 are pending after an entry: by what the entry changes, from what one look found before it. As far as no call goes, that is a law of the parts (`Look`, of `stores`).
use mathlib.Core.Path.{◌≡◌, ap, sym, ◌∙◌}
use mathlib.Core.Bool.{true, false, ◌&&◌}
use Prim.Native.Nat.{ℕ, ◌≤◌, ◌<◌, zero-le}
use native.Mathlib.Nat.{le_refl}
use lib.ListN.{length}
use Rattle.terms.proofs.Laws.Lists.{&&-true, all_set}
use Rattle.terms.proofs.Laws.Tests.{either}
use Rattle.stores.specs.Look.{hidden_after_drain, hidden_after_head, hidden_after_store, hidden_if, memory_in_range}
use Rattle.stores.specs.StoreBuffer.{oldest, pending, pushed_in, take_stores}
use Rattle.stores.proofs.Laws.Look.{headed_hidden, stored_hidden}
use Rattle.stores.proofs.Laws.Look as parts
use Rattle.stores.proofs.Laws.StoreBuffer.{PushFits}
use Rattle.machine.specs.Types.{Done, Holder, Index, Look, Machine, Outcome, Option, Maker, StoreKind, Spacing, ThiefCall, WorkerCall}
use Rattle.machine.specs.InRange.{in_range}
use Rattle.machine.specs.Worker.{worker_in_range}
use Rattle.machine.specs.Thief.{thief_in_range}
use Rattle.machine.specs.Machine.{done, handing, hidden, look, takes_pending}
use Rattle.machine.specs.Update.{with_buffer, with_head, with_lock, with_spacing, with_thief, with_worker}
use Rattle.machine.specs.Entries.{drained}
use Rattle.machine.proofs.Laws.InRange.{bounds}

-- What an operation hands back, by what a look at m has found, where as many are pending as in m.
pub told : (m n : Machine) {seen : Look} {d : Done} (o : Outcome) → seen ≡ look m → hidden n ≡ hidden m → d ≡ handing o seen.hidden n → d ≡ done o n
unfolding in_range
told m n o found same hands = hands ∙ ap (λ s. handing o s.hidden n) found ∙ ap (λ h. handing o h n) (sym same)

-- none, of a machine out of range
pub hidden_out : (m : Machine) → in_range m ≡ false → hidden m ≡ 0
hidden_out m out = ap (λ t. hidden_if t (takes_pending m)) out

-- and never more than are pending
pub hidden_pending : (m : Machine) → hidden m ≤ takes_pending m
hidden_pending m = either (λ n. n ≤ takes_pending m) (in_range m) (le_refl (takes_pending m)) zero-le

module _ (m : Machine) (ready : in_range m ≡ true) where
  -- of a machine in range it is told
  pub hidden_known : hidden m ≡ takes_pending m
  hidden_known = ap (λ t. hidden_if t (takes_pending m)) ready

  -- the worker's entry changes the pending stores, the spacing count, the lock and the worker's call
  pub worker_hidden : (p : Option (Maker × StoreKind)) (s : Spacing) (l : Holder) (c : WorkerCall) → length m.buffer.stores ≡ 64 → PushFits m.sizes.buffer p m.buffer.count
      → hidden (with_worker c (with_lock l (with_spacing s (with_buffer (pushed_in p m.buffer) m)))) ≡ hidden_after_store p s (worker_in_range c) (look m)
  unfolding in_range
  worker_hidden p s l c long fits =
      let k = bounds m ready in
      let memory = memory_in_range m.sizes m.head m.tail (pushed_in p m.buffer) s in
      let calls = ap (λ t. worker_in_range c && t) k.thieves ∙ &&-true (worker_in_range c) in
      ap (λ t. hidden_if (memory && t) (take_stores m.tail (pending (pushed_in p m.buffer)))) calls ∙ stored_hidden k.memory k.calls p s (worker_in_range c) long fits

  -- a thief's changes head, the lock and that thief's call
  pub thief_hidden : (i : ℕ) (h : Index) (l : Holder) (c : ThiefCall) → i < length m.thieves
      → hidden (with_thief i c (with_lock l (with_head h m))) ≡ hidden_after_head h (thief_in_range c) (look m)
  unfolding in_range
  thief_hidden i h l c there =
      let k = bounds m ready in
      let memory = memory_in_range m.sizes h m.tail m.buffer m.spacing in
      let worker = k.worker in
      let thieves = all_set (λ t. thief_in_range t.call) m.thieves i (record { call = c }) there k.thieves in
      (λ j. hidden_if (memory && (worker j && thieves j)) (takes_pending m)) ∙ headed_hidden k.memory k.calls h (thief_in_range c)

  -- a drain changes memory and the pending stores
  pub drained_hidden : 0 < m.buffer.count → m.buffer.count ≤ length m.buffer.stores
      → hidden (drained m) ≡ hidden_after_drain m.tail (oldest m.buffer).kind (look m)
  unfolding in_range
  drained_hidden some within = let k = bounds m ready in parts.drained_hidden k.memory k.calls some within
