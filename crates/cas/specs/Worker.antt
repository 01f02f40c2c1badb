-- Each step of a put and of a take: what it does, from what the worker sees. Renders, of request 5 in 02, when a put is FULL and the sentence on the take (002's Figures 2a and 2c, without the fence), and of 01 the other steps of a put, what a
-- new pending store needs, and 5 and 7 of "The numbers" for them. Each store names the call that makes it, since the spacing rule goes by that (`counts`, of `stores`).
use Rattle.std.specs.Prelude.{◌≡◌, Bool, true, false, cond, ℕ, pos, ◌-ℤ◌}
use Rattle.std.specs.Int.Signed.{le_z, lt_z}
use Rattle.stores.specs.Index.{eq_z, index_in_range, next, previous, slot_index_in_range}
use Rattle.cas.specs.Types.{Index, Option, None, Some, Outcome, Moved, Place, Wait, Stored, Task, Empty, Full, End, Maker, StoreKind, APut, ATake, Tail, Slot, WorkerCall, PutLoadHead, PutStoreSlot, PutStoreTail, TakeStoreTail, TakeLoadHead, TakeLoadSlot, TakeTailToHead, TakeTailPastHead, TakeSwapHead, TakeLoadLastSlot, WorkerView, WorkerMove}

-- ── Calls ───────────────────────────────────────────────────────────────────────────────────────────────────────────────────

-- an index is a slot's where the next step loads from its slot; before that it is one of head or tail
abbrev pub worker_in_range : WorkerCall → Bool
worker_in_range WorkerCall.Idle = true
worker_in_range (PutLoadHead x) = true
worker_in_range (PutStoreSlot x) = true
worker_in_range PutStoreTail = true
worker_in_range TakeStoreTail = true
worker_in_range (TakeLoadHead t) = index_in_range t
worker_in_range (TakeLoadSlot t) = slot_index_in_range t
worker_in_range (TakeTailToHead h) = index_in_range h
worker_in_range (TakeTailPastHead t) = index_in_range t
worker_in_range (TakeSwapHead t) = index_in_range t
worker_in_range (TakeLoadLastSlot t) = slot_index_in_range t

-- whether the worker's call runs
abbrev pub worker_runs : WorkerCall → Bool
worker_runs WorkerCall.Idle = false
worker_runs (PutLoadHead x) = true
worker_runs (PutStoreSlot x) = true
worker_runs PutStoreTail = true
worker_runs TakeStoreTail = true
worker_runs (TakeLoadHead t) = true
worker_runs (TakeLoadSlot t) = true
worker_runs (TakeTailToHead h) = true
worker_runs (TakeTailPastHead t) = true
worker_runs (TakeSwapHead t) = true
worker_runs (TakeLoadLastSlot t) = true

-- from which slot the next step loads
abbrev pub loads : WorkerCall → Option Index
loads WorkerCall.Idle = None
loads (PutLoadHead x) = None
loads (PutStoreSlot x) = None
loads PutStoreTail = None
loads TakeStoreTail = None
loads (TakeLoadHead t) = None
loads (TakeLoadSlot t) = Some t
loads (TakeTailToHead h) = None
loads (TakeTailPastHead t) = None
loads (TakeSwapHead t) = None
loads (TakeLoadLastSlot t) = Some t

-- what the worker's steps need of what it sees, to be computed in 64 bits
pub record WorkerViewInRange (v : WorkerView) : Type 0 where
  pub tail : index_in_range v.tail ≡ true
  pub head : index_in_range v.head ≡ true
  pub call : worker_in_range v.call ≡ true

-- ── How a step ends ─────────────────────────────────────────────────────────────────────────────────────────────────────────

-- the entry is refused: all stays as it is
abbrev pub stays : Outcome → WorkerView → WorkerMove
stays o v = record { push = None; head = v.head; call = v.call; outcome = o }

-- the call goes on: this step is next
abbrev pub goes_on : WorkerCall → WorkerView → WorkerMove
goes_on c v = record { push = None; head = v.head; call = c; outcome = Moved }

-- the call ends with this answer
abbrev pub answers : Outcome → WorkerView → WorkerMove
answers o v = record { push = None; head = v.head; call = WorkerCall.Idle; outcome = o }

-- 7 WAIT where the step's need is not met
abbrev pub needing : Bool → WorkerView → WorkerMove → WorkerMove
needing met v d = cond met d (stays Wait v)

-- a store, which needs room
abbrev pub storing : Option (Maker × StoreKind) → Outcome → WorkerCall → WorkerView → WorkerMove
storing p o c v = needing v.room v (record { push = p; head = v.head; call = c; outcome = o })

-- ── Put ─────────────────────────────────────────────────────────────────────────────────────────────────────────────────────

-- the worker's tail has its greatest value
abbrev pub at_end : WorkerView → Bool
at_end v = eq_z v.tail.at (pos 2147483647)

-- tail − head ≥ slots
abbrev pub is_full : WorkerView → Bool
is_full v = le_z (pos v.slots) (v.tail.at -ℤ v.head.at)

-- step 1: look at head, and end there if the tail is at its end or every slot is taken
abbrev pub put_load_head : ℕ → WorkerView → WorkerMove
put_load_head x v = cond (at_end v) (answers End v) (cond (is_full v) (answers Full v) (goes_on (PutStoreSlot x) v))

-- step 2: store the number in the slot that the tail points to
abbrev pub put_store_slot : ℕ → WorkerView → WorkerMove
put_store_slot x v = storing (Some (APut, Slot x v.tail)) Moved PutStoreTail v

-- step 3: store the tail, one higher, and answer
abbrev pub put_store_tail : WorkerView → WorkerMove
put_store_tail v = storing (Some (APut, Tail (next v.tail))) Stored WorkerCall.Idle v

-- ── Take ────────────────────────────────────────────────────────────────────────────────────────────────────────────────────

-- step 1: store the tail, one lower; t is that index from here on
abbrev pub take_store_tail : WorkerView → WorkerMove
take_store_tail v = storing (Some (ATake, Tail (previous v.tail))) Moved (TakeLoadHead (previous v.tail)) v

-- t > h, for the head h that is loaded
abbrev pub is_above_head : Index → WorkerView → Bool
is_above_head t v = lt_z v.head.at t.at

-- the index is head: t = h as the head is loaded, and what a swap compares
abbrev pub is_head : Index → WorkerView → Bool
is_head t v = eq_z t.at v.head.at

-- step 2: look at head; above it the slot of t is next, at it the tail past it, below it the tail at it
abbrev pub take_load_head : Index → WorkerView → WorkerMove
take_load_head t v = cond (is_above_head t v) (goes_on (TakeLoadSlot t) v) (cond (is_head t v) (goes_on (TakeTailPastHead t) v) (goes_on (TakeTailToHead v.head) v))

-- step 3 where t < h: store tail h, and answer
abbrev pub take_tail_to_head : Index → WorkerView → WorkerMove
take_tail_to_head h v = storing (Some (ATake, Tail h)) Empty WorkerCall.Idle v

-- step 3 where t = h: store tail h + 1
abbrev pub take_tail_past_head : Index → WorkerView → WorkerMove
take_tail_past_head t v = storing (Some (ATake, Tail (next t))) Moved (TakeSwapHead t) v

-- step 4 where t = h: with nothing pending, swap head from h to h + 1; if head is no longer h, a thief has had the task
abbrev pub take_swap_head : Index → WorkerView → WorkerMove
take_swap_head t v =
    needing v.drained v
    (cond (is_head t v) (record { push = None; head = next t; call = TakeLoadLastSlot t; outcome = Moved }) (answers Empty v))

-- step 3 where t > h, and step 5 where the swap was won: load from the slot of t and answer
abbrev pub take_load_slot : WorkerView → WorkerMove
take_load_slot v = answers (Task v.loaded) v

-- the next step of the worker's call; 5 PLACE where no call runs
abbrev pub worker_move : WorkerCall → WorkerView → WorkerMove
worker_move WorkerCall.Idle v = stays Place v
worker_move (PutLoadHead x) v = put_load_head x v
worker_move (PutStoreSlot x) v = put_store_slot x v
worker_move PutStoreTail v = put_store_tail v
worker_move TakeStoreTail v = take_store_tail v
worker_move (TakeLoadHead t) v = take_load_head t v
worker_move (TakeLoadSlot t) v = take_load_slot v
worker_move (TakeTailToHead h) v = take_tail_to_head h v
worker_move (TakeTailPastHead t) v = take_tail_past_head t v
worker_move (TakeSwapHead t) v = take_swap_head t v
worker_move (TakeLoadLastSlot t) v = take_load_slot v
