-- The machine: what it is at first, a machine with some of its parts replaced, what must be in range, what the parties load from it, what a step may need, how far memory lags, and what an operation hands back. Renders,
-- of 01, the first paragraph of "The machine" without its lock, the list in "Parts" of what an operation tests before all else, and what the fresh machine is; and of request 4, in 02, the number that is handed on.
use Rattle.std.specs.Prelude.{Bool, cond, ◌&&◌, List, ℕ, ltb, eqb, get_or, replicate, set}
use Rattle.terms.specs.Lists.{all}
pub use Rattle.stores.specs.Done.{handing}
use Rattle.stores.specs.Index.{index_of}
use Rattle.stores.specs.Load as load
use Rattle.stores.specs.Look.{hidden_if, look_at, memory_in_range}
use Rattle.stores.specs.Spacing.{counted_in, no_take}
use Rattle.stores.specs.StoreBuffer.{empty_buffer, newest_tail, pending, pushed_in, take_stores}
use Rattle.cas.specs.Types.{Done, Index, Option, None, Some, Look, Machine, Outcome, Wait, Maker, StoreKind, Sizes, Spacing, StoreBuffer, ThiefCall, WorkerCall}
use Rattle.cas.specs.Worker.{worker_in_range}
use Rattle.cas.specs.Thief.{idle_thief, thief_in_range}

-- ── At first ────────────────────────────────────────────────────────────────────────────────────────────────────────────────

-- slots of 0, head and tail at start, an empty buffer, no call, and no take begun
abbrev pub fresh : Sizes → Machine
fresh s =
    record {
      sizes = s;
      slots = replicate 256 0;
      head = index_of s.start;
      tail = index_of s.start;
      buffer = empty_buffer;
      spacing = no_take;
      worker = record { call = WorkerCall.Idle };
      thieves = replicate 8 idle_thief;
    }

-- ── A machine with some of its parts replaced and every other as it was ─────────────────────────────────────────────────────

abbrev pub with_head : Index → Machine → Machine
with_head h m = record { sizes = m.sizes; slots = m.slots; head = h; tail = m.tail; buffer = m.buffer; spacing = m.spacing; worker = m.worker; thieves = m.thieves }

abbrev pub with_buffer : StoreBuffer → Machine → Machine
with_buffer b m = record { sizes = m.sizes; slots = m.slots; head = m.head; tail = m.tail; buffer = b; spacing = m.spacing; worker = m.worker; thieves = m.thieves }

-- slots, tail and pending stores at once, as a drain changes them
abbrev pub with_memory : List ℕ → Index → StoreBuffer → Machine → Machine
with_memory l t b m = record { sizes = m.sizes; slots = l; head = m.head; tail = t; buffer = b; spacing = m.spacing; worker = m.worker; thieves = m.thieves }

-- what the spacing rule goes by
abbrev pub with_spacing : Spacing → Machine → Machine
with_spacing p m = record { sizes = m.sizes; slots = m.slots; head = m.head; tail = m.tail; buffer = m.buffer; spacing = p; worker = m.worker; thieves = m.thieves }

abbrev pub with_worker : WorkerCall → Machine → Machine
with_worker c m = record { sizes = m.sizes; slots = m.slots; head = m.head; tail = m.tail; buffer = m.buffer; spacing = m.spacing; worker = record { call = c }; thieves = m.thieves }

abbrev pub with_thief : ℕ → ThiefCall → Machine → Machine
with_thief i c m = record { sizes = m.sizes; slots = m.slots; head = m.head; tail = m.tail; buffer = m.buffer; spacing = m.spacing; worker = m.worker; thieves = set m.thieves i (record { call = c }) }

-- The store that an entry makes, if it makes one, is pending; if it is one that counts for the spacing rule, it does so as soon as it is pending.
abbrev pub with_store : Option (Maker × StoreKind) → Machine → Machine
with_store p m = with_spacing (counted_in p m.spacing) (with_buffer (pushed_in p m.buffer) m)

-- ── In range ────────────────────────────────────────────────────────────────────────────────────────────────────────────────

-- every index in a call
abbrev pub calls_in_range : Machine → Bool
calls_in_range m = worker_in_range m.worker.call && all (λ t. thief_in_range t.call) m.thieves

-- .. and everything else (`memory_in_range`)
unfoldable pub in_range : Machine → Bool
in_range m = memory_in_range m.sizes m.head m.tail m.buffer m.spacing && calls_in_range m

-- ── What the parties load ───────────────────────────────────────────────────────────────────────────────────────────────────

-- the tail as the worker loads it; a thief loads memory's
abbrev pub worker_tail : Machine → Index
worker_tail m = newest_tail m.tail m.buffer

-- what memory has for a thief in the slot of an index, and what the worker loads from there
abbrev pub memory_load : Machine → Index → ℕ
memory_load m i = load.memory_load m.sizes.slots m.slots i

abbrev pub worker_load : Machine → Index → ℕ
worker_load m i = load.worker_load m.sizes.slots m.slots m.buffer i

-- what a step loads: 0 where it loads from no slot
abbrev pub memory_loads : Machine → Option Index → ℕ
memory_loads m None = 0
memory_loads m (Some i) = memory_load m i

abbrev pub worker_loads : Machine → Option Index → ℕ
worker_loads m None = 0
worker_loads m (Some i) = worker_load m i

-- the call of the thief with this number
abbrev pub thief_call : Machine → ℕ → ThiefCall
thief_call m i = (get_or m.thieves i idle_thief).call

-- ── What a step may need ────────────────────────────────────────────────────────────────────────────────────────────────────

-- a new pending store has a place in the list
abbrev pub has_room : Machine → Bool
has_room m = ltb m.buffer.count m.sizes.buffer

abbrev pub nothing_pending : Machine → Bool
nothing_pending m = eqb m.buffer.count 0

-- ── How far memory lags ─────────────────────────────────────────────────────────────────────────────────────────────────────

-- how many stores of take step 1 are pending
abbrev pub takes_pending : Machine → ℕ
takes_pending m = take_stores m.tail (pending m.buffer)

-- .. as it is handed on: 0 for a machine out of range
abbrev pub hidden : Machine → ℕ
hidden m = hidden_if (in_range m) (takes_pending m)

-- what one look at a machine finds, with which every operation begins; for the code alone
abbrev pub look : Machine → Look
look m = look_at m.sizes m.head m.tail m.buffer m.spacing (calls_in_range m)

-- ── What an operation hands back ────────────────────────────────────────────────────────────────────────────────────────────

-- the machine, the outcome, and the number for that machine
abbrev pub done : Outcome → Machine → Done
done o m = handing o (hidden m) m

-- 7 WAIT where the step's need is not met
abbrev pub needing : Bool → Machine → Done → Done
needing met m d = cond met d (done Wait m)
