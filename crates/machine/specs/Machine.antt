-- The machine: what it is at first, what the parties load from it, what a step may need, how far memory lags, and what an operation hands back. Renders the first paragraph of "The machine", of
-- "Demand 3's plain queue" what the fresh machine is, and of request 4, in 02, the number that is handed on.
use Rattle.std.specs.Prelude.{Bool, cond, ℕ, ltb, eqb, get_or, replicate}
pub use Rattle.stores.specs.Done.{handing}
use Rattle.stores.specs.Index.{index_of}
use Rattle.stores.specs.Load as load
use Rattle.stores.specs.Lock.{is_nobody}
use Rattle.stores.specs.Look.{hidden_if, look_at}
use Rattle.stores.specs.Spacing.{no_take}
use Rattle.stores.specs.StoreBuffer.{empty_buffer, newest_tail, pending, take_stores}
use Rattle.machine.specs.Types.{Done, Nobody, Index, Option, None, Some, Look, Machine, Outcome, Wait, Sizes, ThiefCall, WorkerCall}
use Rattle.machine.specs.Thief.{idle_thief}
use Rattle.machine.specs.InRange.{calls_in_range, in_range}

-- ── At first ────────────────────────────────────────────────────────────────────────────────────────────────────────────────

-- slots of 0, head and tail at start, a free lock, an empty buffer, no call, and no take begun
abbrev pub fresh : Sizes → Machine
fresh s =
    record {
      sizes = s;
      slots = replicate 256 0;
      head = index_of s.start;
      tail = index_of s.start;
      lock = record { holder = Nobody };
      buffer = empty_buffer;
      spacing = no_take;
      worker = record { call = WorkerCall.Idle };
      thieves = replicate 8 idle_thief;
    }

-- ── What the parties load ───────────────────────────────────────────────────────────────────────────────────────────────────

-- the tail as the worker loads it
abbrev pub worker_tail : Machine → Index
worker_tail m = newest_tail m.tail m.buffer

-- what memory has for a thief: the tail ..
abbrev pub thief_tail : Machine → Index
thief_tail m = m.tail

-- .. and what lies in the slot of an index
abbrev pub memory_load : Machine → Index → ℕ
memory_load m i = load.memory_load m.sizes.slots m.slots i

-- what the worker loads from the slot of an index
abbrev pub worker_load : Machine → Index → ℕ
worker_load m i = load.worker_load m.sizes.slots m.slots m.buffer i

-- what a step loads: 0 where it loads from no slot
abbrev pub memory_loads : Machine → Option Index → ℕ
memory_loads m None = 0
memory_loads m (Some i) = memory_load m i

abbrev pub worker_loads : Machine → Option Index → ℕ
worker_loads m None = 0
worker_loads m (Some i) = worker_load m i

-- the call of the thief with this number
abbrev pub thief_call : Machine → ℕ → ThiefCall
thief_call m i = (get_or m.thieves i idle_thief).call

-- ── What a step may need ────────────────────────────────────────────────────────────────────────────────────────────────────

abbrev pub lock_is_free : Machine → Bool
lock_is_free m = is_nobody m.lock.holder

-- a new pending store has a place in the list
abbrev pub has_room : Machine → Bool
has_room m = ltb m.buffer.count m.sizes.buffer

abbrev pub nothing_pending : Machine → Bool
nothing_pending m = eqb m.buffer.count 0

-- ── How far memory lags ─────────────────────────────────────────────────────────────────────────────────────────────────────

-- how many stores of take step 1 are pending
abbrev pub takes_pending : Machine → ℕ
takes_pending m = take_stores m.tail (pending m.buffer)

-- .. as it is handed on: 0 for a machine out of range
abbrev pub hidden : Machine → ℕ
hidden m = hidden_if (in_range m) (takes_pending m)

-- what one look at a machine finds, with which every operation begins; for the code alone
abbrev pub look : Machine → Look
look m = look_at m.sizes m.head m.tail m.buffer m.spacing (calls_in_range m)

-- ── What an operation hands back ────────────────────────────────────────────────────────────────────────────────────────────

-- the machine, the outcome, and the number for that machine
abbrev pub done : Outcome → Machine → Done
done o m = handing o (hidden m) m

-- 7 WAIT where the step's need is not met
abbrev pub needing : Bool → Machine → Done → Done
needing met m d = cond met d (done Wait m)
