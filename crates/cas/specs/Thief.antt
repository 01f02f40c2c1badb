-- Each step of a steal: what it does, from what the thief sees. Renders, of request 5 in 02, the sentence on the steal (002's Figure 4); and 5 of "The numbers" in 01 for it. No step of a thief's waits: there is no lock, and its swap needs nothing.
use Rattle.std.specs.Prelude.{◌≡◌, Bool, true, false, cond, ℕ, pos, ◌-ℤ◌}
use Rattle.std.specs.Int.Signed.{le_z}
use Rattle.stores.specs.Index.{eq_z, index_in_range, next, slot_index_in_range}
use Rattle.cas.specs.Types.{Index, Option, None, Some, Outcome, Moved, Place, Task, Empty, Abort, Thief, ThiefCall, StealLoadHead, StealLoadTail, StealLoadSlot, StealSwapHead, ThiefView, ThiefMove}

abbrev pub idle_thief : Thief
idle_thief = record { call = ThiefCall.Idle }

-- an index is a slot's where the next step loads from its slot; otherwise it is one of head
abbrev pub thief_in_range : ThiefCall → Bool
thief_in_range ThiefCall.Idle = true
thief_in_range StealLoadHead = true
thief_in_range (StealLoadTail h) = index_in_range h
thief_in_range (StealLoadSlot h) = slot_index_in_range h
thief_in_range (StealSwapHead x h) = index_in_range h

-- whether a thief's call runs
abbrev pub thief_runs : ThiefCall → Bool
thief_runs ThiefCall.Idle = false
thief_runs StealLoadHead = true
thief_runs (StealLoadTail h) = true
thief_runs (StealLoadSlot h) = true
thief_runs (StealSwapHead x h) = true

-- from which slot the next step loads
abbrev pub loads : ThiefCall → Option Index
loads ThiefCall.Idle = None
loads StealLoadHead = None
loads (StealLoadTail h) = None
loads (StealLoadSlot h) = Some h
loads (StealSwapHead x h) = None

-- what a thief's steps need of what it sees, to be computed in 64 bits
pub record ThiefViewInRange (v : ThiefView) : Type 0 where
  pub tail : index_in_range v.tail ≡ true
  pub call : thief_in_range v.call ≡ true

-- ── How a step ends ─────────────────────────────────────────────────────────────────────────────────────────────────────────

-- the entry is refused: all stays as it is
abbrev pub stays : Outcome → ThiefView → ThiefMove
stays o v = record { head = v.head; call = v.call; outcome = o }

-- the call goes on: this step is next
abbrev pub goes_on : ThiefCall → ThiefView → ThiefMove
goes_on c v = record { head = v.head; call = c; outcome = Moved }

-- the call ends with this answer
abbrev pub answers : Outcome → ThiefView → ThiefMove
answers o v = record { head = v.head; call = ThiefCall.Idle; outcome = o }

-- ── Steal ───────────────────────────────────────────────────────────────────────────────────────────────────────────────────

-- h ≥ T, for the tail T that a thief loads
abbrev pub none_above : Index → ThiefView → Bool
none_above h v = le_z v.tail.at h.at

-- T − margin ≤ h, for the margin in use
abbrev pub within_margin : Index → ThiefView → Bool
within_margin h v = le_z (v.tail.at -ℤ pos v.margin) h.at

-- step 2: look at the tail; at or below h it shows no task, and within the margin none that is sure; else the slot is next
abbrev pub steal_load_tail : Index → ThiefView → ThiefMove
steal_load_tail h v = cond (none_above h v) (answers Empty v) (cond (within_margin h v) (answers Abort v) (goes_on (StealLoadSlot h) v))

-- what a swap compares: head is h
abbrev pub is_head : Index → ThiefView → Bool
is_head h v = eq_z h.at v.head.at

-- step 4: swap head from h to h + 1, and answer with what was loaded; if head is no longer h, start over
abbrev pub steal_swap_head : ℕ → Index → ThiefView → ThiefMove
steal_swap_head x h v = cond (is_head h v) (record { head = next h; call = ThiefCall.Idle; outcome = Task x }) (goes_on StealLoadHead v)

-- the next step of a thief's call; 5 PLACE where no call runs
abbrev pub thief_move : ThiefCall → ThiefView → ThiefMove
thief_move ThiefCall.Idle v = stays Place v
-- step 1: h is what head holds
thief_move StealLoadHead v = goes_on (StealLoadTail v.head) v
thief_move (StealLoadTail h) v = steal_load_tail h v
-- step 3: load from the slot of h
thief_move (StealLoadSlot h) v = goes_on (StealSwapHead v.loaded h) v
thief_move (StealSwapHead x h) v = steal_swap_head x h v
