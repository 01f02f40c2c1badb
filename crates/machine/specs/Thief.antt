-- Each step of a steal: what it does, from what the thief sees. Renders, of "The machine", "Steal"; and 5 and 7 of "The numbers" for it.
use Rattle.std.specs.Prelude.{◌≡◌, Bool, true, false, cond, ℕ, pos, ◌-ℤ◌}
use Rattle.std.specs.Int.Signed.{lt_z}
use Rattle.stores.specs.Index.{index_in_range, next, slot_index_in_range}
use Rattle.stores.specs.Lock.{is_nobody}
use Rattle.machine.specs.Types.{Index, Option, None, Some, Nobody, TheThief, Outcome, Moved, Place, Wait, Task, Abort, Thief, ThiefCall, StealLock, StealLoadHead, StealRaiseHead, StealLoadTail, StealLoadSlot, StealUnlockTask, StealRestoreHead, StealUnlockAbort, ThiefView, ThiefMove}

abbrev pub idle_thief : Thief
idle_thief = record { call = ThiefCall.Idle }

abbrev pub thief_in_range : ThiefCall → Bool
thief_in_range ThiefCall.Idle = true
thief_in_range StealLock = true
thief_in_range StealLoadHead = true
thief_in_range (StealRaiseHead h) = index_in_range h
thief_in_range (StealLoadTail h) = index_in_range h
thief_in_range (StealLoadSlot h) = slot_index_in_range h
thief_in_range (StealUnlockTask x) = true
thief_in_range (StealRestoreHead h) = index_in_range h
thief_in_range StealUnlockAbort = true

-- whether a thief's call runs
abbrev pub thief_runs : ThiefCall → Bool
thief_runs ThiefCall.Idle = false
thief_runs StealLock = true
thief_runs StealLoadHead = true
thief_runs (StealRaiseHead h) = true
thief_runs (StealLoadTail h) = true
thief_runs (StealLoadSlot h) = true
thief_runs (StealUnlockTask x) = true
thief_runs (StealRestoreHead h) = true
thief_runs StealUnlockAbort = true

-- from which slot the next step loads
abbrev pub loads : ThiefCall → Option Index
loads ThiefCall.Idle = None
loads StealLock = None
loads StealLoadHead = None
loads (StealRaiseHead h) = None
loads (StealLoadTail h) = None
loads (StealLoadSlot h) = Some h
loads (StealUnlockTask x) = None
loads (StealRestoreHead h) = None
loads StealUnlockAbort = None

-- what a thief's steps need of what it sees, to be computed in 64 bits
pub record ThiefViewInRange (v : ThiefView) : Type 0 where
  pub tail : index_in_range v.tail ≡ true
  pub call : thief_in_range v.call ≡ true

-- ── How a step ends ─────────────────────────────────────────────────────────────────────────────────────────────────────────

-- the entry is refused: all stays as it is
abbrev pub stays : Outcome → ThiefView → ThiefMove
stays o v = record { head = v.head; lock = v.lock; call = v.call; outcome = o }

-- head is stored, and this step is next
abbrev pub heading : Index → ThiefCall → ThiefView → ThiefMove
heading h c v = record { head = h; lock = v.lock; call = c; outcome = Moved }

-- the call goes on: this step is next
abbrev pub goes_on : ThiefCall → ThiefView → ThiefMove
goes_on c v = heading v.head c v

-- ── Steal ───────────────────────────────────────────────────────────────────────────────────────────────────────────────────

-- step 1: take the lock
abbrev pub steal_lock : ThiefView → ThiefMove
steal_lock v = cond (is_nobody v.lock.holder) (record { head = v.head; lock = record { holder = TheThief v.me }; call = StealLoadHead; outcome = Moved }) (stays Wait v)

-- T − margin > h, for the tail T that a thief loads and the margin in use
abbrev pub keeps_margin : Index → Index → ℕ → Bool
keeps_margin h t margin = lt_z h.at (t.at -ℤ pos margin)

-- step 4: look at the tail; with the margin kept the slot is next, else head is put back
abbrev pub steal_load_tail : Index → ThiefView → ThiefMove
steal_load_tail h v = cond (keeps_margin h v.tail v.margin) (goes_on (StealLoadSlot h) v) (goes_on (StealRestoreHead h) v)

-- step 6: free the lock and answer
abbrev pub steal_unlock : Outcome → ThiefView → ThiefMove
steal_unlock o v = record { head = v.head; lock = record { holder = Nobody }; call = ThiefCall.Idle; outcome = o }

-- the next step of a thief's call; 5 PLACE where no call runs
abbrev pub thief_move : ThiefCall → ThiefView → ThiefMove
thief_move ThiefCall.Idle v = stays Place v
thief_move StealLock v = steal_lock v
-- step 2: h is what head holds
thief_move StealLoadHead v = goes_on (StealRaiseHead v.head) v
-- step 3: raise head above h
thief_move (StealRaiseHead h) v = heading (next h) (StealLoadTail h) v
thief_move (StealLoadTail h) v = steal_load_tail h v
-- step 5 with the margin kept: load from the slot of h
thief_move (StealLoadSlot h) v = goes_on (StealUnlockTask v.loaded) v
thief_move (StealUnlockTask x) v = steal_unlock (Task x) v
-- step 5 with the margin not kept: put head back
thief_move (StealRestoreHead h) v = heading h StealUnlockAbort v
thief_move StealUnlockAbort v = steal_unlock Abort v
