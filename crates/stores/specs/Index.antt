-- Indices of the queue. Renders, of "The machine", in which slot an index lies, and, of "Parts", the ranges of indices.
use Rattle.std.specs.Prelude.{Bool, cond, ◌&&◌, ℕ, ◌%◌, ℤ, pos, negsuc, ◌+ℤ◌, ◌-ℤ◌}
use Rattle.std.specs.Int.Signed.{le_z, lt_z}
use Rattle.stores.specs.Types.{Index}

-- a natural number as an index
abbrev pub index_of : ℕ → Index
index_of n = record { at = pos n }

-- ── Ranges ──────────────────────────────────────────────────────────────────────────────────────────────────────────────────

-- not below the least, and not above the greatest that an index may be
abbrev pub index_from : ℤ → Index → Bool
index_from least i = le_z least i.at && le_z i.at (pos 2147483648)

-- a value of head or tail: from −1
abbrev pub index_in_range : Index → Bool
index_in_range i = index_from (negsuc 0) i

-- an index whose slot is stored to or loaded: from 0
abbrev pub slot_index_in_range : Index → Bool
slot_index_in_range i = index_from (pos 0) i

-- ── Neighbours and distances ────────────────────────────────────────────────────────────────────────────────────────────────

abbrev pub next : Index → Index
next i = record { at = i.at +ℤ pos 1 }

abbrev pub previous : Index → Index
previous i = record { at = i.at -ℤ pos 1 }

-- .. of an index in range; any other stays as it is
abbrev pub next_or_same : Index → Index
next_or_same i = cond (index_in_range i) (next i) i

abbrev pub previous_or_same : Index → Index
previous_or_same i = cond (index_in_range i) (previous i) i

-- two integers are equal
abbrev pub eq_z : ℤ → ℤ → Bool
eq_z a b = le_z a b && le_z b a

-- a − b ≥ d
abbrev pub above_by : Index → Index → ℕ → Bool
above_by a b d = le_z (pos d) (a.at -ℤ b.at)

-- a < b − d
abbrev pub below_by_more : Index → Index → ℕ → Bool
below_by_more a b d = lt_z a.at (b.at -ℤ pos d)

-- ── Slots ───────────────────────────────────────────────────────────────────────────────────────────────────────────────────

-- an integer modulo n: below 0 it has no slot, which 0 stands for; modulo 0 it is itself
abbrev pub modulo : ℤ → ℕ → ℕ
modulo (pos i) n = i % n
modulo (negsuc i) n = 0

-- the slot in which an index lies, of n slots
abbrev pub slot_of : ℕ → Index → ℕ
slot_of n i = modulo i.at n
