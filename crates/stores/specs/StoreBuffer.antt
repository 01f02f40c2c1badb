-- The store buffer. Renders, of the first paragraph of "The machine", the worker's pending stores, their drain and what the worker loads; and, of request 4 in 02, how many pending stores are of take step 1.
-- (How many may be pending: `has_room`, of each machine.) It knows no step of a queue, only which stores lower the tail; and who makes a store (`Maker`) is nothing to it.
use Rattle.std.specs.Prelude.{Bool, true, false, cond, ◌&&◌, ◌||◌, ℕ, ◌+◌, ◌-◌, eqb, leb, ltb, get_or, take, drop, set, replicate}
use mathlib.Core.List.{List, [], ◌∷◌, ◌++◌, foldl}
use Rattle.std.specs.Int.Signed.{lt_z}
use Rattle.terms.specs.Lists.{all}
use Rattle.stores.specs.Types.{Index, Scan, Store, StoreBuffer, StoreKind, Client, Tail, Slot, Option, Maker, None, Some}
use Rattle.stores.specs.Index.{index_in_range, slot_index_in_range, slot_of}

-- ── The pending stores ──────────────────────────────────────────────────────────────────────────────────────────────────────

abbrev pub client_store : Store
client_store = record { kind = Client }

abbrev pub tail_store : Index → Store
tail_store t = record { kind = Tail t }

abbrev pub slot_store : Index → ℕ → Store
slot_store i x = record { kind = Slot x i }

-- the pending stores, oldest first: all cells, where the count says more than there are
abbrev pub pending : StoreBuffer → List Store
pending b = take b.count b.stores

abbrev pub empty_buffer : StoreBuffer
empty_buffer = record { stores = replicate 64 client_store; count = 0 }

-- whether a machine may have it pending
abbrev pub store_in_range : StoreKind → Bool
store_in_range Client = true
store_in_range (Tail t) = index_in_range t
store_in_range (Slot x i) = slot_index_in_range i

-- .. of the store that an entry makes, if it makes one
abbrev pub push_in_range : Option (Maker × StoreKind) → Bool
push_in_range None = true
push_in_range (Some (maker, kind)) = store_in_range kind

-- ── First in, first out ─────────────────────────────────────────────────────────────────────────────────────────────────────

-- a new store stands behind those that are pending
abbrev pub push : Store → StoreBuffer → StoreBuffer
push s b = record { stores = set b.stores b.count s; count = b.count + 1 }

-- .. where a cell is free; else the buffer stays as it is
abbrev pub push_or_same : Store → StoreBuffer → StoreBuffer
push_or_same s b = cond (leb 64 b.count) b (push s b)

-- the buffer with the store that an entry makes, if it makes one, whoever makes it
abbrev pub pushed_in : Option (Maker × StoreKind) → StoreBuffer → StoreBuffer
pushed_in None b = b
pushed_in (Some (maker, kind)) b = push (record { kind = kind }) b

abbrev pub pushed_or_same : Option (Maker × StoreKind) → StoreBuffer → StoreBuffer
pushed_or_same None b = b
pushed_or_same (Some (maker, kind)) b = push_or_same (record { kind = kind }) b

-- the store that has been pending longest; what the first cell holds, where none is
abbrev pub oldest : StoreBuffer → Store
oldest b = get_or b.stores 0 client_store

-- the others, each a cell further to the front; the cell that becomes free holds the client store
abbrev pub drop_oldest : StoreBuffer → StoreBuffer
drop_oldest b =
    record {
      stores = drop 1 (pending b) ++ (client_store ∷ drop b.count b.stores);
      count = b.count - 1;
    }

-- .. unless none is pending, or more than there are cells: then the buffer stays as it is
abbrev pub drop_oldest_or_same : StoreBuffer → StoreBuffer
drop_oldest_or_same b = cond (ltb b.count 1 || ltb 64 b.count) b (drop_oldest b)

-- ── Memory after a store ────────────────────────────────────────────────────────────────────────────────────────────────────

-- What a store leaves in memory once it is drained, at the tail and in the n slots. A client store leaves nothing.

abbrev pub tail_after : Index → StoreKind → Index
tail_after t Client = t
tail_after t (Tail u) = u
tail_after t (Slot x i) = t

abbrev pub slots_after : ℕ → List ℕ → StoreKind → List ℕ
slots_after n slots Client = slots
slots_after n slots (Tail u) = slots
slots_after n slots (Slot x i) = set slots (slot_of n i) x

-- ── The worker's loads ──────────────────────────────────────────────────────────────────────────────────────────────────────

-- What the worker loads from a place while stores are pending (store-to-load forwarding): from memory's value on, oldest first, each
-- pending store to that place supersedes what was found so far. The place of a slot store is its slot, whichever index led there.

abbrev pub newest_tail : Index → StoreBuffer → Index
newest_tail t b = foldl (λ u s. tail_after u s.kind) t (pending b)

abbrev pub slot_after : ℕ → ℕ → ℕ → StoreKind → ℕ
slot_after n k v Client = v
slot_after n k v (Tail u) = v
slot_after n k v (Slot x i) = cond (eqb (slot_of n i) k) x v

abbrev pub newest_in_slot : ℕ → ℕ → ℕ → StoreBuffer → ℕ
newest_in_slot n k v b = foldl (λ u s. slot_after n k u s.kind) v (pending b)

-- ── How far memory lags ─────────────────────────────────────────────────────────────────────────────────────────────────────

-- the store is to the tail, and below what was there before it
abbrev pub lowers_tail : Index → StoreKind → Bool
lowers_tail t Client = false
lowers_tail t (Tail u) = lt_z u.at t.at
lowers_tail t (Slot x i) = false

-- How many of some stores, oldest first, are of take step 1: tail stores below the tail store before them or, for the first, below memory's tail. The index is memory's tail. (In a run these are the stores that take step 1
-- has made, and no others; of FF-THE that is said by who made them: `TakeStoresAreTakes`, of `properties`.)
abbrev pub take_stores : Index → List Store → ℕ
take_stores t [] = 0
take_stores t (a ∷ b) = cond (lowers_tail t a.kind) 1 0 + take_stores (tail_after t a.kind) b

-- the store that an entry makes, if it makes one, is such a store
abbrev pub push_lowers_tail : Index → Option (Maker × StoreKind) → Bool
push_lowers_tail t None = false
push_lowers_tail t (Some (maker, kind)) = lowers_tail t kind

-- What finds the worker's newest tail also tells that number, and whether every pending store is in range: one pass over them, from memory's tail on.
abbrev pub scan : Index → StoreBuffer → Scan
scan t b = record { ranged = all (λ s. store_in_range s.kind) (pending b); tail = newest_tail t b; takes = take_stores t (pending b) }

-- what one store more makes of it; for the code alone, whose loop goes by it
abbrev pub scanned : Scan → StoreKind → Scan
scanned f k = record { ranged = f.ranged && store_in_range k; tail = tail_after f.tail k; takes = cond (lowers_tail f.tail k) (f.takes + 1) f.takes }
