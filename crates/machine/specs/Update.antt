-- A machine with some of its parts replaced and every other as it was.
use Rattle.std.specs.Prelude.{List, ℕ, set}
use Rattle.stores.specs.Spacing.{counted_in}
use Rattle.stores.specs.StoreBuffer.{push, pushed_in}
use Rattle.machine.specs.Types.{Holder, Index, Machine, Option, Maker, StoreKind, Spacing, Store, StoreBuffer, ThiefCall, WorkerCall}

abbrev pub with_head : Index → Machine → Machine
with_head h m = record { sizes = m.sizes; slots = m.slots; head = h; tail = m.tail; lock = m.lock; buffer = m.buffer; spacing = m.spacing; worker = m.worker; thieves = m.thieves }

abbrev pub with_lock : Holder → Machine → Machine
with_lock l m = record { sizes = m.sizes; slots = m.slots; head = m.head; tail = m.tail; lock = record { holder = l }; buffer = m.buffer; spacing = m.spacing; worker = m.worker; thieves = m.thieves }

abbrev pub with_buffer : StoreBuffer → Machine → Machine
with_buffer b m = record { sizes = m.sizes; slots = m.slots; head = m.head; tail = m.tail; lock = m.lock; buffer = b; spacing = m.spacing; worker = m.worker; thieves = m.thieves }

-- slots, tail and pending stores at once, as a drain changes them
abbrev pub with_memory : List ℕ → Index → StoreBuffer → Machine → Machine
with_memory l t b m = record { sizes = m.sizes; slots = l; head = m.head; tail = t; lock = m.lock; buffer = b; spacing = m.spacing; worker = m.worker; thieves = m.thieves }

-- what the spacing rule goes by
abbrev pub with_spacing : Spacing → Machine → Machine
with_spacing p m = record { sizes = m.sizes; slots = m.slots; head = m.head; tail = m.tail; lock = m.lock; buffer = m.buffer; spacing = p; worker = m.worker; thieves = m.thieves }

abbrev pub with_worker : WorkerCall → Machine → Machine
with_worker c m = record { sizes = m.sizes; slots = m.slots; head = m.head; tail = m.tail; lock = m.lock; buffer = m.buffer; spacing = m.spacing; worker = record { call = c }; thieves = m.thieves }

abbrev pub with_thief : ℕ → ThiefCall → Machine → Machine
with_thief i c m = record { sizes = m.sizes; slots = m.slots; head = m.head; tail = m.tail; lock = m.lock; buffer = m.buffer; spacing = m.spacing; worker = m.worker; thieves = set m.thieves i (record { call = c }) }

-- The store that an entry makes, if it makes one, is pending. Of the spacing rule, as request 1 widens it: if it is one that counts, it does so as soon as it is pending.
abbrev pub with_store : Option (Maker × StoreKind) → Machine → Machine
with_store p m = with_spacing (counted_in p m.spacing) (with_buffer (pushed_in p m.buffer) m)

-- a store is pending, and nothing else changes
abbrev pub pushed : Store → Machine → Machine
pushed s m = with_buffer (push s m.buffer) m
