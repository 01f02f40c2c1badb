-- What the parties load from slots. Renders, of the first paragraph of "The machine", the loads of thieves and worker; and, of "Demand 3's plain queue", the tasks that lie in the slots between two indices.
use Rattle.std.specs.Prelude.{List, map, ℕ, ℤ, pos, negsuc, ◌+ℤ◌, ◌-ℤ◌, get_or}
use Rattle.terms.specs.Lists.{range}
use Rattle.stores.specs.Types.{Index, StoreBuffer}
use Rattle.stores.specs.Index.{slot_of}
use Rattle.stores.specs.StoreBuffer.{newest_in_slot}

-- what memory, of n slots, has in the slot of an index
abbrev pub memory_load : ℕ → List ℕ → Index → ℕ
memory_load n slots i = get_or slots (slot_of n i) 0

-- what the worker loads from there: the newest pending store to that slot, or what memory has
abbrev pub worker_load : ℕ → List ℕ → StoreBuffer → Index → ℕ
worker_load n slots b i = newest_in_slot n (slot_of n i) (memory_load n slots i) b

-- a difference of two indices as a number of steps up, which is none where it is negative
abbrev pub steps_up : ℤ → ℕ
steps_up (pos n) = n
steps_up (negsuc n) = 0

-- what is loaded from the slots of an index up to, and without, another
abbrev pub loaded_between : (Index → ℕ) → Index → Index → List ℕ
loaded_between load from to = map (λ k. load (record { at = from.at +ℤ pos k })) (range (steps_up (to.at -ℤ from.at)))
