-- What the operations hand back at the edges of their ranges, and past them, as one table of tests. `proofs/Edges.antt` proves one fact: each passes.
use Rattle.std.specs.Prelude.{Bool, true, false, not, List, [], ◌∷◌, ◌++◌, map, ℕ, eqb, ℤ, pos, negsuc, length, replicate}
use Rattle.terms.specs.Lists.{equal}
use Rattle.terms.specs.Sizes.{sized}
use Rattle.stores.specs.Types.{APut, ATake, BeginPut, BeginSteal, BeginTake, Client, ClientStore, Drain, Index, Look, Nobody, None, Some, Slot, Spacing, Store, StoreBuffer, Tail, TheClient, TheThief, TheWorker, ThiefStep, WorkerStep}
use Rattle.stores.specs.Index.{above_by, below_by_more, eq_z, index_in_range, next_or_same, previous_or_same, slot_index_in_range, slot_of}
use Rattle.stores.specs.Lock.{is_nobody}
use Rattle.stores.specs.StoreBuffer.{client_store, drop_oldest_or_same, newest_tail, pending, push_in_range, push_lowers_tail, push_or_same, pushed_or_same, scan, slot_after, slot_store, store_in_range, tail_store, take_stores}
use Rattle.stores.specs.Spacing.{counted_in_or_same, no_take, spacing_after, spacing_in_range, take_begins, too_early}
use Rattle.stores.specs.Load.{loaded_between, memory_load, worker_load}
use Rattle.stores.specs.Look.{hidden_after_drain, hidden_after_head, hidden_after_store, look_at, memory_in_range}

abbrev pub index : ℤ → Index
index z = record { at = z }

-- a buffer that says it has so many pending
abbrev pub holding : ℕ → StoreBuffer
holding n = record { stores = replicate 64 client_store; count = n }

-- .. after a tail store of 1
abbrev pub tail_made : ℕ → StoreBuffer
tail_made n = pushed_or_same (Some (APut, Tail (index (pos 1)))) (holding n)

abbrev pub counting : ℕ → Bool → Spacing
counting n b = record { count = n; begun = b }

-- after one more client store
abbrev pub client_stored : Spacing → Spacing
client_stored s = counted_in_or_same (Some (TheClient, Client)) s

-- −1 to 2,147,483,648, a slot's from 0
abbrev pub ranges : List Bool
ranges =
    not (index_in_range (index (negsuc 1)))
    ∷ index_in_range (index (negsuc 0))
    ∷ index_in_range (index (pos 2147483648))
    ∷ not (index_in_range (index (pos 2147483649)))
    ∷ not (slot_index_in_range (index (negsuc 0)))
    ∷ slot_index_in_range (index (pos 0))
    ∷ not (store_in_range (Slot 1 (index (negsuc 0))))
    ∷ store_in_range (Slot 1 (index (pos 0)))
    ∷ store_in_range (Slot 1 (index (pos 2147483648)))
    ∷ not (store_in_range (Slot 1 (index (pos 2147483649))))
    ∷ push_in_range None
    ∷ push_in_range (Some (ATake, Tail (index (negsuc 0))))
    ∷ not (push_in_range (Some (ATake, Tail (index (negsuc 1)))))
    ∷ push_in_range (Some (APut, Slot 1 (index (pos 0))))
    ∷ not (push_in_range (Some (APut, Slot 1 (index (negsuc 0)))))
    ∷ push_in_range (Some (TheClient, Client))
    ∷ spacing_in_range (counting 4096 true)
    ∷ not (spacing_in_range (counting 4097 true))
    ∷ []

abbrev pub neighbours : List Bool
neighbours =
    eq_z (next_or_same (index (negsuc 0))).at (pos 0)
    ∷ eq_z (next_or_same (index (pos 2147483648))).at (pos 2147483649)
    ∷ eq_z (next_or_same (index (pos 2147483649))).at (pos 2147483649)
    ∷ eq_z (previous_or_same (index (pos 0))).at (negsuc 0)
    ∷ eq_z (previous_or_same (index (negsuc 0))).at (negsuc 1)
    ∷ eq_z (previous_or_same (index (negsuc 1))).at (negsuc 1)
    ∷ []

-- T − d ≥ h and h < T − d, at the distance and one past it, and with −1
abbrev pub distances : List Bool
distances =
    above_by (index (pos 5)) (index (pos 2)) 3
    ∷ not (above_by (index (pos 5)) (index (pos 2)) 4)
    ∷ above_by (index (pos 0)) (index (negsuc 0)) 1
    ∷ below_by_more (index (pos 2)) (index (pos 5)) 2
    ∷ not (below_by_more (index (pos 2)) (index (pos 5)) 3)
    ∷ not (below_by_more (index (pos 0)) (index (negsuc 0)) 0)
    ∷ []

-- the remainder; 0 below 0; the index itself where there are no slots. A store to an index reaches its slot alone.
abbrev pub slots : List Bool
slots =
    eqb (slot_of 4 (index (pos 7))) 3
    ∷ eqb (slot_of 4 (index (negsuc 0))) 0
    ∷ eqb (slot_of 0 (index (pos 7))) 7
    ∷ eqb (slot_after 4 3 9 (Slot 1 (index (pos 7)))) 1
    ∷ eqb (slot_after 4 2 9 (Slot 1 (index (pos 7)))) 9
    ∷ []

-- a lock is free where nobody holds it
abbrev pub locks : List Bool
locks = is_nobody Nobody ∷ not (is_nobody TheWorker) ∷ not (is_nobody (TheThief 0)) ∷ []

-- a store more, where a cell is free; one less, where one is pending
abbrev pub buffers : List Bool
buffers =
    eqb (push_or_same (tail_store (index (pos 1))) (holding 63)).count 64
    ∷ eqb (push_or_same (tail_store (index (pos 1))) (holding 64)).count 64
    ∷ eq_z (newest_tail (index (pos 9)) (tail_made 63)).at (pos 1)
    ∷ eq_z (newest_tail (index (pos 9)) (tail_made 64)).at (pos 9)
    ∷ eq_z (newest_tail (index (pos 9)) (drop_oldest_or_same (tail_made 1))).at (pos 1)
    ∷ eq_z (newest_tail (index (pos 9)) (drop_oldest_or_same (tail_made 0))).at (pos 9)
    ∷ eqb (pushed_or_same None (holding 3)).count 3
    ∷ eqb (drop_oldest_or_same (holding 0)).count 0
    ∷ eqb (length (drop_oldest_or_same (holding 0)).stores) 64
    ∷ eqb (drop_oldest_or_same (holding 1)).count 0
    ∷ eqb (drop_oldest_or_same (holding 64)).count 63
    ∷ eqb (drop_oldest_or_same (holding 65)).count 65
    ∷ eqb (length (pending (holding 65))) 64
    ∷ []

-- stores to the tail, one after the other
abbrev pub tails : List ℤ → List Store
tails l = map (λ z. tail_store (index z)) l

-- a buffer that says it has so many of these pending
abbrev pub holding_tails : ℕ → List ℤ → StoreBuffer
holding_tails n l = record { stores = tails l; count = n }

-- A tail store below the tail store before it, or the first below memory's tail: each once, however far below. Not one above it or at it, and no other store; what lies between two tail stores is nothing to them, nor are cells past
-- those that are pending.
abbrev pub lags : List Bool
lags =
    eqb (take_stores (index (pos 5)) []) 0
    ∷ eqb (take_stores (index (pos 5)) (tails (pos 6 ∷ []))) 0
    ∷ eqb (take_stores (index (pos 5)) (tails (pos 5 ∷ []))) 0
    ∷ eqb (take_stores (index (pos 5)) (tails (pos 4 ∷ []))) 1
    ∷ eqb (take_stores (index (pos 5)) (tails (pos 0 ∷ []))) 1
    ∷ eqb (take_stores (index (pos 5)) (tails (pos 4 ∷ pos 3 ∷ []))) 2
    ∷ eqb (take_stores (index (pos 5)) (tails (pos 4 ∷ pos 4 ∷ []))) 1
    ∷ eqb (take_stores (index (pos 5)) (tails (pos 6 ∷ pos 5 ∷ []))) 1
    ∷ eqb (take_stores (index (pos 5)) (tails (pos 3 ∷ pos 4 ∷ []))) 1
    ∷ eqb (take_stores (index (pos 5)) (tails (pos 4 ∷ pos 5 ∷ pos 4 ∷ []))) 2
    ∷ eqb (take_stores (index (pos 0)) (tails (negsuc 0 ∷ []))) 1
    ∷ eqb (take_stores (index (negsuc 0)) (tails (pos 0 ∷ []))) 0
    ∷ eqb (take_stores (index (pos 2147483648)) (tails (pos 2147483647 ∷ []))) 1
    ∷ eqb (take_stores (index (pos 2147483647)) (tails (pos 2147483648 ∷ []))) 0
    ∷ eqb (take_stores (index (pos 5)) (client_store ∷ slot_store (index (pos 4)) 9 ∷ [])) 0
    ∷ eqb (take_stores (index (pos 5)) (tails (pos 4 ∷ []) ++ client_store ∷ slot_store (index (pos 2)) 9 ∷ tails (pos 3 ∷ []))) 2
    ∷ eqb (take_stores (index (pos 5)) (slot_store (index (pos 9)) 3 ∷ client_store ∷ tails (pos 6 ∷ []))) 0
    ∷ eqb (scan (index (pos 5)) (holding_tails 1 (pos 4 ∷ pos 3 ∷ []))).takes 1
    ∷ eqb (scan (index (pos 5)) (holding_tails 65 (pos 4 ∷ pos 3 ∷ []))).takes 2
    ∷ eq_z (scan (index (pos 5)) (holding_tails 2 (pos 4 ∷ pos 3 ∷ []))).tail.at (pos 3)
    ∷ (scan (index (negsuc 1)) (holding_tails 1 (negsuc 0 ∷ negsuc 1 ∷ []))).ranged
    ∷ not (scan (index (pos 5)) (holding_tails 2 (negsuc 1 ∷ pos 0 ∷ []))).ranged
    ∷ push_lowers_tail (index (pos 5)) (Some (ATake, Tail (index (pos 4))))
    ∷ push_lowers_tail (index (pos 5)) (Some (APut, Tail (index (pos 4))))
    ∷ not (push_lowers_tail (index (pos 5)) (Some (APut, Tail (index (pos 6)))))
    ∷ not (push_lowers_tail (index (pos 5)) (Some (ATake, Tail (index (pos 6)))))
    ∷ not (push_lowers_tail (index (pos 5)) (Some (APut, Slot 1 (index (pos 4)))))
    ∷ not (push_lowers_tail (index (pos 5)) None)
    ∷ []

-- stores count once a take has begun, and the first take is free; a put's count as the client's do, a take's do not
abbrev pub spacings : List Bool
spacings =
    eqb (client_stored (counting 63 true)).count 64
    ∷ eqb (client_stored (counting 255 true)).count 256
    ∷ eqb (client_stored (counting 4095 true)).count 4096
    ∷ eqb (client_stored (counting 4096 true)).count 4097
    ∷ eqb (client_stored (counting 4097 true)).count 4097
    ∷ eqb (client_stored no_take).count 0
    ∷ eqb (client_stored (counting 5 false)).count 0
    ∷ not (too_early no_take 1)
    ∷ too_early take_begins 1
    ∷ not (too_early (client_stored take_begins) 1)
    ∷ too_early (client_stored take_begins) 2
    ∷ too_early (counting 62 true) 63
    ∷ not (too_early (counting 63 true) 63)
    ∷ not (too_early (counting 4096 true) 63)
    ∷ too_early (counting 63 true) 64
    ∷ eqb (counted_in_or_same None (counting 1 true)).count 1
    ∷ eqb (client_stored (counting 1 true)).count 2
    ∷ eqb (counted_in_or_same (Some (APut, Slot 1 (index (pos 0)))) (counting 1 true)).count 2
    ∷ eqb (counted_in_or_same (Some (APut, Tail (index (pos 1)))) (counting 1 true)).count 2
    ∷ eqb (counted_in_or_same (Some (ATake, Tail (index (pos 1)))) (counting 1 true)).count 1
    ∷ []

-- whatever the entry, the store that it has made counts, but where it begins a take: then the count begins anew
abbrev pub spacings_after : List Bool
spacings_after =
    map (λ e. eqb (spacing_after e (Some (TheClient, Client)) (counting 5 true)).count 6) (Drain ∷ ClientStore ∷ BeginPut 9 ∷ WorkerStep ∷ BeginSteal 0 ∷ ThiefStep 0 ∷ [])
    ++ eqb (spacing_after BeginTake (Some (TheClient, Client)) (counting 5 true)).count 0
    ∷ (spacing_after BeginTake None no_take).begun
    ∷ not (spacing_after WorkerStep None no_take).begun
    ∷ []

-- four slots, and as many as there are
abbrev pub four_slots : List ℕ
four_slots = 10 ∷ 11 ∷ 12 ∷ 13 ∷ []

abbrev pub all_slots : List ℕ
all_slots = replicate 256 9

-- two stores to slot 3, and one that is not pending
abbrev pub filling : StoreBuffer
filling = record { stores = slot_store (index (pos 7)) 20 ∷ slot_store (index (pos 3)) 21 ∷ slot_store (index (pos 3)) 22 ∷ []; count = 2 }

-- An index below 0 lies in slot 0, and a slot past the last holds 0. The worker loads the newest pending store to the slot, whichever index led there. What lies between two indices is loaded in order, and nothing where the first is not below the second.
abbrev pub loads : List Bool
loads =
    eqb (memory_load 4 four_slots (index (pos 7))) 13
    ∷ eqb (memory_load 4 four_slots (index (negsuc 0))) 10
    ∷ eqb (memory_load 0 all_slots (index (pos 255))) 9
    ∷ eqb (memory_load 0 all_slots (index (pos 256))) 0
    ∷ eqb (worker_load 4 four_slots filling (index (pos 11))) 21
    ∷ eqb (worker_load 4 four_slots filling (index (pos 2))) 12
    ∷ eqb (worker_load 4 four_slots filling (index (negsuc 0))) 10
    ∷ eqb (worker_load 0 all_slots filling (index (pos 7))) 20
    ∷ eqb (worker_load 0 all_slots filling (index (pos 256))) 0
    ∷ equal (loaded_between (memory_load 4 four_slots) (index (pos 2)) (index (pos 5))) (12 ∷ 13 ∷ 10 ∷ [])
    ∷ equal (loaded_between (memory_load 4 four_slots) (index (negsuc 0)) (index (pos 1))) (10 ∷ 10 ∷ [])
    ∷ equal (loaded_between (memory_load 4 four_slots) (index (pos 2)) (index (pos 2))) []
    ∷ equal (loaded_between (memory_load 4 four_slots) (index (pos 2)) (index (pos 1))) []
    ∷ []

-- parts whose sizes are in range, with one store at most pending
abbrev pub parts_in_range : ℤ → ℤ → StoreBuffer → Spacing → Bool
parts_in_range head tail b p = memory_in_range (sized 2 1 0 0 1 0) (index head) (index tail) b p

-- each part at the edges of its range, the others within; cells past the pending stores are not looked at
abbrev pub parts : List Bool
parts =
    parts_in_range (negsuc 0) (negsuc 0) (holding_tails 1 (negsuc 0 ∷ negsuc 1 ∷ [])) (counting 4096 true)
    ∷ parts_in_range (pos 2147483648) (pos 2147483648) (holding_tails 1 (pos 2147483648 ∷ [])) no_take
    ∷ not (parts_in_range (negsuc 1) (pos 0) (holding 0) no_take)
    ∷ not (parts_in_range (pos 2147483649) (pos 0) (holding 0) no_take)
    ∷ not (parts_in_range (pos 0) (negsuc 1) (holding 0) no_take)
    ∷ not (parts_in_range (pos 0) (pos 2147483649) (holding 0) no_take)
    ∷ not (parts_in_range (pos 0) (pos 0) (holding 2) no_take)
    ∷ not (parts_in_range (pos 0) (pos 0) (holding_tails 1 (negsuc 1 ∷ [])) no_take)
    ∷ not (parts_in_range (pos 0) (pos 0) (holding 0) (counting 4097 true))
    ∷ memory_in_range (sized 256 64 63 64 8 2147483647) (index (pos 0)) (index (pos 0)) (holding 64) no_take
    ∷ not (memory_in_range (sized 256 64 63 64 8 2147483647) (index (pos 0)) (index (pos 0)) (holding 65) no_take)
    ∷ not (memory_in_range (sized 1 1 0 0 1 0) (index (pos 0)) (index (pos 0)) (holding 0) no_take)
    ∷ not (memory_in_range (sized 2 1 0 0 9 0) (index (pos 0)) (index (pos 0)) (holding 0) no_take)
    ∷ []

-- a look at a machine whose memory has the tail 5, and its worker a lower one; whether its calls are in range, and what the spacing rule goes by
abbrev pub looking : Bool → Spacing → Look
looking calls p = look_at (sized 2 1 0 0 1 0) (index (pos 0)) (index (pos 5)) (holding_tails 1 (pos 4 ∷ [])) p calls

-- a look that has found the worker's tail 5, and so many stores of take step 1
abbrev pub seeing : ℕ → Look
seeing n = record { ranged = true; tail = index (pos 5); hidden = n }

-- Out of range the number is 0; in range one store more of take step 1 is counted, up to 64, and one less after its drain, down to 0.
abbrev pub looks : List Bool
looks =
    (looking true no_take).ranged
    ∷ not (looking false no_take).ranged
    ∷ not (looking true (counting 4097 true)).ranged
    ∷ eqb (looking true no_take).hidden 1
    ∷ eqb (looking false no_take).hidden 0
    ∷ eqb (looking true (counting 4097 true)).hidden 0
    ∷ eq_z (looking true no_take).tail.at (pos 4)
    ∷ eqb (hidden_after_store (Some (ATake, Tail (index (pos 4)))) no_take true (seeing 63)) 64
    ∷ eqb (hidden_after_store (Some (ATake, Tail (index (pos 4)))) no_take true (seeing 64)) 64
    ∷ eqb (hidden_after_store (Some (ATake, Tail (index (pos 4)))) no_take true (seeing 65)) 65
    ∷ eqb (hidden_after_store (Some (ATake, Tail (index (pos 5)))) no_take true (seeing 3)) 3
    ∷ eqb (hidden_after_store (Some (TheClient, Client)) (counting 4096 true) true (seeing 3)) 3
    ∷ eqb (hidden_after_store (Some (TheClient, Client)) (counting 4097 true) true (seeing 3)) 0
    ∷ eqb (hidden_after_store (Some (ATake, Tail (index (negsuc 0)))) no_take true (seeing 3)) 4
    ∷ eqb (hidden_after_store (Some (ATake, Tail (index (negsuc 1)))) no_take true (seeing 3)) 0
    ∷ eqb (hidden_after_store None no_take true (seeing 3)) 3
    ∷ eqb (hidden_after_store None no_take false (seeing 3)) 0
    ∷ eqb (hidden_after_head (index (negsuc 0)) true (seeing 3)) 3
    ∷ eqb (hidden_after_head (index (negsuc 1)) true (seeing 3)) 0
    ∷ eqb (hidden_after_head (index (pos 2147483648)) true (seeing 3)) 3
    ∷ eqb (hidden_after_head (index (pos 2147483649)) true (seeing 3)) 0
    ∷ eqb (hidden_after_head (index (pos 0)) false (seeing 3)) 0
    ∷ eqb (hidden_after_drain (index (pos 5)) (Tail (index (pos 4))) (seeing 3)) 2
    ∷ eqb (hidden_after_drain (index (pos 5)) (Tail (index (pos 4))) (seeing 0)) 0
    ∷ eqb (hidden_after_drain (index (pos 5)) (Tail (index (pos 5))) (seeing 3)) 3
    ∷ eqb (hidden_after_drain (index (pos 3)) (Tail (index (pos 4))) (seeing 3)) 3
    ∷ eqb (hidden_after_drain (index (pos 5)) (Slot 1 (index (pos 4))) (seeing 3)) 3
    ∷ []

abbrev pub edges : List Bool
edges = ranges ++ neighbours ++ distances ++ slots ++ locks ++ buffers ++ lags ++ spacings ++ spacings_after ++ loads ++ parts ++ looks
