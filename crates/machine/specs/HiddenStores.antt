-- How far memory lags: rows for the number that an entry hands on, of request 4 in 02. They are part of the table of `Rehearsals`; machines out of range, whose number is 0, are in `Handed`.
use Rattle.std.specs.Prelude.{List, [], ◌∷◌, ◌++◌, ℕ, replicate}
use Rattle.terms.specs.Sizes.{sized}
use Rattle.stores.specs.Index.{index_of}
use Rattle.stores.specs.StoreBuffer.{empty_buffer, tail_store}
use Rattle.machine.specs.Types.{Drain, ClientStore, BeginTake, WorkerStep, BeginSteal, ThiefStep, Machine, Place, Early, Wait, Abort}
use Rattle.machine.specs.Machine.{fresh}
use Rattle.machine.specs.Update.{pushed, with_memory}
use Rattle.claim.specs.Stories.{Row, hiding, does, drains, client_stores, filled, puts, takes}
use Rattle.machine.specs.Stories.{steals, takes_nothing}

-- so many entries that each hand on 0
abbrev pub zeros : ℕ → List ℕ
zeros n = replicate n 0

-- a put's stores are not counted, pending or drained
abbrev pub put_hides_nothing : Row Machine
put_hides_nothing = hiding (fresh (sized 4 2 0 2 1 0)) (puts 1 ++ drains 2) (zeros 6)

-- a take's is, from its step 1 to the drain
abbrev pub take_hides_one : Row Machine
take_hides_one = hiding (fresh (sized 4 2 0 2 1 0)) (filled 1 ++ takes 1 ++ drains 1) (zeros 6 ++ 0 ∷ 1 ∷ 1 ∷ 1 ∷ 0 ∷ [])

-- of two takes undrained both are, and then the second alone; a steal meanwhile changes nothing
abbrev pub two_takes_hide_two : Row Machine
two_takes_hide_two = hiding (fresh (sized 4 2 0 2 1 0)) (filled 2 ++ takes 2 ++ takes 1 ++ drains 2) (zeros 12 ++ 0 ∷ 1 ∷ 1 ∷ 1 ∷ 1 ∷ 2 ∷ 2 ∷ 2 ∷ 1 ∷ 0 ∷ [])

abbrev pub steal_hides_nothing : Row Machine
steal_hides_nothing = hiding (fresh (sized 4 2 0 2 1 0)) (filled 2 ++ takes 2 ++ takes 1 ++ steals Abort) (zeros 12 ++ 0 ∷ 1 ∷ 1 ∷ 1 ∷ 1 ∷ 2 ∷ 2 ∷ 2 ∷ replicate 7 2)

-- a put and its take, all pending: the take's store is below the put's, though it equals memory's tail
abbrev pub below_the_put : Row Machine
below_the_put = hiding (fresh (sized 4 3 0 3 1 0)) (puts 1 ++ takes 1 ++ drains 3) (zeros 4 ++ 0 ∷ 1 ∷ 1 ∷ 1 ∷ 1 ∷ 1 ∷ 0 ∷ [])

-- a put between two takes, all pending: each take's store is counted, the put's in between is not: it is above the take's
abbrev pub put_between : Row Machine
put_between =
    hiding (fresh (sized 4 4 0 4 1 0)) (filled 1 ++ takes 1 ++ puts 2 ++ takes 2 ++ drains 4)
    (zeros 6 ++ 0 ∷ 1 ∷ 1 ∷ 1 ∷ 1 ∷ 1 ∷ 1 ∷ 1 ∷ 1 ∷ 2 ∷ 2 ∷ 2 ∷ 1 ∷ 1 ∷ 1 ∷ 0 ∷ [])

-- a take that finds no task: the tail that it puts back is above the one that it stored
abbrev pub restored_tail : Row Machine
restored_tail = hiding (fresh (sized 4 2 0 2 1 0)) takes_nothing (0 ∷ 1 ∷ 1 ∷ zeros 6)

-- 5, 6 and 7 hand on the number of the machine that stays as it is; the client's stores are not counted
abbrev pub refused_hand_on : Row Machine
refused_hand_on =
    hiding (fresh (sized 4 2 1 1 1 0))
    (filled 1 ++ takes 1 ++ does BeginTake Early ∷ client_stores 1
    ++ does ClientStore Wait ∷ does WorkerStep Place ∷ does (ThiefStep 0) Place ∷ does (BeginSteal 1) Wait ∷ drains 2
    ++ does Drain Wait ∷ [])
    (zeros 6 ++ 0 ∷ 1 ∷ 1 ∷ 1 ∷ 1 ∷ 1 ∷ 1 ∷ 1 ∷ 1 ∷ 1 ∷ 0 ∷ 0 ∷ 0 ∷ [])

-- stores that no schedule leaves so: one far below memory's tail counts once, one at the tail before it does not count
abbrev pub tail_stores : ℕ → ℕ → Machine
tail_stores first second =
    let m = fresh (sized 8 4 0 4 1 0) in
    pushed (tail_store (index_of second)) (pushed (tail_store (index_of first)) (with_memory m.slots (index_of 5) empty_buffer m))

abbrev pub hidden_stores : List (Row Machine)
hidden_stores =
    put_hides_nothing
    ∷ take_hides_one
    ∷ two_takes_hide_two
    ∷ steal_hides_nothing
    ∷ below_the_put
    ∷ put_between
    ∷ restored_tail
    ∷ refused_hand_on
    ∷ hiding (tail_stores 2 2) (client_stores 1 ++ drains 2) (1 ∷ 0 ∷ 0 ∷ [])
    ∷ hiding (tail_stores 5 4) (client_stores 1 ++ drains 2) (1 ∷ 1 ∷ 0 ∷ [])
    ∷ hiding (tail_stores 3 4) (client_stores 1 ++ drains 2) (1 ∷ 0 ∷ 0 ∷ [])
    ∷ []
