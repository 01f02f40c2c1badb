-- What the machine's promises say. Names in quotation marks are places of the scope paper, 01. Read in the order of the lines below, or
-- start at the end: `Demand3` in `Linearizable` says what is claimed of a list of entries (what the claim is: `Linearizes`, of `claim`),
-- `obey` in `Obey` what an entry does, `effect_of` in `Effect` where a call takes effect.
--
-- sizes and margins, outcomes, kinds     Sizes, Outcome, Kinds, of `terms`
-- slots, pending stores                  Index, StoreBuffer, of `stores`
-- whose stores keep takes apart          Spacing, of `stores`
-- loads from a slot                      Load, of `stores`
-- what must be in range, calls apart     Look, of `stores`
-- the steps of put and take, of steal    Worker, Thief: the queue, which knows no machine
-- a machine with a part replaced         Update
-- what must be in range                  InRange
-- the machine at first, loads, and how
-- far memory lags                        Machine
-- a step on the machine                  Perform
-- every other entry                      Entries
-- an entry, and the order of 5 to 7      Obey
-- an entry as a move, for the code       Moves
-- the plain queue, and the claim         of `claim`
-- where a call takes effect              Effect
-- demand 3                               Linearizable
-- rows of tables                         Stories
-- what keeps takes apart, in rows        SpacedTakes
-- how far memory lags, in rows           HiddenStores
-- M1 to M9, and more                     Rehearsals
-- machines handed in                     Handed
pub mod Types
pub mod Worker
pub mod Thief
pub mod Update
pub mod InRange
pub mod Machine
pub mod Perform
pub mod Entries
pub mod Obey
pub mod Moves
pub mod Effect
pub mod Linearizable
pub mod Stories
pub mod SpacedTakes
pub mod HiddenStores
pub mod Rehearsals
pub mod Handed
