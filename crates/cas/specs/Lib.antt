-- What the promises of the compare-and-swap queue say. "02" is the list of change requests, whose request 5 asks for this queue; "01" is the scope paper, 002 the paper of Morrison and Afek. Read in the order
-- of the lines below, or start at the end: `Demand3` in `Linearizable` says what is claimed of a list of entries, `obey` in `Entries` what an entry does.
--
-- sizes and margins, outcomes, kinds     of `terms`
-- slots, pending stores, loads, spacing,
-- what is in range, how far memory lags  of `stores`
-- the steps of put and take, of steal    Worker, Thief: the queue, which knows no machine
-- the machine, its parts and its range   Machine
-- a step on the machine, every other
-- entry, and the order of 5 to 7         Entries
-- an entry as a move, for the code       Moves
-- the plain queue, and the claim         of `claim`
-- effects, and demand 3                  Linearizable
-- what each step shows, in rows          Stories (their words), Handed, Rehearsals
pub mod Types
pub mod Worker
pub mod Thief
pub mod Machine
pub mod Entries
pub mod Moves
pub mod Linearizable
pub mod Stories
pub mod Handed
pub mod Rehearsals
