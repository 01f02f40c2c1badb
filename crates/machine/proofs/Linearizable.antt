-- That FF-THE satisfies the claim: for every list of entries (`Theorem`);
-- that a run with too small a margin violates it (`Rehearsed`); and what holds of every run, whichever margin is set (`AnyMargin`).
--
-- Reading order. `Invariant`: what is true after every entry, a sentence a field, in any `Environment`. `Turn`: what an entry has to show, and the
-- ways to show it: the plain queue's replies (`Tasks`, of `claim`), who holds the lock (`Exclusion`), the invariant rebuilt from what an entry of the worker's
-- changes (`Rebuild`). The steps, a lemma each: `Put`, `Take`, with the worker's other entries in `Worker`; `Thief`, whose step 4 is the one use
-- of the margin. `Owed`, `Settle`, `Drain`: memory moves on while no call does. `Run`: an entry joined with the calls of all parties, in any
-- environment; `Plain`: in that of 01's machine.
pub mod Invariant
pub mod Turn
pub mod Exclusion
pub mod Rebuild
pub mod Put
pub mod Take
pub mod Worker
pub mod Thief
pub mod Owed
pub mod Settle
pub mod Drain
pub mod Run
pub mod Plain
pub mod Theorem
pub mod Rehearsed
pub mod AnyMargin
