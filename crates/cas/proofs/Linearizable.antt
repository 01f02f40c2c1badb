-- That the compare-and-swap queue satisfies the claim, for every list of entries, and what else is so of its tasks (`Theorem`); and what holds of every
-- run, whichever margin is set (`AnyMargin`).
--
-- Reading order. `Invariant`: what is true after every entry, a sentence a field; what an entry has to show of it is said in `claim`, of any queue
-- (`Entries`). `Rebuild`: the invariant, rebuilt from what an entry changes. `Turn`: what an entry of this queue has to show, and the ways to show it that
-- several share. The steps, a lemma each: `Put`, `Take`, with the worker's other entries and the drain in `Worker`; `Thief`, whose step 2 is the one use
-- of the margin.
pub mod Invariant
pub mod Rebuild
pub mod Turn
pub mod Put
pub mod Take
pub mod Worker
pub mod Thief
pub mod Theorem
pub mod AnyMargin
