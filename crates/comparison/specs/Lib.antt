-- What the promise about alike schedules says. Names in quotation marks are places of the scope paper, 01. The files stand in reading order; `likeness` in `Alike` is what `alike` answers.
--
-- outcomes, and which are answers       Outcome, of `terms`
-- files that are read, and their runs   Reader, Run, of `schedule`
-- the line of an entry in a trace       Trace, of `schedule`
-- alike schedules                       Alike
-- how two traces are compared           Comparison
-- alike schedules, as a table           Pairs
pub mod Types
pub mod Alike
pub mod Comparison
pub mod Pairs
