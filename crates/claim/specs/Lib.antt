-- What is claimed of a queue. Names in quotation marks are places of the scope paper, 01; "02" is the list of change requests.
--
-- the plain queue, its limits           PlainQueue
-- parties, calls, effects               Calls
-- what the claim has to know of a queue Implementation
-- a run, and a run watched              Run, Watch
-- the plain queue's account of a run    Account
-- the claim                             Linearizable
-- rows of tables, for any queue         Stories
pub mod Types
pub mod PlainQueue
pub mod Calls
pub mod Implementation
pub mod Run
pub mod Watch
pub mod Account
pub mod Linearizable
pub mod Stories
