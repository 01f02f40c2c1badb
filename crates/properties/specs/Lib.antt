-- What else is true of every run. Names in quotation marks are places of the scope paper, 01; "02" is the list of change requests.
--
-- of FF-THE and of FF-CL:
-- no step depends on a task's number    Renumbering
-- no task is lost or given twice        ExactlyOnce, Accounts
-- how far memory lags at most           Hidden
--
-- of FF-THE:
-- how many steps a call has             CallLength
-- when a take is too early              TakesApart
-- whose the pending stores are          TakeStores
pub mod Types
pub mod CasTypes
pub mod Renumbering
pub mod ExactlyOnce
pub mod Accounts
pub mod Hidden
pub mod CallLength
pub mod TakesApart
pub mod TakeStores
