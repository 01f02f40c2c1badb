-- What the promises about indices, lock, store buffer, spacing and loads say, and what is tested of all of these first. Names in quotation marks are places of the scope paper, 01; "02" is the list of change requests.
--
-- indices, slots, their ranges      Index
-- who holds the lock                Lock
-- pending stores, drains, loads     StoreBuffer
-- how far takes are kept apart      Spacing
-- what the parties load             Load
-- what is tested first, and how far
-- memory lags                       Look
-- what an operation hands back      Done
-- at the edges of their ranges      Edges
pub mod Types
pub mod Index
pub mod Lock
pub mod StoreBuffer
pub mod Spacing
pub mod Load
pub mod Look
pub mod Done
pub mod Edges
