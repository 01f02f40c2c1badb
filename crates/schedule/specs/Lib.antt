-- What the promises about schedule files say. Names in quotation marks are places of the scope paper, 01. The files stand in reading order; `read_file` in `Reader`
-- and `run_file` in `Run` are what `read` and `run` answer, `trace_after` what lent memory holds afterwards; a run is said of any queue on its machine (`run_file_by`), of which FF-THE is one; `check_parts` in `Entries` and `outcomes_from` in `Run` are what comes of decoded sizes and the two parts of a file. `layout` in `Format` is what the reader goes by, and the writer above it.
--
-- numbers in bytes                      Number, of `number`
-- refusals, their numbers and places    Refusal, of `terms`
-- checks in their order; SIZE           Check
-- the layout of a file                  Format
-- kinds, operands; KIND and WHO         Kinds, of `terms`
-- one entry, the first faulty one, and
-- the one to obey                       Entries
-- reading: the order of its checks      Reader
-- totals, and how far memory lagged     Tally, of `terms`; Totals
-- the trace, and what stands in it      Trace
-- running a file, and one step          Run
-- demand 3 of a trace                   Demand3
-- how far memory lags at most           Hidden
-- what is refused, and for what; that
-- the first faulty entry is told        Faults
-- the parts of an accepted file         Parts
-- files at their edges, as a table      Edges
-- runs, as a table                      Runs
pub mod Types
pub mod Check
pub mod Format
pub mod Entries
pub mod Reader
pub mod Totals
pub mod Trace
pub mod Run
pub mod Demand3
pub mod Hidden
pub mod Faults
pub mod Parts
pub mod Edges
pub mod Runs
