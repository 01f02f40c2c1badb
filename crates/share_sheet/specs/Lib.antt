-- What the promise about share sheets says. "02" is the list of change requests; share sheets are its request 2. The files stand in reading order; `make_sheet` in `Sheet` is what `share_sheet` answers, and
-- `sheet_after` what lent memory holds afterwards.
--
-- files that are read, and their runs   Reader, Run, of `schedule`
-- refusals, their numbers and places    Refusal, of `terms`
-- the STORED puts of a list             ExactlyOnce, of `properties`
-- a sheet, its bytes, its checks        Sheet
-- what is refused, and for what         Faults
-- what is true of every sheet           Given
-- how it is filled                      Filling
-- sheets, as a table                    Sheets
pub mod Types
pub mod Sheet
pub mod Faults
pub mod Given
pub mod Filling
pub mod Sheets
