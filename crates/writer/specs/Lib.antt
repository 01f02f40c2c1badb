-- What the promises about writing a file say. Names in quotation marks are places of the scope paper, 01. The files stand in reading order; `write_file` in `Writer` is what `write` answers, `buffer_after` what lent
-- memory holds afterwards. The file is `file_of`, of the layout that the reader goes by.
--
-- numbers in bytes                      Number, of `number`
-- refusals, their numbers and places    Refusal, of `terms`
-- the layout of a file                  Format, of `schedule`
-- checks in their order; SIZE           Check, of `schedule`
-- the first faulty entry                Entries, of `schedule`
-- writing: the order of its checks      Writer
-- what is refused, and for what         Faults
-- reading what was written, and back    RoundTrip
-- writing at its edges, as a table      Edges
pub mod Types
pub mod Writer
pub mod Faults
pub mod RoundTrip
pub mod Edges
