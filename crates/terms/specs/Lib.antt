-- What the promises about the papers' tables say. Names in quotation marks are places of the scope paper, 01; "02" is the list of change requests.
--
-- sizes and margins                     Sizes
-- outcomes and their numbers            Outcome
-- refusals, their numbers and places    Refusal
-- kinds, operands; KIND and WHO; parties Kinds
-- the three totals                      Tally
-- the paper's numbers, a table          Numbers
-- functions on lists                    Lists
pub mod Types
pub mod Sizes
pub mod Outcome
pub mod Refusal
pub mod Kinds
pub mod Tally
pub mod Numbers
pub mod Lists
