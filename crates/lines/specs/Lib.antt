-- What the promise about the program's lines says. Names in quotation marks are places of the scope paper, 01. The files stand in reading order; `lines_of` in `Lines` is what `lines_of` answers.
--
-- words, lines and numbers in bytes     Text
-- what is printed for a file            Lines
-- inputs that are too long              Input
-- lines by example                      Examples
-- lines read off a trace                FromTrace
-- text put behind text                  Appends
pub mod Types
pub mod Text
pub mod Lines
pub mod Input
pub mod Examples
pub mod FromTrace
pub mod Appends
