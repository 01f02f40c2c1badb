-- What the promises of the exported functions say: the answers of the libraries below, as numbers. 01 has no such functions; its numbers and places are what the answers are made of.
--
-- answers and lent memory               Answer
-- answers and lent memory by example    Answers
pub mod Types
pub mod Answer
pub mod Answers
