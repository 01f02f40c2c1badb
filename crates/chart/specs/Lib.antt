-- What the promises about the chart say. "02" is the list of change requests, whose request 6 asks for the chart; "01" is the scope paper. `chart` in `Chart` is what `chart` hands out, `charted_margin` what `charted_margin` answers.
--
-- the needed margin, by division        Sizes, of `terms`
-- the chart, and that each agrees       Chart
-- margins and places, as a table        Rows
pub mod Chart
pub mod Rows
