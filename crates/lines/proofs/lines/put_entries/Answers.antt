use Rattle.std.proofs.Common.{◌≡◌, ◌+◌, ◌∙◌, ◌≤◌, length, sym, arith, get_or}
use Rattle.schedule.proofs.Laws.Trace.{line_in_number, line_in_value}
use Rattle.lines.specs.FromTrace.{line_from_trace, three_numbers}
use Rattle.lines.proofs.Laws.Text.{appends_as, appends_more, appends_within, concat_map_next}
use Rattle.lines.proofs.lines.put_entries.Goals as goal

pub loop-at-preserved : goal.loop-at-preserved
loop-at-preserved c =
    let a = c.args in
    let trace = a.trace.now in
    let n = a.entries in
    let at = c.loop-at.at in
    let inside : a.text.now.length ≤ length a.text.now.bytes = omega arith in
    let number = line_in_number n trace at c.loop-at-test.true in
    let value = c.word_at-value.ensures ∙ sym (line_in_value n trace at c.loop-at-test.true (omega arith)) in
    let line : three_numbers at (get_or trace (4 + at) 0) c.word_at-value.result ≡ line_from_trace n trace at = λ i. three_numbers at (sym number i) (value i) in
    appends_within (omega arith)
    (appends_as (sym (concat_map_next (line_from_trace n trace) at)) (appends_more c.loop-at.invariant (appends_as line c.put_entry.ensures) inside))
