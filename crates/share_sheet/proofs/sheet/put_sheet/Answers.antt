-- the trace is that of the run, what is noted from it are the shares, and the parts are put one behind the other
use Rattle.std.proofs.Common.{◌≡◌, ◌∙◌, ◌+◌, ◌≤◌, ℕ, length, take, set, refl, ap, sym, subst, arith, Ok}
use Rattle.std.proofs.Math.ListN.{replicate}
use Rattle.terms.proofs.Laws.Sizes.{within_bounds}
use Rattle.number.specs.Number.{bytes_put, word_bytes}
use Rattle.machine.specs.Linearizable.{ff_the}
use Rattle.schedule.specs.Check.{first}
use Rattle.schedule.specs.Format.{words_in}
use Rattle.schedule.specs.Trace.{trace_length}
use Rattle.schedule.proofs.Laws.Run.{fits_room, length_entries_up_to, length-outcomes_from, longest_fits, longest_put}
use Rattle.share_sheet.specs.Filling.{TraceOf, entries, outcomes}
use Rattle.share_sheet.specs.Sheet.{checks_after_reading, share_of}
use Rattle.share_sheet.specs.Types.{Accepted}
use Rattle.share_sheet.proofs.Laws.Given.{block_values_fit, given_once}
use Rattle.share_sheet.proofs.Laws.Shares.{given_wider, trace_of_lem}
use Rattle.share_sheet.proofs.Laws.Sheet.{party_most, passed_fit, sheet_written, take_blocks}
use Rattle.share_sheet.proofs.sheet.put_sheet.Goals as goal

-- ── What has been checked ───────────────────────────────────────────────────────────────────────────────────────────────────

few : (a : Accepted) (count room : ℕ) → first (checks_after_reading a.sizes (entries a) count room) ≡ Ok tt → count ≤ 255
few a count room passed = (within_bounds 1 255 count (passed_fit a.sizes (entries a) count room passed).inside).1

short : (a : Accepted) → length (entries a) ≤ 4096
short a = omega (arith, a.few, length_entries_up_to a.sizes a.kinds.now (words_in a.operands.now) (length a.kinds.now))

-- ── The run ─────────────────────────────────────────────────────────────────────────────────────────────────────────────────

pub of_trace-shares-requires-clause-trace_of : goal.of_trace-shares-requires-clause-trace_of
of_trace-shares-requires-clause-trace_of c =
    let a = c.args.schedule.now in
    let count = c.args.count in
    let operands = words_in a.operands.now in
    let zeros = replicate {A = ℕ} 20484 0 in
    let n = length a.kinds.now in
    let fit = passed_fit a.sizes (entries a) count (length c.args.sheet.now) c.requires in
    let values = block_values_fit a.sizes (entries a) count a.ranged fit.enough (short a) fit.right (few a count (length c.args.sheet.now) c.requires) in
    let room : trace_length n ≤ length zeros = fits_room n (length zeros) (longest_fits n a.few) in
    let trace = c.obey_entries.ensures.trace_after ∙ longest_put (outcomes a) (omega (arith, a.few, length-outcomes_from ff_the a.sizes a.kinds.now operands)) in
    subst (TraceOf n (outcomes a)) (sym trace) (trace_of_lem a.sizes a.kinds.now operands zeros values room)

pub of_trace-shares-requires-clause-given_once : goal.of_trace-shares-requires-clause-given_once
of_trace-shares-requires-clause-given_once c =
    let a = c.args.schedule.now in
    let count = c.args.count in
    let fit = passed_fit a.sizes (entries a) count (length c.args.sheet.now) c.requires in
    given_wider count 255 (outcomes a) (few a count (length c.args.sheet.now) c.requires) (given_once a.sizes (entries a) count a.ranged fit.enough (short a) fit.right)

-- ── The sheet ───────────────────────────────────────────────────────────────────────────────────────────────────────────────

pub bounds-sheet-0 : goal.bounds-sheet-0
bounds-sheet-0 c = omega (arith, (passed_fit c.args.schedule.now.sizes (entries c.args.schedule.now) c.args.count (length c.args.sheet.now) c.requires).fits)

pub returns : goal.returns
returns c =
    let a = c.args.schedule.now in
    let count = c.args.count in
    let fit = passed_fit a.sizes (entries a) count (length c.args.sheet.now) c.requires in
    let few_blocks = few a count (length c.args.sheet.now) c.requires in
    let parties = ap (take count) c.of_trace-shares.ensures.parties ∙ take_blocks (λ b. (share_of (entries a) (outcomes a) b).party) count 255 few_blocks in
    let places = ap (take count) c.of_trace-shares.ensures.entries ∙ take_blocks (λ b. (share_of (entries a) (outcomes a) b).entry) count 255 few_blocks in
    sheet_written count (entries a) (outcomes a) few_blocks (λ at. omega (arith, party_most a.sizes a.kinds.now (words_in a.operands.now) a.ranged a.allowed at)) c.args.sheet.now _ _ _ fit.fits refl
    (c.put_bytes.ensures ∙ ap (λ l. bytes_put 1 l (set c.args.sheet.now 0 count)) parties)
    (c.put_words.ensures ∙ ap (λ l. bytes_put (1 + count) (word_bytes l) c.put_bytes.new.buffer) places)
