use Rattle.std.proofs.Common.{◌≡◌, ◌∙◌, ◌<◌, length, map, ap, sym, arith}
use Rattle.terms.specs.Kinds.{party_number}
use Rattle.machine.specs.Linearizable.{ff_the}
use Rattle.schedule.specs.Format.{words_in}
use Rattle.schedule.proofs.Laws.Run.{entry_there, length-outcomes_from}
use Rattle.share_sheet.specs.Filling.{entries, noted, outcomes}
use Rattle.share_sheet.specs.Sheet.{blocks}
use Rattle.share_sheet.proofs.Laws.Shares.{block_read, entries_none, noted_more, number_read, parties_none, share_then, value_read}
use Rattle.share_sheet.proofs.Laws.Sheet.{party_most}
use Rattle.share_sheet.proofs.shares.Shares.of_trace.Goals as goal

pub loop-at-init : goal.loop-at-init
loop-at-init c = let a = c.args.schedule.now in (sym (parties_none (entries a) (outcomes a) 255), sym (entries_none (entries a) (outcomes a) 255))

pub note-requires : goal.note-requires
note-requires c =
    let a = c.args.schedule.now in
    let operands = words_in a.operands.now in
    let at = c.loop-at.at in
    let there = c.loop-at-test.true in
    let number = number_read a.sizes a.kinds.now operands c.args.trace.now c.requires.trace_of at there in
    let block = c.word_at-value.ensures ∙ value_read a.sizes a.kinds.now operands c.args.trace.now c.requires.trace_of at there in
    let party = c.party.ensures ∙ ap party_number (c.entry_at-entry.ensures ∙ sym (entry_there a.sizes a.kinds.now operands at there)) in (
      λ task. block_read a.sizes a.kinds.now operands c.args.trace.now c.requires.trace_of at there 255 _ _ c.requires.given_once number block task,
      omega (arith, party, party_most a.sizes a.kinds.now operands a.ranged a.allowed at),
      omega (arith, there, a.few),
    )

pub loop-at-preserved : goal.loop-at-preserved
loop-at-preserved c =
    let a = c.args.schedule.now in
    let operands = words_in a.operands.now in
    let at = c.loop-at.at in
    let there = c.loop-at-test.true in
    let number = number_read a.sizes a.kinds.now operands c.args.trace.now c.requires.trace_of at there in
    let block = c.word_at-value.ensures ∙ value_read a.sizes a.kinds.now operands c.args.trace.now c.requires.trace_of at there in
    let party = c.party.ensures ∙ ap party_number (c.entry_at-entry.ensures ∙ sym (entry_there a.sizes a.kinds.now operands at there)) in
    let inside : at < length (outcomes a) = omega (arith, length-outcomes_from ff_the a.sizes a.kinds.now operands) in (
      c.note.ensures.parties_after ∙ (λ i. noted (number i) (block i) (party i) (c.loop-at.invariant.0 i)) ∙ noted_more (entries a) (outcomes a) 255 c.requires.given_once (λ h. h.party) at inside,
      c.note.ensures.entries_after ∙ (λ i. noted (number i) (block i) at (c.loop-at.invariant.1 i)) ∙ noted_more (entries a) (outcomes a) 255 c.requires.given_once (λ h. h.entry) at inside,
    )

pub returns : goal.returns
returns c =
    let a = c.args.schedule.now in
    let end : c.loop-at.at ≡ length (outcomes a) = omega (arith, length-outcomes_from ff_the a.sizes a.kinds.now (words_in a.operands.now), c.loop-at-test.false) in
    record {
      parties = c.loop-at.invariant.0 ∙ ap (λ at. map (λ b. (share_then (entries a) (outcomes a) at b).party) (blocks 255)) end;
      entries = c.loop-at.invariant.1 ∙ ap (λ at. map (λ b. (share_then (entries a) (outcomes a) at b).entry) (blocks 255)) end;
    }
