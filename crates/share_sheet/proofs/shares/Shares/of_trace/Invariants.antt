-- of each block, what the entries before `at` say is noted
use Rattle.std.proofs.Common.{◌≡◌, map}
use Rattle.share_sheet.specs.Filling.{entries, outcomes}
use Rattle.share_sheet.specs.Sheet.{blocks}
use Rattle.share_sheet.proofs.Laws.Shares.{share_then}
use Rattle.share_sheet.proofs.shares.Shares.of_trace.Given as goal

abbrev pub invariant-loop-at : goal.invariant-loop-at
invariant-loop-at l =
    (l.shares.parties ≡ map (λ b. (share_then (entries l.schedule) (outcomes l.schedule) l.at b).party) (blocks 255))
    × (l.shares.entries ≡ map (λ b. (share_then (entries l.schedule) (outcomes l.schedule) l.at b).entry) (blocks 255))
