-- the puts before `at` are right, and their blocks are marked
use Rattle.share_sheet.specs.Filling.{entries}
use Rattle.share_sheet.proofs.Laws.Blocks.{RightBefore}
use Rattle.share_sheet.proofs.blocks.check_blocks.Given as goal

abbrev pub invariant-loop-at : goal.invariant-loop-at
invariant-loop-at l = RightBefore l.count (entries l.schedule) l.marks l.at
