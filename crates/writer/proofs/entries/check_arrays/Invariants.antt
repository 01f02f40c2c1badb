-- no entry before `at` is faulty
use Rattle.schedule.proofs.Laws.Entries.{NoneBefore}
use Rattle.writer.proofs.entries.check_arrays.Given as goal

abbrev pub invariant-loop-at : goal.invariant-loop-at
invariant-loop-at l = NoneBefore l.sizes l.kinds l.operands l.at
