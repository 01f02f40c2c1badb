-- no entry before `at` is faulty
use Rattle.schedule.specs.Format.{words_in}
use Rattle.schedule.proofs.Laws.Entries.{NoneBefore}
use Rattle.schedule.proofs.entries.check_entries.Given as goal

abbrev pub invariant-loop-at : goal.invariant-loop-at
invariant-loop-at l = NoneBefore l.sizes l.kinds (words_in l.operands) l.at
