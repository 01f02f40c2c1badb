-- the machine handed back last, summary and trace buffer are those after the entries before `at`
use Rattle.schedule.specs.Format.{words_in}
use Rattle.schedule.proofs.Laws.Obeyed.{Obeyed}
use Rattle.schedule.proofs.runner.obey_from.Given as goal

abbrev pub invariant-loop-at : goal.invariant-loop-at
invariant-loop-at g l = Obeyed g.M.QueueMachine.queue l.fn.machine l.sizes l.kinds (words_in l.operands) l.fn.trace l.trace l.done.machine l.summary l.at
