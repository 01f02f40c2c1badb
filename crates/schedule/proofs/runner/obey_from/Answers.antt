use Rattle.std.proofs.Common.{refl, ap, ◌∙◌}
use Rattle.schedule.proofs.Laws.Obeyed.{obeyed_all, obeyed_more, obeyed_none}
use Rattle.schedule.proofs.runner.obey_from.Goals as goal

pub loop-at-init : goal.loop-at-init
loop-at-init g c = obeyed_none refl c.none-summary.ensures

pub loop-at-preserved : goal.loop-at-preserved
loop-at-preserved g c =
    let obeyed = c.obey-done.ensures ∙ g.met.M.QueueMachine.obeys_as_queue _ _ in
    obeyed_more c.loop-at.invariant c.loop-at-test.true c.entry_at-entry.ensures (ap (λ d. d.machine) obeyed) (ap (λ d. d.outcome) obeyed) (ap (λ d. d.hidden) obeyed)
    c.told-summary.ensures c.put_outcome.auto.trace c.put_outcome.ensures

pub returns : goal.returns
returns g c =
    let p = obeyed_all c.loop-at.invariant c.loop-at-test.false c.put_count.ensures in
    record { value = p.0; trace_after = p.1 }
