use Rattle.std.proofs.Common.{◌≡◌, ◌∙◌, ◌*◌, length, sym, ap, arith, Err}
use Rattle.std.proofs.lemmas.Result.{err_from_is_err_and}
use Rattle.terms.proofs.Laws.Tests.{known}
use Rattle.schedule.specs.Format.{words_in}
use Rattle.schedule.proofs.FirstFault.{check_promises}
use Rattle.schedule.proofs.Laws.Entries.{first_faulty, none_at_all, none_before_first, none_before_next, parts_together}
use Rattle.schedule.proofs.entries.check_entries.Goals as goal

-- both promises, by their names
told : {A B : Type 0} → A × B → record { value : A; parts_tell_first_fault : B }
told p = record { value = p.0; parts_tell_first_fault = p.1 }

pub loop-at-init : goal.loop-at-init
loop-at-init c = none_before_first c.args.sizes c.args.kinds.now (words_in c.args.operands.now)

pub loop-at-preserved : goal.loop-at-preserved
loop-at-preserved c =
    let a = c.args in
    none_before_next a.sizes a.kinds.now (words_in a.operands.now) c.loop-at.at _ c.loop-at.invariant c.loop-at-test.true (known c.meaning_at.ensures c.in_ok-meaning_at.was)

pub returns-in_err-meaning_at : goal.returns-in_err-meaning_at
returns-in_err-meaning_at c =
    let a = c.args in
    let together : length a.operands.now ≡ 4 * length a.kinds.now = omega arith in
    let failed = err_from_is_err_and c.from_residual.result c.from_residual.ensures.1 in
    told (check_promises a.sizes a.kinds.now a.operands.now _
    (failed.1
    ∙ ap Err failed.2
    ∙ first_faulty a.sizes a.kinds.now (words_in a.operands.now) c.loop-at.at _ c.loop-at.invariant c.loop-at-test.true (known c.meaning_at.ensures c.in_err-meaning_at.was)
    ∙ sym (parts_together a.sizes a.kinds.now a.operands.now together)))

pub returns : goal.returns
returns c =
    let a = c.args in
    let together : length a.operands.now ≡ 4 * length a.kinds.now = omega arith in
    told (check_promises a.sizes a.kinds.now a.operands.now _
    (none_at_all a.sizes a.kinds.now (words_in a.operands.now) c.loop-at.at c.loop-at.invariant c.loop-at-test.false
    ∙ sym (parts_together a.sizes a.kinds.now a.operands.now together)))
