use Rattle.std.proofs.Common.{◌≡◌, ◌∙◌, ◌<◌, ℕ, List, Result, Err, length, get_or, subst, sym, ap}
use Rattle.std.proofs.lemmas.Result.{err_from_is_err_and}
use Rattle.terms.specs.Kinds.{entry_of}
use Rattle.terms.proofs.Laws.Tests.{known}
use Rattle.schedule.specs.Entries.{entry_at}
use Rattle.schedule.proofs.Laws.Entries.{entry_at_both, first_faulty, none_before_next}
use Rattle.writer.specs.Types.{Entry, Refusal, Sizes}
use Rattle.writer.proofs.entries.check_arrays.Goals as goal

-- what `entry_of` answers in a turn is the entry of the two arrays
meant : (s : Sizes) (kinds operands : List ℕ) (at : ℕ) {m : Result Entry Refusal} → length operands ≡ length kinds → at < length kinds
    → entry_of s.thieves at (get_or kinds at 0) (get_or operands at 0) ≡ m → entry_at s kinds operands at ≡ m
meant s kinds operands at parallel there tells = entry_at_both s kinds operands at there (subst (λ n. at < n) (sym parallel) there) ∙ tells

pub returns-in_err-entry_of : goal.returns-in_err-entry_of
returns-in_err-entry_of c =
    let a = c.args in
    let failed = err_from_is_err_and c.from_residual.result c.from_residual.ensures.1 in
    failed.1
    ∙ ap Err failed.2
    ∙ first_faulty a.sizes a.kinds.now a.operands.now c.loop-at.at _ c.loop-at.invariant c.loop-at-test.true
    (meant a.sizes a.kinds.now a.operands.now c.loop-at.at c.requires c.loop-at-test.true (known c.entry_of.ensures c.in_err-entry_of.was))

pub loop-at-preserved : goal.loop-at-preserved
loop-at-preserved c =
    let a = c.args in
    none_before_next a.sizes a.kinds.now a.operands.now c.loop-at.at _ c.loop-at.invariant c.loop-at-test.true
    (meant a.sizes a.kinds.now a.operands.now c.loop-at.at c.requires c.loop-at-test.true (known c.entry_of.ensures c.in_ok-entry_of.was))
