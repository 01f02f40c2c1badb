use Rattle.std.proofs.Common.{◌≡◌, ℕ, ◌+◌, ◌-◌, ◌≤◌, List, ◌++◌, None, Some, Result, Ok, Err, OnErr, rules, arith, length, take, drop, length-drop, sym, ap, ◌∙◌, subst}
use Rattle.std.specs.declared.option.Option.{Option}
use Rattle.std.specs.Io.KnownBytes.{Appends, Keeps}
use Rattle.std.proofs.KnownBytes.{Appends-nil, Appends-trans}
use lib.Seq.{take-add, take_all}
use Rattle.program.proofs.write_whole.Goals as goal

-- what was appended stands where a write that fails leaves the bytes alone
appended_kept : (a b c : Option (List ℕ)) (bs : List ℕ) → Appends a b bs → Keeps b c → Appends a c bs
appended_kept None b c bs p q = tt
appended_kept (Some x) None c bs p q = absurd p
appended_kept (Some x) (Some y) None bs p q = absurd q
appended_kept (Some x) (Some y) (Some z) bs p q = q ∙ p

-- what holds after an error is promised of it
on_err : {T E P : Type 0} (r : Result T E) → P → OnErr r P
on_err (Ok x) p = tt
on_err (Err e) p = p

pub loop-written-init : goal.loop-written-init
loop-written-init g c = (search rules, Appends-nil _)

pub returns-in_err-more-clause-err : goal.returns-in_err-more-clause-err
returns-in_err-more-clause-err g c =
    on_err c.from_residual.result (c.loop-written.written, appended_kept _ _ _ _ c.loop-written.invariant.1 c.in_err-more.ensures.bytes)

-- what is not written yet, as the code hands it on, is what stands behind what is
rest_is : (w : ℕ) (bytes : List ℕ) → take (length bytes - w) (drop w bytes) ≡ drop w bytes
rest_is w bytes = take_all (length bytes - w) (drop w bytes) (omega (arith, length-drop w bytes))

-- a front that was written, and some of what stands behind it, are a longer front
more_written : (w n : ℕ) (bytes : List ℕ) → take w bytes ++ take n (take (length bytes - w) (drop w bytes)) ≡ take (w + n) bytes
more_written w n bytes = ap (λ l. take w bytes ++ take n l) (rest_is w bytes) ∙ sym (take-add w n bytes)

pub returns-then-more-eq0-clause-err : goal.returns-then-more-eq0-clause-err
returns-then-more-eq0-clause-err g c =
    let both = Appends-trans _ _ _ _ _ c.loop-written.invariant.1 c.in_ok-more.ensures.bytes in
    (c.loop-written.written + c.in_ok-more.more, subst (Appends _ _) (more_written c.loop-written.written c.in_ok-more.more c.args.bytes.now) both)

pub loop-written-preserved : goal.loop-written-preserved
loop-written-preserved g c =
    let wrote = c.in_ok-more.ensures in
    let both = Appends-trans _ _ _ _ _ c.loop-written.invariant.1 wrote.bytes in
    let bound = subst (λ l. c.in_ok-more.more ≤ length l) (rest_is c.loop-written.written c.args.bytes.now) wrote.bound in
    let within = c.loop-written.invariant.0 in (
      omega (arith, bound, within, length-drop c.loop-written.written c.args.bytes.now),
      subst (Appends _ _) (more_written c.loop-written.written c.in_ok-more.more c.args.bytes.now) both,
    )

pub returns-clause-ok : goal.returns-clause-ok
returns-clause-ok g c = subst (Appends _ _) (take_all c.loop-written.written c.args.bytes.now (omega arith)) c.loop-written.invariant.1
