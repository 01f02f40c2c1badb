use Rattle.std.proofs.Common.{refl, arith, add-one, length-set}
use Rattle.std.proofs.Math.Seq.{paste-suc, paste-zero}
use Rattle.number.proofs.arrays.put_bytes.Goals as goal

pub loop-i-init : goal.loop-i-init
loop-i-init c = (paste-zero _ c.args.at c.args.bytes.now, refl)

pub loop-i-preserved : goal.loop-i-preserved
loop-i-preserved c =
    let a = c.args in
    let more = paste-suc a.buffer.now a.at a.bytes.now c.loop-i.i 0 (omega (arith, c.in-Some.ensures)) (omega arith) in
    (rw (add-one, c.loop-i.invariant.0) more, simp length-set (omega arith))
