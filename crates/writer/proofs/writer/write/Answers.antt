-- what is refused is a fault, and what is written has none
use Rattle.std.proofs.Common.{◌+◌, ◌*◌, length, rules, Ok}
use Rattle.writer.proofs.Faults.{write_promises}
use Rattle.writer.proofs.writer.write.Goals as goal

pub returns-in_err-check_writing-clause-refuses : goal.returns-in_err-check_writing-clause-refuses
returns-in_err-check_writing-clause-refuses c =
    let a = c.args in write_promises a.sizes a.kinds.now a.operands.now (length a.buffer.now) c.from_residual.result (search rules)

pub returns-clause-refuses : goal.returns-clause-refuses
returns-clause-refuses c =
    let a = c.args in write_promises a.sizes a.kinds.now a.operands.now (length a.buffer.now) (Ok (28 + 5 * length a.kinds.now)) (search rules)
