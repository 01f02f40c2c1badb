use Rattle.std.proofs.Common.{◌≡◌, ◌∙◌, ℕ, List, ap, sym, arith, Result, Ok}
use Rattle.terms.proofs.Laws.Tests.{known}
use Rattle.machine.specs.Linearizable.{ff_the}
use Rattle.schedule.specs.Reader.{kind_part, operand_part, read_file}
use Rattle.schedule.proofs.Laws.Run.{PartsOf, parts_obeyed, parts_outcomes}
use Rattle.share_sheet.specs.Types.{Refusal, Sizes}
use Rattle.share_sheet.proofs.accepted.Accepted.read.Goals as goal

-- what the sizes and the two parts are
parts_read : (file : List ℕ) {reading : Result (Sizes × ℕ) Refusal} {s : Sizes} {n : ℕ} {kinds operands : List ℕ} → reading ≡ read_file file → reading ≡ Ok (s, n)
    → kinds ≡ kind_part file reading → operands ≡ operand_part file reading → PartsOf file s kinds operands n
parts_read file reads told kinds operands = parts_obeyed file (known reads told) (kinds ∙ ap (kind_part file) told) (operands ∙ ap (operand_part file) told)

pub invariant_of-result : goal.invariant_of-result
invariant_of-result c =
    let parts = parts_read c.args.file.now c.read-reading.ensures.value c.in-Ok.is c.kind_part.ensures.result_value c.operand_part.ensures.result_value in
    record { ranged = parts.ranged; few = omega (arith, parts.few, parts.many); allowed = parts.allowed }

pub returns : goal.returns
returns c =
    let parts = parts_read c.args.file.now c.read-reading.ensures.value c.in-Ok.is c.kind_part.ensures.result_value c.operand_part.ensures.result_value in
    record {
      read = known c.read-reading.ensures.value c.in-Ok.is ∙ ap (λ n. Ok (c.in-Ok.sizes, n)) (sym parts.many);
      same_entries = parts.entries;
      same_outcomes = parts_outcomes ff_the parts;
    }
