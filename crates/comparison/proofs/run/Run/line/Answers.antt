use Rattle.std.proofs.Common.{◌∙◌, arith}
use Rattle.comparison.proofs.Laws.Comparison.{number_byte, value_bytes}
use Rattle.comparison.proofs.run.Run.line.Goals as goal

pub returns-clause-number : goal.returns-clause-number
returns-clause-number c = number_byte c.args.self.now c.args.at c.requires

pub returns-clause-value : goal.returns-clause-value
returns-clause-value c = c.word_at-value.ensures ∙ value_bytes c.args.self.now c.args.at c.requires (omega (arith, c.args.self.now.few))
