-- what the two readings are decides, then the sizes, then the answers
use Rattle.std.proofs.Common.{◌≡◌, ◌∙◌, ℕ, List, Bool, ap, refl, sym, arith, true, false, rules, Result, Ok}
use mathlib.Core.Bool.{◌&&◌}
use Rattle.terms.proofs.Laws.Tests.{known}
use Rattle.schedule.specs.Reader.{kind_part, operand_part, read_file}
use Rattle.schedule.proofs.Laws.Run.{PartsOf, parts_obeyed}
use Rattle.comparison.specs.Types.{Refusal, Run, Sizes}
use Rattle.comparison.specs.Alike.{likeness, likeness_of, same_answers, same_sizes}
use Rattle.comparison.specs.Comparison.{RunOf, same_for_all}
use Rattle.comparison.proofs.Laws.Alike.{alike_promises, files_compared, same_sizes_lem}
use Rattle.comparison.proofs.likeness.alike.Goals as goal

-- the parts of a file that was read, by sizes that are its own
parts_read : (file : List ℕ) {reading : Result (Sizes × ℕ) Refusal} {s t : Sizes} {n : ℕ} {kinds operands : List ℕ} → reading ≡ read_file file → reading ≡ Ok (t, n) → s ≡ t
    → kinds ≡ kind_part file reading → operands ≡ operand_part file reading → PartsOf file s kinds operands n
parts_read file {n = n} reads told same kinds operands =
    let own = told ∙ ap (λ s. Ok (s, n)) (sym same) in
    parts_obeyed file (known reads own) (kinds ∙ ap (kind_part file) own) (operands ∙ ap (operand_part file) own)

-- Two files that were read, with the same sizes: what is found of their runs decides.
decided : (first second : List ℕ) {s t : Sizes} {n k : ℕ} {kinds operands other_kinds other_operands : List ℕ} {r other : Run} {answer : Bool}
    → read_file first ≡ Ok (s, n) → read_file second ≡ Ok (t, k) → same_sizes s t ≡ true → PartsOf first s kinds operands n → PartsOf second s other_kinds other_operands k
    → RunOf s kinds operands r → RunOf s other_kinds other_operands other → answer ≡ same_for_all r other → Ok answer ≡ likeness first second
decided first second {s = s} {t = t} one two same parts other_parts run other_run finds =
    ap Ok (finds ∙ files_compared first second parts other_parts run other_run)
    ∙ sym ((λ i. likeness_of first second (one i) (two i)) ∙ (λ i. Ok (same i && same_answers s.thieves first second)))

pub returns-then-ne-clause-likeness_refuses : goal.returns-then-ne-clause-likeness_refuses
returns-then-ne-clause-likeness_refuses c = alike_promises c.args.first.now c.args.second.now (Ok false) (search rules)

-- ── Files with the same sizes ───────────────────────────────────────────────────────────────────────────────────────────────

pub new-run-requires : goal.new-run-requires
new-run-requires c =
    let parts = parts_read c.args.first.now c.read-reading.ensures.value c.in-Ok.is refl c.kind_part.ensures.result_value c.operand_part.ensures.result_value in
    omega (arith, parts.many, parts.few)

pub new-other_run-requires : goal.new-other_run-requires
new-other_run-requires c =
    let parts = parts_read c.args.second.now c.read-other.ensures.value c.in-Ok-other.is refl c.kind_part-2.ensures.result_value c.operand_part-2.ensures.result_value in
    omega (arith, parts.many, parts.few)

pub returns-clause-value : goal.returns-clause-value
returns-clause-value c =
    let same : same_sizes c.in-Ok.sizes c.in-Ok-other.other_sizes ≡ true = search rules in
    decided c.args.first.now c.args.second.now (known c.read-reading.ensures.value c.in-Ok.is) (known c.read-other.ensures.value c.in-Ok-other.is) same
    (parts_read c.args.first.now c.read-reading.ensures.value c.in-Ok.is refl c.kind_part.ensures.result_value c.operand_part.ensures.result_value)
    (parts_read c.args.second.now c.read-other.ensures.value c.in-Ok-other.is (same_sizes_lem c.in-Ok.sizes c.in-Ok-other.other_sizes same) c.kind_part-2.ensures.result_value c.operand_part-2.ensures.result_value)
    c.new-run.ensures c.new-other_run.ensures c.same_for_all.ensures

pub returns-clause-likeness_refuses : goal.returns-clause-likeness_refuses
returns-clause-likeness_refuses c = alike_promises c.args.first.now c.args.second.now (Ok c.same_for_all.result) (returns-clause-value c)
