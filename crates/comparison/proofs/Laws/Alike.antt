-- Laws of alike schedules: the comparison in bytes is the one of the definitions, and the tests of sizes and of lines are equality.
use mathlib.Core.Path.{◌≡◌, refl, subst, sym, ◌∙◌}
use mathlib.Core.Bool.{Bool, true, ◌&&◌, false≢true}
use mathlib.Core.List.{List, [], ◌∷◌}
use Prim.Native.Nat.{ℕ, ◌+◌}
use lib.Dec.{eqb}
use borrow.Author.Tests.{eq-eqb, eqb-true}
use Rattle.std.proofs.Common.{Result, Ok, Err}
use Rattle.terms.specs.Refusal.{Refuses, refusal_in}
use Rattle.terms.proofs.Laws.Tests.{and_left, and_right}
use Rattle.terms.specs.Lists.{all, range}
use Rattle.comparison.specs.Types.{Refusal, RefusedFile, Run, Sizes}
use Rattle.schedule.specs.Faults.{file_has}
use Rattle.schedule.proofs.Faults.{reader_refuses_faults}
use Rattle.schedule.specs.Trace.{Line}
use Rattle.comparison.specs.Alike.{LikenessRefuses, answers_for, answers_of, likeness, likeness_of, same_answers, same_line, same_lines, same_sizes}
use Rattle.comparison.specs.Comparison.{RunOf, lines_for, same_for_all}
use Rattle.schedule.specs.Reader.{read_file}
use Rattle.machine.specs.Linearizable.{ff_the}
use Rattle.schedule.proofs.Laws.Run.{PartsOf, parts_outcomes}

-- ── The comparison of two files ─────────────────────────────────────────────────────────────────────────────────────────────

-- what is compared of a run of a file are the answers in the run of the file
run_answers : (file : List ℕ) {s : Sizes} {n : ℕ} {kinds operands : List ℕ} {r : Run} → PartsOf file s kinds operands n → RunOf s kinds operands r → (party : ℕ) → lines_for party r ≡ answers_of party file
run_answers file parts run party = run.answers party ∙ (λ i. answers_for party (parts.entries i) (parts_outcomes ff_the parts i))

-- and so the comparison of two runs is that of the files, for the worker and each thief
pub files_compared : (first second : List ℕ) {s : Sizes} {n k : ℕ} {kinds operands other_kinds other_operands : List ℕ} {r other : Run}
    → PartsOf first s kinds operands n → PartsOf second s other_kinds other_operands k → RunOf s kinds operands r → RunOf s other_kinds other_operands other
    → same_for_all r other ≡ same_answers s.thieves first second
files_compared first second parts other_parts run other_run =
    λ i. all (λ party. same_lines (run_answers first parts run party i) (run_answers second other_parts other_run party i)) (range ((run.sizes i).thieves + 1))

-- ── The tests are equality ──────────────────────────────────────────────────────────────────────────────────────────────────

-- lines

same_line_lem : (x y : Line) → same_line x y ≡ true → x ≡ y
same_line_lem x y e =
    let number = eqb-true x.number y.number (and_left (eqb x.number y.number) (eqb x.value y.value) e) in
    let value = eqb-true x.value y.value (and_right (eqb x.number y.number) (eqb x.value y.value) e) in
    λ i. record { number = number i; value = value i }

line_same : (x : Line) → same_line x x ≡ true
line_same x = λ i. eq-eqb x.number x.number refl i && eq-eqb x.value x.value refl i

pub same_lines_lem : (l m : List Line) → same_lines l m ≡ true → l ≡ m
same_lines_lem [] [] e = refl
same_lines_lem [] (y ∷ m) e = absurd (false≢true e)
same_lines_lem (x ∷ l) [] e = absurd (false≢true e)
same_lines_lem (x ∷ l) (y ∷ m) e =
    let first = same_line_lem x y (and_left (same_line x y) (same_lines l m) e) in
    let rest = same_lines_lem l m (and_right (same_line x y) (same_lines l m) e) in
    λ i. first i ∷ rest i

lines_same : (l : List Line) → same_lines l l ≡ true
lines_same [] = refl
lines_same (x ∷ l) = λ i. line_same x i && lines_same l i

pub equal_lines : (l m : List Line) → l ≡ m → same_lines l m ≡ true
equal_lines l m e = subst (λ k. same_lines l k ≡ true) e (lines_same l)

-- sizes

-- tests one behind the other, the last of which is of two numbers
and_equal : (b : Bool) (j k : ℕ) → (b && eqb j k) ≡ true → (b ≡ true) × (j ≡ k)
and_equal b j k e = (and_left b (eqb j k) e, eqb-true j k (and_right b (eqb j k) e))

pub same_sizes_lem : (s t : Sizes) → same_sizes s t ≡ true → s ≡ t
same_sizes_lem s t e =
    let one = eqb s.slots t.slots in
    let two = one && eqb s.buffer t.buffer in
    let three = two && eqb s.spacing t.spacing in
    let four = three && eqb s.margin t.margin in
    let five = four && eqb s.thieves t.thieves in
    let start = and_equal five s.start t.start e in
    let thieves = and_equal four s.thieves t.thieves start.0 in
    let margin = and_equal three s.margin t.margin thieves.0 in
    let spacing = and_equal two s.spacing t.spacing margin.0 in
    let buffer = and_equal one s.buffer t.buffer spacing.0 in
    let slots = eqb-true s.slots t.slots buffer.0 in
    λ i. record { slots = slots i; buffer = buffer.1 i; spacing = spacing.1 i; margin = margin.1 i; thieves = thieves.1 i; start = start.1 i }

sizes_same : (s : Sizes) → same_sizes s s ≡ true
sizes_same s =
    λ i. eq-eqb s.slots s.slots refl i
    && eq-eqb s.buffer s.buffer refl i
    && eq-eqb s.spacing s.spacing refl i
    && eq-eqb s.margin s.margin refl i
    && eq-eqb s.thieves s.thieves refl i
    && eq-eqb s.start s.start refl i

pub equal_sizes : (s t : Sizes) → s ≡ t → same_sizes s t ≡ true
equal_sizes s t e = subst (λ u. same_sizes s u ≡ true) e (sizes_same s)

-- ── What is refused ─────────────────────────────────────────────────────────────────────────────────────────────────────────

-- what `alike` promises, of the answer that it hands back
pub alike_promises : (first second : List ℕ) (answer : Result Bool RefusedFile) → answer ≡ likeness first second → LikenessRefuses first second answer
alike_promises first second answer told =
    subst (LikenessRefuses first second) (sym told) (refuses (read_file first) (read_file second) (reader_refuses_faults first) (reader_refuses_faults second))
  where
    refuses : (one other : Result (Sizes × ℕ) Refusal) → Refuses (file_has first) (refusal_in one) → Refuses (file_has second) (refusal_in other)
        → LikenessRefuses first second (likeness_of first second one other)
    refuses (Err r) other p q = p
    refuses (Ok (s, n)) (Err r) p q = (p, q)
    refuses (Ok (s, n)) (Ok (t, m)) p q = (p, q)
