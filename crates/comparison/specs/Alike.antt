-- Whether two schedules are alike. Renders, of "The numbers", the two sentences on alike schedules.
use Rattle.std.specs.Prelude.{◌≡◌, Bool, true, false, cond, ◌&&◌, List, [], ◌∷◌, ℕ, ◌+◌, ◌<◌, eqb, Result, Ok, Err}
use Rattle.terms.specs.Kinds.{party_number}
use Rattle.terms.specs.Lists.{all, range}
use Rattle.terms.specs.Outcome.{is_answer}
use Rattle.terms.specs.Refusal.{Refuses}
use Rattle.comparison.specs.Types.{Entry, First, Outcome, Refusal, RefusedFile, Second, Sizes}
use Rattle.schedule.specs.Faults.{file_has}
use Rattle.schedule.specs.Reader.{read_file}
use Rattle.schedule.specs.Run.{outcomes_in, schedule_in}
use Rattle.schedule.specs.Trace.{Line, line_of}

-- the answers that a party gets, with their values, in their order; 0, 5, 6 and 7 are no answers
abbrev pub answers_for : ℕ → List Entry → List Outcome → List Line
answers_for party [] os = []
answers_for party (e ∷ es) [] = []
answers_for party (e ∷ es) (o ∷ os) = cond (is_answer o && eqb (party_number e) party) (line_of o ∷ answers_for party es os) (answers_for party es os)

-- the answers that a party gets in the run of a file
abbrev pub answers_of : ℕ → List ℕ → List Line
answers_of party file = answers_for party (schedule_in file) (outcomes_in file)

-- the same number and the same value
abbrev pub same_line : Line → Line → Bool
same_line x y = eqb x.number y.number && eqb x.value y.value

-- the same lines in the same order
abbrev pub same_lines : List Line → List Line → Bool
same_lines [] [] = true
same_lines [] (y ∷ m) = false
same_lines (x ∷ l) [] = false
same_lines (x ∷ l) (y ∷ m) = same_line x y && same_lines l m

-- the six sizes as written, so that a margin of 0 is another than the buffer size
abbrev pub same_sizes : Sizes → Sizes → Bool
same_sizes s t =
    eqb s.slots t.slots
    && eqb s.buffer t.buffer
    && eqb s.spacing t.spacing
    && eqb s.margin t.margin
    && eqb s.thieves t.thieves
    && eqb s.start t.start

-- no party's answers differ between two files
abbrev pub same_answers : ℕ → List ℕ → List ℕ → Bool
same_answers thieves first second = all (λ party. same_lines (answers_of party first) (answers_of party second)) (range (thieves + 1))

abbrev pub likeness_of : List ℕ → List ℕ → Result (Sizes × ℕ) Refusal → Result (Sizes × ℕ) Refusal → Result Bool RefusedFile
likeness_of first second (Err r) other = Err (First r)
likeness_of first second (Ok (s, n)) (Err r) = Err (Second r)
likeness_of first second (Ok (s, n)) (Ok (t, m)) = Ok (same_sizes s t && same_answers s.thieves first second)

-- whether two files are alike; a refused file decides, the first one first
abbrev pub likeness : List ℕ → List ℕ → Result Bool RefusedFile
likeness first second = likeness_of first second (read_file first) (read_file second)

-- Which faults two compared files have, by the refusal in the answer: number and place are those of a fault of the first file; or it has none, and they are those of a fault of the second; or neither has one.
abbrev pub LikenessRefuses : List ℕ → List ℕ → Result Bool RefusedFile → Type 0
LikenessRefuses first second (Ok same) = Refuses (file_has first) [] × Refuses (file_has second) []
LikenessRefuses first second (Err (First r)) = Refuses (file_has first) (r ∷ [])
LikenessRefuses first second (Err (Second r)) = Refuses (file_has first) [] × Refuses (file_has second) (r ∷ [])

-- ── What alike means ────────────────────────────────────────────────────────────────────────────────────────────────────────

-- two files with these sizes have equal sizes, and give every party equal answers
pub record Equals (first second : List ℕ) (s t : Sizes) : Type 0 where
  pub sizes : s ≡ t
  pub answers : (party : ℕ) → party < s.thieves + 1 → answers_of party first ≡ answers_of party second

-- Two files that are read are alike exactly when that is so, and otherwise they are not. Proved in `proofs/AlikeExactly.antt`.
abbrev pub AlikeExactly : Type 0
AlikeExactly =
    (first second : List ℕ) (s t : Sizes) (n m : ℕ)
    → read_file first ≡ Ok (s, n) → read_file second ≡ Ok (t, m)
    → (likeness first second ≡ Ok true → Equals first second s t)
    × (Equals first second s t → likeness first second ≡ Ok true)
    × ((Equals first second s t → ⊥) → likeness first second ≡ Ok false)
