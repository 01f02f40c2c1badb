-- Laws of the check of the blocks: the marks say which numbers are used, and the first wrong begin put decides.
use Rattle.std.proofs.Common.{Result, Ok, Err}
use mathlib.Core.Path.{◌≡◌, refl, ap, sym, ◌∙◌}
use mathlib.Core.Bool.{Bool, true, false, cond, not, ◌||◌}
use mathlib.Core.List.{List, [], ◌∷◌, ◌++◌, append-nil, map}
use Prim.Native.Nat.{ℕ, zero, suc, ◌+◌, ◌≤◌, ◌<◌}
use native.Mathlib.Numerals.{add-one}
use native.Mathlib.Omega.{arith}
use lib.Dec.{eqb, ltb}
use lib.ListN.{length, get_or, length-replicate, length-set, replicate, set, take}
use lib.Seq.{take-suc}
use borrow.Author.Tests.{eqb-false, eqb-true, lt-ltb}
use Rattle.terms.specs.Lists.{concat_map, occurrences, range}
use Rattle.terms.specs.Sizes.{within}
use Rattle.terms.proofs.Laws.Lists.{get_d_set}
use Rattle.terms.proofs.Laws.Sizes.{within_bounds}
use Rattle.terms.proofs.Laws.Sums.{adds_occurrences, concat_map-append}
use Rattle.properties.specs.ExactlyOnce.{number_put}
use Rattle.schedule.specs.Check.{fail_if, first}
use Rattle.schedule.proofs.Laws.Check.{fail_if_passed, first_more, first_stops, range_passed}
use Rattle.share_sheet.specs.Types.{BeginPut, BeginSteal, BeginTake, Block, ClientStore, Drain, Entry, ThiefStep, WorkerStep, Refusal}
use Rattle.share_sheet.specs.Filling.{marked, wrong_by_marks}
use Rattle.share_sheet.specs.Sheet.{check_blocks, puts_up_to, wrong_block, wrong_put}

-- one entry more
pub puts_more : (es : List Entry) (n : ℕ) → n < length es → puts_up_to (n + 1) es ≡ puts_up_to n es ++ number_put (get_or es n Drain)
puts_more es n there =
    ap (λ k. puts_up_to k es) (add-one n)
    ∙ ap (concat_map number_put) (take-suc es n Drain there)
    ∙ concat_map-append number_put (take n es) (get_or es n Drain ∷ [])
    ∙ ap (λ l. puts_up_to n es ++ l) (append-nil (number_put (get_or es n Drain)))

-- ── Marks ───────────────────────────────────────────────────────────────────────────────────────────────────────────────────

-- the marks of the numbers that are used
pub record Marks (marks : List Bool) (used : List ℕ) : Type 0 where
  pub long : length marks ≡ 256
  pub each : (k : ℕ) → k < 256 → get_or marks k false ≡ ltb 0 (occurrences k used)

-- at first, none
pub marks_none : Marks (replicate 256 false) []
marks_none = record { long = length-replicate 256 false; each = λ k small. none k 256 }
  where
    none : (k n : ℕ) → get_or (replicate n false) k false ≡ false
    none k zero = refl
    none zero (suc n) = refl
    none (suc k) (suc n) = none k n

module _ (count : ℕ) (few : count ≤ 255) (marks : List Bool) (used : List ℕ) (m : Marks marks used) where
  -- a number is wrong by the marks exactly if it is wrong
  pub wrong_marked : (e : Entry) → wrong_by_marks count marks (number_put e) ≡ wrong_put count used e
  wrong_marked Drain = refl
  wrong_marked ClientStore = refl
  wrong_marked BeginTake = refl
  wrong_marked WorkerStep = refl
  wrong_marked (BeginSteal i) = refl
  wrong_marked (ThiefStep i) = refl
  wrong_marked (BeginPut x) = go (within 1 count x) refl
    where
      go : (inside : Bool) → within 1 count x ≡ inside → (not inside || get_or marks x false) ≡ (not inside || ltb 0 (occurrences x used))
      go true p = m.each x (omega (arith, (within_bounds 1 count x p).1))
      go false p = refl

-- a number more
marks_put : (marks : List Bool) (used : List ℕ) (x : ℕ) → Marks marks used → Marks (set marks x true) (used ++ (x ∷ []))
marks_put marks used x m =
    record {
      long = length-set marks x true ∙ m.long;
      each = λ k small. get_d_set marks x k true false (omega (arith, m.long)) ∙ go k (eqb x k) (eqb k x) refl refl (m.each k small) ∙ sym (ap (ltb 0) ((adds_occurrences k).append used (x ∷ [])));
    }
  where
    go : (k : ℕ) (same other : Bool) → eqb x k ≡ same → eqb k x ≡ other → get_or marks k false ≡ ltb 0 (occurrences k used)
        → cond same true (get_or marks k false) ≡ ltb 0 (occurrences k used + (cond other 1 0 + 0))
    go k true true p q so_far = sym (lt-ltb 0 (occurrences k used + (1 + 0)) (omega arith))
    go k true false p q so_far = absurd (eqb-false k x q (sym (eqb-true x k p)))
    go k false true p q so_far = absurd (eqb-false x k p (sym (eqb-true k x q)))
    go k false false p q so_far = let same : occurrences k used ≡ occurrences k used + (0 + 0) = omega arith in so_far ∙ ap (ltb 0) same

-- the marks after an entry
pub marks_more : (marks : List Bool) (used : List ℕ) (e : Entry) → Marks marks used → Marks (marked (number_put e) marks) (used ++ number_put e)
marks_more marks used Drain m = rw (append-nil used) m
marks_more marks used ClientStore m = rw (append-nil used) m
marks_more marks used (BeginPut x) m = marks_put marks used x m
marks_more marks used BeginTake m = rw (append-nil used) m
marks_more marks used WorkerStep m = rw (append-nil used) m
marks_more marks used (BeginSteal i) m = rw (append-nil used) m
marks_more marks used (ThiefStep i) m = rw (append-nil used) m

-- ── The loop ────────────────────────────────────────────────────────────────────────────────────────────────────────────────

module _ (count : ℕ) (es : List Entry) where
  abbrev pub check : ℕ → Result Unit Refusal
  check at = fail_if (wrong_block count es at) (Block at)

  -- where none is wrong, each is right
  pub right_at : check_blocks count es ≡ Ok tt → (at : ℕ) → at < length es → wrong_block count es at ≡ false
  right_at right at there = fail_if_passed (wrong_block count es at) (Block at) (range_passed check (length es) right at there)

  -- no entry before a place is wrong, and the marks are of what these use
  pub record RightBefore (marks : List Bool) (at : ℕ) : Type 0 where
    pub right : first (map check (range at)) ≡ Ok tt
    pub marks_then : Marks marks (puts_up_to at es)

  pub right_none : RightBefore (replicate 256 false) 0
  right_none = record { right = refl; marks_then = marks_none }

  module _ (few : count ≤ 255) (marks : List Bool) (at : ℕ) (there : at < length es) (so_far : RightBefore marks at) (e : Entry) (entry : e ≡ get_or es at Drain)
      (wrong : Bool) (tested : wrong ≡ wrong_by_marks count marks (number_put e)) where
    found : wrong ≡ wrong_block count es at
    found = tested ∙ wrong_marked count few marks (puts_up_to at es) so_far.marks_then e ∙ ap (wrong_put count (puts_up_to at es)) entry

    pub wrong_decides : wrong ≡ true → Err (Block at) ≡ check_blocks count es
    wrong_decides is = sym (first_stops check (length es) at (Block at) there so_far.right (ap (λ b. fail_if b (Block at)) (sym found ∙ is)))

    pub right_more : wrong ≡ false → (after : List Bool) → after ≡ cond wrong marks (marked (number_put e) marks) → RightBefore after (at + 1)
    right_more is after put =
        record {
          right = first_more check at so_far.right ∙ ap (λ b. fail_if b (Block at)) (sym found ∙ is);
          marks_then =
              rw (put ∙ ap (λ b. cond b marks (marked (number_put e) marks)) is, puts_more es at there, sym entry)
              (marks_more marks (puts_up_to at es) e so_far.marks_then);
        }

  pub right_all : (marks : List Bool) (at : ℕ) → at ≡ length es → RightBefore marks at → (Ok tt) ≡ check_blocks count es
  right_all marks at end so_far = sym (ap (λ n. first (map check (range n))) (sym end) ∙ so_far.right)
