-- The totals count: each of the three for itself, by an induction over the outcomes, from a total that already holds something.
use mathlib.Core.Path.{◌≡◌, refl, ap, sym, ◌∙◌}
use mathlib.Core.Bool.{Bool, true, false, cond}
use mathlib.Core.List.{List, [], ◌∷◌, map}
use Prim.Native.Nat.{ℕ, ◌+◌, ◌≤◌}
use native.Mathlib.Omega.{arith}
use lib.Dec.{eqb, leb, ltb}
use borrow.Author.Tests.{le-leb, leb-true, ltb-false, ltb-true}
use Rattle.terms.specs.Outcome.{number_of}
use Rattle.terms.specs.Tally.{counted, counted_if, none_counted}
use Rattle.terms.proofs.Laws.Tests.{by_test, decide, eqb_comm}
use Rattle.terms.specs.Lists.{occurrences}
use Rattle.schedule.specs.Types.{Outcome, Tally}
use Rattle.schedule.specs.Totals.{TotalsCount, counted_from}

-- a number, but the largest of 32 bits where it is more
abbrev capped : ℕ → ℕ
capped n = cond (leb n 4294967295) n 4294967295

capped_under : (n : ℕ) → n ≤ 4294967295 → capped n ≡ n
capped_under n under = by_test n 4294967295 (le-leb n 4294967295 under)

capped_over : (n : ℕ) → 4294967295 ≤ n → capped n ≡ 4294967295
capped_over n over = go (leb n 4294967295) refl
  where
    go : (under : Bool) → leb n 4294967295 ≡ under → cond under n 4294967295 ≡ 4294967295
    go true p = omega (arith, leb-true n 4294967295 p)
    go false p = refl

-- ── One total ───────────────────────────────────────────────────────────────────────────────────────────────────────────────

-- a total stays within 32 bits, and with an outcome that it counts, or does not count, it is one more, or the same, up to the largest
module _ (total : ℕ) (fits : total ≤ 4294967295) where
  counted_fits : (counts : Bool) → counted_if counts total ≤ 4294967295
  counted_fits true = decide (λ n. n ≤ 4294967295) (ltb total 4294967295) (λ p. omega (arith, ltb-true total 4294967295 p)) (λ p. fits)
  counted_fits false = fits

  one_counted : (counts : Bool) (more : ℕ) → capped (counted_if counts total + more) ≡ capped (total + (cond counts 1 0 + more))
  one_counted true more = decide (λ n. capped (n + more) ≡ capped (total + (1 + more))) (ltb total 4294967295) under full
    where
      under : ltb total 4294967295 ≡ true → capped (total + 1 + more) ≡ capped (total + (1 + more))
      under p = let same : total + 1 + more ≡ total + (1 + more) = omega arith in ap capped same

      full : ltb total 4294967295 ≡ false → capped (total + more) ≡ capped (total + (1 + more))
      full p =
          let most : 4294967295 ≤ total = ltb-false total 4294967295 p in
          capped_over (total + more) (omega arith) ∙ sym (capped_over (total + (1 + more)) (omega arith))
  one_counted false more = let same : total + more ≡ total + (0 + more) = omega arith in ap capped same

module _ (number : ℕ) where
  -- the total of one number, brought up to date by every outcome of a list
  abbrev total_from : ℕ → List Outcome → ℕ
  total_from total [] = total
  total_from total (o ∷ os) = total_from (counted_if (eqb (number_of o) number) total) os

  abbrev often : List Outcome → ℕ
  often os = occurrences number (map number_of os)

  total_counts : (total : ℕ) (os : List Outcome) → total ≤ 4294967295 → total_from total os ≡ capped (total + often os)
  total_counts total [] fits = sym (capped_under (total + 0) (omega arith) ∙ omega arith)
  total_counts total (o ∷ os) fits =
      let counts = eqb (number_of o) number in
      total_counts (counted_if counts total) os (counted_fits total fits counts)
      ∙ one_counted total fits counts (often os)
      ∙ ap (λ b. capped (total + (cond b 1 0 + often os))) (eqb_comm (number_of o) number)

  -- from 0, it is how often the number stands there
  total_counts_all : (os : List Outcome) → total_from 0 os ≡ capped (often os)
  total_counts_all os = let same : 0 + often os ≡ often os = omega arith in total_counts 0 os (omega arith) ∙ ap capped same

-- ── All three ───────────────────────────────────────────────────────────────────────────────────────────────────────────────

-- each total goes its own way
each_total : (t : Tally) (os : List Outcome)
    → counted_from t os ≡ record { given = total_from 17 t.given os; aborts = total_from 19 t.aborts os; waits = total_from 7 t.waits os }
each_total t [] = refl
each_total t (o ∷ os) = each_total (counted t o) os

pub totals_count : TotalsCount
totals_count os =
    each_total none_counted os
    ∙ (λ i. record { given = total_counts_all 17 os i; aborts = total_counts_all 19 os i; waits = total_counts_all 7 os i })
