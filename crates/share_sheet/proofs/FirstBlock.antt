-- BLOCK said in two ways is the same, and the check of the blocks tells the first begin put that has it.
use Rattle.std.proofs.Common.{Ok, Err}
use mathlib.Core.Path.{◌≡◌, refl, ap, sym, ◌∙◌}
use mathlib.Core.Bool.{Bool, true, false, and-false, and-true, cond, not, ◌&&◌, ◌||◌}
use mathlib.Core.List.{List, [], ◌∷◌, ◌++◌, append-nil}
use Prim.Native.Nat.{ℕ, zero, suc, ◌+◌, ◌≤◌, ◌<◌}
use native.Mathlib.Numerals.{add-one}
use native.Mathlib.Omega.{arith}
use lib.Dec.{eqb, leb, ltb}
use lib.ListN.{length, get_or, get_or-eq_default}
use borrow.Author.Tests.{eqb-false, eqb-true, leb-false, leb-true, lt-ltb, ltb-false, ltb-true}
use Rattle.terms.specs.Kinds.{kind_of, operand_of}
use Rattle.terms.specs.Lists.{all, occurrences, range}
use Rattle.terms.specs.Refusal.{place_of}
use Rattle.terms.specs.Sizes.{within}
use Rattle.terms.proofs.Laws.Lists.{all_snoc}
use Rattle.terms.proofs.Laws.Sums.{adds_occurrences, range_suc}
use Rattle.terms.proofs.Laws.Tests.{eqb_comm}
use Rattle.properties.specs.ExactlyOnce.{number_put}
use Rattle.schedule.proofs.Laws.Check.{fail_if_failed, fail_if_passed, range_failed}
use Rattle.share_sheet.specs.Types.{BeginPut, BeginSteal, BeginTake, Block, ClientStore, Drain, Entry, Refusal, ThiefStep, WorkerStep}
use Rattle.share_sheet.specs.Faults.{CheckTellsFirstBlock, block_has, put_before, puts_at}
use Rattle.share_sheet.specs.Sheet.{check_blocks, puts_up_to, wrong_block, wrong_put}
use Rattle.share_sheet.proofs.Laws.Blocks.{check, puts_more, right_at}

-- ── BLOCK said in two ways ──────────────────────────────────────────────────────────────────────────────────────────────────

-- no block's number
outside : (count x : ℕ) → not (within 1 count x) ≡ (eqb x 0 || ltb count x)
outside count x = go (leb 1 x) (leb x count) (eqb x 0) (ltb count x) refl refl refl refl
  where
    go : (some few none many : Bool) → leb 1 x ≡ some → leb x count ≡ few → eqb x 0 ≡ none → ltb count x ≡ many → not (some && few) ≡ (none || many)
    go true true true many s f n m = absurd (omega (arith, leb-true 1 x s, eqb-true x 0 n))
    go true true false true s f n m = absurd (omega (arith, leb-true x count f, ltb-true count x m))
    go true true false false s f n m = refl
    go true false true many s f n m = refl
    go true false false true s f n m = refl
    go true false false false s f n m = absurd (omega (arith, leb-false x count f, ltb-false count x m))
    go false few true many s f n m = refl
    go false few false many s f n m = absurd (let some = eqb-false x 0 n in omega (arith, leb-false 1 x s))

-- one entry more: a begin put of the number, or none
module _ (x : ℕ) (used : List ℕ) (others : Bool) (so_far : ltb 0 (occurrences x used) ≡ not others) where
  no_put : ltb 0 (occurrences x (used ++ [])) ≡ not (others && true)
  no_put = ap (λ l. ltb 0 (occurrences x l)) (append-nil used) ∙ so_far ∙ ap not (sym (and-true others))

  used_more : (e : Entry) → ltb 0 (occurrences x (used ++ number_put e)) ≡ not (others && not (eqb (kind_of e) 2 && eqb (operand_of e) x))
  used_more Drain = no_put
  used_more ClientStore = no_put
  used_more BeginTake = no_put
  used_more WorkerStep = no_put
  used_more (BeginSteal i) = no_put
  used_more (ThiefStep i) = no_put
  used_more (BeginPut y) = ap (ltb 0) ((adds_occurrences x).append used (y ∷ [])) ∙ ap (λ t. ltb 0 (occurrences x used + (cond t 1 0 + 0))) (eqb_comm x y) ∙ go (eqb y x)
    where
      go : (same : Bool) → ltb 0 (occurrences x used + (cond same 1 0 + 0)) ≡ not (others && not same)
      go true = lt-ltb 0 (occurrences x used + (1 + 0)) (omega arith) ∙ ap not (sym (and-false others))
      go false = let none : occurrences x used + (0 + 0) ≡ occurrences x used = omega arith in ap (ltb 0) none ∙ so_far ∙ ap not (sym (and-true others))

-- a number is used by an earlier begin put
used_before : (es : List Entry) (x n : ℕ) → n ≤ length es → ltb 0 (occurrences x (puts_up_to n es)) ≡ put_before es x n
used_before es x zero few = refl
used_before es x (suc n) few =
    let other : ℕ → Bool = λ at. not (puts_at es x at) in
    rw add-one at
    (ap (λ l. ltb 0 (occurrences x l)) (puts_more es n few)
    ∙ used_more x (puts_up_to n es) (all other (range n)) (used_before es x n (omega arith)) (get_or es n Drain)
    ∙ ap not (sym (ap (all other) (range_suc n) ∙ all_snoc other (range n) n)))

pub said_twice : (count : ℕ) (es : List Entry) (at : ℕ) → wrong_block count es at ≡ block_has count es at
said_twice count es at = go (ltb at (length es)) refl
  where
    has : Entry → Bool
    has e = eqb (kind_of e) 2 && ((eqb (operand_of e) 0 || ltb count (operand_of e)) || put_before es (operand_of e) at)

    each : at ≤ length es → (e : Entry) → wrong_put count (puts_up_to at es) e ≡ has e
    each few Drain = refl
    each few ClientStore = refl
    each few (BeginPut x) = λ i. outside count x i || used_before es x at few i
    each few BeginTake = refl
    each few WorkerStep = refl
    each few (BeginSteal j) = refl
    each few (ThiefStep j) = refl

    go : (inside : Bool) → ltb at (length es) ≡ inside → wrong_put count (puts_up_to at es) (get_or es at Drain) ≡ has (get_or es at Drain)
    go true p = each (omega (arith, ltb-true at (length es) p)) (get_or es at Drain)
    go false p =
        let past : get_or es at Drain ≡ Drain = get_or-eq_default es Drain (ltb-false at (length es) p) in
        ap (wrong_put count (puts_up_to at es)) past ∙ sym (ap has past)

-- ── The first one ───────────────────────────────────────────────────────────────────────────────────────────────────────────

pub check_tells_first_block : CheckTellsFirstBlock
check_tells_first_block count es = record { told = λ r e. (first r e).0; here = λ r e. (first r e).1; none_before = λ r e. (first r e).2; passed = passed }
  where
    first : (r : Refusal) → check_blocks count es ≡ Err r
        → (r ≡ Block (place_of r)) × (block_has count es (place_of r) ≡ true) × ((before : ℕ) → before < place_of r → block_has count es before ≡ false)
    first r e =
        let found = range_failed (check count es) (length es) r e in
        let fault = fail_if_failed (wrong_block count es found.0) (Block found.0) found.1.1.0 in
        let place : place_of r ≡ found.0 = ap place_of fault.1 in (
          fault.1 ∙ ap Block (sym place),
          ap (block_has count es) place ∙ sym (said_twice count es found.0) ∙ fault.0,
          λ before earlier. sym (said_twice count es before) ∙ fail_if_passed (wrong_block count es before) (Block before) (found.1.1.1 before (omega (arith, place))),
        )

    passed : check_blocks count es ≡ Ok tt → (place : ℕ) → block_has count es place ≡ false
    passed e place = sym (said_twice count es place) ∙ go (ltb place (length es)) refl
      where
        go : (inside : Bool) → ltb place (length es) ≡ inside → wrong_block count es place ≡ false
        go true p = right_at count es e place (ltb-true place (length es) p)
        go false p = ap (wrong_put count (puts_up_to place es)) (get_or-eq_default es Drain (ltb-false place (length es) p))
