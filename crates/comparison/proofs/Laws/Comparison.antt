-- Laws of comparing two runs: where the bytes of an answer lie, and that comparing what two iterators give, item by item, compares their lists.
use mathlib.Core.Path.{◌≡◌, refl, ap, subst, sym, ◌∙◌}
use mathlib.Core.Bool.{Bool, true, false, ◌&&◌}
use mathlib.Core.List.{List, [], ◌∷◌}
use Prim.Native.Nat.{ℕ, zero, suc, ◌+◌, ◌*◌, ◌≤◌, ◌<◌, zero-le}
use native.Mathlib.Nat.{zero-add}
use native.Mathlib.Numerals.{add-one}
use native.Mathlib.Omega.{arith}
use lib.Dec.{eqb}
use lib.ListN.{length, get_or}
use Rattle.std.proofs.Common.{Option, Some, None, MatchOption, IfSome}
use Rattle.std.specs.Bool.{MatchBool}
use Rattle.std.specs.Iterator.{AlwaysYields, ComparesItemsByEq, YieldsThen}
use Rattle.std.specs.List.{AllWithin, AllZip, HoldsAt, range_with_len}
use Rattle.std.proofs.lemmas.Iterator.{YieldsList}
use Rattle.std.proofs.lemmas.List.FromFn.{get_or-range_with_len, length-range_with_len}
use Rattle.terms.specs.Lists.{all, range, range_from}
use Rattle.terms.specs.Outcome.{is_answer_number}
use Rattle.terms.specs.Kinds.{party_number}
use Rattle.terms.proofs.Laws.Lists.{all_below_lem, all_stops}
use Rattle.comparison.specs.Types.{Run}
use Rattle.comparison.specs.Alike.{same_line, same_lines}
use Rattle.comparison.specs.Comparison.{answered, line_at}
use Rattle.number.specs.Number.{word_at}
use Rattle.schedule.specs.Entries.{entry_at, entry_to_obey}
use Rattle.schedule.specs.Format.{words_in}
use Rattle.schedule.specs.Trace.{Line}
use Rattle.schedule.proofs.Laws.Trace.{line_in_number, line_in_value}

-- ── Where the bytes lie ─────────────────────────────────────────────────────────────────────────────────────────────────────

module _ (r : Run) (at : ℕ) (there : at < length r.kinds.now) where
  -- an entry gets an answer for the party by the byte of its outcome, and by whose entry it is
  pub answered_byte : (party : ℕ) → answered party r at
      ≡ (is_answer_number (get_or r.trace.now (4 + at) 0) && eqb (party_number (entry_to_obey (entry_at r.sizes r.kinds.now (words_in r.operands.now) at))) party)
  unfolding answered line_at
  answered_byte party =
      ap (λ n. is_answer_number n && eqb (party_number (entry_to_obey (entry_at r.sizes r.kinds.now (words_in r.operands.now) at))) party)
      (line_in_number (length r.kinds.now) r.trace.now at there)

  pub number_byte : get_or r.trace.now (4 + at) 0 ≡ (line_at r at).number
  unfolding line_at
  number_byte = sym (line_in_number (length r.kinds.now) r.trace.now at there)

  pub value_bytes : 4 + 5 * length r.kinds.now ≤ length r.trace.now → word_at r.trace.now (4 + length r.kinds.now + 4 * at) ≡ (line_at r at).value
  unfolding line_at
  value_bytes long = sym (line_in_value (length r.kinds.now) r.trace.now at there long)

-- ── Iterators ───────────────────────────────────────────────────────────────────────────────────────────────────────────────

-- the numbers of a range are those of a list
pub range_list : (a n : ℕ) → range_with_len a n ≡ range_from a n
range_list a zero = refl
range_list a (suc n) = ap (λ l. a ∷ l) (rw add-one (range_list (suc a) n))

-- whether all numbers below a bound passed is whether the test passes at all of them
pub all_passed : (f : ℕ → Bool) (n : ℕ) (r : Bool)
    → MatchBool r (AllWithin (λ x. f x ≡ true) (range_with_len 0 n) 0 (length (range_with_len 0 n))) ((k : ℕ) × (k < length (range_with_len 0 n)) × HoldsAt (λ x. f x ≡ false) (range_with_len 0 n) k)
    → r ≡ all f (range n)
all_passed f n true passed =
    sym (all_below_lem f n (λ i h. sym (ap f (get_or-range_with_len 0 n i 0 h ∙ zero-add i)) ∙ passed i 0 zero-le (omega (arith, h, length-range_with_len 0 n))))
all_passed f n false (k, inside, failed) =
    let h : k < n = omega (arith, inside, length-range_with_len 0 n) in
    sym (all_stops f n k h (sym (ap f (get_or-range_with_len 0 n k 0 h ∙ zero-add k)) ∙ failed 0))

-- an iterator that is to give a list: where it ends the list is empty, and what it gives is the first of the list
module _ {S A : Type 0} (steps : S → Option A → S → Type 0) (v : A → Line) where
  ended : (l : List Line) (s u : S) → AlwaysYields steps v s l → steps s None u → l ≡ []
  ended [] s u e p = refl
  ended (x ∷ l) s u e p = absurd (e.0 u p)

  went : (l : List Line) (s u : S) (x : A) → AlwaysYields steps v s l → steps s (Some x) u → (rest : List Line) × (l ≡ v x ∷ rest) × AlwaysYields steps v u rest
  went [] s u x e p = absurd (e x u p)
  went (y ∷ l) s u x e p = (l, ap (λ z. z ∷ l) (sym (e.1 x u p).0), (e.1 x u p).1)

-- what two iterators give, seen as lines and compared by them, is compared as the lists of these lines
module _ {S T A : Type 0} (steps : S → Option A → S → Type 0) (others : T → Option A → T → Type 0) (v : A → Line) (eq : A → A → Bool) (same : (x y : A) → eq x y ≡ same_line (v x) (v y)) where
  items_compared : (r : Bool) (s : S) (t : T) (l m : List Line) → AlwaysYields steps v s l → AlwaysYields others v t m
      → (xs ys : List A) (o p : Option A) (u : S) (w : T) → YieldsThen steps s xs o u → YieldsThen others t ys p w → AllZip (λ x y. eq x y ≡ true) xs ys
      → MatchOption o (MatchOption p (r ≡ true) (λ _. r ≡ false)) (λ x. (r ≡ false) × IfSome p (λ y. eq x y ≡ false)) → r ≡ same_lines l m
  items_compared r s t l m e f [] [] None None u w a b z last =
      let ours = ended steps v l a.0 u (subst (λ k. AlwaysYields steps v k l) a.1 e) a.2 in
      let theirs = ended others v m b.0 w (subst (λ k. AlwaysYields others v k m) b.1 f) b.2 in
      last ∙ sym (λ i. same_lines (ours i) (theirs i))
  items_compared r s t l m e f [] [] None (Some y) u w a b z last =
      let ours = ended steps v l a.0 u (subst (λ k. AlwaysYields steps v k l) a.1 e) a.2 in
      let theirs = went others v m b.0 w y (subst (λ k. AlwaysYields others v k m) b.1 f) b.2 in
      last ∙ sym (λ i. same_lines (ours i) (theirs.1 i))
  items_compared r s t l m e f [] [] (Some x) None u w a b z last =
      let ours = went steps v l a.0 u x (subst (λ k. AlwaysYields steps v k l) a.1 e) a.2 in
      let theirs = ended others v m b.0 w (subst (λ k. AlwaysYields others v k m) b.1 f) b.2 in
      last.0 ∙ sym (λ i. same_lines (ours.1 i) (theirs i))
  items_compared r s t l m e f [] [] (Some x) (Some y) u w a b z last =
      let ours = went steps v l a.0 u x (subst (λ k. AlwaysYields steps v k l) a.1 e) a.2 in
      let theirs = went others v m b.0 w y (subst (λ k. AlwaysYields others v k m) b.1 f) b.2 in
      last.0 ∙ sym ((λ i. same_lines (ours.1 i) (theirs.1 i)) ∙ ap (λ b. b && same_lines ours.0 theirs.0) (sym (same x y) ∙ last.1))
  items_compared r s t l m e f [] (y ∷ ys) o p u w a b z last = absurd z
  items_compared r s t l m e f (x ∷ xs) [] o p u w a b z last = absurd z
  items_compared r s t l m e f (x ∷ xs) (y ∷ ys) o p u w a b z last =
      let ours = went steps v l s a.1.0 x e a.1.1 in
      let theirs = went others v m t b.1.0 y f b.1.1 in
      items_compared r a.1.0 b.1.0 ours.0 theirs.0 ours.2 theirs.2 xs ys o p u w (a.0, a.1.2, a.2) (b.0, b.1.2, b.2) z.1 last
      ∙ sym ((λ i. same_lines (ours.1 i) (theirs.1 i)) ∙ ap (λ b. b && same_lines ours.0 theirs.0) (sym (same x y) ∙ z.0))

  pub compared : (r : Bool) {s : S} {t : T} {l m : List Line} → YieldsList steps v s l → YieldsList others v t m → ComparesItemsByEq steps (λ t u. u ≡ t) others s t eq r → r ≡ same_lines l m
  compared r {s} {t} {l} {m} e f c =
      items_compared r s t l m e.runs f.runs c.1 c.2 c.3 c.4 c.5 c.6 c.8 (subst (λ k. YieldsThen others k c.2 c.4 c.6) c.7 c.9) c.10 c.11
