-- Laws of sums over a list, of measures that add up over lists, and of the numbers from 0 up.
use mathlib.Core.Path.{◌≡◌, refl, ap, sym, ◌∙◌}
use mathlib.Core.Bool.{Bool, true, false, cond}
use mathlib.Core.List.{List, [], ◌∷◌, ◌++◌, append_assoc, map, map-append}
use Prim.Native.Nat.{ℕ, zero, suc, ◌+◌}
use native.Mathlib.Nat.{add-suc, add-zero, suc-add, zero-add}
use native.Mathlib.Numerals.{add-one}
use native.Mathlib.Omega.{arith}
use lib.Dec.{eqb, ltb}
use lib.ListN.{length, take, drop, length-append, take-append-drop}
use borrow.Author.Tests.{eqb-false, eqb-true, le-ltb, lt-ltb, ltb-false, ltb-true}
use Rattle.terms.specs.Lists.{concat_map, occurrences, range_from, range}

-- ── Sums ────────────────────────────────────────────────────────────────────────────────────────────────────────────────────

module _ {A : Type 0} where
  -- the sum of a number for each element
  abbrev pub sum_of : (A → ℕ) → List A → ℕ
  sum_of f [] = 0
  sum_of f (x ∷ l) = f x + sum_of f l

  pub sum_of_append : (f : A → ℕ) (s t : List A) → sum_of f (s ++ t) ≡ sum_of f s + sum_of f t
  sum_of_append f [] t = omega arith
  sum_of_append f (x ∷ s) t = omega (arith, sum_of_append f s t)

  -- sums of numbers that are the same at each element, and of those that are 0 at each
  pub sum_of_same : {f g : A → ℕ} → ((x : A) → f x ≡ g x) → (l : List A) → sum_of f l ≡ sum_of g l
  sum_of_same e [] = refl
  sum_of_same e (x ∷ l) = λ i. e x i + sum_of_same e l i

  pub sum_of_zero : {f : A → ℕ} → ((x : A) → f x ≡ 0) → (l : List A) → sum_of f l ≡ 0
  sum_of_zero e [] = refl
  sum_of_zero e (x ∷ l) = omega (arith, e x, sum_of_zero e l)

  -- with b for each value where a test passes: without what these had, and with what b has
  pub sum_of_replace : {B : Type 0} (f : B → ℕ) (t : A → Bool) (g : A → B) (b : B) (l : List A)
      → sum_of (λ x. f (cond (t x) b (g x))) l + sum_of (λ x. cond (t x) (f (g x)) 0) l
      ≡ sum_of (λ x. f (g x)) l + sum_of (λ x. cond (t x) (f b) 0) l
  sum_of_replace f t g b [] = refl
  sum_of_replace f t g b (x ∷ l) = omega (arith, one (t x), sum_of_replace f t g b l)
    where
      one : (p : Bool) → f (cond p b (g x)) + cond p (f (g x)) 0 ≡ f (g x) + cond p (f b) 0
      one true = omega arith
      one false = omega arith

pub sum_of_map : {A B : Type 0} (f : B → ℕ) (g : A → B) (l : List A) → sum_of f (map g l) ≡ sum_of (λ x. f (g x)) l
sum_of_map f g [] = refl
sum_of_map f g (x ∷ l) = ap (λ n. f (g x) + n) (sum_of_map f g l)

-- where the values are the same in a list, so are their sums
pub sum_of_map_same : {A B : Type 0} (f : B → ℕ) (g h : A → B) (l : List A)
    → map g l ≡ map h l → sum_of (λ x. f (g x)) l ≡ sum_of (λ x. f (h x)) l
sum_of_map_same f g h l e = sym (sum_of_map f g l) ∙ ap (sum_of f) e ∙ sum_of_map f h l

-- ── Measures of lists that add up ───────────────────────────────────────────────────────────────────────────────────────────

-- No element has 0, and two lists, one behind the other, have what the one has and what the other has.
pub record Adds {A : Type 0} (φ : List A → ℕ) : Type 0 where
  pub none : φ [] ≡ 0
  pub append : (s t : List A) → φ (s ++ t) ≡ φ s + φ t

module _ {A : Type 0} where
  pub adds_length : Adds {A = A} length
  adds_length = record { none = refl; append = length-append }

  pub adds_sum_of : (f : A → ℕ) → Adds (sum_of f)
  adds_sum_of f = record { none = refl; append = sum_of_append f }

pub adds_occurrences : (k : ℕ) → Adds (occurrences k)
adds_occurrences k = record { none = refl; append = append }
  where
    append : (s t : List ℕ) → occurrences k (s ++ t) ≡ occurrences k s + occurrences k t
    append [] t = omega arith
    append (x ∷ s) t = omega (arith, append s t)

pub concat_map-append : {A B : Type 0} (f : A → List B) (s t : List A) → concat_map f (s ++ t) ≡ concat_map f s ++ concat_map f t
concat_map-append f [] t = refl
concat_map-append f (x ∷ s) t = rw (concat_map-append f s t, append_assoc)

module _ {B : Type 0} {φ : List B → ℕ} (adds : Adds φ) where
  pub adds_take_drop : (i : ℕ) (l : List B) → φ (take i l) + φ (drop i l) ≡ φ l
  adds_take_drop i l = rw (← adds.append (take i l) (drop i l), take-append-drop)

  -- a measure of what takes the elements' places is one of the elements
  pub adds_map : {A : Type 0} (f : A → B) → Adds (λ l. φ (map f l))
  adds_map f = record { none = adds.none; append = λ s t. ap φ (map-append f s t) ∙ adds.append (map f s) (map f t) }

  pub adds_concat_map : {A : Type 0} (f : A → List B) → Adds (λ l. φ (concat_map f l))
  adds_concat_map f = record { none = adds.none; append = λ s t. ap φ (concat_map-append f s t) ∙ adds.append (concat_map f s) (concat_map f t) }

  -- the lists of all elements have together what they have one by one
  pub measure_concat_map : {A : Type 0} (f : A → List B) (l : List A) → φ (concat_map f l) ≡ sum_of (λ x. φ (f x)) l
  measure_concat_map f [] = adds.none
  measure_concat_map f (x ∷ l) = adds.append (f x) (concat_map f l) ∙ ap (λ n. φ (f x) + n) (measure_concat_map f l)

-- ── Numbers from 0 up ───────────────────────────────────────────────────────────────────────────────────────────────────────

pub length-range_from : (k n : ℕ) → length (range_from k n) ≡ n
length-range_from k zero = refl
length-range_from k (suc n) = ap suc (length-range_from (suc k) n)

pub length_range : (n : ℕ) → length (range n) ≡ n
length_range n = length-range_from 0 n

range_from_suc : (k n : ℕ) → range_from k (suc n) ≡ range_from k n ++ ((k + n) ∷ [])
range_from_suc k zero = rw add-zero
range_from_suc k (suc n) = ap (λ l. k ∷ l) (rw (range_from_suc (suc k) n, add-suc, suc-add))

pub range_suc : (n : ℕ) → range (n + 1) ≡ range n ++ (n ∷ [])
range_suc n = rw add-one (range_from_suc 0 n ∙ rw zero-add)

-- what only k has, of the numbers below one bound and below the next
cond_ltb_suc : (f : ℕ → ℕ) (k n : ℕ) → cond (ltb k (suc n)) (f k) 0 ≡ cond (ltb k n) (f k) 0 + cond (eqb n k) (f n) 0
cond_ltb_suc f k n = go (ltb k n) (eqb n k) refl refl
  where
    go : (below same : Bool) → ltb k n ≡ below → eqb n k ≡ same → cond (ltb k (suc n)) (f k) 0 ≡ cond below (f k) 0 + cond same (f n) 0
    go true true b s = absurd (omega (arith, ltb-true k n b, eqb-true n k s))
    go true false b s = rw (lt-ltb k (suc n) (omega (arith, ltb-true k n b))) (omega arith)
    go false true b s = rw (lt-ltb k (suc n) (omega (arith, eqb-true n k s)), eqb-true n k s) (omega arith)
    go false false b s = rw (le-ltb k (suc n) (omega (arith, ltb-false k n b, eqb-false n k s))) (omega arith)

-- .. and so below every bound
pub sum_of_range : (f : ℕ → ℕ) (k n : ℕ) → sum_of (λ j. cond (eqb j k) (f j) 0) (range n) ≡ cond (ltb k n) (f k) 0
sum_of_range f k zero = rw (le-ltb k 0 (omega arith))
sum_of_range f k (suc n) =
    let only : ℕ → ℕ = λ j. cond (eqb j k) (f j) 0 in
    ap (sum_of only) (range_from_suc 0 n) ∙ sum_of_append only (range n) ((0 + n) ∷ [])
    ∙ rw (sum_of_range f k n, zero-add) (omega (arith, cond_ltb_suc f k n))
