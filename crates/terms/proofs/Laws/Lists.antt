-- Laws of tests over a list, and of lists whose elements are all replaced by a function.
use mathlib.Core.Path.{◌≡◌, refl, ap, sym, ◌∙◌}
use mathlib.Core.Bool.{Bool, true, false, cond, ◌&&◌, false≢true}
use mathlib.Core.List.{List, [], ◌∷◌, ◌++◌, foldl, map}
use Prim.Native.Nat.{ℕ, zero, suc, ◌+◌, ◌≤◌, ◌<◌}
use native.Mathlib.Nat.{add-zero, le_of_suc-le-suc, not-suc-le-zero}
use native.Mathlib.Numerals.{add-one, one-add}
use lib.Dec.{eqb}
use native.Mathlib.Omega.{arith}
use lib.ListN.{length, get_or, take, drop, set, replicate, length-drop}
use lib.Seq.{append_snoc, drop-cons, get_or-append-add, get_or-drop, get_or-set_other, get_or-set_same, length-take-le, set_at, take_all, take-nil, take-suc}
use borrow.Author.Tests.{eqb-false, eqb-true}
use Rattle.terms.proofs.Laws.Tests.{and_left, and_right}
use Rattle.terms.specs.Lists.{all, concat_map, range_from, range}
use Rattle.terms.proofs.Laws.Sums.{range_suc}

&&-assoc : (a b c : Bool) → (a && (b && c)) ≡ (a && b && c)
&&-assoc true b c = refl
&&-assoc false b c = refl

pub &&-true : (a : Bool) → (a && true) ≡ a
&&-true true = refl
&&-true false = refl

module _ {A : Type 0} (f : A → Bool) where
  pub all_snoc : (l : List A) (x : A) → all f (l ++ (x ∷ [])) ≡ (all f l && f x)
  all_snoc [] x = &&-true (f x)
  all_snoc (y ∷ l) x = ap (λ b. f y && b) (all_snoc l x) ∙ &&-assoc (f y) (all f l) (f x)

  -- a loop's turn: one element more has been tested
  pub all_more : (l : List A) (i : ℕ) (d : A) → i < length l → all f (take (i + 1) l) ≡ (all f (take i l) && f (get_or l i d))
  all_more l i d h = rw (add-one, take-suc l i d) (all_snoc (take i l) (get_or l i d))

  -- a test that all the first n passed, and the default, each of them passed
  pub all_at : (l : List A) (n i : ℕ) (d : A) → f d ≡ true → all f (take n l) ≡ true → i < n → f (get_or l i d) ≡ true
  all_at [] n i d e p h = e
  all_at (x ∷ l) zero i d e p h = absurd (not-suc-le-zero h)
  all_at (x ∷ l) (suc n) zero d e p h = and_left (f x) (all f (take n l)) p
  all_at (x ∷ l) (suc n) (suc i) d e p h = all_at l n i d e (and_right (f x) (all f (take n l)) p) (le_of_suc-le-suc h)

  -- where all elements and the default pass, what stands at any place does
  pub all_get_d : (l : List A) (i : ℕ) (d : A) → f d ≡ true → all f l ≡ true → f (get_or l i d) ≡ true
  all_get_d l i d e p = all_at l (length l + suc i) i d e (ap (all f) (take_all (length l + suc i) l (omega arith)) ∙ p) (omega arith)

  -- of a list whose elements pass, one is replaced: it decides
  pub all_set : (l : List A) (i : ℕ) (x : A) → i < length l → all f l ≡ true → all f (set l i x) ≡ f x
  all_set [] i x there p = absurd (not-suc-le-zero there)
  all_set (y ∷ l) zero x there p = rw (and_right (f y) (all f l) p) (&&-true (f x))
  all_set (y ∷ l) (suc i) x there p = rw (and_left (f y) (all f l) p) (all_set l i x (le_of_suc-le-suc there) (and_right (f y) (all f l) p))

  -- where each element passes a test, all do
  pub all_each : (l : List A) (d : A) → ((i : ℕ) → f (get_or l i d) ≡ true) → all f l ≡ true
  all_each [] d each = refl
  all_each (x ∷ l) d each = rw (each 0) (all_each l d (λ i. each (suc i)))

-- a test that two lists pass, the one behind the other passes
pub all_behind : {A : Type 0} (f : A → Bool) (s t : List A) → all f s ≡ true → all f t ≡ true → all f (s ++ t) ≡ true
all_behind f [] t p q = q
all_behind f (x ∷ s) t p q = rw (and_left (f x) (all f s) p) (all_behind f s t (and_right (f x) (all f s) p) q)

-- a test that all numbers below a bound passed, each of them passed
all_range_from : (f : ℕ → Bool) (j n i : ℕ) → all f (range_from j n) ≡ true → i < n → f (j + i) ≡ true
all_range_from f j zero i p h = absurd (not-suc-le-zero h)
all_range_from f j (suc n) zero p h = ap f (omega arith) ∙ and_left (f j) (all f (range_from (suc j) n)) p
all_range_from f j (suc n) (suc i) p h = ap f (omega arith) ∙ all_range_from f (suc j) n i (and_right (f j) (all f (range_from (suc j) n)) p) (le_of_suc-le-suc h)

pub all_range : (f : ℕ → Bool) (n i : ℕ) → all f (range n) ≡ true → i < n → f i ≡ true
all_range f n i p h = ap f (omega arith) ∙ all_range_from f 0 n i p h

-- a test of every number below a bound
module _ (f : ℕ → Bool) where
  -- a loop's turn: one number more has passed, or it is the one that fails

  pub all_next : (n : ℕ) → all f (range n) ≡ true → f n ≡ true → all f (range (n + 1)) ≡ true
  all_next n e p = ap (all f) (range_suc n) ∙ all_snoc f (range n) n ∙ (λ i. e i && p i)

  pub all_stops : (n i : ℕ) → i < n → f i ≡ false → all f (range n) ≡ false
  all_stops n i h e = go (all f (range n)) refl
    where
      go : (b : Bool) → all f (range n) ≡ b → b ≡ false
      go true p = absurd (false≢true (sym e ∙ all_range f n i p h))
      go false p = refl

  -- where each passes, all do
  pub all_below_lem : (n : ℕ) → ((i : ℕ) → i < n → f i ≡ true) → all f (range n) ≡ true
  all_below_lem zero each = refl
  all_below_lem (suc n) each = rw add-one at (all_next n (all_below_lem n (λ i h. each i (omega arith))) (each n (omega arith)))

-- what is gathered by the places of a list's elements is gathered by the elements
pub concat_map_places : {A B : Type 0} (f : ℕ → List B) (g : A → List B) (d : A) (l : List A) (k : ℕ)
    → ((i : ℕ) → i < length l → f (k + i) ≡ g (get_or l i d)) → concat_map f (range_from k (length l)) ≡ concat_map g l
concat_map_places f g d [] k same = refl
concat_map_places f g d (x ∷ l) k same =
    let first : f k ≡ g x = ap f (sym (add-zero k)) ∙ same 0 (omega arith) in
    let next : (i : ℕ) → suc k + i ≡ k + suc i = λ i. omega arith in
    let others = concat_map_places f g d l (suc k) (λ i there. ap f (next i) ∙ same (suc i) (omega arith)) in
    λ i. first i ++ others i

-- a list taken to its end and past it is the whole list, however far
pub take_whole : {A : Type 0} (l : List A) (i j : ℕ) → length l ≤ i → length l ≤ j → take i l ≡ take j l
take_whole l i j p q = take_all i l p ∙ sym (take_all j l q)

-- what is taken of a list that is not empty begins with its first element
pub take_first : {A : Type 0} (n : ℕ) (l : List A) (d : A) → 0 < n → 0 < length l → take n l ≡ get_or l 0 d ∷ drop 1 (take n l)
take_first zero l d some some-there = absurd (not-suc-le-zero some)
take_first (suc n) [] d some some-there = absurd (not-suc-le-zero some-there)
take_first (suc n) (x ∷ l) d some some-there = refl

-- an element after a store to the list: the stored value, if it was stored there
pub get_d_set : {A : Type 0} (l : List A) (j k : ℕ) (a d : A) → k < length l → get_or (set l j a) k d ≡ cond (eqb j k) a (get_or l k d)
get_d_set l j k a d there = go (eqb j k) refl
  where
    go : (same : Bool) → eqb j k ≡ same → get_or (set l j a) k d ≡ cond same a (get_or l k d)
    go true e = rw (eqb-true j k e) (get_or-set_same l k a d there)
    go false e = get_or-set_other l j k a d (λ p. eqb-false j k e (sym p))

module _ {A B : Type 0} (g : A → B) where
  -- replacing the elements and changing the list commute
  pub map_take : (n : ℕ) (l : List A) → take n (map g l) ≡ map g (take n l)
  map_take zero l = refl
  map_take (suc n) [] = refl
  map_take (suc n) (x ∷ l) = ap (λ r. g x ∷ r) (map_take n l)

  pub map-drop : (n : ℕ) (l : List A) → drop n (map g l) ≡ map g (drop n l)
  map-drop zero l = refl
  map-drop (suc n) [] = refl
  map-drop (suc n) (x ∷ l) = map-drop n l

  pub map-set : (l : List A) (n : ℕ) (x : A) → set (map g l) n (g x) ≡ map g (set l n x)
  map-set [] n x = refl
  map-set (y ∷ l) zero x = refl
  map-set (y ∷ l) (suc n) x = ap (λ r. g y ∷ r) (map-set l n x)

  pub map-replicate : (n : ℕ) (x : A) → map g (replicate n x) ≡ replicate n (g x)
  map-replicate zero x = refl
  map-replicate (suc n) x = ap (λ r. g x ∷ r) (map-replicate n x)

  -- a test that each element passes as what takes its place does
  pub all_map : (p : B → Bool) {q : A → Bool} → ((x : A) → p (g x) ≡ q x) → (l : List A) → all p (map g l) ≡ all q l
  all_map p e [] = refl
  all_map p e (x ∷ l) = λ i. e x i && all_map p e l i

  -- a fold whose every turn commutes with the replacement
  pub foldl_map : {C D : Type 0} (h : C → D) (s : D → B → D) (t : C → A → C) → ((c : C) (x : A) → s (h c) (g x) ≡ h (t c x))
      → (c : C) (l : List A) → foldl s (h c) (map g l) ≡ h (foldl t c l)
  foldl_map h s t e c [] = refl
  foldl_map h s t e c (x ∷ l) = ap (λ d. foldl s d (map g l)) (e c x) ∙ foldl_map h s t e (t c x) l

-- ── Moving the front of a list one place down ───────────────────────────────────────────────────────────────────────────────

module _ {A : Type 0} (l : List A) where
  -- the first k places hold what stood one place further, the others what they held
  abbrev pub shifted : ℕ → List A
  shifted k = take k (drop 1 l) ++ drop k l

  module _ (k : ℕ) (there : k < length l) where
    front_length : length (take k (drop 1 l)) ≡ k
    front_length = length-take-le k (drop 1 l) (simp length-drop (omega arith))

    -- a store at place k
    pub set_shifted : (a d : A) → set (shifted k) k a ≡ take k (drop 1 l) ++ a ∷ drop (suc k) l
    set_shifted a d =
        ap (λ r. set (take k (drop 1 l) ++ r) k a) (drop-cons l k d there)
        ∙ set_at (take k (drop 1 l)) (get_or l k d) (drop (suc k) l) a k front_length

  -- a loop's turn: place k gets what stands one place further
  pub shifted_more : (k : ℕ) (d : A) → k + 1 < length l → set (shifted k) k (get_or (shifted k) (k + 1) d) ≡ shifted (k + 1)
  shifted_more k d there =
      let further = rw (front_length k (omega arith)) at (get_or-append-add (take k (drop 1 l)) (drop k l) 1 d) in
      let inside : k < length (drop 1 l) = simp length-drop (omega arith) in
      ap (set (shifted k) k) (further ∙ get_or-drop k l 1 d)
      ∙ set_shifted k (omega arith) (get_or l (k + 1) d) d
      ∙ sym (simp (add-one, one-add, take-suc (drop 1 l) k d inside, get_or-drop, append_snoc))

-- what stood one place further, of the first places
pub take_drop_one : {A : Type 0} (k : ℕ) (l : List A) → take k (drop 1 l) ≡ drop 1 (take (k + 1) l)
take_drop_one k [] = simp (add-one, take-nil)
take_drop_one k (x ∷ l) = rw add-one

-- a list of one value everywhere, after a store of that value
pub set_same : {A : Type 0} (n k : ℕ) (x : A) → set (replicate n x) k x ≡ replicate n x
set_same zero k x = refl
set_same (suc n) zero x = refl
set_same (suc n) (suc k) x = ap (λ l. x ∷ l) (set_same n k x)
