-- Lists: functions that the library does not have. Nothing here is of the paper.
use Rattle.std.specs.Prelude.{◌≡◌, Bool, true, false, cond, ◌&&◌, List, [], ◌∷◌, ◌++◌, ℕ, zero, suc, ◌+◌, ◌≤◌, ◌<◌, max, eqb, get_or, length}

module _ {A : Type 0} where
  -- the test passes at every element
  abbrev pub all : (A → Bool) → List A → Bool
  all f [] = true
  all f (x ∷ l) = f x && all f l

module _ {A B : Type 0} where
  -- the lists of all elements, one after the other
  abbrev pub concat_map : (A → List B) → List A → List B
  concat_map f [] = []
  concat_map f (x ∷ l) = f x ++ concat_map f l

module _ {M E : Type 0} (next : M → E → M) where
  -- the state after some entries, each obeyed on the state left by the one before it
  abbrev pub after : M → List E → M
  after m [] = m
  after m (e ∷ es) = after (next m e) es

  -- what comes of each of them there
  abbrev pub each : {A : Type 0} → (M → E → A) → M → List E → List A
  each part m [] = []
  each part m (e ∷ es) = part m e ∷ each part (next m e) es

-- n numbers, from k up
abbrev pub range_from : ℕ → ℕ → List ℕ
range_from k zero = []
range_from k (suc n) = k ∷ range_from (suc k) n

-- 0 up to n, without n
abbrev pub range : ℕ → List ℕ
range n = range_from 0 n

-- how often a number stands in a list
abbrev pub occurrences : ℕ → List ℕ → ℕ
occurrences k [] = 0
occurrences k (x ∷ l) = cond (eqb k x) 1 0 + occurrences k l

-- the same numbers in the same order
abbrev pub equal : List ℕ → List ℕ → Bool
equal [] [] = true
equal [] (y ∷ m) = false
equal (x ∷ l) [] = false
equal (x ∷ l) (y ∷ m) = eqb x y && equal l m

-- the same numbers, each as often, in whichever order
abbrev pub Permutation : List ℕ → List ℕ → Type 0
Permutation l m = (k : ℕ) → occurrences k l ≡ occurrences k m

-- the largest of some numbers; 0 where there are none
abbrev pub largest : List ℕ → ℕ
largest [] = 0
largest (x ∷ l) = max x (largest l)

-- No number of the list is above it, and unless it is 0 it stands in the list. Proved in `proofs/Laws/Largest.antt`.
pub record IsLargest (l : List ℕ) (n : ℕ) : Type 0 where
  pub not_above : (i : ℕ) → get_or l i 0 ≤ n
  pub there : 0 < n → (i : ℕ) × ((i < length l) × (get_or l i 0 ≡ n))

abbrev pub LargestIsLargest : Type 0
LargestIsLargest = (l : List ℕ) → IsLargest l (largest l)
