-- Laws of a list that is overwritten from a place on: with nothing, by one store and by four, one part right behind another, three parts so, and two parts in either order.
use mathlib.Core.Path.{◌≡◌, ap, sym, ◌∙◌}
use mathlib.Core.List.{List, [], ◌∷◌, ◌++◌, append_assoc}
use Prim.Native.Nat.{ℕ, ◌+◌, ◌≤◌, ◌<◌, zero-le}
use native.Mathlib.Nat.{add_assoc}
use native.Mathlib.Numerals.{add-one, add-three, add-two}
use native.Mathlib.Omega.{arith}
use lib.ListN.{length, drop, length-append, set, take, take-append-drop}
use lib.Seq.{drop-append-le, drop_at, drop-drop, length-sets, length-take-le, paste-zero, sets-eq, take-append-le, take_at}
use Rattle.number.specs.Number.{overwritten}

-- a list overwritten with nothing is as it was
pub overwritten_nothing : (at : ℕ) (l : List ℕ) → l ≡ overwritten at [] l
overwritten_nothing at l = paste-zero l at []

-- what is overwritten inside a list leaves it as long as it was
pub length_overwritten : (at : ℕ) (new l : List ℕ) → at + length new ≤ length l → length (overwritten at new l) ≡ length l
length_overwritten at new l fits = ap length (sym (sets-eq new l at fits)) ∙ length-sets l at new

-- a store at a place overwrites this
pub overwritten_one : (at x : ℕ) (l : List ℕ) → at < length l → set l at x ≡ overwritten at (x ∷ []) l
overwritten_one at x l inside = sets-eq (x ∷ []) l at (omega arith)

-- stores at four places, one behind the other, overwrite these
pub overwritten_four : (at a b c d : ℕ) (l : List ℕ) → at + 4 ≤ length l
    → set (set (set (set l at a) (at + 1) b) (at + 2) c) (at + 3) d ≡ overwritten at (a ∷ b ∷ c ∷ d ∷ []) l
overwritten_four at a b c d l fits = simp (add-one, add-two, add-three) (sets-eq (a ∷ b ∷ c ∷ d ∷ []) l at fits)

module _ (at : ℕ) (new l : List ℕ) where
  -- overwriting right behind what was overwritten is overwriting once, with both parts
  pub overwritten_behind : (more : List ℕ) → at ≤ length l
      → overwritten (at + length new) more (overwritten at new l) ≡ overwritten at (new ++ more) l
  overwritten_behind more inside =
      let end = at + length new in
      let front = take at l ++ new in
      let front_ends : length front ≡ end = simp (length-append, length-take-le at l inside) in
      rw (take_at front (drop end l) end front_ends, ← drop-drop (length more) end, drop_at front (drop end l) end front_ends)
      (simp (drop-drop, append_assoc, length-append, add_assoc))

-- three parts, each put where the one before it ends, are one
pub overwritten_three : (x y z l l₁ l₂ l₃ : List ℕ)
    → l₁ ≡ overwritten 0 x l
    → l₂ ≡ overwritten (length x) y l₁
    → l₃ ≡ overwritten (length x + length y) z l₂
    → l₃ ≡ overwritten 0 (x ++ y ++ z) l
overwritten_three x y z l l₁ l₂ l₃ first second third =
    let at_second : length x ≡ 0 + length x = omega arith in
    let at_third : length x + length y ≡ 0 + length (x ++ y) = omega (arith, length-append x y) in
    third
    ∙ ap (overwritten (length x + length y) z) (second ∙ ap (overwritten (length x) y) first)
    ∙ ap (λ at. overwritten (length x + length y) z (overwritten at y (overwritten 0 x l))) at_second
    ∙ ap (overwritten (length x + length y) z) (overwritten_behind 0 x l y zero-le)
    ∙ ap (λ at. overwritten at z (overwritten 0 (x ++ y) l)) at_third
    ∙ overwritten_behind 0 (x ++ y) l z zero-le

-- what is overwritten inside the front of a list leaves the rest
overwritten_front : (at : ℕ) (new front rest : List ℕ) → at + length new ≤ length front
    → overwritten at new (front ++ rest) ≡ overwritten at new front ++ rest
overwritten_front at new front rest fits =
    rw (take-append-le at front rest (omega arith), drop-append-le (at + length new) front rest fits)
    (sym (append_assoc (take at front ++ new) (drop (at + length new) front) rest))

-- two parts that lie apart can be overwritten in either order
pub overwritten_apart : (a b : ℕ) (x y l : List ℕ) → a + length x ≤ b → b ≤ length l
    → overwritten a x (overwritten b y l) ≡ overwritten b y (overwritten a x l)
overwritten_apart a b x y l apart inside =
    let front = take b l in
    let new = overwritten a x front in
    let front_ends : length front ≡ b = length-take-le b l inside in
    let fits : a + length x ≤ length front = omega arith in
    let new_ends : length new ≡ b = length_overwritten a x front fits ∙ front_ends in
    let first : overwritten a x l ≡ new ++ drop b l = ap (overwritten a x) (sym (take-append-drop b l)) ∙ overwritten_front a x front (drop b l) fits in
    ap (overwritten a x) (append_assoc front y (drop (b + length y) l))
    ∙ overwritten_front a x front (y ++ drop (b + length y) l) fits
    ∙ sym (append_assoc new y (drop (b + length y) l))
    ∙ sym (ap (overwritten b y) first ∙ rw (take_at new (drop b l) b new_ends, ← drop-drop (length y) b (new ++ drop b l), drop_at new (drop b l) b new_ends) (ap (λ r. new ++ y ++ r) (drop-drop (length y) b l)))
