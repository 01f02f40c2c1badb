-- Laws of tests: what a call's answer, once tested, says of the definition that it ensures; and what a function makes of a choice.
use mathlib.Core.Path.{◌≡◌, refl, ap, sym, ◌∙◌}
use mathlib.Core.Bool.{Bool, true, false, cond, not, ◌&&◌, false≢true}
use Prim.Native.Nat.{ℕ}
use lib.Dec.{eqb}
use borrow.Author.Tests.{eq-eqb, eqb-false, eqb-true, ne_eqb}

-- a call answered x, which is y by its contract, and the test found x to be b: so y is b
pub known : {A : Type 0} {x y b : A} → x ≡ y → x ≡ b → y ≡ b
known ensures found = sym ensures ∙ found

-- the same where the answer was tested negated
pub granted : {x y : Bool} → x ≡ y → not x ≡ false → y ≡ true
granted {x} ensures found = sym ensures ∙ go x found
  where
    go : (x : Bool) → not x ≡ false → x ≡ true
    go true p = refl
    go false p = sym p

pub denied : {x y : Bool} → x ≡ y → not x ≡ true → y ≡ false
denied {x} ensures found = sym ensures ∙ go x found
  where
    go : (x : Bool) → not x ≡ true → x ≡ false
    go true p = sym p
    go false p = refl

-- a choice by a test whose result is known
pub by_test : {A : Type 0} {t b : Bool} (x y : A) → t ≡ b → cond t x y ≡ cond b x y
by_test x y p = ap (λ t. cond t x y) p

-- of two choices by one test, the first is what h makes of the second where each branch is
pub cond_map : {A B : Type 0} (h : A → B) (t : Bool) {x y : A} {v w : B} → v ≡ h x → w ≡ h y → cond t v w ≡ h (cond t x y)
cond_map h true p q = p
cond_map h false p q = q

-- what holds of both branches holds of the choice
pub either : {A : Type 0} (P : A → Type 0) (t : Bool) {x y : A} → P x → P y → P (cond t x y)
either P true p q = p
either P false p q = q

-- .. and what holds of each branch where the test leads to it
pub decide : {A : Type 0} (P : A → Type 0) (t : Bool) {x y : A} → (t ≡ true → P x) → (t ≡ false → P y) → P (cond t x y)
decide P true p q = p refl
decide P false p q = q refl

-- of two tests that both passed, each did
pub and_left : (a b : Bool) → (a && b) ≡ true → a ≡ true
and_left true b p = refl
and_left false b p = p

pub and_right : (a b : Bool) → (a && b) ≡ true → b ≡ true
and_right true b p = p
and_right false b p = absurd (false≢true p)

-- a second test behind one that has to pass first
pub and_after : (t : Bool) {a b : Bool} → (t ≡ true → a ≡ b) → (t && a) ≡ (t && b)
and_after true same = same refl
and_after false same = refl

pub eqb_comm : (j k : ℕ) → eqb j k ≡ eqb k j
eqb_comm j k = go (eqb k j) refl
  where
    go : (same : Bool) → eqb k j ≡ same → eqb j k ≡ same
    go true e = eq-eqb j k (sym (eqb-true k j e))
    go false e = ne_eqb j k (λ p. eqb-false k j e (sym p))
