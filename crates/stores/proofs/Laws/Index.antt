-- Indices as natural numbers, one above: 0 for −1, k + 1 for k. Their sums, orders and differences in ℤ, as the definitions have them, are
-- those of the natural numbers.
use mathlib.Core.Path.{◌≡◌, refl, ap, sym, ◌∙◌}
use mathlib.Core.Bool.{Bool, true, false, cond, not, ◌&&◌}
use Prim.Native.Nat.{ℕ, zero, suc, ◌+◌, ◌-◌, ◌*◌, ◌/◌, ◌%◌, ◌≤◌, ◌<◌, zero-le}
use native.Mathlib.Nat.{div-add-mod, mod-lt, mul-le-mul_left, mul-suc}
use native.Mathlib.Omega.{arith}
use lib.Dec.{eqb, leb, ltb}
use lib.IntN.{ℤ, negsuc, pos, sub_ℕ, ◌+ℤ◌, ◌-ℤ◌, +ℤ_idr}
use lib.Signed.{le_z, lt_z}
use borrow.Author.Tests.{eq-eqb, eqb-false, eqb-true, le-leb, le-ltb, leb-false, leb-true, lt-leb, lt-ltb, ltb-false, ltb-true}
use Rattle.terms.proofs.Laws.Tests.{by_test}
use Rattle.stores.specs.Types.{Index}
use Rattle.stores.specs.Index.{above_by, below_by_more, eq_z, index_in_range, index_of, modulo, next, next_or_same, previous, previous_or_same, slot_index_in_range, slot_of}

-- ── Neighbours in range ─────────────────────────────────────────────────────────────────────────────────────────────────────

pub next_in_range : (i : Index) → index_in_range i ≡ true → next_or_same i ≡ next i
next_in_range i ranged = by_test _ _ ranged

pub previous_in_range : (i : Index) → index_in_range i ≡ true → previous_or_same i ≡ previous i
previous_in_range i ranged = by_test _ _ ranged

-- ── Integers ────────────────────────────────────────────────────────────────────────────────────────────────────────────────

-- two tests of an order agree where the orders do
leb_iff : (a b c d : ℕ) → (a ≤ b → c ≤ d) → (c ≤ d → a ≤ b) → leb a b ≡ leb c d
leb_iff a b c d to from = go (leb a b) (leb c d) refl refl
  where
    go : (s t : Bool) → leb a b ≡ s → leb c d ≡ t → s ≡ t
    go true true e f = refl
    go false false e f = refl
    go true false e f = let p = to (leb-true a b e) in let q = leb-false c d f in absurd (omega arith)
    go false true e f = let p = from (leb-true c d f) in let q = leb-false a b e in absurd (omega arith)

-- a difference of natural numbers, ordered
subℕ_le : (a b c d : ℕ) → le_z (sub_ℕ a b) (sub_ℕ c d) ≡ leb (a + d) (c + b)
subℕ_le a b c d = go (ltb a b) (ltb c d) refl refl
  where
    go : (s t : Bool) → ltb a b ≡ s → ltb c d ≡ t → le_z (cond s (negsuc (b - suc a)) (pos (a - b))) (cond t (negsuc (d - suc c)) (pos (c - d))) ≡ leb (a + d) (c + b)
    go true true e f = let p = ltb-true a b e in let q = ltb-true c d f in leb_iff (d - suc c) (b - suc a) (a + d) (c + b) (λ h. omega arith) (λ h. omega arith)
    go true false e f = let p = ltb-true a b e in let q = ltb-false c d f in sym (le-leb (a + d) (c + b) (omega arith))
    go false true e f = let p = ltb-false a b e in let q = ltb-true c d f in sym (lt-leb (a + d) (c + b) (omega arith))
    go false false e f = let p = ltb-false a b e in let q = ltb-false c d f in leb_iff (a - b) (c - d) (a + d) (c + b) (λ h. omega arith) (λ h. omega arith)

-- a difference by its sign
subℕ_neg : (a b : ℕ) → a < b → sub_ℕ a b ≡ negsuc (b - suc a)
subℕ_neg a b h = rw (lt-ltb a b h)

subℕ_pos : (a b : ℕ) → b ≤ a → sub_ℕ a b ≡ pos (a - b)
subℕ_pos a b h = rw (le-ltb a b h)

-- a difference depends on how far its two numbers lie apart
subℕ_same : (a b c d : ℕ) → a + d ≡ c + b → sub_ℕ a b ≡ sub_ℕ c d
subℕ_same a b c d same = go (ltb a b) refl
  where
    go : (t : Bool) → ltb a b ≡ t → sub_ℕ a b ≡ sub_ℕ c d
    go true e = let h = ltb-true a b e in subℕ_neg a b h ∙ ap negsuc (omega arith) ∙ sym (subℕ_neg c d (omega arith))
    go false e = let h = ltb-false a b e in subℕ_pos a b h ∙ ap pos (omega arith) ∙ sym (subℕ_pos c d (omega arith))

-- what is taken from a difference is added to what it lacks
subℕ_minus : (a b c : ℕ) → sub_ℕ a b -ℤ pos c ≡ sub_ℕ a (b + c)
subℕ_minus a b c = go (ltb a b) refl c
  where
    go : (t : Bool) → ltb a b ≡ t → (c : ℕ) → sub_ℕ a b -ℤ pos c ≡ sub_ℕ a (b + c)
    go t e zero = +ℤ_idr (sub_ℕ a b) ∙ ap (sub_ℕ a) (omega arith)
    go true e (suc c) = let h = ltb-true a b e in rw (subℕ_neg a b h, subℕ_neg a (b + suc c) (omega arith)) (ap negsuc (omega arith))
    go false e (suc c) = let h = ltb-false a b e in rw (subℕ_pos a b h) (subℕ_same (a - b) (suc c) a (b + suc c) (omega arith))

subℕ_plus : (a b c : ℕ) → sub_ℕ a b +ℤ pos c ≡ sub_ℕ (a + c) b
subℕ_plus a b c = go (ltb a b) refl
  where
    go : (t : Bool) → ltb a b ≡ t → sub_ℕ a b +ℤ pos c ≡ sub_ℕ (a + c) b
    go true e = let h = ltb-true a b e in rw (subℕ_neg a b h) (subℕ_same c (suc (b - suc a)) (a + c) b (omega arith))
    go false e = let h = ltb-false a b e in rw (subℕ_pos a b h) (ap pos (omega arith) ∙ sym (subℕ_pos (a + c) b (omega arith)))

-- the strict order is the other one, failed
ltb_not : (a b : ℕ) → ltb a b ≡ not (leb b a)
ltb_not a b = go (leb b a) refl
  where
    go : (t : Bool) → leb b a ≡ t → ltb a b ≡ not t
    go true e = le-ltb a b (leb-true b a e)
    go false e = lt-ltb a b (leb-false b a e)

pub lt_z_not : (x y : ℤ) → lt_z x y ≡ not (le_z y x)
lt_z_not (pos a) (pos b) = ltb_not a b
lt_z_not (pos a) (negsuc b) = refl
lt_z_not (negsuc a) (pos b) = refl
lt_z_not (negsuc a) (negsuc b) = ltb_not b a

-- ── Indices ─────────────────────────────────────────────────────────────────────────────────────────────────────────────────

-- the index one below k, and so every index from −1 up
abbrev pub idx : ℕ → Index
idx k = record { at = sub_ℕ k 1 }

pub idx_of : (k : ℕ) → index_of k ≡ idx (k + 1)
idx_of k = ap (λ z. record { at = z }) (sym (subℕ_pos (k + 1) 1 (omega arith) ∙ ap pos (omega arith)))

-- an index under another name of its number
pub idx_as : {i : Index} (a b : ℕ) → i ≡ idx a → a ≡ b → i ≡ idx b
idx_as a b here same = here ∙ ap idx same

pub idx_next : (k : ℕ) → next (idx k) ≡ idx (k + 1)
idx_next k = ap (λ z. record { at = z }) (subℕ_plus k 1 1)

pub idx_previous : (k : ℕ) → 1 ≤ k → previous (idx k) ≡ idx (k - 1)
idx_previous k some = ap (λ z. record { at = z }) (subℕ_minus k 1 1 ∙ subℕ_same k 2 (k - 1) 1 (omega arith))

pub idx_plus : (k d : ℕ) → ◌≡◌ {A = Index} (record { at = (idx k).at +ℤ pos d }) (idx (k + d))
idx_plus k d = ap (λ z. record { at = z }) (subℕ_plus k 1 d)

-- how far an index is above one that is not below 0
pub idx_minus : (a b : ℕ) → 1 ≤ b → b ≤ a → (idx a).at -ℤ (idx b).at ≡ pos (a - b)
idx_minus a b some above =
    rw (subℕ_pos b 1 some) (subℕ_minus a 1 (b - 1) ∙ subℕ_pos a (1 + (b - 1)) (omega arith) ∙ ap pos (omega arith))

pub idx_le : (a b : ℕ) → le_z (idx a).at (idx b).at ≡ leb a b
idx_le a b = subℕ_le a 1 b 1 ∙ leb_iff (a + 1) (b + 1) a b (λ h. omega arith) (λ h. omega arith)

pub idx_lt : (a b : ℕ) → lt_z (idx a).at (idx b).at ≡ ltb a b
idx_lt a b = lt_z_not (idx a).at (idx b).at ∙ ap not (idx_le b a) ∙ sym (ltb_not a b)

pub idx_eq : (a b : ℕ) → eq_z (idx a).at (idx b).at ≡ eqb a b
idx_eq a b = rw (idx_le a b, idx_le b a) (go (leb a b) (leb b a) (eqb a b) refl refl refl)
  where
    go : (s t u : Bool) → leb a b ≡ s → leb b a ≡ t → eqb a b ≡ u → (s && t) ≡ u
    go true true true e f g = refl
    go true true false e f g = let p = leb-true a b e in let q = leb-true b a f in absurd (eqb-false a b g (omega arith))
    go true false true e f g = let p = leb-false b a f in let q = eqb-true a b g in absurd (omega arith)
    go true false false e f g = refl
    go false t true e f g = let p = leb-false a b e in let q = eqb-true a b g in absurd (omega arith)
    go false t false e f g = refl

-- different numbers have different indices
pub idx_same : (a b : ℕ) → idx a ≡ idx b → a ≡ b
idx_same a b same = eqb-true a b (sym (idx_eq a b) ∙ ap (λ i. eq_z i.at (idx b).at) same ∙ idx_eq b b ∙ eq-eqb b b refl)

-- h < T − d
pub idx_below : (h t d : ℕ) → below_by_more (idx h) (idx t) d ≡ ltb (h + d) t
idx_below h t d =
    rw (subℕ_minus t 1 d, lt_z_not (idx h).at (sub_ℕ t (1 + d)), subℕ_le t (1 + d) h 1)
    (ap not (leb_iff (t + 1) (h + (1 + d)) t (h + d) (λ h. omega arith) (λ h. omega arith)) ∙ sym (ltb_not (h + d) t))

-- t − h ≥ d, for an h that is not below 0
pub idx_above : (d t h : ℕ) → 1 ≤ h → above_by (idx t) (idx h) d ≡ leb (d + h) t
idx_above d t h some =
    rw (subℕ_pos h 1 some, subℕ_minus t 1 (h - 1))
    (ap (λ z. le_z z (sub_ℕ t (1 + (h - 1)))) (sym (subℕ_pos d 0 zero-le ∙ ap pos (omega arith)))
    ∙ subℕ_le d 0 t (1 + (h - 1))
    ∙ leb_iff (d + (1 + (h - 1))) (t + 0) (d + h) t (λ h. omega arith) (λ h. omega arith))

-- the slot of an index that is not below 0
pub idx_slot : (n k : ℕ) → 1 ≤ k → slot_of n (idx k) ≡ (k - 1) % n
idx_slot n k some = rw (subℕ_pos k 1 some)

-- whatever the index, one of the slots
pub slot_of_below : (n : ℕ) (i : Index) → 0 < n → slot_of n i < n
slot_of_below n i some = go i.at
  where
    go : (z : ℤ) → modulo z n < n
    go (pos k) = mod-lt k some
    go (negsuc k) = omega arith

pub idx_in_range : (k : ℕ) → index_in_range (idx k) ≡ leb k 2147483649
idx_in_range k = rw (idx_le 0 k, le-leb 0 k zero-le) (idx_le k 2147483649)

pub idx_slot_in_range : (k : ℕ) → slot_index_in_range (idx k) ≡ (leb 1 k && leb k 2147483649)
idx_slot_in_range k = rw (idx_le 1 k) (ap (λ b. leb 1 k && b) (idx_le k 2147483649))

-- an index of such a number
pub index_ranged : (i : Index) (k : ℕ) → i ≡ idx k → k ≤ 2147483649 → index_in_range i ≡ true
index_ranged i k here most = ap index_in_range here ∙ idx_in_range k ∙ le-leb k 2147483649 most

pub slot_ranged : (i : Index) (k : ℕ) → i ≡ idx k → 1 ≤ k → k ≤ 2147483649 → slot_index_in_range i ≡ true
slot_ranged i k here least most = ap slot_index_in_range here ∙ idx_slot_in_range k ∙ rw (le-leb 1 k least) (le-leb k 2147483649 most)

-- ── Slots ───────────────────────────────────────────────────────────────────────────────────────────────────────────────────

-- of two numbers less than n apart, the one with the lower quotient by n is lower in its remainder's place too
quotient_apart : (n a b r : ℕ) → a < b → n * a + r + n ≤ n * b + r
quotient_apart n a b r h = let k : n * suc a ≤ n * b = mul-le-mul_left n h in omega (arith, simp mul-suc at k)

-- indices of a window of n lie in slots of their own
pub slots_apart : (n lo i j : ℕ) → lo ≤ i → i < lo + n → lo ≤ j → j < lo + n → i % n ≡ j % n → i ≡ j
slots_apart n lo i j a b c d same = go (ltb (i / n) (j / n)) (ltb (j / n) (i / n)) refl refl
  where
    go : (s t : Bool) → ltb (i / n) (j / n) ≡ s → ltb (j / n) (i / n) ≡ t → i ≡ j
    go true t e f = absurd (omega (arith, quotient_apart n (i / n) (j / n) (i % n) (ltb-true _ _ e), div-add-mod i n, div-add-mod j n))
    go false true e f = absurd (omega (arith, quotient_apart n (j / n) (i / n) (j % n) (ltb-true _ _ f), div-add-mod i n, div-add-mod j n))
    go false false e f =
        let q : i / n ≡ j / n = omega (arith, ltb-false (i / n) (j / n) e, ltb-false (j / n) (i / n) f) in
        sym (div-add-mod i n) ∙ (λ k. n * q k + same k) ∙ div-add-mod j n

-- .. as indices, from 0 up
pub idx_slots_apart :
    (n lo i j : ℕ) → 1 ≤ lo → lo ≤ i → i < lo + n → lo ≤ j → j < lo + n → slot_of n (idx i) ≡ slot_of n (idx j) → i ≡ j
idx_slots_apart n lo i j some a b c d same =
    let e = slots_apart n (lo - 1) (i - 1) (j - 1) (omega arith) (omega arith) (omega arith) (omega arith)
    (sym (idx_slot n i (omega arith)) ∙ same ∙ idx_slot n j (omega arith)) in
    omega arith
