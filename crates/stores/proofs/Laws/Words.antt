-- Numbers of 64 bits: an integer that is not below 0, and sums and differences of indices, which never leave them.
use mathlib.Core.Path.{◌≡◌, refl, sym}
use mathlib.Core.Bool.{true, false, false≢true, ◌&&◌}
use Prim.Native.Nat.{ℕ, zero, suc, ◌+◌, ◌%◌, ◌≤◌}
use native.Mathlib.Nat.{le_trans, lt_of_le_of_lt}
use native.Mathlib.Omega.{arith}
use lib.Dec.{T, leb, lit<, ltb}
use lib.IntN.{ℤ, nat_abs, neg_ℤ, negsuc, pos, sub_ℕ, ◌+ℤ◌, ◌-ℤ◌}
use lib.Signed.{lt_z, mag, nat_abs-le, non_neg}
use mir.Facts.{to_z-of_z}
use mir.Syntax.{w64}
use mir.Val.{Fits, SFits, of_z, to_z}
use borrow.Author.Tests.{leb-true, ltb-true}
use Rattle.terms.proofs.Laws.Tests.{and_left, and_right, either}
use Rattle.stores.specs.Types.{Index}
use Rattle.stores.specs.Index.{index_in_range, modulo}

-- ── An integer that is not below 0, as a number of 64 bits ──────────────────────────────────────────────────────────────────

pub not_negative : (z : ℤ) → lt_z z (pos 0) ≡ false → T (non_neg z)
not_negative (pos n) h = tt
not_negative (negsuc n) h = absurd (false≢true (sym h))

pub nat_abs_modulo : (z : ℤ) (n : ℕ) → lt_z z (pos 0) ≡ false → nat_abs z % n ≡ modulo z n
nat_abs_modulo (pos k) n h = refl
nat_abs_modulo (negsuc k) n h = absurd (false≢true (sym h))

-- .. and one that is
pub negative_modulo : (z : ℤ) (n : ℕ) → lt_z z (pos 0) ≡ true → 0 ≡ modulo z n
negative_modulo (pos k) n h = absurd (omega (arith, ltb-true k 0 h))
negative_modulo (negsuc k) n h = refl

pub nat_abs_fits : (z : ℤ) → SFits w64 z → Fits w64 (nat_abs z)
nat_abs_fits z h = record { fits = lt_of_le_of_lt (nat_abs-le z h.sfits) (lit< tt) }

-- ── Sums and differences that fit 64 bits ───────────────────────────────────────────────────────────────────────────────────

subℕ_mag : (a b : ℕ) → mag (sub_ℕ a (suc b)) ≤ a + b + 1
subℕ_mag a b = either (λ z. mag z ≤ a + b + 1) (ltb a (suc b)) (omega arith) (omega arith)

plus_mag : (x y : ℤ) → mag (x +ℤ y) ≤ mag x + mag y + 1
plus_mag (pos a) (pos b) = omega arith
plus_mag (pos a) (negsuc b) = subℕ_mag a b
plus_mag (negsuc a) (pos b) = omega (arith, subℕ_mag b a)
plus_mag (negsuc a) (negsuc b) = omega arith

neg_mag : (z : ℤ) → mag (neg_ℤ z) ≤ mag z + 1
neg_mag (pos zero) = omega arith
neg_mag (pos (suc n)) = omega arith
neg_mag (negsuc n) = omega arith

-- an integer that is within 32 bits of 0
pub record Small (z : ℤ) : Type 0 where
  pub small : mag z ≤ 4294967296

module _ {x y : ℤ} (p : Small x) (q : Small y) where
  pub plus_fits : SFits w64 (x +ℤ y)
  plus_fits = record { sfits = lt_of_le_of_lt (le_trans (plus_mag x y) (omega arith)) (lit< {m = 8589934594} tt) }

  pub minus_fits : SFits w64 (x -ℤ y)
  minus_fits = record { sfits = lt_of_le_of_lt (le_trans (plus_mag x (neg_ℤ y)) (omega (arith, neg_mag y))) (lit< {m = 8589934594} tt) }

-- an index in range is, and so is a number of 32 bits

pub index_small : (i : Index) → index_in_range i ≡ true → Small i.at
index_small i h = record { small = go i.at h }
  where
    go : (z : ℤ) → index_in_range (record { at = z }) ≡ true → mag z ≤ 4294967296
    go (pos n) q = omega (arith, leb-true n 2147483648 q)
    go (negsuc n) q = omega (arith, leb-true n 0 (and_left (leb n 0) true q))

pub indices_small : (i j : Index) → (index_in_range i && index_in_range j) ≡ true → Small i.at × Small j.at
indices_small i j h =
    (index_small i (and_left (index_in_range i) (index_in_range j) h), index_small j (and_right (index_in_range i) (index_in_range j) h))

pub number_small : (n : ℕ) → n ≤ 4294967296 → Small (pos n)
number_small n h = record { small = h }

-- a number that is small, read back from its bits
pub small_read : {z : ℤ} → Small z → to_z w64 (of_z w64 z) ≡ z
small_read {z} p = to_z-of_z {w = w64} (record { sfits = lt_of_le_of_lt p.small (lit< {m = 4294967296} tt) })
