-- Laws of bytes, numbers below 256: they are the bytes of the number that they are, and so are parts of them.
use mathlib.Core.Path.{◌≡◌, refl, ap}
use mathlib.Core.Bool.{true}
use mathlib.Core.List.{List, [], ◌∷◌}
use Prim.Native.Nat.{ℕ, zero, suc, ◌+◌, ◌*◌, ◌/◌, ◌%◌, ◌^◌, ◌<◌}
use native.Mathlib.Nat.{pow-suc}
use native.Mathlib.Omega.{arith}
use lib.Dec.{ltb}
use lib.ListN.{drop, get_or, length, take}
use borrow.Author.Tests.{lt-ltb, ltb-true}
use Rattle.terms.proofs.Laws.Tests.{and_left, and_right}
use Rattle.terms.proofs.Laws.Lists.{all_each}
use Rattle.number.specs.Number.{little_endian, of_bytes}
use Rattle.schedule.specs.Format.{all_below}

-- bytes are the bytes of the number that they are
pub little_endian_of_bytes : (l : List ℕ) → all_below 256 l ≡ true → little_endian (length l) (of_bytes l) ≡ l
little_endian_of_bytes [] below = refl
little_endian_of_bytes (b ∷ l) below =
    let byte : b < 256 = ltb-true b 256 (and_left (ltb b 256) (all_below 256 l) below) in
    let low : (b + 256 * of_bytes l) % 256 ≡ b = omega arith in
    let high : (b + 256 * of_bytes l) / 256 ≡ of_bytes l = omega arith in
    rw (low, high) (ap (λ r. b ∷ r) (little_endian_of_bytes l (and_right (ltb b 256) (all_below 256 l) below)))

-- bytes that are all below a bound: so are the first of them, and the others
pub all_below_take : (bound n : ℕ) (l : List ℕ) → all_below bound l ≡ true → all_below bound (take n l) ≡ true
all_below_take bound zero l below = refl
all_below_take bound (suc n) [] below = refl
all_below_take bound (suc n) (b ∷ l) below =
    rw (and_left (ltb b bound) (all_below bound l) below) (all_below_take bound n l (and_right (ltb b bound) (all_below bound l) below))

pub all_below_drop : (bound n : ℕ) (l : List ℕ) → all_below bound l ≡ true → all_below bound (drop n l) ≡ true
all_below_drop bound zero l below = below
all_below_drop bound (suc n) [] below = refl
all_below_drop bound (suc n) (b ∷ l) below = all_below_drop bound n l (and_right (ltb b bound) (all_below bound l) below)

-- the number that w bytes are, or fewer, fits w bytes
pub of_bytes_below : (w : ℕ) (l : List ℕ) → all_below 256 l ≡ true → of_bytes (take w l) < 256 ^ w
of_bytes_below zero l below = omega arith
of_bytes_below (suc w) [] below = rw pow-suc (omega (arith, of_bytes_below w [] refl))
of_bytes_below (suc w) (b ∷ l) below =
    let byte : b < 256 = ltb-true b 256 (and_left (ltb b 256) (all_below 256 l) below) in
    rw pow-suc (omega (arith, of_bytes_below w l (and_right (ltb b 256) (all_below 256 l) below)))

-- where each number of a list is below a bound, all are
pub each_below : (bound : ℕ) (l : List ℕ) → ((i : ℕ) → get_or l i 0 < bound) → all_below bound l ≡ true
each_below bound l each = all_each (λ n. ltb n bound) l 0 (λ i. lt-ltb (get_or l i 0) bound (each i))
