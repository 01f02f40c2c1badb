-- Laws of numbers in bytes: as many bytes as asked for, and a number that fits them is the number that they are.
use mathlib.Core.Path.{◌≡◌, refl, ap, ◌∙◌}
use Prim.Native.Nat.{ℕ, zero, suc, ◌+◌, ◌*◌, ◌/◌, ◌%◌, ◌^◌, ◌<◌}
use native.Mathlib.Nat.{div-lt_iff_lt-mul, mod-add-div, pow-suc}
use native.Mathlib.Omega.{arith}
use lib.ListN.{length}
use Rattle.number.specs.Number.{little_endian, of_bytes}

-- a number in so many bytes is so many bytes
pub length-little_endian : (w n : ℕ) → length (little_endian w n) ≡ w
length-little_endian zero n = refl
length-little_endian (suc w) n = ap suc (length-little_endian w (n / 256))

-- a number that fits so many bytes is the number that these bytes are
pub of_bytes_little_endian : (w n : ℕ) → n < 256 ^ w → of_bytes (little_endian w n) ≡ n
of_bytes_little_endian zero n fits = omega arith
of_bytes_little_endian (suc w) n fits =
    let rest : n / 256 < 256 ^ w = (div-lt_iff_lt-mul {k = 256} {x = n} (omega arith)).1 (rw pow-suc at fits) in
    ap (λ k. n % 256 + 256 * k) (of_bytes_little_endian w (n / 256) rest) ∙ mod-add-div n 256
