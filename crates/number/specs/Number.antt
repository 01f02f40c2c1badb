-- Numbers in bytes. Renders "least significant first", of "The schedule file" and of "Trace" in the scope paper, 01.
use Rattle.std.specs.Prelude.{◌≡◌, Bool, cond, List, [], ◌∷◌, ◌++◌, ℕ, zero, suc, ◌+◌, ◌*◌, ◌/◌, ◌%◌, ◌≤◌, ◌<◌, leb, length, drop, take}
use Rattle.terms.specs.Lists.{concat_map}

-- a number in so many bytes, the least significant first
abbrev pub little_endian : ℕ → ℕ → List ℕ
little_endian zero n = []
little_endian (suc width) n = n % 256 ∷ little_endian width (n / 256)

-- the number that some bytes are
abbrev pub of_bytes : List ℕ → ℕ
of_bytes [] = 0
of_bytes (b ∷ l) = b + 256 * of_bytes l

-- The order shows in an example, a number whose bytes are 1, 2, 3 and 4. Proved in `proofs/ByteOrder.antt`.
abbrev pub LeastSignificantFirst : Type 0
LeastSignificantFirst = (little_endian 4 67305985 ≡ 1 ∷ 2 ∷ 3 ∷ 4 ∷ []) × (of_bytes (1 ∷ 2 ∷ 3 ∷ 4 ∷ []) ≡ 67305985)

-- a list with other elements from a place on, as many as are given: what is written into a buffer, or a part of it
abbrev pub overwritten : ℕ → List ℕ → List ℕ → List ℕ
overwritten at new l = take at l ++ new ++ drop (at + length new) l

-- ── Numbers of four bytes ───────────────────────────────────────────────────────────────────────────────────────────────────

-- the four bytes from a place on lie within so many
abbrev pub fits : ℕ → ℕ → Bool
fits at bytes = leb (at + 4) bytes

-- the number that the four bytes from a place on are; 0, if they are not all there, and nothing in 01 goes by that number
abbrev pub word_at : List ℕ → ℕ → ℕ
word_at bytes at = cond (fits at (length bytes)) (of_bytes (take 4 (drop at bytes))) 0

-- bytes with a number in the four from a place on; as they were, if these are not all there
abbrev pub word_put : ℕ → ℕ → List ℕ → List ℕ
word_put at number bytes = cond (fits at (length bytes)) (overwritten at (little_endian 4 number) bytes) bytes

-- ── Several at once ─────────────────────────────────────────────────────────────────────────────────────────────────────────

-- numbers of four bytes each, one behind the other
abbrev pub word_bytes : List ℕ → List ℕ
word_bytes numbers = concat_map (little_endian 4) numbers

-- bytes with others in those from a place on; as they were, if these are not all there
abbrev pub bytes_put : ℕ → List ℕ → List ℕ → List ℕ
bytes_put at new bytes = cond (leb (at + length new) (length bytes)) (overwritten at new bytes) bytes

-- ── What reading and putting have to do with each other ─────────────────────────────────────────────────────────────────────

-- A number of 32 bits that was put is read at its place, and no other byte has changed. Proved in `proofs/ReadAsPut.antt`, as is what follows.
abbrev pub ReadAsPut : Type 0
ReadAsPut =
    (at n : ℕ) (l : List ℕ) → n < 4294967296 → at + 4 ≤ length l
    → (word_at (word_put at n l) at ≡ n)
    × (take at (word_put at n l) ≡ take at l)
    × (drop (at + 4) (word_put at n l) ≡ drop (at + 4) l)

-- at the end of the bytes: the last place, the one past it, too few bytes, and a place far away
abbrev pub AtTheEnd : Type 0
AtTheEnd =
    (word_at (9 ∷ 1 ∷ 2 ∷ 3 ∷ 4 ∷ []) 1 ≡ 67305985)
    × (word_at (9 ∷ 1 ∷ 2 ∷ 3 ∷ 4 ∷ []) 2 ≡ 0)
    × (word_at (1 ∷ 2 ∷ 3 ∷ []) 0 ≡ 0)
    × (word_at (1 ∷ 2 ∷ 3 ∷ 4 ∷ []) 18446744073709551615 ≡ 0)
    × (word_put 1 67305985 (9 ∷ 8 ∷ 7 ∷ 6 ∷ 5 ∷ []) ≡ 9 ∷ 1 ∷ 2 ∷ 3 ∷ 4 ∷ [])
    × (word_put 2 67305985 (9 ∷ 8 ∷ 7 ∷ 6 ∷ 5 ∷ []) ≡ 9 ∷ 8 ∷ 7 ∷ 6 ∷ 5 ∷ [])
    × (word_put 0 67305985 (9 ∷ 8 ∷ 7 ∷ []) ≡ 9 ∷ 8 ∷ 7 ∷ [])
    -- and of several: those that just fit, one too many, one far away
    × (bytes_put 1 (1 ∷ 2 ∷ []) (9 ∷ 8 ∷ 7 ∷ []) ≡ 9 ∷ 1 ∷ 2 ∷ [])
    × (bytes_put 2 (1 ∷ 2 ∷ []) (9 ∷ 8 ∷ 7 ∷ []) ≡ 9 ∷ 8 ∷ 7 ∷ [])
    × (bytes_put 18446744073709551615 (1 ∷ []) (9 ∷ 8 ∷ 7 ∷ []) ≡ 9 ∷ 8 ∷ 7 ∷ [])
    × (bytes_put 1 (word_bytes (67305985 ∷ 16909060 ∷ [])) (9 ∷ 9 ∷ 9 ∷ 9 ∷ 9 ∷ 9 ∷ 9 ∷ 9 ∷ 9 ∷ 9 ∷ []) ≡ 9 ∷ 1 ∷ 2 ∷ 3 ∷ 4 ∷ 4 ∷ 3 ∷ 2 ∷ 1 ∷ 9 ∷ [])
