-- The first 20,509 bytes of an input decide what is printed of it: they have its sizes, and are already too many for any file.
use mathlib.Core.Path.{◌≡◌, refl, ap, sym, ◌∙◌}
use mathlib.Core.Bool.{Bool, true, false, not}
use mathlib.Core.List.{List, [], ◌∷◌, ◌++◌}
use Prim.Native.Nat.{ℕ, ◌+◌, ◌*◌, ◌≤◌, ◌<◌}
use native.Mathlib.Omega.{arith}
use lib.Dec.{eqb, ltb}
use lib.ListN.{length, drop, get_or, length-drop, take, take-append-drop}
use lib.Seq.{drop-append-le, length-take-le, take_all, take-append-le}
use borrow.Author.Tests.{le-ltb, ltb-false, ltb-true, ne_eqb}
use Rattle.std.proofs.Common.{Result, Ok, Err}
use Rattle.number.specs.Number.{of_bytes}
use Rattle.terms.specs.declared.refusal.Refusal.TheVariants.{Short}
use Rattle.schedule.specs.Check.{check_ranges, fail_if, first}
use Rattle.schedule.specs.Entries.{check_entries}
use Rattle.schedule.specs.Format.{decode, entries_in, kinds_in, layout, operands_in, sizes_in}
use Rattle.schedule.specs.Reader.{read_file, reading_of}
use Rattle.schedule.proofs.Laws.Check.{few_entries}
use Rattle.schedule.proofs.Laws.Format.{total}
use Rattle.lines.specs.Types.{Queue, Refusal}
use Rattle.lines.specs.Lines.{lines_for, lines_of, refusal_line}
use Rattle.lines.specs.Input.{BeginningDecides}

-- numbers that all lie in the front of some bytes are those of the front
decode_front : (ws front rest : List ℕ) → total ws ≤ length front → decode ws (front ++ rest) ≡ decode ws front
decode_front [] front rest inside = refl
decode_front (w ∷ ws) front rest inside =
    let others = decode_front ws (drop w front) rest (rw (length-drop w front) (omega arith)) in
    λ i. of_bytes (take-append-le w front rest (omega arith) i) ∷ (ap (decode ws) (drop-append-le w front rest (omega arith)) ∙ others) i

-- the check of the sizes that stand in a file
abbrev ranges_in : List ℕ → Result Unit Refusal
ranges_in file = check_ranges (sizes_in file) (entries_in file)

ranges_front : (front rest : List ℕ) → 28 ≤ length front → ranges_in (front ++ rest) ≡ ranges_in front
ranges_front front rest inside = ap of_sizes (decode_front (layout 0) front rest inside)
  where
    of_sizes : List ℕ → Result Unit Refusal
    of_sizes l =
        check_ranges (record { slots = get_or l 0 0; buffer = get_or l 1 0; spacing = get_or l 2 0; margin = get_or l 3 0; thieves = get_or l 4 0; start = get_or l 5 0 }) (get_or l 6 0)

-- the refusal of an overlong input: a size out of its range, else SHORT
abbrev overlong : Result Unit Refusal → Refusal
overlong (Ok _) = Short
overlong (Err r) = r

overlong_read : (file : List ℕ) → 20508 < length file → read_file file ≡ Err (overlong (ranges_in file))
overlong_read file long = go (ranges_in file) refl
  where
    n : ℕ
    n = entries_in file

    entries : Result Unit Refusal
    entries = check_entries (sizes_in file) (kinds_in n file) (operands_in n file)

    enough : fail_if (ltb (length file) 28) Short ≡ Ok tt
    enough = ap (λ t. fail_if t Short) (le-ltb (length file) 28 (omega arith))

    too_long : n ≤ 4096 → fail_if (not (eqb (length file) (28 + 5 * n))) Short ≡ Err Short
    too_long few = ap (λ t. fail_if (not t) Short) (ne_eqb (length file) (28 + 5 * n) (λ same. omega (arith, same)))

    go : (c : Result Unit Refusal) → ranges_in file ≡ c → read_file file ≡ Err (overlong (ranges_in file))
    go (Err r) ranges =
        (λ i. reading_of file (first (enough i ∷ ranges i ∷ fail_if (not (eqb (length file) (28 + 5 * n))) Short ∷ entries ∷ [])))
        ∙ sym (ap (λ c. Err (overlong c)) ranges)
    go (Ok _) ranges =
        (λ i. reading_of file (first (enough i ∷ ranges i ∷ too_long (few_entries (sizes_in file) n ranges) i ∷ entries ∷ [])))
        ∙ sym (ap (λ c. Err (overlong c)) ranges)

overlong_line : (q : Queue) (file : List ℕ) → 20508 < length file → lines_of q file ≡ refusal_line (overlong (ranges_in file))
overlong_line q file long = ap (lines_for q file) (overlong_read file long)

pub beginning_decides : BeginningDecides
beginning_decides q input = go (ltb 20509 (length input)) refl
  where
    go : (longer : Bool) → ltb 20509 (length input) ≡ longer → lines_of q (take 20509 input) ≡ lines_of q input
    go true p =
        let front = take 20509 input in
        let rest = drop 20509 input in
        let whole = take-append-drop 20509 input in
        let long = ltb-true 20509 (length input) p in
        let front_long : length front ≡ 20509 = length-take-le 20509 input (omega arith) in
        overlong_line q front (omega arith)
        ∙ ap (λ c. refusal_line (overlong c)) (sym (ranges_front front rest (omega arith)) ∙ ap ranges_in whole)
        ∙ sym (overlong_line q input (omega arith))
    go false p = ap (lines_of q) (take_all 20509 input (ltb-false 20509 (length input) p))
