-- The digits of a number are read as the number: those down to a place as what the number has of it.
use mathlib.Core.Path.{◌≡◌, refl, ap, sym, ◌∙◌}
use mathlib.Core.Bool.{Bool, true, false, ◌&&◌, ◌||◌}
use mathlib.Core.List.{List, [], ◌∷◌, ◌++◌}
use Prim.Native.Nat.{ℕ, ◌+◌, ◌*◌, ◌-◌, ◌/◌, ◌%◌, ◌<◌}
use native.Mathlib.Nat.{add-sub_cancel_left, div-add-mod, div-div-eq-div-mul, div-eq_of_lt, div-one}
use native.Mathlib.Omega.{arith}
use lib.Dec.{eqb, leb}
use borrow.Author.Tests.{eqb-true, leb-false}
use Rattle.terms.proofs.Laws.Tests.{and_left, and_right, by_test}
use Rattle.terms.specs.Lists.{concat_map}
use Rattle.lines.specs.Text.{DigitsRead, digit, number_in, shown, units}

number_in_append : (v : ℕ) (l m : List ℕ) → number_in v (l ++ m) ≡ number_in (number_in v l) m
number_in_append v [] m = refl
number_in_append v (d ∷ l) m = number_in_append (10 * v + (d - 48)) l m

-- a choice of two tests that fails
or_left : (a b : Bool) → (a || b) ≡ false → a ≡ false
or_left true b p = p
or_left false b p = refl

module _ (n : ℕ) where
  -- one place more: what a number has of a place is ten times what it has of the place before, and a digit
  ten_times : (unit : ℕ) → 10 * (n / (unit * 10)) + n / unit % 10 ≡ n / unit
  ten_times unit = ap (λ q. 10 * q + n / unit % 10) (sym (div-div-eq-div-mul n unit 10)) ∙ div-add-mod (n / unit) 10

  -- a place that is not shown is one that the number does not reach
  read_place : (unit v : ℕ) → v ≡ n / (unit * 10) → number_in v (digit n unit) ≡ n / unit
  read_place unit v so_far = go (shown n unit) refl
    where
      go : (b : Bool) → shown n unit ≡ b → number_in v (digit n unit) ≡ n / unit
      go true p =
          ap (number_in v) (by_test _ _ p) ∙ (λ i. 10 * so_far i + add-sub_cancel_left 48 (n / unit % 10) i) ∙ ten_times unit
      go false p =
          let below : n < unit = leb-false unit n (or_left (leb unit n) (eqb unit 1) p) in
          ap (number_in v) (by_test _ _ p) ∙ so_far ∙ div-eq_of_lt (omega arith) ∙ sym (div-eq_of_lt below)

  -- places one after the other, each a tenth of the one before
  abbrev tenths : ℕ → List ℕ → Bool
  tenths unit [] = true
  tenths unit (next ∷ us) = eqb unit (next * 10) && tenths next us

  abbrev last_of : ℕ → List ℕ → ℕ
  last_of unit [] = unit
  last_of unit (next ∷ us) = last_of next us

  read_places : (unit : ℕ) (us : List ℕ) → tenths unit us ≡ true → (v : ℕ) → v ≡ n / unit → number_in v (concat_map (digit n) us) ≡ n / last_of unit us
  read_places unit [] p v so_far = so_far
  read_places unit (next ∷ us) p v so_far =
      let tenth = eqb-true unit (next * 10) (and_left (eqb unit (next * 10)) (tenths next us) p) in
      number_in_append v (digit n next) (concat_map (digit n) us)
      ∙ read_places next us (and_right (eqb unit (next * 10)) (tenths next us) p) (number_in v (digit n next)) (read_place next v (so_far ∙ ap (λ u. n / u) tenth))

pub digits_read : DigitsRead
digits_read n few = read_places n 10000000000 units refl 0 (sym (div-eq_of_lt few)) ∙ div-one n
