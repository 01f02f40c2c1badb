-- Laws of what a run gives, where each put is of a block of its own: from demand 3, each TASK is of a block that was put and STORED before, and no two are of one.
use Rattle.std.proofs.Common.{Ok}
use mathlib.Core.Path.{◌≡◌, refl, ap, sym, ◌∙◌, subst}
use mathlib.Core.Bool.{Bool, true, false, cond, not, ◌||◌, false≢true}
use mathlib.Core.List.{List, [], ◌∷◌, ◌++◌, append-nil, map}
use Prim.Native.Nat.{ℕ, zero, suc, ◌+◌, ◌≤◌, ◌<◌}
use native.Mathlib.Numerals.{add-one}
use native.Mathlib.Omega.{arith}
use lib.Dec.{eqb, ltb}
use lib.ListN.{length, get_or, take, length-take, get_or-eq_default, get_or-map}
use lib.Seq.{take-suc, take-take}
use borrow.Author.Tests.{eq-eqb, eqb-true, ltb-false, ltb-true}
use Rattle.terms.specs.Lists.{concat_map, occurrences}
use Rattle.terms.specs.Outcome.{is_answer, is_moved, is_stored, value_of}
use Rattle.terms.specs.Sizes.{enough_margin, sizes_in_range, within}
use Rattle.terms.proofs.Laws.Lists.{take_whole}
use Rattle.terms.proofs.Laws.Sizes.{within_bounds}
use Rattle.terms.proofs.Laws.Sums.{adds_concat_map, adds_occurrences, adds_take_drop}
use Rattle.terms.proofs.Laws.Tests.{by_test, decide}
use Rattle.claim.specs.Calls.{task_in}
use Rattle.machine.specs.declared.machine.Machine.{Machine}
use Rattle.machine.specs.Machine.{fresh}
use Rattle.machine.specs.Obey.{obey, outcomes_of}
use Rattle.machine.specs.Linearizable.{ff_the}
use Rattle.properties.specs.ExactlyOnce.{given, held, number_put, standing, stored, stored_puts}
use Rattle.properties.proofs.ExactlyOnce.{accounted_by_number}
use Rattle.properties.proofs.Laws.ExactlyOnce.{stored_put}
use Rattle.schedule.specs.Format.{all_below}
use Rattle.schedule.proofs.Laws.Bytes.{each_below}
use Rattle.schedule.proofs.Laws.Run.{length-outcomes_of}
use Rattle.share_sheet.specs.Types.{BeginPut, BeginSteal, BeginTake, ClientStore, Drain, Entry, Sizes, ThiefStep, WorkerStep}
use Rattle.share_sheet.specs.Types.{Outcome, Moved, Place, Early, Wait, Stored, Task, Empty, Abort, Full, End}
use Rattle.share_sheet.specs.Filling.{GivenOnce}
use Rattle.share_sheet.specs.Sheet.{check_blocks, gives, puts_up_to, wrong_put}
use Rattle.share_sheet.proofs.Laws.Blocks.{puts_more, right_at}

-- an outcome gives a block exactly if it is TASK with it
pub gives_task : (x : ℕ) (o : Outcome) → gives x o ≡ true → o ≡ Task x
gives_task x Moved e = absurd (false≢true e)
gives_task x Place e = absurd (false≢true e)
gives_task x Early e = absurd (false≢true e)
gives_task x Wait e = absurd (false≢true e)
gives_task x Stored e = absurd (false≢true e)
gives_task x (Task y) e = ap Task (eqb-true y x e)
gives_task x Empty e = absurd (false≢true e)
gives_task x Abort e = absurd (false≢true e)
gives_task x Full e = absurd (false≢true e)
gives_task x End e = absurd (false≢true e)

pub task_gives : (x : ℕ) (o : Outcome) → o ≡ Task x → gives x o ≡ true
task_gives x o e = ap (gives x) e ∙ eq-eqb x x refl

-- an outcome's value is below a bound where every TASK's number is
value_below : (bound : ℕ) (o : Outcome) → 0 < bound → ((k : ℕ) → o ≡ Task k → k < bound) → value_of o < bound
value_below bound Moved some each = some
value_below bound Place some each = some
value_below bound Early some each = some
value_below bound Wait some each = some
value_below bound Stored some each = some
value_below bound (Task x) some each = each x refl
value_below bound Empty some each = some
value_below bound Abort some each = some
value_below bound Full some each = some
value_below bound End some each = some

-- a number that is not wrong is a block's, and not used before
right_use : (block used : Bool) → (not block || used) ≡ false → (block ≡ true) × (used ≡ false)
right_use true used e = (refl, e)
right_use false used e = absurd (false≢true (sym e))

-- the outcomes of the first entries are the first outcomes
outcomes_of_take : (m : Machine) (n : ℕ) (es : List Entry) → outcomes_of m (take n es) ≡ take n (outcomes_of m es)
outcomes_of_take m zero es = refl
outcomes_of_take m (suc n) [] = refl
outcomes_of_take m (suc n) (e ∷ es) = ap (λ l. (obey m e).outcome ∷ l) (outcomes_of_take (obey m e).machine n es)

-- an outcome that is not STORED adds no STORED put
stored_same : (running : List ℕ) (es : List Entry) (os : List Outcome) (at : ℕ) → is_stored (get_or os at Moved) ≡ false
    → stored_puts running (take (suc at) es) (take (suc at) os) ≡ stored_puts running (take at es) (take at os)
stored_same running [] os zero other = refl
stored_same running [] os (suc at) other = refl
stored_same running (e ∷ es) [] zero other = refl
stored_same running (e ∷ es) [] (suc at) other = refl
stored_same running (Drain ∷ es) (o ∷ os) zero other = refl
stored_same running (ClientStore ∷ es) (o ∷ os) zero other = refl
stored_same running (BeginPut x ∷ es) (o ∷ os) zero other = refl
stored_same running (BeginTake ∷ es) (o ∷ os) zero other = refl
stored_same running (WorkerStep ∷ es) (o ∷ os) zero other = ap (λ t. cond t running [] ++ []) other
stored_same running (BeginSteal i ∷ es) (o ∷ os) zero other = refl
stored_same running (ThiefStep i ∷ es) (o ∷ os) zero other = refl
stored_same running (Drain ∷ es) (o ∷ os) (suc at) other = stored_same running es os at other
stored_same running (ClientStore ∷ es) (o ∷ os) (suc at) other = stored_same running es os at other
stored_same running (BeginPut x ∷ es) (o ∷ os) (suc at) other = stored_same (cond (is_moved o) (x ∷ []) running) es os at other
stored_same running (BeginTake ∷ es) (o ∷ os) (suc at) other = stored_same (cond (is_moved o) [] running) es os at other
stored_same running (WorkerStep ∷ es) (o ∷ os) (suc at) other = ap (λ l. cond (is_stored o) running [] ++ l) (stored_same (cond (is_answer o) [] running) es os at other)
stored_same running (BeginSteal i ∷ es) (o ∷ os) (suc at) other = stored_same running es os at other
stored_same running (ThiefStep i ∷ es) (o ∷ os) (suc at) other = stored_same running es os at other

module _ (s : Sizes) (es : List Entry) (count : ℕ) (ranged : sizes_in_range s ≡ true) (enough : enough_margin s ≡ true) (short : length es ≤ 4096) (right : check_blocks count es ≡ Ok tt) where
  abbrev os : List Outcome
  os = outcomes_of (fresh s) es

  -- what holds of no numbers, and still holds with a block behind that is not among them, holds of all that are put
  module _ (P : List ℕ → Type 0) (none : P []) (one : (used : List ℕ) (x : ℕ) → within 1 count x ≡ true → occurrences x used ≤ 0 → P used → P (used ++ (x ∷ []))) where
    -- one entry more, which puts such a block or nothing
    with_entry : (used : List ℕ) (e : Entry) → wrong_put count used e ≡ false → P used → P (used ++ number_put e)
    with_entry used Drain fine p = subst P (sym (append-nil used)) p
    with_entry used ClientStore fine p = subst P (sym (append-nil used)) p
    with_entry used (BeginPut x) fine p = let told = right_use (within 1 count x) (ltb 0 (occurrences x used)) fine in one used x told.0 (ltb-false 0 (occurrences x used) told.1) p
    with_entry used BeginTake fine p = subst P (sym (append-nil used)) p
    with_entry used WorkerStep fine p = subst P (sym (append-nil used)) p
    with_entry used (BeginSteal i) fine p = subst P (sym (append-nil used)) p
    with_entry used (ThiefStep i) fine p = subst P (sym (append-nil used)) p

    -- entry by entry; past the last there are no more
    of_puts : (n : ℕ) → P (puts_up_to n es)
    of_puts zero = none
    of_puts (suc n) = go (ltb n (length es)) refl (of_puts n)
      where
        go : (inside : Bool) → ltb n (length es) ≡ inside → P (puts_up_to n es) → P (puts_up_to (suc n) es)
        go true e p =
            let there = ltb-true n (length es) e in
            let fine = right_at count es right n there in
            subst P (sym (puts_more es n there) ∙ ap (λ k. puts_up_to k es) (add-one n)) (with_entry (puts_up_to n es) (get_or es n Drain) fine p)
        go false e p = let past = ltb-false n (length es) e in subst (λ l. P (concat_map number_put l)) (take_whole es n (suc n) past (omega arith)) p

  -- no number is put twice, and each is a block's
  pub puts_once : (k n : ℕ) → occurrences k (puts_up_to n es) ≤ 1
  puts_once k n = of_puts (λ l. occurrences k l ≤ 1) (omega arith) one n
    where
      one : (used : List ℕ) (x : ℕ) → within 1 count x ≡ true → occurrences x used ≤ 0 → occurrences k used ≤ 1 → occurrences k (used ++ (x ∷ [])) ≤ 1
      one used x block new few =
          subst (λ n. n ≤ 1) (sym ((adds_occurrences k).append used (x ∷ [])))
          (decide (λ n. occurrences k used + (n + 0) ≤ 1) (eqb k x) (λ e. omega (arith, ap (λ j. occurrences j used) (eqb-true k x e))) (λ e. omega arith))

  pub puts_blocks : (k n : ℕ) → 0 < occurrences k (puts_up_to n es) → within 1 count k ≡ true
  puts_blocks k n some = of_puts (λ l. 0 < occurrences k l → within 1 count k ≡ true) (λ h. absurd (omega arith)) one n some
    where
      one : (used : List ℕ) (x : ℕ) → within 1 count x ≡ true → occurrences x used ≤ 0 → (0 < occurrences k used → within 1 count k ≡ true)
          → 0 < occurrences k (used ++ (x ∷ [])) → within 1 count k ≡ true
      one used x block new before h =
          decide (λ n. 0 < occurrences k used + (n + 0) → within 1 count k ≡ true) (eqb k x) (λ e h. ap (within 1 count) (eqb-true k x e) ∙ block) (λ e h. before (omega arith))
          (subst (λ n. 0 < n) ((adds_occurrences k).append used (x ∷ [])) h)

  -- how often the first so many outcomes give a number ..
  abbrev given_up_to : ℕ → ℕ → ℕ
  given_up_to k n = occurrences k (concat_map task_in (take n os))

  -- .. is no more than it is STORED, by demand 3 ..
  given_stored : (k n : ℕ) → given_up_to k n ≤ occurrences k (stored ff_the s (take n es))
  given_stored k n =
      let l = take n es in
      omega (
        arith,
        accounted_by_number s l ranged enough (omega (arith, length-take n es)) k,
        (adds_occurrences k).append (given ff_the s l ++ held ff_the s l) (standing ff_the s l),
        (adds_occurrences k).append (given ff_the s l) (held ff_the s l),
        ap (λ t. occurrences k (concat_map task_in t)) (outcomes_of_take (fresh s) n es),
      )

  -- .. which is no more than it is put
  stored_few : (k n : ℕ) → occurrences k (stored ff_the s (take n es)) ≤ occurrences k (puts_up_to n es)
  stored_few k n = omega (arith, stored_put k [] (take n es) (outcomes_of (fresh s) (take n es)))

  -- a TASK gives its number once more
  given_more : (at k : ℕ) → at < length es → get_or os at Moved ≡ Task k → given_up_to k (suc at) ≡ given_up_to k at + 1
  given_more at k there task =
      omega (
        arith,
        ap (λ t. occurrences k (concat_map task_in t)) (take-suc os at Moved (omega (arith, length-outcomes_of ff_the (fresh s) es))),
        (adds_concat_map (adds_occurrences k) task_in).append (take at os) (get_or os at Moved ∷ []),
        ap (λ o. occurrences k (concat_map task_in (o ∷ []))) task,
        by_test {A = ℕ} 1 0 (eq-eqb k k refl),
      )

  -- no TASK comes after another of the same number
  task_twice : (at other k : ℕ) → at < length es → get_or os at Moved ≡ Task k → other < length es → get_or os other Moved ≡ Task k → at < other → ⊥
  task_twice at other k there task too same before =
      omega (
        arith,
        given_more at k there task,
        given_more other k too same,
        adds_take_drop (adds_concat_map (adds_occurrences k) task_in) (suc at) (take other os),
        ap (λ t. occurrences k (concat_map task_in t)) (take-take (suc at) other os before),
        given_stored k (suc other),
        stored_few k (suc other),
        puts_once k (suc other),
      )

  -- a TASK is of a block ..
  pub task_is_block : (at k : ℕ) → at < length es → get_or os at Moved ≡ Task k → within 1 count k ≡ true
  task_is_block at k there task = puts_blocks k (suc at) (omega (arith, given_more at k there task, given_stored k (suc at), stored_few k (suc at)))

  -- .. that was put and STORED before it, once ..
  pub task_stored : (at k : ℕ) → at < length es → get_or os at Moved ≡ Task k → occurrences k (stored ff_the s (take at es)) ≡ 1
  task_stored at k there task =
      let outcomes : (n : ℕ) → stored ff_the s (take n es) ≡ stored_puts [] (take n es) (take n os) = λ n. ap (stored_puts [] (take n es)) (outcomes_of_take (fresh s) n es) in
      let same : stored ff_the s (take (suc at) es) ≡ stored ff_the s (take at es) = outcomes (suc at) ∙ stored_same [] es os at (ap is_stored task) ∙ sym (outcomes at) in
      omega (arith, given_more at k there task, given_stored k (suc at), ap (occurrences k) same, stored_few k at, puts_once k at)

  -- .. and no other is
  pub task_once : (at other k : ℕ) → at < length es → other < length es → get_or os at Moved ≡ Task k → get_or os other Moved ≡ Task k → at ≡ other
  task_once at other k there too task same = omega (arith, task_twice at other k there task too same, task_twice other at k too same there task)

  pub given_once : GivenOnce count os
  given_once =
      record {
        block = λ at x there given. task_is_block at x (inside at there) (gives_task x (get_or os at Moved) given);
        once = λ at other x there too given same. task_once at other x (inside at there) (inside other too) (gives_task x (get_or os at Moved) given) (gives_task x (get_or os other Moved) same);
      }
    where
      inside : (at : ℕ) → at < length os → at < length es
      inside at there = omega (arith, length-outcomes_of ff_the (fresh s) es)

  -- so every value fits four bytes
  pub block_values_fit : count ≤ 255 → all_below 4294967296 (map value_of os) ≡ true
  block_values_fit few = each_below 4294967296 (map value_of os) below
    where
      number : (at k : ℕ) (inside : Bool) → ltb at (length os) ≡ inside → get_or os at Moved ≡ Task k → k < 4294967296
      number at k true e task =
          let there : at < length es = omega (arith, ltb-true at (length os) e, length-outcomes_of ff_the (fresh s) es) in
          omega (arith, (within_bounds 1 count k (task_is_block at k there task)).1)
      number at k false e task =
          let past : Moved ≡ Task k = sym (get_or-eq_default os Moved (ltb-false at (length os) e)) ∙ task in
          let clash : ◌≡◌ {A = ℕ} 0 1 = cc in
          omega arith

      below : (at : ℕ) → get_or (map value_of os) at 0 < 4294967296
      below at = subst (λ n. n < 4294967296) (sym (get_or-map value_of os at Moved)) (value_below 4294967296 (get_or os at Moved) (omega arith) (λ k. number at k (ltb at (length os)) refl))
