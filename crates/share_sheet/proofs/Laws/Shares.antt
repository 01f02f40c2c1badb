-- Laws of what is noted of the blocks, entry by entry: at first nothing, with each entry more what its outcome gives, and at the end the shares.
use mathlib.Core.Path.{◌≡◌, refl, ap, sym, ◌∙◌, subst}
use mathlib.Core.Bool.{Bool, true, false, cond, ◌&&◌}
use mathlib.Core.List.{List, [], ◌∷◌, ◌++◌, append-nil, map}
use Prim.Native.Nat.{ℕ, zero, suc, ◌+◌, ◌-◌, ◌*◌, ◌≤◌, ◌<◌}
use native.Mathlib.Nat.{not-suc-le-zero}
use native.Mathlib.Numerals.{add-one}
use native.Mathlib.Omega.{arith}
use lib.Dec.{eqb}
use lib.ListN.{length, get_or, replicate, set}
use borrow.Author.Tests.{eq-eqb, eqb-false, eqb-true, le-leb, ne_eqb}
use Rattle.machine.specs.Linearizable.{ff_the}
use Rattle.terms.specs.Kinds.{party_number}
use Rattle.terms.specs.Lists.{concat_map, range, range_from}
use Rattle.terms.specs.Outcome.{number_of, value_of}
use Rattle.terms.specs.Sizes.{within}
use Rattle.terms.proofs.Laws.Sizes.{within_bounds}
use Rattle.terms.proofs.Laws.Sums.{concat_map-append, range_suc}
use Rattle.number.specs.Number.{overwritten, word_at}
use Rattle.number.proofs.Laws.Overwritten.{length_overwritten}
use Rattle.schedule.specs.Format.{all_below}
use Rattle.schedule.specs.Run.{outcomes_from}
use Rattle.schedule.specs.Trace.{trace_length, trace_of}
use Rattle.schedule.proofs.Laws.Run.{length-outcomes_from, line_there}
use Rattle.schedule.proofs.Laws.Trace.{length-trace_of, line_in_number, line_in_value}
use Rattle.share_sheet.specs.Types.{Drain, Entry, Moved, Outcome, Sizes}
use Rattle.share_sheet.specs.Filling.{GivenOnce, TraceOf, noted}
use Rattle.share_sheet.specs.Sheet.{Share, blocks, gives, share_by}

-- ── Something for each block ────────────────────────────────────────────────────────────────────────────────────────────────

-- one number for every block
map_constant : (v k n : ℕ) → map (λ b. v) (range_from k n) ≡ replicate n v
map_constant v k zero = refl
map_constant v k (suc n) = ap (λ l. v ∷ l) (map_constant v (suc k) n)

-- two functions that agree from a number on
map_same : (g h : ℕ → ℕ) (k n : ℕ) → ((b : ℕ) → k ≤ b → g b ≡ h b) → map g (range_from k n) ≡ map h (range_from k n)
map_same g h k zero same = refl
map_same g h k (suc n) same = λ i. same k (omega arith) i ∷ map_same g h (suc k) n (λ b above. same b (omega arith)) i

-- two functions that agree but for one number
map_but_one : (g h : ℕ → ℕ) (k n at : ℕ) → at < n → ((b : ℕ) → (b ≡ k + at → ⊥) → g b ≡ h b) → set (map g (range_from k n)) at (h (k + at)) ≡ map h (range_from k n)
map_but_one g h k zero at there same = absurd (not-suc-le-zero there)
map_but_one g h k (suc n) zero there same =
    let here : k + 0 ≡ k = omega arith in
    λ i. h (here i) ∷ map_same g h (suc k) n (λ b above. same b (λ is. omega arith)) i
map_but_one g h k (suc n) (suc at) there same =
    let further : k + suc at ≡ suc k + at = omega arith in
    λ i. same k (λ is. omega arith) i ∷ (ap (λ x. set (map g (range_from (suc k) n)) at (h x)) further ∙ map_but_one g h (suc k) n at (omega arith) (λ b other. same b (λ is. other (is ∙ further)))) i

-- ── Entry by entry ──────────────────────────────────────────────────────────────────────────────────────────────────────────

module _ (es : List Entry) (os : List Outcome) where
  -- of the first so many entries, those that answered TASK with the block; and what these say of it

  abbrev pub giving_up_to : ℕ → ℕ → List ℕ
  giving_up_to n block = concat_map (λ at. cond (gives block (get_or os at Moved)) (at ∷ []) []) (range n)

  abbrev pub share_then : ℕ → ℕ → Share
  share_then at b = share_by es (giving_up_to at b)

  -- an entry more, which gives the block or does not
  giving_more : (at b : ℕ) → giving_up_to (at + 1) b ≡ giving_up_to at b ++ cond (gives b (get_or os at Moved)) (at ∷ []) []
  giving_more at b =
      let places : ℕ → List ℕ = λ i. cond (gives b (get_or os i Moved)) (i ∷ []) [] in
      ap (concat_map places) (range_suc at) ∙ concat_map-append places (range at) (at ∷ []) ∙ ap (λ l. giving_up_to at b ++ l) (append-nil (places at))

  -- one that does not changes nothing
  giving_same : (at b : ℕ) → gives b (get_or os at Moved) ≡ false → giving_up_to (at + 1) b ≡ giving_up_to at b
  giving_same at b other = giving_more at b ∙ ap (λ t. giving_up_to at b ++ cond t (at ∷ []) []) other ∙ append-nil (giving_up_to at b)

  -- where none did, there is none
  giving_none : (n b : ℕ) → ((i : ℕ) → i < n → gives b (get_or os i Moved) ≡ false) → giving_up_to n b ≡ []
  giving_none zero b none = refl
  giving_none (suc n) b none = rw add-one at (giving_same n b (none n (omega arith)) ∙ giving_none n b (λ i below. none i (omega arith)))

  -- where two lists one behind the other are empty, each is
  both_none : (l m : List ℕ) → l ++ m ≡ [] → (l ≡ []) × (m ≡ [])
  both_none [] m e = (refl, e)
  both_none (x ∷ l) m e = absurd (let clash : ◌≡◌ {A = ℕ} 0 1 = cc in omega arith)

  -- where there is none, none did
  pub none_giving : (n b : ℕ) → giving_up_to n b ≡ [] → (i : ℕ) → i < n → gives b (get_or os i Moved) ≡ true → ⊥
  none_giving zero b none i below here = not-suc-le-zero below
  none_giving (suc n) b none i below here = go (eqb i n) refl (λ earlier. none_giving n b parts.0 i earlier here)
    where
      parts : (giving_up_to n b ≡ []) × (cond (gives b (get_or os n Moved)) (n ∷ []) [] ≡ [])
      parts = both_none (giving_up_to n b) (cond (gives b (get_or os n Moved)) (n ∷ []) []) (sym (giving_more n b) ∙ ap (λ k. giving_up_to k b) (add-one n) ∙ none)

      last : gives b (get_or os n Moved) ≡ true → ⊥
      last it = let one = ap (λ t. cond t (n ∷ []) []) (sym it) ∙ parts.1 in let clash : ◌≡◌ {A = ℕ} 0 1 = cc in omega arith

      go : (t : Bool) → eqb i n ≡ t → (i < n → ⊥) → ⊥
      go true p before = last (ap (λ k. gives b (get_or os k Moved)) (sym (eqb-true i n p)) ∙ here)
      go false p before = before (let other = eqb-false i n p in omega arith)

  -- the first that did, did
  pub first_giving : (n b at : ℕ) (l : List ℕ) → giving_up_to n b ≡ at ∷ l → (at < n) × (gives b (get_or os at Moved) ≡ true)
  first_giving zero b at l e = absurd (let clash : ◌≡◌ {A = ℕ} 0 1 = cc in omega arith)
  first_giving (suc n) b at l e =
      go (giving_up_to n b) refl (gives b (get_or os n Moved)) refl (λ m. first_giving n b at m) (sym (giving_more n b) ∙ ap (λ k. giving_up_to k b) (add-one n) ∙ e)
    where
      go : (m : List ℕ) → giving_up_to n b ≡ m → (t : Bool) → gives b (get_or os n Moved) ≡ t
          → ((m : List ℕ) → giving_up_to n b ≡ at ∷ m → (at < n) × (gives b (get_or os at Moved) ≡ true))
          → giving_up_to n b ++ cond (gives b (get_or os n Moved)) (n ∷ []) [] ≡ at ∷ l
          → (at < suc n) × (gives b (get_or os at Moved) ≡ true)
      go [] before true here earlier is =
          let all : n ∷ [] ≡ at ∷ l = (λ i. sym before i ++ cond (sym here i) (n ∷ []) []) ∙ is in
          let same : n ≡ at = cc in
          (omega arith, ap (λ k. gives b (get_or os k Moved)) (sym same) ∙ here)
      go [] before false other earlier is =
          let all : [] ≡ at ∷ l = (λ i. sym before i ++ cond (sym other i) (n ∷ []) []) ∙ is in
          absurd (let clash : ◌≡◌ {A = ℕ} 0 1 = cc in omega arith)
      go (k ∷ m) before t here earlier is =
          let all : k ∷ (m ++ cond (gives b (get_or os n Moved)) (n ∷ []) []) ≡ at ∷ l = ap (λ m. m ++ cond (gives b (get_or os n Moved)) (n ∷ []) []) (sym before) ∙ is in
          let same : k ≡ at = cc in
          let found = earlier m (before ∙ ap (λ j. j ∷ m) same) in
          (omega (arith, found.0), found.1)

  module _ (count : ℕ) (once : GivenOnce count os) where
    -- one that does is the only one
    pub share_given : (at b : ℕ) → at < length os → gives b (get_or os at Moved) ≡ true → share_then (at + 1) b ≡ record { party = party_number (get_or es at Drain); entry = at }
    share_given at b there here =
        ap (share_by es) (giving_more at b ∙ (λ i. giving_none at b earlier i ++ cond (here i) (at ∷ []) []))
      where
        earlier : (i : ℕ) → i < at → gives b (get_or os i Moved) ≡ false
        earlier i below = go (gives b (get_or os i Moved)) refl
          where
            go : (t : Bool) → gives b (get_or os i Moved) ≡ t → t ≡ false
            go true too = absurd (let same = once.once i at b (omega arith) there too here in omega arith)
            go false other = refl

    -- a list with something of each block's share, and what it becomes with an entry more
    module _ (f : Share → ℕ) (at : ℕ) (there : at < length os) where
      abbrev o : Outcome
      o = get_or os at Moved

      abbrev here : Share
      here = record { party = party_number (get_or es at Drain); entry = at }

      pub noted_more : noted (number_of o) (value_of o) (f here) (map (λ b. f (share_then at b)) (blocks count)) ≡ map (λ b. f (share_then (at + 1) b)) (blocks count)
      noted_more = go (eqb (number_of o) 17) refl
        where
          go : (task : Bool) → eqb (number_of o) 17 ≡ task
              → cond task (set (map (λ b. f (share_then at b)) (blocks count)) (value_of o - 1) (f here)) (map (λ b. f (share_then at b)) (blocks count)) ≡ map (λ b. f (share_then (at + 1) b)) (blocks count)
          go true task =
              let gave : gives (value_of o) o ≡ true = λ i. task i && eq-eqb (value_of o) (value_of o) refl i in
              let inside = within_bounds 1 count (value_of o) (once.block at (value_of o) there gave) in
              let place : 1 + (value_of o - 1) ≡ value_of o = omega (arith, inside.0) in
              ap (set (map (λ b. f (share_then at b)) (blocks count)) (value_of o - 1)) (sym (ap f (ap (share_then (at + 1)) place ∙ share_given at (value_of o) there gave)))
              ∙ map_but_one (λ b. f (share_then at b)) (λ b. f (share_then (at + 1) b)) 1 count (value_of o - 1) (omega (arith, inside.0, inside.1))
              (λ b other. sym (ap (λ l. f (share_by es l)) (giving_same at b (λ i. task i && ne_eqb (value_of o) b (λ same. other (sym same ∙ sym place)) i))))
          go false task =
              map_same (λ b. f (share_then at b)) (λ b. f (share_then (at + 1) b)) 1 count
              (λ b above. sym (ap (λ l. f (share_by es l)) (giving_same at b (ap (λ t. t && eqb (value_of o) b) task))))

  -- at first, nothing is given
  pub parties_none : (count : ℕ) → map (λ b. (share_then 0 b).party) (blocks count) ≡ replicate count 255
  parties_none count = map_constant 255 1 count

  pub entries_none : (count : ℕ) → map (λ b. (share_then 0 b).entry) (blocks count) ≡ replicate count 0
  entries_none count = map_constant 0 1 count

-- blocks that are given once, of so many, are so of more
pub given_wider : (count more : ℕ) (os : List Outcome) → count ≤ more → GivenOnce count os → GivenOnce more os
given_wider count more os wider once =
    record {
      block = λ at x there gave.
          let inside = within_bounds 1 count x (once.block at x there gave) in
          λ i. le-leb 1 x inside.0 i && le-leb x more (omega (arith, inside.1)) i;
      once = once.once;
    }

-- ── What is read of an entry ────────────────────────────────────────────────────────────────────────────────────────────────

module _ (s : Sizes) (kinds operands trace : List ℕ) (is : TraceOf (length kinds) (outcomes_from s kinds operands) trace) (at : ℕ) (there : at < length kinds) where
  abbrev here_read : Outcome
  here_read = get_or (outcomes_from s kinds operands) at Moved

  -- the number and the value of its outcome
  pub number_read : get_or trace (4 + at) 0 ≡ number_of here_read
  number_read = sym (line_in_number (length kinds) trace at there) ∙ ap (λ l. l.number) (is.lines at there)

  pub value_read : word_at trace (4 + length kinds + 4 * at) ≡ value_of here_read
  value_read = sym (line_in_value (length kinds) trace at there is.long) ∙ ap (λ l. l.value) (is.lines at there)

  -- of a TASK, the value is a block
  pub block_read : (count number value : ℕ) → GivenOnce count (outcomes_from s kinds operands) → number ≡ number_of here_read → value ≡ value_of here_read → number ≡ 17
      → within 1 count value ≡ true
  block_read count number value once told block task =
      subst (λ v. within 1 count v ≡ true) (sym block)
      (once.block at (value_of here_read) (omega (arith, length-outcomes_from ff_the s kinds operands))
      (λ i. eq-eqb (number_of here_read) 17 (sym told ∙ task) i && eq-eqb (value_of here_read) (value_of here_read) refl i))

-- the trace of a run, written over a buffer that has room for it
pub trace_of_lem : (s : Sizes) (kinds operands l : List ℕ) → all_below 4294967296 (map value_of (outcomes_from s kinds operands)) ≡ true → trace_length (length kinds) ≤ length l
    → TraceOf (length kinds) (outcomes_from s kinds operands) (overwritten 0 (trace_of (outcomes_from s kinds operands)) l)
trace_of_lem s kinds operands l fit room =
    let os = outcomes_from s kinds operands in
    let long = length_overwritten 0 (trace_of os) l (omega (arith, length-trace_of os, length-outcomes_from ff_the s kinds operands)) in
    record { long = subst (λ n. trace_length (length kinds) ≤ n) (sym long) room; lines = λ at there. line_there ff_the s kinds operands l fit at there }
