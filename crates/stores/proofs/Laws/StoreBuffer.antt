-- Laws of the store buffer: what push and drain do to the pending list, and to what the worker loads. They ask only that the pending
-- stores lie within the array, and know nothing of the queue's calls.
use mathlib.Core.Path.{◌≡◌, refl, ap, sym, ◌∙◌}
use mathlib.Core.Bool.{Bool, true, false, false≢true, cond, ◌&&◌}
use mathlib.Core.List.{List, [], ◌∷◌, ◌++◌, foldl, foldl-append}
use Prim.Native.Nat.{ℕ, suc, ◌+◌, ◌-◌, ◌≤◌, ◌<◌, zero-le}
use native.Mathlib.Nat.{add-zero}
use native.Mathlib.Numerals.{add-one}
use native.Mathlib.Omega.{arith}
use lib.ListN.{length, get_or, drop, length-drop, length-set, length-take}
use lib.Seq.{take_at, take-suc-set}
use borrow.Author.Tests.{le-ltb, lt-leb}
use Rattle.std.specs.Prelude.{is_some}
use Rattle.terms.specs.Lists.{all}
use Rattle.terms.proofs.Laws.Tests.{and_left, and_right, by_test}
use Rattle.terms.proofs.Laws.Lists.{&&-true, all_snoc, get_d_set, take_first}
use Rattle.stores.specs.Types.{Index, Option, Maker, StoreKind, None, Some, Scan, Store, StoreBuffer, Client, Tail, Slot}
use Rattle.stores.specs.Index.{index_in_range, slot_of}
use Rattle.stores.specs.StoreBuffer.{client_store, drop_oldest, drop_oldest_or_same, lowers_tail, newest_in_slot, newest_tail, oldest, pending, push, push_in_range, push_lowers_tail, push_or_same, pushed_in, pushed_or_same, scan, scanned, slot_after, slots_after, store_in_range, tail_after, take_stores}

-- the store that a step makes, if it makes one, has a place behind n stores, where there are so many
abbrev pub PushFits : ℕ → Option (Maker × StoreKind) → ℕ → Type 0
PushFits places None n = Unit {0}
PushFits places (Some (w, k)) n = n < places

pub fits_more : {places more : ℕ} (p : Option (Maker × StoreKind)) (n : ℕ) → places ≤ more → PushFits places p n → PushFits more p n
fits_more None n most fits = tt
fits_more (Some (w, k)) n most fits = omega arith

-- with it there are no more than places
pub pushed_count : {places : ℕ} (p : Option (Maker × StoreKind)) (b : StoreBuffer) → b.count ≤ places → PushFits places p b.count → (pushed_in p b).count ≤ places
pushed_count None b few fits = few
pushed_count (Some (w, k)) b few fits = omega arith

-- ── The pending list ────────────────────────────────────────────────────────────────────────────────────────────────────────

-- a pushed store is the newest
pub push_pending : (s : Store) (b : StoreBuffer) → b.count < length b.stores → pending (push s b) ≡ pending b ++ (s ∷ [])
push_pending s b room = rw add-one (take-suc-set b.stores b.count s room)

module _ (b : StoreBuffer) (some : 0 < b.count) (within : b.count ≤ length b.stores) where
  -- the oldest store is the first of the list
  pub pending_oldest : pending b ≡ oldest b ∷ drop 1 (pending b)
  pending_oldest = take_first b.count b.stores client_store some (omega arith)

  -- dropping it leaves the others
  pub drop_oldest_pending : pending (drop_oldest b) ≡ drop 1 (pending b)
  drop_oldest_pending = take_at (drop 1 (pending b)) _ (b.count - 1) (simp (length-drop, length-take) (omega arith))

  -- so the list is the oldest store and the others
  pub pending_dropped : pending b ≡ oldest b ∷ pending (drop_oldest b)
  pending_dropped = pending_oldest ∙ ap (λ l. oldest b ∷ l) (sym drop_oldest_pending)

-- both where the buffer has a cell for them

pub push_free : (s : Store) (b : StoreBuffer) → b.count < 64 → push_or_same s b ≡ push s b
push_free s b free = by_test _ _ (lt-leb 64 b.count free)

pub drop_oldest_some : (b : StoreBuffer) → 0 < b.count → b.count ≤ 64 → drop_oldest_or_same b ≡ drop_oldest b
drop_oldest_some b some fits = rw (le-ltb b.count 1 some, le-ltb 64 b.count fits)

-- an entry that does not make a store makes none
pub nothing_made : (p : Option (Maker × StoreKind)) → is_some p ≡ false → None ≡ p
nothing_made None none = refl
nothing_made (Some made) none = absurd (false≢true (sym none))

pub pushed_free : (p : Option (Maker × StoreKind)) (b : StoreBuffer) → PushFits 64 p b.count → pushed_or_same p b ≡ pushed_in p b
pushed_free None b free = refl
pushed_free (Some (w, k)) b free = push_free (record { kind = k }) b free

-- ── What is found by going through it, from the oldest to the newest ────────────────────────────────────────────────────────

module _ {A : Type 0} (f : A → Store → A) (v : A) where
  -- a pushed store comes last
  pub push_foldl : (s : Store) (b : StoreBuffer) → b.count < length b.stores → foldl f v (pending (push s b)) ≡ f (foldl f v (pending b)) s
  push_foldl s b room = ap (foldl f v) (push_pending s b room) ∙ foldl-append f v (pending b) (s ∷ [])

  -- the oldest comes first
  pub drop_oldest_foldl : (b : StoreBuffer) → 0 < b.count → b.count ≤ length b.stores → foldl f (f v (oldest b)) (pending (drop_oldest b)) ≡ foldl f v (pending b)
  drop_oldest_foldl b some within =
      ap (foldl f (f v (oldest b))) (drop_oldest_pending b some within) ∙ sym (ap (foldl f v) (pending_oldest b some within))

-- ── What the worker loads ───────────────────────────────────────────────────────────────────────────────────────────────────

-- after a push: the pushed value, if the store is to the place

pub push_newest_tail : (t : Index) (s : Store) (b : StoreBuffer) → b.count < length b.stores → newest_tail t (push s b) ≡ tail_after (newest_tail t b) s.kind
push_newest_tail t s b room = push_foldl (λ u s. tail_after u s.kind) t s b room

pub push_newest_in_slot : (n k v : ℕ) (s : Store) (b : StoreBuffer) → b.count < length b.stores → newest_in_slot n k v (push s b) ≡ slot_after n k (newest_in_slot n k v b) s.kind
push_newest_in_slot n k v s b room = push_foldl (λ u s. slot_after n k u s.kind) v s b room

-- a store that reaches memory leaves it as long as it was
pub slots_after-length : (n : ℕ) (slots : List ℕ) (s : StoreKind) → length (slots_after n slots s) ≡ length slots
slots_after-length n slots Client = refl
slots_after-length n slots (Tail u) = refl
slots_after-length n slots (Slot x i) = length-set slots (slot_of n i) x

-- what memory's slot k holds once a store has reached it
pub slots_after-slot_after : (n k : ℕ) (slots : List ℕ) (s : StoreKind) → k < length slots → get_or (slots_after n slots s) k 0 ≡ slot_after n k (get_or slots k 0) s
slots_after-slot_after n k slots Client there = refl
slots_after-slot_after n k slots (Tail u) there = refl
slots_after-slot_after n k slots (Slot x i) there = get_d_set slots (slot_of n i) k x 0 there

-- a drain changes nothing that the worker loads

module _ (b : StoreBuffer) (some : 0 < b.count) (within : b.count ≤ length b.stores) where
  pub drain_newest_tail : (t : Index) → newest_tail (tail_after t (oldest b).kind) (drop_oldest b) ≡ newest_tail t b
  drain_newest_tail t = drop_oldest_foldl (λ u s. tail_after u s.kind) t b some within

  pub drain_newest_in_slot : (n k : ℕ) (slots : List ℕ) → k < length slots → newest_in_slot n k (get_or (slots_after n slots (oldest b).kind) k 0) (drop_oldest b) ≡ newest_in_slot n k (get_or slots k 0) b
  drain_newest_in_slot n k slots there =
      ap (λ v. newest_in_slot n k v (drop_oldest b)) (slots_after-slot_after n k slots (oldest b).kind there)
      ∙ drop_oldest_foldl (λ u s. slot_after n k u s.kind) (get_or slots k 0) b some within

-- ── What a store leaves alone, by its kind ──────────────────────────────────────────────────────────────────────────────────

-- a slot store the tail
pub slot_store_leaves : (t : Index) (k : StoreKind) {x : ℕ} {i : Index} → k ≡ Slot x i → t ≡ tail_after t k
slot_store_leaves t k is = sym (ap (tail_after t) is)

-- any other the slots
pub other_store_leaves : (n : ℕ) (slots : List ℕ) (k : StoreKind) → ((x : ℕ) (i : Index) → k ≡ Slot x i → ⊥) → slots ≡ slots_after n slots k
other_store_leaves n slots Client other = refl
other_store_leaves n slots (Tail u) other = refl
other_store_leaves n slots (Slot x i) other = absurd (other x i refl)

-- ── What one pass finds ─────────────────────────────────────────────────────────────────────────────────────────────────────

-- take stores, with one store more behind them
take_stores_snoc : (t : Index) (l : List Store) (s : Store)
    → take_stores t (l ++ (s ∷ [])) ≡ cond (lowers_tail (foldl (λ u s. tail_after u s.kind) t l) s.kind) (take_stores t l + 1) (take_stores t l)
take_stores_snoc t [] s = add-zero (cond (lowers_tail t s.kind) 1 0)
take_stores_snoc t (a ∷ l) s =
    go (lowers_tail t a.kind) (lowers_tail (foldl (λ u s. tail_after u s.kind) (tail_after t a.kind) l) s.kind) _ _ (take_stores_snoc (tail_after t a.kind) l s)
  where
    go : (low last : Bool) (m n : ℕ) → m ≡ cond last (n + 1) n → cond low 1 0 + m ≡ cond last (cond low 1 0 + n + 1) (cond low 1 0 + n)
    go low true m n same = omega arith
    go low false m n same = omega arith

-- they are no more than there are stores
pub take_stores_most : (t : Index) (l : List Store) → take_stores t l ≤ length l
take_stores_most t [] = zero-le
take_stores_most t (a ∷ l) = go (lowers_tail t a.kind) (take_stores_most (tail_after t a.kind) l)
  where
    go : (low : Bool) {n m : ℕ} → n ≤ m → cond low 1 0 + n ≤ suc m
    go true few = omega arith
    go false few = omega arith

-- what is found in a list of stores
abbrev pub scan_of : Index → List Store → Scan
scan_of t l = record { ranged = all (λ s. store_in_range s.kind) l; tail = foldl (λ u s. tail_after u s.kind) t l; takes = take_stores t l }

-- .. with one store more
pub scan_of_snoc : (t : Index) (l : List Store) (s : Store) → scan_of t (l ++ (s ∷ [])) ≡ scanned (scan_of t l) s.kind
scan_of_snoc t l s =
    let ranged = all_snoc (λ s. store_in_range s.kind) l s in
    let tail = foldl-append (λ u s. tail_after u s.kind) t l (s ∷ []) in
    let takes = take_stores_snoc t l s in
    λ i. record { ranged = ranged i; tail = tail i; takes = takes i }

-- after the store that an entry makes, if it makes one: it stands behind the others

module _ (t : Index) (b : StoreBuffer) where
  push_scan : (s : Store) → b.count < length b.stores → scan t (push s b) ≡ scanned (scan t b) s.kind
  push_scan s room = ap (scan_of t) (push_pending s b room) ∙ scan_of_snoc t (pending b) s

  module _ (long : length b.stores ≡ 64) where
    pub pushed_ranged : (p : Option (Maker × StoreKind)) → PushFits 64 p b.count → (scan t (pushed_in p b)).ranged ≡ ((scan t b).ranged && push_in_range p)
    pushed_ranged None fits = sym (&&-true (scan t b).ranged)
    pushed_ranged (Some (w, k)) fits = ap (λ f. f.ranged) (push_scan (record { kind = k }) (omega arith))

    pub pushed_takes : (p : Option (Maker × StoreKind)) → PushFits 64 p b.count
        → (scan t (pushed_in p b)).takes ≡ cond (push_lowers_tail (newest_tail t b) p) ((scan t b).takes + 1) (scan t b).takes
    pushed_takes None fits = refl
    pushed_takes (Some (w, k)) fits = ap (λ f. f.takes) (push_scan (record { kind = k }) (omega arith))

-- after a drain: the oldest is one less, if it lowers memory's tail
pub drain_takes : (t : Index) (b : StoreBuffer) → 0 < b.count → b.count ≤ length b.stores
    → (scan t b).takes ≡ cond (lowers_tail t (oldest b).kind) 1 0 + (scan (tail_after t (oldest b).kind) (drop_oldest b)).takes
drain_takes t b some within = ap (take_stores t) (pending_dropped b some within)

-- ── In range ────────────────────────────────────────────────────────────────────────────────────────────────────────────────

-- a store in range leaves a tail in range ..
pub tail_after_in_range : (t : Index) (k : StoreKind) → index_in_range t ≡ true → store_in_range k ≡ true → index_in_range (tail_after t k) ≡ true
tail_after_in_range t Client p q = p
tail_after_in_range t (Tail u) p q = q
tail_after_in_range t (Slot x i) p q = p

-- .. and so do several
foldl_tail : (l : List Store) (t : Index) → index_in_range t ≡ true → all (λ s. store_in_range s.kind) l ≡ true → index_in_range (foldl (λ u s. tail_after u s.kind) t l) ≡ true
foldl_tail [] t p q = p
foldl_tail (s ∷ l) t p q =
    foldl_tail l (tail_after t s.kind)
    (tail_after_in_range t s.kind p (and_left (store_in_range s.kind) (all (λ s. store_in_range s.kind) l) q))
    (and_right (store_in_range s.kind) (all (λ s. store_in_range s.kind) l) q)

-- .. so that the worker's tail is in range
pub newest_tail_in_range : (b : StoreBuffer) (t : Index) → index_in_range t ≡ true → all (λ s. store_in_range s.kind) (pending b) ≡ true → index_in_range (newest_tail t b) ≡ true
newest_tail_in_range b t p q = foldl_tail (pending b) t p q
