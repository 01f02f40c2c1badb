-- Slots of a window of indices, which are apart: what stores to some of them leave in the others.
use mathlib.Core.Path.{◌≡◌, refl}
use mathlib.Core.List.{List, [], ◌∷◌, foldl}
use Prim.Native.Nat.{ℕ, ◌+◌, ◌≤◌, ◌<◌}
use native.Mathlib.Omega.{arith}
use borrow.Author.Tests.{ne_eqb}
use Rattle.stores.specs.Types.{Store, Slot}
use Rattle.stores.specs.Index.{slot_of}
use Rattle.stores.specs.StoreBuffer.{slot_after}
use Rattle.stores.proofs.Laws.Index.{idx, idx_slots_apart}
use Rattle.stores.proofs.Laws.Chain.{SlotsWithin, past_tail, past_client, between, slots_land}

-- a store to one index leaves what lies at another
pub slot_after_apart :
    (n lo i j x v : ℕ) → 1 ≤ lo → lo ≤ i → i < lo + n → lo ≤ j → j < lo + n → (i ≡ j → ⊥) → slot_after n (slot_of n (idx j)) v (Slot x (idx i)) ≡ v
slot_after_apart n lo i j x v some a b c d apart =
    rw (ne_eqb (slot_of n (idx i)) (slot_of n (idx j)) (λ same. apart (idx_slots_apart n lo i j some a b c d same)))

-- .. so the oldest of stores to indices above h, within the window that h begins, leaves what lies at h ..
pub slots_leave_one :
    {bound : ℕ} {a : Store} {b : List Store} (n h v : ℕ) → 1 ≤ h → bound ≤ h + n → SlotsWithin h bound (a ∷ b)
    → slot_after n (slot_of n (idx h)) v a.kind ≡ v
slots_leave_one n h v some window (past_tail r) = refl
slots_leave_one n h v some window (past_client r) = refl
slots_leave_one n h v some window (between k x above below r) =
    let apart : k ≡ h → ⊥ = λ same. omega arith in
    slot_after_apart n h k h x v some (omega arith) (omega arith) (omega arith) (omega arith) apart

-- .. and so do all of them
pub slots_leave :
    {bound : ℕ} (b : List Store) (n h v : ℕ) → 1 ≤ h → bound ≤ h + n → SlotsWithin h bound b
    → foldl (λ u a. slot_after n (slot_of n (idx h)) u a.kind) v b ≡ v
slots_leave [] n h v some window k = refl
slots_leave (a ∷ b) n h v some window k = rw (slots_leave_one n h v some window k) (slots_leave b n h v some window (slots_land k))
