-- The plain queue's replies, one for each way that a call can end; and its tasks, as the slots show them from an index on.
use mathlib.Core.Path.{◌≡◌, refl, ap, sym, ◌∙◌, subst}
use mathlib.Core.Bool.{Bool, true, false, cond}
use mathlib.Core.List.{List, [], ◌∷◌, ◌++◌, map}
use Prim.Native.Nat.{ℕ, suc, ◌+◌, ◌-◌, ◌<◌}
use native.Mathlib.Omega.{arith}
use lib.Dec.{ltb}
use lib.ListN.{get_or, length, take, drop, get_or-append, length-append, length-drop, length-take}
use lib.Seq.{drop-cons, drop-length, get_or-append_seam, get_or-drop, get_or-take}
use borrow.Author.Tests.{eq-eqb, ltb-false, ltb-true, ne_eqb}
use Rattle.terms.specs.Lists.{range_from, range}
use Rattle.claim.specs.PlainQueue.{told_put, told_take, told_steal, PlainQueue, Reply, StoredTask, joined, leaves, newest, respond, unchanged, without_newest}
use Rattle.claim.specs.Types.{Task, Empty, Abort, Full, End}

-- the task at a place of a list; beyond the list any will do
abbrev pub task_at : List StoredTask → ℕ → StoredTask
task_at l k = get_or l k (record { put = 0; number = 0 })

-- from index lo on, the loads are the tasks' numbers
abbrev pub Shows : (ℕ → ℕ) → ℕ → List StoredTask → Type 0
Shows load lo l = (k : ℕ) → k < length l → (task_at l k).number ≡ load (lo + k)

-- ── Replies ─────────────────────────────────────────────────────────────────────────────────────────────────────────────────

-- the newest task is the last of the list
newest_last : (l : List StoredTask) → 0 < length l → task_at l (length l - 1) ∷ [] ≡ newest l
newest_last l some =
    let past : suc (length l - 1) ≡ length l = omega arith in
    sym (drop-cons l (length l - 1) (record { put = 0; number = 0 }) (omega arith)
    ∙ ap (λ r. task_at l (length l - 1) ∷ r) (ap (λ k. drop k l) past ∙ drop-length l))

pub oldest_first : (l : List StoredTask) → 0 < length l → task_at l 0 ∷ [] ≡ take 1 l
oldest_first [] some = absurd (omega arith)
oldest_first (t ∷ l) some = refl

none_stands : (l : List StoredTask) → length l ≡ 0 → [] ≡ l
none_stands [] none = refl
none_stands (t ∷ l) none = absurd (omega arith)

module _ (q : PlainQueue) where
  abbrev pub gives : StoredTask → PlainQueue → Reply
  gives t after = record { queue = after; answer = Task t.number; given = t ∷ [] }

  abbrev pub after_take : Bool → PlainQueue
  after_take swapped = record { tasks = without_newest q.tasks; sum = cond swapped q.sum (q.sum - 1); stored = q.stored }

  abbrev pub after_steal : PlainQueue
  after_steal = record { tasks = drop 1 q.tasks; sum = q.sum; stored = q.stored }

  pub replies_end : (x : ℕ) (full : Bool) → q.sum ≡ 2147483647 → unchanged q End ≡ respond q (told_put x full)
  replies_end x full e = rw (eq-eqb q.sum 2147483647 e)

  pub replies_full : (x : ℕ) → (q.sum ≡ 2147483647 → ⊥) → unchanged q Full ≡ respond q (told_put x true)
  replies_full x e = rw (ne_eqb q.sum 2147483647 e)

  pub replies_stored : (x : ℕ) → (q.sum ≡ 2147483647 → ⊥) → joined x q ≡ respond q (told_put x false)
  replies_stored x e = rw (ne_eqb q.sum 2147483647 e)

  pub replies_taken : (swapped : Bool) → 0 < length q.tasks → gives (task_at q.tasks (length q.tasks - 1)) (after_take swapped) ≡ respond q (told_take swapped)
  replies_taken swapped some = ap (λ l. leaves l (after_take swapped) q Empty) (newest_last q.tasks some)

  pub replies_empty : (swapped : Bool) → length q.tasks ≡ 0 → unchanged q Empty ≡ respond q (told_take swapped)
  replies_empty swapped none = ap (λ l. leaves (newest l) (after_take swapped) q Empty) (none_stands q.tasks none)

  pub replies_stolen : 0 < length q.tasks → gives (task_at q.tasks 0) after_steal ≡ respond q (told_steal false)
  replies_stolen some = ap (λ l. leaves l after_steal q Abort) (oldest_first q.tasks some)

-- ── Tasks in the slots ──────────────────────────────────────────────────────────────────────────────────────────────────────

module _ (load : ℕ → ℕ) (lo : ℕ) (l : List StoredTask) (shows : Shows load lo l) where
  pub shows_as : (from : ℕ) → lo ≡ from → Shows load from l
  shows_as from same = subst (λ j. Shows load j l) same shows

  -- .. after loads that are equal there
  pub shows_load : (other : ℕ → ℕ) → ((k : ℕ) → k < length l → other (lo + k) ≡ load (lo + k)) → Shows other lo l
  shows_load other same k h = shows k h ∙ sym (same k h)

  -- .. with a task more, at the end
  pub shows_joined : (t : StoredTask) → t.number ≡ load (lo + length l) → Shows load lo (l ++ (t ∷ []))
  shows_joined t here k h = go (ltb k (length l)) refl
    where
      go : (b : Bool) → ltb k (length l) ≡ b → (task_at (l ++ (t ∷ [])) k).number ≡ load (lo + k)
      go true e = ap (λ a. a.number) (get_or-append l (t ∷ []) (record { put = 0; number = 0 }) k (ltb-true k (length l) e)) ∙ shows k (ltb-true k (length l) e)
      go false e =
          let last : k ≡ length l = omega (arith, ltb-false k (length l) e, simp length-append at h) in
          ap (λ j. (task_at (l ++ (t ∷ [])) j).number) last
          ∙ ap (λ a. a.number) (get_or-append_seam l t [] (record { put = 0; number = 0 }))
          ∙ here ∙ ap (λ j. load (lo + j)) (sym last)

  -- .. without the newest
  pub shows_taken : Shows load lo (without_newest l)
  shows_taken k h =
      let within : k < length l - 1 = omega (arith, simp length-take at h) in
      ap (λ a. a.number) (get_or-take (length l - 1) l k (record { put = 0; number = 0 }) within) ∙ shows k (omega arith)

  -- .. without the oldest
  pub shows_stolen : Shows load (lo + 1) (drop 1 l)
  shows_stolen k h =
      let within : 1 + k < length l = omega (arith, simp length-drop at h) in
      ap (λ a. a.number) (get_or-drop 1 l k (record { put = 0; number = 0 })) ∙ shows (1 + k) within ∙ ap load (omega arith)

-- .. as a list
shows_from : (load : ℕ → ℕ) (j : ℕ) (l : List StoredTask) → Shows load j l → map (λ t. t.number) l ≡ map load (range_from j (length l))
shows_from load j [] shows = refl
shows_from load j (t ∷ l) shows =
    let first : j + 0 ≡ j = omega arith in
    λ i.
    (shows 0 (omega arith) ∙ ap load first) i
    ∷ shows_from load (suc j) l (λ k h. shows (suc k) (omega arith) ∙ ap load (sym (further k))) i
  where
    further : (k : ℕ) → suc j + k ≡ j + suc k
    further k = omega arith

pub shows_list : (load : ℕ → ℕ) (lo : ℕ) (l : List StoredTask) → Shows load lo l → map (λ t. t.number) l ≡ map (λ k. load (lo + k)) (range (length l))
shows_list load lo l shows = shows_from (λ k. load (lo + k)) 0 l (λ k h. shows k h ∙ ap (λ i. load (lo + i)) (zeroth k))
  where
    zeroth : (k : ℕ) → k ≡ 0 + k
    zeroth k = omega arith
