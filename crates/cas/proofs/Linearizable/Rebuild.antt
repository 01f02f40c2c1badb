-- The invariant, rebuilt from what an entry changes: the worker's call, the pending stores by one more, or head.
use mathlib.Core.Path.{◌≡◌, refl, ap, sym, ◌∙◌}
use mathlib.Core.List.{List, [], ◌∷◌}
use Prim.Native.Nat.{ℕ, ◌+◌, ◌≤◌, ◌<◌}
use native.Mathlib.Nat.{le_refl}
use native.Mathlib.Omega.{arith}
use lib.ListN.{length}
use Rattle.stores.specs.Index.{slot_of}
use Rattle.stores.specs.StoreBuffer.{pending, push, slot_after, tail_store}
use Rattle.stores.proofs.Laws.Index.{idx, idx_same}
use Rattle.stores.proofs.Laws.Chain.{SlotsWithin, no_store, past_tail, slots_append}
use Rattle.stores.proofs.Laws.Pending.{Pending, behind, inside_cells}
use Rattle.stores.proofs.Laws.Spacing.{asked}
use Rattle.claim.specs.PlainQueue.{PlainQueue, StoredTask}
use Rattle.claim.proofs.Laws.Tasks.{Shows, shows_load, task_at}
use Rattle.cas.specs.Types.{Index, Machine, Spacing, Store, StoreBuffer, ThiefCall, StealLoadHead, StealLoadTail, StealLoadSlot, StealSwapHead, WorkerCall}
use Rattle.cas.specs.Machine.{memory_load, thief_call, worker_load}
use Rattle.cas.proofs.Laws.Loads.{pushed_worker_load}
use Rattle.cas.proofs.Linearizable.Invariant.{Agrees, AgreesOn, Aim, AimOf, Holds, Sound, Spaced, Sure, SureOf, TailState, filling, lowered, memory_of}

-- ── Thieves that have loaded head ───────────────────────────────────────────────────────────────────────────────────────────

-- head stands, and so does what they are sure of
pub sure_map : {A B : Type 0} {x y : ℕ} (head : Index) (c : ThiefCall) → SureOf head A x c → (A → B × (x ≡ y)) → SureOf head B y c
sure_map head ThiefCall.Idle s f = tt
sure_map head StealLoadHead s f = tt
sure_map head (StealLoadTail h) s f = tt
sure_map head (StealLoadSlot h) s f = λ here. (f (s here)).0
sure_map head (StealSwapHead z h) s f = λ here. ((f (s here).0).0, sym (f (s here).0).1 ∙ (s here).1)

-- .. also where other tasks stand, as long as the oldest is the same
pub sure_tasks :
    (now : Index) (head bound bare : ℕ) (stores : List Store) (l l' : List StoredTask) (c : ThiefCall)
    → (0 < length l → (0 < length l') × (task_at l 0 ≡ task_at l' 0))
    → SureOf now (Sure head bound bare stores l) (task_at l 0).number c → SureOf now (Sure head bound bare stores l') (task_at l' 0).number c
sure_tasks now head bound bare stores l l' c stays s =
    sure_map now c s
    (λ k.
    let first = ap (λ t. t.number) (stays k.some).1 in
    (record { some = (stays k.some).0; above = k.above; number = sym first ∙ k.number }, first))

-- Head is raised:

aim_raised : {start head most : ℕ} {h : Index} → Aim start head most h → Aim start (head + 1) most h
aim_raised a = record { at = a.at; is = a.is; floor = a.floor; reached = omega (arith, a.reached); top = a.top }

-- .. what they have loaded was head,
pub aim_of_raised : (start head : ℕ) (c : ThiefCall) → AimOf start head c → AimOf start (head + 1) c
aim_of_raised start head ThiefCall.Idle a = tt
aim_of_raised start head StealLoadHead a = tt
aim_of_raised start head (StealLoadTail h) a = aim_raised a
aim_of_raised start head (StealLoadSlot h) a = aim_raised a
aim_of_raised start head (StealSwapHead x h) a = aim_raised a

gone : {start head most : ℕ} {h now : Index} → Aim start head most h → now ≡ idx (head + 1) → h ≡ now → ⊥
gone {head = head} a raised here = let same = idx_same a.at (head + 1) (sym a.is ∙ here ∙ raised) in omega (arith, a.reached)

-- .. and nobody is sure of the new one
pub sure_raised : (start head : ℕ) {now : Index} (A : Type 0) (x : ℕ) → now ≡ idx (head + 1) → (c : ThiefCall) → AimOf start head c → SureOf now A x c
sure_raised start head A x raised ThiefCall.Idle a = tt
sure_raised start head A x raised StealLoadHead a = tt
sure_raised start head A x raised (StealLoadTail h) a = tt
sure_raised start head A x raised (StealLoadSlot h) a = λ here. absurd (gone a raised here)
sure_raised start head A x raised (StealSwapHead y h) a = λ here. absurd (gone a raised here)

-- ── The worker's entries, apart from a drain ────────────────────────────────────────────────────────────────────────────────

-- they leave alone the slots, memory's tail, and the thieves
abbrev pub after_worker : Machine → Index → StoreBuffer → Spacing → WorkerCall → Machine
after_worker m h b p c =
    record {
      sizes = m.sizes;
      slots = m.slots;
      head = h;
      tail = m.tail;
      buffer = b;
      spacing = p;
      worker = record { call = c };
      thieves = m.thieves;
    }

module _ {n : ℕ} {m : Machine} {c : WorkerCall} (v : Sound n m c) where
  -- a sound machine, from what an entry changes
  abbrev pub rebuilt :
      (b : StoreBuffer) (p : Spacing) (c' : WorkerCall) (buffer : Pending m.sizes (memory_of m) m.tail b)
      → TailState m.sizes.start v.head.saw buffer.seen c'
      → Spaced c' buffer.owed (asked p m.sizes.spacing) m.sizes.spacing
      → p.count ≤ n + 1
      → Sound (n + 1) (after_worker m m.head b p c') c'
  rebuilt b p c' buffer tail spaced counted =
      record {
        sizes = v.sizes;
        memory = v.memory;
        long = v.long;
        buffer = buffer;
        head = v.head;
        tail = tail;
        spaced = spaced;
        counted = counted;
        aims = v.aims;
      }

  -- .. where nothing changes but the call
  abbrev pub recalled :
      (c' : WorkerCall)
      → TailState m.sizes.start v.head.saw v.buffer.seen c'
      → Spaced c' v.buffer.owed (asked m.spacing m.sizes.spacing) m.sizes.spacing
      → Sound (n + 1) (after_worker m m.head m.buffer m.spacing c') c'
  recalled c' tail spaced = rebuilt m.buffer m.spacing c' v.buffer tail spaced (omega (arith, v.counted))

-- one entry more
abbrev pub later : {n : ℕ} {m : Machine} → Holds n m → Holds (n + 1) m
later v =
    record { sizes = v.sizes; memory = v.memory; long = v.long; buffer = v.buffer; head = v.head; tail = v.tail; spaced = v.spaced; counted = omega (arith, v.counted); aims = v.aims }

-- another call, with which the queue's tail is where it was
pub agrees_call :
    {m : Machine} {low low' fill fill' seen head bound : ℕ} {q : PlainQueue} {p : Spacing} {c : WorkerCall}
    → low ≡ low' → seen + low' + fill' ≤ head + m.sizes.slots → Agrees m low fill seen head bound q
    → Agrees (after_worker m m.head m.buffer p c) low' fill' seen head bound q
agrees_call same room a =
    record {
      enough = a.enough;
      count = omega (arith, a.count);
      sum = omega (arith, a.sum);
      room = room;
      below = a.below;
      shows = a.shows;
      sure = a.sure;
    }

-- ── A store more ────────────────────────────────────────────────────────────────────────────────────────────────────────────

module _ {n : ℕ} {m : Machine} {c : WorkerCall} (v : Sound n m c) (room : m.buffer.count < m.sizes.buffer) (a : Store) where
  -- the tasks are shown as before by a store that leaves their slots
  pub pushed_shows :
      (p : Spacing) (c' : WorkerCall) (l : List StoredTask)
      → ((k : ℕ) → k < length l
      → slot_after m.sizes.slots (slot_of m.sizes.slots (idx (v.head.at + k))) (worker_load m (idx (v.head.at + k))) a.kind ≡ worker_load m (idx (v.head.at + k)))
      → Shows (λ k. worker_load m (idx k)) v.head.at l
      → Shows (λ k. worker_load (after_worker m m.head (push a m.buffer) p c') (idx k)) v.head.at l
  pushed_shows p c' l leaves shows =
      shows_load (λ k. worker_load m (idx k)) v.head.at l shows (λ k. worker_load (after_worker m m.head (push a m.buffer) p c') (idx k))
      (λ k h. pushed_worker_load a m (inside_cells v.buffer v.sizes room) (idx (v.head.at + k)) ∙ leaves k h)

  -- a thief that is sure stays so after a store that is not to the slot of head
  pub pushed_sure :
      (q : PlainQueue) (higher : ℕ) → v.buffer.bound ≤ higher → (0 < length q.tasks → SlotsWithin v.head.at higher (a ∷ [])) → AgreesOn v q → (i : ℕ)
      → SureOf m.head (Sure v.head.at higher (memory_load m (idx v.head.at)) (pending (push a m.buffer)) q.tasks) (task_at q.tasks 0).number (thief_call m i)
  pushed_sure q higher raise link g i =
      sure_map m.head (thief_call m i) (g.sure i)
      (λ s. (
        record {
          some = s.some;
          above = rw (behind v.buffer v.sizes room a) (slots_append raise s.above (link s.some));
          number = s.number;
        },
        refl,
      ))

  -- so where the queue's tail stays, machine and plain queue agree as before
  pub pushed_agrees :
      {p : Spacing} {c' : WorkerCall} {low fill : ℕ} (q : PlainQueue) (u higher : ℕ)
      → u + low ≡ v.buffer.seen + lowered c → u + low + fill ≤ v.head.at + m.sizes.slots
      → v.buffer.bound ≤ higher → higher ≤ v.head.at + m.sizes.slots
      → ((k : ℕ) → k < length q.tasks
      → slot_after m.sizes.slots (slot_of m.sizes.slots (idx (v.head.at + k))) (worker_load m (idx (v.head.at + k))) a.kind ≡ worker_load m (idx (v.head.at + k)))
      → (0 < length q.tasks → SlotsWithin v.head.at higher (a ∷ []))
      → AgreesOn v q
      → Agrees (after_worker m m.head (push a m.buffer) p c') low fill u v.head.at higher q
  pushed_agrees {p = p} {c' = c'} q u higher same space raise below leaves link g =
      record {
        enough = g.enough;
        count = omega (arith, g.count);
        sum = omega (arith, g.sum);
        room = space;
        below = below;
        shows = pushed_shows p c' q.tasks leaves g.shows;
        sure = pushed_sure q higher raise link g;
      }

-- .. after a store to the tail, as of any take
pub tail_agrees :
    {n : ℕ} {m : Machine} {c : WorkerCall} (v : Sound n m c) → m.buffer.count < m.sizes.buffer → {p : Spacing} {c' : WorkerCall} (q : PlainQueue) (u : ℕ)
    → u + lowered c' ≡ v.buffer.seen + lowered c → filling c' ≡ 0 → AgreesOn v q
    → Agrees (after_worker m m.head (push (tail_store (idx u)) m.buffer) p c') (lowered c') (filling c') u v.head.at v.buffer.bound q
tail_agrees v room q u same still g =
    pushed_agrees v room (tail_store (idx u)) q u v.buffer.bound same (omega (arith, g.room)) (le_refl v.buffer.bound) g.below (λ k h. refl)
    (λ some. past_tail no_store) g
