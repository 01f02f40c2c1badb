-- The invariant, rebuilt from what an entry of the worker's changes: the call, the lock, or the pending stores by one more.
use mathlib.Core.Path.{◌≡◌, refl, ap, sym, ◌∙◌, subst}
use mathlib.Core.Bool.{true, false}
use mathlib.Core.List.{List, [], ◌∷◌, foldl, foldl-append}
use Prim.Native.Nat.{ℕ, ◌+◌, ◌≤◌, ◌<◌}
use native.Mathlib.Nat.{le_refl}
use native.Mathlib.Omega.{arith}
use lib.ListN.{get_or, length}
use Rattle.terms.specs.Outcome.{is_answer, is_refusal}
use Rattle.stores.specs.Index.{slot_of}
use Rattle.stores.specs.StoreBuffer.{pending, push, slot_after, slots_after, tail_store}
use Rattle.stores.proofs.Laws.Index.{idx, slot_of_below}
use Rattle.stores.proofs.Laws.StoreBuffer.{slots_after-length, slots_after-slot_after}
use Rattle.stores.proofs.Laws.Chain.{Chain, SlotsWithin, no_store, past_tail, slots_append}
use Rattle.stores.proofs.Laws.Pending.{Pending, behind, inside_cells, raising, storing_tail, unlanded}
use Rattle.stores.proofs.Laws.Spacing.{asked}
use Rattle.claim.specs.PlainQueue.{Told, PlainQueue, StoredTask}
use Rattle.claim.specs.Calls.{Effect}
use Rattle.claim.proofs.Turn.{refuses, told_in}
use Rattle.machine.specs.Types.{Done, Spacing, Entry, Lock, Machine, Outcome, Store, StoreBuffer, ThiefCall, WorkerCall}
use Rattle.machine.specs.Machine.{done, memory_load, worker_load}
use Rattle.machine.specs.Worker.{stays}
use Rattle.machine.specs.Update.{pushed}
use Rattle.machine.specs.Linearizable.{limits, worker_owes}
use Rattle.machine.specs.Perform.{worker_view, perform_worker}
use Rattle.machine.proofs.Laws.Loads.{pushed_worker_load}
use Rattle.machine.proofs.Linearizable.Invariant.{Environment, bare, Agrees, AgreesOn, Exclusive, Sound, Spaced, TailState, filling, holds, locked, lowered, stolen, worker_begun}
use Rattle.claim.proofs.Laws.Tasks.{shows_load, Shows}
use Rattle.machine.proofs.Linearizable.Turn.{Turn, WorkerTurn, after_worker}

-- ── The machine ─────────────────────────────────────────────────────────────────────────────────────────────────────────────

module _ {g : Environment} {n : ℕ} {m : Machine} {c : WorkerCall} {p : ThiefCall} (v : Sound g n m c p) where
  -- a sound machine, from what an entry changes
  abbrev pub rebuilt :
      (l : Lock) (b : StoreBuffer) (spacing : Spacing) (c' : WorkerCall) (buffer : Pending m.sizes g.memory m.tail b)
      → TailState m.sizes.start buffer.seen c'
      → Spaced c' buffer.owed (asked spacing m.sizes.spacing) m.sizes.spacing
      → spacing.count ≤ n + 1
      → Exclusive l.holder (locked c') p
      → Sound g (n + 1) (after_worker m l b spacing c') c' p
  rebuilt l b spacing c' buffer tail spaced counted lock =
      record {
        sizes = v.sizes;
        memory = v.memory;
        margin_some = v.margin_some;
        slots_after_lem = v.slots_after_lem;
        buffer = buffer;
        head = v.head;
        tail = tail;
        spaced = spaced;
        counted = counted;
        lock = lock;
      }

  -- .. where nothing changes but the call, and maybe the lock
  abbrev pub recalled :
      (l : Lock) (c' : WorkerCall)
      → TailState m.sizes.start v.buffer.seen c'
      → Spaced c' v.buffer.owed (asked m.spacing m.sizes.spacing) m.sizes.spacing
      → Exclusive l.holder (locked c') p
      → Sound g (n + 1) (after_worker m l m.buffer m.spacing c') c' p
  recalled l c' tail spaced lock =
      rebuilt l m.buffer m.spacing c' v.buffer tail spaced (omega (arith, v.counted)) lock

-- ── Memory ──────────────────────────────────────────────────────────────────────────────────────────────────────────────────

-- what a slot holds after stores that have landed
slots_fold : (n k : ℕ) (l : List ℕ) (f : List Store) → k < length l
    → get_or (foldl (λ l a. slots_after n l a.kind) l f) k 0 ≡ foldl (λ u a. slot_after n k u a.kind) (get_or l k 0) f
slots_fold n k l [] there = refl
slots_fold n k l (a ∷ f) there =
    slots_fold n k (slots_after n l a.kind) f (omega (arith, slots_after-length n l a.kind))
    ∙ ap (λ v. foldl (λ u a. slot_after n k u a.kind) v f) (slots_after-slot_after n k l a.kind there)

-- the worker loads from memory, past all stores that have not reached it
pub load_below : {g : Environment} {n : ℕ} {m : Machine} {c : WorkerCall} {p : ThiefCall} → Sound g n m c p → (j : ℕ)
    → worker_load m (idx j)
    ≡ foldl (λ u a. slot_after m.sizes.slots (slot_of m.sizes.slots (idx j)) u a.kind) (memory_load (bare g m) (idx j)) (unlanded g.memory m.buffer)
load_below {g = g} {m = m} v j =
    let n = m.sizes.slots in
    let k = slot_of n (idx j) in
    let there : k < length g.memory.slots = omega (arith, slot_of_below n (idx j) (omega (arith, v.sizes.slots_least)), v.memory, v.sizes.slots_most) in
    ap (λ l. foldl (λ u a. slot_after n k u a.kind) (get_or l k 0) (pending m.buffer)) (sym v.slots_after_lem)
    ∙ ap (λ x. foldl (λ u a. slot_after n k u a.kind) x (pending m.buffer)) (slots_fold n k g.memory.slots g.memory.front there)
    ∙ sym (foldl-append (λ u a. slot_after n k u a.kind) (get_or g.memory.slots k 0) g.memory.front (pending m.buffer))

-- ── Machine and plain queue ─────────────────────────────────────────────────────────────────────────────────────────────────

-- another call, with which the queue's tail is where it was
pub agrees_call :
    {n : ℕ} {load : ℕ → ℕ} {b : List Store} {low low' fill fill' gone seen lo bound : ℕ} {q : PlainQueue}
    → low ≡ low' → seen + low' + fill' ≤ lo + n → Agrees n load b low fill gone seen lo bound q → Agrees n load b low' fill' gone seen lo bound q
agrees_call same room a =
    record {
      count = omega (arith, a.count);
      sum = omega (arith, a.sum);
      room = room;
      below = a.below;
      shows = a.shows;
      unwritten = a.unwritten;
    }

module _ {g : Environment} {n : ℕ} {m : Machine} {c : WorkerCall} {p : ThiefCall} (v : Sound g n m c p) (room : m.buffer.count < m.sizes.buffer) (a : Store) where
  -- a pushed store that is not to the slot that a thief is about to load
  pub pushed_unwritten :
      (higher : ℕ) → v.buffer.bound ≤ higher → (stolen p ≡ 1 → SlotsWithin v.head.lo higher (a ∷ []))
      → (stolen p ≡ 1 → SlotsWithin v.head.lo v.buffer.bound (unlanded g.memory m.buffer))
      → stolen p ≡ 1 → SlotsWithin v.head.lo higher (unlanded g.memory (push a m.buffer))
  pushed_unwritten higher raise link u has = rw (behind v.buffer v.sizes room a) (slots_append raise (u has) (link has))

  -- the tasks are shown as before by a store that leaves their slots
  pub pushed_shows :
      (l : List StoredTask) (lo : ℕ)
      → ((k : ℕ) → k < length l
      → slot_after m.sizes.slots (slot_of m.sizes.slots (idx (lo + k))) (worker_load m (idx (lo + k))) a.kind ≡ worker_load m (idx (lo + k)))
      → Shows (λ k. worker_load m (idx k)) lo l
      → Shows (λ k. worker_load (pushed a m) (idx k)) lo l
  pushed_shows l lo leaves shows =
      shows_load (λ k. worker_load m (idx k)) lo l shows (λ k. worker_load (pushed a m) (idx k))
      (λ k h. pushed_worker_load a m (idx (lo + k)) (inside_cells v.buffer v.sizes room) ∙ leaves k h)

-- ── A store to the tail ─────────────────────────────────────────────────────────────────────────────────────────────────────

module _ {g : Environment} {n : ℕ} {m : Machine} {c : WorkerCall} {p : ThiefCall} (v : Sound g n m c p) (room : m.buffer.count < m.sizes.buffer) (u : ℕ) where
  -- with a link of the chain from the worker's tail to u
  abbrev pub tail_pushing :
      (dip owed : ℕ) → u ≤ 2147483649
      → ((c : ℕ) → c ≤ v.buffer.owed → Chain m.sizes.spacing v.buffer.bound v.buffer.seen c (tail_store (idx u) ∷ []) dip owed u)
      → Pending m.sizes g.memory m.tail (push (tail_store (idx u)) m.buffer)
  tail_pushing = storing_tail v.buffer v.sizes room u

  -- a raised tail is always a link, and one of the stores that are due
  abbrev pub tail_raising : v.buffer.seen < u → u ≤ 2147483649 → Pending m.sizes g.memory m.tail (push (tail_store (idx u)) m.buffer)
  tail_raising = raising v.buffer v.sizes room u

  -- the tasks are shown as before, and nothing is written
  pub tail_shows : (q : PlainQueue) → AgreesOn v q → Shows (λ k. worker_load (pushed (tail_store (idx u)) m) (idx k)) (v.head.lo + stolen p) q.tasks
  tail_shows q g = pushed_shows v room (tail_store (idx u)) q.tasks (v.head.lo + stolen p) (λ k h. refl) g.shows

  pub tail_unwritten : (q : PlainQueue) → AgreesOn v q → stolen p ≡ 1 → SlotsWithin v.head.lo v.buffer.bound (unlanded g.memory (push (tail_store (idx u)) m.buffer))
  tail_unwritten q g =
      pushed_unwritten v room (tail_store (idx u)) v.buffer.bound (le_refl v.buffer.bound) (λ has. past_tail no_store) g.unwritten

  -- so where the queue's tail stays, machine and plain queue agree as before
  pub tail_agrees :
      (c' : WorkerCall) (q : PlainQueue) → u + lowered c' ≡ v.buffer.seen + lowered c → filling c' ≡ 0 → AgreesOn v q
      → Agrees m.sizes.slots (λ k. worker_load (pushed (tail_store (idx u)) m) (idx k)) (unlanded g.memory (push (tail_store (idx u)) m.buffer)) (lowered c') (filling c') (stolen p) u v.head.lo v.buffer.bound q
  tail_agrees c' q same still g =
      record {
        count = omega (arith, g.count);
        sum = omega (arith, g.sum);
        room = omega (arith, g.room);
        below = g.below;
        shows = tail_shows q g;
        unwritten = tail_unwritten q g;
      }

-- ── What an entry has to show ───────────────────────────────────────────────────────────────────────────────────────────────

module _ {g : Environment} {n : ℕ} {m : Machine} {c : WorkerCall} {p : ThiefCall} (v : Sound g n m c p) {q : PlainQueue} {e : Entry} {effect : Outcome → Effect} where
  -- a refused entry
  pub refused : (o : Outcome) → m.worker.call ≡ c → is_refusal o ≡ true → is_answer o ≡ false → WorkerTurn v q e effect (done o m)
  refused o at refusal no_answer =
      let whole : after_worker m m.lock m.buffer m.spacing c ≡ m =
      ap (after_worker m m.lock m.buffer m.spacing) (sym at)
      in
      record {
        outcome = o;
        told = [];
        lock = m.lock;
        buffer = m.buffer;
        spacing = m.spacing;
        call = c;
        is = ap (done o) whole;
        told_is = rw refusal;
        holder = λ i. refl;
        sound = recalled v m.lock c v.tail v.spaced v.lock;
        turn = λ a. refuses refusal no_answer (ap (λ m. worker_begun m c) whole) (ap (λ m. worker_owes m c) whole) (agrees_call refl a.room a);
      }

  -- .. as a step leaves all as it is
  pub stayed : (o : Outcome) → m.worker.call ≡ c → is_refusal o ≡ true → is_answer o ≡ false → WorkerTurn v q e effect (perform_worker m (stays o (worker_view m c)))
  stayed o at refusal no_answer = subst (WorkerTurn v q e effect) (ap (λ c. done o (after_worker m m.lock m.buffer m.spacing c)) at) (refused o at refusal no_answer)

  -- an entry that changes the call, and maybe the lock
  pub recalls :
      (o : Outcome) (told : List Told) (l : Lock) (c' : WorkerCall)
      → told ≡ told_in (worker_begun m c) o (effect o)
      → ((i : ℕ) → holds l.holder i ≡ holds m.lock.holder i)
      → (sound : Sound g (n + 1) (after_worker m l m.buffer m.spacing c') c' p)
      → (AgreesOn v q
      → Turn (limits m.sizes) (worker_begun m c) (worker_owes m c) q told o e
      (worker_begun (after_worker m l m.buffer m.spacing c') c')
      (worker_owes (after_worker m l m.buffer m.spacing c') c')
      (AgreesOn sound))
      → WorkerTurn v q e effect (done o (after_worker m l m.buffer m.spacing c'))
  recalls o told l c' told_is holder sound turn =
      record {
        outcome = o;
        told = told;
        lock = l;
        buffer = m.buffer;
        spacing = m.spacing;
        call = c';
        is = refl;
        told_is = told_is;
        holder = holder;
        sound = sound;
        turn = turn;
      }

  -- an entry that makes a store, which is a as the chain has it
  pub pushes :
      {d : Done} (o : Outcome) (told : List Told) (a : Store) (spacing : Spacing) (c' : WorkerCall)
      → done o (after_worker m m.lock (push a m.buffer) spacing c') ≡ d
      → told ≡ told_in (worker_begun m c) o (effect o)
      → (sound : Sound g (n + 1) (after_worker m m.lock (push a m.buffer) spacing c') c' p)
      → (AgreesOn v q
      → Turn (limits m.sizes) (worker_begun m c) (worker_owes m c) q told o e
      (worker_begun (after_worker m m.lock (push a m.buffer) spacing c') c')
      (worker_owes (after_worker m m.lock (push a m.buffer) spacing c') c')
      (AgreesOn sound))
      → WorkerTurn v q e effect d
  pushes o told a spacing c' is told_is sound turn =
      record {
        outcome = o;
        told = told;
        lock = m.lock;
        buffer = push a m.buffer;
        spacing = spacing;
        call = c';
        is = is;
        told_is = told_is;
        holder = λ i. refl;
        sound = sound;
        turn = turn;
      }
