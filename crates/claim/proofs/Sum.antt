-- What the sum of the plain queue beside a run counts.
use mathlib.Core.List.{List, [], ◌∷◌, append-nil, map}
use Prim.Native.Nat.{◌≤◌, zero-le}
use native.Mathlib.Omega.{arith}
use lib.ListN.{length, length-append}
use Rattle.terms.specs.Lists.{concat_map}
use Rattle.claim.specs.PlainQueue.{told_put, told_take, told_steal, PlainQueue, respond, stored_by, taken_by}
use Rattle.claim.specs.Calls.{Begun, nothing, a_put, a_take, a_steal, Effect, none, decided, told_of}
use Rattle.claim.specs.Implementation.{Implementation}
use Rattle.claim.specs.Watch.{Watch, effect_at, events, queue_after, told_at, watch_after, watch_fresh, watched}
use Rattle.claim.specs.Account.{SumCounts, stored_in, taken_in}
use Rattle.claim.proofs.Laws.PlainQueue.{Balances, respond_balances, unchanged_balances}

-- what the plain queue is told at an entry is at most one call
told_balances : (q : PlainQueue) → length q.tasks ≤ q.sum → (b : Begun) (f : Effect)
    → Balances q (queue_after q (map (respond q) (told_of b f))) (length (concat_map (stored_by q) (told_of b f))) (length (concat_map (taken_by q) (told_of b f)))
told_balances q covered b none = unchanged_balances q covered
told_balances q covered nothing (decided d) = unchanged_balances q covered
told_balances q covered (a_put x) (decided d) = rw append-nil (respond_balances q covered (told_put x d))
told_balances q covered a_take (decided d) = rw append-nil (respond_balances q covered (told_take d))
told_balances q covered a_steal (decided d) = respond_balances q covered (told_steal d)

module _ {M E : Type 0} (b : Implementation M E) where
  run_balances : (w : Watch M) (es : List E) → length w.queue.tasks ≤ w.queue.sum
      → Balances w.queue (watched b w es).queue (length (stored_in (events b w es))) (length (taken_in (events b w es)))
  run_balances w [] covered = unchanged_balances w.queue covered
  run_balances w (e ∷ es) covered =
      let q : PlainQueue = w.queue in
      let now = told_balances q covered (w.calls (b.party e)).begun (effect_at b w.machine e) in
      let later = run_balances (watch_after b w e) es now.covers in
      record {
        sum =
            omega (
              arith,
              now.sum,
              later.sum,
              length-append (concat_map (stored_by q) (told_at b w e)) (stored_in (events b (watch_after b w e) es)),
              length-append (concat_map (taken_by q) (told_at b w e)) (taken_in (events b (watch_after b w e) es)),
            );
        covers = later.covers;
      }

  pub sum_counts : SumCounts b
  sum_counts s es = (run_balances (watch_fresh b s) es zero-le).sum
