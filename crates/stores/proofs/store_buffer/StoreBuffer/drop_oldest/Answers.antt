-- only a buffer with a store to drop is changed
use Rattle.std.proofs.Common.{◌≡◌, ◌∙◌, ◌+◌, ◌-◌, ◌≤◌, ◌∷◌, ◌++◌, suc, length, take, drop, set, get_or, refl, ap, sym, arith}
use mathlib.Core.Bool.{true, ◌&&◌}
use lib.Dec.{leb, ltb}
use borrow.Author.Tests.{leb-true, ltb-true}
use Rattle.stores.specs.Types.{StoreBuffer}
use Rattle.stores.specs.StoreBuffer.{client_store, oldest}
use Rattle.stores.proofs.Laws.StoreBuffer.{drop_oldest_some}
use Rattle.terms.proofs.Laws.Tests.{and_left, and_right}
use Rattle.terms.proofs.Laws.Lists.{set_shifted, shifted, shifted_more, take_drop_one}
use Rattle.stores.proofs.store_buffer.StoreBuffer.drop_oldest.Goals as goal

-- one that passes the code's test has a store to drop, and no more than there are cells
some : (b : StoreBuffer) → (ltb 0 b.count && leb b.count 64) ≡ true → (1 ≤ b.count) × (b.count ≤ 64)
some b h = (ltb-true 0 b.count (and_left (ltb 0 b.count) (leb b.count 64) h), leb-true b.count 64 (and_right (ltb 0 b.count) (leb b.count 64) h))

pub loop-i-init : goal.loop-i-init
loop-i-init c = let h = some c.args.self c.if-count.true in (refl, omega arith, omega arith)

pub overflow_sub-stores : goal.overflow_sub-stores
overflow_sub-stores c = c.loop-i.invariant.1

pub loop-i-preserved : goal.loop-i-preserved
loop-i-preserved c =
    let turn = c.loop-i in
    let whole = c.args.self.stores in
    let h = some c.args.self c.if-count.true in
    let l : length whole ≡ 64 = omega arith in
    let here : turn.i ≡ turn.i - 1 + 1 = omega arith in
    let next : turn.i + 1 - 1 ≡ turn.i - 1 + 1 = omega arith in (
      ap (λ r. set r (turn.i - 1) (get_or r turn.i client_store)) turn.invariant.0
          ∙ ap (λ j. set (shifted whole (turn.i - 1)) (turn.i - 1) (get_or (shifted whole (turn.i - 1)) j client_store)) here
          ∙ shifted_more whole (turn.i - 1) client_store (omega arith)
          ∙ ap (shifted whole) (sym next),
      omega arith,
      omega arith,
    )

pub returns-after-loop-i : goal.returns-after-loop-i
returns-after-loop-i c =
    let whole = c.args.self.stores in
    let count = c.args.self.count in
    let h = some c.args.self c.if-count.true in
    let l : length whole ≡ 64 = omega arith in
    let last : c.loop-i.i - 1 ≡ count - 1 = omega arith in
    let all_but_one : count - 1 + 1 ≡ count = omega arith in
    let past : suc (count - 1) ≡ count = omega arith in
    let front = take_drop_one (count - 1) whole ∙ ap (λ n. drop 1 (take n whole)) all_but_one in
    let stores =
    ap (λ r. set r (count - 1) client_store) c.loop-i.invariant.0
    ∙ ap (λ j. set (shifted whole j) (count - 1) client_store) last
    ∙ set_shifted whole (count - 1) (omega arith) client_store client_store
    ∙ (λ j. front j ++ (client_store ∷ drop (past j) whole))
    in
    rw (drop_oldest_some c.args.self h.0 h.1) (λ j. record {
      oldest = record { kind = (oldest c.args.self).kind };
      left = record { stores = stores j; count = count - 1 };
    })
