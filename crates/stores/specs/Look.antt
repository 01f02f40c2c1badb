-- What an operation tests of a machine before all else, and how many stores of take step 1 are pending, before an entry and after it. Renders, of "Parts", the list of what must be in range, as far as no call goes, and, of
-- request 4 in 02, the number that is handed on. It speaks of a machine's parts, whichever queue runs on it.
use Rattle.std.specs.Prelude.{Bool, cond, ◌&&◌, ℕ, ◌+◌, ◌-◌, leb, ltb}
use Rattle.terms.specs.Lists.{all}
use Rattle.terms.specs.Sizes.{sizes_in_range}
use Rattle.stores.specs.Types.{Index, Look, Option, Maker, StoreKind, Sizes, Spacing, StoreBuffer}
use Rattle.stores.specs.Index.{index_in_range}
use Rattle.stores.specs.Spacing.{spacing_in_range}
use Rattle.stores.specs.StoreBuffer.{lowers_tail, newest_tail, pending, push_in_range, push_lowers_tail, store_in_range, take_stores}

-- "Parts", as far as no call goes: the sizes, how many stores are pending, the spacing count, and every index in memory (head, tail) or in a pending store; cells past the pending stores are not looked at
unfoldable pub memory_in_range : Sizes → Index → Index → StoreBuffer → Spacing → Bool
memory_in_range z head tail b p =
    sizes_in_range z
    && leb b.count z.buffer
    && spacing_in_range p
    && index_in_range head
    && index_in_range tail
    && all (λ s. store_in_range s.kind) (pending b)

-- how many stores of take step 1 are pending, as it is handed on: 0 for a machine out of range
abbrev pub hidden_if : Bool → ℕ → ℕ
hidden_if ranged takes = cond ranged takes 0

-- what one look at a machine finds, with which every operation begins; calls: whether every index in a call is in range
abbrev pub look_at : Sizes → Index → Index → StoreBuffer → Spacing → Bool → Look
look_at z head tail b p calls =
    record {
      ranged = memory_in_range z head tail b p && calls;
      tail = newest_tail tail b;
      hidden = hidden_if (memory_in_range z head tail b p && calls) (take_stores tail (pending b));
    }

-- ── After an entry, from what the look before it found ──────────────────────────────────────────────────────────────────────

-- For the code alone, which does not count again; that it comes to the number of the machine handed back is a law (`proofs/Laws/Look.antt`).

-- after the store that the worker's entry makes, if it makes one: one more, if it lowers the tail, and no more than there are cells. The spacing count is as given, and call tells whether the worker's call is in range then.
abbrev pub hidden_after_store : Option (Maker × StoreKind) → Spacing → Bool → Look → ℕ
hidden_after_store made p call l =
    hidden_if (spacing_in_range p && push_in_range made && call) (cond (push_lowers_tail l.tail made && ltb l.hidden 64) (l.hidden + 1) l.hidden)

-- after a thief's entry, which leaves head so: as many; call tells whether that thief's call is in range then
abbrev pub hidden_after_head : Index → Bool → Look → ℕ
hidden_after_head head call l = hidden_if (index_in_range head && call) l.hidden

-- after a drain of this store: one less, if it lowers memory's tail
abbrev pub hidden_after_drain : Index → StoreKind → Look → ℕ
hidden_after_drain tail k l = cond (lowers_tail tail k) (l.hidden - 1) l.hidden
