-- What a sheet tells that is written: its bytes are the shares, and by demand 3 each TASK has one of its own.
use mathlib.Core.Path.{◌≡◌, refl, ap, sym, ◌∙◌, subst}
use mathlib.Core.Bool.{true, ◌&&◌}
use mathlib.Core.List.{List, [], ◌∷◌, ◌++◌, append-nil}
use Prim.Native.Nat.{ℕ, zero, suc, ◌+◌, ◌-◌, ◌≤◌, ◌<◌}
use native.Mathlib.Omega.{arith}
use lib.ListN.{length, drop, get_or, get_or-append, replicate, take}
use lib.Seq.{get_or-append-add}
use borrow.Author.Tests.{eq-eqb, lt-ltb}
use Rattle.terms.specs.Kinds.{party_number}
use Rattle.terms.specs.Lists.{occurrences}
use Rattle.terms.specs.Outcome.{number_of, value_of}
use Rattle.terms.specs.Sizes.{sizes_in_range, within}
use Rattle.terms.proofs.Laws.Sizes.{within_bounds}
use Rattle.machine.specs.Linearizable.{ff_the}
use Rattle.properties.specs.ExactlyOnce.{stored}
use Rattle.schedule.specs.Format.{decode, entries_in, kinds_in, operands_in, sizes_in}
use Rattle.schedule.specs.Run.{outcomes_in, schedule_in}
use Rattle.schedule.specs.Trace.{line_in, line_of, trace_of}
use Rattle.schedule.proofs.Laws.Check.{few_entries, get_d_map-range_from, ranges_sizes}
use Rattle.schedule.proofs.Laws.Format.{decode_encode, fitting, fitting_append, fitting_replicate}
use Rattle.schedule.proofs.Laws.Reader.{readable_accepted}
use Rattle.schedule.proofs.Laws.Run.{outcomes_counted, schedule_length}
use Rattle.schedule.proofs.Laws.Trace.{line_in_written}
use Rattle.share_sheet.specs.Types.{Drain, Entry, Moved, Outcome, Task}
use Rattle.share_sheet.specs.Given.{EverySheetTells, TaskAt, SheetFacts, share_in}
use Rattle.share_sheet.specs.Sheet.{Share, blocks, buffer_if, giving, parties_of, places_of, share_by, share_of, sheet_layout, sheet_of}
use Rattle.share_sheet.proofs.Laws.Given.{block_values_fit, gives_task, task_gives, task_is_block, task_once, task_stored}
use Rattle.share_sheet.proofs.Laws.Shares.{first_giving, none_giving}
use Rattle.share_sheet.proofs.Laws.Sheet.{Checked, blocks_below, length_parties, length_places, parties_fit, party_most, written_checked}

module _ (file : List ℕ) (count room : ℕ) (made : Checked file count room) where
  abbrev es : List Entry
  es = schedule_in file

  abbrev os : List Outcome
  os = outcomes_in file

  -- ── What is known of the run ──────────────────────────────────────────────────────────────────────────────────────────────

  ranged : sizes_in_range (sizes_in file) ≡ true
  ranged = ranges_sizes (sizes_in file) (entries_in file) made.readable.ranges

  few : count ≤ 255
  few = (within_bounds 1 255 count made.behind.inside).1

  long_es : length es ≡ entries_in file
  long_es = schedule_length file (sizes_in file) (entries_in file) (readable_accepted file made.readable)

  long_os : length os ≡ entries_in file
  long_os = outcomes_counted ff_the file (sizes_in file) (entries_in file) (readable_accepted file made.readable)

  short : length es ≤ 4096
  short = omega (arith, few_entries (sizes_in file) (entries_in file) made.readable.ranges, long_es)

  party_small : (at : ℕ) → party_number (get_or es at Drain) ≤ 8
  party_small = party_most (sizes_in file) (kinds_in (entries_in file) file) (operands_in (entries_in file) file) ranged made.readable.each

  -- a TASK in the trace is a TASK of the run

  trace_line : (at : ℕ) → at < length os → line_in (entries_in file) (trace_of os) at ≡ line_of (get_or os at Moved)
  trace_line at there =
      (λ i. line_in (sym long_os i) ((sym (append-nil (trace_of os)) ∙ ap (λ l. trace_of os ++ l) (sym (drop_none (0 + length (trace_of os))))) i) at)
      ∙ line_in_written os [] at (block_values_fit (sizes_in file) es count ranged made.behind.enough short made.behind.right few) there
    where
      drop_none : (n : ℕ) → drop {A = ℕ} n [] ≡ []
      drop_none zero = refl
      drop_none (suc n) = refl

  task_told : (at block : ℕ) → TaskAt file at block → (at < length es) × (get_or os at Moved ≡ Task block)
  task_told at block task =
      let there : at < length os = omega (arith, task.there, long_os) in
      let line = sym (trace_line at there) ∙ task.line in
      let number = eq-eqb (number_of (get_or os at Moved)) 17 (ap (λ l. l.number) line) in
      let value = eq-eqb (value_of (get_or os at Moved)) block (ap (λ l. l.value) line) in
      (omega (arith, task.there, long_es), gives_task block (get_or os at Moved) (λ i. number i && value i))

  tells_task : (at block : ℕ) → at < length os → get_or os at Moved ≡ Task block → TaskAt file at block
  tells_task at block there task = record { there = omega (arith, long_os); line = trace_line at there ∙ ap line_of task }

  -- ── What stands in the bytes ──────────────────────────────────────────────────────────────────────────────────────────────

  -- an entry is a number of four bytes
  entry_fits : (b : ℕ) (l : List ℕ) → giving b os ≡ l → (share_by es l).entry < 4294967296
  entry_fits b [] e = omega arith
  entry_fits b (at ∷ l) e = omega (arith, (first_giving es os (length os) b at l e).0, long_os, long_es, short)

  abbrev P : List ℕ
  P = parties_of count es os

  abbrev E : List ℕ
  E = places_of count es os

  -- the count, the parties and the entries
  numbers : (rest : List ℕ) → decode (sheet_layout count) (sheet_of count es os ++ rest) ≡ count ∷ (P ++ E)
  numbers rest =
      let byte = lt-ltb count 256 (omega (arith, few)) in
      let parties-are = ap (λ k. fitting (replicate k 1) P) (sym (length_parties count es os)) ∙ fitting_replicate 1 P ∙ parties_fit count es os few (λ at. omega (arith, party_small at)) in
      let entries-are = ap (λ k. fitting (replicate k 4) E) (sym (length_places count es os)) ∙ fitting_replicate 4 E ∙ blocks_below (λ b. (share_of es os b).entry) 4294967296 (λ b. entry_fits b _ refl) (blocks count) in
      decode_encode (sheet_layout count) (count ∷ (P ++ E)) rest (λ i. byte i && fitting_append (replicate count 1) (replicate count 4) P E parties-are entries-are i)

  -- so what the bytes say of a block is its share
  share_told : (rest : List ℕ) (block : ℕ) → within 1 count block ≡ true → share_in count (sheet_of count es os ++ rest) block ≡ share_of es os block
  share_told rest block inside =
      let least = (within_bounds 1 count block inside).0 in
      let most = (within_bounds 1 count block inside).1 in
      let i = block - 1 in
      let here : block ≡ suc i = omega arith in
      let there : count + block ≡ suc (count + i) = omega arith in
      let of_block : 1 + i ≡ block = omega arith in
      let party = (λ j. get_or (numbers rest j) (here j) 0) ∙ get_or-append P E 0 i (omega (arith, length_parties count es os)) ∙ get_d_map-range_from (λ b. (share_of es os b).party) 0 1 count i (omega arith) ∙ ap (λ b. (share_of es os b).party) of_block in
      let entry =
      (λ j. get_or (numbers rest j) (there j) 0) ∙ ap (λ k. get_or (P ++ E) (k + i) 0) (sym (length_parties count es os)) ∙ get_or-append-add P E i 0 ∙ get_d_map-range_from (λ b. (share_of es os b).entry) 0 1 count i (omega arith) ∙ ap (λ b. (share_of es os b).entry) of_block in
      λ j. record { party = party j; entry = entry j }

  -- ── What a share says ─────────────────────────────────────────────────────────────────────────────────────────────────────

  once : (at other block : ℕ) → TaskAt file at block → TaskAt file other block → at ≡ other
  once at other block task same =
      let one = task_told at block task in
      let two = task_told other block same in
      task_once (sizes_in file) es count ranged made.behind.enough short made.behind.right at other block one.0 two.0 one.1 two.1

  -- of a block that was answered, the entry and its party
  share_of_task : (at block : ℕ) → TaskAt file at block → share_of es os block ≡ record { party = party_number (get_or es at Drain); entry = at }
  share_of_task at block task = go (giving block os) refl
    where
      told : (at < length es) × (get_or os at Moved ≡ Task block)
      told = task_told at block task

      go : (l : List ℕ) → giving block os ≡ l → share_by es l ≡ record { party = party_number (get_or es at Drain); entry = at }
      go [] none = absurd (none_giving es os (length os) block none at (omega (arith, told.0, long_es, long_os)) (task_gives block (get_or os at Moved) told.1))
      go (other ∷ l) first =
          let found = first_giving es os (length os) block other l first in
          let same = once other at block (tells_task other block found.0 (gives_task block (get_or os other Moved) found.1)) task in
          ap (λ k. record { party = party_number (get_or es k Drain); entry = k }) same

  -- of one that has no party there is no entry
  none_no_entry : (block : ℕ) → (share_of es os block).party ≡ 255 → (share_of es os block).entry ≡ 0
  none_no_entry block none = go (giving block os) none
    where
      go : (l : List ℕ) → (share_by es l).party ≡ 255 → (share_by es l).entry ≡ 0
      go [] none = refl
      go (at ∷ l) none = absurd (omega (arith, party_small at, none))

  -- a block with a party was answered by the entry that is named
  task_of_share : (block : ℕ) → ((share_of es os block).party ≡ 255 → ⊥) → TaskAt file (share_of es os block).entry block × (party_number (get_or es (share_of es os block).entry Drain) ≡ (share_of es os block).party)
  task_of_share block some = go (giving block os) refl some
    where
      go : (l : List ℕ) → giving block os ≡ l → ((share_by es l).party ≡ 255 → ⊥) → TaskAt file (share_by es l).entry block × (party_number (get_or es (share_by es l).entry Drain) ≡ (share_by es l).party)
      go [] none some = absurd (some refl)
      go (at ∷ l) first some =
          let found = first_giving es os (length os) block at l first in
          (tells_task at block found.0 (gives_task block (get_or os at Moved) found.1), refl)

  -- all of it, of the sheet's bytes with others behind them
  tells : (rest : List ℕ) → SheetFacts file count (sheet_of count es os ++ rest)
  tells rest =
      record {
        counts = ap (λ l. get_or l 0 0) (numbers rest);
        stands = λ at block task. (inside at block task, share_told rest block (inside at block task) ∙ share_of_task at block task);
        once = once;
        not_given = λ block within none at task.
            let party = sym none ∙ ap (λ h. h.party) (share_told rest block within ∙ share_of_task at block task) in
            omega (arith, party, party_small at);
        no_entry = λ block within none.
            ap (λ h. h.entry) (share_told rest block within) ∙ none_no_entry block (sym (ap (λ h. h.party) (share_told rest block within)) ∙ none);
        given = λ block within some. subst (Given block) (sym (share_told rest block within)) (task_of_share block (λ none. some (ap (λ h. h.party) (share_told rest block within) ∙ none)));
        put_before = λ block within some.
            let named = (task_of_share block (λ none. some (ap (λ h. h.party) (share_told rest block within) ∙ none))).0 in
            let told = task_told (share_of es os block).entry block named in
            ap (λ h. occurrences block (stored ff_the (sizes_in file) (take h.entry es))) (share_told rest block within)
            ∙ task_stored (sizes_in file) es count ranged made.behind.enough short made.behind.right (share_of es os block).entry block told.0 told.1;
      }
    where
      inside : (at block : ℕ) → TaskAt file at block → within 1 count block ≡ true
      inside at block task =
          let told = task_told at block task in
          task_is_block (sizes_in file) es count ranged made.behind.enough short made.behind.right at block told.0 told.1

      Given : ℕ → Share → Type 0
      Given block h = TaskAt file h.entry block × (party_number (get_or es h.entry Drain) ≡ h.party)

pub every_sheet_tells : EverySheetTells
every_sheet_tells file count buffer n written =
    let made = written_checked file count (length buffer) n written in
    subst (SheetFacts file count) (sym (ap (buffer_if (sheet_of count (schedule_in file) (outcomes_in file)) buffer) written)) (tells file count (length buffer) made (drop (0 + length (sheet_of count (schedule_in file) (outcomes_in file))) buffer))
