-- Laws of runs, of any queue on its machine: the totals with one outcome more, the entries of two arrays one by one, as many as there are places; that values fit four bytes where the operands do; what decides a run, and whether a trace fits.
use mathlib.Core.Path.{◌≡◌, refl, ap, sym, ◌∙◌}
use mathlib.Core.Bool.{Bool, true, false, ◌&&◌}
use mathlib.Core.List.{List, [], ◌∷◌, ◌++◌, map, map-append}
use Prim.Native.Nat.{ℕ, ◌+◌, ◌%◌, ◌/◌, ◌≤◌, ◌<◌}
use native.Mathlib.Nat.{mod-eq_of_lt, mod-lt, zero-add}
use native.Mathlib.Omega.{arith}
use lib.Dec.{leb, lit<, ltb}
use lib.ListN.{length, drop, get_or, length-map, length-replicate, get_or-eq_default, replicate}
use borrow.Author.Tests.{le-leb, le-ltb, leb-false, leb-true, lt-ltb, ltb-false, ltb-true}
use Rattle.std.proofs.Common.{Result, Ok, Err}
use Rattle.terms.specs.Outcome.{value_of}
use Rattle.terms.specs.declared.outcome.Outcome.TheVariants.{Moved, Place, Early, Wait, Stored, Task, Empty, Abort, Full, End}
use Rattle.terms.specs.Kinds.{entry_of, operand_of, party_number}
use Rattle.terms.specs.Sizes.{sizes_in_range}
use Rattle.terms.specs.Tally.{counted, none_counted}
use Rattle.terms.proofs.Laws.Tests.{and_left, and_right, by_test, either}
use Rattle.terms.specs.Lists.{all, range}
use Rattle.claim.specs.Implementation.{Implementation}
use Rattle.claim.specs.Run.{outcomes_of}
use Rattle.properties.specs.Renumbering.{renumber_entry, renumber_outcome}
use Rattle.terms.proofs.Laws.Lists.{all_get_d}
use Rattle.terms.proofs.Laws.Runs.{length_each}
use Rattle.terms.proofs.Laws.Sums.{length_range, range_suc}
use Rattle.schedule.specs.Types.{BeginPut, BeginSteal, BeginTake, ClientStore, Drain, Entry, Refusal, ThiefStep, WorkerStep}
use Rattle.schedule.specs.Types.{Outcome, Room, Sizes, Summary, Tally}
use Rattle.schedule.specs.Entries.{check_entries, entry_at, entry_to_obey}
use Rattle.schedule.specs.Format.{all_below, entries_in, kinds_in, operands_in, sizes_in, words_in}
use Rattle.schedule.specs.Reader.{kind_part, operand_part, read_file}
use Rattle.number.specs.Number.{overwritten}
use Rattle.schedule.specs.Run.{entries_of, outcomes_from_by, outcomes_in_by, run_file_by, running_by, schedule_in, summary_from_by, summary_in_by, trace_after_by, trace_if, trace_put}
use Rattle.schedule.specs.Totals.{counted_from, summary_by, tally_of}
use Rattle.schedule.specs.Trace.{line_in, line_of, trace_fits, trace_length, trace_of}
use Rattle.schedule.proofs.Laws.Bytes.{all_below_drop}
use Rattle.schedule.proofs.Laws.Check.{few_entries, get_d_map-range_from, ranges_sizes}
use Rattle.schedule.proofs.Laws.Entries.{allowed_party, check_allowed, entries_passed, entry_as_read}
use Rattle.schedule.proofs.Laws.Format.{decode_below, length-kinds_in, operands_in_words}
use Rattle.schedule.proofs.Laws.Proved.{Proved}
use Rattle.schedule.proofs.Laws.Trace.{line_in_written}
use Rattle.schedule.proofs.Laws.Reader.{accepted_long, accepted_readable, kinds_cut, length_kinds_cut, operands_cut}

-- ── One outcome more ────────────────────────────────────────────────────────────────────────────────────────────────────────

pub tally_of_more : (os : List Outcome) (o : Outcome) → tally_of (os ++ (o ∷ [])) ≡ counted (tally_of os) o
tally_of_more os o = from none_counted os
  where
    from : (t : Tally) (os : List Outcome) → counted_from t (os ++ (o ∷ [])) ≡ counted (counted_from t os) o
    from t [] = refl
    from t (p ∷ os) = from (counted t p) os

-- ── The entries of two arrays ───────────────────────────────────────────────────────────────────────────────────────────────

-- the entries at the first n places
abbrev pub entries_up_to : Sizes → List ℕ → List ℕ → ℕ → List Entry
entries_up_to s kinds operands n = map (λ at. entry_to_obey (entry_at s kinds operands at)) (range n)

module _ (s : Sizes) (kinds operands : List ℕ) where
  abbrev obeyed_at : ℕ → Entry
  obeyed_at at = entry_to_obey (entry_at s kinds operands at)

  pub entries_up_to_more : (n : ℕ) → entries_up_to s kinds operands (n + 1) ≡ entries_up_to s kinds operands n ++ (obeyed_at n ∷ [])
  entries_up_to_more n = ap (map obeyed_at) (range_suc n) ∙ map-append obeyed_at (range n) (n ∷ [])

  -- there are as many entries as places
  pub length_entries_up_to : (n : ℕ) → length (entries_up_to s kinds operands n) ≡ n
  length_entries_up_to n = length-map (range n) obeyed_at ∙ length_range n

  -- .. each the one to obey at its place
  pub entry_there : (at : ℕ) → at < length kinds → get_or (entries_of s kinds operands) at Drain ≡ entry_to_obey (entry_at s kinds operands at)
  entry_there at inside = get_d_map-range_from obeyed_at Drain 0 (length kinds) at inside ∙ ap obeyed_at (zero-add at)

  -- where all entries passed, each is allowed
  pub all_allowed : check_entries s kinds operands ≡ Ok tt → (at : ℕ) → at < length kinds → (e : Entry) × (entry_at s kinds operands at ≡ Ok e)
  all_allowed passed at there = check_allowed (entry_at s kinds operands at) (entries_passed s kinds operands passed at there)

  -- .. and no party is beyond the last thief; past the end there is the worker's
  pub party_there : check_entries s kinds operands ≡ Ok tt → (at : ℕ) → party_number (get_or (entries_of s kinds operands) at Drain) ≤ s.thieves
  party_there passed at = go (ltb at (length kinds)) refl
    where
      met : (m : Result Entry Refusal) (e : Entry) → entry_of s.thieves at (get_or kinds at 0) (get_or operands at 0) ≡ m → m ≡ Ok e → party_number e ≤ s.thieves
      met m e read is = allowed_party s.thieves at (get_or kinds at 0) (get_or operands at 0) e (read ∙ is)

      allowed : (e : Entry) → entry_at s kinds operands at ≡ Ok e → party_number e ≤ s.thieves
      allowed e = either (λ m. m ≡ Ok e → party_number e ≤ s.thieves) (ltb at (length kinds) && ltb at (length operands)) (met _ e refl) (λ is. cc)

      go : (inside : Bool) → ltb at (length kinds) ≡ inside → party_number (get_or (entries_of s kinds operands) at Drain) ≤ s.thieves
      go true p =
          let there = ltb-true at (length kinds) p in
          let found = all_allowed passed at there in
          let same = entry_there at there ∙ ap entry_to_obey found.1 in
          omega (arith, ap party_number same, allowed found.0 found.1)
      go false p =
          let past = get_or-eq_default (entries_of s kinds operands) Drain {n = at} (omega (arith, ltb-false at (length kinds) p, length_entries_up_to (length kinds))) in
          omega (arith, ap party_number past)

-- an accepted file has as many entries as it says
pub schedule_length : (file : List ℕ) (s : Sizes) (n : ℕ) → read_file file ≡ Ok (s, n) → length (schedule_in file) ≡ n
schedule_length file s n accepted =
    let kinds = kinds_in (entries_in file) file in
    length_entries_up_to (sizes_in file) kinds (operands_in (entries_in file) file) (length kinds)
    ∙ length-kinds_in (entries_in file) file
    ∙ sym (accepted_readable file s n accepted).1.0

-- there are as many outcomes as entries: from any machine, of two arrays, and of an accepted file
module _ {M : Type 0} (b : Implementation M Entry) where
  pub length-outcomes_of : (m : M) (es : List Entry) → length (outcomes_of b m es) ≡ length es
  length-outcomes_of = length_each b.next b.outcome

  pub length-outcomes_from : (s : Sizes) (kinds operands : List ℕ) → length (outcomes_from_by b s kinds operands) ≡ length kinds
  length-outcomes_from s kinds operands = length-outcomes_of (b.fresh s) (entries_of s kinds operands) ∙ length_entries_up_to s kinds operands (length kinds)

  pub outcomes_counted : (file : List ℕ) (s : Sizes) (n : ℕ) → read_file file ≡ Ok (s, n) → length (outcomes_in_by b file) ≡ n
  outcomes_counted file s n accepted = length-outcomes_of (b.fresh (sizes_in file)) (schedule_in file) ∙ schedule_length file s n accepted

-- ── Values fit four bytes ───────────────────────────────────────────────────────────────────────────────────────────────────

-- what the four lowest bytes of a number are
abbrev low : ℕ → ℕ
low n = n % 4294967296

-- a number that is put fits
abbrev fitting : Entry → Bool
fitting Drain = true
fitting ClientStore = true
fitting (BeginPut x) = ltb x 4294967296
fitting BeginTake = true
fitting WorkerStep = true
fitting (BeginSteal i) = true
fitting (ThiefStep i) = true

-- numbered anew by them, an entry is as it was if the number that it puts fits ..
low_entry : (e : Entry) → fitting e ≡ true → renumber_entry low e ≡ e
low_entry Drain fits = refl
low_entry ClientStore fits = refl
low_entry (BeginPut x) fits = ap BeginPut (mod-eq_of_lt (ltb-true x 4294967296 fits))
low_entry BeginTake fits = refl
low_entry WorkerStep fits = refl
low_entry (BeginSteal i) fits = refl
low_entry (ThiefStep i) fits = refl

low_entries : (es : List Entry) → all fitting es ≡ true → map (renumber_entry low) es ≡ es
low_entries [] fits = refl
low_entries (e ∷ es) fits = λ i. low_entry e (and_left (fitting e) (all fitting es) fits) i ∷ low_entries es (and_right (fitting e) (all fitting es) fits) i

-- .. and an outcome's value fits
low_value : (o : Outcome) → ltb (value_of (renumber_outcome low o)) 4294967296 ≡ true
low_value Moved = refl
low_value Place = refl
low_value Early = refl
low_value Wait = refl
low_value Stored = refl
low_value (Task x) = lt-ltb (x % 4294967296) 4294967296 (mod-lt x (lit< tt))
low_value Empty = refl
low_value Abort = refl
low_value Full = refl
low_value End = refl

low_values : (os : List Outcome) → all_below 4294967296 (map value_of (map (renumber_outcome low) os)) ≡ true
low_values [] = refl
low_values (o ∷ os) = rw (low_value o) (low_values os)

-- an entry whose operand fits puts no larger number
operand_fits : (e : Entry) → ltb (operand_of e) 4294967296 ≡ true → fitting e ≡ true
operand_fits Drain fits = refl
operand_fits ClientStore fits = refl
operand_fits (BeginPut x) fits = fits
operand_fits BeginTake fits = refl
operand_fits WorkerStep fits = refl
operand_fits (BeginSteal i) fits = refl
operand_fits (ThiefStep i) fits = refl

-- the entries of two arrays put no other numbers than the operands
entries_fit : (s : Sizes) (kinds operands : List ℕ) → all_below 4294967296 operands ≡ true → all fitting (entries_of s kinds operands) ≡ true
entries_fit s kinds operands below = each (range (length kinds))
  where
    meant : (at : ℕ) (m : Result Entry Refusal) → entry_of s.thieves at (get_or kinds at 0) (get_or operands at 0) ≡ m → fitting (entry_to_obey m) ≡ true
    meant at (Ok e) p =
        let operand : operand_of e ≡ get_or operands at 0 = (entry_as_read s.thieves at (get_or kinds at 0) (get_or operands at 0) e p).1 in
        operand_fits e (ap (λ n. ltb n 4294967296) operand ∙ all_get_d (λ n. ltb n 4294967296) operands at 0 refl below)
    meant at (Err r) p = refl

    each : (l : List ℕ) → all fitting (map (λ at. entry_to_obey (entry_at s kinds operands at)) l) ≡ true
    each [] = refl
    each (at ∷ l) =
        rw (either (λ m. fitting (entry_to_obey m) ≡ true) (ltb at (length kinds) && ltb at (length operands)) (meant at _ refl) refl) (each l)

module _ {M : Type 0} (b : Implementation M Entry) (proved : Proved b) where
  -- Where every number that is put fits four bytes, so does every value: the machine is blind to numbers.
  values_fit : (s : Sizes) (es : List Entry) → all fitting es ≡ true → all_below 4294967296 (map value_of (outcomes_of b (b.fresh s) es)) ≡ true
  values_fit s es fits =
      let same = ap (outcomes_of b (b.fresh s)) (sym (low_entries es fits)) ∙ proved.blind low refl s es in
      ap (λ os. all_below 4294967296 (map value_of os)) same ∙ low_values (outcomes_of b (b.fresh s) es)

  outcomes_fit : (s : Sizes) (kinds operands : List ℕ) → all_below 4294967296 operands ≡ true → all_below 4294967296 (map value_of (outcomes_from_by b s kinds operands)) ≡ true
  outcomes_fit s kinds operands below = values_fit s (entries_of s kinds operands) (entries_fit s kinds operands below)

  -- Every value of a run fits, since the operands have four bytes: that of two parts, and so that of a file.

  pub parts_values_fit : (s : Sizes) (kinds bytes : List ℕ) → all_below 256 bytes ≡ true → all_below 4294967296 (map value_of (outcomes_from_by b s kinds (words_in bytes))) ≡ true
  parts_values_fit s kinds bytes below = outcomes_fit s kinds (words_in bytes) (decode_below (length bytes / 4) 4 bytes below)

  pub file_values_fit : (file : List ℕ) → all_below 256 file ≡ true → all_below 4294967296 (map value_of (outcomes_in_by b file)) ≡ true
  file_values_fit file bytes =
      let n = entries_in file in
      outcomes_fit (sizes_in file) (kinds_in n file) (operands_in n file)
      (ap (all_below 4294967296) (operands_in_words n file) ∙ decode_below n 4 (drop (28 + n) file) (all_below_drop 256 (28 + n) file bytes))

-- so the line of each entry, in the trace of two arrays that was written over a buffer, is that of its outcome
pub line_there : {M : Type 0} (b : Implementation M Entry) (s : Sizes) (kinds operands l : List ℕ)
    → all_below 4294967296 (map value_of (outcomes_from_by b s kinds operands)) ≡ true → (at : ℕ) → at < length kinds
    → line_in (length kinds) (overwritten 0 (trace_of (outcomes_from_by b s kinds operands)) l) at ≡ line_of (get_or (outcomes_from_by b s kinds operands) at Moved)
line_there b s kinds operands l fit at there =
    let os = outcomes_from_by b s kinds operands in
    ap (λ n. line_in n (overwritten 0 (trace_of os) l) at) (sym (length-outcomes_from b s kinds operands))
    ∙ line_in_written os l at fit (omega (arith, length-outcomes_from b s kinds operands))

-- ── The parts of an accepted file ───────────────────────────────────────────────────────────────────────────────────────────

-- what the sizes and the two parts of an accepted file are, for whoever obeys them
pub record PartsOf (file : List ℕ) (s : Sizes) (kinds operands : List ℕ) (n : ℕ) : Type 0 where
  pub sizes : s ≡ sizes_in file
  pub ranged : sizes_in_range s ≡ true
  pub few : n ≤ 4096
  pub many : length kinds ≡ n
  pub allowed : check_entries s kinds (words_in operands) ≡ Ok tt
  pub entries : entries_of s kinds (words_in operands) ≡ schedule_in file

-- such are the parts that are cut out by its reading
pub parts_obeyed : (file : List ℕ) {s : Sizes} {n : ℕ} {kinds operands : List ℕ} → read_file file ≡ Ok (s, n) → kinds ≡ kind_part file (Ok (s, n)) → operands ≡ operand_part file (Ok (s, n))
    → PartsOf file s kinds operands n
parts_obeyed file {s} {n} {kinds} {operands} accepted as-kinds as-operands =
    let read = accepted_readable file s n accepted in
    let sizes = read.0 in
    let count = read.1.0 in
    let whole = accepted_long file s n accepted in
    let kinds_there : kinds ≡ kinds_in n file = as-kinds ∙ kinds_cut file s n whole in
    let operands_there : words_in operands ≡ operands_in n file = ap words_in as-operands ∙ operands_cut file s n whole in
    record {
      sizes = sizes;
      ranged = ap sizes_in_range sizes ∙ ranges_sizes (sizes_in file) (entries_in file) read.1.1.ranges;
      few = omega (arith, few_entries (sizes_in file) (entries_in file) read.1.1.ranges, count);
      many = ap length as-kinds ∙ length_kinds_cut file s n whole;
      allowed = (λ i. check_entries s (kinds_there i) (operands_there i)) ∙ (λ i. check_entries (sizes i) (kinds_in (count i) file) (operands_in (count i) file)) ∙ read.1.1.each;
      entries = (λ i. entries_of s (kinds_there i) (operands_there i)) ∙ (λ i. entries_of (sizes i) (kinds_in (count i) file) (operands_in (count i) file));
    }

-- so their outcomes, and what is told of them, are those of the file
module _ {M : Type 0} (b : Implementation M Entry) {file : List ℕ} {s : Sizes} {kinds operands : List ℕ} {n : ℕ} (parts : PartsOf file s kinds operands n) where
  pub parts_outcomes : outcomes_from_by b s kinds (words_in operands) ≡ outcomes_in_by b file
  parts_outcomes = λ i. outcomes_of b (b.fresh (parts.sizes i)) (parts.entries i)

  pub parts_summary : summary_from_by b s kinds (words_in operands) ≡ summary_in_by b file
  parts_summary = λ i. summary_by b (b.fresh (parts.sizes i)) (parts.entries i)

-- ── What decides a run ──────────────────────────────────────────────────────────────────────────────────────────────────────

module _ {M : Type 0} (b : Implementation M Entry) (file : List ℕ) (room : ℕ) where
  pub run_refused : (r : Refusal) → read_file file ≡ Err r → run_file_by b file room ≡ Err r
  run_refused r told = ap (running_by b file room) told

  module _ (s : Sizes) (n : ℕ) (told : read_file file ≡ Ok (s, n)) where
    pub run_without_room : room < trace_length n → run_file_by b file room ≡ Err Room
    run_without_room small = ap (running_by b file room) told ∙ by_test (Err Room) (Ok (summary_in_by b file)) (lt-ltb room (trace_length n) small)

    pub run_with_room : trace_length n ≤ room → run_file_by b file room ≡ Ok (summary_in_by b file)
    run_with_room fits = ap (running_by b file room) told ∙ by_test (Err Room) (Ok (summary_in_by b file)) (le-ltb room (trace_length n) fits)

  -- what was run was accepted
  pub ran_accepted : (t : Summary) → run_file_by b file room ≡ Ok t → read_file file ≡ Ok (sizes_in file, entries_in file)
  ran_accepted t e = go (read_file file) refl e
    where
      go : (r : Result (Sizes × ℕ) Refusal) → read_file file ≡ r → running_by b file room r ≡ Ok t → read_file file ≡ Ok (sizes_in file, entries_in file)
      go (Ok (s, n)) read ran = let known = accepted_readable file s n read in read ∙ (λ i. Ok (known.0 i, known.1.0 i))
      go (Err r) read ran = cc

  -- .. and what is told of it is told of the file's entries
  pub ran_summary : (t : Summary) → run_file_by b file room ≡ Ok t → summary_in_by b file ≡ t
  ran_summary t e = go (read_file file) e
    where
      summary_of_lem : Result Summary Refusal → Summary
      summary_of_lem (Ok t) = t
      summary_of_lem (Err r) = summary_in_by b file

      go : (r : Result (Sizes × ℕ) Refusal) → running_by b file room r ≡ Ok t → summary_in_by b file ≡ t
      go (Ok (s, n)) ran = sym (either (λ r. summary_of_lem r ≡ summary_in_by b file) (ltb room (trace_length n)) refl refl) ∙ ap summary_of_lem ran
      go (Err r) ran = ap summary_of_lem ran

-- ── A trace that fits ───────────────────────────────────────────────────────────────────────────────────────────────────────

-- whether a trace fits: of at most 4,096 entries it is the room that decides

pub trace_fits_lem : (n room : ℕ) → n ≤ 4096 → trace_length n ≤ room → trace_fits n room ≡ true
trace_fits_lem n room few enough = λ i. le-leb n 4096 few i && le-leb (trace_length n) room enough i

pub fits_room : (n room : ℕ) → trace_fits n room ≡ true → trace_length n ≤ room
fits_room n room fits = leb-true (trace_length n) room (and_right (leb n 4096) (leb (trace_length n) room) fits)

pub fits_few : (n room : ℕ) → trace_fits n room ≡ true → n ≤ 4096
fits_few n room fits = leb-true n 4096 (and_left (leb n 4096) (leb (trace_length n) room) fits)

pub fits_not : (n room : ℕ) → n ≤ 4096 → trace_fits n room ≡ false → room < trace_length n
fits_not n room few none = leb-false (trace_length n) room (ap (λ b. b && leb (trace_length n) room) (sym (le-leb n 4096 few)) ∙ none)

-- the longest trace has room for that of any run
pub longest_fits : (n : ℕ) → n ≤ 4096 → trace_fits n (length (replicate {A = ℕ} 20484 0)) ≡ true
longest_fits n few = trace_fits_lem n (length (replicate {A = ℕ} 20484 0)) few (rw (length-replicate {A = ℕ} 20484 0) (omega arith))

-- a trace that fits stands in the buffer
pub trace_put_lem : (os : List Outcome) (buffer : List ℕ) → trace_fits (length os) (length buffer) ≡ true → trace_put os buffer ≡ overwritten 0 (trace_of os) buffer
trace_put_lem os buffer fits = by_test _ _ fits

-- .. as that of an accepted file does where there is room for it ..
pub trace_after_run : {M : Type 0} (b : Implementation M Entry) (file trace : List ℕ) {s : Sizes} {n : ℕ} → read_file file ≡ Ok (s, n) → trace_fits n (length trace) ≡ true
    → trace_after_by b file trace ≡ trace_put (outcomes_in_by b file) trace
trace_after_run b file trace {s} {n} accepted fits =
    let os = outcomes_in_by b file in
    ap (trace_if (trace_of os) trace) (run_with_room b file (length trace) s n accepted (fits_room n (length trace) fits))
    ∙ sym (trace_put_lem os trace (ap (λ k. trace_fits k (length trace)) (outcomes_counted b file s n accepted) ∙ fits))

-- .. and that of at most 4,096 outcomes in the longest trace
pub longest_put : (os : List Outcome) → length os ≤ 4096 → trace_put os (replicate 20484 0) ≡ overwritten 0 (trace_of os) (replicate 20484 0)
longest_put os few = trace_put_lem os (replicate 20484 0) (longest_fits (length os) few)
