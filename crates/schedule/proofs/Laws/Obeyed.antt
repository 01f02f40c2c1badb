-- Laws of a run that has reached a place: what machine, summary and trace buffer are there; that it is so at first, and with each entry more; and what it says at the end. They hold of any queue, from any of its machines on.
use mathlib.Core.Path.{◌≡◌, refl, ap, sym, ◌∙◌}
use mathlib.Core.Bool.{Bool, true, false, cond}
use mathlib.Core.List.{List, [], ◌∷◌, ◌++◌}
use Prim.Native.Nat.{ℕ, ◌+◌, ◌*◌, ◌≤◌, ◌<◌, max}
use native.Mathlib.Omega.{arith}
use lib.ListN.{length}
use Rattle.claim.specs.Implementation.{Implementation}
use Rattle.claim.specs.Run.{hidden_of, machine_after, outcomes_of}
use Rattle.terms.specs.Lists.{largest}
use Rattle.terms.specs.Outcome.{number_of, value_of}
use Rattle.terms.specs.Tally.{counted, none_counted}
use Rattle.terms.proofs.Laws.Largest.{largest_more}
use Rattle.terms.proofs.Laws.Runs.{after_more, each_more}
use Rattle.terms.proofs.Laws.Tests.{either}
use Rattle.schedule.specs.Types.{Entry, Outcome, Sizes, Summary}
use Rattle.schedule.specs.Entries.{entry_at, entry_to_obey}
use Rattle.number.specs.Number.{little_endian, overwritten}
use Rattle.schedule.specs.Run.{entries_of, trace_put}
use Rattle.schedule.specs.Totals.{summary_by, tally_of}
use Rattle.schedule.specs.Trace.{trace_fits, trace_of}
use Rattle.schedule.proofs.Laws.Run.{entries_up_to, entries_up_to_more, fits_room, length_entries_up_to, length-outcomes_of, tally_of_more}
use Rattle.schedule.proofs.Laws.Trace.{trace_so_far, trace_so_far_all, trace_so_far_more, trace_so_far_none}

-- the outcomes of the first entries
abbrev pub outcomes_up_to : {M : Type 0} → Implementation M Entry → M → Sizes → List ℕ → List ℕ → ℕ → List Outcome
outcomes_up_to b m s kinds operands at = outcomes_of b m (entries_up_to s kinds operands at)

-- machine, summary and trace buffer after so many entries; l is the buffer as it was lent, and stays so if the trace does not fit
pub record Obeyed {M : Type 0} (b : Implementation M Entry) (m : M) (s : Sizes) (kinds operands l trace : List ℕ) (machine : M) (summary : Summary) (at : ℕ) : Type 0 where
  pub machine_then : machine ≡ machine_after b m (entries_up_to s kinds operands at)
  pub summary_then : summary ≡ summary_by b m (entries_up_to s kinds operands at)
  pub trace_then : trace ≡ cond (trace_fits (length kinds) (length l)) (trace_so_far (length kinds) (outcomes_up_to b m s kinds operands at) l) l
  pub as_long : length trace ≡ length l
  pub within : at ≤ length kinds

length_outcomes_up_to : {M : Type 0} (b : Implementation M Entry) (m : M) (s : Sizes) (kinds operands : List ℕ) (at : ℕ) → length (outcomes_up_to b m s kinds operands at) ≡ at
length_outcomes_up_to b m s kinds operands at = length-outcomes_of b m (entries_up_to s kinds operands at) ∙ length_entries_up_to s kinds operands at

-- the two stores of an outcome behind these, if the trace of n entries fits
abbrev stored : ℕ → List Outcome → Outcome → List ℕ → List ℕ → Bool → Type 0
stored n os o trace after fits =
    after ≡ cond fits (overwritten (4 + n + 4 * length os) (little_endian 4 (value_of o)) (overwritten (4 + length os) (number_of o ∷ []) trace)) trace

trace_more : (n : ℕ) (l : List ℕ) (os : List Outcome) (o : Outcome) → length os < n → (trace after : List ℕ) (fits : Bool) → trace_fits n (length l) ≡ fits
    → trace ≡ cond fits (trace_so_far n os l) l → stored n os o trace after fits → after ≡ cond fits (trace_so_far n (os ++ (o ∷ [])) l) l
trace_more n l os o more trace after true fits so_far put =
    put
    ∙ ap (λ t. overwritten (4 + n + 4 * length os) (little_endian 4 (value_of o)) (overwritten (4 + length os) (number_of o ∷ []) t)) so_far
    ∙ trace_so_far_more n os o l more (omega (arith, fits_room n (length l) fits))
trace_more n l os o more trace after false fits so_far put = put ∙ so_far

module _ {M : Type 0} {b : Implementation M Entry} {m : M} {s : Sizes} {kinds operands l : List ℕ} where
  pub obeyed_none : {machine : M} {summary : Summary} → machine ≡ m → summary ≡ record { tally = none_counted; hidden = 0 } → Obeyed b m s kinds operands l l machine summary 0
  obeyed_none same none =
      record {
        machine_then = same;
        summary_then = none;
        trace_then = either (λ t. l ≡ t) (trace_fits (length kinds) (length l)) (trace_so_far_none (length kinds) l) refl;
        as_long = refl;
        within = omega arith;
      }

  module _ {trace : List ℕ} {machine : M} {summary : Summary} {at : ℕ} (so_far : Obeyed b m s kinds operands l trace machine summary at) where
    -- what the step and the two stores of an entry leave
    pub obeyed_more : at < length kinds
        → {e : Entry} → e ≡ entry_to_obey (entry_at s kinds operands at)
        → {next : M} → next ≡ b.next machine e
        → {outcome : Outcome} → outcome ≡ b.outcome machine e
        → {number : ℕ} → number ≡ b.hidden machine e
        → {told : Summary} → told ≡ record { tally = counted summary.tally outcome; hidden = max summary.hidden number }
        → {after : List ℕ} → length after ≡ length trace
        → after ≡ cond (trace_fits (length kinds) (length trace)) (overwritten (4 + length kinds + 4 * at) (little_endian 4 (value_of outcome)) (overwritten (4 + at) (number_of outcome ∷ []) trace)) trace
        → Obeyed b m s kinds operands l after next told (at + 1)
    obeyed_more inside meant by_next {outcome} by-outcome {number} by_number by_telling {after} kept put =
        let n = length kinds in
        let es = entries_up_to s kinds operands at in
        let os = outcomes_of b m es in
        -- the entry, as one for the machine and the totals that the entries before left
        let here = entry_to_obey (entry_at s kinds operands at) in
        let o = b.outcome (machine_after b m es) here in
        let outcome_then : outcome ≡ o = by-outcome ∙ (λ i. b.outcome (so_far.machine_then i) (meant i)) in
        let number_then : number ≡ b.hidden (machine_after b m es) here = by_number ∙ (λ i. b.hidden (so_far.machine_then i) (meant i)) in
        let entries-more = entries_up_to_more s kinds operands at in
        let outcomes_more : os ++ (o ∷ []) ≡ outcomes_up_to b m s kinds operands (at + 1) = sym (ap (outcomes_of b m) entries-more ∙ each_more b.next b.outcome m es here) in
        let tally_more : counted (tally_of os) o ≡ tally_of (outcomes_up_to b m s kinds operands (at + 1)) = sym (tally_of_more os o) ∙ ap tally_of outcomes_more in
        let hidden_more : max (largest (hidden_of b m es)) (b.hidden (machine_after b m es) here) ≡ largest (hidden_of b m (entries_up_to s kinds operands (at + 1))) =
        sym (ap (λ es. largest (hidden_of b m es)) entries-more ∙ ap largest (each_more b.next b.hidden m es here) ∙ largest_more (hidden_of b m es) _) in
        let count : at ≡ length os = sym (length_outcomes_up_to b m s kinds operands at) in
        let long = so_far.as_long in
        let put_here : stored n os o trace after (trace_fits n (length l)) =
        put
        ∙ (λ i. cond (trace_fits n (long i)) (overwritten (4 + n + 4 * count i) (little_endian 4 (value_of (outcome_then i))) (overwritten (4 + count i) (number_of (outcome_then i) ∷ []) trace)) trace) in
        record {
          machine_then = by_next ∙ (λ i. b.next (so_far.machine_then i) (meant i)) ∙ sym (ap (machine_after b m) entries-more ∙ after_more b.next m es here);
          summary_then =
              by_telling
              ∙ (λ i. record { tally = counted (so_far.summary_then i).tally (outcome_then i); hidden = max (so_far.summary_then i).hidden (number_then i) })
              ∙ (λ i. record { tally = tally_more i; hidden = hidden_more i });
          trace_then =
              trace_more n l os o (omega arith) trace after (trace_fits n (length l)) refl so_far.trace_then put_here
              ∙ ap (λ os. cond (trace_fits n (length l)) (trace_so_far n os l) l) outcomes_more;
          as_long = kept ∙ long;
          within = omega arith;
        }

    -- at the end the number of entries is all that the trace lacks
    pub obeyed_all : length kinds ≤ at
        → {after : List ℕ} → after ≡ cond (trace_fits (length kinds) (length trace)) (overwritten 0 (little_endian 4 (length kinds)) trace) trace
        → (summary ≡ summary_by b m (entries_of s kinds operands)) × (after ≡ trace_put (outcomes_of b m (entries_of s kinds operands)) l)
    obeyed_all end put =
        let n = length kinds in
        let last : at ≡ n = omega (arith, so_far.within) in (
          so_far.summary_then ∙ ap (λ at. summary_by b m (entries_up_to s kinds operands at)) last,
          put
              ∙ ap (λ k. cond (trace_fits n k) (overwritten 0 (little_endian 4 n) trace) trace) so_far.as_long
              ∙ whole (trace_fits n (length l)) refl (so_far.trace_then ∙ ap (λ at. cond (trace_fits n (length l)) (trace_so_far n (outcomes_up_to b m s kinds operands at) l) l) last)
              ∙ ap (λ k. cond (trace_fits k (length l)) (overwritten 0 (trace_of os) l) l) count,
        )
      where
        os : List Outcome
        os = outcomes_of b m (entries_of s kinds operands)

        count : length kinds ≡ length os
        count = sym (length_outcomes_up_to b m s kinds operands (length kinds))

        whole : (fits : Bool) → trace_fits (length kinds) (length l) ≡ fits → trace ≡ cond fits (trace_so_far (length kinds) os l) l
            → cond fits (overwritten 0 (little_endian 4 (length kinds)) trace) trace ≡ cond fits (overwritten 0 (trace_of os) l) l
        whole true fits so_far =
            ap (overwritten 0 (little_endian 4 (length kinds))) so_far
            ∙ (λ i. overwritten 0 (little_endian 4 (count i)) (trace_so_far (count i) os l))
            ∙ trace_so_far_all os l (omega (arith, fits_room (length kinds) (length l) fits, count))
        whole false fits so_far = so_far
