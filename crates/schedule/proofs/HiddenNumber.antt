-- How far memory lags in a run, of any queue: never more than the needed margin, where that is so of lists of entries.
use mathlib.Core.Path.{refl, ap, subst}
use mathlib.Core.List.{List}
use Prim.Native.Nat.{ℕ, ◌≤◌}
use Rattle.terms.specs.Lists.{IsLargest, largest}
use Rattle.terms.specs.Sizes.{needed_margin}
use Rattle.terms.proofs.Laws.Largest.{largest_is_largest, largest_within}
use Rattle.claim.specs.Implementation.{Implementation}
use Rattle.claim.specs.Run.{hidden_of}
use Rattle.schedule.specs.Types.{Entry}
use Rattle.schedule.specs.Format.{entries_in, sizes_in}
use Rattle.schedule.specs.Hidden.{LagBounded, RunWithinNeeded}
use Rattle.schedule.specs.Run.{run_file_by, schedule_in}
use Rattle.schedule.proofs.Laws.Proved.{Proved}
use Rattle.schedule.proofs.Laws.Reader.{accepted_readable}
use Rattle.schedule.proofs.Laws.Run.{parts_obeyed, ran_accepted, ran_summary}

module _ {M : Type 0} (b : Implementation M Entry) (proved : Proved b) where
  pub lag_bounded : LagBounded b
  lag_bounded file s n accepted =
      let numbers = hidden_of b (b.fresh s) (schedule_in file) in
      -- the sizes that were read are those of the file, by which it is run
      let same = ap (λ t. largest (hidden_of b (b.fresh t) (schedule_in file))) (accepted_readable file s n accepted).0 in
      record {
        largest_told = subst (IsLargest numbers) same (largest_is_largest numbers);
        within_needed = subst (λ k. k ≤ needed_margin s.buffer s.spacing) same (largest_within numbers (needed_margin s.buffer s.spacing) (proved.lag s (schedule_in file) (parts_obeyed file accepted refl refl).ranged));
      }

  pub run_within_needed : (file : List ℕ) (room : ℕ) → RunWithinNeeded file (run_file_by b file room)
  run_within_needed file room t ran =
      let s = sizes_in file in
      subst (λ u. u.hidden ≤ needed_margin s.buffer s.spacing) (ran_summary b file room t ran) (lag_bounded file s (entries_in file) (ran_accepted b file room t ran)).within_needed
