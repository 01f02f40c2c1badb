-- Every row of the table holds, by one computation; and the run whose margin is one short violates the claim.
use mathlib.Core.Path.{◌≡◌, refl, sym, ◌∙◌}
use mathlib.Core.Bool.{true, false, false≢true}
use Rattle.terms.specs.Lists.{all}
use Rattle.claim.specs.PlainQueue.{within_limits}
use Rattle.claim.specs.Stories.{entries_in}
use Rattle.claim.specs.Watch.{events, watch_fresh}
use Rattle.stores.specs.Look.{memory_in_range}
use Rattle.cas.specs.Machine.{in_range}
use Rattle.cas.specs.Linearizable.{ff_cl, limits}
use Rattle.cas.specs.Stories.{one_short, row_holds}
use Rattle.cas.specs.Rehearsals.{GivenTwiceViolates, every_number_shown, given_twice, limits_at_their_edges, rows}

pub rows_hold : all row_holds rows ≡ true
unfolding in_range memory_in_range
rows_hold = refl

-- the limits at their edges
pub limits_hold : all (λ t. t) limits_at_their_edges ≡ true
limits_hold = refl

-- the table shows every number that an outcome can have
pub every_number_shown_lem : every_number_shown ≡ true
every_number_shown_lem = refl

-- the second steal gets a task where none stands: of three that were STORED the worker has two, and the first steal has the third
limit_broken : all (λ v. all (within_limits (limits one_short) v.queue) v.told) (events ff_cl (watch_fresh ff_cl one_short) (entries_in given_twice)) ≡ false
unfolding in_range memory_in_range
limit_broken = refl

pub given_twice_violates : GivenTwiceViolates
given_twice_violates l = false≢true (sym limit_broken ∙ l.limits)
