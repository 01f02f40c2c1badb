-- Every row of the tables of accounts holds, by one computation each; and the runs that give a task twice or lose one violate the claim.
use mathlib.Core.Path.{◌≡◌, refl}
use mathlib.Core.Bool.{true}
use Prim.Native.Nat.{ℕ}
use native.Mathlib.Omega.{arith}
use Rattle.terms.specs.Lists.{all}
use Rattle.stores.specs.Look.{memory_in_range}
use Rattle.machine.specs.InRange.{in_range}
use Rattle.machine.specs.Linearizable.{ff_the}
use Rattle.cas.specs.Machine.{in_range as cas_in_range}
use Rattle.cas.specs.Linearizable.{ff_cl}
use Rattle.properties.specs.Accounts.{CasGivenTwiceViolates, GivenTwiceViolates, LostViolates, accounts, cas_accounts, holds}

pub accounts_hold : all (holds ff_the) accounts ≡ true
unfolding in_range memory_in_range
accounts_hold = refl

pub cas_accounts_hold : all (holds ff_cl) cas_accounts ≡ true
unfolding cas_in_range memory_in_range
cas_accounts_hold = refl

-- put 1 was given twice
pub given_twice_violates : GivenTwiceViolates
unfolding in_range memory_in_range
given_twice_violates v =
    let e : ◌≡◌ {A = ℕ} 2 1 = v.together 1 in
    omega arith

-- put 3 was given to nobody, and does not stand
pub lost_violates : LostViolates
unfolding in_range memory_in_range
lost_violates v =
    let e : ◌≡◌ {A = ℕ} 0 1 = v.together 3 in
    omega arith

-- put 2 was given twice
pub cas_given_twice_violates : CasGivenTwiceViolates
unfolding cas_in_range memory_in_range
cas_given_twice_violates v =
    let e : ◌≡◌ {A = ℕ} 2 1 = v.together 2 in
    omega arith
