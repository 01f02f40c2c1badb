-- The accounts of some lists, computed: numbered apart, the numbers that were given, are held or stand, and those of the STORED puts. With enough margin they are the same numbers;
-- with a margin that is short, a task is given twice, or lost. `proofs/Accounts.antt` proves that every row holds, of FF-THE and of FF-CL, and that the last three statements are true.
use Rattle.std.specs.Prelude.{Bool, ◌&&◌, List, [], ◌∷◌, ◌++◌, ℕ}
use Rattle.terms.specs.Lists.{equal}
use Rattle.terms.specs.Sizes.{sized}
use Rattle.claim.specs.Implementation.{Implementation}
use Rattle.claim.specs.Stories.{Line, does, drains, entries_in, filled, puts, thief_moves, worker_moves}
use Rattle.machine.specs.Linearizable.{ff_the}
use Rattle.machine.specs.Rehearsals.{m2, m2_sizes, m3, m3_sizes}
use Rattle.cas.specs.Linearizable.{ff_cl}
use Rattle.cas.specs.Stories.{begins, enough, one_short, take_looks}
use Rattle.cas.specs.Rehearsals.{given_twice}
use Rattle.properties.specs.Types.{BeginSteal, BeginTake, Entry, Moved, Sizes}
use Rattle.properties.specs.ExactlyOnce.{ExactlyOnce, given, held, numbered_apart, standing, stored}

pub data Row : Type 0 where
  account : Sizes → List Line → (given held standing stored : List ℕ) → Row

abbrev pub holds : {M : Type 0} → Implementation M Entry → Row → Bool
holds b (account s l g h t p) =
    equal (given b s (numbered_apart (entries_in l))) g
    && equal (held b s (numbered_apart (entries_in l))) h
    && equal (standing b s (numbered_apart (entries_in l))) t
    && equal (stored b s (numbered_apart (entries_in l))) p

-- ── FF-THE ──────────────────────────────────────────────────────────────────────────────────────────────────────────────────

-- M2's 11 is given twice; a task that is put then is lost: it lies below head, which the second of the two has raised
abbrev pub lost : List Line
lost = m2 ++ drains 2 ++ puts 13

-- two tasks of one number, of which a take has one and has yet to answer
abbrev pub one_held : List Line
one_held = puts 7 ++ drains 2 ++ puts 7 ++ drains 2 ++ does BeginTake Moved ∷ worker_moves 2

-- a steal has raised head, and a take has lowered the tail, and neither has got a task
abbrev pub head_raised : List Line
head_raised = filled 2 ++ does (BeginSteal 0) Moved ∷ thief_moves 3

abbrev pub tail_lowered : List Line
tail_lowered = filled 2 ++ does BeginTake Moved ∷ worker_moves 1

abbrev pub accounts : List Row
accounts =
    account m3_sizes m3 (2 ∷ 1 ∷ []) [] [] (1 ∷ 2 ∷ [])
    ∷ account m2_sizes m2 (2 ∷ 1 ∷ 1 ∷ []) [] [] (1 ∷ 2 ∷ [])
    ∷ account m2_sizes lost (2 ∷ 1 ∷ 1 ∷ []) [] [] (1 ∷ 2 ∷ 3 ∷ [])
    ∷ account m3_sizes one_held [] (2 ∷ []) (1 ∷ []) (1 ∷ 2 ∷ [])
    ∷ account m3_sizes head_raised [] [] (1 ∷ 2 ∷ []) (1 ∷ 2 ∷ [])
    ∷ account m3_sizes tail_lowered [] [] (1 ∷ 2 ∷ []) (1 ∷ 2 ∷ [])
    -- both at once: a steal has raised head, and a take has lowered the tail
    ∷ account m3_sizes (head_raised ++ does BeginTake Moved ∷ worker_moves 1) [] [] (1 ∷ 2 ∷ []) (1 ∷ 2 ∷ [])
    ∷ account (sized 4 2 1 1 1 0) (filled 3 ++ does (BeginSteal 0) Moved ∷ thief_moves 4) [] (1 ∷ []) (2 ∷ 3 ∷ []) (1 ∷ 2 ∷ 3 ∷ [])
    ∷ []

-- ── FF-CL ───────────────────────────────────────────────────────────────────────────────────────────────────────────────────

-- a take of the last task, up to its swap
abbrev pub last_taken : List Line
last_taken = filled 1 ++ take_looks ++ worker_moves 1 ++ drains 2

abbrev pub cas_accounts : List Row
cas_accounts =
    -- a take above head holds its task; one at head leaves it standing until its swap is won, and holds it from then on
    account enough (filled 2 ++ take_looks) [] (2 ∷ []) (1 ∷ []) (1 ∷ 2 ∷ [])
    ∷ account enough last_taken [] [] (1 ∷ []) (1 ∷ [])
    ∷ account enough (last_taken ++ worker_moves 1) [] (1 ∷ []) [] (1 ∷ [])
    -- a thief that has loaded a task leaves it standing until its swap
    ∷ account enough (filled 3 ++ begins 0 ++ thief_moves 3) [] [] (1 ∷ 2 ∷ 3 ∷ []) (1 ∷ 2 ∷ 3 ∷ [])
    -- with a margin one short, a task that the worker has is stolen too
    ∷ account one_short given_twice (3 ∷ 2 ∷ 1 ∷ 2 ∷ []) [] [] (1 ∷ 2 ∷ 3 ∷ [])
    ∷ []

-- ── What violates it ────────────────────────────────────────────────────────────────────────────────────────────────────────

-- M2's run violates `ExactlyOnce`, since put 1 is given twice; and so does the run in which put 3 is lost
abbrev pub GivenTwiceViolates : Type 0
GivenTwiceViolates = ExactlyOnce ff_the m2_sizes (entries_in m2) → ⊥

abbrev pub LostViolates : Type 0
LostViolates = ExactlyOnce ff_the m2_sizes (entries_in lost) → ⊥

-- FF-CL's run with a margin one short does too: put 2 is given twice
abbrev pub CasGivenTwiceViolates : Type 0
CasGivenTwiceViolates = ExactlyOnce ff_cl one_short (entries_in given_twice) → ⊥
