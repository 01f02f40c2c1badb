-- What an operation hands back, of whichever machine. Renders, of request 4 in 02, that the number is handed on with the outcome.
use Rattle.std.specs.Prelude.{ℕ}
use Rattle.stores.specs.Types.{Done, Outcome}

-- with any number; each machine says which is the right one
abbrev pub handing : {M : Type 0} → Outcome → ℕ → M → Done M
handing o n m = record { machine = m; outcome = o; hidden = n }
