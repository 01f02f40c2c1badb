-- The lock: whether nobody holds it.
use Rattle.std.specs.Prelude.{Bool, true, false}
use Rattle.stores.specs.Types.{Holder, Nobody, TheWorker, TheThief}

abbrev pub is_nobody : Holder → Bool
is_nobody Nobody = true
is_nobody TheWorker = false
is_nobody (TheThief i) = false
