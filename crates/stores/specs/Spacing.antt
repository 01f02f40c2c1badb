-- The spacing rule. Renders the paragraph on it in "The machine", as request 1 widens it, and, of "Parts", the range of the spacing count. That a take which is too early gets 6 EARLY, and
-- that the count begins anew as a take begins, is in `Entries`, of each machine.
use Rattle.std.specs.Prelude.{Bool, true, false, cond, ◌&&◌, ℕ, ◌+◌, leb, ltb}
use Rattle.stores.specs.Types.{Entry, Drain, ClientStore, BeginPut, BeginTake, WorkerStep, BeginSteal, ThiefStep, Maker, TheClient, APut, ATake, Option, StoreKind, None, Some, Spacing}

-- before the first take the count is 0
abbrev pub no_take : Spacing
no_take = record { count = 0; begun = false }

-- as a take begins: stores are counted from here
abbrev pub take_begins : Spacing
take_begins = record { count = 0; begun = true }

-- the rule: whose stores count. A client's and a put's do; a take's do not, not even the tail that it puts back.
abbrev pub counts : Maker → Bool
counts TheClient = true
counts APut = true
counts ATake = false

-- after one more store that counts: one more once a take has begun; until then the count is 0
abbrev pub counted : Spacing → Spacing
counted s = record { count = cond s.begun (s.count + 1) 0; begun = s.begun }

-- after an entry, by the store that it has made pending; an entry that makes none leaves all as it is, and so does a put that answers FULL or END
abbrev pub counted_in : Option (Maker × StoreKind) → Spacing → Spacing
counted_in None s = s
counted_in (Some (maker, kind)) s = cond (counts maker) (counted s) s

-- .. unless the count is out of range: then all stays as it is
abbrev pub counted_in_or_same : Option (Maker × StoreKind) → Spacing → Spacing
counted_in_or_same p s = cond (ltb 4096 s.count) s (counted_in p s)

-- after an entry that is not refused: a take that begins counts anew, and any other entry counts the store that it has made; for the code alone
abbrev pub spacing_after : Entry → Option (Maker × StoreKind) → Spacing → Spacing
spacing_after BeginTake p s = take_begins
spacing_after ClientStore p s = counted_in_or_same p s
spacing_after (BeginPut x) p s = counted_in_or_same p s
spacing_after WorkerStep p s = counted_in_or_same p s
spacing_after Drain p s = counted_in_or_same p s
spacing_after (BeginSteal i) p s = counted_in_or_same p s
spacing_after (ThiefStep i) p s = counted_in_or_same p s

-- a take has begun before, and fewer stores were counted since then than the spacing
abbrev pub too_early : Spacing → ℕ → Bool
too_early s spacing = s.begun && ltb s.count spacing

abbrev pub spacing_in_range : Spacing → Bool
spacing_in_range s = leb s.count 4096
