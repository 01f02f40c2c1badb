-- What an entry comes to, whatever the machine, as far as it is alike for every queue: an entry that is refused, one that goes on, and one that answers.
use mathlib.Core.Path.{◌≡◌, refl, sym, ◌∙◌}
use mathlib.Core.Bool.{true, false, false≢true}
use Prim.Native.Nat.{ℕ}
use Rattle.terms.specs.Outcome.{is_answer, is_refusal}
use Rattle.claim.specs.Types.{Entry, Outcome, Moved, Sizes}
use Rattle.claim.specs.Calls.{is_step}

-- a machine's sizes, and the number that is handed on for it
module _ {M : Type 0} (sizes_of : M → Sizes) (hidden : M → ℕ) where
  -- The entry e on the machine m has the outcome o, hands on the number h and leaves the machine n.
  pub record Obeys (m : M) (e : Entry) (o : Outcome) (h : ℕ) (n : M) : Type 0 where
    -- 5, 6 and 7 leave the machine as it is
    pub keeps : is_refusal o ≡ true → n ≡ m
    -- no entry changes the sizes
    pub sizes : sizes_of n ≡ sizes_of m
    -- 16 to 21 come only at steps
    pub answers : is_answer o ≡ true → is_step e ≡ true
    -- the number is that of the machine that is left
    pub hands_on : h ≡ hidden n

  module _ {m : M} {e : Entry} where
    -- handed back as it was
    pub refuses : {o : Outcome} → is_answer o ≡ false → Obeys m e o (hidden m) m
    refuses no_answer = record { keeps = λ r. refl; sizes = refl; answers = λ a. absurd (false≢true (sym no_answer ∙ a)); hands_on = refl }

    -- changed, and the call goes on
    pub moves : {n : M} → sizes_of n ≡ sizes_of m → Obeys m e Moved (hidden n) n
    moves same = record { keeps = λ r. absurd (false≢true r); sizes = same; answers = λ a. absurd (false≢true a); hands_on = refl }

    -- .. or ends
    pub answers : {n : M} {o : Outcome} → is_refusal o ≡ false → sizes_of n ≡ sizes_of m → is_step e ≡ true → Obeys m e o (hidden n) n
    answers no-refusal same step = record { keeps = λ r. absurd (false≢true (sym no-refusal ∙ r)); sizes = same; answers = λ a. step; hands_on = refl }
