-- Laws of entries obeyed one after the other, by any transition function.
use mathlib.Core.Path.{◌≡◌, refl, ap}
use mathlib.Core.List.{List, [], ◌∷◌, ◌++◌}
use Prim.Native.Nat.{ℕ, zero, suc, ◌<◌}
use native.Mathlib.Nat.{le_of_suc-le-suc, not-suc-le-zero}
use lib.ListN.{get_or, length, take}
use Rattle.terms.specs.Lists.{after, each}

module _ {M E : Type 0} (next : M → E → M) where
  -- one entry more

  pub after_more : (m : M) (es : List E) (e : E) → after next m (es ++ (e ∷ [])) ≡ next (after next m es) e
  after_more m [] e = refl
  after_more m (d ∷ es) e = after_more (next m d) es e

  module _ {A : Type 0} (part : M → E → A) where
    pub each_more : (m : M) (es : List E) (e : E) → each next part m (es ++ (e ∷ [])) ≡ each next part m es ++ (part (after next m es) e ∷ [])
    each_more m [] e = refl
    each_more m (d ∷ es) e = ap (λ l. part m d ∷ l) (each_more (next m d) es e)

    -- there is one for each entry
    pub length_each : (m : M) (es : List E) → length (each next part m es) ≡ length es
    length_each m [] = refl
    length_each m (e ∷ es) = ap suc (length_each (next m e) es)

    -- .. at its place what comes of that entry on the state left by those before it
    pub each_there : (m : M) (es : List E) (at : ℕ) (a : A) (e : E) → at < length es → get_or (each next part m es) at a ≡ part (after next m (take at es)) (get_or es at e)
    each_there m [] at a e inside = absurd (not-suc-le-zero inside)
    each_there m (d ∷ es) zero a e inside = refl
    each_there m (d ∷ es) (suc at) a e inside = each_there (next m d) es at a e (le_of_suc-le-suc inside)
