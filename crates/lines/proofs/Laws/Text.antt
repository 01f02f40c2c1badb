-- Laws of text that is put piece by piece, each right behind the one before: digits, and what is gathered over places.
use mathlib.Core.Path.{◌≡◌, ap, ◌∙◌, subst}
use mathlib.Core.List.{List, [], ◌∷◌, ◌++◌, append_assoc, append-nil}
use Prim.Native.Nat.{ℕ, ◌+◌, ◌≤◌, ◌<◌}
use native.Mathlib.Numerals.{add-one}
use native.Mathlib.Omega.{arith}
use lib.ListN.{length, get_or, length-append, take}
use lib.Seq.{take-suc}
use Rattle.terms.specs.Lists.{concat_map, range}
use Rattle.terms.proofs.Laws.Sums.{concat_map-append, range_suc}
use Rattle.number.specs.Number.{overwritten}
use Rattle.number.proofs.Laws.Overwritten.{overwritten_behind}
use Rattle.lines.specs.Types.{Text}
use Rattle.lines.specs.Appends.{Appends}
use Rattle.lines.specs.Text.{ascii, joined, line}

-- text right behind other text makes one piece with it
pub appends_more : {m n : ℕ} {a b : List ℕ} {x y z : Text} → Appends m a x y → Appends n b y z → x.length ≤ length x.bytes → Appends (m + n) (a ++ b) x z
appends_more {m} {n} {a} {b} {x} {y} {z} p q inside =
    record {
      there = q.there ∙ (λ i. overwritten (p.ends i) b (p.there i)) ∙ overwritten_behind x.length a x.bytes b inside;
      ends = q.ends ∙ omega (arith, p.ends, length-append a b);
      within = omega (arith, p.within, q.within, length-append a b);
    }

-- text by another name
pub appends_as : {m : ℕ} {a b : List ℕ} {x y : Text} → a ≡ b → Appends m a x y → Appends m b x y
appends_as {m} {a} {b} {x} {y} same p = subst (λ l. Appends m l x y) same p

-- at most so many bytes are at most more
pub appends_within : {m n : ℕ} {a : List ℕ} {x y : Text} → m ≤ n → Appends m a x y → Appends n a x y
appends_within {m} {n} {a} {x} {y} most p = record { there = p.there; ends = p.ends; within = omega (arith, most, p.within) }

-- ── Lines ───────────────────────────────────────────────────────────────────────────────────────────────────────────────────

-- Words that each have a space behind them, and a last one with a line end behind it, are a line; so it is with another end.

pub three_words : (a b c : List ℕ) → (a ++ ascii " ") ++ (b ++ ascii " ") ++ (c ++ ascii "\n") ≡ line (a ∷ b ∷ c ∷ [])
three_words a b c = simp append_assoc

pub four_words_lem : (a b c d : List ℕ) → (a ++ ascii " ") ++ (b ++ ascii " ") ++ (c ++ ascii " ") ++ (d ++ ascii "\n") ≡ line (a ∷ b ∷ c ∷ d ∷ [])
four_words_lem a b c d = simp append_assoc

pub six_words : (end a b c d e f : List ℕ)
    → (a ++ ascii " ") ++ (b ++ ascii " ") ++ (c ++ ascii " ") ++ (d ++ ascii " ") ++ (e ++ ascii " ") ++ (f ++ end)
    ≡ joined end (a ∷ b ∷ c ∷ d ∷ e ∷ f ∷ [])
six_words end a b c d e f = simp append_assoc

-- words with a space behind the last, and a line behind them, are a line
pub joined_more : (a : List ℕ) (l : List (List ℕ)) (b : List ℕ) (m : List (List ℕ))
    → joined (ascii " ") (a ∷ l) ++ line (b ∷ m) ≡ line ((a ∷ l) ++ (b ∷ m))
joined_more a [] b m = append_assoc a (ascii " ") (line (b ∷ m))
joined_more a (c ∷ l) b m =
    append_assoc a (ascii " " ++ joined (ascii " ") (c ∷ l)) (line (b ∷ m))
    ∙ ap (λ rest. a ++ (ascii " " ++ rest)) (joined_more c l b m)

pub seven_words : (a b c d e f g : List ℕ)
    → (a ++ ascii " ") ++ (b ++ ascii " ") ++ (c ++ ascii " ") ++ (d ++ ascii " ") ++ (e ++ ascii " ") ++ (f ++ ascii " ") ++ (g ++ ascii "\n")
    ≡ line (a ∷ b ∷ c ∷ d ∷ e ∷ f ∷ g ∷ [])
seven_words a b c d e f g = simp append_assoc

-- ── What is gathered over places ────────────────────────────────────────────────────────────────────────────────────────────

module _ {A : Type 0} (f : A → List ℕ) where
  concat_map_snoc : (l : List A) (x : A) → concat_map f (l ++ (x ∷ [])) ≡ concat_map f l ++ f x
  concat_map_snoc l x = concat_map-append f l (x ∷ []) ∙ ap (λ r. concat_map f l ++ r) (append-nil (f x))

  pub concat_map_more : (l : List A) (d : A) (k : ℕ) → k < length l → concat_map f (take (k + 1) l) ≡ concat_map f (take k l) ++ f (get_or l k d)
  concat_map_more l d k there = rw (add-one, take-suc l k d there) (concat_map_snoc (take k l) (get_or l k d))

pub concat_map_next : (f : ℕ → List ℕ) (n : ℕ) → concat_map f (range (n + 1)) ≡ concat_map f (range n) ++ f n
concat_map_next f n = ap (concat_map f) (range_suc n) ∙ concat_map_snoc f (range n) n
