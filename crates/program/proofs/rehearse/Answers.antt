use Rattle.std.proofs.Common.{[], ◌≡◌, ℕ, ◌≤◌, ◌<◌, ◌+◌, ◌⊎◌, List, ◌++◌, None, Some, IfSome, arith, length, take, drop, replicate, sym, ap, ◌∙◌, subst, append-nil, length-take-le, take_all, inl, inr}
use Rattle.std.proofs.lemmas.Bool.{cases_lt}
use Rattle.std.proofs.lemmas.List.{take_at}
use Rattle.std.proofs.lemmas.Result.{on_err_weaker, on_ok_weaker}
use Rattle.std.specs.declared.option.Option.{Option}
use Rattle.std.specs.Io.KnownBytes.{Appends, Consumes, IsAtEnd}
use Rattle.number.specs.Number.{overwritten}
use Rattle.lines.specs.Lines.{lines_of}
use Rattle.lines.proofs.Input.{beginning_decides}
use Rattle.program.proofs.rehearse.Goals as goal

-- what was read of an input is its beginning: as much as there was room for, or all of it
beginning : (room n : ℕ) (buffer input rest : List ℕ) → n ≤ room → room ≡ length buffer → input ≡ take n buffer ++ rest → (n < room → rest ≡ []) → take n buffer ≡ take room input
beginning room n buffer input rest within long consumed end = go (cases_lt n room)
  where
    read : length (take n buffer) ≡ n
    read = length-take-le n buffer (omega (arith, within, long))

    go : (n < room) ⊎ (room ≤ n) → take n buffer ≡ take room input
    go (inl less) =
        let whole = consumed ∙ ap (λ l. take n buffer ++ l) (end less) ∙ append-nil (take n buffer) in
        sym whole ∙ sym (take_all room input (subst (λ l. length l ≤ room) (sym whole) (omega (arith, read, within))))
    go (inr most) = sym (ap (take room) consumed ∙ take_at (take n buffer) rest room (read ∙ (omega (arith, within, most))))

-- what holds of the bytes that were read, and of an input if of its beginning, holds of the input
of_input : (P : List ℕ → Type 0) (room n : ℕ) (buffer : List ℕ) (a b : Option (List ℕ)) → ((input : List ℕ) → P (take room input) → P input)
    → n ≤ room → room ≡ length buffer → Consumes a b (take n buffer) → (n < room → IsAtEnd b) → P (take n buffer) → IfSome a P
of_input P room n buffer None b decides within long consumed end held = tt
of_input P room n buffer (Some input) None decides within long consumed end held = absurd consumed
of_input P room n buffer (Some input) (Some rest) decides within long consumed end held = decides input (subst P (beginning room n buffer input rest within long consumed end) held)

-- what is written of a text is the lines that were put at its front
front : (new old bytes : List ℕ) (end : ℕ) → end ≡ length new → bytes ≡ overwritten 0 new old → take end bytes ≡ new
front new old bytes end long put = ap (take end) put ∙ take_at new (drop (0 + length new) old) end (sym long)

pub returns : goal.returns
returns g c =
    let read = c.in_ok-length.ensures in
    let n = c.in_ok-length.length in
    let buffer = c.read_full.new.buffer in
    let long : 20509 ≡ length buffer = omega (arith, c.read_full.auto.buffer) in
    let within : n ≤ 20509 = omega (arith, read.bound, long) in
    let end : n < 20509 → IsAtEnd (g.R.Read.remaining c.read_full.new.reader) = λ less. read.end (omega (arith, less, long)) in
    let old = g.W.Write.contents c.args.writer.now in
    let now = g.W.Write.contents c.write_whole.new.writer in
    let Wrote : List ℕ → Type 0 = λ bytes. Appends old now bytes in
    let WroteSome : List ℕ → Type 0 = λ bytes. (n : ℕ) × Appends old now (take n bytes) in
    let q = c.args.queue in
    let text = c.lines_of-text.result in
    let lines = c.lines_of-text.ensures in
    let printed = front (lines_of q (take n buffer)) (replicate 135311 0) text.bytes text.length lines.length_value.0 lines.bytes_value in
    let told : (P : List ℕ → Type 0) → P (take text.length text.bytes) → IfSome (g.R.Read.remaining c.args.reader.now) (λ input. P (lines_of q input)) =
    λ P wrote. of_input (λ l. P (lines_of q l)) 20509 n buffer (g.R.Read.remaining c.args.reader.now) (g.R.Read.remaining c.read_full.new.reader)
    (λ input held. subst P (beginning_decides q input) held) within long read.bytes end (subst P printed wrote)
    in
    record {
      ok = on_ok_weaker {P = Wrote (take text.length text.bytes)} c.write_whole.result (told Wrote) c.write_whole.ensures.ok;
      err = on_err_weaker c.write_whole.result (told WroteSome) c.write_whole.ensures.err;
    }
