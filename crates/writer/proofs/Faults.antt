-- What the writer refuses has the fault that is given, what has a fault it refuses, and of what it refuses it writes nothing.
use Rattle.std.proofs.Common.{Result, Ok, Err}
use mathlib.Core.Path.{◌≡◌, refl, ap, sym, subst}
use mathlib.Core.Bool.{true, not}
use mathlib.Core.List.{List}
use Prim.Native.Nat.{ℕ, zero, suc, ◌+◌, ◌*◌}
use native.Mathlib.Omega.{arith}
use lib.Dec.{eqb, ltb}
use lib.ListN.{get_or, length}
use borrow.Author.Tests.{eq-eqb, le-ltb, ne_eqb}
use Rattle.schedule.specs.Format.{file_of}
use Rattle.terms.specs.Refusal.{Refuses, number_of, place_of, refusal_in}
use Rattle.schedule.proofs.Faults.{entries_fault, no_fault_at, ranges_fault}
use Rattle.schedule.proofs.Laws.Check.{fail_if_failed}
use Rattle.writer.specs.Types.{Refusal, Room, Short, Sizes}
use Rattle.writer.specs.Faults.{RefusedUntouched, WriterRefusesFaults, writing_has}
use Rattle.writer.specs.Writer as writer
use Rattle.writer.proofs.Laws.Writer.{refused_writing, written_writable}

module _ (s : Sizes) (kinds operands : List ℕ) (room : ℕ) (r : Refusal) where
  -- whatever a check failed with is a fault that there is
  writing_fault : (i : ℕ) → get_or (writer.writing_checks s kinds operands room) i (Ok tt) ≡ Err r → writing_has s kinds operands room (number_of r) (place_of r) ≡ true
  writing_fault zero e =
      ranges_fault s (length kinds) kinds operands (not (eqb (length kinds) (length operands))) (ltb room (28 + 5 * length kinds)) r e
  writing_fault (suc zero) e =
      let found = fail_if_failed (not (eqb (length kinds) (length operands))) Short e in rw found.1 found.0
  writing_fault (suc (suc zero)) e =
      entries_fault s (length kinds) kinds operands (not (eqb (length kinds) (length operands))) (ltb room (28 + 5 * length kinds)) r
      (λ at inside ends. ap not (ne_eqb (length kinds) (length operands) (λ same. omega arith))) e
  writing_fault (suc (suc (suc zero))) e =
      let found = fail_if_failed (ltb room (28 + 5 * length kinds)) Room e in rw found.1 found.0
  writing_fault (suc (suc (suc (suc i)))) e = cc

pub writer_refuses_faults : WriterRefusesFaults
writer_refuses_faults s kinds operands room = go (writer.write_file s kinds operands room) refl
  where
    go : (answer : Result ℕ Refusal) → writer.write_file s kinds operands room ≡ answer → Refuses (writing_has s kinds operands room) (refusal_in answer)
    go (Err r) e = let found = refused_writing s kinds operands room r e in writing_fault s kinds operands room r found.0 found.1
    go (Ok n) e =
        let p = (written_writable s kinds operands room n e).1 in
        no_fault_at s (length kinds) kinds operands (not (eqb (length kinds) (length operands))) (ltb room (28 + 5 * length kinds))
        p.ranges (ap not (eq-eqb (length kinds) (length operands) p.parallel)) p.each (le-ltb room (28 + 5 * length kinds) p.fits)

-- what `write` promises of the answer that it hands back
pub write_promises : (s : Sizes) (kinds operands : List ℕ) (room : ℕ) (answer : Result ℕ Refusal) → answer ≡ writer.write_file s kinds operands room
    → Refuses (writing_has s kinds operands room) (refusal_in answer)
write_promises s kinds operands room answer told =
    subst (λ r. Refuses (writing_has s kinds operands room) (refusal_in r)) (sym told) (writer_refuses_faults s kinds operands room)

pub refused_untouched : RefusedUntouched
refused_untouched s kinds operands buffer r e = go (writer.check_writing s kinds operands (length buffer)) e
  where
    go : (c : Result Unit Refusal) → writer.writing_of (28 + 5 * length kinds) c ≡ Err r → writer.buffer_if (file_of s kinds operands) buffer c ≡ buffer
    go (Ok _) told = cc
    go (Err q) told = refl
