-- The words of the toolchain's program logic in which a proof by hand is written, passed on under one name. Nothing is defined here.
-- ── What a theorem is about: the heap, the machine, the rules of ghost state; assertions; types; contracts ───────────────────────
pub use mathlib.Core.Path.{◌≡◌, refl}
pub use Prim.Native.Nat.{ℕ}
pub use mathlib.Core.List.{List, [], ◌∷◌}
pub use seplogic.Ra.Ura.{Ura}
pub use base.Fraction.{full_share}
pub use mir.Syntax.{Fn, Ty, named, w32}
pub use mir.Val.{Val, vint, vptr, vunit}
pub use base.Logic.{SProp, emp, ent, fst∗, id⊢, sep, via}
pub use base.Fml.{Fml, GName, Lft, Share, fat, fauth, fdead, fdies, flent, flft, fobor, fobs, fres, fsep, ftrue}
pub use prog.Model.{Model}
pub use prog.Routine.{Env, Callee}
pub use prog.Wp.{Calls, Closed, Env as Locals, Heap, Loops, WpFn}
pub use ghost.Atoms.{Atoms}
pub use types.Logic.{Logic, sem}
pub use contract.Monad.{Fun, fact}
pub use contract.Running.{Running, tables}
pub use denote.RattleType.{RattleType, owns}
pub use denote.Builtin.{u32, unit}
pub use denote.Exit.{yes}
pub use denote.Laws.{Is, Lawful, Makes, Tells, owns_make, shows}
pub use denote.Memory.{cell_at, mem}
pub use denote.Ref.{MutRef, Bor, MutBor, mut_Tells, shr_vals, mut_vals}
pub use denote.Signature.{plain, type_at}
pub use denote.Triple.Clauses.{Clauses, Ended, Lasts, at_exit, closing, lasts}
pub use denote.Triple.Entry.{Res, alive, on_entry}
pub use denote.Triple.Spec.{Meets, triple_of}
pub use denote.Triple.Statement.{Contract, Triple}
pub use denote.Triple.Table.{cited, entered}
pub use denote.Triple.Walked.{AllGo, Stays, ends_at, Goes-none, Goes-ref, says, stay_none, stay_ref, walk_Meets, walk_of, walked}
pub use types.SemTy.{Body}
-- ── The steps of a walk: on what is owned, and along the code ────────────────────────────────────────────────────────────────────
pub use types.Kit.{Goal, Item, Seq, Soaks, Step, step, ‵, raw, ◌⊛◌, some, later, frees, ◌$◌, ◌∵◌, !, qed, by, move, keep, drop, use0, use1, use2, use3, split, join, pick, await, fsplit, fsplit3, fjoin, fjoin3, fpick, fpack, feq_i, suffices, frame, done}
pub use types.Part.{look_in, sub, whole}
pub use types.Run.{Opd, Writes, look, init, store_raw, forget, stop, hop, fld, from, load, and_then, no_more, addr, unit_lit, of_opd, assigns, land, returns, enter, alloc1, alloc0, params1, pass1, pass0, free1, free0}
pub use types.Tokens.{lft_end, lft_new}
pub use denote.Steps.{closes, facts, heard, nothing, opens, owned}
pub use denote.Struct.Steps.{spelt}
pub use denote.Triple.Call.{calls_at}
