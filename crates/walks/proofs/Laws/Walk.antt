-- What proofs by hand are made of, for functions over plain data behind a `&mut`. A function that the borrow checker does not cover has such a proof: it walks the function's code (`rt check --generated DIR --start NAME` writes it to DIR) and says what is owned at each statement.
--
-- How a walk reads. Its steps are joined by `$`. What is owned is a list, the context; a step takes what stands first in it, or names entries by their places, counted from 0. A comment in brackets says what the context holds. `_3; …` there are two entries, for local 3 of the code: what lies in it, or room, and what frees it. The last local stands first.
-- `!` is the first argument of every step and says nothing; where `tt` stands right behind it, the step changes ghost state, which may be done there. While a local is lent, the lender's part is what `lent` leaves and `given_back` takes.
use mathlib.Core.Path.{subst, sym}
use mathlib.Core.Option.{some as Some-of}
use Prim.Native.Nat.{◌+◌}
use mir.Syntax.{Body as Code, Place, Width, assign, copy, deref, field, place, rv_opd, seq, ty_int, ty_unit}
use prog.Memory.{field_of}
use prog.Wp.{spot_of}
use types.Logic.{Logic, sem}
use contract.Lifetimes.{AllOutlive, Lfts, Shares}
use contract.Running.{tables_of}
use sound.WpLaws.{FmC, WpFn-mono, fm_of}
use types.Kit.{Post, nth, runs}
use types.Part.{Part}
use denote.RattleType.{Valss, flat}
use denote.Laws.{Are, Ises, Spells, Tellss, valss}
use denote.Lend.{lends_ref, ref_back}
use denote.Plain.{UInt, Nothing-Lawful, Nothing-Makes, Nothing-Tells, uint_Lawful, uint_Makes, uint_Tells}
use denote.Memory.{part_of}
use denote.Signature.{types_at}
use denote.Triple.Entry.{Args}
use Rattle.walks.proofs.Laws.Logic.{◌≡◌, refl, ℕ, List, [], ◌∷◌, Ura, full_share, Fn, Ty, named, Val, vint, vptr, vunit, ent, fst∗, id⊢, via, GName, Lft, Share, fat, fauth, fdead, fdies, flent, flft, fobor, fobs, fres, fsep, Fml, Model, Env, Callee, Calls, Closed, Locals, Loops, WpFn, sem, Fun, fact, Running, tables}
use Rattle.walks.proofs.Laws.Logic.{RattleType, unit, Is, Lawful, Makes, Tells, shows, cell_at, mem, MutRef, type_at, Clauses, Ended, Lasts, at_exit, closing, lasts, Res, alive, on_entry, Meets, triple_of, entered, AllGo, Stays, walk_Meets, walk_of, walked, Body}
use Rattle.walks.proofs.Laws.Logic.{Goal, Item, Seq, Soaks, Step, step, ‵, raw, ◌⊛◌, some, later, frees, ◌$◌, move, drop, use1, use3, split, pick, await, fsplit, fsplit3, fjoin, fjoin3, fpick, fpack, feq_i, Opd, Writes, look, look_in, forget, stop, hop, fld, from, load, of_opd, assigns, free1, closes, facts, heard, opens, owned, spelt}

-- A type of plain data, which holds no reference.
pub record Plain (R : RattleType) : Type 2 where
  -- the type in the code
  pub ty : Ty
  pub ty_is : R.mir ≡ ty ∷ []
  -- each value has one machine value
  pub val : R.Denot → Val
  pub tells : Tells R (Is R) (λ x. val x ∷ [])
  -- owning a value is knowing its machine value
  pub makes : {M : Type 1} {𝓤 : Ura M} (𝓛 : Logic 𝓤) → Makes 𝓛 R (Is R)
  -- which has the type
  pub lawful : {M : Type 1} {𝓤 : Ura M} (𝓛 : Logic 𝓤) → Lawful 𝓛 R

abbrev pub units : Plain unit
units = record { ty = ty_unit; ty_is = refl; val = λ _. vunit; tells = Nothing-Tells; makes = λ 𝓛. Nothing-Makes 𝓛; lawful = λ 𝓛. Nothing-Lawful 𝓛 }

abbrev pub numbers : (w : Width) → Plain (UInt w)
numbers w = record { ty = ty_int w; ty_is = refl; val = vint w; tells = uint_Tells w; makes = λ 𝓛. uint_Makes 𝓛 w; lawful = λ 𝓛. uint_Lawful 𝓛 w }

-- a `&mut` to what lies at (b, o), at a value x, for the lifetime κ under the ghost name γ (`named 0` is how the code calls the lifetime, and nothing that is owned depends on it); and what is left of it while it is open, by which it is closed again
module _ (R : RattleType) (b o : ℕ) where
  abbrev pub Reference : Lft → GName → R.Denot → Fml
  Reference κ γ x = (MutRef (named 0) κ R).own_val (record { ref_ptr = (b, o); ghost_name = γ; now = x }) (vptr b o ∷ [])

  abbrev pub Open : Lft → Share → GName → R.Denot → Fml
  Open κ q γ x = fsep (fobor κ q (Body (mem R) b o γ)) (fsep (fobs γ (R.coded.code x)) (fauth γ (R.coded.code x)))

-- what lies in a local lies behind a reference to it, and the other way round
module _ {M : Type 1} {𝓤 : Ura M} (𝓛 : Logic 𝓤) (R : RattleType) (P : Plain R) (v : Val) (b o : ℕ) where
  open 𝓛 use {H}

  abbrev Same : List Ty → Type 1
  Same τs = ent 𝓤 (H.at full_share P.ty b o v) (sem 𝓛 (cell_at full_share τs (v ∷ []) b o)) × ent 𝓤 (sem 𝓛 (cell_at full_share τs (v ∷ []) b o)) (H.at full_share P.ty b o v)

  same_cell : Same R.mir
  same_cell = subst Same (sym P.ty_is) (𝓛.laws.at_raw full_share P.ty b o v, 𝓛.laws.raw_at full_share P.ty b o v)

module _ {M : Type 1} {𝓤 : Ura M} {𝓛 : Logic 𝓤} {K : Type 0} {Γ : List (Item 𝓤)} where
  -- ── Values and locals ─────────────────────────────────────────────────────────────────────────────────────────────────────

  open 𝓛 use {H}

  module _ {G : Goal 𝓤 H} (R : RattleType) where
    -- a value that is owned is given up for what that says of its machine value
    pub let_go : K → (x : R.Denot) (v : Val) → (Is R x (v ∷ []) → Seq K 𝓛 Γ G) → Seq K 𝓛 (‵ (R.own_val x (v ∷ [])) ∷ Γ) G
    let_go t x v k = facts t R (Is R) (shows 𝓛 R) x (v ∷ []) k

    -- the other way round, of plain data
    pub had : K → Plain R → (x : R.Denot) (v : Val) → Is R x (v ∷ []) → Step K 𝓛 (‵ (R.own_val x (v ∷ [])) ∷ Γ) G Γ G
    had t P x v is = owned t R (Is R) (P.makes 𝓛) x (v ∷ []) is

  module _ {E : Locals 𝓤 H} where
    -- a local is read, which stands at place n of the context
    pub local : K → (n : ℕ) {i : ℕ} {q : Share} {v : Val} → nth 𝓛 n Γ ≡ ‵ (fat q (spot_of 𝓤 H E i).0 (spot_of 𝓤 H E i).1 (spot_of 𝓤 H E i).2 v) → Opd K 𝓛 Γ E (copy (place i [])) v
    local t n e = load t (from t (stop t)) (look t n e)

    -- field k is read of the struct behind a reference: the struct stands first, a local with the reference at place n
    pub behind : K → (n : ℕ) {i k : ℕ} {q q' : Share} {τ σ : Ty} {b o d : ℕ} {v : Val} {back : Val → Item 𝓤} → nth 𝓛 n Γ ≡ ‵ (fat q (spot_of 𝓤 H E i).0 (spot_of 𝓤 H E i).1 (spot_of 𝓤 H E i).2 (vptr b o)) → field_of τ k ≡ Some-of (σ, d)
        → Part K 𝓛 (nth 𝓛 0 Γ) q' σ b (o + d) v back → Opd K 𝓛 Γ E (copy (place i (deref τ ∷ field k ∷ []))) v
    behind t n e f p = load t (from t (hop t (look t n e) (fld t f (stop t)))) (look_in t 0 p)

    -- what is found at p is copied into a local
    pub copied : K → {C : Calls 𝓤 H} {Λ : Loops 𝓤 H} {q : Post 𝓤 H} {i : ℕ} {p : Place} {rest : Code} {v : Val} {Γ' : List (Item 𝓤)} → Opd K 𝓛 Γ E (copy p) v
        → Writes K 𝓛 Γ (spot_of 𝓤 H E i).0 (spot_of 𝓤 H E i).1 (spot_of 𝓤 H E i).2 v Γ' → Step K 𝓛 Γ' (runs C Λ E rest q) Γ (runs C Λ E (seq (assign (place i []) (rv_opd (copy p))) rest) q)
    copied t o w = assigns t (of_opd t o) (from t (stop t)) w

  module _ {G : Goal 𝓤 H} where
    -- a local is given up at the function's end, with what lies in it
    pub freed : K → {τ : Ty} {l : ℕ} {v : Val} {E : Locals 𝓤 H} → Step K 𝓛 Γ (frees E G) (‵ (fat full_share τ l 0 v) ∷ ‵ (fdies τ l) ∷ Γ) (frees ((τ, l) ∷ E) G)
    freed t = step (λ s. forget t 0 refl $ free1 t $ s)

module _ {M : Type 1} {𝓤 : Ura M} {𝓛 : Logic 𝓤} {K : Type 0} {Γ : List (Item 𝓤)} {G : Goal 𝓤 𝓛.H} (R : RattleType) (P : Plain R) where
  -- a value that lies in memory lies there as its machine value
  spelt_out : K → (x : R.Denot) (vs : List Val) (b o : ℕ) → (Is R x (P.val x ∷ []) → Seq K 𝓛 (‵ (cell_at full_share R.mir (P.val x ∷ []) b o) ∷ Γ) G)
      → Seq K 𝓛 (‵ (cell_at full_share R.mir vs b o) ∷ ‵ (R.own_val x vs) ∷ Γ) G
  spelt_out t x vs b o k = spelt t R (Is R) (shows 𝓛 R) (λ y. P.val y ∷ []) P.tells full_share x vs b o $ move t (1 ∷ []) $ let_go R t x (P.val x) k

module _ {M : Type 1} {𝓤 : Ura M} {𝓛 : Logic 𝓤} {K : Type 0} {Γ : List (Item 𝓤)} {G : Goal 𝓤 𝓛.H} where
  -- ── Plain data behind a `&mut` ────────────────────────────────────────────────────────────────────────────────────────────

  module _ (R : RattleType) (P : Plain R) (b o : ℕ) where
    -- with its lifetime's token it is opened: the value lies in memory
    pub opened : K → Soaks G → {κ : Lft} {q : Share} {γ : GName} (x : R.Denot)
        → (Is R x (P.val x ∷ []) → Seq K 𝓛 (‵ (cell_at full_share R.mir (P.val x ∷ []) b o) ∷ ‵ (Open R b o κ q γ x) ∷ Γ) G) → Seq K 𝓛 (‵ (Reference R b o κ γ x) ∷ ‵ (flft κ q) ∷ Γ) G
    opened t z x k =
        fsplit3 t $ drop t $ opens t z R {h = x} b o (λ vs. move t (2 ∷ 3 ∷ 4 ∷ []) $ fjoin3 t $ move t (1 ∷ 2 ∷ 0 ∷ []) $ spelt_out R P t x vs b o k)

    -- it is closed, and its value is the one that lies in memory now
    pub closed : K → Soaks G → {κ : Lft} {q : Share} {γ : GName} {x : R.Denot} (y : R.Denot) (v : Val) → Is R y (v ∷ [])
        → Step K 𝓛 (‵ (Reference R b o κ γ y) ∷ ‵ (flft κ q) ∷ Γ) G (‵ (cell_at full_share R.mir (v ∷ []) b o) ∷ ‵ (Open R b o κ q γ x) ∷ Γ) G
    closed t z y v is = step (λ s.
        had R t P y v is $ move t (2 ∷ []) $ fsplit3 t $ move t (4 ∷ 3 ∷ []) $ closes t z R y (v ∷ []) b o $
        feq_i t (List Val) (vptr b o ∷ []) (vptr b o ∷ []) refl $ fjoin3 t $ s)

    -- what lies in a local is lent for the lifetime κ, under a name of its own
    pub lent : K → Soaks G → (κ : Lft) (x : R.Denot) → Is R x (P.val x ∷ [])
        → ((γ : GName) → Seq K 𝓛 (‵ (Reference R b o κ γ x) ∷ ‵ (flent κ (Body (mem R) b o γ)) ∷ Γ) G) → Seq K 𝓛 (‵ (fat full_share P.ty b o (P.val x)) ∷ Γ) G
    unfolding part_of
    lent t z κ x is k =
        use1 𝓛 (‵ (cell_at full_share R.mir (P.val x ∷ []) b o)) (same_cell 𝓛 R P (P.val x) b o).0 $
        had R t P x (P.val x) is $ move t (1 ∷ 0 ∷ []) $ fjoin t $ fpack t (List Val) (λ vs. fsep (cell_at full_share R.mir vs b o) (R.own_val x vs)) (P.val x ∷ []) $
        use1 𝓛 (later (some (λ (γ : GName). ‵ (Reference R b o κ γ x) ⊛ ‵ (flent κ (Body (mem R) b o γ))))) (lends_ref 𝓛 R (named 0) κ x b o) $
        await t z $ pick t (λ γ. split t $ k γ)

    -- κ is over, and the reference's last value was x: it lies in the local
    pub given_back : K → Soaks G → {κ : Lft} {γ : GName} (x : R.Denot)
        → (Is R x (P.val x ∷ []) → Seq K 𝓛 (‵ (fat full_share P.ty b o (P.val x)) ∷ Γ) G)
        → Seq K 𝓛 (‵ (fdead κ) ∷ ‵ (flent κ (Body (mem R) b o γ)) ∷ ‵ (fres γ (R.coded.code x)) ∷ Γ) G
    unfolding part_of
    given_back t z {κ} {γ} x k =
        use3 𝓛 (later (‵ ((mem R).own_at x b o))) (ref_back 𝓛 R κ γ x b o) $ await t z $ fpick t (λ vs. fsplit t $ spelt_out R P t x vs b o (λ is.
        use1 𝓛 (‵ (fat full_share P.ty b o (P.val x))) (same_cell 𝓛 R P (P.val x) b o).1 $ k is))

  -- ── A call that has returned ──────────────────────────────────────────────────────────────────────────────────────────────

  -- What a caller has of a callee whose contract c ensures the fact φ: the tokens of lifetimes, the result r and the last values ws of what was lent, with that fact of them.
  pub returned : K → Soaks G → (T : Ended) (c : Clauses 𝓤 T) (y : (triple_of 𝓛 T.signature (closing 𝓛 T c)).Ghost) (v : Val) (φ : Res T.signature y.0.0 → Lasts T y.0.0 y.0.3 → Type 0)
      → ((r : Res T.signature y.0.0) (ws : Lasts T y.0.0 y.0.3) → ent 𝓤 ((c y.0.0 y.0.3).ensures y.1 r (at_exit T y.0.0 y.0.3 ws)) (fact 𝓤 (φ r ws)))
      → ((r : Res T.signature y.0.0) (ws : Lasts T y.0.0 y.0.3) → φ r ws
      → Seq K 𝓛 (raw (alive 𝓛 T.signature y.0.0 y.0.1) ∷ ‵ ((type_at T.signature.result y.0.0).own_val r (v ∷ [])) ∷ ‵ (lasts T y.0.0 y.0.3 ws) ∷ Γ) G)
      → Seq K 𝓛 (raw ((triple_of 𝓛 T.signature (closing 𝓛 T c)).post y v) ∷ Γ) G
  returned t z T c y v φ told k =
      let κs = y.0.0 in
      let a = y.0.3 in
      use1 𝓛 (later (some (λ (r : Res T.signature κs). (raw (alive 𝓛 T.signature κs y.0.1) ⊛ ‵ ((type_at T.signature.result κs).own_val r (v ∷ []))) ⊛ some (λ (ws : Lasts T κs a). ‵ (lasts T κs a ws) ⊛ raw ((c κs a).ensures y.1 r (at_exit T κs a ws)))))) (id⊢ 𝓤 _) $
      await t z $ pick t (λ r. split t $ move t (1 ∷ []) $ pick t (λ ws. split t $ move t (1 ∷ []) $ use1 𝓛 (raw (fact 𝓤 (φ r ws))) (told r ws) $ heard t (φ r ws) (λ e. move t (1 ∷ []) $ split t $ k r ws e)))

-- ── From a walk to the theorem ────────────────────────────────────────────────────────────────────────────────────────────────

module _ {M : Type 1} {𝓤 : Ura M} (𝓛 : Logic 𝓤) (𝓜 : Model 𝓤 𝓛.H) (𝓡 : Running 𝓤 𝓛.H 𝓜) (env : Env) where
  -- code as it runs where its calls mean what env says
  open 𝓛 use {H}

  abbrev pub Run : Fn → Fun 𝓤
  Run code = WpFn 𝓤 H (tables 𝓤 H 𝓜 𝓡 env).C (tables 𝓤 H 𝓜 𝓡 env).Λ code

  -- what a call leaves alone stays as it was
  pub frames : FmC 𝓤 H 𝓛.laws (tables 𝓤 H 𝓜 𝓡 env).C
  unfolding tables_of
  frames = fm_of 𝓤 H 𝓛.laws (tables_of 𝓤 H 𝓜 (tables 𝓤 H 𝓜 𝓡 env))

  -- a function's parameters, at the lifetimes κs: their types, and the machine values of a that sp spells out
  module _ (T : Ended) (sp : (κs : Lfts T.signature.lifetimes) → Spells (types_at T.signature.params κs)) (κs : Lfts T.signature.lifetimes) where
    abbrev Types : List RattleType
    Types = types_at T.signature.params κs

    abbrev ValsOf : Args T.signature κs → Valss Types
    ValsOf a = valss Types (sp κs) a

  -- A function meets its contract c, whatever that requires, if its code is walked: for all lifetimes κs, with shares qs of their tokens, and all arguments a. `key` is its name in env; hs is what it has of its parameters at exit.
  pub meets : (T : Ended) (hs : Stays T.signature.params T.kept) (c : Clauses 𝓤 T) (key : Callee) (code : Fn) → Closed 𝓤 H (tables 𝓤 H 𝓜 𝓡 env).C (tables 𝓤 H 𝓜 𝓡 env).Λ key code
      → AllGo 𝓛 T.signature.lifetimes T.signature.params T.kept hs
      → (sp : (κs : Lfts T.signature.lifetimes) → Spells (types_at T.signature.params κs)) → ((κs : Lfts T.signature.lifetimes) → Tellss (Types T sp κs) (Ises (Types T sp κs)) (sp κs))
      → ((κs : Lfts T.signature.lifetimes) (qs : Shares T.signature.lifetimes) (bounds : AllOutlive T.signature.lifetimes T.signature.outlives κs) (a : Args T.signature κs) (g : (c κs a).ghost)
      → Are (Types T sp κs) (Ises (Types T sp κs)) a (ValsOf T sp κs a)
      → ent 𝓤 (on_entry 𝓛 T.signature κs qs a (ValsOf T sp κs a)) (Run code (flat (Types T sp κs) (ValsOf T sp κs a)) ((walk_of 𝓛 T hs c).post ((κs, qs, bounds, a, ValsOf T sp κs a), g))))
      → Meets 𝓛 T.signature (𝓡.run (env key)) (closing 𝓛 T c)
  unfolding tables_of
  meets T hs c key code is gs sp tl walk =
      entered 𝓤 H (triple_of 𝓛 T.signature (closing 𝓛 T c)) (tables 𝓤 H 𝓜 𝓡 env).C (tables 𝓤 H 𝓜 𝓡 env).Λ key code is
      (walk_Meets 𝓛 T hs gs c (Run code) (WpFn-mono 𝓤 H 𝓛.laws (tables_of 𝓤 H 𝓜 (tables 𝓤 H 𝓜 𝓡 env)) code)
      (walked 𝓛 T hs c (Run code) sp tl (λ κs qs bounds a g are. via 𝓤 _ (fst∗ 𝓤 _ ((c κs a).requires g)) (walk κs qs bounds a g are))))
