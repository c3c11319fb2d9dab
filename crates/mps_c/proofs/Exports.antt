-- What the proof of an export over a handle begins with: the handle's box stands at a place in a block.
--     Kind         a kind of parameter beside the allocator and the handle
--     exported     an export's theorem, from a walk of its code, which begins at Has
use Rattle.std.proofs.Common.{◌≡◌, ℕ, List, [], ◌∷◌, ◌++◌, refl, sym, ap, subst, ◌∙◌}
use base.Fraction.{full_share}
use base.Logic.{SProp, ent, sep, id⊢, fst∗, never, guard_i}
use base.Fml.{Fml, fsep}
use contract.Lifetimes.{Lfts}
use contract.Monad.{fact_use}
use contract.Running.{Running, MachineTables, tables}
use denote.Builtin.{RawPtr}
use denote.Exit.{yes, no}
use denote.Laws.{Is, Ises, Are, Spells, Tells, Tellss, valss, all_tell, showss, owns_show}
use denote.Memory.{lone, part_at}
use denote.Param.{layout, arg}
use denote.Param.Laws.{Laws, arg_laws}
use denote.RattleType.{RattleType, Denots, Valss, flat, owns}
use denote.RawPtr.{Ptr, block_ptr, null_ptr, ptr_val, in_a_block}
use denote.Signature.{Slot, plain, types_at}
use denote.Triple.Clauses.{Ended, Clauses, closing}
use denote.Triple.End.{Kepts}
use denote.Triple.Entry.{Args, Vals, alive}
use denote.Triple.Spec.{triple_of}
use denote.Triple.Statement.{Contract, Triple}
use denote.Triple.Table.{entered}
use lib.Dec.{T as So}
use mir.Raw.{raw as bare}
use mir.Syntax.{Ty, Fn, Callee}
use mir.Val.{Val, vptr, has_ty, WT}
use prog.Model.{Model}
use prog.Wp.{WpFn, Closed}
use seplogic.Ra.Ura.{Ura}
use types.Kit.{‵, raw, ◌⊛◌, given, ◌$◌, ◌∵◌, !, qed, by, move, split, join, fsplit, fjoin, feq_l, learn, suffices, use1, rewrite}
use types.Logic.{Logic, sem}
use Rattle.core.proofs.alloc.Calls.{Al, Fits, handle_tells}
use Rattle.std_alloc.specs.Box.Ownership.{box_owns}
use Rattle.std_heap.specs.contracts.Global as Heap
use Rattle.std_heap.specs.contracts.GlobalAllocator.TheImpl.{ghosts, dict}
use Rattle.std_heap.proofs.Global.TheLaws as heap

-- the allocator's handle
abbrev pub Z : RattleType
Z = arg (bare (layout Heap.the_row)) no Heap.the_row

pub Z_laws : Laws Z
Z_laws = arg_laws (bare (layout Heap.the_row)) no Heap.the_row heap.the_row_laws refl

abbrev pub global : Al
global = record { row = Z; laws = Z_laws; g = ghosts; d = dict; drops = dict }

-- the right to free the block of a T at (b, o)
abbrev pub frees_at : Heap.the_row.Denot → RattleType → ℕ → ℕ → Fml
frees_at a R b o = ghosts.dealloc_token a (bare (lone R.mir)) (block_ptr b o)

-- what a box of the R at (b, o) owns
module _ {M : Type 1} {𝓤 : Ura M} (𝓛 : Logic 𝓤) (R : RattleType) (b o : ℕ) (hold : Fml) where
  open 𝓛 use {H, A}

  abbrev pub Boxed : R.Denot → Fml
  Boxed x = fsep (part_at R full_share x b o) hold

-- a parameter beside the allocator and the handle: its slot, its one machine value, and that this is of its type
pub record Kind (n : ℕ) : Type 2 where
  pub slot : Slot n
  pub word : (κs : Lfts n) → (slot.row κs).Denot → Val
  pub tells : (κs : Lfts n) → Tells (slot.row κs) (Is (slot.row κs)) (λ x. word κs x ∷ [])
  pub fits : (κs : Lfts n) (x : (slot.row κs).Denot) → Is (slot.row κs) x (word κs x ∷ []) → So (has_ty (lone (slot.row κs).mir) (word κs x)) × WT (word κs x)

module _ {n : ℕ} where
  abbrev pub slots : List (Kind n) → List (Slot n)
  slots [] = []
  slots (k ∷ ks) = k.slot ∷ slots ks

  module _ (κs : Lfts n) where
    abbrev pub rows : List (Kind n) → List RattleType
    rows ks = types_at (slots ks) κs

    abbrev pub spells : (ks : List (Kind n)) → Spells (rows ks)
    spells [] = tt
    spells (k ∷ ks) = (λ x. k.word κs x ∷ [], spells ks)

    abbrev pub tellss : (ks : List (Kind n)) → Tellss (rows ks) (Ises (rows ks)) (spells ks)
    tellss [] = tt
    tellss (k ∷ ks) = (k.tells κs, tellss ks)

    -- the machine values, as an argument list and for each parameter
    abbrev pub words : (ks : List (Kind n)) → Denots (rows ks) → List Val
    words [] a = []
    words (k ∷ ks) a = k.word κs a.0 ∷ words ks a.1

    abbrev pub each : (ks : List (Kind n)) → Denots (rows ks) → Valss (rows ks)
    each ks = valss (rows ks) (spells ks)

    abbrev Fit : (ks : List (Kind n)) → Denots (rows ks) → Type 0
    Fit [] a = Unit {0}
    Fit (k ∷ ks) a = (So (has_ty (lone (k.slot.row κs).mir) (k.word κs a.0)) × WT (k.word κs a.0)) × Fit ks a.1

    abbrev pub fit : (ks : List (Kind n)) (a : Denots (rows ks)) → Are (rows ks) (Ises (rows ks)) a (each ks a) → Fit ks a
    fit [] a are = tt
    fit (k ∷ ks) a are = (k.fits κs a.0 are.0, fit ks a.1 are.1)

    pub flat_words : (ks : List (Kind n)) (a : Denots (rows ks)) → flat (rows ks) (each ks a) ≡ words ks a
    flat_words [] a = refl
    flat_words (k ∷ ks) a = ap (λ (vs : List Val). k.word κs a.0 ∷ vs) (flat_words ks a.1)

-- an export of the parameters ks with the result T, over a box of the R, at the contract c
module _ {M : Type 1} {𝓤 : Ura M} (𝓛 : Logic 𝓤) (𝓜 : Model 𝓤 𝓛.H) (𝓡 : Running 𝓤 𝓛.H 𝓜) {n : ℕ} (ks : List (Kind n)) (T : RattleType) (kept : Kepts (slots ks)) (R : RattleType) where
  open 𝓛 use {H, A}

  abbrev Of : Ended
  Of = record { signature = record { lifetimes = n; outlives = []; params = plain (λ _. Heap.the_row) ∷ plain (λ _. RawPtr) ∷ slots ks; result = plain (λ _. T) }; kept = (yes, (yes, kept)) }

  abbrev 𝓣 : MachineTables 𝓤 H 𝓜
  𝓣 = tables 𝓤 H 𝓜 𝓡 𝓡.env

  module _ (c : Clauses 𝓤 Of) where
    abbrev pub Export : Contract 𝓤
    Export = triple_of 𝓛 Of.signature (closing 𝓛 Of c)

    module _ (y : Export.Ghost) (x : R.Denot) (b o : ℕ) (hv : Val) where
      abbrev κs : Lfts n
      κs = y.0.0

      abbrev a : Args Of.signature κs
      a = y.0.3

      abbrev Tk : SProp 𝓤
      Tk = alive 𝓛 Of.signature κs y.0.1

      abbrev hold : Ty → Ptr → Fml
      hold = ghosts.dealloc_token a.0

      abbrev Rest : Fml
      Rest = owns (rows κs ks) a.1.1 (each κs ks a.1.1)

      abbrev Own : Fml
      Own = fsep (Z.own_val a.0 (hv ∷ [])) Rest

      abbrev here : R.Denot → Fml
      here w = Boxed 𝓛 R b o (hold (bare (lone R.mir)) (block_ptr b o)) w

      -- what there is when the code begins
      abbrev pub Has : SProp 𝓤
      Has = sep 𝓤 (sep 𝓤 Tk (sem 𝓛 Own)) (sem 𝓛 (here x))

    -- the export's theorem, from a walk of its code where the handle is a place in a block and the machine values are written out
    pub exported : (key : Callee) (fn : Fn) → Closed 𝓤 H 𝓣.C 𝓣.Λ key fn
        → (before : (y : Export.Ghost) → R.Denot) → ((y : Export.Ghost) → ent 𝓤 ((c y.0.0 y.0.3).requires y.1) (sem 𝓛 (box_owns (ghosts.dealloc_token y.0.3.0) R y.0.3.1.0 (before y))))
        → ((y : Export.Ghost) (b o : ℕ) (hv : Val) → y.0.3.1.0 ≡ block_ptr b o → Fits global hv → Are (rows y.0.0 ks) (Ises (rows y.0.0 ks)) y.0.3.1.1 (each y.0.0 ks y.0.3.1.1)
        → ent 𝓤 (Has y (before y) b o hv) (WpFn 𝓤 H 𝓣.C 𝓣.Λ fn (hv ∷ vptr b o ∷ words y.0.0 ks y.0.3.1.1) (Export.post y)))
        → Triple 𝓤 (𝓣.C key) Export
    exported key fn closed before owned walk = entered 𝓤 H Export 𝓣.C 𝓣.Λ key fn closed (λ y.
        let a : Args Of.signature y.0.0 = y.0.3 in let vss : Vals Of.signature y.0.0 = y.0.4 in let Rs : List RattleType = rows y.0.0 ks in let x : R.Denot = before y in let p : Ptr = a.1.0 in
        let Run : List Val → SProp 𝓤 = λ ws. WpFn 𝓤 H 𝓣.C 𝓣.Λ fn ws (Export.post y) in
        qed 𝓛 ((raw (alive 𝓛 Of.signature y.0.0 y.0.1) ⊛ ‵ (fsep (Z.own_val a.0 vss.0) (fsep (RawPtr.own_val p vss.1.0) (owns Rs a.1.1 vss.1.1)))) ∷ raw ((c y.0.0 a).requires y.1) ∷ []) ∵
        split ! $ move ! (2 ∷ []) $ use1 𝓛 (‵ (box_owns (ghosts.dealloc_token a.0) R p x)) (owned y) $ move ! (2 ∷ []) $ fsplit ! $ handle_tells global ! a.0 vss.0 (λ hv e₁ fa. move ! (1 ∷ []) $ fsplit ! $ feq_l ! (λ e₂.
        use1 𝓛 (given (Are Rs (Ises Rs) a.1.1 vss.1.1) (‵ (owns Rs a.1.1 vss.1.1))) (fact_use 𝓤 (Are Rs (Ises Rs) a.1.1 vss.1.1) (owns_show 𝓛 Rs (Ises Rs) (showss 𝓛 Rs) a.1.1 vss.1.1) (λ q. guard_i 𝓤 (Are Rs (Ises Rs) a.1.1 vss.1.1) (sem 𝓛 (owns Rs a.1.1 vss.1.1)) q)) $ learn ! (λ are.
        let e₃ : vss.1.1 ≡ each y.0.0 ks a.1.1 = all_tell Rs (Ises Rs) (spells y.0.0 ks) (tellss y.0.0 ks) a.1.1 vss.1.1 are in
        -- [the others; the allocator; the box; the tokens]
        move ! (2 ∷ []) $ in_a_block ! p (λ π. box_owns (ghosts.dealloc_token a.0) R π x) (fst∗ 𝓤 (never 𝓤) (sem 𝓛 (ghosts.dealloc_token a.0 (bare (lone R.mir)) null_ptr))) (λ b o e.
        let us : List Val = hv ∷ vptr b o ∷ words y.0.0 ks a.1.1 in let e₄ : flat Rs (each y.0.0 ks a.1.1) ≡ words y.0.0 ks a.1.1 = flat_words y.0.0 ks a.1.1 in
        suffices ! (Run us) (subst (λ (ws : List Val). ent 𝓤 (Run us) (Run ws)) (sym (λ i. e₁ i ++ ((e₂ ∙ ap (λ (π : Ptr). ptr_val π ∷ []) e) i ++ (ap (flat Rs) e₃ ∙ e₄) i))) (id⊢ 𝓤 (Run us))) $
        rewrite ! 1 (λ (vs : Valss Rs). ‵ (owns Rs a.1.1 vs)) e₃ refl $ move ! (2 ∷ 1 ∷ []) $ fjoin ! $ move ! (2 ∷ 0 ∷ []) $ join ! $
        by ! (walk y b o hv e fa (subst (Are Rs (Ises Rs) a.1.1) e₃ are)))))))
