-- `room` lends what the handle owns, and the handle follows it.
use Rattle.std.proofs.Common.{List, [], ◌∷◌, refl, sym, ap, ◌∙◌}
use Rattle.std.proofs.raw_atomic.Walks.{proved}
use Rattle.std.proofs.VecSteps.Shapes.{after}
use base.Fml.{Fml, GName, ftrue, fsep, fex, flft}
use base.Fraction.{full_share}
use base.Logic.{ent, sep, never, fst∗, id⊢}
use contract.Running.{tables}
use denote.Builtin.{RawPtr}
use denote.Follow.{follows, Part, lends_Part}
use denote.Laws.{shows}
use denote.Memory.{lone, mem, cell_at, part_at, part_of}
use denote.RattleType.{Valss}
use denote.RawPtr.{Ptr, block_ptr, null_ptr, in_a_block}
use denote.Ref.{MutRef, mut_vals, mut_Tells}
use denote.Signature.{plain}
use denote.Steps.{nothing, opens, peeks}
use denote.Struct.Owning.{shape}
use denote.Struct.Struct.{within}
use denote.Triple.Walked.{Stays, walk_of, says, stay_dropped, Goes-spent_ref, ends_at}
use mir.Raw.{raw as bare}
use mir.Syntax.{named}
use mir.Val.{Val, vptr}
use types.Kit.{‵, raw, ◌⊛◌, some, later, at_ret, ◌$◌, ◌∵◌, !, qed, done, move, keep, use1, split, join, fsplit, fsplit3, fjoin, fpack, pick, await, rewrite, suffices, frame, group}
use types.Logic.{sem}
use types.Part.{whole, sub, look_in}
use types.Run.{enter, of_opd, addr, load, stop, fld, first, blocks, exec, returns}
use types.ByLocal.{alloc_all, pass_all, free_all, look_at, get, through, sets, sets_last, env}
use Rattle.std_heap.specs.contracts.GlobalAllocator.TheImpl.{ghosts}
use Rattle.mps_c.specs.Handle.{handle_owns, some_heap}
use Rattle.mps_c.specs.Lending.{with_room}
use Rattle.mps_c.specs.contracts.Handle as H
use Rattle.mps_c.proofs.Handle.TheLaws.{lowers}
use Rattle.mps_embed.specs.Crossing.{file_room as R}
use Rattle.mps_c.specs.contracts.Handle.room as f
use Rattle.mps_c.proofs.Handle.room.Statement.{statement}
use Rattle.mps_c.proofs.Handle.room.Code as code

abbrev stayed : Stays f.ended.signature.params f.ended.kept
stayed = (stay_dropped _ _, tt)

pub room_spec : {M : Type 1} → statement M
unfolding part_of
room_spec 𝓤 𝓛 𝓜 𝓡 wired =
    let HR = H.the_row in
    let c = f.clauses 𝓛 𝓜.mem 𝓡.returns in let W = walk_of 𝓛 f.ended stayed c in let 𝓣 = tables 𝓤 𝓛.H 𝓜 𝓡 𝓡.env in
    proved 𝓛 f.ended stayed c 𝓜 𝓡 (Goes-spent_ref 𝓛 1 (0 ∷ []) tt (plain (λ _. HR)), tt)
    f.Key.name code.function (code.unfolded 𝓤 𝓛.H 𝓜 𝓡 wired)
    (λ κs. (mut_vals, tt)) (λ κs. (mut_Tells (named 0) κs.0 HR, tt)) (λ κs qs bounds a _ are.
    let κ = κs.0 in let q = qs.0 in let rb = a.0.ref_ptr.0 in let ro = a.0.ref_ptr.1 in let γ = a.0.ghost_name in let h = a.0.now in let vs = mut_vals a.0 in
    let y : W.Ghost = ((κs, qs, bounds, a, (vs, tt)), tt) in
    qed 𝓛 (((‵ (flft κ q) ⊛ ‵ ftrue) ⊛ ‵ ((MutRef (named 0) κ HR).own_val a.0 vs) ⊛ ‵ ftrue) ∷ ‵ ftrue ∷ []) ∵
    split ! $ split ! $ move ! (2 ∷ []) $ split ! $ keep ! (0 ∷ 2 ∷ []) $
    enter ! _ _ _ _ _ $ alloc_all ! (λ l. pass_all ! refl ((tt, tt), tt) $
    fsplit3 ! $ move ! (1 ∷ 2 ∷ 3 ∷ []) $ opens ! tt HR rb ro (λ us.
    move ! (1 ∷ []) $ peeks ! HR _ (shows 𝓛 HR) h us (λ is. fsplit ! $ move ! (1 ∷ []) $
    in_a_block ! h.at (λ p. handle_owns p h.room) (fst∗ 𝓤 (never 𝓤) (sem 𝓛 (ghosts.dealloc_token some_heap (bare (lone R.mir)) null_ptr))) (λ b o e. fsplit ! $
    -- [the room; the right to free; what the fields own; the handle's cell; the open borrow, in three entries]
    let word = lowers.val_is h us is ∙ ap (λ (p : Ptr). lowers.lowered (record h { at = p }) ∷ []) e in
    let Cell = λ (ws : List Val). ‵ (cell_at full_share HR.mir ws rb ro) in
    let Fields : Fml = fex (Valss (RawPtr ∷ [])) (within (shape H.the_type) (h.at, tt) us) in
    let hold : Fml = ghosts.dealloc_token some_heap (bare (lone R.mir)) (block_ptr b o) in
    let Rest : Fml = fsep hold (fsep Fields (cell_at full_share HR.mir us rb ro)) in
    let back : (w : R.Denot) → ent 𝓤 (sep 𝓤 (sem 𝓛 ((mem R).own_at w b o)) (sem 𝓛 Rest)) (sem 𝓛 ((mem HR).own_at (with_room h w) rb ro)) =
    λ w. qed 𝓛 (‵ (part_at R full_share w b o) ∷ ‵ Rest ∷ []) ∵ move ! (1 ∷ []) $ fsplit ! $ move ! (2 ∷ 0 ∷ []) $ fjoin ! $
    rewrite ! 0 (λ (p : Ptr). ‵ (handle_owns p w)) (sym e) refl $ move ! (1 ∷ []) $ fsplit ! $ move ! (0 ∷ 2 ∷ []) $ fjoin ! $ move ! (1 ∷ 0 ∷ []) $ fjoin ! $
    fpack ! (List Val) (λ ws. fsep (cell_at full_share HR.mir ws rb ro) (HR.own_val (with_room h w) ws)) us $ done ! in
    rewrite ! 3 Cell word refl $ first ! $ blocks ! $
    sets ! (of_opd ! (load ! (through ! refl (fld ! refl (stop !))) (look_in ! 3 (sub ! 0 refl (whole !))))) refl (tt, tt) $
    sets ! (of_opd ! (get ! refl)) refl (tt, tt) $ sets_last ! (addr ! (through ! refl (stop !))) refl (tt, tt) $
    exec ! 𝓣.C 𝓣.Λ (env code.Mir.locals l) (after 1 (code.function).body) (at_ret _ (W.post y)) $
    sets ! (of_opd ! (get ! refl)) refl (tt, tt) $ rewrite ! 3 Cell (sym word) refl $
    move ! (2 ∷ 3 ∷ []) $ fjoin ! $ move ! (2 ∷ 0 ∷ []) $ fjoin ! $ move ! (2 ∷ 3 ∷ 4 ∷ 1 ∷ 0 ∷ []) $ group ! 5 $
    use1 𝓛 (later (some (λ (γ' : GName). raw (Part 𝓛 HR R (with_room h) (named 0) κ q rb ro b o γ (sem 𝓛 Rest) back h.room γ'))))
    (lends_Part 𝓛 HR R (with_room h) (named 0) κ q rb ro b o γ (sem 𝓛 Rest) back (HR.coded.code h) (HR.coded.code h) h.room) $ await ! tt $ pick ! (λ γ'.
    returns ! (look_at ! 0 refl) $ free_all ! refl $ keep ! (0 ∷ []) $
    use1 𝓛 (‵ ((MutRef (named 0) κ R).own_val (record { ref_ptr = (b, o); ghost_name = γ'; now = h.room }) (vptr b o ∷ [])) ⊛ ‵ (flft κ q) ⊛ ‵ (follows HR R γ γ' (with_room h))) (id⊢ 𝓤 _) $ split ! $ move ! (1 ∷ []) $ split ! $ move ! (2 ∷ []) $
    suffices ! _ (ends_at 𝓛 f.ended stayed c y (vptr b o) (record { ref_ptr = (b, o); ghost_name = γ'; now = h.room }) (tt, tt) (tt, tt)) $
    nothing ! $ nothing ! $ fjoin ! $ join ! $ nothing ! $ move ! (2 ∷ 0 ∷ []) $ join ! $ join ! $ frame ! $ says ! refl $ done !))))))
