-- `mps_close_at` makes the box again of what its caller owns, and passes it on to be dropped.
use Rattle.std.proofs.Common.{◌≡◌, List, [], ◌∷◌, refl, ap}
use base.Fraction.{full_share}
use base.Fml.{Lft, ftrue, fsep, flft}
use base.Logic.{sep, ex, emp, id⊢}
use contract.BorrowLft.{◌⊑◌}
use contract.Lifetimes.{Lfts}
use contract.Monad.{fact, fact_i}
use denote.Builtin.{unit}
use denote.Exit.{no}
use denote.Param.{layout, arg}
use denote.Param.Laws.{Laws, arg_laws}
use denote.Param.NoDrop.{glues}
use denote.RattleType.{RattleType}
use denote.RawPtr.{block_ptr}
use denote.Steps.{nothing, only}
use denote.Triple.Call.{calls_at}
use denote.Triple.Clauses.{Lasts, lasts, ensured}
use denote.Triple.Spec.{triple_of}
use mir.Raw.{raw as bare}
use mir.Syntax.{Dict, impl, tnil, tcons, dnil}
use mir.Val.{Val, vptr, vunit}
use types.Kit.{Item, ‵, raw, ◌⊛◌, some, later, ◌$◌, ◌∵◌, !, qed, done, move, keep, drop, split, join, fsplit, fjoin, fjoin3, pick, show, frame, updating, now, use0, use1, await, feq_i, feq_l}
use types.Logic.{sem}
use types.Tokens.{lft_new}
use types.Run.{of_opd, unit_lit, no_more, and_then, returns, enter}
use types.ByLocal.{alloc_all, pass_all, free_all, look_at, get, sets, lands_as}
use Rattle.core.proofs.atomic.Steps.{fm}
use Rattle.std_alloc.proofs.BoxSteps.Form as box
use Rattle.std_alloc.proofs.BoxSteps.Steps.{box_out, box_in}
use Rattle.std_alloc.specs.contracts.boxed.Box.from_raw as callee
use Rattle.std_alloc.proofs.boxed.Box.from_raw.Met as callee_met
use Rattle.std.proofs.impls.GlobalAllocator.TheImpl.Met as heap_met
use Rattle.std_heap.specs.contracts.GlobalAllocator.TheImpl.{ghosts, dict}
use Rattle.std_heap.proofs.Global.TheLaws as heap
use Rattle.mps_dev.proofs.standard.OverWrite.TheLaws as over_write
use Rattle.mps_dev.specs.contracts.standard.OverWriteSink.TheImpl as sink
use Rattle.mps_dev.specs.declared.traits.Sink.{Ghosts}
use Rattle.mps_embed.specs.Crossing.{file_room, file_sink}
use Rattle.mps_embed.proofs.embedded.Embedded.TheLaws as room
use Rattle.mps_file.proofs.journal_file.JournalFile.TheLaws as journal_file
use Rattle.mps_file.specs.contracts.journal_file.JournalFile.{the_row as journal}
use Rattle.mps_file.specs.contracts.journal_file.JournalFileWrite.TheImpl as writes
use Rattle.mps_c.proofs.Exports.{Kind, Z, Z_laws, Boxed, frees_at, Export, exported}
use Rattle.mps_c.specs.contracts.calls.close as g
use Rattle.mps_c.proofs.calls.close.Met as close_met
use Rattle.mps_c.specs.contracts.mps_close_at as f
use Rattle.mps_c.proofs.mps_close_at.Statement.{statement}
use Rattle.mps_c.proofs.mps_close_at.Code as code

-- what the room's sink takes
abbrev file_ghosts : Ghosts file_sink.Denot
file_ghosts = sink.ghosts journal writes.ghosts writes.dict

-- the room as what a call passes for a parameter
abbrev X : RattleType
X = arg (bare (layout file_room)) no file_room

X_laws : Laws X
X_laws = arg_laws (bare (layout file_room)) no file_room (room.the_row_laws file_sink _ (over_write.the_row_laws _ journal_file.the_row_laws)) refl

abbrev drops : Dict
drops = impl ("mps_c::Destruct++none::drop" ∷ []) (tcons (layout Z) tnil) dnil

abbrev E : box.Bx
E = record { row = X; laws = X_laws; al = record { row = Z; laws = Z_laws; g = ghosts; d = dict; drops = drops } }

abbrev ks : List (Kind 0)
ks = []

pub mps_close_at_spec : {M : Type 1} → statement M
unfolding Rattle.mps_c.proofs.Destruct++none.drop.Code.code
mps_close_at_spec {M = M} 𝓤 𝓛 𝓜 𝓡 wired =
    let B : RattleType = box.B E in let c = f.clauses 𝓛 𝓜.mem 𝓡.returns in
    let Made = triple_of 𝓛 (callee.signature X Z ghosts dict drops) (callee.spec X Z ghosts dict drops 𝓛 𝓜.mem 𝓡.returns) in let Ce = callee.ended X Z ghosts dict drops in
    let known = callee_met.met 𝓤 𝓛 𝓜 𝓡 (code.calls-std_alloc::boxed::Box::from_raw 𝓡.env wired) X Z X_laws Z_laws ghosts dict drops
    (heap_met.passed 𝓡.env (code.calls-std_heap::GlobalAllocator::allocate 𝓡.env wired) (code.calls-std_heap::GlobalAllocator::deallocate 𝓡.env wired) (code.calls-std_heap::GlobalAllocator::grow 𝓡.env wired) (code.calls-std_heap::GlobalAllocator::shrink 𝓡.env wired) M 𝓤 𝓛 𝓜 𝓡)
    (glues "mps_c::Destruct++none::drop" 𝓡.env (code.calls-mps_c::Destruct++none::drop 𝓡.env wired) Z Z_laws M 𝓤 𝓛 𝓜 𝓡) in
    let Closed = triple_of 𝓛 g.signature (g.spec 𝓛 𝓜.mem 𝓡.returns) in
    exported 𝓛 𝓜 𝓡 ks unit f.ended.kept.1.1 file_room c f.Key.name code.function (code.unfolded 𝓤 𝓛.H 𝓜 𝓡 wired) (λ y. y.1) (λ y. id⊢ 𝓤 _) (λ y b o hv e fa are.
    let a : Z.Denot = y.0.3.0 in let x : X.Denot = y.1 in
    qed 𝓛 ((‵ ftrue ⊛ ‵ (fsep (Z.own_val a (hv ∷ [])) ftrue)) ∷ ‵ (Boxed 𝓛 file_room b o (frees_at a file_room b o) x) ∷ []) ∵
    split ! $ drop ! $ fsplit ! $ move ! (1 ∷ []) $ drop ! $ move ! (1 ∷ 0 ∷ []) $
    -- [what the box owns; the allocator]
    enter ! _ _ _ _ _ $ alloc_all ! (λ l. pass_all ! refl (fa, ((tt, tt), tt)) $
    sets ! (of_opd ! (get ! refl)) refl (tt, tt) $
    lft_new ! tt (λ α. lft_new ! tt (λ β. let κ : Lft = α ∷ [] in let ρ : Lft = β ∷ [] in
    let κs : Lfts 2 = (κ, (ρ, tt)) in let toks : Item 𝓤 = ‵ (flft κ full_share) ⊛ ‵ (flft ρ full_share) ⊛ ‵ ftrue in
    let z : Made.Ghost = ((κs, (full_share, (full_share, tt)), tt, (a, (block_ptr b o, tt)), (hv ∷ [], (vptr b o ∷ [], tt))), x) in
    nothing ! $ move ! (1 ∷ 0 ∷ []) $ join ! $ move ! (1 ∷ 0 ∷ []) $ join ! $ move ! (1 ∷ []) $
    use0 𝓛 (raw (fact 𝓤 (ρ ⊑ Z.lives))) (fact_i 𝓤 (ρ ⊑ Z.lives) (emp 𝓤) (heap.the_within ρ)) $ join ! $ use0 𝓛 (raw (fact 𝓤 (κ ⊑ X.lives))) (fact_i 𝓤 (κ ⊑ X.lives) (emp 𝓤) (room.the_within file_sink file_ghosts κ (over_write.the_within journal κ (journal_file.the_within κ)))) $ join ! $
    nothing ! $ feq_i ! (List Val) (vptr b o ∷ []) (vptr b o ∷ []) refl $ move ! (4 ∷ 0 ∷ 1 ∷ []) $ fjoin3 ! $ move ! (2 ∷ 0 ∷ []) $ join ! $ join ! $ use1 𝓛 (raw (Made.pre z)) (id⊢ 𝓤 (Made.pre z)) $
    -- Box::from_raw(alloc, ..)
    calls_at ! (fm 𝓛 𝓜 𝓡) Made known z (and_then ! (get ! refl) (and_then ! (get ! refl) (no_more !))) (λ u.
    use1 𝓛 (later (some (λ (r : B.Denot). (toks ⊛ ‵ (B.own_val r (u ∷ []))) ⊛ some (λ (ls : Lasts Ce κs (a, (block_ptr b o, tt))). ‵ (lasts Ce κs (a, (block_ptr b o, tt)) ls) ⊛ (raw (fact 𝓤 (r.value ≡ x)) ⊛ raw (fact 𝓤 (r.alloc ≡ a))))))) (id⊢ 𝓤 (Made.post z u)) $
    await ! tt $ pick ! (λ r. split ! $ move ! (1 ∷ []) $ drop ! $ split ! $ drop ! $
    box_out E ! r (u ∷ []) (λ b' o' hw e' eu fw. box_in E ! r b' o' r.value e' refl $ let w : Val = box.word E hw b' o' in
    lands_as ! (ap only eu) refl (box.box_typed E hw b' o' fw) $
    -- close(..)
    let z₂ : Closed.Ghost = ((tt, tt, tt, (r, tt), (w ∷ [], tt)), tt) in
    nothing ! $ move ! (1 ∷ 0 ∷ []) $ fjoin ! $ nothing ! $ join ! $ nothing ! $ move ! (1 ∷ 0 ∷ []) $ join ! $ use1 𝓛 (raw (Closed.pre z₂)) (id⊢ 𝓤 (Closed.pre z₂)) $
    calls_at ! (fm 𝓛 𝓜 𝓡) Closed (close_met.met 𝓤 𝓛 𝓜 𝓡 (code.calls-mps_c::calls::close 𝓡.env wired)) z₂ (and_then ! (get ! refl) (no_more !)) (λ v.
    use1 𝓛 (later (some (λ (m : Unit {0}). (‵ ftrue ⊛ ‵ (unit.own_val m (v ∷ []))) ⊛ raw (ensured 𝓛 g.ended (g.clauses 𝓛 𝓜.mem 𝓡.returns) tt (r, tt) tt m)))) (id⊢ 𝓤 (Closed.post z₂ v)) $
    await ! tt $ pick ! (λ m. split ! $ move ! (1 ∷ []) $ drop ! $ split ! $ drop ! $ feq_l ! (λ is_unit.
    lands_as ! (ap only is_unit) refl (tt, tt) $ sets ! (of_opd ! (unit_lit !)) refl (tt, tt) $ returns ! (look_at ! 0 refl) $ free_all ! refl $ keep ! [] $
    use0 𝓛 (raw ((Export 𝓛 𝓜 𝓡 ks unit f.ended.kept.1.1 file_room c).post y vunit)) (
    qed 𝓛 [] ∵ updating ! $ now ! $
    show ! (λ (q : Unit {0}). sep 𝓤 (sep 𝓤 (emp 𝓤) (sem 𝓛 (unit.own_val q (vunit ∷ [])))) (ex 𝓤 (λ (ws : Unit {0} × (Unit {0} × Unit {0})). sep 𝓤 (sem 𝓛 (fsep ftrue (fsep ftrue ftrue))) (emp 𝓤)))) tt $
    feq_i ! (List Val) (vunit ∷ []) (vunit ∷ []) refl $ nothing ! $ join ! $ frame ! $
    show ! (λ (ws : Unit {0} × (Unit {0} × Unit {0})). sep 𝓤 (sem 𝓛 (fsep ftrue (fsep ftrue ftrue))) (emp 𝓤)) (tt, (tt, tt)) $
    nothing ! $ nothing ! $ fjoin ! $ nothing ! $ fjoin ! $ frame ! $ nothing ! $ done !) $ done !))))))))))
