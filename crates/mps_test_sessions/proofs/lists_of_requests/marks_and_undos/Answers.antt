-- `marks_and_undos` keeps what holds in each turn of its loop, by the lemmas of OneMore.
use Rattle.std.proofs.Common.{ℕ, ◌<◌, length, List, sym, subst}
use Rattle.std.specs.List.{AllByRecursion}
use Rattle.std.specs.Prelude.{is_ok}
use Rattle.mps_machine.specs.Machine.{Request}
use Rattle.mps_test_sessions.proofs.OneMore.{all_or_one_more}
use Rattle.mps_test_sessions.proofs.lists_of_requests.marks_and_undos.Goals as goal

pub loop-turn-preserved : goal.loop-turn-preserved
loop-turn-preserved g c =
    let IsRole : Request → Type 0 = λ request. request.0 < length c.args.session.now.types in
    subst (AllByRecursion IsRole) (sym {A = List Request} c.push.ensures.items)
    (all_or_one_more IsRole (is_ok c.push.result) c.loop-turn.all.items c.mark_or_undo.result c.loop-turn.invariant
    (subst (λ (role : ℕ). role < length c.args.session.now.types) (sym c.mark_or_undo.ensures) c.role_of-role.ensures))
