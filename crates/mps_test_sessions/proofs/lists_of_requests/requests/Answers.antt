-- `requests` keeps what holds in each turn of its loop, by the lemmas of OneMore.
use Rattle.std.proofs.Common.{◌<◌, length, List, sym, subst}
use Rattle.std.specs.List.{AllByRecursion}
use Rattle.std.specs.Prelude.{is_ok}
use Rattle.mps_machine.specs.Machine.{Request}
use Rattle.mps_test_sessions.proofs.OneMore.{all_or_one_more}
use Rattle.mps_test_sessions.proofs.lists_of_requests.requests.Goals as goal

pub loop-place-preserved : goal.loop-place-preserved
loop-place-preserved g c =
    let IsRole : Request → Type 0 = λ request. request.0 < length c.args.session.now.types in
    subst (AllByRecursion IsRole) (sym {A = List Request} c.push.ensures.items)
    (all_or_one_more IsRole (is_ok c.push.result) c.loop-place.all.items (c.role_of-role.result, c.asked-command.result) c.loop-place.invariant c.role_of-role.ensures)
