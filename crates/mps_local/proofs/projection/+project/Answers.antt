-- `project_branches` and `project_tree` meet their clauses `ok` and `fault`, by the lemmas of Examined.
use Rattle.std.proofs.Common.{sym, subst}
use Rattle.mps_global.specs.Global.{plain as global_type, plain_branches as global_branches}
use Rattle.mps_global.specs.declared.Global.{Global}
use Rattle.mps_global.specs.declared.Branches.{Branches}
use Rattle.mps_local.specs.Local.{plain, plain_branches}
use Rattle.mps_local.specs.Private.Outcome.{IsDone, AreDone}
use Rattle.mps_local.proofs.Examined.{message_done, branches_done, choice_done}
use Rattle.mps_local.proofs.projection.+project.Goals as goal

pub project_branches-returns-in_ok-more-in-More-clause-ok :
    goal.project_branches-returns-in_ok-more-in-More-clause-ok
project_branches-returns-in_ok-more-in-More-clause-ok t c =
    rw (c.in-More.is, c.in_ok-more-in-More.ensures)
    (branches_done c.args.merging c.args.roles.now c.args.role c.args.number c.in-More.label (global_type c.in-More.next.value) (global_branches c.in-More.others.value) (plain c.in_ok-first-in-More.first) (plain_branches c.in_ok-rest-in-More.rest) c.in_ok-first-in-More.between c.in_ok-rest-in-More.after
    (subst (λ (g : Global). IsDone c.args.merging c.args.roles.now c.args.role c.args.number (global_type g) (plain c.in_ok-first-in-More.first) c.in_ok-first-in-More.between) c.deref.ensures c.in_ok-first-in-More.ensures.ok)
    (subst (λ (g : Branches). AreDone c.args.merging c.args.roles.now c.args.role c.in_ok-first-in-More.between (global_branches g) (plain_branches c.in_ok-rest-in-More.rest) c.in_ok-rest-in-More.after) c.deref-in-More.ensures c.in_ok-rest-in-More.ensures.ok))

pub project_tree-returns-in-Ok-clause-ok : goal.project_tree-returns-in-Ok-clause-ok
project_tree-returns-in-Ok-clause-ok t c =
    rw c.in-Choice.is
    (choice_done c.args.merging c.args.roles.now c.args.role c.args.number _ _ _ _ _ _ c.in_ok-rest-in-Choice.ensures.ok (rw (sym c.role_of-from-in-Choice.ensures, sym c.role_of-to-in-Choice.ensures) c.in-Ok.ensures.ok))

pub project_tree-returns-in_ok-local-in-Message-clause-ok :
    goal.project_tree-returns-in_ok-local-in-Message-clause-ok
project_tree-returns-in_ok-local-in-Message-clause-ok t c =
    rw (c.in-Message.is, c.in_ok-local-in-Message.ensures, c.role_of-from.ensures, c.role_of-to.ensures)
    (message_done c.args.merging c.args.roles.now c.args.role c.args.number c.in-Message.sender c.in-Message.receiver c.in-Message.sort (global_type c.in-Message.next.value) (plain c.in_ok-rest-in-Message.rest) c.in_ok-rest-in-Message.after
    (subst (λ (g : Global). IsDone c.args.merging c.args.roles.now c.args.role c.args.number (global_type g) (plain c.in_ok-rest-in-Message.rest) c.in_ok-rest-in-Message.after) c.deref-in-Message.ensures c.in_ok-rest-in-Message.ensures.ok))
