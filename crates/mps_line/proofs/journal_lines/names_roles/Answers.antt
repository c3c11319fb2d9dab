-- `names_roles` meets its contract.
use Rattle.std.proofs.Common.{◌≡◌, Some, arith}
use Rattle.std.proofs.lemmas.Bool.Decides.{nat_tests}
use Rattle.mps_line.specs.Commands.{role_named}
use Rattle.mps_line.proofs.journal_lines.names_roles.Goals as goal

pub returns-in-Forward-Send : goal.returns-in-Forward-Send
returns-in-Forward-Send c =
    let is : role_named c.args.command.now ≡ Some c.index.result = grind arith in
    (λ below peer e. grind (arith, nat_tests), λ named. grind (arith, nat_tests, named c.index.result is))
