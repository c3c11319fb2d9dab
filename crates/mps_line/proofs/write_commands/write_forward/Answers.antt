-- `write_forward` meets its clause `ok` and may call `write_role`, by the lemmas of Writing.
use Rattle.std.specs.Prelude.{[], refl}
use Rattle.mps_line.specs.Tokens.{RoleAt, Called, Worth}
use Rattle.mps_line.proofs.Writing.{token_written, token_alone}
use Rattle.mps_line.proofs.write_commands.write_forward.Goals as goal

pub write_role-requires : goal.write_role-requires
write_role-requires c = (rw c.in-Send.is at c.requires.known) _ refl

pub write_role-requires-in-Choose : goal.write_role-requires-in-Choose
write_role-requires-in-Choose c = (rw c.in-Choose.is at c.requires.known) _ refl

pub write_role-requires-in-Receive : goal.write_role-requires-in-Receive
write_role-requires-in-Receive c = (rw c.in-Receive.is at c.requires.known) _ refl

pub write_role-requires-in-Pick : goal.write_role-requires-in-Pick
write_role-requires-in-Pick c = (rw c.in-Pick.is at c.requires.known) _ refl

pub returns-in_ok-push-in-Send-clause-ok : goal.returns-in_ok-push-in-Send-clause-ok
returns-in_ok-push-in-Send-clause-ok c =
    rw c.in-Send.is (token_written _ _ _ _ _ _ (RoleAt c.in-Send.to) (Worth c.in-Send.value) [] c.in_ok-write_role-in-Send.ensures.ok c.in_ok-push-in-Send.ensures.items (token_alone _ _ _ _ (Worth c.in-Send.value) c.write.ensures.ok))

pub returns-in_ok-push-in-Choose-clause-ok : goal.returns-in_ok-push-in-Choose-clause-ok
returns-in_ok-push-in-Choose-clause-ok c =
    rw c.in-Choose.is (token_written _ _ _ _ _ _ (RoleAt c.in-Choose.to) (Called c.in-Choose.label) [] c.in_ok-write_role-in-Choose.ensures.ok c.in_ok-push-in-Choose.ensures.items (token_alone _ _ _ _ (Called c.in-Choose.label) c.write_name.ensures.ok))

pub returns-in_ok-push-in-Receive-clause-ok : goal.returns-in_ok-push-in-Receive-clause-ok
returns-in_ok-push-in-Receive-clause-ok c =
    rw c.in-Receive.is (token_written _ _ _ _ _ _ (RoleAt c.in-Receive.from) (Called c.in-Receive.slot) [] c.in_ok-write_role-in-Receive.ensures.ok c.in_ok-push-in-Receive.ensures.items (token_alone _ _ _ _ (Called c.in-Receive.slot) c.write_name-in-Receive.ensures.ok))

pub returns-in-Pick-clause-ok : goal.returns-in-Pick-clause-ok
returns-in-Pick-clause-ok c = rw c.in-Pick.is (token_alone _ _ _ _ (RoleAt c.in-Pick.from) c.write_role-in-Pick.ensures.ok)

pub returns-in-Mark-clause-ok : goal.returns-in-Mark-clause-ok
returns-in-Mark-clause-ok c = rw c.in-Mark.is (token_alone _ _ _ _ (Called c.in-Mark.name) c.write_name-in-Mark.ensures.ok)
