-- `verdict_of` meets its clauses `verdict` and `fault`, by the lemmas of Comparing.
use Rattle.std.proofs.Common.{◌≡◌, List, ap, ◌∙◌}
use mathlib.Core.Path.{ap₂}
use Rattle.std.proofs.lemmas.Result.{IfErr-weaker, IfOk-weaker}
use Rattle.mps_local.specs.Local.{LocalType}
use Rattle.mps_machine.specs.Machine.{State}
use Rattle.mps_room.specs.Journal.{run}
use Rattle.mps_room.specs.declared.entry.Entry.{Entry}
use Rattle.mps_session.specs.SessionState.{SessionState}
use Rattle.mps_program.proofs.Comparing.{cant_follow, followed}
use Rattle.mps_program.proofs.comparison.verdict_of.Goals as goal

-- a session as a journal leaves it
left_as : (session : SessionState) (types : List LocalType) (journal : List Entry) → session.types ≡ types → session.state ≡ run types journal → session ≡ record { types = types; state = run types journal }
left_as session types journal e f =
    let machine : List LocalType → State → SessionState = λ types state. record { types = types; state = state } in
    ap₂ machine e f

pub returns-clause-verdict : goal.returns-clause-verdict
returns-clause-verdict g c =
    let types = c.args.first.types in
    let first = c.in_ok-first.first in
    let session = c.session.result.now in
    let here : session ≡ record { types = types; state = run types first.journal } = left_as session types first.journal (c.session.ensures.types ∙ c.in_ok-first.ensures.types) (c.session.ensures.state ∙ ap (λ (t : List LocalType). run t first.journal) c.in_ok-first.ensures.types) in
    IfOk-weaker c.compared.result _ _ (λ r h. followed c.args.roles.now types first.journal session here _ _ _ _ _ _ c.in_ok-first.ensures.ran h) c.compared.ensures.verdict

pub returns-clause-fault : goal.returns-clause-fault
returns-clause-fault g c =
    let types = c.args.first.types in
    let first = c.in_ok-first.first in
    let same : c.session.result.now.types ≡ types = c.session.ensures.types ∙ c.in_ok-first.ensures.types in
    IfErr-weaker c.compared.result _ _ (λ fault h. cant_follow c.args.roles.now types first.journal c.session.result.now.types same _ _ _ _ fault c.in_ok-first.ensures.ran h) c.compared.ensures.fault
