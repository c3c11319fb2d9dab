-- `write_show` meets its clause `shown`, by the lemmas of Plain and Rows.
use Rattle.mps_show.specs.Shown.{shown}
use Rattle.mps_show.proofs.Plain.{text_is_shown}
use Rattle.mps_show.proofs.Rows.{on_ok}
use Rattle.mps_show.proofs.text_state.write_show.Goals as goal

pub returns-then-is_empty-clause-shown : goal.returns-then-is_empty-clause-shown
returns-then-is_empty-clause-shown c =
    let session = c.args.session.now in
    text_is_shown (shown c.args.names.now session.types session.state.history) c.in_ok-put_state.ensures.plain

pub returns-clause-shown : goal.returns-clause-shown
returns-clause-shown c =
    let session = c.args.session.now in
    on_ok c.extend_from_slice.result (text_is_shown (shown c.args.names.now session.types session.state.history) c.in_ok-put_state.ensures.plain)
