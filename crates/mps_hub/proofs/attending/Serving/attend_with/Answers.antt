-- `attend_with` meets its clauses `attended` and `told`, by the lemmas of Joining and Telling.
use Rattle.std.proofs.Common.{List, ℕ, ◌-◌, sym, ◌∙◌, subst}
use Rattle.mps_hub.specs.First.{IsFirstLine}
use Rattle.mps_hub.specs.Places.{IsKeptBy, IsPassOf}
use Rattle.mps_hub.specs.Shares.{IsLeftOf}
use Rattle.mps_keeper.specs.Holds.{keeper_of}
use Rattle.mps_hub.proofs.Joining.{if_some, joined, refused}
use Rattle.mps_hub.proofs.Telling.{refused_told}
use Rattle.mps_hub.proofs.attending.Serving.attend_with.Goals as goal

pub returns-in-Ok-admit-clause-attended : goal.returns-in-Ok-admit-clause-attended
returns-in-Ok-admit-clause-attended g c =
    let first = subst (λ (kept : List ℕ). IsFirstLine g.R.Source c.args.reader.now c.first_line.new.reader kept) (sym c.as_slice.ensures.value)
    (if_some c.in-Ok-Some.field-0 c.in-Ok-Some.first (λ line. IsFirstLine g.R.Source c.args.reader.now c.first_line.new.reader line.items) c.in-Ok-Some.field-0-is c.in-Ok-Some.ensures.line) in
    let a = c.in-Ok-admit.admitted in
    joined _ (λ caller. caller.inner.inner.pass) (λ caller. keeper_of caller.recorder) (λ caller. caller.inner.left) g.R.Source g.W.Sink c.args.self.now.desk.now c.args.self.now.keepers.now c.args.reader.now c.first_line.new.reader c.args.writer.now c.as_slice.result.now first
    a.session a.name _ c.converse_joined-ended.new.caller c.converse_joined-ended.new.reader c.converse_joined-ended.new.writer c.converse_joined-ended.result _ (c.new-vigil.ensures ∙ c.waits.ensures) c.converse_joined-ended.ensures.conversed c.in-Ok-admit.ensures.joins
    (subst (λ inner. IsPassOf c.args.self.now.desk.now a.session a.name inner.inner.pass) (sym c.new-guest.ensures.inner) c.in-Ok-admit.ensures.pass)
    (subst (λ keeper. IsKeptBy c.args.self.now.keepers.now (a.session - c.args.self.now.desk.now.first) keeper) (sym (c.new-guest.ensures.place ∙ c.confirm.ensures.keeper ∙ c.new-hold.ensures.keeper)) c.in-Ok-admit.ensures.keeper)
    (subst (λ inner. IsLeftOf c.args.self.now.desk.now.share inner.left) (sym c.new-guest.ensures.inner) c.left.ensures)

pub returns-in-Err-admit-clause-attended : goal.returns-in-Err-admit-clause-attended
returns-in-Err-admit-clause-attended g c =
    let first = subst (λ (kept : List ℕ). IsFirstLine g.R.Source c.args.reader.now c.first_line.new.reader kept) (sym c.as_slice.ensures.value)
    (if_some c.in-Ok-Some.field-0 c.in-Ok-Some.first (λ line. IsFirstLine g.R.Source c.args.reader.now c.first_line.new.reader line.items) c.in-Ok-Some.field-0-is c.in-Ok-Some.ensures.line) in
    refused _ (λ caller. caller.inner.inner.pass) (λ caller. keeper_of caller.recorder) (λ caller. caller.inner.left) g.R.Source g.W.Sink c.args.self.now.desk.now c.args.self.now.keepers.now c.args.reader.now c.first_line.new.reader c.args.writer.now c.as_slice.result.now first
    c.refuse.new.writer c.in-Err-admit.reply c.refuse.result c.in-Err-admit.ensures.reply c.refuse.ensures

pub returns-in-Err-admit-clause-told : goal.returns-in-Err-admit-clause-told
returns-in-Err-admit-clause-told g c = λ none. refused_told g.W.Sink c.args.writer.now c.refuse.new.writer c.in-Err-admit.reply c.refuse.result c.refuse.ensures
