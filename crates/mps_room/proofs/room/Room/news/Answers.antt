-- `Room::news` may call `news`, by the lemmas of Telling.
use Rattle.std.proofs.Common.{◌≡◌, sym, ◌∙◌, arith, inl, inr}
use Rattle.std.proofs.lemmas.Bool.{cases_lt}
use Rattle.mps_room.specs.Private.Heard.{places}
use Rattle.mps_room.specs.Private.Narrow.{journal_of}
use Rattle.mps_room.proofs.Telling.{nobody}
use Rattle.mps_room.proofs.room.Room.news.Goals as goal

pub news-requires-clause-heard : goal.news-requires-clause-heard
news-requires-clause-heard c =
    let r = c.self.inside in
    let kept = c.self.invariant.consistent in
    let told : c.list.result.now ≡ places (journal_of r.journal.entries) c.args.role =
    elim (cases_lt c.args.role r.heard.count) [
      | inl there ↦ c.list.ensures.role there ∙ kept.heard.listed c.args.role there
      | inr none ↦ c.list.ensures.none (omega (arith, none)) ∙ sym (nobody r.names r.session.types (journal_of r.journal.entries) c.args.role kept.legal.each (omega (arith, none, kept.roles)))
    ]
    in
    told
