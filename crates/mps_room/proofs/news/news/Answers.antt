-- `news` meets its contract, by the lemmas of Telling.
use Rattle.std.proofs.Common.{◌++◌, List, ℕ, ap, sym, ◌∙◌, arith, append-nil}
use Rattle.std.specs.List.{filter, flat_map}
use Rattle.std.proofs.lemmas.List.{at_drop_all}
use Rattle.mps_room.specs.Private.Heard.{undone_at}
use Rattle.mps_room.specs.Private.Owners.{owns}
use Rattle.mps_room.specs.Private.Narrow.{journal_of}
use Rattle.mps_room.proofs.Telling.{news_told}
use Rattle.mps_room.proofs.news.news.Goals as goal

pub returns : goal.returns
returns c =
    let ids = c.loop-place.ids.items in
    let tell = flat_map (λ k. filter (owns c.args.steps.now.owners.items c.args.role) (undone_at (journal_of c.args.journal.now.entries) k)) in
    sym (append-nil ids)
    ∙ sym (ap (λ (l : List ℕ). ids ++ l) (at_drop_all tell c.after-told.result.now c.loop-place.place-index (omega (arith, c.loop-place-test.false))))
    ∙ c.loop-place.invariant
    ∙ news_told (journal_of c.args.journal.now.entries) c.args.steps.now.owners.items c.args.role c.args.known c.args.heard.now c.after-told.result.now c.requires.owned c.requires.heard c.after-told.ensures
