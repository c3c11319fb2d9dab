-- `Log::newest_of` meets its contract, by the lemmas of NewestSteps.
use Rattle.std.proofs.Common.{arith, refl, sym, ◌∙◌}
use Rattle.mps_log.proofs.NewestSteps.{newest_none, found, newest_is}
use Rattle.mps_log.proofs.log.Log.newest_of.Goals as goal

pub returns-in_err-key : goal.returns-in_err-key
returns-in_err-key c =
    let es = c.self.inside.arena.keyed_steps in
    let none = newest_none es c.args.role (sym c.last_of.ensures ∙ c.in_err-key.was) in
    grind (arith, none)

pub get-requires : goal.get-requires
get-requires c =
    let es = c.self.inside.arena.keyed_steps in
    let there = found es c.args.role c.self.invariant.sound.distinct c.in_ok-key.key (sym c.last_of.ensures ∙ c.in_ok-key.was) in
    rw there.1 refl

pub returns : goal.returns
returns c =
    let es = c.self.inside.arena.keyed_steps in
    let newest = newest_is es c.args.role c.self.invariant.sound.distinct c.in_ok-key.key (sym c.last_of.ensures ∙ c.in_ok-key.was) c.get.result.now _ c.get.ensures c.moved_at.ensures in
    grind (arith, newest)
