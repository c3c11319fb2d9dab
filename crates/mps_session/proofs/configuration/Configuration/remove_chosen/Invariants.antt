-- In each turn of the loop of `Configuration::remove_chosen` the steps that went are the newest of the chosen ones, and their numbers are told.
use Rattle.std.proofs.Common.{◌+◌, ◌≤◌, length, vec_len}
use Rattle.std.specs.Prelude.{vec_capacity}
use Rattle.mps_links.specs.Marks.{marked_keys}
use Rattle.mps_session.specs.Private.Configurations.{lists_of}
use Rattle.mps_session.proofs.RemoveMarked.{AreGoing}
use Rattle.mps_session.proofs.configuration.Configuration.remove_chosen.Given as goal

abbrev pub invariant-loop-key : goal.invariant-loop-key
invariant-loop-key l = record {
  going : AreGoing (lists_of l.initial.self) (lists_of l.self) l.initial.ids.items l.ids.items;
  space : vec_len l.ids + length (marked_keys l.self.log.keyed_steps) ≤ vec_capacity l.ids;
}

abbrev pub decreases-loop-key : goal.decreases-loop-key
decreases-loop-key l = length (marked_keys l.self.log.keyed_steps)
