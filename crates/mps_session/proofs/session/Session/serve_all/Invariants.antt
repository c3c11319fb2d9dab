-- In each turn of the loop of `Session::serve_all` the requests so far were served, each in the state that the one before it left.
use Rattle.std.proofs.Common.{◌≡◌, ◌+◌, ◌≤◌, ◌++◌, length, vec_len}
use Rattle.std.specs.Vec.{vec_capacity}
use Rattle.std.specs.Vec.Iter.{into_iter_items}
use Rattle.mps_machine.specs.Machine.{IsSound}
use Rattle.mps_session.specs.Runs.{AreServed}
use Rattle.mps_session.proofs.session.Session.serve_all.Given as goal

abbrev pub invariant-loop-role : goal.invariant-loop-role
invariant-loop-role l =
    (l.fn.requests.items ≡ l.yielded ++ into_iter_items l.role-iterator)
    × (l.self.types ≡ l.fn.self.types)
    × AreServed l.fn.self.types l.yielded l.answers.items l.fn.self.state l.self.state
    × IsSound l.fn.self.types l.self.state
    × (vec_len l.answers + length (into_iter_items l.role-iterator) ≤ vec_capacity l.answers)
