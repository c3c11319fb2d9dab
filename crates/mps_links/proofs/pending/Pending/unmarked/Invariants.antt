-- In each turn of the loop of `Pending::unmarked` the first receipts of the roles so far are marked.
use Rattle.std.proofs.Common.{◌≡◌, ◌<◌, ℕ, true, Some, None, slice_index_or}
use Rattle.mps_links.specs.Private.Numbered.{keys_alone}
use Rattle.mps_links.specs.Private.Pending.{mark_at}
use Rattle.mps_links.proofs.pending.Pending.unmarked.Given as goal

abbrev pub invariant-loop-role : goal.invariant-loop-role
invariant-loop-role l = (r : ℕ) → r < l.role → (k : ℕ) → slice_index_or (keys_alone l.self.firsts) r None ≡ Some k → mark_at l.arena.keyed_steps k ≡ Some true
