-- What restoring leaves the roles.
use Rattle.std.proofs.Common.{ℕ, List, [], ◌∷◌, sym, subst}
use Rattle.std.specs.Prelude.{All, Option, None, Some}
use Rattle.std.proofs.lemmas.List.Elements.{All-set}
use Rattle.mps_command.specs.declared.command.Command.{Command}
use Rattle.mps_local.specs.Local.{LocalType}
use Rattle.mps_keeper.specs.Restored.{KeepsAccepted, IsCalled, LinesRestored, Standing}

module _ (names : List (List ℕ)) (types : List LocalType) where
  called_keeps : (before after : Standing) (role : ℕ) (number : Option ℕ) (command : Command) → All KeepsAccepted before.newest → IsCalled names types before role number command after → All KeepsAccepted after.newest
  called_keeps before after role None command all called = subst (All KeepsAccepted) (sym called.kept) all
  called_keeps before after role (Some n) command all called =
      subst (All KeepsAccepted) (sym called.kept)
      (All-set KeepsAccepted before.newest role (Some (record { number = n; answer = called.answer })) called.follows.accepted all)

pub lines_keep : (names : List (List ℕ)) (types : List LocalType) (before : Standing) (lines : List (List ℕ)) (after : Standing) → All KeepsAccepted before.newest → LinesRestored names types before lines after → All KeepsAccepted after.newest
lines_keep names types before [] after all led = subst (λ (s : Standing). All KeepsAccepted s.newest) (sym led) all
lines_keep names types before (line ∷ lines) after all (mid, here, there) =
    lines_keep names types mid lines after (called_keeps names types before mid here.role here.number here.command all here.called) there
