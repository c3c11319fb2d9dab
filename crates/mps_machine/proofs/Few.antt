-- No more steps survive than numbers were given out, of which there are never too many.
use Rattle.std.proofs.Common.{◌+◌, ◌<◌, ◌≤◌, Bool, List, [], ◌∷◌, length, subst, sym, arith, length-append}
use Rattle.std.specs.List.{filter}
use Rattle.std.proofs.lemmas.Bool.{cases_Bool}
use Rattle.mps_base.specs.declared.action.Step.{Step}
use Rattle.mps_local.specs.Local.{LocalType}
use Rattle.mps_machine.specs.Machine.{State, initial, most_numbers, Request, serve, after, IsSound}
use Rattle.mps_machine.proofs.Moves.{Move, Stays, Adds, Removes, serve_moves}
use Rattle.mps_machine.proofs.Sound.{serve_sound, initial_sound}

-- fewer steps survive than the next number, and that is at most one more than the last
pub record AreFew (st : State) : Type 0 where
  pub fewer : length st.history < st.next
  pub most : st.next ≤ most_numbers + 1

-- a filter leaves no more
pub length-filter : (p : Step → Bool) (h : List Step) → length (filter p h) ≤ length h
length-filter p [] = omega arith
length-filter p (x ∷ h) = grind (arith, length-filter p h, cases_Bool (p x))

-- each command keeps it so
few_move : (st new : State) → AreFew st → Move st new → AreFew new
few_move st new few (Stays e) = subst AreFew (sym e) few
few_move st new few (Adds p act left e) = subst AreFew (sym e) (record { fewer = grind (arith, length-append, few.fewer); most = omega arith })
few_move st new few (Removes gone closed spares e) = subst AreFew (sym e) (record { fewer = grind (arith, length-filter, few.fewer); most = few.most })

-- so any commands do
pub few_after : (types : List LocalType) (requests : List Request) (st : State) → IsSound types st → AreFew st → AreFew (after types st requests)
few_after types [] st ok few = few
few_after types (r ∷ rs) st ok few =
    let next = (serve types st r.0 r.1).1 in
    few_after types rs next (serve_sound types st r.0 r.1 ok) (few_move st next few (serve_moves types st ok r.0 r.1))

pub always_few : (types : List LocalType) (requests : List Request) → AreFew (after types initial requests)
always_few types requests = few_after types requests initial (initial_sound types) (record { fewer = omega arith; most = omega arith })
