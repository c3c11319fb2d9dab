-- Proves the law `worked_journals`, clauses `the_news_is_what_others_took_back`, `an_own_undo_is_no_news`, `a_number_is_called_once` and `a_number_is_told_one_thing`, by the lemmas of Working.
use Rattle.std.proofs.Common.{arith, refl}
use Rattle.mps_local.specs.Unfolding.{unfolded}
use Rattle.mps_room.proofs.Working.{one_state}
use Rattle.mps_room.proofs.examples.worked_journals.Goals as goal

pub returns-clause-the_news_is_what_others_took_back : goal.returns-clause-the_news_is_what_others_took_back
unfolding unfolded
returns-clause-the_news_is_what_others_took_back c = refl

pub returns-clause-an_own_undo_is_no_news : goal.returns-clause-an_own_undo_is_no_news
unfolding unfolded
returns-clause-an_own_undo_is_no_news c = refl

pub returns-clause-a_number_is_called_once : goal.returns-clause-a_number_is_called_once
unfolding unfolded
returns-clause-a_number_is_called_once c = (
  record { not_next = λ e. omega (arith, e); not_again = λ e. refl; unchanged = refl },
  record { next = refl; answer = _; call = (refl, refl); accepted = refl; numbered = refl; told = refl },
  record { again = refl; some = λ e. omega (arith, e); answer = _; told = refl; unchanged = refl },
  record { not_next = λ e. omega (arith, e); not_again = λ e. absurd (omega (arith, e)); unchanged = refl },
  record { next = refl; answer = _; call = (refl, refl); accepted = refl; numbered = refl; told = refl },
  record { not_next = λ e. omega (arith, e); not_again = λ e. absurd (omega (arith, e)); unchanged = refl },
  record { not_next = λ e. omega (arith, e); not_again = λ e. refl; unchanged = refl },
  record { again = refl; some = λ e. omega (arith, e); answer = _; told = refl; unchanged = refl },
  (refl, refl),
  record { next = refl; call = (refl, refl); last_stays = refl; kept_stays = refl },
  record { next = refl; answer = _; call = (refl, refl); accepted = refl; numbered = refl; told = refl },
  record { again = refl; some = λ e. omega (arith, e); answer = _; told = refl; unchanged = refl },
  refl,
)

pub returns-clause-a_number_is_told_one_thing : goal.returns-clause-a_number_is_told_one_thing
returns-clause-a_number_is_told_one_thing c x n command y z came other =
    one_state x n command y z came other
