-- Wherever commands lead, undos alone and then steps alone lead too.
use Rattle.std.proofs.Common.{◌≡◌, ℕ, ◌+◌, ◌≤◌, Bool, true, false, not, List, [], ◌∷◌, ◌++◌, map, length, Some, refl, sym, ap, ◌∙◌, subst, arith, length-append, append_assoc, append-nil}
use Rattle.std.specs.Prelude.{◌&&◌, ◌||◌, nat_lt}
use Rattle.std.specs.List.{filter}
use Rattle.std.proofs.lemmas.Bool.{cases_Bool, and_left, le-ltb, or_left, or_right, or_cases, or_from, not_from_false}
use Rattle.std.proofs.lemmas.List.Elements.{filter-append}
use Rattle.mps_base.specs.declared.action.Step.{Step}
use Rattle.mps_local.specs.Local.{LocalType}
use Rattle.mps_history.specs.Dependence.{depends_on, IsClosed}
use Rattle.mps_history.specs.Steps.{IsIn, IsRising, sends, receives, without}
use Rattle.mps_history.specs.Swaps.{deeds}
use Rattle.mps_history.proofs.Commits.{link_stays}
use Rattle.mps_history.proofs.Least.{filter_twice}
use Rattle.mps_history.proofs.Order.{from_members, IsIn-filter, IsIn-append_left, rising_apart}
use Rattle.mps_history.proofs.Removal.{filter-none, filter-all}
use Rattle.mps_machine.specs.Machine.{State, initial, most_numbers, Request, serve, after, IsSound}
use Rattle.mps_machine.specs.Rule.{replay}
use Rattle.mps_machine.specs.Runs.{LeadsForward, LeadsBackAndForth, survivors}
use Rattle.mps_machine.specs.View.{opening}
use Rattle.mps_machine.proofs.Back.{turn, takes_back}
use Rattle.mps_machine.proofs.Few.{few_after, always_few, length-filter}
use Rattle.mps_machine.proofs.Forth.{again, all_forward, takes_again}
use Rattle.mps_machine.proofs.Moves.{Spares, Move, Stays, Adds, Removes, serve_moves}
use Rattle.mps_machine.proofs.Sound.{initial_sound, serve_sound, after_sound}
use Rattle.mps_machine.proofs.Stepping.{replay_front}

-- what is left of a state after commands: its history without a closed set that spares commits, and then new steps
pub record Leads (from to : State) : Type 0 where
  pub gone : ℕ → Bool
  pub new : List Step
  pub closed : IsClosed from.history gone
  pub spares : Spares from.history gone
  pub parts : to.history ≡ without from.history gone ++ new
  pub room : from.next + length new ≤ to.next

-- at first nothing went and nothing came
pub leads_there : (st : State) → Leads st st
leads_there st = record {
  gone = λ n. false;
  new = [];
  closed = λ t s it is e d. e;
  spares = λ c i commit. refl;
  parts = sym (append-nil (without st.history (λ n. false)) ∙ filter-all (λ s. true) st.history (from_members (λ s. true ≡ true) st.history (λ t i. refl)));
  room = omega arith;
}

-- later steps have no part in what depends on what before them
link_before : (k new : List Step) → IsRising (k ++ new) → (t s : Step) → IsIn t k → IsIn s k → depends_on (k ++ new) t s ≡ depends_on k t s
link_before k new rising t s it is =
    grind (arith, counts_before (λ x. sends s.role t.role x) s is, counts_before (λ x. receives s.role t.role x) t it)
  where
    counts_before : (p : Step → Bool) (u : Step) → IsIn u k → length (filter (λ x. nat_lt x.id u.id && p x) (k ++ new)) ≡ length (filter (λ x. nat_lt x.id u.id && p x) k)
    counts_before p u iu = ap length (filter-append (λ x. nat_lt x.id u.id && p x) k new ∙ ap (λ l. filter (λ x. nat_lt x.id u.id && p x) k ++ l) (filter-none (λ x. nat_lt x.id u.id && p x) new (from_members (λ x. (nat_lt x.id u.id && p x) ≡ false) new (λ x i. let less = rising_apart k new u x rising iu i in and_left (nat_lt x.id u.id) (p x) (le-ltb x.id u.id (omega arith))))) ∙ append-nil (filter (λ x. nat_lt x.id u.id && p x) k))

-- a closed set goes after another
module _ (h new : List Step) (gone more : ℕ → Bool) (closed : IsClosed h gone) (rising : IsRising (without h gone ++ new)) (then_closed : IsClosed (without h gone ++ new) more) where
  abbrev k : List Step
  k = without h gone

  -- what didn't go first is left
  in_left : (t : Step) → IsIn t h → gone t.id ≡ false → IsIn t k
  in_left t i stays = IsIn-filter (λ x. not (gone x.id)) t h i (not_from_false (gone t.id) stays)

  in_all : (t : Step) → IsIn t h → gone t.id ≡ false → IsIn t (k ++ new)
  in_all t i stays = IsIn-append_left t k new (in_left t i stays)

  -- and depends on what it depended on
  link_left : (t s : Step) → IsIn t h → IsIn s h → gone t.id ≡ false → gone s.id ≡ false → depends_on h t s ≡ true → depends_on (k ++ new) t s ≡ true
  link_left t s it is t_stays s_stays d = link_before k new rising t s (in_left t it t_stays) (in_left s is s_stays) ∙ link_stays h gone closed t s it is t_stays s_stays ∙ d

  -- so both sets together are closed
  pub both_closed : IsClosed h (λ n. gone n || more n)
  both_closed t s it is e d = grind (arith, closed t s it is, then_closed t s, in_all, link_left, or_cases, or_left, or_right, cases_Bool (gone t.id), cases_Bool (gone s.id))

  -- they spare commits
  pub both_spared : Spares h gone → Spares (k ++ new) more → Spares h (λ n. gone n || more n)
  both_spared spares spares_more c i commit =
      let stays = spares c i commit in
      or_from (gone c.id) (more c.id) stays (spares_more c (in_all c i stays) commit)

  -- and leave what is left after one and then the other
  pub both_left : without (k ++ new) more ≡ without h (λ n. gone n || more n) ++ without new more
  both_left =
      filter-append (λ t. not (more t.id)) k new
      ∙ ap (λ (l : List Step). l ++ without new more)
      (filter_twice (λ t. not (more t.id)) (λ t. not (gone t.id)) (λ t. not (gone t.id || more t.id)) h
      (from_members (λ t. not (gone t.id || more t.id) ≡ (not (gone t.id) && not (more t.id))) h (λ t i. grind (arith, cases_Bool (gone t.id)))))

-- each command keeps it so
leads_on : (from to next : State) → IsRising to.history → Leads from to → Move to next → Leads from next
leads_on from to next rising leads (Stays e) = subst (Leads from) (sym e) leads
leads_on from to next rising leads (Adds p act left e) =
    let s : Step = record { id = to.next; role = p; act = act } in
    subst (Leads from) (sym e)
    (record {
      gone = leads.gone;
      new = leads.new ++ s ∷ [];
      closed = leads.closed;
      spares = leads.spares;
      parts = ap (λ (l : List Step). l ++ s ∷ []) leads.parts ∙ append_assoc (without from.history leads.gone) leads.new (s ∷ []);
      room = let more = length-append leads.new (s ∷ []) in let room = leads.room in grind arith;
    })
leads_on from to next rising leads (Removes more closed spares e) =
    let rising_parts = subst IsRising leads.parts rising in
    let closed_parts = subst (λ (l : List Step). IsClosed l more) leads.parts closed in
    let spares_parts = subst (λ (l : List Step). Spares l more) leads.parts spares in
    subst (Leads from) (sym e)
    (record {
      gone = λ n. leads.gone n || more n;
      new = without leads.new more;
      closed = both_closed from.history leads.new leads.gone more leads.closed rising_parts closed_parts;
      spares = both_spared from.history leads.new leads.gone more leads.closed rising_parts closed_parts leads.spares spares_parts;
      parts = ap (λ (l : List Step). without l more) leads.parts ∙ both_left from.history leads.new leads.gone more leads.closed rising_parts closed_parts;
      room = let fewer = length-filter (λ s. not (more s.id)) leads.new in let room = leads.room in omega arith;
    })

-- so any commands do
leads_after : (types : List LocalType) (requests : List Request) (from to : State) → IsSound types to → Leads from to → Leads from (after types to requests)
leads_after types [] from to ok leads = leads
leads_after types (r ∷ rs) from to ok leads =
    let next = (serve types to r.0 r.1).1 in
    leads_after types rs from next (serve_sound types to r.0 r.1 ok) (leads_on from to next ok.rising leads (serve_moves types to ok r.0 r.1))

-- requests one after the other
after-append : (types : List LocalType) (rs qs : List Request) (st : State) → after types st (rs ++ qs) ≡ after types (after types st rs) qs
after-append types [] qs st = refl
after-append types (r ∷ rs) qs st = after-append types rs qs (serve types st r.0 r.1).1

-- one request for each step
length-again : (l : List Step) → length (map again l) ≡ length l
length-again [] = refl
length-again (s ∷ l) = grind (arith, length-again l)

-- from a new session the steps that survive are taken
pub from_the_start : (types : List LocalType) (requests : List Request) → LeadsForward types (survivors types requests)
from_the_start types requests =
    let h = survivors types requests in
    let ok = after_sound types initial requests (initial_sound types) in
    let few = always_few types requests in
    record {
      steps = map again h;
      forward = all_forward h;
      as_many = length-again h;
      leads = takes_again types h initial (opening types) ok.view refl ok.replayed (let fewer = few.fewer in let most = few.most in omega arith);
    }

-- the steps that went are undone, and those that came are taken
back_and_forth : (types : List LocalType) (from to : State) → IsSound types from → IsSound types to → to.next ≤ most_numbers + 1 → Leads from to → LeadsBackAndForth types from to
back_and_forth types from to ok fine most leads =
    let order = turn from.history [] in
    let back = takes_back types leads.gone order.0 [] from ok order.1 tt leads.closed leads.spares in
    let left = without from.history leads.gone in
    let between : State = record from { history = left } in
    let whole : replay (opening types) (left ++ leads.new) ≡ Some fine.view = subst (λ (l : List Step). replay (opening types) l ≡ Some fine.view) leads.parts fine.replayed in
    let front = replay_front (opening types) fine.view left leads.new whole in
    let steps = map again leads.new in
    let room = leads.room in
    let forth = takes_again types leads.new between front.0 fine.view front.1 front.2 (omega arith) in
    record {
      undos = back.undos;
      steps = steps;
      back = back.back;
      forth = all_forward leads.new;
      taken_back = ap (λ (st : State). length st.history + length back.undos) back.leads ∙ back.each;
      taken =
          ap (λ (st : State). length st.history + length steps) back.leads
          ∙ ap (λ n. length left + n) (length-again leads.new)
          ∙ sym (length-append left leads.new)
          ∙ ap length (sym leads.parts);
      leads =
          ap (λ (st : State). deeds st.history) (after-append types back.undos steps from)
          ∙ ap (λ (st : State). deeds (after types st steps).history) back.leads
          ∙ forth
          ∙ ap deeds (sym leads.parts);
    }

-- and from any state that commands lead to
pub from_anywhere : (types : List LocalType) (before requests : List Request) → let from = after types initial before in LeadsBackAndForth types from (after types from requests)
from_anywhere types before requests =
    let from = after types initial before in
    let ok = after_sound types initial before (initial_sound types) in
    let few = few_after types requests from ok (always_few types before) in
    back_and_forth types from (after types from requests) ok (after_sound types from requests ok) few.most (leads_after types requests from from ok (leads_there from))
