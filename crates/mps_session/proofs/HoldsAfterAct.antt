-- What a session keeps after an accepted act is what the view has then.
use Rattle.std.proofs.Common.{◌≡◌, ℕ, zero, suc, ◌+◌, ◌<◌, List, [], ◌∷◌, ◌++◌, length, get_or, set, Option, Some, None, refl, sym, ap, ◌∙◌, subst, arith, ⊎_elim, ◌⊎◌, inl, inr}
use Rattle.std.specs.List.{AllByRecursion}
use mathlib.Core.Path.{ap₂}
use Rattle.std.proofs.lemmas.Bool.{cases_eq}
use Rattle.std.proofs.lemmas.List.{get_or-set_same, get_or-set_other, length-set, map-append}
use Rattle.mps_base.specs.Effects.{effect}
use Rattle.mps_base.specs.RoleLists.{HasRoleCount}
use Rattle.mps_base.specs.declared.action.Act.{Act}
use Rattle.mps_base.specs.declared.action.Message.{Message}
use Rattle.mps_base.specs.declared.action.Step.{Step}
use Rattle.mps_history.specs.Steps.{unreceived}
use Rattle.mps_local.specs.Local.{LocalType}
use Rattle.mps_local.specs.Shape.{IsOtherRole}
use Rattle.mps_machine.specs.View.{Participant, View, opening, type_at}
use Rattle.mps_machine.specs.Rule.{moved, participant_after, view_after, replay}
use Rattle.mps_machine.specs.Violations.{violation}
use Rattle.mps_machine.specs.Machine.{State, initial, most_numbers, view_of, accepted, IsSound}
use Rattle.mps_machine.proofs.Defined.{allowed_step}
use Rattle.mps_machine.proofs.Stepping.{rule_parts, rule_from, replay-append, replay_from, a_receipt_finds}
use Rattle.mps_machine.proofs.Unreceived.{queue_is}
use Rattle.mps_machine.proofs.Peers.{Speaks, after_peers, fact_by_role}
use Rattle.mps_machine.proofs.Sound.{view_is, initial_sound, accepted_sound}
use Rattle.mps_arena.specs.KeyedSteps.{KeyedStep, steps, AreSound}
use Rattle.mps_arena.proofs.Matched.{sound_nil}
use Rattle.mps_log.specs.Joins.{joining}
use Rattle.mps_log.proofs.Waiting.{first_waits}
use Rattle.mps_table.specs.Standing.{StandsFor}
use Rattle.mps_session.specs.Private.Configurations.{Lists, cursor_of, state_of, logged, moved_in, IsReady, IsReadyEffect, HasActed}
use Rattle.mps_session.specs.Private.Cursors.{IsFor, nowhere, went}
use Rattle.mps_session.specs.declared.cursor.Cursor.{Cursor}
use Rattle.mps_session.specs.Private.Invariant.{AreCursors, ArePlaced, Holds}
use Rattle.mps_session.specs.Private.Opening.{AreStarts, IsOpening}
use Rattle.mps_session.specs.Peers.{HasPeers, HavePeers}

-- where one more stands last, a place is an old one or the last
split_push : (es a b : List KeyedStep) (e y : KeyedStep) → es ++ e ∷ [] ≡ a ++ y ∷ b → ((c : List KeyedStep) × (es ≡ a ++ y ∷ c)) ⊎ ((a ≡ es) × (y ≡ e))
split_push [] [] b e y h = let same : y ≡ e = cc in inr (refl, same)
split_push [] (x ∷ []) b e y h = absurd cc
split_push [] (x ∷ z ∷ a) b e y h = absurd cc
split_push (x ∷ es) [] b e y h = let same : x ≡ y = cc in inl (es, ap (λ (z : KeyedStep). z ∷ es) same)
split_push (x ∷ es) (z ∷ a) b e y h =
    let head : x ≡ z = cc in
    let tail : es ++ e ∷ [] ≡ a ++ y ∷ b = cc in
    ⊎_elim
    (λ (w : (c : List KeyedStep) × (es ≡ a ++ y ∷ c)). inl (w.0, ap₂ (λ (k : KeyedStep) (l : List KeyedStep). k ∷ l) head w.1))
    (λ (w : (a ≡ es) × (y ≡ e)). inr (ap₂ (λ (k : KeyedStep) (l : List KeyedStep). k ∷ l) (sym head) w.0, w.1))
    (split_push es a b e y tail)

pub all_push : {A : Type 0} (P : A → Type 0) (xs : List A) (x : A) → AllByRecursion P xs → P x → AllByRecursion P (xs ++ x ∷ [])
all_push P [] x a p = (p, tt)
all_push P (y ∷ xs) x a p = (a.0, all_push P xs x a.1 p)

-- each role keeps its table
pub same_table : (cursors : List Cursor) (p r : ℕ) (node : ℕ) → p < length cursors → (get_or (set cursors p (went node (get_or cursors p nowhere))) r nowhere).table ≡ (get_or cursors r nowhere).table
same_table cursors p r node inside = grind (arith, get_or-set_same, inside, get_or-set_other, cases_eq)

module _ (types : List LocalType) (c : Lists) (holds : Holds types c) where
  abbrev pub n : ℕ
  n = length types

  abbrev pub h : List Step
  h = steps c.keyed_steps

  abbrev pub v : View
  v = view_of types h

  many : length c.cursors ≡ n
  many = holds.cursors.long

  pub replayed : replay (opening types) h ≡ Some v
  replayed = holds.sound.replayed ∙ ap Some (sym (view_is types (state_of c) holds.sound))

  -- what waits between two roles is what was sent and isn't received
  pub waits_there : (p q : ℕ) → v.queue p q ≡ unreceived p q h
  waits_there p q = queue_is (opening types) v h p q replayed

  -- so an act moves the message that it moves in the view
  pub moves_the_same : (p : ℕ) (act : Act) → moved_in c p act ≡ moved v p act
  moves_the_same p act = grind (arith, waits_there)

  module _ (p : ℕ) (act : Act) (fine : violation v p act ≡ None) where
    abbrev step : Step
    step = record { id = c.issued + 1; role = p; act = act }

    -- the participant after the act
    pub moves_on : (after : Participant) × (participant_after (v.participant p) act (moved_in c p act) ≡ Some after)
    moves_on =
        let k = allowed_step v step fine in
        grind (arith, rule_parts v k.0 step k.1, moves_the_same p act)

  -- an allowed act names a role of the session, and finds the message that it takes
  ready_act : (p : ℕ) (before after : Participant) (act : Act) → Speaks (IsOtherRole n p) act → participant_after before act (moved_in c p act) ≡ Some after → IsReadyEffect c p (effect act)
  ready_act p before after act s e = grind (arith, a_receipt_finds, first_waits)

  module _ (p : ℕ) (act : Act) (less : p < n) (fine : violation v p act ≡ None) (after : Participant) (moves : participant_after (v.participant p) act (moved_in c p act) ≡ Some after) where
    abbrev then : Step
    then = record { id = c.issued + 1; role = p; act = act }

    stepped : participant_after (v.participant p) act (moved v p act) ≡ Some after
    stepped = subst (λ (m : Option Message). participant_after (v.participant p) act m ≡ Some after) (moves_the_same p act) moves

    peers_then : Speaks (IsOtherRole n p) act × HasPeers n p after.to_come
    peers_then = after_peers (IsOtherRole n p) (v.participant p) after act (moved v p act) (holds.cursors.peers p less) stepped

    pub ready : IsReady c p act
    ready = (omega (arith, holds.roles.few, less), ready_act p (v.participant p) after act peers_then.0 moves)

    new_view : view_of types (h ++ then ∷ []) ≡ view_after v then after
    new_view = cc (replay-append (opening types) v h (then ∷ []) replayed, replay_from v (view_after v then after) then [] (rule_from v then after stepped))

    module _ (node : ℕ) (stands : StandsFor (cursor_of c p).table node after.to_come) (next : Lists) (acted : HasActed p act node c next) where
      abbrev new : Cursor
      new = went node (cursor_of c p)

      inside : p < length c.cursors
      inside = omega (arith, many, less)

      abbrev last : KeyedStep
      last = joining (logged c) p act (cursor_of c p).node acted.joined.key

      steps_then : steps next.keyed_steps ≡ h ++ then ∷ []
      steps_then = ap steps acted.joined.keyed_steps ∙ map-append (λ (e : KeyedStep). e.step) c.keyed_steps (last ∷ [])

      state_then : state_of next ≡ accepted (state_of c) p act
      state_then = ap₂ (λ (l : List Step) (k : ℕ). let st : State = record { history = l; next = k + 1 } in st) steps_then acted.joined.issued

      cursors_then : AreCursors n (set c.cursors p new) (view_after v then after)
      cursors_then =
          record {
            long = length-set c.cursors p new ∙ many;
            peers = λ r within. fact_by_role (λ k part. HasPeers n k part.to_come) v then after r peers_then.1 (λ ne. holds.cursors.peers r within);
            each = λ r within.
                fact_by_role (λ k part. IsFor (get_or (set c.cursors p new) k nowhere) part.to_come) v then after r
                (subst (λ (x : Cursor). IsFor x after.to_come) (sym (get_or-set_same c.cursors p new nowhere inside)) stands)
                (λ ne. subst (λ (x : Cursor). IsFor x (v.participant r).to_come) (sym (get_or-set_other c.cursors p r new nowhere ne)) (holds.cursors.each r within));
          }

      placed_then : ArePlaced types next
      placed_then a b y e = grind (arith, same_table, inside, split_push)

      -- what is kept after an allowed act is the view of the steps
      pub acted_holds : c.issued < most_numbers → Holds types next
      acted_holds room = record {
        sound = subst (IsSound types) (sym state_then) (accepted_sound types (state_of c) p act holds.sound fine);
        roles = holds.roles;
        peers = holds.peers;
        members = subst (AllByRecursion (λ (y : KeyedStep). y.step.role < n)) (sym acted.joined.keyed_steps) (all_push (λ y. y.step.role < n) c.keyed_steps last holds.members less);
        kept = acted.joined.sound;
        cursors = rw (acted.cursors, steps_then, new_view) cursors_then;
        placed = placed_then;
        few = omega (arith, room, acted.joined.issued);
      }

starts_long : (types : List LocalType) (cursors : List Cursor) → AreStarts types cursors → length cursors ≡ length types
starts_long [] [] a = refl
starts_long (t ∷ types) (x ∷ cursors) a = ap suc (starts_long types cursors a.1)
starts_long other others a = absurd a

start_at : (types : List LocalType) (cursors : List Cursor) (p : ℕ) → AreStarts types cursors → p < length types → IsFor (get_or cursors p nowhere) (type_at types p)
start_at [] cursors p a h = absurd (omega arith)
start_at (t ∷ types) [] p a h = absurd a
start_at (t ∷ types) (x ∷ cursors) zero a h = a.0
start_at (t ∷ types) (x ∷ cursors) (suc p) a h = start_at types cursors p a.1 (omega arith)

-- nothing was done yet
pub opened_holds : (types : List LocalType) (c : Lists) → HasRoleCount types → HavePeers types → IsOpening types c → Holds types c
opened_holds types c count peers o = record {
  sound = subst (IsSound types) (sym state) (initial_sound types);
  roles = count;
  peers = peers;
  members = subst (AllByRecursion (λ (y : KeyedStep). y.step.role < length types)) (sym o.keyed_steps) tt;
  kept = subst AreSound (sym o.keyed_steps) sound_nil;
  cursors = subst (λ (l : List KeyedStep). AreCursors (length types) c.cursors (view_of types (steps l))) (sym o.keyed_steps)
      (grind (arith, starts_long, start_at));
  placed = λ a b e h. absurd (nowhere_in a b e (sym o.keyed_steps ∙ h));
  few = omega (arith, o.issued);
}
  where
    state : state_of c ≡ initial
    state = ap₂ (λ (l : List KeyedStep) (k : ℕ). let st : State = record { history = steps l; next = k + 1 } in st) o.keyed_steps o.issued

    nowhere_in : (a b : List KeyedStep) (e : KeyedStep) → [] ≡ a ++ e ∷ b → ⊥
    nowhere_in [] b e h = cc
    nowhere_in (x ∷ a) b e h = cc
