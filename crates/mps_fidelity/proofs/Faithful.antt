-- Sessions of one protocol.
use Rattle.std.proofs.Common.{◌≡◌, ◌≢◌, ℕ, zero, suc, ◌<◌, ◌≤◌, ⊎_elim, List, [], ◌∷◌, length, Some, None, refl, sym, ap, ◌∙◌, subst, arith, inl, inr}
use Rattle.std.specs.Prelude.{slice_get}
use Rattle.std.proofs.lemmas.Bool.{cases_lt}
use Rattle.mps_base.specs.declared.action.Message.{Message}
use Rattle.mps_base.specs.declared.action.Step.{Step}
use Rattle.mps_global.specs.Global.{GlobalType}
use Rattle.mps_global.specs.Faults.{fault_of}
use Rattle.mps_global.proofs.Sound.{sound_protocol}
use Rattle.mps_local.specs.Local.{LocalType, End}
use Rattle.mps_local.specs.Projection.{projection}
use Rattle.mps_local.specs.Shape.{AllPeers, IsOtherRole}
use Rattle.mps_local.specs.Unfolding.{unfolded}
use Rattle.mps_local.specs.declared.merging.Merging.TheVariants.{Plain}
use Rattle.mps_local.proofs.Apart.{all_apart}
use Rattle.mps_local.proofs.Faultless.{faultless, fine_so}
use Rattle.mps_local.proofs.Filling.{filled, filled_same}
use Rattle.mps_local.proofs.Projected.{fitting}
use Rattle.mps_machine.specs.Machine.{State, initial, view_of, Request, after, IsSound}
use Rattle.mps_machine.specs.Rule.{replay}
use Rattle.mps_machine.specs.View.{View, opening, type_at}
use Rattle.mps_machine.proofs.Sound.{initial_sound, view_is, after_sound}
use Rattle.mps_fidelity.specs.Duality.{Nowhere, From, direction, after_message, AreDual}
use Rattle.mps_fidelity.specs.Fidelity.{AreOfOneProtocol, Expects, IsFaithful, IsHalfDuplex}
use Rattle.mps_fidelity.proofs.Arriving.{Goes, env_of}
use Rattle.mps_fidelity.proofs.Covering.{Covers, covers_same}
use Rattle.mps_fidelity.proofs.Path.{Site, site}
use Rattle.mps_fidelity.proofs.Projections.{projections_dual}
use Rattle.mps_fidelity.proofs.Sites.{IsSound as IsSoundPart}
use Rattle.mps_fidelity.proofs.UnderWay.{IsUnderWay, choices, replay_goes, front_taken, one_way}

past_end : (types : List LocalType) (p : ℕ) → length types ≤ p → type_at types p ≡ End
past_end [] p l = refl
past_end (t ∷ types) zero l = absurd (omega arith)
past_end (t ∷ types) (suc p) l = past_end types p (omega arith)

at_place : (types : List LocalType) (p : ℕ) → p < length types → slice_get types p ≡ Some (type_at types p)
at_place [] p l = absurd (omega arith)
at_place (t ∷ types) zero l = refl
at_place (t ∷ types) (suc p) l = at_place types p (omega arith)

pub faultless_dual : (roles : List (List ℕ)) (tree : GlobalType) (p q : ℕ) (t u : LocalType) → fault_of roles tree ≡ None → p ≢ q → projection Plain roles p tree ≡ Some t → projection Plain roles q tree ≡ Some u → AreDual p q t u
faultless_dual roles tree p q t u none ne e f = grind (arith, projections_dual, fine_so, faultless)

ended : direction (unfolded End) ≡ Nowhere
unfolding unfolded
ended = refl

-- The types of one protocol.
module _ (types : List LocalType) (own : AreOfOneProtocol types) where
  pub type_is : (p : ℕ) → p < length types → projection own.merging own.roles p own.tree ≡ Some (type_at types p)
  type_is p l = own.projections.each p (omega arith) ∙ at_place types p l

  -- no role speaks with itself
  abbrev HavePeers : View → Type 0
  HavePeers v = (p : ℕ) → AllPeers (IsOtherRole (length own.roles) p) (v.participant p).to_come

  pub opening_peers : HavePeers (opening types)
  opening_peers p = grind (arith, fitting, type_is, past_end, cases_lt)

  -- the way through the protocol on which each role chooses as it does in these steps
  abbrev start : List Step → Site
  start h = site (λ p. choices p h) [] own.tree

  sound : IsSoundPart own.roles own.tree
  sound =
      let nodes = (sound_protocol own.roles own.tree own.faultless).nodes in
      record { above = []; bound = []; alike = λ z. refl; faultless = nodes; apart = all_apart own.roles [] own.tree nodes }

  -- a role begins where its type does
  begins : (p : ℕ) (h : List Step) → p < length types → Goes own.merging own.roles p (unfolded (type_at types p)) (start h)
  begins p h l =
      let t = type_at types p in
      let closed = (fine_so t (faultless own.merging own.roles p own.tree t own.faultless (type_is p l))).closed in
      let whole : filled (env_of own.merging own.roles p []) t ≡ t = filled_same (env_of own.merging own.roles p []) [] (λ z e. absurd cc) t closed in
      record {
        part = t;
        projected = type_is p l;
        covered = λ n. subst (λ (z : LocalType). Covers n (unfolded t) (unfolded z)) (sym whole) (covers_same n (unfolded t));
      }

  opening_goes : (h : List Step) → IsUnderWay own.merging own.roles (start h) sound tt (opening types) h
  opening_goes h = record {
    place = λ p. zero;
    follows = λ p. ⊎_elim
        (λ (l : p < length types). inr (begins p h l, refl))
        (λ (l : length types ≤ p). inl (ap (λ (t : LocalType). direction (unfolded t)) (past_end types p l) ∙ ended))
        (cases_lt p (length types));
    queued = λ p q ne. ([], refl, tt);
  }

  -- after any steps the session is under way
  under_way : (h : List Step) (v : View) → replay (opening types) h ≡ Some v → IsUnderWay own.merging own.roles (start h) sound tt v []
  under_way h v e = replay_goes own.merging own.roles (start h) sound tt h (opening types) v e (opening_goes h)

expects : (t : LocalType) (p : ℕ) (m : Message) → (direction t ≡ From p → (x : LocalType) × (after_message t m ≡ Some x)) → Expects t p m
expects t p m f = grind arith

pub faithful : (types : List LocalType) (h : List Step) (v : View) → AreOfOneProtocol types → replay (opening types) h ≡ Some v → IsFaithful v
faithful types h v own e p q m ms front =
    expects (unfolded (v.participant q).to_come) p m
    (front_taken own.merging own.roles (start types own h) (sound types own) tt v [] p q m ms (under_way types own h v e) front)

pub half_duplex : (types : List LocalType) (h : List Step) (v : View) (p q : ℕ) → AreOfOneProtocol types → replay (opening types) h ≡ Some v → p ≢ q → IsHalfDuplex v p q
half_duplex types h v p q own e ne = one_way own.merging own.roles (start types own h) (sound types own) tt v [] p q (under_way types own h v e) ne

-- the same of sound states, and so of those that requests lead to
pub sound_faithful : (types : List LocalType) (st : State) → AreOfOneProtocol types → IsSound types st → IsFaithful (view_of types st.history)
sound_faithful types st own ok = subst IsFaithful (sym (view_is types st ok)) (faithful types st.history ok.view own ok.replayed)

pub always_faithful : (types : List LocalType) (rs : List Request) → AreOfOneProtocol types → IsFaithful (view_of types (after types initial rs).history)
always_faithful types rs own = sound_faithful types (after types initial rs) own (after_sound types initial rs (initial_sound types))

pub sound_half_duplex : (types : List LocalType) (st : State) (p q : ℕ) → AreOfOneProtocol types → IsSound types st → p ≢ q → IsHalfDuplex (view_of types st.history) p q
sound_half_duplex types st p q own ok ne = grind (arith, view_is types st ok, half_duplex types st.history ok.view p q own ok.replayed ne)

pub always_half_duplex : (types : List LocalType) (rs : List Request) (p q : ℕ) → AreOfOneProtocol types → p ≢ q → IsHalfDuplex (view_of types (after types initial rs).history) p q
always_half_duplex types rs p q own ne = sound_half_duplex types (after types initial rs) p q own (after_sound types initial rs (initial_sound types)) ne
