-- A session under way: each role has come to a place on the way through the protocol, and what waits is what stands
-- between the places of its sender and its receiver.
use Rattle.std.proofs.Common.{arith, ◌≡◌, ◌≢◌, ℕ, zero, suc, ⊎_elim, Bool, true, false, cond, List, [], ◌∷◌, ◌++◌, drop, Option, Some, refl, sym, ap, ◌∙◌, subst, inl, inr}
use Rattle.std.specs.Prelude.{⊤, ◌⊎◌, ◌==◌, ◌&&◌, if◌then◌else◌}
use Rattle.std.specs.Str.{bytes_eq}
use Rattle.std.proofs.lemmas.Bool.{cases_Bool, cases_eq, ne_eqb, eqb-true, eqb-false, eq-eqb}
use Rattle.mps_base.specs.Effects.{Effect, Gives, Takes, Idle, effect}
use Rattle.mps_base.specs.declared.action.Message.{Message}
use Rattle.mps_base.specs.declared.action.Message.TheVariants.{Value as Plain, Label}
use Rattle.mps_base.specs.declared.action.Step.{Step}
use Rattle.mps_global.specs.Global as global
use Rattle.mps_global.specs.Global.{GlobalType}
use Rattle.mps_local.specs.Local.{LocalType}
use Rattle.mps_local.specs.Projection.{place_of}
use Rattle.mps_local.specs.Unfolding.{unfolded}
use Rattle.mps_local.specs.declared.merging.Merging.{Merging}
use Rattle.mps_machine.specs.View.{Participant, View}
use Rattle.mps_machine.specs.Rule.{first_of, moved, moved_by_effect, to_come_after, participant_after, view_after, replay}
use Rattle.mps_machine.proofs.Stepping.{participant_parts, rule_parts, replay_parts}
use Rattle.mps_fidelity.specs.Duality.{Nowhere, To, From, direction, after_message}
use Rattle.mps_fidelity.proofs.Arriving.{Goes, Arrives, gives, takes, Chooses, after_choice, taken_there}
use Rattle.mps_fidelity.proofs.Finding.{finds}
use Rattle.mps_fidelity.proofs.Path.{Around, Site, site, Kind, Item, IsKind, taken, jump, further, on, item, ahead, ahead_on, ahead_plus, plus, plus_suc, compare, Compared, not_less, less, here, Quiet, heard, heard_plus, quiet_gives, quiet_takes, quiet_chooses}
use Rattle.mps_fidelity.proofs.Sites.{IsSound, AllSound, sound_body, sound_next, sound_branches, some_branch, sound_branch}
use Rattle.mps_fidelity.proofs.Steps.{out_after, back_after, Moves, moves, sends, receives}

-- messages of these kinds, one after the other
abbrev pub AreOfKinds : List Message → List Kind → Type 0
AreOfKinds [] [] = ⊤
AreOfKinds (m ∷ ms) (k ∷ ks) = IsKind k m × AreOfKinds ms ks
AreOfKinds ms ks = ⊥

one_more_kind : (ms : List Message) (ks : List Kind) (m : Message) (k : Kind) → AreOfKinds ms ks → IsKind k m → AreOfKinds (ms ++ m ∷ []) (ks ++ k ∷ [])
one_more_kind [] [] m k h i = (i, tt)
one_more_kind (n ∷ ms) (l ∷ ks) m k h i = (h.0, one_more_kind ms ks m k h.1 i)
one_more_kind ms ks m k h i = absurd h

-- lists
joined : {A : Type 0} (a b c : List A) → (a ++ b) ++ c ≡ a ++ (b ++ c)
joined [] b c = refl
joined (x ∷ a) b c = ap (λ ks. x ∷ ks) (joined a b c)

nothing_after : {A : Type 0} (a : List A) → a ++ [] ≡ a
nothing_after [] = refl
nothing_after (x ∷ a) = ap (λ ks. x ∷ ks) (nothing_after a)

no_longer : {A : Type 0} (a : List A) (x : A) (b c : List A) → a ≡ (a ++ x ∷ b) ++ c → ⊥
no_longer [] x b c e = absurd cc
no_longer (y ∷ a) x b c e = no_longer a x b c (ap (drop 1) e)

no_more : {A : Type 0} (a c : List A) (x : A) (b : List A) → a ≡ (a ++ c) ++ x ∷ b → ⊥
no_more [] [] x b e = absurd cc
no_more [] (y ∷ c) x b e = absurd cc
no_more (y ∷ a) c x b e = no_more a c x b (ap (drop 1) e)

front_cut : {A : Type 0} (a b c : List A) → a ++ b ≡ a ++ c → b ≡ c
front_cut [] b c e = e
front_cut (y ∷ a) b c e = front_cut a b c (ap (drop 1) e)

-- the labels that a role gives in these steps, in order
abbrev pub labels_given : Effect → List (List ℕ)
labels_given (Gives to (Label l)) = l ∷ []
labels_given does = []

abbrev pub choices : ℕ → List Step → List (List ℕ)
choices p [] = []
choices p (s ∷ h) = if s.role == p then labels_given (effect s.act) ++ choices p h else choices p h

-- what the own step of a role does to its queues, and that it does nothing to others
queue_out : (v : View) (s : Step) (c : Participant) (p q : ℕ) → s.role ≡ p → p ≢ q → (view_after v s c).queue p q ≡ out_after q (effect s.act) (v.queue p q)
queue_out v s c p q e ne = grind (arith, eq-eqb, ne_eqb)

queue_back : (v : View) (s : Step) (c : Participant) (p q : ℕ) → s.role ≡ p → p ≢ q → (view_after v s c).queue q p ≡ back_after q (effect s.act) (v.queue q p)
queue_back v s c p q e ne = grind (arith, eq-eqb, ne_eqb)

queue_other : (v : View) (s : Step) (c : Participant) (a b : ℕ) → s.role ≢ a → s.role ≢ b → (view_after v s c).queue a b ≡ v.queue a b
queue_other v s c a b e f = grind (arith, ne_eqb)

own_participant : (v : View) (s : Step) (c : Participant) → (view_after v s c).participant s.role ≡ c
own_participant v s c = rw (eq-eqb s.role s.role refl) refl

other_participant : (v : View) (s : Step) (c : Participant) (p : ℕ) → p ≢ s.role → (view_after v s c).participant p ≡ v.participant p
other_participant v s c p ne = rw (ne_eqb p s.role ne) refl

-- the places where one role has moved
abbrev moved_to : (r next : ℕ) (place : ℕ → ℕ) → ℕ → ℕ
moved_to r next place p = cond (p == r) next (place p)

moved_own : (r next : ℕ) (place : ℕ → ℕ) → moved_to r next place r ≡ next
moved_own r next place = rw (eq-eqb r r refl) refl

moved_other : (r p next : ℕ) (place : ℕ → ℕ) → p ≢ r → moved_to r next place p ≡ place p
moved_other r p next place ne = rw (ne_eqb p r ne) refl

-- on so many quiet nodes, and one more
heard_last : (roles : List (List ℕ)) (a b k : ℕ) (s : Site) → heard roles a b (suc k) s ≡ heard roles a b k s ++ here a b (item roles (ahead roles k s))
heard_last roles a b zero s = nothing_after (here a b (item roles s))
heard_last roles a b (suc k) s =
    ap (λ (ks : List Kind). here a b (item roles s) ++ ks) (heard_last roles a b k (on roles s))
    ∙ sym (joined (here a b (item roles s)) (heard roles a b k (on roles s)) (here a b (item roles (ahead roles k (on roles s)))))

here_gives : (p q to : ℕ) (kind : Kind) → here p q (Some (record { from = p; to = to; kind = kind })) ≡ cond (q == to) (kind ∷ []) []
here_gives p q to kind = rw (eq-eqb p p refl) refl

here_not : (p q from to : ℕ) (kind : Kind) → p ≢ from → here p q (Some (record { from = from; to = to; kind = kind })) ≡ []
here_not p q from to kind ne = rw (ne_eqb p from ne) refl

here_takes : (p q from : ℕ) (kind : Kind) → here q p (Some (record { from = from; to = p; kind = kind })) ≡ cond (q == from) (kind ∷ []) []
here_takes p q from kind = by_test (q == from)
  where
    by_test : (b : Bool) → cond (b && (p == p)) (kind ∷ []) [] ≡ cond b (kind ∷ []) []
    by_test true = rw (eq-eqb p p refl) refl
    by_test false = refl

module _ (merging : Merging) (roles : List (List ℕ)) (start : Site) (sound : IsSound roles start.tree) (around : AllSound roles start.loops) where
  -- the node that so many nodes lead to
  abbrev pub at : ℕ → Site
  at n = ahead roles n start

  abbrev pub said : (p q n : ℕ) → List Kind
  said p q n = heard roles p q n start

  sound_at : (n : ℕ) (s : Site) → IsSound roles s.tree → AllSound roles s.loops → IsSound roles (ahead roles n s).tree × AllSound roles (ahead roles n s).loops
  sound_at zero s h k = (h, k)
  sound_at (suc n) s h k = let o = sound_on s.chosen s.loops s.tree h k in sound_at n (on roles s) o.0 o.1
    where
      ended : IsSound roles global.End
      ended = record { above = []; bound = []; alike = λ z. refl; faultless = refl; apart = tt }

      sound_on : (chosen : ℕ → List (List ℕ)) (loops : List Around) (tree : GlobalType) → IsSound roles tree → AllSound roles loops → IsSound roles (further roles chosen loops tree).tree × AllSound roles (further roles chosen loops tree).loops
      sound_on chosen loops global.End h k = (h, k)
      sound_on chosen loops (global.Var x) h k = jumped loops k
        where
          jumped : (ls : List Around) → AllSound roles ls → IsSound roles (jump chosen x ls).tree × AllSound roles (jump chosen x ls).loops
          jumped [] k = (ended, tt)
          jumped (l ∷ ls) k = by_test (bytes_eq x l.name) (jumped ls k.1)
            where
              by_test : (b : Bool) → IsSound roles (jump chosen x ls).tree × AllSound roles (jump chosen x ls).loops → IsSound roles (cond b (site chosen (l ∷ ls) l.body) (jump chosen x ls)).tree × AllSound roles (cond b (site chosen (l ∷ ls) l.body) (jump chosen x ls)).loops
              by_test true h = (k.0, k)
              by_test false h = h
      sound_on chosen loops (global.Rec x body) h k = let b = sound_body roles x body h in (b, (b, k))
      sound_on chosen loops (global.Message sender receiver sort next) h k = (sound_next roles sender receiver sort next h, k)
      sound_on chosen loops (global.Choice sender receiver branches) h k =
          let some = some_branch roles sender receiver branches h in
          let branch = taken (chosen (place_of roles sender)) branches in
          (sound_branch roles branches (sound_branches roles sender receiver branches h) branch.0 branch.1 (taken_there (chosen (place_of roles sender)) branches some), k)

  -- the role can go on at that place, and will choose these labels
  abbrev pub Follows : (p : ℕ) → LocalType → ℕ → List (List ℕ) → Type 0
  Follows p t n ls = (direction t ≡ Nowhere) ⊎ (Goes merging roles p t (at n) × ((at n).chosen p ≡ ls))

  -- between the places of the two roles p gives q what waits
  abbrev pub Between : (p q n k : ℕ) → List Message → Type 0
  Between p q n k queue = (ks : List Kind) × (said p q n ≡ said p q k ++ ks) × AreOfKinds queue ks

  -- A role has gone to its next place.
  record HasGone (p : ℕ) (does : Effect) (x : LocalType) (n : ℕ) (place : ℕ → ℕ) (back : ℕ → List Message) (ls : List (List ℕ)) : Type 0 where
    next : ℕ
    follows : Follows p (unfolded x) next ls
    outs : (q k : ℕ) (out : List Message) → p ≢ q → Between p q n k out → Between p q next k (out_after q does out)
    backs : (q : ℕ) → p ≢ q → Between q p (place q) next (back_after q does (back q))

  -- what is said up to a role's own node
  own_said : (p a b n k : ℕ) → heard roles a b k (at n) ≡ [] → said a b (plus n (suc k)) ≡ said a b n ++ here a b (item roles (ahead roles k (at n)))
  own_said p a b n k quiet =
      heard_plus roles a b n (suc k) start
      ∙ ap (λ (ks : List Kind). said a b n ++ ks)
      (heard_last roles a b k (at n) ∙ ap (λ (ks : List Kind). ks ++ here a b (item roles (ahead roles k (at n)))) quiet)

  next_at : (n k : ℕ) → at (plus n (suc k)) ≡ on roles (ahead roles k (at n))
  next_at n k = ahead_plus roles n (suc k) start ∙ ahead_on roles k (at n)

  -- what a role gives next is said between the places of the two
  given_between : (p q n n' k : ℕ) (new : List Kind) (out given : List Message) → said p q n' ≡ said p q n ++ new → AreOfKinds given new → Between p q n k out → Between p q n' k (out ++ given)
  given_between p q n n' k new out given e h b =
      (b.0 ++ new, e ∙ ap (λ (ks : List Kind). ks ++ new) b.1 ∙ joined (said p q k) b.0 new, all_kinds out b.0 b.2)
    where
      all_kinds : (ms : List Message) (ks : List Kind) → AreOfKinds ms ks → AreOfKinds (ms ++ given) (ks ++ new)
      all_kinds [] [] i = h
      all_kinds (m ∷ ms) (x ∷ ks) i = (i.0, all_kinds ms ks i.1)
      all_kinds ms ks i = absurd i

  -- nothing new is said
  same_between : (p q n n' k : ℕ) (out : List Message) → said p q n' ≡ said p q n → Between p q n k out → Between p q n' k out
  same_between p q n n' k out e b = (b.0, e ∙ b.1, b.2)

  same_back : (p q n k k' : ℕ) (out : List Message) → said p q k' ≡ said p q k → Between p q n k out → Between p q n k' out
  same_back p q n k k' out e b = (b.0, b.1 ∙ ap (λ (ks : List Kind). ks ++ b.0) (sym e), b.2)

  -- what waits first for a role is of the kind of its next node
  pub front_kind : (p q n k nodes : ℕ) (m : Message) (ms : List Message) (kind : Kind) → said p q (plus k (suc nodes)) ≡ said p q k ++ kind ∷ [] → said p q (plus k nodes) ≡ said p q k → Between p q n k (m ∷ ms) → IsKind kind m × Between p q n (plus k (suc nodes)) ms
  front_kind p q n k nodes m ms kind now before b = by_kinds b.0 b.1 b.2 (compare (plus k (suc nodes)) n)
    where
      by_kinds : (ks : List Kind) → said p q n ≡ said p q k ++ ks → AreOfKinds (m ∷ ms) ks → Compared (plus k (suc nodes)) n → IsKind kind m × Between p q n (plus k (suc nodes)) ms
      by_kinds [] e h c = absurd h
      by_kinds (x ∷ ks) e h (not_less d f) =
          let rest = heard roles p q d (at (plus k (suc nodes))) in
          let more : said p q n ≡ (said p q k ++ kind ∷ []) ++ rest =
          ap (said p q) f ∙ heard_plus roles p q (plus k (suc nodes)) d start ∙ ap (λ (l : List Kind). l ++ rest) now in
          let both : x ∷ ks ≡ kind ∷ rest = front_cut (said p q k) (x ∷ ks) (kind ∷ rest) (sym e ∙ more ∙ joined (said p q k) (kind ∷ []) rest) in
          let same : x ≡ kind = cc in
          let tails : ks ≡ rest = ap (drop 1) both in
          (subst (λ (z : Kind). IsKind z m) same h.0, (rest, ap (said p q) f ∙ heard_plus roles p q (plus k (suc nodes)) d start, subst (AreOfKinds ms) tails h.1))
      by_kinds (x ∷ ks) e h (less d f) =
          let short : plus k nodes ≡ plus n d = (let g : suc (plus k nodes) ≡ suc (plus n d) = sym (plus_suc k nodes) ∙ f ∙ plus_suc n d in omega (arith, g)) in
          let rest = heard roles p q d (at n) in
          let long : said p q k ≡ (said p q k ++ x ∷ ks) ++ rest = sym before ∙ ap (said p q) short ∙ heard_plus roles p q n d start ∙ ap (λ (l : List Kind). l ++ rest) e in
          absurd (no_longer (said p q k) x ks rest long)

  -- what its sender has said where a role takes a message
  taken_said : (p from n k : ℕ) (kind : Kind) → Quiet roles p k (at n) → item roles (ahead roles k (at n)) ≡ Some (record { from = from; to = p; kind = kind }) → (said from p (plus n (suc k)) ≡ said from p n ++ kind ∷ []) × (said from p (plus n k) ≡ said from p n)
  taken_said p from n k kind quiet it = (
    own_said p from p n k (quiet_takes roles p from k (at n) quiet) ∙ ap (λ (o : Option Item). said from p n ++ here from p o) it
        ∙ ap (λ (ks : List Kind). said from p n ++ ks) (here_takes p from from kind ∙ rw (eq-eqb from from refl) refl),
    heard_plus roles from p n k start ∙ ap (λ (ks : List Kind). said from p n ++ ks) (quiet_takes roles p from k (at n) quiet) ∙ nothing_after (said from p n),
  )

  -- a role that gives a message
  gives_goes : (p : ℕ) (t x : LocalType) (to : ℕ) (m : Message) (n : ℕ) (place : ℕ → ℕ) (back : ℕ → List Message) (ls : List (List ℕ)) → direction t ≡ To to → after_message t m ≡ Some x → ((q : ℕ) → p ≢ q → Between q p (place q) n (back q)) → Follows p t n (labels_given (Gives to m) ++ ls) → HasGone p (Gives to m) x n place back ls
  gives_goes p t x to m n place back ls dir aft waits (inl over) = absurd cc
  gives_goes p t x to m n place back ls dir aft waits (inr g) =
      let f = finds merging roles p t (λ (e : direction t ≡ Nowhere). let d = dir in absurd cc) (at n) (sound_at n start sound around).0 (sound_at n start sound around).1 g.0 in
      by_arrival f.nodes f.quiet f.arrives
    where
      will_choose : (m : Message) (ls' : List (List ℕ)) → ls' ≡ labels_given (Gives to m) ++ ls → Chooses ls' m × (after_choice m ls' ≡ ls)
      will_choose (Plain v) ls' e = (tt, e)
      will_choose (Label l) ls' e = ((ls, e), ap (drop 1) e)

      by_arrival : (k : ℕ) → Quiet roles p k (at n) → Arrives merging roles p t (ahead roles k (at n)) → HasGone p (Gives to m) x n place back ls
      by_arrival k quiet (takes from kind ne it d kept act) = absurd cc
      by_arrival k quiet (gives to' kind it d act) =
          let s = ahead roles k (at n) in
          let same : to' ≡ to = cc in
          let ch = will_choose m (s.chosen p) (quiet_chooses roles p k (at n) quiet ∙ g.1) in
          let r = act m x aft ch.0 in
          let out : (q : ℕ) → said p q (plus n (suc k)) ≡ said p q n ++ cond (q == to) (kind ∷ []) [] =
          λ q. own_said p p q n k (quiet_gives roles p q k (at n) quiet) ∙ ap (λ (o : Option Item). said p q n ++ here p q o) it
          ∙ ap (λ (ks : List Kind). said p q n ++ ks) (here_gives p q to' kind ∙ ap (λ (z : ℕ). cond (q == z) (kind ∷ []) []) same) in
          let none : (q : ℕ) → p ≢ q → said q p (plus n (suc k)) ≡ said q p n =
          λ q ne. own_said p q p n k (quiet_takes roles p q k (at n) quiet) ∙ ap (λ (o : Option Item). said q p n ++ here q p o) it
          ∙ ap (λ (ks : List Kind). said q p n ++ ks) (here_not q p p to' kind (λ e. ne (sym e))) ∙ nothing_after (said q p n) in
          record {
            next = plus n (suc k);
            follows = inr (subst (Goes merging roles p (unfolded x)) (sym (next_at n k)) r.1, ap (λ (z : Site). z.chosen p) (next_at n k) ∙ r.2 ∙ ch.1);
            outs = λ q j o ne b. ⊎_elim
                (λ (e : (to == q) ≡ true).
                let i : (q == to) ≡ true = eq-eqb q to (sym (eqb-true to q e)) in
                rw e (given_between p q n (plus n (suc k)) j (kind ∷ []) o (m ∷ []) (out q ∙ rw i refl) (r.0, tt) b))
                (λ (e : (to == q) ≡ false).
                let i : (q == to) ≡ false = ne_eqb q to (λ j. eqb-false to q e (sym j)) in
                rw e (same_between p q n (plus n (suc k)) j o (out q ∙ rw i (nothing_after (said p q n))) b))
                (cases_Bool (to == q));
            backs = λ q ne. same_back q p (place q) n (plus n (suc k)) (back q) (none q ne) (waits q ne);
          }

  -- a role that takes one
  takes_goes : (p : ℕ) (t x : LocalType) (from : ℕ) (slot : Option (List ℕ)) (m : Message) (n : ℕ) (place : ℕ → ℕ) (back : ℕ → List Message) (ls : List (List ℕ)) → direction t ≡ From from → after_message t m ≡ Some x → first_of (back from) ≡ Some m → ((q : ℕ) → p ≢ q → Between q p (place q) n (back q)) → Follows p t n ls → HasGone p (Takes from slot) x n place back ls
  takes_goes p t x from slot m n place back ls dir aft first waits (inl over) = absurd cc
  takes_goes p t x from slot m n place back ls dir aft first waits (inr g) =
      let f = finds merging roles p t (λ (e : direction t ≡ Nowhere). let d = dir in absurd cc) (at n) (sound_at n start sound around).0 (sound_at n start sound around).1 g.0 in
      by_arrival f.nodes f.quiet f.arrives
    where
      front : (l : List Message) → first_of l ≡ Some m → l ≡ m ∷ drop 1 l
      front [] e = absurd cc
      front (y ∷ l) e = let same : y ≡ m = cc in ap (λ (z : Message). z ∷ l) same

      by_arrival : (k : ℕ) → Quiet roles p k (at n) → Arrives merging roles p t (ahead roles k (at n)) → HasGone p (Takes from slot) x n place back ls
      by_arrival k quiet (gives to kind it d act) = absurd cc
      by_arrival k quiet (takes from' kind ne it d kept act) =
          let s = ahead roles k (at n) in
          let same : from' ≡ from = cc in
          let other : p ≢ from = λ e. ne (e ∙ sym same) in
          let none : (q : ℕ) → p ≢ q → said p q (plus n (suc k)) ≡ said p q n =
          λ q far. own_said p p q n k (quiet_gives roles p q k (at n) quiet) ∙ ap (λ (o : Option Item). said p q n ++ here p q o) it
          ∙ ap (λ (ks : List Kind). said p q n ++ ks) (here_not p q from' p kind ne) ∙ nothing_after (said p q n) in
          let come : (q : ℕ) → said q p (plus n (suc k)) ≡ said q p n ++ cond (q == from) (kind ∷ []) [] =
          λ q. own_said p q p n k (quiet_takes roles p q k (at n) quiet) ∙ ap (λ (o : Option Item). said q p n ++ here q p o) it
          ∙ ap (λ (ks : List Kind). said q p n ++ ks) (here_takes p q from' kind ∙ ap (λ (z : ℕ). cond (q == z) (kind ∷ []) []) same) in
          let facts = taken_said p from n k kind quiet (it ∙ ap (λ (z : ℕ). Some (record { from = z; to = p; kind = kind })) same) in
          let here : Between from p (place from) n (m ∷ drop 1 (back from)) = subst (Between from p (place from) n) (front (back from) first) (waits from other) in
          let now = front_kind from p (place from) n k m (drop 1 (back from)) kind facts.0 facts.1 here in
          let r = act m now.0 in
          let r1 = r.1 in let is : r.0 ≡ x = cc in
          let own = quiet_chooses roles p k (at n) quiet in
          record {
            next = plus n (suc k);
            follows = inr (subst (λ (z : LocalType). Goes merging roles p (unfolded z) (at (plus n (suc k)))) is (subst (Goes merging roles p (unfolded r.0)) (sym (next_at n k)) r.2), ap (λ (z : Site). z.chosen p) (next_at n k) ∙ kept ∙ own ∙ g.1);
            outs = λ q j o far b. same_between p q n (plus n (suc k)) j o (none q far) b;
            backs = λ q far. ⊎_elim
                (λ (e : (from == q) ≡ true).
                rw e (subst (λ (z : ℕ). Between z p (place z) (plus n (suc k)) (drop 1 (back z))) (eqb-true from q e) now.1))
                (λ (e : (from == q) ≡ false).
                let i : (q == from) ≡ false = ne_eqb q from (λ j. eqb-false from q e (sym j)) in
                rw e (same_back q p (place q) n (plus n (suc k)) (back q) (come q ∙ rw i (nothing_after (said q p n))) (waits q far)))
                (cases_Bool (from == q));
          }

  -- The session is under way to the end of these steps: each role is at a place, and between each two stands what waits.
  pub record IsUnderWay (v : View) (h : List Step) : Type 0 where
    pub place : ℕ → ℕ
    pub follows : (p : ℕ) → Follows p (unfolded (v.participant p).to_come) (place p) (choices p h)
    pub queued : (p q : ℕ) → p ≢ q → Between p q (place p) (place q) (v.queue p q)

  -- a role that does what its type allows goes to its next place
  effect_goes : (p : ℕ) (t x : LocalType) (does : Effect) (mo : Option Message) (n : ℕ) (place : ℕ → ℕ) (back : ℕ → List Message) (ls : List (List ℕ)) → to_come_after t does mo ≡ Some x → ((from : ℕ) (slot : Option (List ℕ)) → does ≡ Takes from slot → mo ≡ first_of (back from)) → ((q : ℕ) → p ≢ q → Between q p (place q) n (back q)) → Follows p (unfolded t) n (labels_given does ++ ls) → HasGone p does x n place back ls
  effect_goes p t x Idle mo n place back ls e f waits g =
      let same : t ≡ x = cc in record {
        next = n;
        follows = subst (λ (z : LocalType). Follows p (unfolded z) n ls) same g;
        outs = λ q k out ne b. b;
        backs = λ q ne. waits q ne;
      }
  effect_goes p t x (Gives to m) mo n place back ls e f waits g = by_moves (moves (unfolded t) (Gives to m) mo x e)
    where
      by_moves : Moves (unfolded t) x (Gives to m) mo → HasGone p (Gives to m) x n place back ls
      by_moves (sends to m mo d a) = gives_goes p (unfolded t) x to m n place back ls d a waits g
  effect_goes p t x (Takes from slot) mo n place back ls e f waits g = by_moves mo (f from slot refl) (moves (unfolded t) (Takes from slot) mo x e)
    where
      by_moves : (mo : Option Message) → mo ≡ first_of (back from) → Moves (unfolded t) x (Takes from slot) mo → HasGone p (Takes from slot) x n place back ls
      by_moves mo k (receives from slot m d a) = takes_goes p (unfolded t) x from slot m n place back ls d a (sym k) waits g

  -- a step leaves it under way
  step_goes : (v : View) (s : Step) (c : Participant) (h : List Step) → participant_after (v.participant s.role) s.act (moved v s.role s.act) ≡ Some c → IsUnderWay v (s ∷ h) → IsUnderWay (view_after v s c) h
  step_goes v s c h e u =
      let r = s.role in
      let k = participant_parts (v.participant r) c s.act (moved v r s.act) e in
      let mine : choices r (s ∷ h) ≡ labels_given (effect s.act) ++ choices r h = rw (eq-eqb r r refl) refl in
      let g = effect_goes r (v.participant r).to_come k.0 (effect s.act) (moved v r s.act) (u.place r) u.place (λ q. v.queue q r) (choices r h) k.1
      (taken_from (effect s.act)) (λ q ne. u.queued q r (λ i. ne (sym i))) (subst (Follows r (unfolded (v.participant r).to_come) (u.place r)) mine (u.follows r)) in
      let new : ℕ → ℕ = moved_to r g.next u.place in
      let own : new r ≡ g.next = moved_own r g.next u.place in
      record {
        place = new;
        follows = λ p. ⊎_elim
            (λ (i : p ≡ r).
            subst (λ (z : ℕ). Follows z (unfolded ((view_after v s c).participant z).to_come) (new z) (choices z h)) (sym i)
            (subst (λ (d : Participant). Follows r (unfolded d.to_come) (new r) (choices r h)) (sym (own_participant v s c))
            (subst (λ (z : ℕ). Follows r (unfolded c.to_come) z (choices r h)) (sym own)
            (subst (λ (d : Participant). Follows r (unfolded d.to_come) g.next (choices r h)) k.2 g.follows))))
            (λ (i : p ≢ r).
            let theirs : choices p (s ∷ h) ≡ choices p h = rw (ne_eqb r p (λ j. i (sym j))) refl in
            subst (λ (d : Participant). Follows p (unfolded d.to_come) (new p) (choices p h)) (sym (other_participant v s c p i))
            (subst (λ (z : ℕ). Follows p (unfolded (v.participant p).to_come) z (choices p h)) (sym (moved_other r p g.next u.place i))
            (subst (Follows p (unfolded (v.participant p).to_come) (u.place p)) theirs (u.follows p))))
            (cases_eq p r);
        queued = λ a b ne. ⊎_elim
            (λ (i : a ≡ r).
            let far : r ≢ b = λ j. ne (i ∙ j) in
            let o = g.outs b (u.place b) (v.queue r b) far (u.queued r b far) in
            subst (λ (z : ℕ). Between z b (new z) (new b) ((view_after v s c).queue z b)) (sym i)
            (subst (λ (z : ℕ). Between r b z (new b) ((view_after v s c).queue r b)) (sym own)
            (subst (λ (z : ℕ). Between r b g.next z ((view_after v s c).queue r b)) (sym (moved_other r b g.next u.place (λ j. far (sym j))))
            (subst (Between r b g.next (u.place b)) (sym (queue_out v s c r b refl far)) o))))
            (λ (i : a ≢ r).
            ⊎_elim
            (λ (j : b ≡ r).
            let far : r ≢ a = λ f. i (sym f) in
            subst (λ (z : ℕ). Between a z (new a) (new z) ((view_after v s c).queue a z)) (sym j)
            (subst (λ (z : ℕ). Between a r (new a) z ((view_after v s c).queue a r)) (sym own)
            (subst (λ (z : ℕ). Between a r z g.next ((view_after v s c).queue a r)) (sym (moved_other r a g.next u.place i))
            (subst (Between a r (u.place a) g.next) (sym (queue_back v s c r a refl far)) (g.backs a far)))))
            (λ (j : b ≢ r).
            subst (λ (z : ℕ). Between a b z (new b) ((view_after v s c).queue a b)) (sym (moved_other r a g.next u.place i))
            (subst (λ (z : ℕ). Between a b (u.place a) z ((view_after v s c).queue a b)) (sym (moved_other r b g.next u.place j))
            (subst (Between a b (u.place a) (u.place b)) (sym (queue_other v s c a b (λ f. i (sym f)) (λ f. j (sym f)))) (u.queued a b ne))))
            (cases_eq b r))
            (cases_eq a r);
      }
    where
      taken_from : (does : Effect) (from : ℕ) (slot : Option (List ℕ)) → does ≡ Takes from slot → moved_by_effect v s.role does ≡ first_of (v.queue from s.role)
      taken_from does from slot e = ap (moved_by_effect v s.role) e

  pub replay_goes : (h : List Step) (v w : View) → replay v h ≡ Some w → IsUnderWay v h → IsUnderWay w []
  replay_goes [] v w e u = subst (λ (z : View). IsUnderWay z []) (let same : v ≡ w = cc in same) u
  replay_goes (s ∷ h) v w e u =
      let parts = replay_parts v w s h e in
      let own = rule_parts v parts.0 s parts.1 in
      replay_goes h parts.0 w parts.2 (subst (λ (z : View). IsUnderWay z h) own.2 (step_goes v s own.0 h own.1 u))

  -- what waits first for a role whose type begins with an input from its sender is what the type takes
  pub front_taken : (v : View) (h : List Step) (p q : ℕ) (m : Message) (ms : List Message) → IsUnderWay v h → v.queue p q ≡ m ∷ ms → direction (unfolded (v.participant q).to_come) ≡ From p → (x : LocalType) × (after_message (unfolded (v.participant q).to_come) m ≡ Some x)
  front_taken v h p q m ms u front dir = by_follows (u.follows q)
    where
      t : LocalType
      t = unfolded (v.participant q).to_come

      by_arrival : (k : ℕ) → Quiet roles q k (at (u.place q)) → Arrives merging roles q (unfolded (v.participant q).to_come) (ahead roles k (at (u.place q))) → (x : LocalType) × (after_message (unfolded (v.participant q).to_come) m ≡ Some x)
      by_arrival k quiet (gives to kind it d act) = absurd cc
      by_arrival k quiet (takes from kind ne it d kept act) =
          let same : from ≡ p = cc in
          let facts = taken_said q p (u.place q) k kind quiet (it ∙ ap (λ (z : ℕ). Some (record { from = z; to = q; kind = kind })) same) in
          let here : Between p q (u.place p) (u.place q) (m ∷ ms) = subst (Between p q (u.place p) (u.place q)) front (u.queued p q (λ e. ne (sym e ∙ sym same))) in
          let now = front_kind p q (u.place p) (u.place q) k m ms kind facts.0 facts.1 here in
          let r = act m now.0 in (r.0, r.1)

      by_follows : Follows q (unfolded (v.participant q).to_come) (u.place q) (choices q h) → (x : LocalType) × (after_message (unfolded (v.participant q).to_come) m ≡ Some x)
      by_follows (inl over) = absurd cc
      by_follows (inr g) =
          let f = finds merging roles q (unfolded (v.participant q).to_come) (λ (e : direction (unfolded (v.participant q).to_come) ≡ Nowhere). let d = dir in absurd cc) (at (u.place q)) (sound_at (u.place q) start sound around).0 (sound_at (u.place q) start sound around).1 g.0 in
          by_arrival f.nodes f.quiet f.arrives

  -- and between two roles messages wait in one direction at most
  pub one_way : (v : View) (h : List Step) (p q : ℕ) → IsUnderWay v h → p ≢ q → (v.queue p q ≡ []) ⊎ (v.queue q p ≡ [])
  one_way v h p q u ne = by_queues (v.queue p q) (v.queue q p) (u.queued p q ne) (u.queued q p (λ e. ne (sym e))) (compare (u.place p) (u.place q))
    where
      by_queues : (out back : List Message) → Between p q (u.place p) (u.place q) out → Between q p (u.place q) (u.place p) back → Compared (u.place p) (u.place q) → (out ≡ []) ⊎ (back ≡ [])
      by_queues [] back a b c = inl refl
      by_queues (m ∷ out) [] a b c = inr refl
      by_queues (m ∷ out) (n ∷ back) ([], a, h) b c = absurd h
      by_queues (m ∷ out) (n ∷ back) a ([], b, h) c = absurd h
      by_queues (m ∷ out) (n ∷ back) (x ∷ ks, a, h) b (not_less d f) =
          absurd (no_more (said p q (u.place p)) (heard roles p q d (at (u.place p))) x ks
          (a ∙ ap (λ (l : List Kind). l ++ x ∷ ks) (ap (said p q) f ∙ heard_plus roles p q (u.place p) d start)))
      by_queues (m ∷ out) (n ∷ back) a (x ∷ ks, b, h) (less d f) =
          absurd (no_more (said q p (u.place q)) (heard roles q p (suc d) (at (u.place q))) x ks
          (b ∙ ap (λ (l : List Kind). l ++ x ∷ ks) (ap (said q p) f ∙ heard_plus roles q p (u.place q) (suc d) start)))
