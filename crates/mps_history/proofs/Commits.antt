-- Which act is a commit, and that dependence stays where steps join the end or a closed set of steps goes.
use Rattle.std.proofs.Common.{◌≡◌, ◌≢◌, ℕ, ◌<◌, Bool, true, false, not, List, [], ◌∷◌, ◌++◌, sym, ap, ◌∙◌, arith, append-nil}
use Rattle.std.proofs.lemmas.Bool.{and_parts, and_from, and_left, or_left, le-ltb, not_from_false, false≢true, false_from_ne_true}
use Rattle.std.proofs.lemmas.List.Elements.{filter-append}
use Rattle.mps_base.specs.declared.action.Act.{Act}
use Rattle.mps_base.specs.declared.action.Act.TheVariants.{Commit}
use Rattle.mps_base.specs.declared.action.Step.{Step}
use Rattle.mps_history.specs.Commits.{is_commit}
use Rattle.mps_history.specs.Dependence.{depends_on, DependsOn, Directly, Through, IsClosed}
use Rattle.mps_history.specs.Steps.{IsIn, without}
use Rattle.mps_history.proofs.Order.{IsIn-append_left, IsIn-filter, from_members}
use Rattle.mps_history.proofs.Removal.{filter-none, filter-filter}

pub commit_is : (act : Act) → is_commit act ≡ true → act ≡ Commit
commit_is act e = grind arith

pub no_commit_is : (act : Act) → act ≢ Commit → is_commit act ≡ false
no_commit_is act other = false_from_ne_true (is_commit act) (λ e. other (commit_is act e))

pub is_no_commit : (act : Act) → is_commit act ≡ false → act ≢ Commit
is_no_commit act e same = let yes : is_commit act ≡ true = ap is_commit same in false≢true (sym e ∙ yes)

-- a closed set goes
module _ (h : List Step) (set : ℕ → Bool) (closed : IsClosed h set) where
  -- a step of which one that stays depends stays
  earlier_stays : (t s : Step) → IsIn t h → IsIn s h → set t.id ≡ false → depends_on h t s ≡ true → set s.id ≡ false
  earlier_stays t s it is stays d = false_from_ne_true (set s.id) (λ m. false≢true (sym stays ∙ closed t s it is m d))

  pub link_stays : (t s : Step) → IsIn t h → IsIn s h → set t.id ≡ false → set s.id ≡ false → depends_on (without h set) t s ≡ depends_on h t s
  link_stays t s it is t_stays s_stays = grind (arith, filter-filter, from_members, and_parts, not_from_false, false_from_ne_true, false≢true, and_from, or_left)

  -- so dependence of a step that stays does
  pub DependsOn-without : {t s : Step} → IsIn t h → IsIn s h → set t.id ≡ false → DependsOn h t s → (set s.id ≡ false) × DependsOn (without h set) t s
  DependsOn-without it is stays (Directly t s e) =
      let earlier = earlier_stays t s it is stays e in
      (earlier, Directly t s (link_stays t s it is stays earlier ∙ e))
  DependsOn-without it is stays (Through t u s i e d) =
      let between = earlier_stays t u it i stays e in
      let rest = DependsOn-without i is between d in
      (rest.0, Through t u s (IsIn-filter (λ x. not (set x.id)) u h i (not_from_false (set u.id) between)) (link_stays t u it i stays between ∙ e) rest.1)

-- a step joins the end
module _ (h : List Step) (x : Step) (below : (t : Step) → IsIn t h → t.id < x.id) where
  link_joins : (t s : Step) → IsIn t h → IsIn s h → depends_on (h ++ x ∷ []) t s ≡ depends_on h t s
  link_joins t s it is = grind (arith, filter-append, filter-none, and_left, le-ltb, append-nil)

  -- dependence of the steps that were there stays
  pub DependsOn-join : {t s : Step} → IsIn t h → IsIn s h → DependsOn h t s → DependsOn (h ++ x ∷ []) t s
  DependsOn-join it is (Directly t s e) = Directly t s (link_joins t s it is ∙ e)
  DependsOn-join it is (Through t u s i e d) = Through t u s (IsIn-append_left u h (x ∷ []) i) (link_joins t u it i ∙ e) (DependsOn-join i is d)
