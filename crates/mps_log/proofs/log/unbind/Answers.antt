-- `unbind` meets its contract and may call `unbind`, by the lemmas of Leaving.
use Rattle.std.proofs.Common.{◌≡◌, ℕ, not, Some, None, refl, sym, ap, ◌∙◌, subst, eq-eqb, ⊎_elim}
use Rattle.std.specs.Prelude.{◌==◌}
use Rattle.std.specs.List.{filter}
use Rattle.std.specs.Option.{option_map, option_copied}
use Rattle.mps_base.specs.declared.action.Step.{Step}
use Rattle.mps_arena.specs.KeyedSteps.{KeyedStep, of_role, keyed_at}
use Rattle.mps_arena.specs.declared.node.Before.{Before}
use Rattle.mps_arena.proofs.Chains.{keyed_key}
use Rattle.mps_arena.proofs.Nodes.{cases_keyed}
use Rattle.mps_stores.specs.Stores.{AreStores}
use Rattle.mps_stores.proofs.Bindings.{stores_idle_without}
use Rattle.mps_log.proofs.Leaving.{leaves}
use Rattle.mps_log.proofs.log.unbind.Goals as goal

pub unbind-requires : goal.unbind-requires
unbind-requires c = (leaves c.args.arena.now.keyed_steps c.args.key c.get.result.now c.requires.sound c.requires.can c.get.ensures).small.0

pub returns-in-Some : goal.returns-in-Some
returns-in-Some c naming stores is =
    let es = c.args.arena.now.keyed_steps in
    let s = c.get.result.now in
    let l = leaves es c.args.key s c.requires.sound c.requires.can c.get.ensures in
    let here = subst (λ (k : ℕ). keyed_at k es ≡ Some l.keyed) (sym l.key) l.found in
    let last = l.last (of_role s.role) (λ t h. h) (eq-eqb s.role s.role refl) ∙ ap Some (sym l.key) in
    let names : Some (naming l.keyed.step.act) ≡ Some (option_copied c.args.name) = sym (ap (option_map (λ (e : KeyedStep). naming e.step.act)) l.found) ∙ is in
    let named : naming l.keyed.step.act ≡ option_copied c.args.name = cc in
    let one : Some l.keyed.before ≡ Some c.before-in-Some.result = sym (ap (option_map (λ (e : KeyedStep). e.before)) l.found) ∙ c.before-in-Some.ensures in
    let older : l.keyed.before ≡ c.before-in-Some.result = cc in
    subst (λ (k : ℕ). AreStores naming (filter (λ (e : KeyedStep). not (e.key == k)) es) c.unbind.new.self) l.key
    (c.unbind.ensures.returns naming es l.keyed stores c.requires.sound here last (ap (λ (t : Step). t.role) l.step, named ∙ ap option_copied c.in-Some.is) (ap (λ (b : Before). b.bound) older))

pub returns-in_default : goal.returns-in_default
returns-in_default c naming stores is =
    let es = c.args.arena.now.keyed_steps in
    ⊎_elim
    (λ (z : keyed_at c.args.key es ≡ None). let no : None ≡ Some (option_copied c.args.name) = sym (ap (option_map (λ (e : KeyedStep). naming e.step.act)) z) ∙ is in absurd cc)
    (λ (w : (y : KeyedStep) × (keyed_at c.args.key es ≡ Some y)).
    let names : Some (naming w.0.step.act) ≡ Some (option_copied c.args.name) = sym (ap (option_map (λ (e : KeyedStep). naming e.step.act)) w.1) ∙ is in
    let named : naming w.0.step.act ≡ option_copied c.args.name = cc in
    let key = keyed_key c.args.key es w.0 w.1 in
    let here = subst (λ (k : ℕ). keyed_at k es ≡ Some w.0) (sym key) w.1 in
    subst (λ (k : ℕ). AreStores naming (filter (λ (e : KeyedStep). not (e.key == k)) es) c.args.stores.now) key
    (stores_idle_without naming es w.0 c.args.stores.now stores c.requires.sound here (named ∙ ap option_copied c.in_default.is)))
    (cases_keyed (keyed_at c.args.key es))
