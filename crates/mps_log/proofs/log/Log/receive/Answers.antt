-- `Log::receive` keeps the invariant of its type, by the lemmas of Settled.
use Rattle.std.proofs.Common.{◌≡◌, [], ◌∷◌, ◌++◌, List, Bool, false, refl, sym, ap, ◌∙◌, subst, eq-eqb}
use Rattle.std.specs.Prelude.{◌==◌}
use Rattle.std.specs.Option.{option_copied}
use Rattle.std.proofs.lemmas.Bool.{and_from}
use Rattle.mps_base.specs.declared.action.Act.TheVariants.{In}
use Rattle.mps_arena.specs.KeyedSteps.{KeyedStep, ArenaState}
use Rattle.mps_queues.specs.Fronts.{AreFronts}
use Rattle.mps_stores.specs.Stores.{Keys, AreStores, slot_of, mark_of}
use Rattle.mps_stores.proofs.Bindings.{stores_idle_push}
use Rattle.mps_log.specs.Private.Logged.{HasNoCommit}
use Rattle.mps_log.specs.declared.log.Log.TheInside.{Inside}
use Rattle.mps_log.proofs.Settled.{no_commit_joins}
use Rattle.mps_log.proofs.log.Log.receive.Goals as goal
use Rattle.mps_log.proofs.log.Log.receive.Goals.{After-add, in-Some+in_ok-bound-in-Some, in-None}

-- the keyed step of the receipt
abbrev keyed : After-add → KeyedStep
keyed c = record { key = c.match-slot.self-inside.arena.next_key; step = record { id = c.add.result; role = c.args.role; act = In c.args.from c.copied-slot.result }; before = record { at = c.args.at; bound = c.match-slot.bound }; marked = false }

-- but for its slot, the log is as it was
arena_stays : (c : After-add) → ◌≡◌ {A = ArenaState} c.match-slot.self-inside.arena c.reserve_one.new.self
arena_stays c =
    elim c.match-slot.branch [
      | in-Some+in_ok-bound-in-Some w ↦ ap (λ (l : Inside). l.arena) w.self-inside-is
      | in-None w ↦ ap (λ (l : Inside). l.arena) w.self-inside-is
    ]

marks_stay : (c : After-add) → ◌≡◌ {A = List Keys} c.match-slot.self-inside.marks c.self.inside.marks
marks_stay c =
    elim c.match-slot.branch [
      | in-Some+in_ok-bound-in-Some w ↦ ap (λ (l : Inside). l.marks) w.self-inside-is
      | in-None w ↦ ap (λ (l : Inside). l.marks) w.self-inside-is
    ]

settled_stays : (c : After-add) → ◌≡◌ {A = Bool} c.match-slot.self-inside.had_commit c.self.inside.had_commit
settled_stays c =
    elim c.match-slot.branch [
      | in-Some+in_ok-bound-in-Some w ↦ ap (λ (l : Inside). l.had_commit) w.self-inside-is
      | in-None w ↦ ap (λ (l : Inside). l.had_commit) w.self-inside-is
    ]

-- the slot is bound to the receipt, if it has one
slots_follow : (c : After-add) → AreStores slot_of (c.self.inside.arena.keyed_steps ++ keyed c ∷ []) c.match-slot.self-inside.slots
slots_follow c =
    let es = c.self.inside.arena.keyed_steps in
    let slots = c.self.invariant.slots in
    let key = ap (λ (a : ArenaState). a.next_key) (arena_stays c) ∙ sym c.in_ok-key.ensures.key in
    elim c.match-slot.branch [
      | in-Some+in_ok-bound-in-Some w ↦
          subst (λ (l : Inside). AreStores slot_of (es ++ keyed c ∷ []) l.slots) (sym w.self-inside-is)
          (w.in_ok-bound-in-Some.ensures.follows slot_of es (keyed c) slots (refl, (c.copied-slot.ensures ∙ ap option_copied w.in-Some.is)) key w.bound-is)
      | in-None w ↦
          subst (λ (l : Inside). AreStores slot_of (es ++ keyed c ∷ []) l.slots) (sym w.self-inside-is)
          (stores_idle_push slot_of es (keyed c) c.self.inside.slots slots (c.copied-slot.ensures ∙ ap option_copied w.in-None.is))
    ]

pub invariant_of-self-2 : goal.invariant_of-self-2
invariant_of-self-2 c =
    let l = c.self.inside in
    let k = c.self.invariant in
    let es = l.arena.keyed_steps in
    let p = c.args.role in
    let q = c.args.from in
    let e = keyed c in
    let same : c.match-slot.self-inside.arena.keyed_steps ≡ es = ap (λ (a : ArenaState). a.keyed_steps) (arena_stays c) ∙ c.reserve_one.ensures.keyed_steps in
    let whole : c.add.new.self.keyed_steps ≡ es ++ e ∷ [] = c.add.ensures.keyed_steps ∙ ap (λ (o : List KeyedStep). o ++ e ∷ []) same in
    let got = and_from (p == p) (q == q) (eq-eqb p p refl) (eq-eqb q q refl) in
    record {
      sound = c.add.ensures.sound;
      fronts = subst (λ (o : List KeyedStep). AreFronts o c.take-source.new.self) (sym c.add.ensures.keyed_steps) (c.take-source.ensures.fronts e got);
      slots = subst (λ (o : List KeyedStep). AreStores slot_of o c.match-slot.self-inside.slots) (sym whole) (slots_follow c);
      marks = subst (λ (m : List Keys). AreStores mark_of c.add.new.self.keyed_steps m) (sym (marks_stay c)) (subst (λ (o : List KeyedStep). AreStores mark_of o l.marks) (sym whole) (stores_idle_push mark_of es e l.marks k.marks refl));
      settled = λ none. subst HasNoCommit (sym whole) (no_commit_joins es e refl (k.settled (sym (settled_stays c) ∙ none)));
    }
