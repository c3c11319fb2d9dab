-- `give_back` meets its clauses `fronts`, `slots` and `marks` and may call `drop_last` and `put_back`, by the lemmas of Leaving.
use Rattle.std.proofs.Common.{refl, sym, ap, ◌∙◌, subst, eq-eqb}
use Rattle.std.specs.Prelude.{◌==◌}
use Rattle.std.proofs.lemmas.Bool.{and_from, and_parts}
use Rattle.mps_base.specs.declared.action.Act.{Act}
use Rattle.mps_base.specs.Effects.{effect}
use Rattle.mps_history.specs.Steps.{sends, receives, gives_to, takes_from}
use Rattle.mps_arena.specs.KeyedSteps.{HasSmallPeer}
use Rattle.mps_stores.specs.Stores.{slot_of, mark_of}
use Rattle.mps_log.proofs.Leaving.{leaves, idle_queues, idle_stores, bound}
use Rattle.mps_log.proofs.log.give_back.Goals as goal

pub drop_last-requires-clause-from : goal.drop_last-requires-clause-from
drop_last-requires-clause-from c = (leaves c.args.arena.now.keyed_steps c.args.key c.get-step.result.now c.requires.sound c.requires.can c.get-step.ensures).small.0

pub drop_last-requires-clause-to : goal.drop_last-requires-clause-to
drop_last-requires-clause-to c = subst (λ (a : Act). HasSmallPeer (effect a)) c.in-Out.is (leaves c.args.arena.now.keyed_steps c.args.key c.get-step.result.now c.requires.sound c.requires.can c.get-step.ensures).small.1

pub put_back-requires-clause-from : goal.put_back-requires-clause-from
put_back-requires-clause-from c = subst (λ (a : Act). HasSmallPeer (effect a)) c.in-In.is (leaves c.args.arena.now.keyed_steps c.args.key c.get-step.result.now c.requires.sound c.requires.can c.get-step.ensures).small.1

pub put_back-requires-clause-to : goal.put_back-requires-clause-to
put_back-requires-clause-to c = (leaves c.args.arena.now.keyed_steps c.args.key c.get-step.result.now c.requires.sound c.requires.can c.get-step.ensures).small.0

-- the step is the last of its pair
pub drop_last-requires-clause-some : goal.drop_last-requires-clause-some
drop_last-requires-clause-some c =
    let s = c.get-step.result.now in
    let q = c.in-Out.to in
    let l = leaves c.args.arena.now.keyed_steps c.args.key s c.requires.sound c.requires.can c.get-step.ensures in
    let sent = and_from (s.role == s.role) (gives_to q (effect s.act)) (eq-eqb s.role s.role refl) (ap (λ (a : Act). gives_to q (effect a)) c.in-Out.is ∙ eq-eqb q q refl) in
    rw (l.last (sends s.role q) (λ t h. (and_parts (t.role == s.role) (gives_to q (effect t.act)) h).0) sent) refl

pub put_back-requires-clause-some : goal.put_back-requires-clause-some
put_back-requires-clause-some c =
    let s = c.get-step.result.now in
    let q = c.in-In.from in
    let l = leaves c.args.arena.now.keyed_steps c.args.key s c.requires.sound c.requires.can c.get-step.ensures in
    let got = and_from (s.role == s.role) (takes_from q (effect s.act)) (eq-eqb s.role s.role refl) (ap (λ (a : Act). takes_from q (effect a)) c.in-In.is ∙ eq-eqb q q refl) in
    rw (l.last (receives q s.role) (λ t h. (and_parts (t.role == s.role) (takes_from q (effect t.act)) h).0) got) refl

pub returns-in-Out-clause-fronts : goal.returns-in-Out-clause-fronts
returns-in-Out-clause-fronts c =
    let s = c.get-step.result.now in
    let q = c.in-Out.to in
    let l = leaves c.args.arena.now.keyed_steps c.args.key s c.requires.sound c.requires.can c.get-step.ensures in
    let sent = and_from (s.role == s.role) (gives_to q (effect s.act)) (eq-eqb s.role s.role refl) (ap (λ (a : Act). gives_to q (effect a)) c.in-Out.is ∙ eq-eqb q q refl) in
    c.drop_last.ensures c.args.key (l.last (sends s.role q) (λ t h. (and_parts (t.role == s.role) (gives_to q (effect t.act)) h).0) sent)

pub returns-in-Out-clause-slots : goal.returns-in-Out-clause-slots
returns-in-Out-clause-slots c =
    let l = leaves c.args.arena.now.keyed_steps c.args.key c.get-step.result.now c.requires.sound c.requires.can c.get-step.ensures in
    idle_stores _ _ _ l c.requires.sound slot_of _ (ap slot_of c.in-Out.is) c.requires.slots

pub returns-in-Out-clause-marks : goal.returns-in-Out-clause-marks
returns-in-Out-clause-marks c =
    let l = leaves c.args.arena.now.keyed_steps c.args.key c.get-step.result.now c.requires.sound c.requires.can c.get-step.ensures in
    idle_stores _ _ _ l c.requires.sound mark_of _ (ap mark_of c.in-Out.is) c.requires.marks

pub returns-in-In-clause-fronts : goal.returns-in-In-clause-fronts
returns-in-In-clause-fronts c =
    let s = c.get-step.result.now in
    let q = c.in-In.from in
    let l = leaves c.args.arena.now.keyed_steps c.args.key s c.requires.sound c.requires.can c.get-step.ensures in
    let got = and_from (s.role == s.role) (takes_from q (effect s.act)) (eq-eqb s.role s.role refl) (ap (λ (a : Act). takes_from q (effect a)) c.in-In.is ∙ eq-eqb q q refl) in
    c.put_back.ensures c.args.key (l.last (receives q s.role) (λ t h. (and_parts (t.role == s.role) (takes_from q (effect t.act)) h).0) got)

pub returns-in-In-clause-slots : goal.returns-in-In-clause-slots
returns-in-In-clause-slots c =
    let l = leaves c.args.arena.now.keyed_steps c.args.key c.get-step.result.now c.requires.sound c.requires.can c.get-step.ensures in
    c.unbind.ensures slot_of c.requires.slots (bound _ _ _ l c.requires.sound slot_of _ (c.as_ref.ensures.value ∙ sym (ap slot_of c.in-In.is)))

pub returns-in-In-clause-marks : goal.returns-in-In-clause-marks
returns-in-In-clause-marks c =
    let l = leaves c.args.arena.now.keyed_steps c.args.key c.get-step.result.now c.requires.sound c.requires.can c.get-step.ensures in
    idle_stores _ _ _ l c.requires.sound mark_of _ (ap mark_of c.in-In.is) c.requires.marks

pub returns-in-Mark-clause-fronts : goal.returns-in-Mark-clause-fronts
returns-in-Mark-clause-fronts c =
    let l = leaves c.args.arena.now.keyed_steps c.args.key c.get-step.result.now c.requires.sound c.requires.can c.get-step.ensures in
    idle_queues _ _ _ l c.requires.sound _ (ap effect c.in-Mark.is) c.requires.fronts

pub returns-in-Mark-clause-slots : goal.returns-in-Mark-clause-slots
returns-in-Mark-clause-slots c =
    let l = leaves c.args.arena.now.keyed_steps c.args.key c.get-step.result.now c.requires.sound c.requires.can c.get-step.ensures in
    idle_stores _ _ _ l c.requires.sound slot_of _ (ap slot_of c.in-Mark.is) c.requires.slots

pub returns-in-Mark-clause-marks : goal.returns-in-Mark-clause-marks
returns-in-Mark-clause-marks c =
    let l = leaves c.args.arena.now.keyed_steps c.args.key c.get-step.result.now c.requires.sound c.requires.can c.get-step.ensures in
    c.unbind-in-Mark.ensures mark_of c.requires.marks (bound _ _ _ l c.requires.sound mark_of _ (sym (ap mark_of c.in-Mark.is)))

pub returns-in-Commit-clause-fronts : goal.returns-in-Commit-clause-fronts
returns-in-Commit-clause-fronts c =
    let l = leaves c.args.arena.now.keyed_steps c.args.key c.get-step.result.now c.requires.sound c.requires.can c.get-step.ensures in
    idle_queues _ _ _ l c.requires.sound _ (ap effect c.in-Commit.is) c.requires.fronts

pub returns-in-Commit-clause-slots : goal.returns-in-Commit-clause-slots
returns-in-Commit-clause-slots c =
    let l = leaves c.args.arena.now.keyed_steps c.args.key c.get-step.result.now c.requires.sound c.requires.can c.get-step.ensures in
    idle_stores _ _ _ l c.requires.sound slot_of _ (ap slot_of c.in-Commit.is) c.requires.slots

pub returns-in-Commit-clause-marks : goal.returns-in-Commit-clause-marks
returns-in-Commit-clause-marks c =
    let l = leaves c.args.arena.now.keyed_steps c.args.key c.get-step.result.now c.requires.sound c.requires.can c.get-step.ensures in
    idle_stores _ _ _ l c.requires.sound mark_of _ (ap mark_of c.in-Commit.is) c.requires.marks
