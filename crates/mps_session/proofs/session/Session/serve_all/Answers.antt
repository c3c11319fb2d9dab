-- `Session::serve_all` meets its clauses `undone`, `refused`, `refused_final`, `kept`, `removed`, `returned` and 1 more and keeps what holds in each turn of its loop, by the lemmas of ServeAll.
use Rattle.std.proofs.Common.{List, [], ◌∷◌, ◌++◌, length, ap, sym, subst, ◌∙◌, arith, append_assoc, length-append}
use Rattle.std.specs.Vec.Iter.{into_iter_items}
use Rattle.mps_command.specs.declared.answer.Answer.{Answer}
use Rattle.mps_local.specs.Local.{LocalType}
use Rattle.mps_machine.specs.Machine.{Request, IsSound}
use Rattle.mps_machine.proofs.Sound.{serve_sound}
use Rattle.mps_machine.proofs.Undoing.{undoes_steps, refuses_needed, refuses_final, removes_futures}
use Rattle.mps_machine.proofs.Keeping.{keeps_commits}
use Rattle.mps_machine.proofs.Marks.{returns_to_marks}
use Rattle.mps_machine.specs.Answering.{IsChanged, result_of}
use Rattle.mps_session.specs.Runs.{AreServed}
use Rattle.mps_session.specs.SessionState.{SessionState}
use Rattle.mps_session.proofs.ServeAll.{one_more, as_many, still_sound}
use Rattle.mps_session.proofs.session.Session.serve_all.Goals as goal
use Rattle.mps_session.proofs.session.Session.serve_all.Goals.{After-drop-requests, After-drop-role-iterator, After-push_reserved}

sound : (c : After-drop-requests) → IsSound c.args.self.now.types c.args.self.now.state
sound c = subst (λ (m : SessionState). IsSound m.types m.state) c.self.view_is c.self.invariant.holds.sound

pub returns-in_err-answers-clause-undone : goal.returns-in_err-answers-clause-undone
returns-in_err-answers-clause-undone c = undoes_steps c.args.self.now.types c.args.self.now.state (sound ((goal.at.returns-in_err-answers-clause-undone c).After-drop-requests))

pub returns-in_err-answers-clause-refused : goal.returns-in_err-answers-clause-refused
returns-in_err-answers-clause-refused c = refuses_needed c.args.self.now.types c.args.self.now.state (sound ((goal.at.returns-in_err-answers-clause-refused c).After-drop-requests))

pub returns-in_err-answers-clause-refused_final : goal.returns-in_err-answers-clause-refused_final
returns-in_err-answers-clause-refused_final c = refuses_final c.args.self.now.types c.args.self.now.state (sound ((goal.at.returns-in_err-answers-clause-refused_final c).After-drop-requests))

pub returns-in_err-answers-clause-kept : goal.returns-in_err-answers-clause-kept
returns-in_err-answers-clause-kept c = keeps_commits c.args.self.now.types c.args.self.now.state (sound ((goal.at.returns-in_err-answers-clause-kept c).After-drop-requests))

pub returns-in_err-answers-clause-removed : goal.returns-in_err-answers-clause-removed
returns-in_err-answers-clause-removed c = removes_futures c.args.self.now.types c.args.self.now.state (sound ((goal.at.returns-in_err-answers-clause-removed c).After-drop-requests))

pub returns-in_err-answers-clause-returned : goal.returns-in_err-answers-clause-returned
returns-in_err-answers-clause-returned c = returns_to_marks c.args.self.now.types c.args.self.now.state (sound ((goal.at.returns-in_err-answers-clause-returned c).After-drop-requests))

-- the request is served as the machine serves it
served : (c : After-push_reserved) → IsChanged c.args.self.now.types c.in-Some.role c.in-Some.change (result_of c.serve.result) c.loop-role.self.state c.serve.new.self.state
served c =
    subst (λ (types : List LocalType). IsChanged types c.in-Some.role c.in-Some.change (result_of c.serve.result) c.loop-role.self.state c.serve.new.self.state) c.loop-role.invariant.1 c.serve.ensures.served

pub loop-role-preserved : goal.loop-role-preserved
loop-role-preserved c =
    let held = c.loop-role.invariant in
    let types = c.args.self.now.types in
    let start = c.args.self.now.state in
    let st = c.loop-role.self.state in
    let next = c.serve.new.self.state in
    let r : Request = (c.in-Some.role, c.in-Some.change) in
    let this = served ((goal.at.loop-role-preserved c).After-push_reserved) in
    let left = c.in-Some.ensures.steps.0 in (
      held.0 ∙ ap (λ (l : List Request). c.loop-role.yielded ++ l) left ∙ sym (append_assoc c.loop-role.yielded (r ∷ []) (into_iter_items c.next.new.self)),
      c.serve.ensures.types ∙ held.1,
      subst (λ (l : List Answer). AreServed types (c.loop-role.yielded ++ r ∷ []) l start next) (sym {A = List Answer} c.push_reserved.ensures.items)
          (one_more types c.loop-role.yielded c.loop-role.answers.items start st next r c.serve.result held.2 this),
      still_sound types c.in-Some.role c.in-Some.change (result_of c.serve.result) st next held.3 (serve_sound types st r.0 r.1 held.3) this,
      omega (arith, held.4, ap (λ (l : List Request). length l) left, c.push_reserved.ensures.len, c.push_reserved.ensures.capacity),
    )

pub returns-clause-count : goal.returns-clause-count
returns-clause-count c =
    let many = as_many c.args.self.now.types c.loop-role.yielded c.loop-role.answers.items c.args.self.now.state c.loop-role.self.state c.loop-role.invariant.2 in
    let whole = ap (λ (l : List Request). length l) c.loop-role.invariant.0 in
    let parts = length-append c.loop-role.yielded (into_iter_items c.loop-role.role-iterator) in
    omega (arith, many, whole, parts, c.loop-role.answers.ok.0, c.args.requests.ok.0, c.loop-role.role-iterator.rest.ok.0, c.in-None.ensures.steps.0)

sound_after : (c : After-drop-role-iterator) → IsSound c.loop-role.self.types c.loop-role.self.state
sound_after c = subst (λ (types : List LocalType). IsSound types c.loop-role.self.state) (sym c.loop-role.invariant.1) c.loop-role.invariant.3

pub returns-clause-undone : goal.returns-clause-undone
returns-clause-undone c = undoes_steps c.loop-role.self.types c.loop-role.self.state (sound_after ((goal.at.returns-clause-undone c).After-drop-role-iterator))

pub returns-clause-refused : goal.returns-clause-refused
returns-clause-refused c = refuses_needed c.loop-role.self.types c.loop-role.self.state (sound_after ((goal.at.returns-clause-refused c).After-drop-role-iterator))

pub returns-clause-refused_final : goal.returns-clause-refused_final
returns-clause-refused_final c = refuses_final c.loop-role.self.types c.loop-role.self.state (sound_after ((goal.at.returns-clause-refused_final c).After-drop-role-iterator))

pub returns-clause-kept : goal.returns-clause-kept
returns-clause-kept c = keeps_commits c.loop-role.self.types c.loop-role.self.state (sound_after ((goal.at.returns-clause-kept c).After-drop-role-iterator))

pub returns-clause-removed : goal.returns-clause-removed
returns-clause-removed c = removes_futures c.loop-role.self.types c.loop-role.self.state (sound_after ((goal.at.returns-clause-removed c).After-drop-role-iterator))

pub returns-clause-returned : goal.returns-clause-returned
returns-clause-returned c = returns_to_marks c.loop-role.self.types c.loop-role.self.state (sound_after ((goal.at.returns-clause-returned c).After-drop-role-iterator))
