-- `Embedded::foresee_whole` meets its clause `foretold`, by the lemmas of Foreseeing.
use Rattle.std.proofs.Common.{arith, ◌∙◌, ℕ, false, List, refl, sym, ap, subst}
use Rattle.std.proofs.lemmas.Bool.{false≢true}
use Rattle.mps_base.specs.declared.value.Value.TheVariants.{Text}
use Rattle.mps_command.specs.declared.answer.Answer.TheVariants.{Refused}
use Rattle.mps_command.specs.declared.answer.Refusal.TheVariants.{Memory}
use Rattle.mps_command.specs.declared.command.Command.TheVariants.{Forward}
use Rattle.mps_command.specs.declared.command.Forward.TheVariants.{Send}
use Rattle.mps_line.specs.Commands.{SpellsNumbered}
use Rattle.mps_line.specs.declared.write_replies.Reply.TheVariants.{Answer as Answered, BadLine}
use Rattle.mps_wire.proofs.Calling.{only_stand, request}
use Rattle.mps_embed.specs.Embedded.{EmbeddedState, Unread, Starved}
use Rattle.mps_embed.proofs.Foreseeing.{foretold_again, foretold_judged, foretold_wrong}
use Rattle.mps_embed.proofs.embedded.Embedded.foresee_whole.Goals as goal

pub returns-then-line-gt-MAX_LINE-clause-foretold : goal.returns-then-line-gt-MAX_LINE-clause-foretold
returns-then-line-gt-MAX_LINE-clause-foretold g c =
    Unread BadLine (record { unreadable = λ number command r. let short = r.short in absurd (omega (arith, c.if-line-gt-MAX_LINE.true)); bad = refl; unchanged = refl }) refl

pub returns-in-Err-Bad-clause-foretold : goal.returns-in-Err-Bad-clause-foretold
returns-in-Err-Bad-clause-foretold g c =
    let names = c.names-names.ensures.names ∙ ap (λ (e : EmbeddedState). e.room.names) c.self.view_is in
    Unread BadLine (record {
      unreadable = λ number command r. c.in-Err-Bad.ensures.bad (cc) number command (subst (λ (n : List (List ℕ)). SpellsNumbered n c.args.line.now number command) (sym names) r.spelled);
      bad = refl;
      unchanged = refl;
    }) refl

pub returns-in-Err-Memory-clause-foretold : goal.returns-in-Err-Memory-clause-foretold
returns-in-Err-Memory-clause-foretold g c =
    let names = c.names-names.ensures.names ∙ ap (λ (e : EmbeddedState). e.room.names) c.self.view_is in
    let m = c.in-Err-Memory.ensures.memory (cc) in
    let sends = Forward (Send m.1 (Text m.2)) in
    Starved (Answered (Refused Memory)) (record {
      lead = m.0;
      to = m.1;
      value = m.2;
      readable = request false _ c.names-names.result.now c.args.line.now m.0 m.0 sends c.if-line-gt-MAX_LINE.false names refl (c.one_numbered.ensures.shown _ _ m.0 sends) m.3 tt;
      told = refl;
      unchanged = refl;
    }) refl

pub returns-then-not-may_ask-clause-foretold : goal.returns-then-not-may_ask-clause-foretold
returns-then-not-may_ask-clause-foretold g c =
    let names = c.names-names.ensures.names ∙ ap (λ (e : EmbeddedState). e.room.names) c.self.view_is in
    let read = c.in-Ok.read in
    Unread BadLine (record {
      unreadable = only_stand c.one_numbered.ensures.command false _ c.names-names.result.now c.args.line.now read.0 read.1 names c.count-few.ensures.distinct c.in-Ok.ensures.read (λ may. false≢true (sym c.if-not-may_ask.true ∙ c.may_ask.ensures.1 may));
      bad = refl;
      unchanged = refl;
    }) refl

pub returns-in-Last-clause-foretold : goal.returns-in-Last-clause-foretold
returns-in-Last-clause-foretold g c =
    let names = c.names-names.ensures.names ∙ ap (λ (e : EmbeddedState). e.room.names) c.self.view_is in
    let read = c.in-Ok.read in
    foretold_again c.args.self.now c.args.role c.args.line.now read.1 c.last_of.result c.last_of.ensures read.0 c.position.result
    (request false _ c.names-names.result.now c.args.line.now read.0 read.0 read.1 c.if-line-gt-MAX_LINE.false names refl (c.one_numbered.ensures.shown _ _ read.0 read.1) c.in-Ok.ensures.read (c.may_ask.ensures.0 c.if-not-may_ask.false))
    c.position.ensures.none c.position.ensures.some c.in-Last.is

pub returns-in-Next-clause-foretold : goal.returns-in-Next-clause-foretold
returns-in-Next-clause-foretold g c =
    let names = c.names-names.ensures.names ∙ ap (λ (e : EmbeddedState). e.room.names) c.self.view_is in
    let read = c.in-Ok.read in
    foretold_judged c.args.self.now c.args.role c.args.line.now read.1 c.last_of.result c.last_of.ensures read.0 c.position.result c.judge.result
    (request false _ c.names-names.result.now c.args.line.now read.0 read.0 read.1 c.if-line-gt-MAX_LINE.false names refl (c.one_numbered.ensures.shown _ _ read.0 read.1) c.in-Ok.ensures.read (c.may_ask.ensures.0 c.if-not-may_ask.false))
    c.position.ensures.some c.in-Next.is c.judge.ensures.judged

pub returns-clause-foretold : goal.returns-clause-foretold
returns-clause-foretold g c =
    let names = c.names-names.ensures.names ∙ ap (λ (e : EmbeddedState). e.room.names) c.self.view_is in
    let read = c.in-Ok.read in
    foretold_wrong c.args.self.now c.args.role c.args.line.now read.1 c.last_of.result c.last_of.ensures read.0 c.position.result
    (request false _ c.names-names.result.now c.args.line.now read.0 read.0 read.1 c.if-line-gt-MAX_LINE.false names refl (c.one_numbered.ensures.shown _ _ read.0 read.1) c.in-Ok.ensures.read (c.may_ask.ensures.0 c.if-not-may_ask.false))
    c.position.ensures.none c.position.ensures.some c.in-Elsewhere.is
