-- `reply_to_line` meets its clause `reply` and may call `reply_to_command`, by the lemmas of Serving.
use Rattle.std.proofs.Common.{ℕ, false, List, inl, inr, refl, sym, subst, arith, ◌∙◌}
use Rattle.std.proofs.lemmas.Bool.{false≢true}
use Rattle.mps_command.specs.declared.answer.Answer.TheVariants.{Refused}
use Rattle.mps_command.specs.declared.answer.Refusal.TheVariants.{Memory}
use Rattle.mps_command.specs.declared.command.Command.TheVariants.{Forward}
use Rattle.mps_command.specs.declared.command.Forward.TheVariants.{Send}
use Rattle.mps_base.specs.declared.value.Value.TheVariants.{Text}
use Rattle.mps_line.specs.Commands.{SpellsScriptLine}
use Rattle.mps_line.specs.declared.write_replies.Reply.TheVariants.{Answer as Answered, BadLine}
use Rattle.mps_wire.specs.Uncalled.{MayAsk}
use Rattle.mps_wire.proofs.Serving.{role_within, spelled_ascii, answers_line, answers_command}
use Rattle.mps_wire.proofs.script.reply_to_line.Goals as goal

pub returns-then-line-gt-MAX_LINE-clause-reply : goal.returns-then-line-gt-MAX_LINE-clause-reply
returns-then-line-gt-MAX_LINE-clause-reply c =
    let m = c.args.room.now in
    answers_line m.names m.types c.args.line.now m.journal m.journal BadLine c.write_bad_line.result c.args.answers.now.items c.write_bad_line.new.out.items
    (inl (record { unreadable = λ role command r. let short = r.short in absurd (omega (arith, c.if-line-gt-MAX_LINE.true)); bad = refl; unchanged = refl }))
    c.write_bad_line.ensures.ok

pub returns-then-not-may_ask-clause-reply : goal.returns-then-not-may_ask-clause-reply
returns-then-not-may_ask-clause-reply c =
    let m = c.args.room.now in
    let line = c.args.line.now in
    answers_line m.names m.types line m.journal m.journal BadLine c.write_bad_line-then-not-may_ask.result c.args.answers.now.items c.write_bad_line-then-not-may_ask.new.out.items
    (inl (record {
      unreadable = λ role command r. false≢true (sym c.if-not-may_ask.true ∙ c.may_ask.ensures.1 (subst (MayAsk false)
          (c.one_script_line.ensures.command c.names-names.result.now line role c.in-Ok.request.0 command c.in-Ok.request.1 c.count-few.ensures.distinct (subst (λ (n : List (List ℕ)). SpellsScriptLine n line role command) (sym c.names-names.ensures.names) r.spelled) c.in-Ok.ensures.read)
          r.allowed));
      bad = refl;
      unchanged = refl;
    }))
    c.write_bad_line-then-not-may_ask.ensures.ok

pub reply_to_command-requires : goal.reply_to_command-requires
reply_to_command-requires c =
    let m = c.args.room.now in
    let at = role_within c.names-names.result.now c.args.line.now c.in-Ok.request.0 c.in-Ok.request.1 c.in-Ok.ensures.read in
    omega (arith, at, c.names-names.ensures.count)

pub returns-else-not-may_ask-clause-reply : goal.returns-else-not-may_ask-clause-reply
returns-else-not-may_ask-clause-reply c =
    let m = c.args.room.now in
    let line = c.args.line.now in
    let role = c.in-Ok.request.0 in
    let command = c.in-Ok.request.1 in
    let spelled : SpellsScriptLine m.names line role command = subst (λ (n : List (List ℕ)). SpellsScriptLine n line role command) c.names-names.ensures.names c.in-Ok.ensures.read in
    answers_command m.names m.types line m.journal role command c.reply_to_command.new.room.journal c.reply_to_command.result c.args.answers.now.items c.reply_to_command.new.answers.items
    (record { short = c.if-line-gt-MAX_LINE.false; ascii = spelled_ascii m.names line role command spelled; spelled = spelled; allowed = c.may_ask.ensures.0 c.if-not-may_ask.false })
    c.reply_to_command.ensures.answer

pub returns-in-Err-Bad-clause-reply : goal.returns-in-Err-Bad-clause-reply
returns-in-Err-Bad-clause-reply c =
    let m = c.args.room.now in
    answers_line m.names m.types c.args.line.now m.journal m.journal BadLine c.write_bad_line-in-Err-Bad.result c.args.answers.now.items c.write_bad_line-in-Err-Bad.new.out.items
    (inl (record {
      unreadable = λ role command r. c.in-Err-Bad.ensures.bad (cc) role command (subst (λ (n : List (List ℕ)). SpellsScriptLine n c.args.line.now role command) (sym c.names-names.ensures.names) r.spelled);
      bad = refl;
      unchanged = refl;
    }))
    c.write_bad_line-in-Err-Bad.ensures.ok

pub returns-in-Err-Memory-clause-reply : goal.returns-in-Err-Memory-clause-reply
returns-in-Err-Memory-clause-reply c =
    let m = c.args.room.now in
    let line = c.args.line.now in
    let text = c.in-Err-Memory.ensures.memory (cc) in
    let sends = Forward (Send text.1 (Text text.2)) in
    let spelled : SpellsScriptLine m.names line text.0 sends = subst (λ (n : List (List ℕ)). SpellsScriptLine n line text.0 sends) c.names-names.ensures.names text.3 in
    answers_line m.names m.types c.args.line.now m.journal m.journal (Answered (Refused Memory)) c.write_refused.result c.args.answers.now.items c.write_refused.new.out.items
    (inr (inr (record {
      lead = text.0;
      to = text.1;
      value = text.2;
      readable = record { short = c.if-line-gt-MAX_LINE.false; ascii = spelled_ascii m.names line text.0 sends spelled; spelled = spelled; allowed = tt };
      told = refl;
      unchanged = refl;
    })))
    c.write_refused.ensures.ok
