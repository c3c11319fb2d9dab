-- `take_line` meets its contract, by the lemmas of Calling.
use Rattle.std.proofs.Common.{◌≡◌, arith, ℕ, List, Option, None, Some, refl, sym, subst, ◌∙◌}
use Rattle.std.specs.Prelude.{OnSome}
use Rattle.std.proofs.lemmas.Bool.{false≢true}
use Rattle.mps_base.specs.declared.value.Value.TheVariants.{Text}
use Rattle.mps_command.specs.declared.command.Command.{Command}
use Rattle.mps_command.specs.declared.command.Command.TheVariants.{Forward}
use Rattle.mps_command.specs.declared.command.Forward.TheVariants.{Send}
use Rattle.mps_line.specs.Commands.{MayHaveNumber, SpellsNumbered}
use Rattle.mps_wire.specs.Conversations.{Unread, Called, Numbered, Starved}
use Rattle.mps_wire.proofs.Calling.{change_may, only_stand, request}
use Rattle.mps_wire.proofs.reply.take_line.Goals as goal

-- what has a number may have one
numbered_change : (number : Option ℕ) (n : ℕ) (command : Command) → number ≡ Some n → OnSome number (MayHaveNumber command) → MayHaveNumber command
numbered_change None n command e asks = absurd cc
numbered_change (Some m) n command e asks = asks

pub returns-then-line-gt-MAX_LINE : goal.returns-then-line-gt-MAX_LINE
returns-then-line-gt-MAX_LINE g c =
    Unread (record { unreadable = λ number command r. let short = r.short in absurd (omega (arith, c.if-line-gt-MAX_LINE.true)); bad = refl; unchanged = refl })

pub returns-in-Ok-Some-default : goal.returns-in-Ok-Some-default
returns-in-Ok-Some-default g c =
    let t = c.take_numbered.ensures in
    let read = c.in-Ok-Some-default in
    Numbered (record {
      number = read.number;
      command = read.command;
      readable = request c.args.waits _ c.roles-roles.result.now c.args.line.now (Some read.number) read.field-0-0 read.command c.if-line-gt-MAX_LINE.false c.roles-roles.ensures read.field-0-0-is (c.one_numbered.ensures.shown _ _ (Some read.number) read.command) read.ensures.read (change_may c.args.waits read.command (numbered_change read.field-0-0 read.number read.command read.field-0-0-is read.ensures.read.allowed));
      came = t.came;
      numbered = t.numbered;
      told = t.told;
    })

pub returns-then-not-may_ask : goal.returns-then-not-may_ask
returns-then-not-may_ask g c =
    let read = c.in-Ok-None-default in
    Unread (record {
      unreadable = only_stand c.one_numbered.ensures.command c.args.waits _ c.roles-roles.result.now c.args.line.now read.field-0-0 read.command c.roles-roles.ensures c.count-few.ensures.distinct read.ensures.read (λ may. false≢true (sym c.if-not-may_ask.true ∙ c.may_ask.ensures.1 may));
      bad = refl;
      unchanged = refl;
    })

pub returns-else-not-may_ask : goal.returns-else-not-may_ask
returns-else-not-may_ask g c =
    let read = c.in-Ok-None-default in
    Called (record {
      command = read.command;
      readable = request c.args.waits _ c.roles-roles.result.now c.args.line.now None read.field-0-0 read.command c.if-line-gt-MAX_LINE.false c.roles-roles.ensures read.field-0-0-is (c.one_numbered.ensures.shown _ _ None read.command) read.ensures.read (c.may_ask.ensures.0 c.if-not-may_ask.false);
      answer = c.call.result;
      call = c.call.ensures.call;
      last_stays = c.call.ensures.last;
      kept_stays = c.call.ensures.kept;
      told = refl;
    })

pub returns-in-Err-Bad : goal.returns-in-Err-Bad
returns-in-Err-Bad g c =
    Unread (record {
      unreadable = λ number command r. c.in-Err-Bad.ensures.bad (cc) number command (subst (λ (n : List (List ℕ)). SpellsNumbered n c.args.line.now number command) (sym c.roles-roles.ensures) r.spelled);
      bad = refl;
      unchanged = refl;
    })

pub returns-in-Err-Memory : goal.returns-in-Err-Memory
returns-in-Err-Memory g c =
    let m = c.in-Err-Memory.ensures.memory (cc) in
    let sends = Forward (Send m.1 (Text m.2)) in
    Starved (record {
      lead = m.0;
      to = m.1;
      value = m.2;
      readable = request c.args.waits _ c.roles-roles.result.now c.args.line.now m.0 m.0 sends c.if-line-gt-MAX_LINE.false c.roles-roles.ensures refl (c.one_numbered.ensures.shown _ _ m.0 sends) m.3 tt;
      told = refl;
      unchanged = refl;
    })
