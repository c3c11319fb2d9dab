-- A command of `Held::call_next` is called; what is accepted is kept under its number, and what is refused changes no number.
use Rattle.std.proofs.Common.{◌≡◌, Some, sym, ap, subst}
use Rattle.mps_room.specs.Numbers.{last_of, kept_of}
use Rattle.mps_room.specs.declared.numbers.Numbered.{Numbered}
use Rattle.mps_cell.specs.Calls.{Known, Calls, carried}
use Rattle.mps_cell.proofs.Answering.{calls_carried}
use Rattle.mps_cell.proofs.Numbering.{accepted_call}
use Rattle.mps_cell.proofs.held.HeldCaller.call_next.Goals as goal

pub returns-in-Refused : goal.returns-in-Refused
returns-in-Refused g c =
    record {
      next = c.requires.next;
      call = c.in-Refused.ensures.call;
      last_stays = ap last_of c.call.ensures.numbers;
      kept_stays = ap kept_of c.call.ensures.numbers;
    }

pub returns-in_default : goal.returns-in_default
returns-in_default g c =
    let k : Known = c.args.self.now.pass in
    let now : Known = c.call.new.self in
    let a = c.call.result in
    let newest : Numbered = record { number = c.args.number; answer = a } in
    let keeps : c.keep.new.self ≡ carried now (Some newest) = c.keep.ensures.keep in
    record {
      next = c.requires.next;
      answer = a;
      call = subst (λ (x : Known). Calls k c.args.command a x) (sym keeps) (calls_carried k c.args.command a now k.newest (Some newest) c.call.ensures.call);
      accepted = accepted_call k c.args.command a now c.call.ensures.call c.requires.change c.in_default.not-Refused;
      numbered = ap (λ (x : Known). last_of x.newest) keeps;
      told = ap (λ (x : Known). kept_of x.newest) keeps;
    }
