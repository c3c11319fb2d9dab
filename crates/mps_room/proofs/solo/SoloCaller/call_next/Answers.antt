-- A command of `Solo::call_next` is called; what is accepted is kept under its number, and what is refused changes no number.
use Rattle.std.proofs.Common.{refl, ap}
use Rattle.mps_room.specs.Numbers.{last_of, kept_of}
use Rattle.mps_room.proofs.Numbering.{accepts_change}
use Rattle.mps_room.proofs.solo.SoloCaller.call_next.Goals as goal

pub returns-in-Refused : goal.returns-in-Refused
returns-in-Refused c =
    record {
      next = c.requires.next;
      call = record { answer = c.in-Refused.ensures.answer; journal = c.in-Refused.ensures.journal; names = c.apply.ensures.names; types = c.apply.ensures.types; role = refl };
      last_stays = refl;
      kept_stays = refl;
    }

pub returns-in_default : goal.returns-in_default
returns-in_default c =
    let m = c.args.self.now.room in
    record {
      next = c.requires.next;
      answer = c.apply.result;
      call = record { answer = c.apply.ensures.answer; journal = c.apply.ensures.journal; names = c.apply.ensures.names; types = c.apply.ensures.types; role = refl };
      accepted = accepts_change m.names m.types m.journal c.args.self.now.role c.args.command c.apply.result c.requires.change c.apply.ensures.answer c.in_default.not-Refused;
      numbered = ap last_of c.keep.ensures;
      told = ap kept_of c.keep.ensures;
    }
