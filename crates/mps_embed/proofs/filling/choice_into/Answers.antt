-- `choice_into` meets its clause `ok` where the text isn't read.
use Rattle.std.proofs.Common.{◌≡◌, ℕ, List, [], ◌∷◌, inr, refl, subst}
use Rattle.mps_open.specs.Faults.{IsUnreadText}
use Rattle.mps_embed.specs.Embedded.{front_over}
use Rattle.mps_embed.proofs.filling.choice_into.Goals as goal

-- no bytes over the front of others
nothing_over : (bytes : List ℕ) → bytes ≡ front_over [] bytes
nothing_over [] = refl
nothing_over (b ∷ bytes) = refl

pub returns-in-Err-Text-clause-ok : goal.returns-in-Err-Text-clause-ok
returns-in-Err-Text-clause-ok c =
    let f = c.in-Err-Text in
    record {
      text = [];
      kind = inr (f.field-0-0, f.field-0-1, subst (IsUnreadText c.args.text.now) f.field-0-is f.ensures.fault, refl);
      front = nothing_over c.args.out.now;
      whole = refl;
    }
