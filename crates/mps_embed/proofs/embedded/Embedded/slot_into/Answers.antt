-- `Embedded::slot_into` meets its clause `ok`.
use Rattle.std.proofs.Common.{arith, ℕ, List, ap, subst, ◌∙◌}
use Rattle.mps_embed.specs.Embedded.{EmbeddedState, IsInSlot, front_over}
use Rattle.mps_embed.proofs.embedded.Embedded.slot_into.Goals as goal

pub returns-clause-ok : goal.returns-clause-ok
returns-clause-ok g c =
    let text = c.put_slot.new.text.items in
    let told = c.in_ok-put_slot.ensures in
    record {
      text = text;
      kind = subst (λ (e : EmbeddedState). IsInSlot e c.args.role.now c.args.slot.now text) c.self.view_is (record { known = told.known; nameless = told.nameless; unknown = told.unknown });
      front = c.copy_front.ensures ∙ ap (λ (t : List ℕ). front_over t c.args.out.now) c.as_slice.ensures.value;
      whole = omega (arith, c.len.ensures);
    }
