-- `Pending::follow` meets its clause `keys` and may call `role_at`, by the lemmas of Kept and Present.
use Rattle.std.proofs.Common.{◌<◌, ℕ, Option, Some, None, length, sym, ap, ◌∙◌, arith}
use Rattle.std.specs.Prelude.{slice_index_or, slice_set}
use Rattle.std.proofs.lemmas.List.{map-set, get_or-map}
use Rattle.mps_arena.specs.KeyedSteps.{keyed_at}
use Rattle.mps_links.specs.Private.Numbered.{key_of, keys_alone}
use Rattle.mps_links.specs.Private.Order.{earlier}
use Rattle.mps_links.specs.Private.Pending.{with_receipt}
use Rattle.mps_links.proofs.Kept.{number_at, role_is}
use Rattle.mps_links.proofs.Present.{receipt_there}
use Rattle.mps_links.proofs.pending.Pending.follow.Goals as goal

pub role_at-role-requires : goal.role_at-role-requires
role_at-role-requires c =
    receipt_there c.args.arena.now.keyed_steps c.args.key c.in-Some.receipt (sym c.receipt.ensures ∙ c.in-Some.is)

pub returns-in-Some-clause-keys : goal.returns-in-Some-clause-keys
returns-in-Some-clause-keys c =
    let es = c.args.arena.now.keyed_steps in
    let firsts = c.args.self.now.firsts in
    let k = c.in-Some.receipt in
    let r = c.role_at-role.result in
    let d = c.index-self-role.result in
    let small : r < length firsts = omega arith in
    let both = c.earlier.ensures es (number_at es firsts r d small c.requires.numbers) c.with_number-receipt.ensures.number in
    map-set key_of firsts r c.earlier.result
    ∙ ap (slice_set (keys_alone firsts) r) (both.0 ∙ ap (earlier es (key_of (slice_index_or firsts r d))) c.with_number-receipt.ensures.key)
    ∙ ap (λ o. slice_set (keys_alone firsts) r (earlier es o (Some k))) (sym (get_or-map key_of firsts r d None small))
    ∙ sym (role_is (keyed_at k es) r (keys_alone firsts) (λ o. earlier es o (Some k)) c.role_at-role.ensures.role)
    ∙ ap (λ (o : Option ℕ). with_receipt es o (keys_alone firsts)) (sym c.in-Some.is ∙ c.receipt.ensures)
