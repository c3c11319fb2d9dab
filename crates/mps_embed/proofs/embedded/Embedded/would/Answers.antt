-- `Embedded::would` meets its clauses `known` and `unknown`.
use Rattle.std.proofs.Common.{◌≡◌, ◌≢◌, ◌∙◌, ℕ, List, Option, Some, slice_get, sym, ap, subst}
use Rattle.std.specs.Prelude.{All}
use Rattle.std.specs.Option.{option_map_or}
use Rattle.mps_embed.specs.Embedded.{EmbeddedState, Foretells}
use Rattle.mps_embed.proofs.Places.{found_is_named}
use Rattle.mps_embed.proofs.embedded.Embedded.would.Goals as goal

pub returns-in-Some-clause-known : goal.returns-in-Some-clause-known
returns-in-Some-clause-known g c place named =
    let same = c.names-names.ensures.names ∙ ap (λ (e : EmbeddedState). e.room.names) c.self.view_is in
    let found = c.find_spelled.ensures.only place (subst (λ (l : List (List ℕ)). slice_get l place ≡ Some c.args.role.now) (sym same) named) in
    let here = ap (λ (o : Option ℕ). option_map_or (λ r. r) o 0) (sym c.in-Some.is ∙ found) in
    subst (λ (p : ℕ). Foretells c.args.self.now p c.args.line.now c.foresee.result) here c.foresee.ensures.foretold

pub returns-in-Some-clause-unknown : goal.returns-in-Some-clause-unknown
returns-in-Some-clause-unknown g c none =
    let same = c.names-names.ensures.names ∙ ap (λ (e : EmbeddedState). e.room.names) c.self.view_is in
    absurd (found_is_named c.names-names.result.now c.in-Some.place c.args.role.now c.in-Some.ensures.found (subst (λ (l : List (List ℕ)). All (λ (name : List ℕ). name ≢ c.args.role.now) l) (sym same) none))
