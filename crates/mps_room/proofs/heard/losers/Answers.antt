-- `losers` keeps what holds in each turn of its loop, by the lemmas of Losing.
use Rattle.std.proofs.Common.{◌≡◌, ℕ, ◌<◌, ◌+◌, true, false, drop, get_or, length, length-set, sym, ap, ◌∙◌, arith}
use Rattle.std.specs.Prelude.{◌==◌, ◌||◌, Bool}
use Rattle.std.specs.List.{list_any}
use Rattle.std.proofs.lemmas.Bool.{ne_eqb}
use Rattle.std.proofs.lemmas.List.{at_drop_more}
use Rattle.mps_room.specs.Private.Owners.{owns}
use Rattle.mps_room.proofs.Losing.{marked, one_more, or_false}
use Rattle.mps_room.proofs.heard.losers.Goals as goal
use Rattle.mps_room.proofs.heard.losers.Goals.{in-Some+then-place-lt8, in-Some+else-place-lt8, in_default}

still_lost : (c : goal.Joined-owner_of) (p : ℕ) → p < 8 → (get_or c.match-owner_of.lost p false || list_any (owns c.args.steps.now.owners.items p) (drop (c.loop-id.id-index + 1) c.args.ids.now)) ≡ list_any (owns c.args.steps.now.owners.items p) c.args.ids.now
still_lost c p small =
    let i = c.loop-id.id-index in
    let ids = c.args.ids.now in
    let mine = owns c.args.steps.now.owners.items p in
    let was = get_or c.loop-id.lost p false in
    let rest = list_any mine (drop (i + 1) ids) in
    let here : list_any mine (drop i ids) ≡ (mine c.id-item.result || rest) =
    at_drop_more (list_any mine) ids i c.id-item.result (omega (arith, c.loop-id-test.true)) ∙ ap (λ (n : ℕ). mine n || rest) (sym c.id-item.is)
    in
    one_more was (mine c.id-item.result) rest (list_any mine ids) (get_or c.match-owner_of.lost p false)
    (ap (λ (b : Bool). was || b) (sym here) ∙ c.loop-id.invariant.all p small)
    (elim c.match-owner_of.branch [
      | in-Some+then-place-lt8 w ↦
          let at = w.index-place.ensures.place in
          ap (λ l. get_or l p false) w.lost-is
          ∙ marked c.loop-id.lost w.index-place.result p (omega (arith, w.if-place-lt8.true, c.loop-id.invariant.each))
          ∙ ap (λ (o : ℕ). was || (o == p)) at
          ∙ ap (λ (b : Bool). was || b) (sym (w.in-Some.ensures p))
      | in-Some+else-place-lt8 w ↦
          let other : (w.in-Some.owner == p) ≡ false = ne_eqb w.in-Some.owner p (λ (e : w.in-Some.owner ≡ p). absurd (omega (arith, w.if-place-lt8.false, w.index-place.ensures.place))) in
          ap (λ l. get_or l p false) w.lost-is
          ∙ sym (ap (λ (b : Bool). was || b) (w.in-Some.ensures p ∙ other) ∙ or_false was)
      | in_default w ↦
          ap (λ l. get_or l p false) w.lost-is
          ∙ sym (ap (λ (b : Bool). was || b) (w.in_default.ensures p) ∙ or_false was)
    ])

pub loop-id-preserved : goal.loop-id-preserved
loop-id-preserved c =
    record {
      each = elim c.match-owner_of.branch [
        | in-Some+then-place-lt8 w ↦ ap (λ l. length l) w.lost-is ∙ length-set c.loop-id.lost w.index-place.result true ∙ c.loop-id.invariant.each
        | in-Some+else-place-lt8 w ↦ ap (λ l. length l) w.lost-is ∙ c.loop-id.invariant.each
        | in_default w ↦ ap (λ l. length l) w.lost-is ∙ c.loop-id.invariant.each
      ];
      all = λ p small. still_lost c p small;
    }
