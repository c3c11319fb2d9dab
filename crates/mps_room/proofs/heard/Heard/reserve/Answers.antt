-- `Heard::reserve` meets its clause `lists`, by the lemmas of Lists.
use Rattle.std.proofs.Common.{◌≡◌, ℕ, get_or, sym, ap, ◌∙◌, subst, ⊎_elim}
use Rattle.std.proofs.lemmas.Bool.{cases_eq}
use Rattle.mps_room.proofs.Lists.{map_alike}
use Rattle.mps_room.proofs.heard.Heard.reserve.Goals as goal

pub returns-in_err-reserve_at-clause-lists : goal.returns-in_err-reserve_at-clause-lists
returns-in_err-reserve_at-clause-lists c =
    map_alike (λ v. v.items) c.args.self.now.lists c.reserve_at.new.lists
    (c.reserve_at.ensures.each ∙ c.loop-k.invariant.each ∙ sym c.requires.each)
    (λ p d.
    ⊎_elim
    (λ (e : c.loop-k.k ≡ p). subst (λ (q : ℕ). (get_or c.reserve_at.new.lists q d).items ≡ (get_or c.loop-k.self.lists q d).items) e (c.reserve_at.ensures.here d))
    (λ (o : c.loop-k.k ≡ p → ⊥). ap (λ v. v.items) (c.reserve_at.ensures.others p d (λ (e : p ≡ c.loop-k.k). o (sym e))))
    (cases_eq c.loop-k.k p)
    ∙ c.loop-k.invariant.same p d)

pub returns-clause-lists : goal.returns-clause-lists
returns-clause-lists c =
    map_alike (λ v. v.items) c.args.self.now.lists c.loop-k.self.lists (c.loop-k.invariant.each ∙ sym c.requires.each) c.loop-k.invariant.same
