-- `are_steps` meets its clauses `no` and `yes` and keeps what holds in each turn of its loop, by the lemmas of ReplyLines.
use Rattle.std.proofs.Common.{◌≡◌, ◌∙◌, refl, ap, sym, not, true, false}
use Rattle.std.proofs.lemmas.Bool.{false≢true}
use Rattle.std.specs.Prelude.{Option, Some, None, IfSome, IfNone, is_some}
use Rattle.mps_line.proofs.ReplyLines.{reads_more, reads_last, no_next_step, no_last_step}
use Rattle.mps_line.proofs.read_replies.are_steps.Goals as goal

-- what holds of a value that is there
some : {A : Type 0} → (o : Option A) → (P : A → Type 0) → is_some o ≡ true → IfSome o P → (x : A) × P x
some None P e h = absurd (false≢true e)
some (Some x) P e h = (x, h)

-- what holds where none is there
none : {A : Type 0} → (o : Option A) → (P : Type 0) → is_some o ≡ false → IfNone o P → P
none None P e h = h
none (Some x) P e h = absurd (false≢true (sym e))

pub loop-parts-preserved : goal.loop-parts-preserved
loop-parts-preserved c =
    let id = some c.read_step.result _ (c.is_none.ensures ∙ ap not c.if-is_none.false) c.read_step.ensures.read in
    let old = c.loop-parts.invariant in
    (_, reads_more _ _ _ _ _ id.0 _ old.1 c.in-Some.ensures.parts c.in-Some.ensures.first id.1 refl)

pub returns-then-is_none-clause-no : goal.returns-then-is_none-clause-no
returns-then-is_none-clause-no c = λ e ids h.
    let old = c.loop-parts.invariant in
    no_next_step _ _ _ _ _ old.1 c.in-Some.ensures.parts c.in-Some.ensures.first (none c.read_step.result _ (c.is_none.ensures ∙ ap not c.if-is_none.true) c.read_step.ensures.none) ids h

pub returns-clause-yes : goal.returns-clause-yes
returns-clause-yes c = λ e.
    let id = some c.read_step-2.result _ (sym c.is_some.ensures ∙ e) c.read_step-2.ensures.read in
    let old = c.loop-parts.invariant in
    (_, reads_last _ _ _ id.0 _ old.1 id.1 refl)

pub returns-clause-no : goal.returns-clause-no
returns-clause-no c = λ e ids h.
    let old = c.loop-parts.invariant in
    no_last_step _ _ _ old.1 c.in_default.ensures.none (none c.read_step-2.result _ (sym c.is_some.ensures ∙ e) c.read_step-2.ensures.none) ids h
