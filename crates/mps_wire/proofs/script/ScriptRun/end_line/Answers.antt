-- `ScriptRun::end_line` meets its clause `answer`, by the lemmas of Answering.
use Rattle.std.proofs.Common.{◌≡◌, ℕ, Bool, true, ◌==◌, List, [], ◌∷◌, ◌++◌, length, refl, sym, ◌∙◌, subst, arith}
use Rattle.std.proofs.lemmas.Bool.Decides.{Decides-eqb}
use Rattle.std.proofs.lemmas.Result.{on_ok_weaker}
use Rattle.mps_lines.specs.Lines.{front}
use Rattle.mps_wire.specs.Private.Places.{answering_of}
use Rattle.mps_wire.proofs.Answering.{to_front}
use Rattle.mps_wire.proofs.script.ScriptRun.end_line.Goals as goal

nothing : (line : List ℕ) (len : ℕ) (empty : Bool) → len ≡ length line → empty ≡ (len == 0) → empty ≡ true → line ≡ []
nothing [] len empty n e t = refl
nothing (x ∷ line) len empty n e t = let zero = (Decides-eqb len 0).0 (sym e ∙ t) in absurd (omega (arith, n, zero))

pub returns-clause-answer : goal.returns-clause-answer
returns-clause-answer c =
    let self = c.args.self.now in
    let none : self.line.items ≡ [] = nothing self.line.items _ c.is_empty.result self.line.ok.0 c.is_empty.ensures c.if-not-is_empty.false in
    on_ok_weaker c.answer_line.result
    (λ a. (
      a.0,
      a.1,
      subst (λ (l : List ℕ). answering_of self (front (l ++ c.args.bytes.now)) self.room.journal a.0 c.answer_line.new.room.journal) (sym none)
          (to_front self.room.names self.room.types c.args.bytes.now self.room.journal a.0 c.answer_line.new.room.journal a.2),
    ))
    c.answer_line.ensures.answer
