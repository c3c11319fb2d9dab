-- `ScriptRun::finish` meets its clause `answered`, by the lemmas of Answering.
use Rattle.std.proofs.Common.{◌≡◌, ℕ, Bool, false, ◌==◌, List, [], length}
use Rattle.std.proofs.lemmas.Result.{on_ok_weaker}
use Rattle.mps_lines.specs.Lines.{ended}
use Rattle.mps_wire.specs.Private.Places.{answering_of}
use Rattle.mps_wire.proofs.Answering.{all_with_rest, by_front}
use Rattle.mps_wire.proofs.script.ScriptRun.finish.Goals as goal

not_empty : (line : List ℕ) (len : ℕ) (empty : Bool) → len ≡ length line → empty ≡ (len == 0) → empty ≡ false → line ≡ [] → ⊥
not_empty line len empty n e f l = cc

pub returns-clause-answered : goal.returns-clause-answered
returns-clause-answered c =
    let self = c.args.self.now in
    on_ok_weaker c.answer_line_kept.result
    (λ a bytes out b. (
      ended a.0,
      a.1,
      all_with_rest (answering_of self) [] (by_front self.room.names self.room.types) bytes self.line.items out a.0 _ _ b
          (not_empty self.line.items _ c.is_empty.result self.line.ok.0 c.is_empty.ensures c.if-is_empty.false) a.2,
    ))
    c.answer_line_kept.ensures.answer
