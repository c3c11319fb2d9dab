-- `refused_reply` meets its clauses `refusal`, `line`, `session`, `role`, `pass`, `number` and 4 more, by the lemmas of ReplyLines.
use Rattle.std.proofs.Common.{rules, arith}
use Rattle.std.specs.Prelude.{[], ◌∷◌, codes}
use Rattle.mps_line.specs.Replies.{refusal_tokens}
use Rattle.mps_line.specs.Tokens.{Word}
use Rattle.mps_line.proofs.ReplyLines.{word_in_front, rest_of_word, no_word_in_front, no_own_word, some_refusal}
use Rattle.mps_line.proofs.read_refusals.refused_reply.Goals as goal

pub returns-in_default-clause-refusal : goal.returns-in_default-clause-refusal
returns-in_default-clause-refusal c = λ e r h. no_word_in_front _ (codes "refused") (refusal_tokens r) (some_refusal r) c.in_default.ensures.none h

pub returns-in_default-clause-line : goal.returns-in_default-clause-line
returns-in_default-clause-line c = λ e h. no_word_in_front _ (codes "refused") (Word (codes "line") ∷ []) (omega arith) c.in_default.ensures.none h

pub returns-in_default-clause-session : goal.returns-in_default-clause-session
returns-in_default-clause-session c = λ e h. no_word_in_front _ (codes "refused") (Word (codes "nosession") ∷ []) (omega arith) c.in_default.ensures.none h

pub returns-in_default-clause-role : goal.returns-in_default-clause-role
returns-in_default-clause-role c = λ e h. no_word_in_front _ (codes "refused") (Word (codes "norole") ∷ []) (omega arith) c.in_default.ensures.none h

pub returns-in_default-clause-pass : goal.returns-in_default-clause-pass
returns-in_default-clause-pass c = λ e h. no_word_in_front _ (codes "refused") (Word (codes "taken") ∷ []) (omega arith) c.in_default.ensures.none h

pub returns-in_default-clause-number : goal.returns-in_default-clause-number
returns-in_default-clause-number c = λ e h. no_word_in_front _ (codes "refused") (Word (codes "number") ∷ []) (omega arith) c.in_default.ensures.none h

pub returns-in-Some-read_refusal-clause-read : goal.returns-in-Some-read_refusal-clause-read
returns-in-Some-read_refusal-clause-read c = word_in_front _ (codes "refused") _ (refusal_tokens _) (some_refusal _) c.in-Some.ensures.read c.in-Some-read_refusal.ensures.read

pub returns-in-None-clause-refusal : goal.returns-in-None-clause-refusal
returns-in-None-clause-refusal c = λ e r h.
    c.in_default-read_refusal.ensures.none r (rest_of_word _ (codes "refused") _ (refusal_tokens r) (some_refusal r) (search rules) c.in-Some.ensures.read h)

pub returns-in-None-clause-line : goal.returns-in-None-clause-line
returns-in-None-clause-line c = λ e h. no_own_word _ _ (codes "line") c.in-Some.ensures.read c.in_default-own_reply.ensures.none.0 h

pub returns-in-None-clause-session : goal.returns-in-None-clause-session
returns-in-None-clause-session c = λ e h. no_own_word _ _ (codes "nosession") c.in-Some.ensures.read c.in_default-own_reply.ensures.none.1.0 h

pub returns-in-None-clause-role : goal.returns-in-None-clause-role
returns-in-None-clause-role c = λ e h. no_own_word _ _ (codes "norole") c.in-Some.ensures.read c.in_default-own_reply.ensures.none.1.1.0 h

pub returns-in-None-clause-pass : goal.returns-in-None-clause-pass
returns-in-None-clause-pass c = λ e h. no_own_word _ _ (codes "taken") c.in-Some.ensures.read c.in_default-own_reply.ensures.none.1.1.1.0 h

pub returns-in-None-clause-number : goal.returns-in-None-clause-number
returns-in-None-clause-number c = λ e h. no_own_word _ _ (codes "number") c.in-Some.ensures.read c.in_default-own_reply.ensures.none.1.1.1.1.0 h

pub returns-in_default-clause-busy : goal.returns-in_default-clause-busy
returns-in_default-clause-busy c = λ e h. no_word_in_front _ (codes "refused") (Word (codes "busy") ∷ []) (omega arith) c.in_default.ensures.none h

pub returns-in-None-clause-busy : goal.returns-in-None-clause-busy
returns-in-None-clause-busy c = λ e h. no_own_word _ _ (codes "busy") c.in-Some.ensures.read c.in-None.ensures.none.0 h

pub returns-in_default-clause-journal : goal.returns-in_default-clause-journal
returns-in_default-clause-journal c = λ e h. no_word_in_front _ (codes "refused") (Word (codes "journal") ∷ []) (omega arith) c.in_default.ensures.none h

pub returns-in-None-clause-journal : goal.returns-in-None-clause-journal
returns-in-None-clause-journal c = λ e h. no_own_word _ _ (codes "journal") c.in-Some.ensures.read c.in-None.ensures.none.1.0 h

pub returns-in_default-clause-elsewhere : goal.returns-in_default-clause-elsewhere
returns-in_default-clause-elsewhere c = λ e h. no_word_in_front _ (codes "refused") (Word (codes "elsewhere") ∷ []) (omega arith) c.in_default.ensures.none h

pub returns-in-None-clause-elsewhere : goal.returns-in-None-clause-elsewhere
returns-in-None-clause-elsewhere c = λ e h. no_own_word _ _ (codes "elsewhere") c.in-Some.ensures.read c.in-None.ensures.none.1.1.0 h
