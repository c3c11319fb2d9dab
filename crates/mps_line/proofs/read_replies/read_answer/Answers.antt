-- `read_answer` meets its clause `bad`, by the lemmas of ReplyLines.
use Rattle.std.proofs.Common.{◌≡◌, ◌<◌, length, arith, rules, get_or}
use Rattle.std.proofs.lemmas.Grind.{common_steps}
use Rattle.mps_line.proofs.ReplyLines.{no_other_done, no_other_undone, no_other_news, no_other_shown, no_other_joined, no_other_refused, no_reply, no_reply_of_none}
use Rattle.mps_line.proofs.read_replies.read_answer.Goals as goal
use Rattle.mps_line.proofs.read_replies.read_answer.Goals.{in_default-via-then-bytes-lt1, in_default-via-else-bytes-lt1+in_default-1}

pub returns-in-100-clause-bad : goal.returns-in-100-clause-bad
returns-in-100-clause-bad c = λ e.
    let first : get_or c.args.bytes.now 0 0 ≡ 100 = search rules in no_other_done _ first (c.done_reply.ensures.bad e)

pub returns-in-117-clause-bad : goal.returns-in-117-clause-bad
returns-in-117-clause-bad c = λ e.
    let first : get_or c.args.bytes.now 0 0 ≡ 117 = search rules in no_other_undone _ first (c.undone_reply.ensures.bad e)

pub returns-in-110-clause-bad : goal.returns-in-110-clause-bad
returns-in-110-clause-bad c = λ e.
    let first : get_or c.args.bytes.now 0 0 ≡ 110 = search rules in no_other_news _ first (c.news_reply.ensures.bad e)

pub returns-in-123-clause-bad : goal.returns-in-123-clause-bad
returns-in-123-clause-bad c = λ e.
    let first : get_or c.args.bytes.now 0 0 ≡ 123 = search rules in no_other_shown _ first (c.shown_reply.ensures.bad e)

pub returns-in-106-clause-bad : goal.returns-in-106-clause-bad
returns-in-106-clause-bad c = λ e.
    let first : get_or c.args.bytes.now 0 0 ≡ 106 = search rules in no_other_joined _ first (c.joined_reply.ensures.bad e)

pub returns-in-114-clause-bad : goal.returns-in-114-clause-bad
returns-in-114-clause-bad c = λ e.
    let first : get_or c.args.bytes.now 0 0 ≡ 114 = search rules in
    no_other_refused _ first (c.refused_reply.ensures.refusal e) (c.refused_reply.ensures.line e) (c.refused_reply.ensures.session e) (c.refused_reply.ensures.role e) (c.refused_reply.ensures.pass e) (c.refused_reply.ensures.number e) (c.refused_reply.ensures.busy e) (c.refused_reply.ensures.journal e) (c.refused_reply.ensures.elsewhere e)

pub returns-in_default-clause-bad : goal.returns-in_default-clause-bad
returns-in_default-clause-bad c = λ e.
    elim c.in_default.branch [
      | in_default-via-then-bytes-lt1 w ↦ let short : length c.args.bytes.now < 1 = grind (arith, common_steps, w) in no_reply_of_none _ short
      | in_default-via-else-bytes-lt1+in_default-1 w ↦
          let not_done : (get_or c.args.bytes.now 0 0 ≡ 100) → ⊥ = grind (arith, common_steps, w) in
          let not_undone : (get_or c.args.bytes.now 0 0 ≡ 117) → ⊥ = grind (arith, common_steps, w) in
          let not_news : (get_or c.args.bytes.now 0 0 ≡ 110) → ⊥ = grind (arith, common_steps, w) in
          let not_shown : (get_or c.args.bytes.now 0 0 ≡ 123) → ⊥ = grind (arith, common_steps, w) in
          let not_joined : (get_or c.args.bytes.now 0 0 ≡ 106) → ⊥ = grind (arith, common_steps, w) in
          let not_refused : (get_or c.args.bytes.now 0 0 ≡ 114) → ⊥ = grind (arith, common_steps, w) in
          no_reply c.args.bytes.now not_done not_undone not_news not_shown not_joined not_refused
    ]
