-- Proves the law `no_line_is_a_mismatch`, by the lemmas of Faithful.
use Rattle.mps_embed.proofs.Faithful.{answered_free, answered_other, kept_free, new_free, told_free}
use Rattle.mps_embed.proofs.laws.no_line_is_a_mismatch.Goals as goal

pub returns-clause-new : goal.returns-clause-new
returns-clause-new c = new_free

pub returns-clause-kept : goal.returns-clause-kept
returns-clause-kept c = kept_free

pub returns-clause-answered : goal.returns-clause-answered
returns-clause-answered c = answered_other

pub returns-clause-still : goal.returns-clause-still
returns-clause-still c = answered_free

pub returns-clause-told : goal.returns-clause-told
returns-clause-told c = told_free
