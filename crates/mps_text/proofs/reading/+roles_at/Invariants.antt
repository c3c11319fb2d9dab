-- `roles_at` ends: at each call fewer roles may still come.
use Rattle.mps_text.proofs.reading.+roles_at.Given as goal

abbrev pub decreases-roles_at : goal.decreases-roles_at
decreases-roles_at l = l.room
