-- What a call of a device answers.
use Rattle.std.specs.Prelude.{ℕ, zero, suc, ◌+◌, ◌<◌, List, [], ◌∷◌, length, IfOk, Result, Ok, Err}

-- how many calls failed, one call later
abbrev pub failures_after : {A E : Type 0} → Result A E → ℕ → ℕ
failures_after (Ok x) n = n
failures_after (Err e) n = n + 1

-- how many reads ended, one read into this buffer later: one more where it gave nothing and there
-- was room
abbrev pub ends_after : {E : Type 0} → Result ℕ E → List ℕ → ℕ → ℕ
ends_after (Ok zero) (byte ∷ bytes) n = n + 1
ends_after (Ok zero) [] n = n
ends_after (Ok (suc count)) buffer n = n
ends_after (Err e) buffer n = n

-- a write of some bytes takes some of them, or fails
abbrev pub TakesSome : {E : Type 0} → Result ℕ E → List ℕ → Type 0
TakesSome r bytes = IfOk r (λ n. 0 < length bytes → 0 < n)
