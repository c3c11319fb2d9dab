-- How the program ends.
use Rattle.std.specs.Prelude.{◌≡◌, ◌≢◌, ◌≤◌, ◌⊎◌, ℕ, Result, Ok, Err, IfOk, IfErr}
use Rattle.mps_words.specs.declared.faults.UseFault.{UseFault}
use Rattle.mps_program.specs.Faults.{of_use, status_of}
use Rattle.mps_program.specs.declared.faults.ToolFault.{ToolFault}
use Rattle.mps_program.specs.declared.faults.ToolFault.TheVariants.{Open}

-- the exit status after what was done: its own, or that of its fault
abbrev pub status_after : Result ℕ ToolFault → ℕ
status_after (Ok status) = status
status_after (Err fault) = status_of fault

-- the status is that of a fault of use, or that after something that may come
abbrev pub EndsAs : (Result ℕ ToolFault → Type 0) → ℕ → Type 0
EndsAs MayCome status =
    ((fault : UseFault) × (status ≡ status_of (of_use fault)))
    ⊎ ((done : Result ℕ ToolFault) × MayCome done × (status ≡ status_after done))

-- what may come of words that are obeyed: the status 0 or 1, or a fault other than `refused open`
abbrev pub IsObeyed : Result ℕ ToolFault → Type 0
IsObeyed done = IfOk done (λ status. status ≤ 1) × IfErr done (λ fault. fault ≢ Open)
