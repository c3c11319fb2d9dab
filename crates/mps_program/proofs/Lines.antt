-- The parts of a line, one after the other.
use Rattle.std.proofs.Common.{◌≡◌, ℕ, List, ◌++◌, sym, ap, ◌∙◌, append_assoc}

pub whole_line : (out name colon text end : List ℕ) → out ++ name ++ colon ++ text ++ end ≡ out ++ (name ++ colon ++ text ++ end)
whole_line out name colon text end =
    append_assoc (out ++ name ++ colon) text end
    ∙ append_assoc (out ++ name) colon (text ++ end)
    ∙ append_assoc out name (colon ++ (text ++ end))
    ∙ sym (ap (λ (l : List ℕ). out ++ l) (append_assoc (name ++ colon) text end ∙ append_assoc name colon (text ++ end)))
