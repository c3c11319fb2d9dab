-- Tokens that are written one after the other.
use Rattle.std.proofs.Common.{◌≡◌, ◌≢◌, ℕ, ◌<◌, List, [], ◌∷◌, ◌++◌, length, refl, ap, ◌∙◌, append_assoc, arith}
use Rattle.mps_base.specs.Spaced.{spaced, with_token, with_tokens}

pub first_token : (bytes token : List ℕ) → length bytes ≡ 0 → with_token bytes token ≡ bytes ++ token
first_token bytes token h = grind arith

pub next_token : (bytes token : List ℕ) → length bytes ≢ 0 → with_token bytes token ≡ bytes ++ 32 ∷ token
next_token bytes token h = grind arith

pub written_parts : (out : List ℕ) (front back : List (List ℕ)) → with_tokens out (front ++ back) ≡ with_tokens (with_tokens out front) back
written_parts out [] back = refl
written_parts out (token ∷ front) back = written_parts (with_token out token) front back

written_more : (c : ℕ) (cs token : List ℕ) (tokens : List (List ℕ)) → with_tokens (c ∷ cs) (token ∷ tokens) ≡ (c ∷ cs) ++ 32 ∷ spaced (token ∷ tokens)
written_more c cs token [] = refl
written_more c cs token (next ∷ tokens) =
    written_more c (cs ++ 32 ∷ token) next tokens ∙ ap (λ (xs : List ℕ). c ∷ xs) (append_assoc cs (32 ∷ token) (32 ∷ spaced (next ∷ tokens)))

pub written_all : (first : List ℕ) (tokens : List (List ℕ)) → 0 < length first → with_tokens [] (first ∷ tokens) ≡ spaced (first ∷ tokens)
written_all first tokens some = grind (arith, written_more)
