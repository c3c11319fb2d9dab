-- How the words of a choice are joined.
use Rattle.std.proofs.Common.{◌≡◌, ◌∙◌, ℕ, List, [], ◌∷◌, ◌++◌, Result, Ok, Err, ap, append-nil, append_assoc}
use Rattle.std.specs.Prelude.{OnOk}
use Rattle.mps_base.specs.Spaced.{spaced}
use Rattle.mps_open.specs.Private.Choices.{behind}

-- a word with others behind it
pub one_behind : (word : List ℕ) (words : List (List ℕ)) → word ++ behind words ≡ spaced (word ∷ words)
one_behind word [] = append-nil word
one_behind word (next ∷ words) = ap (λ l. word ++ 32 ∷ l) (one_behind next words)

-- two words, and others behind them
pub words_behind : {T E : Type 0} (done : Result T E) (old first second : List ℕ) (words : List (List ℕ)) (a b c new : List ℕ)
    → a ≡ old ++ first
    → b ≡ a ++ 32 ∷ []
    → c ≡ b ++ second
    → OnOk done (new ≡ c ++ behind words)
    → OnOk done (new ≡ old ++ spaced (first ∷ second ∷ words))
words_behind (Err why) old first second words a b c new e f g h = tt
words_behind (Ok x) old first second words a b c new e f g h =
    h
    ∙ ap (λ l. l ++ behind words) (g ∙ ap (λ l. l ++ second) (f ∙ ap (λ l. l ++ 32 ∷ []) e))
    ∙ append_assoc ((old ++ first) ++ 32 ∷ []) second (behind words)
    ∙ ap (λ l. ((old ++ first) ++ 32 ∷ []) ++ l) (one_behind second words)
    ∙ append_assoc (old ++ first) (32 ∷ []) (spaced (second ∷ words))
    ∙ append_assoc old first (32 ∷ spaced (second ∷ words))
