-- What waits to be written, and what was written.
use Rattle.std.proofs.Common.{◌≡◌, ℕ, ◌+◌, true, ◌⊎◌, inl, inr, List, [], ◌∷◌, ◌++◌, refl, ap, sym, ◌∙◌, append_assoc, arith}
use Rattle.std.specs.Prelude.{codes, IsTrue}
use Rattle.std.specs.List.{AllByRecursion, list_all, list_any}
use Rattle.std.specs.Str.{bytes_eq}
use Rattle.std.proofs.lemmas.List.{append-nil}
use Rattle.mps_base.specs.Names.{IsName, reserved_words}
use Rattle.mps_base.specs.RoleLists.{HasRoleCount}
use Rattle.mps_base.specs.Spaced.{spaced, with_token, with_tokens}
use Rattle.mps_base.proofs.Spaced.{written_parts, written_all}
use Rattle.mps_global.specs.Global.{GlobalType, Branches, End, Var, Rec, Message, Choice, NoMore, More}
use Rattle.mps_text.specs.Tokens.{is_blank, IsWord, punctuation, BeginsAll, AreTokensOf}
use Rattle.mps_text.specs.Grammar.{protocol_text, IsSpellable, SpellsText, IsWithinLimits, SpellsOnly, HasBranches, IsNamed}
use Rattle.mps_text.specs.Private.Reading.{tokens_before, branches_before, AreSpellable}
use Rattle.mps_text.specs.Private.Writing.{global_tokens, branches_tokens, others_tokens, todo_tokens, todo_weight, IsTodoNamed, left_tokens, left_weight}
use Rattle.mps_text.specs.declared.writing.Todo.{Todo}
use Rattle.mps_text.proofs.Trees.{before_is, protocol_tokens_are}
use Rattle.mps_text.proofs.OneTree.{one_protocol}

-- one more that waits
pub left_more : (waiting : List Todo) (next : Todo) → left_tokens (waiting ++ next ∷ []) ≡ todo_tokens next ++ left_tokens waiting
left_more [] next = sym (append-nil (todo_tokens next))
left_more (first ∷ waiting) next = cc (left_more waiting next, append_assoc (todo_tokens next) (left_tokens waiting) (todo_tokens first))

pub weight_more : (waiting : List Todo) (next : Todo) → left_weight (waiting ++ next ∷ []) ≡ todo_weight next + left_weight waiting
weight_more [] next = omega arith
weight_more (first ∷ waiting) next = let e = weight_more waiting next in omega (arith, e)

pub named_more : (waiting : List Todo) (next : Todo) → AllByRecursion IsTodoNamed (waiting ++ next ∷ []) → IsTodoNamed next × AllByRecursion IsTodoNamed waiting
named_more [] next h = (h.0, tt)
named_more (first ∷ waiting) next h = let m = named_more waiting next h.1 in (m.0, (h.0, m.1))

pub more_named : (waiting : List Todo) (next : Todo) → IsTodoNamed next → AllByRecursion IsTodoNamed waiting → AllByRecursion IsTodoNamed (waiting ++ next ∷ [])
more_named [] next n h = (n, tt)
more_named (first ∷ waiting) next n h = (h.0, more_named waiting next n h.1)

-- one turn: the last that waits is written, but for what waits then
pub written_turn : (out new whole : List ℕ) (all rest left : List Todo) (next : Todo) → all ≡ rest ++ next ∷ [] → with_tokens out (left_tokens all) ≡ whole → with_tokens new (left_tokens left) ≡ with_tokens out (todo_tokens next ++ left_tokens rest) → with_tokens new (left_tokens left) ≡ whole
written_turn out new whole all rest left next e h s = s ∙ ap (with_tokens out) (sym (left_more rest next) ∙ ap left_tokens (sym e)) ∙ h

pub named_turn : (P : Type 0) (all rest left : List Todo) (next : Todo) → all ≡ rest ++ next ∷ [] → (AllByRecursion IsTodoNamed all → P) → (AllByRecursion IsTodoNamed left → IsTodoNamed next × AllByRecursion IsTodoNamed rest) → AllByRecursion IsTodoNamed left → P
named_turn P all rest left next e h s n = let m = s n in h (rw e (more_named rest next m.0 m.1))

pub branches_more : (label : List ℕ) (next : GlobalType) (others : Branches) (left : List (List ℕ)) → branches_tokens (More label next others) ++ left ≡ label ∷ codes ":" ∷ (global_tokens next ++ (others_tokens others ++ left))
branches_more label next others left = grind (arith, append_assoc)

-- ---- the whole

-- a token of a protocol is found where a space or the end stands after it
abbrev IsToken : List ℕ → Type 0
IsToken token = IsTrue (list_any (bytes_eq token) punctuation) ⊎ IsWord token

-- tokens with one space between two are cut into them
spaced_begins : (token : List ℕ) (tokens : List (List ℕ)) (blanks : List ℕ) → list_all is_blank blanks ≡ true → IsToken token → AllByRecursion IsToken tokens → BeginsAll (blanks ++ spaced (token ∷ tokens)) (token ∷ tokens) []
spaced_begins token [] blanks blank is are = grind (arith, append-nil)
spaced_begins token (second ∷ tokens) blanks blank is are = grind (arith, spaced_begins second tokens (32 ∷ []) refl are.0 are.1)

pub spaced_tokens : (token : List ℕ) (tokens : List (List ℕ)) → IsToken token → AllByRecursion IsToken tokens → AreTokensOf (spaced (token ∷ tokens)) (token ∷ tokens)
spaced_tokens token tokens is are = record { rest = []; all = spaced_begins token tokens [] refl is are; blank = refl }

-- ---- each token of a protocol is one

reserved : (word : List ℕ) → IsTrue (list_any (bytes_eq word) reserved_words) → IsToken word
reserved word h = inr (inr (inl h))

all_append : (xs ys : List (List ℕ)) → AllByRecursion IsToken xs → AllByRecursion IsToken ys → AllByRecursion IsToken (xs ++ ys)
all_append [] ys p q = q
all_append (x ∷ xs) ys p q = (p.0, all_append xs ys p.1 q)

names_tokens : (names : List (List ℕ)) → AllByRecursion IsName names → AllByRecursion IsToken names
names_tokens [] h = tt
names_tokens (name ∷ names) h = grind (arith, names_tokens names h.1)

mutual
  tokens_of : (tree : GlobalType) (rest : List (List ℕ)) → IsSpellable tree → AllByRecursion IsToken rest → AllByRecursion IsToken (tokens_before tree rest)
  tokens_of End rest s r = (reserved (codes "end") refl, r)
  tokens_of (Var name) rest s r = (inr (inr (inr s.0)), r)
  tokens_of (Rec name body) rest s r = (reserved (codes "rec") refl, (inr (inr (inr s.0.0)), (inl refl, tokens_of body rest (s.0.1, s.1) r)))
  tokens_of (Message sender receiver sort next) rest s r = grind (arith, reserved, tokens_of next rest (s.0.2, s.1) r)
  tokens_of (Choice sender receiver branches) rest s r = grind (arith, tokens_of_branches (codes "{") branches rest (inl refl) (s.0.2, s.1.1) r)

  tokens_of_branches : (sep : List ℕ) (branches : Branches) (rest : List (List ℕ)) → IsToken sep → AreSpellable branches → AllByRecursion IsToken rest → AllByRecursion IsToken (branches_before sep branches rest)
  tokens_of_branches sep NoMore rest is s r = (inl refl, r)
  tokens_of_branches sep (More label next others) rest is s r = grind (arith, tokens_of next (branches_before (codes ",") others rest) (s.0.1, s.1.0) (tokens_of_branches (codes ",") others rest (inl refl) (s.0.2, s.1.1) r))

pub written_spells : (roles : List (List ℕ)) (tree : GlobalType) → AllByRecursion IsName roles → HasRoleCount roles → IsNamed tree → HasBranches tree → SpellsText (protocol_text roles tree) roles tree
written_spells roles tree names count n h =
    let s : IsSpellable tree = (n, h) in
    let alone : tokens_before tree [] ≡ global_tokens tree = before_is tree [] s ∙ append-nil (global_tokens tree) in
    grind (arith, tokens_of, all_append, names_tokens, spaced_tokens, reserved, protocol_tokens_are)

-- what was written after `roles`, the roles and `;`
pub written_is : (out one two three four : List ℕ) (roles : List (List ℕ)) (tree : GlobalType) → out ≡ [] → one ≡ with_token out (codes "roles") → two ≡ with_tokens one roles → three ≡ with_token two (codes ";") → four ≡ with_tokens three (global_tokens tree) → four ≡ protocol_text roles tree
written_is out one two three four roles tree a b c d e = cc (written_parts (codes "roles") roles (codes ";" ∷ global_tokens tree), written_all (codes "roles") (roles ++ codes ";" ∷ global_tokens tree) (omega arith), protocol_tokens_are roles tree)

-- what is written within the limits is read back
pub written_reads : (roles : List (List ℕ)) (tree : GlobalType) → AllByRecursion IsName roles → HasRoleCount roles → IsSpellable tree → IsWithinLimits (protocol_text roles tree) tree → SpellsOnly (protocol_text roles tree) roles tree
written_reads roles tree names count body limits =
    let s = written_spells roles tree names count body.0 body.1 in
    record { limits = limits; spelled = s; only = λ r t other. one_protocol (protocol_text roles tree) r roles t tree other s }
