-- Tokens that open a protocol and the nodes that they begin: as one list, and as two.
use Rattle.std.proofs.Common.{◌≡◌, ℕ, ◌<◌, List, [], ◌∷◌, ◌++◌, length, Option, Some, None, refl, ap, sym, subst, ◌∙◌, arith}
use Rattle.std.proofs.lemmas.List.{map-append, length-map}
use Rattle.mps_global.specs.Global.{GlobalType}
use Rattle.mps_text.specs.Grammar.{Part, protocol_parts, protocol_tokens, tokens_of, SpellsProtocol}
use Rattle.mps_text.specs.Faults.{starts_of, nodes_begun, IsWhole, Opens, Shows, IsMalformed, IsUnexpected, IsWrong}
use Rattle.mps_text.specs.declared.fault.TextKind.{TextKind}
use Rattle.mps_text.specs.declared.fault.TextKind.TheVariants.{Word, Unexpected, TooManyNodes, TooDeep, Trailing}
use Rattle.mps_text.proofs.Trees.{protocol_starts}

-- some protocol begins with the tokens, and they begin these nodes
pub record OpensBy (tokens : List (List ℕ)) (starts : List (Option ℕ)) : Type 0 where
  pub more : List (List ℕ)
  pub roles : List (List ℕ)
  pub tree : GlobalType
  pub spelled : SpellsProtocol (tokens ++ more) roles tree
  pub later : List (Option ℕ)
  pub nodes : protocol_starts roles tree ≡ starts ++ later
  pub each : length starts ≡ length tokens

abbrev pub IsUnexpectedBy : List (List ℕ) → List (Option ℕ) → Option (List ℕ) → Type 0
IsUnexpectedBy front starts None = ¬ IsWhole front
IsUnexpectedBy front starts (Some token) = (¬ IsWhole front) × ((start : Option ℕ) → ¬ OpensBy (front ++ token ∷ []) (starts ++ start ∷ []))

abbrev pub IsWrongBy : List (List ℕ) → List (Option ℕ) → List ℕ → TextKind → Type 0
IsWrongBy front starts bytes Word = IsMalformed bytes
IsWrongBy front starts bytes Unexpected = (next : Option (List ℕ)) × Shows bytes next × IsUnexpectedBy front starts next
IsWrongBy front starts bytes TooManyNodes =
    (token : List ℕ) × (depth : ℕ) × Shows bytes (Some token) × OpensBy (front ++ token ∷ []) (starts ++ Some depth ∷ []) × (nodes_begun starts ≡ 256)
IsWrongBy front starts bytes TooDeep =
    (token : List ℕ) × Shows bytes (Some token) × OpensBy (front ++ token ∷ []) (starts ++ Some 65 ∷ []) × (nodes_begun starts < 256)
IsWrongBy front starts bytes Trailing = (token : List ℕ) × Shows bytes (Some token) × IsWhole front
IsWrongBy front starts bytes kind = ⊥

-- ---- from one list to two

more_tokens : (xs ys : List Part) → tokens_of (xs ++ ys) ≡ tokens_of xs ++ tokens_of ys
more_tokens xs ys = map-append (λ (part : Part). part.0) xs ys

more_starts : (xs ys : List Part) → starts_of (xs ++ ys) ≡ starts_of xs ++ starts_of ys
more_starts xs ys = map-append (λ (part : Part). part.1) xs ys

pub opens_two : (front : List Part) → Opens front → OpensBy (tokens_of front) (starts_of front)
opens_two front o =
    let tokens : protocol_tokens o.roles o.tree ≡ tokens_of front ++ tokens_of o.later = ap tokens_of o.parts ∙ more_tokens front o.later in
    record {
      more = tokens_of o.later;
      roles = o.roles;
      tree = o.tree;
      spelled = subst (λ (ts : List (List ℕ)). SpellsProtocol ts o.roles o.tree) tokens o.spelled;
      later = starts_of o.later;
      nodes = ap starts_of o.parts ∙ more_starts front o.later;
      each = length-map front (λ (part : Part). part.1) ∙ sym (length-map front (λ (part : Part). part.0));
    }

-- ---- from two lists to one

abbrev make : List ℕ → Option ℕ → Part
make token start = (token, start)

same_part : (p q : Part) → p.0 ≡ q.0 → p.1 ≡ q.1 → p ≡ q
same_part p q e f = ap (λ (token : List ℕ). make token p.1) e ∙ ap (λ (start : Option ℕ). make q.0 start) f

record Splits (front all : List Part) : Type 0 where
  later : List Part
  parts : all ≡ front ++ later

split : (front all : List Part) (more : List (List ℕ)) (later : List (Option ℕ)) → tokens_of all ≡ tokens_of front ++ more → starts_of all ≡ starts_of front ++ later → Splits front all
split [] all more later e f = record { later = all; parts = refl }
split (p ∷ ps) [] more later e f = absurd cc
split (p ∷ ps) (q ∷ qs) more later e f =
    let token : q.0 ≡ p.0 = cc in
    let start : q.1 ≡ p.1 = cc in
    let tokens : tokens_of qs ≡ tokens_of ps ++ more = cc in
    let starts : starts_of qs ≡ starts_of ps ++ later = cc in
    grind (arith, split ps qs more later tokens starts, same_part q p token start)

pub opens_one : (front : List Part) (tokens : List (List ℕ)) (starts : List (Option ℕ)) → tokens_of front ≡ tokens → starts_of front ≡ starts → OpensBy tokens starts → Opens front
opens_one front tokens starts e f o =
    let all : protocol_tokens o.roles o.tree ≡ tokens_of front ++ o.more = sym o.spelled.parts ∙ ap (λ (ts : List (List ℕ)). ts ++ o.more) (sym e) in
    let nodes : starts_of (protocol_parts o.roles o.tree) ≡ starts_of front ++ o.later = o.nodes ∙ ap (λ (st : List (Option ℕ)). st ++ o.later) (sym f) in
    grind (arith, split front (protocol_parts o.roles o.tree) o.more o.later all nodes)

-- two lists as one
pub record Joined (tokens : List (List ℕ)) (starts : List (Option ℕ)) : Type 0 where
  pub parts : List Part
  pub said : tokens ≡ tokens_of parts
  pub begun : starts ≡ starts_of parts

pub join : (tokens : List (List ℕ)) (starts : List (Option ℕ)) → length starts ≡ length tokens → Joined tokens starts
join [] [] e = record { parts = []; said = refl; begun = refl }
join (t ∷ ts) (s ∷ ss) e =
    let j = join ts ss (omega (arith, e)) in
    record { parts = (t, s) ∷ j.parts; said = ap (λ (xs : List (List ℕ)). t ∷ xs) j.said; begun = ap (λ (xs : List (Option ℕ)). s ∷ xs) j.begun }
join other others e = grind arith

-- ---- what is wrong

two_behind : (front : List Part) (token : List ℕ) (start : Option ℕ) → Opens (front ++ (token, start) ∷ []) → OpensBy (tokens_of front ++ token ∷ []) (starts_of front ++ start ∷ [])
two_behind front token start o = grind (arith, opens_two (front ++ (token, start) ∷ []) o, more_tokens front ((token, start) ∷ []), more_starts front ((token, start) ∷ []))

one_behind : (front : List Part) (token : List ℕ) (start : Option ℕ) → OpensBy (tokens_of front ++ token ∷ []) (starts_of front ++ start ∷ []) → Opens (front ++ (token, start) ∷ [])
one_behind front token start o = grind (arith, opens_one, more_tokens, more_starts)

unexpected_two : (front : List Part) (next : Option (List ℕ)) → IsUnexpected front next → IsUnexpectedBy (tokens_of front) (starts_of front) next
unexpected_two front None u = u
unexpected_two front (Some token) u = (u.0, λ start o. u.1 start (one_behind front token start o))

unexpected_one : (front : List Part) (next : Option (List ℕ)) → IsUnexpectedBy (tokens_of front) (starts_of front) next → IsUnexpected front next
unexpected_one front None u = u
unexpected_one front (Some token) u = (u.0, λ start o. u.1 start (two_behind front token start o))

pub wrong_two : (kind : TextKind) (front : List Part) (bytes : List ℕ) → IsWrong front bytes kind → IsWrongBy (tokens_of front) (starts_of front) bytes kind
wrong_two kind front bytes w = grind (arith, unexpected_two, two_behind)

pub wrong_one : (kind : TextKind) (front : List Part) (bytes : List ℕ) → IsWrongBy (tokens_of front) (starts_of front) bytes kind → IsWrong front bytes kind
wrong_one kind front bytes w = grind (arith, unexpected_one, one_behind)
