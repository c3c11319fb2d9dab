-- The tokens of a tree, and how they drive a stack on.
use Rattle.std.proofs.Common.{◌≡◌, ℕ, ◌+◌, ◌-◌, ◌≤◌, true, nat_lt, List, [], ◌∷◌, ◌++◌, length, Option, Some, None, refl, ap, sym, ◌∙◌, append_assoc, arith}
use Rattle.std.specs.Prelude.{codes, ⊤}
use Rattle.std.specs.List.{AllByRecursion}
use Rattle.std.proofs.lemmas.Bool.Decides.{nat_tests}
use Rattle.std.proofs.lemmas.List.{append-nil, map-append}
use Rattle.mps_base.specs.Names.{IsName, IsVariable}
use Rattle.mps_global.specs.Global.{GlobalType, Branches, End, Var, Rec, Message, Choice, NoMore, More}
use Rattle.mps_text.specs.Grammar.{Part, inside, node_parts, branch_parts, protocol_parts, tokens_of, HasBranch, IsSpellable, SpellsProtocol, protocol_tokens}
use Rattle.mps_text.specs.Private.Writing.{global_tokens, branch_tokens}
use Rattle.mps_text.specs.Faults.{starts_of}
use Rattle.mps_text.specs.Private.Reading.{Symbol, Token, AName, AVariable, ASort, Roles, Node, Exchange, Others, branch, step, start_of, begun, named, which, whole, tokens_before, branches_before, AreSpellable}
use Rattle.mps_text.specs.declared.reading.First.TheVariants as firsts
use Rattle.mps_text.proofs.Names.{is_name_of, is_variable_of}
use Rattle.mps_text.proofs.Tokens.{name_apart, sort_again, first_again}
use Rattle.mps_text.proofs.Machine.{Drives, drives_more}

-- ---- the tokens, and the nodes that they begin, of parts

abbrev pub protocol_starts : List (List ℕ) → GlobalType → List (Option ℕ)
protocol_starts roles tree = starts_of (protocol_parts roles tree)

abbrev pub node_starts : ℕ → GlobalType → List (Option ℕ)
node_starts level tree = starts_of (node_parts level tree)

abbrev branch_starts : ℕ → Branches → List (Option ℕ)
branch_starts level branches = starts_of (branch_parts level branches)

-- for tokens that begin no node
abbrev pub no_starts : List (List ℕ) → List (Option ℕ)
no_starts [] = []
no_starts (token ∷ tokens) = None ∷ no_starts tokens

mutual
  tokens_are : (level : ℕ) (tree : GlobalType) → tokens_of (node_parts level tree) ≡ global_tokens tree
  tokens_are level End = refl
  tokens_are level (Var name) = refl
  tokens_are level (Rec name body) = ap (λ (ts : List (List ℕ)). codes "rec" ∷ name ∷ codes "." ∷ ts) (tokens_are (level + 1) body)
  tokens_are level (Message sender receiver sort next) = cc (tokens_are (level + 1) next)
  tokens_are level (Choice sender receiver branches) =
      ap (λ (ts : List (List ℕ)). sender ∷ codes "->" ∷ receiver ∷ codes "{" ∷ ts)
      (map-append (λ (part : Part). part.0) (branch_parts (level + 1) branches) (inside (codes "}" ∷ []))
      ∙ ap (λ (ts : List (List ℕ)). ts ++ codes "}" ∷ []) (branch_tokens_are (level + 1) branches))

  branch_tokens_are : (level : ℕ) (branches : Branches) → tokens_of (branch_parts level branches) ≡ branch_tokens branches
  branch_tokens_are level NoMore = refl
  branch_tokens_are level (More label next NoMore) = ap (λ (ts : List (List ℕ)). label ∷ codes ":" ∷ ts) (tokens_are level next)
  branch_tokens_are level (More label next (More second then others)) =
      let more = More second then others in
      ap (λ (ts : List (List ℕ)). label ∷ codes ":" ∷ ts)
      (map-append (λ (part : Part). part.0) (node_parts level next ++ inside (codes "," ∷ [])) (branch_parts level more)
      ∙ ap (λ (ts : List (List ℕ)). ts ++ tokens_of (branch_parts level more)) (map-append (λ (part : Part). part.0) (node_parts level next) (inside (codes "," ∷ [])))
      ∙ append_assoc (tokens_of (node_parts level next)) (codes "," ∷ []) (tokens_of (branch_parts level more))
      ∙ ap (λ (ts : List (List ℕ)). ts ++ codes "," ∷ tokens_of (branch_parts level more)) (tokens_are level next)
      ∙ ap (λ (ts : List (List ℕ)). global_tokens next ++ codes "," ∷ ts) (branch_tokens_are level (More second then others)))

inside_tokens : (tokens : List (List ℕ)) → tokens_of (inside tokens) ≡ tokens
inside_tokens [] = refl
inside_tokens (token ∷ tokens) = ap (λ (ts : List (List ℕ)). token ∷ ts) (inside_tokens tokens)

inside_starts : (tokens : List (List ℕ)) → starts_of (inside tokens) ≡ no_starts tokens
inside_starts [] = refl
inside_starts (token ∷ tokens) = ap (λ (st : List (Option ℕ)). None ∷ st) (inside_starts tokens)

pub protocol_tokens_are : (roles : List (List ℕ)) (tree : GlobalType) → protocol_tokens roles tree ≡ codes "roles" ∷ roles ++ codes ";" ∷ global_tokens tree
protocol_tokens_are roles tree = grind (arith, append_assoc, map-append, inside_tokens, tokens_are)

pub protocol_starts_are : (roles : List (List ℕ)) (tree : GlobalType) → protocol_starts roles tree ≡ None ∷ no_starts roles ++ None ∷ node_starts 1 tree
protocol_starts_are roles tree = grind (arith, append_assoc, map-append, inside_starts)

-- ---- with others after

abbrev mutual
  -- for each token of a global type the depth of the node that it begins, and then others
  pub starts_before : ℕ → GlobalType → List (Option ℕ) → List (Option ℕ)
  starts_before level End later = Some level ∷ later
  starts_before level (Var name) later = Some level ∷ later
  starts_before level (Rec name body) later = Some level ∷ None ∷ None ∷ starts_before (level + 1) body later
  starts_before level (Message sender receiver sort next) later = Some level ∷ None ∷ None ∷ None ∷ None ∷ None ∷ starts_before (level + 1) next later
  starts_before level (Choice sender receiver branches) later = Some level ∷ None ∷ None ∷ branch_starts_before (level + 1) branches later

  -- the same of branches, each with the token before it, and `}`
  pub branch_starts_before : ℕ → Branches → List (Option ℕ) → List (Option ℕ)
  branch_starts_before level NoMore later = None ∷ later
  branch_starts_before level (More label next others) later = None ∷ None ∷ None ∷ starts_before level next (branch_starts_before level others later)

branches_are : (label : List ℕ) (next : GlobalType) (others : Branches) (sep : List ℕ) (rest : List (List ℕ)) → ((tokens : List (List ℕ)) → tokens_before next tokens ≡ global_tokens next ++ tokens) → (HasBranch others → branches_before (codes ",") others rest ≡ codes "," ∷ branch_tokens others ++ codes "}" ∷ rest) → branches_before sep (More label next others) rest ≡ sep ∷ branch_tokens (More label next others) ++ codes "}" ∷ rest
branches_are label next others sep rest one more = grind (arith, append_assoc)

mutual
  pub before_is : (tree : GlobalType) (rest : List (List ℕ)) → IsSpellable tree → tokens_before tree rest ≡ global_tokens tree ++ rest
  before_is End rest s = refl
  before_is (Var name) rest s = refl
  before_is (Rec name body) rest s = ap (λ (ts : List (List ℕ)). codes "rec" ∷ name ∷ codes "." ∷ ts) (before_is body rest (s.0.1, s.1))
  before_is (Message sender receiver sort next) rest s = cc (before_is next rest (s.0.2, s.1))
  before_is (Choice sender receiver branches) rest s = cc (all_before_is branches (codes "{") rest s.1.0 (s.0.2, s.1.1), append_assoc (branch_tokens branches) (codes "}" ∷ []) rest)

  all_before_is : (branches : Branches) (sep : List ℕ) (rest : List (List ℕ)) → HasBranch branches → AreSpellable branches → branches_before sep branches rest ≡ sep ∷ branch_tokens branches ++ codes "}" ∷ rest
  all_before_is NoMore sep rest some s = absurd some
  all_before_is (More label next others) sep rest some s =
      branches_are label next others sep rest (λ tokens. before_is next tokens (s.0.1, s.1.0)) (λ more. all_before_is others (codes ",") rest more (s.0.2, s.1.1))

branch_starts_are : (label : List ℕ) (next : GlobalType) (others : Branches) (level : ℕ) (later : List (Option ℕ)) → ((starts : List (Option ℕ)) → starts_before level next starts ≡ node_starts level next ++ starts) → (HasBranch others → branch_starts_before level others later ≡ None ∷ branch_starts level others ++ None ∷ later) → branch_starts_before level (More label next others) later ≡ None ∷ branch_starts level (More label next others) ++ None ∷ later
branch_starts_are label next others level later one more = grind (arith, append_assoc, map-append)

mutual
  pub starts_are : (tree : GlobalType) (level : ℕ) (later : List (Option ℕ)) → IsSpellable tree → starts_before level tree later ≡ node_starts level tree ++ later
  starts_are End level later s = refl
  starts_are (Var name) level later s = refl
  starts_are (Rec name body) level later s = ap (λ (st : List (Option ℕ)). Some level ∷ None ∷ None ∷ st) (starts_are body (level + 1) later (s.0.1, s.1))
  starts_are (Message sender receiver sort next) level later s = cc (starts_are next (level + 1) later (s.0.2, s.1))
  starts_are (Choice sender receiver branches) level later s = grind (arith, append_assoc, map-append, all_starts_are branches (level + 1) later s.1.0 (s.0.2, s.1.1))

  all_starts_are : (branches : Branches) (level : ℕ) (later : List (Option ℕ)) → HasBranch branches → AreSpellable branches → branch_starts_before level branches later ≡ None ∷ branch_starts level branches ++ None ∷ later
  all_starts_are NoMore level later some s = absurd some
  all_starts_are (More label next others) level later some s =
      branch_starts_are label next others level later (λ starts. starts_are next level starts (s.0.1, s.1.0)) (λ more. all_starts_are others level later more (s.0.2, s.1.1))

-- ---- driven by a tree

-- after the last branch the symbol is closed by `}`
abbrev Closes : Symbol → Branches → Type 0
Closes x NoMore = step x (codes "}") ≡ Some []
Closes x (More label next others) = ⊤

closes_some : (x : Symbol) (branches : Branches) → HasBranch branches → Closes x branches
closes_some x branches some = grind arith

others_close : (level : ℕ) (branches : Branches) → Closes (Others level) branches
unfolding which
others_close level branches = grind arith

colon_step : (level : ℕ) → step (Exchange level) (codes ":") ≡ Some (ASort ∷ Token (codes ".") ∷ Node level ∷ [])
unfolding which
colon_step level = refl

brace_step : (level : ℕ) → step (Exchange level) (codes "{") ≡ Some (branch level)
unfolding which
brace_step level = refl

comma_step : (level : ℕ) → step (Others level) (codes ",") ≡ Some (branch level)
unfolding which
comma_step level = refl

name_step : (name : List ℕ) → IsName name → step AName name ≡ Some []
name_step name h = rw (is_name_of name h) refl

variable_step : (name : List ℕ) → IsVariable name → step AVariable name ≡ Some []
variable_step name h = rw (is_variable_of name h) refl

mutual
  pub drives_tree : (tree : GlobalType) (level : ℕ) (stack to : List Symbol) (tokens : List (List ℕ)) (starts : List (Option ℕ)) → IsSpellable tree → Drives stack tokens to starts → Drives (Node level ∷ stack) (tokens_before tree tokens) to (starts_before level tree starts)
  drives_tree End level stack to tokens starts s d = drives_more (Node level) stack [] to (codes "end") tokens starts (ap (begun level) (first_again firsts.End tt)) d
  drives_tree (Var name) level stack to tokens starts s d = drives_more (Node level) stack [] to name tokens starts (ap (begun level) (first_again (firsts.Var name) s.0)) d
  drives_tree (Rec name body) level stack to tokens starts s d = (
    AVariable ∷ Token (codes ".") ∷ Node (level + 1) ∷ [],
    ap (begun level) (first_again firsts.Rec tt),
    None ∷ None ∷ starts_before (level + 1) body starts,
    refl,
    grind (arith, variable_step name s.0.0, drives_tree body (level + 1) stack to tokens starts (s.0.1, s.1) d),
  )
  drives_tree (Message sender receiver sort next) level stack to tokens starts s d =
      let later = starts_before (level + 1) next starts in (
        Token (codes "->") ∷ AName ∷ Exchange (level + 1) ∷ [],
        ap (begun level) (first_again (firsts.Sender sender) s.0.0),
        None ∷ None ∷ None ∷ None ∷ None ∷ later,
        refl,
        (
          [],
          refl,
          None ∷ None ∷ None ∷ None ∷ later,
          refl,
          (
            [],
            name_step receiver s.0.1,
            None ∷ None ∷ None ∷ later,
            refl,
            (
              ASort ∷ Token (codes ".") ∷ Node (level + 1) ∷ [],
              colon_step (level + 1),
              None ∷ None ∷ later,
              refl,
              (
                [],
                ap named (sort_again sort),
                None ∷ later,
                refl,
                ([], refl, later, refl, drives_tree next (level + 1) stack to tokens starts (s.0.2, s.1) d),
              ),
            ),
          ),
        ),
      )
  drives_tree (Choice sender receiver branches) level stack to tokens starts s d =
      let later = branch_starts_before (level + 1) branches starts in (
        Token (codes "->") ∷ AName ∷ Exchange (level + 1) ∷ [],
        ap (begun level) (first_again (firsts.Sender sender) s.0.0),
        None ∷ None ∷ later,
        refl,
        grind (arith, name_step receiver s.0.1, drives_branches branches (Exchange (level + 1)) (level + 1) (codes "{") stack to tokens starts (brace_step (level + 1)) refl (closes_some (Exchange (level + 1)) branches s.1.0) (s.0.2, s.1.1) d),
      )

  drives_branches : (branches : Branches) (x : Symbol) (level : ℕ) (sep : List ℕ) (stack to : List Symbol) (tokens : List (List ℕ)) (starts : List (Option ℕ)) → step x sep ≡ Some (branch level) → start_of x ≡ None → Closes x branches → AreSpellable branches → Drives stack tokens to starts → Drives (x ∷ stack) (branches_before sep branches tokens) to (branch_starts_before level branches starts)
  drives_branches NoMore x level sep stack to tokens starts opens plain closes s d = ([], closes, starts, ap (λ (m : Option ℕ). m ∷ starts) (sym plain), d)
  drives_branches (More label next others) x level sep stack to tokens starts opens plain closes s d =
      let rest = branch_starts_before level others starts in
      grind (arith, name_step label s.0.0, drives_tree next level (Others level ∷ stack) to (branches_before (codes ",") others tokens) rest (s.0.1, s.1.0) (drives_branches others (Others level) level (codes ",") stack to tokens starts (comma_step level) refl (others_close level others) (s.0.2, s.1.1) d))

-- ---- driven by a protocol

drives_roles : (names : List (List ℕ)) (room : ℕ) (stack to : List Symbol) (tokens : List (List ℕ)) (starts : List (Option ℕ)) → AllByRecursion IsName names → length names ≤ room → Drives stack tokens to starts → Drives (Roles room ∷ stack) (names ++ codes ";" ∷ tokens) to (no_starts names ++ None ∷ starts)
drives_roles [] room stack to tokens starts are few d = ([], refl, starts, refl, d)
drives_roles (name ∷ names) room stack to tokens starts are few d =
    let some : nat_lt 0 room ≡ true = grind (arith, nat_tests, few) in (
      Roles (room - 1) ∷ [],
      rw (name_apart name (codes ";") are.0 refl, some, is_name_of name are.0) refl,
      no_starts names ++ None ∷ starts,
      refl,
      drives_roles names (room - 1) stack to tokens starts are.1 (omega arith) d,
    )

drives_heading : (first second : List ℕ) (more : List (List ℕ)) (tree : GlobalType) → IsName first → IsName second → AllByRecursion IsName more → length more ≤ 6 → IsSpellable tree → Drives whole (protocol_tokens (first ∷ second ∷ more) tree) [] (protocol_starts (first ∷ second ∷ more) tree)
drives_heading first second more tree a b are few s =
    let tokens : tokens_before tree [] ≡ global_tokens tree = before_is tree [] s ∙ append-nil (global_tokens tree) in
    let starts : starts_before 1 tree [] ≡ node_starts 1 tree = starts_are tree 1 [] s ∙ append-nil (node_starts 1 tree) in
    let body : Drives (Node 1 ∷ []) (global_tokens tree) [] (node_starts 1 tree) = rw (tokens, starts) at (drives_tree tree 1 [] [] [] [] s (refl, refl)) in
    let roles = drives_roles more 6 (Node 1 ∷ []) [] (global_tokens tree) (node_starts 1 tree) are few body in
    let later = no_starts more ++ None ∷ node_starts 1 tree in
    let all : Drives whole (codes "roles" ∷ first ∷ second ∷ more ++ codes ";" ∷ global_tokens tree) [] (None ∷ None ∷ None ∷ later) = ([], refl, None ∷ None ∷ later, refl, ([], name_step first a, None ∷ later, refl, ([], name_step second b, later, refl, roles))) in
    let names = first ∷ second ∷ more in
    grind (arith, protocol_tokens_are names tree, protocol_starts_are names tree)

-- the tokens of a protocol drive it away
pub drives_whole : (tokens roles : List (List ℕ)) (tree : GlobalType) → SpellsProtocol tokens roles tree → Drives whole tokens [] (protocol_starts roles tree)
drives_whole tokens [] tree s = absurd (omega arith)
drives_whole tokens (first ∷ []) tree s = absurd (let some = s.count.some in omega arith)
drives_whole tokens (first ∷ second ∷ more) tree s = grind (arith, drives_heading)
