-- What may come where a stack stands.
use Rattle.std.proofs.Common.{◌≡◌, ℕ, ◌-◌, ◌≤◌, Bool, true, false, cond, nat_lt, ◌⊎◌, inl, inr, List, [], ◌∷◌, ◌++◌, length, Option, Some, None, refl, ap, sym, subst, ◌∙◌, arith}
use Rattle.std.specs.Prelude.{codes, ◌&&◌}
use Rattle.std.specs.List.{AllByRecursion}
use Rattle.std.specs.Str.{bytes_eq}
use Rattle.std.proofs.lemmas.Bool.Decides.{nat_tests}
use Rattle.std.proofs.lemmas.List.{append-nil}
use Rattle.mps_base.specs.Names.{IsName, IsVariable}
use Rattle.mps_base.specs.declared.value.Sort.{Sort}
use Rattle.mps_base.specs.declared.value.Sort.TheVariants.{Int}
use Rattle.mps_global.specs.Global.{GlobalType, Branches, End, Var, Rec, Message, Choice, NoMore, More}
use Rattle.mps_base.specs.Sorts.{sort_word}
use Rattle.mps_text.specs.Grammar.{HasBranch, IsSpellable, SpellsProtocol}
use Rattle.mps_text.specs.Private.Writing.{global_tokens}
use Rattle.mps_text.specs.Private.Lexing.{is_name, is_variable}
use Rattle.mps_text.specs.Private.Reading.{Symbol, Token, AName, AVariable, ASort, Roles, Node, Exchange, Others, branch, behind_first, begun, named, exchanged, followed, first_of, first_token, IsFirst, sort_of, which, step, start_of, whole, tokens_before, branches_before, AreSpellable}
use Rattle.mps_text.specs.declared.reading.First.{First}
use Rattle.mps_text.specs.declared.reading.First.TheVariants as firsts
use Rattle.mps_text.proofs.Names.{both_true, name_is, variable_is}
use Rattle.mps_text.proofs.Tokens.{chosen, some_is, only_if, same_token, which_is, sort_is, first_is}
use Rattle.mps_text.proofs.Machine.{Drives}
use Rattle.mps_text.proofs.Trees.{protocol_starts, node_starts, no_starts, protocol_tokens_are, protocol_starts_are, starts_before, branch_starts_before, before_is, starts_are}

-- tokens, with the nodes that they begin
abbrev pub Language : Type 1
Language = List (List ℕ) → List (Option ℕ) → Type 0

-- a token of a kind, and then others
pub record One (P : List ℕ → Type 0) (N : Language) (tokens : List (List ℕ)) (starts : List (Option ℕ)) : Type 0 where
  pub token : List ℕ
  pub after : List (List ℕ)
  pub later : List (Option ℕ)
  pub is : P token
  pub goes_on : N after later
  pub cut : tokens ≡ token ∷ after
  pub marked : starts ≡ None ∷ later

-- some roles and `;`
pub record RolesOf (room : ℕ) (N : Language) (tokens : List (List ℕ)) (starts : List (Option ℕ)) : Type 0 where
  pub names : List (List ℕ)
  pub after : List (List ℕ)
  pub later : List (Option ℕ)
  pub are : AllByRecursion IsName names
  pub few : length names ≤ room
  pub goes_on : N after later
  pub cut : tokens ≡ names ++ codes ";" ∷ after
  pub marked : starts ≡ no_starts names ++ None ∷ later

-- a global type
pub record NodeOf (level : ℕ) (N : Language) (tokens : List (List ℕ)) (starts : List (Option ℕ)) : Type 0 where
  pub tree : GlobalType
  pub after : List (List ℕ)
  pub later : List (Option ℕ)
  pub spellable : IsSpellable tree
  pub goes_on : N after later
  pub cut : tokens ≡ tokens_before tree after
  pub marked : starts ≡ starts_before level tree later

-- branches, with the token before them
pub record BranchesOf (level : ℕ) (sep : List ℕ) (N : Language) (tokens : List (List ℕ)) (starts : List (Option ℕ)) : Type 0 where
  pub branches : Branches
  pub after : List (List ℕ)
  pub later : List (Option ℕ)
  pub spellable : AreSpellable branches
  pub goes_on : N after later
  pub cut : tokens ≡ branches_before sep branches after
  pub marked : starts ≡ branch_starts_before level branches later

abbrev pub Is : List ℕ → List ℕ → Type 0
Is word token = token ≡ word

abbrev pub IsSortWord : List ℕ → Type 0
IsSortWord token = (sort : Sort) × (token ≡ sort_word sort)

abbrev pub MessageOf : ℕ → Language → Language
MessageOf level N tokens starts = One (Is (codes ":")) (One IsSortWord (One (Is (codes ".")) (NodeOf level N))) tokens starts

abbrev pub ChoiceOf : ℕ → Language → Language
ChoiceOf level N tokens starts = (b : BranchesOf level (codes "{") N tokens starts) × HasBranch b.branches

-- what the stack stands for
abbrev pub Completes : List Symbol → Language
Completes [] tokens starts = (tokens ≡ []) × (starts ≡ [])
Completes (Token word ∷ stack) tokens starts = One (Is word) (Completes stack) tokens starts
Completes (AName ∷ stack) tokens starts = One IsName (Completes stack) tokens starts
Completes (AVariable ∷ stack) tokens starts = One IsVariable (Completes stack) tokens starts
Completes (ASort ∷ stack) tokens starts = One IsSortWord (Completes stack) tokens starts
Completes (Roles room ∷ stack) tokens starts = RolesOf room (Completes stack) tokens starts
Completes (Node level ∷ stack) tokens starts = NodeOf level (Completes stack) tokens starts
Completes (Exchange level ∷ stack) tokens starts = MessageOf level (Completes stack) tokens starts ⊎ ChoiceOf level (Completes stack) tokens starts
Completes (Others level ∷ stack) tokens starts = BranchesOf level (codes ",") (Completes stack) tokens starts

-- ---- one token more

-- after what was pushed
popped : (stack pushed : List Symbol) (tokens : List (List ℕ)) (starts : List (Option ℕ)) (q : List Symbol) → q ≡ pushed → Completes (pushed ++ stack) tokens starts → Completes (q ++ stack) tokens starts
popped stack pushed tokens starts q e c = subst (λ (p : List Symbol). Completes (p ++ stack) tokens starts) (sym e) c

one_more : (P : List ℕ → Type 0) (stack pushed : List Symbol) (token : List ℕ) (tokens : List (List ℕ)) (starts : List (Option ℕ)) → P token → [] ≡ pushed → Completes (pushed ++ stack) tokens starts → One P (Completes stack) (token ∷ tokens) (None ∷ starts)
one_more P stack pushed token tokens starts is e c = record { token = token; after = tokens; later = starts; is = is; goes_on = popped stack pushed tokens starts [] e c; cut = refl; marked = refl }

more_roles : (room : ℕ) (stack pushed : List Symbol) (token : List ℕ) (tokens : List (List ℕ)) (starts : List (Option ℕ)) → step (Roles room) token ≡ Some pushed → Completes (pushed ++ stack) tokens starts → RolesOf room (Completes stack) (token ∷ tokens) (None ∷ starts)
more_roles room stack pushed token tokens starts s c =
    elim (chosen (bytes_eq token (codes ";")) (Some []) (cond (nat_lt 0 room && is_name token) (Some (Roles (room - 1) ∷ [])) None) (Some pushed) s) [
      | inl a ↦ record {
        names = [];
        after = tokens;
        later = starts;
        are = tt;
        few = omega arith;
        goes_on = popped stack pushed tokens starts [] (some_is [] pushed a.1) c;
        cut = ap (λ (t : List ℕ). t ∷ tokens) (same_token token (codes ";") a.0);
        marked = refl;
      }
      | inr a ↦
          let b = only_if (nat_lt 0 room && is_name token) (Roles (room - 1) ∷ []) pushed a.1 in
          let both = both_true (nat_lt 0 room) (is_name token) b.0 in
          let r : RolesOf (room - 1) (Completes stack) tokens starts = popped stack pushed tokens starts (Roles (room - 1) ∷ []) b.1 c in
          let few = r.few in
          record {
            names = token ∷ r.names;
            after = r.after;
            later = r.later;
            are = (name_is token both.1, r.are);
            few = grind (arith, nat_tests, few);
            goes_on = r.goes_on;
            cut = ap (λ (ts : List (List ℕ)). token ∷ ts) r.cut;
            marked = ap (λ (st : List (Option ℕ)). None ∷ st) r.marked;
          }
    ]

more_branches : (level : ℕ) (sep : List ℕ) (stack : List Symbol) (token : List ℕ) (tokens : List (List ℕ)) (starts : List (Option ℕ)) → token ≡ sep → Completes (branch level ++ stack) tokens starts → (b : BranchesOf level sep (Completes stack) (token ∷ tokens) (None ∷ starts)) × HasBranch b.branches
more_branches level sep stack token tokens starts e a =
    let b = a.goes_on in
    let g = b.goes_on in
    let o = g.goes_on in (
      record {
        branches = More a.token g.tree o.branches;
        after = o.after;
        later = o.later;
        spellable = ((a.is, g.spellable.0, o.spellable.0), (g.spellable.1, o.spellable.1));
        goes_on = o.goes_on;
        cut = cc (e, a.cut, b.cut, b.is, g.cut, o.cut);
        marked = cc (a.marked, b.marked, g.marked, o.marked);
      },
      tt,
    )

more_exchange : (level : ℕ) (stack pushed : List Symbol) (token : List ℕ) (tokens : List (List ℕ)) (starts : List (Option ℕ)) (w : Option Bool) → which (codes ":") (codes "{") token ≡ w → exchanged level w ≡ Some pushed → Completes (pushed ++ stack) tokens starts → Completes (Exchange level ∷ stack) (token ∷ tokens) (None ∷ starts)
more_exchange level stack pushed token tokens starts None e s c = absurd cc
more_exchange level stack pushed token tokens starts (Some true) e s c = grind (arith, popped stack pushed tokens starts (ASort ∷ Token (codes ".") ∷ Node level ∷ []) (some_is (ASort ∷ Token (codes ".") ∷ Node level ∷ []) pushed s) c, which_is (codes ":") (codes "{") token true e)
more_exchange level stack pushed token tokens starts (Some false) e s c =
    let m = popped stack pushed tokens starts (branch level) (some_is (branch level) pushed s) c in
    inr (more_branches level (codes "{") stack token tokens starts (which_is (codes ":") (codes "{") token false e) m)

more_others : (level : ℕ) (stack pushed : List Symbol) (token : List ℕ) (tokens : List (List ℕ)) (starts : List (Option ℕ)) (w : Option Bool) → which (codes ",") (codes "}") token ≡ w → followed level w ≡ Some pushed → Completes (pushed ++ stack) tokens starts → Completes (Others level ∷ stack) (token ∷ tokens) (None ∷ starts)
more_others level stack pushed token tokens starts None e s c = absurd cc
more_others level stack pushed token tokens starts (Some true) e s c =
    let m = popped stack pushed tokens starts (branch level) (some_is (branch level) pushed s) c in
    (more_branches level (codes ",") stack token tokens starts (which_is (codes ",") (codes "}") token true e) m).0
more_others level stack pushed token tokens starts (Some false) e s c =
    record {
      branches = NoMore;
      after = tokens;
      later = starts;
      spellable = (tt, tt);
      goes_on = popped stack pushed tokens starts [] (some_is [] pushed s) c;
      cut = ap (λ (t : List ℕ). t ∷ tokens) (which_is (codes ",") (codes "}") token false e);
      marked = refl;
    }

more_first : (level : ℕ) (first : First) (stack : List Symbol) (token : List ℕ) (tokens : List (List ℕ)) (starts : List (Option ℕ)) → token ≡ first_token first → IsFirst first → Completes (behind_first level first ++ stack) tokens starts → NodeOf level (Completes stack) (token ∷ tokens) (Some level ∷ starts)
more_first level firsts.End stack token tokens starts e is c =
    record { tree = End; after = tokens; later = starts; spellable = (tt, tt); goes_on = c; cut = ap (λ (t : List ℕ). t ∷ tokens) e; marked = refl }
more_first level (firsts.Var name) stack token tokens starts e is c =
    record { tree = Var name; after = tokens; later = starts; spellable = (is, tt); goes_on = c; cut = ap (λ (t : List ℕ). t ∷ tokens) e; marked = refl }
more_first level firsts.Rec stack token tokens starts e is a =
    let b = a.goes_on in
    let g = b.goes_on in
    record {
      tree = Rec a.token g.tree;
      after = g.after;
      later = g.later;
      spellable = ((a.is, g.spellable.0), g.spellable.1);
      goes_on = g.goes_on;
      cut = cc (e, a.cut, b.cut, b.is, g.cut);
      marked = cc (a.marked, b.marked, g.marked);
    }
more_first level (firsts.Sender name) stack token tokens starts e is a =
    let b = a.goes_on in
    elim b.goes_on [
      | inl m ↦
          let d = m.goes_on in
          let f = d.goes_on in
          let g = f.goes_on in
          record {
            tree = Message name b.token d.is.0 g.tree;
            after = g.after;
            later = g.later;
            spellable = ((is, b.is, g.spellable.0), g.spellable.1);
            goes_on = g.goes_on;
            cut = cc (e, a.cut, a.is, b.cut, m.cut, m.is, d.cut, d.is.1, f.cut, f.is, g.cut);
            marked = cc (a.marked, b.marked, m.marked, d.marked, f.marked, g.marked);
          }
      | inr m ↦
          let h = m.0 in
          record {
            tree = Choice name b.token h.branches;
            after = h.after;
            later = h.later;
            spellable = ((is, b.is, h.spellable.0), (m.1, h.spellable.1));
            goes_on = h.goes_on;
            cut = cc (e, a.cut, a.is, b.cut, h.cut);
            marked = cc (a.marked, b.marked, h.marked);
          }
    ]

more_node : (level : ℕ) (stack pushed : List Symbol) (token : List ℕ) (tokens : List (List ℕ)) (starts : List (Option ℕ)) (f : Option First) → first_of token ≡ f → begun level f ≡ Some pushed → Completes (pushed ++ stack) tokens starts → NodeOf level (Completes stack) (token ∷ tokens) (Some level ∷ starts)
more_node level stack pushed token tokens starts f e s c = grind (arith, popped, some_is, first_is, more_first)

more_sort : (stack pushed : List Symbol) (token : List ℕ) (tokens : List (List ℕ)) (starts : List (Option ℕ)) (o : Option Sort) → sort_of token ≡ o → named o ≡ Some pushed → Completes (pushed ++ stack) tokens starts → One IsSortWord (Completes stack) (token ∷ tokens) (None ∷ starts)
more_sort stack pushed token tokens starts None e s c = absurd cc
more_sort stack pushed token tokens starts (Some sort) e s c = one_more IsSortWord stack pushed token tokens starts (sort, sort_is token sort e) (some_is [] pushed s) c

pub one_token_more : (x : Symbol) (stack pushed : List Symbol) (token : List ℕ) (tokens : List (List ℕ)) (starts : List (Option ℕ)) → step x token ≡ Some pushed → Completes (pushed ++ stack) tokens starts → Completes (x ∷ stack) (token ∷ tokens) (start_of x ∷ starts)
one_token_more (Token word) stack pushed token tokens starts s c =
    let a = only_if (bytes_eq token word) [] pushed s in
    one_more (Is word) stack pushed token tokens starts (same_token token word a.0) a.1 c
one_token_more AName stack pushed token tokens starts s c =
    let a = only_if (is_name token) [] pushed s in
    one_more IsName stack pushed token tokens starts (name_is token a.0) a.1 c
one_token_more AVariable stack pushed token tokens starts s c =
    let a = only_if (is_variable token) [] pushed s in
    one_more IsVariable stack pushed token tokens starts (variable_is token a.0) a.1 c
one_token_more ASort stack pushed token tokens starts s c = more_sort stack pushed token tokens starts (sort_of token) refl s c
one_token_more other stack pushed token tokens starts s c = grind (arith, more_sort, more_roles, more_node, more_exchange, more_others)

-- what the tokens drive a stack to may come after them
pub completes_behind : (stack : List Symbol) (front : List (List ℕ)) (mid : List Symbol) (starts : List (Option ℕ)) (back : List (List ℕ)) (later : List (Option ℕ)) → Drives stack front mid starts → Completes mid back later → Completes stack (front ++ back) (starts ++ later)
completes_behind stack [] mid starts back later d c = rw (d.0, d.1) c
completes_behind [] (token ∷ front) mid starts back later d c = absurd d
completes_behind (x ∷ stack) (token ∷ front) mid starts back later d c =
    rw d.3 (one_token_more x stack d.0 token (front ++ back) (d.2 ++ later) d.1 (completes_behind (d.0 ++ stack) front mid d.2 back later d.4 c))

-- ---- each stack stands for something

pub record Completion (stack : List Symbol) : Type 0 where
  pub tokens : List (List ℕ)
  pub starts : List (Option ℕ)
  pub completes : Completes stack tokens starts

one_completion : (P : List ℕ → Type 0) (stack : List Symbol) (token : List ℕ) (c : Completion stack) → P token → One P (Completes stack) (token ∷ c.tokens) (None ∷ c.starts)
one_completion P stack token c is = record { token = token; after = c.tokens; later = c.starts; is = is; goes_on = c.completes; cut = refl; marked = refl }

end_completion : (level : ℕ) (stack : List Symbol) (c : Completion stack) → NodeOf level (Completes stack) (codes "end" ∷ c.tokens) (Some level ∷ c.starts)
end_completion level stack c = record { tree = End; after = c.tokens; later = c.starts; spellable = (tt, tt); goes_on = c.completes; cut = refl; marked = refl }

pub completion : (stack : List Symbol) → Completion stack
completion [] = record { tokens = []; starts = []; completes = (refl, refl) }
completion (Token word ∷ stack) =
    let c = completion stack in
    record { tokens = word ∷ c.tokens; starts = None ∷ c.starts; completes = one_completion (Is word) stack word c refl }
completion (AName ∷ stack) =
    let c = completion stack in
    record { tokens = codes "a" ∷ c.tokens; starts = None ∷ c.starts; completes = one_completion IsName stack (codes "a") c (name_is (codes "a") refl) }
completion (AVariable ∷ stack) =
    let c = completion stack in
    record { tokens = codes "X" ∷ c.tokens; starts = None ∷ c.starts; completes = one_completion IsVariable stack (codes "X") c (variable_is (codes "X") refl) }
completion (ASort ∷ stack) =
    let c = completion stack in
    record { tokens = codes "int" ∷ c.tokens; starts = None ∷ c.starts; completes = one_completion IsSortWord stack (codes "int") c (Int, refl) }
completion (Roles room ∷ stack) =
    let c = completion stack in
    record { tokens = codes ";" ∷ c.tokens; starts = None ∷ c.starts; completes = record { names = []; after = c.tokens; later = c.starts; are = tt; few = omega arith; goes_on = c.completes; cut = refl; marked = refl } }
completion (Node level ∷ stack) =
    let c = completion stack in
    record { tokens = codes "end" ∷ c.tokens; starts = Some level ∷ c.starts; completes = end_completion level stack c }
completion (Exchange level ∷ stack) =
    let c = completion stack in
    let dot : One (Is (codes ".")) (NodeOf level (Completes stack)) (codes "." ∷ codes "end" ∷ c.tokens) (None ∷ Some level ∷ c.starts) = record { token = codes "."; after = codes "end" ∷ c.tokens; later = Some level ∷ c.starts; is = refl; goes_on = end_completion level stack c; cut = refl; marked = refl } in
    let sort : One IsSortWord (One (Is (codes ".")) (NodeOf level (Completes stack))) (codes "int" ∷ codes "." ∷ codes "end" ∷ c.tokens) (None ∷ None ∷ Some level ∷ c.starts) = record { token = codes "int"; after = codes "." ∷ codes "end" ∷ c.tokens; later = None ∷ Some level ∷ c.starts; is = (Int, refl); goes_on = dot; cut = refl; marked = refl } in
    record {
      tokens = codes ":" ∷ codes "int" ∷ codes "." ∷ codes "end" ∷ c.tokens;
      starts = None ∷ None ∷ None ∷ Some level ∷ c.starts;
      completes = inl (record { token = codes ":"; after = codes "int" ∷ codes "." ∷ codes "end" ∷ c.tokens; later = None ∷ None ∷ Some level ∷ c.starts; is = refl; goes_on = sort; cut = refl; marked = refl });
    }
completion (Others level ∷ stack) =
    let c = completion stack in
    record { tokens = codes "}" ∷ c.tokens; starts = None ∷ c.starts; completes = record { branches = NoMore; after = c.tokens; later = c.starts; spellable = (tt, tt); goes_on = c.completes; cut = refl; marked = refl } }

-- ---- the first stack stands for the protocols

pub record ProtocolOf (tokens : List (List ℕ)) (starts : List (Option ℕ)) : Type 0 where
  pub roles : List (List ℕ)
  pub tree : GlobalType
  pub spelled : SpellsProtocol tokens roles tree
  pub nodes : protocol_starts roles tree ≡ starts

pub whole_protocol : (tokens : List (List ℕ)) (starts : List (Option ℕ)) → Completes whole tokens starts → ProtocolOf tokens starts
whole_protocol tokens starts a =
    let b = a.goes_on in
    let c = b.goes_on in
    let r = c.goes_on in
    let g = r.goes_on in
    let few = r.few in
    let none = g.goes_on in
    let text : tokens_before g.tree g.after ≡ global_tokens g.tree = ap (tokens_before g.tree) none.0 ∙ before_is g.tree [] g.spellable ∙ append-nil (global_tokens g.tree) in
    let nodes : starts_before 1 g.tree g.later ≡ node_starts 1 g.tree = ap (starts_before 1 g.tree) none.1 ∙ starts_are g.tree 1 [] g.spellable ∙ append-nil (node_starts 1 g.tree) in
    let names = b.token ∷ c.token ∷ r.names in
    let all_tokens = protocol_tokens_are names g.tree in
    let all_starts = protocol_starts_are names g.tree in
    record {
      roles = b.token ∷ c.token ∷ r.names;
      tree = g.tree;
      spelled = record { names = (b.is, (c.is, r.are)); count = record { some = omega arith; few = omega arith }; body = g.spellable; parts = cc (a.cut, a.is, b.cut, c.cut, r.cut, g.cut, text, all_tokens) };
      nodes = cc (a.marked, b.marked, c.marked, r.marked, g.marked, nodes, all_starts);
    }
