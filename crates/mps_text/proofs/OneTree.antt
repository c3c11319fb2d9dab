-- Tokens are those of one protocol at most.
use Rattle.std.proofs.Common.{arith, ◌≡◌, ℕ, List, [], ◌∷◌, ◌++◌, true, refl, ap, sym, ◌∙◌}
use Rattle.std.specs.Prelude.{codes, false}
use Rattle.std.specs.List.{AllByRecursion, list_all}
use Rattle.std.specs.Str.{bytes_eq}
use Rattle.std.proofs.lemmas.List.{append-nil}
use Rattle.std.proofs.lemmas.Slice.Eq.{bytes_eq-Decides}
use Rattle.mps_base.specs.Names.{IsName}
use Rattle.mps_base.specs.declared.value.Sort.{Sort}
use Rattle.mps_global.specs.Global.{GlobalType, Branches, End, Var, Rec, Message, Choice, NoMore, More}
use Rattle.mps_text.specs.Tokens.{is_blank, BeginsAll}
use Rattle.mps_base.specs.Sorts.{sort_word}
use Rattle.mps_text.specs.Grammar.{IsSpellable, SpellsProtocol, SpellsText}
use Rattle.mps_text.specs.Private.Writing.{global_tokens}
use Rattle.mps_text.specs.Private.Lexing.{lexed, tokens_in}
use Rattle.mps_text.specs.Private.Reading.{first_token, IsFirst, sort_of, tokens_before, branches_before, AreSpellable}
use Rattle.mps_text.specs.declared.reading.First.{First}
use Rattle.mps_text.specs.declared.reading.First.TheVariants as firsts
use Rattle.mps_text.proofs.Names.{is_name_of}
use Rattle.mps_text.proofs.Tokens.{some_is, sort_again}
use Rattle.mps_text.proofs.Trees.{before_is, protocol_tokens_are}
use Rattle.mps_text.proofs.Cuts.{lexed_token, lexed_blanks}

-- ---- the first token

abbrev head_of : GlobalType → First
head_of End = firsts.End
head_of (Var name) = firsts.Var name
head_of (Rec name body) = firsts.Rec
head_of (Message sender receiver sort next) = firsts.Sender sender
head_of (Choice sender receiver branches) = firsts.Sender sender

record Headed (tree : GlobalType) (rest : List (List ℕ)) : Type 0 where
  tail : List (List ℕ)
  good : IsSpellable tree → IsFirst (head_of tree)
  parts : tokens_before tree rest ≡ first_token (head_of tree) ∷ tail

same_cons : (x y : List ℕ) (xs ys : List (List ℕ)) → x ∷ xs ≡ y ∷ ys → (x ≡ y) × (xs ≡ ys)
same_cons x y xs ys e = (cc, cc)

apart : (x y : List ℕ) → bytes_eq x y ≡ false → x ≡ y → ⊥
apart x y off e = let on = (bytes_eq-Decides x y).1 e in cc (on, off)

same_sort : (a b : Sort) → sort_word a ≡ sort_word b → a ≡ b
same_sort a b e = some_is a b (sym (sort_again a) ∙ ap sort_of e ∙ sort_again b)

-- ---- trees

mutual
  same_tree : (t u : GlobalType) (rest others : List (List ℕ)) → IsSpellable t → IsSpellable u → tokens_before t rest ≡ tokens_before u others → (t ≡ u) × (rest ≡ others)
  same_tree End End rest others s r e = (refl, (same_cons (codes "end") (codes "end") rest others e).1)
  same_tree (Var a) (Var b) rest others s r e = let p = same_cons a b rest others e in (ap Var p.0, p.1)
  same_tree (Rec a body) (Rec b other) rest others s r e =
      let p = same_cons (codes "rec") (codes "rec") (a ∷ codes "." ∷ tokens_before body rest) (b ∷ codes "." ∷ tokens_before other others) e in
      let q = same_cons a b (codes "." ∷ tokens_before body rest) (codes "." ∷ tokens_before other others) p.1 in
      let d = same_cons (codes ".") (codes ".") (tokens_before body rest) (tokens_before other others) q.1 in
      grind (arith, same_tree body other rest others (s.0.1, s.1) (r.0.1, r.1) d.1)
  same_tree (Message a b sort next) (Message c d kind other) rest others s r e =
      let p = same_cons a c (codes "->" ∷ b ∷ codes ":" ∷ sort_word sort ∷ codes "." ∷ tokens_before next rest) (codes "->" ∷ d ∷ codes ":" ∷ sort_word kind ∷ codes "." ∷ tokens_before other others) e in
      let q = same_cons (codes "->") (codes "->") (b ∷ codes ":" ∷ sort_word sort ∷ codes "." ∷ tokens_before next rest) (d ∷ codes ":" ∷ sort_word kind ∷ codes "." ∷ tokens_before other others) p.1 in
      let f = same_cons b d (codes ":" ∷ sort_word sort ∷ codes "." ∷ tokens_before next rest) (codes ":" ∷ sort_word kind ∷ codes "." ∷ tokens_before other others) q.1 in
      let g = same_cons (codes ":") (codes ":") (sort_word sort ∷ codes "." ∷ tokens_before next rest) (sort_word kind ∷ codes "." ∷ tokens_before other others) f.1 in
      let h = same_cons (sort_word sort) (sort_word kind) (codes "." ∷ tokens_before next rest) (codes "." ∷ tokens_before other others) g.1 in
      let i = same_cons (codes ".") (codes ".") (tokens_before next rest) (tokens_before other others) h.1 in
      grind (arith, same_tree next other rest others (s.0.2, s.1) (r.0.2, r.1) i.1, same_sort sort kind h.0)
  same_tree (Choice a b branches) (Choice c d more) rest others s r e =
      let p = same_cons a c (codes "->" ∷ b ∷ branches_before (codes "{") branches rest) (codes "->" ∷ d ∷ branches_before (codes "{") more others) e in
      let q = same_cons (codes "->") (codes "->") (b ∷ branches_before (codes "{") branches rest) (d ∷ branches_before (codes "{") more others) p.1 in
      let f = same_cons b d (branches_before (codes "{") branches rest) (branches_before (codes "{") more others) q.1 in
      grind (arith, same_branches branches more (codes "{") rest others (apart (codes "{") (codes "}") refl) (s.0.2, s.1.1) (r.0.2, r.1.1) f.1)
  same_tree (Message a b sort next) (Choice c d branches) rest others s r e = grind (arith, same_cons, bytes_eq-Decides)
  same_tree (Choice c d branches) (Message a b sort next) rest others s r e = grind (arith, same_cons, bytes_eq-Decides)
  same_tree t u rest others s r e = grind arith

  same_branches : (b c : Branches) (sep : List ℕ) (rest others : List (List ℕ)) → (sep ≡ codes "}" → ⊥) → AreSpellable b → AreSpellable c → branches_before sep b rest ≡ branches_before sep c others → (b ≡ c) × (rest ≡ others)
  same_branches NoMore NoMore sep rest others off s r e = (refl, (same_cons (codes "}") (codes "}") rest others e).1)
  same_branches NoMore (More label next more) sep rest others off s r e = grind (arith, same_cons)
  same_branches (More label next more) NoMore sep rest others off s r e = grind (arith, same_cons)
  same_branches (More a next more) (More b other further) sep rest others off s r e =
      let x = tokens_before next (branches_before (codes ",") more rest) in
      let y = tokens_before other (branches_before (codes ",") further others) in
      let p = same_cons sep sep (a ∷ codes ":" ∷ x) (b ∷ codes ":" ∷ y) e in
      let q = same_cons a b (codes ":" ∷ x) (codes ":" ∷ y) p.1 in
      let d = same_cons (codes ":") (codes ":") x y q.1 in
      let m = same_tree next other (branches_before (codes ",") more rest) (branches_before (codes ",") further others) (s.0.1, s.1.0) (r.0.1, r.1.0) d.1 in
      grind (arith, same_branches more further (codes ",") rest others (apart (codes ",") (codes "}") refl) (s.0.2, s.1.1) (r.0.2, r.1.1) m.1)

-- ---- protocols

same_roles : (r s : List (List ℕ)) (rest others : List (List ℕ)) → AllByRecursion IsName r → AllByRecursion IsName s → r ++ codes ";" ∷ rest ≡ s ++ codes ";" ∷ others → (r ≡ s) × (rest ≡ others)
same_roles [] [] rest others p q e = (refl, (same_cons (codes ";") (codes ";") rest others e).1)
same_roles [] (y ∷ ys) rest others p q e = grind (arith, same_cons, is_name_of)
same_roles (x ∷ xs) [] rest others p q e = grind (arith, same_cons, is_name_of)
same_roles (x ∷ xs) (y ∷ ys) rest others p q e =
    let c = same_cons x y (xs ++ codes ";" ∷ rest) (ys ++ codes ";" ∷ others) e in
    grind (arith, same_roles xs ys rest others p.1 q.1 c.1)

alone : (tree : GlobalType) → IsSpellable tree → tokens_before tree [] ≡ global_tokens tree
alone tree s = before_is tree [] s ∙ append-nil (global_tokens tree)

pub same_protocol : (tokens r s : List (List ℕ)) (t u : GlobalType) → SpellsProtocol tokens r t → SpellsProtocol tokens s u → (r ≡ s) × (t ≡ u)
same_protocol tokens r s t u p q =
    let behind = (same_cons (codes "roles") (codes "roles") (r ++ codes ";" ∷ global_tokens t) (s ++ codes ";" ∷ global_tokens u) (sym (p.parts ∙ protocol_tokens_are r t) ∙ q.parts ∙ protocol_tokens_are s u)).1 in
    let roles = same_roles r s (global_tokens t) (global_tokens u) p.names q.names behind in
    grind (arith, same_tree t u [] [] p.body q.body (alone t p.body ∙ roles.1 ∙ sym (alone u q.body)))

tokens_are : (bytes : List ℕ) (tokens : List (List ℕ)) (rest : List ℕ) → BeginsAll bytes tokens rest → list_all is_blank rest ≡ true → tokens_in (lexed bytes) ≡ tokens
tokens_are bytes [] rest h blank = ap (λ (b : List ℕ). tokens_in (lexed b)) h ∙ ap tokens_in (lexed_blanks rest blank)
tokens_are bytes (token ∷ tokens) rest h blank = cc (lexed_token bytes token h.0 h.1, tokens_are h.0 tokens rest h.2 blank)

-- one text, one protocol
pub one_protocol : (text : List ℕ) (r s : List (List ℕ)) (t u : GlobalType) → SpellsText text r t → SpellsText text s u → (r ≡ s) × (t ≡ u)
one_protocol text r s t u p q =
    let a = tokens_are text p.tokens p.cut.rest p.cut.all p.cut.blank in
    let b = tokens_are text q.tokens q.cut.rest q.cut.all q.cut.blank in
    let same : p.tokens ≡ q.tokens = sym a ∙ b in
    same_protocol q.tokens r s t u (rw same at p.spelled) q.spelled
