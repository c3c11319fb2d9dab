-- What is spelled, and by what, is unique.
use Rattle.std.proofs.Common.{arith, ◌≡◌, ℕ, ◌<◌, ⊎_elim, List, [], ◌∷◌, length, Some, refl, sym, ap, ◌∙◌}
use Rattle.std.proofs.lemmas.Option.{same_Some, slice_get_within}
use Rattle.std.specs.Option.{ForSome}
use Rattle.mps_base.specs.RoleLists.{AreDistinct}
use Rattle.mps_base.specs.Spaced.{spaced}
use Rattle.mps_base.specs.Values.{SpellsValue}
use Rattle.mps_base.specs.declared.value.Value.{Value}
use Rattle.mps_base.proofs.Numbers.{same_number_text}
use Rattle.mps_base.proofs.RoleLists.{one_place}
use Rattle.mps_base.proofs.Values.{same_spelling}
use Rattle.mps_command.specs.declared.command.Command.{Command}
use Rattle.mps_command.specs.declared.command.Command.TheVariants.{Forward, Undo, Rollback, Back, News}
use Rattle.mps_command.specs.declared.command.Command.TheVariants as commands
use Rattle.mps_command.specs.declared.command.Forward.TheVariants.{Send, Choose, Receive, Pick, Mark, Commit}
use Rattle.mps_line.specs.Tokens.{Token, Word, RoleAt, Called, Number, Worth, SpellsRole, SpellsNumber, SpellsToken, SpellEach, SpellsLine}
use Rattle.mps_line.specs.Private.Tokens.{BeginsWith}
use Rattle.mps_line.specs.Commands.{verb_of, arguments, SpellsCommand, SpellsScriptLine, NamesRolesOf}
use Rattle.mps_line.specs.Private.Commands.{TakesArguments}
use Rattle.mps_line.proofs.Splitting.{one_split, name_has_no_space, after_token, alone}
use Rattle.mps_line.proofs.CommandLines.{verb_has_no_space, same_verb, one_verb, alone_or_more, lone_line, command_parts}

-- ---- one spelling

token_spelling : (names : List (List ℕ)) (a b : List ℕ) (t : Token) → SpellsToken names a t → SpellsToken names b t → a ≡ b
token_spelling names a b (Word letters) h k = h ∙ sym k
token_spelling names a b (RoleAt place) h k = cc (h.place, k.place)
token_spelling names a b (Number n) h k = same_number_text a b n h.small h.number k.number
token_spelling names a b (Worth value) h k = same_spelling a b value h k
token_spelling names a b other h k = h.is ∙ sym k.is

each_alike : (names : List (List ℕ)) (ss rs : List (List ℕ)) (ts : List Token) → SpellEach names ss ts → SpellEach names rs ts → ss ≡ rs
each_alike names [] [] [] h k = refl
each_alike names (s ∷ ss) (r ∷ rs) (t ∷ ts) h k =
    let first = token_spelling names s r t h.0 k.0 in
    cc (each_alike names ss rs ts h.1 k.1)
each_alike names other further second h k = grind arith

-- tokens have one line
pub line_spelling : (names : List (List ℕ)) (a b : List ℕ) (ts : List Token) → SpellsLine names a ts → SpellsLine names b ts → a ≡ b
line_spelling names a b ts h k = h.joined ∙ ap spaced (each_alike names h.spellings k.spellings ts h.each k.each) ∙ sym k.joined

-- ---- one meaning

begins_once : (names : List (List ℕ)) (a : List ℕ) (p q : ℕ) (x y : List ℕ) → AreDistinct names → BeginsWith names a (RoleAt p) x → BeginsWith names a (RoleAt q) y → (p ≡ q) × (x ≡ y)
begins_once names a p q x y distinct h k =
    let same = one_split h.front k.front x y (name_has_no_space h.front h.spelled.name) (name_has_no_space k.front k.spelled.name) (sym h.parts ∙ k.parts) in
    grind (arith, one_place)

-- two lines after the names of roles, of the same bytes
record SameRole (names : List (List ℕ)) (p q : ℕ) (t : Token) (ts : List Token) (u : Token) (us : List Token) : Type 0 where
  role : p ≡ q
  rest : List ℕ
  one : SpellsLine names rest (t ∷ ts)
  other : SpellsLine names rest (u ∷ us)

same_role : (names : List (List ℕ)) (a : List ℕ) (p q : ℕ) (t : Token) (ts : List Token) (u : Token) (us : List Token) → AreDistinct names → SpellsLine names a (RoleAt p ∷ t ∷ ts) → SpellsLine names a (RoleAt q ∷ u ∷ us) → SameRole names p q t ts u us
same_role names a p q t ts u us distinct h k =
    let b = after_token names a (RoleAt p) t ts h in
    let d = after_token names a (RoleAt q) u us k in
    grind (arith, begins_once names a p q b.0 d.0 distinct b.1 d.1)

one_name : (names : List (List ℕ)) (a x y : List ℕ) → SpellsLine names a (Called x ∷ []) → SpellsLine names a (Called y ∷ []) → x ≡ y
one_name names a x y h k = sym (alone names a (Called x) h).is ∙ (alone names a (Called y) k).is

pub one_number : (a : List ℕ) (m n : ℕ) → SpellsNumber a m → SpellsNumber a n → m ≡ n
one_number a m n h k = sym h.number.value ∙ k.number.value

one_step : (names : List (List ℕ)) (a : List ℕ) (m n : ℕ) → SpellsLine names a (Number m ∷ []) → SpellsLine names a (Number n ∷ []) → m ≡ n
one_step names a m n h k = one_number a m n (alone names a (Number m) h) (alone names a (Number n) k)

-- a text spells one value
module _ (one_value : (a : List ℕ) (v w : Value) → SpellsValue a v → SpellsValue a w → v ≡ w) where
  same_arguments : (names : List (List ℕ)) (a : List ℕ) (c d : Command) → AreDistinct names → verb_of c ≡ verb_of d → SpellsLine names a (arguments c) → SpellsLine names a (arguments d) → c ≡ d
  same_arguments names a (Forward (Send p v)) (Forward (Send q w)) distinct e h k =
      let s = same_role names a p q (Worth v) [] (Worth w) [] distinct h k in
      grind (arith, alone names s.rest (Worth v) s.one, alone names s.rest (Worth w) s.other)
  same_arguments names a (Forward (Choose p x)) (Forward (Choose q y)) distinct e h k =
      let s = same_role names a p q (Called x) [] (Called y) [] distinct h k in
      cc (one_name names s.rest x y s.one s.other)
  same_arguments names a (Forward (Receive p x)) (Forward (Receive q y)) distinct e h k =
      let s = same_role names a p q (Called x) [] (Called y) [] distinct h k in
      cc (one_name names s.rest x y s.one s.other)
  same_arguments names a (Forward (Pick p)) (Forward (Pick q)) distinct e h k = cc (one_place names a p q distinct (alone names a (RoleAt p) h).place (alone names a (RoleAt q) k).place)
  same_arguments names a (Forward (Mark x)) (Forward (Mark y)) distinct e h k = ap (λ (name : List ℕ). Forward (Mark name)) (one_name names a x y h k)
  same_arguments names a (Undo m) (Undo n) distinct e h k = ap Undo (one_step names a m n h k)
  same_arguments names a (Rollback m) (Rollback n) distinct e h k = ap Rollback (one_step names a m n h k)
  same_arguments names a (Back x) (Back y) distinct e h k = ap Back (one_name names a x y h k)
  same_arguments names a (News m) (News n) distinct e h k = ap News (one_step names a m n h k)
  same_arguments names a commands.Show commands.Show distinct e h k = refl
  same_arguments names a commands.Stand commands.Stand distinct e h k = refl
  same_arguments names a (Forward Commit) (Forward Commit) distinct e h k = refl
  same_arguments names a (Undo m) (Forward (Mark y)) distinct e h k = absurd cc
  same_arguments names a (Rollback m) (Forward (Mark y)) distinct e h k = absurd cc
  same_arguments names a (Back x) (Forward (Mark y)) distinct e h k = absurd cc
  same_arguments names a (News m) (Forward (Mark y)) distinct e h k = absurd cc
  same_arguments names a commands.Show (Forward (Mark y)) distinct e h k = absurd cc
  same_arguments names a commands.Stand (Forward (Mark y)) distinct e h k = absurd cc
  same_arguments names a c d distinct e h k = absurd cc

  same_command_of_more : (names : List (List ℕ)) (a : List ℕ) (c d : Command) → AreDistinct names → TakesArguments c → TakesArguments d → SpellsCommand names a c → SpellsCommand names a d → c ≡ d
  same_command_of_more names a c d distinct more others h k =
      let b = command_parts names a c more h in
      let f = command_parts names a d others k in
      let same = one_verb a (verb_of c) (verb_of d) b.rest f.rest b.parts f.parts in
      same_arguments names b.rest c d distinct same.0 b.spelled (rw (sym same.1) at f.spelled)

  -- no line is a verb alone and a command with arguments
  never_both : (names : List (List ℕ)) (a : List ℕ) (c d : Command) → arguments c ≡ [] → TakesArguments d → SpellsCommand names a c → SpellsCommand names a d → ⊥
  never_both names a c d none more h k = grind (arith, command_parts names a d more k, verb_has_no_space (verb_of c), lone_line names a c none h)

  same_lone : (names : List (List ℕ)) (a : List ℕ) (c d : Command) → AreDistinct names → arguments c ≡ [] → arguments d ≡ [] → SpellsCommand names a c → SpellsCommand names a d → c ≡ d
  same_lone names a c d distinct none neither h k = grind (arith, same_verb (verb_of c) (verb_of d) (sym (lone_line names a c none h) ∙ lone_line names a d neither k))

  pub same_command : (names : List (List ℕ)) (a : List ℕ) (c d : Command) → AreDistinct names → SpellsCommand names a c → SpellsCommand names a d → c ≡ d
  same_command names a c d distinct h k =
      ⊎_elim
      (λ (none : arguments c ≡ []).
      ⊎_elim
      (λ (neither : arguments d ≡ []). same_lone names a c d distinct none neither h k)
      (λ (more : TakesArguments d). absurd (never_both names a c d none more h k))
      (alone_or_more d))
      (λ (more : TakesArguments c).
      ⊎_elim
      (λ (none : arguments d ≡ []). absurd (never_both names a d c none more k h))
      (λ (others : TakesArguments d). same_command_of_more names a c d distinct more others h k)
      (alone_or_more d))
      (alone_or_more c)

  pub same_line : (names : List (List ℕ)) (a : List ℕ) (p q : ℕ) (c d : Command) → AreDistinct names → SpellsScriptLine names a p c → SpellsScriptLine names a q d → (p ≡ q) × (c ≡ d)
  same_line names a p q c d distinct h k =
      let s = same_role names a p q _ (arguments c) _ (arguments d) distinct h k in
      (s.role, same_command names s.rest c d distinct s.one s.other)

-- ---- the role that is named

place_within : (names : List (List ℕ)) (a : List ℕ) (role : ℕ) → SpellsRole names a role → ForSome (Some role) (λ peer. peer < length names)
place_within names a role h peer e = rw (same_Some peer role (sym e)) (slice_get_within names role a h.place)

-- it is one of these
pub names_roles : (names : List (List ℕ)) (a : List ℕ) (c : Command) → SpellsCommand names a c → NamesRolesOf names c
names_roles names a c h =
    ⊎_elim
    (λ (none : arguments c ≡ []). alone_names_none c none)
    (λ (more : TakesArguments c). let k = command_parts names a c more h in by_arguments c k.rest k.spelled)
    (alone_or_more c)
  where
    first : (rest : List ℕ) (role : ℕ) (t : Token) → SpellsLine names rest (RoleAt role ∷ t ∷ []) → ForSome (Some role) (λ peer. peer < length names)
    first rest role t k = let b = after_token names rest (RoleAt role) t [] k in place_within names b.1.front role b.1.spelled

    by_arguments : (c : Command) (rest : List ℕ) → SpellsLine names rest (arguments c) → NamesRolesOf names c
    by_arguments (Forward (Send to value)) rest k = first rest to (Worth value) k
    by_arguments (Forward (Choose to label)) rest k = first rest to (Called label) k
    by_arguments (Forward (Receive from slot)) rest k = first rest from (Called slot) k
    by_arguments (Forward (Pick from)) rest k = place_within names rest from (alone names rest (RoleAt from) k)
    by_arguments c rest k = λ peer e. absurd cc

    alone_names_none : (c : Command) → arguments c ≡ [] → NamesRolesOf names c
    alone_names_none (Forward Commit) none = λ peer e. absurd cc
    alone_names_none commands.Show none = λ peer e. absurd cc
    alone_names_none commands.Stand none = λ peer e. absurd cc
    alone_names_none c none = absurd cc
