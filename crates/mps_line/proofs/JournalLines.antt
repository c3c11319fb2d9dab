-- What kept lines are made of, and what is read from them.
use Rattle.std.proofs.Common.{arith, ◌≡◌, ◌≢◌, ℕ, List, [], ◌∷◌, ◌++◌, Some, refl, sym, ap, ◌∙◌, append_assoc}
use Rattle.std.specs.Prelude.{Option, None, Result, Ok, Err, OnOk, IsTrue}
use Rattle.mps_base.specs.Names.{is_name_byte}
use Rattle.std.specs.List.{AllByRecursion}
use Rattle.mps_base.specs.Appends.{AppendsSuch}
use Rattle.mps_base.specs.RoleLists.{AreDistinct}
use Rattle.mps_base.specs.Spaced.{spaced}
use Rattle.mps_base.specs.Values.{IsShown}
use Rattle.mps_base.proofs.RoleLists.{one_place}
use Rattle.mps_command.specs.declared.command.Command.{Command}
use Rattle.mps_line.specs.Commands.{SpellsCommand, SpellsNumbered, SpellsScriptLine, MayHaveNumber, arguments, verb_word, verb_of}
use Rattle.mps_line.specs.Tokens.{Word, RoleAt, Number, SpellsRole, SpellsNumber}
use Rattle.mps_line.specs.Private.Tokens.{HasNoSpace}
use Rattle.mps_line.proofs.Splitting.{one_split, name_has_no_space, joined}
use Rattle.mps_line.proofs.NumberedLines.{may_as_well}
use Rattle.mps_line.proofs.NumberedLines as numbers
use Rattle.mps_line.specs.JournalLines.{SpellsJournalLine}

-- where one command of a line of a conversation asks for a change, so does any other
may_as_well_numbered : (names : List (List ℕ)) (bytes : List ℕ) (m n : Option ℕ) (c d : Command) → SpellsNumbered names bytes m c → SpellsNumbered names bytes n d → MayHaveNumber d → MayHaveNumber c
may_as_well_numbered names bytes None None c d h k may = may_as_well names bytes c d h.line k.line may
may_as_well_numbered names bytes (Some m) n c d h k may = h.allowed
may_as_well_numbered names bytes None (Some n) c d h k may = absurd (let e : None ≡ Some n = numbers.same_number names bytes None (Some n) c d h k in cc)

-- two kept lines of the same bytes have one name and one rest
one_rest : (names : List (List ℕ)) (a : List ℕ) (p q : ℕ) (m n : Option ℕ) (c d : Command) (h : SpellsJournalLine names a p m c) (k : SpellsJournalLine names a q n d) → (h.name ≡ k.name) × (h.rest ≡ k.rest)
one_rest names a p q m n c d h k = one_split h.name k.name h.rest k.rest (name_has_no_space h.name h.known.name) (name_has_no_space k.name k.known.name) (sym h.parts ∙ k.parts)

pub same_role : (names : List (List ℕ)) (a : List ℕ) (p q : ℕ) (m n : Option ℕ) (c d : Command) → AreDistinct names → SpellsJournalLine names a p m c → SpellsJournalLine names a q n d → p ≡ q
same_role names a p q m n c d distinct h k =
    let same = one_rest names a p q m n c d h k in
    one_place names h.name p q distinct h.known.place (k.known.place ∙ ap Some (sym same.0))

pub same_number : ((names : List (List ℕ)) (a : List ℕ) (m n : Option ℕ) (c d : Command) → SpellsNumbered names a m c → SpellsNumbered names a n d → m ≡ n) → (names : List (List ℕ)) (a : List ℕ) (p q : ℕ) (m n : Option ℕ) (c d : Command) → SpellsJournalLine names a p m c → SpellsJournalLine names a q n d → m ≡ n
same_number one names a p q m n c d h k =
    let same = one_rest names a p q m n c d h k in
    one names h.rest m n c d h.spelled (rw (sym same.1) at k.spelled)

pub same_command : ((names : List (List ℕ)) (a : List ℕ) (m n : Option ℕ) (c d : Command) → AreDistinct names → SpellsNumbered names a m c → SpellsNumbered names a n d → c ≡ d) → (names : List (List ℕ)) (a : List ℕ) (p q : ℕ) (m n : Option ℕ) (c d : Command) → AreDistinct names → SpellsJournalLine names a p m c → SpellsJournalLine names a q n d → c ≡ d
same_command one names a p q m n c d distinct h k =
    let same = one_rest names a p q m n c d h k in
    one names h.rest m n c d distinct h.spelled (rw (sym same.1) at k.spelled)

pub one_spelling_of : ((names : List (List ℕ)) (a b : List ℕ) (n : Option ℕ) (c : Command) → SpellsNumbered names a n c → SpellsNumbered names b n c → a ≡ b) → (names : List (List ℕ)) (a b : List ℕ) (p : ℕ) (n : Option ℕ) (c : Command) → SpellsJournalLine names a p n c → SpellsJournalLine names b p n c → a ≡ b
one_spelling_of one names a b p n c h k =
    let name : h.name ≡ k.name = (let e : Some h.name ≡ Some k.name = sym h.known.place ∙ k.known.place in cc) in
    let rest : h.rest ≡ k.rest = one names h.rest k.rest n c h.spelled k.spelled in
    h.parts ∙ ap (λ (l : List ℕ). spaced (l ∷ h.rest ∷ [])) name ∙ ap (λ (l : List ℕ). spaced (k.name ∷ l ∷ [])) rest ∙ sym k.parts

pub script_line : (names : List (List ℕ)) (a : List ℕ) (p : ℕ) (c : Command) → SpellsJournalLine names a p None c → SpellsScriptLine names a p c
script_line names a p c h = joined names a (RoleAt p) (Word (verb_word (verb_of c))) (arguments c) h.rest (record { front = h.name; parts = h.parts; spelled = h.known }) h.spelled.line

-- ---- no line break

shown_is_no_break : (c : ℕ) → IsShown c → c ≢ 10
shown_is_no_break c h e = absurd (omega (arith, h.low, e))

no_breaks : (a : List ℕ) → AllByRecursion IsShown a → AllByRecursion (λ c. c ≢ 10) a
no_breaks [] h = tt
no_breaks (c ∷ a) h = (shown_is_no_break c h.0, no_breaks a h.1)

no_space_break : (name rest : List ℕ) → AllByRecursion (λ c. c ≢ 10) name → AllByRecursion (λ c. c ≢ 10) rest → AllByRecursion (λ c. c ≢ 10) (name ++ 32 ∷ rest)
no_space_break [] rest h k = ((λ e. absurd cc), k)
no_space_break (c ∷ name) rest h k = (h.0, no_space_break name rest h.1 k)

name_byte_is_no_break : (c : ℕ) → IsTrue (is_name_byte c) → c ≢ 10
name_byte_is_no_break c h e = absurd (none (rw e at h))
  where
    none : IsTrue (is_name_byte 10) → ⊥
    none k = absurd cc

name_has_no_break : (name : List ℕ) → AllByRecursion (λ c. IsTrue (is_name_byte c)) name → AllByRecursion (λ c. c ≢ 10) name
name_has_no_break [] h = tt
name_has_no_break (c ∷ name) h = (name_byte_is_no_break c h.0, name_has_no_break name h.1)

pub no_line_feed : ((names : List (List ℕ)) (a : List ℕ) (n : Option ℕ) (c : Command) → SpellsNumbered names a n c → AllByRecursion IsShown a) → (names : List (List ℕ)) (a : List ℕ) (p : ℕ) (n : Option ℕ) (c : Command) → SpellsJournalLine names a p n c → AllByRecursion (λ c. c ≢ 10) a
no_line_feed shown names a p n c h =
    rw h.parts (no_space_break h.name h.rest (name_has_no_break h.name h.known.name.each) (no_breaks h.rest (shown names h.rest n c h.spelled)))

-- ---- what is read

-- the parts round the first space are those of any kept line
pub same_parts : (names : List (List ℕ)) (bytes first rest : List ℕ) → bytes ≡ spaced (first ∷ rest ∷ []) → HasNoSpace first → (role : ℕ) (number : Option ℕ) (command : Command) (h : SpellsJournalLine names bytes role number command) → (h.name ≡ first) × (h.rest ≡ rest)
same_parts names bytes first rest e none role number command h = one_split h.name first h.rest rest (name_has_no_space h.name h.known.name) none (sym h.parts ∙ e)

pub no_such_role : (names : List (List ℕ)) (bytes first rest : List ℕ) → bytes ≡ spaced (first ∷ rest ∷ []) → HasNoSpace first → ((role : ℕ) → SpellsRole names first role → ⊥) → (role : ℕ) (number : Option ℕ) (command : Command) → SpellsJournalLine names bytes role number command → ⊥
no_such_role names bytes first rest e some none role number command h =
    let same = same_parts names bytes first rest e some role number command h in
    none role (rw same.0 at h.known)

pub none_after : (names : List (List ℕ)) (bytes first rest : List ℕ) → bytes ≡ spaced (first ∷ rest ∷ []) → HasNoSpace first → ((number : Option ℕ) (command : Command) → SpellsNumbered names rest number command → ⊥) → (role : ℕ) (number : Option ℕ) (command : Command) → SpellsJournalLine names bytes role number command → ⊥
none_after names bytes first rest e some none role number command h =
    let same = same_parts names bytes first rest e some role number command h in
    none number command (rw same.1 at h.spelled)

-- whatever else the line spells asks for a change too
pub asks_as_well : (names : List (List ℕ)) (bytes first rest : List ℕ) → bytes ≡ spaced (first ∷ rest ∷ []) → HasNoSpace first → (role : ℕ) (m n : Option ℕ) (c d : Command) → SpellsNumbered names rest m c → SpellsJournalLine names bytes role n d → MayHaveNumber c
asks_as_well names bytes first rest e some role m n c d h k =
    let same = same_parts names bytes first rest e some role n d k in
    may_as_well_numbered names rest m n c d h (rw same.1 at k.spelled) k.asks

-- ---- what is written

pub numbered_written : {T E : Type 0} (names : List (List ℕ)) (r : Result T E) (old mid pushed new : List ℕ) (n : ℕ) (command : Command) → MayHaveNumber command → AppendsSuch (λ text. SpellsNumber text n) old mid → pushed ≡ mid ++ 32 ∷ [] → OnOk r (AppendsSuch (λ text. SpellsCommand names text command) pushed new) → OnOk r (AppendsSuch (λ text. SpellsNumbered names text (Some n) command) old new)
numbered_written names (Err e) old mid pushed new n command may a p b = tt
numbered_written names (Ok x) old mid pushed new n command may a p b = (
  a.0 ++ 32 ∷ b.0,
  b.1 ∙ ap (λ (m : List ℕ). m ++ b.0) (p ∙ ap (λ (m : List ℕ). m ++ 32 ∷ []) a.1) ∙ append_assoc (old ++ a.0) (32 ∷ []) b.0 ∙ append_assoc old a.0 (32 ∷ b.0),
  record { line = joined names (a.0 ++ 32 ∷ b.0) (Number n) (Word (verb_word (verb_of command))) (arguments command) b.0 (record { front = a.0; parts = refl; spelled = a.2 }) b.2; allowed = may },
)

-- the name of the role, a space and what is written after them
pub role_written : {T E : Type 0} (names : List (List ℕ)) (r : Result T E) (old mid pushed new : List ℕ) (role : ℕ) (n : Option ℕ) (command : Command) → MayHaveNumber command → AppendsSuch (λ text. SpellsRole names text role) old mid → pushed ≡ mid ++ 32 ∷ [] → OnOk r (AppendsSuch (λ text. SpellsNumbered names text n command) pushed new) → OnOk r (AppendsSuch (λ text. SpellsJournalLine names text role n command) old new)
role_written names (Err e) old mid pushed new role n command asks a p b = tt
role_written names (Ok x) old mid pushed new role n command asks a p b = (
  a.0 ++ 32 ∷ b.0,
  b.1 ∙ ap (λ (m : List ℕ). m ++ b.0) (p ∙ ap (λ (m : List ℕ). m ++ 32 ∷ []) a.1) ∙ append_assoc (old ++ a.0) (32 ∷ []) b.0 ∙ append_assoc old a.0 (32 ∷ b.0),
  record { name = a.0; rest = b.0; parts = refl; known = a.2; spelled = b.2; asks = asks },
)
