-- What lines of conversations are read from.
use Rattle.std.proofs.Common.{arith, ◌≡◌, ℕ, ◌≤◌, Bool, true, false, List, [], ◌∷◌, Some, get_or, refl, sym, ap, ◌∙◌}
use Rattle.std.specs.Prelude.{Option, None, is_some}
use Rattle.mps_base.specs.RoleLists.{AreDistinct}
use Rattle.mps_base.specs.Spaced.{spaced}
use Rattle.mps_base.specs.Values.{SpellsValue}
use Rattle.mps_base.specs.declared.value.Value.{Value}
use Rattle.mps_command.specs.Changes.{change_of}
use Rattle.mps_command.specs.declared.command.Command.{Command}
use Rattle.mps_line.specs.declared.read_commands.Verb.{Verb}
use Rattle.mps_line.specs.declared.read_commands.Verb.TheVariants as verbs
use Rattle.mps_line.specs.Tokens.{Number, SpellsNumber, SpellsLine}
use Rattle.mps_line.specs.Private.Tokens.{HasNoSpace, BeginsWith}
use Rattle.mps_line.specs.Commands.{verb_word, verb_of, arguments, command_tokens, SpellsCommand, MayHaveNumber, numbered_tokens, SpellsNumbered, NamesRolesOf}
use Rattle.mps_line.proofs.Splitting.{one_split, one_first, digits_have_no_space, first_word, after_token, joined}
use Rattle.mps_line.proofs.CommandLines.{verb_has_no_space, same_verb}
use Rattle.mps_line.proofs.OneSpelling.{one_number, line_spelling, same_command, names_roles}

-- ---- a number in front

-- and a verb with a letter
letter_first : (verb : Verb) → 97 ≤ get_or (verb_word verb) 0 0
letter_first verb = grind arith

-- bytes that begin with a number spell no command
never_numbered : (names : List (List ℕ)) (bytes : List ℕ) (n : ℕ) (rest : List ℕ) (command : Command) → BeginsWith [] bytes (Number n) rest → SpellsCommand names bytes command → ⊥
never_numbered names bytes n rest command b h =
    let word = verb_word (verb_of command) in
    let w = first_word names bytes word (arguments command) h in
    grind (arith, one_first b.front word (rest ∷ []) w.0 (digits_have_no_space b.front b.spelled.number.digits) (verb_has_no_space (verb_of command)) (sym b.parts ∙ w.1), letter_first (verb_of command))

-- what stands before the first space is no number
pub no_number : (bytes first rest : List ℕ) → bytes ≡ spaced (first ∷ rest ∷ []) → HasNoSpace first → ((n : ℕ) → SpellsNumber first n → ⊥) → (n : ℕ) (other : List ℕ) → BeginsWith [] bytes (Number n) other → ⊥
no_number bytes first rest e h none n other b = grind (arith, one_split, digits_have_no_space)

-- one number stands in front of bytes, and one rest after it
one_front : (bytes : List ℕ) (m n : ℕ) (x y : List ℕ) → BeginsWith [] bytes (Number m) x → BeginsWith [] bytes (Number n) y → (m ≡ n) × (x ≡ y)
one_front bytes m n x y b d = grind (arith, one_split, digits_have_no_space, one_number)

-- the number in front of a command
after_number : (names : List (List ℕ)) (bytes : List ℕ) (n : ℕ) (command : Command) → SpellsLine names bytes (Number n ∷ command_tokens command) → (rest : List ℕ) × BeginsWith [] bytes (Number n) rest × SpellsCommand names rest command
after_number names bytes n command h = grind (arith, after_token names bytes (Number n) _ (arguments command) h)

number_before : (names : List (List ℕ)) (bytes rest : List ℕ) (n : ℕ) (command : Command) → BeginsWith [] bytes (Number n) rest → SpellsCommand names rest command → SpellsLine names bytes (Number n ∷ command_tokens command)
number_before names bytes rest n command b h = grind (arith, joined names bytes (Number n) _ (arguments command) rest (record { front = b.front; parts = b.parts; spelled = b.spelled }) h)

-- ---- commands that may have one

-- the verb tells whether a command asks for a change
abbrev asks : Verb → Bool
asks verbs.News = false
asks verbs.Show = false
asks verbs.Stand = false
asks verb = true

asks_is : (command : Command) → is_some (change_of command) ≡ asks (verb_of command)
asks_is command = grind arith

one_verb_of : (names : List (List ℕ)) (bytes : List ℕ) (c d : Command) → SpellsCommand names bytes c → SpellsCommand names bytes d → verb_of c ≡ verb_of d
one_verb_of names bytes c d h k =
    let w = first_word names bytes (verb_word (verb_of c)) (arguments c) h in
    let x = first_word names bytes (verb_word (verb_of d)) (arguments d) k in
    same_verb (verb_of c) (verb_of d) (one_first _ _ w.0 x.0 (verb_has_no_space (verb_of c)) (verb_has_no_space (verb_of d)) (sym w.1 ∙ x.1))

-- where one command of a line may have a number, so may any other
pub may_as_well : (names : List (List ℕ)) (bytes : List ℕ) (c d : Command) → SpellsCommand names bytes c → SpellsCommand names bytes d → MayHaveNumber d → MayHaveNumber c
may_as_well names bytes c d h k may = asks_is c ∙ ap asks (one_verb_of names bytes c d h k) ∙ sym (asks_is d) ∙ may

-- ---- what is read

-- with no number in front
pub none_alone : (names : List (List ℕ)) (bytes : List ℕ) → ((n : ℕ) (rest : List ℕ) → BeginsWith [] bytes (Number n) rest → ⊥) → ((command : Command) → SpellsCommand names bytes command → ⊥) → (number : Option ℕ) (command : Command) → SpellsNumbered names bytes number command → ⊥
none_alone names bytes whole none None command h = none command h.line
none_alone names bytes whole none (Some n) command h = let p = after_number names bytes n command h.line in whole n p.0 p.1

-- after a number
pub command_numbered : (names : List (List ℕ)) (bytes rest : List ℕ) (n : ℕ) (command : Command) → BeginsWith [] bytes (Number n) rest → MayHaveNumber command → SpellsCommand names rest command → SpellsNumbered names bytes (Some n) command
command_numbered names bytes rest n command b may h = record { line = number_before names bytes rest n command b h; allowed = may }

pub none_numbered : (names : List (List ℕ)) (bytes rest : List ℕ) (n : ℕ) → BeginsWith [] bytes (Number n) rest → ((command : Command) → MayHaveNumber command → SpellsCommand names rest command → ⊥) → (number : Option ℕ) (command : Command) → SpellsNumbered names bytes number command → ⊥
none_numbered names bytes rest n b none None command h = never_numbered names bytes n rest command b h.line
none_numbered names bytes rest n b none (Some m) command h =
    let p = after_number names bytes m command h.line in
    none command h.allowed (rw (one_front bytes m n p.0 rest p.1 b).1 at p.2)

-- ---- what is spelled, and by what, is unique

pub same_number : (names : List (List ℕ)) (a : List ℕ) (m n : Option ℕ) (c d : Command) → SpellsNumbered names a m c → SpellsNumbered names a n d → m ≡ n
same_number names a None None c d h k = refl
same_number names a None (Some n) c d h k = let q = after_number names a n d k.line in absurd (never_numbered names a n q.0 c q.1 h.line)
same_number names a (Some m) None c d h k = let p = after_number names a m c h.line in absurd (never_numbered names a m p.0 d p.1 k.line)
same_number names a (Some m) (Some n) c d h k =
    let p = after_number names a m c h.line in
    let q = after_number names a n d k.line in
    ap Some (one_front a m n p.0 q.0 p.1 q.1).0

pub same_numbered : ((a : List ℕ) (v w : Value) → SpellsValue a v → SpellsValue a w → v ≡ w) → (names : List (List ℕ)) (a : List ℕ) (m n : Option ℕ) (c d : Command) → AreDistinct names → SpellsNumbered names a m c → SpellsNumbered names a n d → c ≡ d
same_numbered one_value names a None None c d distinct h k = same_command one_value names a c d distinct h.line k.line
same_numbered one_value names a None (Some n) c d distinct h k = absurd (let e : None ≡ Some n = same_number names a None (Some n) c d h k in cc)
same_numbered one_value names a (Some m) None c d distinct h k = absurd (let e : Some m ≡ None = same_number names a (Some m) None c d h k in cc)
same_numbered one_value names a (Some m) (Some n) c d distinct h k =
    let p = after_number names a m c h.line in
    let q = after_number names a n d k.line in
    same_command one_value names p.0 c d distinct p.2 (rw (sym (one_front a m n p.0 q.0 p.1 q.1).1) at q.2)

pub numbered_spelling : (names : List (List ℕ)) (a b : List ℕ) (n : Option ℕ) (c : Command) → SpellsNumbered names a n c → SpellsNumbered names b n c → a ≡ b
numbered_spelling names a b n c h k = line_spelling names a b (numbered_tokens n c) h.line k.line

-- the role that is named is one of these
pub numbered_names_roles : (names : List (List ℕ)) (a : List ℕ) (n : Option ℕ) (c : Command) → SpellsNumbered names a n c → NamesRolesOf names c
numbered_names_roles names a None c h = names_roles names a c h.line
numbered_names_roles names a (Some n) c h = let p = after_number names a n c h.line in names_roles names p.0 c p.2
