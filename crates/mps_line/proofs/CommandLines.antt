-- What can't be read.
use Rattle.std.proofs.Common.{arith, ◌≡◌, ◌≢◌, ℕ, ◌<◌, ◌⊎◌, ⊎_elim, inl, inr, List, [], ◌∷◌, length, refl, sym, subst, ◌∙◌}
use Rattle.std.specs.Prelude.{Result, IfOk}
use Rattle.std.proofs.lemmas.Option.{same_Some}
use Rattle.mps_base.specs.Names.{IsName, IsNoneOf}
use Rattle.mps_base.specs.Spaced.{spaced}
use Rattle.mps_base.specs.declared.value.Value.{Value}
use Rattle.mps_command.specs.declared.command.Command.{Command}
use Rattle.mps_command.specs.declared.command.Command.TheVariants.{Forward, Undo, Rollback, Back, News}
use Rattle.mps_command.specs.declared.command.Forward.TheVariants.{Send, Choose, Receive, Pick, Mark}
use Rattle.mps_line.specs.declared.read_commands.LineFault.{LineFault}
use Rattle.mps_line.specs.declared.read_commands.Verb.{Verb}
use Rattle.mps_line.specs.declared.read_commands.Verb.TheVariants as verbs
use Rattle.mps_line.specs.Tokens.{Token, Word, RoleAt, Called, Number, Worth, SpellsRole, SpellsName, SpellsNumber, SpellsToken, SpellsLine}
use Rattle.mps_line.specs.Private.Tokens.{HasNoSpace, BeginsWith}
use Rattle.mps_line.specs.Commands.{verb_word, verb_of, arguments, SpellsCommand}
use Rattle.mps_line.specs.Private.Commands.{lone_verbs, TakesArguments}
use Rattle.mps_line.proofs.Splitting.{one_split, never_split, after_token, joined, alone, line_of_one}

pub verb_has_no_space : (verb : Verb) → HasNoSpace (verb_word verb)
verb_has_no_space verb = grind arith

pub same_verb : (v w : Verb) → verb_word v ≡ verb_word w → v ≡ w
same_verb v w e = grind (arith, same_Some)

-- a line has one verb, and one rest after it
pub one_verb : (bytes : List ℕ) (v w : Verb) (x y : List ℕ) → bytes ≡ spaced (verb_word v ∷ x ∷ []) → bytes ≡ spaced (verb_word w ∷ y ∷ []) → (v ≡ w) × (x ≡ y)
one_verb bytes v w x y e f = grind (arith, one_split, verb_has_no_space, same_verb)

-- the parts of a command: its verb, a space and these tokens
pub record HasArguments (names : List (List ℕ)) (bytes : List ℕ) (command : Command) (tokens : List Token) : Type 0 where
  pub rest : List ℕ
  pub parts : bytes ≡ spaced (verb_word (verb_of command) ∷ rest ∷ [])
  pub spelled : SpellsLine names rest tokens

abbrev pub HasVerb : (names : List (List ℕ)) → List ℕ → Command → Type 0
HasVerb names bytes command = HasArguments names bytes command (arguments command)

-- a word in front of others
pub after_word : (names : List (List ℕ)) (bytes letters : List ℕ) (u : Token) (ts : List Token) → SpellsLine names bytes (Word letters ∷ u ∷ ts) → (rest : List ℕ) × (bytes ≡ spaced (letters ∷ rest ∷ [])) × SpellsLine names rest (u ∷ ts)
after_word names bytes letters u ts h = grind (arith, after_token names bytes (Word letters) u ts h)

-- nothing stands after a command's verb, or something does
pub alone_or_more : (command : Command) → (arguments command ≡ []) ⊎ TakesArguments command
alone_or_more command = by_tokens (arguments command)
  where
    by_tokens : (ts : List Token) → (ts ≡ []) ⊎ (0 < length ts)
    by_tokens [] = inl refl
    by_tokens (t ∷ ts) = inr (omega arith)

pub takes_none : (command : Command) → (TakesArguments command → ⊥) → arguments command ≡ []
takes_none command none = grind (arith, alone_or_more)

-- in the first case the line is that verb
pub lone_line : (names : List (List ℕ)) (bytes : List ℕ) (command : Command) → arguments command ≡ [] → SpellsCommand names bytes command → bytes ≡ verb_word (verb_of command)
lone_line names bytes command none h =
    alone names bytes (Word (verb_word (verb_of command))) (subst (λ (ts : List Token). SpellsLine names bytes (Word (verb_word (verb_of command)) ∷ ts)) none h)

pub lone_read : (names : List (List ℕ)) (bytes : List ℕ) (command : Command) → arguments command ≡ [] → bytes ≡ verb_word (verb_of command) → SpellsCommand names bytes command
lone_read names bytes command none e = grind (arith, line_of_one)

-- and that verb is one of three
no_lone : (bytes : List ℕ) (command : Command) → arguments command ≡ [] → IsNoneOf lone_verbs bytes → bytes ≢ verb_word (verb_of command)
no_lone bytes command none other = grind arith

-- a line with a space has arguments
some_arguments : (names : List (List ℕ)) (bytes first rest : List ℕ) (command : Command) → bytes ≡ spaced (first ∷ rest ∷ []) → SpellsCommand names bytes command → TakesArguments command
some_arguments names bytes first rest command e h =
    ⊎_elim
    (λ (none : arguments command ≡ []). absurd (never_split (verb_word (verb_of command)) first rest (verb_has_no_space (verb_of command)) (sym (lone_line names bytes command none h) ∙ e)))
    (λ (k : TakesArguments command). k)
    (alone_or_more command)

pub command_parts : (names : List (List ℕ)) (bytes : List ℕ) (command : Command) → TakesArguments command → SpellsCommand names bytes command → HasVerb names bytes command
command_parts names bytes command takes h = by_arguments (arguments command) takes h
  where
    by_arguments : (ts : List Token) → 0 < length ts → SpellsLine names bytes (Word (verb_word (verb_of command)) ∷ ts) → HasArguments names bytes command ts
    by_arguments [] some h = absurd (omega (arith, some))
    by_arguments (u ∷ ts) some h = let b = after_word names bytes _ u ts h in record { rest = b.0; parts = b.1; spelled = b.2 }

-- a verb in front of arguments is a command
pub command_of : (names : List (List ℕ)) (bytes rest : List ℕ) (command : Command) → bytes ≡ spaced (verb_word (verb_of command) ∷ rest ∷ []) → TakesArguments command → SpellsLine names rest (arguments command) → SpellsCommand names bytes command
command_of names bytes rest command e takes h = by_arguments (arguments command) takes h
  where
    by_arguments : (ts : List Token) → 0 < length ts → SpellsLine names rest ts → SpellsLine names bytes (Word (verb_word (verb_of command)) ∷ ts)
    by_arguments [] some h = absurd (omega (arith, some))
    by_arguments (u ∷ ts) some h = joined names bytes (Word (verb_word (verb_of command))) u ts rest (record { front = verb_word (verb_of command); parts = e; spelled = refl }) h

-- a line of this verb with none of its arguments
pub no_command : (names : List (List ℕ)) (bytes rest : List ℕ) (verb : Verb) → bytes ≡ spaced (verb_word verb ∷ rest ∷ []) → ((command : Command) → verb_of command ≡ verb → TakesArguments command → SpellsLine names rest (arguments command) → ⊥) → (command : Command) → SpellsCommand names bytes command → ⊥
no_command names bytes rest verb e none command h =
    let takes = some_arguments names bytes (verb_word verb) rest command e h in
    grind (arith, command_parts names bytes command takes h)

-- a line of no verb
pub no_verb : (names : List (List ℕ)) (bytes : List ℕ) → ((verb : Verb) (rest : List ℕ) → bytes ≢ spaced (verb_word verb ∷ rest ∷ [])) → IsNoneOf lone_verbs bytes → (command : Command) → SpellsCommand names bytes command → ⊥
no_verb names bytes none other command h =
    ⊎_elim
    (λ (e : arguments command ≡ []). no_lone bytes command e other (lone_line names bytes command e h))
    (λ (takes : TakesArguments command). let k = command_parts names bytes command takes h in none (verb_of command) k.rest k.parts)
    (alone_or_more command)

-- none of the lines of this verb
pub no_sending : (names : List (List ℕ)) (bytes : List ℕ) → ((to : ℕ) (value : Value) → SpellsLine names bytes (RoleAt to ∷ Worth value ∷ []) → ⊥) → (command : Command) → verb_of command ≡ verbs.Send → SpellsLine names bytes (arguments command) → ⊥
no_sending names bytes none (Forward (Send to value)) e h = none to value h
no_sending names bytes none command e h = absurd cc

pub no_choosing : (names : List (List ℕ)) (bytes : List ℕ) → ((role : ℕ) (name : List ℕ) → SpellsLine names bytes (RoleAt role ∷ Called name ∷ []) → ⊥) → (command : Command) → verb_of command ≡ verbs.Choose → SpellsLine names bytes (arguments command) → ⊥
no_choosing names bytes none (Forward (Choose to label)) e h = none to label h
no_choosing names bytes none command e h = absurd cc

pub no_receiving : (names : List (List ℕ)) (bytes : List ℕ) → ((role : ℕ) (name : List ℕ) → SpellsLine names bytes (RoleAt role ∷ Called name ∷ []) → ⊥) → (command : Command) → verb_of command ≡ verbs.Receive → SpellsLine names bytes (arguments command) → ⊥
no_receiving names bytes none (Forward (Receive from slot)) e h = none from slot h
no_receiving names bytes none command e h = absurd cc

pub no_picking : (names : List (List ℕ)) (bytes : List ℕ) → ((role : ℕ) → SpellsRole names bytes role → ⊥) → (command : Command) → verb_of command ≡ verbs.Pick → SpellsLine names bytes (arguments command) → ⊥
no_picking names bytes none (Forward (Pick from)) e h = none from (alone names bytes (RoleAt from) h)
no_picking names bytes none command e h = absurd cc

pub no_marking : (names : List (List ℕ)) (bytes : List ℕ) → (IsName bytes → ⊥) → (command : Command) → verb_of command ≡ verbs.Mark → SpellsLine names bytes (arguments command) → ⊥
no_marking names bytes none (Forward (Mark name)) e h = none (alone names bytes (Called name) h).allowed
no_marking names bytes none command e h = absurd cc

pub no_undoing : (names : List (List ℕ)) (bytes : List ℕ) → ((id : ℕ) → SpellsNumber bytes id → ⊥) → (command : Command) → verb_of command ≡ verbs.Undo → SpellsLine names bytes (arguments command) → ⊥
no_undoing names bytes none (Undo id) e h = none id (alone names bytes (Number id) h)
no_undoing names bytes none (Forward (Mark name)) e h = absurd cc
no_undoing names bytes none command e h = absurd cc

pub no_rolling_back : (names : List (List ℕ)) (bytes : List ℕ) → ((id : ℕ) → SpellsNumber bytes id → ⊥) → (command : Command) → verb_of command ≡ verbs.Rollback → SpellsLine names bytes (arguments command) → ⊥
no_rolling_back names bytes none (Rollback id) e h = none id (alone names bytes (Number id) h)
no_rolling_back names bytes none (Forward (Mark name)) e h = absurd cc
no_rolling_back names bytes none command e h = absurd cc

pub no_going_back : (names : List (List ℕ)) (bytes : List ℕ) → (IsName bytes → ⊥) → (command : Command) → verb_of command ≡ verbs.Back → SpellsLine names bytes (arguments command) → ⊥
no_going_back names bytes none (Back name) e h = none (alone names bytes (Called name) h).allowed
no_going_back names bytes none (Forward (Mark name)) e h = absurd cc
no_going_back names bytes none command e h = absurd cc

pub no_asking : (names : List (List ℕ)) (bytes : List ℕ) → ((n : ℕ) → SpellsNumber bytes n → ⊥) → (command : Command) → verb_of command ≡ verbs.News → SpellsLine names bytes (arguments command) → ⊥
no_asking names bytes none (News known) e h = none known (alone names bytes (Number known) h)
no_asking names bytes none (Forward (Mark name)) e h = absurd cc
no_asking names bytes none command e h = absurd cc

-- what stands after the role's name is no such line
pub none_after : (names : List (List ℕ)) (bytes rest : List ℕ) (u : Token) (ts : List Token) → ((role : ℕ) (other : List ℕ) → BeginsWith names bytes (RoleAt role) other → other ≡ rest) → (SpellsLine names rest (u ∷ ts) → ⊥) → (role : ℕ) → SpellsLine names bytes (RoleAt role ∷ u ∷ ts) → ⊥
none_after names bytes rest u ts only none role h =
    let b = after_token names bytes (RoleAt role) u ts h in
    none (rw (only role b.0 b.1) at b.2)

-- no role's name stands in front
pub no_role_in_front : (names : List (List ℕ)) (bytes : List ℕ) (u : Token) (ts : List Token) → ((role : ℕ) (rest : List ℕ) → BeginsWith names bytes (RoleAt role) rest → ⊥) → (role : ℕ) → SpellsLine names bytes (RoleAt role ∷ u ∷ ts) → ⊥
no_role_in_front names bytes u ts none role h = let b = after_token names bytes (RoleAt role) u ts h in none role b.0 b.1

-- a line with the role's name in front
pub role_in_front : (names : List (List ℕ)) (bytes rest : List ℕ) (role : ℕ) (u : Token) → BeginsWith names bytes (RoleAt role) rest → SpellsToken names rest u → SpellsLine names bytes (RoleAt role ∷ u ∷ [])
role_in_front names bytes rest role u b h = joined names bytes (RoleAt role) u [] rest b (line_of_one names rest u h)

-- what stands after the role's name is none of these
pub none_of_these : (names : List (List ℕ)) (bytes rest : List ℕ) (u : Token) → ((role : ℕ) (other : List ℕ) → BeginsWith names bytes (RoleAt role) other → other ≡ rest) → (SpellsToken names rest u → ⊥) → (role : ℕ) → SpellsLine names bytes (RoleAt role ∷ u ∷ []) → ⊥
none_of_these names bytes rest u only none role h = none_after names bytes rest u [] only (λ k. none (alone names rest u k)) role h

-- a name that was read
pub name_read : (bytes name : List ℕ) → IsName bytes → name ≡ bytes → SpellsName bytes name
name_read bytes name h e = record { is = sym e; allowed = h }

-- the arguments that were read make a command after their verb
pub command_read : (names : List (List ℕ)) (bytes rest : List ℕ) (verb : Verb) (r : Result Command LineFault) → bytes ≡ spaced (verb_word verb ∷ rest ∷ []) → IfOk r (λ command. verb_of command ≡ verb) → IfOk r TakesArguments → IfOk r (λ command. SpellsLine names rest (arguments command)) → IfOk r (SpellsCommand names bytes)
command_read names bytes rest verb r e v takes h = grind (arith, command_of)

-- what stands after the role's name is no name
pub none_of_names : (names : List (List ℕ)) (bytes rest : List ℕ) → ((role : ℕ) (other : List ℕ) → BeginsWith names bytes (RoleAt role) other → other ≡ rest) → (IsName rest → ⊥) → (role : ℕ) (name : List ℕ) → SpellsLine names bytes (RoleAt role ∷ Called name ∷ []) → ⊥
none_of_names names bytes rest only none role name = none_of_these names bytes rest (Called name) only (λ k. none k.allowed) role
