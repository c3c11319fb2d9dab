-- How commands are spelled.
use Rattle.std.specs.Prelude.{◌≡◌, ℕ, ◌<◌, List, [], ◌∷◌, length, codes, Option, Some, None, IsSome, OnSome}
use Rattle.std.specs.Option.{ForSome}
use Rattle.mps_base.specs.Spaced.{spaced}
use Rattle.mps_command.specs.Changes.{change_of}
use Rattle.mps_command.specs.declared.command.Command.{Command}
use Rattle.mps_command.specs.declared.command.Command.TheVariants.{Forward, Undo, Rollback, Back, News, Show, Stand}
use Rattle.mps_command.specs.declared.command.Forward.TheVariants.{Send, Choose, Receive, Pick, Mark, Commit}
use Rattle.mps_line.specs.declared.read_commands.Verb.{Verb}
use Rattle.mps_line.specs.declared.read_commands.Verb.TheVariants as verbs
use Rattle.mps_line.specs.Tokens.{Token, Word, RoleAt, Called, Number, Worth, SpellsLine, SpellsNumber}

-- the first word of a command
abbrev pub verb_word : Verb → List ℕ
verb_word verbs.Send = codes "send"
verb_word verbs.Choose = codes "choose"
verb_word verbs.Receive = codes "recv"
verb_word verbs.Pick = codes "pick"
verb_word verbs.Mark = codes "mark"
verb_word verbs.Commit = codes "commit"
verb_word verbs.Undo = codes "undo"
verb_word verbs.Rollback = codes "rollback"
verb_word verbs.Back = codes "back"
verb_word verbs.News = codes "news"
verb_word verbs.Show = codes "show"
verb_word verbs.Stand = codes "stand"

-- the verb of a command
abbrev pub verb_of : Command → Verb
verb_of (Forward (Send to value)) = verbs.Send
verb_of (Forward (Choose to label)) = verbs.Choose
verb_of (Forward (Receive from slot)) = verbs.Receive
verb_of (Forward (Pick from)) = verbs.Pick
verb_of (Forward (Mark name)) = verbs.Mark
verb_of (Forward Commit) = verbs.Commit
verb_of (Undo id) = verbs.Undo
verb_of (Rollback id) = verbs.Rollback
verb_of (Back name) = verbs.Back
verb_of (News known) = verbs.News
verb_of Show = verbs.Show
verb_of Stand = verbs.Stand

-- the tokens after the verb
abbrev pub arguments : Command → List Token
arguments (Forward (Send to value)) = RoleAt to ∷ Worth value ∷ []
arguments (Forward (Choose to label)) = RoleAt to ∷ Called label ∷ []
arguments (Forward (Receive from slot)) = RoleAt from ∷ Called slot ∷ []
arguments (Forward (Pick from)) = RoleAt from ∷ []
arguments (Forward (Mark name)) = Called name ∷ []
arguments (Forward Commit) = []
arguments (Undo id) = Number id ∷ []
arguments (Rollback id) = Number id ∷ []
arguments (Back name) = Called name ∷ []
arguments (News known) = Number known ∷ []
arguments Show = []
arguments Stand = []

-- the verb and its arguments
abbrev pub command_tokens : Command → List Token
command_tokens command = Word (verb_word (verb_of command)) ∷ arguments command

-- `send PEER VALUE`, `choose PEER LABEL`, `recv PEER SLOT`, `pick PEER`, `mark NAME`, `commit`, `undo NUMBER`,
-- `rollback NUMBER`, `back NAME`, `news NUMBER`, `show` or `stand`
abbrev pub SpellsCommand : (names : List (List ℕ)) → List ℕ → Command → Type 0
SpellsCommand names bytes command = SpellsLine names bytes (command_tokens command)

-- a role's name in front of a command
abbrev pub SpellsScriptLine : (names : List (List ℕ)) → List ℕ → (role : ℕ) → Command → Type 0
SpellsScriptLine names bytes role command = SpellsLine names bytes (RoleAt role ∷ command_tokens command)

-- a number may stand in front of the command: it asks for a change
abbrev pub MayHaveNumber : Command → Type 0
MayHaveNumber command = IsSome (change_of command)

-- the number, where there is one, and the command
abbrev pub numbered_tokens : Option ℕ → Command → List Token
numbered_tokens None command = command_tokens command
numbered_tokens (Some number) command = Number number ∷ command_tokens command

-- a line of a conversation: a command, or a number and a command that may have one
pub record SpellsNumbered (names : List (List ℕ)) (bytes : List ℕ) (number : Option ℕ) (command : Command)
    : Type 0 where
  pub line : SpellsLine names bytes (numbered_tokens number command)
  pub allowed : OnSome number (MayHaveNumber command)

-- `wait`, a number of milliseconds, and the line whose answer may wait so long
pub record SpellsWait (bytes : List ℕ) (limit : ℕ) (line : List ℕ) : Type 0 where
  pub digits : List ℕ
  pub parts : bytes ≡ spaced (codes "wait" ∷ digits ∷ line ∷ [])
  pub spelled : SpellsNumber digits limit

-- the role that a command names, where it names one
abbrev pub role_named : Command → Option ℕ
role_named (Forward (Send to value)) = Some to
role_named (Forward (Choose to label)) = Some to
role_named (Forward (Receive from slot)) = Some from
role_named (Forward (Pick from)) = Some from
role_named command = None

-- the command names no role but those that have these names
abbrev pub NamesRolesOf : (names : List (List ℕ)) → Command → Type 0
NamesRolesOf names command = ForSome (role_named command) (λ peer. peer < length names)
