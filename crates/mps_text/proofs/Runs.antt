-- What a run over a text's tokens answers.
use Rattle.std.proofs.Common.{◌≡◌, ℕ, ◌+◌, ◌<◌, ◌≤◌, true, ◌⊎◌, inl, inr, List, [], ◌∷◌, ◌++◌, length, Option, Some, None, Result, Ok, Err, refl, sym, subst, arith}
use Rattle.std.specs.List.{AllByRecursion, list_all}
use Rattle.std.proofs.lemmas.Bool.Decides.{nat_tests}
use Rattle.std.proofs.lemmas.List.{append-nil}
use Rattle.mps_text.specs.Tokens.{is_blank, Begins, BeginsAll}
use Rattle.mps_text.specs.Faults.{IsShallow, nodes_begun, Shows, IsMalformed}
use Rattle.mps_text.specs.Private.Lexing.{Fault, ◌>>=◌, Lexed, Next, lexed, tokens_in}
use Rattle.mps_text.specs.Private.Reading.{Symbol, step, start_of, pushed_by, counted, run}
use Rattle.mps_text.specs.declared.fault.TextKind.{TextKind}
use Rattle.mps_text.specs.declared.fault.TextKind.TheVariants.{TooLong, Word, Unexpected, TooManyNodes, TooDeep, Trailing, Memory}
use Rattle.mps_text.proofs.Tokens.{chosen}
use Rattle.mps_text.proofs.Machine.{Drives}
use Rattle.mps_text.proofs.Cuts.{Spoilt, Cut, lexed_token}

-- ---- results

bind_ok : {A B : Type 0} (r : Result A Fault) (f : A → Result B Fault) (y : B) → (r >>= f) ≡ Ok y → (x : A) × (r ≡ Ok x) × (f x ≡ Ok y)
bind_ok r f y e = grind arith

bind_err : {A B : Type 0} (r : Result A Fault) (f : A → Result B Fault) (e : Fault) → (r >>= f) ≡ Err e → (r ≡ Err e) ⊎ ((x : A) × (r ≡ Ok x) × (f x ≡ Err e))
bind_err r f e h = grind arith

fault_is : {A : Type 0} (d e : Fault) (r : Result A Fault) → r ≡ Err d → r ≡ Err e → d ≡ e
fault_is d e r p q = cc

pushed_is : (left : ℕ) (o : Option (List Symbol)) (pushed : List Symbol) → pushed_by left o ≡ Ok pushed → o ≡ Some pushed
pushed_is left o pushed e = grind arith

not_pushed : (left : ℕ) (o : Option (List Symbol)) (fault : Fault) → pushed_by left o ≡ Err fault → (o ≡ None) × ((left, Unexpected) ≡ fault)
not_pushed left o fault e = grind (arith, fault_is)

-- ---- counting

pub begun_more : (m : Option ℕ) (starts : List (Option ℕ)) → nodes_begun (m ∷ starts) ≡ nodes_begun (m ∷ []) + nodes_begun starts
begun_more m starts = grind arith

counted_is : (m : Option ℕ) (nodes left more : ℕ) → counted m nodes left ≡ Ok more → IsShallow m × (more + nodes_begun (m ∷ []) ≡ nodes)
counted_is m nodes left more e = grind (arith, chosen, nat_tests)

-- a limit that the token passes
abbrev Passes : Option ℕ → ℕ → Fault → ℕ → Type 0
Passes m nodes fault left =
    (level : ℕ) × (m ≡ Some level) × (((nodes ≡ 0) × ((left, TooManyNodes) ≡ fault)) ⊎ ((0 < nodes) × (64 < level) × ((left, TooDeep) ≡ fault)))

not_counted : (m : Option ℕ) (nodes left : ℕ) (fault : Fault) → counted m nodes left ≡ Err fault → Passes m nodes fault left
not_counted m nodes left fault e = grind (arith, chosen, nat_tests, fault_is)

-- ---- a run to the end

pub record Passed (tokens : List (List ℕ)) (stack : List Symbol) (nodes : ℕ) (bytes : List ℕ) : Type 0 where
  pub starts : List (Option ℕ)
  pub drives : Drives stack tokens [] starts
  pub shallow : AllByRecursion IsShallow starts
  pub few : nodes_begun starts ≤ nodes
  pub rest : List ℕ
  pub read : BeginsAll bytes tokens rest
  pub blank : list_all is_blank rest ≡ true

pub run_passes : (text : Lexed) (stack : List Symbol) (nodes : ℕ) (bytes : List ℕ) → Cut text bytes → run stack nodes text ≡ Ok tt → Passed (tokens_in text) stack nodes bytes
run_passes (Next token left rest) (x ∷ stack) nodes bytes c h =
    let a = bind_ok (pushed_by left (step x token)) (λ pushed. counted (start_of x) nodes left >>= λ more. run (pushed ++ stack) more rest) tt h in
    let b = bind_ok (counted (start_of x) nodes left) (λ more. run (a.0 ++ stack) more rest) tt a.2 in
    let k = counted_is (start_of x) nodes left b.0 b.1 in
    let w = run_passes rest (a.0 ++ stack) b.0 c.0 c.3 b.2 in
    let few = w.few in
    record {
      starts = start_of x ∷ w.starts;
      drives = (a.0, pushed_is left (step x token) a.0 a.1, w.starts, refl, w.drives);
      shallow = (k.0, w.shallow);
      few = omega (arith, begun_more (start_of x) w.starts, few);
      rest = w.rest;
      read = (c.0, c.1, w.read);
      blank = w.blank;
    }
run_passes other others nodes bytes c h = grind arith

-- ---- a run to a fault

-- what is wrong where the stack stands with room for so many more nodes
abbrev pub WrongAt : TextKind → List Symbol → ℕ → List ℕ → Type 0
WrongAt Word stack room here = IsMalformed here
WrongAt Unexpected [] room here = ⊥
WrongAt Unexpected (x ∷ stack) room here = (here ≡ []) ⊎ ((token : List ℕ) × Shows here (Some token) × (step x token ≡ None))
WrongAt TooManyNodes [] room here = ⊥
WrongAt TooManyNodes (x ∷ stack) room here =
    (token : List ℕ) × (level : ℕ) × (pushed : List Symbol) × Shows here (Some token) × (step x token ≡ Some pushed) × (start_of x ≡ Some level) × (room ≡ 0)
WrongAt TooDeep [] room here = ⊥
WrongAt TooDeep (x ∷ stack) room here =
    (token : List ℕ) × (level : ℕ) × (pushed : List Symbol) × Shows here (Some token) × (step x token ≡ Some pushed) × (start_of x ≡ Some level) × (0 < room) × (64 < level)
WrongAt Trailing [] room here = (token : List ℕ) × Shows here (Some token)
WrongAt Trailing (x ∷ stack) room here = ⊥
WrongAt TooLong stack room here = ⊥
WrongAt Memory stack room here = ⊥

pub record Stuck (stack : List Symbol) (nodes : ℕ) (bytes : List ℕ) (fault : Fault) : Type 0 where
  pub front : List (List ℕ)
  pub starts : List (Option ℕ)
  pub mid : List Symbol
  pub room : ℕ
  pub rest : List ℕ
  pub read : BeginsAll bytes front rest
  pub drives : Drives stack front mid starts
  pub shallow : AllByRecursion IsShallow starts
  pub count : room + nodes_begun starts ≡ nodes
  pub blanks : List ℕ
  pub blank : list_all is_blank blanks ≡ true
  pub here : List ℕ
  pub parts : rest ≡ blanks ++ here
  pub long : length here ≡ fault.0
  pub wrong : WrongAt fault.1 mid room here

-- at once
stuck_at : (stack : List Symbol) (nodes : ℕ) (bytes blanks here : List ℕ) (fault : Fault) → bytes ≡ blanks ++ here → list_all is_blank blanks ≡ true → length here ≡ fault.0 → WrongAt fault.1 stack nodes here → Stuck stack nodes bytes fault
stuck_at stack nodes bytes blanks here fault parts blank long wrong =
    record { front = []; starts = []; mid = stack; room = nodes; rest = bytes; read = refl; drives = (refl, refl); shallow = tt; count = omega arith; blanks = blanks; blank = blank; here = here; parts = parts; long = long; wrong = wrong }

stuck_token : (stack : List Symbol) (nodes : ℕ) (bytes token after : List ℕ) (left : ℕ) (kind : TextKind) → Begins bytes token after → left ≡ length (token ++ after) → WrongAt kind stack nodes (token ++ after) → Stuck stack nodes bytes (left, kind)
stuck_token stack nodes bytes token after left kind b long wrong = stuck_at stack nodes bytes b.blanks (token ++ after) (left, kind) b.parts b.blank (sym long) wrong

stuck_end : (x : Symbol) (stack : List Symbol) (nodes : ℕ) (bytes : List ℕ) → list_all is_blank bytes ≡ true → Stuck (x ∷ stack) nodes bytes (0, Unexpected)
stuck_end x stack nodes bytes blank = stuck_at (x ∷ stack) nodes bytes bytes [] (0, Unexpected) (sym (append-nil bytes)) blank refl (inl refl)

stuck_word : (stack : List Symbol) (nodes : ℕ) (bytes : List ℕ) (left : ℕ) → Spoilt bytes left → Stuck stack nodes bytes (left, Word)
stuck_word stack nodes bytes left s = stuck_at stack nodes bytes s.blanks s.here (left, Word) s.parts s.blank s.long s.wrong

-- after a token
stuck_behind : (x : Symbol) (stack pushed : List Symbol) (token after bytes : List ℕ) (nodes more : ℕ) (fault : Fault) → step x token ≡ Some pushed → IsShallow (start_of x) → more + nodes_begun (start_of x ∷ []) ≡ nodes → Begins bytes token after → Stuck (pushed ++ stack) more after fault → Stuck (x ∷ stack) nodes bytes fault
stuck_behind x stack pushed token after bytes nodes more fault s shallow count b w =
    record {
      front = token ∷ w.front;
      starts = start_of x ∷ w.starts;
      mid = w.mid;
      room = w.room;
      rest = w.rest;
      read = (after, b, w.read);
      drives = (pushed, s, w.starts, refl, w.drives);
      shallow = (shallow, w.shallow);
      count = omega (arith, begun_more (start_of x) w.starts, count);
      blanks = w.blanks;
      blank = w.blank;
      here = w.here;
      parts = w.parts;
      long = w.long;
      wrong = w.wrong;
    }

limit_stuck : (x : Symbol) (stack pushed : List Symbol) (token after bytes : List ℕ) (nodes left : ℕ) (fault : Fault) → step x token ≡ Some pushed → Begins bytes token after → left ≡ length (token ++ after) → Passes (start_of x) nodes fault left → Stuck (x ∷ stack) nodes bytes fault
limit_stuck x stack pushed token after bytes nodes left fault s b long p = grind (arith, stuck_at)

pub run_sticks : (text : Lexed) (stack : List Symbol) (nodes : ℕ) (bytes : List ℕ) (fault : Fault) → Cut text bytes → run stack nodes text ≡ Err fault → Stuck stack nodes bytes fault
run_sticks (Next token left rest) [] nodes bytes fault c h = grind (arith, fault_is, stuck_at)
run_sticks (Next token left rest) (x ∷ stack) nodes bytes fault c h =
    elim (bind_err (pushed_by left (step x token)) (λ pushed. counted (start_of x) nodes left >>= λ more. run (pushed ++ stack) more rest) fault h) [
      | inl e ↦
          let n = not_pushed left (step x token) fault e in
          grind (arith, stuck_token (x ∷ stack) nodes bytes token c.0 left Unexpected c.1 c.2 (inr (token, (c.0, refl, c.1.found), n.0)))
      | inr a ↦
          let s = pushed_is left (step x token) a.0 a.1 in
          elim (bind_err (counted (start_of x) nodes left) (λ more. run (a.0 ++ stack) more rest) fault a.2) [
            | inl e ↦ limit_stuck x stack a.0 token c.0 bytes nodes left fault s c.1 c.2 (not_counted (start_of x) nodes left fault e)
            | inr b ↦
                let k = counted_is (start_of x) nodes left b.0 b.1 in
                stuck_behind x stack a.0 token c.0 bytes nodes b.0 fault s k.0 k.1 c.1 (run_sticks rest (a.0 ++ stack) b.0 c.0 fault c.3 b.2)
          ]
    ]
run_sticks other others nodes bytes fault c h = grind (arith, fault_is, stuck_end, stuck_word)

-- ---- over tokens that drive the stack

pub run_driven : (front : List (List ℕ)) (stack mid : List Symbol) (starts : List (Option ℕ)) (room nodes : ℕ) (bytes rest : List ℕ) → Drives stack front mid starts → AllByRecursion IsShallow starts → room + nodes_begun starts ≡ nodes → BeginsAll bytes front rest → run stack nodes (lexed bytes) ≡ run mid room (lexed rest)
run_driven [] stack mid starts room nodes bytes rest d shallow count read = grind arith
run_driven (token ∷ front) [] mid starts room nodes bytes rest d shallow count read = absurd d
run_driven (token ∷ front) (x ∷ stack) mid starts room nodes bytes rest d shallow count read =
    let all : AllByRecursion IsShallow (start_of x ∷ d.2) = subst (AllByRecursion IsShallow) d.3 shallow in
    grind (arith, lexed_token bytes token read.0 read.1, run_driven front (d.0 ++ stack) mid d.2 room (room + nodes_begun d.2) read.0 rest d.4 all.1 refl read.2)
