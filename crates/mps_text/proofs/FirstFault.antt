-- The fault that a run answers is the first one, and there is no other.
use Rattle.std.proofs.Common.{◌≡◌, ◌≢◌, ℕ, ◌+◌, ◌-◌, ◌≤◌, nat_lt, inl, inr, List, [], ◌∷◌, ◌++◌, length, Option, Some, None, Err, refl, subst, cond, arith}
use Rattle.std.specs.Prelude.{codes, ◌&&◌, ⊤}
use Rattle.std.specs.List.{AllByRecursion}
use Rattle.std.specs.Str.{bytes_eq}
use Rattle.std.proofs.lemmas.List.{append-nil}
use Rattle.mps_text.specs.Faults.{nodes_begun, IsShallow, IsWhole, FaultAt, IsFirstFault}
use Rattle.mps_text.proofs.Opened.{OpensBy, IsUnexpectedBy, IsWrongBy, opens_one, join, wrong_one}
use Rattle.mps_text.specs.Private.Lexing.{lexed, is_name, is_variable}
use Rattle.mps_text.specs.Private.Reading.{Symbol, Token, AName, AVariable, ASort, Roles, Node, Exchange, Others, step, start_of, run, whole}
use Rattle.mps_text.specs.declared.reading.First.TheVariants as firsts
use Rattle.mps_text.specs.declared.fault.TextKind.{TextKind}
use Rattle.mps_text.specs.declared.fault.TextKind.TheVariants.{Word, Unexpected, TooManyNodes, TooDeep, Trailing, Memory}
use Rattle.mps_text.proofs.Tokens.{chosen, some_is, only_if}
use Rattle.mps_text.proofs.Machine.{Drives, drives_then, drives_part, drives_one, drives_each}
use Rattle.mps_text.proofs.Trees.{protocol_starts, drives_whole}
use Rattle.mps_text.proofs.Languages.{completes_behind, completion, whole_protocol}
use Rattle.mps_text.proofs.Cuts.{text_cut, place_is}
use Rattle.mps_text.proofs.Runs.{WrongAt, Stuck, run_sticks}

-- ---- what tokens drive the first stack, and what they open

pub opens_by : (front : List (List ℕ)) (mid : List Symbol) (starts : List (Option ℕ)) → Drives whole front mid starts → OpensBy front starts
opens_by front mid starts d =
    let c = completion mid in
    grind (arith, whole_protocol (front ++ c.tokens) (starts ++ c.starts) (completes_behind whole front mid starts c.tokens c.starts d c.completes), drives_each whole front mid starts d)

pub whole_by : (front : List (List ℕ)) (starts : List (Option ℕ)) → Drives whole front [] starts → IsWhole front
whole_by front starts d = grind (arith, whole_protocol (front ++ []) (starts ++ []) (completes_behind whole front [] starts [] [] d (refl, refl)), append-nil front)

same_front : (a b c d : List (Option ℕ)) → length a ≡ length b → a ++ c ≡ b ++ d → a ≡ b
same_front [] [] c d e h = refl
same_front (x ∷ xs) (y ∷ ys) c d e h =
    let tail : xs ++ c ≡ ys ++ d = cc in
    let rest = same_front xs ys c d (omega (arith, e)) tail in
    cc (rest)
same_front other others c d e h = grind arith

pub driven_by : (front : List (List ℕ)) (starts : List (Option ℕ)) → OpensBy front starts → (mid : List Symbol) × Drives whole front mid starts
driven_by front starts o =
    let d = drives_whole (front ++ o.more) o.roles o.tree o.spelled in
    grind (arith, drives_part, protocol_starts, same_front, drives_each)

-- a token after the front, where the stack stands
pub record Behind (x : Symbol) (token : List ℕ) (starts later : List (Option ℕ)) : Type 0 where
  pub pushed : List Symbol
  pub steps : step x token ≡ Some pushed
  pub marked : later ≡ starts ++ start_of x ∷ []

pub not_whole : (front : List (List ℕ)) (x : Symbol) (stack : List Symbol) (starts : List (Option ℕ)) → Drives whole front (x ∷ stack) starts → IsWhole front → ⊥
not_whole front x stack starts d w = grind (arith, drives_one whole front (x ∷ stack) starts [] (protocol_starts w.0 w.1) d (drives_whole front w.0 w.1 w.2))

pub none_behind : (front : List (List ℕ)) (starts : List (Option ℕ)) (token : List ℕ) (later : List (Option ℕ)) → Drives whole front [] starts → OpensBy (front ++ token ∷ []) later → ⊥
none_behind front starts token later d o =
    let b = driven_by (front ++ token ∷ []) later o in
    grind (arith, drives_part, drives_one)

pub some_behind : (front : List (List ℕ)) (x : Symbol) (stack : List Symbol) (starts : List (Option ℕ)) (token : List ℕ) (later : List (Option ℕ)) → Drives whole front (x ∷ stack) starts → OpensBy (front ++ token ∷ []) later → Behind x token starts later
some_behind front x stack starts token later d o =
    let b = driven_by (front ++ token ∷ []) later o in
    let p = drives_part whole front (token ∷ []) b.0 later b.1 in
    grind (arith, drives_one)

pub opens_behind : (front : List (List ℕ)) (x : Symbol) (stack pushed : List Symbol) (starts : List (Option ℕ)) (token : List ℕ) → Drives whole front (x ∷ stack) starts → step x token ≡ Some pushed → OpensBy (front ++ token ∷ []) (starts ++ start_of x ∷ [])
opens_behind front x stack pushed starts token d s = grind (arith, opens_by (front ++ token ∷ []) (pushed ++ stack) (starts ++ start_of x ∷ []) (drives_then whole front (x ∷ stack) starts (token ∷ []) (pushed ++ stack) (start_of x ∷ []) d (pushed, s, [], refl, (refl, refl))))

-- ---- no node is begun far too deep

abbrev IsNear : Symbol → Type 0
IsNear (Token token) = ⊤
IsNear AName = ⊤
IsNear AVariable = ⊤
IsNear ASort = ⊤
IsNear (Roles room) = ⊤
IsNear (Node level) = level ≤ 65
IsNear (Exchange level) = level ≤ 65
IsNear (Others level) = level ≤ 65

near_append : (xs ys : List Symbol) → AllByRecursion IsNear xs → AllByRecursion IsNear ys → AllByRecursion IsNear (xs ++ ys)
near_append [] ys p q = q
near_append (x ∷ xs) ys p q = (p.0, near_append xs ys p.1 q)

near_same : (p q : List Symbol) → p ≡ q → AllByRecursion IsNear p → AllByRecursion IsNear q
near_same p q e h = subst (AllByRecursion IsNear) e h

near_step : (x : Symbol) (token : List ℕ) (pushed : List Symbol) → step x token ≡ Some pushed → IsShallow (start_of x) → IsNear x → AllByRecursion IsNear pushed
near_step (Token word) token pushed s shallow near = near_same [] pushed (only_if (bytes_eq token word) [] pushed s).1 tt
near_step AName token pushed s shallow near = near_same [] pushed (only_if (is_name token) [] pushed s).1 tt
near_step AVariable token pushed s shallow near = near_same [] pushed (only_if (is_variable token) [] pushed s).1 tt
near_step ASort token pushed s shallow near = grind (arith, near_same, some_is)
near_step (Roles room) token pushed s shallow near =
    elim (chosen (bytes_eq token (codes ";")) (Some []) (cond (nat_lt 0 room && is_name token) (Some (Roles (room - 1) ∷ [])) None) (Some pushed) s) [
      | inl a ↦ near_same [] pushed (some_is [] pushed a.1) tt
      | inr a ↦ near_same (Roles (room - 1) ∷ []) pushed (only_if (nat_lt 0 room && is_name token) (Roles (room - 1) ∷ []) pushed a.1).1 (tt, tt)
    ]
near_step (Node level) token pushed s shallow near = grind (arith, near_same, some_is)
near_step (Exchange level) token pushed s shallow near = grind (arith, near_same, some_is)
near_step (Others level) token pushed s shallow near = grind (arith, near_same, some_is)

near_driven : (stack : List Symbol) (tokens : List (List ℕ)) (to : List Symbol) (starts : List (Option ℕ)) → Drives stack tokens to starts → AllByRecursion IsShallow starts → AllByRecursion IsNear stack → AllByRecursion IsNear to
near_driven stack [] to starts d shallow near = near_same stack to d.0 near
near_driven [] (token ∷ tokens) to starts d shallow near = absurd d
near_driven (x ∷ stack) (token ∷ tokens) to starts d shallow near =
    let all : AllByRecursion IsShallow (start_of x ∷ d.2) = subst (AllByRecursion IsShallow) d.3 shallow in
    near_driven (d.0 ++ stack) tokens to d.2 d.4 all.1 (near_append d.0 stack (near_step x token d.0 d.1 all.0 near.0) near.1)

-- ---- where a run sticks, the text has that fault

unexpected_by : (front : List (List ℕ)) (x : Symbol) (stack : List Symbol) (starts : List (Option ℕ)) (token : List ℕ) → Drives whole front (x ∷ stack) starts → step x token ≡ None → IsUnexpectedBy front starts (Some token)
unexpected_by front x stack starts token d none = (not_whole front x stack starts d, (λ start o. let b = some_behind front x stack starts token (starts ++ start ∷ []) d o in cc (none)))

wrong_by : (kind : TextKind) (front : List (List ℕ)) (mid : List Symbol) (starts : List (Option ℕ)) (room : ℕ) (here : List ℕ) → Drives whole front mid starts → AllByRecursion IsShallow starts → room + nodes_begun starts ≡ 256 → WrongAt kind mid room here → IsWrongBy front starts here kind
wrong_by Word front mid starts room here d shallow count w = w
wrong_by Unexpected front (x ∷ stack) starts room here d shallow count (inl none) = (None, none, not_whole front x stack starts d)
wrong_by Unexpected front (x ∷ stack) starts room here d shallow count (inr w) = (Some w.0, w.1, unexpected_by front x stack starts w.0 d w.2)
wrong_by TooManyNodes front (x ∷ stack) starts room here d shallow count w = grind (arith, opens_behind)
wrong_by TooDeep front (x ∷ stack) starts room here d shallow count w = grind (arith, near_driven whole front (x ∷ stack) starts d shallow (tt, (tt, (tt, (tt, (omega arith, tt))))), opens_behind front x stack w.2 starts w.0 d w.4)
wrong_by Trailing front [] starts room here d shallow count w = (w.0, w.1, whole_by front starts d)
wrong_by other front others starts room here d shallow count w = absurd w

stuck_fault : (text : List ℕ) (left : ℕ) (kind : TextKind) → Stuck whole 256 text (left, kind) → FaultAt text (length text - left) kind
stuck_fault text left kind s =
    let j = join s.front s.starts (drives_each whole s.front s.mid s.starts s.drives) in
    grind (arith, opens_one, opens_by, place_is, wrong_one, wrong_by)

first_by : (text : List ℕ) (at left : ℕ) (kind : TextKind) → length text ≤ 65536 → Stuck whole 256 text (left, kind) → FaultAt text at kind → IsFirstFault text at kind
first_by text at left kind short s f = grind arith

-- what a run answers is the first fault
pub first_fault : (text : List ℕ) (left : ℕ) (kind : TextKind) → length text ≤ 65536 → run whole 256 (lexed text) ≡ Err (left, kind) → IsFirstFault text (length text - left) kind
first_fault text left kind short h =
    let s = run_sticks (lexed text) whole 256 text (left, kind) (text_cut text) h in
    first_by text (length text - left) left kind short s (stuck_fault text left kind s)

stuck_kind : (kind : TextKind) (text : List ℕ) (left : ℕ) → Stuck whole 256 text (left, kind) → kind ≢ Memory
stuck_kind kind text left s = grind arith

-- and it is none of memory
pub fault_kind : (text : List ℕ) (left : ℕ) (kind : TextKind) → run whole 256 (lexed text) ≡ Err (left, kind) → kind ≢ Memory
fault_kind text left kind h = stuck_kind kind text left (run_sticks (lexed text) whole 256 text (left, kind) (text_cut text) h)
