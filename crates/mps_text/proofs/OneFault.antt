-- A text has one first fault at most, and none where it spells a protocol within the limits.
use Rattle.std.proofs.Common.{◌≡◌, ◌≢◌, ℕ, ◌+◌, ◌-◌, ◌<◌, ◌≤◌, true, ◌⊎◌, inl, inr, List, [], ◌∷◌, ◌++◌, length, Option, Some, None, Result, Ok, Err, refl, ap, sym, ◌∙◌, arith}
use Rattle.std.specs.List.{list_all}
use Rattle.std.proofs.lemmas.Bool.Decides.{nat_tests}
use Rattle.std.proofs.lemmas.List.{append-nil}
use Rattle.mps_global.specs.Global.{GlobalType}
use Rattle.mps_text.specs.Tokens.{is_blank, Begins}
use Rattle.mps_text.specs.Grammar.{SpellsText, IsWithinLimits}
use Rattle.mps_text.specs.Faults.{starts_of, nodes_begun, Shows, FaultAt, IsFirstFault}
use Rattle.mps_text.specs.Grammar.{tokens_of}
use Rattle.mps_text.proofs.Opened.{IsUnexpectedBy, IsWrongBy, opens_two, wrong_two}
use Rattle.mps_text.specs.Private.Lexing.{Fault, Lexed, Next, lexed}
use Rattle.mps_text.specs.Private.Reading.{Symbol, step, start_of, run, whole}
use Rattle.mps_text.specs.declared.fault.TextKind.{TextKind}
use Rattle.mps_text.specs.declared.fault.TextKind.TheVariants.{TooLong, Word, Unexpected, TooManyNodes, TooDeep, Trailing, Memory}
use Rattle.mps_text.proofs.Machine.{Drives}
use Rattle.mps_text.proofs.Trees.{protocol_starts, drives_whole}
use Rattle.mps_text.proofs.Limits.{protocol_within}
use Rattle.mps_text.proofs.Cuts.{lexed_token, lexed_blanks, lexed_spoilt}
use Rattle.mps_text.proofs.Runs.{run_driven}
use Rattle.mps_text.proofs.FirstFault.{driven_by, not_whole, whole_by, none_behind, some_behind, opens_behind}

-- ---- what a run answers where something is wrong

-- the bytes that show the token are cut there
shown_cut : (rest blanks bytes token : List ℕ) → rest ≡ blanks ++ bytes → list_all is_blank blanks ≡ true → (s : Shows bytes (Some token)) → lexed rest ≡ Next token (length bytes) (lexed s.0)
shown_cut rest blanks bytes token parts blank s =
    let b : Begins rest token s.0 = record { blanks = blanks; blank = blank; parts = parts ∙ ap (λ (xs : List ℕ). blanks ++ xs) s.1; found = s.2 } in
    lexed_token rest token s.0 b ∙ ap (λ (n : ℕ). Next token n (lexed s.0)) (ap length (sym s.1))

refused_at : (front : List (List ℕ)) (x : Symbol) (stack : List Symbol) (starts : List (Option ℕ)) (room : ℕ) (text more : Lexed) (token : List ℕ) (left : ℕ) (o : Option (List Symbol)) → Drives whole front (x ∷ stack) starts → text ≡ Next token left more → IsUnexpectedBy front starts (Some token) → step x token ≡ o → run (x ∷ stack) room text ≡ Err (left, Unexpected)
refused_at front x stack starts room text more token left None d cut u e = rw (cut, e) refl
refused_at front x stack starts room text more token left (Some pushed) d cut u e = absurd (u.1 (start_of x) (opens_behind front x stack pushed starts token d e))

unexpected_at : (next : Option (List ℕ)) (front : List (List ℕ)) (mid : List Symbol) (starts : List (Option ℕ)) (room : ℕ) (rest blanks bytes : List ℕ) → Drives whole front mid starts → rest ≡ blanks ++ bytes → list_all is_blank blanks ≡ true → Shows bytes next → IsUnexpectedBy front starts next → run mid room (lexed rest) ≡ Err (length bytes, Unexpected)
unexpected_at (Some token) front (x ∷ stack) starts room rest blanks bytes d parts blank s u =
    refused_at front x stack starts room (lexed rest) (lexed s.0) token (length bytes) (step x token) d (shown_cut rest blanks bytes token parts blank s) u refl
unexpected_at other front others starts room rest blanks bytes d parts blank s u = grind (arith, whole_by, append-nil, lexed_blanks)

last_same : (xs : List (Option ℕ)) (a b : Option ℕ) → xs ++ a ∷ [] ≡ xs ++ b ∷ [] → a ≡ b
last_same [] a b e = cc
last_same (x ∷ xs) a b e = let tail : xs ++ a ∷ [] ≡ xs ++ b ∷ [] = cc in last_same xs a b tail

wrong_at : (kind : TextKind) (front : List (List ℕ)) (mid : List Symbol) (starts : List (Option ℕ)) (room : ℕ) (rest blanks bytes : List ℕ) → Drives whole front mid starts → room + nodes_begun starts ≡ 256 → rest ≡ blanks ++ bytes → list_all is_blank blanks ≡ true → IsWrongBy front starts bytes kind → run mid room (lexed rest) ≡ Err (length bytes, kind)
wrong_at Word front mid starts room rest blanks bytes d count parts blank w = grind (arith, lexed_spoilt)
wrong_at Unexpected front mid starts room rest blanks bytes d count parts blank w = unexpected_at w.0 front mid starts room rest blanks bytes d parts blank w.1 w.2
wrong_at TooManyNodes front [] starts room rest blanks bytes d count parts blank w = absurd (none_behind front starts w.0 (starts ++ Some w.1 ∷ []) d w.3)
wrong_at TooManyNodes front (x ∷ stack) starts room rest blanks bytes d count parts blank w =
    let b = some_behind front x stack starts w.0 (starts ++ Some w.1 ∷ []) d w.3 in
    grind (arith, last_same starts (Some w.1) (start_of x) b.marked, shown_cut rest blanks bytes w.0 parts blank w.2)
wrong_at TooDeep front [] starts room rest blanks bytes d count parts blank w = absurd (none_behind front starts w.0 (starts ++ Some 65 ∷ []) d w.2)
wrong_at TooDeep front (x ∷ stack) starts room rest blanks bytes d count parts blank w =
    let b = some_behind front x stack starts w.0 (starts ++ Some 65 ∷ []) d w.2 in
    grind (arith, last_same starts (Some 65) (start_of x) b.marked, nat_tests, shown_cut rest blanks bytes w.0 parts blank w.1)
wrong_at Trailing front [] starts room rest blanks bytes d count parts blank w = rw (shown_cut rest blanks bytes w.0 parts blank w.1) refl
wrong_at Trailing front (x ∷ stack) starts room rest blanks bytes d count parts blank w = absurd (not_whole front x stack starts d w.2)
wrong_at other front mid starts room rest blanks bytes d count parts blank w = absurd w

fault_runs : (text : List ℕ) (at : ℕ) (kind : TextKind) → (f : FaultAt text at kind) → run whole 256 (lexed text) ≡ Err (length f.bytes, kind)
fault_runs text at kind f =
    let front = tokens_of f.front in
    let starts = starts_of f.front in
    let b = driven_by front starts (opens_two f.front f.opens) in
    let room = 256 - nodes_begun starts in
    let count : room + nodes_begun starts ≡ 256 = omega arith in
    run_driven front whole b.0 starts room 256 text f.rest b.1 f.within.shallow count f.read
    ∙ wrong_at kind front b.0 starts room f.rest f.blanks f.bytes b.1 count f.parts f.blank (wrong_two kind f.front f.bytes f.wrong)

-- ---- what a run answers where a protocol is spelled

pub spelled_runs : (text : List ℕ) (roles : List (List ℕ)) (tree : GlobalType) → IsWithinLimits text tree → SpellsText text roles tree → run whole 256 (lexed text) ≡ Ok tt
spelled_runs text roles tree limits h =
    let s = h.spelled in
    let d = drives_whole h.tokens roles tree s in
    let within = protocol_within roles tree s.body limits.small limits.shallow in
    let starts = protocol_starts roles tree in
    let room = 256 - nodes_begun starts in
    let count : room + nodes_begun starts ≡ 256 = omega arith in
    run_driven h.tokens whole [] starts room 256 text h.cut.rest d within.shallow count h.cut.all
    ∙ ap (run [] room) (lexed_blanks h.cut.rest h.cut.blank)

-- ---- one fault

-- a fault other than out of memory
abbrev Seen : List ℕ → ℕ → TextKind → Type 0
Seen text at kind = ((65536 < length text) × (at ≡ 65536) × (kind ≡ TooLong)) ⊎ ((length text ≤ 65536) × FaultAt text at kind)

seen : (text : List ℕ) (at : ℕ) (kind : TextKind) → IsFirstFault text at kind → kind ≢ Memory → Seen text at kind
seen text at kind f some = grind arith

same_place : (a b m n total : ℕ) → a + m ≡ total → b + n ≡ total → m ≡ n → a ≡ b
same_place a b m n total p q e = omega (arith, p, q, e)

abbrev failed : Fault → Result (Unit {0}) Fault
failed fault = Err fault

err_same : (a b : Fault) → failed a ≡ failed b → a ≡ b
err_same a b e = cc

both_faults : (text : List ℕ) (a b : ℕ) (k l : TextKind) → Seen text a k → Seen text b l → (a ≡ b) × (k ≡ l)
both_faults text a b k l (inl p) (inl q) = (p.1 ∙ sym q.1, p.2 ∙ sym q.2)
both_faults text a b k l (inl p) (inr q) = absurd (let short = q.0 in omega (arith, short))
both_faults text a b k l (inr p) (inl q) = absurd (let long = q.0 in let short = p.0 in omega (arith, long, short))
both_faults text a b k l (inr p) (inr q) =
    let f = p.1 in
    let g = q.1 in
    let same = err_same (length f.bytes, k) (length g.bytes, l) (sym (fault_runs text a k f) ∙ fault_runs text b l g) in
    (same_place a b (length f.bytes) (length g.bytes) (length text) f.place g.place (ap (λ (x : Fault). x.0) same), ap (λ (x : Fault). x.1) same)

pub one_fault : (text : List ℕ) (a b : ℕ) (k l : TextKind) → IsFirstFault text a k → IsFirstFault text b l → k ≢ Memory → l ≢ Memory → (a ≡ b) × (k ≡ l)
one_fault text a b k l f g p q = both_faults text a b k l (seen text a k f p) (seen text b l g q)

pub no_fault : (text : List ℕ) (roles : List (List ℕ)) (tree : GlobalType) (at : ℕ) (kind : TextKind) → IsWithinLimits text tree → SpellsText text roles tree → IsFirstFault text at kind → kind ≢ Memory → ⊥
no_fault text roles tree at kind limits h f some =
    elim (seen text at kind f some) [
      | inl long ↦ let b = limits.short in omega (arith, b)
      | inr g ↦
          let ok = spelled_runs text roles tree limits h in
          let err = fault_runs text at kind g.1 in
          cc (ok, err)
    ]

pub only_memory : (text : List ℕ) (roles : List (List ℕ)) (tree : GlobalType) (at : ℕ) (kind : TextKind) → IsWithinLimits text tree → SpellsText text roles tree → IsFirstFault text at kind → kind ≡ Memory
only_memory text roles tree at Memory limits h f = refl
only_memory text roles tree at kind limits h f = absurd (no_fault text roles tree at kind limits h f (λ e. cc (e)))
