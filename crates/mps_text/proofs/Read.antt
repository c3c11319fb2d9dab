-- What the reader took is spelled so, and each text spells a protocol or has a fault.
use Rattle.std.proofs.Common.{arith, ◌≡◌, ℕ, ◌≤◌, ◌⊎◌, inl, inr, List, [], ◌∷◌, ◌++◌, length, Result, Ok, Err, refl, ap, sym, ◌∙◌}
use Rattle.std.specs.Prelude.{codes}
use Rattle.std.specs.List.{AllByRecursion}
use Rattle.std.proofs.lemmas.Bool.{cases_lt}
use Rattle.std.proofs.lemmas.List.{append-nil}
use Rattle.mps_base.specs.Names.{IsName}
use Rattle.mps_base.specs.RoleLists.{HasRoleCount}
use Rattle.mps_global.specs.Global.{GlobalType}
use Rattle.mps_text.specs.Grammar.{protocol_tokens, IsSpellable, SpellsProtocol, SpellsText, IsWithinLimits}
use Rattle.mps_text.specs.Faults.{HasProtocol, HasFault}
use Rattle.mps_text.specs.declared.fault.TextKind.TheVariants.{TooLong}
use Rattle.mps_text.specs.Private.Writing.{global_tokens}
use Rattle.mps_text.specs.Private.Lexing.{Fault, lexed, tokens_in}
use Rattle.mps_text.specs.Private.Reading.{run, whole, tokens_before}
use Rattle.mps_text.proofs.Machine.{drives_one}
use Rattle.mps_text.proofs.Trees.{protocol_starts, before_is, protocol_tokens_are, drives_whole}
use Rattle.mps_text.proofs.Limits.{within_protocol}
use Rattle.mps_text.proofs.Cuts.{text_cut}
use Rattle.mps_text.proofs.Runs.{Passed, run_passes}
use Rattle.mps_text.proofs.FirstFault.{whole_by, first_fault, fault_kind}

-- what a whole run drives away is within the limits
passed : (text : List ℕ) (roles : List (List ℕ)) (tree : GlobalType) → length text ≤ 65536 → Passed (tokens_in (lexed text)) whole 256 text → SpellsProtocol (tokens_in (lexed text)) roles tree → IsWithinLimits text tree × SpellsText text roles tree
passed text roles tree short w s =
    let same = (drives_one whole (tokens_in (lexed text)) [] w.starts [] (protocol_starts roles tree) w.drives (drives_whole (tokens_in (lexed text)) roles tree s)).1 in
    grind (arith, within_protocol)

pub taken : (text : List ℕ) (roles : List (List ℕ)) (tree : GlobalType) → length text ≤ 65536 → run whole 256 (lexed text) ≡ Ok tt → tokens_in (lexed text) ≡ codes "roles" ∷ roles ++ codes ";" ∷ tokens_before tree [] → AllByRecursion IsName roles → HasRoleCount roles → IsSpellable tree → IsWithinLimits text tree × SpellsText text roles tree
taken text roles tree short h tokens names count body =
    let w = run_passes (lexed text) whole 256 text (text_cut text) h in
    let alone : tokens_before tree [] ≡ global_tokens tree = before_is tree [] body ∙ append-nil (global_tokens tree) in
    let parts : tokens_in (lexed text) ≡ protocol_tokens roles tree = tokens ∙ ap (λ (ts : List (List ℕ)). codes "roles" ∷ roles ++ codes ";" ∷ ts) alone ∙ sym (protocol_tokens_are roles tree) in
    let s : SpellsProtocol (tokens_in (lexed text)) roles tree = record { names = names; count = count; body = body; parts = parts } in
    passed text roles tree short w s

-- ---- each text spells a protocol or has a fault

answered : (text : List ℕ) (r : Result (Unit {0}) Fault) → length text ≤ 65536 → run whole 256 (lexed text) ≡ r → HasProtocol text ⊎ HasFault text
answered text (Ok tt) short h =
    let w = run_passes (lexed text) whole 256 text (text_cut text) h in
    let p = whole_by (tokens_in (lexed text)) w.starts w.drives in
    grind (arith, passed text p.0 p.1 short w p.2)
answered text (Err fault) short h = grind (arith, first_fault text fault.0 fault.1 short h, fault_kind text fault.0 fault.1 h)

pub protocol_or_fault : (text : List ℕ) → HasProtocol text ⊎ HasFault text
protocol_or_fault text =
    elim (cases_lt 65536 (length text)) [
      | inl long ↦ inr (65536, TooLong, (long, refl), λ e. cc (e))
      | inr short ↦ answered text (run whole 256 (lexed text)) short refl
    ]
