-- A fault that a function hands on.
use Rattle.std.proofs.Common.{arith, ◌≡◌, List, ◌++◌, Result, Err}
use Rattle.std.specs.Result.{IsErrAnd}
use Rattle.mps_text.specs.Private.Lexing.{Fails, lexeme_at, unblanked}
use Rattle.std.specs.Prelude.{length, ◌≢◌}
use Rattle.mps_text.specs.Private.Reading.{Symbol, Takes, Reads, Ends, run_from}
use Rattle.mps_text.specs.declared.lexing.Cursor.{Cursor}
use Rattle.mps_text.specs.declared.lexing.Halt.{Halt}
use Rattle.mps_text.specs.declared.lexing.Halt.TheVariants as halts
use Rattle.mps_text.specs.declared.lexing.Lexeme.{Lexeme as Lexeme'}
use Rattle.mps_text.proofs.Steps.{run_stop, stop_behind}

pub take_fails : (r : Result Lexeme' Halt) (h : Halt) (old new : Cursor) → IsErrAnd r (λ e. e ≡ h) → Fails h (lexeme_at old.rest.now) → Takes r old new
take_fails r h old new e f = grind (arith, run_stop)

pub end_fails : (r : Result (Unit {0}) Halt) (h : Halt) (cursor : Cursor) → IsErrAnd r (λ e. e ≡ h) → length (unblanked cursor.rest.now) ≢ 0 → Fails h (lexeme_at cursor.rest.now) → Ends cursor r
end_fails r h cursor e some f = grind (arith, stop_behind)

-- a function has read up to what another one failed at
pub fails_behind : {X Y : Type 0} (stack back : List Symbol) (behind : X → List Symbol) (then : Y → List Symbol) (old mid new end : Cursor) (r : Result X Halt) (q : Result Y Halt) (h : Halt) → ((others : List Symbol) → run_from (stack ++ others) old ≡ run_from (back ++ others) mid) → IsErrAnd r (λ e. e ≡ h) → q ≡ Err h → Reads back then mid end q → Reads stack behind old new r
fails_behind stack back behind then old mid new end r q h read e f g = grind arith
