-- `cursors` keeps what holds in each turn of its loop, by the lemmas of OpeningCursors.
use Rattle.std.proofs.Common.{◌≡◌, ℕ, suc, ◌+◌, arith, List, [], ◌∷◌, ◌++◌, map, take, get_or, sym, ap, ◌∙◌, subst}
use Rattle.std.proofs.Math.Seq.{take-suc}
use Rattle.std.proofs.lemmas.List.{map-append}
use Rattle.mps_local.specs.declared.Local.{Local}
use Rattle.mps_local.specs.Local.{LocalType, plain}
use Rattle.mps_table.specs.Standing.{StandsFor}
use Rattle.mps_session.specs.Private.Opening.{AreStarts}
use Rattle.mps_session.specs.declared.cursor.Cursor.{Cursor}
use Rattle.mps_session.proofs.OpeningCursors.{starts_push}
use Rattle.mps_session.proofs.open.cursors.Goals as goal

pub loop-t-preserved : goal.loop-t-preserved
loop-t-preserved c =
    let types = c.args.types.now in
    let plus_one : (n : ℕ) → n + 1 ≡ suc n = λ n. omega arith in
    let i = c.loop-t.t-index in
    let t = c.t-item.result in
    let all = c.loop-t.all.items in
    let cursor : Cursor = record { table = c.in-Ok.table; node = c.first-node.result } in
    let taken : map plain (take (i + 1) types) ≡ map plain (take i types) ++ plain t ∷ [] =
    ap (λ (n : ℕ). map plain (take n types)) (plus_one i) ∙ ap (map plain) (take-suc types i t c.loop-t-test.true) ∙ map-append plain (take i types) (get_or types i t ∷ [])
    ∙ ap (λ (x : Local). map plain (take i types) ++ plain x ∷ []) (sym c.t-item.is) in
    let stands = subst (λ (n : ℕ). StandsFor c.in-Ok.table n (plain t)) (sym c.first-node.ensures.first) c.in-Ok.ensures.table in
    subst (λ (cursors : List Cursor). AreStarts (map plain (take (i + 1) types)) cursors) (sym c.in_ok-push.ensures.items)
    (subst (λ (ts : List LocalType). AreStarts ts (all ++ cursor ∷ [])) (sym taken) (starts_push (map plain (take i types)) all (plain t) cursor c.loop-t.invariant stands))
