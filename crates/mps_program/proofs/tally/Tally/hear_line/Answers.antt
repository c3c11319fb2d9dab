-- `Tally::hear_line` meets its clause `heard`, by the lemmas of Hearing.
use Rattle.std.proofs.Common.{◌≡◌, ◌+◌, ◌-◌, ◌<◌, ◌%◌, ◌^◌, drop, length, refl, sym, ap, ◌∙◌, arith, take_all, length-drop}
use Rattle.mps_program.specs.declared.tally.Tally.{Tally}
use Rattle.mps_program.proofs.Hearing.{hears_begun, hears_ended, more, more_begins, more_later, more_other}
use Rattle.mps_program.proofs.tally.Tally.hear_line.Goals as goal
use Rattle.mps_program.proofs.tally.Tally.hear_line.Goals.{After-line_end, then-not-self+then-bytes-eq114, else-not-self, else-not-self-via-then-not-self+else-bytes-eq114, else-not-self-via-else-not-self}

-- the refusals are one more where one begins
refused : (c : After-line_end) → c.args.self.now.refused < 2 ^ 64 → c.if-not-self.self.refused ≡ (c.args.self.now.refused + more c.args.self.now.within c.args.bytes.now) % 2 ^ 64
refused c low =
    let within = c.args.self.now.within in
    let bytes = c.args.bytes.now in
    elim c.if-not-self.branch [
      | then-not-self+then-bytes-eq114 w ↦
          let one = more_begins within bytes w.if-not-self.true w.if-bytes-eq114.true in
          ap (λ (t : Tally). t.refused) w.self-is ∙ ap (λ n. (c.args.self.now.refused + n) % 2 ^ 64) (sym one)
      | else-not-self w ↦
          let none : more within bytes ≡ 0 = elim w.else-not-self.branch [
            | else-not-self-via-then-not-self+else-bytes-eq114 v ↦ more_other within bytes v.if-not-self.true v.if-bytes-eq114.false
            | else-not-self-via-else-not-self v ↦ more_later within bytes v.if-not-self.false
          ] in
          omega (arith, ap (λ (t : Tally). t.refused) w.self-is, none, low)
    ]

lines : (c : After-line_end) → c.if-not-self.self.lines ≡ c.args.self.now.lines
lines c = elim c.if-not-self.branch [
  | then-not-self+then-bytes-eq114 w ↦ ap (λ (t : Tally). t.lines) w.self-is
  | else-not-self w ↦ ap (λ (t : Tally). t.lines) w.self-is
]

pub returns-in-Some-clause-heard : goal.returns-in-Some-clause-heard
returns-in-Some-clause-heard c all h =
    let l = (goal.at.returns-in-Some-clause-heard c).After-line_end in
    let bytes = c.args.bytes.now in
    let end = c.in-Some.end in
    rw (take_all (length bytes - (end + 1)) (drop (end + 1) bytes) (omega (arith, length-drop (end + 1) bytes)))
    (hears_ended c.args.self.now _ bytes all end c.in-Some.ensures.within c.in-Some.ensures.end c.in-Some.ensures.before (ap (λ n. (n + 1) % 2 ^ 64) (lines l)) (refused l (omega (arith, h.counted.refused))) refl h)

pub returns-in-None-clause-heard : goal.returns-in-None-clause-heard
returns-in-None-clause-heard c all h =
    let l = (goal.at.returns-in-None-clause-heard c).After-line_end in
    hears_begun c.args.self.now _ c.args.bytes.now all (c.in-None.ensures.none) (omega arith) (lines l) (refused l (omega (arith, h.counted.refused))) refl h
