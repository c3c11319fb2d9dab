-- What is foreseen of a line that can be read, by where its number stands.
use Rattle.std.proofs.Common.{◌≡◌, ℕ, false, List, Option, None, Some, Result, Ok, Err, refl, sym, subst, ◌∙◌}
use Rattle.mps_command.specs.declared.command.Command.{Command}
use Rattle.mps_line.specs.declared.write_replies.Reply.{Reply}
use Rattle.mps_line.specs.declared.write_replies.Reply.TheVariants.{Number as WrongNumber}
use Rattle.mps_room.specs.Journal.{answer_to, refusal_of}
use Rattle.mps_room.specs.Numbers.{last_of, IsPosition}
use Rattle.mps_room.specs.declared.numbers.Position.{Position}
use Rattle.mps_room.specs.declared.numbers.Position.TheVariants.{Last, Next, Elsewhere}
use Rattle.mps_wire.specs.Conversations.{IsRequest}
use Rattle.mps_embed.specs.Embedded.{EmbeddedState, ForetellsWhole, Again, Misnumbered, Judged, foretold_of, newest_at}

module _ (e : EmbeddedState) (role : ℕ) (line : List ℕ) (command : Command) (last : ℕ) (last_is : last ≡ last_of (newest_at e role)) where
  stands : (n : ℕ) (p q : Position) → p ≡ q → IsPosition last n p → IsPosition (last_of (newest_at e role)) n q
  stands n p q e h = subst (λ (l : ℕ). IsPosition l n q) last_is (subst (IsPosition last n) e h)

  pub foretold_again : (number : Option ℕ) (p : Position) → IsRequest false e.room.names line number command → (number ≡ None → p ≡ Next) → ((n : ℕ) → number ≡ Some n → IsPosition last n p) → p ≡ Last → ForetellsWhole e role line (Ok tt)
  foretold_again None p readable none some is = absurd (let clash : Last ≡ Next = sym is ∙ none refl in cc)
  foretold_again (Some n) p readable none some is = Again (record { number = n; command = command; readable = readable; stands = stands n p Last is (some n refl) }) refl

  pub foretold_wrong : (number : Option ℕ) (p : Position) → IsRequest false e.room.names line number command → (number ≡ None → p ≡ Next) → ((n : ℕ) → number ≡ Some n → IsPosition last n p) → p ≡ Elsewhere → ForetellsWhole e role line (Err WrongNumber)
  foretold_wrong None p readable none some is = absurd (let clash : Elsewhere ≡ Next = sym is ∙ none refl in cc)
  foretold_wrong (Some n) p readable none some is = Misnumbered (record { number = n; command = command; readable = readable; stands = stands n p Elsewhere is (some n refl) }) refl

  pub foretold_judged : (number : Option ℕ) (p : Position) (told : Result Unit Reply) → IsRequest false e.room.names line number command → ((n : ℕ) → number ≡ Some n → IsPosition last n p) → p ≡ Next → told ≡ foretold_of (refusal_of (answer_to e.room.names e.room.types e.room.journal role command)) → ForetellsWhole e role line told
  foretold_judged None p told readable some is judged = Judged (record { number = None; command = command; readable = readable; next = tt; judged = judged })
  foretold_judged (Some n) p told readable some is judged = Judged (record { number = Some n; command = command; readable = readable; next = stands n p Next is (some n refl); judged = judged })
