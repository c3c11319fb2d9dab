-- Known bytes, over several calls of a device.
use Rattle.std.proofs.Common.{◌≡◌, ℕ, ◌+◌, ◌-◌, ◌≤◌, List, [], ◌++◌, length, take, drop, Option, arith, append_assoc, append-nil, length-drop, length-take, length-append}
use Rattle.std.specs.Io.KnownBytes.{Appends, Consumes}
use Rattle.std.proofs.Math.Seq.{take-add}
use Rattle.std.proofs.lemmas.List.{take_rest, drop-drop}

-- bytes, and then more
pub Appends-trans : (a b c : Option (List ℕ)) (xs ys : List ℕ) → Appends a b xs → Appends b c ys → Appends a c (xs ++ ys)
Appends-trans a b c xs ys h k = grind (arith, append_assoc)

pub Appends-none : (a : Option (List ℕ)) → Appends a a []
Appends-none a = grind (arith, append-nil)

pub Consumes-trans : (a b c : Option (List ℕ)) (xs ys : List ℕ) → Consumes a b xs → Consumes b c ys → Consumes a c (xs ++ ys)
Consumes-trans a b c xs ys h k = grind (arith, append_assoc)

pub Consumes-none : (a : Option (List ℕ)) → Consumes a a []
Consumes-none a = grind arith

-- what is left to send, and what was sent
pub record Sending (old now : Option (List ℕ)) (bytes rest : List ℕ) : Type 0 where
  pub within : length rest ≤ length bytes
  pub left : rest ≡ drop (length bytes - length rest) bytes
  pub sent : Appends old now (take (length bytes - length rest) bytes)

pub sends_on : (old mid new : Option (List ℕ)) (bytes rest : List ℕ) (count : ℕ) → Sending old mid bytes rest → count ≤ length rest → Appends mid new (take count rest) → Sending old new bytes (take (length rest - count) (drop count rest))
sends_on old mid new bytes rest count s few more =
    let n = length bytes - length rest in
    let is : take (length rest - count) (drop count rest) ≡ drop count rest = take_rest rest count in
    let long : length (drop count rest) ≡ length rest - count = length-drop count rest in
    let past : length bytes - length (drop count rest) ≡ n + count = omega (arith, s.within, long, few) in
    grind (arith, drop-drop, take-add, Appends-trans)

-- a buffer that was read into is as long as before
pub same_space : (len n : ℕ) (new items : List ℕ) → len ≡ length items → length items ≡ n → length (take len (new ++ drop (length new) items)) ≡ n
same_space len n new items e f = omega (arith, e, f, length-take len (new ++ drop (length new) items), length-append new (drop (length new) items), length-drop (length new) items)
