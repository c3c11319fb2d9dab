-- A line with its seal: how long the seal is, and that the line is found again.
use Rattle.std.proofs.Common.{◌≡◌, ◌+◌, ℕ, List, ◌++◌, length, take, drop, sym, ap, ◌∙◌, arith}
use Rattle.std.proofs.Math.Seq.{take-append_seam, drop-append_seam}
use Rattle.std.proofs.lemmas.List.{length-take-le, length-append}
use Rattle.hex.specs.Hex.{lower_digits}
use Rattle.hex.proofs.HexLemmas.{length-encode_with}
use Rattle.sha2.specs.Sha256.{sha256}
use Rattle.sha2.proofs.Facts256.{length-sha256}
use Rattle.mps_seal.specs.Seals.{seal_of, seal_text, next_seal, sealed}

-- a seal has eight bytes
seal_size : (bytes : List ℕ) → length (seal_of bytes) ≡ 8
seal_size bytes = length-take-le 8 (sha256 bytes) (omega (arith, length-sha256 bytes))

-- a line is seventeen bytes longer with its seal
pub sealed_size : (before line : List ℕ) → length (sealed before line) ≡ length line + 17
sealed_size before line =
    length-append line (seal_text (next_seal before line))
    ∙ ap (λ n. length line + n) (omega (arith, length-encode_with lower_digits (next_seal before line), seal_size (before ++ line)))

-- without these the line is left
pub body : (before line : List ℕ) → take (length line) (sealed before line) ≡ line
body before line = take-append_seam line (seal_text (next_seal before line))

-- after a seal no two lines are sealed alike
pub one : (before line other : List ℕ) → sealed before line ≡ sealed before other → line ≡ other
one before line other e =
    let long = sym (sealed_size before line) ∙ ap length e ∙ sealed_size before other in
    let same : length line ≡ length other = omega (arith, long) in
    sym (body before line) ∙ ap (take (length line)) e ∙ ap (λ n. take n (sealed before other)) same ∙ body before other

-- what stands after that many bytes is the seal of the line
pub seal_there : (before line bytes : List ℕ) → bytes ≡ sealed before line → (count : ℕ) → count + 17 ≡ length bytes
    → drop count bytes ≡ seal_text (next_seal before (take count bytes))
seal_there before line bytes same count size =
    let few : count ≡ length line = omega (arith, size, ap length same, sealed_size before line) in
    let front : take count bytes ≡ line = ap (take count) same ∙ ap (λ n. take n (sealed before line)) few ∙ body before line in
    ap (drop count) same ∙ ap (λ n. drop n (sealed before line)) few
    ∙ drop-append_seam line (seal_text (next_seal before line))
    ∙ ap (λ l. seal_text (next_seal before l)) (sym front)
