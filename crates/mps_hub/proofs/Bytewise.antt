-- A first line, byte by byte.
use Rattle.std.proofs.Common.{◌≡◌, ◌≢◌, ℕ, ◌+◌, ◌≤◌, inl, inr, ⊎_elim, List, [], ◌∷◌, ◌++◌, length, refl, sym, ap, ◌∙◌, subst, arith}
use Rattle.std.specs.Io.KnownBytes.{IsAtEnd}
use Rattle.std.proofs.KnownBytes.{Consumes-nil, Consumes-trans}
use Rattle.std.proofs.lemmas.List.{length-take}
use Rattle.mps_dev.specs.declared.traits.Source.{Ghosts}
use Rattle.mps_lines.specs.Lines.{front, max_line, most_kept}
use Rattle.mps_lines.proofs.Splitting.{AllByRecursion-append, front_front, front_short}
use Rattle.mps_dev.specs.Reads.{max_reads}
use Rattle.mps_hub.specs.First.{GaveBytes, HasStopped, HasGoneOn, HasNoFirstLine, IsFirstLine, IsJoin}
use Rattle.mps_hub.specs.Private.First.{IsBegun}

-- what is kept is short
pub short_kept : {R : Type 0} (source : Ghosts R) (old new : R) (kept : List ℕ) → IsBegun source old new kept → length kept ≤ most_kept
short_kept source old new kept h = let long = ap (λ (l : List ℕ). length l) h.front_kept in
    let cut = length-take most_kept h.read in
    omega (arith, long, cut)

-- nothing was read yet
pub none_read : {R : Type 0} (source : Ghosts R) (old : R) → IsBegun source old old []
none_read source old = record { read = []; gave = Consumes-nil (source.remaining old); unbroken = tt; front_kept = refl }

-- From a reader as it was at first, by what it was then, to what it is.
module _ {R : Type 0} (source : Ghosts R) (old mid new : R) (kept : List ℕ) (begun : IsBegun source old mid kept) where
  more_read : (bytes : List ℕ) → GaveBytes source mid new bytes → GaveBytes source old new (begun.read ++ bytes)
  more_read bytes gave = Consumes-trans (source.remaining old) (source.remaining mid) (source.remaining new) begun.read bytes begun.gave gave

  -- one byte more, which ends no line
  pub one_more : (byte : ℕ) (kept' : List ℕ) → GaveBytes source mid new (byte ∷ []) → byte ≢ 10 → kept' ≡ front (kept ++ byte ∷ []) → IsBegun source old new kept'
  one_more byte kept' gave other is = record {
    read = begun.read ++ byte ∷ [];
    gave = more_read (byte ∷ []) gave;
    unbroken = AllByRecursion-append (λ c. c ≢ 10) begun.read (byte ∷ []) begun.unbroken (other, tt);
    front_kept = is ∙ ap (λ (l : List ℕ). front (l ++ byte ∷ [])) begun.front_kept ∙ front_front begun.read (byte ∷ []);
  }

  -- the byte that ends it
  pub last_one : (byte : ℕ) → GaveBytes source mid new (byte ∷ []) → byte ≡ 10 → HasGoneOn source old new → IsFirstLine source old new kept
  last_one byte gave is gone_on = record {
    line = begun.read;
    gave = subst (λ (b : ℕ). GaveBytes source old new (begun.read ++ b ∷ [])) is (more_read (byte ∷ []) gave);
    unbroken = begun.unbroken;
    front_kept = begun.front_kept;
    gone_on = gone_on;
  }

  -- no byte more, since a read failed or found the end
  pub none_more : GaveBytes source mid new [] → HasStopped source mid new → source.failed_calls mid ≡ source.failed_calls old → source.ends mid ≡ source.ends old → HasNoFirstLine source old new
  none_more gave stopped failed ends = record {
    read = begun.read ++ [];
    gave = more_read [] gave;
    unbroken = AllByRecursion-append (λ c. c ≢ 10) begun.read [] begun.unbroken tt;
    stopped = inl (⊎_elim
        (λ (f : source.failed_calls new ≡ source.failed_calls mid + 1). inl (f ∙ ap (λ (n : ℕ). n + 1) failed))
        (λ (e : (source.ends new ≡ source.ends mid + 1) × IsAtEnd (source.remaining new)). inr (e.0 ∙ ap (λ (n : ℕ). n + 1) ends, e.1))
        stopped);
  }

-- it was read from as often as it may be
pub most_read : {R : Type 0} (source : Ghosts R) (old new : R) (kept : List ℕ) → IsBegun source old new kept → source.calls new ≡ source.calls old + max_reads → source.failed_calls new ≡ source.failed_calls old → source.ends new ≡ source.ends old → HasNoFirstLine source old new
most_read source old new kept begun reads failed ends = record { read = begun.read; gave = begun.gave; unbroken = begun.unbroken; stopped = inr (record { no_failure = failed; no_end = ends }, reads) }

-- a short front is the whole line
front_whole : (line kept : List ℕ) → kept ≡ front line → length kept ≤ max_line → kept ≡ line
front_whole line kept is short = is ∙ front_short line (let long = ap (λ (l : List ℕ). length l) is in let cut = length-take most_kept line in omega (arith, long, cut, short))

-- what joins by its front joins
pub joins_whole : (line kept : List ℕ) (session : ℕ) (name : List ℕ) → kept ≡ front line → IsJoin kept session name → IsJoin line session name
joins_whole line kept session name is j = subst (λ (l : List ℕ). IsJoin l session name) (front_whole line kept is j.short) j

-- and what joins is its own front
pub joins_front : (line kept : List ℕ) (session : ℕ) (name : List ℕ) → kept ≡ front line → IsJoin line session name → IsJoin kept session name
joins_front line kept session name is j =
    let same : line ≡ kept = sym (is ∙ front_short line (let s = j.short in omega (arith, s))) in
    subst (λ (l : List ℕ). IsJoin l session name) same j
