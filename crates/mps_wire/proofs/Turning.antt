-- What one read and its answers lead to.
use Rattle.std.proofs.Common.{◌≡◌, ◌≢◌, ◌==◌, ◌+◌, ◌<◌, ◌≤◌, ℕ, List, [], ◌∷◌, ◌++◌, take, drop, Bool, Option, Result, Ok, IsErrAnd, refl, sym, ap, ◌∙◌, subst, inl, inr, ⊎_elim, append_assoc, append-nil, arith, length, length-take, length-append}
use Rattle.std.specs.Io.KnownBytes.{Appends, Consumes, IsAtEnd}
use Rattle.std.proofs.lemmas.Bool.{cases_eq, ne_eqb}
use Rattle.std.proofs.lemmas.List.{take-append-drop}
use Rattle.mps_dev.specs.Calls.{ends_after}
use Rattle.mps_dev.specs.declared.traits.Failed.{Failed}
use Rattle.mps_wire.specs.Answers.{Answering, AnswersBytes, AnswersLines, BreaksOffAnywhere, OfAllLines, OfWholeLines}
use Rattle.mps_wire.specs.Private.Places.{Place, TakesBytes, TakesEnd}
use Rattle.mps_wire.specs.Sending.{TookFront}
use Rattle.mps_lines.specs.Lines.{IsSplit, with_last}
use Rattle.mps_wire.specs.Streams.{Streams, Counts, all_went_well, one_read_ended}
use Rattle.mps_wire.specs.declared.script.ReplayFault.{ReplayFault}
use Rattle.mps_wire.specs.declared.script.ReplayFault.TheVariants.{Memory}
use Rattle.mps_wire.specs.Runs.{Going, Finished, BrokeOffBeforeEnd, BrokeOffAtEnd, BreaksOff, GaveAtLeast}
use Rattle.mps_wire.specs.Private.Turns.{Turned}
use Rattle.mps_wire.proofs.Bytes.{Appends-trans, Appends-none, Consumes-trans, Consumes-none}
use Rattle.mps_lines.proofs.Splitting.{split_more, split_ended}
use Rattle.mps_wire.proofs.Answering.{answered_nothing}

-- whatever comes, the lines go on
pub split_on : (more bytes : List ℕ) (lines : List (List ℕ)) (rest : List ℕ) → IsSplit bytes lines rest → (others : List (List ℕ)) × (left : List ℕ) × IsSplit (bytes ++ more) (lines ++ others) left
split_on [] bytes lines rest s = grind (arith, append-nil bytes, append-nil lines)
split_on (c ∷ more) bytes lines rest s =
    ⊎_elim
    (λ (e : c ≡ 10).
    let next = split_on more (bytes ++ 10 ∷ []) (lines ++ rest ∷ []) [] (split_ended bytes lines rest s) in grind (arith, append_assoc))
    (λ (ne : c ≢ 10).
    let next = split_on more (bytes ++ c ∷ []) lines (rest ++ c ∷ []) (split_more bytes lines rest (c ∷ []) s (ne, tt)) in
    (next.0, next.1, subst (λ (b : List ℕ). IsSplit b (lines ++ next.0) next.1) (append_assoc bytes (c ∷ []) more) next.2))
    (cases_eq c 10)

-- a last line stands after the whole ones
last_after : (lines : List (List ℕ)) (rest : List ℕ) → lines ++ with_last [] rest ≡ with_last lines rest
last_after lines rest = grind (arith, append-nil)

-- answers up to some place in them, and the others
parts : (before answers : List ℕ) (count : ℕ) → before ++ answers ≡ (before ++ take count answers) ++ drop count answers
parts before answers count = ap (λ (l : List ℕ). before ++ l) (sym (take-append-drop count answers)) ∙ sym (append_assoc before (take count answers) (drop count answers))

-- the counts after a read that was answered, and so many failed writes
module _ (old new : Streams) (count : ℕ) (buf : List ℕ) (failed_writes : ℕ) (none_unread : new.failed_reads ≡ old.failed_reads) (ends : new.ends ≡ ends_after {E = Failed} (Ok count) buf old.ends) where
  pub counts_at_end : count ≡ 0 → 0 < length buf → new.failed_writes ≡ old.failed_writes + failed_writes → Counts old new (record { failed_reads = 0; ends = 1; failed_writes = failed_writes })
  counts_at_end none room writes = grind (arith, ends)

  pub counts_before_end : count ≢ 0 → new.failed_writes ≡ old.failed_writes + failed_writes → Counts old new (record { failed_reads = 0; ends = 0; failed_writes = failed_writes })
  counts_before_end some writes = grind (arith, ends)

pub none_more : (old new : ℕ) → new ≡ old → new ≡ old + 0
none_more old new e = omega arith

module _ {S : Type 0} (answers : Answering S) (start : S) where
  -- answers to lines are answers to the first of these and others
  first_part : (lines others : List (List ℕ)) (out written unwritten : List ℕ) (st : S) → AnswersLines answers lines start out st → out ≡ written ++ unwritten → BreaksOffAnywhere answers start (lines ++ others) written
  first_part lines others out written unwritten st a e = grind arith

  -- the answers so far are answers to the first whole lines of what was read, whatever else was read
  broken_of : (bytes more kept out written unwritten : List ℕ) (st : S) → AnswersBytes answers start bytes kept out st → out ≡ written ++ unwritten → OfWholeLines (bytes ++ more) (λ lines. BreaksOffAnywhere answers start lines written)
  broken_of bytes more kept out written unwritten st a e = grind (arith, split_on more bytes a.lines a.rest a.split)

  -- at the end too
  broken_at_end : (bytes kept out written unwritten : List ℕ) (st : S) → AnswersBytes answers start bytes kept out st → out ≡ written ++ unwritten → OfAllLines bytes (λ lines. BreaksOffAnywhere answers start lines written)
  broken_at_end bytes kept out written unwritten st a e = grind (arith, last_after a.lines a.rest, first_part a.lines (with_last [] a.rest) out written unwritten st a.answers_lines e)

  broken_of_all : (bytes out written unwritten : List ℕ) (st : S) → OfAllLines bytes (λ lines. AnswersLines answers lines start out st) → out ≡ written ++ unwritten → OfAllLines bytes (λ lines. BreaksOffAnywhere answers start lines written)
  broken_of_all bytes out written unwritten st a e = grind (arith, append-nil (with_last a.lines a.rest), first_part (with_last a.lines a.rest) [] out written unwritten st a.holds e)

  -- nothing was read or written yet
  pub goes_first : (s : Streams) → Going answers start s s [] start
  goes_first s = record { read = []; out = []; bytes = Consumes-none s.left; sent = Appends-none s.taken; answered = answered_nothing answers start }

  pub begun : (s : Streams) (kept : List ℕ) (st : S) → kept ≡ [] → st ≡ start → Going answers start s s kept st
  begun s kept st e f = grind (arith, goes_first)

  module _ (first old new : Streams) (at : Place S) (going : Going answers start first old at.kept at.state) where
    -- the bytes of a read, after those before
    read_on : (bytes : List ℕ) → Consumes old.left new.left bytes → Consumes first.left new.left (going.read ++ bytes)
    read_on bytes more = Consumes-trans first.left old.left new.left going.read bytes going.bytes more

    read_none : Consumes old.left new.left [] → Consumes first.left new.left going.read
    read_none none = subst (λ (b : List ℕ). Consumes first.left new.left b) (append-nil going.read) (read_on [] none)

    -- the answers that were written, after those before
    sent_on : (more : List ℕ) → Appends old.taken new.taken more → Appends first.taken new.taken (going.out ++ more)
    sent_on more sent = Appends-trans first.taken old.taken new.taken going.out more going.sent sent

    -- the answers that waited are those of this read
    waited : (next : Place S) (more : List ℕ) (P : List ℕ → Type 0) → at.waiting ≡ [] → next.waiting ≡ at.waiting ++ more → P next.waiting → P more
    waited next more P none is h = subst P (is ∙ ap (λ (l : List ℕ). l ++ more) none) h

    -- memory ran out after more was read
    starved : (bytes : List ℕ) → Consumes old.left new.left bytes → new.taken ≡ old.taken → BrokeOffBeforeEnd answers start first new
    starved bytes more same = record {
      read = going.read ++ bytes;
      written = going.out;
      bytes = read_on bytes more;
      sent = subst (λ (t : Option (List ℕ)). Appends first.taken t going.out) (sym same) going.sent;
      answered = broken_of going.read bytes at.kept going.out going.out [] at.state going.answered (sym (append-nil going.out));
    }

    -- memory ran out at the end
    starved_at_end : Consumes old.left new.left [] → IsAtEnd new.left → new.taken ≡ old.taken → BrokeOffAtEnd answers start first new
    starved_at_end none over same = record {
      read = going.read;
      written = going.out;
      bytes = read_none none;
      over = over;
      sent = subst (λ (t : Option (List ℕ)). Appends first.taken t going.out) (sym same) going.sent;
      answered = broken_at_end going.read at.kept going.out going.out [] at.state going.answered (sym (append-nil going.out));
    }

    starves : (kept : List ℕ) (st : S) (r : Result Bool ReplayFault) → IsErrAnd r (λ e. e ≡ Memory) → BreaksOff answers start first old new all_went_well → Turned answers start first old new kept st r
    starves kept st r h b = grind arith

    pub runs_out : (kept : List ℕ) (st : S) (r : Result Bool ReplayFault) → IsErrAnd r (λ e. e ≡ Memory) → (bytes : List ℕ) → Consumes old.left new.left bytes → new.taken ≡ old.taken → Counts old new all_went_well → Turned answers start first old new kept st r
    runs_out kept st r h bytes more same counts = starves kept st r h (inl (starved bytes more same, counts))

    pub runs_out_at_end : (kept : List ℕ) (st : S) (r : Result Bool ReplayFault) → IsErrAnd r (λ e. e ≡ Memory) → Consumes old.left new.left [] → IsAtEnd new.left → new.taken ≡ old.taken → Counts old new one_read_ended → Turned answers start first old new kept st r
    runs_out_at_end kept st r h none over same counts = starves kept st r h (inr (starved_at_end none over same, counts))

    module _ (next : Place S) (bytes : List ℕ) (none_waits : at.waiting ≡ []) (more : Consumes old.left new.left bytes) (fed : TakesBytes answers start bytes at next) where
      pub goes_on : Appends old.taken new.taken next.waiting → Going answers start first new next.kept next.state
      goes_on sent =
          let f = fed going.read going.out going.answered in
          grind (arith, read_on, sent_on, waited)

      pub breaks_off : TookFront old.taken new.taken next.waiting → BrokeOffBeforeEnd answers start first new
      breaks_off front =
          let f = fed going.read going.out going.answered in
          let written = take front.count f.0 in
          record {
            read = going.read ++ bytes;
            written = going.out ++ written;
            bytes = read_on bytes more;
            sent = sent_on written (waited next f.0 (λ (l : List ℕ). Appends old.taken new.taken (take front.count l)) none_waits f.1 front.taken);
            answered =
                subst (λ (b : List ℕ). OfWholeLines b (λ lines. BreaksOffAnywhere answers start lines (going.out ++ written))) (append-nil (going.read ++ bytes))
                (broken_of (going.read ++ bytes) [] next.kept (going.out ++ f.0) (going.out ++ written) (drop front.count f.0) next.state f.2 (parts going.out f.0 front.count));
          }

    module _ (next : Place S) (none_waits : at.waiting ≡ []) (none : Consumes old.left new.left []) (done : TakesEnd answers start at next) where
      pub ends : IsAtEnd new.left → Appends old.taken new.taken next.waiting → Finished answers start first new next.state
      ends over sent =
          let f = done going.read going.out going.answered in
          grind (arith, read_none, sent_on, waited)

      pub end_breaks_off : IsAtEnd new.left → TookFront old.taken new.taken next.waiting → BrokeOffAtEnd answers start first new
      end_breaks_off over front =
          let f = done going.read going.out going.answered in
          let written = take front.count f.0 in
          record {
            read = going.read;
            written = going.out ++ written;
            bytes = read_none none;
            over = over;
            sent = sent_on written (waited next f.0 (λ (l : List ℕ). Appends old.taken new.taken (take front.count l)) none_waits f.1 front.taken);
            answered = broken_of_all going.read (going.out ++ f.0) (going.out ++ written) (drop front.count f.0) next.state f.2 (parts going.out f.0 front.count);
          }

-- memory ran out before the first read
pub starved_first : {S : Type 0} (answers : Answering S) (start : S) (s : Streams) → BrokeOffBeforeEnd answers start s s
starved_first answers start s =
    starved answers start s s s (record { kept = []; state = start; waiting = [] }) (goes_first answers start s) [] (Consumes-none s.left) refl

-- the bytes that a read gave
pub gave_none : (s : Streams) → GaveAtLeast 0 s s
gave_none s = record { read = []; bytes = Consumes-none s.left; many = omega arith }

-- a read that gave nothing was the last, and any other was not
pub was_last : {S : Type 0} (answers : Answering S) (start : S) (first old new : Streams) (kept : List ℕ) (st : S) (count : ℕ) → count ≡ 0 → Finished answers start first new st × Counts old new one_read_ended → Turned answers start first old new kept st (Ok (count == 0))
was_last answers start first old new kept st count e done = rw e done

pub was_not_last : {S : Type 0} (answers : Answering S) (start : S) (first old new : Streams) (kept : List ℕ) (st : S) (count : ℕ) → count ≢ 0 → Going answers start first new kept st × Counts old new all_went_well × GaveAtLeast 1 old new → Turned answers start first old new kept st (Ok (count == 0))
was_not_last answers start first old new kept st count some going = rw (ne_eqb count 0 some) going

pub gave_some : (old new : Streams) (count : ℕ) (buf : List ℕ) → count ≢ 0 → count ≤ length buf → Consumes old.left new.left (take count buf) → GaveAtLeast 1 old new
gave_some old new count buf some within h = record { read = take count buf; bytes = h; many = omega (arith, length-take count buf) }

pub gave_more : (first old new : Streams) (count : ℕ) → GaveAtLeast count first old → GaveAtLeast 1 old new → GaveAtLeast (count + 1) first new
gave_more first old new count a b = grind (arith, Consumes-trans, length-append)

pub gave_fewer : (first now : Streams) (count fewer : ℕ) → fewer ≤ count → GaveAtLeast count first now → GaveAtLeast fewer first now
gave_fewer first now count fewer few g = record { read = g.read; bytes = g.bytes; many = omega (arith, g.many) }

pub none_taken : (left left' : Option (List ℕ)) (count : ℕ) (buf : List ℕ) → count ≡ 0 → Consumes left left' (take count buf) → Consumes left left' []
none_taken left left' count buf e h = subst (λ (n : ℕ). Consumes left left' (take n buf)) e h
