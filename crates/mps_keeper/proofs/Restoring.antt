-- Lines that are restored one after the other.
use Rattle.std.proofs.Common.{◌≡◌, ◌≢◌, ℕ, zero, suc, ◌+◌, ◌-◌, ◌<◌, ◌≤◌, Bool, true, false, List, [], ◌∷◌, ◌++◌, length, take, drop, get_or, if◌then◌else◌, refl, sym, ap, ◌∙◌, subst, arith, append_assoc, append-nil, length-drop, length-append}
use Rattle.std.specs.Prelude.{Option, None, Some, slice_set}
use Rattle.mps_command.specs.declared.answer.Answer.{Answer}
use Rattle.mps_command.specs.declared.answer.Answer.TheVariants.{Refused as Denied}
use Rattle.mps_command.specs.declared.answer.Refusal.TheVariants.{Memory as OutOfMemory}
use Rattle.mps_command.specs.declared.command.Command.{Command}
use Rattle.mps_machine.proofs.Answering.{from_ok}
use Rattle.mps_room.specs.Callers.{entry}
use Rattle.mps_room.specs.Journal.{answer_to, grown, is_accepted, MayAnswer}
use Rattle.mps_room.specs.Numbers.{newest_of}
use Rattle.mps_room.specs.declared.numbers.Numbered.{Numbered}
use Rattle.mps_room.specs.declared.numbers.Numbers.{Numbers}
use Rattle.std.specs.Io.KnownBytes.{Consumes}
use Rattle.mps_wire.proofs.Bytes.{Consumes-trans}
use Rattle.std.specs.List.{flat_map, AllByRecursion}
use Rattle.std.proofs.lemmas.Grind.{flat_map-append}
use Rattle.std.proofs.lemmas.List.{take_rest, take_more, take-append-drop}
use Rattle.mps_lines.specs.Lines.{HasNoBreak, ended}
use Rattle.mps_local.specs.Local.{LocalType}
use Rattle.mps_keeper.specs.Restored.{Standing, IsCalled, IsNext, kept_after, LineRefused, LinesRestored}
use Rattle.mps_keeper.specs.RestoredFaults.{ReadsMore, of_reading, AreRestored, IsUncalled, IsUnspelled, IsFirstFault, IsBodyFault, IsFaulty, IsNextRestored}
use Rattle.mps_keeper.specs.Chains.{Reads, ReadsAll, in_front}
use Rattle.mps_keeper.specs.declared.chain.Chain.{Chain}
use Rattle.mps_line.specs.declared.read_commands.LineFault.{LineFault}
use Rattle.mps_line.specs.declared.read_commands.LineFault.TheVariants as reading
use Rattle.mps_keeper.specs.declared.restore.RestoreFault.{RestoreFault}
use Rattle.mps_keeper.specs.declared.restore.RestoreFault.TheVariants.{Memory, Refused}

all_and_one : (lines : List (List ℕ)) (line : List ℕ) → AllByRecursion HasNoBreak lines → HasNoBreak line → AllByRecursion HasNoBreak (lines ++ line ∷ [])
all_and_one [] line h k = (k, tt)
all_and_one (l ∷ lines) line h k = (h.0, all_and_one lines line h.1 k)

-- the bytes up to the k-th, where an LF stands, and those after it
pub line_cut : (rest : List ℕ) (k : ℕ) → k < length rest → get_or rest k 0 ≡ 10 → rest ≡ ended (take k rest) ++ drop (k + 1) rest
line_cut rest k less is = grind (arith, take_more, take-append-drop)

module _ (names : List (List ℕ)) (types : List LocalType) where
  -- a line that can't be read is at fault
  pub faulty_reading : (before : Standing) (line : List ℕ) (at : ℕ) (r : RestoreFault) (fault : LineFault) → r ≡ of_reading at fault → (fault ≡ reading.Bad → IsUnspelled names line) → IsBodyFault names types before line at r
  faulty_reading before line at r fault is bad = subst (IsBodyFault names types before line at) (sym is) (of_it fault bad)
    where
      of_it : (f : LineFault) → (f ≡ reading.Bad → IsUnspelled names line) → IsBodyFault names types before line at (of_reading at f)
      of_it reading.Bad b = (refl, b refl)
      of_it reading.Memory b = tt

  -- a line whose command isn't accepted is at fault
  pub faulty_call : (before : Standing) (line : List ℕ) (at : ℕ) (WasRefused : Type 0) (fault : RestoreFault) → (WasRefused → LineRefused names types before line) → IsUncalled WasRefused at fault → IsBodyFault names types before line at fault
  faulty_call before line at WasRefused (Refused number) why h = (h.0, why h.1)
  faulty_call before line at WasRefused Memory why h = tt
  faulty_call before line at WasRefused other why h = absurd h

  -- lines after lines
  restored_more : (before : Standing) (lines : List (List ℕ)) (mid : Standing) (next : List (List ℕ)) (after : Standing) → LinesRestored names types before lines mid → LinesRestored names types mid next after → LinesRestored names types before (lines ++ next) after
  restored_more before [] mid next after h k = subst (λ (m : Standing). LinesRestored names types m next after) h k
  restored_more before (l ∷ lines) mid next after h k = (h.0, h.1, restored_more h.0 lines mid next after h.2 k)

  front_more : (body : Option (List ℕ)) (others next : List (List ℕ)) → in_front body others ++ next ≡ in_front body (others ++ next)
  front_more None others next = refl
  front_more (Some body) others next = refl

  reads_more : (a : Chain) (lines bodies : List (List ℕ)) (b : Chain) (line : List ℕ) (body : Option (List ℕ)) (c : Chain) → ReadsAll a lines bodies b → Reads b line body c → ReadsAll a (lines ++ line ∷ []) (bodies ++ in_front body []) c
  reads_more a [] bodies b line body c h k = (c, body, [], subst (λ (x : Chain). Reads x line body c) h.1 k, ap (λ (l : List (List ℕ)). l ++ in_front body []) h.0, (refl, refl))
  reads_more a (l ∷ lines) bodies b line body c h k =
      (h.0, h.1, h.2 ++ in_front body [], h.3, ap (λ (x : List (List ℕ)). x ++ in_front body []) h.4 ∙ front_more h.1 h.2 (in_front body []), reads_more h.0 lines h.2 b line body c h.5 k)

  -- what was restored of the bytes up to the rest, in so many lines with so many commands
  pub record Restoring (first : List ℕ) (before : Standing) (bytes rest : List ℕ) (chain : Chain) (after : Standing) (count at : ℕ) : Type 0 where
    pub lines : List (List ℕ)
    pub whole : bytes ≡ flat_map ended lines ++ rest
    pub each : AllByRecursion HasNoBreak lines
    pub bodies : List (List ℕ)
    pub all : AreRestored names types first before bytes lines bodies chain after
    pub counted : count ≡ length bodies
    pub placed : at ≡ length lines
    pub under : count ≤ at
    pub few : at + length rest ≤ length bytes

  module _ (first : List ℕ) (before : Standing) (bytes : List ℕ) where
    one_more : (lines bodies : List (List ℕ)) (chain : Chain) (mid : Standing) (line : List ℕ) (chain' : Chain) (after : Standing) (n : ℕ) → AreRestored names types first before bytes lines bodies chain mid → (k : IsNextRestored names types chain mid line chain' after n)
        → AreRestored names types first before bytes (lines ++ line ∷ []) (bodies ++ in_front k.body []) chain' after
    one_more lines bodies chain mid line chain' after n h k = record {
      read = reads_more (record { seal = first; is_sealed = false }) lines bodies chain line k.body chain' h.read k.read;
      restored = restored_more before bodies mid (in_front k.body []) after h.restored k.restored;
    }

    pub goes_on : (rest : List ℕ) (chain chain' : Chain) (mid after : Standing) (count at k n : ℕ) → Restoring first before bytes rest chain mid count at → k < length rest → get_or rest k 0 ≡ 10 → HasNoBreak (take k rest) → n ≤ 1 → IsNextRestored names types chain mid (take k rest) chain' after n
        → Restoring first before bytes (take (length rest - (k + 1)) (drop (k + 1) rest)) chain' after (count + n) (at + 1)
    goes_on rest chain chain' mid after count at k n r less is none one line =
        let cut : take (length rest - (k + 1)) (drop (k + 1) rest) ≡ drop (k + 1) rest = take_rest rest (k + 1) in
        subst (λ (l : List ℕ). Restoring first before bytes l chain' after (count + n) (at + 1)) (sym cut) record {
          lines = r.lines ++ take k rest ∷ [];
          whole = grind (arith, flat_map-append ended r.lines (take k rest ∷ []), append-nil (ended (take k rest)), line_cut rest k less is, append_assoc (flat_map ended r.lines) (ended (take k rest)) (drop (k + 1) rest));
          each = all_and_one r.lines (take k rest) r.each none;
          bodies = r.bodies ++ in_front line.body [];
          all = one_more r.lines r.bodies chain mid (take k rest) chain' after n r.all line;
          counted = omega (arith, r.counted, line.counted, length-append r.bodies (in_front line.body []));
          placed = omega (arith, r.placed, length-append r.lines (take k rest ∷ []));
          under = omega (arith, r.under, one);
          few = omega (arith, r.few, length-drop (k + 1) rest, less);
        }

    pub breaks : (rest : List ℕ) (chain : Chain) (mid : Standing) (count at k : ℕ) (fault : RestoreFault) → Restoring first before bytes rest chain mid count at → k < length rest → get_or rest k 0 ≡ 10 → IsFaulty names types chain mid (take k rest) (at + 1) fault → IsFirstFault names types first before bytes fault
    breaks rest chain mid count at k fault r less is faulty = record {
      lines = r.lines;
      line = take k rest;
      others = drop (k + 1) rest;
      whole = grind (arith, line_cut rest k less is);
      bodies = r.bodies;
      chain = chain;
      mid = mid;
      all = r.all;
      faulty = subst (λ (n : ℕ). IsFaulty names types chain mid (take k rest) (n + 1) fault) r.placed faulty;
    }

pub reads_on : (left mid left' : Option (List ℕ)) (all all' : List ℕ) → Consumes left mid all → ReadsMore mid left' all all' → Consumes left left' all'
reads_on left mid left' all all' h k = subst (Consumes left left') (sym k.added) (Consumes-trans left mid left' all k.more h k.bytes)

-- ---- one command

-- what was refused so may have been refused for another reason
pub uncalled_by : (P Q : Type 0) (at : ℕ) (fault : RestoreFault) → (P → Q) → IsUncalled P at fault → IsUncalled Q at fault
uncalled_by P Q at (Refused line) why h = (h.0, why h.1)
uncalled_by P Q at Memory why h = tt
uncalled_by P Q at other why h = absurd h

-- the newest of each, where one is another
pub newest_set : (xs : List Numbers) (i : ℕ) (x : Numbers) → newest_of (slice_set xs i x) ≡ slice_set (newest_of xs) i x.newest
newest_set [] i x = refl
newest_set (y ∷ xs) zero x = refl
newest_set (y ∷ xs) (suc i) x = ap (λ (l : List (Option Numbered)). y.newest ∷ l) (newest_set xs i x)

-- an answer that accepts is the one that is due
accepted_is : (a wanted : Answer) → MayAnswer a wanted → is_accepted a ≡ true → a ≡ wanted
accepted_is a wanted says done = grind (arith, from_ok)

-- where one refuses, and not for want of memory, the one that is due refuses
pub refused_is : (a wanted : Answer) → MayAnswer a wanted → (is_accepted a ≡ false) × (a ≢ Denied OutOfMemory) → is_accepted wanted ≡ false
refused_is a wanted says refused = grind (arith, from_ok)

pub called : (names : List (List ℕ)) (types : List LocalType) (before after : Standing) (role : ℕ) (number : Option ℕ) (command : Command) (answer : Answer) → role < length types → MayAnswer answer (answer_to names types before.journal role command) → is_accepted answer ≡ true
    → IsNext (get_or before.newest role None) number → after.journal ≡ grown before.journal role command answer → after.newest ≡ kept_after before.newest role number answer → IsCalled names types before role number command after
called names types before after role number command answer known says accepted next journal newest = record {
  answer = answer;
  follows = record { known = known; accepted = accepted; answer = accepted_is answer (answer_to names types before.journal role command) says accepted };
  next = next;
  joined = journal ∙ ap (λ (b : Bool). if b then before.journal ++ entry role command answer ∷ [] else before.journal) accepted;
  kept = newest;
}

-- what was said of the same names and types
pub next_of : (names names' : List (List ℕ)) (types types' : List LocalType) (chain : Chain) (before : Standing) (line : List ℕ) (chain' : Chain) (after : Standing) (n : ℕ) → names' ≡ names → types' ≡ types → IsNextRestored names' types' chain before line chain' after n → IsNextRestored names types chain before line chain' after n
next_of names names' types types' chain before line chain' after n same same' h =
    subst (λ (x : List (List ℕ) × List LocalType). IsNextRestored x.0 x.1 chain before line chain' after n) (λ i. (same i, same' i)) h

pub faulty_of : (names names' : List (List ℕ)) (types types' : List LocalType) (chain : Chain) (before : Standing) (line : List ℕ) (at : ℕ) (fault : RestoreFault) → names' ≡ names → types' ≡ types → IsFaulty names' types' chain before line at fault → IsFaulty names types chain before line at fault
faulty_of names names' types types' chain before line at fault same same' h =
    subst (λ (x : List (List ℕ) × List LocalType). IsFaulty x.0 x.1 chain before line at fault) (λ i. (same i, same' i)) h
