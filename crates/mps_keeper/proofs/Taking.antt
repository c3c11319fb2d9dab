-- What a sink took of lines.
use Rattle.std.proofs.Common.{◌≡◌, ℕ, List, [], ◌++◌, take, drop, Option, sym, subst, ◌∙◌}
use Rattle.std.specs.Io.KnownBytes.{Appends}
use Rattle.std.specs.List.{flat_map}
use Rattle.std.proofs.lemmas.Grind.{flat_map-append}
use Rattle.std.proofs.lemmas.List.{take-append-drop}
use Rattle.mps_lines.specs.Lines.{ended}
use Rattle.mps_wire.specs.Sending.{TookFront}
use Rattle.mps_wire.proofs.Bytes.{Appends-none, Appends-trans}
use Rattle.mps_keeper.specs.Books.{TookLines, TookMore, TookBrokenOff}

-- nothing more
pub no_more : (a : Option (List ℕ)) → TookMore a a
no_more a = ([], Appends-none a)

-- more after more
pub more_trans : (a b c : Option (List ℕ)) → TookMore a b → TookMore b c → TookMore a c
more_trans a b c h k = (h.0 ++ k.0, Appends-trans a b c h.0 k.0 h.1 k.1)

-- nothing is a front of any text
pub no_front : (a : Option (List ℕ)) (text : List ℕ) → TookFront a a text
no_front a text = record { count = 0; taken = Appends-none a }

-- lines after lines
pub took_more : (a b c : Option (List ℕ)) (first next : List (List ℕ)) → TookLines a first b → TookLines b next c → TookLines a (first ++ next) c
took_more a b c first next h k = subst (Appends a c) (sym (flat_map-append ended first next)) (Appends-trans a b c (flat_map ended first) (flat_map ended next) h k)

-- lines after lines, as a text
pub took_text : (a b c : Option (List ℕ)) (first next : List (List ℕ)) (text : List ℕ) → text ≡ flat_map ended next → TookLines a first b → Appends b c text → TookLines a (first ++ next) c
took_text a b c first next text is h k = took_more a b c first next h (subst (Appends b c) is k)

-- a front of what was to follow
pub broken_more : (start old new : Option (List ℕ)) (lines next : List (List ℕ)) (text : List ℕ) → text ≡ flat_map ended next → TookLines start lines old → TookFront old new text → TookBrokenOff start lines next new
broken_more start old new lines next text is took front = record {
  part = take front.count text;
  others = drop front.count text;
  front = sym is ∙ sym (take-append-drop front.count text);
  took = Appends-trans start old new (flat_map ended lines) (take front.count text) took front.taken;
}
