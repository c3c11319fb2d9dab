-- Data with such texts is written in such bytes.
use Rattle.std.proofs.Common.{◌≡◌, ℕ, zero, suc, ◌<◌, ◌≤◌, ◌+◌, ◌/◌, ◌%◌, Bool, true, false, List, [], ◌∷◌, ◌++◌, map, arith, rules, ⊎_elim}
use Rattle.std.specs.Prelude.{◌==◌}
use Rattle.std.specs.Fmt.{digits, digits_onto, digit_glyph, decimal}
use Rattle.std.proofs.lemmas.Bool.{cases_Bool, lt-ltb}
use Rattle.json.specs.Print.{escape, escape_byte, quoted}
use Rattle.mps_base.specs.Values.{IsShown}
use Rattle.serde_json.specs.Data.{Data, null, boolean, number, string, array, object, Items, no_items, item, Members, no_members, member}
use Rattle.serde_json.specs.View.{items_of}
use Rattle.serde_json.specs.Written.{comma_if, compact_text, items_text, members_text}
use Rattle.mps_show.specs.Plain.{AreShown, IsPlain, ArePlainItems, ArePlainMembers}
use Rattle.mps_show.specs.Shown.{number_shown}
use Rattle.mps_show.proofs.Rows.{all-append}

both : (a b : List ℕ) → AreShown a → AreShown b → AreShown (a ++ b)
both a b = all-append IsShown a b

byte : (c : ℕ) → 32 ≤ c → c ≤ 126 → IsShown c
byte c low high = record { low = low; high = high }

-- ---- strings

escaped_byte : (c : ℕ) → IsShown c → AreShown (escape_byte c)
unfolding escape_byte
escaped_byte c h = grind (arith, byte 92 (omega arith) (omega arith))

escaped : (s : List ℕ) → AreShown s → AreShown (escape s)
escaped [] h = tt
escaped (c ∷ s) h = both (escape_byte c) (escape s) (escaped_byte c h.0) (escaped s h.1)

quotes : (s : List ℕ) → AreShown s → AreShown (quoted s)
quotes s h = (byte 34 (omega arith) (omega arith), both (escape s) (34 ∷ []) (escaped s h) (byte 34 (omega arith) (omega arith), tt))

-- ---- numbers

glyph_shown : (d : ℕ) → d < 10 → IsShown (digit_glyph false d)
glyph_shown d h = rw (lt-ltb d 10 h) (byte (48 + d) (omega arith) (omega arith))

onto_shown : (k n : ℕ) (acc : List ℕ) → AreShown acc → AreShown (digits_onto k 10 false n acc)
onto_shown zero n acc h = h
onto_shown (suc k) n acc h =
    let first = glyph_shown (n % 10) (omega arith) in
    ⊎_elim
    (λ (t : (n / 10 == 0) ≡ true). rw t (first, h))
    (λ (f : (n / 10 == 0) ≡ false). rw f (onto_shown k (n / 10) (digit_glyph false (n % 10) ∷ acc) (first, h)))
    (cases_Bool (n / 10 == 0))

decimal_shown : (n : ℕ) → AreShown (decimal n)
unfolding digits
decimal_shown n = onto_shown 64 n [] tt

-- ---- arrays and objects

comma_shown : (later : Bool) → AreShown (comma_if later)
comma_shown later = grind (arith, byte)

mutual
  pub text_is_shown : (d : Data) → IsPlain d → AreShown (compact_text d)
  text_is_shown null h = search rules
  text_is_shown (boolean true) h = search rules
  text_is_shown (boolean false) h = search rules
  text_is_shown (number n) h = grind (arith, decimal_shown, byte)
  text_is_shown (string s) h = grind (arith, byte, both, escaped)
  text_is_shown (array ds) h = (byte 91 (omega arith) (omega arith), items_are_shown false ds h)
  text_is_shown (object ms) h = (byte 123 (omega arith) (omega arith), members_are_shown false ms h)

  items_are_shown : (later : Bool) (ds : Items) → ArePlainItems ds → AreShown (items_text later ds)
  items_are_shown later no_items h = (byte 93 (omega arith) (omega arith), tt)
  items_are_shown later (item d ds) h =
      both (comma_if later) (compact_text d ++ items_text true ds) (comma_shown later) (both (compact_text d) (items_text true ds) (text_is_shown d h.0) (items_are_shown true ds h.1))

  members_are_shown : (later : Bool) (ms : Members) → ArePlainMembers ms → AreShown (members_text later ms)
  members_are_shown later no_members h = (byte 125 (omega arith) (omega arith), tt)
  members_are_shown later (member k d ms) h =
      both (comma_if later) (quoted k ++ 58 ∷ (compact_text d ++ members_text true ms)) (comma_shown later)
      (both (quoted k) (58 ∷ (compact_text d ++ members_text true ms)) (quotes k h.0)
      (byte 58 (omega arith) (omega arith), both (compact_text d) (members_text true ms) (text_is_shown d h.1) (members_are_shown true ms h.2)))

-- numbers have no texts
pub numbers_are_plain : (ns : List ℕ) → ArePlainItems (items_of (map number_shown ns))
numbers_are_plain [] = tt
numbers_are_plain (n ∷ ns) = (tt, numbers_are_plain ns)
