-- What a kept entry says stays as it is when words and lists join.
use Rattle.std.proofs.Common.{◌≡◌, ℕ, ◌+◌, ◌≤◌, List, [], ◌∷◌, ◌++◌, length, take, drop, map, refl, ap, ◌∙◌, arith, length-append}
use Rattle.std.proofs.lemmas.List.{drop-append-le, take-append-le, length-drop, get_or_append_left, map-append}
use Rattle.std.specs.List.{AllByRecursion}
use Rattle.mps_room.specs.Private.Forms.{cut, narrow_in, lists_of, HasWord, HasList, AreForms}
use Rattle.mps_room.specs.declared.form.Form.{Form}
use Rattle.mps_room.proofs.Hearing.{all_along, all_push}
use Rattle.mps_session.specs.declared.gist.Gist.{Gist}

pub cut_more : (words more : List ℕ) (start size : ℕ) → start + size ≤ length words → cut (words ++ more) start size ≡ cut words start size
cut_more words more start size few =
    ap (take size) (drop-append-le start words more (omega (arith, few)))
    ∙ take-append-le size (drop start words) more (omega (arith, few, length-drop start words))

pub word_more : (words more : List ℕ) (f : Form) → HasWord words f → HasWord (words ++ more) f
word_more words more f there = grind (arith, cut_more, length-append)

pub list_more : (n m : ℕ) → n ≤ m → (f : Form) → HasList n f → HasList m f
list_more n m le f there = grind arith

pub narrow_more : (words more : List ℕ) (lists others : List (List ℕ)) (f : Form) → HasWord words f → HasList (length lists) f → narrow_in (words ++ more) (lists ++ others) f ≡ narrow_in words lists f
narrow_more words more lists others f word list = grind (arith, cut_more, get_or_append_left)

pub all_more : (words more : List ℕ) (lists others : List (List ℕ)) (forms : List Form) → AllByRecursion (HasWord words) forms → AllByRecursion (HasList (length lists)) forms → map (narrow_in (words ++ more) (lists ++ others)) forms ≡ map (narrow_in words lists) forms
all_more words more lists others [] word list = refl
all_more words more lists others (f ∷ forms) word list = grind (arith, narrow_more, all_more words more lists others forms word.1 list.1)

pub few_lists_of : (gist : Gist) → length (lists_of gist) ≤ 1
few_lists_of gist = grind arith

-- ---- one entry more

module _ (forms : List Form) (words : List ℕ) (lists : List (List ℕ)) (are : AreForms forms words lists) (f : Form) (more : List ℕ) (others : List (List ℕ)) where
  pub joined : HasWord (words ++ more) f → HasList (length (lists ++ others)) f → length (words ++ more) ≤ length words + 256 → length (lists ++ others) ≤ length lists + 1 → AreForms (forms ++ f ∷ []) (words ++ more) (lists ++ others)
  joined word list few few_lists =
      record {
        words_there = all_push (HasWord (words ++ more)) forms f (all_along (HasWord words) (HasWord (words ++ more)) forms (word_more words more) are.words_there) word;
        lists_there = all_push (HasList (length (lists ++ others))) forms f (all_along (HasList (length lists)) (HasList (length (lists ++ others))) forms
            (list_more (length lists) (length (lists ++ others)) (omega (arith, length-append lists others))) are.lists_there) list;
        few_words = omega (arith, few, are.few_words, length-append forms (f ∷ []));
        few_lists = omega (arith, few_lists, are.few_lists, length-append forms (f ∷ []));
      }

  pub joined_entries : map (narrow_in (words ++ more) (lists ++ others)) (forms ++ f ∷ []) ≡ map (narrow_in words lists) forms ++ narrow_in (words ++ more) (lists ++ others) f ∷ []
  joined_entries = grind (arith, map-append, all_more words more lists others forms are.words_there are.lists_there)
