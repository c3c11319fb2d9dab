-- Each step of the desk's table keeps its rule.
use Rattle.std.proofs.Common.{◌≡◌, ℕ, Bool, true, false, List, [], ◌∷◌, ◌++◌, map, get_or, set, sym, refl, ap, ◌∙◌, arith}
use mathlib.Core.Option as maybe
use lib.ListN.{get_elem?}
use Rattle.atomic_table.specs.Table.{State, Me, Act, Valid, Allows, Arrives, carried_after, homes_after, put_back, keeps, takes, gives, step, opening}
use Rattle.mps_hub.specs.Private.Lock.{HasOut, IsSteady, PutsBack, TakesOut, home_of, word_of}

module _ {T : Type 0} where
  -- a swap of 1, by whether the value was out
  arrives : (value : T) (s : State T T) (out : Bool) → s.words ≡ word_of out ∷ [] → s.homes ≡ home_of value out ∷ []
      → (w : T) × (a : Act T) × Valid s.homes [] a
      × IsSteady value (record { words = set s.words 0 1; homes = homes_after s.homes [] a; views = s.views ++ w ∷ [] })
      × (get_or s.words 0 0 ≡ 0 → carried_after [] a ≡ (0, value) ∷ [])
  arrives value s false ws hs = (
    value,
    takes 0 value,
    ap (λ (l : List (maybe.Option T)). get_elem? l 0) hs,
    record { out = true; words = ap (λ (l : List ℕ). set l 0 1) ws; homes = ap (λ (l : List (maybe.Option T)). set l 0 maybe.none) hs },
    λ _. refl,
  )
  arrives value s true ws hs = (
    value,
    keeps,
    tt,
    record { out = true; words = ap (λ (l : List ℕ). set l 0 1) ws; homes = hs },
    λ e. let one : 1 ≡ 0 = sym (ap (λ (l : List ℕ). get_or l 0 0) ws) ∙ e in absurd (omega (arith, one)),
  )

  pub takes_out : (value : T) (slots : ℕ) → Arrives (IsSteady value) slots 0 (λ _. 1) (TakesOut (step slots 0 1 0 maybe.none) (value, []))
  takes_out value slots s r _ _ = arrives value s r.out r.words r.homes

  set_home : (value : T) (h : maybe.Option T) (hs : List (maybe.Option T)) → hs ≡ h ∷ [] → set hs 0 (maybe.some value) ≡ maybe.some value ∷ []
  set_home value h hs is = ap (λ (l : List (maybe.Option T)). set l 0 (maybe.some value)) is

  pub puts_back : (value : T) (slots id : ℕ) (me : Me T T) → HasOut value me → Allows (IsSteady value) slots id me 0 (λ _. 0) (λ _. PutsBack (step slots 0 0 0 maybe.none) me 0)
  puts_back value slots id me out s r _ _ _ = (
    me.0,
    gives,
    tt,
    record {
      out = false;
      words = ap (λ (l : List ℕ). set l 0 0) r.words;
      homes = ap (λ (c : List (ℕ × T)). put_back s.homes c) out ∙ set_home value (home_of value r.out) s.homes r.homes;
    },
    tt,
  )

  pub begins : (value : T) (words : List ℕ) (slots : List T) → words ≡ 0 ∷ [] → slots ≡ value ∷ [] → IsSteady value (opening words slots value)
  begins value words slots ws ss = record { out = false; words = ws; homes = ap (λ (l : List T). map maybe.some l) ss }
