-- Data whose texts stand on one line.
use Rattle.std.specs.Prelude.{ℕ, ⊤, List}
use Rattle.std.specs.List.{AllByRecursion}
use Rattle.mps_base.specs.Values.{IsShown}
use Rattle.serde_json.specs.Data.{Data, null, boolean, number, string, array, object, Items, no_items, item, Members}
use Rattle.serde_json.specs.Data.{no_members, member}

-- bytes from the space to `~`
abbrev pub AreShown : List ℕ → Type 0
AreShown bytes = AllByRecursion IsShown bytes

abbrev mutual
  -- each text in the data, and each key, has such bytes alone
  pub IsPlain : Data → Type 0
  IsPlain null = ⊤
  IsPlain (boolean b) = ⊤
  IsPlain (number n) = ⊤
  IsPlain (string s) = AreShown s
  IsPlain (array ds) = ArePlainItems ds
  IsPlain (object ms) = ArePlainMembers ms

  pub ArePlainItems : Items → Type 0
  ArePlainItems no_items = ⊤
  ArePlainItems (item d ds) = IsPlain d × ArePlainItems ds

  pub ArePlainMembers : Members → Type 0
  ArePlainMembers no_members = ⊤
  ArePlainMembers (member k d ms) = AreShown k × IsPlain d × ArePlainMembers ms
