-- What a step is matched with, by its effect: the receipt of what gives a message, and the send of what takes one.
use Rattle.std.specs.Prelude.{ℕ, Option, None}
use Rattle.mps_base.specs.Effects.{Effect, Gives, Takes}

abbrev pub matched_receipt : Effect → Option ℕ → Option ℕ
matched_receipt (Gives to message) matched = matched
matched_receipt effect matched = None

abbrev pub matched_source : Effect → Option ℕ → Option ℕ
matched_source (Takes from slot) matched = matched
matched_source effect matched = None
