-- How the hosting of a session may end.
use Rattle.std.specs.Prelude.{◌≢◌, ⊤}
use Rattle.mps_line.specs.Codes.{code_of}
use Rattle.mps_hub.specs.declared.hosting.Hosted.{Hosted}
use Rattle.mps_hub.specs.declared.hosting.Hosted.TheVariants.{Left, Shut, Barred}

-- those who wait for a session that can't be opened are refused
abbrev pub IsHosted : Hosted → Type 0
IsHosted Left = ⊤
IsHosted (Shut reply) = code_of reply ≢ 0
IsHosted Barred = ⊤
