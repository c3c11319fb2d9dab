-- Proves the law `every_state_is_sound`, by the lemmas of Sound.
use Rattle.mps_machine.specs.Machine.{initial}
use Rattle.mps_machine.proofs.Sound.{initial_sound, serve_sound, after_sound}
use Rattle.mps_machine.proofs.laws.every_state_is_sound.Goals as goal

pub returns : goal.returns
returns c = record {
  served = serve_sound;
  always = λ types requests. after_sound types initial requests (initial_sound types);
}
