use Rattle.ae_log.proofs.SoundProject.{begins-sound}
use Rattle.ae_log.proofs.laws.first_event_is_sound.Goals as goal

pub returns : goal.returns
returns c = begins-sound
