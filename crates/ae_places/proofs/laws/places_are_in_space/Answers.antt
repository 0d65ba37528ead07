use Rattle.ae_places.proofs.InSpace.{places-in-space}
use Rattle.ae_places.proofs.laws.places_are_in_space.Goals as goal

pub returns : goal.returns
returns c = places-in-space
