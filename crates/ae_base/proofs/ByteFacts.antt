-- What holds at each place holds along the list.
use Rattle.std.proofs.Common.{ℕ, suc, ◌<◌, get_or, List, [], ◌∷◌}
use Rattle.ae_base.specs.Bytes.{AreBytes}

pub along : (bytes : List ℕ) → ((i : ℕ) → get_or bytes i 0 < 256) → AreBytes bytes
along [] h = tt
along (b ∷ bs) h = (h 0, along bs (λ i. h (suc i)))
