-- Events after which only one change is another, and that one in nothing that other rules ask.
use Rattle.std.proofs.Common.{◌≡◌, ℕ, List, map, Some, true}
use Rattle.ae_types.specs.declared.change.Change.{Change}
use Rattle.ae_types.specs.Observation.{Observation}
use Rattle.ae_types.specs.Found.{change_in, file_in}
use Rattle.ae_types.specs.Phases.{holds_locks}
use Rattle.ae_types.specs.Sound.{Sound, IsGoodChange}
use Rattle.ae_log.specs.After.{where_number}
use Rattle.ae_log.proofs.OneChange.{Keeps, own-good}
use Rattle.ae_log.proofs.Steady.{steady-deltas, steady-entries}
use Rattle.ae_log.proofs.Still.{Still, frozen_of, still-versions, still-locks}
use Rattle.ae_log.proofs.Calm.{Calm, steady-of, calm-integrating, calm-candidate}

pub record Quiet (x y : Change) : Type 0 where
  pub calm : Calm x y
  pub holds : holds_locks y.phase ≡ holds_locks x.phase
  pub files : holds_locks x.phase ≡ true → y.files ≡ x.files
  pub frozen : (path : List ℕ) → frozen_of (file_in y.files path) ≡ frozen_of (file_in x.files path)

still-of : (x y : Change) → Quiet x y → Still x y
still-of x y quiet = record { holds = quiet.holds; files = quiet.files; frozen = quiet.frozen }

pub quiet-keeps : (o : Observation) (s : Sound o) (c : ℕ) (h : Change → Change) (keeps : Keeps h) (x : Change) → change_in o.changes c ≡ Some x → Quiet x (h x) → IsGoodChange (h x) → Sound (record o { changes = map (where_number c h) o.changes })
quiet-keeps o s c h keeps x at_c quiet good = record {
  project = s.project;
  rows = s.rows;
  changes = own-good c h keeps o.numbers o.changes x s.changes at_c good;
  integrating = calm-integrating o s c h keeps x at_c quiet.calm;
  deltas = steady-deltas o s c h keeps x at_c (steady-of x (h x) quiet.calm);
  versions = still-versions o s c h keeps x at_c (still-of x (h x) quiet);
  entries = steady-entries o s c h keeps x at_c (steady-of x (h x) quiet.calm);
  locks = still-locks o s c h keeps x at_c (still-of x (h x) quiet);
  candidate = calm-candidate o s c h keeps x at_c quiet.calm;
}
