-- What is said of directories as one thing.
use Rattle.ae_outside.specs.Causes.{HasRisen}
use Rattle.ae_outside.specs.declared.site.Site.{Ghosts}

-- a call of them failed between the two
abbrev pub SiteFailed : {Site : Type 0} → Ghosts Site → (old new : Site) → Type 0
SiteFailed device old new = HasRisen (device.faults old) (device.faults new)
