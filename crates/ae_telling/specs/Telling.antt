-- How an outcome is told: what is written of it, and what is left of it where that can't be written.
use Rattle.std.specs.Prelude.{◌≡◌, ◌⊎◌, ℕ, Bool, true, false, List, ◌++◌}
use Rattle.ae_base.specs.declared.outcome.Outcome.{Outcome}
use Rattle.ae_base.specs.declared.outcome.Outcome.TheVariants.{Done, RunFailed, Refused, BadWords, BadScript, DiskFault, SiteFault, SinkFault, SourceFault, Damaged, Memory}
use Rattle.ae_outside.specs.Causes.{HasRisen}
use Rattle.ae_outside.specs.declared.streams.Sink.{Ghosts}
use Rattle.ae_outside.specs.Streams.{TakesPrefix}
use Rattle.ae_telling.specs.Messages.{disk_fault_text, site_fault_text, memory_text, message, status_line}
use Rattle.ae_telling.specs.declared.told.Told.{Told}

-- a sink: whether it tells what it has taken, what that was before and after, and that its count of faults rose
pub record SinkUse : Type 1 where
  pub told : Type 0
  pub before : List ℕ
  pub after : List ℕ
  pub rose : Type 0

abbrev pub sink_use : (told : Type 0) → (before after : List ℕ) → (rose : Type 0) → SinkUse
sink_use told before after rose = record { told = told; before = before; after = after; rose = rose }

abbrev pub use_of_sink : {Sink : Type 0} → Ghosts Sink → (old new : Sink) → SinkUse
use_of_sink device old new = sink_use device.tells (device.taken old) (device.taken new) (HasRisen (device.faults old) (device.faults new))

-- ---- of single outcomes

-- those that a command may have by itself
abbrev pub IsOfCommand : Outcome → Type 0
IsOfCommand Done = Unit {0}
IsOfCommand RunFailed = Unit {0}
IsOfCommand (Refused refusal) = Unit {0}
IsOfCommand (BadWords place) = ⊥
IsOfCommand (BadScript line) = ⊥
IsOfCommand DiskFault = Unit {0}
IsOfCommand SiteFault = Unit {0}
IsOfCommand SinkFault = ⊥
IsOfCommand SourceFault = ⊥
IsOfCommand (Damaged name) = Unit {0}
IsOfCommand Memory = Unit {0}

-- those whose message takes memory
abbrev pub TakesMemory : Outcome → Type 0
TakesMemory Done = ⊥
TakesMemory RunFailed = ⊥
TakesMemory (Refused refusal) = Unit {0}
TakesMemory (BadWords place) = Unit {0}
TakesMemory (BadScript line) = Unit {0}
TakesMemory DiskFault = ⊥
TakesMemory SiteFault = ⊥
TakesMemory SinkFault = ⊥
TakesMemory SourceFault = ⊥
TakesMemory (Damaged name) = Unit {0}
TakesMemory Memory = ⊥

-- after a command that ends so, or a line that is done, a script goes on
abbrev pub goes_on : Outcome → Bool
goes_on Done = true
goes_on RunFailed = true
goes_on (Refused refusal) = true
goes_on (BadWords place) = false
goes_on (BadScript line) = false
goes_on DiskFault = false
goes_on SiteFault = false
goes_on SinkFault = false
goes_on SourceFault = false
goes_on (Damaged name) = false
goes_on Memory = false

-- what is left of an outcome whose text can't be written
abbrev pub unless_told : Outcome → Outcome
unless_told Done = SinkFault
unless_told RunFailed = SinkFault
unless_told (Refused refusal) = SinkFault
unless_told (BadWords place) = SinkFault
unless_told (BadScript line) = SinkFault
unless_told DiskFault = DiskFault
unless_told SiteFault = SiteFault
unless_told SinkFault = SinkFault
unless_told SourceFault = SourceFault
unless_told (Damaged name) = Damaged name
unless_told Memory = Memory

-- ---- what is written

-- a fixed text for a fault and for running out of memory, with the status line if that is asked for, and else the text that was made
abbrev pub told_text : (status : Bool) → Outcome → List ℕ → List ℕ
told_text status Done text = text
told_text status RunFailed text = text
told_text status (Refused refusal) text = text
told_text status (BadWords place) text = text
told_text status (BadScript line) text = text
told_text status DiskFault text = disk_fault_text ++ status_line status DiskFault
told_text status SiteFault text = site_fault_text ++ status_line status SiteFault
told_text status SinkFault text = text
told_text status SourceFault text = text
told_text status (Damaged name) text = text
told_text status Memory text = memory_text ++ status_line status Memory

abbrev pub written : Told → List ℕ
written told = told_text told.status told.outcome told.text

-- some first bytes of the text were taken, and all of it unless the count of faults rose
pub record IsTried (text old new : List ℕ) (rose : Type 0) : Type 0 where
  pub part : TakesPrefix old new text
  pub whole : rose ⊎ (new ≡ old ++ text)

-- what is written at the end: the whole text; of a fault or running out of memory perhaps a part; at a sink's fault a part
abbrev pub IsSaid : (text : List ℕ) → Outcome → (old new : List ℕ) → (rose : Type 0) → Type 0
IsSaid text Done old new rose = new ≡ old ++ text
IsSaid text RunFailed old new rose = new ≡ old ++ text
IsSaid text (Refused refusal) old new rose = new ≡ old ++ text
IsSaid text (BadWords place) old new rose = new ≡ old ++ text
IsSaid text (BadScript line) old new rose = new ≡ old ++ text
IsSaid text DiskFault old new rose = IsTried text old new rose
IsSaid text SiteFault old new rose = IsTried text old new rose
IsSaid text SinkFault old new rose = TakesPrefix old new text
IsSaid text SourceFault old new rose = IsTried text old new rose
IsSaid text (Damaged name) old new rose = IsTried text old new rose
IsSaid text Memory old new rose = IsTried text old new rose

-- ---- how a call ends

-- This outcome was meant, with this text: it is the result; or the sink didn't take the text, and the result is what is left of it.
pub record IsTold (meant : Outcome) (text : List ℕ) (sink : SinkUse) (result : Outcome) : Type 0 where
  pub how : (result ≡ meant) ⊎ ((result ≡ unless_told meant) × sink.rose)
  pub said : sink.told → IsSaid text result sink.before sink.after sink.rose

-- a script ends at a line of this outcome: since no line may come after it, or since the sink didn't take its text
pub record IsStopped (meant : Outcome) (text : List ℕ) (sink : SinkUse) (result : Outcome) : Type 0 where
  pub how : ((goes_on meant ≡ false) × (result ≡ meant)) ⊎ ((result ≡ unless_told meant) × sink.rose)
  pub said : sink.told → IsSaid text result sink.before sink.after sink.rose

-- the message of this outcome was meant; or there was no memory for it, and that was meant
abbrev pub IsToldOrMemory : Outcome → SinkUse → Outcome → Type 0
IsToldOrMemory meant sink result = IsTold meant (message meant) sink result ⊎ IsTold Memory (message Memory) sink result
