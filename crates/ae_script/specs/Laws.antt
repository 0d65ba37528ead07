-- What is so of all lines that are done, and of all acts.
use Rattle.std.specs.Prelude.{◌≡◌, ◌⊎◌, ◌++◌, ℕ, List, [], ◌∷◌}
use Rattle.ae_base.specs.declared.outcome.Outcome.{Outcome}
use Rattle.ae_base.specs.declared.outcome.Outcome.TheVariants.{Done, DiskFault, SiteFault}
use Rattle.ae_outside.specs.Causes.{HasRisen}
use Rattle.ae_script.specs.Acts.{ActsDone, lines_of_acts}
use Rattle.ae_script.specs.Causes.{IsCaused}
use Rattle.ae_script.specs.Lines.{AllLead, AreDone, Did, Stand, disk_from, last_stand, lines_said, site_from, transcript}
use Rattle.ae_script.specs.Step.{KeepsDisk}
use Rattle.ae_script.specs.Uses.{Disks, Sites, Streams, written_from}
use Rattle.ae_telling.specs.Telling.{SinkUse}
use Rattle.ae_lines.specs.declared.act.Act.{Act}
use Rattle.ae_script.specs.declared.manner.Manner.{Manner}
use Rattle.ae_script.specs.declared.manner.Manner.TheVariants.{Plan}

-- the faults that a line may have
abbrev pub IsOfLine : Outcome → Type 0
IsOfLine DiskFault = Unit {0}
IsOfLine SiteFault = Unit {0}
IsOfLine _ = ⊥

-- what is taken begins with this
abbrev pub BeginsWith : List ℕ → List ℕ → Type 0
BeginsWith first taken = (rest : List ℕ) × (taken ≡ first ++ rest)

module _ (d : Disks) (s : Sites) where
  -- After each line but the last another may come, and all that is written of it was taken: so none was done after one that the sink
  -- didn't take, or that ends the lines.
  pub record AreToldFirst (manner : Manner) (done : List (Did d s)) (sink : SinkUse) : Type 0 where
    pub before : List (Did d s)
    pub last : List (Did d s)
    pub are : done ≡ before ++ last
    pub one : (last ≡ []) ⊎ ((it : Did d s) × (last ≡ it ∷ []))
    pub lead : AllLead d s manner before
    pub taken : sink.told → BeginsWith (sink.before ++ transcript d s before) sink.after

  -- The last line ended with this fault, and the count rose in it of what failed.
  pub record IsFaultOfLast (from : Stand d s) (done : List (Did d s)) (fault : Outcome) : Type 0 where
    pub before : List (Did d s)
    pub last : Did d s
    pub are : done ≡ before ++ last ∷ []
    pub outcome : last.outcome ≡ fault
    pub rose : IsCaused (disk_from d s (last_stand d s from before) last.to).rose (site_from d s (last_stand d s from before) last.to).rose ⊥ ⊥ fault

  -- Whatever the disk held, time goes on there, it stays settled, and no files but the store's own are changed.
  abbrev pub LinesKeepDisks : Type 0
  LinesKeepDisks = (manner : Manner) (from : Stand d s) (done : List (Did d s)) → AreDone d s manner from done → d.told → KeepsDisk (d.state from.disk) (d.state (last_stand d s from done).disk)

  module _ (o : Streams) where
    -- a fault that ends acts comes only where the count rose of what failed
    abbrev pub ActsAreCaused : Type 0
    ActsAreCaused =
        (manner : Manner) (acts : List Act) (from to : Stand d s) (old new : o.Stream) (result : Outcome) → ActsDone d s manner acts from to (written_from o old new) result
        → IsCaused (HasRisen (d.faults from.disk) (d.faults to.disk)) (HasRisen (s.faults from.site) (s.faults to.site)) ⊥ (HasRisen (o.faults old) (o.faults new)) result

    -- acts of a plan end with Done exactly where all are done, one after another, but for what the sink didn't take
    abbrev pub DoneMeansAll : Type 0
    DoneMeansAll =
        (acts : List Act) (from to : Stand d s) (old new : o.Stream) (result : Outcome) (of_plan : ActsDone d s Plan acts from to (written_from o old new) result) → result ≡ Done
        → (lines_of_acts acts ≡ lines_said d s of_plan.done) × AllLead d s Plan of_plan.done

    abbrev pub AllMeansDone : Type 0
    AllMeansDone =
        (acts : List Act) (from to : Stand d s) (old new : o.Stream) (result : Outcome) (of_plan : ActsDone d s Plan acts from to (written_from o old new) result) → AllLead d s Plan of_plan.done
        → (HasRisen (o.faults old) (o.faults new) → ⊥) → result ≡ Done
