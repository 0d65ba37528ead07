-- What stands after the events of a plan: the change, with its rows, beside the baseline as it was.
use Rattle.std.proofs.Common.{◌≡◌, ℕ, refl, ◌∙◌, ap, List, [], Some, cond}
use Rattle.ae_base.specs.declared.words.Action.{Action}
use Rattle.ae_base.specs.declared.words.Usage.{Usage}
use Rattle.ae_base.specs.declared.words.Phase.TheVariants.{BeingDeveloped}
use Rattle.ae_log.specs.After.{after, change_after, new_change, new_file}
use Rattle.ae_log.specs.Log.{Log}
use Rattle.ae_log.specs.Maker.{Maker}
use Rattle.ae_log.specs.Observed.{observation}
use Rattle.ae_log.specs.declared.event.EventKind.TheVariants as on
use Rattle.ae_log.proofs.Steps.{of_change}
use Rattle.ae_machine.specs.Legal.{Legal}
use Rattle.ae_machine.proofs.AcceptedPaths.{changed-at}
use Rattle.ae_types.specs.declared.change.Change.{Change}
use Rattle.ae_types.specs.declared.change.ChangeAttributes.{ChangeAttributes}
use Rattle.ae_types.specs.declared.change.ChangeFile.{ChangeFile}
use Rattle.ae_types.specs.Found.{change_at, change_in, number_of_change}
use Rattle.ae_types.specs.Observation.{Observation}
use Rattle.ae_types.specs.Trees.{baseline_of}
use Rattle.ae_types.proofs.Keys.{by_number}
use Rattle.ae_types.proofs.Ordered.{at-put}
use Rattle.ae_received.proofs.Touches.{with_row}

-- after the log the change stands, just made with these attributes
pub record IsNew (stood : Observation) (number : ℕ) (attributes : ChangeAttributes) (log : Log) : Type 0 where
  pub o : Observation
  pub stands : observation log ≡ Some o
  pub legal : Legal log
  pub baseline : baseline_of o ≡ baseline_of stood
  pub change : Change
  pub there : change_at o number ≡ Some change
  pub numbered : change.number ≡ number
  pub attributes_are : change.attributes ≡ attributes

pub made-new : (stood : Observation) (number : ℕ) (attributes : ChangeAttributes) (log : Log) (maker : Maker)
    → observation log ≡ Some (after stood (of_change maker number (on.New attributes))) → Legal log → IsNew stood number attributes log
made-new stood number attributes log maker stands legal = record {
  o = after stood (of_change maker number (on.New attributes));
  stands = stands;
  legal = legal;
  baseline = refl;
  change = new_change maker number attributes;
  there = at-put by_number number_of_change number (new_change maker number attributes) stood.changes
      ∙ ap (λ b. cond b (Some (new_change maker number attributes)) (change_in stood.changes number)) (by_number.same_self number);
  numbered = refl;
  attributes_are = refl;
}

module _ (stood : Observation) (number : ℕ) (who : List ℕ) (attributes : ChangeAttributes) where
  -- after the log the change stands, in development by this user, with these rows
  pub record StandsWith (log : Log) (files : List ChangeFile) : Type 0 where
    pub o : Observation
    pub stands : observation log ≡ Some o
    pub legal : Legal log
    pub baseline : baseline_of o ≡ baseline_of stood
    pub change : Change
    pub there : change_at o number ≡ Some change
    pub numbered : change.number ≡ number
    pub phase : change.phase ≡ BeingDeveloped
    pub developer : change.developer ≡ Some who
    pub attributes_are : change.attributes ≡ attributes
    pub files_are : change.files ≡ files

  -- its development begins without rows
  pub begun-with : (log next : Log) (new : IsNew stood number attributes log) (maker : Maker) → maker.who ≡ who → observation next ≡ Some (after new.o (of_change maker number on.Begin)) → Legal next → StandsWith next []
  begun-with log next new maker is stands legal =
      let event = of_change maker number on.Begin in
      record {
        o = after new.o event;
        stands = stands;
        legal = legal;
        baseline = new.baseline;
        change = change_after new.o.project.next_version event new.change;
        there = changed-at new.o.changes number (change_after new.o.project.next_version event) (λ y. refl) new.change new.there;
        numbered = new.numbered;
        phase = refl;
        developer = ap (λ (w : List ℕ). Some w) is;
        attributes_are = new.attributes_are;
        files_are = refl;
      }

  -- and each event of a file puts its row
  pub filed-with : (log next : Log) (files : List ChangeFile) (s : StandsWith log files) (maker : Maker) (path : List ℕ) (action : Action) (usage : Usage) (origin : ℕ)
      → observation next ≡ Some (after s.o (of_change maker number (on.File path action usage origin))) → Legal next → StandsWith next (with_row (new_file path action usage origin) files)
  filed-with log next files s maker path action usage origin stands legal =
      let event = of_change maker number (on.File path action usage origin) in
      record {
        o = after s.o event;
        stands = stands;
        legal = legal;
        baseline = s.baseline;
        change = change_after s.o.project.next_version event s.change;
        there = changed-at s.o.changes number (change_after s.o.project.next_version event) (λ y. refl) s.change s.there;
        numbered = s.numbered;
        phase = s.phase;
        developer = s.developer;
        attributes_are = s.attributes_are;
        files_are = ap (with_row (new_file path action usage origin)) s.files_are;
      }
