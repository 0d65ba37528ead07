-- The first acts of a plan: the file of attributes is put, the change made, and its development begun.
use Rattle.std.proofs.Common.{◌≡◌, ℕ, refl, sym, ◌∙◌, ap, subst, List, [], ◌∷◌, Option, Some, None, Bool, true, false, cond, Result, Ok, Err}
use Rattle.std.specs.Prelude.{length, nat_le}
use Rattle.std.specs.Option.{option_map}
use Rattle.ae_base.specs.Limits.{most_attribute_bytes}
use Rattle.ae_bundle.specs.declared.bundle.Bundle.{Bundle}
use Rattle.ae_conf.specs.Change.{change_attributes}
use Rattle.ae_dist.specs.Plan.{attributes_path, attributes_text, begin, free_number, new_change}
use Rattle.ae_evidence.specs.declared.directories.DirChange.TheVariants.{Fill}
use Rattle.ae_files.specs.InTree.{row_at}
use Rattle.ae_lines.specs.declared.act.Act.{Act}
use Rattle.ae_lines.specs.declared.act.Act.TheVariants.{Put, Run}
use Rattle.ae_log.specs.After.{after}
use Rattle.ae_log.specs.Files.{version_bytes}
use Rattle.ae_log.specs.Maker.{event_by}
use Rattle.ae_log.specs.Observed.{observation}
use Rattle.ae_log.specs.declared.event.EventKind.TheVariants as on
use Rattle.ae_machine.specs.Attributes.{content_gives, or_bad_line}
use Rattle.ae_machine.specs.Call.{given_in, refusal_in}
use Rattle.ae_machine.specs.Legal.{Legal}
use Rattle.ae_machine.specs.Sight.{with_bytes}
use Rattle.ae_machine.specs.Verdict.{change_file, maker_in, old_change_attributes}
use Rattle.ae_machine.proofs.LegalRightly.{legal-sound}
use Rattle.ae_machine.proofs.PathsUp.{baseline-up}
use Rattle.ae_outside.specs.Site.{content_within}
use Rattle.ae_outside.specs.Trees.{Tree, no_files, with_rows}
use Rattle.ae_outside.specs.declared.dir.Content.TheVariants.{Bytes, TooLong}
use Rattle.ae_outside.specs.declared.dir.Dir.TheVariants.{Develop, Here}
use Rattle.ae_script.specs.Steps.{LineDone, Point, stop}
use Rattle.ae_types.specs.declared.change.ChangeAttributes.{ChangeAttributes}
use Rattle.ae_types.specs.Observation.{Observation}
use Rattle.ae_types.specs.Trees.{TreeRow, baseline_of}
use Rattle.ae_received.specs.Received.{AreDescribed, TextsAreBytes, file_below}
use Rattle.ae_received.proofs.Acts.{ActsRun, RunsAct}
use Rattle.ae_received.proofs.Commands.{command-leads, given_to}
use Rattle.ae_received.proofs.Described.{attributes-described}
use Rattle.ae_received.proofs.Directories.{filled}
use Rattle.ae_received.proofs.Puts.{put-leads}
use Rattle.ae_received.proofs.FileActs.{develop-led, directory_at}
use Rattle.ae_received.proofs.Rows.{IsNew, StandsWith, begun-with, made-new}
use Rattle.ae_received.proofs.Touches.{file-there}

-- ---- the file of attributes

-- what was read is good, and is what the text gives
module _ (text path : List ℕ) (old : ChangeAttributes) where
  reading-gives : (read : Result ChangeAttributes ℕ) → refusal_in (or_bad_line read) ≡ None → read ≡ Ok (given_in (or_bad_line read) old)
  reading-gives (Ok attributes) good = refl
  reading-gives (Err line) good = absurd (cc good)

  length-gives : (fits : Bool) → refusal_in (content_gives change_attributes old path (cond fits (Bytes text) TooLong)) ≡ None
      → change_attributes text old ≡ Ok (given_in (content_gives change_attributes old path (cond fits (Bytes text) TooLong)) old)
  length-gives true good = reading-gives (change_attributes text old) good
  length-gives false good = absurd (cc good)

  file-gives : (held : Option (List ℕ)) → Some text ≡ held → refusal_in (content_gives change_attributes old path (content_within most_attribute_bytes held)) ≡ None
      → change_attributes text old ≡ Ok (given_in (content_gives change_attributes old path (content_within most_attribute_bytes held)) old)
  file-gives held is =
      subst (λ (h : Option (List ℕ)). refusal_in (content_gives change_attributes old path (content_within most_attribute_bytes h)) ≡ None
      → change_attributes text old ≡ Ok (given_in (content_gives change_attributes old path (content_within most_attribute_bytes h)) old)) is
      (length-gives (nat_le (length text) most_attribute_bytes))

module _ (stood : Observation) (number : ℕ) (bundle : Bundle) where
  -- ---- the change is made

  record IsMade (from : Point) (step : LineDone) : Type 0 where
    attributes : ChangeAttributes
    described : TextsAreBytes bundle → AreDescribed attributes bundle
    new : IsNew stood number attributes step.to.log
    who : step.to.who ≡ from.who
    bytes : version_bytes step.to.log ≡ version_bytes from.log

  change-made : (from : Point) (step : LineDone) → observation from.log ≡ Some stood → Legal from.log → free_number stood ≡ Some number → from.site.trees Here attributes_path ≡ Some (attributes_text bundle) → RunsAct from (Run new_change) step → IsMade from step
  change-made from step stands legal free put run =
      let l = command-leads from new_change stood step stands legal run in
      let given = given_to from new_change step.to stood in
      let old = old_change_attributes stood None in
      let attributes : ChangeAttributes = given_in (change_file given) old in
      record {
        attributes = attributes;
        described = λ bytes. attributes-described bundle bytes old attributes (file-gives (attributes_text bundle) attributes_path old (from.site.trees Here attributes_path) (sym put) l.passed.sight.0);
        new = made-new stood number attributes step.to.log (maker_in given)
            (l.stands ∙ ap (λ (n : Option ℕ). Some (after stood (event_by (maker_in given) n (on.New attributes)))) free) l.legal;
        who = l.who;
        bytes = ap version_bytes l.follows;
      }

  -- ---- its development begins

  record IsBegun (from : Point) (attributes : ChangeAttributes) (step : LineDone) : Type 0 where
    stands : StandsWith stood number from.who attributes step.to.log []
    filled : (q : List ℕ) → directory_at number step.to q ≡ file_below stood (version_bytes from.log) q

  development-begun : (from : Point) (attributes : ChangeAttributes) (step : LineDone) → IsNew stood number attributes from.log → RunsAct from (Run (begin number)) step → IsBegun from attributes step
  development-begun from attributes step new run =
      let l = command-leads from (begin number) new.o step new.stands new.legal run in
      let bytes = version_bytes from.log in
      let tree : directory_at number step.to ≡ with_rows (with_bytes bytes (baseline_of new.o)) no_files =
      develop-led from (begin number) new.o step number new.change (Fill (Develop new.change.number) (with_bytes bytes (baseline_of new.o))) new.there refl (ap Develop new.numbered) (l.trees refl) in
      record {
        stands = begun-with stood number from.who attributes from.log step.to.log new (maker_in (given_to from (begin number) step.to new.o)) refl l.stands l.legal;
        filled = λ q. ap (λ (t : Tree). t q) tree ∙ filled bytes q (baseline_of new.o) (baseline-up new.o (legal-sound from.log new.o new.legal new.stands).rows.ascend)
            ∙ ap (λ (rows : List TreeRow). option_map (λ (row : TreeRow). bytes row.version.number) (row_at rows q)) new.baseline;
      }

  -- ---- all three

  -- these acts and steps are left; the change stands without rows, and its directory has what the baseline has
  pub record Begins (from : Point) (acts : List Act) (steps : List LineDone) : Type 0 where
    pub to : Point
    pub left : List LineDone
    pub stops : stop from steps ≡ stop to left
    pub runs : ActsRun to acts left
    pub attributes : ChangeAttributes
    pub described : TextsAreBytes bundle → AreDescribed attributes bundle
    pub stands : StandsWith stood number from.who attributes to.log []
    pub filled : (q : List ℕ) → directory_at number to q ≡ file_below stood (version_bytes from.log) q

  pub begins : (from : Point) (acts : List Act) (steps : List LineDone) → observation from.log ≡ Some stood → Legal from.log → free_number stood ≡ Some number
      → ActsRun from (Put Here attributes_path (attributes_text bundle) ∷ Run new_change ∷ Run (begin number) ∷ acts) steps → Begins from acts steps
  begins from acts [] stands legal free runs = absurd runs
  begins from acts (put ∷ []) stands legal free runs = absurd runs.1
  begins from acts (put ∷ make ∷ []) stands legal free runs = absurd runs.1.1
  begins from acts (put ∷ make ∷ start ∷ left) stands legal free runs =
      let p = put-leads from Here attributes_path (attributes_text bundle) put runs.0 in
      let m = change-made put.to make (ap observation p.log ∙ stands) (subst Legal (sym p.log) legal) free
      (ap (λ (t : Tree). t attributes_path) p.there ∙ file-there attributes_path (Some (attributes_text bundle)) (from.site.trees Here)) runs.1.0 in
      let b = development-begun make.to m.attributes start m.new runs.1.1.0 in
      record {
        to = start.to;
        left = left;
        stops = refl;
        runs = runs.1.1.1;
        attributes = m.attributes;
        described = m.described;
        stands = subst (λ (w : List ℕ). StandsWith stood number w m.attributes start.to.log []) (m.who ∙ p.who) b.stands;
        filled = λ q. b.filled q ∙ ap (λ (bytes : ℕ → List ℕ). file_below stood bytes q) (m.bytes ∙ ap version_bytes p.log);
      }
