-- All acts of a plan that are done, and what stands then.
use Rattle.std.proofs.Common.{◌≡◌, inl, inr, ℕ, refl, sym, ◌∙◌, ap, subst, List, [], ◌∷◌, ◌++◌, map, Option, Some, None, Bool, true, false, cond, append-nil}
use Rattle.std.specs.Prelude.{IfSome}
use Rattle.std.specs.List.{AllByRecursion, filter_map}
use Rattle.std.specs.Option.{option_and_then, option_map, option_or}
use Rattle.std.specs.Str.{bytes_eq}
use Rattle.std.proofs.lemmas.Option.{same_Some}
use Rattle.ae_base.specs.Rows.{text_cmp}
use Rattle.ae_base.specs.declared.words.Action.TheVariants.{Create, Modify, Remove}
use Rattle.ae_bundle.specs.Bundled.{bundle_path}
use Rattle.ae_bundle.specs.declared.bundle.Bundle.{Bundle}
use Rattle.ae_bundle.specs.declared.bundle.BundleFile.{BundleFile}
use Rattle.ae_dist.specs.Plan.{addition, free_number, plan_of, put, removal}
use Rattle.ae_files.specs.InTree.{row_at}
use Rattle.ae_lines.specs.declared.act.Act.{Act}
use Rattle.ae_log.specs.Files.{version_bytes}
use Rattle.ae_log.specs.Observed.{observation}
use Rattle.ae_machine.specs.Legal.{Legal}
use Rattle.ae_script.specs.Steps.{LineDone, Point, stop}
use Rattle.ae_types.specs.declared.change.ChangeAttributes.{ChangeAttributes}
use Rattle.ae_types.specs.declared.change.ChangeFile.{ChangeFile}
use Rattle.ae_types.specs.Found.{file_in, file_path}
use Rattle.ae_types.specs.Observation.{Observation}
use Rattle.ae_types.specs.Ordered.{Above, Ascends}
use Rattle.ae_types.specs.Phases.{is_remove}
use Rattle.ae_types.specs.Trees.{TreeRow, baseline_of}
use Rattle.ae_types.proofs.Keys.{by_text}
use Rattle.ae_types.proofs.Members.{In}
use Rattle.ae_types.proofs.Ordered.{ascending-is, at, at-rows, none-some, rows-ascend}
use Rattle.ae_types.proofs.Searched.{in-found}
use Rattle.ae_received.specs.Edits.{Edit, edit, edit_at, edit_of, edit_path}
use Rattle.ae_received.specs.Received.{AreDescribed, HasReceived, LiesThere, TextsAreBytes, edit_received, edits_received, file_below, sent_at}
use Rattle.ae_received.proofs.Acts.{ActsRun, RunsAct, led_to}
use Rattle.ae_received.proofs.Begins.{begins}
use Rattle.ae_received.proofs.FileActs.{directory_at, stands_at}
use Rattle.ae_received.proofs.Passes.{Passed, passes}
use Rattle.ae_received.proofs.Sent.{FilesFit, HasItsUsage, addition-leads, addition_by, file_put, file_removed, none-added, none-put, none-removed, put-leads-there, put_by_removes, received-is, received_by, removal-leads, removal_by, row_added, row_removed, rows-together}

-- ---- lists of edits

-- what the edits of rows say of a path is what the rows say
find-edits : (q : List ℕ) (files : List ChangeFile) → at by_text edit_path q (map edit_of files) ≡ edit_at files q
find-edits q [] = refl
find-edits q (file ∷ files) = go (bytes_eq q file.path) (find-edits q files)
  where
    go : (b : Bool) → at by_text edit_path q (map edit_of files) ≡ edit_at files q
        → cond b (Some (edit_of file)) (at by_text edit_path q (map edit_of files)) ≡ option_map edit_of (cond b (Some file) (file_in files q))
    go true rest = refl
    go false rest = rest

-- they ascend where the rows do
edits-above : (q : List ℕ) (files : List ChangeFile) → Above text_cmp file_path q files → Above text_cmp edit_path q (map edit_of files)
edits-above q [] above = tt
edits-above q (file ∷ files) above = (above.0, edits-above q files above.1)

edits-ascend : (files : List ChangeFile) → Ascends text_cmp file_path files → Ascends text_cmp edit_path (map edit_of files)
edits-ascend [] up = tt
edits-ascend (file ∷ files) up = (edits-above file.path files up.0, edits-ascend files up.1)

-- what is so of each member is so of all
all-by-members : {A : Type 0} (P : A → Type 0) (xs : List A) → ((x : A) → In xs x → P x) → AllByRecursion P xs
all-by-members P [] all = tt
all-by-members P (x ∷ xs) all = (all x (inl refl), all-by-members P xs (λ y member. all y (inr member)))

-- what is received of a file is of its path
received-path : (file : BundleFile) (removes : Bool) (there : Option TreeRow) (made : Edit) → received_by file removes there ≡ Some made → made.path ≡ file.path
received-path file removes (Some row) made is = ap edit_path (sym (same_Some (edit file.path (cond removes Remove Modify) row.usage) made is))
received-path file true None made is = none-some made is
received-path file false None made is = ap edit_path (sym (same_Some (edit file.path Create file.usage) made is))

-- ---- the three passes

-- the acts of each
abbrev removals : Observation → ℕ → Bundle → List Act
removals stood number bundle = filter_map (removal (baseline_of stood) number) bundle.files

abbrev additions : Observation → ℕ → Bundle → List Act
additions stood number bundle = filter_map (addition (baseline_of stood) number) bundle.files

abbrev puts : ℕ → Bundle → List Act
puts number bundle = filter_map (put number) bundle.files

-- where no acts are left, no steps are
no-more : (from : Point) (steps : List LineDone) → ActsRun from [] steps → stop from steps ≡ from
no-more from [] runs = refl
no-more from (step ∷ steps) runs = absurd runs

module _ (stood : Observation) (number : ℕ) (bundle : Bundle) (fits : FilesFit bundle.files) (bytes : ℕ → List ℕ) (who : List ℕ) (attributes : ChangeAttributes) where
  abbrev there : BundleFile → Option TreeRow
  there file = row_at (baseline_of stood) file.path

  abbrev removes : BundleFile → Bool
  removes file = is_remove file.action

  abbrev Stands : Point → List ChangeFile → Type 0
  Stands = stands_at stood number who attributes

  abbrev Passes : (BundleFile → Option Act) → (BundleFile → Option Edit) → (BundleFile → Option (Option (List ℕ))) → Point → List ChangeFile → List Act → List LineDone → Type 0
  Passes act_of edit_by lies_by = Passed led_to RunsAct (directory_at number) Stands bundle_path act_of edit_by lies_by bundle.files

  abbrev removed_row : BundleFile → Option Edit
  removed_row file = row_removed file (removes file) (there file)

  abbrev removed_file : BundleFile → Option (Option (List ℕ))
  removed_file file = file_removed (removes file) (there file)

  abbrev added_row : BundleFile → Option Edit
  added_row file = row_added file (removes file) (there file)

  abbrev put_file : BundleFile → Option (Option (List ℕ))
  put_file file = file_put file (removes file)

  abbrev no_row : BundleFile → Option Edit
  no_row file = None

  abbrev no_file : BundleFile → Option (Option (List ℕ))
  no_file file = None

  removals-pass : (from : Point) (files : List ChangeFile) → Stands from files → (rest : List Act) (steps : List LineDone) → ActsRun from (removals stood number bundle ++ rest) steps → Passes (removal (baseline_of stood) number) removed_row removed_file from files rest steps
  removals-pass =
      passes led_to RunsAct (directory_at number) Stands bundle_path (removal (baseline_of stood) number) removed_row removed_file HasItsUsage
      (λ file none. none-removed number file (removes file) (there file) none)
      (λ file good from files s item is step run. removal-leads stood number who attributes file from files s item step run (removes file) (there file) refl is)
      bundle.files fits.ascend fits.usages

  additions-pass : (from : Point) (files : List ChangeFile) → Stands from files → (rest : List Act) (steps : List LineDone) → ActsRun from (additions stood number bundle ++ rest) steps → Passes (addition (baseline_of stood) number) added_row no_file from files rest steps
  additions-pass =
      passes led_to RunsAct (directory_at number) Stands bundle_path (addition (baseline_of stood) number) added_row no_file HasItsUsage
      (λ file none. (none-added number file (removes file) (there file) none, refl))
      (λ file good from files s item is step run. addition-leads stood number who attributes file from files s item step run good (removes file) (there file) refl is)
      bundle.files fits.ascend fits.usages

  puts-pass : (from : Point) (files : List ChangeFile) → Stands from files → (rest : List Act) (steps : List LineDone) → ActsRun from (puts number bundle ++ rest) steps → Passes (put number) no_row put_file from files rest steps
  puts-pass =
      passes led_to RunsAct (directory_at number) Stands bundle_path (put number) no_row put_file HasItsUsage
      (λ file none. (refl, none-put number file (removes file) none))
      (λ file good from files s item is step run. put-leads-there stood number who attributes file from files s item step run (removes file) is)
      bundle.files fits.ascend fits.usages

  -- ---- what they make together

  module _ (from : Point) (rest more : List Act) (steps : List LineDone) (filled : (q : List ℕ) → directory_at number from q ≡ file_below stood bytes q)
      (one : Passes (removal (baseline_of stood) number) removed_row removed_file from [] rest steps) (two : Passes (addition (baseline_of stood) number) added_row no_file one.to one.next more one.left)
      (three : Passes (put number) no_row put_file two.to two.next [] two.left) where
    found-received : (q : List ℕ) → edit_at three.next q ≡ option_and_then (edit_received stood) (sent_at bundle q)
    found-received q =
        three.found q ∙ ap (option_or (option_and_then no_row (sent_at bundle q))) (two.found q ∙ ap (option_or (option_and_then added_row (sent_at bundle q))) (one.found q)) ∙ go (sent_at bundle q)
      where
        go : (v : Option BundleFile) → option_or (option_and_then no_row v) (option_or (option_and_then added_row v) (option_or (option_and_then removed_row v) None)) ≡ option_and_then (edit_received stood) v
        go (Some file) = rows-together file (removes file) (there file) ∙ received-is stood file
        go None = refl

    edits-are : map edit_of three.next ≡ edits_received stood bundle
    edits-are =
        ascending-is by_text edit_path (map edit_of three.next) (edits_received stood bundle)
        (edits-ascend three.next (three.ascend (two.ascend (one.ascend tt))))
        (rows-ascend by_text bundle_path edit_path (edit_received stood) own bundle.files fits.ascend)
        (λ q. find-edits q three.next ∙ found-received q ∙ sym (at-rows by_text bundle_path edit_path (edit_received stood) own q bundle.files fits.ascend))
      where
        own : (file : BundleFile) (made : Edit) → edit_received stood file ≡ Some made → edit_path made ≡ bundle_path file
        own file made is = received-path file (removes file) (there file) made (received-is stood file ∙ is)

    -- the directory at the path of a file
    lies : (file : BundleFile) → sent_at bundle file.path ≡ Some file → (r : Bool) → removes file ≡ r → (v : Option TreeRow) → there file ≡ v → directory_at number three.to file.path ≡ cond r None (Some file.bytes)
    lies file is false kept v found =
        let there_now : IfSome (put_file file) (λ bytes. directory_at number three.to file.path ≡ bytes) =
        subst (λ (w : Option BundleFile). IfSome (option_and_then put_file w) (λ bytes. directory_at number three.to file.path ≡ bytes)) is (three.lying file.path) in
        subst (λ (r : Bool). IfSome (file_put file r) (λ bytes. directory_at number three.to file.path ≡ bytes)) kept there_now
    lies file is true gone v found =
        three.quiet file.path (ap (option_and_then (put number)) is ∙ ap (λ (r : Bool). put_by_removes number file r) gone)
        ∙ two.quiet file.path (ap (option_and_then (addition (baseline_of stood) number)) is ∙ ap (λ (r : Bool). addition_by number file r (there file)) gone)
        ∙ taken v found
      where
        taken : (v : Option TreeRow) → there file ≡ v → directory_at number one.to file.path ≡ None
        taken (Some row) found =
            let there_now : IfSome (removed_file file) (λ bytes. directory_at number one.to file.path ≡ bytes) =
            subst (λ (w : Option BundleFile). IfSome (option_and_then removed_file w) (λ bytes. directory_at number one.to file.path ≡ bytes)) is (one.lying file.path) in
            subst (λ (w : Option TreeRow). IfSome (file_removed true w) (λ bytes. directory_at number one.to file.path ≡ bytes)) found
            (subst (λ (r : Bool). IfSome (file_removed r (there file)) (λ bytes. directory_at number one.to file.path ≡ bytes)) gone there_now)
        taken None found =
            one.quiet file.path (ap (option_and_then (removal (baseline_of stood) number)) is ∙ ap (λ (r : Bool). removal_by number file r (there file)) gone ∙ ap (λ (w : Option TreeRow). removal_by number file true w) found)
            ∙ filled file.path ∙ ap (option_map (λ (row : TreeRow). bytes row.version.number)) found

    files-lie : AllByRecursion (LiesThere (directory_at number three.to)) bundle.files
    files-lie = all-by-members (LiesThere (directory_at number three.to)) bundle.files (λ file member. lies file (in-found by_text bundle_path bundle.files fits.ascend file member) (removes file) refl (there file) refl)

    -- and at every other path
    others-lie : (q : List ℕ) → sent_at bundle q ≡ None → directory_at number three.to q ≡ file_below stood bytes q
    others-lie q none =
        three.quiet q (ap (option_and_then (put number)) none) ∙ two.quiet q (ap (option_and_then (addition (baseline_of stood) number)) none)
        ∙ one.quiet q (ap (option_and_then (removal (baseline_of stood) number)) none) ∙ filled q

    -- the steps stop where the last of them led
    stops : stop from steps ≡ three.to
    stops =
        one.reaches stop (λ p step more. refl) ∙ two.reaches stop (λ p step more. refl) ∙ three.reaches stop (λ p step more. refl)
        ∙ no-more three.to three.left three.runs

    there-received : (TextsAreBytes bundle → AreDescribed attributes bundle) → HasReceived stood bytes bundle number who (stop from steps).log (directory_at number (stop from steps))
    there-received described =
        subst (λ (p : Point). HasReceived stood bytes bundle number who p.log (directory_at number p)) (sym stops)
        (record {
          after = three.stands.o;
          stands = three.stands.stands;
          baseline = three.stands.baseline;
          change = three.stands.change;
          there = three.stands.there;
          is = record {
            phase = three.stands.phase;
            developer = three.stands.developer;
            described = λ texts. subst (λ (a : ChangeAttributes). AreDescribed a bundle) (sym three.stands.attributes_are) (described texts);
            edits = ap (map edit_of) three.stands.files_are ∙ edits-are;
            files = files-lie;
            others = others-lie;
          };
        })

  -- ---- all three, one after another

  passes-received : (TextsAreBytes bundle → AreDescribed attributes bundle) → (from : Point) → Stands from [] → ((q : List ℕ) → directory_at number from q ≡ file_below stood bytes q)
      → (steps : List LineDone) → ActsRun from (removals stood number bundle ++ (additions stood number bundle ++ puts number bundle)) steps → HasReceived stood bytes bundle number who (stop from steps).log (directory_at number (stop from steps))
  passes-received described from stands filled steps runs =
      let one = removals-pass from [] stands (additions stood number bundle ++ puts number bundle) steps runs in
      let two = additions-pass one.to one.next one.stands (puts number bundle) one.left one.runs in
      let three = puts-pass two.to two.next two.stands [] two.left (subst (λ (acts : List Act). ActsRun two.to acts two.left) (sym (append-nil (puts number bundle))) two.runs) in
      there-received from (additions stood number bundle ++ puts number bundle) (puts number bundle) steps filled one two three described

-- ---- the plan

pub all-received : (stood : Observation) (number : ℕ) (bundle : Bundle) → FilesFit bundle.files → free_number stood ≡ Some number → (from : Point) (steps : List LineDone) → observation from.log ≡ Some stood → Legal from.log → ActsRun from (plan_of (baseline_of stood) number bundle) steps
    → HasReceived stood (version_bytes from.log) bundle number from.who (stop from steps).log (directory_at number (stop from steps))
all-received stood number bundle fits free from steps stands legal runs =
    let begun = begins stood number bundle from (removals stood number bundle ++ (additions stood number bundle ++ puts number bundle)) steps stands legal free runs in
    subst (λ (p : Point). HasReceived stood (version_bytes from.log) bundle number from.who p.log (directory_at number p)) (sym begun.stops)
    (passes-received stood number bundle fits (version_bytes from.log) from.who begun.attributes begun.described begun.to begun.stands begun.filled begun.left begun.runs)
