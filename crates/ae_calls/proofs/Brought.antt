-- A call that ends a branch, once it is done.
use Rattle.std.proofs.Common.{◌≡◌, inl, inr, ℕ, ◌≤◌, ◌<◌, refl, sym, ◌∙◌, ap, subst, arith, List, [], ◌∷◌, map, length, Option, Some, None, Bool, true, false, cond, Ok, Err}
use Rattle.std.specs.Prelude.{IfSome, filter}
use Rattle.std.specs.List.{AllByRecursion}
use Rattle.std.specs.Option.{option_map_or}
use Rattle.std.specs.Ordering.{nat_cmp}
use Rattle.std.specs.Str.{bytes_eq}
use Rattle.std.proofs.lemmas.Bool.{le-leb}
use Rattle.std.proofs.lemmas.Option.{same_Some}
use Rattle.ae_base.specs.Rows.{text_cmp}
use Rattle.ae_base.specs.declared.outcome.Outcome.TheVariants.{Done, Memory}
use Rattle.ae_base.specs.declared.want.Want.TheVariants.{All}
use Rattle.ae_base.specs.declared.words.Usage.TheVariants.{Source}
use Rattle.ae_branch.specs.Branch as branched
use Rattle.ae_branch.specs.Branch.{FinishDone, IsAsked}
use Rattle.ae_branch.specs.Carried.{brings, brought, carried_row, carried_rows, is_changed, last_usage}
use Rattle.ae_branch.specs.Finish.{BringCarried, PlansFor, PlansOn, branch_bundle}
use Rattle.ae_branch.proofs.Brought.{brings_back}
use Rattle.ae_branch.proofs.Steps.{same_ok}
use Rattle.ae_branch_words.specs.declared.words.BranchWords.{BranchWords}
use Rattle.ae_branch_words.specs.declared.words.Rest.TheVariants as rest
use Rattle.ae_bundle.specs.Bundled.{bundle_path}
use Rattle.ae_bundle.specs.declared.bundle.Bundle.{Bundle}
use Rattle.ae_bundle.specs.declared.bundle.BundleFile.{BundleFile}
use Rattle.ae_dist.specs.Plan.{free_number, plan_of}
use Rattle.ae_dist.specs.Sending.{sent_file}
use Rattle.ae_exec.specs.Holding.{HoldsLegal}
use Rattle.ae_exec.specs.Shown.{Shown}
use Rattle.ae_exec.proofs.Shown.{log-shown}
use Rattle.ae_exec.proofs.Stores.{one}
use Rattle.ae_files.specs.InTree.{row_at}
use Rattle.ae_lines.specs.declared.act.Act.{Act}
use Rattle.ae_log.specs.Files.{version_bytes}
use Rattle.ae_log.specs.Log.{Log}
use Rattle.ae_log.specs.Observed.{observation}
use Rattle.ae_machine.proofs.LegalRightly.{legal-sound}
use Rattle.ae_machine.proofs.Lists.{found-so}
use Rattle.ae_outside.specs.Image.{Image}
use Rattle.ae_outside.specs.Site.{SiteState}
use Rattle.ae_outside.specs.State.{reads}
use Rattle.ae_outside.specs.Trees.{Tree}
use Rattle.ae_outside.specs.declared.dir.Dir.TheVariants.{Develop}
use Rattle.ae_received.specs.Received.{HasReceived, LiesThere}
use Rattle.ae_received.proofs.Acts.{ActsRun}
use Rattle.ae_received.proofs.FileActs.{directory_at}
use Rattle.ae_received.proofs.Received.{all-ran}
use Rattle.ae_received.proofs.Sent.{FilesFit, HasItsUsage}
use Rattle.ae_received.proofs.Whole.{all-received}
use Rattle.ae_script.specs.Acts.{ActsDone}
use Rattle.ae_script.specs.Follows.{IsLogged}
use Rattle.ae_script.specs.Lines.{Did, Stand, stand}
use Rattle.ae_script.specs.Steps.{Point, stop}
use Rattle.ae_script.specs.Uses.{Disks, Sites, Streams, written_from}
use Rattle.ae_script.specs.declared.manner.Manner.TheVariants.{Plan}
use Rattle.ae_script.proofs.Telling.{meant_done}
use Rattle.ae_types.specs.declared.file_table.FileRow.{FileRow}
use Rattle.ae_types.specs.declared.file_table.FileVersion.{FileVersion}
use Rattle.ae_types.specs.Found.{entry_delta, entry_in, row_path}
use Rattle.ae_types.specs.Observation.{Observation}
use Rattle.ae_types.specs.Ordered.{Above, Ascends}
use Rattle.ae_types.specs.Part.{part, part_of}
use Rattle.ae_types.specs.Sound.{IsGoodRow, Sound}
use Rattle.ae_types.specs.Trees.{TreeRow, baseline_of, last_delta, last_up_to, tree_path, unless_later}
use Rattle.ae_types.proofs.Keys.{by_number, by_text}
use Rattle.ae_types.proofs.Members.{In}
use Rattle.ae_types.proofs.Searched.{in-found}
use Rattle.ae_vault.specs.Vault.{effective}
use Rattle.ae_calls.specs.Brought.{EndedBranchesBring, LiesAs, WasBrought}
use Rattle.ae_calls.proofs.Begun.{no-acts-not-done}
use Rattle.ae_calls.proofs.Received.{shown-of-log, why-not-done}
use Rattle.ae_calls.proofs.Usages.{HaveUsages, UsageFits, legal-usages, tree-fits}
use Rattle.ae_exec.proofs.CandidateNumbers.{last-in}

-- ---- the files that are brought can be received

-- the last delta that changed a file is one of the project's
last-none : (deltas : ℕ) (past : List FileVersion) → 0 < length past → Ascends nat_cmp entry_delta past → ((delta : ℕ) (entry : FileVersion) → entry_in past delta ≡ Some entry → (1 ≤ delta) × (delta ≤ deltas)) → last_up_to deltas past ≡ None → ⊥
last-none deltas [] some up there none = omega (arith, some)
last-none deltas (first ∷ past) some up there none =
    let within = (there first.delta first (in-found by_number entry_delta (first ∷ past) up first (inl refl))).1 in
    go (last_up_to deltas past) (sym (ap (λ (b : Bool). cond b (unless_later first (last_up_to deltas past)) (last_up_to deltas past)) (le-leb first.delta deltas within)) ∙ none)
  where
    go : (later : Option FileVersion) → unless_later first later ≡ None → ⊥
    go (Some later) is = cc
    go None is = cc

module _ (kept : Option Image) (o : Observation) where
  abbrev bring : FileRow → BundleFile
  bring row = sent_file kept (carried_row o row)

  abbrev bring_all : List FileRow → List BundleFile
  bring_all rows = map (sent_file kept) (map (carried_row o) (filter is_changed rows))

  bring-path : (row : FileRow) → bundle_path (bring row) ≡ row.path
  bring-path row = go (row_at (baseline_of o) row.path)
    where
      go : (file : Option TreeRow) → bundle_path (sent_file kept (brought row.path (last_usage o row) file)) ≡ row.path
      go (Some file) = refl
      go None = refl

  bring-above : (q : List ℕ) (rows : List FileRow) → Above text_cmp row_path q rows → Above text_cmp bundle_path q (bring_all rows)
  bring-above q [] up = tt
  bring-above q (row ∷ rows) up = go (is_changed row) (bring-above q rows up.1)
    where
      go : (b : Bool) → Above text_cmp bundle_path q (bring_all rows) → Above text_cmp bundle_path q (map (sent_file kept) (map (carried_row o) (cond b (row ∷ filter is_changed rows) (filter is_changed rows))))
      go true rest = (ap (text_cmp q) (bring-path row) ∙ up.0, rest)
      go false rest = rest

  bring-ascend : (rows : List FileRow) → Ascends text_cmp row_path rows → Ascends text_cmp bundle_path (bring_all rows)
  bring-ascend [] up = tt
  bring-ascend (row ∷ rows) up = go (is_changed row) (bring-ascend rows up.1)
    where
      go : (b : Bool) → Ascends text_cmp bundle_path (bring_all rows) → Ascends text_cmp bundle_path (map (sent_file kept) (map (carried_row o) (cond b (row ∷ filter is_changed rows) (filter is_changed rows))))
      go true rest = (subst (λ (p : List ℕ). Above text_cmp bundle_path p (bring_all rows)) (sym (bring-path row)) (bring-above row.path rows up.0), rest)
      go false rest = rest

  bring-fit : (rows : List FileRow) → ((row : FileRow) → In rows row → HasItsUsage (bring row)) → AllByRecursion HasItsUsage (bring_all rows)
  bring-fit [] each = tt
  bring-fit (row ∷ rows) each = go (is_changed row) (bring-fit rows (λ other there. each other (inr there)))
    where
      go : (b : Bool) → AllByRecursion HasItsUsage (bring_all rows) → AllByRecursion HasItsUsage (map (sent_file kept) (map (carried_row o) (cond b (row ∷ filter is_changed rows) (filter is_changed rows))))
      go true rest = (each row (inl refl), rest)
      go false rest = rest

  module _ (sound : Sound o) (have : HaveUsages o) where
    usage-fits : (row : FileRow) → In o.files row → UsageFits row.path (last_usage o row)
    usage-fits row there = go (last_up_to (last_delta o) row.past) refl
      where
        good : IsGoodRow (last_delta o) row
        good = sound.rows.good row.path row (in-found by_text row_path o.files sound.rows.ascend row there)

        go : (last : Option FileVersion) → last_up_to (last_delta o) row.past ≡ last → UsageFits row.path (option_map_or (λ (entry : FileVersion). entry.usage) last Source)
        go (Some entry) is = have.table row there entry (last-in (last_delta o) row.past entry is)
        go None is = absurd (last-none (last_delta o) row.past good.some good.ascends good.there is)

    file-fits : (row : FileRow) → In o.files row → HasItsUsage (bring row)
    file-fits row there = go (row_at (baseline_of o) row.path) refl
      where
        go : (file : Option TreeRow) → row_at (baseline_of o) row.path ≡ file → HasItsUsage (sent_file kept (brought row.path (last_usage o row) file))
        go (Some file) is =
            let so = found-so (λ (r : TreeRow). bytes_eq row.path (tree_path r)) (baseline_of o) file is in
            subst (λ (p : List ℕ). UsageFits p file.usage) (sym (by_text.same_is row.path file.path so.1)) (tree-fits o have (last_delta o) file so.0)
        go None is = usage-fits row there

    carried-fit : FilesFit (map (sent_file kept) (carried_rows o))
    carried-fit = record { ascend = bring-ascend o.files sound.rows.ascend; usages = bring-fit o.files file-fits }

-- ---- what lies in the directory

files-lie : (directory : Tree) (files : List BundleFile) → AllByRecursion (LiesThere directory) files → AllByRecursion (LiesAs directory) (brings files)
files-lie directory [] lie = tt
files-lie directory (file ∷ files) lie = (lie.0, files-lie directory files lie.1)

-- ---- the plan

planned-is : (o : Observation) (bundle : Bundle) (acts : List Act) → PlansOn o bundle (Ok acts) → (number : ℕ) × (free_number o ≡ Some number) × (acts ≡ plan_of (baseline_of o) number bundle)
planned-is o bundle acts said = by (free_number o) refl said
  where
    by : (free : Option ℕ) → free_number o ≡ free → PlansFor (baseline_of o) bundle free (Ok acts) → (number : ℕ) × (free_number o ≡ Some number) × (acts ≡ plan_of (baseline_of o) number bundle)
    by (Some number) is plans = (number, is, same_ok acts (plan_of (baseline_of o) number bundle) plans)
    by None is plans = absurd (cc plans)

-- ---- what stands in the branch

whole-of-log : (b : Disks) (disk : b.Disk) (held : List Log) (log : Log) (o : Observation) → HoldsLegal (b.state disk) held log → Shown All (reads (b.state disk)) (Some o) → (stood : Observation) × (observation log ≡ Some stood) × (o ≡ part All stood)
whole-of-log b disk held log o holds shown =
    by (observation log) refl (one All (reads (b.state disk)) (Some o) (part_of All (observation log)) shown (log-shown All (reads (b.state disk)) log holds.holds.stands).shown)
  where
    by : (x : Option Observation) → observation log ≡ x → Some o ≡ part_of All x → (stood : Observation) × (observation log ≡ Some stood) × (o ≡ part All stood)
    by (Some stood) stands same = (stood, stands, same_Some o (part All stood) same)
    by None stands same = absurd (let none : Some o ≡ None = same in cc)

-- ---- the call

module _ (d : Disks) (s : Sites) (b : Disks) (t : Sites) (e : Streams) (words : BranchWords) (who : List ℕ) (now : ℕ) (trunk trunk_new : d.Disk) (trunk_site trunk_site_new : s.Site) (disk disk_new : b.Disk) (site site_new : t.Site) (err err_new : e.Stream) (seen : d.told)
    (shown : s.told) (sees : b.told) (held : List Log) (log : Log) (holds : HoldsLegal (d.state trunk) held log) (branch_held : List Log) (branch_log : Log) (branch_holds : HoldsLegal (b.state disk) branch_held branch_log) where
  abbrev on : Stand d s
  on = stand d s who now trunk trunk_site

  abbrev beside : Stand b t
  beside = stand b t who now disk site

  abbrev branch : Image
  branch = reads (b.state disk)

  -- what the branch shows can be received
  brought-fit : (o : Observation) → Shown All branch (Some o) → FilesFit (map (sent_file (effective branch)) (carried_rows o))
  brought-fit o is =
      let in_log = whole-of-log b disk branch_held branch_log o branch_holds is in
      let legal = branch_holds.holds.legal in
      let have : HaveUsages in_log.0 = subst (λ (v : Option Observation). IfSome v HaveUsages) in_log.1 (legal-usages branch_log legal) in
      subst (λ (p : Observation). FilesFit (map (sent_file (effective branch)) (carried_rows p))) (sym in_log.2) (carried-fit (effective branch) in_log.0 (legal-sound branch_log in_log.0 legal in_log.1) have)

  acts-ended : (acts : List Act) (begun : Stand d s) → BringCarried words.name (reads (d.state trunk)) branch acts → begun ≡ record on { disk = begun.disk }
      → (did : ActsDone d s Plan acts begun (stand d s who now trunk_new trunk_site_new) (written_from e err err_new) Done) → (logged : IsLogged d s Plan on did.done trunk_new held log)
      → WasBrought branch words.name log who logged.holds.read (s.state trunk_site_new)
  acts-ended acts begun back same did logged =
      let ran = all-ran d s e acts on begun (stand d s who now trunk_new trunk_site_new) same err err_new Done did refl shown held log logged in
      let in_log = shown-of-log d trunk held log back.trunk_stands holds back.trunk_shown in
      let bundle : Bundle = branch_bundle words.name back.files in
      let plan = planned-is back.trunk_stands bundle acts back.planned in
      let free : free_number in_log.0 ≡ Some plan.0 = sym (ap free_number in_log.2) ∙ plan.1 in
      let are : acts ≡ plan_of (baseline_of in_log.0) plan.0 bundle = plan.2 ∙ ap (λ (o : Observation). plan_of (baseline_of o) plan.0 bundle) in_log.2 in
      let fits : FilesFit back.files = subst FilesFit (sym back.are) (brought-fit back.branch_stands back.branch_shown) in
      let start : Point = record { who = who; now = now; log = log; site = s.state trunk_site } in
      let got : HasReceived in_log.0 (version_bytes log) bundle plan.0 who (stop start logged.steps).log (directory_at plan.0 (stop start logged.steps)) =
      all-received in_log.0 plan.0 bundle fits free start logged.steps in_log.1 holds.holds.legal (subst (λ (items : List Act). ActsRun start items logged.steps) are ran.runs) in
      let has : HasReceived in_log.0 (version_bytes log) bundle plan.0 who logged.holds.read ((s.state trunk_site_new).trees (Develop plan.0)) =
      subst (λ (l : Log). HasReceived in_log.0 (version_bytes log) bundle plan.0 who l ((s.state trunk_site_new).trees (Develop plan.0))) (sym ran.reads)
      (subst (λ (state : SiteState). HasReceived in_log.0 (version_bytes log) bundle plan.0 who (stop start logged.steps).log (state.trees (Develop plan.0))) ran.leaves got) in
      record {
        from = back.branch_stands;
        shown = back.branch_shown;
        stood = in_log.0;
        stands = in_log.1;
        number = plan.0;
        free = free;
        files = back.files;
        bring = back.bring;
        received = has;
        lies = subst (AllByRecursion (LiesAs ((s.state trunk_site_new).trees (Develop plan.0)))) back.bring (files-lie ((s.state trunk_site_new).trees (Develop plan.0)) back.files has.is.files);
      }

  ended-so : (begun : Stand d s) (done : List (Did d s)) → FinishDone d s b t words.name on beside trunk_new trunk_site_new disk_new (written_from e err err_new) Done begun done → (logged : IsLogged d s Plan on done trunk_new held log)
      → WasBrought branch words.name log who logged.holds.read (s.state trunk_site_new)
  ended-so _ _ (branched.unplanned why none opened looks same why_told) logged = absurd (why-not-done why (written_from e err err_new) (no-acts-not-done _ _ _ (Err why) why none.caused refl) why_told)
  ended-so _ _ (branched.ended acts begun said branch_opened trunk_opened looks did) logged = acts-ended acts begun (brings_back words.name (reads (d.state trunk)) branch acts (said seen sees)) looks.same did logged

  asked-so : words.rest ≡ rest.Finish → (on_trunk : List (Did d s)) (on_branch : List (Did b t)) → IsAsked d s b t words on beside trunk_new trunk_site_new disk_new site_new (written_from e err err_new) Done on_trunk on_branch
      → (logged : IsLogged d s Plan on on_trunk trunk_new held log) → WasBrought branch words.name log who logged.holds.read (s.state trunk_site_new)
  asked-so is _ _ (branched.begins delta begun done words_are did are looks same) logged = absurd (let both : rest.Begin delta ≡ rest.Finish = sym words_are ∙ is in cc)
  asked-so is _ _ (branched.finishes begun done words_are did are looks same) logged = ended-so begun done did logged
  asked-so is _ _ (branched.wanting a b c d lacking) logged = absurd (let wants : Memory ≡ Done = meant_done Memory Done (written_from e err err_new).rose refl lacking.how in cc)

pub ended-bring : (d : Disks) (s : Sites) (b : Disks) (t : Sites) (e : Streams) → EndedBranchesBring d s b t e
ended-bring d s b t e words is who now trunk trunk_new trunk_site trunk_site_new disk disk_new site site_new err err_new call seen shown sees held log holds branch_held branch_log branch_holds =
    asked-so d s b t e words who now trunk trunk_new trunk_site trunk_site_new disk disk_new site site_new err err_new seen shown sees held log holds branch_held branch_log branch_holds is call.on_trunk call.on_branch call.is
    (call.trunk_logs seen shown held log holds)
