-- A call that begins a branch, once it is done.
use Rattle.std.proofs.Common.{◌≡◌, inl, inr, ℕ, refl, sym, ◌∙◌, ap, subst, List, [], ◌∷◌, ◌++◌, map, Option, Some, None, Bool, true, false, cond, Result, Ok, Err}
use Rattle.std.specs.Prelude.{IfSome}
use Rattle.std.specs.List.{AllByRecursion, filter_map, find}
use Rattle.std.specs.Option.{option_map}
use Rattle.std.specs.Str.{bytes_eq}
use Rattle.ae_base.specs.Rows.{text_cmp}
use Rattle.ae_base.specs.declared.outcome.Outcome.{Outcome}
use Rattle.ae_base.specs.declared.outcome.Outcome.TheVariants.{Done, Memory}
use Rattle.ae_base.specs.declared.want.Want.TheVariants.{All, Nothing}
use Rattle.ae_branch.specs.Begin.{Begins, IsVacant, brief_of, created, created_rows, first_bundle, plan_of_first, refuses_rows, refuses_trunk}
use Rattle.ae_branch.specs.Branch as branched
use Rattle.ae_branch.specs.Branch.{BeginDone, BranchDone, HasNoActs, IsAsked}
use Rattle.ae_branch.specs.Opening.{opening_acts}
use Rattle.ae_branch.specs.Steps.{AnswersAs, Is, IsFault, Opens, Reads, UnlessRefused, failed, starved}
use Rattle.ae_branch.specs.Steps as answers
use Rattle.ae_branch.proofs.Brought.{found}
use Rattle.ae_branch.proofs.Steps.{same_ok}
use Rattle.ae_branch_words.specs.declared.words.BranchWords.{BranchWords}
use Rattle.ae_branch_words.specs.declared.words.Rest.{Rest}
use Rattle.ae_branch_words.specs.declared.words.Rest.TheVariants as rest
use Rattle.ae_bundle.specs.Bundled.{bundle_path}
use Rattle.ae_bundle.specs.declared.bundle.Bundle.{Bundle}
use Rattle.ae_bundle.specs.declared.bundle.BundleFile.{BundleFile}
use Rattle.ae_dist.specs.Answers as says
use Rattle.ae_dist.specs.Plan.{free_number}
use Rattle.ae_dist.specs.Sending.{sent_file}
use Rattle.ae_dist.specs.Steps.{AreReadFrom}
use Rattle.ae_exec.specs.Bytes.{HaveBytes, bytes_at}
use Rattle.ae_exec.specs.Holding.{HoldsLegal}
use Rattle.ae_exec.specs.Shown.{Shown}
use Rattle.ae_exec.specs.Stands.{StandsForLog}
use Rattle.ae_exec.proofs.Shown.{list-in, log-shown}
use Rattle.ae_exec.proofs.Stores.{one}
use Rattle.ae_files.specs.InTree.{row_at}
use Rattle.ae_lines.specs.declared.act.Act.{Act}
use Rattle.ae_log.specs.Files.{version_bytes}
use Rattle.ae_log.specs.Log.{Log}
use Rattle.ae_log.specs.Observed.{observation}
use Rattle.ae_log.specs.Settings.{change_numbers}
use Rattle.ae_log.proofs.PassedTree.{tree_own}
use Rattle.ae_machine.specs.Legal.{Legal}
use Rattle.ae_machine.proofs.LegalRightly.{legal-sound}
use Rattle.ae_machine.proofs.Lists.{found-so}
use Rattle.ae_outside.specs.Image.{Image}
use Rattle.ae_outside.specs.Site.{SiteState}
use Rattle.ae_outside.specs.State.{reads}
use Rattle.ae_outside.specs.Trees.{Tree}
use Rattle.ae_outside.specs.declared.dir.Dir.TheVariants.{Develop}
use Rattle.ae_received.specs.Edits.{Edit}
use Rattle.ae_received.specs.Received.{HasReceived, LiesThere, edit_received}
use Rattle.ae_received.proofs.Acts.{ActsRun}
use Rattle.ae_received.proofs.FileActs.{directory_at}
use Rattle.ae_received.proofs.Received.{all-ran}
use Rattle.ae_received.proofs.Sent.{FilesFit, HasItsUsage}
use Rattle.ae_received.proofs.Whole.{all-received}
use Rattle.ae_script.specs.Acts.{ActsDone}
use Rattle.ae_script.specs.Follows.{IsLogged}
use Rattle.ae_script.specs.Lines.{Did, Stand, stand}
use Rattle.ae_script.specs.Steps.{LineDone, Point, stop}
use Rattle.ae_script.specs.Uses.{Disks, Sites, Streams, written_from}
use Rattle.ae_script.specs.declared.manner.Manner.TheVariants.{Plan}
use Rattle.ae_script.proofs.Telling.{meant_done}
use Rattle.ae_types.specs.declared.file_table.FileVersion.{FileVersion}
use Rattle.ae_types.specs.declared.project.Project.{Project}
use Rattle.ae_types.specs.Found.{row_path}
use Rattle.ae_types.specs.Observation.{Observation}
use Rattle.ae_types.specs.Ordered.{Above, Ascends}
use Rattle.ae_types.specs.Part.{part, part_of}
use Rattle.ae_types.specs.Trees.{TreeRow, tree_of, tree_path, tree_row}
use Rattle.ae_types.specs.Versions.{live, past_versions}
use Rattle.ae_types.proofs.Keys.{by_text}
use Rattle.ae_types.proofs.Members.{In, in-flat, in-left, in-some}
use Rattle.ae_types.proofs.Ordered.{rows-ascend}
use Rattle.ae_vault.specs.Vault.{effective}
use Rattle.ae_words.specs.Formed.{first_change}
use Rattle.ae_calls.specs.Begun.{BegunBranchesHaveTheTree, WasBegun, created_edit}
use Rattle.ae_calls.proofs.Opened.{only, opened-is, opened_project, opens}
use Rattle.ae_calls.proofs.Received.{shown-of-log, why-not-done}
use Rattle.ae_calls.proofs.Usages.{HaveUsages, legal-usages, tree-entry, tree-fits}

-- ---- what the files of both disks said

opened : (who : List ℕ) (delta : ℕ) (image : Image) (result : Result Observation Outcome) (o : Observation) → result ≡ Ok o → Opens Nothing (refuses_trunk who delta) image result → Shown Nothing image (Some o)
opened who delta image _ o same (says.done p is) = subst (λ (x : Observation). Shown Nothing image (Some x)) (same_ok p o same) is.0
opened who delta image _ o same (says.refused refusal is) = absurd (cc same)
opened who delta image _ o same (says.damaged name is) = absurd (cc same)

vacant : (image : Image) (result : Result (Unit {0}) Outcome) → result ≡ Ok tt → IsVacant image result → Shown Nothing image None
vacant image _ same (says.done value is) = is
vacant image _ same (says.refused refusal is) = absurd (cc same)
vacant image _ same (says.damaged name is) = absurd (cc same)

read : (image : Image) (rows : List _) (result : Result (List BundleFile) Outcome) (files : List BundleFile) → result ≡ Ok files → Reads image rows result → AreReadFrom (effective image) rows files
read image rows _ files same (says.done others is) = subst (AreReadFrom (effective image) rows) (same_ok others files same) is
read image rows _ files same (says.refused refusal is) = absurd (cc same)
read image rows _ files same (says.damaged name is) = absurd (cc same)

-- they showed a project in the trunk and none in the branch, and these are the acts
record Begin (trunk branch : Image) (name : List ℕ) (delta : ℕ) (who : List ℕ) (acts : List Act) : Type 0 where
  o : Observation
  shown : Shown Nothing trunk (Some o)
  none : Shown Nothing branch None
  files : List BundleFile
  from : AreReadFrom (effective trunk) (created_rows o delta) files
  are : acts ≡ opening_acts o who name ++ plan_of_first (brief_of name delta) files

said-begin : (trunk branch : Image) (name : List ℕ) (delta : ℕ) (who : List ℕ) (acts : List Act) → Begins trunk branch name delta who (Ok acts) → Begin trunk branch name delta who acts
said-begin trunk branch name delta who acts said =
    let at = found (Opens Nothing (refuses_trunk who delta) trunk) _ (Ok acts) acts refl said in
    let free = found (IsVacant branch) _ (Ok acts) acts refl at.2 in
    let rows = found (UnlessRefused (refuses_rows (created_rows at.0 delta))) _ (Ok acts) acts refl free.2 in
    let files = found (Reads trunk (created_rows at.0 delta)) _ (Ok acts) acts refl rows.2 in
    record {
      o = at.0;
      shown = opened who delta trunk (Ok at.0) at.0 refl at.1;
      none = vacant branch (Ok free.0) refl free.1;
      files = files.0;
      from = read trunk (created_rows at.0 delta) (Ok files.0) files.0 refl files.1;
      are = same_ok acts (opening_acts at.0 who name ++ plan_of_first (brief_of name delta) files.0) files.2;
    }

-- a disk that shows no project held the log of none
none-of-log : (b : Disks) (disk : b.Disk) (held : List Log) (log : Log) → HoldsLegal (b.state disk) held log → Shown Nothing (reads (b.state disk)) None → observation log ≡ None
none-of-log b disk held log holds none =
    by (observation log) (one Nothing (reads (b.state disk)) None (part_of Nothing (observation log)) none (log-shown Nothing (reads (b.state disk)) log holds.holds.stands).shown)
  where
    by : (x : Option Observation) → None ≡ part_of Nothing x → x ≡ None
    by (Some stood) same = absurd (let both : None ≡ Some (part Nothing stood) = same in cc)
    by None same = refl

-- ---- the files of the tree

-- a version of a tree has its bytes on a disk that stands for the log
pub tree-bytes : (image : Image) (log : Log) → StandsForLog image log → (from : Observation) → observation log ≡ Some from → (delta : ℕ) (row : TreeRow) → In (tree_of from delta) row
    → bytes_at (effective image) row.version ≡ version_bytes log row.version.number
tree-bytes image log stands from stood delta row there =
    let at = tree-entry from delta row there in
    let have : HaveBytes (effective image) (Some from) (version_bytes log) = subst (λ (v : Option Observation). HaveBytes (effective image) (part_of All v) (version_bytes log)) stood (log-shown All image log stands).bytes_are in
    sym (have row.version (list-in (live from.files from.changes) row.version
    (in-left _ _ row.version (in-flat past_versions from.files at.of row.version at.among (in-some (λ (entry : FileVersion). entry.version) at.of.past at.entry row.version at.in_past at.version)))))

module _ (kept : Option Image) where
  abbrev send : TreeRow → BundleFile
  send row = sent_file kept (created row)

  abbrev sent : List TreeRow → List BundleFile
  sent rows = map (sent_file kept) (map created rows)

  sent-above : (q : List ℕ) (rows : List TreeRow) → Above text_cmp tree_path q rows → Above text_cmp bundle_path q (sent rows)
  sent-above q [] above = tt
  sent-above q (row ∷ rows) above = (above.0, sent-above q rows above.1)

  sent-ascend : (rows : List TreeRow) → Ascends text_cmp tree_path rows → Ascends text_cmp bundle_path (sent rows)
  sent-ascend [] up = tt
  sent-ascend (row ∷ rows) up = (sent-above row.path rows up.0, sent-ascend rows up.1)

  -- what holds of each row's file holds of all
  sent-all : (P : BundleFile → Type 0) (rows : List TreeRow) → ((row : TreeRow) → In rows row → P (send row)) → AllByRecursion P (sent rows)
  sent-all P [] each = tt
  sent-all P (row ∷ rows) each = (each row (inl refl), sent-all P rows (λ other there. each other (inr there)))

  sent-each : (P : BundleFile → Type 0) (rows : List TreeRow) → AllByRecursion P (sent rows) → (row : TreeRow) → In rows row → P (send row)
  sent-each P [] all row there = absurd there
  sent-each P (first ∷ rows) all row (inl same) = subst (λ (r : TreeRow). P (send r)) same all.0
  sent-each P (first ∷ rows) all row (inr more) = sent-each P rows all.1 row more

  -- the file of a path is that of its row
  sent-found : (q : List ℕ) (rows : List TreeRow) → find (λ file. bytes_eq q (bundle_path file)) (sent rows) ≡ option_map send (row_at rows q)
  sent-found q [] = refl
  sent-found q (row ∷ rows) = go (bytes_eq q row.path) (sent-found q rows)
    where
      go : (b : Bool) → find (λ file. bytes_eq q (bundle_path file)) (sent rows) ≡ option_map send (row_at rows q)
          → cond b (Some (send row)) (find (λ file. bytes_eq q (bundle_path file)) (sent rows)) ≡ option_map send (cond b (Some row) (row_at rows q))
      go true rest = refl
      go false rest = rest

  -- where no project has a file yet each is created
  sent-edits : (project : Project) (rows : List TreeRow) → filter_map (edit_received (only project)) (sent rows) ≡ map created_edit rows
  sent-edits project [] = refl
  sent-edits project (row ∷ rows) = ap (λ (edits : List Edit). created_edit row ∷ edits) (sent-edits project rows)

  sent-lies : (project : Project) (bytes : ℕ → List ℕ) (brief : List ℕ) (rows : List TreeRow) (who : List ℕ) (next : Log) (directory : Tree) → HasReceived (only project) bytes (first_bundle brief (sent rows)) first_change who next directory
      → (path : List ℕ) → directory path ≡ option_map (λ (row : TreeRow). bytes_at kept row.version) (row_at rows path)
  sent-lies project bytes brief rows who next directory has path = go (row_at rows path) refl
    where
      go : (found : Option TreeRow) → row_at rows path ≡ found → directory path ≡ option_map (λ (row : TreeRow). bytes_at kept row.version) found
      go (Some row) is =
          let so = found-so (λ (r : TreeRow). bytes_eq path (tree_path r)) rows row is in
          ap directory (by_text.same_is path row.path so.1) ∙ sent-each (LiesThere directory) rows has.is.files row so.0
      go None is = has.is.others path (sent-found path rows ∙ ap (option_map send) is)

-- those of a legal log's trees can be received
tree-fit : (kept : Option Image) (log : Log) (from : Observation) → Legal log → observation log ≡ Some from → (delta : ℕ) → FilesFit (sent kept (tree_of from delta))
tree-fit kept log from legal stood delta =
    let usages : HaveUsages from = subst (λ (v : Option Observation). IfSome v HaveUsages) stood (legal-usages log legal) in
    record {
      ascend = sent-ascend kept (tree_of from delta) (rows-ascend by_text row_path tree_path (tree_row delta) (tree_own delta) from.files (legal-sound log from legal stood).rows.ascend);
      usages = sent-all kept HasItsUsage (tree_of from delta) (λ row there. tree-fits from usages delta row there);
    }

-- ---- what stands

-- the first change has the first number
number-free : (project : Project) → free_number (only project) ≡ Some first_change
unfolding change_numbers
number-free project = refl

same-lies : (rows : List TreeRow) (kept : Option Image) (bytes : ℕ → List ℕ) → ((row : TreeRow) → In rows row → bytes_at kept row.version ≡ bytes row.version.number) → (path : List ℕ)
    → option_map (λ (row : TreeRow). bytes_at kept row.version) (row_at rows path) ≡ option_map (λ (row : TreeRow). bytes row.version.number) (row_at rows path)
same-lies rows kept bytes same path = go (row_at rows path) refl
  where
    go : (found : Option TreeRow) → row_at rows path ≡ found → option_map (λ (row : TreeRow). bytes_at kept row.version) found ≡ option_map (λ (row : TreeRow). bytes row.version.number) found
    go (Some row) is = ap (λ (b : List ℕ). Some b) (same row (found-so (λ (r : TreeRow). bytes_eq path (tree_path r)) rows row is).0)
    go None is = refl

module _ (image : Image) (trunk : Log) (stands : StandsForLog image trunk) (legal : Legal trunk) (from : Observation) (stood : observation trunk ≡ Some from) (name : List ℕ) (delta : ℕ) where
  abbrev rows : List TreeRow
  rows = tree_of from delta

  abbrev files : List BundleFile
  files = sent (effective image) rows

  acts-begin : (start : Point) (steps : List LineDone) → observation start.log ≡ None → Legal start.log → ActsRun start (opening_acts (part Nothing from) start.who name ++ plan_of_first (brief_of name delta) files) steps
      → WasBegun trunk name delta start.who (stop start steps).log (directory_at first_change (stop start steps))
  acts-begin start steps none start_legal runs =
      let bundle : Bundle = first_bundle (brief_of name delta) files in
      let opening = opens (part Nothing from) start name (plan_of_first (brief_of name delta) files) steps none start_legal runs in
      let project = opened_project from.project name start.who opening.attributes in
      let to = opening.leads.to in
      let left = opening.leads.left in
      let got : HasReceived (only project) (version_bytes to.log) bundle first_change to.who (stop to left).log (directory_at first_change (stop to left)) =
      all-received (only project) first_change bundle (tree-fit (effective image) trunk from legal stood delta) (number-free project) to left opening.leads.alone.stands opening.leads.alone.legal opening.leads.runs in
      let has : HasReceived (only project) (version_bytes to.log) bundle first_change start.who (stop start steps).log (directory_at first_change (stop start steps)) =
      subst (λ (p : Point). HasReceived (only project) (version_bytes to.log) bundle first_change start.who p.log (directory_at first_change p)) (sym opening.leads.stops)
      (subst (λ (w : List ℕ). HasReceived (only project) (version_bytes to.log) bundle first_change w (stop to left).log (directory_at first_change (stop to left))) opening.leads.who got) in
      record {
        from = from;
        stands = stood;
        made = to.log;
        stood = only project;
        stands_made = opening.leads.alone.stands;
        project = opened-is from.project name start.who opening.attributes opening.read;
        no_files = refl;
        files = files;
        received = has;
        creates = has.is.edits ∙ sent-edits (effective image) project rows;
        lies = λ path.
            sent-lies (effective image) project (version_bytes to.log) (brief_of name delta) rows start.who (stop start steps).log (directory_at first_change (stop start steps)) has path
            ∙ same-lies rows (effective image) (version_bytes trunk) (tree-bytes image trunk stands from stood delta) path;
      }

-- ---- the call

fault-not-done : (rose : Type 0) (why : Outcome) → IsFault rose why → why ≡ Done → ⊥
fault-not-done rose _ (failed risen) is = cc
fault-not-done rose _ starved is = cc

pub no-acts-not-done : {A : Type 0} (told : Type 0) (S : Result A Outcome → Type 0) (rose : Type 0) (result : Result A Outcome) (why : Outcome) → AnswersAs told S rose result → result ≡ Err why → why ≡ Done → ⊥
no-acts-not-done told S rose _ why (answers.done value is) same done = cc
no-acts-not-done told S rose _ why (answers.refused refusal is) same done = cc
no-acts-not-done told S rose _ why (answers.damaged name is) same done = cc
no-acts-not-done told S rose _ why (answers.disk_fault risen) same done = cc
no-acts-not-done told S rose _ why answers.memory same done = cc

begins-same : (delta other : ℕ) → rest.Begin other ≡ rest.Begin delta → other ≡ delta
begins-same delta other same = ap number same
  where
    number : Rest → ℕ
    number (rest.Begin n) = n
    number _ = delta

module _ (d : Disks) (s : Sites) (b : Disks) (t : Sites) (e : Streams) (words : BranchWords) (who : List ℕ) (now : ℕ) (trunk trunk_new : d.Disk) (trunk_site trunk_site_new : s.Site) (disk disk_new : b.Disk) (site site_new : t.Site) (err err_new : e.Stream) (sees : d.told)
    (seen : b.told) (shown : t.told) (trunk_held : List Log) (trunk_log : Log) (trunk_holds : HoldsLegal (d.state trunk) trunk_held trunk_log) (held : List Log) (log : Log) (holds : HoldsLegal (b.state disk) held log) where
  abbrev on : Stand d s
  on = stand d s who now trunk trunk_site

  abbrev beside : Stand b t
  beside = stand b t who now disk site

  acts-begun : (delta : ℕ) (acts : List Act) (begun : Stand b t) → Begin (reads (d.state trunk)) (reads (b.state disk)) words.name delta who acts → begun ≡ record beside { disk = begun.disk }
      → (did : ActsDone b t Plan acts begun (stand b t who now disk_new site_new) (written_from e err err_new) Done) → (logged : IsLogged b t Plan beside did.done disk_new held log)
      → WasBegun trunk_log words.name delta who logged.holds.read ((t.state site_new).trees (Develop first_change))
  acts-begun delta acts begun said same did logged =
      let ran = all-ran b t e acts beside begun (stand b t who now disk_new site_new) same err err_new Done did refl shown held log logged in
      let in_log = shown-of-log d trunk trunk_held trunk_log said.o trunk_holds said.shown in
      let files : said.files ≡ sent (effective (reads (d.state trunk))) (tree_of in_log.0 delta) =
      said.from.are ∙ ap (λ (o : Observation). sent (effective (reads (d.state trunk))) (tree_of o delta)) in_log.2 in
      let are : acts ≡ opening_acts (part Nothing in_log.0) who words.name ++ plan_of_first (brief_of words.name delta) (sent (effective (reads (d.state trunk))) (tree_of in_log.0 delta)) =
      said.are ∙ ap (λ (o : Observation). opening_acts o who words.name ++ plan_of_first (brief_of words.name delta) said.files) in_log.2
      ∙ ap (λ (fs : List BundleFile). opening_acts (part Nothing in_log.0) who words.name ++ plan_of_first (brief_of words.name delta) fs) files in
      let start : Point = record { who = who; now = now; log = log; site = t.state site } in
      let has = acts-begin (reads (d.state trunk)) trunk_log trunk_holds.holds.stands trunk_holds.holds.legal in_log.0 in_log.1 words.name delta start logged.steps
      (none-of-log b disk held log holds said.none) holds.holds.legal (subst (λ (these : List Act). ActsRun start these logged.steps) are ran.runs) in
      subst (λ (l : Log). WasBegun trunk_log words.name delta who l ((t.state site_new).trees (Develop first_change))) (sym ran.reads)
      (subst (λ (state : SiteState). WasBegun trunk_log words.name delta who (stop start logged.steps).log (state.trees (Develop first_change))) ran.leaves has)

  begun-so : (delta : ℕ) (begun : Stand b t) (done : List (Did b t)) → BeginDone d s b t words.name delta on beside trunk_new disk_new site_new (written_from e err err_new) Done begun done → (logged : IsLogged b t Plan beside done disk_new held log)
      → WasBegun trunk_log words.name delta who logged.holds.read ((t.state site_new).trees (Develop first_change))
  begun-so delta _ _ (branched.unready why none opened looks same why_told) logged = absurd (why-not-done why (written_from e err err_new) (no-acts-not-done _ _ _ (Err why) why none.caused refl) why_told)
  begun-so delta _ _ (branched.unput why due opened fault put looked stays same why_told) logged = absurd (why-not-done why (written_from e err err_new) (fault-not-done _ why fault) why_told)
  begun-so delta _ _ (branched.begun acts begun said opened stays put origin still did) logged =
      acts-begun delta acts begun (said-begin (reads (d.state trunk)) (reads (b.state disk)) words.name delta who acts (said sees seen)) stays.same did logged

  asked-so : (delta : ℕ) → words.rest ≡ rest.Begin delta → (on_trunk : List (Did d s)) (on_branch : List (Did b t)) → IsAsked d s b t words on beside trunk_new trunk_site_new disk_new site_new (written_from e err err_new) Done on_trunk on_branch
      → (logged : IsLogged b t Plan beside on_branch disk_new held log) → WasBegun trunk_log words.name delta who logged.holds.read ((t.state site_new).trees (Develop first_change))
  asked-so delta is _ _ (branched.begins other begun done words_are did are looks same) logged =
      subst (λ (n : ℕ). WasBegun trunk_log words.name n who logged.holds.read ((t.state site_new).trees (Develop first_change))) (begins-same delta other (sym words_are ∙ is)) (begun-so other begun done did logged)
  asked-so delta is _ _ (branched.finishes begun done words_are did are looks same) logged = absurd (let both : rest.Finish ≡ rest.Begin delta = sym words_are ∙ is in cc)
  asked-so delta is _ _ (branched.wanting a b c d lacking) logged = absurd (let wants : Memory ≡ Done = meant_done Memory Done (written_from e err err_new).rose refl lacking.how in cc)

pub begins-have-tree : (d : Disks) (s : Sites) (b : Disks) (t : Sites) (e : Streams) → BegunBranchesHaveTheTree d s b t e
begins-have-tree d s b t e words delta is who now trunk trunk_new trunk_site trunk_site_new disk disk_new site site_new err err_new call sees seen shown trunk_held trunk_log trunk_holds held log holds =
    asked-so d s b t e words who now trunk trunk_new trunk_site trunk_site_new disk disk_new site site_new err err_new sees seen shown trunk_held trunk_log trunk_holds held log holds delta is call.on_trunk call.on_branch call.is (call.branch_logs seen shown held log holds)
