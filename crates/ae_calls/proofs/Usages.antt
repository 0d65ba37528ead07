-- After a legal log aegis.conf has the usage of its own, and no other file has it: not in any change, nor at any delta.
use Rattle.std.proofs.Common.{◌≡◌, ◌⊎◌, inl, inr, ℕ, refl, sym, ◌∙◌, ap, subst, List, [], ◌∷◌, ◌++◌, map, Option, Some, None, Bool, true, false, not, ◌||◌, codes}
use Rattle.std.specs.Prelude.{All, IfSome, IsSome, filter, if◌then◌else◌, is_some, nat_eq}
use Rattle.std.specs.List.{list_all}
use Rattle.std.specs.Option.{is_none, option_and_then, option_map}
use Rattle.std.specs.Ordering.{nat_cmp}
use Rattle.std.specs.Str.{bytes_eq}
use Rattle.std.specs.declared.cmp.Ordering.{Ordering}
use Rattle.std.specs.declared.cmp.Ordering.TheVariants.{Less, Equal, Greater}
use Rattle.std.specs.FinMap.Entries.{by_order}
use Rattle.std.proofs.lemmas.Bool.{and_parts, false≢true}
use Rattle.std.proofs.lemmas.List.Elements.{All-cons, All-map, All-nil}
use Rattle.std.proofs.lemmas.Option.{same_Some}
use Rattle.ae_base.specs.Rows.{text_cmp}
use Rattle.ae_base.specs.declared.refusal.Refusal.TheVariants.{FileNotInProject, NoSuchChange}
use Rattle.ae_base.specs.declared.words.Usage.{Usage}
use Rattle.ae_base.specs.declared.words.Usage.TheVariants.{Config, Source, Test}
use Rattle.ae_bundle.specs.Bundled.{is_config}
use Rattle.ae_files.specs.InTree.{row_at}
use Rattle.ae_log.specs.After.{after, after_all, after_of, all_entered, change_after, changed, changes_after, entered, files_of, frozen_as, new_change, new_entry, new_file, row_of, rows_after, started_by, thawed, where_number}
use Rattle.ae_log.specs.Files.{version_bytes}
use Rattle.ae_log.specs.Log.{Log, followed}
use Rattle.ae_log.specs.Maker.{maker_of}
use Rattle.ae_log.specs.Observed.{observation}
use Rattle.ae_log.specs.declared.event.Event.{Event}
use Rattle.ae_log.specs.declared.event.EventKind.{EventKind}
use Rattle.ae_log.specs.declared.event.EventKind.TheVariants as on
use Rattle.ae_machine.specs.Accepted.{decided}
use Rattle.ae_machine.specs.Call.{Call, Given, change_of, given_of, unless}
use Rattle.ae_machine.specs.Legal.{Legal, Occasion, ViewFits, maker_at, more, nothing}
use Rattle.ae_machine.specs.Paths.{asked_of_path, files_then, first_path_refused, in_baseline, in_trees, is_in, is_in_baseline, path_event, path_refused, paths_are_right, right_paths, tree_named, usage_of_new, usage_or}
use Rattle.ae_machine.specs.Permission.{right_change}
use Rattle.ae_machine.specs.Space.{placing}
use Rattle.ae_machine.specs.Verdict.{asked, change_of_events, ends, kinds_of, runs}
use Rattle.ae_machine.specs.declared.verdict.Verdict.TheVariants.{Accept}
use Rattle.ae_machine.specs.declared.view.View.{View}
use Rattle.ae_exec.proofs.CandidateNumbers.{last-in}
use Rattle.ae_machine.proofs.Accepted.{Passed, accepted-passes, change-there, tested, with_function}
use Rattle.ae_machine.proofs.AcceptedLogs.{called-follow, first-follow, legal-stands}
use Rattle.ae_machine.proofs.AcceptedRoles.{both-none}
use Rattle.ae_machine.proofs.KindsMade.{Each, by-shape, each-event, function_making}
use Rattle.ae_machine.proofs.LegalRightly.{legal-sound}
use Rattle.ae_machine.proofs.Lists.{filter-in, found-so, members-all}
use Rattle.ae_machine.proofs.TypedPaths.{left, right}
use Rattle.ae_types.specs.declared.change.Change.{Change}
use Rattle.ae_types.specs.declared.change.ChangeFile.{ChangeFile}
use Rattle.ae_types.specs.declared.file_table.FileRow.{FileRow}
use Rattle.ae_types.specs.declared.file_table.FileVersion.{FileVersion}
use Rattle.ae_types.specs.declared.version.VersionRef.{VersionRef}
use Rattle.ae_types.specs.Found.{change_at, file_path, number_of_change, row_in, row_path}
use Rattle.ae_types.specs.Observation.{Observation}
use Rattle.ae_types.specs.Ordered.{put_by}
use Rattle.ae_types.specs.Trees.{TreeRow, baseline_of, entry_row, last_up_to, past_in, tree_of, tree_path, tree_row}
use Rattle.ae_types.proofs.Keys.{by_text}
use Rattle.ae_types.proofs.Members.{In, all-in, in-either, map-in, some-in}
use Rattle.ae_types.proofs.Ordered.{none-some}
use Rattle.ae_words.specs.Formed.{IsFormed, are_paths, are_plain, are_tests, is_no_config}
use Rattle.ae_words.specs.Table.{row}
use Rattle.ae_words.specs.declared.command.Command.{Command}
use Rattle.ae_words.specs.declared.table.Function.{Function}
use Rattle.ae_words.specs.declared.table.Function.TheVariants as function

-- ---- what holds of all rows

abbrev pub AllIn : {A : Type 0} → (A → Type 0) → List A → Type 0
AllIn {A} P rows = (row : A) → In rows row → P row

module _ {A : Type 0} (P : A → Type 0) where
  all-put : {K : Type 0} (cmp : K → K → Ordering) (key : A → K) (row : A) (rows : List A) → P row → AllIn P rows → AllIn P (put_by cmp key row rows)
  all-put cmp key row [] is are x (inl same) = subst P same is
  all-put cmp key row [] is are x (inr none) = absurd none
  all-put cmp key row (first ∷ rows) is are x there = go (cmp (key row) (key first)) there (all-put cmp key row rows is (λ y h. are y (inr h)) x)
    where
      go : (order : Ordering) → In (by_order order (row ∷ first ∷ rows) (row ∷ rows) (first ∷ put_by cmp key row rows)) x → (In (put_by cmp key row rows) x → P x) → P x
      go Less (inl same) rest = subst P same is
      go Less (inr h) rest = are x h
      go Equal (inl same) rest = subst P same is
      go Equal (inr h) rest = are x (inr h)
      go Greater (inl same) rest = are x (inl same)
      go Greater (inr h) rest = rest h

  all-filter : (test : A → Bool) (rows : List A) → AllIn P rows → AllIn P (filter test rows)
  all-filter test rows are row there = are row (filter-in test rows row there).0

  all-map : (make : A → A) → ((row : A) → P row → P (make row)) → (rows : List A) → AllIn P rows → AllIn P (map make rows)
  all-map make keeps rows are row there =
      let from = map-in make rows row there in
      subst P from.2 (keeps from.0 (are from.0 from.1))

-- ---- usages

-- it is the one that its path asks for
abbrev pub UsageFits : List ℕ → Usage → Type 0
UsageFits path usage = is_config usage ≡ bytes_eq path (codes "aegis.conf")

abbrev FileUsageFits : ChangeFile → Type 0
FileUsageFits file = UsageFits file.path file.usage

abbrev ChangeFits : Change → Type 0
ChangeFits change = AllIn FileUsageFits change.files

abbrev EntryFits : List ℕ → FileVersion → Type 0
EntryFits path entry = UsageFits path entry.usage

abbrev RowFits : FileRow → Type 0
RowFits row = AllIn (EntryFits row.path) row.past

-- those of all files are
pub record HaveUsages (o : Observation) : Type 0 where
  pub changes : AllIn ChangeFits o.changes
  pub table : AllIn RowFits o.files

-- ---- the files at a delta

-- a file of a tree is what an entry of its path made
pub record TreeEntry (o : Observation) (file : TreeRow) : Type 0 where
  pub of : FileRow
  pub among : In o.files of
  pub entry : FileVersion
  pub in_past : In of.past entry
  pub path : of.path ≡ file.path
  pub usage : entry.usage ≡ file.usage
  pub version : entry.version ≡ Some file.version

pub tree-entry : (o : Observation) (delta : ℕ) (file : TreeRow) → In (tree_of o delta) file → TreeEntry o file
tree-entry o delta file there = by-last (last_up_to delta from.0.past) refl from.2
  where
    from : (r : FileRow) × In o.files r × (tree_row delta r ≡ Some file)
    from = some-in (tree_row delta) o.files file there

    by-version : (entry : FileVersion) → In from.0.past entry → (version : Option VersionRef) → entry.version ≡ version
        → option_map (λ (v : VersionRef). record { path = from.0.path; usage = entry.usage; version = v }) version ≡ Some file → TreeEntry o file
    by-version entry among None is made = none-some file made
    by-version entry among (Some version) is made =
        let same : record { path = from.0.path; usage = entry.usage; version = version } ≡ file = same_Some _ file made in
        record {
          of = from.0;
          among = from.1;
          entry = entry;
          in_past = among;
          path = ap (λ (row : TreeRow). row.path) same;
          usage = ap (λ (row : TreeRow). row.usage) same;
          version = is ∙ ap (λ (row : TreeRow). Some row.version) same;
        }

    by-last : (last : Option FileVersion) → last_up_to delta from.0.past ≡ last → option_and_then (entry_row from.0.path) last ≡ Some file → TreeEntry o file
    by-last None is made = none-some file made
    by-last (Some entry) is made = by-version entry (last-in delta from.0.past entry is) entry.version refl made

pub tree-fits : (o : Observation) → HaveUsages o → (delta : ℕ) (file : TreeRow) → In (tree_of o delta) file → UsageFits file.path file.usage
tree-fits o have delta file there =
    let at = tree-entry o delta file there in
    subst (λ (usage : Usage). UsageFits file.path usage) at.usage (subst (λ (path : List ℕ). UsageFits path at.entry.usage) at.path (have.table at.of at.among at.entry at.in_past))

-- the usage that a path has in the baseline, where it is there
baseline-fits : (o : Observation) → HaveUsages o → (path : List ℕ) → is_in (baseline_of o) path ≡ true → UsageFits path (usage_or Source (row_at (baseline_of o) path))
baseline-fits o have path there = go (row_at (baseline_of o) path) refl there
  where
    go : (found : Option TreeRow) → row_at (baseline_of o) path ≡ found → is_some found ≡ true → UsageFits path (usage_or Source found)
    go (Some file) is there =
        let so = found-so (λ (r : TreeRow). bytes_eq path (tree_path r)) (baseline_of o) file is in
        subst (λ (p : List ℕ). UsageFits p file.usage) (sym (by_text.same_is path file.path so.1)) (tree-fits o have _ file so.0)
    go None is there = absurd (false≢true there)

-- ---- one more event

-- a File has the usage that its path asks for
abbrev KindFits : EventKind → Type 0
KindFits (on.File path action usage origin) = UsageFits path usage
KindFits _ = Unit {0}

changed-fits : (next : ℕ) (event : Event) (kind : EventKind) (change : Change) → KindFits kind → ChangeFits change → AllIn FileUsageFits (changed next event kind change).files
changed-fits next event on.Begin change fits have = λ file there. absurd there
changed-fits next event on.BeginUndo change fits have = λ file there. absurd there
changed-fits next event (on.File path action usage origin) change fits have = all-put FileUsageFits text_cmp file_path (new_file path action usage origin) change.files fits have
changed-fits next event (on.Unfile path) change fits have = all-filter FileUsageFits _ change.files have
changed-fits next event (on.End tree to places) change fits have = all-map FileUsageFits (frozen_as next tree places) (λ file is. is) change.files have
changed-fits next event on.EndUndo change fits have = all-map FileUsageFits thawed (λ file is. is) change.files have
changed-fits next event on.Fail change fits have = all-map FileUsageFits thawed (λ file is. is) change.files have
changed-fits next event on.IPass change fits have = all-map FileUsageFits thawed (λ file is. is) change.files have
changed-fits next event on.IFail change fits have = all-map FileUsageFits thawed (λ file is. is) change.files have
changed-fits next event _ change fits have = have

where-fits : (number : ℕ) (make : Change → Change) → ((change : Change) → ChangeFits change → ChangeFits (make change)) → (change : Change) → ChangeFits change → ChangeFits (where_number number make change)
where-fits number make keeps change have = go (nat_eq number (number_of_change change))
  where
    go : (b : Bool) → ChangeFits (if b then make change else change)
    go true = keeps change have
    go false = have

changes-fit : (next : ℕ) (event : Event) (number : ℕ) (kind : EventKind) (changes : List Change) → KindFits event.what → AllIn ChangeFits changes → AllIn ChangeFits (changes_after next event number kind changes)
changes-fit next event number (on.New attributes) changes fits have = all-put ChangeFits nat_cmp number_of_change (new_change (maker_of event) number attributes) changes (λ file there. absurd there) have
changes-fit next event number on.NewUndo changes fits have = all-filter ChangeFits _ changes have
changes-fit next event number _ changes fits have =
    all-map ChangeFits (where_number number (change_after next event))
    (where-fits number (change_after next event) (λ change is. changed-fits next event event.what change fits is)) changes have

-- the past of a path, and what is found of it
past-fits : (path : List ℕ) (rows : List FileRow) → AllIn RowFits rows → AllIn (EntryFits path) (past_in (row_in rows path))
past-fits path rows have = go (row_in rows path) refl
  where
    go : (found : Option FileRow) → row_in rows path ≡ found → AllIn (EntryFits path) (past_in found)
    go (Some row) is =
        let so = found-so (λ (r : FileRow). bytes_eq path (row_path r)) rows row is in
        subst (λ (p : List ℕ). AllIn (EntryFits p) row.past) (sym (by_text.same_is path row.path so.1)) (have row so.0)
    go None is = λ entry there. absurd there

entered-fits : (delta : ℕ) (file : ChangeFile) (rows : List FileRow) → FileUsageFits file → AllIn RowFits rows → AllIn RowFits (entered delta file rows)
entered-fits delta file rows fits have =
    all-put RowFits text_cmp row_path (row_of file.path (past_in (row_in rows file.path) ++ new_entry delta file ∷ [])) rows
    (λ entry there. go entry (in-either (past_in (row_in rows file.path)) (new_entry delta file ∷ []) entry there)) have
  where
    go : (entry : FileVersion) → In (past_in (row_in rows file.path)) entry ⊎ In (new_entry delta file ∷ []) entry → EntryFits file.path entry
    go entry (inl before) = past-fits file.path rows have entry before
    go entry (inr (inl same)) = subst (EntryFits file.path) same fits
    go entry (inr (inr none)) = absurd none

all-entered-fit : (delta : ℕ) (files : List ChangeFile) (rows : List FileRow) → AllIn FileUsageFits files → AllIn RowFits rows → AllIn RowFits (all_entered delta files rows)
all-entered-fit delta [] rows are have = have
all-entered-fit delta (file ∷ files) rows are have = all-entered-fit delta files (entered delta file rows) (λ f there. are f (inr there)) (entered-fits delta file rows (are file (inl refl)) have)

rows-fit : (kind : EventKind) (delta : ℕ) (files : List ChangeFile) (rows : List FileRow) → AllIn FileUsageFits files → AllIn RowFits rows → AllIn RowFits (rows_after kind delta files rows)
rows-fit on.IPass delta files rows are have = all-entered-fit delta files rows are have
rows-fit _ delta files rows are have = have

files-of-fit : (o : Observation) → HaveUsages o → (number : ℕ) → AllIn FileUsageFits (files_of (change_at o number))
files-of-fit o have number = go (change_at o number) refl
  where
    go : (found : Option Change) → change_at o number ≡ found → AllIn FileUsageFits (files_of found)
    go (Some change) is = have.changes change (found-so (λ (c : Change). nat_eq number (number_of_change c)) o.changes change is).0
    go None is = λ file there. absurd there

after-has : (o : Observation) (event : Event) → KindFits event.what → HaveUsages o → HaveUsages (after o event)
after-has o event fits have = go event.change
  where
    go : (number : Option ℕ) → HaveUsages (after_of event number o)
    go (Some number) = record {
      changes = changes-fit o.project.next_version event number event.what o.changes fits have.changes;
      table = rows-fit event.what _ (files_of (change_at o number)) o.files (files-of-fit o have number) have.table;
    }
    go None = record { changes = have.changes; table = have.table }

after-all-has : (events : List Event) (o : Observation) → Each KindFits events → HaveUsages o → HaveUsages (after_all o events)
after-all-has [] o fit have = have
after-all-has (event ∷ events) o fit have = after-all-has events (after o event) fit.1 (after-has o event fit.0 have)

-- ---- the events of a command

-- what comes alone is no File
of-alone : (kind : EventKind) (f : Function) → function_making kind ≡ Some f → KindFits kind
of-alone (on.File path action usage origin) f maker = cc
of-alone _ f maker = tt

runs-fit : (given : Given) (found : Option Change) → All KindFits (runs given found)
runs-fit given (Some change) = All-map KindFits _ given.view.runs (members-all _ given.view.runs (λ run there. tt))
runs-fit given None = All-nil KindFits

ends-fit : (given : Given) (found : Option Change) → All KindFits (ends given found)
ends-fit given (Some change) = All-cons KindFits _ [] tt (All-nil KindFits)
ends-fit given None = All-nil KindFits

-- the path is as the command's function asks, beside some files
abbrev AsAsked : Call → List ℕ → Type 0
AsAsked call path = (these : List ChangeFile) × (path_refused (asked_of_path call.command.function) call these path ≡ None)

-- so is each of them
path-asked : (call : Call) (paths : List (List ℕ)) (files : List ChangeFile) → first_path_refused call paths files ≡ None → (path : List ℕ) → In paths path → AsAsked call path
path-asked call [] files none path there = absurd there
path-asked call (first ∷ paths) files none path there = go there (path-asked call paths (files_then call first files) both.1 path)
  where
    both : (path_refused (asked_of_path call.command.function) call files first ≡ None) × (first_path_refused call paths (files_then call first files) ≡ None)
    both = both-none (path_refused (asked_of_path call.command.function) call files first) (first_path_refused call paths (files_then call first files)) none

    go : In (first ∷ paths) path → (In paths path → AsAsked call path) → AsAsked call path
    go (inl same) rest = (files, subst (λ (p : List ℕ). path_refused (asked_of_path call.command.function) call files p ≡ None) same both.0)
    go (inr later) rest = rest later

path-right : (call : Call) → is_some (change_of call) ≡ true → right_paths call ≡ None → (path : List ℕ) → In call.command.paths path → AsAsked call path
path-right call named right path there = go (change_of call) named right
  where
    go : (found : Option Change) → is_some found ≡ true → option_and_then (paths_are_right call) found ≡ None → AsAsked call path
    go (Some change) named right = path-asked call call.command.paths change.files right path there
    go None named right = absurd (false≢true named)

-- the change that is named is there
named-there : (o : Observation) (number : Option ℕ) → is_some number ≡ true → unless (is_none number || is_some (option_and_then (change_at o) number)) NoSuchChange ≡ None → is_some (option_and_then (change_at o) number) ≡ true
named-there o (Some n) named there = tested (is_some (change_at o n)) NoSuchChange there
named-there o None named there = absurd (false≢true named)

-- a new file has the usage that its path asks for
new-fits : (path : List ℕ) → UsageFits path (usage_of_new path)
new-fits path = go (bytes_eq path (codes "aegis.conf"))
  where
    go : (b : Bool) → is_config (if b then Config else Source) ≡ b
    go true = refl
    go false = refl

test-fits : (path : List ℕ) → is_no_config path ≡ true → UsageFits path Test
test-fits path none = go (bytes_eq path (codes "aegis.conf")) none
  where
    go : (b : Bool) → not b ≡ true → false ≡ b
    go true none = absurd (false≢true none)
    go false none = refl

module _ (o : Observation) (bytes : ℕ → List ℕ) (c : Command) (who : List ℕ) (when : ℕ) (view : View) (have : HaveUsages o) where
  abbrev is_given : Function → Given
  is_given f = given_of placing o bytes (with_function f c) who when view

  path-fits : (f : Function) → IsFormed (with_function f c) → right_change (is_given f).call ≡ None → Passed (asked f) (is_given f).call → (path : List ℕ) → In c.paths path → KindFits (path_event (is_given f).call path)
  path-fits function.CopyFile formed there asks path among =
      let call = (is_given function.CopyFile).call in
      let right = path-right call (named-there o c.change (change-there (with_function function.CopyFile c) formed.whole refl) there) asks.1.1.1.0 path among in
      let first = (both-none (in_trees call right.0 path) _ right.1).0 in
      baseline-fits o have path (and_parts (is_in_baseline call path) (is_in (tree_named o c.delta) path) (tested _ (FileNotInProject path) first)).0
  path-fits function.RemoveFile formed there asks path among =
      let call = (is_given function.RemoveFile).call in
      let right = path-right call (named-there o c.change (change-there (with_function function.RemoveFile c) formed.whole refl) there) asks.1.1.0 path among in
      let first = (both-none (in_baseline call right.0 path) _ right.1).0 in
      baseline-fits o have path (tested (is_in_baseline call path) (FileNotInProject path) first)
  path-fits function.NewFile formed there asks path among = new-fits path
  path-fits function.NewTest formed there asks path among = test-fits path (all-in is_no_config c.paths (and_parts (list_all is_no_config c.paths) (are_paths c.paths) (tests formed.plain)).0 path among)
    where
      tests : are_plain (row function.NewTest) (with_function function.NewTest c) ≡ true → are_tests c.paths ≡ true
      tests is = search (left, right)
  path-fits _ formed there asks path among = tt

  kinds-fit : (f : Function) → IsFormed (with_function f c) → right_change (is_given f).call ≡ None → Passed (asked f) (is_given f).call → All KindFits (kinds_of f (is_given f))
  kinds-fit f formed there asks =
      by-shape KindFits f (is_given f)
      (λ role. All-map KindFits (on.RoleAdd role) c.users (λ k d below. tt))
      (λ role. All-map KindFits (on.RoleDrop role) c.users (λ k d below. tt))
      (All-map KindFits (path_event (is_given f).call) c.paths (members-all (λ path. KindFits (path_event (is_given f).call path)) c.paths (path-fits f formed there asks)))
      (λ makes. runs-fit (is_given f) (change_of (is_given f).call)) (λ is. ends-fit (is_given f) (change_of (is_given f).call))
      (λ kind maker only. All-cons KindFits kind [] (of-alone kind f maker) (All-nil KindFits)) (All-nil KindFits)

-- so are those of each event of an accepted command
events-fit : (o : Observation) (bytes : ℕ → List ℕ) (occasion : Occasion) (events : List Event) → HaveUsages o → IsFormed occasion.command → decided (Some o) bytes occasion ≡ Accept events → Each KindFits events
events-fit o bytes occasion events have formed answered =
    let given : Given = given_of placing o bytes occasion.command occasion.who occasion.when occasion.view in
    let passed = accepted-passes o bytes occasion events answered in
    subst (Each KindFits) passed.these
    (each-event KindFits (kinds_of occasion.command.function given) (maker_at occasion) (change_of_events occasion.command.function given.call)
    (kinds-fit o bytes occasion.command occasion.who occasion.when occasion.view have occasion.command.function formed passed.before.1.0 passed.before.1.1))

-- ---- the log

-- a project that was just made has no file
started-has : (who : List ℕ) (kind : EventKind) → IfSome (started_by who kind) HaveUsages
started-has who (on.Project name attributes) = record { changes = λ change there. absurd there; table = λ row there. absurd there }
started-has who _ = tt

pub legal-usages : (log : Log) → Legal log → IfSome (observation log) HaveUsages
legal-usages log nothing = tt
legal-usages log (more before next occasion events legal may accepted is) =
    subst (λ (l : Log). IfSome (observation l) HaveUsages) (sym is) (go (observation before) refl (legal-stands before legal) (legal-usages before legal))
  where
    answered : (stood : Option Observation) → observation before ≡ stood → decided stood (version_bytes before) occasion ≡ Accept events
    answered stood there = ap (λ (v : Option Observation). decided v (version_bytes before) occasion) (sym there) ∙ accepted

    go : (stood : Option Observation) → observation before ≡ stood → (before ≡ []) ⊎ IsSome (observation before) → IfSome (observation before) HaveUsages → IfSome (observation (followed before events)) HaveUsages
    go (Some o) stood there have =
        let fits = subst (λ (v : Option Observation). ViewFits v (version_bytes before) occasion) stood may.view in
        let has : HaveUsages o = subst (λ (v : Option Observation). IfSome v HaveUsages) stood have in
        let follow = called-follow before o (version_bytes before) occasion events stood (legal-sound before o legal stood) (record { formed = may.formed; moment = may.moment; one = may.one; fits = fits.0 }) (answered (Some o) stood) in
        subst (λ (v : Option Observation). IfSome v HaveUsages) (sym follow.stands) (after-all-has events o (events-fit o (version_bytes before) occasion events has may.formed (answered (Some o) stood)) has)
    go None stood (inl empty) have =
        let first = first-follow (version_bytes before) occasion events (answered None stood) in
        subst (λ (l : Log). IfSome (observation (followed l events)) HaveUsages) (sym empty)
        (subst (λ (v : Option Observation). IfSome v HaveUsages) (sym first.stands) (started-has first.start.event.who first.start.event.what))
    go None stood (inr there) have = absurd (false≢true (sym (ap (λ (v : Option Observation). is_some v) stood) ∙ there))
