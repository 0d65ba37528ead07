-- The paths that stand after a legal log are paths, since each File event of an accepted command has one that words can say.
use Rattle.std.proofs.Common.{◌≡◌, inl, inr, ℕ, refl, sym, subst, List, [], ◌∷◌, map, Option, Some, None, Bool, true, false, not, ◌&&◌}
use Rattle.std.specs.Prelude.{All, filter, filter_map, if◌then◌else◌, length, nat_le}
use Rattle.std.specs.List.{list_all}
use Rattle.std.specs.declared.cmp.Ordering.{Ordering}
use Rattle.std.specs.declared.cmp.Ordering.TheVariants as ordering
use Rattle.std.specs.FinMap.Entries.{by_order}
use Rattle.std.proofs.lemmas.List.Elements.{All-map, All-nil}
use Rattle.std.proofs.lemmas.Bool.{and_parts}
use Rattle.ae_base.specs.Names.{is_path, IsPath}
use Rattle.ae_base.specs.Rows.{text_cmp}
use Rattle.ae_types.specs.declared.change.Change.{Change}
use Rattle.ae_types.specs.declared.change.ChangeFile.{ChangeFile}
use Rattle.ae_types.specs.Found.{change_at, file_path, has_file, row_path}
use Rattle.ae_types.specs.Observation.{Observation}
use Rattle.ae_types.specs.Ordered.{put_by, itself}
use Rattle.ae_types.specs.Phases.{is_integrating, is_remove}
use Rattle.ae_types.specs.Trees.{TreeRow, baseline_of, candidate_of, frozen_row, last_delta, put_rows, tree_path, tree_row}
use Rattle.ae_types.proofs.Members.{In, all-in, in-map, some-in}
use Rattle.ae_types.proofs.Ordered.{none-some}
use Rattle.ae_log.specs.declared.event.EventKind.{EventKind}
use Rattle.ae_log.specs.declared.event.EventKind.TheVariants as on
use Rattle.ae_log.specs.Baseline.{past}
use Rattle.ae_log.specs.Files.{course_paths, paths, paths_after}
use Rattle.ae_log.specs.Log.{Course, Happened, Log, continued, course, is_of}
use Rattle.ae_log.specs.Observed.{change_file, change_files, file_row}
use Rattle.ae_log.proofs.Listed.{own_file, own_row}
use Rattle.ae_log.proofs.PassedTree.{frozen_own, tree_own}
use Rattle.ae_log.proofs.Steps.{attributes-of}
use Rattle.ae_words.specs.declared.command.Command.{Command}
use Rattle.ae_words.specs.declared.table.Row.{Row}
use Rattle.ae_words.specs.declared.table.Row.TheVariants as rows
use Rattle.ae_words.specs.Formed.{are_paths, are_plain, is_path_at_most}
use Rattle.ae_words.specs.Spelling.{is_empty}
use Rattle.ae_words.specs.Table.{row}
use Rattle.ae_words.specs.declared.table.Function.{Function}
use Rattle.ae_words.specs.declared.table.Function.TheVariants as function
use Rattle.ae_machine.specs.Call.{call_of, change_named}
use Rattle.ae_machine.specs.Fits.{paths_asked, reads_files}
use Rattle.ae_machine.specs.Legal.{Legal, MayCome, Occasion}
use Rattle.ae_machine.specs.Sight.{kept_paths, paths_read}
use Rattle.ae_machine.specs.TypedPaths.{ArePaths, LegalHasPaths, PathsAskedAre}
use Rattle.ae_machine.proofs.KindsMade.{Each, HasEachKind, function_making, project-maker}
use Rattle.ae_machine.proofs.LegalKinds.{given_after, legal-each}
use Rattle.ae_machine.proofs.CandidateStands.{is-of}
use Rattle.ae_machine.proofs.Lists.{all-members, filter-in, members-all}

-- ---- events

-- a File has a path that is one
abbrev HasPath : EventKind → Type 0
HasPath (on.File path action usage origin) = IsPath path
HasPath _ = Unit {0}

-- what comes alone is no File
of-alone : (kind : EventKind) (f : Function) → function_making kind ≡ Some f → HasPath kind
of-alone (on.File path action usage origin) f maker = cc
of-alone _ f maker = tt

-- ---- the paths that a command names

pub left : (a b : Bool) → (a && b) ≡ true → a ≡ true
left a b is = (and_parts a b is).0

pub right : (a b : Bool) → (a && b) ≡ true → b ≡ true
right a b is = (and_parts a b is).1

of-paths : (paths : List (List ℕ)) → are_paths paths ≡ true → (path : List ℕ) → In paths path → IsPath path
of-paths paths are = all-in is_path paths (left (list_all is_path paths) (nat_le (length paths) 1000) are)

of-one : (paths : List (List ℕ)) → is_path_at_most paths ≡ true → (path : List ℕ) → In paths path → IsPath path
of-one [] is path there = absurd there
of-one (only ∷ []) is path (inl same) = subst IsPath same is
of-one (only ∷ []) is path (inr none) = absurd none
of-one (first ∷ second ∷ paths) is path there = cc

of-none : (paths : List (List ℕ)) → is_empty paths ≡ true → (path : List ℕ) → In paths path → IsPath path
of-none [] is path there = absurd there
of-none (first ∷ paths) is path there = cc

-- they are paths, whatever words the row of its function takes
of-plain : (row : Row) (command : Command) → are_plain row command ≡ true → (path : List ℕ) → In command.paths path → IsPath path
of-plain rows.Copy command is = of-paths command.paths (search (left, right))
of-plain rows.Paths command is = of-paths command.paths (search (left, right))
of-plain rows.NewTest command is = of-paths command.paths (search (left, right))
of-plain rows.Report command is = of-one command.paths (search (left, right))
of-plain _ command is = of-none command.paths (search (left, right))

-- ---- the log

have-each : (log : Log) (o : Observation) (occasion : Occasion) → MayCome log occasion → HasEachKind HasPath occasion.command.function (given_after log o occasion)
have-each log o occasion may = record {
  added = λ role user. tt;
  dropped = λ role user. tt;
  filed = λ path there file. of-plain (row occasion.command.function) occasion.command may.formed.plain path there;
  unfiled = λ path. tt;
  ran = λ makes change there run is. tt;
  ended = λ is change there. tt;
  alone = λ kind maker only. of-alone kind occasion.command.function maker;
}

legal-have : (log : Log) → Legal log → Each HasPath log
legal-have = legal-each HasPath (λ kind is. of-alone kind function.NewProject (project-maker kind is)) have-each

-- ---- rows whose keys are paths

abbrev KeysArePaths : {A : Type 0} → (A → List ℕ) → List A → Type 0
KeysArePaths {A} key rows = (row : A) → In rows row → IsPath (key row)

of-all : {A : Type 0} (key : A → List ℕ) (rows : List A) → All IsPath (map key rows) → KeysArePaths key rows
of-all key rows all row there = all-members IsPath (map key rows) all (key row) (in-map key rows row there)

to-all : {A : Type 0} (key : A → List ℕ) (rows : List A) → KeysArePaths key rows → All IsPath (map key rows)
to-all key rows are = All-map IsPath key rows (members-all (λ row. IsPath (key row)) rows are)

-- those that are made of rows with the same keys
made : {A B : Type 0} (key : A → List ℕ) (key_of : B → List ℕ) (make : B → Option A) → ((b : B) (a : A) → make b ≡ Some a → key a ≡ key_of b) → (bs : List B) → KeysArePaths key_of bs → KeysArePaths key (filter_map make bs)
made key key_of make own bs are a there =
    let from = some-in make bs a there in
    subst IsPath (sym (own from.0 a from.2)) (are from.0 from.1)

passing : {A : Type 0} (key : A → List ℕ) (test : A → Bool) (rows : List A) → KeysArePaths key rows → KeysArePaths key (filter test rows)
passing key test rows are row there = are row (filter-in test rows row there).0

-- those with one put in its place
put : {A : Type 0} (key : A → List ℕ) (row : A) (rows : List A) → IsPath (key row) → KeysArePaths key rows → KeysArePaths key (put_by text_cmp key row rows)
put key row [] is are x (inl same) = subst (λ y. IsPath (key y)) same is
put key row [] is are x (inr none) = absurd none
put key row (first ∷ rows) is are x there = go (text_cmp (key row) (key first)) there (put key row rows is (λ y h. are y (inr h)) x)
  where
    go : (order : Ordering) → In (by_order order (row ∷ first ∷ rows) (row ∷ rows) (first ∷ put_by text_cmp key row rows)) x → (In (put_by text_cmp key row rows) x → IsPath (key x)) → IsPath (key x)
    go ordering.Less (inl same) rest = subst (λ y. IsPath (key y)) same is
    go ordering.Less (inr h) rest = are x h
    go ordering.Equal (inl same) rest = subst (λ y. IsPath (key y)) same is
    go ordering.Equal (inr h) rest = are x (inr h)
    go ordering.Greater (inl same) rest = are x (inl same)
    go ordering.Greater (inr h) rest = rest h

puts : (rows_put rows : List TreeRow) → KeysArePaths tree_path rows_put → KeysArePaths tree_path rows → KeysArePaths tree_path (put_rows rows_put rows)
puts [] rows are_put are = are
puts (row ∷ rows_put) rows are_put are = puts rows_put (put_by text_cmp tree_path row rows) (λ x h. are_put x (inr h)) (put tree_path row rows (are_put row (inl refl)) are)

-- ---- what stands

paths-after : (kind : EventKind) (ps : List (List ℕ)) → HasPath kind → KeysArePaths itself ps → KeysArePaths itself (paths_after kind ps)
paths-after (on.File path action usage origin) ps has are = put itself path ps has are
paths-after kind ps has are = are

of-log : (log : Log) → Each HasPath log → KeysArePaths itself (paths log)
of-log [] have = λ p h. absurd h
of-log (event ∷ log) have = paths-after event.what (paths log) have.0 (of-log log have.1)

one-more : (kind : EventKind) (happened : Happened) (ss : Course) → HasPath happened.event.what → KeysArePaths itself (course_paths ss) → KeysArePaths itself (course_paths (continued kind happened ss))
one-more (on.New attributes) happened ss has are = paths-after happened.event.what [] has (λ p h. absurd h)
one-more on.NewUndo happened ss has are = λ p h. absurd h
one-more kind happened ss has are = paths-after happened.event.what (course_paths ss) has are

of-course : (log : Log) (number : ℕ) → Each HasPath log → KeysArePaths itself (course_paths (course log number))
of-course [] number have = λ p h. absurd h
of-course (event ∷ log) number have = go (is_of number event) (of-course log number have.1)
  where
    go : (b : Bool) → KeysArePaths itself (course_paths (course log number))
        → KeysArePaths itself (course_paths (if b then continued event.what (record { event = event; before = log }) (course log number) else course log number))
    go true rest = one-more event.what (record { event = event; before = log }) (course log number) have.0 rest
    go false rest = rest

pub legal-paths : LegalHasPaths
legal-paths log o legal stood = record { files = of-files; table = of-table }
  where
    have : Each HasPath log
    have = legal-have log legal

    of-files : (number : ℕ) (change : Change) → change_at o number ≡ Some change → All IsPath (map file_path change.files)
    of-files number change there =
        let ss = course log number in
        subst (λ (x : Change). All IsPath (map file_path x.files)) (sym (is-of log o number change stood there).is)
        (to-all file_path (change_files ss) (made file_path itself (change_file ss) (own_file ss) (course_paths ss) (of-course log number have)))

    of-table : All IsPath (map row_path o.files)
    of-table =
        subst (λ (q : Observation). All IsPath (map row_path q.files)) (attributes-of log o stood).2
        (to-all row_path _ (made row_path itself (λ path. file_row path (past log path)) (own_row log) (paths log) (of-log log have)))

-- ---- what is asked for

module _ (o : Observation) (are : ArePaths o) where
  in-baseline : KeysArePaths tree_path (baseline_of o)
  in-baseline = made tree_path row_path (tree_row (last_delta o)) (tree_own (last_delta o)) o.files (of-all row_path o.files are.table)

  in-candidate : (change : Change) → KeysArePaths file_path change.files → KeysArePaths tree_path (candidate_of o change)
  in-candidate change files =
      let outside : TreeRow → Bool = λ row. not (has_file change row.path) in
      puts (filter_map frozen_row change.files) (filter outside (baseline_of o)) (made tree_path file_path frozen_row frozen_own change.files files)
      (passing tree_path outside (baseline_of o) in-baseline)

  are-read : (command : Command) (who : List ℕ) (change : Change) → KeysArePaths file_path change.files → All IsPath (paths_read (call_of o command who) change)
  are-read command who change files = go (is_integrating change.phase)
    where
      go : (b : Bool) → All IsPath (if b then map tree_path (candidate_of o change) else kept_paths change)
      go true = to-all tree_path (candidate_of o change) (in-candidate change files)
      go false = to-all file_path _ (passing file_path (λ (file : ChangeFile). not (is_remove file.action)) change.files files)

  named-files : (number : Option ℕ) (change : Change) → change_named o number ≡ Some change → KeysArePaths file_path change.files
  named-files (Some number) change is = of-all file_path change.files (are.files number change is)
  named-files None change is = none-some change is

pub asked-paths : PathsAskedAre
asked-paths o command who are = go (change_named o command.change) refl
  where
    by : (change : Change) → KeysArePaths file_path change.files → (b : Bool) → All IsPath (if b then paths_read (call_of o command who) change else [])
    by change files true = are-read o are command who change files
    by change files false = All-nil IsPath

    go : (c : Option Change) → change_named o command.change ≡ c → All IsPath (paths_asked (call_of o command who) c)
    go (Some change) is = by change (named-files o are command.change change is) (reads_files command.function)
    go None is = All-nil IsPath
