-- What a command sees is of its types, where the files of the directories hold bytes, its runs are of bytes, and a legal log stands.
use Rattle.std.specs.Prelude.{◌≡◌, ℕ, Bool, true, false, nat_le, if◌then◌else◌, List, [], ◌∷◌, map, All, length, Option, Some, None, IfSome}
use Rattle.std.specs.Option.{option_and_then}
use Rattle.std.specs.Str.{bytes_eq}
use Rattle.std.proofs.Common.{refl, sym, subst}
use Rattle.std.proofs.lemmas.List.Elements.{All-append, All-nil, All-cons, All-head, All-tail}
use Rattle.ae_machine.proofs.SightShows.{reads-too}
use Rattle.ae_base.specs.Names.{IsPath}
use Rattle.ae_base.specs.Bytes.{AreBytes}
use Rattle.ae_base.specs.Rows.{paths_of}
use Rattle.ae_outside.specs.declared.dir.Content.TheVariants.{Bytes, TooLong}
use Rattle.ae_outside.specs.declared.dir.Dir.{Dir}
use Rattle.ae_outside.specs.declared.dir.Dir.TheVariants.{Here}
use Rattle.ae_outside.specs.Site.{SiteState, content_within, contents, HoldsBytes}
use Rattle.ae_types.specs.declared.change.Change.{Change}
use Rattle.ae_types.specs.Found.{change_at, file_path, row_path}
use Rattle.ae_types.specs.Observation.{Observation}
use Rattle.ae_types.specs.Phases.{is_integrating}
use Rattle.ae_types.specs.Sound.{Sound}
use Rattle.ae_types.specs.Trees.{TreeRow, baseline_of, tree_path}
use Rattle.ae_types.proofs.Keys.{by_text}
use Rattle.ae_types.proofs.Ordered.{none-some}
use Rattle.ae_log.specs.Files.{version_bytes}
use Rattle.ae_log.specs.Log.{Log}
use Rattle.ae_log.specs.Observed.{observation}
use Rattle.ae_machine.specs.Call.{Call, Given, call_of, change_named, change_of}
use Rattle.ae_machine.specs.Called.{Called, attributes_seen, files_dir, files_seen, given_at, new_runs, occasion_after, rows_of, view}
use Rattle.ae_machine.specs.Fits.{config_asked, config_row, makes_runs, paths_asked, runs_asked, tracked_in}
use Rattle.ae_machine.specs.Legal.{Legal}
use Rattle.ae_files.specs.InTree.{row_at}
use Rattle.ae_machine.specs.Sight.{config_below, config_path, has_config, paths_read}
use Rattle.ae_machine.specs.Typed.{IsContent, IsReadFile, IsRun, IsView}
use Rattle.ae_machine.specs.TypedPaths.{ArePaths}
use Rattle.ae_machine.proofs.TypedPaths.{asked-paths, legal-paths}
use Rattle.ae_exec.specs.Seen.{seen_alone}
use Rattle.ae_machine.proofs.LegalRightly.{legal-sound}
use Rattle.ae_machine.proofs.Lists.{all-members, found-so}
use Rattle.ae_dirs.specs.Runs.{AreByteRuns}
use Rattle.ae_exec.proofs.MadeBytes.{legal-bytes}
use Rattle.ae_exec.proofs.Quiet.{quiet-view}
use Rattle.ae_exec.proofs.RunsTyped.{ArePathsAll, of-group, rows-typed, tracked-paths}

content-typed : (file : Option (List ℕ)) → IfSome file AreBytes → IsContent (content_within 65536 file)
content-typed None bytes = tt
content-typed (Some file) bytes = go (nat_le (length file) 65536)
  where
    go : (b : Bool) → IsContent (if b then Bytes file else TooLong)
    go true = bytes
    go false = tt

attributes-typed : (state : SiteState) (path : Option (List ℕ)) → HoldsBytes state → IsContent (attributes_seen state path)
attributes-typed state None bytes = tt
attributes-typed state (Some path) bytes = content-typed (state.trees Here path) (bytes Here path)

content-of : (file : Option (List ℕ)) → IfSome file AreBytes → IsContent (content_within 4194304 file)
content-of None bytes = tt
content-of (Some file) bytes = go (nat_le (length file) 4194304)
  where
    go : (b : Bool) → IsContent (if b then Bytes file else TooLong)
    go true = bytes
    go false = tt

contents-typed : (state : SiteState) (dir : Dir) (paths : List (List ℕ)) → HoldsBytes state → All IsPath paths → All IsReadFile (contents 4194304 (state.trees dir) paths)
contents-typed state dir [] bytes typed = All-nil IsReadFile
contents-typed state dir (path ∷ paths) bytes typed =
    All-cons IsReadFile _ _ (All-head IsPath path paths typed, content-of (state.trees dir path) (bytes dir path)) (contents-typed state dir paths bytes (All-tail IsPath path paths typed))

files-typed : (call : Call) (change : Option Change) (state : SiteState) → HoldsBytes state → All IsPath (paths_asked call change) → All IsReadFile (files_seen call change state)
files-typed call (Some change) state bytes typed = contents-typed state (files_dir call change) (paths_asked call (Some change)) bytes typed
files-typed call None state bytes typed = All-nil IsReadFile

alone-typed : (o : Option Observation) (called : Called) → HoldsBytes called.before → IfSome o ArePaths → IsView (seen_alone o called)
alone-typed None called bytes typed = record { attributes = attributes-typed called.before called.command.attributes bytes; develop = All-nil IsReadFile; runs = All-nil IsRun }
alone-typed (Some o) called bytes typed = record {
  attributes = attributes-typed called.before called.command.attributes bytes;
  develop = files-typed (call_of o called.command called.who) (change_named o called.command.change) called.before bytes (asked-paths o called.command called.who typed);
  runs = All-nil IsRun;
}

pub quiet-typed : (o : Option Observation) (bytes : ℕ → List ℕ) (called : Called) → makes_runs called.command.function ≡ false → HoldsBytes called.before → IfSome o ArePaths → IsView (view o bytes called)
quiet-typed o bytes called none holds typed = subst IsView (sym (quiet-view o bytes called none)) (alone-typed o called holds typed)

-- what stands after a legal log has paths
pub legal-typed : (log : Log) → Legal log → IfSome (observation log) ArePaths
legal-typed log legal = go (observation log) refl
  where
    go : (x : Option Observation) → observation log ≡ x → IfSome x ArePaths
    go (Some o) is = legal-paths log o legal is
    go None is = tt

-- ---- a build or a test

-- the baseline's aegis.conf, as a row that was read
below-path : (call : Call) (change : Change) (row : TreeRow) → config_below call change ≡ Some row → IsPath row.path
below-path call change row = integrated (is_integrating change.phase)
  where
    found : row_at (baseline_of call.stands) config_path ≡ Some row → IsPath row.path
    found is = subst IsPath (by_text.same_is config_path row.path (found-so (λ (r : TreeRow). bytes_eq config_path (tree_path r)) (baseline_of call.stands) row is).1) refl

    own : (b : Bool) → (if b then None else row_at (baseline_of call.stands) config_path) ≡ Some row → IsPath row.path
    own true is = none-some row is
    own false is = found is

    integrated : (b : Bool) → (if b then None else if has_config change then None else row_at (baseline_of call.stands) config_path) ≡ Some row → IsPath row.path
    integrated true is = none-some row is
    integrated false is = own (has_config change) is

config-typed : (given : Given) (c : Option Change) → ((number : ℕ) → AreBytes (given.bytes number)) → All IsReadFile (config_asked given c)
config-typed given None bytes = All-nil IsReadFile
config-typed given (Some change) bytes = go (makes_runs given.call.command.function)
  where
    with_row : (v : Option TreeRow) → config_below given.call change ≡ v → All IsReadFile (config_row given.bytes v)
    with_row (Some row) is = All-cons IsReadFile (row.path, Bytes (given.bytes row.version.number)) [] (below-path given.call change row is, bytes row.version.number) (All-nil IsReadFile)
    with_row None is = All-nil IsReadFile

    go : (b : Bool) → All IsReadFile (if b then config_row given.bytes (config_below given.call change) else [])
    go true = with_row (config_below given.call change) refl
    go false = All-nil IsReadFile

module _ (o : Observation) (bytes : ℕ → List ℕ) (called : Called) (makes : makes_runs called.command.function ≡ true) (before : HoldsBytes called.before) (runs : AreByteRuns (new_runs called))
    (are : ArePaths o) (sound : Sound o) (kept : (number : ℕ) → AreBytes (bytes number)) where
  abbrev given : Given
  given = given_at o bytes called

  table-paths : ArePathsAll (map row_path o.files)
  table-paths path there = all-members IsPath (map row_path o.files) are.table path there

  -- of the change that it names
  named : (c : Option Change) → change_named o called.command.change ≡ c → All IsRun (rows_of (paths_of (tracked_in given c)) (runs_asked given.call c) (new_runs called))
  named None is = rows-typed [] (λ path there. absurd there) tt [] tt (new_runs called) runs
  named (Some change) is = at called.command.change is
    where
      read : All IsPath (paths_asked given.call (Some change))
      read = subst (λ (c : Option Change). All IsPath (paths_asked given.call c)) is (asked-paths o called.command called.who are)

      reads : All IsPath (paths_read given.call change)
      reads = subst (λ (b : Bool). All IsPath (if b then paths_read given.call change else [])) (reads-too called.command.function makes) read

      at : (number : Option ℕ) → option_and_then (change_at o) number ≡ Some change → All IsRun (rows_of (paths_of (tracked_in given (Some change))) (runs_asked given.call (Some change)) (new_runs called))
      at None there = none-some change there
      at (Some number) there =
          let files : ArePathsAll (map file_path change.files) = λ path m. all-members IsPath (map file_path change.files) (are.files number change there) path m in
          let tracked = tracked-paths given change sound.rows.ascend (sound.changes.good number change there).files.ascend table-paths (λ path m. all-members IsPath (paths_read given.call change) reads path m) in
          rows-typed (paths_of (tracked_in given (Some change))) tracked.0 tracked.1 (runs_asked given.call (Some change)) (of-group given.call change table-paths files) (new_runs called) runs

  runs-typed : IsView (view (Some o) bytes called)
  runs-typed = record {
    attributes = attributes-typed called.before called.command.attributes before;
    develop = All-append IsReadFile _ _ (files-typed given.call (change_of given.call) called.before before (asked-paths o called.command called.who are)) (config-typed given (change_of given.call) kept);
    runs = named (change_of given.call) refl;
  }

-- what a command sees after a legal log is of its types
pub sees-typed : (log : Log) (called : Called) → Legal log → HoldsBytes called.before → AreByteRuns (new_runs called) → IsView (occasion_after log called).view
sees-typed log called legal before runs = go (makes_runs called.command.function) refl (observation log) refl
  where
    go : (b : Bool) → makes_runs called.command.function ≡ b → (x : Option Observation) → observation log ≡ x → IsView (view x (version_bytes log) called)
    go true is (Some o) stands = runs-typed o (version_bytes log) called is before runs (subst (λ (x : Option Observation). IfSome x ArePaths) stands (legal-typed log legal)) (legal-sound log o legal stands) (legal-bytes log legal)
    go true is None stands = record { attributes = attributes-typed called.before called.command.attributes before; develop = All-nil IsReadFile; runs = All-nil IsRun }
    go false is x stands = quiet-typed x (version_bytes log) called is before (subst (λ (x : Option Observation). IfSome x ArePaths) stands (legal-typed log legal))
