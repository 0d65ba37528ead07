-- Where a build or a test reads and runs, and what it refuses.
use Rattle.std.proofs.Common.{◌≡◌, ℕ, ◌+◌, refl, sym, ◌∙◌, ap, true, false, cond, ◌&&◌, ◌||◌, not, Option, Some, None, List, [], ◌∷◌, map, Bool}
use Rattle.std.specs.Prelude.{filter}
use Rattle.std.specs.List.{find, list_all, list_any}
use Rattle.std.specs.Option.{option_and_then, option_map}
use Rattle.ae_base.specs.declared.refusal.Refusal.TheVariants.{Differs}
use Rattle.ae_base.specs.declared.words.Kind.TheVariants as kind
use Rattle.ae_outside.specs.declared.dir.Dir.TheVariants.{Develop, Integrate}
use Rattle.ae_outside.specs.declared.dir.Content.{Content}
use Rattle.ae_outside.specs.declared.dir.Content.TheVariants.{Absent, Bytes, TooLong}
use Rattle.ae_types.specs.declared.change.Change.{Change}
use Rattle.ae_types.specs.declared.change.ChangeFile.{ChangeFile}
use Rattle.ae_types.specs.Found.{file_path, has_file}
use Rattle.ae_types.specs.Phases.{is_integrating}
use Rattle.ae_types.specs.Trees.{TreeRow, baseline_of, candidate_of, last_delta}
use Rattle.ae_words.specs.Meaning.{is_config}
use Rattle.ae_machine.specs.Call.{Call, Given, change_of}
use Rattle.ae_machine.specs.Called.{dir_for, files_dir}
use Rattle.ae_machine.specs.Fits.{makes_runs, paths_asked, reads_files, tracked_in}
use Rattle.ae_machine.specs.Freezing.{first_content_refused, first_difference, is_these}
use Rattle.ae_machine.specs.Jobs.{dir_of_base, dir_of_files}
use Rattle.ae_machine.specs.Real.{dir_of_runs}
use Rattle.ae_machine.specs.Runs.{delta_of_run, kind_of, tracked_by}
use Rattle.ae_machine.specs.Sight.{base_tree, config_below, paths_read, read_at, tree_read, with_bytes}
use Rattle.ae_evidence.specs.Directories.{bytes_of}
use Rattle.ae_machine.specs.Versions.{config_version, files_refused, first_differing, is_read_so, is_shown, rows_based, rows_compared, rows_refreshed, rows_under}

pub integrate-dir : (call : Call) (change : Change) (delta : ℕ) → is_integrating change.phase ≡ true → delta ≡ delta_of_run call change → Integrate delta ≡ files_dir call change
integrate-dir call change delta is e =
    ap Integrate (e ∙ ap (λ b. cond b (last_delta call.stands + 1) (last_delta call.stands)) is)
    ∙ sym (ap (λ b. cond b (Integrate (last_delta call.stands + 1)) (Develop change.number)) is)

-- tests on the baseline run in the base directory, and all others where the files are read
pub in-base : (call : Call) (x : Option Change) → kind_of call.command.function call.command ≡ kind.BaselineTest → dir_of_base x ≡ dir_of_runs call x
in-base call (Some change) is = sym (ap (λ k. dir_for k call change) is)
in-base call None is = refl

pub in-build : (call : Call) (x : Option Change) → kind_of call.command.function call.command ≡ kind.Build → dir_of_files call x ≡ dir_of_runs call x
in-build call (Some change) is = sym (ap (λ k. dir_for k call change) is)
in-build call None is = refl

pub in-test : (call : Call) (x : Option Change) → kind_of call.command.function call.command ≡ kind.Test → dir_of_files call x ≡ dir_of_runs call x
in-test call (Some change) is = sym (ap (λ k. dir_for k call change) is)
in-test call None is = refl

pub in-regression : (call : Call) (x : Option Change) → kind_of call.command.function call.command ≡ kind.RegressionTest → dir_of_files call x ≡ dir_of_runs call x
in-regression call (Some change) is = sym (ap (λ k. dir_for k call change) is)
in-regression call None is = refl

-- in development the files that are kept refuse
pub kept-refuse : (given : Given) (change : Change) → change_of given.call ≡ Some change → is_integrating change.phase ≡ false → first_content_refused given.view (paths_read given.call change) ≡ files_refused given
kept-refuse given change is develops =
    sym (ap (option_and_then _) is ∙ ap (λ b. cond b None (first_content_refused given.view (paths_read given.call change))) develops)

-- ---- versions

pub any-config : (files : List ChangeFile) → list_any (λ (file : ChangeFile). is_config file.path) files ≡ list_any is_config (map file_path files)
any-config [] = refl
any-config (f ∷ fs) = ap (λ b. is_config f.path || b) (any-config fs)

pub version-asked : (call : Call) (change : Change) → change_of call ≡ Some change → makes_runs call.command.function ≡ true → config_below call change ≡ config_version call (change_of call)
version-asked call change is makes = sym (ap (config_version call) is ∙ ap (λ b. cond b (config_below call change) None) makes)

pub paths-asked : (call : Call) (change : Change) → change_of call ≡ Some change → reads_files call.command.function ≡ true → paths_read call change ≡ paths_asked call (change_of call)
paths-asked call change is reads = sym (ap (paths_asked call) is ∙ ap (λ b. cond b (paths_read call change) []) reads)

pub refreshed-asked : (call : Call) (change : Change) → change_of call ≡ Some change → is_integrating change.phase ≡ false
    → filter (λ (row : TreeRow). not (has_file change row.path)) (baseline_of call.stands) ≡ rows_refreshed call (change_of call)
refreshed-asked call change is develops = sym (ap (rows_refreshed call) is ∙ ap (λ b. cond b [] (filter (λ (row : TreeRow). not (has_file change row.path)) (baseline_of call.stands))) develops)

pub based-asked : (call : Call) (change : Change) → change_of call ≡ Some change → kind_of call.command.function call.command ≡ kind.BaselineTest → baseline_of call.stands ≡ rows_based call (change_of call)
based-asked call change is k = sym (ap (rows_based call) is ∙ ap (λ k. rows_under k call) k)

-- ---- what is tracked

pub tracked-base : (given : Given) (change : Change) → change_of given.call ≡ Some change → kind_of given.call.command.function given.call.command ≡ kind.BaselineTest → base_tree given change ≡ tracked_in given (change_of given.call)
tracked-base given change is k = sym (ap (tracked_in given) is ∙ ap (λ k. tracked_by k given change) k)

pub tracked-build : (given : Given) (change : Change) → change_of given.call ≡ Some change → kind_of given.call.command.function given.call.command ≡ kind.Build → tree_read given change ≡ tracked_in given (change_of given.call)
tracked-build given change is k = sym (ap (tracked_in given) is ∙ ap (λ k. tracked_by k given change) k)

pub tracked-test : (given : Given) (change : Change) → change_of given.call ≡ Some change → kind_of given.call.command.function given.call.command ≡ kind.Test → tree_read given change ≡ tracked_in given (change_of given.call)
tracked-test given change is k = sym (ap (tracked_in given) is ∙ ap (λ k. tracked_by k given change) k)

pub tracked-regression : (given : Given) (change : Change) → change_of given.call ≡ Some change → kind_of given.call.command.function given.call.command ≡ kind.RegressionTest → tree_read given change ≡ tracked_in given (change_of given.call)
tracked-regression given change is k = sym (ap (tracked_in given) is ∙ ap (λ k. tracked_by k given change) k)

-- ---- what is compared

pub compared-asked : (call : Call) (change : Change) → change_of call ≡ Some change → is_integrating change.phase ≡ true → candidate_of call.stands change ≡ rows_compared call (change_of call)
compared-asked call change is integrates = sym (ap (rows_compared call) is ∙ ap (λ b. cond b (candidate_of call.stands change) []) integrates)

read-these : (bytes : List ℕ) (content : Content) → is_read_so (bytes_of content) (Some bytes) ≡ is_these bytes content
read-these bytes (Bytes other) = refl
read-these bytes Absent = refl
read-these bytes TooLong = refl

-- it is the first difference from the versions
pub differing-is : (given : Given) (rows : List TreeRow) → first_differing given.view (with_bytes given.bytes rows) ≡ first_difference given rows
differing-is given [] = refl
differing-is given (row ∷ rows) =
    ap (λ b. cond b (first_differing given.view (with_bytes given.bytes rows)) (Some (Differs row.path))) (read-these (given.bytes row.version.number) (read_at given.view row.path))
    ∙ go (is_these (given.bytes row.version.number) (read_at given.view row.path)) (differing-is given rows)
  where
    go : (b : Bool) → first_differing given.view (with_bytes given.bytes rows) ≡ first_difference given rows
        → cond b (first_differing given.view (with_bytes given.bytes rows)) (Some (Differs row.path))
        ≡ option_map (λ (r : TreeRow). Differs r.path) (cond (not b) (Some row) (find (λ (r : TreeRow). not (is_these (given.bytes r.version.number) (read_at given.view r.path))) rows))
    go true rest = rest
    go false rest = refl

-- and where there is none, each of the versions stands in what the command sees
pub none-differs : (given : Given) (rows : List TreeRow) → first_differing given.view (with_bytes given.bytes rows) ≡ None → list_all (is_shown given.bytes given.view) rows ≡ true
none-differs given [] e = refl
none-differs given (row ∷ rows) e =
    go (is_these (given.bytes row.version.number) (read_at given.view row.path))
    (sym (ap (λ b. cond b (first_differing given.view (with_bytes given.bytes rows)) (Some (Differs row.path))) (read-these (given.bytes row.version.number) (read_at given.view row.path))) ∙ e)
    (none-differs given rows)
  where
    go : (b : Bool) → cond b (first_differing given.view (with_bytes given.bytes rows)) (Some (Differs row.path)) ≡ None
        → (first_differing given.view (with_bytes given.bytes rows) ≡ None → list_all (is_shown given.bytes given.view) rows ≡ true) → (b && list_all (is_shown given.bytes given.view) rows) ≡ true
    go true e rest = rest e
    go false e rest = cc
