-- In development what a command sees shows the baseline's aegis.conf, and its files are refused as they were before that was read.
use Rattle.std.proofs.Common.{◌≡◌, ℕ, refl, sym, ◌∙◌, ap, List, [], ◌∷◌, ◌++◌, map, Bool, true, false, not, ◌&&◌, ◌||◌, cond, Option, Some, None}
use Rattle.std.specs.Prelude.{filter}
use Rattle.std.specs.List.{list_all, list_any, find, cons_option}
use Rattle.std.specs.Option.{option_or, option_and_then}
use Rattle.std.specs.Str.{bytes_eq}
use Rattle.std.proofs.lemmas.List.Folds.{find-append}
use Rattle.std.proofs.lemmas.Bool.{or_parts}
use Rattle.ae_outside.specs.declared.dir.Content.{Content}
use Rattle.ae_outside.specs.declared.dir.Content.TheVariants.{Bytes}
use Rattle.ae_types.specs.declared.change.Change.{Change}
use Rattle.ae_types.specs.declared.change.ChangeFile.{ChangeFile}
use Rattle.ae_types.specs.Found.{file_path}
use Rattle.ae_types.specs.Phases.{is_integrating, is_remove}
use Rattle.ae_types.specs.Trees.{TreeRow, paths_of, baseline_of, candidate_of}
use Rattle.ae_types.proofs.Keys.{by_text}
use Rattle.ae_words.specs.declared.table.Function.{Function}
use Rattle.ae_words.specs.declared.table.Function.TheVariants as function
use Rattle.ae_words.specs.Meaning.{is_config}
use Rattle.ae_machine.specs.declared.view.View.{View}
use Rattle.ae_machine.specs.Call.{Call, Given, change_of}
use Rattle.ae_machine.specs.Fits.{config_asked, config_row, makes_runs, path_of_row, paths_asked, reads_files}
use Rattle.ae_machine.specs.Freezing.{content_is_good, first_content_refused, is_these}
use Rattle.ae_files.specs.InTree.{row_at}
use Rattle.ae_machine.specs.Sight.{config_below, config_path, content_of, has_config, kept, kept_paths, paths_read, read_at}
use Rattle.ae_machine.specs.Versions.{config_version, files_refused, is_shown, kept_files_refused, versions_asked, versions_of_runs}
use Rattle.ae_machine.proofs.ShownVersions.{below-at}

abbrev pub Read : Type 0
Read = List (List ℕ × Content)

-- ---- which paths are read

pub reads-too : (f : Function) → makes_runs f ≡ true → reads_files f ≡ true
reads-too function.Build e = refl
reads-too _ e = cc

not-kept : (files : List ChangeFile) → list_any is_config (map file_path files) ≡ false → list_any is_config (kept files) ≡ false
not-kept [] e = refl
not-kept (f ∷ fs) e = let p = or_parts (is_config f.path) (list_any is_config (map file_path fs)) e in go (not (is_remove f.action)) p.0 (not-kept fs p.1)
  where
    go : (b : Bool) → is_config f.path ≡ false → list_any is_config (kept fs) ≡ false
        → list_any is_config (map file_path (cond b (f ∷ filter (λ (file : ChangeFile). not (is_remove file.action)) fs) (filter (λ (file : ChangeFile). not (is_remove file.action)) fs))) ≡ false
    go true e rest = ap (λ b. b || list_any is_config (kept fs)) e ∙ rest
    go false e rest = rest

-- where the baseline's aegis.conf is read, the change has no row for it
below-no-row : (call : Call) (change : Change) (row : TreeRow) → config_below call change ≡ Some row → has_config change ≡ false
below-no-row call change row is = go (is_integrating change.phase) (has_config change) is
  where
    go : (b c : Bool) → cond b None (cond c None (row_at (baseline_of call.stands) config_path)) ≡ Some row → c ≡ false
    go true c e = cc
    go false true e = cc
    go false false e = refl

other-path : (path other : List ℕ) → is_config path ≡ false → is_config other ≡ true → bytes_eq path other ≡ false
other-path path other a b = go (bytes_eq path other) refl
  where
    go : (t : Bool) → bytes_eq path other ≡ t → t ≡ false
    go true e = let same : false ≡ true = sym a ∙ ap is_config (by_text.same_is path other e) ∙ b in cc
    go false e = refl

none-at : (rows : Read) (path : List ℕ) → list_any is_config (map path_of_row rows) ≡ false → is_config path ≡ true → find (λ (row : List ℕ × Content). bytes_eq path row.0) rows ≡ None
none-at [] path e is = refl
none-at (row ∷ rows) path e is =
    let p = or_parts (is_config row.0) (list_any is_config (map path_of_row rows)) e in
    ap (λ b. cond b (Some row) (find (λ (r : List ℕ × Content). bytes_eq path r.0) rows)) (go (bytes_eq path row.0) refl p.0) ∙ none-at rows path p.1 is
  where
    go : (t : Bool) → bytes_eq path row.0 ≡ t → is_config row.0 ≡ false → t ≡ false
    go true e differs = let same : false ≡ true = sym differs ∙ ap is_config (sym (by_text.same_is path row.0 e)) ∙ is in cc
    go false e differs = refl

-- ---- with the row of aegis.conf after the others

-- other paths are read as without it
same-read : (rows : Read) (row : List ℕ × Content) (path : List ℕ) → is_config row.0 ≡ true → is_config path ≡ false
    → find (λ (r : List ℕ × Content). bytes_eq path r.0) (rows ++ row ∷ []) ≡ find (λ (r : List ℕ × Content). bytes_eq path r.0) rows
same-read rows row path is differs =
    find-append (λ (r : List ℕ × Content). bytes_eq path r.0) rows (row ∷ [])
    ∙ ap (λ b. option_or (find (λ (r : List ℕ × Content). bytes_eq path r.0) rows) (cond b (Some row) None)) (other-path path row.0 differs is)
    ∙ none (find (λ (r : List ℕ × Content). bytes_eq path r.0) rows)
  where
    none : (x : Option (List ℕ × Content)) → option_or x None ≡ x
    none (Some x) = refl
    none None = refl

refused-same : (one two : View) (row : List ℕ × Content) (paths : List (List ℕ)) → two.develop ≡ one.develop ++ row ∷ [] → is_config row.0 ≡ true → list_any is_config paths ≡ false
    → first_content_refused one paths ≡ first_content_refused two paths
refused-same one two row [] more is differs = refl
refused-same one two row (path ∷ paths) more is differs =
    let p = or_parts (is_config path) (list_any is_config paths) differs in
    let read : read_at one path ≡ read_at two path =
    sym (ap content_of (ap (find (λ (r : List ℕ × Content). bytes_eq path r.0)) more ∙ same-read one.develop row path is p.0)) in
    λ i. option_or (content_is_good path (read i)) (refused-same one two row paths more is p.1 i)

same-develop : (one two : View) (paths : List (List ℕ)) → one.develop ≡ two.develop → first_content_refused one paths ≡ first_content_refused two paths
same-develop one two [] same = refl
same-develop one two (path ∷ paths) same =
    λ i. option_or (content_is_good path (content_of (find (λ (r : List ℕ × Content). bytes_eq path r.0) (same i)))) (same-develop one two paths same i)

append_nil : (xs : Read) → xs ++ [] ≡ xs
append_nil [] = refl
append_nil (x ∷ xs) = ap (λ ys. x ∷ ys) (append_nil xs)

config-is : is_config config_path ≡ true
config-is = refl

-- ---- what a command sees

module _ (given : Given) (change : Change) (rows : Read) (named : change_of given.call ≡ Some change) (develops : is_integrating change.phase ≡ false)
    (read : given.view.develop ≡ rows ++ config_asked given (change_of given.call)) (paths : map path_of_row rows ≡ paths_asked given.call (change_of given.call)) where
  kept-are : makes_runs given.call.command.function ≡ true → map path_of_row rows ≡ kept_paths change
  kept-are makes =
      paths ∙ ap (paths_asked given.call) named
      ∙ ap (λ b. cond b (paths_read given.call change) []) (reads-too given.call.command.function makes)
      ∙ ap (λ b. cond b (paths_of (candidate_of given.call.stands change)) (kept_paths change)) develops

  with-config : (row : TreeRow) → makes_runs given.call.command.function ≡ true → config_below given.call change ≡ Some row → given.view.develop ≡ rows ++ (row.path, Bytes (given.bytes row.version.number)) ∷ []
  with-config row makes below =
      read ∙ ap (λ x. rows ++ config_asked given x) named
      ∙ ap (λ b. rows ++ cond b (config_row given.bytes (config_below given.call change)) []) makes
      ∙ ap (λ x. rows ++ config_row given.bytes x) below

  no-config : (row : TreeRow) → makes_runs given.call.command.function ≡ true → config_below given.call change ≡ Some row → list_any is_config (map path_of_row rows) ≡ false
  no-config row makes below = ap (list_any is_config) (kept-are makes) ∙ not-kept change.files (below-no-row given.call change row below)

  row-shown : (row : TreeRow) → makes_runs given.call.command.function ≡ true → config_below given.call change ≡ Some row → is_shown given.bytes given.view row ≡ true
  row-shown row makes below =
      let b = given.bytes row.version.number in
      let is : is_config row.path ≡ true = ap is_config (below-at given.call change row below) ∙ config-is in
      let found : find (λ (r : List ℕ × Content). bytes_eq row.path r.0) given.view.develop ≡ Some (row.path, Bytes b) =
      ap (find (λ (r : List ℕ × Content). bytes_eq row.path r.0)) (with-config row makes below)
      ∙ find-append (λ (r : List ℕ × Content). bytes_eq row.path r.0) rows ((row.path, Bytes b) ∷ [])
      ∙ ap (λ x. option_or x (cond (bytes_eq row.path row.path) (Some (row.path, Bytes b)) None)) (none-at rows row.path (no-config row makes below) is)
      ∙ ap (λ t. cond t (Some (row.path, Bytes b)) None) (by_text.same_self row.path) in
      ap (λ x. is_these b (content_of x)) found ∙ by_text.same_self b

  -- the versions that the answer depends on stand in it
  pub sight-shows : list_all (is_shown given.bytes given.view) (versions_asked given.call) ≡ true
  sight-shows = by-function (makes_runs given.call.command.function) refl
    where
      by-version : (x : Option TreeRow) → config_below given.call change ≡ x → ((row : TreeRow) → config_below given.call change ≡ Some row → is_shown given.bytes given.view row ≡ true)
          → list_all (is_shown given.bytes given.view) (cons_option x []) ≡ true
      by-version None is each = refl
      by-version (Some row) is each = ap (λ b. b && true) (each row is)

      by-function : (b : Bool) → makes_runs given.call.command.function ≡ b → list_all (is_shown given.bytes given.view) (cond b (versions_of_runs given.call (change_of given.call)) []) ≡ true
      by-function true makes =
          ap (λ x. list_all (is_shown given.bytes given.view) (versions_of_runs given.call x)) named
          ∙ ap (λ b. list_all (is_shown given.bytes given.view) (cond b (candidate_of given.call.stands change) (cons_option (config_below given.call change) []))) develops
          ∙ by-version (config_below given.call change) refl (λ row below. row-shown row makes below)
      by-function false makes = refl

  -- its files are refused as they were before aegis.conf was read
  pub files-before : makes_runs given.call.command.function ≡ true → (seen : View) → seen.develop ≡ rows → files_refused (record given { view = seen }) ≡ files_refused given
  files-before makes seen is =
      ap (option_and_then (kept_files_refused (record given { view = seen }))) named ∙ core ∙ sym (ap (option_and_then (kept_files_refused given)) named)
    where
      kept-is : paths_read given.call change ≡ kept_paths change
      kept-is = ap (λ b. cond b (paths_of (candidate_of given.call.stands change)) (kept_paths change)) develops

      by-version : (x : Option TreeRow) → config_below given.call change ≡ x → first_content_refused seen (kept_paths change) ≡ first_content_refused given.view (kept_paths change)
      by-version None below =
          same-develop seen given.view (kept_paths change)
          (is ∙ sym (append_nil rows)
          ∙ sym (read ∙ ap (λ x. rows ++ config_asked given x) named ∙ ap (λ b. rows ++ cond b (config_row given.bytes (config_below given.call change)) []) makes ∙ ap (λ x. rows ++ config_row given.bytes x) below))
      by-version (Some row) below =
          refused-same seen given.view (row.path, Bytes (given.bytes row.version.number)) (kept_paths change)
          (with-config row makes below ∙ ap (λ rs. rs ++ (row.path, Bytes (given.bytes row.version.number)) ∷ []) (sym is))
          (ap is_config (below-at given.call change row below) ∙ config-is) (sym (ap (list_any is_config) (kept-are makes)) ∙ no-config row makes below)

      core : kept_files_refused (record given { view = seen }) change ≡ kept_files_refused given change
      core =
          ap (λ ps. cond (is_integrating change.phase) None (first_content_refused seen ps)) kept-is
          ∙ ap (cond (is_integrating change.phase) None) (by-version (config_below given.call change) refl)
          ∙ sym (ap (λ ps. cond (is_integrating change.phase) None (first_content_refused given.view ps)) kept-is)

-- a command that makes no runs depends on none
pub no-versions : (call : Call) (bytes : ℕ → List ℕ) (view : View) → makes_runs call.command.function ≡ false → list_all (is_shown bytes view) (versions_asked call) ≡ true
no-versions call bytes view none = ap (λ b. list_all (is_shown bytes view) (cond b (versions_of_runs call (change_of call)) [])) none

-- the row of aegis.conf that is asked for is that of the version
pub config-asked-is : (given : Given) (x : Option Change) → config_asked given x ≡ config_row given.bytes (config_version given.call x)
config-asked-is given None = refl
config-asked-is given (Some change) = go (makes_runs given.call.command.function)
  where
    go : (b : Bool) → cond b (config_row given.bytes (config_below given.call change)) [] ≡ config_row given.bytes (cond b (config_below given.call change) None)
    go true = refl
    go false = refl
