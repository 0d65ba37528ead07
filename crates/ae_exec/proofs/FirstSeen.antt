-- What a command with runs sees before them shows the versions that its answer depends on.
use Rattle.std.specs.Prelude.{◌≡◌, ℕ, Bool, true, false, not, ◌&&◌, if◌then◌else◌, List, [], ◌∷◌, ◌++◌, map, filter, Option, Some, None}
use Rattle.std.specs.List.{cons_option, find, list_all}
use Rattle.std.specs.Option.{option_or}
use Rattle.std.specs.Str.{bytes_eq}
use Rattle.std.proofs.Common.{refl, sym, ap, subst, ◌∙◌, inl, inr, cond}
use Rattle.std.proofs.lemmas.List.{append-nil}
use Rattle.std.proofs.lemmas.List.Folds.{find-append}
use Rattle.std.proofs.lemmas.Bool.{false≢true}
use Rattle.ae_machine.proofs.SightShows.{reads-too}
use Rattle.ae_outside.specs.declared.dir.Content.{Content}
use Rattle.ae_outside.specs.declared.dir.Content.TheVariants.{Bytes}
use Rattle.ae_outside.specs.Site.{SiteState, contents}
use Rattle.ae_types.specs.declared.change.Change.{Change}
use Rattle.ae_types.specs.declared.change.ChangeFile.{ChangeFile}
use Rattle.ae_types.specs.Found.{file_path}
use Rattle.ae_types.specs.Observation.{Observation}
use Rattle.ae_types.specs.Phases.{is_integrating, is_remove}
use Rattle.ae_types.specs.Trees.{TreeRow, baseline_of, candidate_of, tree_path}
use Rattle.ae_types.proofs.Keys.{by_text}
use Rattle.ae_types.proofs.Members.{In, in-any, in-map, map-in}
use Rattle.ae_words.specs.declared.command.Command.{Command}
use Rattle.ae_words.specs.Meaning.{is_config}
use Rattle.ae_machine.specs.declared.view.View.{View}
use Rattle.ae_machine.specs.Call.{Call, call_of, change_named, given_of}
use Rattle.ae_machine.specs.Called.{files_seen}
use Rattle.ae_machine.specs.Fits.{config_row, makes_runs, path_of_row, paths_asked, reads_files}
use Rattle.ae_machine.specs.Freezing.{is_these}
use Rattle.ae_machine.specs.Jobs.{dir_of_files}
use Rattle.ae_files.specs.InTree.{row_at}
use Rattle.ae_machine.specs.Sight.{config_below, config_path, content_of, has_config, kept_paths, paths_read, with_bytes}
use Rattle.ae_machine.specs.Space.{placing}
use Rattle.ae_machine.specs.Versions.{ShowsVersions, config_version, first_differing, is_shown, rows_compared, versions_of_runs}
use Rattle.ae_machine.proofs.AskedFor.{none-differs}
use Rattle.ae_machine.proofs.Lists.{filter-in, flipped, found-so}
use Rattle.ae_exec.specs.Reading.{compared_for}

-- only a function that reads files asks for paths
pub asked-reads : (call : Call) (c : Option Change) → (paths_asked call c ≡ [] → ⊥) → reads_files call.command.function ≡ true
asked-reads call None some = absurd (some refl)
asked-reads call (Some change) some = go (reads_files call.command.function) refl
  where
    go : (b : Bool) → reads_files call.command.function ≡ b → b ≡ true
    go true is = refl
    go false is = absurd (some (ap (λ (b : Bool). if b then paths_read call change else []) is))

-- the files that are read, in the directory where they are read
pub seen-there : (call : Call) (c : Option Change) (state : SiteState) → files_seen call c state ≡ contents 4194304 (state.trees (dir_of_files call c)) (paths_asked call c)
seen-there call (Some change) state = refl
seen-there call None state = refl

-- ---- a path that wasn't read is found after the files that were

missed : (path : List ℕ) (rows : List (List ℕ × Content)) → ((q : List ℕ) → In (map path_of_row rows) q → bytes_eq path q ≡ false) → find (λ (row : List ℕ × Content). bytes_eq path row.0) rows ≡ None
missed path [] none = refl
missed path (row ∷ rows) none =
    ap (λ (b : Bool). cond b (Some row) (find (λ (row : List ℕ × Content). bytes_eq path row.0) rows)) (none row.0 (inl refl))
    ∙ missed path rows (λ q there. none q (inr there))

found-after : (path : List ℕ) (rows : List (List ℕ × Content)) (content : Content) → ((q : List ℕ) → In (map path_of_row rows) q → bytes_eq path q ≡ false)
    → content_of (find (λ (row : List ℕ × Content). bytes_eq path row.0) (rows ++ (path, content) ∷ [])) ≡ content
found-after path rows content none =
    ap content_of (find-append (λ (row : List ℕ × Content). bytes_eq path row.0) rows ((path, content) ∷ []))
    ∙ ap (λ (v : Option (List ℕ × Content)). content_of (option_or v (find (λ (row : List ℕ × Content). bytes_eq path row.0) ((path, content) ∷ [])))) (missed path rows none)
    ∙ ap (λ (b : Bool). content_of (cond b (Some (path, content)) None)) (by_text.same_self path)

-- ---- the files of a change without aegis.conf have other paths

no-config-kept : (change : Change) → has_config change ≡ false → (path q : List ℕ) → is_config path ≡ true → In (kept_paths change) q → bytes_eq path q ≡ false
no-config-kept change none path q config there = go (bytes_eq path q) refl
  where
    among : In (map file_path change.files) q
    among =
        let f = map-in file_path (filter (λ (file : ChangeFile). not (is_remove file.action)) change.files) q there in
        subst (In (map file_path change.files)) f.2 (in-map file_path change.files f.0 (filter-in (λ (file : ChangeFile). not (is_remove file.action)) change.files f.0 f.1).0)

    go : (b : Bool) → bytes_eq path q ≡ b → b ≡ false
    go false is = refl
    go true is = absurd (false≢true (sym none ∙ in-any is_config (map file_path change.files) q among (ap is_config (sym (by_text.same_is path q is)) ∙ config)))

config-at : (rows : List TreeRow) (row : TreeRow) → row_at rows config_path ≡ Some row → is_config row.path ≡ true
config-at rows row is = flipped row.path config_path ∙ (found-so (λ (r : TreeRow). bytes_eq config_path (tree_path r)) rows row is).1

-- ---- so the baseline's aegis.conf is seen there

module _ (o : Observation) (bytes : ℕ → List ℕ) (command : Command) (who : List ℕ) (seen alone : View) where
  abbrev call : Call
  call = call_of o command who

  -- the files that are read
  abbrev rows : List (List ℕ × Content)
  rows = alone.develop

  one-shown : (change : Change) → has_config change ≡ false → map path_of_row rows ≡ kept_paths change → (row : TreeRow) → row_at (baseline_of o) config_path ≡ Some row
      → seen.develop ≡ rows ++ (row.path, Bytes (bytes row.version.number)) ∷ [] → is_shown bytes seen row ≡ true
  one-shown change none paths row at is =
      ap (is_these (bytes row.version.number)) (
      ap (λ (l : List (List ℕ × Content)). content_of (find (λ (r : List ℕ × Content). bytes_eq row.path r.0) l)) is
      ∙ found-after row.path rows (Bytes (bytes row.version.number)) (λ q there. no-config-kept change none row.path q (config-at (baseline_of o) row at) (subst (λ (l : List (List ℕ)). In l q) paths there))
      )
      ∙ by_text.same_self (bytes row.version.number)

  config-shown : (change : Change) → is_integrating change.phase ≡ false → map path_of_row rows ≡ kept_paths change → seen.develop ≡ rows ++ config_row bytes (config_below call change)
      → list_all (is_shown bytes seen) (cons_option (config_below call change) []) ≡ true
  config-shown change developed paths is =
      ap (λ (b : Bool). list_all (is_shown bytes seen) (cons_option (if b then None else below (has_config change)) [])) developed
      ∙ go (has_config change) refl (is ∙ ap (λ (b : Bool). rows ++ config_row bytes (if b then None else below (has_config change))) developed)
    where
      below : Bool → Option TreeRow
      below has = if has then None else row_at (baseline_of o) config_path

      found : (row : Option TreeRow) → row_at (baseline_of o) config_path ≡ row → has_config change ≡ false → seen.develop ≡ rows ++ config_row bytes row → list_all (is_shown bytes seen) (cons_option row []) ≡ true
      found (Some row) at none here = ap (λ (b : Bool). b && list_all (is_shown bytes seen) []) (one-shown change none paths row at here)
      found None at none here = refl

      go : (b : Bool) → has_config change ≡ b → seen.develop ≡ rows ++ config_row bytes (below b) → list_all (is_shown bytes seen) (cons_option (below b) []) ≡ true
      go true has here = refl
      go false none here = found (row_at (baseline_of o) config_path) refl none here

  -- where nothing stands after the files that are read, and none differs from its version, they show the versions
  compared-shown : (compared : List TreeRow) → seen.develop ≡ rows ++ [] → first_differing alone (with_bytes bytes compared) ≡ None → list_all (is_shown bytes seen) compared ≡ true
  compared-shown compared is none =
      ap (λ (l : List (List ℕ × Content)). list_all (λ (row : TreeRow). is_these (bytes row.version.number) (content_of (find (λ (r : List ℕ × Content). bytes_eq row.path r.0) l))) compared) (is ∙ append-nil rows)
      ∙ none-differs (given_of placing o bytes command who 0 alone) compared none

  pub rows-show : makes_runs command.function ≡ true → seen.develop ≡ rows ++ config_row bytes (config_version call (change_named o command.change))
      → map path_of_row rows ≡ paths_asked call (change_named o command.change) → first_differing alone (with_bytes bytes (compared_for command o)) ≡ None → ShowsVersions (Some o) bytes command who seen
  rows-show makes is paths none =
      ap (λ (b : Bool). list_all (is_shown bytes seen) (if b then versions_of_runs call (change_named o command.change) else [])) makes
      ∙ go (change_named o command.change) (is ∙ ap (λ (v : Option TreeRow). rows ++ config_row bytes v) (version-is (change_named o command.change))) paths none
    where
      below-of : Option Change → Option TreeRow
      below-of (Some change) = config_below call change
      below-of None = None

      version-is : (c : Option Change) → config_version call c ≡ below-of c
      version-is (Some change) = ap (λ (b : Bool). if b then config_below call change else None) makes
      version-is None = refl

      read : (change : Change) → is_integrating change.phase ≡ false → paths_asked call (Some change) ≡ kept_paths change
      read change dev =
          ap (λ (b : Bool). if b then paths_read call change else []) (reads-too command.function makes)
          ∙ ap (λ (b : Bool). if b then Rattle.ae_types.specs.Trees.paths_of (candidate_of o change) else kept_paths change) dev

      by : (change : Change) (b : Bool) → is_integrating change.phase ≡ b → seen.develop ≡ rows ++ config_row bytes (config_below call change) → map path_of_row rows ≡ paths_asked call (Some change)
          → first_differing alone (with_bytes bytes (rows_compared (call_of o command []) (Some change))) ≡ None → list_all (is_shown bytes seen) (versions_of_runs call (Some change)) ≡ true
      by change false developed here are same =
          ap (λ (b : Bool). list_all (is_shown bytes seen) (if b then candidate_of o change else cons_option (config_below call change) [])) developed
          ∙ config-shown change developed (are ∙ read change developed) here
      by change true integrated here are same =
          ap (λ (b : Bool). list_all (is_shown bytes seen) (if b then candidate_of o change else cons_option (config_below call change) [])) integrated
          ∙ compared-shown (candidate_of o change)
          (here ∙ ap (λ (b : Bool). rows ++ config_row bytes (if b then None else if has_config change then None else row_at (baseline_of o) config_path)) integrated)
          (sym (ap (λ (b : Bool). first_differing alone (with_bytes bytes (if b then candidate_of o change else []))) integrated) ∙ same)

      go : (c : Option Change) → seen.develop ≡ rows ++ config_row bytes (below-of c) → map path_of_row rows ≡ paths_asked call c
          → first_differing alone (with_bytes bytes (rows_compared (call_of o command []) c)) ≡ None → list_all (is_shown bytes seen) (versions_of_runs call c) ≡ true
      go (Some change) here are same = by change (is_integrating change.phase) refl here are same
      go None here are same = refl

-- ---- it is what stands after the files that are read
