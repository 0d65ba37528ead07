-- Where what a command sees shows the versions, its answer depends on what it sees alone.
use Rattle.std.proofs.Common.{◌≡◌, ℕ, refl, sym, ◌∙◌, ap, subst, List, [], ◌∷◌, Bool, true, false, not, cond, Option, Some, None}
use Rattle.std.specs.Prelude.{is_some}
use Rattle.std.specs.List.{list_all, find, cons_option}
use Rattle.std.specs.Option.{option_map, option_or, option_and_then}
use Rattle.std.specs.Str.{bytes_eq}
use Rattle.std.proofs.lemmas.Bool.{and_parts}
use Rattle.ae_machine.proofs.RightRuns.{these-are}
use Rattle.ae_base.specs.declared.refusal.Refusal.TheVariants.{Differs}
use Rattle.ae_types.specs.declared.change.Change.{Change}
use Rattle.ae_types.specs.Phases.{is_integrating}
use Rattle.ae_types.specs.Trees.{TreeRow, tree_path, baseline_of, candidate_of}
use Rattle.ae_types.proofs.Keys.{by_text}
use Rattle.ae_machine.specs.declared.view.View.{View}
use Rattle.ae_machine.specs.Call.{Call, Given, change_of}
use Rattle.ae_machine.specs.Commands.{config_seen}
use Rattle.ae_machine.specs.Fits.{makes_runs}
use Rattle.ae_machine.specs.Freezing.{first_content_refused, first_difference, right_files}
use Rattle.ae_machine.specs.Runs.{config_bytes, version_bytes_of}
use Rattle.ae_evidence.specs.Directories.{bytes_of}
use Rattle.ae_files.specs.InTree.{row_at}
use Rattle.ae_machine.specs.Sight.{config_below, config_path, has_config, paths_read, read_at}
use Rattle.ae_machine.specs.Versions.{files_refused, is_shown, versions_asked, versions_of_change, versions_of_runs}

-- ---- one version

-- what is found passes, and passes what all pass
pub record IsFound {A : Type 0} (test all : A → Bool) (x : A) : Type 0 where
  pub passes : test x ≡ true
  pub as_all : all x ≡ true

pub found : {A : Type 0} (test all : A → Bool) (xs : List A) (x : A) → list_all all xs ≡ true → find test xs ≡ Some x → IsFound test all x
found test all [] x a f = cc
found {A} test all (y ∷ ys) x a f = go (test y) refl f (λ g. found test all ys x (and_parts (all y) (list_all all ys) a).1 g)
  where
    go : (b : Bool) → test y ≡ b → cond b (Some y) (find test ys) ≡ Some x → (find test ys ≡ Some x → IsFound test all x) → IsFound test all x
    go true e f rest = let is : y ≡ x = cc in subst (IsFound test all) is (record { passes = e; as_all = (and_parts (all y) (list_all all ys) a).0 })
    go false e f rest = rest f

-- none is found that doesn't pass what all pass
none-fails : {A : Type 0} (all : A → Bool) (xs : List A) → list_all all xs ≡ true → find (λ x. not (all x)) xs ≡ None
none-fails all [] a = refl
none-fails {A} all (x ∷ xs) a = let p = and_parts (all x) (list_all all xs) a in ap (λ b. cond (not b) (Some x) (find (λ y. not (all y)) xs)) p.0 ∙ none-fails all xs p.1

module _ (bytes : ℕ → List ℕ) (view : View) where
  -- the version of a path that is shown is what was read there
  pub shown-at : (rows : List TreeRow) (path : List ℕ) (row : TreeRow) → list_all (is_shown bytes view) rows ≡ true → row_at rows path ≡ Some row → bytes_of (read_at view path) ≡ Some (bytes row.version.number)
  shown-at rows path row all is =
      let f = found (λ (r : TreeRow). bytes_eq path (tree_path r)) (is_shown bytes view) rows row all is in
      let same : path ≡ row.path = by_text.same_is path row.path f.passes in
      ap (λ p. bytes_of (read_at view p)) same ∙ these-are (bytes row.version.number) (read_at view row.path) f.as_all

  in-candidate : (rows : List TreeRow) → list_all (is_shown bytes view) rows ≡ true
      → version_bytes_of bytes (row_at rows config_path) ≡ cond (is_some (row_at rows config_path)) (bytes_of (read_at view config_path)) None
  in-candidate rows all = go (row_at rows config_path) refl
    where
      go : (x : Option TreeRow) → row_at rows config_path ≡ x → version_bytes_of bytes x ≡ cond (is_some x) (bytes_of (read_at view config_path)) None
      go (Some row) is = sym (shown-at rows config_path row all is)
      go None is = refl

  in-baseline : (below : Option TreeRow) → ((row : TreeRow) → below ≡ Some row → row.path ≡ config_path) → list_all (is_shown bytes view) (cons_option below []) ≡ true
      → option_or (bytes_of (read_at view config_path)) (version_bytes_of bytes below) ≡ bytes_of (read_at view config_path)
  in-baseline None at all = none (bytes_of (read_at view config_path))
    where
      none : (x : Option (List ℕ)) → option_or x None ≡ x
      none (Some x) = refl
      none None = refl
  in-baseline (Some row) at all =
      let read : bytes_of (read_at view config_path) ≡ Some (bytes row.version.number) =
      ap (λ p. bytes_of (read_at view p)) (sym (at row refl)) ∙ these-are (bytes row.version.number) (read_at view row.path) (and_parts (is_shown bytes view row) true all).0 in
      ap (λ x. option_or x (Some (bytes row.version.number))) read ∙ sym read

-- the baseline's aegis.conf has that path
pub below-at : (call : Call) (change : Change) (row : TreeRow) → config_below call change ≡ Some row → row.path ≡ config_path
below-at call change row is = go (is_integrating change.phase) (has_config change) is
  where
    at : (rows : List TreeRow) → row_at rows config_path ≡ Some row → row.path ≡ config_path
    at rows f = sym (by_text.same_is config_path row.path (found (λ (r : TreeRow). bytes_eq config_path (tree_path r)) (λ _. true) rows row (all rows) f).passes)
      where
        all : (rs : List TreeRow) → list_all (λ (_ : TreeRow). true) rs ≡ true
        all [] = refl
        all (r ∷ rs) = all rs

    go : (b c : Bool) → cond b None (cond c None (row_at (baseline_of call.stands) config_path)) ≡ Some row → row.path ≡ config_path
    go true c f = cc
    go false true f = cc
    go false false f = at (baseline_of call.stands) f

-- ---- the command's versions

module _ (given : Given) (change : Change) where
  abbrev AreShown : List TreeRow → Type 0
  AreShown rows = list_all (is_shown given.bytes given.view) rows ≡ true

  -- those of the change are shown
  pub of-change : makes_runs given.call.command.function ≡ true → change_of given.call ≡ Some change → AreShown (versions_asked given.call) → AreShown (versions_of_change given.call change)
  of-change makes is shown =
      subst (λ x. AreShown (versions_of_runs given.call x)) is
      (subst (λ b. AreShown (cond b (versions_of_runs given.call (change_of given.call)) [])) makes shown)

  -- then aegis.conf is what was read of it
  pub config-shown : AreShown (versions_of_change given.call change) → config_bytes given change ≡ config_seen given.call.stands change given.view
  config-shown shown = go (is_integrating change.phase) shown
    where
      go : (b : Bool) → AreShown (cond b (candidate_of given.call.stands change) (cons_option (config_below given.call change) []))
          → cond b (version_bytes_of given.bytes (row_at (candidate_of given.call.stands change) config_path)) (option_or (bytes_of (read_at given.view config_path)) (version_bytes_of given.bytes (config_below given.call change)))
          ≡ cond b (cond (is_some (row_at (candidate_of given.call.stands change) config_path)) (bytes_of (read_at given.view config_path)) None) (bytes_of (read_at given.view config_path))
      go true shown = in-candidate given.bytes given.view (candidate_of given.call.stands change) shown
      go false shown = in-baseline given.bytes given.view (config_below given.call change) (below-at given.call change) shown

  -- and the files are refused as they were read
  pub right-shown : change_of given.call ≡ Some change → AreShown (versions_of_change given.call change) → files_refused given ≡ right_files given
  right-shown is shown = ap (option_and_then _) is ∙ go (is_integrating change.phase) shown ∙ sym (ap (option_and_then _) is)
    where
      go : (b : Bool) → AreShown (cond b (candidate_of given.call.stands change) (cons_option (config_below given.call change) []))
          → cond b None (first_content_refused given.view (paths_read given.call change)) ≡ cond b (first_difference given (candidate_of given.call.stands change)) (first_content_refused given.view (paths_read given.call change))
      go true shown = sym (ap (option_map (λ (row : TreeRow). Differs row.path)) (none-fails (is_shown given.bytes given.view) (candidate_of given.call.stands change) shown))
      go false shown = refl
