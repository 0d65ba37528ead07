-- The files that a command with runs reads in integration are compared with the candidate's versions.
use Rattle.std.specs.Prelude.{◌≡◌, ℕ, Bool, true, false, if◌then◌else◌, List, [], Option, Some, None}
use Rattle.std.specs.List.{cons_option}
use Rattle.std.proofs.Common.{refl, sym, subst, ◌∙◌}
use Rattle.ae_base.specs.declared.refusal.Refusal.{Refusal}
use Rattle.ae_outside.specs.Image.{Image}
use Rattle.ae_outside.specs.declared.dir.Content.{Content}
use Rattle.ae_types.specs.declared.change.Change.{Change}
use Rattle.ae_types.specs.Observation.{Observation}
use Rattle.ae_types.specs.Phases.{is_integrating}
use Rattle.ae_types.specs.Trees.{TreeRow, baseline_of, candidate_of}
use Rattle.ae_vault.specs.Vault.{effective}
use Rattle.ae_words.specs.declared.command.Command.{Command}
use Rattle.ae_machine.specs.declared.view.View.{View}
use Rattle.ae_machine.specs.Call.{call_of, change_named}
use Rattle.ae_machine.specs.Fits.{config_row, makes_runs}
use Rattle.ae_files.specs.InTree.{row_at}
use Rattle.ae_machine.specs.Sight.{config_path, has_config, with_bytes}
use Rattle.ae_machine.specs.Versions.{config_version, first_differing, rows_compared}
use Rattle.ae_exec.specs.Bytes.{rows_at}
use Rattle.ae_exec.specs.Reading.{AreKept, FirstIsLost, IsLostAmong, asked_of, compared_for, versions_of}
use Rattle.ae_exec.proofs.ReadInOrder.{lost-left, lost-right}
use Rattle.ae_exec.proofs.RunVersions.{answer-both, both-kept}

module _ (o : Observation) (command : Command) where
  abbrev config : Option TreeRow
  config = config_version (call_of o command []) (change_named o command.change)

  -- where a file differs the baseline's aegis.conf isn't read
  config-gone : (files : Option Image) (view : View) (refusal : Refusal) → first_differing view (rows_at files (compared_for command o)) ≡ Some refusal → versions_of (cons_option config []) ≡ []
  config-gone files view refusal is = go (change_named o command.change) is
    where
      none : (m : Bool) → versions_of (cons_option (if m then None else None) []) ≡ []
      none true = refl
      none false = refl

      by : (change : Change) (b : Bool) → first_differing view (rows_at files (if b then candidate_of o change else [])) ≡ Some refusal
          → versions_of (cons_option (if makes_runs command.function then (if b then None else if has_config change then None else row_at (baseline_of o) config_path) else None) []) ≡ []
      by change true e = none (makes_runs command.function)
      by change false e = cc

      go : (c : Option Change) → first_differing view (rows_at files (rows_compared (call_of o command []) c)) ≡ Some refusal → versions_of (cons_option (config_version (call_of o command []) c) []) ≡ []
      go (Some change) e = by change (is_integrating change.phase) e
      go None e = refl

  -- ---- the versions that the answer depends on

  module _ (makes : makes_runs command.function ≡ true) where
    -- they are kept where both are
    pub asked-kept-so : (files : Option Image) → AreKept files (versions_of (compared_for command o)) → AreKept files (versions_of (cons_option config [])) → AreKept files (asked_of command (Some o))
    asked-kept-so files compared below = subst (AreKept files) (answer-both o command makes) (both-kept files (versions_of (compared_for command o)) (versions_of (cons_option config [])) compared below)

    -- all are read where a file differs
    pub differing-kept : (files : Option Image) (view : View) (refusal : Refusal) → AreKept files (versions_of (compared_for command o)) → first_differing view (rows_at files (compared_for command o)) ≡ Some refusal
        → AreKept files (asked_of command (Some o))
    differing-kept files view refusal kept is = asked-kept-so files kept (subst (AreKept files) (sym (config-gone files view refusal is)) tt)

    pub lost-compared : (image : Image) (name : List ℕ) → IsLostAmong image (versions_of (compared_for command o)) name → IsLostAmong image (asked_of command (Some o)) name
    lost-compared image name lost = record {
      is_pack = lost.is_pack;
      first = subst (FirstIsLost (effective image)) (answer-both o command makes) (lost-left (effective image) (versions_of (compared_for command o)) (versions_of (cons_option config [])) lost.first);
    }

    pub lost-config : (x y : Image) (name : List ℕ) → effective y ≡ effective x → AreKept (effective x) (versions_of (compared_for command o)) → IsLostAmong y (versions_of (cons_option config [])) name
        → IsLostAmong x (asked_of command (Some o)) name
    lost-config x y name same kept lost = record {
      is_pack = lost.is_pack;
      first = subst (FirstIsLost (effective x)) (answer-both o command makes)
          (lost-right (effective x) (versions_of (compared_for command o)) (versions_of (cons_option config [])) kept (subst (λ (f : Option Image). FirstIsLost f (versions_of (cons_option config []))) same lost.first));
    }

  -- ---- some bytes are those of all of them

  abbrev BothAre : View → List (List ℕ × Content) → List TreeRow → Option TreeRow → Type 0
  BothAre view row compared below = (bytes : ℕ → List ℕ) × (first_differing view (with_bytes bytes compared) ≡ None) × (row ≡ config_row bytes below)

  pub bytes-for-both : (view : View) (row : List (List ℕ × Content)) → (bytes : ℕ → List ℕ) × (first_differing view (with_bytes bytes (compared_for command o)) ≡ None)
      → (bytes : List ℕ) × (row ≡ config_row (λ (number : ℕ). bytes) config)
      → BothAre view row (compared_for command o) config
  bytes-for-both view row one two = go (change_named o command.change) one.1 two.1
    where
      none : (m : Bool) (f g : ℕ → List ℕ) → config_row f (if m then None else None) ≡ config_row g (if m then None else None)
      none true f g = refl
      none false f g = refl

      by : (change : Change) (b : Bool) → first_differing view (with_bytes one.0 (if b then candidate_of o change else [])) ≡ None
          → row ≡ config_row (λ (number : ℕ). two.0) (if makes_runs command.function then (if b then None else if has_config change then None else row_at (baseline_of o) config_path) else None)
          → BothAre view row (if b then candidate_of o change else []) (if makes_runs command.function then (if b then None else if has_config change then None else row_at (baseline_of o) config_path) else None)
      by change true first below = (one.0, first, below ∙ none (makes_runs command.function) (λ number. two.0) one.0)
      by change false first below = ((λ number. two.0), refl, below)

      go : (c : Option Change) → first_differing view (with_bytes one.0 (rows_compared (call_of o command []) c)) ≡ None → row ≡ config_row (λ (number : ℕ). two.0) (config_version (call_of o command []) c)
          → BothAre view row (rows_compared (call_of o command []) c) (config_version (call_of o command []) c)
      go (Some change) first below = by change (is_integrating change.phase) first below
      go None first below = ((λ number. two.0), refl, below)
