-- The answer to a command with runs: before its files are read, before its runs are made, and with them.
use Rattle.std.specs.Prelude.{◌≡◌, ℕ, Bool, true, false, not, if◌then◌else◌, List, [], ◌∷◌, ◌++◌, ◌⊎◌, Option, Some, None}
use Rattle.std.specs.List.{find}
use Rattle.std.specs.Option.{option_and_then, option_map, option_or}
use Rattle.std.specs.Str.{bytes_eq}
use Rattle.std.proofs.Common.{refl, sym, ap, subst, ◌∙◌, inl, inr}
use Rattle.std.proofs.lemmas.List.{append-nil}
use Rattle.ae_machine.proofs.SightShows.{reads-too}
use Rattle.ae_base.specs.Rows.{paths_of}
use Rattle.ae_base.specs.declared.refusal.Refusal.{Refusal}
use Rattle.ae_base.specs.declared.refusal.Refusal.TheVariants.{Differs}
use Rattle.ae_outside.specs.declared.dir.Content.{Content}
use Rattle.ae_outside.specs.Image.{Image}
use Rattle.ae_outside.specs.Site.{RunMade, contents}
use Rattle.ae_outside.specs.Trees.{Tree}
use Rattle.ae_types.specs.declared.change.Change.{Change}
use Rattle.ae_types.specs.Observation.{Observation}
use Rattle.ae_types.specs.Phases.{is_integrating}
use Rattle.ae_types.specs.Runs.{Needed}
use Rattle.ae_types.specs.Trees.{TreeRow, baseline_of, candidate_of}
use Rattle.ae_types.proofs.Members.{In}
use Rattle.ae_words.specs.declared.command.Command.{Command}
use Rattle.ae_words.specs.declared.table.Function.{Function}
use Rattle.ae_words.specs.declared.table.Function.TheVariants as function
use Rattle.ae_log.specs.declared.event.Event.{Event}
use Rattle.ae_machine.specs.declared.verdict.Verdict.TheVariants.{Accept, Refuse}
use Rattle.ae_evidence.specs.declared.runs.RunRow.{RunRow}
use Rattle.ae_machine.specs.declared.view.View.{View}
use Rattle.ae_machine.specs.Call.{Given, call_of, change_named, change_of, first_of, given_of}
use Rattle.ae_machine.specs.Called.{Called, files_dir, files_seen, given_at, given_before, new_runs, nothing_seen, rows_of, view}
use Rattle.ae_machine.specs.Fits.{config_asked, config_row, makes_runs, paths_asked, runs_asked, tracked_in}
use Rattle.ae_machine.specs.Freezing.{configured, content_is_good, files_are_as_asked, first_content_refused, first_difference, is_these, right_files}
use Rattle.ae_files.specs.InTree.{row_at}
use Rattle.ae_machine.specs.Sight.{config_below, config_path, content_of, has_config, paths_read, read_at, with_bytes}
use Rattle.ae_machine.specs.Space.{placing}
use Rattle.ae_machine.specs.Verdict.{answer, asked_of_sight, events_of, refused_before, verdict}
use Rattle.ae_machine.specs.Versions.{files_refused, first_differing, kept_files_refused, rows_compared}
use Rattle.ae_machine.proofs.AskedFor.{differing-is}
use Rattle.ae_machine.proofs.Behind.{behind-is}
use Rattle.ae_machine.proofs.EndAnswer.{or-none}
use Rattle.ae_exec.specs.Bytes.{HaveBytes}
use Rattle.ae_exec.specs.Reading.{AreKept, asked_of, compared_for}
use Rattle.ae_exec.specs.Seen.{FilesRefuse, files_alone, no_bytes}
use Rattle.ae_exec.proofs.Quiet.{no-new}
use Rattle.ae_exec.proofs.TrackedStays.{read-is}

-- ---- before any run

no-rows : (paths : List (List ℕ)) (needed : List Needed) (made : List RunMade) → made ≡ [] → rows_of paths needed made ≡ []
no-rows paths [] made none = refl
no-rows paths (n ∷ needed) [] none = refl
no-rows paths (n ∷ needed) (m ∷ made) none = cc

-- what it sees where it made no run
pub unrun-view : (o : Observation) (bytes : ℕ → List ℕ) (called : Called) → called.after.runs ≡ called.before.runs → view (Some o) bytes called ≡ (given_at o bytes called).view
unrun-view o bytes called same = λ i. record (given_at o bytes called).view {
  runs = no-rows (paths_of (tracked_in (given_at o bytes called) (change_of (given_at o bytes called).call))) (runs_asked (given_at o bytes called).call (change_of (given_at o bytes called).call)) (new_runs called) (no-new called same) i;
}

-- ---- the files that are refused

-- the contents of these paths are the same, whatever stands after the files that were read
same-refused : (seen other : View) (tree : Tree) (one two : List (List ℕ × Content)) (all paths : List (List ℕ)) → seen.develop ≡ contents 4194304 tree all ++ one → other.develop ≡ contents 4194304 tree all ++ two
    → ((path : List ℕ) → In paths path → In all path) → first_content_refused seen paths ≡ first_content_refused other paths
same-refused seen other tree one two all [] is same among = refl
same-refused seen other tree one two all (path ∷ paths) is same among = λ i. option_or (content_is_good path (there i)) (same-refused seen other tree one two all paths is same (λ q h. among q (inr h)) i)
  where
    there : read_at seen path ≡ read_at other path
    there =
        ap (λ (rows : List (List ℕ × Content)). content_of (find (λ (row : List ℕ × Content). bytes_eq path row.0) rows)) is ∙ read-is tree one all path (among path (inl refl))
        ∙ sym (ap (λ (rows : List (List ℕ × Content)). content_of (find (λ (row : List ℕ × Content). bytes_eq path row.0) rows)) same ∙ read-is tree two all path (among path (inl refl)))

-- ---- by the function

first-files : (f : Function) (given : Given) → makes_runs f ≡ true → first_of (asked_of_sight f) given ≡ option_or (right_files given) (option_or (configured given) None)
first-files function.Build given makes = refl
first-files _ given makes = cc

-- where the files are refused that is the answer
pub files-answer : (o : Observation) (bytes : ℕ → List ℕ) (command : Command) (who : List ℕ) (when : ℕ) (seen : View) (refusal : Refusal) → makes_runs command.function ≡ true → refused_before (Some o) command who ≡ None
    → right_files (given_of placing o bytes command who when seen) ≡ Some refusal → verdict placing (Some o) bytes command who when seen ≡ Refuse refusal
files-answer o bytes command who when seen refusal makes none refused =
    let given = given_of placing o bytes command who when seen in
    behind-is placing o bytes command who when seen none
    ∙ ap (λ (why : Option Refusal). answer why (events_of given)) (first-files command.function given makes ∙ ap (λ (v : Option Refusal). option_or v (option_or (configured given) None)) refused)

-- an accepted command has a command for each run
pub accepted-configured : (o : Observation) (bytes : ℕ → List ℕ) (command : Command) (who : List ℕ) (when : ℕ) (seen : View) (events : List Event) → makes_runs command.function ≡ true → refused_before (Some o) command who ≡ None
    → verdict placing (Some o) bytes command who when seen ≡ Accept events → configured (given_of placing o bytes command who when seen) ≡ None
accepted-configured o bytes command who when seen events makes none is =
    let given = given_of placing o bytes command who when seen in
    go (right_files given) (configured given) (ap (λ (why : Option Refusal). answer why (events_of given)) (sym (first-files command.function given makes)) ∙ sym (behind-is placing o bytes command who when seen none) ∙ is)
  where
    go : (files conf : Option Refusal) → answer (option_or files (option_or conf None)) (events_of (given_of placing o bytes command who when seen)) ≡ Accept events → conf ≡ None
    go files None e = refl
    go (Some r) (Some c) e = cc
    go None (Some c) e = cc

-- and it is accepted with whatever runs
pub accepted-with : (o : Observation) (bytes : ℕ → List ℕ) (command : Command) (who : List ℕ) (when : ℕ) (seen : View) (rows : List RunRow) (events : List Event) → makes_runs command.function ≡ true → refused_before (Some o) command who ≡ None
    → verdict placing (Some o) bytes command who when seen ≡ Accept events
    → verdict placing (Some o) bytes command who when (record seen { runs = rows }) ≡ Accept (events_of (given_of placing o bytes command who when (record seen { runs = rows })))
accepted-with o bytes command who when seen rows events makes none is =
    behind-is placing o bytes command who when (record seen { runs = rows }) none
    ∙ ap (λ (why : Option Refusal). answer why (events_of after)) (first-files command.function after makes ∙ sym (first-files command.function given makes) ∙ no-refusal)
  where
    given : Given
    given = given_of placing o bytes command who when seen

    after : Given
    after = given_of placing o bytes command who when (record seen { runs = rows })

    go : (why : Option Refusal) (made : List Event) → answer why made ≡ Accept events → why ≡ None
    go None made e = refl
    go (Some refusal) made e = cc

    no-refusal : first_of (asked_of_sight command.function) given ≡ None
    no-refusal = go (first_of (asked_of_sight command.function) given) (events_of given) (sym (behind-is placing o bytes command who when seen none) ∙ is)

-- ---- they are refused by what is read of them alone, and where that refuses nothing by the first that differs from its version

pub alone-refused : (o : Observation) (bytes : ℕ → List ℕ) (called : Called) → makes_runs called.command.function ≡ true
    → right_files (given_at o bytes called) ≡ option_or (files_refused (given_before o no_bytes called (files_alone o called))) (first_differing (files_alone o called) (with_bytes bytes (compared_for called.command o)))
alone-refused o bytes called makes = go (change_named o called.command.change) refl
  where
    given : Given
    given = given_at o bytes called

    alone : Given
    alone = given_before o no_bytes called (files_alone o called)

    compared : Given
    compared = given_before o bytes called (files_alone o called)

    read : List (List ℕ × Content)
    read = (files_alone o called).develop

    developed-refused : (change : Change) → change_named o called.command.change ≡ Some change → is_integrating change.phase ≡ false → files_are_as_asked given change ≡ kept_files_refused alone change
    developed-refused change named developed =
        let tree : Tree = called.before.trees (files_dir given.call change) in
        let all : List (List ℕ) = paths_asked given.call (Some change) in
        let rest : List (List ℕ × Content) = config_asked (given_before o bytes called nothing_seen) (change_named o called.command.change) in
        ap (λ (b : Bool). if b then first_difference given (candidate_of o change) else first_content_refused given.view (paths_read given.call change)) developed
        ∙ same-refused given.view alone.view tree rest [] all (paths_read given.call change)
        (ap (λ (c : Option Change). files_seen given.call c called.before ++ rest) named)
        (ap (λ (c : Option Change). files_seen given.call c called.before) named ∙ sym (append-nil (contents 4194304 tree all)))
        (λ path h. subst (λ (l : List (List ℕ)). In l path) (sym (ap (λ (b : Bool). if b then paths_read given.call change else []) (reads-too called.command.function makes))) h)
        ∙ sym (ap (λ (b : Bool). if b then None else first_content_refused alone.view (paths_read alone.call change)) developed)

    -- in integration nothing stands after the files that are read
    nothing-after : (change : Change) → change_named o called.command.change ≡ Some change → is_integrating change.phase ≡ true → given.view.develop ≡ read
    nothing-after change named integrated =
        ap (λ (c : Option Change). read ++ config_asked (given_before o bytes called nothing_seen) c) named
        ∙ ap (λ (b : Bool). read ++ (if b then config_row bytes (config_below given.call change) else [])) makes
        ∙ ap (λ (b : Bool). read ++ config_row bytes (if b then None else if has_config change then None else row_at (baseline_of o) config_path)) integrated
        ∙ append-nil read

    integrated-refused : (change : Change) → change_named o called.command.change ≡ Some change → is_integrating change.phase ≡ true
        → files_are_as_asked given change ≡ first_differing (files_alone o called) (with_bytes bytes (candidate_of o change))
    integrated-refused change named integrated =
        ap (λ (b : Bool). if b then first_difference given (candidate_of o change) else first_content_refused given.view (paths_read given.call change)) integrated
        ∙ ap (λ (l : List (List ℕ × Content)). option_map (λ (row : TreeRow). Differs row.path) (find (λ (row : TreeRow). not (is_these (bytes row.version.number) (content_of (find (λ (r : List ℕ × Content). bytes_eq row.path r.0) l)))) (candidate_of o change)))
        (nothing-after change named integrated)
        ∙ sym (differing-is compared (candidate_of o change))

    by : (change : Change) → change_named o called.command.change ≡ Some change → (b : Bool) → is_integrating change.phase ≡ b
        → files_are_as_asked given change ≡ option_or (kept_files_refused alone change) (first_differing (files_alone o called) (with_bytes bytes (if is_integrating change.phase then candidate_of o change else [])))
    by change named false developed =
        developed-refused change named developed
        ∙ sym (or-none (kept_files_refused alone change))
        ∙ sym (ap (λ (b : Bool). option_or (kept_files_refused alone change) (first_differing (files_alone o called) (with_bytes bytes (if b then candidate_of o change else [])))) developed)
    by change named true integrated =
        integrated-refused change named integrated
        ∙ sym (ap (λ (b : Bool). option_or (if b then None else first_content_refused alone.view (paths_read alone.call change)) (first_differing (files_alone o called) (with_bytes bytes (if b then candidate_of o change else [])))) integrated)

    go : (c : Option Change) → change_named o called.command.change ≡ c
        → option_and_then (files_are_as_asked given) c ≡ option_or (option_and_then (kept_files_refused alone) c) (first_differing (files_alone o called) (with_bytes bytes (rows_compared (call_of o called.command []) c)))
    go None named = refl
    go (Some change) named = by change named (is_integrating change.phase) refl

module _ (files : Option Image) (o : Observation) (called : Called) (makes : makes_runs called.command.function ≡ true) (refusal : Refusal) where
  -- a file that is missing or too long
  pub refused-alone : files_refused (given_before o no_bytes called (files_alone o called)) ≡ Some refusal → FilesRefuse files o called refusal
  refused-alone is = record {
    right = λ bytes have. alone-refused o bytes called makes ∙ ap (λ (v : Option Refusal). option_or v (first_differing (files_alone o called) (with_bytes bytes (compared_for called.command o)))) is;
    kept = λ passes. let both : Some refusal ≡ None = sym is ∙ passes in cc;
  }

  -- a file that differs
  pub refused-differing : files_refused (given_before o no_bytes called (files_alone o called)) ≡ None
      → ((bytes : ℕ → List ℕ) → HaveBytes files (Some o) bytes → first_differing (files_alone o called) (with_bytes bytes (compared_for called.command o)) ≡ Some refusal)
      → AreKept files (asked_of called.command (Some o)) → FilesRefuse files o called refusal
  refused-differing none differs kept = record {
    right = λ bytes have.
        alone-refused o bytes called makes
        ∙ ap (λ (v : Option Refusal). option_or v (first_differing (files_alone o called) (with_bytes bytes (compared_for called.command o)))) none
        ∙ differs bytes have;
    kept = λ passes. kept;
  }

  -- one or the other, where this was seen of its files
  pub either-refused : (seen : View) → seen ≡ files_alone o called
      → (files_refused (given_before o no_bytes called seen) ≡ Some refusal) ⊎ ((files_refused (given_before o no_bytes called seen) ≡ None)
      × ((bytes : ℕ → List ℕ) → HaveBytes files (Some o) bytes → first_differing seen (with_bytes bytes (compared_for called.command o)) ≡ Some refusal) × AreKept files (asked_of called.command (Some o)))
      → FilesRefuse files o called refusal
  either-refused seen alone (inl is) = refused-alone (ap (λ (v : View). files_refused (given_before o no_bytes called v)) (sym alone) ∙ is)
  either-refused seen alone (inr differs) =
      refused-differing (ap (λ (v : View). files_refused (given_before o no_bytes called v)) (sym alone) ∙ differs.0)
      (λ bytes have. ap (λ (v : View). first_differing v (with_bytes bytes (compared_for called.command o))) (sym alone) ∙ differs.1 bytes have) differs.2
