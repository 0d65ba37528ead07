-- The answer to a command with runs, and what it leaves, from the facts of the calls that it makes.
use Rattle.std.specs.Prelude.{◌≡◌, ℕ, true, List, ◌++◌, Option, Some, None}
use Rattle.std.proofs.Common.{sym, ap, subst, ◌∙◌}
use Rattle.ae_base.specs.Rows.{Ascends, Rows, paths_of}
use Rattle.ae_base.specs.declared.refusal.Refusal.{Refusal}
use Rattle.ae_outside.specs.declared.dir.Dir.{Dir}
use Rattle.ae_outside.specs.Image.{Image}
use Rattle.ae_outside.specs.Site.{SiteState}
use Rattle.ae_types.specs.Observation.{Observation}
use Rattle.ae_types.specs.Sound.{Sound}
use Rattle.ae_vault.specs.Vault.{effective}
use Rattle.ae_words.specs.declared.command.Command.{Command}
use Rattle.ae_words.specs.Formed.{IsFormed}
use Rattle.ae_dirs.specs.Reads as reads
use Rattle.ae_dirs.specs.Runs.{IsGroup}
use Rattle.ae_evidence.specs.declared.directories.DirChange.{DirChange}
use Rattle.ae_evidence.specs.declared.runs.Job.{Job}
use Rattle.ae_machine.specs.declared.verdict.Verdict.{Verdict}
use Rattle.ae_machine.specs.declared.view.View.{View}
use Rattle.ae_machine.specs.Call.{call_of, change_named, given_of}
use Rattle.ae_machine.specs.Called.{Called, given_at, view}
use Rattle.ae_evidence.specs.Directories.{dirs_after}
use Rattle.ae_evidence.specs.declared.runs.RunRow.{RunRow}
use Rattle.ae_machine.specs.Directories.{dir_changes}
use Rattle.ae_machine.specs.Fits.{makes_runs}
use Rattle.ae_machine.specs.Real.{IsLeft, dir_of_runs}
use Rattle.ae_machine.specs.Space.{placing}
use Rattle.ae_machine.specs.Verdict.{refused_before, verdict}
use Rattle.ae_machine.specs.Versions.{ShowsVersions}
use Rattle.ae_exec.specs.Bytes.{HaveBytes}
use Rattle.ae_exec.specs.Reading.{AreKept, FirstIsLost, IsLostAmong, asked_of, reads_of, versions_for_answer, versions_for_runs}
use Rattle.ae_exec.specs.Runs.{AreForRuns, HaveRun}
use Rattle.ae_exec.specs.Seen.{FilesRefuse, IsAnswer, IsDecidedSo, IsRefusedOn}
use Rattle.ae_exec.proofs.PathRows.{reads-found}
use Rattle.ae_exec.proofs.ReadInOrder.{lost-right}
use Rattle.ae_exec.proofs.RunAnswers.{files-answer, unrun-view}
use Rattle.ae_exec.proofs.RunLeft.{named-there, run-left, seen-with}
use Rattle.ae_exec.proofs.RunVersions.{both-kept, runs-read}
use Rattle.ae_exec.proofs.ShortConfig.{short-config}
use Rattle.ae_exec.proofs.TrackedHolds.{tracked-holds}
use Rattle.ae_exec.specs.Jobs.{IsShortConfig}

-- ---- before any run

module _ (files : Option Image) (o : Observation) (called : Called) where
  pub unrun-answer : (seen : View) (v : Verdict) → called.after ≡ called.before → ((bytes : ℕ → List ℕ) → HaveBytes files (Some o) bytes → seen ≡ (given_at o bytes called).view)
      → ((bytes : ℕ → List ℕ) → HaveBytes files (Some o) bytes → ShowsVersions (Some o) bytes called.command called.who seen) → IsDecidedSo (Some o) called.command called.who called.when seen v
      → IsAnswer files (Some o) called v
  unrun-answer seen v still is shows decided = λ bytes have.
      ap (verdict placing (Some o) bytes called.command called.who called.when) (unrun-view o bytes called (ap (λ (s : SiteState). s.runs) still) ∙ sym (is bytes have)) ∙ decided bytes (shows bytes have)

  -- the changes of directories before any run are those by what it sees then
  pub seen-changes : (bytes : ℕ → List ℕ) (seen : View) (changes : List DirChange) (tracked : Rows) (jobs : List Job) → seen ≡ (given_at o bytes called).view
      → AreForRuns (given_of placing o bytes called.command called.who called.when seen) changes tracked jobs → changes ≡ dir_changes (given_at o bytes called)
  seen-changes bytes seen changes tracked jobs is are = are.changes_are ∙ ap (λ (v : View). dir_changes (given_of placing o bytes called.command called.who called.when v)) is

  -- where its files refuse it
  pub refused-so : makes_runs called.command.function ≡ true → refused_before (Some o) called.command called.who ≡ None → called.after ≡ called.before → (refusal : Refusal)
      → FilesRefuse files o called refusal → IsRefusedOn files (Some o) called refusal
  refused-so makes none still refusal is = record {
    answer = λ bytes have.
        ap (verdict placing (Some o) bytes called.command called.who called.when) (unrun-view o bytes called (ap (λ (s : SiteState). s.runs) still))
        ∙ files-answer o bytes called.command called.who called.when (given_at o bytes called).view refusal makes none (is.right bytes have);
    kept = λ passes. is.kept passes.files;
  }

-- ---- the versions that are read

module _ (o : Observation) (command : Command) (who : List ℕ) (formed : IsFormed command) (makes : makes_runs command.function ≡ true) (none : refused_before (Some o) command who ≡ None) where
  are-read : versions_for_answer command o ++ versions_for_runs command o ≡ reads_of command (Some o)
  are-read = let there = named-there o command who formed makes none in sym (reads-found command o there.0 there.1 ∙ runs-read command.function command o makes)

  pub all-kept : (files : Option Image) → AreKept files (asked_of command (Some o)) → AreKept files (versions_for_runs command o) → AreKept files (reads_of command (Some o))
  all-kept files asked kept = subst (AreKept files) are-read (both-kept files (versions_for_answer command o) (versions_for_runs command o) asked kept)

  pub lost-later : (x y : Image) (name : List ℕ) → effective y ≡ effective x → AreKept (effective x) (asked_of command (Some o)) → IsLostAmong y (versions_for_runs command o) name → IsLostAmong x (reads_of command (Some o)) name
  lost-later x y name same asked lost = record {
    is_pack = lost.is_pack;
    first = subst (FirstIsLost (effective x)) are-read
        (lost-right (effective x) (versions_for_answer command o) (versions_for_runs command o) asked (subst (λ (f : Option Image). FirstIsLost f (versions_for_runs command o)) same lost.first));
  }

-- ---- with its runs

module _ (files : Option Image) (o : Observation) (called : Called) (s : Sound o) (makes : makes_runs called.command.function ≡ true) (formed : IsFormed called.command)
    (none : refused_before (Some o) called.command called.who ≡ None) (asked : AreKept files (asked_of called.command (Some o))) (kept : AreKept files (versions_for_runs called.command o))
    (bytes : ℕ → List ℕ) (have : HaveBytes files (Some o) bytes) (seen : View) (is_seen : seen ≡ (given_at o bytes called).view)
    (dir : Dir) (changes : List DirChange) (tracked : Rows) (jobs : List Job) (rows : List RunRow)
    (is_dir : dir ≡ dir_of_runs (call_of o called.command called.who) (change_named o called.command.change))
    (are : AreForRuns (given_of placing o bytes called.command called.who called.when seen) changes tracked jobs) (up : Ascends tracked) (group_is : IsGroup tracked jobs rows)
    (run : tracked ≡ reads.tracked_in (dirs_after changes called.before.trees dir) tracked → HaveRun dir changes (paths_of tracked) jobs rows called.before called.after) where
  are-at : AreForRuns (given_at o bytes called) changes tracked jobs
  are-at = subst (λ (v : View). AreForRuns (given_of placing o bytes called.command called.who called.when v) changes tracked jobs) is_seen are

  held : tracked ≡ reads.tracked_in (dirs_after changes called.before.trees dir) tracked
  held =
      tracked-holds o files bytes called s have makes changes tracked jobs are-at up
      ∙ (λ i. reads.tracked_in (dirs_after changes called.before.trees (sym is_dir i)) tracked)

  short : IsShortConfig (given_at o bytes called)
  short = short-config o files bytes called s have

  pub ran-left : IsLeft (Some o) bytes called
  ran-left = run-left o bytes called makes formed none dir changes tracked jobs rows is_dir are-at (run held) group_is short

  pub ran-answer : (v : Verdict) → ShowsVersions (Some o) bytes called.command called.who seen → IsDecidedSo (Some o) called.command called.who called.when (record seen { runs = rows }) v
      → verdict placing (Some o) bytes called.command called.who called.when (view (Some o) bytes called) ≡ v
  ran-answer v shows decided =
      ap (verdict placing (Some o) bytes called.command called.who called.when)
      (seen-with o bytes called makes formed none dir changes tracked jobs rows is_dir are-at (run held) group_is short ∙ ap (λ (w : View). record w { runs = rows }) (sym is_seen))
      ∙ decided bytes shows

  pub ran-both : (v : Verdict) → ShowsVersions (Some o) bytes called.command called.who seen → IsDecidedSo (Some o) called.command called.who called.when (record seen { runs = rows }) v
      → (verdict placing (Some o) bytes called.command called.who called.when (view (Some o) bytes called) ≡ v) × IsLeft (Some o) bytes called
  ran-both v shows decided = (ran-answer v shows decided, ran-left)
