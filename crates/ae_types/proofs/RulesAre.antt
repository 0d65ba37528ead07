-- No file is blamed exactly where the facts hold.
use Rattle.std.proofs.Common.{◌≡◌, ℕ, refl, ◌∙◌, ap, List, [], ◌∷◌, Option, Some, None, Bool, true, false, ◌&&◌, not}
use Rattle.std.specs.Prelude.{length}
use Rattle.std.specs.List.{list_all, find}
use Rattle.std.specs.Option.{option_map, option_or}
use Rattle.std.specs.Ordering.{nat_cmp}
use Rattle.std.proofs.lemmas.Bool.{and_parts}
use Rattle.ae_types.specs.declared.blame.Blame.{Blame}
use Rattle.ae_types.specs.declared.blame.Blame.TheVariants as blame
use Rattle.ae_types.specs.declared.change.Change.{Change}
use Rattle.ae_types.specs.Observation.{Observation}
use Rattle.ae_types.specs.Ordered.{ascends}
use Rattle.ae_types.specs.Found.{number_of_change}
use Rattle.ae_types.specs.Versions.{live}
use Rattle.ae_types.specs.Rules.{blamed, blame_unless, bad_change, is_change_of, project_is_good, files_are_good, project_fits_changes, files_fit_changes, integration_fits, deltas_fit, versions_fit, entries_fit, locks_fit, candidate_fits}
use Rattle.ae_types.specs.Sound.{Sound, AreRows, AreChanges}
use Rattle.ae_types.proofs.Keys.{by_number}
use Rattle.ae_types.proofs.Placed.{InOrder}
use Rattle.ae_types.proofs.Searched.{ascends-test}
use Rattle.ae_types.proofs.Splits.{and3}
use Rattle.ae_types.proofs.RulesAlone.{deltas-ascend, project-facts, facts-project, rows-facts, locks-rise, facts-rows, changes-facts, facts-changes}
use Rattle.ae_types.proofs.RulesTogether.{integrating-facts, facts-integrating, deltas-facts, facts-deltas, versions-facts, facts-versions, entries-facts, facts-entries, locks-facts, facts-locks, candidate-facts, facts-candidate}

-- ---- none is blamed exactly where each test passes

none-blamed : (b : Bool) (name : Blame) (rest : Option Blame) → option_or (blame_unless b name) rest ≡ None → (b ≡ true) × (rest ≡ None)
none-blamed true name rest e = (refl, e)
none-blamed false name rest e = cc

pub last-blamed : (b : Bool) (name : Blame) → blame_unless b name ≡ None → b ≡ true
last-blamed true name e = refl
last-blamed false name e = cc

pub no-change : (v rest : Option Blame) → option_or v rest ≡ None → (v ≡ None) × (rest ≡ None)
no-change None rest e = (refl, e)
no-change (Some name) rest e = cc

pub none-bad : (numbers : List ℕ) (changes : List Change) → bad_change numbers changes ≡ None → list_all (is_change_of numbers) changes ≡ true
none-bad ns [] e = refl
none-bad ns (x ∷ xs) e = go (is_change_of ns x) e (none-bad ns xs)
  where
    some : (c : Change) → Some (blame.Change c.number) ≡ None → (false && list_all (is_change_of ns) xs) ≡ true
    some c e = cc

    go : (b : Bool) → option_map (λ (change : Change). blame.Change change.number) (Rattle.std.proofs.Common.cond (not b) (Some x) (find (λ change. not (is_change_of ns change)) xs)) ≡ None
        → (bad_change ns xs ≡ None → list_all (is_change_of ns) xs ≡ true) → (b && list_all (is_change_of ns) xs) ≡ true
    go true e rest = rest e
    go false e rest = some x e

bad-none : (numbers : List ℕ) (changes : List Change) → list_all (is_change_of numbers) changes ≡ true → bad_change numbers changes ≡ None
bad-none ns [] e = refl
bad-none ns (x ∷ xs) e = let a = and_parts (is_change_of ns x) (list_all (is_change_of ns) xs) e in
    ap (λ b. option_map (λ (change : Change). blame.Change change.number) (Rattle.std.proofs.Common.cond (not b) (Some x) (find (λ change. not (is_change_of ns change)) xs))) a.0 ∙ bad-none ns xs a.1

in-order : (deltas : ℕ) (o : Observation) → AreRows deltas o.files → AreChanges o.numbers o.changes → InOrder o.files o.changes
in-order n o r c = record {
  up = r.ascend;
  pasts = λ p row found. (r.good p row found).ascends;
  upward = c.ascend;
  files = λ k x found. (c.good k x found).files.ascend;
}

pub blamed-sound : (o : Observation) → blamed o ≡ None → Sound o
blamed-sound o e =
    let a = none-blamed (project_is_good o.project o.numbers && ascends nat_cmp number_of_change o.changes) blame.Project _ e in
    let b = none-blamed (files_are_good (length o.project.deltas) o.files o.locks) blame.Files _ a.1 in
    let c = no-change (bad_change o.numbers o.changes) _ b.1 in
    let d = none-blamed (project_fits_changes o) blame.Project _ c.1 in
    let f = last-blamed (files_fit_changes o) blame.Files d.1 in
    let p = and_parts (project_is_good o.project o.numbers) (ascends nat_cmp number_of_change o.changes) a.0 in
    let q = and3 (integration_fits (length o.project.deltas) o.changes) (deltas_fit o.project.deltas o.numbers o.changes) (versions_fit o.project.next_version (live o.files o.changes)) d.0 in
    let r = and3 (entries_fit o.project.deltas o.files o.changes) (locks_fit o.numbers o.locks o.changes) (list_all (candidate_fits (length o.project.deltas) o.files) o.changes) f in
    let rows = rows-facts (length o.project.deltas) o.files o.locks b.0 in
    let changes = changes-facts o.numbers o.changes p.1 (none-bad o.numbers o.changes c.0) in
    record {
      project = project-facts o.project o.numbers p.0;
      rows = rows;
      changes = changes;
      integrating = integrating-facts (length o.project.deltas) o.changes q.0;
      deltas = deltas-facts o.project.deltas o.numbers o.changes q.1;
      versions = versions-facts o.files o.changes (in-order (length o.project.deltas) o rows changes) o.project.next_version q.2;
      entries = entries-facts o.project.deltas o.files o.changes r.0;
      locks = locks-facts o.numbers o.locks o.changes (locks-rise (length o.project.deltas) o.files o.locks b.0) r.1;
      candidate = candidate-facts (length o.project.deltas) o.files o.changes r.2;
    }

pub sound-blamed : (o : Observation) → Sound o → blamed o ≡ None
sound-blamed o s =
    ap (λ b. option_or (blame_unless b blame.Project) (option_or (blame_unless (files_are_good (length o.project.deltas) o.files o.locks) blame.Files) (option_or (bad_change o.numbers o.changes) (option_or (blame_unless (project_fits_changes o) blame.Project) (blame_unless (files_fit_changes o) blame.Files))))) first
    ∙ ap (λ b. option_or (blame_unless b blame.Files) (option_or (bad_change o.numbers o.changes) (option_or (blame_unless (project_fits_changes o) blame.Project) (blame_unless (files_fit_changes o) blame.Files)))) (facts-rows (length o.project.deltas) o.files o.locks s.rows s.locks.ascend)
    ∙ ap (λ v. option_or v (option_or (blame_unless (project_fits_changes o) blame.Project) (blame_unless (files_fit_changes o) blame.Files))) (bad-none o.numbers o.changes (facts-changes o.numbers o.changes s.changes))
    ∙ ap (λ b. option_or (blame_unless b blame.Project) (blame_unless (files_fit_changes o) blame.Files)) fourth
    ∙ ap (λ b. blame_unless b blame.Files) fifth
  where
    first : (project_is_good o.project o.numbers && ascends nat_cmp number_of_change o.changes) ≡ true
    first = λ i. facts-project o.project o.numbers s.project i && ascends-test by_number number_of_change o.changes s.changes.ascend i

    fourth : project_fits_changes o ≡ true
    fourth = λ i. facts-integrating (length o.project.deltas) o.changes s.changes.ascend s.integrating i
        && facts-deltas o.project.deltas o.numbers o.changes (deltas-ascend o.project.deltas s.project.numbered) s.changes.ascend s.deltas i
        && facts-versions o.files o.changes (in-order (length o.project.deltas) o s.rows s.changes) o.project.next_version s.versions i

    files : (n : ℕ) (x : Change) → Rattle.ae_types.specs.Found.change_in o.changes n ≡ Some x → Rattle.ae_types.specs.Ordered.Ascends Rattle.ae_base.specs.Rows.text_cmp Rattle.ae_types.specs.Found.file_path x.files
    files n x found = (s.changes.good n x found).files.ascend

    fifth : files_fit_changes o ≡ true
    fifth = λ i. facts-entries o.project.deltas o.files o.changes (deltas-ascend o.project.deltas s.project.numbered) s.rows.ascend (λ p r found. (s.rows.good p r found).ascends) files s.entries i
        && facts-locks o.numbers o.locks o.changes s.changes.ascend files s.locks i
        && facts-candidate (length o.project.deltas) o.files o.changes s.changes.ascend s.candidate i
