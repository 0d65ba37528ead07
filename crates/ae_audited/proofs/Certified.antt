-- Where each delta is shown, and the image stands for the log, the audit answers the rows.
use Rattle.std.proofs.Common.{◌≡◌, ℕ, ◌-◌, inl, inr, refl, sym, ◌∙◌, ap, subst, List, [], ◌∷◌, Option, Some, None, length}
use Rattle.std.specs.Prelude.{IsSomeAnd, Ok}
use Rattle.std.specs.List.{filter_map, flat_map}
use Rattle.std.specs.Option.{option_and_then}
use Rattle.ae_outside.specs.Image.{Image}
use Rattle.ae_vault.specs.Vault.{effective}
use Rattle.ae_types.specs.declared.change.Change.{Change}
use Rattle.ae_types.specs.declared.file_table.FileRow.{FileRow}
use Rattle.ae_types.specs.declared.file_table.FileVersion.{FileVersion}
use Rattle.ae_types.specs.declared.project.DeltaRow.{DeltaRow}
use Rattle.ae_types.specs.declared.version.VersionRef.{VersionRef}
use Rattle.ae_types.specs.Found.{change_at, row_path, row_in, entry_in}
use Rattle.ae_types.specs.Observation.{Observation}
use Rattle.ae_types.specs.Sound.{Sound}
use Rattle.ae_types.specs.Trees.{tree_of}
use Rattle.ae_types.specs.Versions.{version_at, in_table}
use Rattle.ae_types.proofs.Keys.{by_text}
use Rattle.ae_types.proofs.Members.{In, flat-in, some-in}
use Rattle.ae_types.proofs.Searched.{in-found}
use Rattle.ae_types.proofs.Splits.{to-is, from-is}
use Rattle.ae_store.specs.Records.{StandsFor}
use Rattle.ae_log.specs.Log.{Log}
use Rattle.ae_log.specs.Observed.{observation}
use Rattle.ae_machine.specs.Legal.{Legal}
use Rattle.ae_machine.proofs.LegalRightly.{legal-sound}
use Rattle.ae_evidence.specs.Digest.{digest_rows}
use Rattle.ae_exec.specs.Reading.{IsKept}
use Rattle.ae_exec.specs.Stands.{StandsForLog, FilesStand, version_in}
use Rattle.ae_exec.proofs.ReadVersions.{standing-kept}
use Rattle.ae_exec.proofs.Commands.{legal-made}
use Rattle.ae_audit.specs.declared.certificate.CertificateRow.{CertificateRow}
use Rattle.ae_audit.specs.Audits.{Audits, whole, stands, shown}
use Rattle.ae_audit.specs.Files.{pack_file}
use Rattle.ae_audit.specs.Intact.{IsIntact, AreIntact, version_by, made_by, released}
use Rattle.ae_audit.proofs.Looked.{in-intact}
use Rattle.ae_audit.specs.Required.{required_over}
use Rattle.ae_audit.specs.Shown.{ShownBy, Shown, IsCertificate, AreCertificates, AllShown}
use Rattle.ae_audited.specs.Laws.{IsAudited, LegalIsAudited}
use Rattle.ae_audited.proofs.LegalShown.{legal-shown}

-- ---- the rows

record Certified (o : Observation) (deltas : List DeltaRow) : Type 0 where
  pub rows : List CertificateRow
  pub are : AreCertificates o deltas rows

certified : (o : Observation) (deltas : List DeltaRow) → AllShown o deltas → Certified o deltas
certified o [] all = record { rows = []; are = tt }
certified o (made ∷ deltas) all =
    let mark = all.0.0 in
    let x = from-is (λ change. ShownBy o.files made.delta change mark) (change_at o made.change) all.0.1 in
    let rest = certified o deltas all.1 in
    let row : CertificateRow = record { delta = made.delta; change = made.change; tree = digest_rows (tree_of o made.delta); runs = length (required_over (tree_of o (made.delta - 1)) x.0); mark = mark } in
    let is : IsCertificate o made row = record {
      delta = refl;
      change = refl;
      tree = refl;
      runs = to-is (λ change. row.runs ≡ length (required_over (tree_of o (made.delta - 1)) change)) (change_at o made.change) x.0 x.1 refl;
      shown = all.0.1;
    } in
    record { rows = row ∷ rest.rows; are = (is, rest.are) }

-- ---- the versions

-- a version that a delta made stands in the file table
version-stands : (o : Observation) → Sound o → (version : VersionRef) → In (released o) version → (path : List ℕ) × (delta : ℕ) × (version_at o.files o.changes (in_table path delta) ≡ Some version)
version-stands o s version there =
    let made = flat-in (λ (delta : DeltaRow). made_by delta.delta o.files) o.project.deltas version there in
    let row = some-in (version_by made.0.delta) o.files version made.2 in (
      row.0.path,
      made.0.delta,
      ap (option_and_then (λ (r : FileRow). option_and_then (λ (entry : FileVersion). entry.version) (entry_in r.past made.0.delta))) (in-found by_text row_path o.files s.rows.ascend row.0 row.1)
          ∙ row.2,
    )

-- ---- the whole

pub legal-audited : LegalIsAudited
legal-audited image log o legal stands_for stood =
    let files = from-is (λ (files : Image). FilesStand files log) (effective image) stands_for in
    let sound : Sound o = legal-sound log o legal stood in
    let intact : AreIntact (files.0 pack_file) (released o) = in-intact (files.0 pack_file) (released o) (λ version there.
    let place = version-stands o sound version there in
    let kept : IsKept (effective image) version = standing-kept image log (in_table place.0 place.1) version stands_for (legal-made log legal)
    (ap (λ (v : Option Observation). version_in v (in_table place.0 place.1)) stood ∙ place.2) in
    let here = subst (λ (v : Option Image). IsKept v version) files.1 kept in
    record { length_is = here.length_is; digest_is = here.digest_is }) in
    let rows = certified o o.project.deltas (legal-shown log o legal stood) in
    record {
      rows = rows.rows;
      certify = rows.are;
      answer = whole files.0 (Ok rows.rows) files.1 (stands o (Ok rows.rows) (subst (StandsFor files.0) stood files.2.records) (shown rows.rows intact rows.are));
    }
