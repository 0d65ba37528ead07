-- What an audit answers of an image: the first of these that is so, in their order.
use Rattle.std.specs.Prelude.{◌≡◌, ℕ, List, [], Some, None, Result, Ok, Err}
use Rattle.ae_base.specs.declared.want.Want.TheVariants.{All}
use Rattle.ae_outside.specs.Image.{Image}
use Rattle.ae_vault.specs.Vault.{effective}
use Rattle.ae_types.specs.declared.blame.Blame.{Blame}
use Rattle.ae_types.specs.Observation.{Observation}
use Rattle.ae_store.specs.Names.{project_file, blamed_file}
use Rattle.ae_store.specs.Records.{StandsFor}
use Rattle.ae_store.specs.Damage.{IsBlamedIn}
use Rattle.ae_audit.specs.declared.certificate.CertificateRow.{CertificateRow}
use Rattle.ae_audit.specs.declared.error.AuditError.{AuditError}
use Rattle.ae_audit.specs.declared.error.AuditError.TheVariants.{NoProject, NotShown, Damaged, DiskFault, Memory}
use Rattle.ae_audit.specs.Files.{body_file, pack_file}
use Rattle.ae_audit.specs.Intact.{AreIntact, released}
use Rattle.ae_audit.specs.Shown.{AreCertificates, FirstNotShown}

abbrev pub Answer : Type 0
Answer = Result (List CertificateRow) AuditError

-- of files that stand for this
pub data AuditsState (packed : List ℕ) (o : Observation) : Answer → Type 0 where
  -- a version isn't as it was kept
  lost : (AreIntact packed (released o) → ⊥) → AuditsState packed o (Err (Damaged pack_file))
  -- a delta isn't shown
  not_shown : (n : ℕ) → AreIntact packed (released o) → FirstNotShown o o.project.deltas n → AuditsState packed o (Err (NotShown n))
  -- all are
  shown : (rows : List CertificateRow) → AreIntact packed (released o) → AreCertificates o o.project.deltas rows → AuditsState packed o (Ok rows)

-- of effective files, in the format in which they are read
pub data AuditsFiles (files : Image) : Answer → Type 0 where
  no_project : files project_file ≡ [] → AuditsFiles files (Err NoProject)
  blamed : (b : Blame) → IsBlamedIn All files b → AuditsFiles files (Err (Damaged (blamed_file b)))
  stands : (o : Observation) (answer : Answer) → StandsFor files (Some o) → AuditsState (files pack_file) o answer → AuditsFiles files answer

-- of an image
pub data Audits (image : Image) : Answer → Type 0 where
  body : effective image ≡ None → Audits image (Err (Damaged body_file))
  whole : (files : Image) (answer : Answer) → effective image ≡ Some files → AuditsFiles files answer → Audits image answer

-- an audit may answer so: unless the disk fails or memory runs out, it answers what is so of the image
abbrev pub MayAnswer : Image → Answer → Type 0
MayAnswer image (Err DiskFault) = Unit {0}
MayAnswer image (Err Memory) = Unit {0}
MayAnswer image answer = Audits image answer

-- it is this answer, unless the disk fails or memory runs out
abbrev pub IsAnswer : Answer → Answer → Type 0
IsAnswer answer (Err DiskFault) = Unit {0}
IsAnswer answer (Err Memory) = Unit {0}
IsAnswer answer given = given ≡ answer
