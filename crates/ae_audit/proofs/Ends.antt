-- How an audit ends, by how its steps do.
use Rattle.std.proofs.Common.{◌≡◌, inl, inr, ℕ, refl, sym, ◌∙◌, subst, List, [], ◌∷◌, ◌++◌, Some, None, Ok, Err, Result}
use Rattle.ae_outside.specs.declared.failed.ReadError.{ReadError}
use Rattle.ae_outside.specs.declared.failed.ReadError.TheVariants as reading
use Rattle.ae_outside.specs.Image.{Image}
use Rattle.ae_vault.specs.Vault.{effective}
use Rattle.ae_types.specs.declared.project.DeltaRow.{DeltaRow}
use Rattle.ae_types.specs.Observation.{Observation}
use Rattle.ae_store.specs.Records.{StandsFor}
use Rattle.ae_audit.specs.declared.certificate.CertificateRow.{CertificateRow}
use Rattle.ae_audit.specs.declared.error.AuditError.{AuditError}
use Rattle.ae_audit.specs.declared.error.AuditError.TheVariants as audit
use Rattle.ae_audit.specs.declared.stop.Stop.{Stop}
use Rattle.ae_audit.specs.declared.stop.Stop.TheVariants.{NoProject, Blamed, Lost, NotShown, DiskFault, Memory}
use Rattle.ae_audit.specs.Audits.{Answer, lost, not_shown, shown, no_project, blamed, stands, Audits, whole, MayAnswer, IsAnswer}
use Rattle.ae_audit.specs.Files.{pack_file}
use Rattle.ae_audit.specs.Intact.{AreIntact, released}
use Rattle.ae_audit.specs.Shown.{IsCertificate, AreCertificates, FirstNotShown, here, later}
use Rattle.ae_audit.specs.Steps.{stop_reading, error_of, StopsAt, IsLoaded, IsLooked, IsFound, IsCertified, IsToldOf, MayStop, MayStopOn}
use Rattle.ae_audit.proofs.OneAnswer.{one-answer}

-- ---- one more certificate

pub certified-more : (o : Observation) (ds : List DeltaRow) (rs : List CertificateRow) (d : DeltaRow) (r : CertificateRow) → AreCertificates o ds rs → IsCertificate o d r → AreCertificates o (ds ++ d ∷ []) (rs ++ r ∷ [])
certified-more o [] [] d r are is = (is, tt)
certified-more o [] (s ∷ rs) d r are is = absurd are
certified-more o (e ∷ ds) [] d r are is = absurd are
certified-more o (e ∷ ds) (s ∷ rs) d r are is = (are.0, certified-more o ds rs d r are.1 is)

-- the first that isn't shown comes after those that are
pub first-after : (o : Observation) (ds : List DeltaRow) (rs : List CertificateRow) (d : DeltaRow) (after : List DeltaRow) → AreCertificates o ds rs → IsFound o d None → FirstNotShown o (ds ++ d ∷ after) d.delta
first-after o [] rs d after are bad = here d after bad
first-after o (e ∷ ds) [] d after are bad = absurd are
first-after o (e ∷ ds) (s ∷ rs) d after are bad = later e (ds ++ d ∷ after) d.delta s.mark are.0.shown (first-after o ds rs d after are.1 bad)

-- ---- steps

pub reading-stops : (image : Image) (error : ReadError) → StopsAt image (stop_reading error)
reading-stops image reading.Failed = tt
reading-stops image reading.Memory = tt

pub looked-stops : (packed : List ℕ) (o : Observation) (s : Stop) → IsLooked packed (released o) (Err s) → MayStopOn packed o (Err s)
looked-stops packed o Lost is = lost is
looked-stops packed o DiskFault is = tt
looked-stops packed o Memory is = tt
looked-stops packed o _ is = absurd is

pub certified-ends : (packed : List ℕ) (o : Observation) (r : Result (List CertificateRow) Stop) → AreIntact packed (released o) → IsCertified o o.project.deltas r → MayStopOn packed o r
certified-ends packed o (Ok rows) intact are = shown rows intact are
certified-ends packed o (Err (NotShown n)) intact is = not_shown n intact is
certified-ends packed o (Err Memory) intact is = tt
certified-ends packed o (Err _) intact is = absurd is

pub loaded-stops : (image files : Image) (s : Stop) → effective image ≡ Some files → IsLoaded files (Err s) → StopsAt image s
loaded-stops image files NoProject eff is = whole files _ eff (no_project is)
loaded-stops image files (Blamed b) eff is = whole files _ eff (blamed b is)
loaded-stops image files DiskFault eff is = tt
loaded-stops image files Memory eff is = tt
loaded-stops image files _ eff is = absurd is

pub state-ends : (image files : Image) (o : Observation) (r : Result (List CertificateRow) Stop) → effective image ≡ Some files → StandsFor files (Some o) → MayStopOn (files pack_file) o r → MayStop image r
state-ends image files o (Ok rows) eff sf is = whole files (Ok rows) eff (stands o (Ok rows) sf is)
state-ends image files o (Err Lost) eff sf is = whole files _ eff (stands o _ sf is)
state-ends image files o (Err (NotShown n)) eff sf is = whole files _ eff (stands o _ sf is)
state-ends image files o (Err DiskFault) eff sf is = tt
state-ends image files o (Err Memory) eff sf is = tt
state-ends image files o (Err _) eff sf is = absurd is

-- ---- the whole

pub told-answers : (image : Image) (s : Stop) (e : AuditError) → IsToldOf s e → StopsAt image s → MayAnswer image (Err e)
told-answers image s e (inl is) stops = subst (λ (f : AuditError). MayAnswer image (Err f)) (sym is) stops
told-answers image s e (inr is) stops = subst (λ (f : AuditError). MayAnswer image (Err f)) (sym is) tt

pub only-so : (image : Image) (given answer : Answer) → MayAnswer image given → Audits image answer → IsAnswer answer given
only-so image (Ok rows) answer may is = one-answer image (Ok rows) answer may is
only-so image (Err audit.NoProject) answer may is = one-answer image _ answer may is
only-so image (Err (audit.NotShown n)) answer may is = one-answer image _ answer may is
only-so image (Err (audit.Damaged name)) answer may is = one-answer image _ answer may is
only-so image (Err audit.DiskFault) answer may is = tt
only-so image (Err audit.Memory) answer may is = tt

fault-is : (s : Stop) → error_of s ≡ audit.DiskFault → s ≡ DiskFault
fault-is DiskFault e = refl
fault-is _ e = cc

pub fault-was : (s : Stop) (e : AuditError) → IsToldOf s e → e ≡ audit.DiskFault → s ≡ DiskFault
fault-was s e (inl is) fault = fault-is s (sym is ∙ fault)
fault-was s e (inr is) fault = absurd (let both : audit.Memory ≡ audit.DiskFault = sym is ∙ fault in cc)
