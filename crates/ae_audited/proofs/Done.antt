-- On a disk that holds a legal log an audit is done.
use Rattle.std.proofs.Common.{◌≡◌, ◌⊎◌, inl, inr, refl, sym, ◌∙◌, ap, subst, List, Some, Ok, Err, Bool, true, false}
use Rattle.ae_base.specs.declared.outcome.Outcome.{Outcome}
use Rattle.ae_base.specs.declared.outcome.Outcome.TheVariants.{Done, Memory}
use Rattle.ae_outside.specs.Image.{Image}
use Rattle.ae_telling.specs.Telling.{SinkUse, IsTold}
use Rattle.ae_telling.specs.Sinks.{told_to}
use Rattle.ae_audit.specs.declared.certificate.CertificateRow.{CertificateRow}
use Rattle.ae_audit.specs.declared.error.AuditError.{AuditError}
use Rattle.ae_audit.specs.declared.error.AuditError.TheVariants as audit
use Rattle.ae_audit.specs.Audits.{Answer, IsAnswer}
use Rattle.ae_audited.specs.Telling.{Means, lines, error, wanting, IsAuditTold, IsDoneOnLegal}
use Rattle.ae_audited.proofs.Certified.{legal-audited}

-- what is meant where the rows were answered, unless the disk failed or memory ran out
meant-is : (answer : Answer) (rows : List CertificateRow) (meant : Outcome) (text : _) (to_out : Bool) → IsAnswer (Ok rows) answer → (answer ≡ Err audit.DiskFault → ⊥) → Means answer meant text to_out → (meant ≡ Done) ⊎ (meant ≡ Memory)
meant-is _ rows _ _ _ is no_fault (lines others) = inl refl
meant-is _ rows _ _ _ is no_fault (error audit.DiskFault) = absurd (no_fault refl)
meant-is _ rows _ _ _ is no_fault (error audit.Memory) = inr refl
meant-is _ rows _ _ _ is no_fault (error audit.NoProject) = cc
meant-is _ rows _ _ _ is no_fault (error (audit.NotShown n)) = cc
meant-is _ rows _ _ _ is no_fault (error (audit.Damaged name)) = cc
meant-is _ rows _ _ _ is no_fault (wanting answer) = inr refl

result-is : (to_out : Bool) (out err : SinkUse) (meant : Outcome) (text : _) (result : Outcome) → IsTold meant text (told_to to_out out err) result → (out.rose → ⊥) → (err.rose → ⊥) → result ≡ meant
result-is true out err meant text result told no_out no_err = elim told.how [ inl same ↦ same | inr failed ↦ absurd (no_out failed.1) ]
result-is false out err meant text result told no_out no_err = elim told.how [ inl same ↦ same | inr failed ↦ absurd (no_err failed.1) ]

pub done-on-legal : (tells : Type 0) (image : Image) (rose : Type 0) (out err : SinkUse) (result : Outcome) → IsAuditTold tells image rose out err result → IsDoneOnLegal tells image rose out err result
done-on-legal tells image rose out err result t here log o legal stands stood no_fault no_out no_err =
    let audited = legal-audited image log o legal stands stood in
    let same = result-is t.to_out out err t.meant t.text result t.told no_out no_err in
    elim (meant-is t.answer audited.rows t.meant t.text t.to_out (t.only here (Ok audited.rows) audited.answer) (λ failed. no_fault (t.cause failed)) t.means) [
      | inl done ↦ inl (same ∙ done)
      | inr lacking ↦ inr (same ∙ lacking)
    ]
