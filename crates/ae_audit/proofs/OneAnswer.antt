-- An image has one answer, and a change one mark.
use Rattle.std.proofs.Common.{◌≡◌, ℕ, ◌-◌, refl, sym, ◌∙◌, ap, subst, List, [], ◌∷◌, Some, None, Ok, Err, length}
use Rattle.std.proofs.lemmas.Option.{same_Some}
use Rattle.ae_base.specs.declared.want.Want.TheVariants.{All as Everything}
use Rattle.ae_outside.specs.Image.{Image}
use Rattle.ae_types.specs.declared.blame.Blame.{Blame}
use Rattle.ae_types.specs.declared.change.Change.{Change}
use Rattle.ae_types.specs.declared.project.DeltaRow.{DeltaRow}
use Rattle.ae_types.specs.Found.{change_at}
use Rattle.ae_types.specs.Observation.{Observation}
use Rattle.ae_types.specs.Trees.{tree_of}
use Rattle.ae_types.proofs.Ordered.{none-some}
use Rattle.ae_types.proofs.Splits.{from-is}
use Rattle.ae_schema.specs.declared.format.Format.TheVariants.{One, Two}
use Rattle.ae_store.specs.Damage.{IsBlamedIn}
use Rattle.ae_store.specs.Names.{blamed_file}
use Rattle.ae_store.specs.Records.{StandsFor, nothing}
use Rattle.ae_store.proofs.Formats.{one_blamed_in, shown_not_blamed}
use Rattle.ae_store.proofs.OneState.{one_shown}
use Rattle.ae_audit.specs.declared.certificate.CertificateRow.{CertificateRow}
use Rattle.ae_audit.specs.declared.certificate.Mark.{Mark}
use Rattle.ae_audit.specs.declared.certificate.Mark.TheVariants.{Other, Developer, Nobody}
use Rattle.ae_audit.specs.declared.error.AuditError.TheVariants.{NotShown, Damaged}
use Rattle.ae_audit.specs.Audits.{Answer, AuditsState, lost, not_shown, shown, AuditsFiles, no_project, blamed, stands, body, whole}
use Rattle.ae_audit.specs.Files.{pack_file}
use Rattle.ae_audit.specs.Laws.{OneAnswer, OneMark}
use Rattle.ae_audit.specs.Required.{required_over}
use Rattle.ae_audit.specs.Review.{Fits}
use Rattle.ae_audit.specs.Shown.{ShownBy, Shown, IsCertificate, AreCertificates, FirstNotShown, here, later}

-- ---- marks

pub one-mark : OneMark
one-mark x (Other u) (Other v) p q = ap Other (same_Some u v (sym p.0 ∙ q.0))
one-mark x (Other u) (Developer v) p q = absurd (p.2 (q.2 ∙ sym q.0 ∙ p.0))
one-mark x (Other u) Nobody p q = none-some u (sym q.0 ∙ p.0)
one-mark x (Developer u) (Other v) p q = absurd (q.2 (p.2 ∙ sym p.0 ∙ q.0))
one-mark x (Developer u) (Developer v) p q = ap Developer (same_Some u v (sym p.0 ∙ q.0))
one-mark x (Developer u) Nobody p q = none-some u (sym q.0 ∙ p.0)
one-mark x Nobody (Other v) p q = none-some v (sym p.0 ∙ q.0)
one-mark x Nobody (Developer v) p q = none-some v (sym p.0 ∙ q.0)
one-mark x Nobody Nobody p q = refl

-- ---- certificates

one-shown : (o : Observation) (d : DeltaRow) (m n : Mark) → Shown o d m → Shown o d n → m ≡ n
one-shown o d m n p q =
    let x = from-is (λ change. ShownBy o.files d.delta change m) (change_at o d.change) p in
    let y = from-is (λ change. ShownBy o.files d.delta change n) (change_at o d.change) q in
    one-mark x.0 m n x.2.fits (subst (λ (z : Change). Fits z n) (same_Some y.0 x.0 (sym y.1 ∙ x.1)) y.2.fits)

one-count : (o : Observation) (d : DeltaRow) (r s : CertificateRow) → IsCertificate o d r → IsCertificate o d s → r.runs ≡ s.runs
one-count o d r s p q =
    let x = from-is (λ change. r.runs ≡ length (required_over (tree_of o (d.delta - 1)) change)) (change_at o d.change) p.runs in
    let y = from-is (λ change. s.runs ≡ length (required_over (tree_of o (d.delta - 1)) change)) (change_at o d.change) q.runs in
    x.2 ∙ ap (λ (z : Change). length (required_over (tree_of o (d.delta - 1)) z)) (same_Some x.0 y.0 (sym x.1 ∙ y.1)) ∙ sym y.2

one-row : (o : Observation) (d : DeltaRow) (r s : CertificateRow) → IsCertificate o d r → IsCertificate o d s → r ≡ s
one-row o d r s p q =
    let delta_is = p.delta ∙ sym q.delta in
    let change_is = p.change ∙ sym q.change in
    let tree_is = p.tree ∙ sym q.tree in
    let runs_is = one-count o d r s p q in
    let mark_is = one-shown o d r.mark s.mark p.shown q.shown in
    λ i. record { delta = delta_is i; change = change_is i; tree = tree_is i; runs = runs_is i; mark = mark_is i }

one-rows : (o : Observation) (ds : List DeltaRow) (rs ss : List CertificateRow) → AreCertificates o ds rs → AreCertificates o ds ss → rs ≡ ss
one-rows o [] [] [] p q = refl
one-rows o [] [] (s ∷ ss) p q = absurd q
one-rows o [] (r ∷ rs) ss p q = absurd p
one-rows o (d ∷ ds) [] ss p q = absurd p
one-rows o (d ∷ ds) (r ∷ rs) [] p q = absurd q
one-rows o (d ∷ ds) (r ∷ rs) (s ∷ ss) p q =
    let head = one-row o d r s p.0 q.0 in
    let tail = one-rows o ds rs ss p.1 q.1 in
    λ i. head i ∷ tail i

one-first : (o : Observation) (ds : List DeltaRow) (n m : ℕ) → FirstNotShown o ds n → FirstNotShown o ds m → n ≡ m
one-first o _ _ _ (here d after bad) (here e more worse) = refl
one-first o _ _ _ (here d after bad) (later e more m mark is rest) = absurd (bad mark is)
one-first o _ _ _ (later d after n mark is rest) (here e more worse) = absurd (worse mark is)
one-first o _ _ _ (later d after n mark is rest) (later e more m other is2 rest2) = one-first o _ n m rest rest2

never-first : (o : Observation) (ds : List DeltaRow) (rs : List CertificateRow) (n : ℕ) → AreCertificates o ds rs → FirstNotShown o ds n → ⊥
never-first o _ [] _ p (here d after bad) = absurd p
never-first o _ (r ∷ rs) _ p (here d after bad) = bad r.mark p.0.shown
never-first o _ [] _ p (later d after n mark is rest) = absurd p
never-first o _ (r ∷ rs) _ p (later d after n mark is rest) = never-first o _ rs n p.1 rest

-- ---- answers

one-of-state : (packed : List ℕ) (o : Observation) (a b : Answer) → AuditsState packed o a → AuditsState packed o b → a ≡ b
one-of-state packed o _ _ (lost bad) (lost worse) = refl
one-of-state packed o _ _ (lost bad) (not_shown n intact first) = absurd (bad intact)
one-of-state packed o _ _ (lost bad) (shown rows intact are) = absurd (bad intact)
one-of-state packed o _ _ (not_shown n intact first) (lost bad) = absurd (bad intact)
one-of-state packed o _ _ (not_shown n intact first) (not_shown m also second) = ap (λ (k : ℕ). Err (NotShown k)) (one-first o _ n m first second)
one-of-state packed o _ _ (not_shown n intact first) (shown rows also are) = absurd (never-first o _ rows n are first)
one-of-state packed o _ _ (shown rows intact are) (lost bad) = absurd (bad intact)
one-of-state packed o _ _ (shown rows intact are) (not_shown m also second) = absurd (never-first o _ rows m are second)
one-of-state packed o _ _ (shown rows intact are) (shown others kept certify) = ap (λ (rs : List CertificateRow). Ok rs) (one-rows o _ rows others are certify)

-- files that stand for a project, in whichever format, blame none
none-blamed : (files : Image) (o : Observation) (b : Blame) → StandsFor files (Some o) → IsBlamedIn Everything files b → ⊥
none-blamed files o b (One, stood) bad = shown_not_blamed Everything files o b (One, stood) bad
none-blamed files o b (Two, stood) bad = shown_not_blamed Everything files o b (Two, stood) bad

one-of-files : (files : Image) (a b : Answer) → AuditsFiles files a → AuditsFiles files b → a ≡ b
one-of-files files _ _ (no_project none) (no_project also) = refl
one-of-files files _ _ (no_project none) (blamed b bad) = absurd (bad.some none)
one-of-files files _ _ (no_project none) (stands o answer is audits) = none-some o (one_shown Everything files None (Some o) (One, nothing none) is)
one-of-files files _ _ (blamed b bad) (no_project none) = absurd (bad.some none)
one-of-files files _ _ (blamed b bad) (blamed c also) = ap (λ d. Err (Damaged (blamed_file d))) (one_blamed_in Everything files b c bad also)
one-of-files files _ _ (blamed b bad) (stands o answer is audits) = absurd (none-blamed files o b is bad)
one-of-files files _ _ (stands o answer is audits) (no_project none) = none-some o (one_shown Everything files None (Some o) (One, nothing none) is)
one-of-files files _ _ (stands o answer is audits) (blamed c also) = absurd (none-blamed files o c is also)
one-of-files files _ _ (stands o a is audits) (stands p b are also) =
    one-of-state (files pack_file) o a b audits (subst (λ (q : Observation). AuditsState (files pack_file) q b) (same_Some p o (one_shown Everything files (Some p) (Some o) are is)) also)

pub one-answer : OneAnswer
one-answer image _ _ (body none) (body also) = refl
one-answer image _ _ (body none) (whole files answer is audits) = none-some files (sym none ∙ is)
one-answer image _ _ (whole files answer is audits) (body none) = none-some files (sym none ∙ is)
one-answer image _ _ (whole f a is audits) (whole g b are also) =
    one-of-files f a b audits (subst (λ (files : Image). AuditsFiles files b) (same_Some g f (sym are ∙ is)) also)
