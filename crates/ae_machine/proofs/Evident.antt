-- Every log whose events came rightly had, before each IPass, the rows that its integration asks.
use Rattle.std.proofs.Common.{◌≡◌, ℕ, refl, sym, ◌∙◌, ap, subst, List, [], ◌∷◌, map, Option, Some, None, true, nat_eq, eqb-true}
use Rattle.std.specs.Prelude.{IsSomeAnd}
use Rattle.std.specs.Option.{option_map}
use Rattle.std.specs.Str.{bytes_eq}
use Rattle.std.proofs.lemmas.Bool.{false≢true}
use Rattle.ae_base.specs.declared.words.Ground.TheVariants.{Integrate}
use Rattle.ae_types.specs.declared.change.Change.{Change}
use Rattle.ae_types.specs.declared.change.Evidence.{Evidence}
use Rattle.ae_types.specs.Found.{change_at, there_and}
use Rattle.ae_types.specs.Observation.{Observation}
use Rattle.ae_types.specs.Phases.{is_integrating, holds_locks}
use Rattle.ae_types.specs.Runs.{RunKey, Needed, required, wanted, missing, has_counting, counts, evidence_in, latest_of}
use Rattle.ae_types.specs.Sound.{Sound}
use Rattle.ae_types.specs.Trees.{candidate_of}
use Rattle.ae_types.proofs.Keys.{by_text}
use Rattle.ae_types.proofs.Splits.{and3}
use Rattle.ae_log.specs.declared.event.EventKind.{EventKind}
use Rattle.ae_log.specs.declared.event.EventKind.TheVariants as on
use Rattle.ae_log.specs.Baseline.{candidate}
use Rattle.ae_log.specs.Files.{version_bytes}
use Rattle.ae_log.specs.Log.{Log, course}
use Rattle.ae_log.specs.Observed.{observation, change, change_with, tree_row_of}
use Rattle.ae_log.specs.Phases.{phase_of}
use Rattle.ae_log.specs.Runs.{evidence_at}
use Rattle.ae_log.proofs.ChangeSteps.{integrated-is}
use Rattle.ae_log.proofs.RunSteps.{own_evidence}
use Rattle.ae_log.proofs.Steps.{IsOf}
use Rattle.ae_evidence.specs.Digest.{digest_rows}
use Rattle.ae_machine.specs.Evident.{IsEvident, RowIsEvident, HasEvidence, EvidentAt, Evident, LegalIsEvident}
use Rattle.ae_machine.specs.Facts.{FactsAt, Facts, ComesAfter, Rightly}
use Rattle.ae_machine.specs.Legal.{Legal}
use Rattle.ae_machine.specs.Provenance.{files_of}
use Rattle.ae_machine.specs.Sight.{with_bytes}
use Rattle.ae_machine.proofs.CandidateStands.{is-of, candidate-stands}
use Rattle.ae_machine.proofs.FactSteps.{facts}
use Rattle.ae_machine.proofs.LegalRightly.{rightly}
use Rattle.ae_machine.proofs.Lists.{members-all}
use Rattle.ae_machine.proofs.Provided.{at-evidence, none-missing, was-run}
use Rattle.ae_machine.proofs.StoredVersions.{bytes-stand, candidate-stored}
use Rattle.ae_log.specs.Maker.{Maker, event_by, maker_of}

abbrev key_of : Needed → RunKey
key_of needed = record { during = Integrate; kind = needed.kind; path = needed.path }

module _ (log : Log) (maker : Maker) (n : ℕ) (o : Observation) (stood : observation log ≡ Some o) (s : Sound o) (x : Change) (at_n : change_at o n ≡ Some x) (right : is_integrating x.phase ≡ true)
    (runs : missing o x Integrate (digest_rows (candidate_of o x)) ≡ None) (f : FactsAt log n) where
  abbrev digest : List ℕ
  digest = digest_rows (candidate_of o x)

  here : IsOf log n x
  here = is-of log o n x stood at_n

  held : holds_locks (phase_of (course log n)) ≡ true
  held = ap holds_locks (integrated-is (phase_of (course log n)) (ap (λ (y : Change). is_integrating y.phase) (sym here.is) ∙ right))

  -- a row that counts is that of a run of the log
  counted : (needed : Needed) (row : Evidence) → latest_of x Integrate needed.kind needed.path ≡ Some row → counts digest row ≡ true → has_counting x Integrate digest needed ≡ true → IsEvident log n x digest needed row
  counted needed row e c has =
      let at : evidence_at (course log n) (key_of needed) ≡ Some row = sym (ap (λ (y : Change). evidence_in y.evidence (key_of needed)) here.is ∙ at-evidence (course log n) (key_of needed)) ∙ e in
      let kind_is : row.kind ≡ needed.kind = ap (λ (k : RunKey). k.kind) (own_evidence (course log n) (key_of needed) row at) in
      let parts = and3 (nat_eq row.status (wanted row.kind)) row.clean (bytes_eq row.subject digest) c in
      record {
        status = eqb-true row.status (wanted row.kind) parts.0 ∙ ap wanted kind_is;
        clean = parts.1;
        subject = by_text.same_is row.subject digest parts.2;
        latest = at;
        run = was-run log maker n o stood s x at_n right runs f needed has;
      }

  row-evident : (needed : Needed) → has_counting x Integrate digest needed ≡ true → RowIsEvident log n o x needed
  row-evident needed has = go (latest_of x Integrate needed.kind needed.path) refl has
    where
      go : (v : Option Evidence) → latest_of x Integrate needed.kind needed.path ≡ v → there_and v (counts digest) ≡ true → IsSomeAnd v (IsEvident log n x digest needed)
      go (Some row) is c = counted needed row is c has
      go None is c = absurd (false≢true c)

  has-evidence : HasEvidence log n o x
  has-evidence =
      let suffice = none-missing o x digest runs in
      let same : candidate_of o x ≡ map tree_row_of (candidate log n) = candidate-stands log o n x stood at_n held (f.shape held) in
      record {
        suffices = runs;
        rows = members-all (RowIsEvident log n o x) (required o x) (λ needed m. row-evident needed (suffice.all needed m));
        candidate_is = same;
        bytes_are = ap (with_bytes (version_bytes log)) same ∙ bytes-stand log (candidate log n) (candidate-stored log n);
      }

  pub pass-evident : EvidentAt log (Some n) on.IPass
  pass-evident = subst (λ (v : Option Observation). IsSomeAnd v (λ o. IsSomeAnd (change n (course log n)) (HasEvidence log n o))) (sym stood)
      (subst (λ (v : Option Change). IsSomeAnd v (HasEvidence log n o)) (sym (ap (option_map (change_with n (course log n))) here.has ∙ ap (λ (y : Change). Some y) (sym here.is))) has-evidence)

evident-at : (log : Log) (maker : Maker) (c : Option ℕ) (kind : EventKind) (v : Option Observation) → observation log ≡ v → ComesAfter log v (event_by maker c kind) → Facts log
    → EvidentAt log c kind
evident-at log maker (Some n) on.IPass (Some o) stood c f = go (change_at o n) refl c.applies.comes
  where
    go : (v : Option Change) → change_at o n ≡ v → IsSomeAnd v (λ (change : Change). (is_integrating change.phase ≡ true) × Unit {0}) → EvidentAt log (Some n) on.IPass
    go (Some x) at_n h = pass-evident log maker n o stood c.sound x at_n h.0 (c.seen x at_n) (f.each n)
    go None at_n h = absurd h
evident-at log maker (Some n) on.IPass None stood c f = absurd c.1.project
evident-at log maker None on.IPass (Some o) stood c f = absurd c.applies.comes
evident-at log maker None on.IPass None stood c f = absurd c.1.project
evident-at log maker (Some n) kind v stood c f = tt
evident-at log maker None kind v stood c f = tt

pub evident : (log : Log) → Rightly log → Evident log
evident [] r = tt
evident (event ∷ log) r = (evident-at log (maker_of event) event.change event.what (observation log) refl r.0 (facts log r.1), evident log r.1)

pub legal-evident : LegalIsEvident
legal-evident log legal = evident log (rightly log legal)

-- ---- the candidate of a change that is integrated

pub candidate-bytes : (log : Log) (o : Observation) (n : ℕ) (x : Change) → Legal log → observation log ≡ Some o → change_at o n ≡ Some x → is_integrating x.phase ≡ true
    → with_bytes (version_bytes log) (candidate_of o x) ≡ files_of (candidate log n)
candidate-bytes log o n x legal stood at_n right =
    let here = is-of log o n x stood at_n in
    let f = (facts log (rightly log legal)).each n in
    let held : holds_locks (phase_of (course log n)) ≡ true = ap holds_locks (integrated-is (phase_of (course log n)) (ap (λ (y : Change). is_integrating y.phase) (sym here.is) ∙ right)) in
    ap (with_bytes (version_bytes log)) (candidate-stands log o n x stood at_n held (f.shape held)) ∙ bytes-stand log (candidate log n) (candidate-stored log n)
