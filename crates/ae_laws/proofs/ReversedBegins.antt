-- A development, or an integration, that is begun and given up at once leaves the log the same.
use Rattle.std.proofs.Common.{◌≡◌, ℕ, refl, sym, ◌∙◌, ap, [], Some, None, Bool, true, false, not}
use Rattle.std.specs.Option.{option_and_then}
use Rattle.std.proofs.lemmas.Bool.{false≢true}
use Rattle.ae_log.proofs.SoundQuiet.{not-some}
use Rattle.ae_base.specs.declared.words.Ground.{Ground}
use Rattle.ae_base.specs.declared.words.Ground.TheVariants as part
use Rattle.ae_base.specs.declared.words.Phase.TheVariants as phase
use Rattle.ae_base.specs.declared.refusal.Refusal.TheVariants.{NotThisDeveloper, NotThisIntegrator}
use Rattle.ae_types.specs.declared.change.Change.{Change}
use Rattle.ae_types.specs.declared.change.Evidence.{Evidence}
use Rattle.ae_types.specs.Found.{change_at}
use Rattle.ae_types.specs.Observation.{Observation}
use Rattle.ae_types.specs.Phases.{is_awaiting_development, has_integrator}
use Rattle.ae_types.specs.Runs.{RunKey, Needed, same_during}
use Rattle.ae_types.specs.Sound.{Sound}
use Rattle.ae_types.proofs.Members.{In, some-in}
use Rattle.ae_types.proofs.Ordered.{none-some}
use Rattle.ae_log.specs.declared.event.EventKind.TheVariants as on
use Rattle.ae_log.specs.After.{after, change_after, without_runs}
use Rattle.ae_log.specs.Applies.{is_awaiting_integration}
use Rattle.ae_log.specs.Files.{version_bytes}
use Rattle.ae_log.specs.Log.{Log, Course, course}
use Rattle.ae_log.specs.Observed.{observation}
use Rattle.ae_log.specs.Runs.{latest, row_of_run, run_keys, evidence, evidence_at}
use Rattle.ae_log.proofs.ChangeSteps.{awaits-is, awaits_integration-is}
use Rattle.ae_log.proofs.RunSteps.{own_evidence}
use Rattle.ae_log.proofs.Steps.{of_change}
use Rattle.ae_words.specs.declared.table.Function.TheVariants as function
use Rattle.ae_machine.specs.Call.{call_of}
use Rattle.ae_machine.specs.Laws.{ReversesOf}
use Rattle.ae_machine.specs.Permission.{phase_is_right, developer_is_caller, integrator_is_caller}
use Rattle.ae_machine.specs.Same.{without_history}
use Rattle.ae_machine.proofs.Accepted.{change-there, with_function}
use Rattle.ae_machine.proofs.AcceptedPaths.{changed-at}
use Rattle.ae_machine.proofs.Lists.{filter-all}
use Rattle.ae_machine.proofs.CandidateStands.{is-of}
use Rattle.ae_machine.proofs.LegalRightly.{legal-sound, legal-facts}
use Rattle.ae_machine.proofs.Reversing.{Reversal, reverses-of, first-passed, pair-reversed, same-bytes, occasion_of, named, project-still, change-still, on-named}
use Rattle.ae_laws.proofs.ReversedReviews.{same-caller}
use Rattle.ae_machine.specs.Legal.{maker_at}

-- ---- no run of what hasn't begun

during-is : (one other : Ground) → same_during one other ≡ true → other ≡ one
during-is part.Develop part.Develop e = refl
during-is part.Integrate part.Integrate e = refl
during-is part.Develop part.Integrate e = absurd (false≢true e)
during-is part.Integrate part.Develop e = absurd (false≢true e)

module _ (ss : Course) (during : Ground) (none : (needed : Needed) → latest ss (record { during = during; kind = needed.kind; path = needed.path }) ≡ None) where
  kept-row : (row : Evidence) → In (evidence ss) row → not (same_during during row.during) ≡ true
  kept-row row h = let m = some-in (evidence_at ss) (run_keys ss) row h in go m.0 m.2 (same_during during row.during) refl
    where
      go : (key : RunKey) → evidence_at ss key ≡ Some row → (b : Bool) → same_during during row.during ≡ b → not (same_during during row.during) ≡ true
      go key e false is = ap not is
      go key e true is =
          let of_row : row.during ≡ key.during = ap (λ (k : RunKey). k.during) (own_evidence ss key row e) in
          let same : key ≡ record { during = during; kind = key.kind; path = key.path } = λ i. record { during = (sym of_row ∙ during-is during row.during is) i; kind = key.kind; path = key.path } in
          none-some row (sym (ap (evidence_at ss) same ∙ ap (option_and_then row_of_run) (none (record { kind = key.kind; path = key.path }))) ∙ e)

  nothing-cleared : without_runs during (evidence ss) ≡ evidence ss
  nothing-cleared = filter-all (λ (row : Evidence). not (same_during during row.during)) (evidence ss) kept-row

clears-nothing : (log : Log) (o : Observation) (n : ℕ) (x : Change) → observation log ≡ Some o → change_at o n ≡ Some x → (during : Ground)
    → ((needed : Needed) → latest (course log n) (record { during = during; kind = needed.kind; path = needed.path }) ≡ None) → without_runs during (without_runs during x.evidence) ≡ x.evidence
clears-nothing log o n x stood at_n during none =
    let own : x.evidence ≡ evidence (course log n) = ap (λ (y : Change). y.evidence) (is-of log o n x stood at_n).is in
    let once : without_runs during x.evidence ≡ x.evidence = ap (without_runs during) own ∙ nothing-cleared (course log n) during none ∙ sym own in
    ap (without_runs during) once ∙ once

-- ---- the pairs

development-begun : Reversal function.DevelopBegin function.DevelopBeginUndo
development-begun c d who by when then_ view sight log o events legal stood may accepted undo may_then differ copies =
    let done = occasion_of function.DevelopBegin c who when view in
    let undone = occasion_of function.DevelopBeginUndo d by then_ sight in
    let p = first-passed log done o events stood accepted in
    let m = named o c.change is_awaiting_development (change-there (with_function function.DevelopBegin c) may.formed.whole refl) p.before.1.0 p.before.1.1.0 in
    let s : Sound o = legal-sound log o legal stood in
    let x = m.change in
    let good = s.changes.good m.n x m.there in
    let event = of_change (maker_at done) m.n on.Begin in
    let now = after o event in
    let later = change_after o.project.next_version event x in
    let at_later : change_at now m.n ≡ Some later = changed-at o.changes m.n (change_after o.project.next_version event) (λ y. refl) x m.there in
    let dn : d.change ≡ Some m.n = undo.change ∙ m.is in
    let is : x.phase ≡ phase.AwaitingDevelopment = awaits-is x.phase m.so in
    let nobody : x.developer ≡ None = not-some x.developer (good.people.developer ∙ ap (λ p. not (is_awaiting_development p)) is) in
    let no_files : x.files ≡ [] = good.files.none_yet m.so in
    let no_runs : without_runs part.Develop (without_runs part.Develop x.evidence) ≡ x.evidence = clears-nothing log o m.n x stood m.there part.Develop
    (((legal-facts log legal).each m.n).cleared.development (ap (λ (y : Change). is_awaiting_development y.phase) (sym (is-of log o m.n x stood m.there).is) ∙ m.so)) in
    let same : without_history (change_after o.project.next_version (of_change (maker_at undone) m.n on.BeginUndo) later) ≡ without_history x =
    λ i. record (without_history x) { phase = sym is i; developer = sym nobody i; files = sym no_files i; evidence = no_runs i } in
    let call = call_of now (with_function function.DevelopBeginUndo d) by in
    pair-reversed log done undone o events legal stood may accepted may_then m.n x m.is dn m.there on.Begin on.BeginUndo (λ o maker n. refl) (λ o maker n. refl) (λ y. refl) refl (λ next now. refl) same refl refl
    (project-still o now d refl undo.project, (change-still now d.change m.n later dn at_later, (on-named phase_is_right call m.n later dn at_later refl, (on-named developer_is_caller call m.n later dn at_later (same-caller by who (NotThisDeveloper who) undo.who), tt))))
    (same-bytes (version_bytes log))

pub reverses-develop_begin : ReversesOf function.DevelopBegin
reverses-develop_begin = reverses-of function.DevelopBegin function.DevelopBeginUndo refl development-begun

integration-begun : Reversal function.IntegrateBegin function.IntegrateBeginUndo
integration-begun c d who by when then_ view sight log o events legal stood may accepted undo may_then differ copies =
    let done = occasion_of function.IntegrateBegin c who when view in
    let undone = occasion_of function.IntegrateBeginUndo d by then_ sight in
    let p = first-passed log done o events stood accepted in
    let m = named o c.change is_awaiting_integration (change-there (with_function function.IntegrateBegin c) may.formed.whole refl) p.before.1.0 p.before.1.1.0 in
    let s : Sound o = legal-sound log o legal stood in
    let x = m.change in
    let good = s.changes.good m.n x m.there in
    let event = of_change (maker_at done) m.n on.IBegin in
    let now = after o event in
    let later = change_after o.project.next_version event x in
    let at_later : change_at now m.n ≡ Some later = changed-at o.changes m.n (change_after o.project.next_version event) (λ y. refl) x m.there in
    let dn : d.change ≡ Some m.n = undo.change ∙ m.is in
    let is : x.phase ≡ phase.AwaitingIntegration = awaits_integration-is x.phase m.so in
    let nobody : x.integrator ≡ None = not-some x.integrator (good.people.integrator ∙ ap has_integrator is) in
    let no_runs : without_runs part.Integrate (without_runs part.Integrate x.evidence) ≡ x.evidence = clears-nothing log o m.n x stood m.there part.Integrate
    (((legal-facts log legal).each m.n).cleared.integration (ap (λ (y : Change). has_integrator y.phase) (sym (is-of log o m.n x stood m.there).is) ∙ ap has_integrator is)) in
    let same : without_history (change_after o.project.next_version (of_change (maker_at undone) m.n on.IBeginUndo) later) ≡ without_history x =
    λ i. record (without_history x) { phase = sym is i; integrator = sym nobody i; evidence = no_runs i } in
    let call = call_of now (with_function function.IntegrateBeginUndo d) by in
    pair-reversed log done undone o events legal stood may accepted may_then m.n x m.is dn m.there on.IBegin on.IBeginUndo (λ o maker n. refl) (λ o maker n. refl) (λ y. refl) refl (λ next now. refl) same refl refl
    (project-still o now d refl undo.project, (change-still now d.change m.n later dn at_later, (on-named phase_is_right call m.n later dn at_later refl, (on-named integrator_is_caller call m.n later dn at_later (same-caller by who (NotThisIntegrator who) undo.who), tt))))
    (same-bytes (version_bytes log))

pub reverses-integrate_begin : ReversesOf function.IntegrateBegin
reverses-integrate_begin = reverses-of function.IntegrateBegin function.IntegrateBeginUndo refl integration-begun
