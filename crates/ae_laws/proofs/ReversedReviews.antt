-- A review that is begun and given up at once, and one that passes and is withdrawn, leave the log the same.
use Rattle.std.proofs.Common.{◌≡◌, ℕ, refl, sym, ◌∙◌, ap, List, Some, None}
use Rattle.std.specs.Str.{bytes_eq}
use Rattle.ae_log.proofs.SoundQuiet.{not-some}
use Rattle.ae_base.specs.declared.words.Phase.TheVariants as phase
use Rattle.ae_base.specs.declared.refusal.Refusal.{Refusal}
use Rattle.ae_base.specs.declared.refusal.Refusal.TheVariants.{NotThisReviewer}
use Rattle.ae_types.specs.Found.{change_at}
use Rattle.ae_types.specs.Phases.{has_reviewer, may_be_reviewing}
use Rattle.ae_types.specs.Sound.{Sound}
use Rattle.ae_types.proofs.Keys.{by_text}
use Rattle.ae_log.specs.declared.event.EventKind.TheVariants as on
use Rattle.ae_log.specs.After.{after, change_after}
use Rattle.ae_log.specs.Applies.{is_awaiting_review, is_being_reviewed}
use Rattle.ae_log.specs.Files.{version_bytes}
use Rattle.ae_log.proofs.ChangeSteps.{awaits_review-is, reviewed-is}
use Rattle.ae_log.proofs.Steps.{of_change}
use Rattle.ae_words.specs.declared.table.Function.TheVariants as function
use Rattle.ae_machine.specs.Call.{call_of, unless}
use Rattle.ae_machine.specs.Laws.{ReversesOf}
use Rattle.ae_machine.specs.Permission.{phase_is_right, beginner_is_caller, passer_is_caller}
use Rattle.ae_machine.specs.Same.{without_history}
use Rattle.ae_machine.proofs.Accepted.{change-there, with_function}
use Rattle.ae_machine.proofs.AcceptedPaths.{changed-at}
use Rattle.ae_machine.proofs.LegalRightly.{legal-sound}
use Rattle.ae_machine.proofs.Reversing.{Reversal, reverses-of, first-passed, pair-reversed, same-bytes, occasion_of, named, project-still, change-still, on-named}
use Rattle.ae_machine.specs.Legal.{maker_at}

-- whoever did it undoes it
pub same-caller : (by who : List ℕ) (why : Refusal) → by ≡ who → unless (bytes_eq by who) why ≡ None
same-caller by who why is = ap (λ b. unless b why) (ap (λ (w : List ℕ). bytes_eq w who) is ∙ by_text.same_self who)

review-begun : Reversal function.ReviewBegin function.ReviewBeginUndo
review-begun c d who by when then_ view sight log o events legal stood may accepted undo may_then differ copies =
    let done = occasion_of function.ReviewBegin c who when view in
    let undone = occasion_of function.ReviewBeginUndo d by then_ sight in
    let p = first-passed log done o events stood accepted in
    let m = named o c.change is_awaiting_review (change-there (with_function function.ReviewBegin c) may.formed.whole refl) p.before.1.0 p.before.1.1.0 in
    let s : Sound o = legal-sound log o legal stood in
    let x = m.change in
    let event = of_change (maker_at done) m.n on.ReviewBegin in
    let now = after o event in
    let later = change_after o.project.next_version event x in
    let at_later : change_at now m.n ≡ Some later = changed-at o.changes m.n (change_after o.project.next_version event) (λ y. refl) x m.there in
    let dn : d.change ≡ Some m.n = undo.change ∙ m.is in
    let is : x.phase ≡ phase.AwaitingReview = awaits_review-is x.phase m.so in
    let none : x.reviewing ≡ None = (s.changes.good m.n x m.there).people.reviewing (ap may_be_reviewing is) in
    let same : without_history (change_after o.project.next_version (of_change (maker_at undone) m.n on.ReviewBeginUndo) later) ≡ without_history x = λ i. record (without_history x) { phase = sym is i; reviewing = sym none i } in
    let call = call_of now (with_function function.ReviewBeginUndo d) by in
    pair-reversed log done undone o events legal stood may accepted may_then m.n x m.is dn m.there on.ReviewBegin on.ReviewBeginUndo (λ o maker n. refl) (λ o maker n. refl) (λ y. refl) refl (λ next now. refl) same refl refl
    (project-still o now d refl undo.project, (change-still now d.change m.n later dn at_later, (on-named phase_is_right call m.n later dn at_later refl, (on-named beginner_is_caller call m.n later dn at_later (same-caller by who (NotThisReviewer (Some who)) undo.who), tt))))
    (same-bytes (version_bytes log))

pub reverses-review_begin : ReversesOf function.ReviewBegin
reverses-review_begin = reverses-of function.ReviewBegin function.ReviewBeginUndo refl review-begun

review-passed : Reversal function.ReviewPass function.ReviewPassUndo
review-passed c d who by when then_ view sight log o events legal stood may accepted undo may_then differ copies =
    let done = occasion_of function.ReviewPass c who when view in
    let undone = occasion_of function.ReviewPassUndo d by then_ sight in
    let p = first-passed log done o events stood accepted in
    let m = named o c.change is_being_reviewed (change-there (with_function function.ReviewPass c) may.formed.whole refl) p.before.1.0 p.before.1.1.0 in
    let s : Sound o = legal-sound log o legal stood in
    let x = m.change in
    let event = of_change (maker_at done) m.n on.Pass in
    let now = after o event in
    let later = change_after o.project.next_version event x in
    let at_later : change_at now m.n ≡ Some later = changed-at o.changes m.n (change_after o.project.next_version event) (λ y. refl) x m.there in
    let dn : d.change ≡ Some m.n = undo.change ∙ m.is in
    let is : x.phase ≡ phase.BeingReviewed = reviewed-is x.phase m.so in
    let none : x.reviewer ≡ None = not-some x.reviewer ((s.changes.good m.n x m.there).people.reviewer ∙ ap (λ p. has_reviewer p x.history) is) in
    let same : without_history (change_after o.project.next_version (of_change (maker_at undone) m.n on.PassUndo) later) ≡ without_history x = λ i. record (without_history x) { phase = sym is i; reviewer = sym none i } in
    let call = call_of now (with_function function.ReviewPassUndo d) by in
    pair-reversed log done undone o events legal stood may accepted may_then m.n x m.is dn m.there on.Pass on.PassUndo (λ o maker n. refl) (λ o maker n. refl) (λ y. refl) refl (λ next now. refl) same refl refl
    (project-still o now d refl undo.project, (change-still now d.change m.n later dn at_later, (on-named phase_is_right call m.n later dn at_later refl, (on-named passer_is_caller call m.n later dn at_later (same-caller by who (NotThisReviewer (Some who)) undo.who), tt))))
    (same-bytes (version_bytes log))

pub reverses-review_pass : ReversesOf function.ReviewPass
reverses-review_pass = reverses-of function.ReviewPass function.ReviewPassUndo refl review-passed
