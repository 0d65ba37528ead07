-- Files that are to be removed and are given up at once leave the log the same, or the paths clashed before.
use Rattle.std.proofs.Common.{◌≡◌, ◌⊎◌, inl, inr, ℕ, refl, sym, ◌∙◌, ap, subst, List, [], ◌∷◌, map, Option, Some, None, Bool, true, false, cond, not, ◌||◌}
use Rattle.std.specs.Prelude.{filter, is_some}
use Rattle.std.specs.List.{find, list_any}
use Rattle.std.specs.Option.{is_none, option_map, option_map_or, option_and_then, option_or}
use Rattle.std.specs.Str.{bytes_eq}
use Rattle.std.proofs.lemmas.Option.{same_Some}
use Rattle.std.proofs.lemmas.Bool.{false≢true}
use Rattle.ae_log.proofs.SoundEnd.{is_some-map}
use Rattle.ae_base.specs.declared.words.Action.{Action}
use Rattle.ae_base.specs.declared.words.Action.TheVariants as action
use Rattle.ae_base.specs.declared.words.Phase.{Phase}
use Rattle.ae_base.specs.declared.words.Usage.{Usage}
use Rattle.ae_base.specs.declared.refusal.Refusal.{Refusal}
use Rattle.ae_base.specs.declared.refusal.Refusal.TheVariants.{WrongPhase, PathClash}
use Rattle.ae_types.specs.declared.change.Change.{Change}
use Rattle.ae_types.specs.declared.change.ChangeFile.{ChangeFile}
use Rattle.ae_types.specs.Clashes.{has_path}
use Rattle.ae_types.specs.Found.{change_at, file_path, file_in}
use Rattle.ae_types.specs.Observation.{Observation}
use Rattle.ae_types.specs.Phases.{is_remove}
use Rattle.ae_types.specs.Sound.{Sound}
use Rattle.ae_types.specs.Trees.{edit_of, paths_of, baseline_of}
use Rattle.ae_types.proofs.Clashing.{has-in, in-has}
use Rattle.ae_types.proofs.Keys.{by_text}
use Rattle.ae_types.proofs.Members.{In, map-in, any-in, in-any}
use Rattle.ae_types.proofs.Ordered.{Ascends, none-some}
use Rattle.ae_types.proofs.Searched.{in-found}
use Rattle.ae_log.specs.declared.event.Event.{Event}
use Rattle.ae_log.specs.After.{after_all, without_file}
use Rattle.ae_log.specs.Applies.{is_being_developed}
use Rattle.ae_log.specs.Files.{version_bytes}
use Rattle.ae_log.specs.Log.{followed}
use Rattle.ae_log.proofs.ChangeSteps.{developed-is}
use Rattle.ae_words.specs.declared.table.Function.TheVariants as function
use Rattle.ae_machine.specs.declared.verdict.Verdict.TheVariants.{Accept}
use Rattle.ae_machine.specs.Accepted.{decided}
use Rattle.ae_machine.specs.Call.{Call, call_of, on_change, unless, first_of}
use Rattle.ae_machine.specs.Laws.{ReversesOf, IsReversed, all_differ, files_named}
use Rattle.ae_files.specs.Clash.{clash}
use Rattle.ae_machine.specs.Paths.{kept, with_paths, paths_with, no_clash, files_with, file_made, files_then, takes_away, not_in_change, in_baseline, usage_in_baseline, asked_of_path, path_refused, first_path_refused, paths_are_right}
use Rattle.ae_machine.specs.Permission.{right_project, right_change, right_phase, caller_develops, phase_is_right, developer_is_caller}
use Rattle.ae_machine.specs.Verdict.{asked_of_sight, events_of, answer, refusal}
use Rattle.ae_machine.proofs.Accepted.{change-there, with_function}
use Rattle.ae_machine.proofs.AcceptedIntegration.{with-old, with-new, put-has, in-kept, filter-has}
use Rattle.ae_machine.proofs.AcceptedRoles.{both-none}
use Rattle.ae_machine.proofs.Lists.{filter-in, find-some, found-so}
use Rattle.ae_machine.proofs.LegalRightly.{legal-sound}
use Rattle.ae_machine.proofs.Reversing.{Reversal, reverses-of, given_at, first-passed, first-follows, unrefused, occasion_of, named, project-still, change-still, on-named}
use Rattle.ae_machine.proofs.ReversedPaths.{with_files, at-without, without-ascends, others-differ, file_of, filing, all_put, filed, put-all, put-found, at-puts, puts-ascend}
use Rattle.ae_laws.proofs.ReversedFiles.{taken, absent, not-there, between, paths-reversed, still-developer, on-found, name-still}
use Rattle.ae_log.specs.Maker.{event_by}
use Rattle.ae_machine.specs.Legal.{maker_at}

-- ---- the paths that the project would have

from-with : (more paths : List (List ℕ)) (q : List ℕ) → has_path (with_paths more paths) q ≡ true → In more q ⊎ (has_path paths q ≡ true)
from-with [] paths q h = inr h
from-with (p ∷ more) paths q h = go (bytes_eq q p) refl (sym (put-has p q (with_paths more paths)) ∙ h) (from-with more paths q)
  where
    later : In more q ⊎ (has_path paths q ≡ true) → In (p ∷ more) q ⊎ (has_path paths q ≡ true)
    later (inl m) = inl (inr m)
    later (inr m) = inr m

    go : (b : Bool) → bytes_eq q p ≡ b → (b || has_path (with_paths more paths) q) ≡ true → (has_path (with_paths more paths) q ≡ true → In more q ⊎ (has_path paths q ≡ true)) → In (p ∷ more) q ⊎ (has_path paths q ≡ true)
    go true is e rest = inl (inl (sym (by_text.same_is q p is)))
    go false is e rest = later (rest e)

-- each file is as it was, or is to be removed
abbrev pub Under : List ChangeFile → List ChangeFile → Type 0
Under files before = (q : List ℕ) → (file_in files q ≡ file_in before q) ⊎ ((f : ChangeFile) × (file_in files q ≡ Some f) × (is_remove f.action ≡ true))

-- the project would have no path that it hadn't with the files before
under-has : (o : Observation) (files before : List ChangeFile) → Ascends by_text file_path files → Under files before → (q : List ℕ) → has_path (paths_with o files) q ≡ true → has_path (paths_with o before) q ≡ true
under-has o files before up under q h = go (from-with (kept files) (filter (λ path. is_none (file_in files path)) (paths_of (baseline_of o))) q h)
  where
    base : List (List ℕ)
    base = paths_of (baseline_of o)

    from-kept : (f : ChangeFile) → In (filter (λ (file : ChangeFile). not (is_remove file.action)) files) f → file_path f ≡ q → has_path (paths_with o before) q ≡ true
    from-kept f m is =
        let p = filter-in (λ (file : ChangeFile). not (is_remove file.action)) files f m in
        by (subst (λ (r : List ℕ). file_in files r ≡ Some f) is (in-found by_text file_path files up f p.0)) p.1 (under q)
      where
        stays : (b : Bool) → not b ≡ true → b ≡ false
        stays true e = absurd (false≢true e)
        stays false e = refl

        by : file_in files q ≡ Some f → not (is_remove f.action) ≡ true → (file_in files q ≡ file_in before q) ⊎ ((g : ChangeFile) × (file_in files q ≡ Some g) × (is_remove g.action ≡ true)) → has_path (paths_with o before) q ≡ true
        by e left (inl same) = with-new (kept before) (filter (λ path. is_none (file_in before path)) (paths_of (baseline_of o))) q (in-kept before q f (sym same ∙ e) (stays (is_remove f.action) left))
        by e left (inr g) = absurd (false≢true (sym (ap (λ (h : ChangeFile). not (is_remove h.action)) (same_Some f g.0 (sym e ∙ g.1)) ∙ ap not g.2) ∙ left))

    from-base : In (filter (λ path. is_none (file_in files path)) (paths_of (baseline_of o))) q → has_path (paths_with o before) q ≡ true
    from-base m =
        let p = filter-in (λ path. is_none (file_in files path)) (paths_of (baseline_of o)) q m in
        by p.0 p.1 (under q)
      where
        by : In (paths_of (baseline_of o)) q → is_none (file_in files q) ≡ true → (file_in files q ≡ file_in before q) ⊎ ((g : ChangeFile) × (file_in files q ≡ Some g) × (is_remove g.action ≡ true)) → has_path (paths_with o before) q ≡ true
        by there none (inl same) = with-old (kept before) (filter (λ path. is_none (file_in before path)) (paths_of (baseline_of o))) q
            (filter-has (λ path. is_none (file_in before path)) (paths_of (baseline_of o)) q (in-has (paths_of (baseline_of o)) q there) (ap (λ (v : Option ChangeFile). is_none v) (sym same) ∙ none))
        by there none (inr g) = absurd (false≢true (sym (ap (λ (v : Option ChangeFile). is_none v) g.1) ∙ none))

    go : In (kept files) q ⊎ (has_path (filter (λ path. is_none (file_in files path)) (paths_of (baseline_of o))) q ≡ true) → has_path (paths_with o before) q ≡ true
    go (inl m) = let f = map-in file_path (filter (λ (file : ChangeFile). not (is_remove file.action)) files) q m in from-kept f.0 f.1 f.2
    go (inr h) = from-base (has-in (filter (λ path. is_none (file_in files path)) (paths_of (baseline_of o))) q h)

-- ---- clashes

-- a clash of some paths is one of more
more-clash : (paths more : List (List ℕ)) → ((q : List ℕ) → has_path paths q ≡ true → has_path more q ≡ true) → (r : Refusal) → no_clash paths ≡ Some r → ((path : List ℕ) × (r ≡ PathClash path)) × (is_some (no_clash more) ≡ true)
more-clash paths more all r e = go (find (λ path. list_any (clash path) paths) paths) refl e
  where
    go : (v : Option (List ℕ)) → find (λ path. list_any (clash path) paths) paths ≡ v → option_map PathClash v ≡ Some r → ((path : List ℕ) × (r ≡ PathClash path)) × (is_some (no_clash more) ≡ true)
    go (Some p) is e =
        let one = found-so (λ path. list_any (clash path) paths) paths p is in
        let two = any-in (clash p) paths one.1 in
        let in_more : (q : List ℕ) → In paths q → In more q = λ (q : List ℕ) (m : In paths q). has-in more q (all q (in-has paths q m)) in (
          (p, sym (same_Some (PathClash p) r e)),
          is_some-map PathClash (find (λ path. list_any (clash path) more) more)
              ∙ find-some (λ path. list_any (clash path) more) more p (in_more p one.0) (in-any (clash p) more two.0 (in_more two.0 two.1) two.2),
        )
    go None is e = none-some r e

-- ---- the undo is refused by a clash alone

pub record Clashed (o : Observation) (before : List ChangeFile) (r : Refusal) : Type 0 where
  pub path : (path : List ℕ) × (r ≡ PathClash path)
  pub clash : is_some (no_clash (paths_with o before)) ≡ true

module _ (o now : Observation) (call : Call) (stands : call.stands ≡ now) (is : call.command.function ≡ function.RemoveFileUndo) (base : (files : List ChangeFile) → paths_with now files ≡ paths_with o files)
    (made : List ℕ → ChangeFile) (removes : (p : List ℕ) → is_remove (made p).action ≡ true) (before : List ChangeFile) where
  pub clashed : (paths : List (List ℕ)) (files : List ChangeFile) → Ascends by_text file_path files → all_differ paths ≡ true → ((q : List ℕ) → In paths q → file_in files q ≡ Some (made q)) → ((q : List ℕ) → In paths q → file_in before q ≡ None)
      → ((q : List ℕ) → (In paths q → ⊥) → file_in files q ≡ file_in before q) → (r : Refusal) → first_path_refused call paths files ≡ Some r → Clashed o before r
  clashed [] files up differ found none others r e = none-some r e
  clashed (p ∷ paths) files up differ found none others r e =
      let differs = others-differ p paths differ in
      let up_then = without-ascends p files up in
      go (no_clash (paths_with now (without_file p files))) refl (sym whole ∙ e)
      (clashed paths (without_file p files) up_then differs.1 (λ q m. at-then q (differs.0 q m) ∙ found q (inr m)) (λ q m. none q (inr m)) (others-then differs.0) r)
    where
      at-then : (q : List ℕ) → bytes_eq q p ≡ false → file_in (without_file p files) q ≡ file_in files q
      at-then q apart = at-without p q files up ∙ ap (λ b. cond b None (file_in files q)) apart

      others-then : ((q : List ℕ) → In paths q → bytes_eq q p ≡ false) → (q : List ℕ) → (In paths q → ⊥) → file_in (without_file p files) q ≡ file_in before q
      others-then differ q out = split (bytes_eq q p) refl
        where
          split : (b : Bool) → bytes_eq q p ≡ b → file_in (without_file p files) q ≡ file_in before q
          split true same = at-without p q files up ∙ ap (λ b. cond b None (file_in files q)) same ∙ sym (none q (inl (sym (by_text.same_is q p same))))
          split false apart = at-then q apart ∙ others q (λ (m : In (p ∷ paths) q). neither m)
            where
              neither : (p ≡ q) ⊎ In paths q → ⊥
              neither (inl same) = absurd (false≢true (sym apart ∙ ap (bytes_eq q) same ∙ by_text.same_self q))
              neither (inr m) = out m

      -- what the conditions give at this path
      whole : first_path_refused call (p ∷ paths) files ≡ option_or (no_clash (paths_with now (without_file p files))) (first_path_refused call paths (without_file p files))
      whole =
          ap (λ f. option_or (path_refused (asked_of_path f) call files p) (first_path_refused call paths (files_with p (file_made f call p) files))) is
          ∙ ap (λ c. option_or (option_or c (option_or (no_clash (paths_with call.stands (files_then call p files))) None)) (first_path_refused call paths (without_file p files))) (taken call p files (made p) (found p (inl refl)) takes)
          ∙ ap (λ (fs : List ChangeFile). option_or (option_or (no_clash (paths_with call.stands fs)) None) (first_path_refused call paths (without_file p files))) (ap (λ f. files_with p (file_made f call p) files) is)
          ∙ ap (λ (q : Observation). option_or (option_or (no_clash (paths_with q (without_file p files))) None) (first_path_refused call paths (without_file p files))) stands
          ∙ ap (λ c. option_or c (first_path_refused call paths (without_file p files))) (or-none (no_clash (paths_with now (without_file p files))))
        where
          takes : takes_away call.command.function (made p) ≡ true
          takes = ap (λ f. takes_away f (made p)) is ∙ removes p

          or-none : (c : Option Refusal) → option_or c None ≡ c
          or-none (Some c) = refl
          or-none None = refl

      -- the files without the path are under those before
      under : Under (without_file p files) before
      under q = split (has_path paths q) refl
        where
          differs : (q : List ℕ) → In paths q → bytes_eq q p ≡ false
          differs = (others-differ p paths differ).0

          split : (b : Bool) → has_path paths q ≡ b → (file_in (without_file p files) q ≡ file_in before q) ⊎ ((f : ChangeFile) × (file_in (without_file p files) q ≡ Some f) × (is_remove f.action ≡ true))
          split true has = let m = has-in paths q has in inr (made q, at-then q (differs q m) ∙ found q (inr m), removes q)
          split false out = inl (others-then differs q (λ m. absurd (false≢true (sym out ∙ in-has paths q m))))

      go : (v : Option Refusal) → no_clash (paths_with now (without_file p files)) ≡ v → option_or v (first_path_refused call paths (without_file p files)) ≡ Some r → (first_path_refused call paths (without_file p files) ≡ Some r → Clashed o before r) → Clashed o before r
      go (Some s) here e rest =
          let c = more-clash (paths_with o (without_file p files)) (paths_with o before) (under-has o (without_file p files) before (without-ascends p files up) under) r (ap no_clash (sym (base (without_file p files))) ∙ here ∙ e) in
          record { path = c.0; clash = c.1 }
      go None here e rest = rest e

-- ---- the pair

last-refuses : {A : Type 0} (a b c d e : A → Option Refusal) (x : A) (r : Refusal) → a x ≡ None → b x ≡ None → c x ≡ None → d x ≡ None → e x ≡ Some r → first_of (a ∷ b ∷ c ∷ d ∷ e ∷ []) x ≡ Some r
last-refuses a b c d e x r na nb nc nd re =
    ap (λ v. option_or v (option_or (b x) (option_or (c x) (option_or (d x) (option_or (e x) None))))) na
    ∙ ap (λ v. option_or v (option_or (c x) (option_or (d x) (option_or (e x) None)))) nb
    ∙ ap (λ v. option_or v (option_or (d x) (option_or (e x) None))) nc
    ∙ ap (λ v. option_or v (option_or (e x) None)) nd
    ∙ ap (λ v. option_or v None) re

others-stay : (act : List ℕ → Action) (usage : List ℕ → Usage) (origin : List ℕ → ℕ) (paths : List (List ℕ)) (files : List ChangeFile) (q : List ℕ) → (In paths q → ⊥) → file_in (all_put act usage origin paths files) q ≡ file_in files q
others-stay act usage origin paths files q out = at-puts act usage origin paths files q ∙ go (has_path paths q) refl
  where
    go : (b : Bool) → has_path paths q ≡ b → cond b (Some (file_of act usage origin q)) (file_in files q) ≡ file_in files q
    go true e = absurd (out (has-in paths q e))
    go false e = refl

named-files : (o : Observation) (number : Option ℕ) (n : ℕ) (x : Change) → number ≡ Some n → change_at o n ≡ Some x → files_named o number ≡ x.files
named-files o number n x is at_n = ap (λ (v : Option ℕ). files_named o v) is ∙ ap (λ (v : Option Change). option_map_or (λ (change : Change). change.files) v []) at_n

removal-made : Reversal function.RemoveFile function.RemoveFileUndo
removal-made c d who by when then_ view sight log o events legal stood may accepted undo may_then differ copies =
    let done = occasion_of function.RemoveFile c who when view in
    let undone = occasion_of function.RemoveFileUndo d by then_ sight in
    let p = first-passed log done o events stood accepted in
    let m = named o c.change is_being_developed (change-there (with_function function.RemoveFile c) may.formed.whole refl) p.before.1.0 p.before.1.1.0 in
    let s : Sound o = legal-sound log o legal stood in
    let x = m.change in
    let up = (s.changes.good m.n x m.there).files.ascend in
    let call = call_of o (with_function function.RemoveFile c) who in
    let act : List ℕ → Action = λ (q : List ℕ). action.Remove in
    let usages : List ℕ → Usage = usage_in_baseline call in
    let origin : List ℕ → ℕ = edit_of o in
    let first = filed act usages origin (maker_at done) m.n c.paths in
    let now = after_all o first in
    let next = followed log first in
    let call_then = call_of now (with_function function.RemoveFileUndo d) by in
    let later = with_files (all_put act usages origin c.paths) x in
    let at_later : change_at now m.n ≡ Some later = between act usages origin log done undone o events legal stood may accepted may_then m.n x m.there c.paths in
    let dn : d.change ≡ Some m.n = undo.change ∙ m.is in
    let right : first_path_refused call c.paths x.files ≡ None = on-found paths_are_right call m.n x m.is m.there p.before.1.1.1.1.0 in
    let develops = on-found developer_is_caller call m.n x m.is m.there p.before.1.1.1.0 in
    let none_there : (q : List ℕ) → In c.paths q → file_in x.files q ≡ None =
    absent call (file_of act usages origin) (λ q files e. not-there call q files (both-none (not_in_change call files q) _ (both-none (in_baseline call files q) _ e).1).0) (λ q. refl) (λ q. refl) c.paths x.files right in
    let c1 = project-still o now d (name-still act usages origin o (maker_at done) m.n c.paths) undo.project in
    let c2 = change-still now d.change m.n later dn at_later in
    let c3 = on-named phase_is_right call_then m.n later dn at_later (ap (λ (q : Phase). unless (is_being_developed q) (WrongPhase q)) (developed-is x.phase m.so)) in
    let c4 = on-named developer_is_caller call_then m.n later dn at_later (still-developer who by x undo.who develops) in
    let are : first ≡ events = ap (λ (v : Option ℕ). map (event_by (maker_at done) v) (map (filing act usages origin) c.paths)) (sym m.is) ∙ p.these in
    let follow = first-follows log done o first legal stood may (accepted ∙ ap (λ (es : List Event). Accept es) (sym are)) in
    let same_paths : first_path_refused call_then d.paths later.files ≡ first_path_refused call_then c.paths later.files = ap (λ (ps : List (List ℕ)). first_path_refused call_then ps later.files) undo.paths in
    let give : (v : Option Refusal) → first_path_refused call_then c.paths later.files ≡ v → IsReversed log (followed log events) o done undone =
    λ (v : Option Refusal). elim v as (λ v. first_path_refused call_then c.paths later.files ≡ v → IsReversed log (followed log events) o done undone) [
      | None ↦ λ e. paths-reversed act usages origin log done undone o events legal stood may accepted may_then m.n x m.is dn undo.paths m.there refl (λ next now. refl) none_there refl
          (unrefused (given_at next now undone) refl (c1, (c2, (c3, (c4, (on-named paths_are_right call_then m.n later dn at_later (same_paths ∙ e), tt))))))
      | Some r ↦ λ e.
          let k = clashed o now call_then refl refl (λ files. ap (λ (q : Observation). paths_with q files) (put-all act usages origin c.paths o (maker_at done) m.n)) (file_of act usages origin) (λ q. refl) x.files
          c.paths later.files (puts-ascend act usages origin c.paths x.files up) differ (put-found act usages origin c.paths x.files) none_there (others-stay act usages origin c.paths x.files) r e in
          let given = given_at next now undone in
          let refused : refusal given ≡ Some r = ap (λ v. option_or v (first_of (asked_of_sight function.RemoveFileUndo) given))
          (last-refuses right_project right_change right_phase caller_develops (on_change paths_are_right) call_then r c1 c2 c3 c4
          (ap (λ (v : Option ℕ). option_and_then (paths_are_right call_then) (option_and_then (change_at now) v)) dn ∙ ap (option_and_then (paths_are_right call_then)) at_later ∙ same_paths ∙ e)) in
          subst (λ (es : List Event). IsReversed log (followed log es) o done undone) are
          (inr (
            r,
            ap (λ (v : Option Observation). decided v (version_bytes next) undone) follow.stands ∙ ap (λ v. answer v (events_of given)) refused,
            record {
              removal = refl;
              clash = ap (λ (fs : List ChangeFile). is_some (no_clash (paths_with o fs))) (named-files o c.change m.n x m.is m.there) ∙ k.clash;
              path = k.path;
            },
          ))
    ] in
    give (first_path_refused call_then c.paths later.files) refl

pub reverses-remove_file : ReversesOf function.RemoveFile
reverses-remove_file = reverses-of function.RemoveFile function.RemoveFileUndo refl removal-made
