-- A development that ends and is taken up again at once leaves the log the same.
use Rattle.std.proofs.Common.{◌≡◌, ◌⊎◌, inl, inr, ℕ, ◌-◌, refl, sym, ◌∙◌, ap, subst, List, [], ◌∷◌, ◌++◌, map, Option, Some, None, Bool, true, false, cond, not, ◌&&◌, ◌||◌, nat_eq, eqb-true, slice_get, unwrap_or}
use Rattle.std.specs.Prelude.{is_some, flat_map, IfSome, IsSomeAnd}
use Rattle.std.specs.List.{filter_map}
use Rattle.std.specs.Option.{option_map, option_and_then}
use Rattle.std.proofs.lemmas.Option.{same_Some}
use Rattle.std.proofs.lemmas.Bool.{false≢true}
use Rattle.ae_log.proofs.SoundQuiet.{not-some}
use Rattle.ae_base.specs.Rows.{Rows}
use Rattle.ae_base.specs.declared.words.Phase.{Phase}
use Rattle.ae_base.specs.declared.words.Phase.TheVariants as phase
use Rattle.ae_base.specs.declared.refusal.Refusal.TheVariants.{WrongPhase}
use Rattle.ae_types.specs.declared.change.Change.{Change}
use Rattle.ae_types.specs.declared.change.ChangeAttributes.{ChangeAttributes}
use Rattle.ae_types.specs.declared.change.ChangeFile.{ChangeFile}
use Rattle.ae_types.specs.declared.file_table.FileRow.{FileRow}
use Rattle.ae_types.specs.declared.file_table.FileVersion.{FileVersion}
use Rattle.ae_types.specs.declared.file_table.Lock.{Lock}
use Rattle.ae_types.specs.declared.project.Attributes.{Attributes}
use Rattle.ae_types.specs.declared.project.EndAction.{EndAction}
use Rattle.ae_types.specs.declared.project.EndAction.TheVariants as goto
use Rattle.ae_types.specs.declared.version.VersionRef.{VersionRef}
use Rattle.ae_types.specs.Found.{number_of_change, change_at, change_in, file_path, file_in, has_file, lock_path, lock_in}
use Rattle.ae_types.specs.Observation.{Observation}
use Rattle.ae_types.specs.Phases.{has_reviewer, may_be_reviewing, holds_locks, is_remove}
use Rattle.ae_types.specs.Sound.{Sound}
use Rattle.ae_types.specs.Versions.{live}
use Rattle.ae_types.proofs.Keys.{by_text, by_number}
use Rattle.ae_types.proofs.Members.{In, in-either, flat-in, some-in, map-in}
use Rattle.ae_types.proofs.Ordered.{Ascends, at-filter, filter-ascends, if_so, ascending-is, none-some}
use Rattle.ae_types.proofs.Searched.{in-found}
use Rattle.ae_types.specs.Frozen.{Version, frozen_file, version_of, ref_of, present}
use Rattle.ae_log.specs.declared.event.Event.{Event}
use Rattle.ae_log.specs.declared.event.EventKind.TheVariants as on
use Rattle.ae_log.specs.After.{after, change_after, where_number, thawed, frozen_as, with_locks, without_locks, files_of}
use Rattle.ae_log.specs.Applies.{comes_in, MayEnd, is_being_developed, is_awaiting_review, is_being_reviewed, is_awaiting_integration}
use Rattle.ae_log.specs.Baseline.{Entry, past}
use Rattle.ae_log.specs.Files.{FileFact, file, frozen, paths, course_paths, versions, version_bytes}
use Rattle.ae_log.specs.Log.{Log, Course, course, followed}
use Rattle.ae_log.specs.Observed.{observation, observation_with, change, change_with, change_file, change_file_of, change_files, frozen_version, file_row, file_version, lock_of}
use Rattle.ae_log.specs.Phases.{phase_of}
use Rattle.ae_log.specs.Settings.{change_attributes, change_numbers}
use Rattle.ae_log.specs.Maker.{Maker, event_by}
use Rattle.ae_log.proofs.ChangeSteps.{developed-is}
use Rattle.ae_log.proofs.LockSteps.{at-with_locks, with_locks-ascends}
use Rattle.ae_log.proofs.Steps.{of_change, attributes-of}
use Rattle.ae_words.specs.declared.table.Function.TheVariants as function
use Rattle.ae_machine.specs.declared.verdict.Verdict.TheVariants.{Accept}
use Rattle.ae_machine.specs.Call.{call_of, unless}
use Rattle.ae_machine.specs.Laws.{ReversesOf, IsReversed}
use Rattle.ae_machine.specs.Legal.{MayCome, maker_at}
use Rattle.ae_machine.specs.Permission.{phase_is_right, developer_is_caller}
use Rattle.ae_machine.specs.Same.{without_history, without_histories, SameBytes}
use Rattle.ae_machine.specs.Sight.{change_tree}
use Rattle.ae_machine.specs.Space.{placing}
use Rattle.ae_machine.specs.Verdict.{ends, next_phase}
use Rattle.ae_machine.proofs.Accepted.{change-there, with_function}
use Rattle.ae_machine.proofs.AcceptedPaths.{changed-at}
use Rattle.ae_machine.proofs.Lists.{members-all}
use Rattle.ae_machine.proofs.EndPlaces.{made-is}
use Rattle.ae_machine.proofs.LegalRightly.{legal-sound}
use Rattle.ae_machine.proofs.Reversing.{Reversal, reverses-of, given_at, first-passed, first-applies, reversed-at, unrefused, occasion_of, named, project-still, change-still, on-named, there-and-back}
use Rattle.ae_laws.proofs.ReversedFiles.{still-developer, on-found}
use Rattle.ae_machine.proofs.StoredVersions.{IsStored, get-more, frozen-stored, past-stored}

-- ---- the versions that stand have their bytes in the log

-- the log has bytes at the number
abbrev pub HasBytes : Log → VersionRef → Type 0
HasBytes log version = (bytes : List ℕ) × (slice_get (versions log) (version.number - 1) ≡ Some bytes)

has-bytes : (log : Log) (w : Version) (v : VersionRef) → ref_of w ≡ v → IsStored log w → HasBytes log v
has-bytes log w v is stored = (w.bytes, ap (λ (u : VersionRef). slice_get (versions log) (u.number - 1)) (sym is) ∙ stored)

row-past : (p : List ℕ) (entries : List Entry) (row : FileRow) → file_row p entries ≡ Some row → row.past ≡ map file_version entries
row-past p [] row e = none-some row e
row-past p (x ∷ xs) row e = ap (λ (r : FileRow). r.past) (sym (same_Some _ row e))

table-bytes : (log : Log) (row : FileRow) (v : VersionRef) → In (filter_map (λ p. file_row p (past log p)) (paths log)) row → In (filter_map (λ (entry : FileVersion). entry.version) row.past) v → HasBytes log v
table-bytes log row v in_rows in_past =
    let p = some-in (λ p. file_row p (past log p)) (paths log) row in_rows in
    let entry = some-in (λ (entry : FileVersion). entry.version) row.past v in_past in
    let made = map-in file_version (past log p.0) entry.0 (subst (λ (es : List FileVersion). In es entry.0) (row-past p.0 (past log p.0) row p.2) entry.1) in
    let w = made-is made.0.version v (ap (λ (x : FileVersion). x.version) made.2 ∙ entry.2) in
    has-bytes log w.0 v w.2 (past-stored log p.0 made.0 made.1 w.0 w.1)

files-are : (n : ℕ) (ss : Course) (x : Change) → change n ss ≡ Some x → x.files ≡ change_files ss
files-are n ss x e = go (change_attributes ss) e
  where
    go : (v : Option ChangeAttributes) → option_map (change_with n ss) v ≡ Some x → x.files ≡ change_files ss
    go (Some a) e = ap (λ (y : Change). y.files) (sym (same_Some (change_with n ss a) x e))
    go None e = none-some x e

frozen-is : (ss : Course) (p : List ℕ) (f : ChangeFile) → change_file ss p ≡ Some f → f.frozen ≡ frozen_version ss p
frozen-is ss p f e = go (file ss p) e
  where
    go : (v : Option FileFact) → option_map (change_file_of p (frozen_version ss p)) v ≡ Some f → f.frozen ≡ frozen_version ss p
    go (Some fact) e = ap (λ (g : ChangeFile). g.frozen) (sym (same_Some (change_file_of p (frozen_version ss p) fact) f e))
    go None e = none-some f e

frozen-bytes : (log : Log) (x : Change) (v : VersionRef) → In (filter_map (λ n. change n (course log n)) change_numbers) x → In (filter_map (λ (f : ChangeFile). f.frozen) x.files) v → HasBytes log v
frozen-bytes log x v in_changes in_files =
    let n = some-in (λ n. change n (course log n)) change_numbers x in_changes in
    let ss = course log n.0 in
    let f = some-in (λ (f : ChangeFile). f.frozen) x.files v in_files in
    let p = some-in (change_file ss) (course_paths ss) f.0 (subst (λ (fs : List ChangeFile). In fs f.0) (files-are n.0 ss x n.2) f.1) in
    go n.0 p.0 (holds_locks (phase_of ss)) (sym (frozen-is ss p.0 f.0 p.2) ∙ f.2)
  where
    go : (n : ℕ) (p : List ℕ) (b : Bool) → cond b (option_map ref_of (version_of (frozen_file (frozen (course log n)) p))) None ≡ Some v → HasBytes log v
    go n p true e = let w = made-is (version_of (frozen_file (frozen (course log n)) p)) v e in has-bytes log w.0 v w.2 (frozen-stored log n p w.0 w.1)
    go n p false e = none-some v e

live-bytes : (log : Log) (o : Observation) → observation log ≡ Some o → (v : VersionRef) → In (live o.files o.changes) v → HasBytes log v
live-bytes log o stood v h =
    let w = attributes-of log o stood in
    of w.0 (subst (λ (q : Observation). In (live q.files q.changes) v) (sym w.2) h)
  where
    of : (a : Attributes) → In (live (observation_with log a).files (observation_with log a).changes) v → HasBytes log v
    of a h = go (in-either (flat_map (λ (row : FileRow). filter_map (λ (entry : FileVersion). entry.version) row.past) (observation_with log a).files) (flat_map (λ (x : Change). filter_map (λ (f : ChangeFile). f.frozen) x.files) (observation_with log a).changes) v h)
      where
        go : In (flat_map (λ (row : FileRow). filter_map (λ (entry : FileVersion). entry.version) row.past) (observation_with log a).files) v ⊎ In (flat_map (λ (x : Change). filter_map (λ (f : ChangeFile). f.frozen) x.files) (observation_with log a).changes) v → HasBytes log v
        go (inl m) = let r = flat-in (λ (row : FileRow). filter_map (λ (entry : FileVersion). entry.version) row.past) (observation_with log a).files v m in table-bytes log r.0 v r.1 r.2
        go (inr m) = let r = flat-in (λ (x : Change). filter_map (λ (f : ChangeFile). f.frozen) x.files) (observation_with log a).changes v m in frozen-bytes log r.0 v r.1 r.2

-- histories say nothing of versions
frozen-in-all : (changes : List Change) → flat_map (λ (x : Change). filter_map (λ (f : ChangeFile). f.frozen) x.files) (map without_history changes) ≡ flat_map (λ (x : Change). filter_map (λ (f : ChangeFile). f.frozen) x.files) changes
frozen-in-all [] = refl
frozen-in-all (x ∷ changes) = ap (λ vs. filter_map (λ (f : ChangeFile). f.frozen) x.files ++ vs) (frozen-in-all changes)

live-same : (o now : Observation) → without_histories now ≡ without_histories o → live now.files now.changes ≡ live o.files o.changes
live-same o now same =
    sym (live-history now) ∙ ap (λ (q : Observation). live q.files q.changes) same ∙ live-history o
  where
    live-history : (q : Observation) → live q.files (map without_history q.changes) ≡ live q.files q.changes
    live-history q = ap (λ vs. flat_map (λ (row : FileRow). filter_map (λ (entry : FileVersion). entry.version) row.past) q.files ++ vs) (frozen-in-all q.changes)

-- more versions leave the bytes of those that stood
more-bytes : (log later : Log) (more : List (List ℕ)) → versions later ≡ versions log ++ more → (v : VersionRef) → HasBytes log v → version_bytes later v.number ≡ version_bytes log v.number
more-bytes log later more are v has =
    ap (λ (vs : List (List ℕ)). unwrap_or (slice_get vs (v.number - 1)) []) are
    ∙ ap (λ (b : Option (List ℕ)). unwrap_or b []) (get-more (versions log) more (v.number - 1) has.0 has.1 ∙ sym has.1)

end-bytes : (log later : Log) (o now : Observation) (more : List (List ℕ)) → observation log ≡ Some o → versions later ≡ versions log ++ more → without_histories now ≡ without_histories o → SameBytes (version_bytes later) (version_bytes log) (Some now)
end-bytes log later o now more stood are same = members-all (λ (v : VersionRef). version_bytes later v.number ≡ version_bytes log v.number) (live now.files now.changes)
    (λ v m. more-bytes log later more are v (live-bytes log o stood v (subst (λ (vs : List VersionRef). In vs v) (live-same o now same) m)))

-- ---- locks that are taken and given back

taken-and-freed : (n : ℕ) (files : List ChangeFile) (locks : List Lock) → Ascends by_text lock_path locks → ((q : List ℕ) (f : ChangeFile) → file_in files q ≡ Some f → lock_in locks q ≡ None)
    → ((q : List ℕ) (l : Lock) → lock_in locks q ≡ Some l → nat_eq n l.change ≡ false) → without_locks n (with_locks n files locks) ≡ locks
taken-and-freed n files locks up free others = ascending-is by_text lock_path (without_locks n (with_locks n files locks)) locks (filter-ascends by_text lock_path (λ (l : Lock). not (nat_eq n l.change)) (with_locks n files locks) (with_locks-ascends n files locks up)) up
    (λ q. at-filter by_text lock_path (λ (l : Lock). not (nat_eq n l.change)) q (with_locks n files locks) (with_locks-ascends n files locks up)
    ∙ ap (if_so by_text lock_path (λ (l : Lock). not (nat_eq n l.change))) (at-with_locks n files locks q) ∙ go q (file_in files q) refl (lock_in locks q) refl)
  where
    go : (q : List ℕ) (f : Option ChangeFile) → file_in files q ≡ f → (v : Option Lock) → lock_in locks q ≡ v → if_so by_text lock_path (λ (l : Lock). not (nat_eq n l.change)) (cond (is_some f) (Some (lock_of q n)) v) ≡ v
    go q (Some f) ef v ev = ap (λ b. cond (not b) (Some (lock_of q n)) None) (by_number.same_self n) ∙ sym (sym ev ∙ free q f ef)
    go q None ef (Some l) ev = ap (λ b. cond (not b) (Some l) None) (others q l ev)
    go q None ef None ev = refl

-- ---- the files

thawed-again : (next : ℕ) (tree : Rows) (places : List ℕ) (files : List ChangeFile) → ((f : ChangeFile) → In files f → f.frozen ≡ None) → map thawed (map (frozen_as next tree places) files) ≡ files
thawed-again next tree places [] h = refl
thawed-again next tree places (f ∷ files) h = λ i. record f { frozen = sym (h f (inl refl)) i } ∷ thawed-again next tree places files (λ g m. h g (inr m)) i

-- ---- the pair

may-be-resumed : (action : EndAction) → (is_awaiting_review (next_phase action) || is_being_reviewed (next_phase action) || is_awaiting_integration (next_phase action)) ≡ true
may-be-resumed goto.BeingReviewed = refl
may-be-resumed goto.AwaitingReview = refl
may-be-resumed goto.AwaitingIntegration = refl

-- what stands after both is what stood
ended-and-resumed : (o : Observation) → Sound o → (n : ℕ) (x : Change) → change_at o n ≡ Some x → x.phase ≡ phase.BeingDeveloped → (maker undoing : Maker) (tree : Rows) (to : Phase) (places : List ℕ) → MayEnd o x tree to places
    → without_histories (after (after o (of_change maker n (on.End tree to places))) (of_change undoing n on.EndUndo)) ≡ without_histories o
ended-and-resumed o s n x at_n is maker undoing tree to places may = λ i. record (without_histories o) { locks = locks i; changes = changes i }
  where
    first : Event
    first = of_change maker n (on.End tree to places)

    good-files : (f : ChangeFile) → In x.files f → f.frozen ≡ None
    good-files f m = not-some f.frozen ((s.changes.good n x at_n).files.frozen f.path f (in-found by_text file_path x.files (s.changes.good n x at_n).files.ascend f m) ∙ ap (λ p. holds_locks p && not (is_remove f.action)) is)

    nobody : x.reviewing ≡ None
    nobody = (s.changes.good n x at_n).people.reviewing (ap may_be_reviewing is)

    unpassed : x.reviewer ≡ None
    unpassed = not-some x.reviewer ((s.changes.good n x at_n).people.reviewer ∙ ap (λ p. has_reviewer p x.history) is)

    -- a lock is another change's
    other : (q : List ℕ) (l : Lock) → lock_in o.locks q ≡ Some l → nat_eq n l.change ≡ false
    other q l e = go (nat_eq n l.change) refl
      where
        held : (y : Option Change) → y ≡ Some x → IfSome y (λ (change : Change). (holds_locks change.phase ≡ true) × (has_file change q ≡ true)) → ⊥
        held (Some y) same h = absurd (false≢true (sym (ap holds_locks is) ∙ ap (λ (z : Change). holds_locks z.phase) (sym (same_Some y x same)) ∙ h.0))
        held None same h = none-some x same

        go : (b : Bool) → nat_eq n l.change ≡ b → b ≡ false
        go true same = absurd (held (change_in o.changes l.change) (ap (change_in o.changes) (sym (eqb-true n l.change same)) ∙ at_n) (s.locks.held q l e))
        go false same = refl

    locks : without_locks n (with_locks n (files_of (change_at o n)) o.locks) ≡ o.locks
    locks = ap (λ (y : Option Change). without_locks n (with_locks n (files_of y) o.locks)) at_n ∙ taken-and-freed n x.files o.locks s.locks.ascend may.free other

    changes : map without_history (map (where_number n (change_after (after o (of_change maker n (on.End tree to places))).project.next_version (of_change undoing n on.EndUndo))) (map (where_number n (change_after o.project.next_version (of_change maker n (on.End tree to places)))) o.changes)) ≡ map without_history o.changes
    changes = there-and-back n (change_after o.project.next_version (of_change maker n (on.End tree to places))) (change_after (after o (of_change maker n (on.End tree to places))).project.next_version (of_change undoing n on.EndUndo)) x (λ y. refl)
        (λ i. record (without_history x) { phase = sym is i; reviewing = sym nobody i; reviewer = sym unpassed i; files = thawed-again o.project.next_version tree places x.files good-files i }) o.changes
        (λ y m e. same_Some y x (sym (in-found by_number number_of_change o.changes s.changes.ascend y m) ∙ ap (change_in o.changes) (sym (by_number.same_is n y.number e)) ∙ at_n))

development-ended : Reversal function.DevelopEnd function.DevelopEndUndo
development-ended c d who by when then_ view sight log o events legal stood may accepted undo may_then differ copies =
    let done = occasion_of function.DevelopEnd c who when view in
    let undone = occasion_of function.DevelopEndUndo d by then_ sight in
    let p = first-passed log done o events stood accepted in
    let m = named o c.change is_being_developed (change-there (with_function function.DevelopEnd c) may.formed.whole refl) p.before.1.0 p.before.1.1.0 in
    let s : Sound o = legal-sound log o legal stood in
    let x = m.change in
    let given = given_at log o done in
    let tree = change_tree given x in
    let to = next_phase o.project.attributes.develop_end_action in
    let places = unwrap_or (placing o tree) [] in
    let first = of_change (maker_at done) m.n (on.End tree to places) in
    let second = of_change (maker_at undone) m.n on.EndUndo in
    let now = after o first in
    let later = change_after o.project.next_version first x in
    let at_later : change_at now m.n ≡ Some later = changed-at o.changes m.n (change_after o.project.next_version first) (λ y. refl) x m.there in
    let is : x.phase ≡ phase.BeingDeveloped = developed-is x.phase m.so in
    let dn : d.change ≡ Some m.n = undo.change ∙ m.is in
    let are : first ∷ [] ≡ events = ap (λ (v : Option Change). map (event_by (maker_at done) (Some m.n)) (ends given v)) (sym m.there) ∙ ap (λ (v : Option ℕ). map (event_by (maker_at done) v) (ends given (option_and_then (change_at o) v))) (sym m.is) ∙ p.these in
    let accepted_first = accepted ∙ ap (λ (es : List Event). Accept es) (sym are) in
    let applies = first-applies log done o (first ∷ []) legal stood may accepted_first in
    let ready = subst (λ (v : Option Change). IsSomeAnd v (λ (change : Change). (comes_in (on.End tree to places) change.phase ≡ true) × MayEnd o change tree to places)) m.there applies.0.comes in
    let same : without_histories (after now second) ≡ without_histories o = ended-and-resumed o s m.n x m.there is (maker_at done) (maker_at undone) tree to places ready.1 in
    let develops = on-found developer_is_caller (call_of o (with_function function.DevelopEnd c) who) m.n x m.is m.there p.before.1.1.1.1.0 in
    let call = call_of now (with_function function.DevelopEndUndo d) by in
    subst (λ (es : List Event). IsReversed log (followed log es) o done undone) are
    (reversed-at log done undone o (first ∷ []) (second ∷ []) legal stood may accepted_first (subst (λ (es : List Event). MayCome (followed log es) undone) (sym are) may_then)
    (unrefused (given_at (first ∷ log) now undone) refl (
      project-still o now d refl undo.project,
      (
        change-still now d.change m.n later dn at_later,
        (
          on-named phase_is_right call m.n later dn at_later (ap (λ b. unless b (WrongPhase to)) (may-be-resumed o.project.attributes.develop_end_action)),
          (on-named developer_is_caller call m.n later dn at_later (still-developer who by x undo.who develops), tt),
        ),
      ),
    ))
    refl
    (ap (λ (v : Option ℕ). event_by (maker_at undone) v on.EndUndo ∷ []) dn)
    same
    (end-bytes log (second ∷ first ∷ log) o (after now second) (present tree) stood refl same))

pub reverses-develop_end : ReversesOf function.DevelopEnd
reverses-develop_end = reverses-of function.DevelopEnd function.DevelopEndUndo refl development-ended
