-- After a log whose events came rightly each delta is shown.
use Rattle.std.proofs.Common.{◌≡◌, ℕ, ◌+◌, ◌-◌, ◌≤◌, refl, sym, ◌∙◌, ap, subst, List, [], ◌∷◌, ◌++◌, Option, Some, None, Bool, true, false, cond, nat_eq, length, length-append, arith}
use Rattle.std.specs.Prelude.{is_some, IsSomeAnd}
use Rattle.std.specs.List.{list_all}
use Rattle.std.specs.Option.{option_map}
use Rattle.std.specs.Str.{bytes_eq}
use Rattle.std.proofs.lemmas.Bool.{false≢true}
use Rattle.std.proofs.lemmas.Option.{same_Some}
use Rattle.ae_base.specs.declared.words.Ground.TheVariants.{Integrate}
use Rattle.ae_base.specs.declared.words.Phase.{Phase}
use Rattle.ae_base.specs.declared.words.Phase.TheVariants as phase
use Rattle.ae_base.specs.declared.words.Role.{Role}
use Rattle.ae_base.specs.declared.words.Role.TheVariants.{Administrator, Developer, Reviewer, Integrator}
use Rattle.ae_base.specs.declared.words.What.TheVariants.{IntegratePass}
use Rattle.ae_types.specs.declared.change.Change.{Change}
use Rattle.ae_types.specs.declared.change.ChangeFile.{ChangeFile}
use Rattle.ae_types.specs.declared.file_table.FileRow.{FileRow}
use Rattle.ae_types.specs.declared.project.DeltaRow.{DeltaRow}
use Rattle.ae_types.specs.declared.project.Project.{Project}
use Rattle.ae_types.specs.Found.{number_of_change, file_path, change_at}
use Rattle.ae_types.specs.Observation.{Observation}
use Rattle.ae_types.specs.Phases.{has_reviewer, is_completed, is_integrating}
use Rattle.ae_types.specs.Roles.{with_users}
use Rattle.ae_types.specs.Runs.{required, missing, has_counting}
use Rattle.ae_types.specs.Sound.{Sound}
use Rattle.ae_types.specs.Trees.{last_delta, tree_at, baseline_of, candidate_of}
use Rattle.ae_types.proofs.Keys.{by_number, by_text}
use Rattle.ae_types.proofs.Members.{in-all}
use Rattle.ae_types.proofs.Ordered.{Ascends, found-key, none-some}
use Rattle.ae_types.proofs.Splits.{to-is, from-is}
use Rattle.ae_log.specs.declared.event.Event.{Event}
use Rattle.ae_log.specs.declared.event.EventKind.{EventKind}
use Rattle.ae_log.specs.declared.event.EventKind.TheVariants as on
use Rattle.ae_log.specs.After.{after, change_after, rows_after, project_after, where_number, started_by, all_entered, files_of}
use Rattle.ae_log.specs.Applies.{Applies, AppliesTo, comes_in, IsProject}
use Rattle.ae_log.specs.Log.{Log, Happened, course, standing, who_of}
use Rattle.ae_log.specs.Observed.{observation, change}
use Rattle.ae_log.specs.People.{reviewer_mark}
use Rattle.ae_log.specs.Maker.{Maker, event_by, maker_of}
use Rattle.ae_log.proofs.ChangeSteps.{integrated-is}
use Rattle.ae_log.proofs.Following.{follows}
use Rattle.ae_log.proofs.OneChange.{in-own}
use Rattle.ae_log.proofs.PassedTree.{passed-tree}
use Rattle.ae_log.proofs.ProjectSteps.{begins}
use Rattle.ae_log.proofs.Steps.{IsOf, of_change, attributes-of, found-is, found, other-fact}
use Rattle.ae_evidence.specs.Digest.{digest_rows}
use Rattle.ae_machine.specs.Facts.{FactsAt, Facts, SeenBy, ComesAfter, Rightly}
use Rattle.ae_machine.proofs.CandidateStands.{is-of}
use Rattle.ae_machine.proofs.FactSteps.{facts}
use Rattle.ae_machine.proofs.LegalRightly.{rightly}
use Rattle.ae_machine.proofs.Provided.{none-missing}
use Rattle.ae_audit.specs.declared.certificate.Mark.{Mark}
use Rattle.ae_audit.specs.declared.certificate.Mark.TheVariants as marks
use Rattle.ae_audit.specs.Required.{required_over}
use Rattle.ae_audit.specs.Review.{Fits, passer_of}
use Rattle.ae_audit.specs.Shown.{ShownBy, AllShown}
use Rattle.ae_audited.specs.Laws.{LegalIsShown}
use Rattle.ae_audited.proofs.EarlierTrees.{earlier-tree}
use Rattle.ae_audited.proofs.PassedBy.{passed-by-nobody, passed-more, pass-passed}
use Rattle.ae_audited.proofs.Thawed.{IsThawed, thawed-tests, thawed-required}

-- ---- a delta that was made

-- its change is completed, which shows it, and it isn't after the last
record Stays (o : Observation) (row : DeltaRow) (x : Change) : Type 0 where
  pub completed : is_completed x.phase ≡ true
  pub low : row.delta ≤ last_delta o
  pub mark : Mark
  pub shown : ShownBy o.files row.delta x mark

abbrev Old : Observation → DeltaRow → Type 0
Old o row = IsSomeAnd (change_at o row.change) (Stays o row)

abbrev AllOld : Observation → List DeltaRow → Type 0
AllOld o [] = Unit {0}
AllOld o (row ∷ rows) = Old o row × AllOld o rows

all-more : (o : Observation) (rows : List DeltaRow) (row : DeltaRow) → AllOld o rows → Old o row → AllOld o (rows ++ row ∷ [])
all-more o [] row all new = (new, tt)
all-more o (first ∷ rows) row all new = (all.0, all-more o rows row all.1 new)

all-shown : (o : Observation) (rows : List DeltaRow) → AllOld o rows → AllShown o rows
all-shown o [] all = tt
all-shown o (row ∷ rows) all =
    let x = from-is (Stays o row) (change_at o row.change) all.0 in
    let stays = x.2 in
    ((stays.mark, to-is (λ change. ShownBy o.files row.delta change stays.mark) (change_at o row.change) x.0 x.1 stays.shown), all-shown o rows all.1)

-- what stays of those that were made: the trees up to the last, and the completed changes
record Leaves (o later : Observation) : Type 0 where
  pub no_fewer : last_delta o ≤ last_delta later
  pub trees : (m : ℕ) → m ≤ last_delta o → tree_at m later.files ≡ tree_at m o.files
  pub changes : (m : ℕ) (x : Change) → change_at o m ≡ Some x → is_completed x.phase ≡ true → change_at later m ≡ Some x

old-stays : (o later : Observation) → Leaves o later → (rows : List DeltaRow) → AllOld o rows → AllOld later rows
old-stays o later l [] all = tt
old-stays o later l (row ∷ rows) all =
    let x = from-is (Stays o row) (change_at o row.change) all.0 in
    let stays = x.2 in
    let shown = stays.shown in
    let at = l.trees row.delta stays.low in
    let before = l.trees (row.delta - 1) (let low = stays.low in omega (arith, low)) in
    let now : Stays later row x.0 = record {
      completed = stays.completed;
      low = let low = stays.low in let more = l.no_fewer in omega (arith, low, more);
      mark = stays.mark;
      shown = record {
        runs = (λ i. list_all (has_counting x.0 Integrate (digest_rows (at i))) (required_over (before i) x.0)) ∙ shown.runs;
        tests = shown.tests;
        fits = shown.fits;
      };
    } in
    (to-is (Stays later row) (change_at later row.change) x.0 (l.changes row.change x.0 x.1 stays.completed) now, old-stays o later l rows all.1)

-- ---- what an event leaves

-- none comes to a completed change
never : (kind : EventKind) → comes_in kind phase.Completed ≡ true → ⊥
never on.NewUndo e = false≢true e
never _ e = false≢true e

completed-is : (p : Phase) → is_completed p ≡ true → p ≡ phase.Completed
completed-is phase.Completed e = refl
completed-is _ e = cc

apart : (o : Observation) (n : ℕ) (kind : EventKind) → Sound o → AppliesTo o n kind → (m : ℕ) (x : Change) → change_at o m ≡ Some x → is_completed x.phase ≡ true → m ≡ n → ⊥
apart o n (on.New attributes) s a m x e c is = false≢true (sym a.1 ∙ s.changes.numbered n x (ap (change_at o) (sym is) ∙ e))
apart o n kind s a m x e c is =
    let y = from-is _ (change_at o n) a in
    let same : y.0 ≡ x = same_Some y.0 x (sym y.1 ∙ ap (change_at o) (sym is) ∙ e) in
    never kind (ap (comes_in kind) (sym (completed-is x.phase c)) ∙ ap (λ (z : Change). comes_in kind z.phase) (sym same) ∙ y.2.0)

-- a change that isn't the event's is as before
other-change : (log : Log) (maker : Maker) (n : ℕ) (kind : EventKind) (o later : Observation) → observation log ≡ Some o → observation (of_change maker n kind ∷ log) ≡ Some later
    → (m : ℕ) (x : Change) → change_at o m ≡ Some x → (m ≡ n → ⊥) → change_at later m ≡ Some x
other-change log maker n kind o later stood stands m x e differs =
    let w = attributes-of log o stood in
    let v = attributes-of (of_change maker n kind ∷ log) later stands in
    let here : IsOf log m x = found-is log w.0 m x (ap (λ (q : Observation). change_at q m) w.2 ∙ e) in
    ap (λ (q : Observation). change_at q m) (sym v.2)
    ∙ found (of_change maker n kind ∷ log) v.0 m here.numbered
    ∙ other-fact (change m) log maker n kind m differs
    ∙ sym (found log w.0 m here.numbered)
    ∙ ap (λ (q : Observation). change_at q m) w.2 ∙ e

abbrev passes : EventKind → Bool
passes on.IPass = true
passes _ = false

rows-stay : (kind : EventKind) (delta : ℕ) (fs : List ChangeFile) (rows : List FileRow) → passes kind ≡ false → rows_after kind delta fs rows ≡ rows
rows-stay on.IPass delta fs rows e = absurd (false≢true (sym e))
rows-stay _ delta fs rows e = refl

roles-stay : (role : Role) (users : List (List ℕ)) (p : Project) → (with_users role users p).deltas ≡ p.deltas
roles-stay Administrator users p = refl
roles-stay Developer users p = refl
roles-stay Reviewer users p = refl
roles-stay Integrator users p = refl

deltas-stay : (event : Event) (kind : EventKind) (p : Project) → passes kind ≡ false → (project_after event kind p).deltas ≡ p.deltas
deltas-stay event on.IPass p e = absurd (false≢true (sym e))
deltas-stay event (on.RoleAdd role user) p e = roles-stay role _ p
deltas-stay event (on.RoleDrop role user) p e = roles-stay role _ p
deltas-stay event _ p e = refl

-- an event of a change that isn't the pass of its integration
quiet : (log : Log) (maker : Maker) (n : ℕ) (kind : EventKind) → passes kind ≡ false → (o : Observation) → observation log ≡ Some o → Sound o → Applies o (of_change maker n kind)
    → AllOld o o.project.deltas → AllOld (after o (of_change maker n kind)) (after o (of_change maker n kind)).project.deltas
quiet log maker n kind none o stood s a all =
    let event = of_change maker n kind in
    let later = after o event in
    let same_deltas : later.project.deltas ≡ o.project.deltas = deltas-stay event kind o.project none in
    let same_files : later.files ≡ o.files = rows-stay kind _ _ o.files none in
    let leaves : Leaves o later = record {
      no_fewer = let same : length later.project.deltas ≡ length o.project.deltas = ap length same_deltas in omega (arith, same);
      trees = λ m low. ap (tree_at m) same_files;
      changes = λ m x e c. other-change log maker n kind o later stood (follows log event o stood s a) m x e (apart o n kind s a.comes m x e c);
    } in
    subst (AllOld later) (sym same_deltas) (old-stays o later leaves o.project.deltas all)

-- an event of no change
of-project : (event : Event) → event.change ≡ None → (o : Observation) → passes event.what ≡ false → AllOld o o.project.deltas → AllOld (record o { project = project_after event event.what o.project }) (project_after event event.what o.project).deltas
of-project event alone o none all =
    let later : Observation = record o { project = project_after event event.what o.project } in
    let same_deltas : later.project.deltas ≡ o.project.deltas = deltas-stay event event.what o.project none in
    let leaves : Leaves o later = record {
      no_fewer = let same : length later.project.deltas ≡ length o.project.deltas = ap length same_deltas in omega (arith, same);
      trees = λ m low. refl;
      changes = λ m x e c. e;
    } in
    subst (AllOld later) (sym same_deltas) (old-stays o later leaves o.project.deltas all)

-- ---- the pass of an integration

module _ (log : Log) (maker : Maker) (n : ℕ) (o : Observation) (stood : observation log ≡ Some o) (s : Sound o) (a : Applies o (of_change maker n on.IPass)) (x : Change) (at_n : change_at o n ≡ Some x)
    (right : is_integrating x.phase ≡ true) (runs : missing o x Integrate (digest_rows (candidate_of o x)) ≡ None) (f : FactsAt log n) where
  abbrev passing : Event
  passing = of_change maker n on.IPass

  abbrev later : Observation
  later = after o passing

  abbrev last : ℕ
  last = last_delta o

  abbrev y : Change
  y = change_after o.project.next_version passing x

  here : IsOf log n x
  here = is-of log o n x stood at_n

  phase_is : x.phase ≡ phase.BeingIntegrated
  phase_is = integrated-is x.phase right

  -- ---- the trees

  files_is : later.files ≡ all_entered (last + 1) x.files o.files
  files_is = ap (λ (v : Option Change). all_entered (last + 1) (files_of v) o.files) at_n

  files_up : Ascends by_text file_path x.files
  files_up = (s.changes.good n x at_n).files.ascend

  trees : (m : ℕ) → m ≤ last → tree_at m later.files ≡ tree_at m o.files
  trees m low = ap (tree_at m) files_is ∙ earlier-tree x.files o.files (last + 1) m (omega (arith, low)) s.rows.ascend files_up

  new_tree : tree_at (last + 1) later.files ≡ candidate_of o x
  new_tree = ap (tree_at (last + 1)) files_is ∙ passed-tree x o.files last s.rows.ascend files_up s.rows.good

  -- ---- the change

  thawed : IsThawed x y
  thawed = record { settings = refl; files = refl }

  at_later : change_at later n ≡ Some y
  at_later = in-own n (change_after o.project.next_version passing) (λ z. refl) o.changes n
      ∙ ap (option_map (where_number n (change_after o.project.next_version passing))) at_n
      ∙ ap (λ (b : Bool). Some (cond b y x)) (ap (nat_eq n) (found-key by_number number_of_change n o.changes x at_n) ∙ by_number.same_self n)

  -- ---- the review

  passed_is : (user : List ℕ) → x.reviewer ≡ Some user → passer_of y.history ≡ Some user
  passed_is user is = go (standing reviewer_mark (course log n)) refl (sym (ap (λ (z : Change). z.reviewer) here.is) ∙ is)
    where
      go : (v : Option Happened) → standing reviewer_mark (course log n) ≡ v → who_of v ≡ Some user → passer_of y.history ≡ Some user
      go (Some pass) stands e =
          passed-more None x.history (record { what = IntegratePass; who = maker.who; when = maker.when; why = maker.why })
          ∙ ap (λ (z : Change). passer_of z.history) here.is
          ∙ pass-passed (course log n) pass stands (f.review pass stands).last ∙ e
      go None stands e = none-some user e

  -- there is no reviewer where nobody passed it
  unpassed : x.reviewer ≡ None → passer_of y.history ≡ None
  unpassed none =
      passed-more None x.history (record { what = IntegratePass; who = maker.who; when = maker.when; why = maker.why })
      ∙ passed-by-nobody x.history (sym ((s.changes.good n x at_n).people.reviewer ∙ ap (λ (p : Phase). has_reviewer p x.history) phase_is) ∙ ap (λ (v : Option (List ℕ)). is_some v) none)

  fits : (mark : Mark) × Fits y mark
  fits = by_reviewer x.reviewer refl
    where
      by_developer : (user : List ℕ) → x.reviewer ≡ Some user → (v : Option (List ℕ)) → x.developer ≡ v → (mark : Mark) × Fits y mark
      by_developer user is None none = (marks.Other user, (is, passed_is user is, λ same. none-some user (sym none ∙ same)))
      by_developer user is (Some developer) there = go (bytes_eq developer user) refl
        where
          go : (b : Bool) → bytes_eq developer user ≡ b → (mark : Mark) × Fits y mark
          go true e = (marks.Developer user, (is, passed_is user is, there ∙ ap (λ (u : List ℕ). Some u) (by_text.same_is developer user e)))
          go false e = (marks.Other user, (is, passed_is user is, λ same. false≢true (sym e ∙ ap (bytes_eq developer) (sym (same_Some developer user (sym there ∙ same))) ∙ by_text.same_self developer)))

      by_reviewer : (v : Option (List ℕ)) → x.reviewer ≡ v → (mark : Mark) × Fits y mark
      by_reviewer (Some user) is = by_developer user is x.developer refl
      by_reviewer None is = (marks.Nobody, (is, unpassed is))

  -- ---- the new delta

  abbrev row : DeltaRow
  row = record { delta = last + 1; change = n; when = maker.when; who = maker.who }

  counted : list_all (has_counting x Integrate (digest_rows (candidate_of o x))) (required_over (baseline_of o) x) ≡ true
  counted = in-all (has_counting x Integrate (digest_rows (candidate_of o x))) (required o x) (none-missing o x (digest_rows (candidate_of o x)) runs).all

  over : required_over (tree_at (last + 1 - 1) later.files) y ≡ required_over (baseline_of o) x
  over =
      let before : last + 1 - 1 ≡ last = omega arith in
      ap (λ (m : ℕ). required_over (tree_at m later.files) y) before
      ∙ ap (λ tree. required_over tree y) (trees last (omega arith))
      ∙ thawed-required x y thawed (baseline_of o)

  new : Old later row
  new =
      let longer : length later.project.deltas ≡ last + 1 = length-append o.project.deltas (row ∷ []) in
      let stays : Stays later row y = record {
        completed = refl;
        low = omega (arith, longer);
        mark = fits.0;
        shown = record {
          runs = (λ i. list_all (has_counting x Integrate (digest_rows (new_tree i))) (over i)) ∙ counted;
          tests = λ needed none. (none-missing o x (digest_rows (candidate_of o x)) runs).tests needed (sym (thawed-tests x y thawed) ∙ none);
          fits = fits.1;
        };
      } in
      to-is (Stays later row) (change_at later n) y at_later stays

  passed : AllOld o o.project.deltas → AllOld later later.project.deltas
  passed all =
      let leaves : Leaves o later = record {
        no_fewer = let longer : length later.project.deltas ≡ last + 1 = length-append o.project.deltas (row ∷ []) in omega (arith, longer);
        trees = trees;
        changes = λ m z e c. other-change log maker n on.IPass o later stood (follows log passing o stood s a) m z e (apart o n on.IPass s a.comes m z e c);
      } in
      all-more later o.project.deltas row (old-stays o later leaves o.project.deltas all) new

-- ---- all events

step : (log : Log) (maker : Maker) (c : Option ℕ) (kind : EventKind) (o : Observation) → observation log ≡ Some o → Sound o → Applies o (event_by maker c kind)
    → SeenBy log o (event_by maker c kind) c → Facts log → AllOld o o.project.deltas
    → AllOld (after o (event_by maker c kind)) (after o (event_by maker c kind)).project.deltas
step log maker (Some n) on.IPass o stood s a seen f all =
    let x = from-is _ (change_at o n) a.comes in
    passed log maker n o stood s a x.0 x.1 x.2.0 (seen x.0 x.1) (f.each n) all
step log maker (Some n) kind o stood s a seen f all = quiet log maker n kind refl o stood s a all
step log maker None (on.Attributes attributes) o stood s a seen f all = of-project (event_by maker None (on.Attributes attributes)) refl o refl all
step log maker None (on.RoleAdd role user) o stood s a seen f all = of-project (event_by maker None (on.RoleAdd role user)) refl o refl all
step log maker None (on.RoleDrop role user) o stood s a seen f all = of-project (event_by maker None (on.RoleDrop role user)) refl o refl all
step log maker None kind o stood s a seen f all = absurd a.comes

-- where a project is made there is no delta
started-none : (event : Event) (kind : EventKind) → IsProject kind → (o : Observation) → started_by event.who kind ≡ Some o → AllOld o o.project.deltas
started-none event (on.Project name attributes) is o e = subst (λ (q : Observation). AllOld q q.project.deltas) (same_Some _ o e) tt
started-none event _ is o e = absurd is

all-old : (log : Log) → Rightly log → (o : Observation) → observation log ≡ Some o → AllOld o o.project.deltas
all-old [] r o stood = none-some o stood
all-old (event ∷ log) r o stood = go (all-old log r.1) (observation log) refl r.0
  where
    go : ((before : Observation) → observation log ≡ Some before → AllOld before before.project.deltas) → (v : Option Observation) → observation log ≡ v → ComesAfter log v event → AllOld o o.project.deltas
    go earlier (Some before) is c =
        subst (λ (q : Observation). AllOld q q.project.deltas) (same_Some (after before event) o (sym (follows log event before is c.sound c.applies) ∙ stood))
        (step log (maker_of event) event.change event.what before is c.sound c.applies c.seen (facts log r.1) (earlier before is))
    go earlier None is c = started-none event event.what c.1.project o (sym (begins event c.1) ∙ ap (λ (l : Log). observation (event ∷ l)) (sym c.0) ∙ stood)

pub legal-shown : LegalIsShown
legal-shown log o legal stood = all-shown o o.project.deltas (all-old log (rightly log legal) o stood)
