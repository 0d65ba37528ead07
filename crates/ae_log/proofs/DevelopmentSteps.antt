-- What stands after a development begins or is given up, after a file is put or taken out, and after a run.
use Rattle.std.proofs.Common.{◌≡◌, ℕ, refl, ◌∙◌, ap, List, ◌∷◌, None, true, false, cond}
use Rattle.std.specs.Option.{option_map}
use Rattle.ae_base.specs.declared.words.Action.{Action}
use Rattle.ae_base.specs.declared.words.Usage.{Usage}
use Rattle.ae_base.specs.declared.words.Phase.{Phase}
use Rattle.ae_base.specs.declared.words.Ground.TheVariants as part
use Rattle.ae_types.specs.declared.project.Attributes.{Attributes}
use Rattle.ae_types.specs.declared.change.ChangeFile.{ChangeFile}
use Rattle.ae_types.specs.declared.change.Evidence.{Evidence}
use Rattle.ae_types.specs.Observation.{Observation}
use Rattle.ae_types.specs.Ordered.{put_by, itself}
use Rattle.ae_types.specs.Found.{row_path, lock_path}
use Rattle.ae_types.specs.Phases.{holds_locks}
use Rattle.ae_base.specs.Rows.{text_cmp}
use Rattle.ae_types.proofs.Keys.{by_text}
use Rattle.ae_types.proofs.Ordered.{listed-more}
use Rattle.ae_types.specs.Frozen.{ref_of, version_of, frozen_file}
use Rattle.ae_log.specs.declared.event.EventKind.{EventKind}
use Rattle.ae_log.specs.declared.event.EventKind.TheVariants as on
use Rattle.ae_log.specs.declared.event.RunEvent.{RunEvent}
use Rattle.ae_log.specs.Log.{Log, Course, Happened, course}
use Rattle.ae_log.specs.Phases.{phase_of}
use Rattle.ae_log.specs.Settings.{change_attributes}
use Rattle.ae_log.specs.Files.{paths, course_paths, next_version, frozen}
use Rattle.ae_log.specs.Baseline.{past}
use Rattle.ae_log.specs.Observed.{observation_with, change, change_with, lock, file_row, frozen_version}
use Rattle.ae_log.specs.After.{after, change_after}
use Rattle.ae_log.specs.Applies.{comes_in}
use Rattle.ae_log.specs.Maker.{Maker}
use Rattle.ae_log.proofs.Lists.{filter_map-none, filter_map-same, option_map-step}
use Rattle.ae_log.proofs.Ascending.{paths-ascend}
use Rattle.ae_log.proofs.Listed.{fewer, own_lock, own_row, unlisted-past, unlisted-lock}
use Rattle.ae_log.proofs.Steps.{of_change, happens, same-parts, changes-step, numbers-stay, locks-stay, holds-none}
use Rattle.ae_log.proofs.RunSteps.{evidence-cleared, evidence-run}
use Rattle.ae_log.proofs.FileSteps.{files-put, files-out}
use Rattle.ae_log.proofs.ChangeSteps.{awaits-is, developed-is, at-its, Finds}

-- nothing of a change that holds nothing is frozen
unfrozen : (ss : Course) → holds_locks (phase_of ss) ≡ false → (p : List ℕ) → frozen_version ss p ≡ None
unfrozen ss idle p = ap (λ b. cond b (option_map ref_of (version_of (frozen_file (frozen ss) p))) None) idle

idle-awaiting : (p : Phase) → comes_in on.Begin p ≡ true → holds_locks p ≡ false
idle-awaiting p e = ap holds_locks (awaits-is p e)

idle-developed : (p : Phase) → comes_in on.BeginUndo p ≡ true → holds_locks p ≡ false
idle-developed p e = ap holds_locks (developed-is p e)

-- ---- a development begins

change-begin : (ss : Course) (before : Log) (maker : Maker) (next c n : ℕ) → change n (happens before maker c on.Begin ∷ ss) ≡ option_map (change_after next (of_change maker c on.Begin)) (change n ss)
change-begin ss before maker next c n =
    let s : Happened = happens before maker c on.Begin in
    option_map-step (change_with n (s ∷ ss)) (change_with n ss) (change_after next s.event) (λ a.
    ap (λ (rows : List Evidence). record (change_with n (s ∷ ss) a) { evidence = rows }) (evidence-cleared part.Develop s ss refl (λ key. refl))
    ∙ ap (λ (fs : List ChangeFile). record (change_after next s.event (change_with n ss a)) { files = fs }) (filter_map-none _ (λ p. refl) (course_paths ss))) (change_attributes ss)

pub with-begin : (log : Log) (maker : Maker) (c : ℕ) (a : Attributes) → holds_locks (phase_of (course log c)) ≡ false → observation_with (of_change maker c on.Begin ∷ log) a ≡ after (observation_with log a) (of_change maker c on.Begin)
with-begin log maker c a idle = same-parts _ _ refl
    (numbers-stay log maker c on.Begin (λ n e. refl))
    refl
    (filter_map-same _ _ (locks-stay log maker c on.Begin (holds-none log maker c on.Begin idle refl)) (paths log))
    (changes-step log maker c on.Begin _ (λ s ss. refl) (λ n e. change-begin (course log n) log maker (next_version log) c n))

-- ---- it is given up

change-begin_undo : (ss : Course) (before : Log) (maker : Maker) (next c n : ℕ) → change n (happens before maker c on.BeginUndo ∷ ss) ≡ option_map (change_after next (of_change maker c on.BeginUndo)) (change n ss)
change-begin_undo ss before maker next c n =
    let s : Happened = happens before maker c on.BeginUndo in
    option_map-step (change_with n (s ∷ ss)) (change_with n ss) (change_after next s.event) (λ a.
    ap (λ (rows : List Evidence). record (change_with n (s ∷ ss) a) { evidence = rows }) (evidence-cleared part.Develop s ss refl (λ key. refl))
    ∙ ap (λ (fs : List ChangeFile). record (change_after next s.event (change_with n ss a)) { files = fs }) (filter_map-none _ (λ p. refl) (course_paths ss))) (change_attributes ss)

pub with-begin_undo : (log : Log) (maker : Maker) (c : ℕ) (a : Attributes) → holds_locks (phase_of (course log c)) ≡ false → observation_with (of_change maker c on.BeginUndo ∷ log) a ≡ after (observation_with log a) (of_change maker c on.BeginUndo)
with-begin_undo log maker c a idle = same-parts _ _ refl
    (numbers-stay log maker c on.BeginUndo (λ n e. refl))
    refl
    (filter_map-same _ _ (locks-stay log maker c on.BeginUndo (holds-none log maker c on.BeginUndo idle refl)) (paths log))
    (changes-step log maker c on.BeginUndo _ (λ s ss. refl) (λ n e. change-begin_undo (course log n) log maker (next_version log) c n))

-- ---- a file is put

change-file : (ss : Course) (before : Log) (maker : Maker) (next c n : ℕ) (p : List ℕ) (action : Action) (usage : Usage) (origin : ℕ) → holds_locks (phase_of ss) ≡ false
    → change n (happens before maker c (on.File p action usage origin) ∷ ss) ≡ option_map (change_after next (of_change maker c (on.File p action usage origin))) (change n ss)
change-file ss before maker next c n p action usage origin idle =
    let s : Happened = happens before maker c (on.File p action usage origin) in
    option_map-step (change_with n (s ∷ ss)) (change_with n ss) (change_after next s.event) (λ a.
    ap (λ (fs : List ChangeFile). record (change_with n (s ∷ ss) a) { files = fs }) (files-put ss before maker c p action usage origin (unfrozen ss idle) (unfrozen (s ∷ ss) idle))) (change_attributes ss)

pub with-put : (log : Log) (maker : Maker) (c : ℕ) (p : List ℕ) (action : Action) (usage : Usage) (origin : ℕ) (a : Attributes) → holds_locks (phase_of (course log c)) ≡ false
    → observation_with (of_change maker c (on.File p action usage origin) ∷ log) a ≡ after (observation_with log a) (of_change maker c (on.File p action usage origin))
with-put log maker c p action usage origin a idle = same-parts _ _ refl
    (numbers-stay log maker c kind (λ n e. refl))
    (listed-more by_text row_path (λ q. file_row q (past log q)) (own_row log) (paths log) (put_by text_cmp itself p (paths log)) (paths-ascend log) (paths-ascend later) (λ q e. ap (file_row q) (unlisted-past log q e)) (λ q e. ap (file_row q) (unlisted-past later q e)))
    (filter_map-same _ _ (locks-stay log maker c kind (holds-none log maker c kind idle idle)) (put_by text_cmp itself p (paths log))
    ∙ listed-more by_text lock_path (lock log) (own_lock log) (paths log) (put_by text_cmp itself p (paths log)) (paths-ascend log) (paths-ascend later) (unlisted-lock log) (λ q e. unlisted-lock log q (fewer kind q (paths log) e)))
    (changes-step log maker c kind _ (λ s ss. refl) (λ n e. change-file (course log n) log maker (next_version log) c n p action usage origin (at-its log c n (λ m. holds_locks (phase_of (course log m)) ≡ false) e idle)))
  where
    kind : EventKind
    kind = on.File p action usage origin

    later : Log
    later = of_change maker c (on.File p action usage origin) ∷ log

-- ---- a file is taken out

change-unfile : (ss : Course) (before : Log) (maker : Maker) (next c n : ℕ) (p : List ℕ) → holds_locks (phase_of ss) ≡ false
    → change n (happens before maker c (on.Unfile p) ∷ ss) ≡ option_map (change_after next (of_change maker c (on.Unfile p))) (change n ss)
change-unfile ss before maker next c n p idle =
    let s : Happened = happens before maker c (on.Unfile p) in
    option_map-step (change_with n (s ∷ ss)) (change_with n ss) (change_after next s.event) (λ a.
    ap (λ (fs : List ChangeFile). record (change_with n (s ∷ ss) a) { files = fs }) (files-out ss before maker c p (unfrozen ss idle) (unfrozen (s ∷ ss) idle))) (change_attributes ss)

pub with-out : (log : Log) (maker : Maker) (c : ℕ) (p : List ℕ) (a : Attributes) → holds_locks (phase_of (course log c)) ≡ false
    → observation_with (of_change maker c (on.Unfile p) ∷ log) a ≡ after (observation_with log a) (of_change maker c (on.Unfile p))
with-out log maker c p a idle = same-parts _ _ refl
    (numbers-stay log maker c (on.Unfile p) (λ n e. refl))
    refl
    (filter_map-same _ _ (locks-stay log maker c (on.Unfile p) (holds-none log maker c (on.Unfile p) idle idle)) (paths log))
    (changes-step log maker c (on.Unfile p) _ (λ s ss. refl) (λ n e. change-unfile (course log n) log maker (next_version log) c n p (at-its log c n (λ m. holds_locks (phase_of (course log m)) ≡ false) e idle)))

-- ---- a run

change-run : (ss : Course) (before : Log) (maker : Maker) (next c n : ℕ) (r : RunEvent) → change n (happens before maker c (on.Run r) ∷ ss) ≡ option_map (change_after next (of_change maker c (on.Run r))) (change n ss)
change-run ss before maker next c n r =
    let s : Happened = happens before maker c (on.Run r) in
    option_map-step (change_with n (s ∷ ss)) (change_with n ss) (change_after next s.event) (λ a. ap (λ (rows : List Evidence). record (change_with n (s ∷ ss) a) { evidence = rows }) (evidence-run s ss r refl)) (change_attributes ss)

pub with-run : (log : Log) (maker : Maker) (c : ℕ) (r : RunEvent) (a : Attributes) → observation_with (of_change maker c (on.Run r) ∷ log) a ≡ after (observation_with log a) (of_change maker c (on.Run r))
with-run log maker c r a = same-parts _ _ refl
    (numbers-stay log maker c (on.Run r) (λ n e. refl))
    refl
    (filter_map-same _ _ (locks-stay log maker c (on.Run r) (λ p n e. refl)) (paths log))
    (changes-step log maker c (on.Run r) _ (λ s ss. refl) (λ n e. change-run (course log n) log maker (next_version log) c n r))

-- ---- what each finds suffices

pub begin-found : (log : Log) (o : Observation) (maker : Maker) (c : ℕ) (a : Attributes) → Finds log o a c on.Begin → observation_with (of_change maker c on.Begin ∷ log) a ≡ after (observation_with log a) (of_change maker c on.Begin)
begin-found log o maker c a f = with-begin log maker c a (idle-awaiting _ f.comes)

pub begin_undo-found : (log : Log) (o : Observation) (maker : Maker) (c : ℕ) (a : Attributes) → Finds log o a c on.BeginUndo → observation_with (of_change maker c on.BeginUndo ∷ log) a ≡ after (observation_with log a) (of_change maker c on.BeginUndo)
begin_undo-found log o maker c a f = with-begin_undo log maker c a (idle-developed _ f.comes)

pub file-found : (log : Log) (o : Observation) (maker : Maker) (c : ℕ) (p : List ℕ) (action : Action) (usage : Usage) (origin : ℕ) (a : Attributes) → Finds log o a c (on.File p action usage origin)
    → observation_with (of_change maker c (on.File p action usage origin) ∷ log) a ≡ after (observation_with log a) (of_change maker c (on.File p action usage origin))
file-found log o maker c p action usage origin a f = with-put log maker c p action usage origin a (idle-developed _ f.comes)

pub unfile-found : (log : Log) (o : Observation) (maker : Maker) (c : ℕ) (p : List ℕ) (a : Attributes) → Finds log o a c (on.Unfile p) → observation_with (of_change maker c (on.Unfile p) ∷ log) a ≡ after (observation_with log a) (of_change maker c (on.Unfile p))
unfile-found log o maker c p a f = with-out log maker c p a (idle-developed _ f.comes)
