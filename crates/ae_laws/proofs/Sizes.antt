-- After a legal log the texts of each change are short, and what a completed change made of its files is within the limits.
use Rattle.std.proofs.Common.{◌≡◌, ℕ, ◌+◌, ◌≤◌, refl, sym, ◌∙◌, ap, subst, List, [], ◌∷◌, map, Option, Some, None, Bool, true, false, cond, ◌||◌, nat_eq, length, arith}
use Rattle.std.specs.Prelude.{IsSomeAnd}
use Rattle.std.specs.Option.{option_map, option_map_or, option_and_then}
use Rattle.ae_base.specs.declared.words.Phase.{Phase}
use Rattle.ae_types.specs.declared.change.Change.{Change}
use Rattle.ae_types.specs.declared.change.ChangeFile.{ChangeFile}
use Rattle.ae_types.specs.declared.file_table.FileRow.{FileRow}
use Rattle.ae_types.specs.declared.file_table.FileVersion.{FileVersion}
use Rattle.ae_types.specs.declared.project.DeltaRow.{DeltaRow}
use Rattle.ae_types.specs.declared.version.VersionRef.{VersionRef}
use Rattle.ae_types.specs.Found.{change_at, delta_of, entry_in, file_path, row_path}
use Rattle.ae_types.specs.Frozen.{Version, frozen_file, ref_of, version_of}
use Rattle.ae_types.specs.Observation.{Observation}
use Rattle.ae_types.specs.Phases.{holds_locks, is_completed}
use Rattle.ae_types.specs.Trees.{past_in, past_of}
use Rattle.ae_types.proofs.Keys.{by_text}
use Rattle.ae_types.proofs.Members.{In, some-in}
use Rattle.ae_types.proofs.Ordered.{at-listed, none-some}
use Rattle.ae_types.proofs.Searched.{found-in}
use Rattle.ae_log.specs.Baseline.{Entry, past}
use Rattle.ae_log.specs.Files.{FileFact, course_paths, file, frozen, paths}
use Rattle.ae_log.specs.Log.{Log, Course, course}
use Rattle.ae_log.specs.Observed.{change_file, change_file_of, change_files, file_row, file_version, frozen_version, observation}
use Rattle.ae_log.specs.Phases.{phase_of}
use Rattle.ae_log.proofs.Listed.{at-files, files-ascend, own_file, own_row, unlisted-past}
use Rattle.ae_log.proofs.Steps.{IsOf, attributes-of}
use Rattle.ae_machine.specs.Facts.{Rightly}
use Rattle.ae_machine.proofs.CandidateStands.{is-of}
use Rattle.ae_machine.proofs.LegalRightly.{rightly}
use Rattle.ae_laws.specs.Sizes.{IsDeltaSmall, LegalHasSizes, size_made, sizes_made}
use Rattle.ae_machine.proofs.Came.{course-came}
use Rattle.ae_laws.proofs.Released.{HasFile, IsMade, entry_of, is_frozen, kept}
use Rattle.ae_machine.proofs.Said.{AllSaid, legal-said}
use Rattle.ae_laws.proofs.TextsKept.{texts-short}
use Rattle.ae_laws.proofs.Totals.{bytes_of, frozen-small, frozen_bytes, total, total-same}

-- ---- the entries of what stands

row-past : (path : List ℕ) (entries : List Entry) → past_in (file_row path entries) ≡ map file_version entries
row-past path [] = refl
row-past path (entry ∷ entries) = refl

past-stands : (log : Log) (o : Observation) → observation log ≡ Some o → (path : List ℕ) → past_of o path ≡ map file_version (past log path)
past-stands log o stood path =
    let w = attributes-of log o stood in
    ap (λ (q : Observation). past_of q path) (sym w.2)
    ∙ ap (λ (row : Option FileRow). past_in row) (at-listed by_text row_path (λ p. file_row p (past log p)) (own_row log) (paths log) (λ q out. ap (file_row q) (unlisted-past log q out)) path)
    ∙ row-past path (past log path)

entry-found : (entries : List Entry) (delta : ℕ) → entry_in (map file_version entries) delta ≡ option_map file_version (entry_of entries delta)
entry-found [] delta = refl
entry-found (entry ∷ entries) delta = go (nat_eq delta entry.delta) (entry-found entries delta)
  where
    go : (b : Bool) → entry_in (map file_version entries) delta ≡ option_map file_version (entry_of entries delta)
        → cond b (Some (file_version entry)) (entry_in (map file_version entries) delta) ≡ option_map file_version (cond b (Some entry) (entry_of entries delta))
    go true rest = refl
    go false rest = rest

ref-size : (v : Option Version) → option_map_or (λ (version : VersionRef). version.length) (option_map ref_of v) 0 ≡ bytes_of v
ref-size (Some version) = refl
ref-size None = refl

or-true : (b : Bool) → (b || true) ≡ true
or-true true = refl
or-true false = refl

-- ---- a completed change

module _ (log : Log) (r : Rightly log) (said : AllSaid log) (o : Observation) (stood : observation log ≡ Some o) (n : ℕ) (x : Change) (at_n : change_at o n ≡ Some x) (done : is_completed x.phase ≡ true) where
  abbrev ss : Course
  ss = course log n

  here : IsOf log n x
  here = is-of log o n x stood at_n

  completed : is_completed (phase_of ss) ≡ true
  completed = ap (λ (y : Change). is_completed y.phase) (sym here.is) ∙ done

  files-are : change_files ss ≡ x.files
  files-are = ap (λ (y : Change). y.files) (sym here.is)

  -- what its delta made of a path
  size-is : (made : IsMade log n ss) (path : List ℕ) (fact : FileFact) → file ss path ≡ Some fact → size_made o made.row.delta path ≡ frozen_bytes ss path
  size-is made path fact f =
      ap (λ (entries : List FileVersion). option_map_or (λ (version : VersionRef). version.length) (option_and_then (λ (entry : FileVersion). entry.version) (entry_in entries made.row.delta)) 0) (past-stands log o stood path)
      ∙ ap (λ (entry : Option FileVersion). option_map_or (λ (version : VersionRef). version.length) (option_and_then (λ (entry : FileVersion). entry.version) entry) 0)
      (entry-found (past log path) made.row.delta ∙ ap (option_map file_version) (made.entries path fact f))
      ∙ ref-size (version_of (frozen_file (frozen ss) path))

  each-size : (made : IsMade log n ss) (made_file : ChangeFile) → In (change_files ss) made_file → size_made o made.row.delta made_file.path ≡ frozen_bytes ss made_file.path
  each-size made made_file m =
      let from = some-in (change_file ss) (course_paths ss) made_file m in
      subst (λ (p : List ℕ). size_made o made.row.delta p ≡ frozen_bytes ss p) (sym (own_file ss from.0 made_file from.2)) (of from.0 (file ss from.0) refl from.2)
    where
      of : (path : List ℕ) (v : Option FileFact) → file ss path ≡ v → option_map (change_file_of path (frozen_version ss path)) v ≡ Some made_file → size_made o made.row.delta path ≡ frozen_bytes ss path
      of path (Some fact) is e = size-is made path fact is
      of path None is e = none-some made_file e

  sizes-total : (delta : ℕ) (files : List ChangeFile) → sizes_made o delta files ≡ total (size_made o delta) files
  sizes-total delta [] = refl
  sizes-total delta (first ∷ files) = ap (λ n. size_made o delta first.path + n) (sizes-total delta files)

  some-file : HasFile ss → 1 ≤ length (change_files ss)
  some-file has = one (change_files ss) (found-in by_text file_path (change_files ss) has.path made (at-files ss has.path ∙ ap (option_map (change_file_of has.path (frozen_version ss has.path))) has.there))
    where
      made : ChangeFile
      made = change_file_of has.path (frozen_version ss has.path) has.fact

      one : (files : List ChangeFile) → In files made → 1 ≤ length files
      one [] m = absurd m
      one (first ∷ files) m = omega arith

  delta-small : IsSomeAnd (delta_of o.project.deltas n) (IsDeltaSmall o x)
  delta-small =
      let k = kept log r said n in
      let made = k.made completed in
      let w = attributes-of log o stood in
      let named : delta_of o.project.deltas n ≡ Some made.row = ap (λ (q : Observation). delta_of q.project.deltas n) (sym w.2) ∙ made.named in
      let small = frozen-small n ss (course-came log r said n) (change_files ss) (files-ascend ss) in
      let same = sizes-total made.row.delta (change_files ss) ∙ total-same (size_made o made.row.delta) (frozen_bytes ss) (change_files ss) (each-size made) in
      subst (λ (v : Option DeltaRow). IsSomeAnd v (IsDeltaSmall o x)) (sym named) (record {
        some = subst (λ (files : List ChangeFile). 1 ≤ length files) files-are (some-file (k.filed (frozen-too (phase_of ss) completed)));
        bytes = subst (λ (files : List ChangeFile). sizes_made o made.row.delta files ≤ 67108864) files-are (omega (arith, small, same));
      })
    where
      frozen-too : (p : Phase) → is_completed p ≡ true → is_frozen p ≡ true
      frozen-too p e = ap (λ b. holds_locks p || b) e ∙ or-true (holds_locks p)

pub legal-sizes : LegalHasSizes
legal-sizes log o n x legal stood at_n = record {
  texts = texts-short log o n x legal stood at_n;
  delta = λ done. delta-small log (rightly log legal) (legal-said log legal) o stood n x at_n done;
}
