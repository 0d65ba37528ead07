-- The baseline's files have the bytes of versions that stand.
use Rattle.std.specs.Prelude.{◌≡◌, ℕ, ◌+◌, ◌<◌, Bool, true, false, if◌then◌else◌, List, [], ◌∷◌, ◌++◌, take, length, Option, Some, None, Contains, filter_map, flat_map, nat_le}
use Rattle.std.specs.List.{cons_option}
use Rattle.std.specs.Option.{option_map, option_and_then}
use Rattle.std.proofs.Common.{refl, sym, ap, subst, ◌∙◌, arith}
use Rattle.std.proofs.Math.ListN.{get_or}
use Rattle.std.proofs.lemmas.List.{map-append, take_more}
use Rattle.std.proofs.lemmas.List.Elements.{Contains-append_left, Contains-append_right, Contains-get_or, filter_map-append}
use Rattle.ae_base.specs.Rows.{Rows}
use Rattle.ae_outside.specs.Image.{Image}
use Rattle.ae_types.specs.declared.change.Change.{Change}
use Rattle.ae_types.specs.declared.change.ChangeFile.{ChangeFile}
use Rattle.ae_types.specs.declared.file_table.FileRow.{FileRow}
use Rattle.ae_types.specs.declared.file_table.FileVersion.{FileVersion}
use Rattle.ae_types.specs.declared.version.VersionRef.{VersionRef}
use Rattle.ae_types.specs.Observation.{Observation}
use Rattle.ae_types.specs.Sound.{Sound}
use Rattle.ae_types.specs.Versions.{live}
use Rattle.ae_types.proofs.Members.{In, in-left, in-flat, map-in, some-in}
use Rattle.ae_types.specs.Trees.{TreeRow, baseline_of, entry_row, last_delta, last_up_to, tree_at, tree_row, unless_later}
use Rattle.ae_machine.specs.Sight.{with_bytes}
use Rattle.ae_exec.specs.Bytes.{HaveBytes, bytes_at, rows_at}
use Rattle.ae_exec.specs.Reading.{IsInside, versions_of as tree_versions}
use Rattle.ae_exec.proofs.Shown.{in-list, live-in}

abbrev pub versions_of : FileRow → List VersionRef
versions_of row = filter_map (λ (entry : FileVersion). entry.version) row.past

-- ---- a file's version is one of its past

module _ (path : List ℕ) (delta : ℕ) where
  later : (v : Option VersionRef) (rest : List VersionRef) (version : VersionRef) → Contains rest version → Contains (cons_option v rest) version
  later (Some w) rest version in_rest = Contains-append_right (w ∷ []) rest version in_rest
  later None rest version in_rest = in_rest

  here : (x : FileVersion) (v : Option VersionRef) (rest : List VersionRef) (row : TreeRow) → option_map (λ (version : VersionRef). record { path = path; usage = x.usage; version = version }) v ≡ Some row → Contains (cons_option v rest) row.version
  here x (Some w) rest row is = let same : w ≡ row.version = cc in (0, omega arith, same)
  here x None rest row is = cc

  abbrev versions_in : List FileVersion → List VersionRef
  versions_in past = filter_map (λ (entry : FileVersion). entry.version) past

  pub row-in : (past : List FileVersion) (row : TreeRow) → option_and_then (entry_row path) (last_up_to delta past) ≡ Some row → Contains (versions_in past) row.version
  row-in [] row is = cc
  row-in (x ∷ past) row is = go (nat_le x.delta delta) (last_up_to delta past) (row-in past row) is
    where
      go : (b : Bool) (last : Option FileVersion) → (option_and_then (entry_row path) last ≡ Some row → Contains (versions_in past) row.version) → option_and_then (entry_row path) (if b then unless_later x last else last) ≡ Some row
          → Contains (versions_in (x ∷ past)) row.version
      go true (Some entry) rest e = later x.version (versions_in past) row.version (rest e)
      go true None rest e = here x x.version (versions_in past) row e
      go false last rest e = later x.version (versions_in past) row.version (rest e)

-- ---- so its bytes are those that are kept

module _ (delta : ℕ) (files : Option Image) (bytes : ℕ → List ℕ) where
  rows-kept : (rows : List FileRow) → ((version : VersionRef) → Contains (flat_map versions_of rows) version → bytes version.number ≡ bytes_at files version) → rows_at files (tree_at delta rows) ≡ with_bytes bytes (tree_at delta rows)
  rows-kept [] have = refl
  rows-kept (row ∷ rows) have = step (tree_row delta row) refl (rows-kept rows (λ version there. have version (Contains-append_right (versions_of row) (flat_map versions_of rows) version there)))
    where
      step : (r : Option TreeRow) → tree_row delta row ≡ r → rows_at files (tree_at delta rows) ≡ with_bytes bytes (tree_at delta rows)
          → rows_at files (cons_option r (tree_at delta rows)) ≡ with_bytes bytes (cons_option r (tree_at delta rows))
      step (Some r) is rest =
          let kept : bytes r.version.number ≡ bytes_at files r.version = have r.version (Contains-append_left (versions_of row) (flat_map versions_of rows) r.version (row-in row.path delta row.past r is)) in
          λ i. (r.path, Some (sym kept i)) ∷ rest i
      step None is rest = rest

pub baseline-kept : (o : Observation) (files : Option Image) (bytes : ℕ → List ℕ) → HaveBytes files (Some o) bytes → rows_at files (baseline_of o) ≡ with_bytes bytes (baseline_of o)
baseline-kept o files bytes have =
    rows-kept (last_delta o) files bytes o.files
    (λ version there. have version (Contains-append_left (flat_map versions_of o.files) (flat_map (λ (change : Change). filter_map (λ (file : ChangeFile). file.frozen) change.files) o.changes) version there))

-- ---- so they are among those that stand, and end in the region

row-lives : (o : Observation) (delta : ℕ) (row : FileRow) → In o.files row → (r : TreeRow) → tree_row delta row ≡ Some r → In (live o.files o.changes) r.version
row-lives o delta row there r is =
    in-left (flat_map versions_of o.files) (flat_map (λ (change : Change). filter_map (λ (file : ChangeFile). file.frozen) change.files) o.changes) r.version
    (in-flat versions_of o.files row r.version there (in-list (versions_of row) r.version (row-in row.path delta row.past r is)))

pub row-inside : (o : Observation) → Sound o → (delta : ℕ) (row : FileRow) → In o.files row → (r : TreeRow) → tree_row delta row ≡ Some r → IsInside r.version
row-inside o s delta row there r is = let p = live-in o s r.version (row-lives o delta row there r is) in s.versions.inside p.0 r.version p.1

pub row-at : (rows : List FileRow) (i : ℕ) (row : FileRow) → i < length rows → row ≡ get_or rows i row → In rows row
row-at rows i row below is = subst (λ (r : FileRow). In rows r) (sym is) (in-list rows (get_or rows i row) (Contains-get_or rows i row below))

-- and each of the baseline's files
pub baseline-lives : (o : Observation) (version : VersionRef) → In (tree_versions (baseline_of o)) version → In (live o.files o.changes) version
baseline-lives o version there =
    let r = map-in (λ (t : TreeRow). t.version) (baseline_of o) version there in
    let row = some-in (tree_row (last_delta o)) o.files r.0 r.1 in
    subst (λ (v : VersionRef). In (live o.files o.changes) v) r.2 (row-lives o (last_delta o) row.0 row.1 r.0 row.2)

-- the file of an entry, where its version is there
pub entry-row : (row : FileRow) (delta : ℕ) (entry : FileVersion) (version : VersionRef) → last_up_to delta row.past ≡ Some entry → entry.version ≡ Some version
    → tree_row delta row ≡ Some (record { path = row.path; usage = entry.usage; version = version })
entry-row row delta entry version last is =
    ap (λ (e : Option FileVersion). option_and_then (entry_row row.path) e) last ∙ ap (λ (v : Option VersionRef). option_map (λ (w : VersionRef). record { path = row.path; usage = entry.usage; version = w }) v) is

-- ---- one more

-- the file of one row more
pub file-more : (delta : ℕ) (rows : List FileRow) (i : ℕ) (row : FileRow) (x y : Option Image) (old new : Rows) → i < length rows → row ≡ get_or rows i row → x ≡ y → old ≡ rows_at y (tree_at delta (take i rows))
    → new ≡ old ++ rows_at x (cons_option (tree_row delta row) []) → new ≡ rows_at y (tree_at delta (take (i + 1) rows))
file-more delta rows i row x y old new below is same so_far made =
    let more : take (i + 1) rows ≡ take i rows ++ row ∷ [] = take_more rows i row below ∙ ap (λ (r : FileRow). take i rows ++ r ∷ []) (sym is) in
    let last : List TreeRow = cons_option (tree_row delta row) [] in
    let all : rows_at y (tree_at delta (take (i + 1) rows)) ≡ rows_at y (tree_at delta (take i rows)) ++ rows_at y last =
    ap (λ (l : List FileRow). rows_at y (tree_at delta l)) more
    ∙ ap (rows_at y) (filter_map-append (tree_row delta) (take i rows) (row ∷ []))
    ∙ map-append (λ (r : TreeRow). (r.path, Some (bytes_at y r.version))) (tree_at delta (take i rows)) last in
    made ∙ (λ j. so_far j ++ rows_at (same j) last) ∙ sym all
