-- The versions that stand in the records are those that are found at their places.
use Rattle.std.proofs.Common.{◌≡◌, ◌⊎◌, inl, inr, ℕ, refl, sym, ◌∙◌, ap, List, [], ◌∷◌, ◌++◌, map, Option, Some, None}
use Rattle.std.specs.Prelude.{flat_map}
use Rattle.std.specs.List.{filter_map, cons_option}
use Rattle.std.specs.Option.{option_map, option_and_then}
use Rattle.std.proofs.lemmas.Option.{same_Some}
use Rattle.ae_types.specs.declared.change.Change.{Change}
use Rattle.ae_types.specs.declared.change.ChangeFile.{ChangeFile}
use Rattle.ae_types.specs.declared.file_table.FileRow.{FileRow}
use Rattle.ae_types.specs.declared.file_table.FileVersion.{FileVersion}
use Rattle.ae_types.specs.declared.version.VersionRef.{VersionRef}
use Rattle.ae_types.specs.Versions.{Place, in_table, in_change, version_at, live}
use Rattle.ae_types.specs.Found.{number_of_change, file_path, row_path, entry_delta}
use Rattle.ae_types.proofs.Keys.{by_text, by_number}
use Rattle.ae_types.proofs.Members.{In, in-left, in-right, in-either, in-flat, flat-in, in-some, some-in, Distinct, distinct-append}
use Rattle.ae_types.proofs.Ordered.{Order, at, Ascends, above-at, less-other, none-some, found-key}
use Rattle.ae_types.proofs.Searched.{found-in, in-found}

-- a version at its place
abbrev pub Stand : Type 0
Stand = Place × VersionRef

abbrev pub stand_place : Stand → Place
stand_place s = s.0

abbrev pub stand_version : Stand → VersionRef
stand_version s = s.1

map-append : {A B : Type 0} (f : A → B) (xs ys : List A) → map f (xs ++ ys) ≡ map f xs ++ map f ys
map-append f [] ys = refl
map-append f (x ∷ xs) ys = ap (λ zs. f x ∷ zs) (map-append f xs ys)

-- rows of keyed items, each of which may hold a version
module _ {R I J L : Type 0} (outer : Order J) (inner : Order L) (row_key : R → J) (item_key : I → L) (items : R → List I) (version : I → Option VersionRef)
    (place : J → L → Place) (same_row : (i j : J) (k l : L) → place i k ≡ place j l → i ≡ j) (same_item : (i j : J) (k l : L) → place i k ≡ place j l → k ≡ l) where
  abbrev pub stand_at : J → I → VersionRef → Stand
  stand_at j i v = (place j (item_key i), v)

  abbrev pub stand_of : J → I → Option Stand
  stand_of j i = option_map (stand_at j i) (version i)

  abbrev pub block : R → List Stand
  block r = filter_map (stand_of (row_key r)) (items r)

  abbrev pub blocks : List R → List Stand
  blocks rows = flat_map block rows

  abbrev pub versions_of : R → List VersionRef
  versions_of r = filter_map version (items r)

  abbrev pub AreRows : List R → Type 0
  AreRows rows = Ascends outer row_key rows × ((j : J) (r : R) → at outer row_key j rows ≡ Some r → Ascends inner item_key (items r))

  abbrev pub version_in : J → L → List R → Option VersionRef
  version_in j l rows = option_and_then (λ (r : R). option_and_then version (at inner item_key l (items r))) (at outer row_key j rows)

  stand-is : (j : J) (i : I) (s : Stand) → stand_of j i ≡ Some s → (version i ≡ Some s.1) × (s.0 ≡ place j (item_key i))
  stand-is j i s e = go (version i) refl e
    where
      go : (v : Option VersionRef) → version i ≡ v → option_map (stand_at j i) v ≡ Some s → (version i ≡ Some s.1) × (s.0 ≡ place j (item_key i))
      go (Some w) is e = let same = same_Some (stand_at j i w) s e in (is ∙ ap (λ (x : Stand). Some x.1) same, sym (ap stand_place same))
      go None is e = none-some s e

  -- a block at a row, with the row's key as a variable
  block-map : (j : J) (is : List I) → map stand_version (filter_map (stand_of j) is) ≡ filter_map version is
  block-map j [] = refl
  block-map j (i ∷ is) = go (version i) (block-map j is)
    where
      go : (v : Option VersionRef) → map stand_version (filter_map (stand_of j) is) ≡ filter_map version is
          → map stand_version (cons_option (option_map (stand_at j i) v) (filter_map (stand_of j) is)) ≡ cons_option v (filter_map version is)
      go (Some w) rest = ap (λ vs. w ∷ vs) rest
      go None rest = rest

  pub blocks-map : (rows : List R) → map stand_version (blocks rows) ≡ flat_map versions_of rows
  blocks-map [] = refl
  blocks-map (r ∷ rows) = map-append stand_version (block r) (blocks rows) ∙ ap (λ vs. vs ++ map stand_version (blocks rows)) (block-map (row_key r) (items r)) ∙ ap (λ vs. versions_of r ++ vs) (blocks-map rows)

  -- ---- what stands is found, and what is found stands

  pub blocks-found : (rows : List R) → AreRows rows → (s : Stand) → In (blocks rows) s → (j : J) × (l : L) × (s.0 ≡ place j l) × (version_in j l rows ≡ Some s.1)
  blocks-found rows a s h =
      let r = flat-in block rows s h in
      let i = some-in (stand_of (row_key r.0)) (items r.0) s r.2 in
      let e = stand-is (row_key r.0) i.0 s i.2 in
      let there = in-found outer row_key rows a.0 r.0 r.1 in
      let item = in-found inner item_key (items r.0) (a.1 (row_key r.0) r.0 there) i.0 i.1 in
      (row_key r.0, item_key i.0, e.1, ap (option_and_then (λ (r : R). option_and_then version (at inner item_key (item_key i.0) (items r)))) there ∙ ap (option_and_then version) item ∙ e.0)

  pub found-blocks : (rows : List R) (j : J) (l : L) (v : VersionRef) → version_in j l rows ≡ Some v → In (blocks rows) (place j l, v)
  found-blocks rows j l v e = row (at outer row_key j rows) refl e
    where
      item : (r : R) → at outer row_key j rows ≡ Some r → (x : Option I) → at inner item_key l (items r) ≡ x → option_and_then version x ≡ Some v → In (blocks rows) (place j l, v)
      item r there (Some i) is e = in-flat block rows r (place j l, v) (found-in outer row_key rows j r there)
          (in-some (stand_of (row_key r)) (items r) i (place j l, v) (found-in inner item_key (items r) l i is)
          (ap (option_map (stand_at (row_key r) i)) e ∙ ap (λ (k : J). Some (stand_at k i v)) (found-key outer row_key j rows r there) ∙ ap (λ (k : L). Some (place j k, v)) (found-key inner item_key l (items r) i is)))
      item r there None is e = none-some v e

      row : (x : Option R) → at outer row_key j rows ≡ x → option_and_then (λ (r : R). option_and_then version (at inner item_key l (items r))) x ≡ Some v → In (blocks rows) (place j l, v)
      row (Some r) there e = item r there (at inner item_key l (items r)) refl e
      row None there e = none-some v e

  -- ---- no two stand at one place

  block-distinct : (j : J) (is : List I) → Ascends inner item_key is → Distinct stand_place (filter_map (stand_of j) is)
  block-distinct j [] a = tt
  block-distinct j (i ∷ is) a = go (version i) (block-distinct j is a.1)
    where
      go : (v : Option VersionRef) → Distinct stand_place (filter_map (stand_of j) is) → Distinct stand_place (cons_option (option_map (stand_at j i) v) (filter_map (stand_of j) is))
      go (Some w) rest = (
        λ s h same.
            let m = some-in (stand_of j) is s h in
            let there = in-found inner item_key is a.1 m.0 m.1 in
            less-other inner (item_key i) (item_key m.0) (above-at inner item_key (item_key i) (item_key m.0) is m.0 a.0 there) (same_item j j (item_key i) (item_key m.0) (same ∙ (stand-is j m.0 s m.2).1)),
        rest,
      )
      go None rest = rest

  pub blocks-distinct : (rows : List R) → Ascends outer row_key rows → ((r : R) → In rows r → Ascends inner item_key (items r)) → Distinct stand_place (blocks rows)
  blocks-distinct [] a h = tt
  blocks-distinct (r ∷ rows) a h = distinct-append stand_place (block r) (blocks rows) (block-distinct (row_key r) (items r) (h r (inl refl))) (blocks-distinct rows a.1 (λ q m. h q (inr m)))
      (λ s t m n same.
      let i = some-in (stand_of (row_key r)) (items r) s m in
      let q = flat-in block rows t n in
      let k = some-in (stand_of (row_key q.0)) (items q.0) t q.2 in
      let there = in-found outer row_key rows a.1 q.0 q.1 in
      less-other outer (row_key r) (row_key q.0) (above-at outer row_key (row_key r) (row_key q.0) rows q.0 a.0 there)
      (same_row (row_key r) (row_key q.0) (item_key i.0) (item_key k.0) (sym (stand-is (row_key r) i.0 s i.2).1 ∙ same ∙ (stand-is (row_key q.0) k.0 t k.2).1)))

-- ---- the file table, and the frozen files

path_in : Place → List ℕ
path_in (in_table path delta) = path
path_in (in_change number path) = path

number_in : Place → ℕ
number_in (in_table path delta) = delta
number_in (in_change number path) = number

pub table-path : (p q : List ℕ) (m n : ℕ) → in_table p m ≡ in_table q n → p ≡ q
unfolding path_in
table-path p q m n e = ap path_in e

pub table-delta : (p q : List ℕ) (m n : ℕ) → in_table p m ≡ in_table q n → m ≡ n
unfolding number_in
table-delta p q m n e = ap number_in e

pub change-number : (m n : ℕ) (p q : List ℕ) → in_change m p ≡ in_change n q → m ≡ n
unfolding number_in
change-number m n p q e = ap number_in e

pub change-path : (m n : ℕ) (p q : List ℕ) → in_change m p ≡ in_change n q → p ≡ q
unfolding path_in
change-path m n p q e = ap path_in e

abbrev pub past_of : FileRow → List FileVersion
past_of row = row.past

abbrev pub version_of : FileVersion → Option VersionRef
version_of entry = entry.version

abbrev pub files_of : Change → List ChangeFile
files_of change = change.files

abbrev pub frozen_of : ChangeFile → Option VersionRef
frozen_of file = file.frozen

abbrev pub table_stands : List FileRow → List Stand
table_stands rows = blocks by_text by_number row_path entry_delta past_of version_of in_table table-path table-delta rows

abbrev pub frozen_stands : List Change → List Stand
frozen_stands changes = blocks by_number by_text number_of_change file_path files_of frozen_of in_change change-number change-path changes

abbrev pub stands : List FileRow → List Change → List Stand
stands rows changes = table_stands rows ++ frozen_stands changes

pub stands-live : (rows : List FileRow) (changes : List Change) → map stand_version (stands rows changes) ≡ live rows changes
stands-live rows changes = map-append stand_version (table_stands rows) (frozen_stands changes)
    ∙ ap (λ vs. vs ++ map stand_version (frozen_stands changes)) (blocks-map by_text by_number row_path entry_delta past_of version_of in_table table-path table-delta rows)
    ∙ ap (λ vs. flat_map (λ (row : FileRow). filter_map version_of row.past) rows ++ vs) (blocks-map by_number by_text number_of_change file_path files_of frozen_of in_change change-number change-path changes)

-- the rows and the changes are in order, and so are their entries and files
pub record InOrder (rows : List FileRow) (changes : List Change) : Type 0 where
  pub up : Ascends by_text row_path rows
  pub pasts : (path : List ℕ) (row : FileRow) → at by_text row_path path rows ≡ Some row → Ascends by_number entry_delta row.past
  pub upward : Ascends by_number number_of_change changes
  pub files : (number : ℕ) (change : Change) → at by_number number_of_change number changes ≡ Some change → Ascends by_text file_path change.files

module _ (rows : List FileRow) (changes : List Change) where
  pub stands-found : InOrder rows changes → (s : Stand) → In (stands rows changes) s → version_at rows changes s.0 ≡ Some s.1
  stands-found a s h = go (in-either (table_stands rows) (frozen_stands changes) s h)
    where
      go : In (table_stands rows) s ⊎ In (frozen_stands changes) s → version_at rows changes s.0 ≡ Some s.1
      go (inl m) = let f = blocks-found by_text by_number row_path entry_delta past_of version_of in_table table-path table-delta rows (a.up, a.pasts) s m in
          ap (version_at rows changes) f.2 ∙ f.3
      go (inr m) = let f = blocks-found by_number by_text number_of_change file_path files_of frozen_of in_change change-number change-path changes (a.upward, a.files) s m in
          ap (version_at rows changes) f.2 ∙ f.3

  pub found-stands : (p : Place) (v : VersionRef) → version_at rows changes p ≡ Some v → In (stands rows changes) (p, v)
  found-stands (in_table path delta) v e = in-left (table_stands rows) (frozen_stands changes) (in_table path delta, v) (found-blocks by_text by_number row_path entry_delta past_of version_of in_table table-path table-delta rows path delta v e)
  found-stands (in_change number path) v e = in-right (table_stands rows) (frozen_stands changes) (in_change number path, v) (found-blocks by_number by_text number_of_change file_path files_of frozen_of in_change change-number change-path changes number path v e)

  pub stands-distinct : InOrder rows changes → Distinct stand_place (stands rows changes)
  stands-distinct a = distinct-append stand_place (table_stands rows) (frozen_stands changes)
      (blocks-distinct by_text by_number row_path entry_delta past_of version_of in_table table-path table-delta rows a.up (λ row m. a.pasts row.path row (in-found by_text row_path rows a.up row m)))
      (blocks-distinct by_number by_text number_of_change file_path files_of frozen_of in_change change-number change-path changes a.upward (λ change m. a.files change.number change (in-found by_number number_of_change changes a.upward change m)))
      (λ s t m n same.
      let f = blocks-found by_text by_number row_path entry_delta past_of version_of in_table table-path table-delta rows (a.up, a.pasts) s m in
      let g = blocks-found by_number by_text number_of_change file_path files_of frozen_of in_change change-number change-path changes (a.upward, a.files) t n in
      never-both f.0 f.1 g.0 g.1 (sym f.2 ∙ same ∙ g.2))
    where
      never-both : (p : List ℕ) (d : ℕ) (n : ℕ) (q : List ℕ) → in_table p d ≡ in_change n q → ⊥
      never-both p d n q e = cc
