-- What is read of versions, one after another.
use Rattle.std.specs.Prelude.{◌≡◌, ℕ, ◌+◌, ◌<◌, List, [], ◌∷◌, ◌++◌, map, Option, Some, Result, Ok, Err, IfOk, take, drop, length, codes}
use Rattle.std.specs.List.{AllByRecursion, cons_option}
use Rattle.std.specs.Option.{option_map_or}
use Rattle.std.proofs.Common.{zero, suc, sym, ap, subst, ◌∙◌, arith}
use Rattle.std.proofs.Math.ListN.{get_or}
use Rattle.std.proofs.lemmas.List.{drop_more, map-append, take_more, take-append-drop}
use Rattle.std.proofs.lemmas.List.Elements.{filter_map-append}
use Rattle.ae_base.specs.declared.outcome.Outcome.{Outcome}
use Rattle.ae_base.specs.declared.words.Action.{Action}
use Rattle.ae_base.specs.declared.words.Usage.{Usage}
use Rattle.ae_outside.specs.Image.{Image}
use Rattle.ae_types.specs.declared.version.VersionRef.{VersionRef}
use Rattle.ae_vault.specs.Vault.{effective}
use Rattle.ae_history.specs.Packed.{AreOf}
use Rattle.ae_exec.specs.Bytes.{bytes_at}
use Rattle.ae_exec.specs.Reading.{AreKept, FirstIsLost, IsKept, IsLostAmong, here}
use Rattle.ae_exec.proofs.ReadInOrder.{kept-append, lost-left, lost-right}
use Rattle.ae_bundle.specs.declared.bundle.BundleFile.{BundleFile}
use Rattle.ae_dist.specs.declared.rows.Row.{Row}
use Rattle.ae_dist.specs.Sending.{sent_file, size_of, versions_of}
use Rattle.ae_dist.specs.Steps.{AreReadFrom, file_key, row_key}

-- ---- lists

pub each_at : {A : Type 0} (P : A → Type 0) (xs : List A) (i : ℕ) (x : A) → i < length xs → x ≡ get_or xs i x → AllByRecursion P xs → P x
each_at P [] i x below is all = absurd (omega (arith, below))
each_at P (y ∷ ys) zero x below is all = subst P (sym is) all.0
each_at P (y ∷ ys) (suc i) x below is all = each_at P ys i x (omega (arith, below)) is all.1

-- the rows up to the next
rows_more : (rows : List Row) (i : ℕ) (row : Row) → i < length rows → row ≡ get_or rows i row → take (i + 1) rows ≡ take i rows ++ row ∷ []
rows_more rows i row below is = take_more rows i row below ∙ ap (λ (r : Row). take i rows ++ r ∷ []) (sym is)

versions_more : (rows : List Row) (i : ℕ) (row : Row) → i < length rows → row ≡ get_or rows i row → versions_of (take (i + 1) rows) ≡ versions_of (take i rows) ++ versions_of (row ∷ [])
versions_more rows i row below is = ap versions_of (rows_more rows i row below is) ∙ filter_map-append (λ (r : Row). r.version) (take i rows) (row ∷ [])

versions_split : (rows : List Row) (i : ℕ) (row : Row) → i < length rows → row ≡ get_or rows i row → versions_of rows ≡ versions_of (take i rows) ++ (versions_of (row ∷ []) ++ versions_of (drop (i + 1) rows))
versions_split rows i row below is =
    ap versions_of (sym (take-append-drop i rows) ∙ ap (λ (rest : List Row). take i rows ++ rest) (drop_more rows i row below ∙ ap (λ (r : Row). r ∷ drop (i + 1) rows) (sym is)))
    ∙ filter_map-append (λ (r : Row). r.version) (take i rows) (row ∷ drop (i + 1) rows)
    ∙ ap (λ (rest : List VersionRef). versions_of (take i rows) ++ rest) (filter_map-append (λ (r : Row). r.version) (row ∷ []) (drop (i + 1) rows))

-- ---- a version

-- the packed file is named, since it isn't as it was kept
pub lost_alone : (image : Image) (v : VersionRef) (name : List ℕ) → (name ≡ codes "pack") × (IsKept (effective image) v → ⊥) → IsLostAmong image (v ∷ []) name
lost_alone image v name lost = record { is_pack = lost.0; first = here v [] lost.1 }

module _ (told : Type 0) (files : Option Image) (version : VersionRef) (v : Option VersionRef) (is : v ≡ Some version) where
  pub bytes_read : (result : Result (List ℕ) Outcome) → IfOk result (λ bytes. told → bytes ≡ bytes_at files version) → IfOk result (λ bytes. told → bytes ≡ option_map_or (bytes_at files) v [])
  bytes_read (Ok bytes) there = λ t. there t ∙ sym (ap (λ (w : Option VersionRef). option_map_or (bytes_at files) w []) is)
  bytes_read (Err why) there = tt

  pub kept_read : (result : Result (List ℕ) Outcome) → IfOk result (λ bytes. told → bytes ≡ bytes_at files version) → IfOk result (AreOf version) → IfOk result (λ bytes. told → AreKept files (cons_option v []))
  kept_read (Ok bytes) there kept = λ t. subst (λ (w : Option VersionRef). AreKept files (cons_option w [])) (sym is) (subst (AreOf version) (there t) kept, tt)
  kept_read (Err why) there kept = tt

  pub size_read : (result : Result (List ℕ) Outcome) → IfOk result (AreOf version) → IfOk result (λ bytes. length bytes ≡ option_map_or (λ (w : VersionRef). w.length) v 0)
  size_read (Ok bytes) kept = kept.length_is ∙ sym (ap (λ (w : Option VersionRef). option_map_or (λ (x : VersionRef). x.length) w 0) is)
  size_read (Err why) kept = tt

-- ---- a file

-- it has what its row says, and these bytes
abbrev pub IsFileOf : Row → List ℕ → BundleFile → Type 0
IsFileOf row bytes file = (file.path ≡ row.path) × ((file.action ≡ row.action) × ((file.usage ≡ row.usage) × (file.bytes ≡ bytes)))

pub file_is : (files : Option Image) (row : Row) (bytes : List ℕ) (file : BundleFile) → IsFileOf row bytes file → bytes ≡ option_map_or (bytes_at files) row.version [] → file ≡ sent_file files row
file_is files row bytes file is read = λ i. record { path = is.0 i; action = is.1.0 i; usage = is.1.1.0 i; bytes = (is.1.1.1 ∙ read) i }

pub key_is : (row : Row) (bytes : List ℕ) (file : BundleFile) → IsFileOf row bytes file → length bytes ≡ size_of row → file_key file ≡ row_key row
key_is row bytes file is size = λ i. (is.0 i, (is.1.0 i, (is.1.1.0 i, (ap length is.1.1.1 ∙ size) i)))

pub keys_more : (row : Row) (file : BundleFile) (old new : List BundleFile) → new ≡ old ++ file ∷ [] → file_key file ≡ row_key row → map file_key new ≡ map file_key old ++ row_key row ∷ []
keys_more row file old new made same = ap (map file_key) made ∙ map-append file_key old (file ∷ []) ∙ ap (λ (k : List ℕ × (Action × (Usage × ℕ))). map file_key old ++ k ∷ []) same

-- ---- the next row

module _ (rows : List Row) (i : ℕ) (row : Row) (below : i < length rows) (is : row ≡ get_or rows i row) where
  pub read_next : (files : Option Image) (old new : List BundleFile) → AreReadFrom files (take i rows) old → new ≡ old ++ sent_file files row ∷ [] → AreKept files (versions_of (row ∷ []))
      → AreReadFrom files (take (i + 1) rows) new
  read_next files old new before made kept = record {
    are = made ∙ ap (λ (sent : List BundleFile). sent ++ sent_file files row ∷ []) before.are ∙ sym (map-append (sent_file files) (take i rows) (row ∷ [])) ∙ sym (ap (map (sent_file files)) (rows_more rows i row below is));
    kept = subst (AreKept files) (sym (versions_more rows i row below is)) (kept-append files (versions_of (take i rows)) (versions_of (row ∷ [])) before.kept kept);
  }

  pub sized_next : (old new : List BundleFile) → map file_key old ≡ map row_key (take i rows) → map file_key new ≡ map file_key old ++ row_key row ∷ [] → map file_key new ≡ map row_key (take (i + 1) rows)
  sized_next old new was made =
      made ∙ ap (λ (keys : List (List ℕ × (Action × (Usage × ℕ)))). keys ++ row_key row ∷ []) was ∙ sym (map-append row_key (take i rows) (row ∷ [])) ∙ sym (ap (map row_key) (rows_more rows i row below is))

  lost_next : (files : Option Image) → AreKept files (versions_of (take i rows)) → FirstIsLost files (versions_of (row ∷ [])) → FirstIsLost files (versions_of rows)
  lost_next files before lost =
      subst (FirstIsLost files) (sym (versions_split rows i row below is)) (lost-right files (versions_of (take i rows)) (versions_of (row ∷ []) ++ versions_of (drop (i + 1) rows)) before (lost-left files (versions_of (row ∷ [])) (versions_of (drop (i + 1) rows)) lost))

  pub lost_among : (base mid : Image) (old : List BundleFile) (name : List ℕ) → effective mid ≡ effective base → AreReadFrom (effective base) (take i rows) old → IsLostAmong mid (versions_of (row ∷ [])) name → IsLostAmong base (versions_of rows) name
  lost_among base mid old name same before lost = record {
    is_pack = lost.is_pack;
    first = lost_next (effective base) before.kept (subst (λ (files : Option Image). FirstIsLost files (versions_of (row ∷ []))) same lost.first);
  }

-- ---- what is so of each row

each_both : {A : Type 0} (P : A → Type 0) (xs ys : List A) → AllByRecursion P xs → AllByRecursion P ys → AllByRecursion P (xs ++ ys)
each_both P [] ys first second = second
each_both P (x ∷ xs) ys first second = (first.0, each_both P xs ys first.1 second)

pub each_more : {A : Type 0} (P : A → Type 0) (xs : List A) (i : ℕ) (x : A) → i < length xs → x ≡ get_or xs i x → AllByRecursion P (take i xs) → P x → AllByRecursion P (take (i + 1) xs)
each_more P xs i x below is before this = subst (AllByRecursion P) (sym (take_more xs i x below)) (each_both P (take i xs) (get_or xs i x ∷ []) before (subst P is this, tt))
