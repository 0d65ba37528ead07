-- Rows of files taken away and put.
use Rattle.std.specs.Prelude.{◌≡◌, ◌≢◌, ℕ, suc, ◌<◌, length, get_or, IfSome, Bool, true, false, ◌&&◌, not, if◌then◌else◌, List, [], ◌∷◌, ◌++◌, filter, Option, Some, None, refl}
use Rattle.std.proofs.Common.{arith, inl, inr, sym, ◌∙◌, ap, subst}
use Rattle.std.specs.Str.{bytes_eq}
use Rattle.std.proofs.lemmas.Slice.Eq.{bytes_eq-Decides}
use Rattle.std.proofs.lemmas.Bool.{and_parts, not_from_true, not_from_false, and_left}
use Rattle.ae_base.specs.Bytes.{AreBytes}
use Rattle.ae_outside.specs.Trees.{Tree, no_files, with_file}
use Rattle.ae_outside.specs.TreeLaws.{bool_cases, tree_ext}
use Rattle.ae_outside.specs.Dirs.{dir_eq}
use Rattle.ae_outside.proofs.DirLaws.{dir_eq_same, dir_eq_refl, dir_differs}
use Rattle.ae_memory.specs.FileRows.{is_at, bytes_after, tree_of, ElsewhereSame, with_row}
use Rattle.ae_outside.specs.declared.dir.Dir.{Dir}
use Rattle.ae_memory.specs.declared.site_files.FileRow.{FileRow}

-- rows of other files alone are taken away
pub filter_kept : (p : FileRow → Bool) (d : Dir) (q : List ℕ) → ((f : FileRow) → is_at d q f ≡ true → p f ≡ true) → (before : Option (List ℕ)) (fs : List FileRow) → bytes_after before (filter p fs) d q ≡ bytes_after before fs d q
filter_kept p d q keeps before [] = refl
filter_kept p d q keeps before (f ∷ fs) = elim (bool_cases (p f)) [
  | inl kept ↦ ap (λ (b : Bool). bytes_after before (if b then f ∷ filter p fs else filter p fs) d q) kept ∙ filter_kept p d q keeps (if is_at d q f then Some f.bytes else before) fs
  | inr gone ↦ elim (bool_cases (is_at d q f)) [
    | inl here ↦ let kept = keeps f here in cc
    | inr elsewhere ↦ ap (λ (b : Bool). bytes_after before (if b then f ∷ filter p fs else filter p fs) d q) gone ∙ filter_kept p d q keeps before fs
        ∙ ap (λ (b : Bool). bytes_after (if b then Some f.bytes else before) fs d q) (sym elsewhere)
  ]
]

-- all rows of the file are taken away
pub filter_gone : (p : FileRow → Bool) (d : Dir) (q : List ℕ) → ((f : FileRow) → is_at d q f ≡ true → p f ≡ false) → (before : Option (List ℕ)) (fs : List FileRow) → bytes_after before (filter p fs) d q ≡ before
filter_gone p d q drops before [] = refl
filter_gone p d q drops before (f ∷ fs) = elim (bool_cases (p f)) [
  | inl kept ↦ elim (bool_cases (is_at d q f)) [
    | inl here ↦ let gone = drops f here in cc
    | inr elsewhere ↦ ap (λ (b : Bool). bytes_after before (if b then f ∷ filter p fs else filter p fs) d q) kept
        ∙ ap (λ (b : Bool). bytes_after (if b then Some f.bytes else before) (filter p fs) d q) elsewhere ∙ filter_gone p d q drops before fs
  ]
  | inr gone ↦ ap (λ (b : Bool). bytes_after before (if b then f ∷ filter p fs else filter p fs) d q) gone ∙ filter_gone p d q drops before fs
]

pub file_gone : (dir : Dir) (path : List ℕ) (fs : List FileRow) → tree_of (filter (λ f. not (is_at dir path f)) fs) dir ≡ with_file path None (tree_of fs dir)
file_gone dir path fs = tree_ext _ _ (λ q. elim (bool_cases (bytes_eq path q)) [
  | inl same ↦
      let is : path ≡ q = (bytes_eq-Decides path q).0 same in
      filter_gone (λ f. not (is_at dir path f)) dir q (λ f here. not_from_true _ (subst (λ (r : List ℕ). is_at dir r f ≡ true) (sym is) here)) None fs
      ∙ sym (ap (λ (b : Bool). if b then None else tree_of fs dir q) same)
  | inr differs ↦
      filter_kept (λ f. not (is_at dir path f)) dir q (λ f here. not_from_false _ (other f q here differs)) None fs
      ∙ sym (ap (λ (b : Bool). if b then None else tree_of fs dir q) differs)
])
  where
    other : (f : FileRow) (q : List ℕ) → is_at dir q f ≡ true → bytes_eq path q ≡ false → is_at dir path f ≡ false
    other f q here differs = elim (bool_cases (is_at dir path f)) [
      | inl too ↦
          let at_q : f.path ≡ q = (bytes_eq-Decides f.path q).0 (and_parts (dir_eq f.dir dir) _ here).1 in
          let at_p : f.path ≡ path = (bytes_eq-Decides f.path path).0 (and_parts (dir_eq f.dir dir) _ too).1 in
          let same = (bytes_eq-Decides path q).1 (sym at_p ∙ at_q) in
          cc
      | inr is ↦ is
    ]

pub file_elsewhere : (dir : Dir) (path : List ℕ) (d : Dir) (fs : List FileRow) → d ≢ dir → tree_of (filter (λ f. not (is_at dir path f)) fs) d ≡ tree_of fs d
file_elsewhere dir path d fs differ = tree_ext _ _ (λ q. filter_kept (λ f. not (is_at dir path f)) d q (λ f here. not_from_false _ (other f q here)) None fs)
  where
    other : (f : FileRow) (q : List ℕ) → is_at d q f ≡ true → is_at dir path f ≡ false
    other f q here = elim (bool_cases (is_at dir path f)) [
      | inl too ↦ absurd (differ (sym (dir_eq_same f.dir d (and_parts _ (bytes_eq f.path q) here).0) ∙ dir_eq_same f.dir dir (and_parts _ (bytes_eq f.path path) too).0))
      | inr is ↦ is
    ]

pub dir_gone : (dir : Dir) (fs : List FileRow) → tree_of (filter (λ f. not (dir_eq f.dir dir)) fs) dir ≡ no_files
dir_gone dir fs = tree_ext _ _ (λ q. filter_gone (λ f. not (dir_eq f.dir dir)) dir q (λ f here. not_from_true _ (and_parts _ (bytes_eq f.path q) here).0) None fs)

pub dir_elsewhere : (dir d : Dir) (fs : List FileRow) → d ≢ dir → tree_of (filter (λ f. not (dir_eq f.dir dir)) fs) d ≡ tree_of fs d
dir_elsewhere dir d fs differ = tree_ext _ _ (λ q. filter_kept (λ f. not (dir_eq f.dir dir)) d q (λ f here. not_from_false _ (other f q here)) None fs)
  where
    other : (f : FileRow) (q : List ℕ) → is_at d q f ≡ true → dir_eq f.dir dir ≡ false
    other f q here = elim (bool_cases (dir_eq f.dir dir)) [
      | inl too ↦ absurd (differ (sym (dir_eq_same f.dir d (and_parts _ (bytes_eq f.path q) here).0) ∙ dir_eq_same f.dir dir too))
      | inr is ↦ is
    ]

push_after : (before : Option (List ℕ)) (fs : List FileRow) (f : FileRow) (d : Dir) (q : List ℕ) → bytes_after before (fs ++ f ∷ []) d q ≡ (if is_at d q f then Some f.bytes else bytes_after before fs d q)
push_after before [] f d q = refl
push_after before (g ∷ fs) f d q = push_after (if is_at d q g then Some g.bytes else before) fs f d q

and_true : (a b : Bool) → a ≡ true → (a && b) ≡ b
and_true true b h = refl
and_true false b h = cc

-- a row at the end
pub file_put : (fs : List FileRow) (f : FileRow) → tree_of (fs ++ f ∷ []) f.dir ≡ with_file f.path (Some f.bytes) (tree_of fs f.dir)
file_put fs f = tree_ext _ _ (λ q. push_after None fs f f.dir q ∙ ap (λ (b : Bool). if b then Some f.bytes else tree_of fs f.dir q) (and_true _ _ (dir_eq_refl f.dir)))

pub put_elsewhere : (fs : List FileRow) (f : FileRow) (d : Dir) → d ≢ f.dir → tree_of (fs ++ f ∷ []) d ≡ tree_of fs d
put_elsewhere fs f d differ = tree_ext _ _ (λ q. push_after None fs f d q ∙ ap (λ (b : Bool). if b then Some f.bytes else tree_of fs d q) (and_left _ _ (dir_differs f.dir d differ)))

pub elsewhere_then : (dir : Dir) (s t u : Dir → Tree) → ElsewhereSame dir s t → ElsewhereSame dir t u → ElsewhereSame dir s u
elsewhere_then dir s t u first second = record { others = λ d differ. second.others d differ ∙ first.others d differ }

pub tree_push : (fs : List FileRow) (f : FileRow) (dir : Dir) → tree_of (fs ++ f ∷ []) dir ≡ with_row dir f (tree_of fs dir)
tree_push fs f dir = elim (bool_cases (dir_eq f.dir dir)) [
  | inl same ↦ tree_ext _ _ (λ q. push_after None fs f dir q ∙ ap (λ (b : Bool). if b then Some f.bytes else tree_of fs dir q) (and_true _ _ same))
      ∙ ap (λ (b : Bool). if b then with_file f.path (Some f.bytes) (tree_of fs dir) else tree_of fs dir) (sym same)
  | inr differs ↦ tree_ext _ _ (λ q. push_after None fs f dir q ∙ ap (λ (b : Bool). if b then Some f.bytes else tree_of fs dir q) (and_left _ _ differs))
      ∙ ap (λ (b : Bool). if b then with_file f.path (Some f.bytes) (tree_of fs dir) else tree_of fs dir) (sym differs)
]

-- ---- bytes

-- where each row holds bytes, each file does
pub rows_hold : (rows : List FileRow) → ((k : ℕ) (d : FileRow) → k < length rows → AreBytes (get_or rows k d).bytes) → (before : Option (List ℕ)) → IfSome before AreBytes → (dir : Dir) (path : List ℕ) → IfSome (bytes_after before rows dir path) AreBytes
rows_hold [] all before holds dir path = holds
rows_hold (row ∷ rows) all before holds dir path = rows_hold rows (λ k d lt. all (suc k) d (omega (arith, lt))) (if is_at dir path row then Some row.bytes else before) (one (is_at dir path row)) dir path
  where
    one : (b : Bool) → IfSome (if b then Some row.bytes else before) AreBytes
    one true = all 0 row (omega arith)
    one false = holds
