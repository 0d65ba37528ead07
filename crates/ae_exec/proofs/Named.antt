-- What a command that failed left of the directories, path by path.
use Rattle.std.specs.Prelude.{◌≡◌, ◌⊎◌, ℕ, zero, suc, Bool, true, false, if◌then◌else◌, List, [], ◌∷◌, map, Option, Some, None, Contains}
use Rattle.std.proofs.Common.{arith, inl, inr, refl, sym, ap, subst, ◌∙◌}
use Rattle.std.proofs.lemmas.Bool.{false≢true}
use Rattle.std.specs.Str.{bytes_eq}
use Rattle.std.specs.declared.cmp.Ordering.{Ordering}
use Rattle.std.specs.declared.cmp.Ordering.TheVariants.{Less, Equal, Greater}
use Rattle.std.specs.FinMap.Entries.{by_order}
use Rattle.std.proofs.lemmas.Slice.Eq.{bytes_eq-Decides}
use Rattle.ae_base.specs.Rows.{Row, Rows, text_cmp}
use Rattle.ae_outside.specs.declared.dir.Dir.{Dir}
use Rattle.ae_outside.specs.Dirs.{dir_eq}
use Rattle.ae_outside.proofs.DirLaws.{dir_eq_refl, dir_eq_same}
use Rattle.ae_outside.specs.TreeLaws.{bool_cases, with_file_here}
use Rattle.ae_outside.specs.Trees.{Tree, with_file, with_rows}
use Rattle.ae_types.specs.declared.change.Change.{Change}
use Rattle.ae_types.specs.Ordered.{itself, put_by}
use Rattle.ae_words.specs.declared.table.Function.{Function}
use Rattle.ae_words.specs.declared.table.Function.TheVariants as function
use Rattle.ae_evidence.specs.declared.directories.DirChange.{DirChange}
use Rattle.ae_evidence.specs.declared.directories.DirChange.TheVariants.{Fill, Make, Put}
use Rattle.ae_evidence.specs.Directories.{dir_of, dirs_after, tree_after, with_some_file, with_some_files}
use Rattle.ae_machine.specs.Call.{Given, change_of, given_of}
use Rattle.ae_machine.specs.Directories.{changes_by, changes_of, in_order, put_paths}
use Rattle.ae_machine.specs.Fits.{makes_runs}
use Rattle.ae_machine.specs.Space.{placing}
use Rattle.ae_dirs.specs.Parts.{AreInPart, IsMadeInPart}
use Rattle.ae_exec.specs.Directories.{changes_develop, changes_integrate}
use Rattle.ae_exec.specs.Named.{FailedChangeInPart, NamedAlone, names_its_paths}
use Rattle.ae_exec.proofs.OwnDirs.{no-changes}

-- ---- paths among others

module _ {A : Type 0} where
  cons-cases : (x y : A) (xs : List A) → Contains (x ∷ xs) y → (x ≡ y) ⊎ Contains xs y
  cons-cases x y xs (zero, below, is) = inl is
  cons-cases x y xs (suc k, below, is) = inr (k, omega (arith, below), is)

  here : (x y : A) (xs : List A) → x ≡ y → Contains (x ∷ xs) y
  here x y xs is = (zero, omega arith, is)

  there : (x y : A) (xs : List A) → Contains xs y → Contains (x ∷ xs) y
  there x y xs (k, below, is) = (suc k, omega (arith, below), is)

  none-there : (y : A) → Contains [] y → ⊥
  none-there y (k, below, is) = omega (arith, below)

put-cases : (p x : List ℕ) (ps : List (List ℕ)) → Contains (put_by text_cmp itself p ps) x → (p ≡ x) ⊎ Contains ps x
put-cases p x [] c = cons-cases p x [] c
put-cases p x (q ∷ qs) c = go (put-cases p x qs) (text_cmp p q) c
  where
    go : (Contains (put_by text_cmp itself p qs) x → (p ≡ x) ⊎ Contains qs x) → (o : Ordering) → Contains (by_order o (p ∷ q ∷ qs) (p ∷ qs) (q ∷ put_by text_cmp itself p qs)) x → (p ≡ x) ⊎ Contains (q ∷ qs) x
    go rest Less c = cons-cases p x (q ∷ qs) c
    go rest Equal c = elim (cons-cases p x qs c) [
      | inl e ↦ inl e
      | inr t ↦ inr (there q x qs t)
    ]
    go rest Greater c = elim (cons-cases q x (put_by text_cmp itself p qs) c) [
      | inl e ↦ inr (here q x qs e)
      | inr t ↦ elim (rest t) [
        | inl e ↦ inl e
        | inr u ↦ inr (there q x qs u)
      ]
    ]

paths-cases : (ps made : List (List ℕ)) (x : List ℕ) → Contains (put_paths ps made) x → Contains ps x ⊎ Contains made x
paths-cases [] made x c = inr c
paths-cases (p ∷ ps) made x c = elim (paths-cases ps (put_by text_cmp itself p made) x c) [
  | inl t ↦ inl (there p x ps t)
  | inr u ↦ elim (put-cases p x made u) [
    | inl e ↦ inl (here p x ps e)
    | inr v ↦ inr v
  ]
]

ordered-are : (ps : List (List ℕ)) (x : List ℕ) → Contains (in_order ps) x → Contains ps x
ordered-are ps x c = elim (paths-cases ps [] x c) [
  | inl t ↦ t
  | inr none ↦ absurd (none-there x none)
]

-- ---- rows that a function of the paths gives

module _ (g : List ℕ → Option (List ℕ)) where
  abbrev rows_by : List (List ℕ) → Rows
  rows_by paths = map (λ path. (path, g path)) paths

  row-by : (paths : List (List ℕ)) (path : List ℕ) (bytes : Option (List ℕ)) → Contains (rows_by paths) (path, bytes) → Contains paths path × (bytes ≡ g path)
  row-by [] path bytes c = absurd (none-there (path, bytes) c)
  row-by (p ∷ ps) path bytes c = elim (cons-cases (p, g p) (path, bytes) (rows_by ps) c) [
    | inl e ↦ (here p path ps (ap (λ (r : Row). r.0) e), sym (ap (λ (r : Row). r.1) e) ∙ ap (λ (r : Row). g r.0) e)
    | inr t ↦ let rest = row-by ps path bytes t in (there p path ps rest.0, rest.1)
  ]

  put-holds : (paths : List (List ℕ)) (tree : Tree) (path : List ℕ) → (tree path ≡ g path) ⊎ Contains paths path → with_rows (rows_by paths) tree path ≡ g path
  put-holds [] tree path (inl is) = is
  put-holds [] tree path (inr c) = absurd (none-there path c)
  put-holds (p ∷ ps) tree path holds = put-holds ps (with_file p (g p) tree) path (elim (bool_cases (bytes_eq p path)) [
    | inl same ↦ inl (ap (λ (b : Bool). if b then g p else tree path) same ∙ ap g ((bytes_eq-Decides p path).0 same))
    | inr differs ↦
        let other : with_file p (g p) tree path ≡ tree path = ap (λ (b : Bool). if b then g p else tree path) differs in
        elim holds [
          | inl is ↦ inl (other ∙ is)
          | inr c ↦ elim (cons-cases p path ps c) [
            | inl e ↦ absurd (false≢true (sym differs ∙ (bytes_eq-Decides p path).1 e))
            | inr t ↦ inr t
          ]
        ]
  ])

made-here : (path : List ℕ) (tree : Tree) → tree path ≡ None → with_some_file path tree path ≡ Some []
made-here path tree none = rw none (with_file_here path (Some []) tree)

made-other : (p path : List ℕ) (tree : Tree) → bytes_eq p path ≡ false → with_some_file p tree path ≡ tree path
made-other p path tree differs = by (tree p) refl
  where
    by : (held : Option (List ℕ)) → tree p ≡ held → with_some_file p tree path ≡ tree path
    by (Some bytes) is = rw is refl
    by None is = rw is (ap (λ (b : Bool). if b then Some [] else tree path) differs)

made-kept : (path : List ℕ) (tree : Tree) → tree path ≡ Some [] → with_some_file path tree path ≡ Some []
made-kept path tree is = rw is is

made-holds : (paths : List (List ℕ)) (tree : Tree) (path : List ℕ) → (tree path ≡ Some []) ⊎ ((tree path ≡ None) × Contains paths path) → with_some_files paths tree path ≡ Some []
made-holds [] tree path (inl is) = is
made-holds [] tree path (inr c) = absurd (none-there path c.1)
made-holds (p ∷ ps) tree path holds = made-holds ps (with_some_file p tree) path (elim (bool_cases (bytes_eq p path)) [
  | inl same ↦
      let e : p ≡ path = (bytes_eq-Decides p path).0 same in
      inl (subst (λ (q : List ℕ). with_some_file q tree path ≡ Some []) (sym e) (elim holds [
        | inl is ↦ made-kept path tree is
        | inr none ↦ made-here path tree none.0
      ]))
  | inr differs ↦
      let other : with_some_file p tree path ≡ tree path = made-other p path tree differs in
      elim holds [
        | inl is ↦ inl (other ∙ is)
        | inr none ↦ elim (cons-cases p path ps none.1) [
          | inl e ↦ absurd (false≢true (sym differs ∙ (bytes_eq-Decides p path).1 e))
          | inr t ↦ inr (other ∙ none.0, t)
        ]
      ]
])

-- ---- one change

module _ (before after : Dir → Tree) (dir : Dir) (path : List ℕ) where
  abbrev Kept : Type 0
  Kept = after dir path ≡ before dir path

  abbrev KeptOr : List DirChange → Type 0
  KeptOr changes = Kept ⊎ (after dir path ≡ dirs_after changes before dir path)

  no-change : AreInPart [] before after → Kept
  no-change same = ap (λ (trees : Dir → Tree). trees dir path) same

  module _ (change : DirChange) (part : AreInPart (change ∷ []) before after) where
    abbrev own_dir : Dir
    own_dir = dir_of change

    abbrev made : Tree
    made = tree_after change (before own_dir)

    own-part : IsMadeInPart change (before own_dir) (after own_dir)
    own-part = subst (λ (trees : Dir → Tree). IsMadeInPart change (before own_dir) (trees own_dir)) (sym part.2) part.1.own

    other-dir : dir_eq own_dir dir ≡ false → Kept
    other-dir differs = ap (λ (trees : Dir → Tree). trees dir path) part.2 ∙ ap (λ (t : Tree). t path) (part.1.others dir (λ is. false≢true (sym differs ∙ ap (dir_eq own_dir) is ∙ dir_eq_refl own_dir)))

    -- in its own directory
    in-own : ((after own_dir path ≡ before own_dir path) ⊎ (after own_dir path ≡ made path)) → KeptOr (change ∷ [])
    in-own own = elim (bool_cases (dir_eq own_dir dir)) [
      | inl same ↦
          let moved : Kept ⊎ (after dir path ≡ made path) = subst (λ (d : Dir). (after d path ≡ before d path) ⊎ (after d path ≡ made path)) (dir_eq_same own_dir dir same) own in
          elim moved [
            | inl kept ↦ inl kept
            | inr is ↦ inr (is ∙ sym (ap (λ (b : Bool). (if b then made else before dir) path) same))
          ]
      | inr differs ↦ inl (other-dir differs)
    ]

    kept-own : after own_dir path ≡ before own_dir path → Kept
    kept-own own = elim (bool_cases (dir_eq own_dir dir)) [
      | inl same ↦ subst (λ (d : Dir). after d path ≡ before d path) (dir_eq_same own_dir dir same) own
      | inr differs ↦ other-dir differs
    ]

  one-filled : (d : Dir) (rows : Rows) → AreInPart (Fill d rows ∷ []) before after → KeptOr (Fill d rows ∷ [])
  one-filled d rows part = in-own (Fill d rows) part (elim (own-part (Fill d rows) part) [
    | inl same ↦ inl (ap (λ (t : Tree). t path) same)
    | inr is ↦ inr (ap (λ (t : Tree). t path) is)
  ])

  module _ (d : Dir) (g : List ℕ → Option (List ℕ)) (paths : List (List ℕ)) (part : AreInPart (Put d (rows_by g paths) ∷ []) before after) where
    one-put : KeptOr (Put d (rows_by g paths) ∷ [])
    one-put = in-own (Put d (rows_by g paths)) part (elim (own-part (Put d (rows_by g paths)) part path) [
      | inl same ↦ inl same
      | inr row ↦ let by = row-by g paths path (after d path) row in inr (by.1 ∙ sym (put-holds g paths (before d) path (inr by.0)))
    ])

    put-named : (Contains paths path → ⊥) → Kept
    put-named none = kept-own (Put d (rows_by g paths)) part (elim (own-part (Put d (rows_by g paths)) part path) [
      | inl same ↦ same
      | inr row ↦ absurd (none (row-by g paths path (after d path) row).0)
    ])

  module _ (d : Dir) (paths : List (List ℕ)) (part : AreInPart (Make d paths ∷ []) before after) where
    one-made : KeptOr (Make d paths ∷ [])
    one-made = in-own (Make d paths) part (elim (own-part (Make d paths) part path) [
      | inl same ↦ inl same
      | inr is ↦ inr (is.1 ∙ sym (made-holds paths (before d) path (inr (is.0, is.2))))
    ])

    make-named : (Contains paths path → ⊥) → Kept
    make-named none = kept-own (Make d paths) part (elim (own-part (Make d paths) part path) [
      | inl same ↦ same
      | inr is ↦ absurd (none is.2)
    ])

  -- ---- by the function

  module _ (given : Given) (change : Change) where
    by-develop : (f : Function) → changes_develop f ≡ true → makes_runs f ≡ false → AreInPart (changes_of f given change) before after → KeptOr (changes_of f given change)
    by-develop function.DevelopBegin develop quiet part = one-filled _ _ part
    by-develop function.CopyFile develop quiet part = one-put _ _ _ part
    by-develop function.CopyFileUndo develop quiet part = one-put _ _ _ part
    by-develop function.NewFile develop quiet part = one-made _ _ part
    by-develop function.NewFileUndo develop quiet part = one-put _ _ _ part
    by-develop function.NewTest develop quiet part = one-made _ _ part
    by-develop function.NewTestUndo develop quiet part = one-put _ _ _ part
    by-develop function.RemoveFile develop quiet part = one-put _ _ _ part
    by-develop function.RemoveFileUndo develop quiet part = one-put _ _ _ part
    by-develop _ develop quiet part = cc

    by-integrate : (f : Function) → changes_integrate f ≡ true → AreInPart (changes_of f given change) before after → KeptOr (changes_of f given change)
    by-integrate function.IntegrateBegin integrate part = one-filled _ _ part
    by-integrate _ integrate part = cc

    by-named : (f : Function) → names_its_paths f ≡ true → AreInPart (changes_of f given change) before after → (Contains given.call.command.paths path → ⊥) → Kept
    by-named function.CopyFile names part none = put-named _ _ _ part none
    by-named function.CopyFileUndo names part none = put-named _ _ _ part (λ c. none (ordered-are given.call.command.paths path c))
    by-named function.RemoveFileUndo names part none = put-named _ _ _ part (λ c. none (ordered-are given.call.command.paths path c))
    by-named function.NewFile names part none = make-named _ _ part none
    by-named function.NewTest names part none = make-named _ _ part none
    by-named function.NewFileUndo names part none = put-named _ _ _ part none
    by-named function.NewTestUndo names part none = put-named _ _ _ part none
    by-named function.RemoveFile names part none = put-named _ _ _ part none
    by-named _ names part none = cc

  module _ (given : Given) (quiet : makes_runs given.call.command.function ≡ false) where
    none-by : (named : Option Change) → changes_develop given.call.command.function ≡ false → changes_integrate given.call.command.function ≡ false → AreInPart (changes_by given named) before after → KeptOr (changes_by given named)
    none-by named develop integrate part = inl (no-change (subst (λ (l : List DirChange). AreInPart l before after) (sym (no-changes given named quiet develop integrate)) part))

    lost-by : (named : Option Change) → AreInPart (changes_by given named) before after → KeptOr (changes_by given named)
    lost-by None part = inl (no-change part)
    lost-by (Some change) part = elim (bool_cases (changes_develop given.call.command.function)) [
      | inl develop ↦ by-develop given change given.call.command.function develop quiet part
      | inr other ↦ elim (bool_cases (changes_integrate given.call.command.function)) [
        | inl integrate ↦ by-integrate given change given.call.command.function integrate part
        | inr neither ↦ none-by (Some change) other neither part
      ]
    ]

  named-by : (given : Given) (named : Option Change) → names_its_paths given.call.command.function ≡ true → AreInPart (changes_by given named) before after → (Contains given.call.command.paths path → ⊥) → Kept
  named-by given None names part none = no-change part
  named-by given (Some change) names part none = by-named given change given.call.command.function names part none

-- ---- the whole

pub failed-in-part : FailedChangeInPart
failed-in-part o bytes command who when view before after quiet part dir path =
    let given : Given = given_of placing o bytes command who when view in
    lost-by before after dir path given quiet (change_of given.call) part

pub named-alone : NamedAlone
named-alone o bytes command who when view before after names part dir path none =
    let given : Given = given_of placing o bytes command who when view in
    named-by before after dir path given (change_of given.call) names part none
