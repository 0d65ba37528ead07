-- The test of clashes says that no path is a folder on the way to another.
use Rattle.std.proofs.Common.{◌≡◌, ◌⊎◌, inl, inr, ℕ, refl, sym, ◌∙◌, ap, subst, List, [], ◌∷◌, ◌++◌, map, Some, Bool, true, false, cond, not, if◌then◌else◌, eqb-true}
use Rattle.std.specs.Prelude.{is_some}
use Rattle.std.specs.List.{find, list_all}
use Rattle.std.specs.Str.{bytes_eq}
use Rattle.std.proofs.lemmas.Bool.{false≢true, false_from_ne_true, not_from_false}
use Rattle.ae_base.specs.Names.{is_slash, IsFolderOf}
use Rattle.ae_types.specs.Clashes.{folders_of, has_path, none_clash, NoneClash}
use Rattle.ae_types.specs.Ordered.{itself}
use Rattle.ae_types.proofs.Keys.{by_text}
use Rattle.ae_types.proofs.Members.{In, in-left, in-right, in-either, in-map, map-in, all-in, in-all}
use Rattle.ae_types.proofs.Ordered.{found-key}
use Rattle.ae_types.proofs.Searched.{found-in}
use Rattle.ae_types.proofs.Splits.{not-is, some-found}

-- ---- the folders of a path

folder-front : (b : ℕ) (bs rest : List ℕ) → b ∷ bs ≡ 47 ∷ rest → is_slash b ≡ true
folder-front b bs rest e = cc

slash-is : (b : ℕ) → is_slash b ≡ true → b ≡ 47
slash-is b e = eqb-true b 47 e

pub heads : (a b : ℕ) (rs bs : List ℕ) → a ∷ rs ≡ b ∷ bs → a ≡ b
heads a b rs bs e = cc

pub tails : (a b : ℕ) (rs bs : List ℕ) → a ∷ rs ≡ b ∷ bs → rs ≡ bs
tails a b rs bs e = cc

pub in-folders : (path folder : List ℕ) → In (folders_of path) folder → IsFolderOf folder path
in-folders [] folder h = absurd h
in-folders (b ∷ bs) folder h = go (is_slash b) refl (in-either (if is_slash b then [] ∷ [] else []) (map (λ f. b ∷ f) (folders_of bs)) folder h) (in-folders bs)
  where
    first : (c : Bool) → is_slash b ≡ c → In (if c then [] ∷ [] else []) folder → IsFolderOf folder (b ∷ bs)
    first true e (inl is) = (bs, subst (λ f. b ∷ bs ≡ f ++ 47 ∷ bs) is (ap (λ c. c ∷ bs) (slash-is b e)))
    first true e (inr h) = absurd h
    first false e h = absurd h

    go : (c : Bool) → is_slash b ≡ c → In (if is_slash b then [] ∷ [] else []) folder ⊎ In (map (λ f. b ∷ f) (folders_of bs)) folder → ((f : List ℕ) → In (folders_of bs) f → IsFolderOf f bs) → IsFolderOf folder (b ∷ bs)
    go c e (inl m) rest = first c e (subst (λ d. In (if d then [] ∷ [] else []) folder) e m)
    go c e (inr m) rest =
        let f = map-in (λ f. b ∷ f) (folders_of bs) folder m in
        let r = rest f.0 f.1 in
        (r.0, ap (λ xs. b ∷ xs) r.1 ∙ ap (λ xs. xs ++ 47 ∷ r.0) f.2)

itself-is : (x : List ℕ) → x ≡ x
itself-is x = refl

pub folders-in : (path folder : List ℕ) → IsFolderOf folder path → In (folders_of path) folder
folders-in [] [] h = absurd (none h.0 h.1)
  where
    none : (rest : List ℕ) → [] ≡ 47 ∷ rest → ⊥
    none rest e = cc
folders-in [] (a ∷ rs) h = absurd (none h.0 h.1)
  where
    none : (rest : List ℕ) → [] ≡ a ∷ (rs ++ 47 ∷ rest) → ⊥
    none rest e = cc
folders-in (b ∷ bs) [] h = in-left (if is_slash b then [] ∷ [] else []) (map (λ f. b ∷ f) (folders_of bs)) []
    (subst (λ c. In {A = List ℕ} (if c then [] ∷ [] else []) []) (sym (ap is_slash (heads b 47 bs h.0 h.1))) (inl (itself-is [])))
folders-in (b ∷ bs) (a ∷ rs) h = in-right (if is_slash b then [] ∷ [] else []) (map (λ f. b ∷ f) (folders_of bs)) (a ∷ rs)
    (subst (λ c. In (map (λ f. b ∷ f) (folders_of bs)) (c ∷ rs)) (heads b a bs (rs ++ 47 ∷ h.0) h.1)
    (in-map (λ f. b ∷ f) (folders_of bs) rs (folders-in bs rs (h.0, tails b a bs (rs ++ 47 ∷ h.0) h.1))))

-- ---- the paths

pub has-in : (paths : List (List ℕ)) (path : List ℕ) → has_path paths path ≡ true → In paths path
has-in paths path e =
    let f = some-found (find (λ other. bytes_eq path other) paths) e in
    subst (In paths) (found-key by_text itself path paths f.0 f.1) (found-in by_text itself paths path f.0 f.1)

pub in-has : (paths : List (List ℕ)) (path : List ℕ) → In paths path → has_path paths path ≡ true
in-has [] path h = absurd h
in-has (p ∷ ps) path h = go h (bytes_eq path p) refl (in-has ps path)
  where
    go : In (p ∷ ps) path → (b : Bool) → bytes_eq path p ≡ b → (In ps path → has_path ps path ≡ true) → is_some (cond b (Some p) (find (λ other. bytes_eq path other) ps)) ≡ true
    go h true e rest = refl
    go (inl is) false e rest = absurd (false≢true (sym e ∙ ap (bytes_eq path) is ∙ by_text.same_self path))
    go (inr m) false e rest = rest m

pub clash-facts : (paths : List (List ℕ)) → none_clash paths ≡ true → NoneClash paths
clash-facts paths e folder path has there on =
    not-is (has_path paths folder) (all-in (λ f. not (has_path paths f)) (folders_of path) (all-in (λ p. list_all (λ f. not (has_path paths f)) (folders_of p)) paths e path (has-in paths path there)) folder (folders-in path folder on)) has

pub facts-clash : (paths : List (List ℕ)) → NoneClash paths → none_clash paths ≡ true
facts-clash paths h = in-all (λ p. list_all (λ f. not (has_path paths f)) (folders_of p)) paths (λ p m.
    in-all (λ f. not (has_path paths f)) (folders_of p) (λ f n. not_from_false (has_path paths f) (false_from_ne_true (has_path paths f) (λ has. h f p has (in-has paths p m) (in-folders p f n)))))
