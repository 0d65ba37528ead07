-- Lists whose elements are spelled one by one.
use Rattle.std.proofs.Common.{◌≡◌, ℕ, zero, suc, ◌+◌, ◌<◌, List, [], ◌∷◌, ◌++◌, length, map, take, get_or, All, refl, ap, ◌∙◌, append_assoc, subst, arith}
use Rattle.std.proofs.lemmas.List.{take_more, map-append}
use Rattle.std.proofs.lemmas.List.Elements.{All-nil, All-cons, All-head, All-tail, All-append}
use Rattle.ae_text.specs.Tree.{Node, list}
use Rattle.ae_text.specs.View.{items_of, members_of}
use Rattle.ae_schema.specs.Records.{Named, structure}

-- A list that fits, and is spelled as these nodes, has at each place a value that fits and is spelled as the node there.
pub record IsElement {A N : Type 0} (Fits : A → Type 0) (spelled : A → N) (xs : List A) (i : ℕ) (n : N) : Type 0 where
  pub value : A
  pub fits : Fits value
  pub is : spelled value ≡ n
  pub grows : take (suc i) xs ≡ take i xs ++ value ∷ []

pub element : {A N Y : Type 0} (Fits : A → Type 0) (spelled : A → N) (g : Y → N) (xs : List A) (ys : List Y) → All Fits xs
    → map spelled xs ≡ map g ys → (i : ℕ) (d : Y) → i < length ys → IsElement Fits spelled xs i (g (get_or ys i d))
element Fits spelled g [] [] fits e i d less = absurd (omega arith)
element Fits spelled g [] (y ∷ ys) fits e i d less = absurd (cc)
element Fits spelled g (x ∷ xs) [] fits e i d less = absurd (cc)
element Fits spelled g (x ∷ xs) (y ∷ ys) fits e zero d less = record { value = x; fits = All-head Fits x xs fits; is = cc; grows = refl }
element {A} {N} {Y} Fits spelled g (x ∷ xs) (y ∷ ys) fits e (suc i) d less =
    let tails : map spelled xs ≡ map g ys = cc in
    let inner = element Fits spelled g xs ys (All-tail Fits x xs fits) tails i d (omega arith) in
    record { value = inner.value; fits = inner.fits; is = inner.is; grows = ap (λ (zs : List A). x ∷ zs) inner.grows }

-- one row more
pub grown : {A N Y : Type 0} (spelled : A → N) (g : Y → N) (rows : List A) (row : A) (ys : List Y) (i : ℕ) (y : Y) → y ≡ get_or ys i y → i < length ys
    → map spelled rows ≡ map g (take i ys) → spelled row ≡ g y → map spelled (rows ++ row ∷ []) ≡ map g (take (i + 1) ys)
grown spelled g rows row ys i y is less so_far one =
    rw (take_more ys i y less, map-append spelled rows (row ∷ []), map-append g (take i ys) (get_or ys i y ∷ [])) (let here : spelled row ≡ g (get_or ys i y) = one ∙ ap g is in cc)

pub grown_fits : {A : Type 0} (Fits : A → Type 0) (rows : List A) (row : A) → All Fits rows → Fits row → All Fits (rows ++ row ∷ [])
grown_fits Fits rows row all one = All-append Fits rows (row ∷ []) all (All-cons Fits row [] one (All-nil Fits))

pub taken_fits : {A : Type 0} (Fits : A → Type 0) (ys : List A) (i : ℕ) (y : A) → y ≡ get_or ys i y → i < length ys → All Fits (take i ys) → Fits y → All Fits (take (i + 1) ys)
taken_fits Fits ys i y is less all one = rw (take_more ys i y less) (grown_fits Fits (take i ys) (get_or ys i y) all (subst Fits is one))

-- lists of values that are the same in a list are the same
pub same_items : (ns ms : List Node) → items_of ns ≡ items_of ms → ns ≡ ms
same_items [] [] e = refl
same_items [] (m ∷ ms) e = absurd (cc)
same_items (n ∷ ns) [] e = absurd (cc)
same_items (n ∷ ns) (m ∷ ms) e =
    let head : n ≡ m = cc in
    let tails : items_of ns ≡ items_of ms = cc in
    let tail = same_items ns ms tails in
    cc

-- and so are fields that are the same in a structure
pub same_members : (ns ms : List (List ℕ × Node)) → members_of ns ≡ members_of ms → ns ≡ ms
same_members [] [] e = refl
same_members [] (m ∷ ms) e = absurd (cc)
same_members (n ∷ ns) [] e = absurd (cc)
same_members (n ∷ ns) (m ∷ ms) e =
    let name : n.0 ≡ m.0 = cc in
    let value : n.1 ≡ m.1 = cc in
    let head : n ≡ m = λ i. (name i, value i) in
    let tails : members_of ns ≡ members_of ms = cc in
    let tail = same_members ns ms tails in
    cc

-- the values of one list
pub same_list : (n : Node) (ns ms : List Node) → list (items_of ns) ≡ n → n ≡ list (items_of ms) → ns ≡ ms
same_list n ns ms e f = let all : list (items_of ns) ≡ list (items_of ms) = e ∙ f in let inside : items_of ns ≡ items_of ms = cc (all) in same_items ns ms inside

-- the fields of one structure
pub same_structure : (n : Node) (ns ms : List Named) → structure ns ≡ n → n ≡ structure ms → ns ≡ ms
same_structure n ns ms e f = let all : structure ns ≡ structure ms = e ∙ f in let inside : members_of ns ≡ members_of ms = cc (all) in same_members ns ms inside

-- what is put after what was put before
pub joined : {A : Type 0} (before between after one more : List A) → between ≡ before ++ one → after ≡ between ++ more → after ≡ before ++ (one ++ more)
joined before between after one more first second = second ∙ ap (λ l. l ++ more) first ∙ append_assoc before one more
