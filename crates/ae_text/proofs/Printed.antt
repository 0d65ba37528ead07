-- What a printer has put, where the rest is still to come.
use Rattle.std.proofs.Common.{◌≡◌, ℕ, ◌+◌, ◌<◌, List, [], ◌∷◌, ◌++◌, length, drop, get_or, map, ap, sym, subst, ◌∙◌, append_assoc, Result, Ok, Err, OnOk, rules, if◌then◌else◌}
use Rattle.std.specs.Result.{is_ok}
use Rattle.std.proofs.lemmas.List.{at_drop_more}
use Rattle.ae_text.specs.Tree.{Node, Items, item, Members, member}
use Rattle.ae_text.specs.Tree as node_is
use Rattle.ae_text.specs.View.{node, named_node, items_of, items_seen, members_seen, node_step, field_step, members_step, items_step}
use Rattle.ae_text.specs.Canonical.{value_text, items_text, field_text, spaced_fields_text, fields_text}
use Rattle.ae_text.specs.Printing.{FitsTypes, ItemsFitTypes, MembersFitTypes}
use Rattle.ae_text.specs.declared.tree.Field.{Field}
use Rattle.ae_text.specs.declared.tree.Tree.{Tree}
use Rattle.ae_text.specs.declared.tree.Tree.TheFolds.{fold_out-Field, the_lemmas}
use Rattle.ae_text.specs.declared.tree.Tree.TheVariants as tree_is
use Rattle.ae_text.specs.declared.tree.Tree.TheViews.{out-FieldList}
use Rattle.ae_text.specs.declared.tree.TreeList.{TreeList}
use Rattle.ae_text.specs.declared.tree.FieldList.{FieldList}

-- two pieces put, and the rest
two_more : (out one two rest between after : List ℕ) → between ≡ out ++ one → after ≡ between ++ two → after ++ rest ≡ out ++ (one ++ (two ++ rest))
two_more out one two rest between after first second =
    ap (λ (l : List ℕ). l ++ rest) (second ∙ ap (λ (l : List ℕ). l ++ two) first) ∙ (append_assoc (out ++ one) two rest ∙ append_assoc out one (two ++ rest))

-- the next value of a list, of what the rows are spelled as
next_item : {A : Type 0} (spelled : A → Node) (rows : List A) (i : ℕ) (row : A) → row ≡ get_or rows i row → i < length rows
    → items_of (map spelled (drop i rows)) ≡ item (spelled row) (items_of (map spelled (drop (i + 1) rows)))
next_item {A} spelled rows i row is less =
    at_drop_more (λ (xs : List A). items_of (map spelled xs)) rows i row less ∙ ap (λ (x : A). item (spelled x) (items_of (map spelled (drop (i + 1) rows)))) (sym is)

-- a field is its name and its value
named : (field : Field) → named_node field ≡ (field.name, node field.value)
named field = fold_out-Field Node (List ℕ × Node) Members Items node_step field_step members_step items_step field

-- the next field of a structure
next_member : (fields : List Field) (i : ℕ) (field : Field) → field ≡ get_or fields i field → i < length fields
    → members_seen (drop i fields) ≡ member field.name (node field.value) (members_seen (drop (i + 1) fields))
next_member fields i field is less =
    let one : named_node (get_or fields i field) ≡ (field.name, node field.value) = ap named_node (sym is) ∙ named field in
    at_drop_more members_seen fields i field less ∙ ap (λ (m : List ℕ × Node). member m.0 m.1 (members_seen (drop (i + 1) fields))) one

-- a value put in a list
pub put_item : {A : Type 0} (spelled : A → Node) (rows : List A) (i : ℕ) (row : A) → row ≡ get_or rows i row → i < length rows
    → (before out between after whole : List ℕ) → between ≡ out ++ before → after ≡ between ++ value_text (spelled row)
    → out ++ items_text before (items_of (map spelled (drop i rows))) ≡ whole → after ++ items_text (44 ∷ 32 ∷ []) (items_of (map spelled (drop (i + 1) rows))) ≡ whole
put_item spelled rows i row is less before out between after whole first second so_far =
    two_more out before (value_text (spelled row)) (items_text (44 ∷ 32 ∷ []) (items_of (map spelled (drop (i + 1) rows)))) between after first second
    ∙ (ap (λ (js : Items). out ++ items_text before js) (sym (next_item spelled rows i row is less)) ∙ so_far)

pub item_fits : {A : Type 0} (spelled : A → Node) (rows : List A) (i : ℕ) (row : A) → row ≡ get_or rows i row → i < length rows → FitsTypes (spelled row)
    → ItemsFitTypes (items_of (map spelled (drop (i + 1) rows))) → ItemsFitTypes (items_of (map spelled (drop i rows)))
item_fits spelled rows i row is less one rest = subst (λ (js : Items). ItemsFitTypes js) (sym (next_item spelled rows i row is less)) (one, rest)

-- a field put in a structure
pub put_spaced : (fields : List Field) (i : ℕ) (field : Field) → field ≡ get_or fields i field → i < length fields
    → (out between after whole : List ℕ) → between ≡ out ++ 32 ∷ [] → after ≡ between ++ field_text field.name (value_text (node field.value))
    → out ++ spaced_fields_text (members_seen (drop i fields)) ≡ whole → after ++ spaced_fields_text (members_seen (drop (i + 1) fields)) ≡ whole
put_spaced fields i field is less out between after whole first second so_far =
    two_more out (32 ∷ []) (field_text field.name (value_text (node field.value))) (spaced_fields_text (members_seen (drop (i + 1) fields))) between after first second
    ∙ (ap (λ (ms : Members). out ++ spaced_fields_text ms) (sym (next_member fields i field is less)) ∙ so_far)

-- a field put on a line of its own
pub put_line : (fields : List Field) (i : ℕ) (field : Field) → field ≡ get_or fields i field → i < length fields
    → (out between after whole : List ℕ) → between ≡ out ++ field_text field.name (value_text (node field.value)) → after ≡ between ++ 10 ∷ []
    → out ++ fields_text (members_seen (drop i fields)) ≡ whole → after ++ fields_text (members_seen (drop (i + 1) fields)) ≡ whole
put_line fields i field is less out between after whole first second so_far =
    two_more out (field_text field.name (value_text (node field.value))) (10 ∷ []) (fields_text (members_seen (drop (i + 1) fields))) between after first second
    ∙ (ap (λ (ms : Members). out ++ fields_text ms) (sym (next_member fields i field is less)) ∙ so_far)

pub member_fits : (fields : List Field) (i : ℕ) (field : Field) → field ≡ get_or fields i field → i < length fields → FitsTypes (node field.value)
    → MembersFitTypes (members_seen (drop (i + 1) fields)) → MembersFitTypes (members_seen (drop i fields))
member_fits fields i field is less one rest = subst (λ (ms : Members). MembersFitTypes ms) (sym (next_member fields i field is less)) (one, rest)

-- three pieces put
pub three_put : (out a b c one two three : List ℕ) → one ≡ out ++ a → two ≡ one ++ b → three ≡ two ++ c → three ≡ out ++ (a ++ (b ++ c))
three_put out a b c one two three first second third =
    third ∙ (ap (λ (l : List ℕ). l ++ c) (second ∙ ap (λ (l : List ℕ). l ++ b) first) ∙ (append_assoc (out ++ a) b c ∙ append_assoc out a (b ++ c)))

-- a name put, and three pieces
pub four_put : (out name a b c one two three four : List ℕ) → one ≡ out ++ name → two ≡ one ++ a → three ≡ two ++ b → four ≡ three ++ c → four ≡ out ++ (name ++ (a ++ (b ++ c)))
four_put out name a b c one two three four first second third fourth =
    three_put one a b c two three four second third fourth ∙ (ap (λ (l : List ℕ). l ++ (a ++ (b ++ c))) first ∙ append_assoc out name (a ++ (b ++ c)))

-- what follows from the end that is put, where it was
pub where_put : {T E : Type 0} (r : Result T E) (after put before : List ℕ) (P : Type 0) → after ≡ (if is_ok r then put else before) → (after ≡ put → P) → OnOk r P
where_put (Ok v) after put before P is gives = gives is
where_put (Err e) after put before P is gives = tt

-- a list of values, and a structure, as they are seen
pub seen_list : (tree : Tree) (values : TreeList) (items : List Tree) → tree ≡ tree_is.List values → items ≡ values.items.items → node tree ≡ node_is.list (items_seen items)
seen_list tree values items is same = search (rules, the_lemmas)

pub seen_fields : (tree : Tree) (structure : FieldList) (items : List Field) → tree ≡ tree_is.Fields structure → items ≡ (out-FieldList structure).items.items → node tree ≡ node_is.fields (members_seen items)
seen_fields tree structure items is same = search (rules, the_lemmas)
