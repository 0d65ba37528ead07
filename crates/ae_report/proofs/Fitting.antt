-- Values have the kinds of their expressions.
use Rattle.std.proofs.Common.{◌≡◌, ℕ, ◌∙◌, List, [], ◌∷◌, refl, sym, ap, subst}
use Rattle.std.specs.Prelude.{ℤ, pos, negsuc, nat_le, Bool, true, false, not, Option, Some, None, Result, Ok, Err, find, if◌then◌else◌}
use Rattle.std.specs.List.{All, flat_map}
use Rattle.std.specs.Option.{option_or}
use Rattle.std.specs.Str.{bytes_eq}
use Rattle.std.proofs.lemmas.List.Elements.{All-nil, All-append, All-map}
use Rattle.std.proofs.lemmas.List.Folds.{find-append}
use Rattle.std.proofs.lemmas.Slice.Eq.{bytes_eq-Decides}
use Rattle.ae_base.specs.Limits.{last_moment}
use Rattle.ae_list.specs.Moments.{shown_moment}
use Rattle.ae_rlang.specs.declared.operator.Operator.{Operator}
use Rattle.ae_rlang.specs.declared.operator.Operator.TheVariants.{Or, And, Equal, Unequal, Less, AtMost, Plus, Minus}
use Rattle.ae_rlang.specs.declared.operator.Kind.{Kind}
use Rattle.ae_rlang.specs.declared.operator.Kind.TheVariants as kind_is
use Rattle.ae_rlang.specs.declared.table.Table.{Table}
use Rattle.ae_rlang.specs.declared.table.Table.TheVariants as table_is
use Rattle.ae_rlang.specs.declared.table.RowField.{RowField}
use Rattle.ae_rlang.specs.Table.{fields_of, field_word, field_kind}
use Rattle.ae_rlang.specs.Operator.{result_kind}
use Rattle.ae_rlang.specs.Report.{Meant, operated, negated, number, text, flag, total, field, timed}
use Rattle.ae_rlang.specs.Fits.{kind_of, Takes, no_names, with_name, HasField, Fits}
use Rattle.ae_types.specs.declared.change.Change.{Change}
use Rattle.ae_types.specs.Observation.{Observation}
use Rattle.ae_types.specs.Trees.{baseline_of, edit_of}
use Rattle.ae_report.specs.declared.value.Value.{Value}
use Rattle.ae_report.specs.declared.value.Value.TheVariants.{Number, Text, Flag}
use Rattle.ae_report.specs.Kinds.{HasKind, value_kind, IsRowOf, StandsFor, AreRows}
use Rattle.ae_report.specs.Out.{bind}
use Rattle.ae_report.specs.Results.{and_then, and_map}
use Rattle.ae_report.specs.Rows.{Row, of_change, of_file, of_delta, of_history, of_evidence, file_row, history_rows, evidence_rows, rows, row_field}
use Rattle.ae_report.specs.Values.{Binding, Known, row_bound, number_of, is_true, shown_at, decides, joined, with_left, value}

-- ---- rows

-- P holds of each of these
abbrev Each : (RowField → Type 0) → List RowField → Type 0
Each P [] = Unit {0}
Each P (x ∷ xs) = P x × Each P xs

found-is : (P : RowField → Type 0) (p : RowField → Bool) (xs : List RowField) (x : RowField) → Each P xs → find p xs ≡ Some x → P x
found-is P p [] x all is = absurd (let no : None ≡ Some x = is in cc)
found-is P p (y ∷ ys) x all is = go (p y) is (found-is P p ys x all.1)
  where
    go : (b : Bool) → (if b then Some y else find p ys) ≡ Some x → (find p ys ≡ Some x → P x) → P x
    go true e rest = let same : y ≡ x = cc in subst P same all.0
    go false e rest = rest e

-- a row whose fields have their kinds
of-table : (table : Table) (row : Row) → Each (λ f. value_kind (row_field row f) ≡ field_kind f) (fields_of table) → IsRowOf table row
of-table table row all word f is = found-is (λ (x : RowField). value_kind (row_field row x) ≡ field_kind x) (λ (x : RowField). bytes_eq (field_word x) word) (fields_of table) f all is

change-row : (change : Change) → IsRowOf table_is.Changes (of_change change)
change-row change = of-table table_is.Changes (of_change change) (refl, (refl, (refl, (refl, (refl, (refl, (refl, (refl, tt))))))))

file-row : (edits : ℕ) (file : _) → IsRowOf table_is.Files (of_file edits file)
file-row edits file = of-table table_is.Files (of_file edits file) (refl, (refl, (refl, (refl, tt))))

delta-row : (delta : _) → IsRowOf table_is.Deltas (of_delta delta)
delta-row delta = of-table table_is.Deltas (of_delta delta) (refl, (refl, (refl, (refl, tt))))

history-row : (change : ℕ) (row : _) → IsRowOf table_is.History (of_history change row)
history-row change row = of-table table_is.History (of_history change row) (refl, (refl, (refl, (refl, (refl, tt)))))

evidence-row : (change : ℕ) (run : _) → IsRowOf table_is.Evidence (of_evidence change run)
evidence-row change run = of-table table_is.Evidence (of_evidence change run) (refl, (refl, (refl, (refl, (refl, (refl, tt))))))

each-of : {X : Type 0} (P : X → Type 0) → ((x : X) → P x) → (xs : List X) → All P xs
each-of P h xs k d below = h _

parts : (P : Row → Type 0) (rows_of : Change → List Row) → ((change : Change) → All P (rows_of change)) → (changes : List Change) → All P (flat_map rows_of changes)
parts P rows_of h [] = All-nil P
parts P rows_of h (c ∷ cs) = All-append P (rows_of c) (flat_map rows_of cs) (h c) (parts P rows_of h cs)

-- the rows of a table are such
pub all-rows : (table : Table) (o : Observation) → All (IsRowOf table) (rows o table)
all-rows table_is.Changes o = All-map (IsRowOf table_is.Changes) of_change o.changes (each-of _ change-row o.changes)
all-rows table_is.Files o = All-map (IsRowOf table_is.Files) (file_row o) (baseline_of o) (each-of _ (λ file. file-row (edit_of o file.path) file) (baseline_of o))
all-rows table_is.Deltas o = All-map (IsRowOf table_is.Deltas) of_delta o.project.deltas (each-of _ delta-row o.project.deltas)
all-rows table_is.History o =
    parts (IsRowOf table_is.History) history_rows (λ change. All-map (IsRowOf table_is.History) (of_history change.number) change.history (each-of _ (history-row change.number) change.history)) o.changes
all-rows table_is.Evidence o =
    parts (IsRowOf table_is.Evidence) evidence_rows (λ change. All-map (IsRowOf table_is.Evidence) (of_evidence change.number) change.evidence (each-of _ (evidence-row change.number) change.evidence)) o.changes

-- ---- names

pub none-bound : AreRows no_names []
none-bound name = tt

stands-none : (found : Option Binding) → StandsFor None found → found ≡ None
stands-none None h = refl
stands-none (Some b) h = absurd h

stands-still : (table : Option Table) (found : Option Binding) → StandsFor table found → StandsFor table (option_or found None)
stands-still None None h = h
stands-still None (Some b) h = h
stands-still (Some t) None h = h
stands-still (Some t) (Some b) h = h

-- a name more stands for a row
pub bound-row : (names : List ℕ → Option Table) (bound : List Binding) (name : List ℕ) (table : Table) (row : Row) → AreRows names bound → names name ≡ None → IsRowOf table row
    → AreRows (with_name name table names) (bind bound name row)
bound-row names bound name table row are new is v =
    let last : Binding = record { name = name; row = row } in
    let P : Option Binding → Type 0 = λ found. StandsFor (with_name name table names v) found in
    subst P (sym (find-append (λ (b : Binding). bytes_eq b.name v) bound (last ∷ []))) (go (bytes_eq name v) refl)
  where
    go : (b : Bool) → bytes_eq name v ≡ b
        → StandsFor (if b then Some table else names v) (option_or (find (λ (x : Binding). bytes_eq x.name v) bound) (if b then Some (record { name = name; row = row }) else None))
    go true e =
        let same : name ≡ v = (bytes_eq-Decides name v).0 e in
        let free : names v ≡ None = sym (ap names same) ∙ new in
        let nothing : find (λ (x : Binding). bytes_eq x.name v) bound ≡ None =
        stands-none (find (λ (x : Binding). bytes_eq x.name v) bound) (subst (λ (t : Option Table). StandsFor t (find (λ (x : Binding). bytes_eq x.name v) bound)) free (are v)) in
        let Q : Option Binding → Type 0 = λ found. StandsFor (Some table) (option_or found (Some (record { name = name; row = row }))) in
        subst Q (sym nothing) is
    go false e = stands-still (names v) (find (λ (x : Binding). bytes_eq x.name v) bound) (are v)

-- the row that a name stands for
row-found : (bound : List Binding) (name : List ℕ) (b : Binding) → find (λ (x : Binding). bytes_eq x.name name) bound ≡ Some b → row_bound bound name ≡ b.row
row-found [] name b is = absurd (let no : None ≡ Some b = is in cc)
row-found (x ∷ more) name b is = go (bytes_eq x.name name) is (row-found more name b)
  where
    go : (c : Bool) → (if c then Some x else find (λ (y : Binding). bytes_eq y.name name) more) ≡ Some b
        → (find (λ (y : Binding). bytes_eq y.name name) more ≡ Some b → row_bound more name ≡ b.row) → (if c then x.row else row_bound more name) ≡ b.row
    go true e rest = let same : x ≡ b = cc in ap (λ (y : Binding). y.row) same
    go false e rest = rest e

field-kind : (table : Option Table) (found : Option Binding) (bound : List Binding) (name : List ℕ) (f : RowField) → find (λ (x : Binding). bytes_eq x.name name) bound ≡ found
    → StandsFor table found → HasField table f → value_kind (row_field (row_bound bound name) f) ≡ field_kind f
field-kind None found bound name f is stands has = absurd has
field-kind (Some table) None bound name f is stands has = absurd stands
field-kind (Some table) (Some b) bound name f is stands has =
    ap (λ (r : Row). value_kind (row_field r f)) (row-found bound name b is) ∙ stands has.0 f has.1

-- ---- values

-- the value that is told
told : (v w : Value) → (let one : Result Value ℕ = Ok v in one ≡ Ok w) → value_kind w ≡ value_kind v
told v w is = let same : v ≡ w = cc in ap value_kind (sym same)

never-told : (line : ℕ) (v : Value) (kind : Kind) → (let one : Result Value ℕ = Err line in one ≡ Ok v) → value_kind v ≡ kind
never-told line v kind is = cc

number-told : (r : Result ℤ ℕ) (v : Value) → and_map Number r ≡ Ok v → value_kind v ≡ kind_is.Number
number-told (Ok n) v is = told (Number n) v is
number-told (Err line) v is = never-told line v kind_is.Number is

flag-told : (r : Result Value ℕ) (v : Value) → and_map (λ x. Flag (not (is_true x))) r ≡ Ok v → value_kind v ≡ kind_is.Flag
flag-told (Ok x) v is = told (Flag (not (is_true x))) v is
flag-told (Err line) v is = never-told line v kind_is.Flag is

time-told : (line : ℕ) (n : ℤ) (v : Value) → shown_at line n ≡ Ok v → value_kind v ≡ kind_is.Text
time-told line (pos n) v is = go (nat_le n last_moment) is
  where
    go : (b : Bool) → (if b then Ok (Text (shown_moment n)) else Err line) ≡ Ok v → value_kind v ≡ kind_is.Text
    go true e = told (Text (shown_moment n)) v e
    go false e = never-told line v kind_is.Text e
time-told line (negsuc n) v is = never-told line v kind_is.Text is

timed-told : (line : ℕ) (r : Result Value ℕ) (v : Value) → and_then r (λ x. shown_at line (number_of x)) ≡ Ok v → value_kind v ≡ kind_is.Text
timed-told line (Ok x) v is = time-told line (number_of x) v is
timed-told line (Err at) v is = never-told at v kind_is.Text is

-- both sides are of the kinds that the operator takes
joined-kind : (op : Operator) (line : ℕ) (a b v : Value) → Takes op (value_kind a) (value_kind b) → joined line op a b ≡ Ok v → value_kind v ≡ result_kind op
joined-kind Or line a b v takes is = told b v is ∙ takes.1
joined-kind And line a b v takes is = told b v is ∙ takes.1
joined-kind Equal line a b v takes is = told _ v is
joined-kind Unequal line a b v takes is = told _ v is
joined-kind Less line a b v takes is = told _ v is
joined-kind AtMost line a b v takes is = told _ v is
joined-kind Plus line a b v takes is = number-told _ v is
joined-kind Minus line a b v takes is = number-told _ v is

left-kind : (op : Operator) (a b : Kind) (left : Bool) → decides op left ≡ true → Takes op a b → a ≡ result_kind op
left-kind Or a b left is takes = takes.0
left-kind And a b left is takes = takes.0
left-kind Equal a b left is takes = cc
left-kind Unequal a b left is takes = cc
left-kind Less a b left is takes = cc
left-kind AtMost a b left is takes = cc
left-kind Plus a b left is takes = cc
left-kind Minus a b left is takes = cc

sides-kind : (op : Operator) (line : ℕ) (left right : Result Value ℕ) (a b : Kind) (v : Value) → Takes op a b → HasKind left a → HasKind right b
    → and_then left (with_left line op right) ≡ Ok v → value_kind v ≡ result_kind op
sides-kind op line (Err at) right a b v takes l r is = never-told at v (result_kind op) is
sides-kind op line (Ok x) right a b v takes l r is = go (decides op (is_true x)) refl is
  where
    after : (other : Result Value ℕ) → right ≡ other → and_then other (joined line op x) ≡ Ok v → value_kind v ≡ result_kind op
    after (Err at) e told' = never-told at v (result_kind op) told'
    after (Ok y) e told' =
        let kinds : Takes op (value_kind x) (value_kind y) = subst (λ (k : Kind). Takes op (value_kind x) k) (sym (r y e)) (subst (λ (k : Kind). Takes op k b) (sym (l x refl)) takes) in
        joined-kind op line x y v kinds told'

    go : (c : Bool) → decides op (is_true x) ≡ c → (if c then Ok x else and_then right (joined line op x)) ≡ Ok v → value_kind v ≡ result_kind op
    go true e told' = told x v told' ∙ l x refl ∙ left-kind op a b (is_true x) e takes
    go false e told' = after right refl told'

pub values-fit : (e : Meant) (names : List ℕ → Option Table) (known : Known) (v : Value) → Fits names e → AreRows names known.bound → value e known ≡ Ok v → value_kind v ≡ kind_of e
values-fit (operated line op left right) names known v fits are is =
    sides-kind op line (value left known) (value right known) (kind_of left) (kind_of right) v fits.0
    (λ x e. values-fit left names known x fits.1 are e) (λ x e. values-fit right names known x fits.2 are e) is
values-fit (negated line e) names known v fits are is = flag-told (value e known) v is
values-fit (number line n) names known v fits are is = told (Number n) v is
values-fit (text line s) names known v fits are is = told (Text s) v is
values-fit (flag line b) names known v fits are is = told (Flag b) v is
values-fit (total line name) names known v fits are is = told _ v is
values-fit (field line name f) names known v fits are is =
    told (row_field (row_bound known.bound name) f) v is
    ∙ field-kind (names name) (find (λ (x : Binding). bytes_eq x.name name) known.bound) known.bound name f refl (are name) fits
values-fit (timed line e) names known v fits are is = timed-told line (value e known) v is
