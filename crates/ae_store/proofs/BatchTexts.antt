-- The text of the file of a change, by its number.
use Rattle.std.proofs.Common.{◌≡◌, ℕ, suc, ◌<◌, ◌≤◌, refl, sym, ◌∙◌, ap, subst, Bool, true, false, cond, nat_eq, eqb-true, if◌then◌else◌, List, [], ◌∷◌, length, get_or, Option, Some, None, arith}
use Rattle.std.specs.Prelude.{All, is_some, Result, Ok, Err, IfOk, IfSome}
use Rattle.std.specs.List.{find}
use Rattle.std.specs.Str.{bytes_eq}
use Rattle.std.proofs.lemmas.Option.{same_Some}
use Rattle.std.proofs.lemmas.Bool.{false≢true}
use Rattle.ae_types.specs.declared.change.Change.{Change}
use Rattle.ae_types.specs.Found.{change_at, change_in, number_of_change, has_number}
use Rattle.ae_types.specs.Observation.{Observation}
use Rattle.ae_types.specs.Sound.{Sound}
use Rattle.ae_types.proofs.BinarySearch.{place-in}
use Rattle.ae_types.proofs.Keys.{by_number}
use Rattle.ae_types.proofs.Searched.{in-found}
use Rattle.ae_types.proofs.Splits.{to-if}
use Rattle.ae_schema.specs.declared.format.Format.TheVariants.{Two}
use Rattle.ae_schema.specs.Fits.{IsChangeNo, ProjectAscends, HoldsProject, HoldsFiles, HoldsChange, FitsProject, FitsChange, FilesAscend}
use Rattle.ae_schema.specs.Files.{project_fields, files_fields, change_fields}
use Rattle.ae_schema.specs.Records.{IsTextOf}
use Rattle.ae_types.specs.declared.project.Project.{Project}
use Rattle.ae_types.specs.declared.file_table.FileRow.{FileRow}
use Rattle.ae_types.specs.declared.file_table.Lock.{Lock}
use Rattle.ae_store.specs.Records.{IsProject, IsTable, IsChange}
use Rattle.ae_store.specs.Names.{project_file, files_file, change_file}
use Rattle.ae_store.specs.Changed.{canonical, change_text, text_in, text_of}
use Rattle.ae_store.specs.Batching.{change_of_state, IsNumbered, ChangeIsWritten}
use Rattle.ae_store.proofs.BatchNames.{same_number}

-- what holds of each number holds of one that is among them
pub each_has : (P : ℕ → Type 0) (numbers : List ℕ) (n : ℕ) → ((k : ℕ) → k < length numbers → P (get_or numbers k 0)) → has_number numbers n ≡ true → P n
each_has P [] n all has = absurd (false≢true has)
each_has P (m ∷ numbers) n all has = go (nat_eq n m) refl has (each_has P numbers n (λ k h. all (suc k) (omega (arith, h))))
  where
    go : (b : Bool) → nat_eq n m ≡ b → is_some (cond b (Some m) (find (λ other. nat_eq n other) numbers)) ≡ true → (has_number numbers n ≡ true → P n) → P n
    go true is h rest = subst P (sym (eqb-true n m is)) (all 0 (omega arith))
    go false is h rest = rest h

pub numbered_of : (o : Observation) → Sound o → HoldsProject (o.project, o.numbers) → All (λ (change : Change). change.number ≤ 1999) o.changes
numbered_of o sound fits k d h =
    let change = get_or o.changes k d in
    let found = in-found by_number number_of_change o.changes sound.changes.ascend change (place-in o.changes k d h) in
    let there = sound.changes.numbered change.number change found in
    (each_has IsChangeNo o.numbers change.number (λ i low. fits.2.1 i 0 low) there).1

-- the text of a change, where there is one
abbrev pub text_of_change : Option Change → List ℕ
text_of_change None = []
text_of_change (Some change) = canonical (change_fields Two change)

pub text_at : (changes : List Change) (n : ℕ) → n ≤ 1999 → All (λ (change : Change). change.number ≤ 1999) changes → change_text changes (change_file n) ≡ text_of_change (change_in changes n)
text_at [] n h all = refl
text_at (c ∷ changes) n h all =
    let low : c.number ≤ 1999 = all 0 c (omega arith) in
    let rest = text_at changes n h (λ k d less. all (suc k) d (omega (arith, less))) in
    let here : bytes_eq (change_file n) (change_file c.number) ≡ nat_eq n c.number = same_number n c.number (omega arith) (omega (arith, low)) in
    ap (λ (b : Bool). if b then canonical (change_fields Two c) else change_text changes (change_file n)) here ∙ go (nat_eq n c.number) rest
  where
    go : (b : Bool) → change_text changes (change_file n) ≡ text_of_change (change_in changes n) → (if b then canonical (change_fields Two c) else change_text changes (change_file n)) ≡ text_of_change (cond b (Some c) (change_in changes n))
    go true rest = refl
    go false rest = rest

pub text_is : (state : Option Observation) (n : ℕ) → n ≤ 1999 → IsNumbered state → text_of state (change_file n) ≡ text_of_change (change_of_state state n)
text_is None n h all = refl
text_is (Some o) n h all = text_at o.changes n h all

-- what follows of a value from three facts about it
pub if_ok : {A E : Type 0} (P Q R S : A → Type 0) (r : Result A E) → ((a : A) → P a → Q a → R a → S a) → IfOk r P → IfOk r Q → IfOk r R → IfOk r S
if_ok P Q R S (Ok a) step p q r = step a p q r
if_ok P Q R S (Err e) step p q r = tt

-- the project's text, where the copies are its parts
pub project_is : (o : Observation) (project : Project) (numbers : List ℕ) → project ≡ o.project → numbers ≡ o.numbers → canonical (project_fields Two (project, numbers)) ≡ text_in o project_file
project_is o project numbers p n = ap (λ (x : Project). canonical (project_fields Two (x, numbers))) p ∙ ap (λ (x : List ℕ). canonical (project_fields Two (o.project, x))) n

pub project_written : (o : Observation) (project : Project) (numbers : List ℕ) → project ≡ o.project → numbers ≡ o.numbers → Sound o
    → (text : List ℕ) → text ≡ canonical (project_fields Two (project, numbers)) → IsTextOf text (project_fields Two (project, numbers)) → HoldsProject (project, numbers) → IsProject Two (text_in o project_file) o.project o.numbers
project_written o project numbers p n sound text is again holds =
    let fits : FitsProject (project, numbers) = (holds, subst (λ (x : List ℕ). ProjectAscends (project, x)) (sym n) sound.project.numbers_ascend) in
    let start : IsProject Two (text_in o project_file) project numbers = (fits, subst (λ (t : List ℕ). IsTextOf t (project_fields Two (project, numbers))) (is ∙ project_is o project numbers p n) again) in
    subst (λ (x : List ℕ). IsProject Two (text_in o project_file) o.project x) n (subst (λ (x : Project). IsProject Two (text_in o project_file) x numbers) p start)

pub project_numbered : (o : Observation) (project : Project) (numbers : List ℕ) → project ≡ o.project → numbers ≡ o.numbers → Sound o → HoldsProject (project, numbers) → IsNumbered (Some o)
project_numbered o project numbers p n sound fits =
    numbered_of o sound (subst (λ (x : List ℕ). HoldsProject (o.project, x)) n (subst (λ (x : Project). HoldsProject (x, numbers)) p fits))

-- the text is that of these files and locks, which their types can hold
abbrev IsTableText : List ℕ → List FileRow → List Lock → Type 0
IsTableText text rows locks = HoldsFiles (rows, locks) × (text ≡ canonical (files_fields (rows, locks))) × IsTextOf text (files_fields (rows, locks))

-- the table's text, where the copies are its parts
pub table_written : (o : Observation) (rows : List FileRow) (locks : List Lock) → rows ≡ o.files → locks ≡ o.locks → Sound o
    → (text : List ℕ) → text ≡ canonical (files_fields (rows, locks)) → IsTextOf text (files_fields (rows, locks)) → HoldsFiles (rows, locks) → IsTable (text_in o files_file) o.files o.locks
table_written o rows locks r l sound text is again holds =
    let ascend : FilesAscend (o.files, o.locks) = (sound.rows.ascend, sound.locks.ascend) in
    let moved : IsTableText text o.files o.locks = subst (λ (y : List Lock). IsTableText text o.files y) l (subst (λ (x : List FileRow). IsTableText text x locks) r (holds, is, again)) in
    ((moved.0, ascend), subst (λ (t : List ℕ). IsTextOf t (files_fields (o.files, o.locks))) moved.1 moved.2)

pub change_written : (state : Option Observation) (n : ℕ) → n ≤ 1999 → IsNumbered state → IfSome state Sound → (change : Change) → Some change ≡ change_of_state state n
    → (text : List ℕ) → text ≡ canonical (change_fields Two change) → IsTextOf text (change_fields Two change) → HoldsChange Two change → ChangeIsWritten state n
change_written None n h all sound change found text is again holds = tt
change_written (Some o) n h all sound change found text is again holds =
    let good = sound.changes.good n change (sym found) in
    let fits : FitsChange Two change = (holds, (good.files.ascend, good.runs.ascend)) in
    let same : canonical (change_fields Two change) ≡ text_in o (change_file n) = ap text_of_change found ∙ sym (text_is (Some o) n h all) in
    to-if (λ (c : Change). IsChange Two (text_in o (change_file n)) c) (change_at o n)
    (λ (c : Change) e. subst (λ (x : Change). IsChange Two (text_in o (change_file n)) x) (same_Some change c (found ∙ e))
    (fits, subst (λ (t : List ℕ). IsTextOf t (change_fields Two change)) (is ∙ same) again))
