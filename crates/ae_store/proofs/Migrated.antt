-- A project is taken from the first format into the second: what its files stand for then, and when one is needed.
use Rattle.std.proofs.Common.{◌≡◌, ◌≢◌, inl, inr, ℕ, refl, sym, ◌∙◌, ap, subst, Bool, false, if◌then◌else◌, List, [], ◌∷◌, map, Option, Some, None, Result, Ok, Err, IfOk, IfErr, unwrap_or}
use Rattle.std.specs.Prelude.{filter}
use Rattle.std.specs.Str.{bytes_eq}
use Rattle.std.proofs.lemmas.Option.{same_Some}
use Rattle.ae_base.specs.declared.want.Want.{Want}
use Rattle.ae_base.specs.declared.want.Want.TheVariants.{All}
use Rattle.ae_outside.specs.Image.{Image}
use Rattle.ae_vault.specs.declared.entry.Entry.{Entry}
use Rattle.ae_vault.specs.Batch.{BatchRecord}
use Rattle.ae_vault.specs.Body.{entries_put}
use Rattle.ae_vault.specs.Vault.{content_of, put}
use Rattle.ae_vault.proofs.EntriesPut.{content-put, files-put}
use Rattle.ae_schema.specs.declared.format.Format.{Format}
use Rattle.ae_schema.specs.declared.format.Format.TheVariants.{One, Two}
use Rattle.ae_schema.specs.Formats.{IsOfFormat}
use Rattle.ae_types.specs.declared.blame.Blame.{Blame}
use Rattle.ae_types.specs.declared.change.Change.{Change}
use Rattle.ae_types.specs.Found.{number_of_change}
use Rattle.ae_types.specs.Observation.{Observation}
use Rattle.ae_store.specs.declared.stop.Stop.{Stop}
use Rattle.ae_store.specs.declared.stop.Stop.TheVariants.{Blamed, DiskFault, Memory}
use Rattle.ae_store.specs.Changed.{entry_for}
use Rattle.ae_store.specs.Damage.{IsBlamedIn, first}
use Rattle.ae_store.specs.Migrating.{is_other, migrated_entry, Migrates, NeedsNone, IsNeeded, AnswersMigration}
use Rattle.ae_store.specs.Names.{project_file, files_file, change_file}
use Rattle.ae_store.specs.Records.{AreChangeFiles, HaveRecords, IsChange, IsProject, IsTable, StandsFor, StandsIn}
use Rattle.ae_store.specs.Steps.{IsLoaded, IsMade, IsMadeOf}
use Rattle.ae_store.proofs.EntriesLeft.{content_left}
use Rattle.ae_store.proofs.Formats.{Tells, first_needs, first_not_blamed, needs_none_migrated, no_format_blamed}
use Rattle.ae_store.proofs.OneState.{one_state, view}
use Rattle.ae_store.proofs.ShownParts.{complete_stands}

-- ---- what the files stand for with the batch

-- all changes of what stands are there
complete : (format : Format) (files : Image) (numbers : List ℕ) (changes : List Change) → AreChangeFiles format files numbers changes → numbers ≡ map number_of_change changes
complete format files [] [] are = refl
complete format files [] (change ∷ changes) are = absurd are
complete format files (number ∷ numbers) [] are = absurd are
complete format files (number ∷ numbers) (change ∷ changes) are = λ i. sym are.1 i ∷ complete format files numbers changes are.2 i

module _ (o : Observation) (all without : List Entry) (is_all : (name : List ℕ) → content_of all name ≡ entry_for None o name)
    (is_left : (name : List ℕ) → content_of without name ≡ migrated_entry o name) (there : (files : Image) → HaveRecords Two (put all files) o) where
  -- all files but that of the table get the same as from all entries
  same_put : (files : Image) (name : List ℕ) → bytes_eq name files_file ≡ false → put all files name ≡ put without files name
  same_put files name other = ap (λ v. unwrap_or v (files name)) (is_all name ∙ sym (is_left name ∙ ap (λ (b : Bool). if b then None else entry_for None o name) other))

  -- the file of the table stays
  same_table : (files : Image) → files files_file ≡ put without files files_file
  same_table files = ap (λ v. unwrap_or v (files files_file)) (sym (is_left files_file))

  records_put : (format : Format) (files : Image) → StandsIn format files (Some o) → HaveRecords Two (put without files) o
  records_put format files stands =
      let have = there files in
      record {
        project = subst (λ (bytes : List ℕ). IsProject Two bytes o.project o.numbers) (same_put files project_file refl) have.project;
        table = subst (λ (bytes : List ℕ). IsTable bytes o.files o.locks) (same_table files) (view format All files (Some o) stands).0.table;
        changes = λ number change found. subst (λ (bytes : List ℕ). IsChange Two bytes change) (same_put files (change_file number) refl) (have.changes number change found);
      }

  pub migrated_stands : (files : Image) → StandsFor files (Some o) → StandsIn Two (put without files) (Some o)
  migrated_stands files stands =
      let are = view stands.0 All files (Some o) stands.1 in
      complete_stands Two (put without files) o (records_put stands.0 files stands.1) are.1 (complete stands.0 files o.numbers o.changes are.0.changes)

-- the batch of the entries that are left takes it into the second format
pub migrates_left : (o : Observation) (all without : List Entry) → without ≡ filter (is_other files_file) all → ((name : List ℕ) → content_of all name ≡ entry_for None o name)
    → ((files : Image) → HaveRecords Two (put all files) o) → Migrates o (record { entries = entries_put without; pieces = [] })
migrates_left o all without is is_all there =
    let is_left : (name : List ℕ) → content_of without name ≡ migrated_entry o name = λ name.
    ap (λ (es : List Entry). content_of es name) is ∙ content_left files_file all name ∙ ap (λ (v : Option (List ℕ)). if bytes_eq name files_file then None else v) (is_all name) in
    record {
      entries = λ name. content-put without name ∙ is_left name;
      pieces = refl;
      stands = λ files stands. subst (λ (image : Image). StandsIn Two image (Some o)) (sym (files-put without files)) (migrated_stands o all without is_all is_left there files stands);
    }

-- what holds of the batch that was meant holds of the one that was made
pub of_made : {E : Type 0} (result : Result BatchRecord E) (meant : BatchRecord) (P : BatchRecord → Type 0) → IfOk result (λ batch. batch ≡ meant) → P meant → IfOk result P
of_made (Ok batch) meant P is p = subst P (sym is) p
of_made (Err error) meant P is p = tt

-- ---- what is needed

-- where none is needed there is none
pub none_made : (files : Image) (batch : Option BatchRecord) → IsNeeded files batch → NeedsNone files → batch ≡ None
none_made files None needed none = refl
none_made files (Some batch) needed none = absurd (first_needs files needed.stood needed.first none)

-- and what stands in the first format has its batch
pub of_needed : (files : Image) (batch : Option BatchRecord) (o : Observation) → IsNeeded files batch → StandsIn One files (Some o) → AnswersMigration o (Ok batch)
of_needed files None o needed stands = first_needs files o stands needed
of_needed files (Some batch) o needed stands =
    subst (λ (p : Observation). Migrates p batch) (same_Some needed.stood o (one_state One All files (Some needed.stood) (Some o) needed.first stands)) needed.migrates

-- files of which one is blamed need nothing, or can't have a batch
pub not_needed : (files : Image) (batch : Option BatchRecord) (want : Want) (b : Blame) → IsNeeded files batch → (NeedsNone files → ⊥) → IsBlamedIn want files b → ⊥
not_needed files None want b needed some blamed = some needed
not_needed files (Some batch) want b needed some blamed = first_not_blamed want files needed.stood b needed.first blamed

abbrev Made : Type 0
Made = Result (Option BatchRecord) Stop

-- ---- the steps

-- where it tells no format it is blamed
pub untold_made : (files : Image) (s : Stop) → files project_file ≢ [] → Tells files (Err s) → IsMade files (Err s)
untold_made files (Blamed b) some tells = (
  λ want. subst (IsBlamedIn want files) (sym tells.0) (no_format_blamed want files some tells.1),
  λ none. elim none [
    | inl empty ↦ some empty
    | inr is ↦ tells.1 Two is
  ],
)
untold_made files DiskFault some tells = tt
untold_made files Memory some tells = tt

-- what stops the loading in the first format stops the migration
pub loaded_made : (files : Image) (s : Stop) → IsOfFormat One (files project_file) → IsLoaded One All files (Err s) → IsMade files (Err s)
loaded_made files (Blamed b) is loaded = (
  λ want. record { some = loaded.0; format = One; read = first is; damaged = loaded.1 },
  λ none. needs_none_migrated files none is,
)
loaded_made files DiskFault is loaded = tt
loaded_made files Memory is loaded = tt

-- and what is made of what was loaded is the migration
needed_of : (files : Image) (loaded : Option Observation) (made : Option BatchRecord) → StandsIn One files loaded → IsMadeOf loaded made → IsNeeded files made
needed_of files (Some o) (Some batch) stands is = record { stood = o; first = stands; migrates = is }
needed_of files (Some o) None stands is = absurd is
needed_of files None made stands is = subst (IsNeeded files) (sym is) (inl (view One All files None stands))

-- the answer of the last step, which stops for want of memory alone
pub made_needed : (files : Image) (loaded : Option Observation) (made : Made) → StandsIn One files loaded → IfOk made (IsMadeOf loaded) → IfErr made (λ s. s ≡ Memory) → IsMade files made
made_needed files loaded (Ok batch) stands is stopped = needed_of files loaded batch stands is
made_needed files loaded (Err s) stands is stopped = subst (λ (x : Stop). IsMade files (Err x)) (sym stopped) tt
