-- What a record's reader answers, as a step of loading.
use Rattle.std.proofs.Common.{◌≡◌, ◌≢◌, ℕ, ◌+◌, ◌<◌, List, [], ◌∷◌, ◌++◌, length, take, drop, get_or, Result, Ok, Err, refl, sym, ◌∙◌, ap, subst, arith}
use Rattle.std.proofs.lemmas.List.{drop_more, take-append-drop}
use Rattle.ae_outside.specs.Image.{Image}
use Rattle.ae_schema.specs.Formats.{format_number, IsOfFormat}
use Rattle.ae_schema.specs.Records.{IsAnswer}
use Rattle.ae_schema.specs.declared.error.SchemaError.{SchemaError}
use Rattle.ae_schema.specs.declared.error.SchemaError.TheVariants as schema
use Rattle.ae_types.specs.declared.blame.Blame.{Blame}
use Rattle.ae_schema.specs.declared.format.Format.{Format}
use Rattle.ae_types.specs.declared.blame.Blame.TheVariants as blame
use Rattle.ae_types.specs.declared.change.Change.{Change}
use Rattle.ae_store.specs.declared.stop.Stop.{Stop}
use Rattle.ae_store.specs.declared.stop.Stop.TheVariants.{Blamed, DiskFault, Memory}
use Rattle.ae_store.specs.Damage.{ReadsChange, ReadsChanges}
use Rattle.ae_store.specs.Steps.{stop_schema, IsReading, AreRead}

-- where the record is bad, nothing is read
pub reading_err : {A : Type 0} (Reads : A → Type 0) (b : Blame) (error : SchemaError) (r : Result A SchemaError) → r ≡ Err error
    → ((value : A) → Reads value → IsAnswer value r) → IsReading Reads b (Err (stop_schema b error))
reading_err Reads b (schema.Field line) r is only = (refl, λ value reads. subst (IsAnswer value) is (only value reads))
reading_err Reads b schema.Memory r is only = tt

-- where the only record isn't good, nothing is read
pub none_read : {A : Type 0} (Reads : A → Type 0) (x : A) (r : Result A SchemaError) → r ≡ Ok x
    → ((value : A) → Reads value → IsAnswer value r) → (Reads x → ⊥) → (value : A) → Reads value → ⊥
none_read Reads x r is only bad value reads = bad (subst Reads (sym (subst (IsAnswer value) is (only value reads))) reads)

-- where no format is told, the bytes are of none
pub none_told : (bytes : List ℕ) (error : SchemaError) (r : Result ℕ SchemaError) → r ≡ Err error
    → ((format : Format) → IsOfFormat format bytes → IsAnswer (format_number format) r) → IsReading (λ (format : Format). IsOfFormat format bytes) blame.Project (Err (stop_schema blame.Project error))
none_told bytes (schema.Field line) r is only = (refl, λ format of. subst (IsAnswer (format_number format)) is (only format of))
none_told bytes schema.Memory r is only = tt

-- a bad record is no fault of the disk
pub stops : {T : Type 0} (error : SchemaError) (b : Blame) (s : Stop) → s ≡ stop_schema b error → ◌≡◌ {A = Result T Stop} (Err s) (Err DiskFault) → ⊥
stops (schema.Field line) b s is fault = cc
stops schema.Memory b s is fault = cc

-- no bytes, or some
pub no_bytes : (bytes : List ℕ) → length bytes ≡ 0 → bytes ≡ []
no_bytes [] none = refl
no_bytes (b ∷ bytes) none = absurd (omega (arith, none))

pub some_bytes : (bytes : List ℕ) → (length bytes ≡ 0 → ⊥) → bytes ≢ []
some_bytes bytes some e = some (ap length e)

module _ (format : Format) where
  -- one more change is read
  pub reads_push : (files : Image) (numbers : List ℕ) (changes : List Change) (number : ℕ) (change : Change)
      → ReadsChanges format files numbers changes → ReadsChange format files number change → ReadsChanges format files (numbers ++ number ∷ []) (changes ++ change ∷ [])
  reads_push files [] [] number change before last = (last, tt)
  reads_push files [] (c ∷ changes) number change before last = absurd before
  reads_push files (n ∷ numbers) [] number change before last = absurd before
  reads_push files (n ∷ numbers) (c ∷ changes) number change before last = (before.0, reads_push files numbers changes number change before.1 last)

  -- where the changes before it are read, the change that isn't read is the first
  pub first_bad : (files : Image) (numbers : List ℕ) (i number : ℕ) (changes : List Change) (s : Stop) → i < length numbers → number ≡ get_or numbers i number
      → ReadsChanges format files (take i numbers) changes → IsReading (ReadsChange format files number) (blame.Change number) (Err s) → AreRead format files numbers (Err s)
  first_bad files numbers i number changes (Blamed b) lt is read bad = record {
    before = take i numbers;
    number = number;
    after = drop (i + 1) numbers;
    splits = sym (take-append-drop i numbers) ∙ ap (λ (rest : List ℕ). take i numbers ++ rest) (drop_more numbers i number lt ∙ ap (λ (n : ℕ). n ∷ drop (i + 1) numbers) (sym is));
    changes = changes;
    read = read;
    bad = bad.1;
    is = bad.0;
  }
  first_bad files numbers i number changes DiskFault lt is read bad = tt
  first_bad files numbers i number changes Memory lt is read bad = tt
