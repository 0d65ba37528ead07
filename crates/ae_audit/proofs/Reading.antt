-- What a record's reader answers, as a step of an audit.
use Rattle.std.proofs.Common.{◌≡◌, ℕ, ◌+◌, ◌<◌, List, ◌∷◌, ◌++◌, length, take, drop, get_or, Result, Err, refl, sym, ◌∙◌, ap, subst}
use Rattle.std.proofs.lemmas.List.{drop_more, take-append-drop}
use Rattle.ae_outside.specs.Image.{Image}
use Rattle.ae_schema.specs.Formats.{format_number, IsOfFormat}
use Rattle.ae_schema.specs.Records.{IsAnswer}
use Rattle.ae_schema.specs.declared.error.SchemaError.{SchemaError}
use Rattle.ae_schema.specs.declared.error.SchemaError.TheVariants as schema
use Rattle.ae_schema.specs.declared.format.Format.{Format}
use Rattle.ae_types.specs.declared.blame.Blame.{Blame}
use Rattle.ae_types.specs.declared.blame.Blame.TheVariants as blame
use Rattle.ae_types.specs.declared.change.Change.{Change}
use Rattle.ae_store.specs.Damage.{ReadsChange, ReadsChanges}
use Rattle.ae_audit.specs.declared.stop.Stop.{Stop}
use Rattle.ae_audit.specs.declared.stop.Stop.TheVariants.{Blamed, DiskFault, Memory}
use Rattle.ae_audit.specs.Steps.{stop_of_record, IsFormatRead, IsRecordRead, AreRead}

-- where the record is bad its file is blamed
pub bad_record : {A : Type 0} (Reads : A → Type 0) (b : Blame) (error : SchemaError) (r : Result A SchemaError) → r ≡ Err error
    → ((value : A) → Reads value → IsAnswer value r) → IsRecordRead Reads b (Err (stop_of_record b error))
bad_record Reads b (schema.Field line) r is only = (refl, λ value reads. subst (IsAnswer value) is (only value reads))
bad_record Reads b schema.Memory r is only = tt

-- where no format is told, the bytes are of none
pub no_format : (bytes : List ℕ) (error : SchemaError) (r : Result ℕ SchemaError) → r ≡ Err error
    → ((format : Format) → IsOfFormat format bytes → IsAnswer (format_number format) r) → IsFormatRead bytes (Err (stop_of_record blame.Project error))
no_format bytes (schema.Field line) r is only = (refl, λ format of. subst (IsAnswer (format_number format)) is (only format of))
no_format bytes schema.Memory r is only = tt

-- which is no fault of the disk
pub record_stops : {T : Type 0} (error : SchemaError) (b : Blame) (s : Stop) → s ≡ stop_of_record b error → ◌≡◌ {A = Result T Stop} (Err s) (Err DiskFault) → ⊥
record_stops (schema.Field line) b s is fault = cc
record_stops schema.Memory b s is fault = cc

-- where the changes before it are read, the change that isn't is the first
pub first_unread : (format : Format) (files : Image) (numbers : List ℕ) (i number : ℕ) (changes : List Change) (s : Stop) → i < length numbers → number ≡ get_or numbers i number
    → ReadsChanges format files (take i numbers) changes → IsRecordRead (ReadsChange format files number) (blame.Change number) (Err s) → AreRead format files numbers (Err s)
first_unread format files numbers i number changes (Blamed b) lt is read bad = record {
  before = take i numbers;
  number = number;
  after = drop (i + 1) numbers;
  splits = sym (take-append-drop i numbers) ∙ ap (λ (rest : List ℕ). take i numbers ++ rest) (drop_more numbers i number lt ∙ ap (λ (n : ℕ). n ∷ drop (i + 1) numbers) (sym is));
  changes = changes;
  read = read;
  bad = bad.1;
  is = bad.0;
}
first_unread format files numbers i number changes DiskFault lt is read bad = tt
first_unread format files numbers i number changes Memory lt is read bad = tt
first_unread format files numbers i number changes _ lt is read bad = absurd bad
