-- Each file of a change set: the acts that come of it in each of the three passes of a plan, and what they do.
use Rattle.std.proofs.Common.{◌≡◌, ℕ, refl, sym, ap, subst, List, [], ◌∷◌, Option, Some, None, Bool, true, false, cond, not, ◌&&◌, codes}
use Rattle.std.specs.Prelude.{is_some}
use Rattle.std.specs.List.{AllByRecursion}
use Rattle.std.specs.Option.{option_or}
use Rattle.std.specs.Str.{bytes_eq}
use Rattle.std.proofs.lemmas.Option.{same_Some}
use Rattle.ae_base.specs.Rows.{text_cmp}
use Rattle.ae_base.specs.declared.words.Action.TheVariants.{Create, Modify, Remove}
use Rattle.ae_base.specs.declared.words.Usage.{Usage}
use Rattle.ae_base.specs.declared.words.Usage.TheVariants.{Config, Source, Test}
use Rattle.ae_bundle.specs.Bundled.{FileFits, Fits, bundle_path, is_config}
use Rattle.ae_bundle.specs.declared.bundle.Bundle.{Bundle}
use Rattle.ae_bundle.specs.declared.bundle.BundleFile.{BundleFile}
use Rattle.ae_dist.specs.Plan.{on_path}
use Rattle.ae_files.specs.InTree.{row_at}
use Rattle.ae_lines.specs.declared.act.Act.{Act}
use Rattle.ae_lines.specs.declared.act.Act.TheVariants.{Run}
use Rattle.ae_lines.specs.declared.act.Act.TheVariants as act
use Rattle.ae_outside.specs.declared.dir.Dir.TheVariants.{Develop}
use Rattle.ae_script.specs.Steps.{LineDone, Point}
use Rattle.ae_types.specs.declared.change.ChangeAttributes.{ChangeAttributes}
use Rattle.ae_types.specs.declared.change.ChangeFile.{ChangeFile}
use Rattle.ae_types.specs.Observation.{Observation}
use Rattle.ae_types.specs.Ordered.{Ascends}
use Rattle.ae_types.specs.Phases.{is_remove, is_test}
use Rattle.ae_types.specs.Trees.{TreeRow, baseline_of}
use Rattle.ae_types.proofs.Ordered.{none-some}
use Rattle.ae_words.specs.declared.table.Function.{Function}
use Rattle.ae_words.specs.declared.table.Function.TheVariants as function
use Rattle.ae_received.specs.Edits.{Edit, edit}
use Rattle.ae_received.specs.Received.{edit_received}
use Rattle.ae_received.proofs.Acts.{RunsAct}
use Rattle.ae_received.proofs.FileActs.{LeadsAt, bytes-lead, copied-leads, new-file-leads, new-test-leads, removed-leads, stands_at}

-- what is received of a file, by whether it is removed and what the baseline has
abbrev pub received_by : BundleFile → Bool → Option TreeRow → Option Edit
received_by file removes (Some row) = Some (edit file.path (cond removes Remove Modify) row.usage)
received_by file removes None = cond removes None (Some (edit file.path Create file.usage))

pub received-is : (o : Observation) (file : BundleFile) → received_by file (is_remove file.action) (row_at (baseline_of o) file.path) ≡ edit_received o file
received-is o file = go (row_at (baseline_of o) file.path) refl
  where
    go : (v : Option TreeRow) → row_at (baseline_of o) file.path ≡ v → received_by file (is_remove file.action) (row_at (baseline_of o) file.path) ≡ edit_received o file
    go v is = refl

-- ---- files that can be received

-- aegis.conf has the usage of its own, and no other file has it
abbrev pub HasItsUsage : BundleFile → Type 0
HasItsUsage file = is_config file.usage ≡ bytes_eq file.path (codes "aegis.conf")

-- their paths ascend, and each has such a usage
pub record FilesFit (files : List BundleFile) : Type 0 where
  pub ascend : Ascends text_cmp bundle_path files
  pub usages : AllByRecursion HasItsUsage files

usages-fit : (files : List BundleFile) → AllByRecursion FileFits files → AllByRecursion HasItsUsage files
usages-fit [] fit = tt
usages-fit (file ∷ files) fit = (fit.0.config, usages-fit files fit.1)

-- those of a change set that has a text are such files
pub files-fit : (bundle : Bundle) → Fits bundle → FilesFit bundle.files
files-fit bundle fits = record { ascend = fits.limits.ascend; usages = usages-fit bundle.files fits.limits.files }

-- ---- the rows and the files that each pass makes

abbrev pub row_removed : BundleFile → Bool → Option TreeRow → Option Edit
row_removed file removes there = cond removes (received_by file removes there) None

abbrev pub file_removed : Bool → Option TreeRow → Option (Option (List ℕ))
file_removed removes there = cond (removes && is_some there) (Some None) None

abbrev pub row_added : BundleFile → Bool → Option TreeRow → Option Edit
row_added file removes there = cond removes None (received_by file removes there)

abbrev pub file_put : BundleFile → Bool → Option (Option (List ℕ))
file_put file removes = cond removes None (Some (Some file.bytes))

-- together they are what is received
pub rows-together : (file : BundleFile) (removes : Bool) (there : Option TreeRow) → option_or (row_added file removes there) (option_or (row_removed file removes there) None) ≡ received_by file removes there
rows-together file true (Some row) = refl
rows-together file true None = refl
rows-together file false (Some row) = refl
rows-together file false None = refl

-- ---- the acts of each pass

abbrev pub removal_by : ℕ → BundleFile → Bool → Option TreeRow → Option Act
removal_by number file removes there = cond (removes && is_some there) (Some (Run (on_path function.RemoveFile number file.path))) None

abbrev pub function_new : Usage → Bool → Function
function_new usage config = cond (is_test usage && not config) function.NewTest function.NewFile

abbrev pub addition_by : ℕ → BundleFile → Bool → Option TreeRow → Option Act
addition_by number file removes there =
    cond removes None (Some (Run (on_path (cond (is_some there) function.CopyFile (function_new file.usage (bytes_eq file.path (codes "aegis.conf")))) number file.path)))

abbrev pub put_by_removes : ℕ → BundleFile → Bool → Option Act
put_by_removes number file removes = cond removes None (Some (act.Put (Develop number) file.path file.bytes))

-- of a file that has no act in a pass nothing comes
pub none-removed : (number : ℕ) (file : BundleFile) (removes : Bool) (there : Option TreeRow) → removal_by number file removes there ≡ None → (row_removed file removes there ≡ None) × (file_removed removes there ≡ None)
none-removed number file true (Some row) none = absurd (cc none)
none-removed number file true None none = (refl, refl)
none-removed number file false there none = (refl, refl)

pub none-added : (number : ℕ) (file : BundleFile) (removes : Bool) (there : Option TreeRow) → addition_by number file removes there ≡ None → row_added file removes there ≡ None
none-added number file true there none = refl
none-added number file false there none = absurd (cc none)

pub none-put : (number : ℕ) (file : BundleFile) (removes : Bool) → put_by_removes number file removes ≡ None → file_put file removes ≡ None
none-put number file true none = refl
none-put number file false none = absurd (cc none)

-- ---- what each act does

module _ (stood : Observation) (number : ℕ) (who : List ℕ) (attributes : ChangeAttributes) (file : BundleFile) (from : Point) (files : List ChangeFile) (s : stands_at stood number who attributes from files) (item : Act) (step : LineDone) (run : RunsAct from item step) where
  abbrev Leads : Option Edit → Option (Option (List ℕ)) → Type 0
  Leads made lies = LeadsAt stood number who attributes file.path made lies from files step

  -- the act is this one
  runs : (one : Act) → Some one ≡ Some item → RunsAct from one step
  runs one is = subst (λ (a : Act). RunsAct from a step) (sym (same_Some one item is)) run

  pub removal-leads : (removes : Bool) (there : Option TreeRow) → row_at (baseline_of stood) file.path ≡ there → removal_by number file removes there ≡ Some item → Leads (row_removed file removes there) (file_removed removes there)
  removal-leads true (Some row) found is = removed-leads stood number who attributes from files s step file.path row found (runs (Run (on_path function.RemoveFile number file.path)) is)
  removal-leads true None found is = none-some item is
  removal-leads false there found is = none-some item is

  -- a new file has the usage that is sent
  new-leads : (usage : Usage) (config : Bool) → is_config usage ≡ config → bytes_eq file.path (codes "aegis.conf") ≡ config → Some (Run (on_path (function_new usage config) number file.path)) ≡ Some item → Leads (Some (edit file.path Create usage)) None
  new-leads Config true fits is_path is =
      new-file-leads stood number who attributes from files s step file.path Config (ap (λ b. cond b Config Source) is_path) (runs (Run (on_path function.NewFile number file.path)) is)
  new-leads Source false fits is_path is =
      new-file-leads stood number who attributes from files s step file.path Source (ap (λ b. cond b Config Source) is_path) (runs (Run (on_path function.NewFile number file.path)) is)
  new-leads Test false fits is_path is = new-test-leads stood number who attributes from files s step file.path (runs (Run (on_path function.NewTest number file.path)) is)
  new-leads Config false fits is_path is = absurd (cc fits)
  new-leads Source true fits is_path is = absurd (cc fits)
  new-leads Test true fits is_path is = absurd (cc fits)

  pub addition-leads : HasItsUsage file → (removes : Bool) (there : Option TreeRow) → row_at (baseline_of stood) file.path ≡ there → addition_by number file removes there ≡ Some item → Leads (row_added file removes there) None
  addition-leads fits true there found is = none-some item is
  addition-leads fits false (Some row) found is = copied-leads stood number who attributes from files s step file.path row found (runs (Run (on_path function.CopyFile number file.path)) is)
  addition-leads fits false None found is = new-leads file.usage (bytes_eq file.path (codes "aegis.conf")) fits refl is

  pub put-leads-there : (removes : Bool) → put_by_removes number file removes ≡ Some item → Leads None (file_put file removes)
  put-leads-there true is = none-some item is
  put-leads-there false is = bytes-lead stood number who attributes from files s step file.path file.bytes (runs (act.Put (Develop number) file.path file.bytes) is)
