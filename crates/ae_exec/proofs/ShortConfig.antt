-- The baseline's aegis.conf isn't too long where a command with runs takes their commands from it.
use Rattle.std.specs.Prelude.{◌≡◌, ◌≤◌, ℕ, ◌*◌, List, [], length, drop, Option, Some, None, All}
use Rattle.std.specs.Option.{option_and_then}
use Rattle.std.proofs.Common.{refl, sym, subst, ◌∙◌, arith, length-take}
use Rattle.std.proofs.lemmas.List.Elements.{All-cons, All-nil}
use Rattle.ae_machine.proofs.SightShows.{config-asked-is}
use Rattle.ae_base.specs.Limits.{most_file_bytes}
use Rattle.ae_outside.specs.Image.{Image}
use Rattle.ae_outside.specs.declared.dir.Content.{Content}
use Rattle.ae_outside.specs.declared.dir.Content.TheVariants.{Bytes}
use Rattle.ae_types.specs.declared.change.Change.{Change}
use Rattle.ae_types.specs.declared.change.ChangeFile.{ChangeFile}
use Rattle.ae_types.specs.declared.file_table.FileRow.{FileRow}
use Rattle.ae_types.specs.declared.file_table.FileVersion.{FileVersion}
use Rattle.ae_types.specs.declared.version.VersionRef.{VersionRef}
use Rattle.ae_types.specs.Found.{change_in, entry_in, file_in, row_in}
use Rattle.ae_types.specs.Observation.{Observation}
use Rattle.ae_types.specs.Sound.{FitsLength, Sound}
use Rattle.ae_types.specs.Trees.{TreeRow}
use Rattle.ae_types.specs.Versions.{Place, in_change, in_table, live, version_at}
use Rattle.ae_types.proofs.Members.{In}
use Rattle.ae_vault.specs.Pieces.{pack}
use Rattle.ae_machine.specs.Call.{call_of, change_named}
use Rattle.ae_machine.specs.Called.{Called, given_at}
use Rattle.ae_outside.specs.Site.{IsAtMost}
use Rattle.ae_machine.specs.Fits.{config_row}
use Rattle.ae_machine.specs.Versions.{config_version}
use Rattle.ae_exec.specs.Jobs.{IsShortConfig}
use Rattle.ae_exec.specs.Bytes.{HaveBytes, bytes_at}
use Rattle.ae_exec.proofs.RunVersions.{config-lives}
use Rattle.ae_exec.proofs.Shown.{list-in, live-in}

-- ---- a version that stands isn't too long

at-most : (o : Observation) → Sound o → (place : Place) (version : VersionRef) → version_at o.files o.changes place ≡ Some version → version.length ≤ most_file_bytes
at-most o s (in_table path delta) version is = go (row_in o.files path) refl is
  where
    under : (row : FileRow) → row_in o.files path ≡ Some row → (entry : Option FileVersion) → entry_in row.past delta ≡ entry
        → option_and_then (λ (entry : FileVersion). entry.version) entry ≡ Some version → version.length ≤ most_file_bytes
    under row found (Some entry) there e = subst FitsLength e ((s.rows.good path row found).lengths delta entry there)
    under row found None there e = cc

    go : (row : Option FileRow) → row_in o.files path ≡ row
        → option_and_then (λ (row : FileRow). option_and_then (λ (entry : FileVersion). entry.version) (entry_in row.past delta)) row ≡ Some version → version.length ≤ most_file_bytes
    go (Some row) found e = under row found (entry_in row.past delta) refl e
    go None found e = cc
at-most o s (in_change number path) version is = go (change_in o.changes number) refl is
  where
    under : (change : Change) → change_in o.changes number ≡ Some change → (file : Option ChangeFile) → file_in change.files path ≡ file
        → option_and_then (λ (file : ChangeFile). file.frozen) file ≡ Some version → version.length ≤ most_file_bytes
    under change found (Some file) there e = subst FitsLength e ((s.changes.good number change found).files.lengths path file there)
    under change found None there e = cc

    go : (change : Option Change) → change_in o.changes number ≡ change
        → option_and_then (λ (change : Change). option_and_then (λ (file : ChangeFile). file.frozen) (file_in change.files path)) change ≡ Some version → version.length ≤ most_file_bytes
    go (Some change) found e = under change found (file_in change.files path) refl e
    go None found e = cc

-- so its bytes aren't
short-bytes : (files : Option Image) (version : VersionRef) → version.length ≤ most_file_bytes → length (bytes_at files version) ≤ most_file_bytes
short-bytes (Some files) version le = let n = length-take version.length (drop (64 * version.at) (files pack)) in omega (arith, n, le)
short-bytes None version le = omega arith

pub short-version : (o : Observation) (files : Option Image) (bytes : ℕ → List ℕ) → Sound o → HaveBytes files (Some o) bytes → (version : VersionRef) → In (live o.files o.changes) version → length (bytes version.number) ≤ most_file_bytes
short-version o files bytes s have version there =
    let p = live-in o s version there in
    subst (λ (b : List ℕ). length b ≤ most_file_bytes) (sym (have version (list-in (live o.files o.changes) version there))) (short-bytes files version (at-most o s p.0 version p.1))

-- ---- the row of aegis.conf

version-by : (o : Observation) (called : Called) (c : Option Change) → config_version (call_of o called.command []) c ≡ config_version (call_of o called.command called.who) c
version-by o called (Some change) = refl
version-by o called None = refl

abbrev IsShort : List ℕ × Content → Type 0
IsShort row = IsAtMost most_file_bytes row.1

pub short-config : (o : Observation) (files : Option Image) (bytes : ℕ → List ℕ) (called : Called) → Sound o → HaveBytes files (Some o) bytes → IsShortConfig (given_at o bytes called)
short-config o files bytes called s have =
    subst (All IsShort) (sym (config-asked-is (given_at o bytes called) (change_named o called.command.change))) (go (config_version (call_of o called.command called.who) (change_named o called.command.change)) refl)
  where
    short : (row : TreeRow) → config_version (call_of o called.command []) (change_named o called.command.change) ≡ Some row → length (bytes row.version.number) ≤ most_file_bytes
    short row is = short-version o files bytes s have row.version (config-lives o called.command row is)

    go : (row : Option TreeRow) → config_version (call_of o called.command called.who) (change_named o called.command.change) ≡ row → All IsShort (config_row bytes row)
    go (Some row) is = All-cons IsShort (row.path, Bytes (bytes row.version.number)) [] (short row (version-by o called (change_named o called.command.change) ∙ is)) (All-nil IsShort)
    go None is = All-nil IsShort
