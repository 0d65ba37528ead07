-- The versions of a legal log are bytes, since what a command sees is of its types.
use Rattle.std.proofs.Common.{◌≡◌, inl, inr, ℕ, ◌-◌, refl, sym, subst, List, [], ◌∷◌, map, length, get_or, Option, Some, None, Bool, true, false}
use Rattle.std.specs.Prelude.{All, IfSome, find, if◌then◌else◌}
use Rattle.std.proofs.lemmas.Bool.{cases_lt}
use Rattle.std.proofs.lemmas.List.{get_or_past}
use Rattle.std.proofs.lemmas.List.Elements.{All-append, All-cons, All-get_or, All-head, All-nil, All-tail}
use Rattle.std.proofs.lemmas.Option.{unwrap_or-slice_get}
use Rattle.std.specs.Str.{bytes_eq}
use Rattle.ae_base.specs.Bytes.{AreBytes}
use Rattle.ae_base.specs.Rows.{Row, Rows}
use Rattle.ae_outside.specs.declared.dir.Content.{Content}
use Rattle.ae_outside.specs.declared.dir.Content.TheVariants.{Absent, Bytes, TooLong}
use Rattle.ae_types.specs.declared.change.ChangeFile.{ChangeFile}
use Rattle.ae_types.specs.Observation.{Observation}
use Rattle.ae_types.specs.Phases.{is_remove}
use Rattle.ae_types.specs.Frozen.{present}
use Rattle.ae_log.specs.declared.event.EventKind.{EventKind}
use Rattle.ae_log.specs.declared.event.EventKind.TheVariants as on
use Rattle.ae_log.specs.Files.{version_bytes, versions, versions_after}
use Rattle.ae_log.specs.Log.{Log}
use Rattle.ae_words.specs.declared.table.Function.{Function}
use Rattle.ae_words.specs.declared.table.Function.TheVariants as function
use Rattle.ae_machine.specs.declared.view.View.{View}
use Rattle.ae_machine.specs.Legal.{Legal, MayCome, Occasion}
use Rattle.ae_evidence.specs.Directories.{bytes_of}
use Rattle.ae_machine.specs.Sight.{bytes_read, content_of, read_at}
use Rattle.ae_machine.specs.Typed.{IsContent, IsReadFile}
use Rattle.ae_machine.proofs.KindsMade.{Each, HasEachKind, function_making, project-maker}
use Rattle.ae_machine.proofs.LegalKinds.{given_after, legal-each}
use Rattle.ae_machine.proofs.Lists.{all-members, found-so}

-- ---- what is read

abbrev HasBytes : Row → Type 0
HasBytes row = IfSome row.1 AreBytes

of-content : (content : Content) → IsContent content → IfSome (bytes_of content) AreBytes
of-content (Bytes bytes) is = is
of-content Absent is = tt
of-content TooLong is = tt

of-read : (view : View) (path : List ℕ) → All IsReadFile view.develop → IfSome (bytes_of (read_at view path)) AreBytes
of-read view path typed = go (find (λ (row : List ℕ × Content). bytes_eq path row.0) view.develop) refl
  where
    go : (v : Option (List ℕ × Content)) → find (λ (row : List ℕ × Content). bytes_eq path row.0) view.develop ≡ v → IfSome (bytes_of (content_of v)) AreBytes
    go (Some row) is = of-content row.1 (all-members IsReadFile view.develop typed row (found-so (λ (row : List ℕ × Content). bytes_eq path row.0) view.develop row is).0).1
    go None is = tt

of-file : (view : View) (file : ChangeFile) → All IsReadFile view.develop → IfSome (bytes_read view file) AreBytes
of-file view file typed = go (is_remove file.action)
  where
    go : (b : Bool) → IfSome (if b then None else bytes_of (read_at view file.path)) AreBytes
    go true = tt
    go false = of-read view file.path typed

of-tree : (view : View) (files : List ChangeFile) → All IsReadFile view.develop → All HasBytes (map (λ (file : ChangeFile). (file.path, bytes_read view file)) files)
of-tree view [] typed = All-nil HasBytes
of-tree view (file ∷ files) typed = All-cons HasBytes _ _ (of-file view file typed) (of-tree view files typed)

-- ---- events

-- what an End freezes are bytes
abbrev FreezesBytes : EventKind → Type 0
FreezesBytes (on.End tree to places) = All HasBytes tree
FreezesBytes _ = Unit {0}

of-alone : (kind : EventKind) (f : Function) → function_making kind ≡ Some f → FreezesBytes kind
of-alone (on.End tree to places) f maker = cc
of-alone _ f maker = tt

have-each : (log : Log) (o : Observation) (occasion : Occasion) → MayCome log occasion → HasEachKind FreezesBytes occasion.command.function (given_after log o occasion)
have-each log o occasion may = record {
  added = λ role user. tt;
  dropped = λ role user. tt;
  filed = λ path there file. tt;
  unfiled = λ path. tt;
  ran = λ makes change there run among. tt;
  ended = λ ends change there. of-tree occasion.view change.files may.seen.develop;
  alone = λ kind maker only. of-alone kind occasion.command.function maker;
}

legal-freeze : (log : Log) → Legal log → Each FreezesBytes log
legal-freeze = legal-each FreezesBytes (λ kind is. of-alone kind function.NewProject (project-maker kind is)) have-each

-- ---- the versions

of-present : (tree : Rows) → All HasBytes tree → All AreBytes (present tree)
of-present [] have = All-nil AreBytes
of-present ((path, Some bytes) ∷ tree) have = All-cons AreBytes bytes (present tree) (All-head HasBytes (path, Some bytes) tree have) (of-present tree (All-tail HasBytes (path, Some bytes) tree have))
of-present ((path, None) ∷ tree) have = of-present tree (All-tail HasBytes (path, None) tree have)

of-kind : (kind : EventKind) (made : List (List ℕ)) → FreezesBytes kind → All AreBytes made → All AreBytes (versions_after kind made)
of-kind (on.End tree to places) made have all = All-append AreBytes made (present tree) all (of-present tree have)
of-kind _ made have all = all

of-log : (log : Log) → Each FreezesBytes log → All AreBytes (versions log)
of-log [] have = All-nil AreBytes
of-log (event ∷ log) have = of-kind event.what (versions log) have.0 (of-log log have.1)

at-place : (all : List (List ℕ)) (n : ℕ) → All AreBytes all → AreBytes (get_or all n [])
at-place all n have = elim (cases_lt n (length all)) [
  | inl inside ↦ All-get_or AreBytes all n [] inside have
  | inr outside ↦ subst AreBytes (sym (get_or_past all n [] outside)) tt
]

pub legal-bytes : (log : Log) → Legal log → (number : ℕ) → AreBytes (version_bytes log number)
legal-bytes log legal number =
    subst AreBytes (sym (unwrap_or-slice_get (versions log) (number - 1) [])) (at-place (versions log) (number - 1) (of-log log (legal-freeze log legal)))
