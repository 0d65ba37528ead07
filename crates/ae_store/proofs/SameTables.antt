-- When two file tables are the same.
use Rattle.std.proofs.Common.{◌≡◌, ◌&&◌, Bool, Option, Some, None, refl, ap}
use Rattle.std.specs.Bool.{Decides}
use Rattle.std.specs.Option.{option_eq}
use Rattle.std.specs.Cmp.Lexicographic.{pointwise}
use Rattle.std.proofs.lemmas.Slice.Eq.{slice_eq-Decides, bytes_eq-Decides}
use Rattle.std.proofs.lemmas.Bool.{and_parts, and_from}
use Rattle.std.proofs.lemmas.Bool.Decides.{Decides-eqb}
use Rattle.ae_base.specs.declared.words.Usage.{Usage}
use Rattle.ae_base.specs.declared.words.Usage.TheVariants as usages
use Rattle.ae_base.specs.contracts.words.UsagePartialEq.TheImpl as usage_eq
use Rattle.ae_types.specs.declared.version.VersionRef.{VersionRef}
use Rattle.ae_types.specs.declared.file_table.FileVersion.{FileVersion}
use Rattle.ae_types.specs.declared.file_table.FileRow.{FileRow}
use Rattle.ae_types.specs.declared.file_table.Lock.{Lock}
use Rattle.ae_types.specs.contracts.version.VersionRefPartialEq.TheImpl as version_eq
use Rattle.ae_types.specs.contracts.file_table.FileVersionPartialEq.TheImpl as entry_eq
use Rattle.ae_types.specs.contracts.file_table.FileRowPartialEq.TheImpl as row_eq
use Rattle.ae_types.specs.contracts.file_table.LockPartialEq.TheImpl as lock_eq

-- of two tests, each of which decides, both decide both
both_decide : {A B : Type 0} {x y : Bool} → Decides x A → Decides y B → Decides (x && y) (A × B)
both_decide {A} {B} {x} {y} a b = (λ h. let parts = and_parts x y h in (a.0 parts.0, b.0 parts.1), λ h. and_from x y (a.1 h.0) (b.1 h.1))

-- a test decides what is the same as what it decides
decides_as : {A B : Type 0} {x : Bool} → Decides x A → (A → B) → (B → A) → Decides x B
decides_as a to from = (λ h. to (a.0 h), λ h. a.1 (from h))

option_decides : {A : Type 0} {E : A → A → Bool} → ((a b : A) → Decides (E a b) (a ≡ b)) → (x y : Option A) → Decides (option_eq E x y) (x ≡ y)
option_decides decides None None = (λ h. refl, λ h. refl)
option_decides decides None (Some y) = (λ h. cc, λ h. cc)
option_decides decides (Some x) None = (λ h. cc, λ h. cc)
option_decides decides (Some x) (Some y) = (λ h. ap Some ((decides x y).0 h), λ h. (decides x y).1 cc)

pub version_decides : (a b : VersionRef) → Decides ((version_eq.eq-value).it a b) (a ≡ b)
version_decides a b =
    decides_as (both_decide (Decides-eqb a.number b.number) (both_decide (Decides-eqb a.at b.at) (both_decide (Decides-eqb a.length b.length) (bytes_eq-Decides a.digest b.digest))))
    (λ h. λ i. record { number = h.0 i; at = h.1.0 i; length = h.1.1.0 i; digest = h.1.1.1 i })
    (λ h. (ap (λ (v : VersionRef). v.number) h, (ap (λ (v : VersionRef). v.at) h, (ap (λ (v : VersionRef). v.length) h, ap (λ (v : VersionRef). v.digest) h))))

pub lock_decides : (a b : Lock) → Decides ((lock_eq.eq-value).it a b) (a ≡ b)
lock_decides a b =
    decides_as (both_decide (bytes_eq-Decides a.path b.path) (Decides-eqb a.change b.change))
    (λ h. λ i. record { path = h.0 i; change = h.1 i })
    (λ h. (ap (λ (l : Lock). l.path) h, ap (λ (l : Lock). l.change) h))

usage_decides : (x y : Usage) → Decides ((usage_eq.eq-value).it x y) (x ≡ y)
usage_decides usages.Source usages.Source = (λ h. refl, λ h. refl)
usage_decides usages.Source usages.Config = (λ h. cc, λ h. cc)
usage_decides usages.Source usages.Test = (λ h. cc, λ h. cc)
usage_decides usages.Config usages.Source = (λ h. cc, λ h. cc)
usage_decides usages.Config usages.Config = (λ h. refl, λ h. refl)
usage_decides usages.Config usages.Test = (λ h. cc, λ h. cc)
usage_decides usages.Test usages.Source = (λ h. cc, λ h. cc)
usage_decides usages.Test usages.Config = (λ h. cc, λ h. cc)
usage_decides usages.Test usages.Test = (λ h. refl, λ h. refl)

entry_decides : (a b : FileVersion) → Decides ((entry_eq.eq-value).it a b) (a ≡ b)
entry_decides a b =
    decides_as (both_decide (Decides-eqb a.delta b.delta) (both_decide (usage_decides a.usage b.usage) (option_decides version_decides a.version b.version)))
    (λ h. λ i. record { delta = h.0 i; usage = h.1.0 i; version = h.1.1 i })
    (λ h. (ap (λ (e : FileVersion). e.delta) h, (ap (λ (e : FileVersion). e.usage) h, ap (λ (e : FileVersion). e.version) h)))

pub row_decides : (a b : FileRow) → Decides ((row_eq.eq-value).it a b) (a ≡ b)
row_decides a b =
    decides_as (both_decide (bytes_eq-Decides a.path b.path) (slice_eq-Decides entry_decides a.past b.past (pointwise (entry_eq.eq-value).it a.past b.past) refl))
    (λ h. λ i. record { path = h.0 i; past = h.1 i })
    (λ h. (ap (λ (r : FileRow). r.path) h, ap (λ (r : FileRow). r.past) h))
