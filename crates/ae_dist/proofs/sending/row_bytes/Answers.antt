use Rattle.std.proofs.Common.{◌≡◌, [], rules, Some, subst, sym, Option}
use Rattle.std.specs.List.{cons_option}
use Rattle.std.specs.Prelude.{IfSome}
use Rattle.std.proofs.lemmas.Result.{IfErr-weaker}
use Rattle.ae_outside.specs.State.{reads}
use Rattle.ae_vault.specs.Vault.{effective}
use Rattle.ae_types.specs.declared.version.VersionRef.{VersionRef}
use Rattle.ae_exec.specs.Reading.{IsInside, IsLostAmong}
use Rattle.ae_exec.proofs.Endings.{ends_for}
use Rattle.ae_dist.proofs.VersionsRead.{bytes_read, kept_read, size_read}
use Rattle.ae_dist.proofs.sending.row_bytes.Goals as goal

pub bytes_of-requires-clause-inside : goal.bytes_of-requires-clause-inside
bytes_of-requires-clause-inside g c =
    let is : c.args.row.now.version ≡ Some c.in-Some.version = search rules in
    subst (λ (v : Option VersionRef). IfSome v IsInside) is c.requires.inside

pub returns-in-Some-clause-bytes : goal.returns-in-Some-clause-bytes
returns-in-Some-clause-bytes g c =
    let is : c.args.row.now.version ≡ Some c.in-Some.version = search rules in
    bytes_read g.D.Disk.tells (effective (reads (g.D.Disk.state c.args.disk.now))) c.in-Some.version c.args.row.now.version is c.bytes_of.result c.bytes_of.ensures.bytes

pub returns-in-Some-clause-kept : goal.returns-in-Some-clause-kept
returns-in-Some-clause-kept g c =
    let is : c.args.row.now.version ≡ Some c.in-Some.version = search rules in
    kept_read g.D.Disk.tells (effective (reads (g.D.Disk.state c.args.disk.now))) c.in-Some.version c.args.row.now.version is c.bytes_of.result c.bytes_of.ensures.bytes c.bytes_of.ensures.kept

pub returns-in-Some-clause-size : goal.returns-in-Some-clause-size
returns-in-Some-clause-size g c =
    let is : c.args.row.now.version ≡ Some c.in-Some.version = search rules in
    size_read g.D.Disk.tells (effective (reads (g.D.Disk.state c.args.disk.now))) c.in-Some.version c.args.row.now.version is c.bytes_of.result c.bytes_of.ensures.kept

pub returns-in-Some-clause-stopped : goal.returns-in-Some-clause-stopped
returns-in-Some-clause-stopped g c =
    let is : c.args.row.now.version ≡ Some c.in-Some.version = search rules in
    IfErr-weaker c.bytes_of.result _ _
    (λ why stops. ends_for why stops (λ none. none) (λ refusal none. none) (λ name lost tells. subst (λ (v : Option VersionRef). IsLostAmong (reads (g.D.Disk.state c.args.disk.now)) (cons_option v []) name) (sym is) (lost tells)) (λ rose. rose) (λ none. none))
    c.bytes_of.ensures.stopped
