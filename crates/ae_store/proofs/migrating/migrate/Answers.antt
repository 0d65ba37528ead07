use Rattle.std.proofs.Common.{Some, IsSomeAnd}
use Rattle.ae_base.specs.declared.want.Want.{Want}
use Rattle.ae_base.specs.declared.want.Want.TheVariants.{All}
use Rattle.ae_outside.specs.Image.{Image}
use Rattle.ae_outside.specs.State.{reads}
use Rattle.ae_schema.specs.declared.format.Format.TheVariants.{One}
use Rattle.ae_types.specs.declared.blame.Blame.{Blame}
use Rattle.ae_vault.specs.Vault.{effective, files}
use Rattle.ae_store.specs.Answers.{IsNamed}
use Rattle.ae_store.specs.Damage.{IsBlamedIn}
use Rattle.ae_store.specs.Migrating.{AnswersMigration, AnswersNone, IsNeeded, NeedsNone}
use Rattle.ae_store.specs.Records.{StandsIn}
use Rattle.ae_store.proofs.Disks.{of_files, for_files}
use Rattle.ae_store.proofs.Formats.{first_not_blamed, one_blamed_in}
use Rattle.ae_store.proofs.Migrated.{none_made, not_needed, of_needed}
use Rattle.ae_store.proofs.Told.{told_found, told_so, told_damaged, told_blamed, told_fault}
use Rattle.ae_store.proofs.migrating.migrate.Goals as goal

-- which file is blamed where a migration is made
abbrev Blames : Image → Blame → Type 0
Blames here b = ((want : Want) → IsBlamedIn want here b) × (NeedsNone here → ⊥)

pub returns-clause-found : goal.returns-clause-found
returns-clause-found g c =
    let here : Image = files (reads (g.D.Disk.state c.args.disk.now)) in
    told_found (IsNeeded here) (Blames here) g.D.Disk.tells (λ batch. IsSomeAnd (effective (reads (g.D.Disk.state c.args.disk.now))) (λ f. IsNeeded f batch)) c.migration-made.result c.told.result
    (λ batch t needed. of_files (g.D.Disk.state c.args.disk.now) (λ f. IsNeeded f batch) (c.requires t) needed) c.migration-made.ensures.made c.told.ensures

pub returns-clause-only_none : goal.returns-clause-only_none
returns-clause-only_none g c = λ t needs.
    let here : Image = files (reads (g.D.Disk.state c.args.disk.now)) in
    let none : NeedsNone here = for_files (g.D.Disk.state c.args.disk.now) NeedsNone (c.requires t) needs in
    told_so (IsNeeded here) (Blames here) AnswersNone c.migration-made.result c.told.result (c.migration-made.ensures.made t) c.told.ensures
    (λ batch needed. none_made here batch needed none) (λ b blamed. blamed.1 none) tt tt

pub returns-clause-only : goal.returns-clause-only
returns-clause-only g c = λ t o stands.
    let here : Image = files (reads (g.D.Disk.state c.args.disk.now)) in
    let first : StandsIn One here (Some o) = for_files (g.D.Disk.state c.args.disk.now) (λ f. StandsIn One f (Some o)) (c.requires t) stands in
    told_so (IsNeeded here) (Blames here) (AnswersMigration o) c.migration-made.result c.told.result (c.migration-made.ensures.made t) c.told.ensures
    (λ batch needed. of_needed here batch o needed first) (λ b blamed. first_not_blamed All here o b first (blamed.0 All)) tt tt

pub returns-clause-damaged : goal.returns-clause-damaged
returns-clause-damaged g c = λ t want name names.
    let here : Image = files (reads (g.D.Disk.state c.args.disk.now)) in
    let found = told_damaged (IsNeeded here) (Blames here) c.migration-made.result c.told.result (c.migration-made.ensures.made t) c.told.ensures name names in
    of_files (g.D.Disk.state c.args.disk.now) (λ f. IsNamed want f name) (c.requires t) (found.0, found.1.0 want, found.2)

pub returns-clause-only_damaged : goal.returns-clause-only_damaged
returns-clause-only_damaged g c = λ t want b blamed.
    let here : Image = files (reads (g.D.Disk.state c.args.disk.now)) in
    let is : (NeedsNone here → ⊥) × IsBlamedIn want here b = for_files (g.D.Disk.state c.args.disk.now) (λ f. (NeedsNone f → ⊥) × IsBlamedIn want f b) (c.requires t) blamed in
    told_blamed (IsNeeded here) (Blames here) c.migration-made.result c.told.result (c.migration-made.ensures.made t) c.told.ensures b
    (λ batch needed. not_needed here batch want b needed is.0 is.1) (λ d other. one_blamed_in want here d b (other.0 want) is.1)

pub returns-clause-cause : goal.returns-clause-cause
returns-clause-cause g c = record {
  later = c.migration-made.ensures.cause.later;
  rose = λ fault. c.migration-made.ensures.cause.rose (told_fault c.migration-made.result c.told.result c.told.ensures fault);
}
