use Rattle.ae_outside.specs.Image.{Image}
use Rattle.ae_outside.specs.State.{reads}
use Rattle.ae_vault.specs.Vault.{files}
use Rattle.ae_store.specs.Answers.{IsNamed, IsState}
use Rattle.ae_store.specs.Damage.{IsBlamedIn}
use Rattle.ae_store.specs.Records.{Show, Shown}
use Rattle.ae_store.proofs.Disks.{of_files, for_files}
use Rattle.ae_store.proofs.Formats.{not_blamed, one_blamed_in}
use Rattle.ae_store.proofs.OneState.{one_show}
use Rattle.ae_store.proofs.Told.{told_found, told_so, told_damaged, told_blamed, told_fault}
use Rattle.ae_store.proofs.loading.load_either.Goals as goal

pub returns-clause-found : goal.returns-clause-found
returns-clause-found g c =
    told_found (Show c.args.want (files (reads (g.D.Disk.state c.args.disk.now)))) (IsBlamedIn c.args.want (files (reads (g.D.Disk.state c.args.disk.now)))) g.D.Disk.tells (Shown c.args.want (reads (g.D.Disk.state c.args.disk.now))) c.read_state-loaded.result c.told.result
    (λ o t shows. of_files (g.D.Disk.state c.args.disk.now) (λ f. Show c.args.want f o) (c.requires t) shows) c.read_state-loaded.ensures.loaded c.told.ensures

pub returns-clause-only : goal.returns-clause-only
returns-clause-only g c = λ t o shown.
    let here : Image = files (reads (g.D.Disk.state c.args.disk.now)) in
    let shows : Show c.args.want here o = for_files (g.D.Disk.state c.args.disk.now) (λ f. Show c.args.want f o) (c.requires t) shown in
    told_so (Show c.args.want (files (reads (g.D.Disk.state c.args.disk.now)))) (IsBlamedIn c.args.want (files (reads (g.D.Disk.state c.args.disk.now)))) (IsState o) c.read_state-loaded.result c.told.result (c.read_state-loaded.ensures.loaded t) c.told.ensures (λ p other. one_show c.args.want here p o other shows) (λ b blamed. not_blamed c.args.want here o b shows blamed) tt tt

pub returns-clause-damaged : goal.returns-clause-damaged
returns-clause-damaged g c = λ t name names.
    of_files (g.D.Disk.state c.args.disk.now) (λ f. IsNamed c.args.want f name) (c.requires t) (told_damaged (Show c.args.want (files (reads (g.D.Disk.state c.args.disk.now)))) (IsBlamedIn c.args.want (files (reads (g.D.Disk.state c.args.disk.now)))) c.read_state-loaded.result c.told.result (c.read_state-loaded.ensures.loaded t) c.told.ensures name names)

pub returns-clause-only_damaged : goal.returns-clause-only_damaged
returns-clause-only_damaged g c = λ t b blamed.
    let here : Image = files (reads (g.D.Disk.state c.args.disk.now)) in
    let is : IsBlamedIn c.args.want here b = for_files (g.D.Disk.state c.args.disk.now) (λ f. IsBlamedIn c.args.want f b) (c.requires t) blamed in
    told_blamed (Show c.args.want (files (reads (g.D.Disk.state c.args.disk.now)))) (IsBlamedIn c.args.want (files (reads (g.D.Disk.state c.args.disk.now)))) c.read_state-loaded.result c.told.result (c.read_state-loaded.ensures.loaded t) c.told.ensures b (λ o shows. not_blamed c.args.want here o b shows is) (λ d other. one_blamed_in c.args.want here d b other is)

pub returns-clause-cause : goal.returns-clause-cause
returns-clause-cause g c = record {
  later = c.read_state-loaded.ensures.cause.later;
  rose = λ fault. c.read_state-loaded.ensures.cause.rose (told_fault c.read_state-loaded.result c.told.result c.told.ensures fault);
}
