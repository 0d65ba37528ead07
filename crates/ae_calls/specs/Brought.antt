-- What holds of every call of the program that ends a branch.
use Rattle.std.specs.Prelude.{◌≡◌, ℕ, List, Some}
use Rattle.std.specs.List.{AllByRecursion}
use Rattle.ae_base.specs.Rows.{Row}
use Rattle.ae_base.specs.declared.outcome.Outcome.TheVariants.{Done}
use Rattle.ae_base.specs.declared.want.Want.TheVariants.{All}
use Rattle.ae_branch.specs.Branch.{BranchDone}
use Rattle.ae_branch.specs.Carried.{brings, carried}
use Rattle.ae_branch.specs.Finish.{branch_bundle}
use Rattle.ae_branch_words.specs.declared.words.BranchWords.{BranchWords}
use Rattle.ae_branch_words.specs.declared.words.Rest.TheVariants as rest
use Rattle.ae_bundle.specs.declared.bundle.BundleFile.{BundleFile}
use Rattle.ae_dist.specs.Plan.{free_number}
use Rattle.ae_exec.specs.Holding.{HoldsLegal}
use Rattle.ae_exec.specs.Shown.{Shown}
use Rattle.ae_log.specs.Files.{version_bytes}
use Rattle.ae_log.specs.Log.{Log}
use Rattle.ae_log.specs.Observed.{observation}
use Rattle.ae_outside.specs.Image.{Image}
use Rattle.ae_outside.specs.Site.{SiteState}
use Rattle.ae_outside.specs.State.{reads}
use Rattle.ae_outside.specs.Trees.{Tree}
use Rattle.ae_outside.specs.declared.dir.Dir.TheVariants.{Develop}
use Rattle.ae_received.specs.Received.{HasReceived}
use Rattle.ae_script.specs.Lines.{stand}
use Rattle.ae_script.specs.Uses.{Disks, Sites, Streams, written_from}
use Rattle.ae_types.specs.Observation.{Observation}
use Rattle.ae_vault.specs.Vault.{effective}

-- a directory has what is brought of a path: its bytes, or no file
abbrev pub LiesAs : Tree → Row → Type 0
LiesAs directory row = directory row.0 ≡ row.1

-- After the next log of the trunk there is one further change: that of a change set of the branch's name, whose files bring, for each
-- path that the branch changed, what the branch's baseline has there. And its directory has just that at these paths.
pub record WasBrought (branch : Image) (name : List ℕ) (trunk : Log) (who : List ℕ) (next : Log) (site : SiteState) : Type 0 where
  -- what stands in the branch
  pub from : Observation
  pub shown : Shown All branch (Some from)
  -- what stood in the trunk, and the number that no change had
  pub stood : Observation
  pub stands : observation trunk ≡ Some stood
  pub number : ℕ
  pub free : free_number stood ≡ Some number
  pub files : List BundleFile
  pub bring : brings files ≡ carried (effective branch) from
  pub received : HasReceived stood (version_bytes trunk) (branch_bundle name files) number who next (site.trees (Develop number))
  pub lies : AllByRecursion (LiesAs (site.trees (Develop number))) (carried (effective branch) from)

module _ (d : Disks) (s : Sites) (b : Disks) (t : Sites) (e : Streams) where
  -- Where the words end a branch, and the call ends with Done, on disks that held legal logs and read one each: the log that the
  -- trunk's disk reads then has what the branch brings.
  abbrev pub EndedBranchesBring : Type 0
  EndedBranchesBring =
      (words : BranchWords) → words.rest ≡ rest.Finish
      → (who : List ℕ) (now : ℕ) (trunk trunk_new : d.Disk) (trunk_site trunk_site_new : s.Site) (disk disk_new : b.Disk) (site site_new : t.Site) (err err_new : e.Stream)
      → (call : BranchDone d s b t words (stand d s who now trunk trunk_site) (stand b t who now disk site) trunk_new trunk_site_new disk_new site_new (written_from e err err_new) Done)
      → (seen : d.told) (shown : s.told) → b.told
      → (held : List Log) (log : Log) (holds : HoldsLegal (d.state trunk) held log)
      → (branch_held : List Log) (branch_log : Log) → HoldsLegal (b.state disk) branch_held branch_log
      → WasBrought (reads (b.state disk)) words.name log who (call.trunk_logs seen shown held log holds).holds.read (s.state trunk_site_new)
