-- What holds of every call of the program that begins a branch.
use Rattle.std.specs.Prelude.{◌≡◌, ℕ, not, List, [], ◌∷◌, map, Some, filter}
use Rattle.std.specs.Option.{option_map}
use Rattle.std.specs.Str.{bytes_eq}
use Rattle.ae_base.specs.Bytes.{AreBytes}
use Rattle.ae_base.specs.declared.outcome.Outcome.TheVariants.{Done}
use Rattle.ae_base.specs.declared.words.Action.TheVariants.{Create}
use Rattle.ae_branch.specs.Begin.{brief_of, first_bundle}
use Rattle.ae_branch.specs.Branch.{BranchDone}
use Rattle.ae_branch_words.specs.declared.words.BranchWords.{BranchWords}
use Rattle.ae_branch_words.specs.declared.words.Rest.TheVariants as rest
use Rattle.ae_bundle.specs.declared.bundle.BundleFile.{BundleFile}
use Rattle.ae_exec.specs.Holding.{HoldsLegal}
use Rattle.ae_files.specs.InTree.{row_at}
use Rattle.ae_log.specs.Files.{version_bytes}
use Rattle.ae_log.specs.Log.{Log}
use Rattle.ae_log.specs.Observed.{observation}
use Rattle.ae_outside.specs.Trees.{Tree}
use Rattle.ae_outside.specs.declared.dir.Dir.TheVariants.{Develop}
use Rattle.ae_received.specs.Edits.{Edit, edit, edit_of}
use Rattle.ae_received.specs.Received.{HasReceived}
use Rattle.ae_script.specs.Lines.{stand}
use Rattle.ae_script.specs.Uses.{Disks, Sites, Streams, written_from}
use Rattle.ae_types.specs.declared.project.Project.{Project}
use Rattle.ae_types.specs.Observation.{Observation}
use Rattle.ae_types.specs.Trees.{TreeRow, baseline_of, tree_of}
use Rattle.ae_words.specs.Formed.{first_change}

-- ---- the project

-- A project that this user makes beside another has this name, and the other's users in each role; he is its first administrator. It
-- has the other's attributes, where their description is one of bytes, as it is by its type.
pub record IsBranchOf (trunk : Project) (name who : List ℕ) (branch : Project) : Type 0 where
  pub named : branch.name ≡ name
  pub attributes : AreBytes trunk.attributes.description → branch.attributes ≡ trunk.attributes
  pub administrators : branch.administrators ≡ who ∷ filter (λ user. not (bytes_eq who user)) trunk.administrators
  pub developers : branch.developers ≡ trunk.developers
  pub reviewers : branch.reviewers ≡ trunk.reviewers
  pub integrators : branch.integrators ≡ trunk.integrators

-- ---- the files

-- each file of a tree is created, for what it is there
abbrev pub created_edit : TreeRow → Edit
created_edit row = edit row.path Create row.usage

-- what a project has at a path at a delta, where these are the bytes of each version
abbrev pub file_at : Observation → ℕ → (ℕ → List ℕ) → Tree
file_at o delta bytes path = option_map (λ (row : TreeRow). bytes row.version.number) (row_at (tree_of o delta) path)

-- ---- the whole

-- After this log of a branch, its first change creates what the trunk has at the delta, after that one, and its directory has the
-- bytes of each file, and no other.
pub record WasBegun (trunk : Log) (name : List ℕ) (delta : ℕ) (who : List ℕ) (branch : Log) (directory : Tree) : Type 0 where
  -- what stands in the trunk
  pub from : Observation
  pub stands : observation trunk ≡ Some from
  -- the branch's project as it was made: after some log, with no file yet
  pub made : Log
  pub stood : Observation
  pub stands_made : observation made ≡ Some stood
  pub project : IsBranchOf from.project name who stood.project
  pub no_files : baseline_of stood ≡ []
  -- its first change is what a change set of the tree's files says
  pub files : List BundleFile
  pub received : HasReceived stood (version_bytes made) (first_bundle (brief_of name delta) files) first_change who branch directory
  pub creates : map edit_of received.change.files ≡ map created_edit (tree_of from delta)
  pub lies : (path : List ℕ) → directory path ≡ file_at from delta (version_bytes trunk) path

module _ (d : Disks) (s : Sites) (b : Disks) (t : Sites) (e : Streams) where
  -- Where the words begin a branch, and the call ends with Done, on disks that held legal logs and read one each: the log that the
  -- branch's disk reads then has what the trunk has at the delta.
  abbrev pub BegunBranchesHaveTheTree : Type 0
  BegunBranchesHaveTheTree =
      (words : BranchWords) (delta : ℕ) → words.rest ≡ rest.Begin delta
      → (who : List ℕ) (now : ℕ) (trunk trunk_new : d.Disk) (trunk_site trunk_site_new : s.Site) (disk disk_new : b.Disk) (site site_new : t.Site) (err err_new : e.Stream)
      → (call : BranchDone d s b t words (stand d s who now trunk trunk_site) (stand b t who now disk site) trunk_new trunk_site_new disk_new site_new (written_from e err err_new) Done)
      → d.told → (seen : b.told) (shown : t.told)
      → (trunk_held : List Log) (trunk_log : Log) → HoldsLegal (d.state trunk) trunk_held trunk_log
      → (held : List Log) (log : Log) (holds : HoldsLegal (b.state disk) held log)
      → WasBegun trunk_log words.name delta who (call.branch_logs seen shown held log holds).holds.read ((t.state site_new).trees (Develop first_change))
