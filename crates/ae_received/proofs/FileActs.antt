-- The commands of a plan on one file each: which row each puts, and what it does at the file's path.
use Rattle.std.proofs.Common.{◌≡◌, ℕ, refl, sym, ◌∙◌, ap, subst, List, [], ◌∷◌, Option, Some, None, false}
use Rattle.std.specs.Prelude.{IfSome}
use Rattle.std.specs.Str.{bytes_eq}
use Rattle.ae_base.specs.declared.words.Action.{Action}
use Rattle.ae_base.specs.declared.words.Action.TheVariants.{Create, Modify, Remove}
use Rattle.ae_base.specs.declared.words.Usage.{Usage}
use Rattle.ae_base.specs.declared.words.Usage.TheVariants.{Source, Test}
use Rattle.ae_dist.specs.Plan.{on_path}
use Rattle.ae_evidence.specs.Directories.{dir_of, dirs_after, tree_after}
use Rattle.ae_evidence.specs.declared.directories.DirChange.{DirChange}
use Rattle.ae_evidence.specs.declared.directories.DirChange.TheVariants.{Make, Put}
use Rattle.ae_files.specs.InTree.{row_at}
use Rattle.ae_lines.specs.declared.act.Act.TheVariants.{Run}
use Rattle.ae_lines.specs.declared.act.Act.TheVariants as act
use Rattle.ae_log.specs.After.{after, new_file}
use Rattle.ae_log.specs.Maker.{Maker}
use Rattle.ae_log.specs.Observed.{observation}
use Rattle.ae_log.specs.declared.event.EventKind.TheVariants as on
use Rattle.ae_log.proofs.Steps.{of_change}
use Rattle.ae_machine.specs.Call.{call_of, change_of}
use Rattle.ae_machine.specs.Directories.{changes_by, changes_of, dirs, file_of}
use Rattle.ae_machine.specs.Legal.{Legal}
use Rattle.ae_machine.specs.Paths.{usage_of_new, usage_or}
use Rattle.ae_machine.specs.Verdict.{maker_in}
use Rattle.ae_outside.specs.Trees.{Tree, with_file}
use Rattle.ae_outside.specs.declared.dir.Dir.TheVariants.{Develop}
use Rattle.ae_script.specs.Steps.{LineDone, Point}
use Rattle.ae_types.specs.declared.change.Change.{Change}
use Rattle.ae_types.specs.declared.change.ChangeAttributes.{ChangeAttributes}
use Rattle.ae_types.specs.declared.change.ChangeFile.{ChangeFile}
use Rattle.ae_types.specs.Observation.{Observation}
use Rattle.ae_types.specs.Trees.{TreeRow, baseline_of, edit_of}
use Rattle.ae_types.specs.Found.{file_path}
use Rattle.ae_types.proofs.Keys.{by_text}
use Rattle.ae_types.proofs.Ordered.{put-ascends}
use Rattle.ae_words.specs.declared.command.Command.{Command}
use Rattle.ae_words.specs.declared.table.Function.TheVariants as function
use Rattle.ae_received.specs.Edits.{Edit, edit, edit_at}
use Rattle.ae_received.proofs.Acts.{RunsAct, led_to}
use Rattle.ae_received.proofs.Commands.{CommandLeads, command-leads, given_first, given_to}
use Rattle.ae_received.proofs.Directories.{develop-after, made-others}
use Rattle.ae_received.proofs.Puts.{put-leads}
use Rattle.ae_received.proofs.Passes.{Leads}
use Rattle.ae_received.proofs.Rows.{StandsWith, filed-with}
use Rattle.ae_received.proofs.Touches.{file-others, file-there, none-found, row-found, with_row}

-- the develop directory at a point
abbrev pub directory_at : ℕ → Point → Tree
directory_at number at = at.site.trees (Develop number)

-- the develop directory after a command that makes one change of it
pub develop-led : (from : Point) (command : Command) (o : Observation) (step : LineDone) (number : ℕ) (change : Change) (made : DirChange)
    → change_of (call_of o command from.who) ≡ Some change → changes_of command.function (given_first from command step.to o) change ≡ made ∷ [] → dir_of made ≡ Develop number
    → step.to.site.trees ≡ dirs (given_first from command step.to o) from.site.trees → directory_at number step.to ≡ tree_after made (directory_at number from)
develop-led from command o step number change made there only is trees =
    ap (λ t. t (Develop number)) trees
    ∙ ap (λ (v : Option Change). dirs_after (changes_by (given_first from command step.to o) v) from.site.trees (Develop number)) there
    ∙ ap (λ (cs : List DirChange). dirs_after cs from.site.trees (Develop number)) only
    ∙ develop-after made from.site.trees number is

module _ (stood : Observation) (number : ℕ) (who : List ℕ) (attributes : ChangeAttributes) where
  abbrev pub stands_at : Point → List ChangeFile → Type 0
  stands_at at files = StandsWith stood number who attributes at.log files

  -- the act led to where the rows and the directory are changed at this path alone
  abbrev pub LeadsAt : List ℕ → Option Edit → Option (Option (List ℕ)) → Point → List ChangeFile → LineDone → Type 0
  LeadsAt = Leads led_to RunsAct (directory_at number) stands_at

  module _ (from : Point) (files : List ChangeFile) (s : stands_at from files) (step : LineDone) (path : List ℕ) where
    -- an event of a file, and what is seen of the directory
    filed-leads : (action : Action) (usage : Usage) (origin : ℕ) (made : Edit) (lies : Option (Option (List ℕ))) (maker : Maker) → edit path action usage ≡ made
        → observation step.to.log ≡ Some (after s.o (of_change maker number (on.File path action usage origin))) → Legal step.to.log
        → ((q : List ℕ) → bytes_eq q path ≡ false → directory_at number step.to q ≡ directory_at number from q) → IfSome lies (λ bytes. directory_at number step.to path ≡ bytes)
        → LeadsAt path (Some made) lies from files step
    filed-leads action usage origin made lies maker is stands legal others there =
        subst (λ (e : Edit). LeadsAt path (Some e) lies from files step) is
        (record {
          next = with_row (new_file path action usage origin) files;
          stands = filed-with stood number who attributes from.log step.to.log files s maker path action usage origin stands legal;
          touched = record {
            ascend = put-ascends by_text file_path (new_file path action usage origin) files;
            found = row-found (new_file path action usage origin) files;
            others = others;
            there = there;
          };
        })

    -- the usage that the baseline has
    usage-there : (row : TreeRow) → row_at (baseline_of stood) path ≡ Some row → usage_or Source (row_at (baseline_of s.o) path) ≡ row.usage
    usage-there row found = ap (λ (rows : List TreeRow). usage_or Source (row_at rows path)) s.baseline ∙ ap (usage_or Source) found

    led : (command : Command) → RunsAct from (Run command) step → CommandLeads from command s.o step
    led command run = command-leads from command s.o step s.stands s.legal run

    pub removed-leads : (row : TreeRow) → row_at (baseline_of stood) path ≡ Some row → RunsAct from (Run (on_path function.RemoveFile number path)) step → LeadsAt path (Some (edit path Remove row.usage)) (Some None) from files step
    removed-leads row found run =
        let command = on_path function.RemoveFile number path in
        let l = led command run in
        let tree : directory_at number step.to ≡ with_file path None (directory_at number from) =
        develop-led from command s.o step number s.change (Put (Develop s.change.number) ((path, None) ∷ [])) s.there refl (ap Develop s.numbered) (l.trees refl) in
        filed-leads Remove (usage_or Source (row_at (baseline_of s.o) path)) (edit_of s.o path) (edit path Remove row.usage) (Some None) (maker_in (given_to from command step.to s.o))
        (ap (edit path Remove) (usage-there row found)) l.stands l.legal
        (λ q e. ap (λ (t : Tree). t q) tree ∙ file-others path None (directory_at number from) q e)
        (ap (λ (t : Tree). t path) tree ∙ file-there path None (directory_at number from))

    pub copied-leads : (row : TreeRow) → row_at (baseline_of stood) path ≡ Some row → RunsAct from (Run (on_path function.CopyFile number path)) step → LeadsAt path (Some (edit path Modify row.usage)) None from files step
    copied-leads row found run =
        let command = on_path function.CopyFile number path in
        let l = led command run in
        let bytes : Option (List ℕ) = (file_of (given_first from command step.to s.o) (baseline_of s.o) path).1 in
        let tree : directory_at number step.to ≡ with_file path bytes (directory_at number from) =
        develop-led from command s.o step number s.change (Put (Develop s.change.number) ((path, bytes) ∷ [])) s.there refl (ap Develop s.numbered) (l.trees refl) in
        filed-leads Modify (usage_or Source (row_at (baseline_of s.o) path)) (edit_of s.o path) (edit path Modify row.usage) None (maker_in (given_to from command step.to s.o))
        (ap (edit path Modify) (usage-there row found)) l.stands l.legal
        (λ q e. ap (λ (t : Tree). t q) tree ∙ file-others path bytes (directory_at number from) q e)
        tt

    pub new-file-leads : (usage : Usage) → usage_of_new path ≡ usage → RunsAct from (Run (on_path function.NewFile number path)) step → LeadsAt path (Some (edit path Create usage)) None from files step
    new-file-leads usage is run =
        let command = on_path function.NewFile number path in
        let l = led command run in
        let made = Make (Develop s.change.number) (path ∷ []) in
        let tree : directory_at number step.to ≡ tree_after made (directory_at number from) =
        develop-led from command s.o step number s.change made s.there refl (ap Develop s.numbered) (l.trees refl) in
        filed-leads Create (usage_of_new path) (edit_of s.o path) (edit path Create usage) None (maker_in (given_to from command step.to s.o))
        (ap (edit path Create) is) l.stands l.legal
        (λ q e. ap (λ (t : Tree). t q) tree ∙ made-others path (directory_at number from) q e)
        tt

    pub new-test-leads : RunsAct from (Run (on_path function.NewTest number path)) step → LeadsAt path (Some (edit path Create Test)) None from files step
    new-test-leads run =
        let command = on_path function.NewTest number path in
        let l = led command run in
        let made = Make (Develop s.change.number) (path ∷ []) in
        let tree : directory_at number step.to ≡ tree_after made (directory_at number from) =
        develop-led from command s.o step number s.change made s.there refl (ap Develop s.numbered) (l.trees refl) in
        filed-leads Create Test (edit_of s.o path) (edit path Create Test) None (maker_in (given_to from command step.to s.o))
        refl l.stands l.legal
        (λ q e. ap (λ (t : Tree). t q) tree ∙ made-others path (directory_at number from) q e)
        tt

    pub bytes-lead : (bytes : List ℕ) → RunsAct from (act.Put (Develop number) path bytes) step → LeadsAt path None (Some (Some bytes)) from files step
    bytes-lead bytes run =
        let l = put-leads from (Develop number) path bytes step run in
        record {
          next = files;
          stands = subst (λ log. StandsWith stood number who attributes log files) (sym l.log) s;
          touched = record {
            ascend = λ up. up;
            found = λ q. none-found (bytes_eq q path) (edit_at files q);
            others = λ q e. ap (λ (t : Tree). t q) l.there ∙ file-others path (Some bytes) (directory_at number from) q e;
            there = ap (λ (t : Tree). t path) l.there ∙ file-there path (Some bytes) (directory_at number from);
          };
        }
