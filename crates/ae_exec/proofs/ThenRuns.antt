-- What a command changes itself, and then its runs.
use Rattle.std.specs.Prelude.{◌≡◌, false, List, [], ◌∷◌, ◌++◌}
use Rattle.std.proofs.Common.{◌≢◌, ℕ, Bool, true, ◌||◌, refl, sym, ap, subst, ◌∙◌}
use Rattle.std.proofs.lemmas.List.{append-nil}
use Rattle.std.proofs.lemmas.Bool.{false≢true}
use Rattle.ae_outside.specs.Site.{RunMade, SiteState}
use Rattle.ae_outside.specs.Trees.{Tree}
use Rattle.ae_outside.specs.Dirs.{dir_eq}
use Rattle.ae_outside.specs.declared.dir.Dir.{Dir}
use Rattle.ae_outside.proofs.DirLaws.{dir_eq_refl}
use Rattle.ae_evidence.specs.declared.directories.DirChange.{DirChange}
use Rattle.ae_evidence.specs.Directories.{dir_of, dirs_after, is_changed}
use Rattle.ae_words.specs.declared.command.Command.{Command}
use Rattle.ae_dirs.specs.Parts.{AreInPart}
use Rattle.ae_dirs.specs.Runs.{IsByRuns}
use Rattle.ae_exec.specs.Directories.{ChangesThenRuns, OwnThenRuns, may_change}

-- where nothing is run
abbrev by-none : (before after : SiteState) → after.runs ≡ before.runs → IsByRuns after.trees before after
by-none before after same = record { made = []; runs = same ∙ sym (append-nil before.runs); lead = refl }

pub none-then : (changes : List DirChange) (before after : SiteState) → after.runs ≡ before.runs → AreInPart changes before.trees after.trees → ChangesThenRuns changes before after
none-then changes before after same part = record { changed = after.trees; part = part; ran = by-none before after same; whole = λ some. absurd (some refl) }

pub own-none : (command : Command) (before after : SiteState) → after.runs ≡ before.runs → ((dir : Dir) → may_change command dir ≡ false → after.trees dir ≡ before.trees dir) → OwnThenRuns command before after
own-none command before after same others = record { changed = after.trees; others = others; ran = by-none before after same }

-- where the changes were made whole, and then runs
pub whole-then : (changes : List DirChange) (before mid after : SiteState) → mid.runs ≡ before.runs → AreInPart changes before.trees mid.trees → mid.trees ≡ dirs_after changes before.trees → IsByRuns mid.trees mid after
    → ChangesThenRuns changes before after
whole-then changes before mid after same part whole ran = record {
  changed = mid.trees;
  part = part;
  ran = record {
    made = ran.made;
    runs = ran.runs ∙ ap (λ (l : List RunMade). l ++ ran.made) same;
    lead = ran.lead;
  };
  whole = λ some. whole;
}

-- ---- the directories of no change are as they were

other-than : (a b : Dir) → dir_eq a b ≡ false → b ≢ a
other-than a b differ same = false≢true (sym differ ∙ ap (dir_eq a) same ∙ dir_eq_refl a)

both-false : (x y : Bool) → (x || y) ≡ false → (x ≡ false) × (y ≡ false)
both-false false y none = (refl, none)
both-false true y none = absurd (false≢true (sym none))

not-changed : (changes : List DirChange) (old new : Dir → Tree) → AreInPart changes old new → (dir : Dir) → is_changed dir changes ≡ false → new dir ≡ old dir
not-changed [] old new part dir none = ap (λ (trees : Dir → Tree). trees dir) part
not-changed (change ∷ changes) old new part dir none =
    let apart = both-false (dir_eq (dir_of change) dir) (is_changed dir changes) none in
    not-changed changes part.0 new part.2 dir apart.1 ∙ part.1.others dir (other-than (dir_of change) dir apart.0)

-- a command whose changes leave the directories that it may not change left these to its runs
pub own-ran : (command : Command) (changes : List DirChange) (before after : SiteState) → ((dir : Dir) → may_change command dir ≡ false → is_changed dir changes ≡ false) → ChangesThenRuns changes before after
    → OwnThenRuns command before after
own-ran command changes before after apart did = record {
  changed = did.changed;
  others = λ dir other. not-changed changes before.trees did.changed did.part dir (apart dir other);
  ran = did.ran;
}
