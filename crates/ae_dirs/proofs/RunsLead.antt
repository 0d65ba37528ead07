-- Runs that lead over all directories, one after another.
use Rattle.std.specs.Prelude.{◌≡◌, List, [], ◌∷◌, ◌++◌}
use Rattle.std.proofs.Common.{ℕ, refl, sym, ap, subst, ◌∙◌, append_assoc}
use Rattle.std.proofs.lemmas.List.{append-nil}
use Rattle.ae_outside.specs.Site.{RunMade, SiteState, run_made}
use Rattle.ae_outside.specs.Trees.{Tree}
use Rattle.ae_outside.specs.declared.dir.Dir.{Dir}
use Rattle.ae_outside.specs.declared.dir.Exit.{Exit}
use Rattle.ae_dirs.specs.Runs.{ByRunsUnless, IsByRuns, LeadAll}

-- where nothing was run
pub by-none : (old new : SiteState) → new ≡ old → IsByRuns old.trees old new
by-none old new same = record {
  made = [];
  runs = ap (λ (s : SiteState). s.runs) same ∙ sym (append-nil old.runs);
  lead = ap (λ (s : SiteState). s.trees) same;
}

-- where one run was made
pub by-one : (dir : Dir) (command : List ℕ) (exit : Exit) (old new : SiteState) → new.runs ≡ old.runs ++ run_made dir command exit old new ∷ [] → IsByRuns old.trees old new
by-one dir command exit old new ran = record { made = run_made dir command exit old new ∷ []; runs = ran; lead = (refl, refl) }

-- runs after others
lead-then : (start mid left : Dir → Tree) (made more : List RunMade) → LeadAll mid start made → LeadAll left mid more → LeadAll left start (made ++ more)
lead-then start mid left [] more first second = subst (λ (trees : Dir → Tree). LeadAll left trees more) first second
lead-then start mid left (m ∷ made) more first second = (first.0, lead-then m.left mid left made more first.1 second)

pub by-then : (trees : Dir → Tree) (old mid new : SiteState) → IsByRuns trees old mid → IsByRuns mid.trees mid new → IsByRuns trees old new
by-then trees old mid new first second = record {
  made = first.made ++ second.made;
  runs = second.runs ∙ ap (λ (l : List RunMade). l ++ second.made) first.runs ∙ append_assoc old.runs first.made second.made;
  lead = lead-then trees mid.trees new.trees first.made second.made first.lead second.lead;
}

-- the same of states that are the same
pub by-same : (trees : Dir → Tree) (old mid new : SiteState) → IsByRuns trees old mid → new ≡ mid → IsByRuns trees old new
by-same trees old mid new by same = subst (λ (state : SiteState). IsByRuns trees old state) (sym same) by

-- one more step that is by runs, unless one failed
pub by-on : (failed whole : Type 0) (old mid new : SiteState) → IsByRuns old.trees old mid → ByRunsUnless failed mid new → (failed → whole) → ByRunsUnless whole old new
by-on failed whole old mid new first second fails = λ none. by-then old.trees old mid new first (second (λ is. none (fails is)))
