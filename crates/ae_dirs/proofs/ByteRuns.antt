-- Runs of bytes, one after another.
use Rattle.std.specs.Prelude.{◌≡◌, ℕ, ◌+◌, List, [], ◌∷◌, ◌++◌, length}
use Rattle.std.proofs.Common.{refl, sym, ap, subst, ◌∙◌, append_assoc, arith}
use Rattle.std.proofs.lemmas.List.{append-nil, length-append}
use Rattle.std.proofs.lemmas.List.Elements.{All-append, All-cons, All-nil}
use Rattle.ae_outside.specs.Site.{HoldsBytes, RunMade, SiteState, run_made}
use Rattle.ae_outside.specs.declared.dir.Dir.{Dir}
use Rattle.ae_outside.specs.declared.dir.Exit.{Exit}
use Rattle.ae_evidence.specs.Made.{IsExit}
use Rattle.ae_dirs.specs.Runs.{IsByteRun, MakesByteRuns, StaysUnrun}

-- where no run was made
pub none-made : (old new : SiteState) → new.runs ≡ old.runs → MakesByteRuns old new
none-made old new same = record { made = []; runs = same ∙ sym (append-nil old.runs); are = All-nil IsByteRun }

-- where one was
pub one-made : (dir : Dir) (command : List ℕ) (exit : Exit) (old new : SiteState) → IsExit exit → HoldsBytes old → HoldsBytes new → new.runs ≡ old.runs ++ run_made dir command exit old new ∷ [] → MakesByteRuns old new
one-made dir command exit old new is before after ran = record {
  made = run_made dir command exit old new ∷ [];
  runs = ran;
  are = All-cons IsByteRun (run_made dir command exit old new) [] (record { exit = is; before = before dir; after = after dir }) (All-nil IsByteRun);
}

-- and then others
pub made-then : (old mid new : SiteState) → MakesByteRuns old mid → MakesByteRuns mid new → MakesByteRuns old new
made-then old mid new first second = record {
  made = first.made ++ second.made;
  runs = second.runs ∙ ap (λ (l : List RunMade). l ++ second.made) first.runs ∙ append_assoc old.runs first.made second.made;
  are = All-append IsByteRun first.made second.made first.are second.are;
}

-- the same of states that are the same
pub made-same : (old mid new : SiteState) → MakesByteRuns old mid → new ≡ mid → MakesByteRuns old new
made-same old mid new made same = subst (λ (state : SiteState). MakesByteRuns old state) (sym same) made

-- ---- what isn't changed but by runs

no-length : (made : List RunMade) → length made ≡ 0 → made ≡ []
no-length [] none = refl
no-length (m ∷ made) none = absurd (omega (arith, none))

-- a run more is no runs more
pub no-more : (runs : List RunMade) (m : RunMade) → runs ++ m ∷ [] ≡ runs → ⊥
no-more runs m same = omega (arith, ap length same, length-append runs (m ∷ []))

-- where none were made in all, none were made in either part
none-between : (old mid new : SiteState) → MakesByteRuns old mid → MakesByteRuns mid new → new.runs ≡ old.runs → (mid.runs ≡ old.runs) × (new.runs ≡ mid.runs)
none-between old mid new first second same =
    let none : length first.made + length second.made ≡ 0 =
    omega (arith, ap length same, ap length first.runs, ap length second.runs, length-append old.runs first.made, length-append mid.runs second.made) in (
      first.runs ∙ ap (λ (l : List RunMade). old.runs ++ l) (no-length first.made (omega (arith, none))) ∙ append-nil old.runs,
      second.runs ∙ ap (λ (l : List RunMade). mid.runs ++ l) (no-length second.made (omega (arith, none))) ∙ append-nil mid.runs,
    )

-- one more step that stays unless something was run
pub stays-on : (failed whole : Type 0) (old mid new : SiteState) → MakesByteRuns old mid → MakesByteRuns mid new → (mid.runs ≡ old.runs → mid ≡ old) → StaysUnrun failed mid new → (failed → whole) → StaysUnrun whole old new
stays-on failed whole old mid new first second stayed stays fails = λ none same. let two = none-between old mid new first second same in stays (λ is. none (fails is)) two.1 ∙ stayed two.0
