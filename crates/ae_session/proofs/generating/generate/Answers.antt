use Rattle.std.proofs.Common.{◌∙◌, ℕ, List, refl, sym, subst}
use Rattle.ae_session.specs.Summary.{HasBuilds}
use Rattle.ae_session.proofs.Projects.{project_stops, project_tells}
use Rattle.ae_session.specs.Called.{unmade}
use Rattle.ae_session.proofs.generating.generate.Goals as goal

-- ---- there is no memory for the script

pub returns-in-Err-clause-done : goal.returns-in-Err-clause-done
returns-in-Err-clause-done g c = unmade (record { disk_is = refl; site_is = refl; told = c.tell_memory.ensures.ends; other = λ told. refl })

-- ---- all lines are done

pub returns-then-is_done-clause-done : goal.returns-then-is_done-clause-done
returns-then-is_done-clause-done g c =
    project_tells _ _ _ _ _ _ _ _ _ _ _ _ _ _ _ _ _ _ _ _ _ (c.deref.ensures.value ∙ c.in-Ok.ensures.text) c.do_lines-outcome.ensures.done (sym c.if-is_done.ensures) _ (subst (λ (t : List ℕ). HasBuilds t c.in-Ok.made.1) (sym c.deref.ensures.value) c.in-Ok.ensures.builds)
    c.do_lines-outcome.ensures.out_faults c.tell_summary.ensures.err_faults c.tell_summary.ensures.disk_faults c.tell_summary.ensures.disk c.tell_summary.ensures.causes c.tell_summary.ensures.told

-- ---- one isn't

pub returns-clause-done : goal.returns-clause-done
returns-clause-done g c =
    project_stops _ _ _ _ _ _ _ _ _ _ _ _ _ (c.deref.ensures.value ∙ c.in-Ok.ensures.text) c.do_lines-outcome.ensures.done (sym c.if-is_done.ensures) (λ told. refl)
