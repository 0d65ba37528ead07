-- The manners in which lines are done: those of a script, those that the generator makes, and the acts of a plan.
use Rattle.std.specs.Prelude.{ℕ, Bool, true, false, if◌then◌else◌, List, []}
use Rattle.ae_base.specs.declared.outcome.Outcome.{Outcome}
use Rattle.ae_base.specs.declared.outcome.Outcome.TheVariants.{Done}
use Rattle.ae_telling.specs.Telling.{goes_on}
use Rattle.ae_script.specs.declared.manner.Manner.{Manner}
use Rattle.ae_script.specs.declared.manner.Manner.TheVariants.{Plan, Script, Generator}

abbrev pub is_done : Outcome → Bool
is_done Done = true
is_done _ = false

-- whether the next line is done after one that ended so: in a script after one that is done or refused, or of which a run failed;
-- else only after one that is done
abbrev pub leads_on : Manner → Outcome → Bool
leads_on Plan outcome = is_done outcome
leads_on Script outcome = goes_on outcome
leads_on Generator outcome = is_done outcome

-- whether each command tells its exit status
abbrev pub tells_status : Manner → Bool
tells_status Plan = false
tells_status Script = true
tells_status Generator = false

-- what is written of a line of which this is to be said: of the generator's nothing where it is done
abbrev pub line_text : Manner → Outcome → List ℕ → List ℕ
line_text Plan outcome text = text
line_text Script outcome text = text
line_text Generator outcome text = if is_done outcome then [] else text
