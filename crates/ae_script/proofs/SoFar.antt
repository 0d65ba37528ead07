-- What the disk holds after the lines so far, and after one more.
use Rattle.std.specs.Prelude.{◌≡◌, ◌≢◌, ◌⊎◌, Bool, true, false, List, [], ◌∷◌, ◌++◌, All, Contains}
use Rattle.std.proofs.Common.{inl, inr, refl, sym, ap, subst, ◌∙◌, arith}
use Rattle.ae_base.specs.declared.outcome.Outcome.{Outcome}
use Rattle.ae_base.specs.declared.outcome.Outcome.TheVariants.{Done, RunFailed, Refused, BadWords, BadScript, DiskFault, SiteFault, SinkFault, SourceFault, Damaged, Memory}
use Rattle.ae_outside.specs.State.{DiskState}
use Rattle.ae_lines.specs.declared.line.Line.{Line}
use Rattle.ae_lines.specs.declared.line.Line.TheVariants.{Nothing, As, At, Do, Put, Fill, Remove}
use Rattle.ae_log.specs.Log.{Log}
use Rattle.ae_machine.specs.Legal.{Legal}
use Rattle.ae_machine.specs.Provenance.{Provenance}
use Rattle.ae_machine.proofs.LegalRightly.{legal-provided}
use Rattle.ae_machine.proofs.Lists.{members-all}
use Rattle.ae_exec.specs.Holding.{HoldsLegal}
use Rattle.ae_exec.specs.Refined.{MayBeUnsynced}
use Rattle.ae_exec.specs.Stands.{StandsForLog}
use Rattle.ae_exec.proofs.Held.{only_one}
use Rattle.ae_exec.proofs.Shown.{list-in}
use Rattle.ae_exec.proofs.Standing.{by_files}
use Rattle.ae_script.specs.Along.{held_along, is_fault}
use Rattle.ae_script.specs.Refined.{HoldsAfter, NoneSynced, IsUnsynced}
use Rattle.ae_script.specs.Steps.{LineDone, AllLeadOn, reached, reached_by}
use Rattle.ae_script.specs.declared.manner.Manner.{Manner}
use Rattle.ae_script.proofs.Along.{last_log, held_last, held_more}
use Rattle.ae_script.proofs.Following.{Logs, none_synced_more, reached_more, none_fails}
use Rattle.ae_script.proofs.Stepping.{KeptSoFar, fresh, since}

-- ---- what the disk holds

pub provided_all : (logs : Logs) → ((l : Log) → Contains logs l → Legal l) → All Provenance logs
provided_all logs legal = members-all Provenance logs (λ l there. legal-provided l (legal l (list-in logs l there)))

-- what it holds where the lines are done that came so far
pub are_so_far : (base disk : DiskState) (held later : Logs) (log : Log) (done : List LineDone) → KeptSoFar base disk held log done later
    → (NoneSynced done × (later ≡ held)) ⊎ ((l : Log) → Contains later l → Contains (held_along log (reached done)) l)
are_so_far base disk held later log done (fresh none left is) = inl (none, is)
are_so_far base disk held later log done (since kept is) = inr (λ l in_later. subst (λ (logs : Logs). Contains logs l) is in_later)

abbrev pub holds_so_far : (base disk : DiskState) (held later : Logs) (log last : Log) (done : List LineDone) → KeptSoFar base disk held log done later → HoldsLegal disk later last → HoldsAfter disk held log done
holds_so_far base disk held later log last done kept holds = record {
  logs = later;
  are = are_so_far base disk held later log done kept;
  read = last;
  holds = holds;
  provided = provided_all later holds.all;
}

-- ---- a fault of the disk

pub fault_is : (o : Outcome) → is_fault o ≡ true → o ≡ DiskFault
fault_is DiskFault is = refl
fault_is Done is = absurd (let both : false ≡ true = is in cc)
fault_is RunFailed is = absurd (let both : false ≡ true = is in cc)
fault_is (Refused refusal) is = absurd (let both : false ≡ true = is in cc)
fault_is (BadWords place) is = absurd (let both : false ≡ true = is in cc)
fault_is (BadScript line) is = absurd (let both : false ≡ true = is in cc)
fault_is SiteFault is = absurd (let both : false ≡ true = is in cc)
fault_is SinkFault is = absurd (let both : false ≡ true = is in cc)
fault_is SourceFault is = absurd (let both : false ≡ true = is in cc)
fault_is (Damaged file) is = absurd (let both : false ≡ true = is in cc)
fault_is Memory is = absurd (let both : false ≡ true = is in cc)

-- which log is read
pub reads_either : {A B : Type 0} (o : Outcome) → (o ≢ DiskFault → A) → (o ≡ DiskFault → B) → A ⊎ ((o ≡ DiskFault) × B)
reads_either {A} {B} o calm fault = go (is_fault o) refl
  where
    go : (b : Bool) → is_fault o ≡ b → A ⊎ ((o ≡ DiskFault) × B)
    go true is = let here = fault_is o is in inr (here, fault here)
    go false is = inl (calm (λ here. let both : true ≡ false = sym (ap is_fault here) ∙ is in absurd (cc both)))

module _ (manner : Manner) (log : Log) (done : List LineDone) (d : LineDone) (all : AllLeadOn manner done) where
  -- the log that is read after the lines so far
  abbrev read_here : Log
  read_here = last_log log (reached done)

  held_here : held_along log (reached (done ++ d ∷ [])) ≡ held_along read_here (reached (d ∷ []))
  held_here = ap (held_along log) (reached_more done d) ∙ held_more log (reached done) (reached (d ∷ [])) (none_fails manner done all)

  -- a command that came before the gate was synced anew left that log, or one of two
  command_among : (outcome : Outcome) (next : Log) → MayBeUnsynced outcome → (outcome ≡ Memory → next ≡ read_here) → Contains (held_along read_here ((is_fault outcome, next) ∷ [])) read_here
  command_among DiskFault next may same = (0, omega arith, refl)
  command_among Memory next may same = (0, omega arith, same refl)
  command_among Done next may same = absurd may
  command_among RunFailed next may same = absurd may
  command_among (Refused refusal) next may same = absurd may
  command_among (BadWords place) next may same = absurd may
  command_among (BadScript line) next may same = absurd may
  command_among SiteFault next may same = absurd may
  command_among SinkFault next may same = absurd may
  command_among SourceFault next may same = absurd may
  command_among (Damaged file) next may same = absurd may

  line_among : (line : Line) → IsUnsynced line d.outcome → (d.outcome ≡ Memory → d.to.log ≡ read_here) → Contains (held_along read_here (reached_by line d ++ [])) read_here
  line_among Nothing is same = (0, omega arith, refl)
  line_among (As user) is same = (0, omega arith, refl)
  line_among (At moment) is same = (0, omega arith, refl)
  line_among (Do command) is same = command_among d.outcome d.to.log is same
  line_among (Put dir path text) is same = (0, omega arith, refl)
  line_among (Fill dir path count byte) is same = (0, omega arith, refl)
  line_among (Remove dir path) is same = (0, omega arith, refl)

  pub after_are : (base mid : DiskState) (held now logs : Logs) → (d.outcome ≡ Memory → d.to.log ≡ read_here) → KeptSoFar base mid held log done now
      → (NoneSynced (d ∷ []) × (logs ≡ now)) ⊎ ((l : Log) → Contains logs l → Contains (held_along read_here (reached (d ∷ []))) l)
      → (NoneSynced (done ++ d ∷ []) × (logs ≡ held)) ⊎ ((l : Log) → Contains logs l → Contains (held_along log (reached (done ++ d ∷ []))) l)
  after_are base mid held now logs same kept (inr some) = inr (λ l in_logs. subst (λ (ls : Logs). Contains ls l) (sym held_here) (some l in_logs))
  after_are base mid held now logs same (fresh none first is) (inl one) = inl (none_synced_more done d none one.0, one.1 ∙ is)
  after_are base mid held now logs same (since first is) (inl one) =
      let one_held : logs ≡ read_here ∷ [] = one.1 ∙ is ∙ held_last log (reached done) (none_fails manner done all) in
      inr (λ l in_logs. subst (λ (ls : Logs). Contains ls l) (sym held_here)
      (subst (λ (m : Log). Contains (held_along read_here (reached (d ∷ []))) m) (only_one StandsForLog by_files read_here l (subst (λ (ls : Logs). Contains ls l) one_held in_logs)) (line_among d.line one.0.0 same)))
