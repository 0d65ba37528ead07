-- What two commands leave, one after the other.
use Rattle.std.specs.Prelude.{◌≡◌, ◌⊎◌, ℕ, List, [], ◌∷◌}
use Rattle.std.proofs.Common.{refl, subst, inl, inr, arith}
use Rattle.std.proofs.lemmas.Bool.{cases_lt}
use Rattle.ae_base.specs.declared.outcome.Outcome.{Outcome}
use Rattle.ae_base.specs.declared.outcome.Outcome.TheVariants.{Done, RunFailed, Refused, BadWords, BadScript, DiskFault, SiteFault, SinkFault, SourceFault, Damaged, Memory}
use Rattle.ae_outside.specs.Image.{Image}
use Rattle.ae_outside.specs.State.{DiskState}
use Rattle.ae_types.proofs.Members.{In}
use Rattle.ae_vault.specs.Kept.{Kept, StandsForOne}
use Rattle.ae_log.specs.Log.{Log}
use Rattle.ae_machine.specs.Called.{Called}
use Rattle.ae_exec.specs.Holding.{IsCarriedTo}
use Rattle.ae_exec.specs.Joining.{TwoCommands}
use Rattle.ae_exec.specs.Refined.{KeptBy, MayBeUnsynced, Refined, held_by, synced, unsynced}
use Rattle.ae_exec.specs.Stands.{StandsForLog}
use Rattle.ae_exec.specs.Step.{step}
use Rattle.ae_exec.specs.Stops.{StopsBetween}
use Rattle.ae_exec.proofs.Shown.{in-list, list-in}

-- what stands for one of some logs stands for one of more
among : (logs more : List Log) (f : Image) → ((l : Log) → In logs l → In more l) → StandsForOne StandsForLog logs f → StandsForOne StandsForLog more f
among logs more f each stood = (stood.0, list-in more stood.0 (each stood.0 (in-list logs stood.0 stood.1)), stood.2)

first-of : (log next : Log) (f : Image) → StandsForLog f log → StandsForOne StandsForLog (log ∷ next ∷ []) f
first-of log next f stands = (log, list-in (log ∷ next ∷ []) log (inl refl), stands)

second-of : (log next : Log) (f : Image) → StandsForLog f next → StandsForOne StandsForLog (log ∷ next ∷ []) f
second-of log next f stands = (next, list-in (log ∷ next ∷ []) next (inr (inl refl)), stands)

-- ---- one command

module _ (disk : DiskState) (log next : Log) (s : ℕ) where
  alone : Kept StandsForLog disk s log [] → StopsBetween StandsForLog disk s disk.moment (log ∷ next ∷ [])
  alone kept u f from till is = first-of log next f (kept.1 u f from till is)

  both : Kept StandsForLog disk s log (next ∷ []) → StopsBetween StandsForLog disk s disk.moment (log ∷ next ∷ [])
  both kept u f from till is = elim (cases_lt u kept.0) [
    | inl before ↦ elim (kept.2 u f from (omega (arith, before)) is) [ inl old ↦ first-of log next f old | inr new ↦ second-of log next f new ]
    | inr after ↦ second-of log next f (kept.3.1 u f after till is)
  ]

  kept-stops : (outcome : Outcome) → KeptBy StandsForLog disk log next outcome s → StopsBetween StandsForLog disk s disk.moment (log ∷ next ∷ [])
  kept-stops Done kept = both kept
  kept-stops SinkFault kept = both kept
  kept-stops DiskFault kept = kept
  kept-stops RunFailed kept = both kept
  kept-stops (Refused refusal) kept = alone kept
  kept-stops (BadWords place) kept = alone kept
  kept-stops (BadScript line) kept = alone kept
  kept-stops SiteFault kept = alone kept
  kept-stops SourceFault kept = alone kept
  kept-stops (Damaged name) kept = alone kept
  kept-stops Memory kept = alone kept

-- whatever is left stands for a log that was held, for the one that was read, or for the next
refined-stops : (base disk : DiskState) (held : List Log) (log next : Log) (outcome : Outcome) (more : List Log) → ((l : Log) → In held l → In more l) → ((l : Log) → In (log ∷ next ∷ []) l → In more l)
    → Refined StandsForLog base disk held log next outcome → StopsBetween StandsForLog disk base.moment disk.moment more
refined-stops base disk held log next outcome more of_held of_two (unsynced early left) u f from till is = among held more f of_held (left.stops u f from till is)
refined-stops base disk held log next outcome more of_held of_two (synced since holds) u f from till is = elim (cases_lt u since.synced) [
  | inl before ↦ among held more f of_held (since.until u f from (omega (arith, before)) is)
  | inr after ↦ among (log ∷ next ∷ []) more f of_two (kept-stops disk log next since.synced outcome since.since u f after till is)
]

held-in : (log next : Log) (outcome : Outcome) (l : Log) → In (held_by StandsForLog log next outcome) l → In (log ∷ next ∷ []) l
held-in log next Done l h = inr h
held-in log next SinkFault l h = inr h
held-in log next DiskFault l h = h
held-in log next RunFailed l h = inr h
held-in log next (Refused refusal) l (inl is) = inl is
held-in log next (BadWords place) l (inl is) = inl is
held-in log next (BadScript line) l (inl is) = inl is
held-in log next SiteFault l (inl is) = inl is
held-in log next SourceFault l (inl is) = inl is
held-in log next (Damaged name) l (inl is) = inl is
held-in log next Memory l (inl is) = inl is
held-in log next (Refused refusal) l (inr h) = absurd h
held-in log next (BadWords place) l (inr h) = absurd h
held-in log next (BadScript line) l (inr h) = absurd h
held-in log next SiteFault l (inr h) = absurd h
held-in log next SourceFault l (inr h) = absurd h
held-in log next (Damaged name) l (inr h) = absurd h
held-in log next Memory l (inr h) = absurd h

one-in : (log next l : Log) → In (log ∷ []) l → In (log ∷ next ∷ []) l
one-in log next l (inl is) = inl is
one-in log next l (inr h) = absurd h

-- the logs of which one is held after a command are those two
carried-in : (disk : DiskState) (log : Log) (called : Called) (outcome : Outcome) (c : IsCarriedTo disk (log ∷ []) log called outcome) (l : Log) → In c.logs l → In (log ∷ step log called ∷ []) l
carried-in disk log called outcome c l h = go c.are
  where
    go : (MayBeUnsynced outcome × (c.logs ≡ log ∷ [])) ⊎ (c.logs ≡ held_by StandsForLog log (step log called) outcome) → In (log ∷ step log called ∷ []) l
    go (inl early) = one-in log (step log called) l (subst (λ (logs : List Log). In logs l) early.1 h)
    go (inr is) = held-in log (step log called) outcome l (subst (λ (logs : List Log). In logs l) is h)

-- ---- two

pub two-commands : (base mid disk : DiskState) → TwoCommands base mid disk
two-commands base mid disk log first second one two was may performs time later then = record {
  read = c.read;
  among = list-in (log ∷ next ∷ []) c.read (carried-in mid log first one c c.read (in-list c.logs c.read c.among));
  stops = stops;
}
  where
    next : Log
    next = step log first

    c : IsCarriedTo mid (log ∷ []) log first one
    c = performs.carried may (log ∷ []) log was

    last : Log
    last = step c.read second

    more : (l : Log) → In (log ∷ next ∷ []) l → In (log ∷ next ∷ last ∷ []) l
    more l (inl is) = inl is
    more l (inr (inl is)) = inr (inl is)
    more l (inr (inr h)) = absurd h

    of_second : (l : Log) → In (c.read ∷ last ∷ []) l → In (log ∷ next ∷ last ∷ []) l
    of_second l (inl is) = more l (carried-in mid log first one c l (subst (In c.logs) is (in-list c.logs c.read c.among)))
    of_second l (inr (inl is)) = inr (inr (inl is))
    of_second l (inr (inr h)) = absurd h

    stops : StopsBetween StandsForLog disk base.moment disk.moment (log ∷ next ∷ last ∷ [])
    stops u f from till is = elim (cases_lt u mid.moment) [
      | inl before ↦ refined-stops base mid (log ∷ []) log next one (log ∷ next ∷ last ∷ []) (λ l h. more l (one-in log next l h)) more (performs.refined (log ∷ []) log was.holds)
          u f from (omega (arith, before)) (later.no_more u f (omega (arith, before)) is)
      | inr after ↦ refined-stops mid disk c.logs c.read last two (log ∷ next ∷ last ∷ []) (λ l h. more l (carried-in mid log first one c l h)) of_second (then.refined c.logs c.read c.holds.holds)
          u f after till is
    ]
