-- The lines so far and one more, on the disk.
use Rattle.std.specs.Prelude.{◌≡◌, ℕ, ◌≤◌, true, false, Bool, List, [], ◌∷◌, ◌++◌}
use Rattle.std.proofs.Common.{inl, inr, refl, sym, ap, subst, ◌∙◌, arith, append_assoc}
use Rattle.std.proofs.lemmas.Bool.{cases_lt}
use Rattle.std.proofs.lemmas.List.Elements.{Contains-append_left}
use Rattle.ae_base.specs.declared.outcome.Outcome.{Outcome}
use Rattle.ae_base.specs.declared.outcome.Outcome.TheVariants.{Done, RunFailed, Refused, BadWords, BadScript, DiskFault, SiteFault, SinkFault, SourceFault, Damaged, Memory}
use Rattle.ae_outside.specs.Image.{Image}
use Rattle.ae_outside.specs.State.{DiskState, Continues}
use Rattle.ae_lines.specs.declared.line.Line.{Line}
use Rattle.ae_lines.specs.declared.line.Line.TheVariants.{Nothing, As, At, Do, Put, Fill, Remove}
use Rattle.ae_vault.specs.Kept.{Holds, StandsForOne}
use Rattle.ae_log.specs.Log.{Log}
use Rattle.ae_exec.specs.Stands.{StandsForLog}
use Rattle.ae_exec.specs.Stops.{Leaves}
use Rattle.ae_exec.specs.Refined.{SinceSync, MayBeUnsynced}
use Rattle.ae_exec.proofs.Leaving.{leaves_then, leaves_more, holds_more}
use Rattle.ae_exec.proofs.Held.{only_one}
use Rattle.ae_exec.proofs.Standing.{alike, by_files}
use Rattle.ae_telling.specs.Telling.{goes_on}
use Rattle.ae_script.specs.Along.{KeptAlong, held_along, is_fault}
use Rattle.ae_script.specs.Manner.{is_done, leads_on}
use Rattle.ae_script.specs.Steps.{LineDone, AllLeadOn, reached, reached_by}
use Rattle.ae_script.specs.Refined.{RefinedAlong, unsynced, synced, NoneSynced, IsUnsynced}
use Rattle.ae_script.proofs.Stepping.{KeptSoFar, fresh, since}
use Rattle.ae_script.specs.declared.manner.Manner.{Manner}
use Rattle.ae_script.specs.declared.manner.Manner.TheVariants.{Plan, Script, Generator}
use Rattle.ae_script.proofs.Along.{NoneFails, last_log, held_last, held_more, kept_earlier, along_joins}

abbrev pub Logs : Type 0
Logs = List Log

-- ---- outcomes after which a next line is done

-- (of a line that is done)
done_goes : (outcome : Outcome) → is_done outcome ≡ true → goes_on outcome ≡ true
done_goes Done leads = refl
done_goes RunFailed leads = refl
done_goes (Refused refusal) leads = refl
done_goes (BadWords place) leads = leads
done_goes (BadScript line) leads = leads
done_goes DiskFault leads = leads
done_goes SiteFault leads = leads
done_goes SinkFault leads = leads
done_goes SourceFault leads = leads
done_goes (Damaged file) leads = leads
done_goes Memory leads = leads

-- in any manner a script goes on after them
pub leads_goes : (manner : Manner) (outcome : Outcome) → leads_on manner outcome ≡ true → goes_on outcome ≡ true
leads_goes Plan outcome leads = done_goes outcome leads
leads_goes Script outcome leads = leads
leads_goes Generator outcome leads = done_goes outcome leads

-- ---- lines, and one more

pub none_synced_more : (done : List LineDone) (d : LineDone) → NoneSynced done → NoneSynced (d ∷ []) → NoneSynced (done ++ d ∷ [])
none_synced_more [] d none last = last
none_synced_more (e ∷ more) d none last = (none.0, none_synced_more more d none.1 last)

pub reached_more : (done : List LineDone) (d : LineDone) → reached (done ++ d ∷ []) ≡ reached done ++ reached (d ∷ [])
reached_more [] d = refl
reached_more (e ∷ more) d = ap (λ (r : List (Bool × Log)). reached_by e.line e ++ r) (reached_more more d) ∙ sym (append_assoc (reached_by e.line e) (reached more) (reached (d ∷ [])))

-- a line that goes on wasn't failed by the disk
not_fault : (outcome : Outcome) → goes_on outcome ≡ true → is_fault outcome ≡ false
not_fault Done goes = refl
not_fault RunFailed goes = refl
not_fault (Refused refusal) goes = refl
not_fault (BadWords place) goes = refl
not_fault (BadScript line) goes = refl
not_fault DiskFault goes = absurd (let both : false ≡ true = goes in cc)
not_fault SiteFault goes = refl
not_fault SinkFault goes = refl
not_fault SourceFault goes = refl
not_fault (Damaged file) goes = refl
not_fault Memory goes = refl

none_fails_by : (outcome : Outcome) (log : Log) (more : List (Bool × Log)) → is_fault outcome ≡ false → NoneFails more → NoneFails ((is_fault outcome, log) ∷ more)
none_fails_by outcome log more is none = subst (λ (b : Bool). NoneFails ((b, log) ∷ more)) (sym is) none

none_fails_line : (line : Line) (d : LineDone) (more : List (Bool × Log)) → is_fault d.outcome ≡ false → NoneFails more → NoneFails (reached_by line d ++ more)
none_fails_line Nothing d more is rest = rest
none_fails_line (As user) d more is rest = rest
none_fails_line (At moment) d more is rest = rest
none_fails_line (Do command) d more is rest = none_fails_by d.outcome d.to.log more is rest
none_fails_line (Put dir path text) d more is rest = rest
none_fails_line (Fill dir path count byte) d more is rest = rest
none_fails_line (Remove dir path) d more is rest = rest

-- lines that go on weren't failed
pub none_fails : (manner : Manner) (done : List LineDone) → AllLeadOn manner done → NoneFails (reached done)
none_fails manner [] all = tt
none_fails manner (d ∷ more) all = none_fails_line d.line d (reached more) (not_fault d.outcome (leads_goes manner d.outcome all.0)) (none_fails manner more all.1)

-- a command that goes on has synced the gate
not_unsynced : (outcome : Outcome) → goes_on outcome ≡ true → MayBeUnsynced outcome → ⊥
not_unsynced DiskFault goes may = absurd (let both : false ≡ true = goes in cc)
not_unsynced Memory goes may = absurd (let both : false ≡ true = goes in cc)
not_unsynced Done goes may = may
not_unsynced RunFailed goes may = may
not_unsynced (Refused refusal) goes may = may
not_unsynced (BadWords place) goes may = may
not_unsynced (BadScript line) goes may = may
not_unsynced SiteFault goes may = may
not_unsynced SinkFault goes may = may
not_unsynced SourceFault goes may = may
not_unsynced (Damaged file) goes may = may

none_reached_line : (line : Line) (d : LineDone) (more : List (Bool × Log)) → goes_on d.outcome ≡ true → IsUnsynced line d.outcome → more ≡ [] → reached_by line d ++ more ≡ []
none_reached_line Nothing d more goes is rest = rest
none_reached_line (As user) d more goes is rest = rest
none_reached_line (At moment) d more goes is rest = rest
none_reached_line (Do command) d more goes is rest = absurd (not_unsynced d.outcome goes is)
none_reached_line (Put dir path text) d more goes is rest = rest
none_reached_line (Fill dir path count byte) d more goes is rest = rest
none_reached_line (Remove dir path) d more goes is rest = rest

-- lines that go on without one are no commands
pub none_reached : (manner : Manner) (done : List LineDone) → AllLeadOn manner done → NoneSynced done → reached done ≡ []
none_reached manner [] all none = refl
none_reached manner (d ∷ more) all none = none_reached_line d.line d (reached more) (leads_goes manner d.outcome all.0) none.0 (none_reached manner more all.1 none.1)

pub go_more : (manner : Manner) (done : List LineDone) (d : LineDone) → AllLeadOn manner done → leads_on manner d.outcome ≡ true → AllLeadOn manner (done ++ d ∷ [])
go_more manner [] d all goes = (goes, tt)
go_more manner (e ∷ more) d all goes = (all.0, go_more manner more d all.1 goes)

-- what stands for the one of a list of one
pub stands_for : (log : Log) (f : Image) → StandsForOne StandsForLog (log ∷ []) f → StandsForLog f log
stands_for log f stood = subst (λ (l : Log). StandsForLog f l) (sym (only_one StandsForLog by_files log stood.0 stood.1)) stood.2

module _ (manner : Manner) (base mid disk : DiskState) (held : Logs) (log : Log) (done : List LineDone) (d : LineDone) (time : Continues mid disk) (all : AllLeadOn manner done) where
  -- the log that is read after the lines so far
  abbrev here : Log
  here = last_log log (reached done)

  -- ---- where no command has synced the gate so far

  both_fresh : Leaves StandsForLog base mid held → Leaves StandsForLog mid disk held → Leaves StandsForLog base disk held
  both_fresh first second = leaves_then StandsForLog by_files alike base mid disk held held (λ l in_all. in_all) time first second

  fresh_since : (lines : List (Bool × Log)) → base.moment ≤ mid.moment → Leaves StandsForLog base mid held → SinceSync StandsForLog mid disk held (λ (s : ℕ). KeptAlong StandsForLog disk s log lines)
      → SinceSync StandsForLog base disk held (λ (s : ℕ). KeptAlong StandsForLog disk s log lines)
  fresh_since lines early first second = record {
    synced = second.synced;
    after_start = omega (arith, early, second.after_start);
    before_now = second.before_now;
    until = λ u f from till is. elim (cases_lt u mid.moment) [
      | inl before ↦ first.stops u f from (omega (arith, before)) (time.no_more u f (omega (arith, before)) is)
      | inr after ↦ second.until u f after till is
    ];
    since = second.since;
  }

  -- ---- where one has

  -- what the line did is kept since the line began
  line_kept : SinceSync StandsForLog mid disk (here ∷ []) (λ (s : ℕ). KeptAlong StandsForLog disk s here (reached (d ∷ []))) → KeptAlong StandsForLog disk mid.moment here (reached (d ∷ []))
  line_kept second =
      kept_earlier StandsForLog disk mid.moment second.synced here (reached (d ∷ [])) second.after_start
      (λ u f from till is. stands_for here f (second.until u f from till is)) second.since

  since_more : SinceSync StandsForLog base mid held (λ (s : ℕ). KeptAlong StandsForLog mid s log (reached done)) → KeptAlong StandsForLog disk mid.moment here (reached (d ∷ []))
      → SinceSync StandsForLog base disk held (λ (s : ℕ). KeptAlong StandsForLog disk s log (reached (done ++ d ∷ [])))
  since_more first second = record {
    synced = first.synced;
    after_start = first.after_start;
    before_now = omega (arith, first.before_now, time.later);
    until = λ u f from till is. first.until u f from till (time.no_more u f (omega (arith, till, first.before_now)) is);
    since = subst (λ (r : List (Bool × Log)). KeptAlong StandsForLog disk first.synced log r) (sym (reached_more done d))
        (along_joins StandsForLog mid disk first.synced log (reached done) (reached (d ∷ [])) time (none_fails manner done all) first.since second);
  }

  held_so : held_along log (reached (done ++ d ∷ [])) ≡ held_along here (reached (d ∷ []))
  held_so = ap (held_along log) (reached_more done d) ∙ held_more log (reached done) (reached (d ∷ [])) (none_fails manner done all)

  still_kept : Leaves StandsForLog mid disk (here ∷ []) → KeptAlong StandsForLog disk mid.moment here []
  still_kept left = (time.later, λ u f from till is. stands_for here f (left.stops u f from till is))

  -- a command that came before the gate was synced anew
  command_kept : (outcome : Outcome) (next : Log) → MayBeUnsynced outcome → (outcome ≡ Memory → next ≡ here) → Leaves StandsForLog mid disk (here ∷ [])
      → KeptAlong StandsForLog disk mid.moment here ((is_fault outcome, next) ∷ []) × Holds StandsForLog disk (held_along here ((is_fault outcome, next) ∷ []))
  command_kept DiskFault next may same left = (
    (time.later, (leaves_more StandsForLog by_files alike mid disk (here ∷ []) (here ∷ next ∷ []) (λ l in_one. Contains-append_left (here ∷ []) (next ∷ []) l in_one) left).stops),
    holds_more StandsForLog by_files alike disk (here ∷ []) (here ∷ next ∷ []) (λ l in_one. Contains-append_left (here ∷ []) (next ∷ []) l in_one) left.holds,
  )
  command_kept Memory next may same left = (
    (disk.moment, time.later, (λ u f from till is. inl (stands_for here f (left.stops u f from till is))), (omega arith, now)),
    subst (λ (l : Log). Holds StandsForLog disk (l ∷ [])) (sym (same refl)) left.holds,
  )
    where
      now : (u : ℕ) (f : Image) → disk.moment ≤ u → u ≤ disk.moment → disk.image_at u f → StandsForLog f next
      now u f from till is = subst (λ (l : Log). StandsForLog f l) (sym (same refl)) (stands_for here f (left.stops u f (omega (arith, from, time.later)) till is))
  command_kept Done next may same left = absurd may
  command_kept RunFailed next may same left = absurd may
  command_kept (Refused refusal) next may same left = absurd may
  command_kept (BadWords place) next may same left = absurd may
  command_kept (BadScript line) next may same left = absurd may
  command_kept SiteFault next may same left = absurd may
  command_kept SinkFault next may same left = absurd may
  command_kept SourceFault next may same left = absurd may
  command_kept (Damaged file) next may same left = absurd may

  -- any line that did
  unsynced_kept : (line : Line) → IsUnsynced line d.outcome → (d.outcome ≡ Memory → d.to.log ≡ here) → Leaves StandsForLog mid disk (here ∷ [])
      → KeptAlong StandsForLog disk mid.moment here (reached_by line d ++ []) × Holds StandsForLog disk (held_along here (reached_by line d ++ []))
  unsynced_kept Nothing is same left = (still_kept left, left.holds)
  unsynced_kept (As user) is same left = (still_kept left, left.holds)
  unsynced_kept (At moment) is same left = (still_kept left, left.holds)
  unsynced_kept (Do command) is same left = command_kept d.outcome d.to.log is same left
  unsynced_kept (Put dir path text) is same left = (still_kept left, left.holds)
  unsynced_kept (Fill dir path count byte) is same left = (still_kept left, left.holds)
  unsynced_kept (Remove dir path) is same left = (still_kept left, left.holds)

  -- ---- the lines so far and one more, after which the script ends or not

  pub refined_more : (now : Logs) → (d.outcome ≡ Memory → d.to.log ≡ here) → base.moment ≤ mid.moment → KeptSoFar base mid held log done now
      → RefinedAlong mid disk now here (d ∷ []) → RefinedAlong base disk held log (done ++ d ∷ [])
  refined_more now same early (fresh none first is) (unsynced last second) =
      unsynced (none_synced_more done d none last) (both_fresh first (subst (λ (l : Logs). Leaves StandsForLog mid disk l) is second))
  refined_more now same early (fresh none first is) (synced second holds) =
      let nothing : reached done ≡ [] = none_reached manner done all none in
      let log_here : here ≡ log = ap (last_log log) nothing in
      let lines : reached (done ++ d ∷ []) ≡ reached (d ∷ []) = reached_more done d ∙ ap (λ (r : List (Bool × Log)). r ++ reached (d ∷ [])) nothing in
      synced
      (subst (λ (r : List (Bool × Log)). SinceSync StandsForLog base disk held (λ (s : ℕ). KeptAlong StandsForLog disk s log r)) (sym lines)
      (fresh_since (reached (d ∷ [])) early first (subst (λ (l : Logs). SinceSync StandsForLog mid disk l (λ (s : ℕ). KeptAlong StandsForLog disk s log (reached (d ∷ [])))) is
      (subst (λ (l : Log). SinceSync StandsForLog mid disk now (λ (s : ℕ). KeptAlong StandsForLog disk s l (reached (d ∷ [])))) log_here second))))
      (subst (λ (l : Logs). Holds StandsForLog disk l) (sym held_so) holds)
  refined_more now same early (since first is) (unsynced last second) =
      let one_held : now ≡ here ∷ [] = is ∙ held_last log (reached done) (none_fails manner done all) in
      let kept = unsynced_kept d.line last.0 same (subst (λ (l : Logs). Leaves StandsForLog mid disk l) one_held second) in
      synced (since_more first kept.0) (subst (λ (l : Logs). Holds StandsForLog disk l) (sym held_so) kept.1)
  refined_more now same early (since first is) (synced second holds) =
      let one_held : now ≡ here ∷ [] = is ∙ held_last log (reached done) (none_fails manner done all) in
      synced
      (since_more first (line_kept (subst (λ (l : Logs). SinceSync StandsForLog mid disk l (λ (s : ℕ). KeptAlong StandsForLog disk s here (reached (d ∷ [])))) one_held second)))
      (subst (λ (l : Logs). Holds StandsForLog disk l) (sym held_so) holds)

  -- where it goes on, and the disk then holds one of these
  pub kept_more : (now later : Logs) → leads_on manner d.outcome ≡ true → base.moment ≤ mid.moment → KeptSoFar base mid held log done now
      → KeptSoFar mid disk now here (d ∷ []) later → KeptSoFar base disk held log (done ++ d ∷ []) later
  kept_more now later goes early (fresh none first is) (fresh last second so) =
      fresh (none_synced_more done d none last) (both_fresh first (subst (λ (l : Logs). Leaves StandsForLog mid disk l) is second)) (so ∙ is)
  kept_more now later goes early (fresh none first is) (since second so) =
      let nothing : reached done ≡ [] = none_reached manner done all none in
      let log_here : here ≡ log = ap (last_log log) nothing in
      let lines : reached (done ++ d ∷ []) ≡ reached (d ∷ []) = reached_more done d ∙ ap (λ (r : List (Bool × Log)). r ++ reached (d ∷ [])) nothing in
      since
      (subst (λ (r : List (Bool × Log)). SinceSync StandsForLog base disk held (λ (s : ℕ). KeptAlong StandsForLog disk s log r)) (sym lines)
      (fresh_since (reached (d ∷ [])) early first (subst (λ (l : Logs). SinceSync StandsForLog mid disk l (λ (s : ℕ). KeptAlong StandsForLog disk s log (reached (d ∷ [])))) is
      (subst (λ (l : Log). SinceSync StandsForLog mid disk now (λ (s : ℕ). KeptAlong StandsForLog disk s l (reached (d ∷ [])))) log_here second))))
      (so ∙ sym held_so)
  kept_more now later goes early (since first is) (fresh last second so) =
      let one_held : now ≡ here ∷ [] = is ∙ held_last log (reached done) (none_fails manner done all) in
      let none : reached (d ∷ []) ≡ [] = none_reached manner (d ∷ []) (goes, tt) last in
      since
      (since_more first (subst (λ (r : List (Bool × Log)). KeptAlong StandsForLog disk mid.moment here r) (sym none) (still_kept (subst (λ (l : Logs). Leaves StandsForLog mid disk l) one_held second))))
      (so ∙ one_held ∙ ap (held_along here) (sym none) ∙ sym held_so)
  kept_more now later goes early (since first is) (since second so) =
      let one_held : now ≡ here ∷ [] = is ∙ held_last log (reached done) (none_fails manner done all) in
      since
      (since_more first (line_kept (subst (λ (l : Logs). SinceSync StandsForLog mid disk l (λ (s : ℕ). KeptAlong StandsForLog disk s here (reached (d ∷ [])))) one_held second)))
      (so ∙ sym held_so)

-- once the lines are done
pub refined_all : (base disk : DiskState) (held now : Logs) (log : Log) (done : List LineDone) → KeptSoFar base disk held log done now → Holds StandsForLog disk now → RefinedAlong base disk held log done
refined_all base disk held now log done (fresh none left is) holds = unsynced none left
refined_all base disk held now log done (since kept is) holds = synced kept (subst (λ (l : Logs). Holds StandsForLog disk l) is holds)
