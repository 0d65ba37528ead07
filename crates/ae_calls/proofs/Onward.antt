-- What stays so with each further event is so of each log that lines lead to, and of one for each image that a stop of them leaves.
use Rattle.std.proofs.Common.{◌≡◌, ◌⊎◌, inl, inr, ℕ, ◌≤◌, sym, subst, Bool, true, false, List, [], ◌∷◌, ◌++◌, arith}
use Rattle.std.specs.Prelude.{Contains}
use Rattle.std.proofs.lemmas.Bool.{cases_lt}
use Rattle.ae_base.specs.declared.outcome.Outcome.{Outcome}
use Rattle.ae_exec.specs.Holding.{HoldsLegal}
use Rattle.ae_exec.specs.Stands.{StandsForLog}
use Rattle.ae_exec.specs.Step.{log_after}
use Rattle.ae_exec.proofs.Shown.{in-list}
use Rattle.ae_lines.specs.declared.line.Line.{Line}
use Rattle.ae_lines.specs.declared.line.Line.TheVariants.{Nothing, As, At, Do, Put, Fill, Remove}
use Rattle.ae_log.specs.Log.{Log, followed}
use Rattle.ae_log.specs.declared.event.Event.{Event}
use Rattle.ae_machine.specs.Called.{Called, answer_after}
use Rattle.ae_machine.specs.Legal.{Legal}
use Rattle.ae_machine.specs.declared.verdict.Verdict.{Verdict}
use Rattle.ae_machine.specs.declared.verdict.Verdict.TheVariants.{Accept, Refuse}
use Rattle.ae_outside.specs.Image.{Image}
use Rattle.ae_outside.specs.State.{DiskState}
use Rattle.ae_script.specs.Along.{KeptAlong, held_along}
use Rattle.ae_script.specs.Follows.{IsLogged, LastFailed}
use Rattle.ae_script.specs.Lines.{Did, Stand}
use Rattle.ae_script.specs.Refined.{NoneSynced, RefinedAlong, synced, unsynced}
use Rattle.ae_script.specs.Steps.{CommandEnds, DoesLine, LineDone, Point, Runs, answered, disk_fault, memory, point, reached, reached_by, site_fault, stop}
use Rattle.ae_script.specs.Uses.{Disks, Sites}
use Rattle.ae_script.specs.declared.manner.Manner.{Manner}
use Rattle.ae_script.proofs.Runs as runs
use Rattle.ae_types.proofs.Members.{In}
use Rattle.ae_vault.specs.Kept.{StandsForOne}
use Rattle.ae_calls.specs.Held.{AllHeld}

-- the image stands for a legal log of which it is so
pub record StandsSo (P : Log → Type 0) (image : Image) : Type 0 where
  pub log : Log
  pub legal : Legal log
  pub so : P log
  pub stands : StandsForLog image log

module _ (P : Log → Type 0) (stays : (log : Log) (events : List Event) → P log → P (followed log events)) where
  -- a legal log of which it is so
  record IsGood (log : Log) : Type 0 where
    legal : Legal log
    so : P log

  abbrev Left : Image → Type 0
  Left image = StandsSo P image

  left-by : (image : Image) (log : Log) → IsGood log → StandsForLog image log → Left image
  left-by image log good stands = record { log = log; legal = good.legal; so = good.so; stands = stands }

  -- ---- a command

  after-answer : (log : Log) (answer : Verdict) → P log → P (log_after log answer)
  after-answer log (Accept events) so = stays log events so
  after-answer log (Refuse refusal) so = so

  after-command : (log next : Log) (called : Called) (outcome : Outcome) (said : List ℕ) → CommandEnds log called outcome next said → P log → P next
  after-command log _ called _ _ answered so = after-answer log (answer_after log called) so
  after-command log _ called _ _ disk_fault so = after-answer log (answer_after log called) so
  after-command log _ called _ _ site_fault so = so
  after-command log _ called _ _ memory so = so

  -- ---- lines

  abbrev AllGood : List (Bool × Log) → Type 0
  AllGood [] = Unit {0}
  AllGood ((fault, log) ∷ more) = IsGood log × AllGood more

  module _ (manner : Manner) where
    leads-on : (line : Line) (from : Point) (done : LineDone) → DoesLine manner line from done → IsGood from.log → IsGood done.to.log
    leads-on (Do command) from done does good = record { legal = does.legal; so = after-command from.log done.to.log _ done.outcome does.said does.ends good.so }
    leads-on Nothing from done does good = subst IsGood (runs.log_after manner Nothing from done does) good
    leads-on (As user) from done does good = subst IsGood (runs.log_after manner (As user) from done does) good
    leads-on (At moment) from done does good = subst IsGood (runs.log_after manner (At moment) from done does) good
    leads-on (Put dir path text) from done does good = subst IsGood (runs.log_after manner (Put dir path text) from done does) good
    leads-on (Fill dir path count byte) from done does good = subst IsGood (runs.log_after manner (Fill dir path count byte) from done does) good
    leads-on (Remove dir path) from done does good = subst IsGood (runs.log_after manner (Remove dir path) from done does) good

    reached-line : (line : Line) (done : LineDone) (more : List (Bool × Log)) → IsGood done.to.log → AllGood more → AllGood (reached_by line done ++ more)
    reached-line (Do command) done more good all = (good, all)
    reached-line Nothing done more good all = all
    reached-line (As user) done more good all = all
    reached-line (At moment) done more good all = all
    reached-line (Put dir path text) done more good all = all
    reached-line (Fill dir path count byte) done more good all = all
    reached-line (Remove dir path) done more good all = all

    all-reached : (from : Point) (done : List LineDone) → Runs manner from done → IsGood from.log → AllGood (reached done)
    all-reached from [] does good = tt
    all-reached from (done ∷ more) does good =
        let next = leads-on done.line from done does.0 good in
        reached-line done.line done (reached more) next (all-reached done.to more does.1 next)

    last-good : (from : Point) (done : List LineDone) → Runs manner from done → IsGood from.log → IsGood (stop from done).log
    last-good from [] does good = good
    last-good from (done ∷ more) does good = last-good done.to more does.1 (leads-on done.line from done does.0 good)

  -- ---- what they leave

  held-good : (log : Log) (lines : List (Bool × Log)) → IsGood log → AllGood lines → (l : Log) → In (held_along log lines) l → IsGood l
  held-good log [] good all l (inl is) = subst IsGood is good
  held-good log [] good all l (inr none) = absurd none
  held-good log ((true, next) ∷ more) good all l (inl is) = subst IsGood is good
  held-good log ((true, next) ∷ more) good all l (inr (inl is)) = subst IsGood is all.0
  held-good log ((true, next) ∷ more) good all l (inr (inr none)) = absurd none
  held-good log ((false, next) ∷ more) good all l there = held-good next more all.0 all.1 l there

  one-of-two : (image : Image) (log next : Log) → IsGood log → IsGood next → StandsForOne StandsForLog (log ∷ next ∷ []) image → Left image
  one-of-two image log next good later one = left-by image one.0 (go (in-list (log ∷ next ∷ []) one.0 one.1)) one.2
    where
      go : In (log ∷ next ∷ []) one.0 → IsGood one.0
      go (inl is) = subst IsGood is good
      go (inr (inl is)) = subst IsGood is later
      go (inr (inr none)) = absurd none

  module _ (disk : DiskState) (u : ℕ) (image : Image) (till : u ≤ disk.moment) (at : disk.image_at u image) where
    since-sync : (t : ℕ) → t ≤ u → (log : Log) (lines : List (Bool × Log)) → IsGood log → AllGood lines → KeptAlong StandsForLog disk t log lines → Left image
    since-sync t begun log [] good all kept = left-by image log good (kept.1 u image begun till at)
    since-sync t begun log ((true, next) ∷ more) good all kept = one-of-two image log next good all.0 (kept.1 u image begun till at)
    since-sync t begun log ((false, next) ∷ more) good all kept = elim (cases_lt u kept.0) [
      | inl early ↦ elim (kept.2 u image begun (omega (arith, early)) at) [ inl old ↦ left-by image log good old | inr new ↦ left-by image next all.0 new ]
      | inr late ↦ since-sync kept.0 late next more all.0 all.1 kept.3
    ]

  module _ (d : Disks) (s : Sites) (manner : Manner) (from : Stand d s) (done : List (Did d s)) (disk : d.Disk) (held : List Log) (log : Log)
      (holds : HoldsLegal (d.state from.disk) held log) (all-so : AllHeld P held log) (logged : IsLogged d s manner from done disk held log) where
    abbrev begins : Point
    begins = point from.who from.now log (s.state from.site)

    good : IsGood log
    good = record { legal = holds.holds.legal; so = all-so.read }

    of-held : (l : Log) → Contains held l → IsGood l
    of-held l there = record { legal = holds.all l there; so = all-so.each l there }

    one-held : (image : Image) → StandsForOne StandsForLog held image → Left image
    one-held image one = left-by image one.0 (of-held one.0 one.1) one.2

    all : AllGood (reached logged.steps)
    all = all-reached manner begins logged.steps logged.runs good

    after-each : (l : Log) → Contains logged.holds.logs l → IsGood l
    after-each l there = go logged.holds.are
      where
        go : (NoneSynced logged.steps × (logged.holds.logs ≡ held)) ⊎ ((l : Log) → Contains logged.holds.logs l → Contains (held_along log (reached logged.steps)) l) → IsGood l
        go (inl early) = of-held l (subst (λ (logs : List Log). Contains logs l) early.1 there)
        go (inr some) = held-good log (reached logged.steps) good all l (in-list (held_along log (reached logged.steps)) l (some l there))

    read-so : (logged.holds.read ≡ (stop begins logged.steps).log) ⊎ (LastFailed logged.steps × Contains logged.holds.logs logged.holds.read) → P logged.holds.read
    read-so (inl is) = subst P (sym is) (last-good manner begins logged.steps logged.runs good).so
    read-so (inr failed) = (after-each logged.holds.read failed.1).so

    -- it is so of what the disk holds after them,
    pub after-so : AllHeld P logged.holds.logs logged.holds.read
    after-so = record { read = read-so logged.reads; each = λ l there. (after-each l there).so }

    -- and of what a stop left since
    pub left-so : (u : ℕ) (image : Image) → (d.state from.disk).moment ≤ u → u ≤ (d.state disk).moment → (d.state disk).image_at u image → StandsSo P image
    left-so u image since till at = go logged.refined
      where
        go : RefinedAlong (d.state from.disk) (d.state disk) held log logged.steps → StandsSo P image
        go (unsynced early left) = one-held image (left.stops u image since till at)
        go (synced sync held_then) = elim (cases_lt u sync.synced) [
          | inl before ↦ one-held image (sync.until u image since (omega (arith, before)) at)
          | inr after ↦ since-sync (d.state disk) u image till at sync.synced after log (reached logged.steps) good all sync.since
        ]
