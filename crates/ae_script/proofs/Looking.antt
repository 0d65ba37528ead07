-- Lines that are done after nothing happened to a log.
use Rattle.std.specs.Prelude.{◌≡◌, ◌⊎◌, List, Contains}
use Rattle.std.proofs.Common.{inl, inr, ap, subst, arith}
use Rattle.std.proofs.lemmas.Bool.{cases_lt}
use Rattle.ae_outside.specs.State.{Continues, DiskState, reads}
use Rattle.ae_outside.specs.Time.{continues_then}
use Rattle.ae_log.specs.Log.{Log}
use Rattle.ae_exec.specs.Holding.{HoldsLegal}
use Rattle.ae_exec.specs.Performs.{LeavesDisk}
use Rattle.ae_exec.specs.Stands.{StandsForLog}
use Rattle.ae_exec.specs.Stops.{Leaves}
use Rattle.ae_exec.proofs.Leaving.{leaves_then}
use Rattle.ae_exec.proofs.Migrating.{stays_for}
use Rattle.ae_exec.proofs.Standing.{by_files, alike}
use Rattle.ae_script.specs.Follows.{IsLogged, LastFailed, LooksFollow, LooksStay, StaysAsItWas, StaysFollow}
use Rattle.ae_script.specs.Lines.{Stand}
use Rattle.ae_script.specs.Refined.{RefinedAlong, synced, unsynced}
use Rattle.ae_script.specs.Steps.{LineDone, Point, Runs, point, stop}
use Rattle.ae_script.specs.Uses.{Disks, Sites}

-- a look leaves what it finds
pub look_stays : (base disk : DiskState) → LeavesDisk base disk (Unit {0}) → StaysAsItWas base disk
look_stays base disk leaves = record {
  time = leaves.time;
  kept = leaves.kept tt;
  settled = leaves.settled;
  in_format = leaves.in_format;
  reads_on = λ log stands. stays_for (reads base) (reads disk) log (leaves.unchanged tt) stands;
}

pub stays_then : (base mid disk : DiskState) → StaysAsItWas base mid → StaysAsItWas mid disk → StaysAsItWas base disk
stays_then base mid disk first second = record {
  time = continues_then base mid disk first.time second.time;
  kept = λ held holds. let left = first.kept held holds in leaves_then StandsForLog by_files alike base mid disk held held (λ l among. among) second.time left (second.kept held left.holds);
  settled = λ was. second.settled (first.settled was);
  in_format = λ was agree. second.in_format (first.settled was) (first.in_format was agree);
  reads_on = λ log stands. second.reads_on log (first.reads_on log stands);
}

module _ (base mid disk : DiskState) (held : List Log) (log : Log) (stays : StaysAsItWas base mid) (was : HoldsLegal base held log) where
  first : Leaves StandsForLog base mid held
  first = stays.kept held was.holds.holds

  -- it holds the same
  pub stayed_holds : HoldsLegal mid held log
  stayed_holds = record {
    holds = record { holds = first.holds; in_format = stays.in_format was.holds.holds.settled was.holds.in_format; stands = stays.reads_on log was.holds.stands; legal = was.holds.legal };
    all = was.all;
  }

  stayed_along : (steps : List LineDone) → Continues mid disk → RefinedAlong mid disk held log steps → RefinedAlong base disk held log steps
  stayed_along steps time (unsynced none second) = unsynced none (leaves_then StandsForLog by_files alike base mid disk held held (λ l among. among) time first second)
  stayed_along steps time (synced since holds) = synced (record {
    synced = since.synced;
    after_start = let early = stays.time.later in let then = since.after_start in omega (arith, early, then);
    before_now = since.before_now;
    until = λ u f from till is. elim (cases_lt u mid.moment) [
      | inl before ↦ first.stops u f from (omega (arith, before)) (time.no_more u f (omega (arith, before)) is)
      | inr after ↦ since.until u f after till is
    ];
    since = since.since;
  }) holds

module _ (d : Disks) (s : Sites) where
  pub stays_follow : StaysFollow d s
  stays_follow manner from begun done disk stay seen follow held log was = go (follow held log (stayed_holds (d.state from.disk) (d.state begun.disk) (d.state disk) held log (stay.stays seen) was))
    where
      here : point begun.who begun.now log (s.state begun.site) ≡ point from.who from.now log (s.state from.site)
      here = ap (λ (p : Stand d s). point p.who p.now log (s.state p.site)) stay.same

      go : IsLogged d s manner begun done disk held log → IsLogged d s manner from done disk held log
      go so = record {
        steps = so.steps;
        are = so.are;
        runs = subst (λ (p : Point). Runs manner p so.steps) here so.runs;
        time = continues_then (d.state from.disk) (d.state begun.disk) (d.state disk) (stay.stays seen).time so.time;
        refined = stayed_along (d.state from.disk) (d.state begun.disk) (d.state disk) held log (stay.stays seen) was so.steps so.time so.refined;
        holds = so.holds;
        reads = subst (λ (p : Point). (so.holds.read ≡ (stop p so.steps).log) ⊎ (LastFailed so.steps × Contains so.holds.logs so.holds.read)) here so.reads;
      }

  pub looks_stay : LooksStay d s
  looks_stay from to look = record { same = look.same; later = look.later; stays = λ seen. look_stays (d.state from.disk) (d.state to.disk) (look.leaves seen) }

  pub looks_follow : LooksFollow d s
  looks_follow manner from begun done disk look seen follow = stays_follow manner from begun done disk (looks_stay from begun look) seen follow
