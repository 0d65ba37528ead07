-- The disk, once a made-up project was read from it.
use Rattle.std.specs.Prelude.{Bool}
use Rattle.std.proofs.Common.{◌≡◌, List, [], ◌∷◌, append-nil, subst, arith}
use Rattle.ae_outside.specs.State.{DiskState, reads}
use Rattle.ae_vault.specs.Kept.{StandsForOne}
use Rattle.ae_log.specs.Log.{Log}
use Rattle.ae_exec.specs.Holding.{HoldsLegal}
use Rattle.ae_exec.specs.Performs.{LeavesDisk}
use Rattle.ae_exec.specs.Stands.{StandsForLog}
use Rattle.ae_exec.specs.Stops.{Leaves}
use Rattle.ae_exec.proofs.Leaving.{leaves_then}
use Rattle.ae_exec.proofs.Migrating.{stays_for}
use Rattle.ae_exec.proofs.Standing.{by_files, alike}
use Rattle.ae_script.specs.Along.{KeptAlong, held_along}
use Rattle.ae_script.specs.Refined.{HoldsAfter, RefinedAlong, unsynced, synced}
use Rattle.ae_script.specs.Steps.{LineDone, AllLeadOn, reached}
use Rattle.ae_script.specs.declared.manner.Manner.TheVariants.{Generator}
use Rattle.ae_script.proofs.Along.{along_joins, held_last, last_log}
use Rattle.ae_script.proofs.Following.{none_fails, stands_for}

module _ (base mid disk : DiskState) (held : List Log) (log : Log) (done : List LineDone) (leaves : LeavesDisk mid disk (Unit {0})) where
  pub loaded_along : AllLeadOn Generator done → RefinedAlong base mid held log done → RefinedAlong base disk held log done
  loaded_along lead (unsynced none left) =
      unsynced none (leaves_then StandsForLog by_files alike base mid disk held held (λ l among. among) leaves.time left (leaves.kept tt held left.holds))
  loaded_along lead (synced since holds) = synced (record {
    synced = since.synced;
    after_start = since.after_start;
    before_now = omega (arith, since.before_now, leaves.time.later);
    until = λ u f from till is. since.until u f from till (leaves.time.no_more u f (omega (arith, till, since.before_now)) is);
    since = subst (λ (lines : List (Bool × Log)). KeptAlong StandsForLog disk since.synced log lines) (append-nil (reached done))
        (along_joins StandsForLog mid disk since.synced log (reached done) [] leaves.time (none_fails Generator done lead) since.since kept);
  }) left.holds
    where
      left : Leaves StandsForLog mid disk (held_along log (reached done))
      left = leaves.kept tt (held_along log (reached done)) holds

      last : held_along log (reached done) ≡ last_log log (reached done) ∷ []
      last = held_last log (reached done) (none_fails Generator done lead)

      kept : KeptAlong StandsForLog disk mid.moment (last_log log (reached done)) []
      kept = (
        leaves.time.later,
        λ u f from till is. stands_for (last_log log (reached done)) f (subst (λ (logs : List Log). StandsForOne StandsForLog logs f) last (left.stops u f from till is)),
      )

  pub loaded_legal : (logs : List Log) (last : Log) → HoldsLegal mid logs last → HoldsLegal disk logs last
  loaded_legal logs last h = record {
    holds = record {
      holds = (leaves.kept tt logs h.holds.holds).holds;
      in_format = leaves.in_format h.holds.holds.settled h.holds.in_format;
      stands = stays_for (reads mid) (reads disk) last (leaves.unchanged tt) h.holds.stands;
      legal = h.holds.legal;
    };
    all = h.all;
  }

  abbrev pub loaded_holds : HoldsAfter mid held log done → HoldsAfter disk held log done
  loaded_holds h = record { logs = h.logs; are = h.are; read = h.read; holds = loaded_legal h.logs h.read h.holds; provided = h.provided }
