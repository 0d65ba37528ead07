-- Calls keep what was released, in each log that their disk may hold, and in each image that a stop of them leaves.
use Rattle.std.proofs.Common.{◌∙◌, ap, List, [], arith}
use Rattle.ae_exec.specs.Holding.{HoldsLegal}
use Rattle.ae_laws.proofs.Lasting.{deltas-last, deltas-stay}
use Rattle.ae_log.specs.Baseline.{TreeFile}
use Rattle.ae_log.specs.Log.{Log, followed}
use Rattle.ae_log.specs.declared.event.Event.{Event}
use Rattle.ae_machine.specs.Released.{file_of}
use Rattle.ae_outside.specs.Image.{Image}
use Rattle.ae_script.specs.Follows.{IsLogged}
use Rattle.ae_script.specs.Lines.{Did, Stand}
use Rattle.ae_script.specs.Uses.{Disks, Sites, Streams}
use Rattle.ae_script.specs.declared.manner.Manner.{Manner}
use Rattle.ae_script.specs.declared.manner.Manner.TheVariants.{Plan}
use Rattle.ae_session.specs.Called.{start}
use Rattle.ae_calls.specs.Held.{AllHeld}
use Rattle.ae_calls.specs.Lasting.{BranchesKeepReleases, CallsKeepReleases, HasDeltas, KeepsDeltas, KeepsReleases, TrunksKeepReleases}
use Rattle.ae_calls.proofs.Lasting.{releases-stay}
use Rattle.ae_calls.proofs.Onward.{StandsSo, after-so, left-so}

module _ (earlier : Log) where
  keeps-more : (log : Log) (events : List Event) → KeepsDeltas earlier log → KeepsDeltas earlier (followed log events)
  keeps-more log events keeps = record {
    no_fewer = deltas-stay log events _ keeps.no_fewer;
    each = λ delta le.
        let was = keeps.each delta le in
        let now = deltas-last log events delta (omega (arith, le, keeps.no_fewer)) in
        record { files = now.files ∙ was.files; row = now.row ∙ was.row };
  }

  -- an image that stands for a legal log that keeps them has their bytes
  has-deltas : (image : Image) → StandsSo (KeepsDeltas earlier) image → HasDeltas earlier image
  has-deltas image left delta path file le found =
      let kept = left.so.each delta le in
      releases-stay image left.log [] left.legal left.stands delta path file (omega (arith, le, left.so.no_fewer)) (ap (λ (files : List TreeFile). file_of files path) kept.files ∙ found)

  module _ (d : Disks) (s : Sites) (manner : Manner) (from : Stand d s) (done : List (Did d s)) (disk : d.Disk) (held : List Log) (log : Log)
      (holds : HoldsLegal (d.state from.disk) held log) (keep : AllHeld (KeepsDeltas earlier) held log) (logged : IsLogged d s manner from done disk held log) where
    lines-keep : KeepsReleases earlier (d.state from.disk) (d.state disk) logged.holds.logs logged.holds.read
    lines-keep =
        let after = after-so (KeepsDeltas earlier) keeps-more d s manner from done disk held log holds keep logged in
        record {
          logs = record { read = after.read; each = after.each };
          images = λ u image since till at. has-deltas image (left-so (KeepsDeltas earlier) keeps-more d s manner from done disk held log holds keep logged u image since till at);
        }

pub calls-keep : (d : Disks) (s : Sites) (i o e : Streams) → CallsKeepReleases d s i o e
calls-keep d s i o e asked workspace streams result call seen shown earlier held log holds keep =
    lines-keep earlier d s call.manner (start asked workspace) call.done workspace.disk.new held log holds keep (call.logs seen shown held log holds)

pub trunks-keep : (d : Disks) (s : Sites) (b : Disks) (t : Sites) (e : Streams) → TrunksKeepReleases d s b t e
trunks-keep d s b t e words trunk branch trunk_disk trunk_site disk site err err_new result call seen shown earlier held log holds keep =
    lines-keep earlier d s Plan trunk call.on_trunk trunk_disk held log holds keep (call.trunk_logs seen shown held log holds)

pub branches-keep : (d : Disks) (s : Sites) (b : Disks) (t : Sites) (e : Streams) → BranchesKeepReleases d s b t e
branches-keep d s b t e words trunk branch trunk_disk trunk_site disk site err err_new result call seen shown earlier held log holds keep =
    lines-keep earlier b t Plan branch call.on_branch disk held log holds keep (call.branch_logs seen shown held log holds)
