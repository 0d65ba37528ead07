-- What contracts see of a site in memory.
use Rattle.std.specs.Prelude.{List, map}
use Rattle.ae_memory.specs.Calls.{Counts}
use Rattle.ae_outside.specs.Trees.{no_files, with_rows}
use Rattle.ae_outside.specs.Site.{RunMade, SiteState}
use Rattle.ae_memory.specs.FileRows.{tree_of}
use Rattle.ae_memory.specs.declared.site.MemSite.{MemSite}
use Rattle.ae_memory.specs.declared.site_run.MemRun.{MemRun}
use Rattle.ae_memory.specs.declared.site_run.RunDone.{RunDone}

-- a run with the trees that its snapshots show, and with those of the files that it found and left
abbrev pub made_of : RunDone → RunMade
made_of run = record {
  dir = run.dir;
  command = run.command;
  exit = run.exit;
  before = with_rows run.before no_files;
  after = with_rows run.after no_files;
  found = tree_of run.found.items;
  left = tree_of run.left.items;
}

-- its directories and runs
abbrev pub state_of : MemSite → SiteState
state_of site = record { trees = tree_of site.files.items; runs = map made_of site.done }

-- the answers of its runs
abbrev pub script_of : MemSite → List MemRun
script_of site = site.script

-- its runs as they are listed
abbrev pub done_of : MemSite → List RunDone
done_of site = site.done

-- its calls
abbrev pub counts_of : MemSite → Counts
counts_of site = site.calls
