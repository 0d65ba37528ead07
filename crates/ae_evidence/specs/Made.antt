-- Runs as they are made: how they end, and how one follows another.
use Rattle.std.specs.Prelude.{◌≡◌, ◌<◌, List, [], ◌∷◌}
use Rattle.ae_outside.specs.declared.dir.Exit.{Exit}
use Rattle.ae_outside.specs.declared.dir.Exit.TheVariants.{Code, Signal}
use Rattle.ae_outside.specs.Site.{RunMade}
use Rattle.ae_outside.specs.Trees.{Tree}

-- the code with which a run ended, or the signal that ended it, is one byte
abbrev pub IsExit : Exit → Type 0
IsExit (Code code) = code < 256
IsExit (Signal signal) = signal < 256

-- one after another they lead from this tree to the one that is left: the first began on this tree, each other on the tree with
-- which the run before it ended, and the last ended with what is left
abbrev pub LeadTo : (left : Tree) → Tree → List RunMade → Type 0
LeadTo left tree [] = left ≡ tree
LeadTo left tree (made ∷ more) = (made.before ≡ tree) × LeadTo left made.after more
