-- Acts that a plan may have may be done.
use Rattle.std.specs.Prelude.{All, List}
use Rattle.std.proofs.lemmas.List.Elements.{All-weaker}
use Rattle.ae_lines.specs.Acts.{MayBeDone, MayBePlanned}
use Rattle.ae_lines.specs.declared.act.Act.{Act}
use Rattle.ae_lines.specs.declared.act.Act.TheVariants.{Put, Run}

may_be_done : (item : Act) → MayBePlanned item → MayBeDone item
may_be_done (Run command) may = may.0
may_be_done (Put dir path text) may = tt

pub all_may_be_done : (acts : List Act) → All MayBePlanned acts → All MayBeDone acts
all_may_be_done acts all = All-weaker MayBePlanned MayBeDone may_be_done acts all
