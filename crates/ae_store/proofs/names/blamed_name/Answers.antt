use Rattle.std.proofs.Common.{◌≡◌, ℕ, ap, sym, ◌∙◌, Vec, Global}
use Rattle.ae_store.specs.Names.{blamed_file}
use Rattle.ae_store.proofs.names.blamed_name.Goals as goal
use Rattle.ae_store.proofs.names.blamed_name.Goals.{in-Project+in_ok-name-in-Project, in-Files+in_ok-name-in-Files, in-Change+in_ok-change_name-in-Change}

pub returns : goal.returns
returns c =
    let items = λ (v : Vec ℕ Global). v.items in
    let same : c.match-blame.name.items ≡ blamed_file c.args.blame = elim c.match-blame.branch [
      | in-Project+in_ok-name-in-Project w ↦ ap items w.name-is ∙ w.in_ok-name-in-Project.ensures.items ∙ w.as_bytes.ensures.value ∙ ap blamed_file (sym w.in-Project.is)
      | in-Files+in_ok-name-in-Files w ↦ ap items w.name-is ∙ w.in_ok-name-in-Files.ensures.items ∙ w.as_bytes-in-Files.ensures.value ∙ ap blamed_file (sym w.in-Files.is)
      | in-Change+in_ok-change_name-in-Change w ↦ ap items w.name-is ∙ ap items w.into_bytes-name.ensures.value ∙ w.in_ok-change_name-in-Change.ensures.value ∙ ap blamed_file (sym w.in-Change.is)
    ] in
    c.of.ensures ∙ same
