use Rattle.std.proofs.Common.{ap, sym, ◌∙◌}
use Rattle.ae_outside.specs.declared.dir.Content.{Content}
use Rattle.ae_outside.specs.TreeLaws.{with_file_same}
use Rattle.ae_dirs.specs.Reads.{is_content}
use Rattle.ae_dirs.proofs.ReadFiles.{read_is}
use Rattle.ae_dirs.proofs.filling.put_again.Goals as goal

pub returns-then-holds-clause-put : goal.returns-then-holds-clause-put
returns-then-holds-clause-put g c = λ tells.
    let is = read_is _ _ _ (ap (λ (content : Content). is_content content c.args.bytes.now) (sym (c.in_ok-content.ensures.content tells)) ∙ sym c.holds.ensures ∙ c.if-holds.true) in
    ap (λ state. state.trees c.args.dir.now) (c.read.ensures.same tells) ∙ sym (with_file_same c.args.path.now c.args.bytes.now _ is)
