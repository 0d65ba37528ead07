use Rattle.ae_text.specs.View.{fields_seen, node}
use Rattle.ae_text.proofs.Names.{names_more}
use Rattle.ae_text.proofs.open_fields.OpenFields.with.Goals as goal

pub invariant_of-result : goal.invariant_of-result
invariant_of-result c = record {
  names_are =
      names_more c.args.self.names c.insert.new.self (fields_seen c.args.self.fields.items) (fields_seen c.in_ok-fields.fields.items) c.in_ok-copy.field-0 c.args.name (node c.args.value)
      c.args.self.names_are c.in_ok-copy.ensures c.in_ok-insert.ensures.updates.0 c.in_ok-fields.ensures;
}
