use Rattle.ae_schema.specs.Spelled.{list_of}
use Rattle.ae_schema.proofs.Put.{line_by_pieces}
use Rattle.ae_schema.proofs.lists.put_list_line.Goals as goal

pub returns-clause-put : goal.returns-clause-put
returns-clause-put g c =
    line_by_pieces c.args.out.now.items _ _ _ _ c.args.name.now (list_of g.T.Decode.spelled c.args.rows.now)
    c.in_ok-extend_from_slice.ensures.items c.in_ok-extend_from_slice-2.ensures.items c.in_ok-put_list.ensures.text c.in_ok-extend_from_slice-3.ensures.items
    c.in_ok-put_list.ensures.types
