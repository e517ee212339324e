use Rattle.affc_cli.proofs.Putting.{pieces_end}
use Rattle.affc_cli.proofs.writing.end.Goals as goal

pub returns-in-Ok-clause-ends : goal.returns-in-Ok-clause-ends
returns-in-Ok-clause-ends g c =
    pieces_end c.args.made c.in-Ok.pieces c.args.name.now c.as_slice.result.now c.as_slice-in-Ok.result.now _ _ _ _ c.put_pieces.result c.in-Ok.is c.as_slice.ensures.value c.as_slice-in-Ok.ensures.value
    c.put_pieces.ensures.puts
