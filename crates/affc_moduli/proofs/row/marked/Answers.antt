use Rattle.std.proofs.Common.{pos, replicate}
use Rattle.affc_moduli.proofs.AskedLemmas.{done_either_way, same_coefs}
use Rattle.affc_moduli.proofs.row.marked.Goals as goal

pub returns-then-asked-clause-done : goal.returns-then-asked-clause-done
returns-then-asked-clause-done c = done_either_way c.args.asked.now c.in-Ok.modulus c.in_order-constant.result c.in_order-constant.ensures c.in-Ok.ensures.done

pub formed-requires-clause-done : goal.formed-requires-clause-done
formed-requires-clause-done c = done_either_way c.args.asked.now c.in-Ok.modulus c.in_order-constant.result c.in_order-constant.ensures c.in-Ok.ensures.done

pub formed-requires-clause-flat : goal.formed-requires-clause-flat
formed-requires-clause-flat c = same_coefs (replicate c.args.asked.now.given.context.now.columns (pos 0)) c.in-Ok.modulus c.in_order-constant.result c.in_order-constant.ensures c.in-Ok.ensures.flat
