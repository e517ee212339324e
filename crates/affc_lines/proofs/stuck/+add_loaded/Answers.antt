use Rattle.std.proofs.lemmas.Result.{on_ok_weaker}
use Rattle.affc_lines.proofs.Accesses.{both_loaded}
use Rattle.affc_lines.proofs.stuck.+add_loaded.Goals as goal

pub returns-in_ok-add_loaded-in-Bin : goal.returns-in_ok-add_loaded-in-Bin
returns-in_ok-add_loaded-in-Bin t c =
    on_ok_weaker c.add_loaded-in-Bin-2.result
    (both_loaded c.args.value.now c.in-Bin.op c.in-Bin.left c.in-Bin.right c.get-in-Bin.result.now c.get-in-Bin-2.result.now
    c.args.arrays.now.items c.add_loaded-in-Bin.new.arrays.items c.add_loaded-in-Bin-2.new.arrays.items
    c.in-Bin.is c.get-in-Bin.ensures c.get-in-Bin-2.ensures c.in_ok-add_loaded-in-Bin.ensures)
    c.add_loaded-in-Bin-2.ensures
