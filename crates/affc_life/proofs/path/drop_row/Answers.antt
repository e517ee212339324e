use Rattle.std.proofs.Common.{ap}
use Rattle.affc_quast.specs.declared.leaves.Leaf.{Leaf}
use Rattle.affc_life.proofs.PathLemmas.{taken, row_taken}
use Rattle.affc_life.proofs.path.drop_row.Goals as goal

pub returns : goal.returns
returns c = λ path row e.
    let old = c.args.path.now in
    let new = c.pop-row.new.self in
    row_taken old path row new e (taken old.rows new path.rows row c.pop-row.result c.pop-row.ensures (ap (λ (p : Leaf). p.rows) e))
