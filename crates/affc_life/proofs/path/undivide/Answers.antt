use Rattle.std.proofs.Common.{◌-◌, refl}
use Rattle.affc_life.proofs.PathLemmas.{division_taken}
use Rattle.affc_life.proofs.path.undivide.Goals as goal

pub returns : goal.returns
returns c = λ path form by h.
    let old = c.args.path.now in
    division_taken old path form by h (old.columns - 1) c.pop-high.new.self c.pop-low.new.self c.pop-division.new.self c.pop-high.result c.pop-low.result c.pop-division.result refl c.pop-high.ensures c.pop-low.ensures c.pop-division.ensures
