use Rattle.std.proofs.Common.{◌≡◌, ◌+◌, length, ap, arith}
use Rattle.affc_ast.specs.Meaning.{arrays_of}
use Rattle.affc_trace.specs.Dataflow.{LivePair}
use Rattle.affc_quast.specs.Seen.{trees_of}
use Rattle.affc_folds.proofs.FoldLemmas.{arrays_are}
use Rattle.affc_folds.proofs.ListLemmas.{all_made}
use Rattle.affc_folds.proofs.folding.fold_all.Goals as goal

pub returns-clause-folds : goal.returns-clause-folds
returns-clause-folds g c =
    let program = c.args.program.now in
    let are = arrays_are program c.args.nest.now (trees_of c.args.flow.now) c.args.schedule.now c.requires.analysed in
    let seen = ap length c.as_slice-arrays.ensures in
    let all : c.in-Ok.first + length c.split_at.result.1.now ≡ length (arrays_of program.params) + length program.temps = omega (arith, are, seen, c.len.ensures, c.in-Ok.ensures, c.split_at.ensures.back_len) in
    all_made (g.F.Cost.answers c.args.cost.now.cost) program (LivePair program c.args.schedule.now) c.args.bases.now c.add_folds.new.budget (c.in-Ok.first + length c.split_at.result.1.now) c.add_folds.new.folded.folds c.add_folds.new.folded.choices c.in_ok-add_folds.ensures.all all
