use Rattle.affc_generate.specs.Stages as specs
use Rattle.affc_generate.proofs.Texts.{more_from_zero}
use Rattle.affc_generate.proofs.stages.add_declarations.Goals as goal

pub loop-k-preserved : goal.loop-k-preserved
loop-k-preserved c = more_from_zero _ _ _ (specs.declaration c.args.stages) c.loop-k.k c.loop-k.invariant c.in_ok-add_declaration.ensures
