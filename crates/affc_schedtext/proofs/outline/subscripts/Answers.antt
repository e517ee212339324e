use Rattle.std.proofs.Common.{◌+◌, ◌-◌, ◌∷◌, [], ◌++◌, codes, ap, ◌∙◌, arith}
use Rattle.affc_schedtext.specs.Outline.{numbered_names}
use Rattle.affc_schedtext.proofs.Outlines.{names_on}
use Rattle.affc_schedtext.proofs.outline.subscripts.Goals as goal

pub loop-number-preserved : goal.loop-number-preserved
loop-number-preserved c =
    let k = c.loop-number.number in
    let names = c.loop-number.names in
    let less = c.loop-number-test.true in
    record {
      within = omega (arith, less);
      made =
          ap (λ l. l ++ numbered_names (codes "x") (k + 1 + 1) (c.args.count - (k + 1))) (c.in_ok-push.ensures.ok ∙ ap (λ t. names ++ t ∷ []) c.in_ok-subscript.ensures)
          ∙ names_on (codes "x") names k c.args.count less
          ∙ c.loop-number.invariant.made;
    }
