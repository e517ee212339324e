use Rattle.std.proofs.Common.{◌≤◌, length, refl, inr, arith}
use Rattle.std.proofs.lemmas.Grind.{common_steps}
use Rattle.affc_folds.proofs.tries.with_marks.Goals as goal

pub returns-else-is_empty : goal.returns-else-is_empty
returns-else-is_empty c =
    let some : 1 ≤ length c.known_of.result.now = grind (arith, common_steps, c.is_empty.ensures, c.if-is_empty.false) in
    inr (c.in-Some.one, c.in-Some.is, refl, c.if-one-choice.false, c.known_of.ensures some)
