use Rattle.std.proofs.Common.{ℕ, List, sym, subst}
use Rattle.std.specs.Prelude.{MatchOption}
use Rattle.affc_interp.specs.Scans.{IsInteger, NoInteger}
use Rattle.affc_interp.proofs.Numerals.{no_minus}
use Rattle.affc_interp.proofs.line.integer.Goals as goal

pub returns-in-Some : goal.returns-in-Some
returns-in-Some c =
    subst (λ (l : List ℕ). MatchOption c.below_zero.result (NoInteger l) (λ x. IsInteger l x.0 x.1.now)) (sym c.in-Some.ensures)
    (c.below_zero.ensures c.in-Some.digits.now c.natural.ensures)

pub returns-in-None : goal.returns-in-None
returns-in-None c = c.above_zero.ensures c.args.text.now (no_minus c.args.text.now c.in-None.ensures) c.natural-in-None.ensures
