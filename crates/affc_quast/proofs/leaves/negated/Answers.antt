use Rattle.std.proofs.Common.{sym, subst}
use Rattle.affc_nest.specs.Wide.{IsWide}
use Rattle.affc_nest.proofs.WideLemmas.{not_too_wide, none_wide}
use Rattle.affc_quast.proofs.leaves.negated.Goals as goal

pub gap-requires-clause-fits : goal.gap-requires-clause-fits
gap-requires-clause-fits c = not_too_wide c.args.columns c.args.form.now c.in_ok-zero.zero c.requires (subst (IsWide c.args.columns) (sym c.in_ok-zero.ensures.value) (none_wide c.args.columns))
