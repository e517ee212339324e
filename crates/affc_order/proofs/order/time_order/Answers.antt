use Rattle.std.proofs.Common.{sym, subst, ◌∙◌}
use Rattle.std.specs.List.{All}
use Rattle.affc_nest.specs.Wide.{IsWide}
use Rattle.affc_order.specs.Placed.{posed}
use Rattle.affc_order.proofs.PlacedLemmas.{times_wide}
use Rattle.affc_order.proofs.order.time_order.Goals as goal

pub add_lex-requires-clause-firsts : goal.add_lex-requires-clause-firsts
add_lex-requires-clause-firsts c =
    subst (All (IsWide c.args.columns)) (sym (c.as_slice.ensures.value ∙ c.in_ok-xs.ensures)) (times_wide c.args.nest.now c.requires.nest c.args.maps.now c.args.columns (posed c.args.a.now) c.requires.first c.requires.timed.has)

pub add_lex-requires-clause-seconds : goal.add_lex-requires-clause-seconds
add_lex-requires-clause-seconds c =
    subst (All (IsWide c.args.columns)) (sym (c.as_slice-2.ensures.value ∙ c.in_ok-ys.ensures)) (times_wide c.args.nest.now c.requires.nest c.args.maps.now c.args.columns (posed c.args.b.now) c.requires.second c.requires.timed_too.has)
