use Rattle.std.proofs.Common.{◌≡◌, map, drop, fold, None}
use Rattle.affc_grammar.specs.Limits.{cond_past}
use Rattle.affc_syntax.specs.draft.Drafts.{cond}
use Rattle.affc_limits.specs.Places.{with_places}
use Rattle.affc_limits.proofs.divisors.+conditions.Given as goal

abbrev pub invariant-in_conds-loop-item : goal.invariant-in_conds-loop-item
invariant-in_conds-loop-item l = fold (with_places (cond_past l.limit)) l.found (map cond (drop l.item-index l.items)) ≡ fold (with_places (cond_past l.limit)) None (map cond l.items)
