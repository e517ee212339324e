use Rattle.std.proofs.Common.{◌≡◌, map, drop, fold, None}
use Rattle.affc_grammar.specs.Limits.{divisors_past_in}
use Rattle.affc_syntax.specs.draft.Drafts.{stmt}
use Rattle.affc_limits.specs.Places.{with_places}
use Rattle.affc_limits.proofs.divisors.+statements.Given as goal

abbrev pub invariant-divisors_past-loop-item : goal.invariant-divisors_past-loop-item
invariant-divisors_past-loop-item l = fold (with_places (divisors_past_in l.limit)) l.found (map stmt (drop l.item-index l.body)) ≡ fold (with_places (divisors_past_in l.limit)) None (map stmt l.body)
