-- Comparisons and remainders of conditions, and pieces of them and of their denials, each counted no further than one past its limit.
use Rattle.std.specs.Prelude.{ℕ, ◌+◌, ◌*◌, min, Bool, true, false, List}
use Rattle.affc_ast.specs.declared.tree.Rel.{Rel}
use Rattle.affc_ast.specs.Pieces.{Counts, counts_of_relation, counts_of_all, counts_of_any}
use Rattle.affc_grammar.specs.Draft as d
use Rattle.affc_grammar.specs.Limits.{cond_count, conds_count, cond_pieces, conds_pieces}
use Rattle.affc_limits.specs.declared.conditions.Counted.{Counted}

abbrev pub cut : (comparisons : ℕ) → Counts → Counted
cut n c = record { comparisons = min 33 n; plain = min 17 c.plain; denied = min 17 c.denied }

abbrev pub counted : d.CondDraft → Counted
counted c = cut (cond_count c) (cond_pieces c)

-- of all conditions, or of some
abbrev pub counts_of : (all : Bool) → List Counts → Counts
counts_of true ns = counts_of_all ns
counts_of false ns = counts_of_any ns

abbrev pub counted_each : (all : Bool) → d.CondsDraft → Counted
counted_each all cs = cut (conds_count cs) (counts_of all (conds_pieces cs))

-- of one comparison or remainder
abbrev pub one : (plain denied : ℕ) → Counted
one plain denied = record { comparisons = 1; plain = plain; denied = denied }

abbrev pub of_relation : Rel → Counted
of_relation rel = one (counts_of_relation rel).plain (counts_of_relation rel).denied

abbrev pub none : (all : Bool) → Counted
none true = record { comparisons = 0; plain = 1; denied = 0 }
none false = record { comparisons = 0; plain = 0; denied = 1 }

abbrev pub joined : (all : Bool) → Counted → Counted → Counted
joined true a b = record { comparisons = min 33 (a.comparisons + b.comparisons); plain = min 17 (a.plain * b.plain); denied = min 17 (a.denied + b.denied) }
joined false a b = record { comparisons = min 33 (a.comparisons + b.comparisons); plain = min 17 (a.plain + b.plain); denied = min 17 (a.denied * b.denied) }

-- with one condition more
abbrev pub with_cond : (all : Bool) → Counted → d.CondDraft → Counted
with_cond all made c = joined all made (counted c)
