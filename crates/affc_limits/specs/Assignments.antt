-- One pass over assignments for the limits on them.
use Rattle.std.specs.Prelude.{ℕ, ◌+◌, ◌*◌, min, nat_lt, Bool, Option, Some, None, fold}
use Rattle.affc_ast.specs.declared.tree.Op.{Op}
use Rattle.affc_grammar.specs.Draft as d
use Rattle.affc_grammar.specs.Limits.{Round, Assigned, assigned_in}
use Rattle.affc_limits.specs.declared.assignments.Tally.{Tally}
use Rattle.affc_limits.specs.declared.assignments.Round as code
use Rattle.affc_limits.specs.declared.conditions.Counted.{Counted}
use Rattle.affc_limits.specs.Places.{lesser, place_if}
use Rattle.affc_limits.specs.Rests.{rest_of, next}

abbrev pub no_tally : Tally
no_tally = record { statements = rest_of 64; accesses = None; comparisons = None; pieces = None }

abbrev pub round_of : code.Round → Round
round_of r = record { comparisons = r.comparisons; pieces = r.pieces }

-- under a condition of which so much is counted, and under its denial
abbrev pub under_body : Counted → code.Round → code.Round
under_body c r = record { comparisons = min 33 (r.comparisons + c.comparisons); pieces = min 17 (r.pieces * c.plain) }

abbrev pub under_other : Counted → code.Round → code.Round
under_other c r = record { comparisons = min 33 (r.comparisons + c.comparisons); pieces = min 17 (r.pieces * c.denied) }

-- with an assignment at this place, which may have too many accesses, and round which so much stands
abbrev pub with_one : Tally → (at : ℕ) → (accesses : Bool) → Round → Tally
with_one t at accesses r = record {
  statements = next t.statements at;
  accesses = lesser t.accesses (place_if accesses at);
  comparisons = lesser t.comparisons (place_if (nat_lt 32 r.comparisons) at);
  pieces = lesser t.pieces (place_if (nat_lt 16 r.pieces) at);
}

abbrev pub count_one : Tally → Assigned → Tally
count_one t a = with_one t a.at (nat_lt 16 a.accesses) a.round

-- with the assignments of a statement, where so much stands round it
abbrev pub count_in : Round → Tally → d.StmtDraft → Tally
count_in r t s = fold count_one t (assigned_in r s)

-- whether an assignment with so many loads has too many accesses
abbrev pub is_crowded : Option Op → (loads : ℕ) → Bool
is_crowded None loads = nat_lt 16 (loads + 1)
is_crowded (Some op) loads = nat_lt 16 (loads + 2)
