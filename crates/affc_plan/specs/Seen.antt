-- What the definitions see of the code's types.
use Rattle.std.specs.Prelude.{map}
use Rattle.affc_schedtext.specs.Terms.{term}
use Rattle.affc_schedtext.specs.declared.draft.LineDraft.{LineDraft}
use Rattle.affc_schedtext.specs.Rules as rules
use Rattle.affc_schedtext.specs.Seen.{scope_seen}
use Rattle.affc_plan.specs.declared.columns.Columns.{Columns}
use Rattle.affc_plan.specs.declared.columns.Sides.{Sides}

abbrev pub columns_seen : Columns → rules.Columns
columns_seen c = record { count = c.count; scope = scope_seen c.scope }

-- the lists of a line, over these columns
abbrev pub sides_seen : Sides → LineDraft → rules.Sides
sides_seen s l = record { there_over = columns_seen s.there; there = map term l.forms; back_over = columns_seen s.back; back = map term l.inverse }
