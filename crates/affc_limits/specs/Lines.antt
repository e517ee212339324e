-- One pass over parameters, declarations and lines for the limits on each.
use Rattle.std.specs.Prelude.{ℕ, ◌-◌, ◌==◌, nat_lt, not, length, Option}
use Rattle.affc_grammar.specs.Draft as d
use Rattle.affc_grammar.specs.Limits.{is_range}
use Rattle.affc_limits.specs.declared.rests.Rest.{Rest}
use Rattle.affc_limits.specs.Places.{lesser, place_if}
use Rattle.affc_limits.specs.Rests.{next}

abbrev pub with_param : Rest → d.ParamDraft → Rest
with_param r (d.number_param w) = next r w.at
with_param r (d.array_param k) = r

abbrev pub with_decl : Option ℕ → d.DeclDraft → Option ℕ
with_decl found k = lesser found (place_if (nat_lt 4 (length k.extents)) k.word.at)

abbrev pub with_array : Option ℕ → d.ParamDraft → Option ℕ
with_array found (d.number_param w) = found
with_array found (d.array_param k) = with_decl found k

abbrev pub with_range : Option ℕ → d.PragmaDraft → Option ℕ
with_range found (d.range w low_at low high) = lesser found (place_if (not (is_range low high)) low_at)
with_range found (d.context at cs) = found

-- comparisons are counted down from one more than may stand
abbrev pub with_context : Rest → d.PragmaDraft → Rest
with_context r (d.range w low_at low high) = r
with_context r (d.context at cs) = record { left = r.left - length cs; found = lesser r.found (place_if ((r.left - length cs) == 0) at) }
