use Rattle.std.proofs.Common.{◌++◌, ◌∷◌, [], sym, ap, ◌∙◌}
use Rattle.std.specs.Option.{option_map}
use Rattle.affc_names.specs.Things.{thing_seen}
use Rattle.affc_names.specs.Ranges.{texts}
use Rattle.affc_names.proofs.LineLaws.{ranged_why_is, word_refused, added_name}
use Rattle.affc_names.proofs.lines.note_range.Goals as goal
use Rattle.affc_names.proofs.lines.note_range.Goals.{in-Ok, in-Err}

pub returns-in-Some-clause-allowed : goal.returns-in-Some-clause-allowed
returns-in-Some-clause-allowed c =
    word_refused _ c.in-Some.why c.args.word.now.at
    (ranged_why_is c.args.scope.now (texts c.args.earlier.now.keys) c.args.word.now.name c.as_str-name.result.now c.is_among.result (option_map thing_seen c.find.result) c.why_ranged-why.result
    c.as_str-name.ensures c.is_among.ensures c.find.ensures c.why_ranged-why.ensures ∙ c.in-Some.is)

pub returns-clause-noted : goal.returns-clause-noted
returns-clause-noted c = elim c.match-insert.branch [
  | in-Ok w ↦ rw w.result-is (
      added_name c.args.scope.now (option_map thing_seen c.find.result) c.args.earlier.now.keys c.insert.new.self.keys c.in_ok-name.name c.as_str-name.result.now c.is_among.result c.in_ok-name.ensures.ok c.is_among.ensures
      (sym c.why_ranged-why.ensures ∙ c.in_default.is) w.in-Ok.ensures.keys
      ∙ ap (λ x. texts c.args.earlier.now.keys ++ x ∷ []) c.as_str-name.ensures)
  | in-Err w ↦ rw w.result-is tt
]
