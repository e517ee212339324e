use Rattle.std.proofs.Common.{◌∙◌, sym}
use Rattle.affc_words.proofs.Commands.{refused_empty, refused_stray}
use Rattle.affc_words.proofs.words.command_of.Goals as goal
use Rattle.affc_words.proofs.words.command_of.Goals.{then-has_empty-via-then-has_empty, then-has_empty-via-else-has_empty+then-not-is_clean}

pub returns-then-has_empty : goal.returns-then-has_empty
returns-then-has_empty c = elim c.then-has_empty.branch [
  | then-has_empty-via-then-has_empty w ↦ refused_empty c.args.words.now c.name-item.result c.in-len1-up.len_at_least c.name-item.is (sym c.has_empty.ensures ∙ w.if-has_empty.true)
  | then-has_empty-via-else-has_empty+then-not-is_clean w ↦ refused_stray c.args.words.now c.name-item.result c.in-len1-up.len_at_least c.name-item.is (sym w.is_clean.ensures ∙ w.if-not-is_clean.true)
]
