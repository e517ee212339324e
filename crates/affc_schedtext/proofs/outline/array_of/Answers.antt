use Rattle.std.proofs.Common.{ap, ◌∙◌}
use Rattle.std.specs.List.{position as position_by}
use Rattle.affc_lex.specs.Bytes.{same}
use Rattle.affc_schedtext.specs.Outline.{ArrayOutline}
use Rattle.affc_schedtext.proofs.Outlines.{position_named}
use Rattle.affc_schedtext.proofs.outline.array_of.Goals as goal

pub returns : goal.returns
returns c =
    c.position_of.ensures
    ∙ ap (position_by (λ (a : ArrayOutline). same a.name c.args.name.now)) c.as_slice.ensures
    ∙ position_named c.args.name.now c.args.outline.now.arrays
