use Rattle.std.proofs.Common.{ap, refl, ◌∙◌}
use Rattle.affc_names.specs.Reserved.{begins_reserved}
use Rattle.affc_names.proofs.ReservedTests.{beginning_is}
use Rattle.affc_names.proofs.reserved.begins_reserved.Goals as goal

pub returns : goal.returns
returns c = beginning_is _ _ _ c.begins_with_one.ensures refl ∙ ap begins_reserved c.as_bytes.ensures.value
