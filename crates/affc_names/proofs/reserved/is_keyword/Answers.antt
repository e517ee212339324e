use Rattle.std.proofs.Common.{refl}
use Rattle.affc_names.proofs.ReservedTests.{keyword_is}
use Rattle.affc_names.proofs.reserved.is_keyword.Goals as goal

pub returns : goal.returns
returns c = keyword_is _ _ _ c.is_among.ensures refl
