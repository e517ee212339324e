use Rattle.std.proofs.Common.{ap, ◌∙◌}
use Rattle.std.specs.String.{string_bytes}
use Rattle.affc_names.specs.Table.{latest_first}
use Rattle.affc_names.proofs.Tables.{latest-snoc}
use Rattle.affc_names.proofs.scope.pop.Goals as goal

pub returns : goal.returns
returns c = (string_bytes c.in_ok-thing.field-0-0, ap latest_first c.in_ok-thing.ensures.entries ∙ latest-snoc c.pop.new.self.entries (c.in_ok-thing.field-0-0, c.in_ok-thing.thing))
