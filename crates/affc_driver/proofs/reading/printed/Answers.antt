use Rattle.std.proofs.Common.{ap, subst, ◌∙◌}
use Rattle.affc_driver.specs.Printed.{HasPrelude, holds_prelude}
use Rattle.affc_driver.proofs.WithPrelude.{tokens_hold, printed_at}
use Rattle.affc_driver.proofs.reading.printed.Goals as goal

pub prelude_of-requires : goal.prelude_of-requires
prelude_of-requires c = ap holds_prelude c.deref.ensures.value ∙ tokens_hold c.args.source.now c.in-Ok.tokens.items c.in-Ok.ensures.tokens c.requires

pub returns-in-Ok : goal.returns-in-Ok
returns-in-Ok c =
    let has : HasPrelude c.in-Ok.tokens.items c.prelude_of.result = subst (λ l. HasPrelude l c.prelude_of.result) c.deref.ensures.value c.prelude_of.ensures in
    printed_at c.args.source.now c.in-Ok.tokens.items c.prelude_of.result c.in-Ok.ensures.tokens has c.requires
