use Rattle.std.proofs.Common.{◌-◌, length, drop, map, subst, ap, sym, ◌∙◌}
use Rattle.affc_syntax.specs.draft.Symbols.{seen}
use Rattle.affc_syntax.specs.draft.Drafts.{param}
use Rattle.affc_grammar.specs.Reader.{then_read}
use Rattle.affc_syntax.specs.Readers.{Gives}
use Rattle.affc_text.specs.TextReading.{param_more, more_params}
use Rattle.affc_text.proofs.TextReads.{params_inside_on}
use Rattle.affc_text.proofs.function.params_inside.Goals as goal

pub returns : goal.returns
returns c =
    let ts = drop c.args.next (map seen c.args.symbols.now) in
    let end = length c.args.symbols.now in
    let first = ap (λ l. param_more c.args.prelude end (c.args.room - 1) tt (map param l) ts) (sym c.new-params.ensures) ∙ c.in_ok-params.ensures in
    subst (Gives (map seen c.args.symbols.now) (map param) c.more_params.result)
    (sym (ap (λ r. then_read r (more_params c.args.prelude end (c.args.room - 1))) first) ∙ params_inside_on c.args.prelude end c.args.room ts c.if-room-eq0.false) c.more_params.ensures
