use Rattle.std.proofs.Common.{ap, ◌∙◌}
use Rattle.std.specs.Option.{option_map}
use Rattle.affc_grammar.specs.Names.{thing_of}
use Rattle.affc_names.specs.Things.{thing_seen}
use Rattle.affc_names.proofs.Tables.{found}
use Rattle.affc_names.proofs.scope.Scope.find.Goals as goal

pub returns : goal.returns
returns c =
    ap (option_map thing_seen) (c.copied.ensures ∙ c.get.ensures.value)
    ∙ found c.self.inside.things.entries c.args.name.now c.self.invariant.apart
    ∙ ap (λ s. thing_of s c.args.name.now) c.self.view_is
