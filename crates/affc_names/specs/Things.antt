-- What the rules on names see of the code's types.
use Rattle.affc_grammar.specs.Names as n
use Rattle.affc_names.specs.declared.scope.Thing.{Thing}
use Rattle.affc_names.specs.declared.scope.Thing.TheVariants.{Function, Number, Array}

abbrev pub thing_seen : Thing → n.Thing
thing_seen Function = n.function
thing_seen (Number id it) = n.number id it
thing_seen (Array id role dimensions) = n.array id role dimensions
