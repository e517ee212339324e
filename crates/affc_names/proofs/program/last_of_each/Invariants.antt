use Rattle.std.proofs.Common.{◌≡◌, ◌≤◌, length, map, drop}
use Rattle.affc_grammar.specs.Grammar.{Name}
use Rattle.affc_grammar.specs.Names.{thing_of}
use Rattle.affc_syntax.specs.draft.Drafts as seen
use Rattle.affc_names.specs.Kinds.{kind_of}
use Rattle.affc_names.proofs.Params.{kinds_in}
use Rattle.affc_names.proofs.program.last_of_each.Given as goal

abbrev pub invariant-loop-left : goal.invariant-loop-left
invariant-loop-left l = record {
  within : l.left ≤ length l.params;
  has_prelude : l.scope.has_prelude ≡ l.draft.has_prelude;
  kinds : (w : Name) → kind_of (thing_of l.scope w) ≡ kinds_in (map seen.param (drop l.left l.params)) w;
}

abbrev pub decreases-loop-left : goal.decreases-loop-left
decreases-loop-left l = l.left
