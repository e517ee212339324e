-- What a walk over statements finds, for the crate's private clauses.
use Rattle.std.specs.Prelude.{List, ◌++◌, map}
use Rattle.affc_grammar.specs.Grammar.{Name}
use Rattle.affc_domain.specs.Rounds.{Round}
use Rattle.affc_schedtext.specs.Outline.{iterators_in}

-- the iterators round each of some statements, where these stand round all of them
abbrev pub iterators_under : (around : List Name) → List (List Round) → List (List Name)
iterators_under around rss = map (λ rs. around ++ iterators_in rs) rss
