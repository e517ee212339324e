-- The scope that a table of names shows.
use Rattle.std.specs.Prelude.{◌≡◌, count_by}
use Rattle.affc_grammar.specs.Names.{Scope, is_number_thing, is_array_thing}
use Rattle.affc_names.specs.declared.scope.Scope.TheInside.{Inside}
use Rattle.affc_names.specs.Table.{latest_first, AreApart}

abbrev pub shown : Inside → Scope
shown a = record { has_prelude = a.has_prelude; visible = latest_first a.things.entries }

pub record IsCounted (a : Inside) : Type 0 where
  pub apart : AreApart (latest_first a.things.entries)
  pub numbers : a.numbers ≡ count_by is_number_thing (latest_first a.things.entries)
  pub arrays : a.arrays ≡ count_by is_array_thing (latest_first a.things.entries)
