-- What a schedule's text sees of a program: its parameters, its statements and its arrays, and which columns the names in its forms stand for.
use Rattle.std.specs.Prelude.{ℕ, zero, suc, ◌+◌, Bool, true, false, ◌&&◌, nat_lt, List, [], ◌∷◌, ◌++◌, length, map, drop, codes, Option, Some, None, slice_get, if◌then◌else◌, decimal as digits_of}
use Rattle.std.specs.List.{position as position_by}
use Rattle.std.specs.Option.{option_map}
use Rattle.affc_lex.specs.Bytes.{same, begins, decimal}
use Rattle.affc_lex.specs.Pieces.{is_number}
use Rattle.affc_ast.specs.declared.tree.Decl.{Decl}
use Rattle.affc_ast.specs.declared.tree.Param.{Param}
use Rattle.affc_ast.specs.declared.tree.Param.TheVariants.{Number, Array}
use Rattle.affc_ast.specs.declared.tree.Program.{Program}
use Rattle.affc_ast.specs.Meaning.{arrays_of}
use Rattle.affc_domain.specs.Rounds.{Round, Loop, Test, rounds}
use Rattle.affc_grammar.specs.Grammar.{Name}
pub use Rattle.affc_schedtext.specs.declared.outline.ArrayOutline.{ArrayOutline}
pub use Rattle.affc_schedtext.specs.declared.outline.Outline.{Outline}

abbrev pub number_names : List Param → List Name
number_names [] = []
number_names (Number name low high ∷ ps) = name ∷ number_names ps
number_names (Array decl ∷ ps) = number_names ps

abbrev pub iterators_in : List Round → List Name
iterators_in [] = []
iterators_in (Loop iter low rel high ∷ rs) = iter ∷ iterators_in rs
iterators_in (Test cond ∷ rs) = iterators_in rs

abbrev pub array_outline : (is_temporary : Bool) → Decl → ArrayOutline
array_outline is_temporary d = record { name = d.name; dimensions = length d.extents; is_temporary = is_temporary }

abbrev pub outline : Program → Outline
outline program = record {
  parameters = number_names program.params;
  statements = map iterators_in (rounds program);
  arrays = map (array_outline false) (arrays_of program.params) ++ map (array_outline true) program.temps;
}

-- ---- Names with a number

-- the number behind this letter, without leading zeros, where it is less than `count`: of `S0`, `t0`, `x0`, `y0`, ..
abbrev pub numbered : (letter : List ℕ) → (count : ℕ) → Name → Option ℕ
numbered letter count w = if begins letter w && is_number (drop 1 w) && nat_lt (decimal (drop 1 w)) count then Some (decimal (drop 1 w)) else None

-- `x0`, `x1`, ..: so many, from this number on
abbrev pub numbered_names : (letter : List ℕ) → (from count : ℕ) → List Name
numbered_names letter from zero = []
numbered_names letter from (suc n) = (letter ++ digits_of from) ∷ numbered_names letter (suc from) n

-- the number of the first of these that is the name
abbrev pub position : Name → List Name → Option ℕ
position w vs = position_by (λ v. same v w) vs

abbrev pub or_else : Option ℕ → Option ℕ → Option ℕ
or_else (Some x) other = Some x
or_else None other = other

-- ---- Scopes

-- the column that a name stands for, where it may stand
abbrev pub Scope : Type 0
Scope = Name → Option ℕ

-- a column for each of the first names, and behind them one for each of the others
abbrev pub names_scope : (first others : List Name) → Scope
names_scope first others w = or_else (position w first) (option_map (λ k. length first + k) (position w others))

-- the first so many columns are the parameters
abbrev pub time_scope : Outline → (iterators : List Name) → Scope
time_scope o iterators = names_scope o.parameters iterators

-- a parameter whose name is that of a component can't be written
abbrev pub components_scope : (parameters : List Name) (length_of_time : ℕ) → Scope
components_scope parameters n w = or_else (option_map (λ k. length parameters + k) (numbered (codes "t") n w)) (position w parameters)

abbrev pub inverse_scope : Outline → (length_of_time : ℕ) → Scope
inverse_scope o n = components_scope o.parameters n

abbrev pub row_scope : (dimensions : ℕ) → Scope
row_scope n = numbered (codes "x") n

abbrev pub back_scope : (dimensions : ℕ) → Scope
back_scope n = numbered (codes "y") n

-- where it isn't known what a line is about
abbrev pub any_scope : Scope
any_scope w = Some 0

-- ---- Lines

-- the words before "=": these in this order, or any
pub data Words : Type 0 where
  these : Name → List Name → Words
  any : Words

-- what may stand in the two lists of a line
pub record Lists : Type 0 where
  pub there : Scope
  pub back : Scope
  pub words : Words

-- whether a line has inverse forms
pub data Presence : Type 0 where
  never : Presence
  always : Presence
  maybe : Presence

abbrev pub statement_of : Outline → Name → Option ℕ
statement_of o w = numbered (codes "S") (length o.statements) w

abbrev pub iterators_of : Outline → Option ℕ → Option (List Name)
iterators_of o None = None
iterators_of o (Some s) = slice_get o.statements s

abbrev pub words_of : (iterators : List Name) → Words
words_of [] = any
words_of (i ∷ is) = these i is

abbrev pub lists_at : Outline → (length_of_time : ℕ) → Option (List Name) → Lists
lists_at o n None = record { there = any_scope; back = any_scope; words = any }
lists_at o n (Some is) = record { there = time_scope o is; back = inverse_scope o n; words = words_of is }

-- a statement without loops has no inverse forms, and of one that isn't known nothing can be told
abbrev pub presence_at : Option (List Name) → Presence
presence_at None = maybe
presence_at (Some []) = never
presence_at (Some (i ∷ is)) = always

-- of a statement's line
abbrev pub statement_lists : Outline → (length_of_time : ℕ) → Name → Lists
statement_lists o n w = lists_at o n (iterators_of o (statement_of o w))

abbrev pub statement_presence : Outline → Name → Presence
statement_presence o w = presence_at (iterators_of o (statement_of o w))

-- the number of the first array of this name
abbrev pub array_of : Outline → Name → Option ℕ
array_of o w = position w (map (λ a. a.name) o.arrays)

abbrev pub array_at : Outline → Option ℕ → Option ArrayOutline
array_at o None = None
array_at o (Some x) = slice_get o.arrays x

-- nothing can be told of a scalar's names, as of those of an array that isn't known
abbrev pub lists_by : (dimensions : ℕ) → Lists
lists_by zero = record { there = any_scope; back = any_scope; words = any }
lists_by (suc n) = record { there = row_scope (suc n); back = back_scope (suc n); words = these (codes "x0") (numbered_names (codes "x") 1 n) }

abbrev pub dimensions_of : Option ArrayOutline → ℕ
dimensions_of None = 0
dimensions_of (Some a) = a.dimensions

-- of a fold's line, which always has inverse forms
abbrev pub fold_lists : Outline → Name → Lists
fold_lists o w = lists_by (dimensions_of (array_at o (array_of o w)))

abbrev pub fold_presence : Name → Presence
fold_presence w = always
