-- The rules behind the grammar: which lines there are, how many forms they have, and how large these are. Of each rule the places at which it is broken,
-- in the order of the text.
use Rattle.std.specs.Prelude.{ℕ, zero, suc, ◌+◌, Bool, true, false, not, ◌&&◌, ◌||◌, ◌==◌, nat_le, List, [], ◌∷◌, ◌++◌, length, map, Option, Some, None, pos}
use Rattle.std.specs.List.{list_any, flat_map}
use Rattle.affc_rows.specs.Forms.{Affine}
use Rattle.affc_ast.specs.declared.tree.Ix.{Ix}
use Rattle.affc_ast.specs.declared.tree.Ix.TheVariants as ix
use Rattle.affc_domain.specs.Affine.{form_of}
use Rattle.affc_trace.specs.Target.{all_slight}
use Rattle.affc_grammar.specs.Grammar.{Name}
use Rattle.affc_grammar.specs.Draft.{IxDraft, literal, name, negated, sum, difference, product, grouped, chosen, divided}
use Rattle.affc_grammar.specs.Limits.{at_if, first_token}
use Rattle.affc_schedtext.specs.Outline.{Outline, Scope, ArrayOutline, time_scope, inverse_scope, row_scope, back_scope, statement_of, iterators_of, array_of, array_at, dimensions_of}
use Rattle.affc_schedtext.specs.Draft.{LineDraft, OrderDraft, source, time, Draft}

-- ---- The forms of a line

abbrev pub column_named : Option ℕ → ℕ
column_named None = 0
column_named (Some j) = j

-- an expression over the columns that its names stand for
abbrev pub over_columns : Scope → IxDraft → Ix
over_columns scope (literal at n) = ix.Lit (pos n)
over_columns scope (name at w) = ix.Name (record { 0 = column_named (scope w) })
over_columns scope (negated at a) = ix.Neg (over_columns scope a)
over_columns scope (sum a b) = ix.Add (over_columns scope a) (over_columns scope b)
over_columns scope (difference a b) = ix.Sub (over_columns scope a) (over_columns scope b)
over_columns scope (product at a b) = ix.Mul (over_columns scope a) (over_columns scope b)
over_columns scope (grouped at a) = over_columns scope a
over_columns scope (chosen at f a b) = over_columns scope a
over_columns scope (divided at f a by_at by) = over_columns scope a

-- so many columns, and what names stand for them
pub record Columns : Type 0 where
  pub count : ℕ
  pub scope : Scope

abbrev pub form_over : Columns → IxDraft → Affine
form_over columns e = form_of columns.count 0 (over_columns columns.scope e)

-- the expressions of a line's two lists, and the columns of each
pub record Sides : Type 0 where
  pub there_over : Columns
  pub there : List IxDraft
  pub back_over : Columns
  pub back : List IxDraft

abbrev pub time_columns : Outline → (iterators : List Name) → Columns
time_columns o iterators = record { count = length o.parameters + length iterators; scope = time_scope o iterators }

abbrev pub inverse_columns : Outline → (length_of_time : ℕ) → Columns
inverse_columns o n = record { count = length o.parameters + n; scope = inverse_scope o n }

abbrev pub iterators_or_none : Option (List Name) → List Name
iterators_or_none None = []
iterators_or_none (Some is) = is

abbrev pub statement_sides : Outline → (length_of_time : ℕ) → LineDraft → Sides
statement_sides o n l = record {
  there_over = time_columns o (iterators_or_none (iterators_of o (statement_of o l.name)));
  there = l.forms;
  back_over = inverse_columns o n;
  back = l.inverse;
}

abbrev pub fold_sides : Outline → LineDraft → Sides
fold_sides o l =
    let n = dimensions_of (array_at o (array_of o l.name)) in
    record { there_over = record { count = n; scope = row_scope n }; there = l.forms; back_over = record { count = n; scope = back_scope n }; back = l.inverse }

abbrev pub there_forms : Sides → List Affine
there_forms s = map (form_over s.there_over) s.there

abbrev pub back_forms : Sides → List Affine
back_forms s = map (form_over s.back_over) s.back

-- ---- Statements

abbrev pub is_in : ℕ → List ℕ → Bool
is_in n ns = list_any (λ m. m == n) ns

-- the lines of no statement, and those of one that had a line before
abbrev pub wrong_statements : Outline → (earlier : List ℕ) → List LineDraft → List ℕ
wrong_statements o earlier [] = []
wrong_statements o earlier (l ∷ ls) =
    elim (statement_of o l.name) [ None ↦ l.at ∷ wrong_statements o earlier ls | Some s ↦ at_if (is_in s earlier) l.at ++ wrong_statements o (s ∷ earlier) ls ]

abbrev pub statements_in : Outline → List LineDraft → List ℕ
statements_in o [] = []
statements_in o (l ∷ ls) = elim (statement_of o l.name) [ None ↦ statements_in o ls | Some s ↦ s ∷ statements_in o ls ]

-- whether all numbers below this one are there
abbrev pub has_all : ℕ → List ℕ → Bool
has_all zero ns = true
has_all (suc n) ns = is_in n ns && has_all n ns

-- ---- Folds

abbrev pub is_temporary_of : (dimensions : ℕ) → Option ArrayOutline → Bool
is_temporary_of n None = false
is_temporary_of n (Some a) = a.is_temporary && a.dimensions == n

-- the lines of no temporary with as many dimensions as they have forms, and those of one that had a line before
abbrev pub wrong_folds : Outline → (earlier : List ℕ) → List LineDraft → List ℕ
wrong_folds o earlier [] = []
wrong_folds o earlier (l ∷ ls) =
    elim (array_of o l.name) [
      | None ↦ l.at ∷ wrong_folds o earlier ls
      | Some x ↦ at_if (is_in x earlier || not (is_temporary_of (length l.forms) (array_at o (Some x)))) l.at ++ wrong_folds o (x ∷ earlier) ls
    ]

-- ---- Limits

-- coefficients up to 256 and a constant up to 2^30 in magnitude
abbrev pub slight_here : Columns → IxDraft → Bool
slight_here columns e = all_slight (form_over columns e ∷ [])

-- the form of each part; a text in parentheses is a part too
abbrev pub slight_parts : Columns → IxDraft → Bool
slight_parts columns (literal at n) = slight_here columns (literal at n)
slight_parts columns (name at w) = true
slight_parts columns (negated at a) = slight_parts columns a
slight_parts columns (sum a b) = slight_here columns (sum a b) && slight_parts columns a && slight_parts columns b
slight_parts columns (difference a b) = slight_here columns (difference a b) && slight_parts columns a && slight_parts columns b
slight_parts columns (product at a b) = slight_here columns (product at a b) && slight_parts columns a && slight_parts columns b
slight_parts columns (grouped at a) = slight_parts columns a
slight_parts columns (chosen at f a b) = false
slight_parts columns (divided at f a by_at by) = false

-- the first tokens of the expressions with a part that is too large
abbrev pub large_forms : Columns → List IxDraft → List ℕ
large_forms columns es = flat_map (λ e. at_if (not (slight_parts columns e)) (first_token e)) es

abbrev pub large_sides : Sides → List ℕ
large_sides s = large_forms s.there_over s.there ++ large_forms s.back_over s.back

-- a length is from 1 to 12
abbrev pub is_length : ℕ → Bool
is_length n = nat_le 1 n && nat_le n 12

-- ---- All rules

pub data Breach : Type 0 where
  -- a line of no statement, a further one of a statement, or none of one
  statement : (at : ℕ) → Breach
  -- another number of components than the length
  length_of_line : (at : ℕ) → Breach
  -- a fold of no temporary, a further one of it, or one with another number of components than its dimensions
  fold : (at : ℕ) → Breach
  limit : (at : ℕ) → Breach

abbrev pub place_in : Breach → ℕ
place_in (statement at) = at
place_in (length_of_line at) = at
place_in (fold at) = at
place_in (limit at) = at

abbrev pub fold_breaches : Outline → List LineDraft → List Breach
fold_breaches o folds = map fold (wrong_folds o [] folds)

abbrev pub fold_limits : Outline → List LineDraft → List Breach
fold_limits o folds = map limit (flat_map (λ l. large_sides (fold_sides o l)) folds)

-- in the order in which they are looked for, where the text has so many tokens
abbrev pub order_breaches : Outline → (tokens : ℕ) → OrderDraft → List LineDraft → List Breach
order_breaches o tokens source folds = fold_breaches o folds ++ fold_limits o folds
order_breaches o tokens (time at n lines) folds =
    map statement (wrong_statements o [] lines ++ at_if (not (has_all (length o.statements) (statements_in o lines))) tokens)
    ++ map length_of_line (flat_map (λ (l : LineDraft). at_if (not (length l.forms == n)) l.at) lines)
    ++ fold_breaches o folds
    ++ map limit (at_if (not (is_length n)) at ++ flat_map (λ l. large_sides (statement_sides o n l)) lines)
    ++ fold_limits o folds

abbrev pub breaches : Outline → (tokens : ℕ) → Draft → List Breach
breaches o tokens d = order_breaches o tokens d.order d.folds
