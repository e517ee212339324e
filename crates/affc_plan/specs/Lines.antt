-- The lines of a draft, looked at one after the other.
use Rattle.std.specs.Prelude.{◌≡◌, ℕ, ◌<◌, ◌≤◌, ◌^◌, Bool, true, false, not, ◌||◌, ◌==◌, List, [], ◌∷◌, ◌++◌, length, map, slice_get, Option, Some, None}
use Rattle.std.specs.List.{list_any, flat_map}
use Rattle.affc_grammar.specs.Grammar.{Name}
use Rattle.affc_grammar.specs.Limits.{at_if}
use Rattle.affc_schedtext.specs.declared.draft.LineDraft as code
use Rattle.affc_schedtext.specs.declared.outline.ArrayOutline.{ArrayOutline}
use Rattle.affc_schedtext.specs.declared.outline.Outline.{Outline}
use Rattle.affc_schedtext.specs.Outline.{statement_of, array_of, array_at}
use Rattle.affc_schedtext.specs.Draft.{LineDraft}
use Rattle.affc_schedtext.specs.Rules as rules
use Rattle.affc_schedtext.specs.Rules.{is_temporary_of}
use Rattle.affc_plan.specs.declared.breach.Breach.{Breach}
use Rattle.affc_plan.specs.declared.breach.Breach.TheVariants as b

abbrev pub head : {A : Type 0} → List A → Option A
head [] = None
head (x ∷ xs) = Some x

-- as few parameters, iterators, dimensions, statements and arrays as a plain program has
pub record IsFew (o : Outline) : Type 0 where
  pub parameters : length o.parameters ≤ 4
  pub iterators : (s : ℕ) (is : List Name) → slice_get o.statements s ≡ Some is → length is ≤ 6
  pub dimensions : (x : ℕ) (a : ArrayOutline) → slice_get o.arrays x ≡ Some a → a.dimensions ≤ 4
  pub statements : length o.statements ≤ 64
  pub arrays : length o.arrays < 2 ^ 32

abbrev pub same_number : ℕ → Option ℕ → Bool
same_number n None = false
same_number n (Some m) = m == n

-- whether the line is of this statement, and of this array
abbrev pub is_of_statement : Outline → ℕ → code.LineDraft → Bool
is_of_statement o s l = same_number s (statement_of o l.word.name)

abbrev pub is_of_array : Outline → ℕ → code.LineDraft → Bool
is_of_array o x l = same_number x (array_of o l.word.name)

-- whether it is of no statement, or of one that has a line before
abbrev pub wrong_statement : Outline → Option ℕ → List code.LineDraft → Bool
wrong_statement o None before = true
wrong_statement o (Some s) before = list_any (is_of_statement o s) before

abbrev pub wrong_fold : Outline → (forms : ℕ) → Option ℕ → List code.LineDraft → Bool
wrong_fold o n None before = true
wrong_fold o n (Some x) before = list_any (is_of_array o x) before || not (is_temporary_of n (array_at o (Some x)))

abbrev pub is_wrong_statement : Outline → List code.LineDraft → code.LineDraft → Bool
is_wrong_statement o before l = wrong_statement o (statement_of o l.word.name) before

abbrev pub is_wrong_fold : Outline → List code.LineDraft → code.LineDraft → Bool
is_wrong_fold o before l = wrong_fold o (length l.forms) (array_of o l.word.name) before

-- the lines that are wrong behind those before them
abbrev pub wrong_from : (List code.LineDraft → code.LineDraft → Bool) → (before rest : List code.LineDraft) → List ℕ
wrong_from is_wrong before [] = []
wrong_from is_wrong before (l ∷ ls) = at_if (is_wrong before l) l.word.at ++ wrong_from is_wrong (before ++ l ∷ []) ls

abbrev pub breach_seen : Breach → rules.Breach
breach_seen (b.Statement at) = rules.statement at
breach_seen (b.Length at) = rules.length_of_line at
breach_seen (b.Fold at) = rules.fold at
breach_seen (b.Limit at) = rules.limit at

-- ---- The parts of all rules, in their order

abbrev pub line_breaches : Outline → (tokens n : ℕ) → List LineDraft → List rules.Breach
line_breaches o tokens n lines =
    map rules.statement (rules.wrong_statements o [] lines ++ at_if (not (rules.has_all (length o.statements) (rules.statements_in o lines))) tokens)
    ++ map rules.length_of_line (flat_map (λ (l : LineDraft). at_if (not (length l.forms == n)) l.at) lines)

abbrev pub time_limits : Outline → (at n : ℕ) → List LineDraft → List rules.Breach
time_limits o at n lines = map rules.limit (at_if (not (rules.is_length n)) at ++ flat_map (λ l. rules.large_sides (rules.statement_sides o n l)) lines)
