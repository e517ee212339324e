-- What is answered of a schedule's text, by its symbols: for examples, where it computes.
use Rattle.std.specs.Prelude.{◌≡◌, ◌↔◌, ℕ, ◌-◌, List, [], ◌∷◌, length, map, take, Option, Some, None, Ok, Err}
use Rattle.affc_lex.specs.Lexes.{Lexeme, Lexes}
use Rattle.affc_rows.specs.Forms.{Affine}
use Rattle.affc_ast.specs.declared.tree.Program.{Program}
use Rattle.affc_grammar.specs.Grammar.{Symbol}
use Rattle.affc_grammar.specs.Reader.{At, Deep, Read, give, fail, deep, after, either, many, all, tries, until, inside, finished}
use Rattle.affc_grammar.specs.Reading.{ix_inside}
use Rattle.affc_grammar.specs.Reads.{symbols, place_of}
use Rattle.affc_schedtext.specs.declared.plan.SchedFault.{SchedFault}
use Rattle.affc_schedtext.specs.declared.plan.SchedFault.TheVariants as fault
use Rattle.affc_schedtext.specs.Answers.{Keeps, draft_of, IsFault}
use Rattle.affc_schedtext.specs.Outline.{Outline, outline}
use Rattle.affc_schedtext.specs.Grammar.{Text}
use Rattle.affc_schedtext.specs.Reading.{read_form, read_text}
use Rattle.affc_schedtext.specs.Draft.{OrderDraft, source, time, Draft, text_draft}
use Rattle.affc_schedtext.specs.Rules.{Sides, statement_sides, fold_sides, there_forms, back_forms, Breach, statement, length_of_line, fold as fold_line, limit, place_in, breaches}
use Rattle.affc_schedtext.specs.Products.{walked, start}

-- the two lists of a line, as forms
pub record Pair : Type 0 where
  pub there : List Affine
  pub back : List Affine

pub data Verdict : Type 0 where
  -- the statements' lines, where the order isn't that of the source, and the folds'
  reads : Option (List Pair) → List Pair → Verdict
  syntax : ℕ → Verdict
  breaks : Breach → Verdict

abbrev pub pair_of : Sides → Pair
pair_of s = record { there = there_forms s; back = back_forms s }

abbrev pub schedule_pairs : Outline → OrderDraft → Option (List Pair)
schedule_pairs o source = None
schedule_pairs o (time at n lines) = Some (map (λ l. pair_of (statement_sides o n l)) lines)

-- the "*" of the first product of names, found in one pass
abbrev pub product_in : List Symbol → Option ℕ
product_in ss = (walked 0 start ss).found

abbrev pub or_behind : (behind : ℕ) → Option ℕ → ℕ
or_behind n None = n
or_behind n (Some at) = at

abbrev pub of_breaches : Outline → Draft → List Breach → Verdict
of_breaches o d (b ∷ bs) = breaks b
of_breaches o d [] = reads (schedule_pairs o d.order) (map (λ l. pair_of (fold_sides o l)) d.folds)

abbrev pub of_read : (o : Outline) → List Symbol → Read Symbol (Text o) → Verdict
of_read o ss (Ok r) = elim (product_in ss) [ None ↦ of_breaches o (text_draft r.0) (breaches o (length ss) (text_draft r.0)) | Some at ↦ syntax at ]
of_read o ss (Err (At rest)) = syntax (or_behind (length ss - length rest) (product_in (take (length ss - length rest) ss)))
of_read o ss (Err Deep) = syntax (length ss)

-- but for what the forms and their inverses give together
abbrev pub verdict : Program → List Symbol → Verdict
verdict program ss = of_read (outline program) ss (read_text (outline program) (length ss) ss)

-- what is opened where a verdict is computed
unfoldable pub computing : Unit {0}
unfolding give fail deep after either many all tries until inside finished ix_inside read_form read_text
computing = tt

-- ---- What it says of a text

-- the fault of a rule that is broken at this place of the text
abbrev pub broken : (place : ℕ) → Breach → SchedFault
broken place (statement at) = fault.Statement place
broken place (length_of_line at) = fault.Length place
broken place (fold_line at) = fault.Fold place
broken place (limit at) = fault.Limit place

-- the fault that a verdict is of a text with these tokens, if it is one
abbrev pub fault_of : (text : List ℕ) → List Lexeme → Verdict → Option SchedFault
fault_of text tokens (reads lines folds) = None
fault_of text tokens (syntax at) = Some (fault.Syntax (place_of text tokens at))
fault_of text tokens (breaks b) = Some (broken (place_of text tokens (place_in b)) b)

-- what symbols tell: neither want of memory nor what forms and their inverses give together
abbrev pub IsOfSymbols : SchedFault → Type 0
IsOfSymbols (fault.Inverse s k) = ⊥
IsOfSymbols (fault.Basis array k) = ⊥
IsOfSymbols fault.Memory = ⊥
IsOfSymbols _ = Unit {0}

-- the text keeps all rules, and these are the forms of its lines
pub record ReadsAs (text : List ℕ) (o : Outline) (lines : Option (List Pair)) (folds : List Pair) : Type 0 where
  pub keeps : Keeps text o
  pub are_lines : lines ≡ schedule_pairs o (draft_of keeps.spells).order
  pub are_folds : folds ≡ map (λ l. pair_of (fold_sides o l)) (draft_of keeps.spells).folds

-- the fault of the text is the verdict's, and the text keeps all rules exactly where the verdict reads it
pub record Says (text : List ℕ) (program : Program) (tokens : List Lexeme) (v : Verdict) : Type 0 where
  pub faults : (f : SchedFault) → IsOfSymbols f → IsFault text program f ↔ (fault_of text tokens v ≡ Some f)
  pub plans : (lines : Option (List Pair)) (folds : List Pair) → ReadsAs text (outline program) lines folds ↔ (v ≡ reads lines folds)

-- so says the verdict of the symbols of a text with tokens
abbrev pub VerdictsSay : Type 0
VerdictsSay = (text : List ℕ) (program : Program) (tokens : List Lexeme) → Lexes text tokens → Says text program tokens (verdict program (symbols tokens))
