-- A form's text as it is written term by term.
use Rattle.std.specs.Prelude.{ℕ, suc, ℤ, Bool, ◌||◌, if◌then◌else◌, List, [], ◌∷◌, ◌++◌, decimal}
use Rattle.std.specs.Fmt.{signed_decimal}
use Rattle.affc_grammar.specs.Grammar.{Name}
use Rattle.affc_report.specs.declared.forms.Name.{Name as Column}
use Rattle.affc_report.specs.declared.forms.Name.TheVariants.{Word, Numbered}
use Rattle.affc_report.specs.Forms.{Term, is_there, leading, following, constant_behind}

-- whether a term is written, once this one has come
abbrev pub begun_by : Bool → ℤ → Bool
begun_by b c = b || is_there c

-- a term, where others are written before it or none is
abbrev pub term_text : (is_begun : Bool) → ℤ → Name → List ℕ
term_text b c w = if is_there c then (if b then following c w else leading c w) else []

abbrev pub end_text : (is_begun : Bool) → (constant : ℤ) → List ℕ
end_text b constant = if b then constant_behind constant else signed_decimal constant

abbrev pub begun_by_all : Bool → List Term → Bool
begun_by_all b [] = b
begun_by_all b ((c, w) ∷ ts) = begun_by_all (begun_by b c) ts

abbrev pub terms_text : (is_begun : Bool) → List Term → List ℕ
terms_text b [] = []
terms_text b ((c, w) ∷ ts) = term_text b c w ++ terms_text (begun_by b c) ts

-- ---- Names of columns

-- a word, or a letter with a number
abbrev pub name_text : Column → Name
name_text (Word w) = w.now
name_text (Numbered letter n) = letter.now ++ decimal n

-- coefficients of the columns of this letter from this number on
abbrev pub numbered_terms : (letter : List ℕ) → ℕ → List ℤ → List Term
numbered_terms letter n [] = []
numbered_terms letter n (c ∷ cs) = (c, letter ++ decimal n) ∷ numbered_terms letter (suc n) cs
