-- A well named tree's function has a Word for a name.
use Rattle.std.proofs.Common.{◌≡◌, ℕ, [], Bool, true, List, ◌++◌, Option, Some, None, Ok, Err, refl, sym, ap, ◌∙◌}
use Rattle.std.specs.List.{list_all}
use Rattle.std.proofs.lemmas.Bool.{and_parts}
use Rattle.std.proofs.lemmas.List.Folds.{list_all-append}
use Rattle.affc_lex.specs.Pieces.{is_word}
use Rattle.affc_ast.specs.declared.tree.Program.{Program}
use Rattle.affc_grammar.specs.declared.fault.NameWhy.{NameWhy}
use Rattle.affc_grammar.specs.Grammar.{Symbol, include_symbols, pragmas_symbols, prelude_symbols, function_symbols}
use Rattle.affc_grammar.specs.Draft.{TextDraft, text_draft}
use Rattle.affc_grammar.specs.Names.{Checked, ◌>>=◌, allowed, function_why, with_params, outermost, pragmas_tree, params_tree, temps_tree, stmts_tree, program_tree}
use Rattle.affc_grammar.specs.Reads.{WellNamed, can_have}

both_ok : {A B : Type 0} (r : Checked A) (f : A → Checked B) (b : B) → (r >>= f) ≡ Ok b → (a : A) × (r ≡ Ok a) × (f a ≡ Ok b)
both_ok (Ok a) f b e = (a, refl, e)
both_ok (Err x) f b e = absurd (cc)

allowed_ok : {A : Type 0} (why : Option NameWhy) (at : ℕ) (next : Checked A) (b : A) → allowed why at next ≡ Ok b → next ≡ Ok b
allowed_ok None at next b e = e
allowed_ok (Some w) at next b e = absurd (cc)

abbrev name_in : List ℕ → Checked Program → List ℕ
name_in w (Ok tree) = tree.name
name_in w (Err x) = w

name_of_tree : (c : TextDraft) (tree : Program) → program_tree c ≡ Ok tree → tree.name ≡ c.function.name
name_of_tree c tree e =
    let inside = with_params (outermost c) c.params in
    let conditions = both_ok (pragmas_tree inside [] c.pragmas) _ tree e in
    let params = both_ok (params_tree (outermost c) c.pragmas c.params) _ tree (allowed_ok (function_why inside c.function.name) c.function.at _ tree conditions.2) in
    let temps = both_ok (temps_tree inside c.temps) _ tree params.2 in
    let body = both_ok (stmts_tree temps.0.1 c.body) _ tree temps.2 in
    sym (ap (name_in c.function.name) body.2)

right_all : (test : Symbol → Bool) (xs ys : List Symbol) → list_all test (xs ++ ys) ≡ true → list_all test ys ≡ true
right_all test xs ys e = (and_parts (list_all test xs) (list_all test ys) (sym (list_all-append test xs ys) ∙ e)).1

pub name_is_word : (tree : Program) → WellNamed tree → is_word tree.name ≡ true
name_is_word tree w =
    let test : Symbol → Bool = λ s. can_have s.kind s.bytes in
    let c = w.written in
    let function : list_all test (function_symbols c.function) ≡ true
    = right_all test (prelude_symbols c.has_prelude) _ (right_all test (pragmas_symbols c.pragmas) _ (right_all test (include_symbols c.line) _ w.tokens)) in
    ap is_word (name_of_tree (text_draft c) tree w.its_tree) ∙ (and_parts (is_word c.function.name) _ function).0
