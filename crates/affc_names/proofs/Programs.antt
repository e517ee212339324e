-- The answer of a whole text.
use Rattle.std.proofs.Common.{◌≡◌, ℕ, List, [], map, subst, Option, None, Result, Ok, Err, refl, sym, ap, ◌∙◌}
use Rattle.std.specs.Prelude.{IsOk}
use Rattle.affc_ast.specs.declared.tree.Compare.{Compare}
use Rattle.affc_ast.specs.declared.tree.Param.{Param}
use Rattle.affc_ast.specs.declared.tree.Program.{Program}
use Rattle.affc_grammar.specs.declared.fault.NameWhy.{NameWhy}
use Rattle.affc_grammar.specs.Grammar.{Name}
use Rattle.affc_grammar.specs.Draft as d
use Rattle.affc_syntax.specs.declared.draft.draft.TextDraft as code_text
use Rattle.affc_syntax.specs.declared.draft.draft.PragmaDraft as code_pragma
use Rattle.affc_syntax.specs.declared.draft.draft.ParamDraft as code_param
use Rattle.affc_syntax.specs.draft.Drafts as seen
use Rattle.affc_grammar.specs.Names.{function, Scope, Refusal, Checked, ◌>>=◌, allowed, with_thing, with_params, outermost, function_why, pragmas_tree, params_tree, temps_tree, stmts_tree, program_tree}
use Rattle.affc_names.specs.declared.fault.NameFault.{NameFault}
use Rattle.affc_names.specs.declared.fault.NameFault.TheVariants.{Memory, Refused}
use Rattle.affc_names.specs.Gives.{Fails, Gives, Allows}
use Rattle.affc_names.specs.Kinds.{AreAlike}
use Rattle.affc_names.specs.Ranges.{GiveSameRanges}
use Rattle.affc_names.specs.Answers.{Answers, tree_behind}
use Rattle.affc_names.specs.Stored as stored
use Rattle.affc_names.proofs.Params.{params_ranges}
use Rattle.affc_names.proofs.Refusals.{Same, Any, pragmas_same, params_same, program_same}

same_err : {A B : Type 0} (m : Checked A) (n : Checked B) (r : Refusal) → Same Any m n → m ≡ Err r → n ≡ Err r
same_err (Ok a) n r h e = absurd (cc)
same_err (Err q) (Ok b) r h e = absurd h
same_err (Err q) (Err s) r h e = ap again (sym h) ∙ ap again (refused q r e)
  where
    again : {B : Type 0} → Refusal → Checked B
    again x = Err x

    refused : {A : Type 0} (x y : Refusal) → ◌≡◌ {A = Checked A} (Err x) (Err y) → x ≡ y
    refused x y f = cc

same_ok : {A B : Type 0} (m : Checked A) (n : Checked B) (a : A) → Same Any m n → m ≡ Ok a → IsOk n
same_ok (Ok x) (Ok b) a h e = refl
same_ok (Ok x) (Err s) a h e = absurd h
same_ok (Err q) n a h e = absurd (cc)

pub answers_of : (c : d.TextDraft) (r : Result Program NameFault) → Gives r (program_tree (stored.text c)) → Answers r c
answers_of c (Ok tree) g = record {
  named = same_ok (program_tree (stored.text c)) (program_tree c) tree (program_same c) g;
  its_tree = g;
}
answers_of c (Err Memory) g = tt
answers_of c (Err (Refused at why)) g = same_err (program_tree (stored.text c)) (program_tree c) _ (program_same c) g

-- where no parameter is refused
pub answers_named : (c : d.TextDraft) (s : Scope) (params : List Param) (ls : List d.PragmaDraft) (r : Result Program NameFault)
    → params_tree (outermost c) ls (map stored.param c.params) ≡ Ok params → GiveSameRanges ls (map stored.pragma c.pragmas) → s ≡ with_params (outermost c) (map stored.param c.params)
    → Gives r (tree_behind s (Ok params) (stored.text c)) → Answers r c
answers_named c s params ls r e same is g =
    answers_of c r (subst (Gives r) (ap (λ m. tree_behind s m (stored.text c)) (sym (sym (params_ranges (outermost c) ls (map stored.pragma c.pragmas) (map stored.param c.params) same) ∙ e)) ∙ ap (λ u. tree_behind u (params_tree (outermost c) (map stored.pragma c.pragmas) (map stored.param c.params)) (stored.text c)) is) g)

-- where one is
pub fails_plain : (c : d.TextDraft) (ls : List d.PragmaDraft) (f : NameFault) → GiveSameRanges ls (map stored.pragma c.pragmas) → Fails f (params_tree (outermost c) ls (map stored.param c.params))
    → Fails f (params_tree (outermost c) c.pragmas c.params)
fails_plain c ls Memory same h = tt
fails_plain c ls (Refused at why) same h =
    same_err (params_tree (outermost c) (map stored.pragma c.pragmas) (map stored.param c.params)) (params_tree (outermost c) c.pragmas c.params) _ (params_same (outermost c) c.pragmas c.params)
    (sym (params_ranges (outermost c) ls (map stored.pragma c.pragmas) (map stored.param c.params) same) ∙ h)

abbrev inside : d.TextDraft → Scope
inside c = with_params (outermost c) c.params

abbrev behind_lines : d.TextDraft → Checked (List Compare) → Checked Program
behind_lines c m =
    m >>= (λ conditions.
    allowed (function_why (inside c) c.function.name) c.function.at (
    params_tree (outermost c) c.pragmas c.params >>= (λ params.
    temps_tree (inside c) c.temps >>= (λ temps.
    stmts_tree temps.1 c.body >>= (λ body.
    Ok (record { name = c.function.name; params = params; context = conditions; temps = temps.0; body = body; prelude = c.has_prelude }))))))

pub refused_line : (c : d.TextDraft) (s : Scope) (f : NameFault) → AreAlike s (inside c) → Fails f (pragmas_tree s [] (map stored.pragma c.pragmas)) → Answers (Err f) c
refused_line c s Memory h g = tt
refused_line c s (Refused at why) h g = ap (behind_lines c) (same_err (pragmas_tree s [] (map stored.pragma c.pragmas)) (pragmas_tree (inside c) [] c.pragmas) _ (pragmas_same s (inside c) h [] c.pragmas) g)

-- with conditions that aren't refused
some_ok : {A : Type 0} (m : Checked A) → IsOk m → (a : A) × (m ≡ Ok a)
some_ok (Ok a) h = (a, refl)
some_ok (Err r) h = absurd (cc)

conditions_of : (c : d.TextDraft) (s : Scope) (xs : List Compare) → AreAlike s (inside c) → pragmas_tree s [] (map stored.pragma c.pragmas) ≡ Ok xs → (ys : List Compare) × (pragmas_tree (inside c) [] c.pragmas ≡ Ok ys)
conditions_of c s xs h g = some_ok (pragmas_tree (inside c) [] c.pragmas) (same_ok (pragmas_tree s [] (map stored.pragma c.pragmas)) (pragmas_tree (inside c) [] c.pragmas) xs (pragmas_same s (inside c) h [] c.pragmas) g)

function_alike : (s t : Scope) (w : List ℕ) → AreAlike s t → function_why t w ≡ function_why s w
function_alike s t w h = ap (λ b. function_why (record { has_prelude = b; visible = [] }) w) (sym h.has_prelude)

abbrev behind_why : d.TextDraft → List Compare → Option NameWhy → Checked Program
behind_why c ys why =
    allowed why c.function.at (
    params_tree (outermost c) c.pragmas c.params >>= (λ params.
    temps_tree (inside c) c.temps >>= (λ temps.
    stmts_tree temps.1 c.body >>= (λ body.
    Ok (record { name = c.function.name; params = params; context = ys; temps = temps.0; body = body; prelude = c.has_prelude })))))

pub refused_function : (c : d.TextDraft) (s : Scope) (f : NameFault) (xs : List Compare) → AreAlike s (inside c) → pragmas_tree s [] (map stored.pragma c.pragmas) ≡ Ok xs
    → Allows (Err f) (function_why s c.function.name) c.function.at → Answers (Err f) c
refused_function c s Memory xs h g a = tt
refused_function c s (Refused at why) xs h g a =
    let k = conditions_of c s xs h g in
    ap (behind_lines c) k.1 ∙ ap (behind_why c k.0) (function_alike s (inside c) c.function.name h ∙ a.0) ∙ ap (λ n. refusal n) (sym a.1)
  where
    refusal : ℕ → Checked Program
    refusal n = Err (record { at = n; why = why })

pub refused_param : (c : d.TextDraft) (s : Scope) (f : NameFault) (xs : List Compare) → AreAlike s (inside c) → pragmas_tree s [] (map stored.pragma c.pragmas) ≡ Ok xs
    → function_why s c.function.name ≡ None → Fails f (params_tree (outermost c) c.pragmas c.params) → Answers (Err f) c
refused_param c s Memory xs h g a p = tt
refused_param c s (Refused at why) xs h g a p =
    let k = conditions_of c s xs h g in
    ap (behind_lines c) k.1 ∙ ap (behind_why c k.0) (function_alike s (inside c) c.function.name h ∙ a)
    ∙ ap (λ m. m >>= (λ params. temps_tree (inside c) c.temps >>= (λ temps. stmts_tree temps.1 c.body >>= (λ body.
    Ok (record { name = c.function.name; params = params; context = k.0; temps = temps.0; body = body; prelude = c.has_prelude }))))) p

-- ---- As the code has them

abbrev outermost_of : code_text.TextDraft → Scope
outermost_of k = outermost (seen.text k)

pub outermost_is : (k : code_text.TextDraft) (empty s : Scope) (name : Name) → empty ≡ record { has_prelude = k.has_prelude; visible = [] } → name ≡ k.function.name → s ≡ with_thing empty name function → s ≡ outermost_of k
outermost_is k empty s name none named is = is ∙ ap (λ e. with_thing e name function) none ∙ ap (λ w. with_thing (record { has_prelude = k.has_prelude; visible = [] }) w function) named

pub program_ok : (k : code_text.TextDraft) (params : List code_param.ParamDraft) (ls : List d.PragmaDraft) (s0 s1 : Scope) (xs : List Param) (r : Result Program NameFault)
    → params ≡ k.params → s0 ≡ outermost_of k
    → GiveSameRanges ls (map stored.pragma (map seen.pragma k.pragmas)) → params_tree s0 ls (map stored.param (map seen.param params)) ≡ Ok xs → s1 ≡ with_params s0 (map stored.param (map seen.param params))
    → Gives r (tree_behind s1 (Ok xs) (stored.text (seen.text k))) → Answers r (seen.text k)
program_ok k params ls s0 s1 xs r words out same tree visible g =
    answers_named (seen.text k) s1 xs ls r
    (ap (λ s. params_tree s ls (map stored.param (map seen.param k.params))) (sym out) ∙ ap (λ l. params_tree s0 ls (map stored.param (map seen.param l))) (sym words) ∙ tree)
    same
    (visible ∙ ap (λ l. with_params s0 (map stored.param (map seen.param l))) words ∙ ap (λ s. with_params s (map stored.param (map seen.param k.params))) out)
    g

pub program_err : (k : code_text.TextDraft) (params : List code_param.ParamDraft) (ls : List d.PragmaDraft) (s0 : Scope) (f : NameFault)
    → params ≡ k.params → s0 ≡ outermost_of k
    → GiveSameRanges ls (map stored.pragma (map seen.pragma k.pragmas)) → Fails f (params_tree s0 ls (map stored.param (map seen.param params)))
    → Fails f (params_tree (outermost (seen.text k)) (map seen.pragma k.pragmas) (map seen.param k.params))
program_err k params ls s0 f words out same fails =
    fails_plain (seen.text k) ls f same
    (subst (λ s. Fails f (params_tree s ls (map stored.param (map seen.param k.params)))) out
    (subst (λ l. Fails f (params_tree s0 ls (map stored.param (map seen.param l)))) words fails))

abbrev pub inside_of : code_text.TextDraft → Scope
inside_of k = with_params (outermost (seen.text k)) (map seen.param k.params)

pub first_line : (k : code_text.TextDraft) (pragmas : List code_pragma.PragmaDraft) (s : Scope) (f : NameFault) → pragmas ≡ k.pragmas → AreAlike s (inside_of k)
    → Fails f (pragmas_tree s [] (map stored.pragma (map seen.pragma pragmas))) → Answers (Err f) (seen.text k)
first_line k pragmas s f lines h fails = refused_line (seen.text k) s f h (subst (λ l. Fails f (pragmas_tree s [] (map stored.pragma (map seen.pragma l)))) lines fails)

pub first_function : (k : code_text.TextDraft) (pragmas : List code_pragma.PragmaDraft) (s : Scope) (f : NameFault) (xs : List Compare) (name : Name) (why : Option NameWhy) → pragmas ≡ k.pragmas → AreAlike s (inside_of k)
    → pragmas_tree s [] (map stored.pragma (map seen.pragma pragmas)) ≡ Ok xs → name ≡ k.function.name → why ≡ function_why s name → Allows (Err f) why k.function.at → Answers (Err f) (seen.text k)
first_function k pragmas s f xs name why lines h ok named is a =
    refused_function (seen.text k) s f xs h (ap (λ l. pragmas_tree s [] (map stored.pragma (map seen.pragma l))) (sym lines) ∙ ok)
    (subst (λ o. Allows (Err f) o k.function.at) (is ∙ ap (function_why s) named) a)

pub first_param : (k : code_text.TextDraft) (pragmas : List code_pragma.PragmaDraft) (s : Scope) (f : NameFault) (xs : List Compare) (name : Name) (why : Option NameWhy) → pragmas ≡ k.pragmas → AreAlike s (inside_of k)
    → pragmas_tree s [] (map stored.pragma (map seen.pragma pragmas)) ≡ Ok xs → name ≡ k.function.name → why ≡ function_why s name → why ≡ None
    → Fails f (params_tree (outermost (seen.text k)) (map seen.pragma k.pragmas) (map seen.param k.params)) → Answers (Err f) (seen.text k)
first_param k pragmas s f xs name why lines h ok named is none fails =
    refused_param (seen.text k) s f xs h (ap (λ l. pragmas_tree s [] (map stored.pragma (map seen.pragma l))) (sym lines) ∙ ok)
    (sym (is ∙ ap (function_why s) named) ∙ none) fails
