-- Parameters, their ranges and declarations that are read are printed as ones that are read so, and whose tokens a text can have.
use Rattle.std.proofs.Common.{◌≡◌, ℕ, zero, suc, ◌+◌, ◌^◌, ◌<◌, Bool, true, false, List, [], ◌∷◌, ◌++◌, length, codes, Option, Some, None, Ok, ℤ, pos, negsuc, neg_ℤ, refl, sym, ap, subst, ◌∙◌, arith, append_assoc, if◌then◌else◌}
use Rattle.std.proofs.lemmas.List.{append-nil}
use Rattle.std.specs.Fmt.{decimal as digits_of}
use Rattle.affc_lex.specs.Bytes.{decimal as value_of}
use Rattle.affc_ast.specs.declared.tree.Ix.{Ix}
use Rattle.affc_ast.specs.declared.tree.Decl.{Decl}
use Rattle.affc_ast.specs.declared.tree.Param.{Param}
use Rattle.affc_ast.specs.declared.tree.Param.TheVariants.{Number, Array}
use Rattle.affc_grammar.specs.Grammar.{Name, word, number as number_symbol, mark, ParamText, number_param, array_param, ParamsText, param, and_param, IntText, DimsText, IxText, ix_symbols, dims_symbols, dim_symbols, const_symbols, param_symbols, params_symbols, int_symbols}
use Rattle.affc_grammar.specs.Draft as draft
use Rattle.affc_grammar.specs.Draft.{ParamDraft, DeclDraft, PragmaDraft, word_draft, ix_draft, dims_draft, param_draft, params_draft, temp_draft, names_draft, decls_draft, int_value, pragmas_draft, array_role}
use Rattle.affc_grammar.specs.Names.{Thing, Scope, each, thing_of, why_declared, with_number, with_array, ix_tree, decl_tree, number_tree, range_of, param_tree, params_tree, with_param, with_params}
use Rattle.affc_grammar.specs.Printed.{Names, no_names, and_number, and_array_name, and_param_name, ix_text, dims_text, is_input, array_text, param_text, and_params, params_text, int_text}
use Rattle.affc_cprint.specs.Programs.{with_param_names}
use Rattle.affc_cprint.proofs.Numbers.{value_of-decimal}
use Rattle.affc_cprint.proofs.Spelled.{AllHave, AllStand, have_parts, stand_both, IsName, symbol_of_name, symbol_of_numeral, decimal_is_numeral}
use Rattle.affc_cprint.proofs.Sees.{ok_of, both_ok, then_is, allowed_ok, allowed_is, Sees, sees_number, sees_array}
use Rattle.affc_cprint.proofs.Visible.{other_thing, some_true, declared_apart}
use Rattle.affc_cprint.proofs.ReadBack.{word_of_symbol, number_of_symbol, ix_back}
use Rattle.affc_cprint.proofs.ReadBackValues.{Each, each_append, each_length, dims_back, dims_again}
use Rattle.affc_cprint.proofs.ReadBackStatements.{IxBack, declared_name}

-- ---- Numbers of ranges

abbrev pub FitsInt : ℤ → Type 0
FitsInt (pos n) = n < 2 ^ 64
FitsInt (negsuc n) = suc n < 2 ^ 64

pub negated_fits : (n : ℕ) → n < 2 ^ 64 → FitsInt (neg_ℤ (pos n))
negated_fits zero h = h
negated_fits (suc n) h = h

pub int_fits : (i : IntText) → AllHave (int_symbols i) → FitsInt (int_value i)
int_fits i have = of i.negative have
  where
    of : (b : Bool) → AllHave (if b then mark (codes "-") ∷ number_symbol i.digits ∷ [] else number_symbol i.digits ∷ []) → FitsInt (if b then neg_ℤ (pos (value_of i.digits)) else pos (value_of i.digits))
    of true h = negated_fits (value_of i.digits) (number_of_symbol i.digits [] h).0
    of false h = (number_of_symbol i.digits [] h).0

pub int_again : (z : ℤ) → FitsInt z → (int_value (int_text z) ≡ z) × AllStand (int_symbols (int_text z))
int_again (pos n) h = (ap pos (value_of-decimal n h), symbol_of_numeral (digits_of n) [] (decimal_is_numeral n h) refl)
int_again (negsuc n) h =
    let one : n + 1 ≡ suc n = omega arith in
    let small : n + 1 < 2 ^ 64 = subst (λ k. k < 2 ^ 64) (sym one) h in
    (ap (λ k. neg_ℤ (pos k)) (value_of-decimal (n + 1) small ∙ one), symbol_of_numeral (digits_of (n + 1)) [] (decimal_is_numeral (n + 1) small) refl)

-- ---- Parameters of a tree

abbrev pub scope_params : Scope → List Param → Scope
scope_params scope [] = scope
scope_params scope (Number w low high ∷ qs) = scope_params (with_number false scope w) qs
scope_params scope (Array d ∷ qs) = scope_params (with_array scope d.name d.role (length d.extents)) qs

abbrev pub Extents : (prelude : Bool) → Scope → Names → List Ix → Type 0
Extents prelude scope names es = Each (IxBack prelude scope names) es

pub record ArrayParamBack (prelude : Bool) (scope : Scope) (names : Names) (d : Decl) : Type 0 where
  pub declared : why_declared scope false d.name ≡ None
  pub name : IsName d.name
  pub extents : Extents prelude scope names d.extents
  pub some : d.extents ≡ [] → ⊥
  pub role : array_role (is_input d.role) ≡ d.role

pub record NumberParamBack (scope : Scope) (w : Name) (low high : ℤ) : Type 0 where
  pub declared : why_declared scope false w ≡ None
  pub name : IsName w
  pub low_fits : FitsInt low
  pub high_fits : FitsInt high

abbrev pub ParamsBack : (prelude : Bool) → Scope → Names → List Param → Type 0
ParamsBack prelude scope names [] = Unit {0}
ParamsBack prelude scope names (Number w low high ∷ qs) = NumberParamBack scope w low high × ParamsBack prelude (with_number false scope w) (and_number names w) qs
ParamsBack prelude scope names (Array d ∷ qs) = ArrayParamBack prelude scope names d × ParamsBack prelude (with_array scope d.name d.role (length d.extents)) (and_array_name names d.name) qs

pub sees_params : (scope : Scope) (names : Names) (qs : List Param) → Sees scope names → Sees (scope_params scope qs) (with_param_names names qs)
sees_params scope names [] sees = sees
sees_params scope names (Number w low high ∷ qs) sees = sees_params (with_number false scope w) (and_number names w) qs (sees_number false scope names w sees)
sees_params scope names (Array d ∷ qs) sees = sees_params (with_array scope d.name d.role (length d.extents)) (and_array_name names d.name) qs (sees_array scope names d.name d.role (length d.extents) sees)

pub found_later : (prelude : Bool) (scope : Scope) (names : Names) (qs : List Param) (w : Name) (t : Thing) → ParamsBack prelude scope names qs → thing_of scope w ≡ Some t → thing_of (scope_params scope qs) w ≡ Some t
found_later prelude scope names [] w t b e = e
found_later prelude scope names (Number v low high ∷ qs) w t b e =
    found_later prelude (with_number false scope v) (and_number names v) qs w t b.1 (other_thing scope v w _ (declared_apart scope false v w b.0.declared (some_true (thing_of scope w) t e)).0 ∙ e)
found_later prelude scope names (Array d ∷ qs) w t b e =
    found_later prelude (with_array scope d.name d.role (length d.extents)) (and_array_name names d.name) qs w t b.1 (other_thing scope d.name w _ (declared_apart scope false d.name w b.0.declared (some_true (thing_of scope w) t e)).0 ∙ e)

-- ---- Parameters that are read

-- a parameter comes from a text
pub record FromParam (prelude : Bool) (q : ParamDraft) : Type 0 where
  pub text : ParamText prelude
  pub at : ℕ
  pub is : param_draft at text ≡ q
  pub have : AllHave (param_symbols text)

pub params_from_text : {prelude : Bool} (c : ParamsText prelude) (at : ℕ) → AllHave (params_symbols c) → Each (FromParam prelude) (params_draft at c)
params_from_text (param a) at have = (record { text = a; at = at; is = refl; have = have }, tt)
params_from_text {prelude = prelude} (and_param ps a) at have =
    let h = have_parts (params_symbols ps) (mark (codes ",") ∷ param_symbols a) have in
    each_append (FromParam prelude) (params_draft at ps) (param_draft (at + length (params_symbols ps) + 1) a ∷ []) (params_from_text ps at h.0) (record { text = a; at = at + length (params_symbols ps) + 1; is = refl; have = h.1 }, tt)

-- every range fits
abbrev pub RangesFit : List PragmaDraft → Type 0
RangesFit ps = (w : Name) (low high : ℤ) → range_of w ps ≡ Some (low, high) → FitsInt low × FitsInt high

role_of : (is_const : Bool) → array_role (is_input (array_role is_const)) ≡ array_role is_const
role_of true = refl
role_of false = refl

some_cons : (prelude : Bool) {A : Type 0} (x : A) (xs : List A) (ys : List A) → ys ≡ x ∷ xs → ys ≡ [] → ⊥
some_cons prelude x xs ys e f = cc

record ArrayRead (prelude : Bool) (scope : Scope) (names : Names) (d : Decl) (q : DeclDraft) : Type 0 where
  back : ArrayParamBack prelude scope names d
  name : d.name ≡ q.word.name
  role : d.role ≡ q.role
  extents : length q.extents ≡ length d.extents

array_read : {prelude : Bool} (scope : Scope) (names : Names) → Sees scope names → (is_const : Bool) (w : Name) (first : IxText prelude) (others : DimsText prelude) → AllHave (word w ∷ (dim_symbols first ++ dims_symbols others))
    → (name_at : ℕ) (d : Decl) → let q : DeclDraft = record { word = word_draft name_at w; role = array_role is_const; extents = ix_draft (name_at + 2) first ∷ dims_draft (name_at + 1 + length (dim_symbols first)) others } in
    decl_tree scope q ≡ Ok d → ArrayRead prelude scope names d q
array_read {prelude = prelude} scope names sees is_const w first others have name_at d e =
    let q : DeclDraft = record { word = word_draft name_at w; role = array_role is_const; extents = ix_draft (name_at + 2) first ∷ dims_draft (name_at + 1 + length (dim_symbols first)) others } in
    let n = word_of_symbol w (dim_symbols first ++ dims_symbols others) have in
    let h = have_parts (dim_symbols first) (dims_symbols others) n.1 in
    let g = have_parts (ix_symbols first) (mark (codes "]") ∷ []) h.0 in
    let a = allowed_ok (why_declared scope false w) name_at _ d e in
    let p = both_ok (each (ix_tree scope) q.extents) _ d a.1 in
    let x = both_ok (ix_tree scope (ix_draft (name_at + 2) first)) _ p.0 p.1 in
    let y = both_ok (each (ix_tree scope) (dims_draft (name_at + 1 + length (dim_symbols first)) others)) _ p.0 x.2 in
    let all : x.0 ∷ y.0 ≡ p.0 = ok_of y.2 in
    subst (λ z. ArrayRead prelude scope names z q) (ok_of p.2) (record {
      back = record {
        declared = a.0;
        name = declared_name scope false w a.0 n.0;
        extents = subst (Extents prelude scope names) all (ix_back prelude scope names sees first g.0 (name_at + 2) x.0 x.1, dims_back prelude scope names sees others h.1 (name_at + 1 + length (dim_symbols first)) y.0 y.1);
        some = some_cons prelude x.0 y.0 p.0 (sym all);
        role = role_of is_const;
      };
      name = refl;
      role = refl;
      extents = each_length (ix_tree scope) q.extents p.0 p.1;
    })

record ParamsRead (prelude : Bool) (scope : Scope) (names : Names) (ds : List ParamDraft) (qs : List Param) : Type 0 where
  back : ParamsBack prelude scope names qs
  after : with_params scope ds ≡ scope_params scope qs

pub some_range : (at : ℕ) (w : Name) (r : Option (ℤ × ℤ)) (q : Param) → number_tree at w r ≡ Ok q → (low : ℤ) × (high : ℤ) × (r ≡ Some (low, high)) × (q ≡ Number w low high)
some_range at w None q e = absurd (cc)
some_range at w (Some r) q e = (r.0, r.1, refl, sym (ok_of e))

params_read : {prelude : Bool} (scope : Scope) (names : Names) → Sees scope names → (ps : List PragmaDraft) → RangesFit ps → (ds : List ParamDraft) (qs : List Param) → Each (FromParam prelude) ds → params_tree scope ps ds ≡ Ok qs → ParamsRead prelude scope names ds qs
params_read {prelude = prelude} scope names sees ps fit [] qs from e = subst (ParamsRead prelude scope names []) (ok_of e) (record { back = tt; after = refl })
params_read {prelude = prelude} scope names sees ps fit (d ∷ ds) qs from e =
    let p = both_ok (param_tree scope ps d) _ qs e in
    let q = both_ok (params_tree (with_param scope d) ps ds) _ qs p.2 in
    subst (ParamsRead prelude scope names (d ∷ ds)) (ok_of q.2) (of from.0.text from.0.at from.0.have from.0.is p.1 (λ names' sees'. params_read (with_param scope d) names' sees' ps fit ds q.0 from.1 q.1))
  where
    of : {x : Param} {xs : List Param} (text : ParamText prelude) (at : ℕ) → AllHave (param_symbols text) → param_draft at text ≡ d → param_tree scope ps d ≡ Ok x
        → ((names' : Names) → Sees (with_param scope d) names' → ParamsRead prelude (with_param scope d) names' ds xs) → ParamsRead prelude scope names (d ∷ ds) (x ∷ xs)
    of {x = x} {xs = xs} (number_param w) at have is e more =
        let n = word_of_symbol w [] have in
        let e' : param_tree scope ps (draft.number_param (word_draft (at + 1) w)) ≡ Ok x = ap (param_tree scope ps) is ∙ e in
        let a = allowed_ok (why_declared scope false w) (at + 1) _ x e' in
        let r = some_range (at + 1) w (range_of w ps) x a.1 in
        let f = fit w r.0 r.1 r.2 in
        let m = subst (λ z. (names' : Names) → Sees (with_param scope z) names' → ParamsRead prelude (with_param scope z) names' ds xs) (sym is) more (and_number names w) (sees_number false scope names w sees) in
        subst (λ z. ParamsRead prelude scope names (d ∷ ds) (z ∷ xs)) (sym r.3) (subst (λ z. ParamsRead prelude scope names (z ∷ ds) (Number w r.0 r.1 ∷ xs)) is (record {
          back = (record { declared = a.0; name = declared_name scope false w a.0 n.0; low_fits = f.0; high_fits = f.1 }, m.back);
          after = m.after;
        }))
    of {x = x} {xs = xs} (array_param is_const w first others) at have is e more =
        let h = have_parts (const_symbols is_const) (word (codes "uint64_t") ∷ word w ∷ (dim_symbols first ++ dims_symbols others)) have in
        let name_at = at + length (const_symbols is_const) + 1 in
        let q : DeclDraft = record { word = word_draft name_at w; role = array_role is_const; extents = ix_draft (name_at + 2) first ∷ dims_draft (name_at + 1 + length (dim_symbols first)) others } in
        let e' : param_tree scope ps (draft.array_param q) ≡ Ok x = ap (param_tree scope ps) is ∙ e in
        let p = both_ok (decl_tree scope q) _ x e' in
        let r = array_read scope names sees is_const w first others h.1 name_at p.0 p.1 in
        let same : with_param scope d ≡ with_array scope p.0.name p.0.role (length p.0.extents) =
        ap (with_param scope) (sym is) ∙ ap (λ n. with_array scope n (array_role is_const) (length q.extents)) (sym r.name) ∙ ap (λ s. with_array scope p.0.name s (length q.extents)) (sym r.role) ∙ ap (with_array scope p.0.name p.0.role) r.extents in
        let m = subst (λ z. (names' : Names) → Sees z names' → ParamsRead prelude z names' ds xs) same more' (and_array_name names p.0.name) (sees_array scope names p.0.name p.0.role (length p.0.extents) sees) in
        subst (λ z. ParamsRead prelude scope names (d ∷ ds) (z ∷ xs)) (ok_of p.2) (record { back = (r.back, m.back); after = ap (λ s. with_params s ds) same ∙ m.after })
      where
        more' : (names' : Names) → Sees (with_param scope d) names' → ParamsRead prelude (with_param scope d) names' ds xs
        more' = more

pub params_back : {prelude : Bool} (c : ParamsText prelude) → AllHave (params_symbols c) → (scope : Scope) (names : Names) → Sees scope names → (ps : List PragmaDraft) → RangesFit ps → (at : ℕ) (qs : List Param)
    → params_tree scope ps (params_draft at c) ≡ Ok qs → ParamsBack prelude scope names qs × (with_params scope (params_draft at c) ≡ scope_params scope qs)
params_back c have scope names sees ps fit at qs e =
    let r = params_read scope names sees ps fit (params_draft at c) qs (params_from_text c at have) e in (r.back, r.after)

-- ---- Parameters that are printed

abbrev pub PrintedParams : (prelude : Bool) → Names → List ParamDraft → List Param → Type 0
PrintedParams prelude names [] [] = Unit {0}
PrintedParams prelude names (d ∷ ds) (q ∷ qs) = ((at : ℕ) × (param_draft at (param_text prelude names q) ≡ d)) × PrintedParams prelude (and_param_name names q) ds qs
PrintedParams prelude names _ _ = ⊥

printed_snoc : (prelude : Bool) (names : Names) (ds : List ParamDraft) (ys : List Param) (q : Param) (at : ℕ) → PrintedParams prelude names ds ys
    → PrintedParams prelude names (ds ++ param_draft at (param_text prelude (with_param_names names ys) q) ∷ []) (ys ++ q ∷ [])
printed_snoc prelude names [] [] q at p = ((at, refl), tt)
printed_snoc prelude names [] (y ∷ ys) q at p = absurd p
printed_snoc prelude names (d ∷ ds) [] q at p = absurd p
printed_snoc prelude names (d ∷ ds) (y ∷ ys) q at p = (p.0, printed_snoc prelude (and_param_name names y) ds ys q at p.1)

names_snoc : (names : Names) (ys : List Param) (q : Param) → with_param_names names (ys ++ q ∷ []) ≡ and_param_name (with_param_names names ys) q
names_snoc names [] q = refl
names_snoc names (y ∷ ys) q = names_snoc (and_param_name names y) ys q

printed_from : (prelude : Bool) (names : Names) (c : ParamsText prelude) (ys qs : List Param) (at : ℕ) → PrintedParams prelude names (params_draft at c) ys
    → PrintedParams prelude names (params_draft at (and_params prelude (with_param_names names ys) c qs).0) (ys ++ qs)
printed_from prelude names c ys [] at p = subst (PrintedParams prelude names (params_draft at c)) (sym (append-nil ys)) p
printed_from prelude names c ys (q ∷ qs) at p =
    let next = and_param c (param_text prelude (with_param_names names ys) q) in
    let more = printed_from prelude names next (ys ++ q ∷ []) qs at (printed_snoc prelude names (params_draft at c) ys q (at + length (params_symbols c) + 1) p) in
    subst (PrintedParams prelude names (params_draft at (and_params prelude (and_param_name (with_param_names names ys) q) next qs).0)) (append_assoc ys (q ∷ []) qs)
    (subst (λ n. PrintedParams prelude names (params_draft at (and_params prelude n next qs).0) ((ys ++ q ∷ []) ++ qs)) (names_snoc names ys q) more)

params_printed : (prelude : Bool) (qs : List Param) (at : ℕ) → (qs ≡ [] → ⊥) → PrintedParams prelude no_names (params_draft at (params_text prelude qs).0) qs
params_printed prelude [] at some = absurd (some refl)
params_printed prelude (q ∷ qs) at some = printed_from prelude no_names (param (param_text prelude no_names q)) (q ∷ []) qs at ((at, refl), tt)

param_stands : (prelude : Bool) (scope : Scope) (names : Names) → Sees scope names → (q : Param) (qs : List Param) → ParamsBack prelude scope names (q ∷ qs) → AllStand (param_symbols (param_text prelude names q))
param_stands prelude scope names sees (Number w low high) qs b = symbol_of_name w [] b.0.name refl
param_stands prelude scope names sees (Array d) qs b = of d.extents b.0.extents b.0.some
  where
    const_stands : (is_const : Bool) → AllStand (const_symbols is_const)
    const_stands true = refl
    const_stands false = refl

    of : (es : List Ix) → Extents prelude scope names es → (es ≡ [] → ⊥) → AllStand (param_symbols (array_text prelude names d es))
    of [] x some = absurd (some refl)
    of (e ∷ es) x some =
        let first = ix_text prelude names e in
        let others = dims_text prelude names es in
        stand_both (const_symbols (is_input d.role)) (word (codes "uint64_t") ∷ word d.name ∷ (dim_symbols first ++ dims_symbols others)) (const_stands (is_input d.role))
        (symbol_of_name d.name (dim_symbols first ++ dims_symbols others) b.0.name
        (stand_both (dim_symbols first) (dims_symbols others) (stand_both (ix_symbols first) (mark (codes "]") ∷ []) x.0.whole_stands refl) (dims_again prelude scope names sees es x.1).stands))

params_stand_from : (prelude : Bool) (scope : Scope) (names : Names) → Sees scope names → (c : ParamsText prelude) (qs : List Param) → AllStand (params_symbols c) → ParamsBack prelude scope names qs → AllStand (params_symbols (and_params prelude names c qs).0)
params_stand_from prelude scope names sees c [] s b = s
params_stand_from prelude scope names sees c (Number w low high ∷ qs) s b =
    params_stand_from prelude (with_number false scope w) (and_number names w) (sees_number false scope names w sees) (and_param c (number_param w)) qs
    (stand_both (params_symbols c) (mark (codes ",") ∷ param_symbols (param_text prelude names (Number w low high))) s (param_stands prelude scope names sees (Number w low high) qs b)) b.1
params_stand_from prelude scope names sees c (Array d ∷ qs) s b =
    params_stand_from prelude (with_array scope d.name d.role (length d.extents)) (and_array_name names d.name) (sees_array scope names d.name d.role (length d.extents) sees) (and_param c (param_text prelude names (Array d))) qs
    (stand_both (params_symbols c) (mark (codes ",") ∷ param_symbols (param_text prelude names (Array d))) s (param_stands prelude scope names sees (Array d) qs b)) b.1

pub params_stand : (prelude : Bool) (scope : Scope) → Sees scope no_names → (qs : List Param) → (qs ≡ [] → ⊥) → ParamsBack prelude scope no_names qs → AllStand (params_symbols (params_text prelude qs).0)
params_stand prelude scope sees [] some b = absurd (some refl)
params_stand prelude scope sees (Number w low high ∷ qs) some b =
    params_stand_from prelude (with_number false scope w) (and_number no_names w) (sees_number false scope no_names w sees) (param (number_param w)) qs (param_stands prelude scope no_names sees (Number w low high) qs b) b.1
params_stand prelude scope sees (Array d ∷ qs) some b =
    params_stand_from prelude (with_array scope d.name d.role (length d.extents)) (and_array_name no_names d.name) (sees_array scope no_names d.name d.role (length d.extents) sees) (param (param_text prelude no_names (Array d))) qs (param_stands prelude scope no_names sees (Array d) qs b) b.1

-- a line gives the parameter its range
abbrev pub HasRange : List PragmaDraft → Param → Type 0
HasRange ps (Number w low high) = range_of w ps ≡ Some (low, high)
HasRange ps (Array d) = Unit {0}

array_again : (prelude : Bool) (scope : Scope) (names : Names) → Sees scope names → (ps : List PragmaDraft) (d : Decl) → ArrayParamBack prelude scope names d → (at : ℕ)
    → (param_tree scope ps (param_draft at (array_text prelude names d d.extents)) ≡ Ok (Array d)) × (with_param scope (param_draft at (array_text prelude names d d.extents)) ≡ with_array scope d.name d.role (length d.extents))
array_again prelude scope names sees ps d b at = of d.extents refl b.extents b.some
  where
    of : (es : List Ix) → d.extents ≡ es → Extents prelude scope names es → (es ≡ [] → ⊥)
        → (param_tree scope ps (param_draft at (array_text prelude names d es)) ≡ Ok (Array d)) × (with_param scope (param_draft at (array_text prelude names d es)) ≡ with_array scope d.name d.role (length es))
    of [] is x some = absurd (some refl)
    of (e ∷ es) is x some =
        let first = ix_text prelude names e in
        let others = dims_text prelude names es in
        let name_at = at + length (const_symbols (is_input d.role)) + 1 in
        let r = dims_again prelude scope names sees es x.1 in
        let more = dims_draft (name_at + 1 + length (dim_symbols first)) others in
        let read : each (ix_tree scope) (ix_draft (name_at + 2) first ∷ more) ≡ Ok (e ∷ es) = then_is (ix_tree scope (ix_draft (name_at + 2) first)) _ e _ (x.0.whole (name_at + 2)) (then_is (each (ix_tree scope) more) _ es _ (r.reads _) refl) in
        let q : DeclDraft = record { word = word_draft name_at d.name; role = array_role (is_input d.role); extents = ix_draft (name_at + 2) first ∷ more } in
        let same : ◌≡◌ {A = Decl} (record { name = d.name; role = array_role (is_input d.role); extents = e ∷ es }) d = ap (λ s. record { name = d.name; role = s; extents = e ∷ es }) b.role ∙ ap (λ l. record { name = d.name; role = d.role; extents = l }) (sym is) in (
          then_is (decl_tree scope q) _ d _ (allowed_is (why_declared scope false d.name) name_at _ _ b.declared (then_is (each (ix_tree scope) q.extents) _ (e ∷ es) _ read (ap (λ z. Ok z) same))) refl,
          ap (λ s. with_array scope d.name s (length q.extents)) b.role ∙ ap (with_array scope d.name d.role) (each_length (ix_tree scope) q.extents (e ∷ es) read),
        )

params_again_from : (prelude : Bool) (scope : Scope) (names : Names) → Sees scope names → (ps : List PragmaDraft) (ds : List ParamDraft) (qs : List Param) → PrintedParams prelude names ds qs → ParamsBack prelude scope names qs → Each (HasRange ps) qs
    → params_tree scope ps ds ≡ Ok qs
params_again_from prelude scope names sees ps [] [] p b r = refl
params_again_from prelude scope names sees ps [] (q ∷ qs) p b r = absurd p
params_again_from prelude scope names sees ps (d ∷ ds) [] p b r = absurd p
params_again_from prelude scope names sees ps (d ∷ ds) (Number w low high ∷ qs) p b r =
    let at = p.0.0 in
    let one : param_tree scope ps (param_draft at (param_text prelude names (Number w low high))) ≡ Ok (Number w low high) = allowed_is (why_declared scope false w) (at + 1) _ _ b.0.declared (ap (number_tree (at + 1) w) r.0) in
    ap (λ z. params_tree scope ps (z ∷ ds)) (sym p.0.1)
    ∙ then_is (param_tree scope ps (param_draft at (param_text prelude names (Number w low high)))) _ (Number w low high) _ one
    (then_is (params_tree (with_number false scope w) ps ds) _ qs _ (params_again_from prelude (with_number false scope w) (and_number names w) (sees_number false scope names w sees) ps ds qs p.1 b.1 r.1) refl)
params_again_from prelude scope names sees ps (d ∷ ds) (Array a ∷ qs) p b r =
    let at = p.0.0 in
    let one = array_again prelude scope names sees ps a b.0 at in
    let d' = param_draft at (param_text prelude names (Array a)) in
    ap (λ z. params_tree scope ps (z ∷ ds)) (sym p.0.1)
    ∙ then_is (param_tree scope ps d') _ (Array a) _ one.0
    (then_is (params_tree (with_param scope d') ps ds) _ qs _ (ap (λ s. params_tree s ps ds) one.1 ∙ params_again_from prelude (with_array scope a.name a.role (length a.extents)) (and_array_name names a.name) (sees_array scope names a.name a.role (length a.extents) sees) ps ds qs p.1 b.1 r.1) refl)

pub params_again : (prelude : Bool) (scope : Scope) → Sees scope no_names → (ps : List PragmaDraft) (qs : List Param) → (qs ≡ [] → ⊥) → ParamsBack prelude scope no_names qs → Each (HasRange ps) qs → (at : ℕ)
    → params_tree scope ps (params_draft at (params_text prelude qs).0) ≡ Ok qs
params_again prelude scope sees ps qs some b r at = params_again_from prelude scope no_names sees ps (params_draft at (params_text prelude qs).0) qs (params_printed prelude qs at some) b r

params_some : {prelude : Bool} (c : ParamsText prelude) (at : ℕ) → (d : ParamDraft) × (ds : List ParamDraft) × (params_draft at c ≡ d ∷ ds)
params_some (param a) at = (param_draft at a, [], refl)
params_some (and_param ps a) at = let p = params_some ps at in (p.0, p.1 ++ param_draft (at + length (params_symbols ps) + 1) a ∷ [], ap (λ l. l ++ param_draft (at + length (params_symbols ps) + 1) a ∷ []) p.2)

-- a text has a parameter
pub params_nonempty : {prelude : Bool} (c : ParamsText prelude) (scope : Scope) (ps : List PragmaDraft) (at : ℕ) (qs : List Param) → params_tree scope ps (params_draft at c) ≡ Ok qs → qs ≡ [] → ⊥
params_nonempty c scope ps at qs e =
    let s = params_some c at in
    let e' : params_tree scope ps (s.0 ∷ s.1) ≡ Ok qs = ap (params_tree scope ps) (sym s.2) ∙ e in
    let p = both_ok (param_tree scope ps s.0) _ qs e' in
    let q = both_ok (params_tree (with_param scope s.0) ps s.1) _ qs p.2 in
    some_cons true p.0 q.0 qs (sym (ok_of q.2))

params_scope_from : (prelude : Bool) (scope : Scope) (names : Names) → Sees scope names → (ds : List ParamDraft) (qs : List Param) → PrintedParams prelude names ds qs → ParamsBack prelude scope names qs → with_params scope ds ≡ scope_params scope qs
params_scope_from prelude scope names sees [] [] p b = refl
params_scope_from prelude scope names sees [] (q ∷ qs) p b = absurd p
params_scope_from prelude scope names sees (d ∷ ds) [] p b = absurd p
params_scope_from prelude scope names sees (d ∷ ds) (Number w low high ∷ qs) p b =
    ap (λ z. with_params (with_param scope z) ds) (sym p.0.1) ∙ params_scope_from prelude (with_number false scope w) (and_number names w) (sees_number false scope names w sees) ds qs p.1 b.1
params_scope_from prelude scope names sees (d ∷ ds) (Array a ∷ qs) p b =
    ap (λ z. with_params (with_param scope z) ds) (sym p.0.1) ∙ ap (λ s. with_params s ds) (array_again prelude scope names sees [] a b.0 p.0.0).1
    ∙ params_scope_from prelude (with_array scope a.name a.role (length a.extents)) (and_array_name names a.name) (sees_array scope names a.name a.role (length a.extents) sees) ds qs p.1 b.1

pub params_scope : (prelude : Bool) (scope : Scope) → Sees scope no_names → (qs : List Param) → (qs ≡ [] → ⊥) → ParamsBack prelude scope no_names qs → (at : ℕ) → with_params scope (params_draft at (params_text prelude qs).0) ≡ scope_params scope qs
params_scope prelude scope sees qs some b at = params_scope_from prelude scope no_names sees (params_draft at (params_text prelude qs).0) qs (params_printed prelude qs at some) b
