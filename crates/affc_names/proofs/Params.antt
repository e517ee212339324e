-- Parameters and temporaries, one after another, and what lines see where parameters have one name.
use Rattle.std.proofs.Common.{◌≡◌, ℕ, ◌+◌, ◌<◌, ◌≤◌, arith, Bool, true, false, cond, count_by, is_some, List, [], ◌∷◌, ◌++◌, length, get_or, drop, map, Option, Some, None, Ok, Err, refl, sym, ap, ◌∙◌, subst, append_assoc, append-nil}
use Rattle.std.proofs.lemmas.List.{length-map}
use Rattle.std.specs.Option.{option_or}
use Rattle.std.specs.List.{find}
use Rattle.affc_lex.specs.Bytes.{same}
use Rattle.affc_ast.specs.declared.tree.Decl.{Decl}
use Rattle.affc_ast.specs.declared.tree.Param.{Param}
use Rattle.affc_grammar.specs.Grammar.{Name}
use Rattle.affc_grammar.specs.Draft as d
use Rattle.affc_grammar.specs.Names.{Thing, function, number, array, Visible, is_number_thing, is_array_thing, Scope, Checked, ◌>>=◌, allowed, thing_of, with_param, with_params, with_array, outermost, number_tree, why_declared, decl_tree, param_tree, params_tree, temps_tree}
use Rattle.affc_syntax.specs.declared.draft.draft.ParamDraft as code
use Rattle.affc_syntax.specs.declared.draft.draft.DeclDraft as code_decl
use Rattle.affc_syntax.specs.draft.Drafts as seen
use Rattle.affc_names.specs.declared.fault.NameFault.{NameFault}
use Rattle.affc_names.specs.declared.fault.NameFault.TheVariants.{Memory, Refused}
use Rattle.affc_names.specs.Gives.{Fails}
use Rattle.affc_names.specs.Stored as stored
use Rattle.affc_names.specs.Ranges.{GiveSameRanges}
use Rattle.affc_names.specs.Kinds.{kind_of, param_kind, AreAlike, IsBeneath, NamesFunction}
use Rattle.affc_names.specs.Visible.{thing_in}
use Rattle.affc_names.proofs.Tables.{same_is}
use Rattle.affc_names.proofs.LineLaws.{first_from}

-- ---- Parameters

abbrev pub seen_params : List code.ParamDraft → List d.ParamDraft
seen_params qs = map stored.param (map seen.param qs)

abbrev pub behind : List Param → Checked (List Param) → Checked (List Param)
behind done m = m >>= (λ xs. Ok (done ++ xs))

abbrev answered : List Param → Checked (List Param)
answered l = Ok l

pub params_end : (s : Scope) (ps : List d.PragmaDraft) (done : List Param) → behind done (params_tree s ps []) ≡ Ok done
params_end s ps done = ap answered (append-nil done)

regrouped : (done : List Param) (x : Param) (m : Checked (List Param)) → behind done (m >>= (λ xs. Ok (x ∷ xs))) ≡ behind (done ++ x ∷ []) m
regrouped done x (Err r) = refl
regrouped done x (Ok xs) = ap answered (sym (append_assoc done (x ∷ []) xs))

pub params_turn : (s t : Scope) (ps : List d.PragmaDraft) (cs : List code.ParamDraft) (i : ℕ) (c : code.ParamDraft) (done : List Param) (x : Param) → i < length cs → c ≡ get_or cs i c
    → param_tree s ps (stored.param (seen.param c)) ≡ Ok x → t ≡ with_param s (stored.param (seen.param c))
    → behind done (params_tree s ps (seen_params (drop i cs))) ≡ behind (done ++ x ∷ []) (params_tree t ps (seen_params (drop (i + 1) cs)))
params_turn s t ps cs i c done x lt is here next =
    let rest = seen_params (drop (i + 1) cs) in
    let inner = with_param s (stored.param (seen.param c)) in
    ap (λ l. behind done (params_tree s ps l)) (first_from stored.param seen.param cs i c lt is)
    ∙ ap (λ m. behind done (m >>= (λ y. params_tree inner ps rest >>= (λ ys. Ok (y ∷ ys))))) here
    ∙ regrouped done x (params_tree inner ps rest)
    ∙ ap (λ u. behind (done ++ x ∷ []) (params_tree u ps rest)) (sym next)

pub params_stop : (s : Scope) (ps : List d.PragmaDraft) (cs : List code.ParamDraft) (i : ℕ) (c : code.ParamDraft) (done : List Param) (fault : NameFault) → i < length cs → c ≡ get_or cs i c
    → Fails fault (param_tree s ps (stored.param (seen.param c))) → Fails fault (behind done (params_tree s ps (seen_params (drop i cs))))
params_stop s ps cs i c done Memory lt is here = tt
params_stop s ps cs i c done (Refused at why) lt is here =
    let rest = seen_params (drop (i + 1) cs) in
    let inner = with_param s (stored.param (seen.param c)) in
    ap (λ l. behind done (params_tree s ps l)) (first_from stored.param seen.param cs i c lt is)
    ∙ ap (λ m. behind done (m >>= (λ y. params_tree inner ps rest >>= (λ ys. Ok (y ∷ ys))))) here

pub visible_turn : (s t : Scope) (cs : List code.ParamDraft) (i : ℕ) (c : code.ParamDraft) → i < length cs → c ≡ get_or cs i c → t ≡ with_param s (stored.param (seen.param c))
    → with_params s (seen_params (drop i cs)) ≡ with_params t (seen_params (drop (i + 1) cs))
visible_turn s t cs i c lt is next =
    ap (with_params s) (first_from stored.param seen.param cs i c lt is) ∙ ap (λ u. with_params u (seen_params (drop (i + 1) cs))) (sym next)

-- only the ranges of lines matter to parameters
pub params_ranges : (s : Scope) (ps ls : List d.PragmaDraft) (qs : List d.ParamDraft) → GiveSameRanges ps ls → params_tree s ps qs ≡ params_tree s ls qs
params_ranges s ps ls [] h = refl
params_ranges s ps ls (d.number_param w ∷ qs) h =
    ap (λ o. allowed (why_declared s false w.name) w.at (number_tree w.at w.name o) >>= (λ x. params_tree (with_param s (d.number_param w)) ps qs >>= (λ xs. Ok (x ∷ xs)))) (h w.name)
    ∙ ap (λ m. param_tree s ls (d.number_param w) >>= (λ x. m >>= (λ xs. Ok (x ∷ xs)))) (params_ranges (with_param s (d.number_param w)) ps ls qs h)
params_ranges s ps ls (d.array_param k ∷ qs) h = ap (λ m. param_tree s ls (d.array_param k) >>= (λ x. m >>= (λ xs. Ok (x ∷ xs)))) (params_ranges (with_param s (d.array_param k)) ps ls qs h)

-- ---- Temporaries

abbrev pub seen_decls : List code_decl.DeclDraft → List d.DeclDraft
seen_decls ds = map stored.decl (map seen.decl ds)

abbrev pub behind_temps : List Decl → Checked (List Decl × Scope) → Checked (List Decl × Scope)
behind_temps done m = m >>= (λ o. Ok (done ++ o.0, o.1))

abbrev join_temp : Decl → List Decl × Scope → Checked (List Decl × Scope)
join_temp x o = Ok (x ∷ o.0, o.1)

abbrev with_scope : Scope → List Decl → Checked (List Decl × Scope)
with_scope s l = Ok (l, s)

regrouped_temps : (done : List Decl) (x : Decl) (m : Checked (List Decl × Scope)) → behind_temps done (m >>= (λ o. Ok (x ∷ o.0, o.1))) ≡ behind_temps (done ++ x ∷ []) m
regrouped_temps done x (Err r) = refl
regrouped_temps done x (Ok o) = ap (with_scope o.1) (sym (append_assoc done (x ∷ []) o.0))

pub temps_turn : (s t : Scope) (cs : List code_decl.DeclDraft) (i : ℕ) (c : code_decl.DeclDraft) (done : List Decl) (x : Decl) → i < length cs → c ≡ get_or cs i c
    → decl_tree s (stored.decl (seen.decl c)) ≡ Ok x → t ≡ with_array s c.word.name c.role (length c.extents)
    → behind_temps done (temps_tree s (seen_decls (drop i cs))) ≡ behind_temps (done ++ x ∷ []) (temps_tree t (seen_decls (drop (i + 1) cs)))
temps_turn s t cs i c done x lt is here next =
    let rest = seen_decls (drop (i + 1) cs) in
    let inner = with_array s c.word.name c.role (length (map stored.ix (map seen.ix c.extents))) in
    ap (λ l. behind_temps done (temps_tree s l)) (first_from stored.decl seen.decl cs i c lt is)
    ∙ ap (λ (m : Checked Decl). behind_temps done (m >>= (λ y. temps_tree inner rest >>= join_temp y))) here
    ∙ regrouped_temps done x (temps_tree inner rest)
    ∙ ap (λ u. behind_temps (done ++ x ∷ []) (temps_tree u rest)) (ap (with_array s c.word.name c.role) (length-map (map seen.ix c.extents) stored.ix ∙ length-map c.extents seen.ix) ∙ sym next)

pub temps_stop : (s : Scope) (cs : List code_decl.DeclDraft) (i : ℕ) (c : code_decl.DeclDraft) (done : List Decl) (fault : NameFault) → i < length cs → c ≡ get_or cs i c
    → Fails fault (decl_tree s (stored.decl (seen.decl c))) → Fails fault (behind_temps done (temps_tree s (seen_decls (drop i cs))))
temps_stop s cs i c done Memory lt is here = tt
temps_stop s cs i c done (Refused at why) lt is here =
    let rest = seen_decls (drop (i + 1) cs) in
    let inner = with_array s c.word.name c.role (length (map stored.ix (map seen.ix c.extents))) in
    ap (λ l. behind_temps done (temps_tree s l)) (first_from stored.decl seen.decl cs i c lt is)
    ∙ ap (λ (m : Checked Decl). behind_temps done (m >>= (λ y. temps_tree inner rest >>= join_temp y))) here

-- ---- Parameters of one name

abbrev pub kinds_in : List d.ParamDraft → Name → Option Thing
kinds_in [] w = None
kinds_in (q ∷ qs) w = option_or (kinds_in qs w) (param_kind q w)

or_assoc : (a b c : Option Thing) → option_or a (option_or b c) ≡ option_or (option_or a b) c
or_assoc None b c = refl
or_assoc (Some a) b c = refl

one_kind : (s : Scope) (q : d.ParamDraft) (w : Name) → kind_of (thing_of (with_param s q) w) ≡ option_or (param_kind q w) (kind_of (thing_of s w))
one_kind s (d.number_param v) w = by (same v.name w) (find (λ u. same u.name w) s.visible)
  where
    by : (b : Bool) (o : Option Visible) → kind_of (thing_in (cond b (Some (record { name = v.name; thing = number (count_by is_number_thing s.visible) false })) o)) ≡ option_or (cond b (Some (number 0 false)) None) (kind_of (thing_in o))
    by true o = refl
    by false o = refl
one_kind s (d.array_param k) w = by (same k.word.name w) (find (λ u. same u.name w) s.visible)
  where
    by : (b : Bool) (o : Option Visible) → kind_of (thing_in (cond b (Some (record { name = k.word.name; thing = array (count_by is_array_thing s.visible) k.role (length k.extents) })) o)) ≡ option_or (cond b (Some (array 0 k.role (length k.extents))) None) (kind_of (thing_in o))
    by true o = refl
    by false o = refl

pub kinds_with : (s : Scope) (qs : List d.ParamDraft) (w : Name) → kind_of (thing_of (with_params s qs) w) ≡ option_or (kinds_in qs w) (kind_of (thing_of s w))
kinds_with s [] w = refl
kinds_with s (q ∷ qs) w = kinds_with (with_param s q) qs w ∙ ap (option_or (kinds_in qs w)) (one_kind s q w) ∙ or_assoc (kinds_in qs w) (param_kind q w) (kind_of (thing_of s w))

prelude_kept : (s : Scope) (qs : List d.ParamDraft) → (with_params s qs).has_prelude ≡ s.has_prelude
prelude_kept s [] = refl
prelude_kept s (d.number_param v ∷ qs) = prelude_kept (with_param s (d.number_param v)) qs
prelude_kept s (d.array_param k ∷ qs) = prelude_kept (with_param s (d.array_param k)) qs

or_nothing : (o : Option Thing) → option_or o None ≡ o
or_nothing None = refl
or_nothing (Some t) = refl

-- where the name is visible already
there : (s : Scope) (name w : Name) (k : Thing) → is_some (thing_of s name) ≡ true → kind_of (thing_of s w) ≡ option_or (kind_of (thing_of s w)) (cond (same name w) (Some k) None)
there s name w k h = by (same name w) refl
  where
    some_first : (o : Option Thing) (p : Option Thing) → is_some o ≡ true → kind_of o ≡ option_or (kind_of o) p
    some_first None p e = absurd (cc)
    some_first (Some function) p e = refl
    some_first (Some (number id it)) p e = refl
    some_first (Some (array id role n)) p e = refl

    by : (b : Bool) → same name w ≡ b → kind_of (thing_of s w) ≡ option_or (kind_of (thing_of s w)) (cond b (Some k) None)
    by true e = some_first (thing_of s w) (Some k) (subst (λ x. is_some (thing_of s x) ≡ true) (same_is name w e) h)
    by false e = sym (or_nothing (kind_of (thing_of s w)))

-- where it isn't
not_there : (s : Scope) (name w : Name) (k : Thing) → thing_of s name ≡ None → option_or (cond (same name w) (Some k) None) (kind_of (thing_of s w)) ≡ option_or (kind_of (thing_of s w)) (cond (same name w) (Some k) None)
not_there s name w k h = by (same name w) refl
  where
    by : (b : Bool) → same name w ≡ b → option_or (cond b (Some k) None) (kind_of (thing_of s w)) ≡ option_or (kind_of (thing_of s w)) (cond b (Some k) None)
    by true e =
        let none : kind_of (thing_of s w) ≡ None = ap kind_of (subst (λ x. thing_of s x ≡ None) (same_is name w e) h) in
        ap (λ o. option_or (Some k) o) none ∙ ap (λ o. option_or o (Some k)) (sym none)
    by false e = sym (or_nothing (kind_of (thing_of s w)))

pub number_there : (s t : Scope) (v : d.WordDraft) → is_some (thing_of s v.name) ≡ true → t ≡ s → IsBeneath (d.number_param v) s t
number_there s t v h e = record { has_prelude = ap (λ u. u.has_prelude) e; kinds = λ w. ap (λ u. kind_of (thing_of u w)) e ∙ there s v.name w (number 0 false) h }

pub array_there : (s t : Scope) (k : d.DeclDraft) → is_some (thing_of s k.word.name) ≡ true → t ≡ s → IsBeneath (d.array_param k) s t
array_there s t k h e = record { has_prelude = ap (λ u. u.has_prelude) e; kinds = λ w. ap (λ u. kind_of (thing_of u w)) e ∙ there s k.word.name w (array 0 k.role (length k.extents)) h }

pub last_alike : (c : d.TextDraft) (qs : List d.ParamDraft) (s t : Scope) → s.has_prelude ≡ c.has_prelude → ((w : Name) → kind_of (thing_of s w) ≡ kinds_in qs w) → NamesFunction c.function.name s t
    → AreAlike t (with_params (outermost c) qs)
last_alike c qs s t p k h = record {
  has_prelude = h.has_prelude ∙ p ∙ sym (prelude_kept (outermost c) qs);
  kinds = λ w. h.kinds w ∙ ap (λ o. option_or o (cond (same c.function.name w) (Some function) None)) (k w) ∙ ap (option_or (kinds_in qs w)) (sym (outermost_kind w)) ∙ sym (kinds_with (outermost c) qs w);
}
  where
    outermost_kind : (w : Name) → kind_of (thing_of (outermost c) w) ≡ cond (same c.function.name w) (Some function) None
    outermost_kind w = by (same c.function.name w)
      where
        by : (b : Bool) → kind_of (thing_in (cond b (Some (record { name = c.function.name; thing = function })) None)) ≡ cond b (Some function) None
        by true = refl
        by false = refl

pub last_from : (c : d.TextDraft) (ps slice : List code.ParamDraft) (left : ℕ) (s t : Scope) (name : Name) → left ≤ 0 → slice ≡ ps → name ≡ c.function.name → s.has_prelude ≡ c.has_prelude
    → ((w : Name) → kind_of (thing_of s w) ≡ kinds_in (map seen.param (drop left slice)) w) → NamesFunction name s t → AreAlike t (with_params (outermost c) (map seen.param ps))
last_from c ps slice left s t name none same named p k h =
    let zero : left ≡ 0 = omega (arith, none) in
    last_alike c (map seen.param ps) s t p (λ w. k w ∙ ap (λ n. kinds_in (map seen.param (drop n slice)) w) zero ∙ ap (λ l. kinds_in (map seen.param l) w) same) (subst (λ x. NamesFunction x s t) named h)
