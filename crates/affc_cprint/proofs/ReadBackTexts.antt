-- Declarations, lines before the function and whole programs that are read are printed as ones that are read so, and whose tokens a text can have.
use Rattle.std.proofs.Common.{◌≡◌, ◌⊎◌, inl, inr, ℕ, ◌+◌, ◌||◌, Bool, true, false, not, List, [], ◌∷◌, ◌++◌, map, length, codes, Option, Some, None, is_some, Ok, ℤ, IsTrue, refl, sym, ap, subst, ◌∙◌, append_assoc, if◌then◌else◌}
use Rattle.std.proofs.lemmas.List.{append-nil}
use Rattle.std.proofs.lemmas.Bool.{false≢true}
use Rattle.std.specs.List.{list_any}
use Rattle.affc_lex.specs.Bytes.{same}
use Rattle.affc_ast.specs.declared.tree.Compare.{Compare}
use Rattle.affc_ast.specs.declared.tree.Role.{Role}
use Rattle.affc_ast.specs.declared.tree.Role.TheVariants.{Temp}
use Rattle.affc_ast.specs.declared.tree.Decl.{Decl}
use Rattle.affc_ast.specs.declared.tree.Param.{Param}
use Rattle.affc_ast.specs.declared.tree.Param.TheVariants.{Number, Array}
use Rattle.affc_ast.specs.declared.tree.Program.{Program}
use Rattle.affc_grammar.specs.declared.fault.NameWhy.TheVariants.{Twice, Reserved}
use Rattle.affc_grammar.specs.Grammar.{Name, word, mark, NamesText, one_array, and_array, DeclsText, no_decls, and_decl, DimsText, PragmasText, no_pragmas, and_range, and_context, line_feed, CondText, no_stmts, Text, dims_symbols, cond_symbols, names_symbols, decls_symbols, stmts_symbols, params_symbols, int_symbols, line_symbols, pragma_symbols, pragmas_symbols, prelude_symbols, include_symbols, function_symbols, text_symbols, context_calls}
use Rattle.affc_grammar.specs.Draft as draft
use Rattle.affc_grammar.specs.Draft.{DeclDraft, PragmaDraft, TextDraft, word_draft, dims_draft, cond_draft, comparisons_in, temp_draft, names_draft, decls_draft, int_value, pragmas_draft, params_draft, stmts_draft, text_draft}
use Rattle.affc_grammar.specs.Names.{Thing, function, number, array, Scope, first_reason, each, thing_of, is_refused_word, why_declared, why_ranged, with_thing, with_number, with_array, ix_tree, compare_tree, decl_tree, range_of, params_tree, temps_tree, with_params, outermost, pragmas_tree, function_why, stmts_tree, program_tree}
use Rattle.affc_grammar.specs.Printed.{Names, no_names, and_number, and_array_name, dims_text, tests_text, params_text, decls_text, int_text, ranges_text, context_text, stmts_text, stmt_text, function_text, with_pragmas, printed, holding}
use Rattle.affc_cprint.specs.Layout.{◌then◌, pragmas_layout, prelude_layout, function_layout, pragmas_of, printed_text}
use Rattle.affc_cprint.specs.Programs.{with_param_names, with_array_names}
use Rattle.affc_cprint.proofs.Spelled.{AllHave, AllStand, have_parts, stand_both, IsName, symbol_of_name}
use Rattle.affc_cprint.proofs.LexedPrograms.{LinesStand}
use Rattle.affc_cprint.proofs.Places.{some_held}
use Rattle.affc_cprint.proofs.Programs.{param_names_are, decl_names_from}
use Rattle.affc_cprint.proofs.Sees.{ok_of, both_ok, then_is, allowed_ok, allowed_is, same_self, declared_none, first_none, not_static, new_or_old, Sees, sees_array}
use Rattle.affc_cprint.proofs.Visible.{IsVisible, new_is_seen, still_visible, declared_apart}
use Rattle.affc_cprint.proofs.ReadBack.{word_of_symbol}
use Rattle.affc_cprint.proofs.ReadBackValues.{Each, each_append, each_length, dims_back, dims_again, IsCompareBack, tests_back, tests_again}
use Rattle.affc_cprint.proofs.ReadBackStatements.{declared_name, StmtBack, stmts_back, stmts_again}
use Rattle.affc_cprint.proofs.ReadBackParams.{FitsInt, int_fits, int_again, found_later, Extents, ParamsBack, RangesFit, scope_params, sees_params, HasRange, params_back, params_nonempty, params_again, params_scope, params_stand}

-- ---- Declarations

abbrev pub scope_temps : Scope → List Decl → Scope
scope_temps scope [] = scope
scope_temps scope (d ∷ ds) = scope_temps (with_array scope d.name d.role (length d.extents)) ds

pub record TempBack (prelude : Bool) (scope : Scope) (names : Names) (d : Decl) : Type 0 where
  pub declared : why_declared scope false d.name ≡ None
  pub name : IsName d.name
  pub extents : Extents prelude scope names d.extents
  pub role : d.role ≡ Temp

abbrev pub TempsBack : (prelude : Bool) → Scope → Names → List Decl → Type 0
TempsBack prelude scope names [] = Unit {0}
TempsBack prelude scope names (d ∷ ds) = TempBack prelude scope names d × TempsBack prelude (with_array scope d.name d.role (length d.extents)) (and_array_name names d.name) ds

pub sees_temps : (scope : Scope) (names : Names) (ds : List Decl) → Sees scope names → Sees (scope_temps scope ds) (with_array_names names ds)
sees_temps scope names [] sees = sees
sees_temps scope names (d ∷ ds) sees = sees_temps (with_array scope d.name d.role (length d.extents)) (and_array_name names d.name) ds (sees_array scope names d.name d.role (length d.extents) sees)

-- a declaration comes from a text
pub record FromTemp (prelude : Bool) (q : DeclDraft) : Type 0 where
  pub name : Name
  pub dims : DimsText prelude
  pub at : ℕ
  pub is : temp_draft at name dims ≡ q
  pub have : AllHave (word name ∷ dims_symbols dims)

names_from_text : {prelude : Bool} (c : NamesText prelude) (at : ℕ) → AllHave (names_symbols c) → Each (FromTemp prelude) (names_draft at c)
names_from_text (one_array w dims) at have = (record { name = w; dims = dims; at = at; is = refl; have = have }, tt)
names_from_text {prelude = prelude} (and_array ns w dims) at have =
    let h = have_parts (names_symbols ns) (mark (codes ",") ∷ word w ∷ dims_symbols dims) have in
    let here = at + length (names_symbols ns) + 1 in
    each_append (FromTemp prelude) (names_draft at ns) (temp_draft here w dims ∷ []) (names_from_text ns at h.0) (record { name = w; dims = dims; at = here; is = refl; have = h.1 }, tt)

pub decls_from_text : {prelude : Bool} (c : DeclsText prelude) (at : ℕ) → AllHave (decls_symbols c) → Each (FromTemp prelude) (decls_draft at c)
decls_from_text no_decls at have = tt
decls_from_text {prelude = prelude} (and_decl ds ns) at have =
    let h = have_parts (decls_symbols ds) (word (codes "uint64_t") ∷ (names_symbols ns ++ mark (codes ";") ∷ [])) have in
    let g = have_parts (names_symbols ns) (mark (codes ";") ∷ []) h.1 in
    let here = at + length (decls_symbols ds) + 1 in
    each_append (FromTemp prelude) (decls_draft at ds) (names_draft here ns) (decls_from_text ds at h.0) (names_from_text ns here g.0)

record TempsRead (prelude : Bool) (scope : Scope) (names : Names) (r : List Decl × Scope) : Type 0 where
  back : TempsBack prelude scope names r.0
  after : r.1 ≡ scope_temps scope r.0

temps_read : {prelude : Bool} (scope : Scope) (names : Names) → Sees scope names → (ds : List DeclDraft) (r : List Decl × Scope) → Each (FromTemp prelude) ds → temps_tree scope ds ≡ Ok r → TempsRead prelude scope names r
temps_read {prelude = prelude} scope names sees [] r from e = subst (TempsRead prelude scope names) (ok_of e) (record { back = tt; after = refl })
temps_read {prelude = prelude} scope names sees (d ∷ ds) r from e =
    let f = from.0 in
    let q = temp_draft f.at f.name f.dims in
    let n = word_of_symbol f.name (dims_symbols f.dims) f.have in
    let e' : temps_tree scope (q ∷ ds) ≡ Ok r = ap (λ z. temps_tree scope (z ∷ ds)) f.is ∙ e in
    let p = both_ok (decl_tree scope q) _ r e' in
    let t = both_ok (temps_tree (with_array scope f.name Temp (length q.extents)) ds) _ r p.2 in
    let a = allowed_ok (why_declared scope false f.name) f.at _ p.0 p.1 in
    let x = both_ok (each (ix_tree scope) q.extents) _ p.0 a.1 in
    let is : ◌≡◌ {A = Decl} (record { name = f.name; role = Temp; extents = x.0 }) p.0 = ok_of x.2 in
    let long : length q.extents ≡ length x.0 = each_length (ix_tree scope) q.extents x.0 x.1 in
    let more = temps_read (with_array scope f.name Temp (length x.0)) (and_array_name names f.name) (sees_array scope names f.name Temp (length x.0) sees) ds t.0 from.1 (ap (λ n. temps_tree (with_array scope f.name Temp n) ds) (sym long) ∙ t.1) in
    subst (TempsRead prelude scope names) (ap (λ z. (z ∷ t.0.0, t.0.1)) is ∙ ok_of t.2) (record {
      back = (record { declared = a.0; name = declared_name scope false f.name a.0 n.0; extents = dims_back prelude scope names sees f.dims n.1 (f.at + 1) x.0 x.1; role = refl }, more.back);
      after = more.after;
    })

-- what is printed for declarations
abbrev PrintedTemps : (prelude : Bool) → Names → List DeclDraft → List Decl → Type 0
PrintedTemps prelude names [] [] = Unit {0}
PrintedTemps prelude names (d ∷ ds) (t ∷ ts) = ((at : ℕ) × (temp_draft at t.name (dims_text prelude names t.extents) ≡ d)) × PrintedTemps prelude (and_array_name names t.name) ds ts
PrintedTemps prelude names _ _ = ⊥

temps_printed : (prelude : Bool) (names : Names) (c : DeclsText prelude) (ts : List Decl) (at : ℕ) → (ds : List DeclDraft) × (decls_draft at (decls_text prelude names c ts).0 ≡ decls_draft at c ++ ds) × PrintedTemps prelude names ds ts
temps_printed prelude names c [] at = ([], sym (append-nil (decls_draft at c)), tt)
temps_printed prelude names c (t ∷ ts) at =
    let next = and_decl c (one_array t.name (dims_text prelude names t.extents)) in
    let here = at + length (decls_symbols c) + 1 in
    let q = temp_draft here t.name (dims_text prelude names t.extents) in
    let p = temps_printed prelude (and_array_name names t.name) next ts at in
    (q ∷ p.0, p.1 ∙ append_assoc (decls_draft at c) (q ∷ []) p.0, ((here, refl), p.2))

temps_again_from : (prelude : Bool) (scope : Scope) (names : Names) → Sees scope names → (ds : List DeclDraft) (ts : List Decl) → PrintedTemps prelude names ds ts → TempsBack prelude scope names ts → temps_tree scope ds ≡ Ok (ts, scope_temps scope ts)
temps_again_from prelude scope names sees [] [] p b = refl
temps_again_from prelude scope names sees [] (t ∷ ts) p b = absurd p
temps_again_from prelude scope names sees (d ∷ ds) [] p b = absurd p
temps_again_from prelude scope names sees (d ∷ ds) (t ∷ ts) p b =
    let at = p.0.0 in
    let q = temp_draft at t.name (dims_text prelude names t.extents) in
    let r = dims_again prelude scope names sees t.extents b.0.extents in
    let long : length q.extents ≡ length t.extents = each_length (ix_tree scope) q.extents t.extents (r.reads (at + 1)) in
    let same : ◌≡◌ {A = Decl} (record { name = t.name; role = Temp; extents = t.extents }) t = ap (λ s. record { name = t.name; role = s; extents = t.extents }) (sym b.0.role) in
    let one : decl_tree scope q ≡ Ok t = allowed_is (why_declared scope false t.name) at _ _ b.0.declared (then_is (each (ix_tree scope) q.extents) _ t.extents _ (r.reads (at + 1)) (ap (λ z. Ok z) same)) in
    let next : with_array scope t.name Temp (length q.extents) ≡ with_array scope t.name t.role (length t.extents) = ap (λ s. with_array scope t.name s (length q.extents)) (sym b.0.role) ∙ ap (with_array scope t.name t.role) long in
    let more = temps_again_from prelude (with_array scope t.name t.role (length t.extents)) (and_array_name names t.name) (sees_array scope names t.name t.role (length t.extents) sees) ds ts p.1 b.1 in
    ap (λ z. temps_tree scope (z ∷ ds)) (sym p.0.1)
    ∙ then_is (decl_tree scope q) _ t _ one (then_is (temps_tree (with_array scope t.name Temp (length q.extents)) ds) _ (ts, scope_temps (with_array scope t.name t.role (length t.extents)) ts) _ (ap (λ s. temps_tree s ds) next ∙ more) refl)

temps_again : (prelude : Bool) (scope : Scope) (names : Names) → Sees scope names → (ts : List Decl) → TempsBack prelude scope names ts → (at : ℕ) → temps_tree scope (decls_draft at (decls_text prelude names no_decls ts).0) ≡ Ok (ts, scope_temps scope ts)
temps_again prelude scope names sees ts b at = let p = temps_printed prelude names no_decls ts at in ap (temps_tree scope) p.1 ∙ temps_again_from prelude scope names sees p.0 ts p.2 b

temps_stand : (prelude : Bool) (scope : Scope) (names : Names) → Sees scope names → (c : DeclsText prelude) (ts : List Decl) → AllStand (decls_symbols c) → TempsBack prelude scope names ts → AllStand (decls_symbols (decls_text prelude names c ts).0)
temps_stand prelude scope names sees c [] s b = s
temps_stand prelude scope names sees c (t ∷ ts) s b =
    let dims = dims_text prelude names t.extents in
    let one : AllStand (word t.name ∷ dims_symbols dims) = symbol_of_name t.name (dims_symbols dims) b.0.name (dims_again prelude scope names sees t.extents b.0.extents).stands in
    temps_stand prelude (with_array scope t.name t.role (length t.extents)) (and_array_name names t.name) (sees_array scope names t.name t.role (length t.extents) sees) (and_decl c (one_array t.name dims)) ts
    (stand_both (decls_symbols c) (word (codes "uint64_t") ∷ ((word t.name ∷ dims_symbols dims) ++ mark (codes ";") ∷ [])) s (stand_both (word t.name ∷ dims_symbols dims) (mark (codes ";") ∷ []) one refl)) b.1

-- ---- Lines before the function

-- a line comes from a text
abbrev pub FromLine : PragmaDraft → Type 0
FromLine (draft.range w low_at low high) = FitsInt low × FitsInt high
FromLine (draft.context at cs) = (t : CondText true false) × (at' : ℕ) × (comparisons_in (cond_draft at' t) ≡ cs) × AllHave (cond_symbols t)

pub lines_from_text : (c : PragmasText) (at : ℕ) → AllHave (pragmas_symbols c) → Each FromLine (pragmas_draft at c)
lines_from_text no_pragmas at have = tt
lines_from_text (and_range ps w low high line) at have =
    let h = have_parts (pragmas_symbols ps) (pragma_symbols (codes "param") ++ word w ∷ (int_symbols low ++ (int_symbols high ++ line_symbols line))) have in
    let n = word_of_symbol w (int_symbols low ++ (int_symbols high ++ line_symbols line)) h.1 in
    let l = have_parts (int_symbols low) (int_symbols high ++ line_symbols line) n.1 in
    let u = have_parts (int_symbols high) (line_symbols line) l.1 in
    each_append FromLine (pragmas_draft at ps) _ (lines_from_text ps at h.0) ((int_fits low l.0, int_fits high u.0), tt)
lines_from_text (and_context ps cs line) at have =
    let h = have_parts (pragmas_symbols ps) (pragma_symbols (codes "context") ++ (cond_symbols cs ++ line_symbols line)) have in
    let l = have_parts (cond_symbols cs) (line_symbols line) h.1 in
    each_append FromLine (pragmas_draft at ps) _ (lines_from_text ps at h.0) ((cs, _, refl, l.0), tt)

pub ranges_fit : (ps : List PragmaDraft) → Each FromLine ps → RangesFit ps
ranges_fit [] f w low high e = absurd (cc)
ranges_fit (draft.range v low_at l u ∷ ps) f w low high e = of (same v.name w) e (ranges_fit ps f.1 w low high)
  where
    pair_is : (a b : ℤ × ℤ) → Some a ≡ Some b → a ≡ b
    pair_is a b e = cc

    of : (b : Bool) → (if b then Some (l, u) else range_of w ps) ≡ Some (low, high) → (range_of w ps ≡ Some (low, high) → FitsInt low × FitsInt high) → FitsInt low × FitsInt high
    of true e more = let p = pair_is (l, u) (low, high) e in (subst FitsInt (ap (λ t. t.0) p) f.0.0, subst FitsInt (ap (λ t. t.1) p) f.0.1)
    of false e more = more e
ranges_fit (draft.context at cs ∷ ps) f w low high e = ranges_fit ps f.1 w low high e

contexts_back : (inside : Scope) (names : Names) (sees : Sees inside names) (ps : List PragmaDraft) (earlier : List Name) (xs : List Compare) → Each FromLine ps → pragmas_tree inside earlier ps ≡ Ok xs → Each (IsCompareBack true inside names sees) xs
contexts_back inside names sees [] earlier xs f e = subst (Each (IsCompareBack true inside names sees)) (ok_of e) tt
contexts_back inside names sees (draft.range w low_at low high ∷ ps) earlier xs f e =
    contexts_back inside names sees ps (w.name ∷ earlier) xs f.1 (allowed_ok (why_ranged inside earlier w.name (thing_of inside w.name)) w.at _ xs e).1
contexts_back inside names sees (draft.context at cs ∷ ps) earlier xs f e =
    let p = both_ok (each (compare_tree inside) cs) _ xs e in
    let q = both_ok (pragmas_tree inside earlier ps) _ xs p.2 in
    subst (Each (IsCompareBack true inside names sees)) (ok_of q.2)
    (each_append (IsCompareBack true inside names sees) p.0 q.0 (tests_back true inside names sees f.0.0 f.0.3 f.0.1 p.0 (ap (each (compare_tree inside)) f.0.2 ∙ p.1)) (contexts_back inside names sees ps earlier q.0 f.1 q.1))

-- what is printed for ranges
abbrev PrintedRanges : List PragmaDraft → List Param → Type 0
PrintedRanges ds (Array d ∷ qs) = PrintedRanges ds qs
PrintedRanges (d ∷ ds) (Number w low high ∷ qs) = ((a : ℕ) × (b : ℕ) × (draft.range (word_draft a w) b (int_value (int_text low)) (int_value (int_text high)) ≡ d)) × PrintedRanges ds qs
PrintedRanges [] (Number w low high ∷ qs) = ⊥
PrintedRanges [] [] = Unit {0}
PrintedRanges (d ∷ ds) [] = ⊥

ranges_printed : (qs : List Param) (c : PragmasText) (at : ℕ) → (ds : List PragmaDraft) × (pragmas_draft at (ranges_text c qs) ≡ pragmas_draft at c ++ ds) × PrintedRanges ds qs
ranges_printed [] c at = ([], sym (append-nil (pragmas_draft at c)), tt)
ranges_printed (Number w low high ∷ qs) c at =
    let next = at + length (pragmas_symbols c) in
    let r = draft.range (word_draft (next + 4) w) (next + 5) (int_value (int_text low)) (int_value (int_text high)) in
    let p = ranges_printed qs (and_range c w (int_text low) (int_text high) line_feed) at in
    (r ∷ p.0, p.1 ∙ append_assoc (pragmas_draft at c) (r ∷ []) p.0, ((next + 4, next + 5, refl), p.2))
ranges_printed (Array d ∷ qs) c at = ranges_printed qs c at

abbrev NotNamed : Name → Param → Type 0
NotNamed w (Number v low high) = same w v ≡ false
NotNamed w (Array d) = Unit {0}

later_apart : (prelude : Bool) (scope : Scope) (names : Names) (qs : List Param) (w : Name) → ParamsBack prelude scope names qs → IsVisible scope w → Each (NotNamed w) qs
later_apart prelude scope names [] w b visible = tt
later_apart prelude scope names (Number v low high ∷ qs) w b visible =
    ((declared_apart scope false v w b.0.declared visible).1, later_apart prelude (with_number false scope v) (and_number names v) qs w b.1 (still_visible scope v w _ visible))
later_apart prelude scope names (Array d ∷ qs) w b visible =
    (tt, later_apart prelude (with_array scope d.name d.role (length d.extents)) (and_array_name names d.name) qs w b.1 (still_visible scope d.name w _ visible))

one_more_range : (w : Name) (a b : ℕ) (low high : ℤ) (ps : List PragmaDraft) (qs : List Param) → Each (NotNamed w) qs → Each (HasRange ps) qs → Each (HasRange (draft.range (word_draft a w) b low high ∷ ps)) qs
one_more_range w a b low high ps [] n h = tt
one_more_range w a b low high ps (Number v l u ∷ qs) n h = (ap (λ c. if c then Some (low, high) else range_of v ps) n.0 ∙ h.0, one_more_range w a b low high ps qs n.1 h.1)
one_more_range w a b low high ps (Array d ∷ qs) n h = (tt, one_more_range w a b low high ps qs n.1 h.1)

ranges_found : (prelude : Bool) (scope : Scope) (names : Names) (qs : List Param) (ds rest : List PragmaDraft) → ParamsBack prelude scope names qs → PrintedRanges ds qs → Each (HasRange (ds ++ rest)) qs
ranges_found prelude scope names [] ds rest b p = tt
ranges_found prelude scope names (Number w low high ∷ qs) [] rest b p = absurd p
ranges_found prelude scope names (Number w low high ∷ qs) (d ∷ ds) rest b p =
    let l = int_value (int_text low) in
    let u = int_value (int_text high) in
    let r = draft.range (word_draft p.0.0 w) p.0.1 l u in
    let more = ranges_found prelude (with_number false scope w) (and_number names w) qs ds rest b.1 p.1 in
    let apart = later_apart prelude (with_number false scope w) (and_number names w) qs w b.1 (ap is_some (new_is_seen scope w _)) in
    let here : range_of w (r ∷ (ds ++ rest)) ≡ Some (low, high) =
    ap (λ c. if c then Some (l, u) else range_of w (ds ++ rest)) (same_self w) ∙ ap (λ x. Some (x, u)) (int_again low b.0.low_fits).0 ∙ ap (λ x. Some (low, x)) (int_again high b.0.high_fits).0 in
    subst (λ z. Each (HasRange (z ∷ (ds ++ rest))) (Number w low high ∷ qs)) p.0.2 (here, one_more_range w p.0.0 p.0.1 l u (ds ++ rest) qs apart more)
ranges_found prelude scope names (Array d ∷ qs) ds rest b p =
    (tt, ranges_found prelude (with_array scope d.name d.role (length d.extents)) (and_array_name names d.name) qs ds rest b.1 p)

each_visible : (scope : Scope) (v : Name) (thing : Thing) (ws : List Name) → Each (IsVisible scope) ws → Each (IsVisible (with_thing scope v thing)) ws
each_visible scope v thing [] h = tt
each_visible scope v thing (w ∷ ws) h = (still_visible scope v w thing h.0, each_visible scope v thing ws h.1)

none_same : (scope : Scope) (w : Name) (ws : List Name) → why_declared scope false w ≡ None → Each (IsVisible scope) ws → list_any (same w) ws ≡ false
none_same scope w [] declared h = refl
none_same scope w (v ∷ ws) declared h = rw ((declared_apart scope false w v declared h.0).0) (none_same scope w ws declared h.1)

two_reasons : (a b : Bool) → a ≡ false → b ≡ false → first_reason ((a, Twice) ∷ (b, Reserved) ∷ []) ≡ None
two_reasons true b p q = absurd (false≢true (sym p))
two_reasons false true p q = absurd (false≢true (sym q))
two_reasons false false p q = refl

lines_again : (prelude : Bool) (scope : Scope) (names : Names) (qs : List Param) (inside : Scope) → ParamsBack prelude scope names qs → scope_params scope qs ≡ inside → (earlier : List Name) → Each (IsVisible scope) earlier
    → (ds : List PragmaDraft) → PrintedRanges ds qs → (rest : List PragmaDraft) (xs : List Compare) → ((before : List Name) → pragmas_tree inside before rest ≡ Ok xs) → pragmas_tree inside earlier (ds ++ rest) ≡ Ok xs
lines_again prelude scope names [] inside b is earlier visible [] p rest xs k = k earlier
lines_again prelude scope names [] inside b is earlier visible (d ∷ ds) p rest xs k = absurd p
lines_again prelude scope names (Number w low high ∷ qs) inside b is earlier visible [] p rest xs k = absurd p
lines_again prelude scope names (Number w low high ∷ qs) inside b is earlier visible (d ∷ ds) p rest xs k =
    let inner = with_number false scope w in
    let found : thing_of inside w ≡ Some _ = ap (λ s. thing_of s w) (sym is) ∙ found_later prelude inner (and_number names w) qs w _ b.1 (new_is_seen scope w _) in
    let allowed_here : why_ranged inside earlier w (thing_of inside w) ≡ None =
    ap (why_ranged inside earlier w) found ∙ two_reasons (list_any (same w) earlier) (is_refused_word inside false w) (none_same scope w earlier b.0.declared visible) (declared_none scope false w b.0.declared).1 in
    let more = lines_again prelude inner (and_number names w) qs inside b.1 is (w ∷ earlier) (ap is_some (new_is_seen scope w _), each_visible scope w _ earlier visible) ds p.1 rest xs k in
    ap (λ z. pragmas_tree inside earlier (z ∷ (ds ++ rest))) (sym p.0.2) ∙ allowed_is (why_ranged inside earlier w (thing_of inside w)) p.0.0 _ _ allowed_here more
lines_again prelude scope names (Array d ∷ qs) inside b is earlier visible ds p rest xs k =
    lines_again prelude (with_array scope d.name d.role (length d.extents)) (and_array_name names d.name) qs inside b.1 is earlier (each_visible scope d.name _ earlier visible) ds p rest xs k

context_again : (inside : Scope) (names : Names) (sees : Sees inside names) (xs : List Compare) → Each (IsCompareBack true inside names sees) xs → (c : PragmasText) (at : ℕ)
    → (rest : List PragmaDraft) × (pragmas_draft at (context_text names c xs) ≡ pragmas_draft at c ++ rest) × ((earlier : List Name) → pragmas_tree inside earlier rest ≡ Ok xs)
context_again inside names sees [] b c at = ([], sym (append-nil (pragmas_draft at c)), λ earlier. refl)
context_again inside names sees (x ∷ xs) b c at =
    let next = at + length (pragmas_symbols c) in
    let t = tests_text names x xs in
    let r = tests_again inside names sees x xs b in
    (draft.context (next + 3) (comparisons_in (cond_draft (next + 4) t)) ∷ [], refl, λ earlier. then_is (each (compare_tree inside) (comparisons_in (cond_draft (next + 4) t))) _ (x ∷ xs) _ (r.reads (next + 4)) (ap (λ l. Ok l) (append-nil (x ∷ xs))))

ranges_stand : (prelude : Bool) (scope : Scope) (names : Names) (c : PragmasText) (qs : List Param) → LinesStand c → ParamsBack prelude scope names qs → LinesStand (ranges_text c qs)
ranges_stand prelude scope names c [] s b = s
ranges_stand prelude scope names c (Number w low high ∷ qs) s b =
    ranges_stand prelude (with_number false scope w) (and_number names w) (and_range c w (int_text low) (int_text high) line_feed) qs
    (s, refl, symbol_of_name w (int_symbols (int_text low) ++ int_symbols (int_text high)) b.0.name (stand_both (int_symbols (int_text low)) (int_symbols (int_text high)) (int_again low b.0.low_fits).1 (int_again high b.0.high_fits).1)) b.1
ranges_stand prelude scope names c (Array d ∷ qs) s b = ranges_stand prelude (with_array scope d.name d.role (length d.extents)) (and_array_name names d.name) c qs s b.1

context_stands : (inside : Scope) (names : Names) (sees : Sees inside names) (c : PragmasText) (xs : List Compare) → LinesStand c → Each (IsCompareBack true inside names sees) xs → LinesStand (context_text names c xs)
context_stands inside names sees c [] s b = s
context_stands inside names sees c (x ∷ xs) s b = (s, refl, (tests_again inside names sees x xs b).stands)

-- ---- The program

abbrev pub outside_of : Program → Scope
outside_of p = record { has_prelude = p.prelude; visible = record { name = p.name; thing = function } ∷ [] }

pub sees_outside : (p : Program) → Sees (outside_of p) no_names
sees_outside p = record {
  numbers = λ w id it e. absurd (no_number w id it (new_or_old empty p.name w function (number id it) e));
  arrays = λ w id role n e. absurd (no_array w id role n (new_or_old empty p.name w function (array id role n) e));
  number_count = refl;
  array_count = refl;
}
  where
    empty : Scope
    empty = record { has_prelude = p.prelude; visible = [] }

    no_number : (w : Name) (id : ℕ) (it : Bool) → ((p.name ≡ w) × (function ≡ number id it)) ⊎ (thing_of (record { has_prelude = p.prelude; visible = [] }) w ≡ Some (number id it)) → ⊥
    no_number w id it (inl e) = apart id it e.1
      where
        apart : (id : ℕ) (it : Bool) → function ≡ number id it → ⊥
        apart id it e = cc
    no_number w id it (inr e) = cc

    no_array : (w : Name) (id : ℕ) (role : Role) (n : ℕ) → ((p.name ≡ w) × (function ≡ array id role n)) ⊎ (thing_of (record { has_prelude = p.prelude; visible = [] }) w ≡ Some (array id role n)) → ⊥
    no_array w id role n (inl e) = apart id role n e.1
      where
        apart : (id : ℕ) (role : Role) (n : ℕ) → function ≡ array id role n → ⊥
        apart id role n e = cc
    no_array w id role n (inr e) = cc

abbrev pub inside_of : Program → Scope
inside_of p = scope_params (outside_of p) p.params

abbrev pub names_of : Program → Names
names_of p = with_param_names no_names p.params

pub sees_inside : (p : Program) → Sees (inside_of p) (names_of p)
sees_inside p = sees_params (outside_of p) no_names p.params (sees_outside p)

-- what is printed for the program's parts reads as them
pub record ProgramBack (p : Program) : Type 0 where
  pub named : function_why (inside_of p) p.name ≡ None
  pub name : IsName p.name
  pub params : ParamsBack p.prelude (outside_of p) no_names p.params
  pub some : p.params ≡ [] → ⊥
  pub context : Each (IsCompareBack true (inside_of p) (names_of p) (sees_inside p)) p.context
  pub temps : TempsBack p.prelude (inside_of p) (names_of p) p.temps
  pub body : Each (StmtBack p.prelude (scope_temps (inside_of p) p.temps) (with_array_names (names_of p) p.temps)) p.body

-- a text reads as the program, and its tokens can stand
pub record TextBack (t : Text) (p : Program) : Type 0 where
  pub reads : program_tree (text_draft t) ≡ Ok p
  pub line : t.line ≡ line_feed
  pub lines : LinesStand t.pragmas
  pub function : AllStand (function_symbols t.function)
  pub laid_out : printed_text p ≡ codes "#include <stdint.h>\n" then pragmas_layout t.pragmas then prelude_layout t.has_prelude then function_layout t.function

abbrev text_with : (p : Program) → IsTrue (p.prelude || not (context_calls (pragmas_of p))) → Text
text_with p h = with_pragmas p (pragmas_of p) (Some h)

text_again : (p : Program) (h : IsTrue (p.prelude || not (context_calls (pragmas_of p)))) → ProgramBack p → TextBack (text_with p h) p
text_again p h b =
    let t = text_with p h in
    let d = text_draft t in
    let sees = sees_inside p in
    let params1 : (params_text p.prelude p.params).1 ≡ names_of p = param_names_are p.prelude p.params in
    let lines1 : (params_text true p.params).1 ≡ names_of p = param_names_are true p.params in
    let decls = decls_text p.prelude (params_text p.prelude p.params).1 no_decls p.temps in
    let decls1 : decls.1 ≡ with_array_names (names_of p) p.temps = decl_names_from p.prelude (params_text p.prelude p.params).1 no_decls p.temps ∙ ap (λ n. with_array_names n p.temps) params1 in
    let at = length (include_symbols line_feed) + length (pragmas_symbols (pragmas_of p)) + length (prelude_symbols p.prelude) in
    let body_at = at + 3 + length (params_symbols (params_text p.prelude p.params).0) + 2 in
    let inside : with_params (outside_of p) d.params ≡ inside_of p = params_scope p.prelude (outside_of p) (sees_outside p) p.params b.some b.params _ in
    let rp = ranges_printed p.params no_pragmas (length (include_symbols line_feed)) in
    let cp = context_again (inside_of p) (names_of p) sees p.context b.context (ranges_text no_pragmas p.params) (length (include_symbols line_feed)) in
    let pragmas : d.pragmas ≡ rp.0 ++ cp.0 = ap (λ n. pragmas_draft (length (include_symbols line_feed)) (context_text n (ranges_text no_pragmas p.params) p.context)) lines1 ∙ cp.1 ∙ ap (λ l. l ++ cp.0) rp.1 in
    let context : pragmas_tree (with_params (outside_of p) d.params) [] d.pragmas ≡ Ok p.context =
    ap (λ s. pragmas_tree s [] d.pragmas) inside ∙ ap (pragmas_tree (inside_of p) []) pragmas
    ∙ lines_again p.prelude (outside_of p) no_names p.params (inside_of p) b.params refl [] tt rp.0 rp.2 cp.0 p.context cp.2 in
    let has_ranges : Each (HasRange d.pragmas) p.params = subst (λ l. Each (HasRange l) p.params) (sym pragmas) (ranges_found p.prelude (outside_of p) no_names p.params rp.0 cp.0 b.params rp.2) in
    let params : params_tree (outside_of p) d.pragmas d.params ≡ Ok p.params = params_again p.prelude (outside_of p) (sees_outside p) d.pragmas p.params b.some b.params has_ranges _ in
    let temps : temps_tree (with_params (outside_of p) d.params) d.temps ≡ Ok (p.temps, scope_temps (inside_of p) p.temps) =
    ap (λ s. temps_tree s d.temps) inside ∙ ap (λ n. temps_tree (inside_of p) (decls_draft body_at (decls_text p.prelude n no_decls p.temps).0)) params1 ∙ temps_again p.prelude (inside_of p) (names_of p) sees p.temps b.temps _ in
    let body_text = stmts_again {prelude = p.prelude} (scope_temps (inside_of p) p.temps) (with_array_names (names_of p) p.temps) p.body b.body in
    let body : stmts_tree (scope_temps (inside_of p) p.temps) d.body ≡ Ok p.body =
    ap (λ n. stmts_tree (scope_temps (inside_of p) p.temps) (stmts_draft (body_at + length (decls_symbols decls.0)) (stmts_text n no_stmts (map (stmt_text p.prelude) p.body)))) decls1 ∙ body_text.reads _ in
    let named : function_why (with_params (outside_of p) d.params) p.name ≡ None = ap (λ s. function_why s p.name) inside ∙ b.named in
    let f = function_text p.prelude p in
    let stmts_stand : AllStand (stmts_symbols f.stmts) = subst (λ n. AllStand (stmts_symbols (stmts_text n no_stmts (map (stmt_text p.prelude) p.body)))) (sym decls1) body_text.stands in
    let decls_stand : AllStand (decls_symbols f.decls) = subst (λ n. AllStand (decls_symbols (decls_text p.prelude n no_decls p.temps).0)) (sym params1) (temps_stand p.prelude (inside_of p) (names_of p) sees no_decls p.temps refl b.temps) in
    record {
      reads = then_is (pragmas_tree (with_params (outside_of p) d.params) [] d.pragmas) _ p.context _ context
          (allowed_is (function_why (with_params (outside_of p) d.params) p.name) d.function.at _ _ named
          (then_is (params_tree (outside_of p) d.pragmas d.params) _ p.params _ params
          (then_is (temps_tree (with_params (outside_of p) d.params) d.temps) _ (p.temps, scope_temps (inside_of p) p.temps) _ temps
          (then_is (stmts_tree (scope_temps (inside_of p) p.temps) d.body) _ p.body _ body refl))));
      line = refl;
      lines = subst (λ n. LinesStand (context_text n (ranges_text no_pragmas p.params) p.context)) (sym lines1)
          (context_stands (inside_of p) (names_of p) sees (ranges_text no_pragmas p.params) p.context (ranges_stand p.prelude (outside_of p) no_names no_pragmas p.params tt b.params) b.context);
      function = symbol_of_name p.name (mark (codes "(") ∷ (params_symbols f.params ++ mark (codes ")") ∷ mark (codes "{") ∷ (decls_symbols f.decls ++ (stmts_symbols f.stmts ++ mark (codes "}") ∷ [])))) b.name
          (stand_both (params_symbols f.params) (mark (codes ")") ∷ mark (codes "{") ∷ (decls_symbols f.decls ++ (stmts_symbols f.stmts ++ mark (codes "}") ∷ []))) (params_stand p.prelude (outside_of p) (sees_outside p) p.params b.some b.params)
          (stand_both (decls_symbols f.decls) (stmts_symbols f.stmts ++ mark (codes "}") ∷ []) decls_stand (stand_both (stmts_symbols f.stmts) (mark (codes "}") ∷ []) stmts_stand refl)));
      laid_out = refl;
    }

pub printed_again : (p : Program) → (p.prelude || not (context_calls (pragmas_of p))) ≡ true → ProgramBack p → TextBack (printed p) p
printed_again p calls b = of (holding (p.prelude || not (context_calls (pragmas_of p)))) (some_held (p.prelude || not (context_calls (pragmas_of p))) calls)
  where
    of : (o : Option (IsTrue (p.prelude || not (context_calls (pragmas_of p))))) → is_some o ≡ true → TextBack (with_pragmas p (pragmas_of p) o) p
    of (Some h) s = text_again p h b
    of None s = absurd (cc)

-- ---- What a text is read as

pub program_back : (c : Text) (p : Program) → AllHave (text_symbols c) → program_tree (text_draft c) ≡ Ok p → ProgramBack p
program_back c p have e =
    let d = text_draft c in
    let f = c.function in
    let h1 = have_parts (include_symbols c.line) (pragmas_symbols c.pragmas ++ (prelude_symbols c.has_prelude ++ function_symbols c.function)) have in
    let h2 = have_parts (pragmas_symbols c.pragmas) (prelude_symbols c.has_prelude ++ function_symbols c.function) h1.1 in
    let h3 = have_parts (prelude_symbols c.has_prelude) (function_symbols c.function) h2.1 in
    let n = word_of_symbol f.name (mark (codes "(") ∷ (params_symbols f.params ++ mark (codes ")") ∷ mark (codes "{") ∷ (decls_symbols f.decls ++ (stmts_symbols f.stmts ++ mark (codes "}") ∷ [])))) h3.1 in
    let hp = have_parts (params_symbols f.params) (mark (codes ")") ∷ mark (codes "{") ∷ (decls_symbols f.decls ++ (stmts_symbols f.stmts ++ mark (codes "}") ∷ []))) n.1 in
    let hd = have_parts (decls_symbols f.decls) (stmts_symbols f.stmts ++ mark (codes "}") ∷ []) hp.1 in
    let hs = have_parts (stmts_symbols f.stmts) (mark (codes "}") ∷ []) hd.1 in
    let outer = outermost d in
    let inner = with_params outer d.params in
    let conditions = both_ok (pragmas_tree inner [] d.pragmas) _ p e in
    let named = allowed_ok (function_why inner f.name) d.function.at _ p conditions.2 in
    let params = both_ok (params_tree outer d.pragmas d.params) _ p named.1 in
    let temps = both_ok (temps_tree inner d.temps) _ p params.2 in
    let body = both_ok (stmts_tree temps.0.1 d.body) _ p temps.2 in
    let q : Program = record { name = f.name; params = params.0; context = conditions.0; temps = temps.0.0; body = body.0; prelude = c.has_prelude } in
    let lines = lines_from_text c.pragmas (length (include_symbols c.line)) h2.0 in
    let pb = params_back f.params hp.0 outer no_names (sees_outside q) d.pragmas (ranges_fit d.pragmas lines) _ params.0 params.1 in
    let inside : inner ≡ inside_of q = pb.1 in
    let tr = temps_read {prelude = c.has_prelude} (inside_of q) (names_of q) (sees_inside q) d.temps temps.0 (decls_from_text f.decls _ hd.0) (ap (λ s. temps_tree s d.temps) (sym inside) ∙ temps.1) in
    subst ProgramBack (ok_of body.2) (record {
      named = ap (λ s. function_why s f.name) (sym inside) ∙ named.0;
      name = record { is = n.0; other = not_static inner false f.name (first_none (is_refused_word inner false f.name) Reserved [] named.0).0 };
      params = pb.0;
      some = params_nonempty f.params outer d.pragmas _ params.0 params.1;
      context = contexts_back (inside_of q) (names_of q) (sees_inside q) d.pragmas [] conditions.0 lines (ap (λ s. pragmas_tree s [] d.pragmas) (sym inside) ∙ conditions.1);
      temps = tr.back;
      body = stmts_back f.stmts hs.0 (scope_temps (inside_of q) temps.0.0) (with_array_names (names_of q) temps.0.0) (sees_temps (inside_of q) (names_of q) temps.0.0 (sees_inside q)) _ body.0 (ap (λ s. stmts_tree s d.body) (sym tr.after) ∙ body.1);
    })
