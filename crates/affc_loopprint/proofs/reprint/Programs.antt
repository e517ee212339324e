-- A printed program keeps the limits on tokens, runs, brackets and words `for` and `if`, where a text that keeps those of one without the prelude reads as it.
use Rattle.std.proofs.Common.{◌≡◌, ℕ, ◌+◌, ◌*◌, ◌≤◌, Bool, true, false, max, List, [], ◌∷◌, ◌++◌, length, map, codes, Ok, refl, sym, ap, subst, ◌∙◌, arith, append_assoc, length-append}
use Rattle.affc_ast.specs.declared.tree.Ix.{Ix}
use Rattle.affc_ast.specs.declared.tree.Decl.{Decl}
use Rattle.affc_ast.specs.declared.tree.Param.{Param}
use Rattle.affc_ast.specs.declared.tree.Program.{Program}
use Rattle.affc_grammar.specs.Grammar as g
use Rattle.affc_grammar.specs.Grammar.{Name, Symbol, word, mark, DimsText, StmtsText, ParamText, ParamsText, NamesText, DeclsText, PragmasText, LineText, Text, ix_symbols, dim_symbols, dims_symbols, stmts_symbols, const_symbols, param_symbols, params_symbols, names_symbols, decls_symbols, line_symbols, pragma_symbols, pragmas_symbols, int_symbols, function_symbols, include_symbols, prelude_symbols, text_symbols}
use Rattle.affc_grammar.specs.Draft.{ParamDraft, DeclDraft, PragmaDraft, ix_draft, dims_draft, stmts_draft, array_role, param_draft, params_draft, temp_draft, names_draft, decls_draft, word_draft}
use Rattle.affc_grammar.specs.Limits.{count_run, count_open}
use Rattle.affc_grammar.specs.Names.{Scope, each, ix_tree, why_declared, decl_tree, range_of, param_tree, params_tree, with_param, with_array, temps_tree, stmts_tree}
use Rattle.affc_wellnamed.specs.declared.shape.Extent.{Extent}
use Rattle.affc_wellnamed.specs.declared.shape.Shape.{Shape}
use Rattle.affc_wellnamed.specs.Shape.{nothing, beside, bracketed, and_tokens, whole, dims_behind, both, line, closed, all_behind, stmts_behind, head_tokens, array_extent, param_extent, params_behind, params_extent, decls_behind, head_line, function_shape}
use Rattle.affc_cprint.proofs.Sees.{ok_of, both_ok, then_is, allowed_ok}
use Rattle.affc_cprint.proofs.ReadBackParams.{some_range}
use Rattle.affc_wellnamed.proofs.Counts.{Adds, rises_both, rises_more, run_more}
use Rattle.affc_wellnamed.proofs.ShapeParts.{larger_is}
use Rattle.affc_wellnamed.proofs.ShapeStatements.{Numbers, joined}
use Rattle.affc_loopprint.proofs.reprint.Rows.{Lies, lies_none, lies_more, lies_joined, word_lies, mark_lies}
use Rattle.affc_loopprint.proofs.reprint.Expressions.{whole_read}
use Rattle.affc_loopprint.proofs.reprint.Values.{RowFits, row_both, row_joined, row_plain, dim_fits, dims_read}
use Rattle.affc_loopprint.proofs.reprint.Nests.{nest}
use Rattle.affc_loopprint.proofs.reprint.Statements.{HasRun, run_row, run_left, run_right, run_tail, items_any, items_tail, items_right, rises_before, numbers_of, total, AtMost, most_self, behind_most, Holds, holds_none, holds_less, holds_both, braces_hold, shapes, stmts_read}

-- ---- Parameters

record ParamsSplit (scope : Scope) (lines : List PragmaDraft) (xs : List ParamDraft) (y : ParamDraft) (qs : List Param) : Type 0 where
  front : List Param
  last : Param
  inner : Scope
  front_ok : params_tree scope lines xs ≡ Ok front
  last_ok : param_tree inner lines y ≡ Ok last
  all : qs ≡ front ++ last ∷ []

params_split : (scope : Scope) (lines : List PragmaDraft) (xs : List ParamDraft) (y : ParamDraft) (qs : List Param) → params_tree scope lines (xs ++ y ∷ []) ≡ Ok qs → ParamsSplit scope lines xs y qs
params_split scope lines [] y qs h =
    let p = both_ok (param_tree scope lines y) _ qs h in
    record { front = []; last = p.0; inner = scope; front_ok = refl; last_ok = p.1; all = sym (ok_of p.2) }
params_split scope lines (x ∷ xs) y qs h =
    let p = both_ok (param_tree scope lines x) _ qs h in
    let q = both_ok (params_tree (with_param scope x) lines (xs ++ y ∷ [])) _ qs p.2 in
    let r = params_split (with_param scope x) lines xs y q.0 q.1 in
    record {
      front = p.0 ∷ r.front;
      last = r.last;
      inner = r.inner;
      front_ok = then_is (param_tree scope lines x) _ p.0 _ p.1 (then_is (params_tree (with_param scope x) lines xs) _ r.front _ r.front_ok refl);
      last_ok = r.last_ok;
      all = sym (ok_of q.2) ∙ ap (λ l. p.0 ∷ l) r.all;
    }

-- the extents of an array
decl_extents : (scope : Scope) (d : DeclDraft) (x : Decl) → decl_tree scope d ≡ Ok x → (each (ix_tree scope) d.extents ≡ Ok x.extents) × (x.role ≡ d.role)
decl_extents scope d x h =
    let a = allowed_ok (why_declared scope false d.word.name) d.word.at _ x h in
    let b = both_ok (each (ix_tree scope) d.extents) _ x a.1 in
    let same : ◌≡◌ {A = Decl} (record { name = d.word.name; role = d.role; extents = b.0 }) x = ok_of b.2 in
    (b.1 ∙ ap (λ (z : Decl). Ok z.extents) same, sym (ap (λ (z : Decl). z.role) same))

two_lie : (a b : Name) → Lies 0 (word a ∷ word b ∷ [])
two_lie a b = lies_more 0 (word a) (word b ∷ []) (word_lies a) (lies_more 0 (word b) [] (word_lies b) lies_none)

two_words : (a b : Name) → RowFits (word a ∷ word b ∷ []) (record { tokens = 2; depth = 0 })
two_words a b = row_plain (word a ∷ word b ∷ []) 2 (two_lie a b) (omega arith)

head_fits : (is_const : Bool) (w : Name) → RowFits (const_symbols is_const ++ word (codes "uint64_t") ∷ word w ∷ []) (head_tokens (array_role is_const))
head_fits true w = row_plain (word (codes "const") ∷ word (codes "uint64_t") ∷ word w ∷ []) 3 (lies_more 0 (word (codes "const")) _ (word_lies (codes "const")) (two_lie (codes "uint64_t") w)) (omega arith)
head_fits false w = two_words (codes "uint64_t") w

array_fits : (scope : Scope) (at : ℕ) (is_const : Bool) (w : Name) (first : g.IxText false) (others : DimsText false) (next : ℕ) (es : List Ix) → each (ix_tree scope) (ix_draft at first ∷ dims_draft next others) ≡ Ok es
    → RowFits (const_symbols is_const ++ word (codes "uint64_t") ∷ word w ∷ (dim_symbols first ++ dims_symbols others)) (array_extent false (array_role is_const) es)
array_fits scope at is_const w first others next es h =
    let p = both_ok (ix_tree scope (ix_draft at first)) _ es h in
    let q = both_ok (each (ix_tree scope) (dims_draft next others)) _ es p.2 in
    let front = const_symbols is_const ++ word (codes "uint64_t") ∷ word w ∷ [] in
    let one = dim_fits (ix_symbols first) (whole false p.0) (whole_read false scope at first p.0 p.1) in
    let before = row_both front (dim_symbols first) (head_tokens (array_role is_const)) (bracketed (whole false p.0)) (head_fits is_const w) one in
    let all = dims_read false scope (front ++ dim_symbols first) (beside (head_tokens (array_role is_const)) (bracketed (whole false p.0))) before next others q.0 q.1 in
    subst (λ z. RowFits (const_symbols is_const ++ word (codes "uint64_t") ∷ word w ∷ (dim_symbols first ++ dims_symbols others)) (array_extent false (array_role is_const) z)) (ok_of q.2)
    (subst (λ l. RowFits l (dims_behind false (beside (head_tokens (array_role is_const)) (bracketed (whole false p.0))) q.0)) (grouped is_const (dim_symbols first) (dims_symbols others)) all)
  where
    grouped : (b : Bool) (xs ys : List Symbol) → ((const_symbols b ++ word (codes "uint64_t") ∷ word w ∷ []) ++ xs) ++ ys ≡ const_symbols b ++ word (codes "uint64_t") ∷ word w ∷ (xs ++ ys)
    grouped true xs ys = refl
    grouped false xs ys = refl

param_read : (scope : Scope) (lines : List PragmaDraft) (at : ℕ) (a : ParamText false) (x : Param) → param_tree scope lines (param_draft at a) ≡ Ok x → RowFits (param_symbols a) (param_extent false x)
param_read scope lines at (g.number_param w) x h =
    let a = allowed_ok (why_declared scope false w) (at + 1) _ x h in
    let r = some_range (at + 1) w (range_of w lines) x a.1 in
    subst (λ z. RowFits (word (codes "int64_t") ∷ word w ∷ []) (param_extent false z)) (sym r.3) (two_words (codes "int64_t") w)
param_read scope lines at (g.array_param is_const w first others) x h =
    let name_at = at + length (const_symbols is_const) + 1 in
    let d : DeclDraft = record { word = word_draft name_at w; role = array_role is_const; extents = ix_draft (name_at + 2) first ∷ dims_draft (name_at + 1 + length (dim_symbols first)) others } in
    let p = both_ok (decl_tree scope d) _ x h in
    let e = decl_extents scope d p.0 p.1 in
    let text : ParamText false = g.array_param is_const w first others in
    subst (λ z. RowFits (param_symbols text) (param_extent false z)) (ok_of p.2)
    (subst (λ r. RowFits (param_symbols text) (array_extent false r p.0.extents)) (sym e.1)
    (array_fits scope (name_at + 2) is_const w first others (name_at + 1 + length (dim_symbols first)) p.0.extents e.0))

behind_param : (a : Extent) (qs : List Param) (q : Param) → params_behind false a (qs ++ q ∷ []) ≡ and_tokens 1 (beside (params_behind false a qs) (param_extent false q))
behind_param a [] q = refl
behind_param a (x ∷ qs) q = behind_param (and_tokens 1 (beside a (param_extent false x))) qs q

record ParamsFit (ss : List Symbol) (qs : List Param) : Type 0 where
  row : RowFits ss (params_extent false qs)
  some : 1 ≤ length qs

more_params : (ss ts : List Symbol) (qs : List Param) (q : Param) → ParamsFit ss qs → RowFits ts (param_extent false q) → ParamsFit (ss ++ mark (codes ",") ∷ ts) (qs ++ q ∷ [])
more_params ss ts [] q f r = absurd (let s = f.some in omega (arith, s))
more_params ss ts (x ∷ qs) q f r =
    let n = length-append (x ∷ qs) (q ∷ []) in
    record {
      row = subst (RowFits (ss ++ mark (codes ",") ∷ ts)) (sym (behind_param (param_extent false x) qs q)) (row_joined ss (mark (codes ",")) ts (params_extent false (x ∷ qs)) (param_extent false q) (mark_lies _ refl refl refl) f.row r);
      some = omega (arith, n);
    }

params_read : (scope : Scope) (lines : List PragmaDraft) (at : ℕ) (ps : ParamsText false) (qs : List Param) → params_tree scope lines (params_draft at ps) ≡ Ok qs → ParamsFit (params_symbols ps) qs
params_read scope lines at (g.param a) qs h =
    let p = both_ok (param_tree scope lines (param_draft at a)) _ qs h in
    subst (ParamsFit (param_symbols a)) (ok_of p.2) (record { row = param_read scope lines at a p.0 p.1; some = omega arith })
params_read scope lines at (g.and_param ps a) qs h =
    let next = at + length (params_symbols ps) + 1 in
    let s = params_split scope lines (params_draft at ps) (param_draft next a) qs h in
    subst (ParamsFit (params_symbols ps ++ mark (codes ",") ∷ param_symbols a)) (sym s.all)
    (more_params (params_symbols ps) (param_symbols a) s.front s.last (params_read scope lines at ps s.front s.front_ok) (param_read s.inner lines next a s.last s.last_ok))

-- ---- Temporaries, each on a line of its own

abbrev decl_shape : Decl → Shape
decl_shape d = line 0 (dims_behind false (record { tokens = 2; depth = 0 }) d.extents)

abbrev decl_shapes : List Decl → List Shape
decl_shapes ds = map decl_shape ds

behind_decls : (a : Shape) (ds : List Decl) → decls_behind false a ds ≡ all_behind a (decl_shapes ds)
behind_decls a [] = refl
behind_decls a (d ∷ ds) = behind_decls (both a (decl_shape d)) ds

record TempsSplit (scope : Scope) (xs ys : List DeclDraft) (r : List Decl × Scope) : Type 0 where
  front : List Decl × Scope
  back : List Decl × Scope
  front_ok : temps_tree scope xs ≡ Ok front
  back_ok : temps_tree front.1 ys ≡ Ok back
  all : r.0 ≡ front.0 ++ back.0

temps_split : (scope : Scope) (xs ys : List DeclDraft) (r : List Decl × Scope) → temps_tree scope (xs ++ ys) ≡ Ok r → TempsSplit scope xs ys r
temps_split scope [] ys r h = record { front = ([], scope); back = r; front_ok = refl; back_ok = h; all = refl }
temps_split scope (d ∷ xs) ys r h =
    let inner = with_array scope d.word.name d.role (length d.extents) in
    let p = both_ok (decl_tree scope d) _ r h in
    let q = both_ok (temps_tree inner (xs ++ ys)) _ r p.2 in
    let s = temps_split inner xs ys q.0 q.1 in
    record {
      front = (p.0 ∷ s.front.0, s.front.1);
      back = s.back;
      front_ok = then_is (decl_tree scope d) _ p.0 _ p.1 (then_is (temps_tree inner xs) _ s.front _ s.front_ok refl);
      back_ok = s.back_ok;
      all = sym (ap (λ (z : List Decl × Scope). z.0) (ok_of q.2)) ∙ ap (λ l. p.0 ∷ l) s.all;
    }

mapped_both : (xs ys : List Decl) → decl_shapes (xs ++ ys) ≡ decl_shapes xs ++ decl_shapes ys
mapped_both [] ys = refl
mapped_both (x ∷ xs) ys = ap (λ l. decl_shape x ∷ l) (mapped_both xs ys)

total_both : (xs ys : List Shape) → AtMost (total (xs ++ ys)) (joined (total xs) (total ys))
total_both [] ys = record { tokens = omega arith; run = omega arith; depth = omega arith; items = omega arith }
total_both (x ∷ xs) ys =
    let q = total_both xs ys in
    let t = q.tokens in let r = q.run in let d = q.depth in let i = q.items in
    record { tokens = omega (arith, t); run = omega (arith, r); depth = omega (arith, d); items = omega (arith, i) }

record NamesFit (ss : List Symbol) (ds : List Decl) : Type 0 where
  deep : ℕ
  lies : Lies deep ss
  few : (total (decl_shapes ds)).tokens ≤ 2 * length ss + 1
  short : (total (decl_shapes ds)).run ≤ 2 * length ss
  shallow : (total (decl_shapes ds)).depth ≤ 3 * deep
  counted : (total (decl_shapes ds)).items ≤ 0

one_name : (ss : List Symbol) (d : Decl) → RowFits ss (dims_behind false (record { tokens = 2; depth = 0 }) d.extents) → NamesFit ss (d ∷ [])
one_name ss d f =
    let a = f.within.few in let b = f.within.shallow in
    record { deep = f.deep; lies = f.lies; few = omega (arith, a); short = omega (arith, a); shallow = omega (arith, b); counted = omega arith }

more_names : (ss ts : List Symbol) (xs ys : List Decl) → NamesFit ss xs → NamesFit ts ys → NamesFit (ss ++ mark (codes ",") ∷ ts) (xs ++ ys)
more_names ss ts xs ys p q =
    let l = length-append ss (mark (codes ",") ∷ ts) in
    let t = total_both (decl_shapes xs) (decl_shapes ys) in
    let a = t.tokens in let b = t.run in let c = t.depth in let d = t.items in
    let a1 = p.few in let b1 = p.short in let c1 = p.shallow in let d1 = p.counted in
    let a2 = q.few in let b2 = q.short in let c2 = q.shallow in let d2 = q.counted in
    let few : (total (decl_shapes xs ++ decl_shapes ys)).tokens ≤ 2 * length (ss ++ mark (codes ",") ∷ ts) + 1 = omega (arith, l, a, a1, a2) in
    let short : (total (decl_shapes xs ++ decl_shapes ys)).run ≤ 2 * length (ss ++ mark (codes ",") ∷ ts) = omega (arith, l, b, b1, b2) in
    let shallow : (total (decl_shapes xs ++ decl_shapes ys)).depth ≤ 3 * max p.deep q.deep = omega (arith, c, c1, c2) in
    let counted : (total (decl_shapes xs ++ decl_shapes ys)).items ≤ 0 = omega (arith, d, d1, d2) in
    let e = sym (mapped_both xs ys) in
    record {
      deep = max p.deep q.deep;
      lies = lies_joined p.deep q.deep ss (mark (codes ",")) ts (mark_lies _ refl refl refl) p.lies q.lies;
      few = subst (λ z. (total z).tokens ≤ 2 * length (ss ++ mark (codes ",") ∷ ts) + 1) e few;
      short = subst (λ z. (total z).run ≤ 2 * length (ss ++ mark (codes ",") ∷ ts)) e short;
      shallow = subst (λ z. (total z).depth ≤ 3 * max p.deep q.deep) e shallow;
      counted = subst (λ z. (total z).items ≤ 0) e counted;
    }

name_read : (scope : Scope) (at : ℕ) (w : Name) (dims : DimsText false) (r : List Decl × Scope) → temps_tree scope (temp_draft at w dims ∷ []) ≡ Ok r → NamesFit (word w ∷ dims_symbols dims) r.0
name_read scope at w dims r h =
    let d = temp_draft at w dims in
    let p = both_ok (decl_tree scope d) _ r h in
    let e = decl_extents scope d p.0 p.1 in
    subst (NamesFit (word w ∷ dims_symbols dims)) (ap (λ (z : List Decl × Scope). z.0) (ok_of p.2))
    (one_name (word w ∷ dims_symbols dims) p.0 (dims_read false scope (word w ∷ []) (record { tokens = 2; depth = 0 }) (row_plain (word w ∷ []) 2 (lies_more 0 (word w) [] (word_lies w) lies_none) (omega arith)) (at + 1) dims p.0.extents e.0))

names_read : (scope : Scope) (at : ℕ) (ns : NamesText false) (r : List Decl × Scope) → temps_tree scope (names_draft at ns) ≡ Ok r → NamesFit (names_symbols ns) r.0
names_read scope at (g.one_array w dims) r h = name_read scope at w dims r h
names_read scope at (g.and_array ns w dims) r h =
    let next = at + length (names_symbols ns) + 1 in
    let s = temps_split scope (names_draft at ns) (temp_draft next w dims ∷ []) r h in
    subst (NamesFit (names_symbols ns ++ mark (codes ",") ∷ word w ∷ dims_symbols dims)) (sym s.all)
    (more_names (names_symbols ns) (word w ∷ dims_symbols dims) s.front.0 s.back.0 (names_read scope at ns s.front s.front_ok) (name_read s.front.1 next w dims s.back s.back_ok))

decl_holds : (ss : List Symbol) (ds : List Decl) → NamesFit ss ds → Holds (word (codes "uint64_t") ∷ (ss ++ mark (codes ";") ∷ [])) (total (decl_shapes ds)) 0
decl_holds ss ds f =
    let l = length-append ss (mark (codes ";") ∷ []) in
    let a = f.few in let b = f.short in let c = f.shallow in let d = f.counted in
    record {
      run = length ss;
      deep = max f.deep 0;
      items = 0;
      has_run = run_tail (length ss) (word (codes "uint64_t")) _ (run_left (length ss) ss (mark (codes ";") ∷ []) (run_row (length ss) ss f.lies.run));
      brackets = rises_more _ (word (codes "uint64_t")) _ (record { opening = refl; closing = refl }) (rises_both count_open f.deep 0 ss (mark (codes ";") ∷ []) f.lies.brackets (rises_more 0 (mark (codes ";")) [] (record { opening = refl; closing = refl }) lies_none.brackets));
      has_items = items_any _;
      few = omega (arith, l, a);
      short = b;
      shallow = omega (arith, c);
      counted = d;
    }

decls_read : (scope : Scope) (at : ℕ) (ds : DeclsText false) (r : List Decl × Scope) → temps_tree scope (decls_draft at ds) ≡ Ok r → Holds (decls_symbols ds) (total (decl_shapes r.0)) 0
decls_read scope at g.no_decls r h = subst (λ (z : List Decl × Scope). Holds [] (total (decl_shapes z.0)) 0) (ok_of h) holds_none
decls_read scope at (g.and_decl ds ns) r h =
    let next = at + length (decls_symbols ds) + 1 in
    let s = temps_split scope (decls_draft at ds) (names_draft next ns) r h in
    let a = decls_read scope at ds s.front s.front_ok in
    let b = decl_holds (names_symbols ns) s.back.0 (names_read s.front.1 next ns s.back s.back_ok) in
    subst (λ z. Holds (decls_symbols ds ++ word (codes "uint64_t") ∷ (names_symbols ns ++ mark (codes ";") ∷ [])) (total (decl_shapes z)) 0) (sym s.all)
    (subst (λ z. Holds (decls_symbols ds ++ word (codes "uint64_t") ∷ (names_symbols ns ++ mark (codes ";") ∷ [])) (total z) 0) (sym (mapped_both s.front.0 s.back.0))
    (holds_less _ _ _ (max 0 0) 0 (total_both (decl_shapes s.front.0) (decl_shapes s.back.0)) (omega arith) (holds_both _ _ _ _ 0 0 a b)))

-- ---- The function

-- by the bounds on its declarations and statements
abbrev function_bound : List Param → Numbers → Numbers
function_bound qs b = record { tokens = (params_extent false qs).tokens + 6 + b.tokens; run = max ((params_extent false qs).tokens + 4) b.run; depth = max (params_extent false qs).depth b.depth + 1; items = b.items }

abbrev inside_of : Program → Numbers
inside_of p = joined (total (decl_shapes p.temps)) (total (shapes p.body))

module _ (name : Name) (ps : List Symbol) (qs : List Param) (row : RowFits ps (params_extent false qs)) (bs : List Symbol) (b : Numbers) (height : ℕ) (body : Holds bs b height) where
  abbrev function_of : List Symbol
  function_of = word (codes "void") ∷ word name ∷ mark (codes "(") ∷ (ps ++ mark (codes ")") ∷ mark (codes "{") ∷ (bs ++ mark (codes "}") ∷ []))

  abbrev braced : List Symbol
  braced = mark (codes "{") ∷ (bs ++ mark (codes "}") ∷ [])

  function_run : (n : ℕ) → HasRun n braced → HasRun (max (3 + length ps) n) function_of
  function_run n h =
      let one : Adds count_run (1 + (1 + (1 + length ps))) (word (codes "void") ∷ word name ∷ mark (codes "(") ∷ ps) = run_more _ (word (codes "void")) _ refl (run_more _ (word name) _ refl (run_more _ (mark (codes "(")) ps refl row.lies.run)) in
      let first = run_left _ (word (codes "void") ∷ word name ∷ mark (codes "(") ∷ ps) (mark (codes ")") ∷ braced) (run_row _ _ one) in
      let second = run_tail _ (word (codes "void")) _ (run_tail _ (word name) _ (run_tail _ (mark (codes "(")) _ (run_right _ ps _ (run_tail _ (mark (codes ")")) braced h)))) in
      record { most = λ m. let x = first.most m in let y = second.most m in omega (arith, x, y) }

  function_holds : Holds function_of (function_bound qs b) height
  function_holds =
      let inside = braces_hold bs b height body in
      let l = length-append ps (mark (codes ")") ∷ braced) in
      let a = row.within.few in let c = row.within.shallow in
      let f = inside.few in let s = inside.short in let d = inside.shallow in let i = inside.counted in
      record {
        run = max (3 + length ps) inside.run;
        deep = max (row.deep + 1) inside.deep;
        items = inside.items;
        has_run = function_run inside.run inside.has_run;
        brackets = rises_more _ (word (codes "void")) _ (record { opening = refl; closing = refl }) (rises_more _ (word name) _ (record { opening = refl; closing = refl })
            (rises_before row.deep inside.deep (mark (codes "(")) (mark (codes ")")) ps braced refl refl refl row.lies.brackets inside.brackets));
        has_items = items_tail _ (word (codes "void")) _ (items_tail _ (word name) _ (items_tail _ (mark (codes "(")) _ (items_right _ ps _ (items_tail _ (mark (codes ")")) braced inside.has_items))));
        few = omega (arith, l, a, f);
        short = omega (arith, a, s);
        shallow = omega (arith, c, d);
        counted = i;
      }

-- what is printed of the function
function_most : (p : Program) → p.prelude ≡ false → AtMost (numbers_of (function_shape p)) (function_bound p.params (inside_of p))
function_most p e =
    let head = head_line false p.params in
    let m = behind_most head (numbers_of head) (decl_shapes p.temps) (most_self (numbers_of head)) in
    let q = behind_most (all_behind head (decl_shapes p.temps)) (joined (numbers_of head) (total (decl_shapes p.temps))) (shapes p.body) m in
    let all = all_behind (all_behind head (decl_shapes p.temps)) (shapes p.body) in
    let t = q.tokens in let r = q.run in let d = q.depth in let i = q.items in
    let x = larger_is all.run (line 0 nothing).run in let y = larger_is all.depth (line 0 nothing).depth in
    let same : closed all ≡ function_shape p = ap (λ z. closed (stmts_behind false z p.body)) (sym (behind_decls head p.temps)) ∙ ap (λ b. closed (stmts_behind b (decls_behind b (head_line b p.params) p.temps) p.body)) (sym e) in
    subst (λ z. AtMost (numbers_of z) (function_bound p.params (inside_of p))) same
    (record { tokens = omega (arith, t); run = omega (arith, r, x); depth = omega (arith, d, y); items = omega (arith, i) })

-- the function of a text, in the parts of its tree
pub function_read : (lines : List PragmaDraft) (outside inside inner : Scope) (at_params at_decls at_stmts : ℕ) (f : g.FunctionText false) (p : Program) → p.prelude ≡ false
    → params_tree outside lines (params_draft at_params f.params) ≡ Ok p.params → temps_tree inside (decls_draft at_decls f.decls) ≡ Ok (p.temps, inner) → stmts_tree inner (stmts_draft at_stmts f.stmts) ≡ Ok p.body
    → Holds (function_symbols f) (numbers_of (function_shape p)) (max 0 (nest f.stmts))
function_read lines outside inside inner at_params at_decls at_stmts f p e params temps body =
    let a = params_read outside lines at_params f.params p.params params in
    let b = decls_read inside at_decls f.decls (p.temps, inner) temps in
    let c = stmts_read inner at_stmts f.stmts p.body body in
    let both = holds_both (decls_symbols f.decls) (stmts_symbols f.stmts) (total (decl_shapes p.temps)) (total (shapes p.body)) 0 (nest f.stmts) b c in
    holds_less (function_symbols f) _ _ (max 0 (nest f.stmts)) (max 0 (nest f.stmts)) (function_most p e) (omega arith)
    (subst (λ l. Holds (word (codes "void") ∷ word f.name ∷ mark (codes "(") ∷ (params_symbols f.params ++ mark (codes ")") ∷ mark (codes "{") ∷ l)) (function_bound p.params (inside_of p)) (max 0 (nest f.stmts)))
    (append_assoc (decls_symbols f.decls) (stmts_symbols f.stmts) (mark (codes "}") ∷ []))
    (function_holds f.name (params_symbols f.params) p.params a.row (decls_symbols f.decls ++ stmts_symbols f.stmts) _ (max 0 (nest f.stmts)) both))
