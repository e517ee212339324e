-- A printed program has the tokens, runs, brackets and items that are counted by the tree.
use Rattle.std.proofs.Common.{◌≡◌, ℕ, zero, suc, ◌+◌, ◌≤◌, ◌&&◌, ◌||◌, Bool, true, false, not, nat_le, max, List, [], ◌∷◌, ◌++◌, length, map, codes, Option, None, Some, is_some, ℤ, pos, negsuc, int_lt, IsTrue, refl, sym, ap, subst, ◌∙◌, arith, append_assoc, length-append, unwrap_or, slice_get, decimal as digits_of, if◌then◌else◌}
use Rattle.std.proofs.lemmas.List.{append-nil}
use Rattle.std.proofs.lemmas.Bool.{and_parts, and_from, le-ltb, le-leb, leb-true}
use Rattle.affc_lex.specs.declared.token.Kind.TheVariants.{LineEnd, Hash, Header}
use Rattle.affc_lex.specs.Pieces.{is_word}
use Rattle.affc_ast.specs.Names.{is_reserved}
use Rattle.affc_ast.specs.declared.tree.Role.{Role}
use Rattle.affc_ast.specs.declared.tree.Role.TheVariants.{Input, Output, Temp}
use Rattle.affc_ast.specs.declared.tree.Compare.{Compare}
use Rattle.affc_ast.specs.declared.tree.Decl.{Decl}
use Rattle.affc_ast.specs.declared.tree.Ix.{Ix}
use Rattle.affc_ast.specs.declared.tree.Param.{Param}
use Rattle.affc_ast.specs.declared.tree.Param.TheVariants.{Number, Array}
use Rattle.affc_ast.specs.declared.tree.Program.{Program}
use Rattle.affc_grammar.specs.Grammar.{Name, Symbol, word, number, mark, ParamsText, param, and_param, DeclsText, no_decls, and_decl, one_array, no_dims, no_stmts, PragmasText, no_pragmas, and_range, line_feed, dims_symbols, dim_symbols, ix_symbols, const_symbols, param_symbols, params_symbols, decls_symbols, stmts_symbols, cond_symbols, int_symbols, line_symbols, pragma_symbols, pragmas_symbols, prelude_symbols, include_symbols, function_symbols, text_symbols, context_calls}
use Rattle.affc_grammar.specs.Limits.{wide_limits, shape_passed, count_token, count_run, count_open, count_item, is_separator, is_opening, is_closing, is_item}
use Rattle.affc_grammar.specs.Printed as printed
use Rattle.affc_grammar.specs.Printed.{Names, no_names, and_number, and_array_name, and_param_name, ix_text, dims_text, tests_text, param_text, array_text, and_params, params_text, decls_text, int_text, ranges_text, context_text, stmts_text, stmt_text, function_text, with_pragmas, printed, holding}
use Rattle.affc_cprint.specs.Layout.{pragmas_of}
use Rattle.affc_cprint.specs.Programs.{with_param_names, with_array_names}
use Rattle.affc_cprint.specs.Forms.{is_none}
use Rattle.affc_wellnamed.specs.Known.{Known, param_name, is_new, known_behind, param_known, params_known, temp_known, temps_known, extents_known, is_int, is_temp, ixs_known, compares_known, is_function, context_known, body_known, program_known}
use Rattle.affc_wellnamed.specs.declared.shape.Extent.{Extent}
use Rattle.affc_wellnamed.specs.declared.shape.Shape.{Shape}
use Rattle.affc_wellnamed.specs.Shape.{saturated, nothing, beside, bracketed, and_tokens, whole, dims_behind, compare_extent, compares_behind, both, line, stmts_behind, end_tokens, range_line, ranges_behind, context_behind, head_tokens, array_extent, param_extent, params_behind, params_extent, decls_behind, lines_shape, head_line, function_shape, program_shape, is_bounded}
use Rattle.affc_cprint.proofs.Places.{some_held}
use Rattle.affc_cprint.proofs.Programs.{param_names_are, decl_names_from}
use Rattle.affc_wellnamed.proofs.Counts.{Adds, Rises, Runs, adds_both, rises_both, runs_both, none_added, any_tokens, count_is, run_ends, rises_more, rises_within, items_more, run_more, IsPlain, Row, row_both, row_more, no_row, highest, none_past, past_none}
use Rattle.affc_wellnamed.proofs.ShapeParts.{Spans, AreQuiet, spans_both, spans_brackets, spans_joined, plain_word, plain_number, square, ix_spans, dims_span, tests_spans}
use Rattle.affc_wellnamed.proofs.ShapeStatements.{Numbers, joined, Fits, Counted, counted_both, fits_both, line_of, fits_line, closed_of, fits_closed, Shapes, no_item, new_no_item, line_counted, part_line, quiet_end, Behind, none_behind, one_behind, spans_fit, body_shapes, all_weigh}
use Rattle.affc_wellnamed.proofs.KnownPrograms.{Spoken, program_speaks}
use Rattle.affc_wellnamed.proofs.KnownBack.{some_is}
use Rattle.affc_cprint.proofs.Spelled.{off}

plain : (bytes : List ℕ) → is_separator (mark bytes) ≡ false → is_opening (mark bytes) ≡ false → is_closing (mark bytes) ≡ false → IsPlain (mark bytes)
plain bytes a b c = record { separator = a; opening = b; closing = c; item = refl }

-- ---- Names

quiet_nothing : AreQuiet no_names
quiet_nothing = record { numbers = λ id. refl; arrays = λ id. refl }

quiet_array : (names : Names) (w : Name) → AreQuiet names → is_item (word w) ≡ false → AreQuiet (and_array_name names w)
quiet_array names w q h = record { numbers = q.numbers; arrays = λ id. of names.arrays id.0 (λ i. q.arrays (record { 0 = i })) }
  where
    of : (xs : List Name) (i : ℕ) → ((j : ℕ) → is_item (word (unwrap_or (slice_get xs j) [])) ≡ false) → is_item (word (unwrap_or (slice_get (xs ++ w ∷ []) i) [])) ≡ false
    of [] zero f = h
    of [] (suc i) f = refl
    of (x ∷ xs) zero f = f zero
    of (x ∷ xs) (suc i) f = of xs i (λ j. f (suc j))

param_plain : (k : Known) (q : Param) → param_known k q ≡ true → is_item (word (param_name q)) ≡ false
param_plain k (Number w low high) h = new_no_item k false w (and_parts (is_new k false w) (is_int low && is_int high) h).0
param_plain k (Array d) h = new_no_item k false d.name (and_parts (is_new k false d.name) (not (is_temp d.role) && extents_known k d.extents) h).0

quiet_param : (k : Known) (names : Names) (q : Param) → AreQuiet names → param_known k q ≡ true → AreQuiet (and_param_name names q)
quiet_param k names (Number w low high) quiet h = quiet_end names w quiet (param_plain k (Number w low high) h)
quiet_param k names (Array d) quiet h = quiet_array names d.name quiet (param_plain k (Array d) h)

quiet_params : (prelude : Bool) (f : Name) (before : List Param) (names : Names) → AreQuiet names → (qs : List Param) → params_known prelude f before qs ≡ true → AreQuiet (with_param_names names qs)
quiet_params prelude f before names quiet [] h = quiet
quiet_params prelude f before names quiet (q ∷ qs) h =
    let p = and_parts (param_known (known_behind prelude f before []) q) (params_known prelude f (before ++ q ∷ []) qs) h in
    quiet_params prelude f (before ++ q ∷ []) (and_param_name names q) (quiet_param (known_behind prelude f before []) names q quiet p.0) qs p.1

-- ---- Parameters

two_row : (a b : Name) → is_item (word a) ≡ false → is_item (word b) ≡ false → Row 2 0 (word a ∷ word b ∷ [])
two_row a b p q = row_more 1 0 (word a) (word b ∷ []) (plain_word a p) (row_more 0 0 (word b) [] (plain_word b q) no_row)

two_words : (a b : Name) → is_item (word a) ≡ false → is_item (word b) ≡ false → Spans (word a ∷ word b ∷ []) (record { tokens = 2; depth = 0 })
two_words a b p q = record { count = 2; deep = 0; row = two_row a b p q; tokens = refl; depth = refl }

head_spans : (role : Role) (w : Name) → is_item (word w) ≡ false → Spans (const_symbols (printed.is_input role) ++ word (codes "uint64_t") ∷ word w ∷ []) (head_tokens role)
head_spans Input w h = record { count = 3; deep = 0; row = row_more 2 0 (word (codes "const")) (word (codes "uint64_t") ∷ word w ∷ []) (plain_word (codes "const") refl) (two_row (codes "uint64_t") w refl h); tokens = refl; depth = refl }
head_spans Output w h = two_words (codes "uint64_t") w refl h
head_spans Temp w h = two_words (codes "uint64_t") w refl h

module _ (prelude : Bool) where
  array_spans : (names : Names) → AreQuiet names → (d : Decl) → is_item (word d.name) ≡ false → (es : List Ix) → (es ≡ [] → ⊥) → Spans (param_symbols (array_text prelude names d es)) (array_extent prelude d.role es)
  array_spans names quiet d h [] some = absurd (some refl)
  array_spans names quiet d h (e ∷ es) some =
      let front = const_symbols (printed.is_input d.role) ++ word (codes "uint64_t") ∷ word d.name ∷ [] in
      let text = ix_text prelude names e in
      let one = spans_brackets (mark (codes "[")) (mark (codes "]")) (ix_symbols text) (whole prelude e) square (ix_spans prelude names quiet e) in
      let a = beside (head_tokens d.role) (bracketed (whole prelude e)) in
      let first : Spans (front ++ dim_symbols text) a = spans_both front (dim_symbols text) (head_tokens d.role) (bracketed (whole prelude e)) (head_spans d.role d.name h) one in
      let all = dims_span prelude names quiet no_dims (front ++ dim_symbols text) a es (subst (λ l. Spans l a) (sym (append-nil (front ++ dim_symbols text))) first) in
      subst (λ l. Spans l (dims_behind prelude a es)) (grouped (printed.is_input d.role) (dim_symbols text) (dims_symbols (dims_text prelude names es))) all
    where
      grouped : (b : Bool) (xs ys : List Symbol) → ((const_symbols b ++ word (codes "uint64_t") ∷ word d.name ∷ []) ++ xs) ++ ys ≡ const_symbols b ++ word (codes "uint64_t") ∷ word d.name ∷ (xs ++ ys)
      grouped true xs ys = refl
      grouped false xs ys = refl

  param_spans : (k : Known) (names : Names) → AreQuiet names → (q : Param) → param_known k q ≡ true → Spans (param_symbols (param_text prelude names q)) (param_extent prelude q)
  param_spans k names quiet (Number w low high) h = two_words (codes "int64_t") w refl (param_plain k (Number w low high) h)
  param_spans k names quiet (Array d) h =
      let p = and_parts (is_new k false d.name) (not (is_temp d.role) && extents_known k d.extents) h in
      let q = and_parts (not (is_temp d.role)) (extents_known k d.extents) p.1 in
      let r = and_parts (not (is_none d.extents)) (ixs_known k d.extents) q.1 in
      array_spans names quiet d (param_plain k (Array d) h) d.extents (some_is d.extents r.0)

  params_span : (f : Name) (before : List Param) (names : Names) → AreQuiet names → (c : ParamsText prelude) (a : Extent) → Spans (params_symbols c) a → (qs : List Param) → params_known prelude f before qs ≡ true
      → Spans (params_symbols (and_params prelude names c qs).0) (params_behind prelude a qs)
  params_span f before names quiet c a s [] h = s
  params_span f before names quiet c a s (q ∷ qs) h =
      let p = and_parts (param_known (known_behind prelude f before []) q) (params_known prelude f (before ++ q ∷ []) qs) h in
      params_span f (before ++ q ∷ []) (and_param_name names q) (quiet_param (known_behind prelude f before []) names q quiet p.0) (and_param c (param_text prelude names q)) (and_tokens 1 (beside a (param_extent prelude q)))
      (spans_joined (mark (codes ",")) (params_symbols c) (param_symbols (param_text prelude names q)) a (param_extent prelude q) (plain (codes ",") refl refl refl) s (param_spans (known_behind prelude f before []) names quiet q p.0)) qs p.1

  params_spans : (f : Name) (qs : List Param) → (qs ≡ [] → ⊥) → params_known prelude f [] qs ≡ true → Spans (params_symbols (params_text prelude qs).0) (params_extent prelude qs)
  params_spans f [] some h = absurd (some refl)
  params_spans f (q ∷ qs) some h =
      let p = and_parts (param_known (known_behind prelude f [] []) q) (params_known prelude f (q ∷ []) qs) h in
      params_span f (q ∷ []) (and_param_name no_names q) (quiet_param (known_behind prelude f [] []) no_names q quiet_nothing p.0) (param (param_text prelude no_names q)) (param_extent prelude q)
      (param_spans (known_behind prelude f [] []) no_names quiet_nothing q p.0) qs p.1

  -- ---- Temporaries

  record Decls (c : DeclsText prelude) (n : Numbers) (a : Shape) (names : Names) : Type 0 where
    here : Behind (decls_symbols c) n a
    quiet : AreQuiet names

  decls_shapes : (f : Name) (qs : List Param) (before : List Decl) (names : Names) → AreQuiet names → (c : DeclsText prelude) (n : Numbers) (a : Shape) → Behind (decls_symbols c) n a → (ds : List Decl) → temps_known prelude f qs before ds ≡ true
      → Decls (decls_text prelude names c ds).0 n (decls_behind prelude a ds) (with_array_names names ds)
  decls_shapes f qs before names quiet c n a b [] h = record { here = b; quiet = quiet }
  decls_shapes f qs before names quiet c n a b (d ∷ ds) h =
      let k = known_behind prelude f qs before in
      let p = and_parts (temp_known k d) (temps_known prelude f qs (before ++ d ∷ []) ds) h in
      let q = and_parts (is_new k false d.name) (is_temp d.role && ixs_known k d.extents) p.0 in
      let item = new_no_item k false d.name q.0 in
      let two : Extent = record { tokens = 2; depth = 0 } in
      let dims = dims_text prelude names d.extents in
      let front = word (codes "uint64_t") ∷ word d.name ∷ dims_symbols dims in
      let s : Spans front (dims_behind prelude two d.extents) = dims_span prelude names quiet no_dims (word (codes "uint64_t") ∷ word d.name ∷ []) two d.extents (two_words (codes "uint64_t") d.name refl item) in
      let none_more : 0 + s.count ≡ s.count = omega arith in
      let one = part_line [] 0 front (dims_behind prelude two d.extents) (mark (codes ";")) s refl (record { opening = refl; closing = refl }) refl (subst (λ m. Row m s.deep front) (sym none_more) s.row) in
      decls_shapes f qs (before ++ d ∷ []) (and_array_name names d.name) (quiet_array names d.name quiet item) (and_decl c (one_array d.name dims)) n (both a (line 0 (dims_behind prelude two d.extents)))
      (one_behind (decls_symbols c) (front ++ mark (codes ";") ∷ []) n (line_of 0 s.count s.deep) a (line 0 (dims_behind prelude two d.extents)) b one (spans_fit 0 front (dims_behind prelude two d.extents) s)) ds p.1

-- ---- Lines before the function

abbrev ending : Symbol
ending = record { kind = LineEnd; bytes = codes "\n" }

plain_hash : IsPlain (record { kind = Hash; bytes = codes "#" })
plain_hash = record { separator = refl; opening = refl; closing = refl; item = refl }

int_row : (z : ℤ) → Row (end_tokens z) 0 (int_symbols (int_text z))
int_row (pos n) = subst (λ m. Row m 0 (number (digits_of n) ∷ [])) (sym (ap (λ b. if b then 2 else 1) (not_below_zero n))) (row_more 0 0 (number (digits_of n)) [] (plain_number (digits_of n)) no_row)
  where
    not_below_zero : (n : ℕ) → int_lt (pos n) (pos 0) ≡ false
    not_below_zero n = le-ltb n 0 (omega arith)
int_row (negsuc n) = row_more 1 0 (mark (codes "-")) _ (plain (codes "-") refl refl refl) (row_more 0 0 (number (digits_of (n + 1))) [] (plain_number (digits_of (n + 1))) no_row)

pragma_row : (w : Name) → is_item (word w) ≡ false → (n d : ℕ) (ss : List Symbol) → Row n d ss → Row (4 + n) d (pragma_symbols w ++ ss)
pragma_row w h n d ss r =
    let four : 1 + (1 + (1 + (1 + n))) ≡ 4 + n = omega arith in
    subst (λ m. Row m d (pragma_symbols w ++ ss)) four (row_more _ d (record { kind = Hash; bytes = codes "#" }) _ plain_hash (row_more _ d (word (codes "pragma")) _ (plain_word (codes "pragma") refl)
    (row_more _ d (word (codes "affc")) _ (plain_word (codes "affc") refl) (row_more n d (word w) ss (plain_word w h) r))))

one_range : (w : Name) (low high : ℤ) → is_item (word w) ≡ false → Counted (pragma_symbols (codes "param") ++ word w ∷ (int_symbols (int_text low) ++ (int_symbols (int_text high) ++ line_symbols line_feed))) (line_of (5 + (end_tokens low + end_tokens high)) 0 0)
one_range w low high h =
    let ints = row_both (end_tokens low) (end_tokens high) 0 0 (int_symbols (int_text low)) (int_symbols (int_text high)) (int_row low) (int_row high) in
    let row = pragma_row (codes "param") refl _ 0 (word w ∷ (int_symbols (int_text low) ++ int_symbols (int_text high))) (row_more _ 0 (word w) _ (plain_word w h) ints) in
    let size : 4 + (1 + (end_tokens low + end_tokens high)) ≡ 0 + (5 + (end_tokens low + end_tokens high)) = omega arith in
    let ss = pragma_symbols (codes "param") ++ word w ∷ (int_symbols (int_text low) ++ int_symbols (int_text high)) in
    let all = line_counted ss ending (5 + (end_tokens low + end_tokens high)) 0 0 refl (record { opening = refl; closing = refl }) refl (subst (λ m. Row m 0 ss) size row) in
    subst (λ l. Counted (pragma_symbols (codes "param") ++ word w ∷ l) (line_of (5 + (end_tokens low + end_tokens high)) 0 0)) (append_assoc (int_symbols (int_text low)) (int_symbols (int_text high)) (ending ∷ [])) all

ranges_shapes : (prelude : Bool) (f : Name) (before : List Param) (c : PragmasText) (n : Numbers) (a : Shape) → Behind (pragmas_symbols c) n a → (qs : List Param) → params_known prelude f before qs ≡ true → Behind (pragmas_symbols (ranges_text c qs)) n (ranges_behind a qs)
ranges_shapes prelude f before c n a b [] h = b
ranges_shapes prelude f before c n a b (Number w low high ∷ qs) h =
    let p = and_parts (param_known (known_behind prelude f before []) (Number w low high)) (params_known prelude f (before ++ Number w low high ∷ []) qs) h in
    ranges_shapes prelude f (before ++ Number w low high ∷ []) (and_range c w (int_text low) (int_text high) line_feed) n (both a (range_line low high))
    (one_behind (pragmas_symbols c) _ n (line_of (5 + (end_tokens low + end_tokens high)) 0 0) a (range_line low high) b (one_range w low high (param_plain (known_behind prelude f before []) (Number w low high) p.0))
    (fits_line (5 + (end_tokens low + end_tokens high)) nothing 0 0 refl refl)) qs p.1
ranges_shapes prelude f before c n a b (Array d ∷ qs) h =
    let p = and_parts (param_known (known_behind prelude f before []) (Array d)) (params_known prelude f (before ++ Array d ∷ []) qs) h in
    ranges_shapes prelude f (before ++ Array d ∷ []) c n a b qs p.1

context_shapes : (known : Known) (names : Names) → AreQuiet names → (c : PragmasText) (n : Numbers) (a : Shape) → Behind (pragmas_symbols c) n a → (cs : List Compare) → compares_known known cs ≡ true → Behind (pragmas_symbols (context_text names c cs)) n (context_behind a cs)
context_shapes known names quiet c n a b [] h = b
context_shapes known names quiet c n a b (x ∷ cs) h =
    let s = tests_spans names quiet known x cs h in
    let ss = cond_symbols (tests_text names x cs) in
    let e = compares_behind true (compare_extent true x) cs in
    let one = part_line (pragma_symbols (codes "context")) 4 ss e ending s refl (record { opening = refl; closing = refl }) refl (pragma_row (codes "context") refl s.count s.deep ss s.row) in
    one_behind (pragmas_symbols c) ((pragma_symbols (codes "context") ++ ss) ++ ending ∷ []) n (line_of 4 s.count s.deep) a (line 4 e) b one (spans_fit 4 ss e s)

-- ---- The function

module _ (pre : List Symbol) (j : ℕ) (before : Row j 0 pre) (name : Name) (plain_name : is_item (word name) ≡ false) (ps ds bs : List Symbol) (c cd : ℕ) (params : Row c cd ps) (d b : Numbers) (decls : Counted ds d) (body : Counted bs b) where
  abbrev function_of : Numbers
  function_of = closed_of (joined (joined (line_of (4 + j) c cd) d) b)

  abbrev function_tail : List Symbol
  function_tail = mark (codes "{") ∷ (ds ++ (bs ++ mark (codes "}") ∷ []))

  abbrev all_symbols : List Symbol
  all_symbols = pre ++ word (codes "void") ∷ word name ∷ mark (codes "(") ∷ (ps ++ mark (codes ")") ∷ function_tail)

  function_token : length all_symbols ≡ function_of.tokens
  function_token =
      let a = length-append pre (word (codes "void") ∷ word name ∷ mark (codes "(") ∷ (ps ++ mark (codes ")") ∷ function_tail)) in
      let e = length-append ps (mark (codes ")") ∷ function_tail) in
      let f = length-append ds (bs ++ mark (codes "}") ∷ []) in
      let g = length-append bs (mark (codes "}") ∷ []) in
      let h = count_is j pre before.token in
      let i = count_is c ps params.token in
      let k = decls.token in
      let l = body.token in
      omega (arith, a, e, f, g, h, i, k, l)

  abbrev function_run_symbols : List Symbol
  function_run_symbols = pre ++ word (codes "void") ∷ word name ∷ mark (codes "(") ∷ (ps ++ mark (codes ")") ∷ [])

  function_grouped : (function_run_symbols ++ mark (codes "{") ∷ []) ++ (ds ++ (bs ++ mark (codes "}") ∷ [])) ≡ all_symbols
  function_grouped =
      ap (λ z. z ++ (ds ++ (bs ++ mark (codes "}") ∷ []))) (append_assoc pre (word (codes "void") ∷ word name ∷ mark (codes "(") ∷ (ps ++ mark (codes ")") ∷ [])) (mark (codes "{") ∷ []))
      ∙ append_assoc pre (word (codes "void") ∷ word name ∷ mark (codes "(") ∷ ((ps ++ mark (codes ")") ∷ []) ++ mark (codes "{") ∷ [])) (ds ++ (bs ++ mark (codes "}") ∷ []))
      ∙ ap (λ z. pre ++ word (codes "void") ∷ word name ∷ mark (codes "(") ∷ z) (ap (λ z. z ++ (ds ++ (bs ++ mark (codes "}") ∷ []))) (append_assoc ps (mark (codes ")") ∷ []) (mark (codes "{") ∷ [])) ∙ append_assoc ps (mark (codes ")") ∷ mark (codes "{") ∷ []) (ds ++ (bs ++ mark (codes "}") ∷ [])))

  function_run : Runs function_of.run all_symbols
  function_run =
      let one = run_ends (j + (1 + (1 + (1 + (c + (1 + 0)))))) function_run_symbols (mark (codes "{")) refl
      (adds_both count_run j (1 + (1 + (1 + (c + (1 + 0))))) pre (word (codes "void") ∷ word name ∷ mark (codes "(") ∷ (ps ++ mark (codes ")") ∷ [])) before.run
      (run_more _ (word (codes "void")) _ refl (run_more _ (word name) _ refl (run_more _ (mark (codes "(")) _ refl (adds_both count_run c (1 + 0) ps (mark (codes ")") ∷ []) params.run (run_more 0 (mark (codes ")")) [] refl (none_added count_run))))))) in
      let last = runs_both d.run _ ds _ decls.run (runs_both b.run 0 bs (mark (codes "}") ∷ []) body.run (run_ends 0 [] (mark (codes "}")) refl (none_added count_run))) in
      let all = runs_both _ _ (function_run_symbols ++ mark (codes "{") ∷ []) _ one last in
      let size : max (j + (1 + (1 + (1 + (c + (1 + 0)))))) (max d.run (max b.run 0)) ≡ function_of.run = omega arith in
      subst (λ n. Runs n all_symbols) size (subst (Runs (max (j + (1 + (1 + (1 + (c + (1 + 0)))))) (max d.run (max b.run 0)))) function_grouped all)

  function_bracketed : pre ++ word (codes "void") ∷ word name ∷ ((mark (codes "(") ∷ (ps ++ mark (codes ")") ∷ [])) ++ (mark (codes "{") ∷ ((ds ++ bs) ++ mark (codes "}") ∷ []))) ≡ all_symbols
  function_bracketed = ap (λ z. pre ++ word (codes "void") ∷ word name ∷ mark (codes "(") ∷ z)
      (append_assoc ps (mark (codes ")") ∷ []) (mark (codes "{") ∷ ((ds ++ bs) ++ mark (codes "}") ∷ [])) ∙ ap (λ z. ps ++ mark (codes ")") ∷ mark (codes "{") ∷ z) (append_assoc ds bs (mark (codes "}") ∷ [])))

  function_brackets : Rises count_open function_of.depth all_symbols
  function_brackets =
      let round = rises_within cd (mark (codes "(")) (mark (codes ")")) ps refl refl refl params.brackets in
      let curly = rises_within (max d.depth b.depth) (mark (codes "{")) (mark (codes "}")) (ds ++ bs) refl refl refl (rises_both count_open d.depth b.depth ds bs decls.brackets body.brackets) in
      let all = rises_both count_open 0 _ pre _ before.brackets (rises_more _ (word (codes "void")) _ (record { opening = refl; closing = refl }) (rises_more _ (word name) _ (record { opening = refl; closing = refl })
      (rises_both count_open _ _ (mark (codes "(") ∷ (ps ++ mark (codes ")") ∷ [])) (mark (codes "{") ∷ ((ds ++ bs) ++ mark (codes "}") ∷ [])) round curly))) in
      let size : max 0 (max (cd + 1) (max d.depth b.depth + 1)) ≡ function_of.depth = omega arith in
      subst (λ n. Rises count_open n all_symbols) size (subst (Rises count_open (max 0 (max (cd + 1) (max d.depth b.depth + 1)))) function_bracketed all)

  function_item : Adds count_item function_of.items all_symbols
  function_item =
      let tail = items_more _ (mark (codes "{")) _ refl (adds_both count_item d.items _ ds _ decls.item (adds_both count_item b.items 0 bs (mark (codes "}") ∷ []) body.item (items_more 0 (mark (codes "}")) [] refl (none_added count_item)))) in
      let all = adds_both count_item 0 _ pre _ before.item (items_more _ (word (codes "void")) _ refl (items_more _ (word name) _ plain_name (items_more _ (mark (codes "(")) _ refl (adds_both count_item 0 _ ps _ params.item (items_more _ (mark (codes ")")) _ refl tail))))) in
      let size : 0 + (0 + (d.items + (b.items + 0))) ≡ function_of.items = omega arith in
      subst (λ n. Adds count_item n all_symbols) size all

  function_counted : Counted all_symbols function_of
  function_counted = record { token = function_token; run = function_run; brackets = function_brackets; item = function_item }

-- ---- The text

prelude_row : (b : Bool) → Row (if b then 1 else 0) 0 (prelude_symbols b)
prelude_row true = row_more 0 0 _ [] (record { separator = refl; opening = refl; closing = refl; item = refl }) no_row
prelude_row false = no_row

head_more : (b : Bool) (e : Extent) → line (if b then 5 else 4) e ≡ line (4 + (if b then 1 else 0)) e
head_more true e = refl
head_more false e = refl

include_counted : Counted (include_symbols line_feed) (line_of 3 0 0)
include_counted = line_counted (record { kind = Hash; bytes = codes "#" } ∷ word (codes "include") ∷ record { kind = Header; bytes = codes "<stdint.h>" } ∷ []) ending 3 0 0 refl (record { opening = refl; closing = refl }) refl
    (row_more 2 0 (record { kind = Hash; bytes = codes "#" }) _ plain_hash (row_more 1 0 (word (codes "include")) _ (plain_word (codes "include") refl) (row_more 0 0 (record { kind = Header; bytes = codes "<stdint.h>" }) [] (record { separator = refl; opening = refl; closing = refl; item = refl }) no_row)))

reserved_item : (w : Name) → not (is_reserved w) ≡ true → is_item (word w) ≡ false
reserved_item w h = no_item false false w (ap (λ b. b && true) (off (is_reserved w) h))

abbrev printed_symbols : Program → List Symbol
printed_symbols p = include_symbols line_feed ++ (pragmas_symbols (pragmas_of p) ++ (prelude_symbols p.prelude ++ function_symbols (function_text p.prelude p)))

abbrev text_by : (p : Program) → Names → Names → Names → Names → List Symbol
text_by p l n i m = (include_symbols line_feed ++ pragmas_symbols (context_text l (ranges_text no_pragmas p.params) p.context))
    ++ (prelude_symbols p.prelude ++ word (codes "void") ∷ word p.name ∷ mark (codes "(") ∷ (params_symbols (params_text p.prelude p.params).0 ++ mark (codes ")") ∷ mark (codes "{") ∷ (decls_symbols (decls_text p.prelude n no_decls p.temps).0
    ++ (stmts_symbols (stmts_text i no_stmts (map (stmt_text p.prelude) p.body)) ++ mark (codes "}") ∷ []))))

pub program_shapes : (p : Program) → program_known p ≡ true → Shapes (printed_symbols p) (program_shape p)
program_shapes p h =
    let a = and_parts (is_function p.name) (not (is_none p.params) && (params_known p.prelude p.name [] p.params && (context_known p && (temps_known p.prelude p.name p.params [] p.temps && body_known p)))) h in
    let b = and_parts (not (is_none p.params)) (params_known p.prelude p.name [] p.params && (context_known p && (temps_known p.prelude p.name p.params [] p.temps && body_known p))) a.1 in
    let c = and_parts (params_known p.prelude p.name [] p.params) (context_known p && (temps_known p.prelude p.name p.params [] p.temps && body_known p)) b.1 in
    let d = and_parts (context_known p) (temps_known p.prelude p.name p.params [] p.temps && body_known p) c.1 in
    let e = and_parts (temps_known p.prelude p.name p.params [] p.temps) (body_known p) d.1 in
    let f = and_parts (is_word p.name) (not (is_reserved p.name)) a.0 in
    let names = with_param_names no_names p.params in
    let quiet = quiet_params p.prelude p.name [] no_names quiet_nothing p.params c.0 in
    let first : Numbers = line_of 3 0 0 in
    let ranges = ranges_shapes p.prelude p.name [] no_pragmas first (line 3 nothing) (none_behind (line 3 nothing) first (fits_line 3 nothing 0 0 refl refl)) p.params c.0 in
    let lines = context_shapes (known_behind p.prelude p.name p.params []) names quiet (ranges_text no_pragmas p.params) first (ranges_behind (line 3 nothing) p.params) ranges p.context d.0 in
    let before = counted_both (include_symbols line_feed) (pragmas_symbols (context_text names (ranges_text no_pragmas p.params) p.context)) first lines.numbers include_counted lines.counted in
    let ps = params_spans p.prelude p.name p.params (some_is p.params b.0) c.0 in
    let j = if p.prelude then 1 else 0 in
    let head : Numbers = line_of (4 + j) ps.count ps.deep in
    let fits_head : Fits (head_line p.prelude p.params) head = subst (λ s. Fits s head) (sym (head_more p.prelude (params_extent p.prelude p.params))) (spans_fit (4 + j) (params_symbols (params_text p.prelude p.params).0) (params_extent p.prelude p.params) ps) in
    let ds = decls_shapes p.prelude p.name p.params [] names quiet no_decls head (head_line p.prelude p.params) (none_behind (head_line p.prelude p.params) head fits_head) p.temps e.0 in
    let inner = with_array_names names p.temps in
    let more : Numbers = joined head ds.here.numbers in
    let start = decls_behind p.prelude (head_line p.prelude p.params) p.temps in
    let bs = body_shapes p.prelude (known_behind p.prelude p.name p.params p.temps) inner ds.quiet no_stmts more start (none_behind start more ds.here.fits) p.body (all_weigh p.prelude p.body) e.1 in
    let function = function_counted (prelude_symbols p.prelude) j (prelude_row p.prelude) p.name (reserved_item p.name f.1) (params_symbols (params_text p.prelude p.params).0) (decls_symbols (decls_text p.prelude names no_decls p.temps).0)
    (stmts_symbols (stmts_text inner no_stmts (map (stmt_text p.prelude) p.body))) ps.count ps.deep ps.row ds.here.numbers bs.numbers ds.here.counted bs.counted in
    let fits_function : Fits (function_shape p) (closed_of (joined more bs.numbers)) = fits_closed (stmts_behind p.prelude start p.body) _ bs.fits in
    let all = counted_both _ _ (joined first lines.numbers) (closed_of (joined more bs.numbers)) before function in
    let names_so : (params_text p.prelude p.params).1 ≡ names = param_names_are p.prelude p.params in
    let lines_so : (params_text true p.params).1 ≡ names = param_names_are true p.params in
    let inner_so : (decls_text p.prelude (params_text p.prelude p.params).1 no_decls p.temps).1 ≡ inner = decl_names_from p.prelude (params_text p.prelude p.params).1 no_decls p.temps ∙ ap (λ n. with_array_names n p.temps) names_so in
    record {
      numbers = joined (joined first lines.numbers) (closed_of (joined more bs.numbers));
      fits = fits_both (lines_shape p) (function_shape p) _ _ lines.fits fits_function;
      counted = subst (λ l. Counted l (joined (joined first lines.numbers) (closed_of (joined more bs.numbers)))) (symbols_so p names inner (sym names_so) (sym lines_so) (sym inner_so)) all;
    }
  where
    symbols_so : (p : Program) (names inner : Names) → names ≡ (params_text p.prelude p.params).1 → names ≡ (params_text true p.params).1 → inner ≡ (decls_text p.prelude (params_text p.prelude p.params).1 no_decls p.temps).1
        → text_by p names names inner inner ≡ printed_symbols p
    symbols_so p names inner a b c =
        (λ t. text_by p (b t) (a t) (c t) (c t))
        ∙ append_assoc (include_symbols line_feed) (pragmas_symbols (pragmas_of p)) (prelude_symbols p.prelude ++ function_symbols (function_text p.prelude p))

-- ---- The limits on the tokens

pub kept_below : (n s limit : ℕ) → s ≡ saturated n → limit ≤ 16777216 → nat_le s limit ≡ true → n ≤ limit
kept_below n s limit e small h = let le = leb-true s limit h in omega (arith, e, small, le)

pub below_kept : (n s limit : ℕ) → s ≡ saturated n → n ≤ limit → nat_le s limit ≡ true
below_kept n s limit e le = le-leb s limit (omega (arith, e, le))

pub no_faults : {A B : Type 0} (f : A → B) (xs : List A) → map f xs ≡ [] → xs ≡ []
no_faults f [] e = refl
no_faults f (x ∷ xs) e = absurd (cc)

pub none_of_both : {A : Type 0} (xs ys : List A) → xs ++ ys ≡ [] → (xs ≡ []) × (ys ≡ [])
none_of_both [] ys e = (refl, e)
none_of_both (x ∷ xs) ys e = absurd (cc)

module _ (ss : List Symbol) (n : Numbers) (c : Counted ss n) where
  token_most : highest count_token 0 ss ≡ n.tokens
  token_most = let a = (any_tokens ss).most 0 in let b = c.token in omega (arith, a, b)

  bracket_most : highest count_open 0 ss ≡ n.depth
  bracket_most = let a = c.brackets.most 0 in omega (arith, a)

  item_most : highest count_item 0 ss ≡ n.items
  item_most = let a = c.item.most 0 in omega (arith, a)

  pub bounded_is : (s : Shape) → Fits s n → is_bounded s ≡ true → shape_passed wide_limits ss ≡ []
  bounded_is s f h =
      let p = and_parts (nat_le s.tokens wide_limits.tokens && nat_le s.run wide_limits.run) (nat_le s.depth wide_limits.depth && nat_le s.items wide_limits.items) h in
      let q = and_parts (nat_le s.tokens wide_limits.tokens) (nat_le s.run wide_limits.run) p.0 in
      let r = and_parts (nat_le s.depth wide_limits.depth) (nat_le s.items wide_limits.items) p.1 in
      let a = kept_below n.tokens s.tokens wide_limits.tokens f.tokens (omega arith) q.0 in
      let b = kept_below n.run s.run wide_limits.run f.run (omega arith) q.1 in
      let d = kept_below n.depth s.depth wide_limits.depth f.depth (omega arith) r.0 in
      let e = kept_below n.items s.items wide_limits.items f.items (omega arith) r.1 in
      let i = token_most in let j = c.run.most in let k = bracket_most in let l = item_most in
      rw (past_none count_token wide_limits.tokens 0 0 ss (omega (arith, a, i))) (rw (past_none count_run wide_limits.run 0 0 ss (omega (arith, b, j)))
      (rw (past_none count_open wide_limits.depth 0 0 ss (omega (arith, d, k))) (rw (past_none count_item wide_limits.items 0 0 ss (omega (arith, e, l))) refl)))

  pub is_bounded_so : (s : Shape) → Fits s n → shape_passed wide_limits ss ≡ [] → is_bounded s ≡ true
  is_bounded_so s f e =
      let p = none_of_both _ _ e in
      let q = none_of_both _ _ p.0 in
      let r = none_of_both _ _ q.0 in
      let a = none_past count_token wide_limits.tokens 0 0 ss (omega arith) (no_faults _ _ r.0) in
      let b = none_past count_run wide_limits.run 0 0 ss (omega arith) (no_faults _ _ r.1) in
      let d = none_past count_open wide_limits.depth 0 0 ss (omega arith) (no_faults _ _ q.1) in
      let g = none_past count_item wide_limits.items 0 0 ss (omega arith) (no_faults _ _ p.1) in
      let i = token_most in let j = c.run.most in let k = bracket_most in let l = item_most in
      and_from _ _ (and_from _ _ (below_kept n.tokens s.tokens wide_limits.tokens f.tokens (omega (arith, a, i))) (below_kept n.run s.run wide_limits.run f.run (omega (arith, b, j))))
      (and_from _ _ (below_kept n.depth s.depth wide_limits.depth f.depth (omega (arith, d, k))) (below_kept n.items s.items wide_limits.items f.items (omega (arith, g, l))))

printed_so : (p : Program) (o : Option (IsTrue (p.prelude || not (context_calls (pragmas_of p))))) → is_some o ≡ true → text_symbols (with_pragmas p (pragmas_of p) o) ≡ printed_symbols p
printed_so p (Some h) s = refl
printed_so p None s = absurd (cc)

pub symbols_are : (p : Program) → Spoken p → text_symbols (printed p) ≡ printed_symbols p
symbols_are p s = printed_so p (holding (p.prelude || not (context_calls (pragmas_of p)))) (some_held (p.prelude || not (context_calls (pragmas_of p))) s.calls)

pub shape_kept : (p : Program) → program_known p ≡ true → is_bounded (program_shape p) ≡ true → shape_passed wide_limits (text_symbols (printed p)) ≡ []
shape_kept p h b = let s = program_shapes p h in ap (shape_passed wide_limits) (symbols_are p (program_speaks p h)) ∙ bounded_is (printed_symbols p) s.numbers s.counted (program_shape p) s.fits b

pub shape_so : (p : Program) → program_known p ≡ true → shape_passed wide_limits (text_symbols (printed p)) ≡ [] → is_bounded (program_shape p) ≡ true
shape_so p h e = let s = program_shapes p h in is_bounded_so (printed_symbols p) s.numbers s.counted (program_shape p) s.fits (ap (shape_passed wide_limits) (sym (symbols_are p (program_speaks p h))) ∙ e)
