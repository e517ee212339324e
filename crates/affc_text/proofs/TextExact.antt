-- The drafts of the function, of the lines and of the text that are read are those of the grammar's, read by the grammar.
use Rattle.std.proofs.Common.{◌≡◌, ℕ, zero, suc, ◌+◌, ◌-◌, Bool, true, false, not, ◌&&◌, ◌||◌, codes, ◌≤◌, List, [], ◌∷◌, ◌++◌, length, length-drop, take, drop, map, Option, Some, None, IsTrue, Ok, Err, if◌then◌else◌, pos, neg_ℤ, refl, sym, ap, ◌∙◌, arith, length-append, append_assoc}
use Rattle.std.specs.Option.{option_map, is_some}
use Rattle.affc_lex.specs.Bytes.{same, decimal}
use Rattle.affc_ast.specs.declared.tree.Role.TheVariants.{Input, Output, Temp}
use Rattle.affc_grammar.specs.Grammar as g
use Rattle.affc_grammar.specs.Grammar.{Symbol, Name, LineText, line_feed, text_end, mark, word, StmtsText, ParamText, ParamsText, NamesText, DeclsText, FunctionText, PragmasText, Text, has_call, context_calls, ix_symbols, dims_symbols, dim_symbols, cond_symbols, stmts_symbols, const_symbols, param_symbols, params_symbols, names_symbols, decls_symbols, function_symbols, int_symbols, line_symbols, pragmas_symbols, include_symbols, prelude_symbols}
use Rattle.affc_grammar.specs.Draft as d
use Rattle.affc_grammar.specs.Draft.{IxDraft, DeclDraft, ParamDraft, number_param, array_param, comparisons_in, word_draft, ix_draft, dims_draft, cond_draft, stmts_draft, array_role, param_draft, params_draft, temp_draft, names_draft, decls_draft, int_value, pragmas_draft, text_draft}
use Rattle.affc_grammar.specs.Reader.{At, Deep, Read, Reader, then_read, give, fail, deep, after, either, on, all, inside, finished}
use Rattle.affc_grammar.specs.Reading as r
use Rattle.affc_grammar.specs.Reading.{this_mark, this_word, any_word, any_number, is_number_kind, hash, header, the_prelude, line_end, First, a_word, a_brace, first_of, read_text, holding}
use Rattle.affc_grammar.proofs.Rules.{ix_inside_rule, dims_rule, cond_rule, inside_rule, param_rule, param_more_rule, params_rule, name_more_rule, inside_symbols, inside_more_rule, pragma_rule, stmts_inside_rule, block_inside_rule}
use Rattle.affc_grammar.proofs.Rule.{Rule, all_rule}
use Rattle.affc_grammar.proofs.Tests.{first_symbol, hash_test}
use Rattle.affc_grammar.specs.Limits.{count_open}
use Rattle.affc_lex.specs.declared.token.Kind.TheVariants.{Hash}
use Rattle.affc_syntax.specs.Ahead.{past, number_value}
use Rattle.affc_syntax.specs.Readers.{on_past, mapped}
use Rattle.affc_syntax.specs.IxReading as ix
use Rattle.affc_syntax.specs.CondReading.{whole}
use Rattle.affc_syntax.proofs.Draws.{Draws, Placed, then_is, then_then, either_mapped, either_turned, past_one, failed, closed_is, all_is}
use Rattle.affc_syntax.proofs.IxExact.{inside_is, dims_is}
use Rattle.affc_syntax.proofs.CondExact.{cond_is}
use Rattle.std.proofs.lemmas.List.{length-map}
use Rattle.affc_grammar.specs.Grammar.{text_symbols}
use Rattle.affc_grammar.proofs.Closed.{same_ok, same_at}
use Rattle.affc_grammar.proofs.Texts.{text_spelled}
use Rattle.affc_grammar.proofs.Rules.{text_rule}
use Rattle.affc_syntax.specs.declared.draft.draft.TextDraft.{TextDraft}
use Rattle.affc_syntax.specs.draft.Drafts as drafts
use Rattle.affc_syntax.specs.declared.draft.symbol.Symbol as code
use Rattle.affc_syntax.specs.draft.Symbols.{seen}
use Rattle.affc_syntax.specs.declared.ahead.Stop.TheVariants as s
use Rattle.affc_text.specs.Answers.{IsRead}
use Rattle.affc_text.specs.Parts.{Inside, no_inside, Function, Lines, no_lines}
use Rattle.affc_text.specs.StmtReading.{named, ends_line, is_none, statement, stmts_inside, block_inside}
use Rattle.affc_text.specs.TextReading.{extents, array, param, param_more, params, params_inside, temp, temp_more, more_temps, decl_behind, inside_stmt, inside_more, inner, function_inside, function, int, line_closed, range_behind, taken, context_behind, line_more, more_lines, ended, rest, lines_behind, include_behind, text}
use Rattle.affc_text.proofs.StmtExact.{on_is, past_then, drawn_then, then_assoc, ended_of, ended_after, statement_is, stmts_inside_is, block_inside_is}

mapped_give : {A D E : Type 0} (x : Read Symbol A) (f : A → D) (c : D → E) → then_read (mapped f x) (λ a us. Ok (c a, us)) ≡ mapped (λ a. c (f a)) x
mapped_give (Ok x) f c = refl
mapped_give (Err (At ts)) f c = refl
mapped_give (Err Deep) f c = refl

-- ---- Parameters

-- the extents are read, and join what stands before them
extents_as_read : {A : Type 0} (prelude : Bool) (end room : ℕ) (h : List IxDraft → A) (us : List Symbol) → then_read (extents prelude end room us) (λ es vs. Ok (h es, vs))
    ≡ on_past (past (this_mark (codes "[")) us) (λ _ vs.
    then_read (ix.inside prelude end room vs) (λ a ws.
    on_past (past (this_mark (codes "]")) ws) (λ _ xs. then_read (ix.dims prelude end room xs) (λ ds ys. Ok (h (a ∷ ds), ys))) (Err (At ws))))
    (Err (At us))
extents_as_read {A} prelude end room h us = past_then (past (this_mark (codes "[")) us) _ us joins ∙ (λ i. on_past (past (this_mark (codes "[")) us) (λ _ vs. behind_mark vs i) (Err (At us)))
  where
    joins : List IxDraft → Reader Symbol A
    joins es vs = Ok (h es, vs)

    others : IxDraft → Reader Symbol (List IxDraft)
    others a xs = then_read (ix.dims prelude end room xs) (λ ds ys. Ok (a ∷ ds, ys))

    behind_first : (a : IxDraft) (ws : List Symbol) → then_read (on_past (past (this_mark (codes "]")) ws) (λ _ xs. others a xs) (Err (At ws))) joins
        ≡ on_past (past (this_mark (codes "]")) ws) (λ _ xs. then_read (ix.dims prelude end room xs) (λ ds ys. Ok (h (a ∷ ds), ys))) (Err (At ws))
    behind_first a ws =
        past_then (past (this_mark (codes "]")) ws) (λ _ xs. others a xs) ws joins
        ∙ (λ i. on_past (past (this_mark (codes "]")) ws) (λ _ xs. sym (then_assoc (ix.dims prelude end room xs) (λ ds ys. Ok (a ∷ ds, ys)) joins) i) (Err (At ws)))

    behind_mark : (vs : List Symbol) → then_read (then_read (ix.inside prelude end room vs) (λ a ws. on_past (past (this_mark (codes "]")) ws) (λ _ xs. others a xs) (Err (At ws)))) joins
        ≡ then_read (ix.inside prelude end room vs) (λ a ws. on_past (past (this_mark (codes "]")) ws) (λ _ xs. then_read (ix.dims prelude end room xs) (λ ds ys. Ok (h (a ∷ ds), ys))) (Err (At ws)))
    behind_mark vs =
        sym (then_assoc (ix.inside prelude end room vs) (λ a ws. on_past (past (this_mark (codes "]")) ws) (λ _ xs. others a xs) (Err (At ws))) joins)
        ∙ (λ i. then_read (ix.inside prelude end room vs) (λ a ws. behind_first a ws i))

module _ (prelude : Bool) (end room : ℕ) where
  array_is : (at : ℕ) (is_const : Bool) (ts : List Symbol) → length ts ≤ end → end - length ts ≡ at + length (const_symbols is_const) + 1 → array prelude end room (array_role is_const) ts ≡ mapped (param_draft at) (r.read_array prelude room is_const ts)
  unfolding after give
  array_is at is_const ts le e =
      let n = at + length (const_symbols is_const) + 1 in
      drawn_then any_word (word_draft (end - length ts)) _ _ (param_draft at) ts (λ w us c.
      let one = past_one any_word ts w us c in
      extents_as_read prelude end room (λ es. array_param (record { word = word_draft (end - length ts) w; role = array_role is_const; extents = es })) us ∙
      on_is (this_mark (codes "[")) _ _ (param_draft at) us (λ k vs c.
      let two = past_one (this_mark (codes "[")) us k vs c in
      let less : length vs ≤ end = omega arith in
      let first_at : end - length vs ≡ n + 2 = omega arith in
      then_is (ix.inside prelude end room vs) (r.ix_inside prelude room vs) (ix_draft (end - length vs)) _ _ (param_draft at) (inside_is prelude end room vs less) (λ a ws q.
      let count = ap length ((ix_inside_rule prelude room).sound vs a ws q) ∙ length-append (ix_symbols a) ws in
      on_is (this_mark (codes "]")) _ _ (param_draft at) ws (λ k xs c.
      let three = past_one (this_mark (codes "]")) ws k xs c in
      let fewer : length xs ≤ end = omega arith in
      let whole = length-append (ix_symbols a) (mark (codes "]") ∷ []) in
      let others_at : end - length xs ≡ n + 1 + length (dim_symbols a) = omega arith in
      then_is (ix.dims prelude end room xs) (r.read_dims prelude room xs) (dims_draft (end - length xs)) _ _ (param_draft at) (dims_is prelude end room xs fewer) (λ ds ys q.
      (λ i. Ok (array_param (record { word = word_draft (e i) w; role = array_role is_const; extents = ix_draft (first_at i) a ∷ dims_draft (others_at i) ds }), ys)))))))

  param_is : Draws end param_draft (param prelude end room) (r.read_param prelude room)
  unfolding give
  param_is ts le =
      let at = end - length ts in
      either_mapped (this_word (codes "int64_t")) _ _ (λ _ us. then_read (named end us) (λ w vs. Ok (number_param w, vs))) _ (param_draft at) ts
      (λ k us c.
      let one = past_one (this_word (codes "int64_t")) ts k us c in
      let place : end - length us ≡ at + 1 = omega arith in
      drawn_then any_word (word_draft (end - length us)) _ _ (param_draft at) us (λ w vs o. (λ i. Ok (number_param (word_draft (place i) w), vs))))
      (either_mapped (this_word (codes "const")) _ _ (λ _ us. on_past (past (this_word (codes "uint64_t")) us) (λ _ vs. array prelude end room Input vs) (Err (At us))) _ (param_draft at) ts
      (λ k us c.
      let one = past_one (this_word (codes "const")) ts k us c in
      on_is (this_word (codes "uint64_t")) _ (λ _ vs. array prelude end room Input vs) (param_draft at) us (λ k vs c.
      let two = past_one (this_word (codes "uint64_t")) us k vs c in
      array_is at true vs (omega arith) (omega arith)))
      (on_is (this_word (codes "uint64_t")) _ (λ _ us. array prelude end room Output us) (param_draft at) ts (λ k us c.
      let one = past_one (this_word (codes "uint64_t")) ts k us c in
      array_is at false us (omega arith) (omega arith))))

  param_more_is : (p : ℕ) (k : Unit {0}) (left : ParamsText prelude) (ts us : List Symbol) → past (this_mark (codes ",")) ts ≡ Some (k, us) → Placed end p (length (params_symbols left)) ts → param_more prelude end room k (params_draft p left) us ≡ mapped (params_draft p) (r.param_more prelude room k left us)
  unfolding after give
  param_more_is p k left ts us c here =
      let one = past_one (this_mark (codes ",")) ts k us c in
      let le = here.within in
      let e = here.place in
      let less : length us ≤ end = omega arith in
      let place : end - length us ≡ p + length (params_symbols left) + 1 = omega arith in
      then_is (param prelude end room us) (r.read_param prelude room us) (param_draft (end - length us)) _ _ (params_draft p) (param_is us less) (λ a vs q. (λ i. Ok (params_draft p left ++ param_draft (place i) a ∷ [], vs)))

  param_more_keeps : (p : ℕ) (k : Unit {0}) (left : ParamsText prelude) (ts us : List Symbol) → past (this_mark (codes ",")) ts ≡ Some (k, us) → Placed end p (length (params_symbols left)) ts → (b : ParamsText prelude) (vs : List Symbol) → r.param_more prelude room k left us ≡ Ok (b, vs) → Placed end p (length (params_symbols b)) vs
  param_more_keeps p k left ts us c here b vs q =
      let one = past_one (this_mark (codes ",")) ts k us c in
      let le = here.within in
      let e = here.place in
      let count = ap length ((param_more_rule prelude room k left).sound us b vs q) in
      let front = length-append (params_symbols left) (mark (codes ",") ∷ us) in
      let back = length-append (params_symbols b) vs in
      record { within = omega arith; place = omega arith }

  params_is : Draws end params_draft (params prelude end room) (r.read_params prelude room)
  unfolding after
  params_is ts le =
      let p = end - length ts in
      let one : param_more prelude end room tt [] ts ≡ mapped (λ a. param_draft p a ∷ []) (r.read_param prelude room ts) = ap (λ x. then_read x (λ a us. Ok (a ∷ [], us))) (param_is ts le) ∙ mapped_give (r.read_param prelude room ts) (param_draft p) (λ a. a ∷ []) in
      then_is (param_more prelude end room tt [] ts) (r.read_param prelude room ts) (λ a. param_draft p a ∷ []) _ _ (params_draft p) one (λ a us q.
      let count = ap length ((param_rule prelude room).sound ts a us q) in
      let back = length-append (param_symbols a) us in
      all_is (this_mark (codes ",")) (r.param_more prelude room) (param_more prelude end room) (params_draft p) (λ left us. Placed end p (length (params_symbols left)) us) (param_more_is p) (param_more_keeps p) (g.param a) us (record { within = omega arith; place = omega arith }))

params_inside_is : (prelude : Bool) (end room : ℕ) → Draws end params_draft (params_inside prelude end room) (inside (r.read_params prelude) room)
unfolding params_inside inside deep
params_inside_is prelude end zero ts le = refl
params_inside_is prelude end (suc room) ts le = params_is prelude end room ts le

-- ---- Declarations

module _ (prelude : Bool) (end room : ℕ) (before : List DeclDraft) (n : ℕ) where
  abbrev names_of : NamesText prelude → List DeclDraft
  names_of ns = before ++ names_draft n ns

  temp_more_is : (k : Unit {0}) (left : NamesText prelude) (ts us : List Symbol) → past (this_mark (codes ",")) ts ≡ Some (k, us) → Placed end n (length (names_symbols left)) ts → temp_more prelude end room k (names_of left) us ≡ mapped names_of (r.name_more prelude room k left us)
  unfolding after give
  temp_more_is k left ts us c here =
      let one = past_one (this_mark (codes ",")) ts k us c in
      let le = here.within in
      let e = here.place in
      let m = n + length (names_symbols left) + 1 in
      let name_at : end - length us ≡ m = omega arith in
      drawn_then any_word (word_draft (end - length us)) _ _ names_of us (λ w vs c.
      let two = past_one any_word us w vs c in
      let less : length vs ≤ end = omega arith in
      let dims_at : end - length vs ≡ m + 1 = omega arith in
      then_is (ix.dims prelude end room vs) (r.read_dims prelude room vs) (dims_draft (end - length vs)) _ _ names_of (dims_is prelude end room vs less) (λ es ws q.
      (λ i. Ok (names_of left ++ record { word = word_draft (name_at i) w; role = Temp; extents = dims_draft (dims_at i) es } ∷ [], ws))
      ∙ ap (λ l. Ok (l, ws)) (append_assoc before (names_draft n left) (temp_draft m w es ∷ []))))

  temp_more_keeps : (k : Unit {0}) (left : NamesText prelude) (ts us : List Symbol) → past (this_mark (codes ",")) ts ≡ Some (k, us) → Placed end n (length (names_symbols left)) ts → (b : NamesText prelude) (vs : List Symbol) → r.name_more prelude room k left us ≡ Ok (b, vs) → Placed end n (length (names_symbols b)) vs
  temp_more_keeps k left ts us c here b vs q =
      let one = past_one (this_mark (codes ",")) ts k us c in
      let le = here.within in
      let e = here.place in
      let count = ap length ((name_more_rule prelude room k left).sound us b vs q) in
      let front = length-append (names_symbols left) (mark (codes ",") ∷ us) in
      let back = length-append (names_symbols b) vs in
      record { within = omega arith; place = omega arith }

  temp_is : (w : Name) (us : List Symbol) → length us ≤ end → end - length us ≡ n + 1 → temp prelude end room before (word_draft (end - length us - 1) w) us ≡ mapped (λ es. before ++ temp_draft n w es ∷ []) (r.read_dims prelude room us)
  temp_is w us le e =
      let name_at : end - length us - 1 ≡ n = omega arith in
      ap (λ x. then_read x (λ es vs. Ok (before ++ record { word = word_draft (end - length us - 1) w; role = Temp; extents = es } ∷ [], vs))) (dims_is prelude end room us le)
      ∙ mapped_give (r.read_dims prelude room us) (dims_draft (end - length us)) (λ es. before ++ record { word = word_draft (end - length us - 1) w; role = Temp; extents = es } ∷ [])
      ∙ (λ i. mapped (λ es. before ++ record { word = word_draft (name_at i) w; role = Temp; extents = dims_draft (e i) es } ∷ []) (r.read_dims prelude room us))

  more_temps_is : (w : Name) (es : g.DimsText prelude) (vs : List Symbol) → Placed end n (length (names_symbols (g.one_array w es))) vs → more_temps prelude end room (before ++ temp_draft n w es ∷ []) vs ≡ mapped names_of (all (this_mark (codes ",")) (r.name_more prelude room) (g.one_array w es) vs)
  more_temps_is w es vs here = all_is (this_mark (codes ",")) (r.name_more prelude room) (temp_more prelude end room) names_of (λ left us. Placed end n (length (names_symbols left)) us) temp_more_is temp_more_keeps (g.one_array w es) vs here

-- ---- What stands in the function

abbrev pub inside_of : {prelude : Bool} → ℕ → r.Inside prelude → Inside
inside_of at i = record { temps = decls_draft at i.decls; stmts = stmts_draft (at + length (decls_symbols i.decls)) i.stmts }

module _ (prelude : Bool) (end room p : ℕ) where
  abbrev closing : DeclsText prelude → NamesText prelude → Reader Symbol (r.Inside prelude)
  closing ds ns = on (this_mark (codes ";")) (λ _. give (record { decls = g.and_decl ds ns; stmts = g.no_stmts }))

  -- behind `uint64_t` and a Word
  decl_is : (ds : DeclsText prelude) (w : Name) (us : List Symbol) → length us ≤ end → end - length us ≡ p + length (decls_symbols ds) + 1 + 1
      → decl_behind prelude end room (inside_of p (record { decls = ds; stmts = g.no_stmts })) w us ≡ mapped (inside_of p) (r.decl_behind prelude room ds w us)
  unfolding after
  decl_is ds w us le e =
      let n = p + length (decls_symbols ds) + 1 in
      let before = decls_draft p ds in
      then_is (temp prelude end room before (word_draft (end - length us - 1) w) us) (r.read_dims prelude room us) (λ es. before ++ temp_draft n w es ∷ [])
      (λ es vs. then_read (all (this_mark (codes ",")) (r.name_more prelude room) (g.one_array w es) vs) (closing ds)) _ (inside_of p) (temp_is prelude end room before n w us le e) (λ es vs q.
      let count = ap length ((dims_rule prelude room).sound us es vs q) ∙ length-append (dims_symbols es) vs in
      then_is (more_temps prelude end room (before ++ temp_draft n w es ∷ []) vs) (all (this_mark (codes ",")) (r.name_more prelude room) (g.one_array w es) vs) (names_of prelude end room before n) (closing ds) _ (inside_of p)
      (more_temps_is prelude end room before n w es vs (record { within = omega arith; place = omega arith })) (λ ns ws s.
      closed_is (codes ";") (record { decls = g.and_decl ds ns; stmts = g.no_stmts }) _ (inside_of p) ws refl))
      ∙ ap (mapped (inside_of p)) (then_assoc (r.read_dims prelude room us) (λ es. all (this_mark (codes ",")) (r.name_more prelude room) (g.one_array w es)) (closing ds))

  inside_stmt_is : (first : First) (ds : DeclsText prelude) (ss : StmtsText prelude) (ts us : List Symbol) → past first_of ts ≡ Some (first, us) → length ts ≤ end → end - length ts ≡ p + length (decls_symbols ds) + length (stmts_symbols ss)
      → inside_stmt prelude end room first (inside_of p (record { decls = ds; stmts = ss })) us ≡ mapped (inside_of p) (r.inside_stmt prelude room ds ss first us)
  unfolding after give
  inside_stmt_is first ds ss ts us c le e =
      let n = p + length (decls_symbols ds) + length (stmts_symbols ss) in
      then_is (statement prelude end room (stmts_inside prelude end room) (block_inside prelude end room) first us) (r.read_stmt prelude room (r.stmts_inside prelude room) (r.block_inside prelude room) first us) (ended_of n) _ _ (inside_of p)
      (statement_is prelude end room (r.stmts_inside prelude room) (r.block_inside prelude room) (stmts_inside prelude end room) (block_inside prelude end room) (stmts_inside_rule prelude room) (block_inside_rule prelude room) (stmts_inside_is prelude end room) (block_inside_is prelude end room) n first ts us c le e)
      (λ e vs q. (λ i. Ok (record { temps = decls_draft p ds; stmts = ended_after (p + length (decls_symbols ds)) ss e i }, vs)))

  -- a word before which no statement stands
  decl_or_stmt : (ds : DeclsText prelude) (w : Name) (b : Bool) (ts us : List Symbol) → past first_of ts ≡ Some (a_word w, us) → length ts ≤ end → end - length ts ≡ p + length (decls_symbols ds) + 0
      → inside_stmt prelude end room (a_word w) (inside_of p (record { decls = ds; stmts = g.no_stmts })) us ≡ mapped (inside_of p) (r.inside_stmt prelude room ds g.no_stmts (a_word w) us)
      → (if b then on_past (past any_word us) (λ v vs. decl_behind prelude end room (inside_of p (record { decls = ds; stmts = g.no_stmts })) v vs) (inside_stmt prelude end room (a_word w) (inside_of p (record { decls = ds; stmts = g.no_stmts })) us)
      else inside_stmt prelude end room (a_word w) (inside_of p (record { decls = ds; stmts = g.no_stmts })) us)
      ≡ mapped (inside_of p) (r.inside_word prelude room ds g.no_stmts w b us)
  decl_or_stmt ds w false ts us c le e other = other
  decl_or_stmt ds w true ts us c le e other =
      let one = past_one first_of ts (a_word w) us c in
      either_mapped any_word (r.decl_behind prelude room ds) _ (λ v vs. decl_behind prelude end room (inside_of p (record { decls = ds; stmts = g.no_stmts })) v vs) _ (inside_of p) us
      (λ v vs o.
      let two = past_one any_word us v vs o in
      decl_is ds v vs (omega arith) (omega arith))
      other

  inside_word_is : (ds : DeclsText prelude) (ss : StmtsText prelude) (w : Name) (ts us : List Symbol) → past first_of ts ≡ Some (a_word w, us) → length ts ≤ end → end - length ts ≡ p + length (decls_symbols ds) + length (stmts_symbols ss)
      → inside_more prelude end room (a_word w) (inside_of p (record { decls = ds; stmts = ss })) us ≡ mapped (inside_of p) (r.inside_word prelude room ds ss w (same w (codes "uint64_t")) us)
  inside_word_is ds g.no_stmts w ts us c le e = decl_or_stmt ds w (same w (codes "uint64_t")) ts us c le e (inside_stmt_is (a_word w) ds g.no_stmts ts us c le e)
  inside_word_is ds (g.and_stmt ss s) w ts us c le e = inside_stmt_is (a_word w) ds (g.and_stmt ss s) ts us c le e

  inside_more_is : (first : First) (left : r.Inside prelude) (ts us : List Symbol) → past first_of ts ≡ Some (first, us) → Placed end p (length (inside_symbols left)) ts
      → inside_more prelude end room first (inside_of p left) us ≡ mapped (inside_of p) (r.inside_more prelude room first left us)
  inside_more_is (a_word w) left ts us c here =
      let count = length-append (decls_symbols left.decls) (stmts_symbols left.stmts) in
      let e = here.place in
      inside_word_is left.decls left.stmts w ts us c here.within (omega arith)
  inside_more_is a_brace left ts us c here =
      let count = length-append (decls_symbols left.decls) (stmts_symbols left.stmts) in
      let e = here.place in
      let i = inside_of p left in
      let other = inside_stmt prelude end room a_brace i us in
      ap (λ t. if t then on_past (past any_word us) (λ v vs. decl_behind prelude end room i v vs) other else other) (never_brace (is_none i.stmts))
      ∙ inside_stmt_is a_brace left.decls left.stmts ts us c here.within (omega arith)
    where
      never_brace : (b : Bool) → b && false ≡ false
      never_brace true = refl
      never_brace false = refl

  inside_more_keeps : (first : First) (left : r.Inside prelude) (ts us : List Symbol) → past first_of ts ≡ Some (first, us) → Placed end p (length (inside_symbols left)) ts
      → (b : r.Inside prelude) (vs : List Symbol) → r.inside_more prelude room first left us ≡ Ok (b, vs) → Placed end p (length (inside_symbols b)) vs
  inside_more_keeps first left ts us c here b vs q =
      let one = past_one first_of ts first us c in
      let le = here.within in
      let e = here.place in
      let count = ap length ((inside_more_rule prelude room first left).sound us b vs q) in
      let front = length-append (inside_symbols left) (first_symbol first ∷ us) in
      let back = length-append (inside_symbols b) vs in
      record { within = omega arith; place = omega arith }

inner_is : (prelude : Bool) (end room : ℕ) → Draws end inside_of (inner prelude end room no_inside) (r.read_inside prelude room)
inner_is prelude end room ts le =
    let p = end - length ts in
    all_is first_of (r.inside_more prelude room) (inside_more prelude end room) (inside_of p) (λ left us. Placed end p (length (inside_symbols left)) us) (inside_more_is prelude end room p) (inside_more_keeps prelude end room p) (record { decls = g.no_decls; stmts = g.no_stmts }) ts (record { within = le; place = omega arith })

function_inside_is : (prelude : Bool) (end room : ℕ) → Draws end inside_of (function_inside prelude end room) (inside (r.read_inside prelude) room)
unfolding function_inside inside deep
function_inside_is prelude end zero ts le = refl
function_inside_is prelude end (suc room) ts le = inner_is prelude end room ts le

abbrev pub function_of : {prelude : Bool} → ℕ → FunctionText prelude → Function
function_of at f =
    let body_at = at + 3 + length (params_symbols f.params) + 2 in
    record { name = word_draft (at + 1) f.name; params = params_draft (at + 3) f.params; temps = decls_draft body_at f.decls; stmts = stmts_draft (body_at + length (decls_symbols f.decls)) f.stmts }

function_is : (prelude : Bool) (end room : ℕ) → Draws end function_of (function prelude end room) (r.read_function prelude room)
unfolding after
function_is prelude end room ts le =
    let at = end - length ts in
    on_is (this_word (codes "void")) _ _ (function_of at) ts (λ k us c.
    let one = past_one (this_word (codes "void")) ts k us c in
    let name_at : end - length us ≡ at + 1 = omega arith in
    drawn_then any_word (word_draft (end - length us)) _ _ (function_of at) us (λ w vs c.
    let two = past_one any_word us w vs c in
    on_is (this_mark (codes "(")) _ _ (function_of at) vs (λ k ws c.
    let three = past_one (this_mark (codes "(")) vs k ws c in
    let less : length ws ≤ end = omega arith in
    let params_at : end - length ws ≡ at + 3 = omega arith in
    then_is (params_inside prelude end room ws) (inside (r.read_params prelude) room ws) (params_draft (end - length ws)) _ _ (function_of at) (params_inside_is prelude end room ws less) (λ ps xs q.
    let count = ap length ((inside_rule (params_rule prelude) room).sound ws ps xs q) ∙ length-append (params_symbols ps) xs in
    on_is (this_mark (codes ")")) _ _ (function_of at) xs (λ k ys c.
    let four = past_one (this_mark (codes ")")) xs k ys c in
    on_is (this_mark (codes "{")) _ _ (function_of at) ys (λ k zs c.
    let five = past_one (this_mark (codes "{")) ys k zs c in
    let fewer : length zs ≤ end = omega arith in
    let body_at : end - length zs ≡ at + 3 + length (params_symbols ps) + 2 = omega arith in
    then_is (function_inside prelude end room zs) (inside (r.read_inside prelude) room zs) (inside_of (end - length zs)) _ _ (function_of at) (function_inside_is prelude end room zs fewer) (λ i rs q.
    closed_is (codes "}") (record { name = w; params = ps; decls = i.decls; stmts = i.stmts }) _ (function_of at) rs
    (λ j. record { name = word_draft (name_at j) w; params = params_draft (params_at j) ps; temps = (inside_of (body_at j) i).temps; stmts = (inside_of (body_at j) i).stmts }))))))))

-- ---- Lines

number_same : (x : Symbol) → number_value x ≡ option_map decimal (any_number x)
number_same x = by_kind (is_number_kind x.kind)
  where
    by_kind : (b : Bool) → (if b then Some (decimal x.bytes) else None) ≡ option_map decimal (if b then Some x.bytes else None)
    by_kind true = refl
    by_kind false = refl

int_is : (ts : List Symbol) → int ts ≡ mapped int_value (r.read_int ts)
unfolding give
int_is ts =
    either_mapped (this_mark (codes "-")) _ _ (λ _ us. on_past (past number_value us) (λ n vs. Ok (neg_ℤ (pos n), vs)) (Err (At us))) _ int_value ts
    (λ k us c. either_turned any_number number_value decimal number_same _ fail (λ n vs. Ok (neg_ℤ (pos n), vs)) (Err (At us)) int_value us (λ digits vs o. refl) (failed int_value us))
    (either_turned any_number number_value decimal number_same _ fail (λ n us. Ok (pos n, us)) (Err (At ts)) int_value ts (λ digits us o. refl) (failed int_value ts))

abbrev pub lines_of : ℕ → PragmasText → Lines
lines_of at ps = record { pragmas = pragmas_draft at ps; calls = context_calls ps }

line_count : (line : LineText) → length (line_symbols line) ≡ 1
line_count line_feed = refl
line_count text_end = refl

line_closed_is : {A : Type 0} (f : LineText → A) (a : Lines) (e : A → Lines) (ts : List Symbol) → ((line : LineText) → a ≡ e (f line)) → line_closed a ts ≡ mapped e (on line_end (λ line. give (f line)) ts)
unfolding give
line_closed_is f a e ts same_line = either_turned line_end ends_line (λ _. tt) (λ x. refl) (λ line. give (f line)) fail (λ _ us. Ok (a, us)) (Err (At ts)) e ts (λ line us o. ap (λ b. Ok (b, us)) (same_line line)) (failed e ts)

take_front : (xs us : List Symbol) → take (length xs) (xs ++ us) ≡ xs
take_front [] us = refl
take_front (x ∷ xs) us = ap (λ l. x ∷ l) (take_front xs us)

taken_is : (xs ts us : List Symbol) → ts ≡ xs ++ us → taken ts us ≡ xs
taken_is xs ts us e =
    let count = ap length e ∙ length-append xs us in
    let n : length ts - length us ≡ length xs = omega arith in
    (λ i. take (n i) (e i)) ∙ take_front xs us

module _ (end room p : ℕ) (ps : PragmasText) where
  -- behind the word `param`
  range_is : (ts : List Symbol) → length ts ≤ end → end - length ts ≡ p + length (pragmas_symbols ps) + 4
      → range_behind end (lines_of p ps) ts ≡ mapped (lines_of p) (on any_word (λ w. after r.read_int λ low. after r.read_int λ high. on line_end λ line. give (g.and_range ps w low high line)) ts)
  unfolding after
  range_is ts le e =
      let next = p + length (pragmas_symbols ps) in
      drawn_then any_word (word_draft (end - length ts)) _ _ (lines_of p) ts (λ w us c.
      let one = past_one any_word ts w us c in
      let low_at : end - length us ≡ next + 5 = omega arith in
      then_is (int us) (r.read_int us) int_value _ _ (lines_of p) (int_is us) (λ low vs q.
      then_is (int vs) (r.read_int vs) int_value _ _ (lines_of p) (int_is vs) (λ high ws s.
      line_closed_is (λ line. g.and_range ps w low high line) (record { pragmas = pragmas_draft p ps ++ d.range (word_draft (end - length ts) w) (end - length us) (int_value low) (int_value high) ∷ []; calls = context_calls ps }) (lines_of p) ws
      (λ line i. record { pragmas = pragmas_draft p ps ++ d.range (word_draft (e i) w) (low_at i) (int_value low) (int_value high) ∷ []; calls = context_calls ps }))))

  -- behind the word `context`
  context_is : (ts : List Symbol) → length ts ≤ end → end - length ts ≡ p + length (pragmas_symbols ps) + 4
      → context_behind end room (lines_of p ps) ts ≡ mapped (lines_of p) (after (r.read_cond true false room) (λ c. on line_end λ line. give (g.and_context ps c line)) ts)
  unfolding after
  context_is ts le e =
      let next = p + length (pragmas_symbols ps) in
      let word_at : end - length ts - 1 ≡ next + 3 = omega arith in
      then_then (whole true false end room ts) (λ c us. Ok (comparisons_in c, us)) (λ cs us. line_closed (record { pragmas = pragmas_draft p ps ++ d.context (end - length ts - 1) cs ∷ []; calls = context_calls ps || has_call (taken ts us) }) us)
      ∙ then_is (whole true false end room ts) (r.read_cond true false room ts) (cond_draft (end - length ts)) _ _ (lines_of p) (cond_is true false end room ts le) (λ c us q.
      let same_part : taken ts us ≡ cond_symbols c = taken_is (cond_symbols c) ts us ((cond_rule true false room).sound ts c us q) in
      line_closed_is (λ line. g.and_context ps c line) (record { pragmas = pragmas_draft p ps ++ d.context (end - length ts - 1) (comparisons_in (cond_draft (end - length ts) c)) ∷ []; calls = context_calls ps || has_call (taken ts us) }) (lines_of p) us
      (λ line i. record { pragmas = pragmas_draft p ps ++ d.context (word_at i) (comparisons_in (cond_draft (e i) c)) ∷ []; calls = context_calls ps || has_call (same_part i) }))

line_more_is : (end room p : ℕ) (k : Unit {0}) (left : PragmasText) (ts us : List Symbol) → past hash ts ≡ Some (k, us) → Placed end p (length (pragmas_symbols left)) ts → line_more end room k (lines_of p left) us ≡ mapped (lines_of p) (r.pragma_more room k left us)
line_more_is end room p k left ts us c here =
    let zero_ = past_one hash ts k us c in
    let le = here.within in
    let e = here.place in
    on_is (this_word (codes "pragma")) _ _ (lines_of p) us (λ k vs c.
    let one = past_one (this_word (codes "pragma")) us k vs c in
    on_is (this_word (codes "affc")) _ _ (lines_of p) vs (λ k ws c.
    let two = past_one (this_word (codes "affc")) vs k ws c in
    either_mapped (this_word (codes "param")) _ _ (λ _ xs. range_behind end (lines_of p left) xs) _ (lines_of p) ws
    (λ k xs c.
    let three = past_one (this_word (codes "param")) ws k xs c in
    range_is end room p left xs (omega arith) (omega arith))
    (on_is (this_word (codes "context")) _ (λ _ xs. context_behind end room (lines_of p left) xs) (lines_of p) ws (λ k xs c.
    let three = past_one (this_word (codes "context")) ws k xs c in
    context_is end room p left xs (omega arith) (omega arith)))))

line_more_keeps : (end room p : ℕ) (k : Unit {0}) (left : PragmasText) (ts us : List Symbol) → past hash ts ≡ Some (k, us) → Placed end p (length (pragmas_symbols left)) ts → (b : PragmasText) (vs : List Symbol) → r.pragma_more room k left us ≡ Ok (b, vs) → Placed end p (length (pragmas_symbols b)) vs
line_more_keeps end room p k left ts us c here b vs q =
    let one = past_one hash ts k us c in
    let le = here.within in
    let e = here.place in
    let count = ap length ((pragma_rule room k left).sound us b vs q) in
    let front = length-append (pragmas_symbols left) (record { kind = Hash; bytes = codes "#" } ∷ us) in
    let back = length-append (pragmas_symbols b) vs in
    record { within = omega arith; place = omega arith }

lines_is : (end room : ℕ) → Draws end lines_of (more_lines end room no_lines) (all hash (r.pragma_more room) g.no_pragmas)
lines_is end room ts le =
    let p = end - length ts in
    all_is hash (r.pragma_more room) (line_more end room) (lines_of p) (λ left us. Placed end p (length (pragmas_symbols left)) us) (line_more_is end room p) (line_more_keeps end room p) g.no_pragmas ts (record { within = le; place = omega arith })

all_lines_sound : (room : ℕ) (xs : List Symbol) (ps : PragmasText) (ys : List Symbol) → all hash (r.pragma_more room) g.no_pragmas xs ≡ Ok (ps, ys) → xs ≡ pragmas_symbols ps ++ ys
all_lines_sound room xs ps ys q = (lines_rule room).sound xs ps ys q
  where
    lines_rule : (room : ℕ) → Rule count_open room 0 0 pragmas_symbols (λ l. l) (all hash (r.pragma_more room) g.no_pragmas)
    lines_rule room = all_rule hash_test (λ k n. refl) (pragma_rule room) g.no_pragmas

-- ---- The text

ended_is : (c : Text) (ls : Lines) (f : Function) (ts : List Symbol) → record { pragmas = ls.pragmas; has_prelude = c.has_prelude; function = f.name; params = f.params; temps = f.temps; body = f.stmts } ≡ text_draft c → ended c.has_prelude ls f ts ≡ mapped text_draft (finished c ts)
unfolding finished
ended_is c ls f [] e = ap (λ t. Ok (t, [])) e
ended_is c ls f (x ∷ ts) e = refl

rest_is : (end room : ℕ) (line : LineText) (ps : PragmasText) (b : Bool) (allowed : IsTrue (b || not (context_calls ps))) (ts : List Symbol) → length ts ≤ end → end - length ts ≡ length (include_symbols line) + length (pragmas_symbols ps) + length (prelude_symbols b)
    → rest end room b (lines_of (length (include_symbols line)) ps) ts ≡ mapped text_draft (after (r.read_function b room) (λ f. finished (record { line = line; pragmas = ps; has_prelude = b; calls_allowed = allowed; function = f })) ts)
unfolding after
rest_is end room line ps b allowed ts le e =
    then_is (function b end room ts) (r.read_function b room ts) (function_of (end - length ts)) _ _ text_draft (function_is b end room ts le) (λ f us q.
    ended_is (record { line = line; pragmas = ps; has_prelude = b; calls_allowed = allowed; function = f }) (lines_of (length (include_symbols line)) ps) (function_of (end - length ts) f) us
    (λ i. record { pragmas = pragmas_draft (length (include_symbols line)) ps; has_prelude = b; function = (function_of (e i) f).name; params = (function_of (e i) f).params; temps = (function_of (e i) f).temps; body = (function_of (e i) f).stmts }))

held : (b : Bool) → is_some (holding b) ≡ b
held true = refl
held false = refl

without_is : (end room : ℕ) (line : LineText) (ps : PragmasText) (b : Bool) (o : Option (IsTrue (not (context_calls ps)))) (ts : List Symbol) → is_some o ≡ not b → length ts ≤ end → end - length ts ≡ length (include_symbols line) + length (pragmas_symbols ps) + 0
    → (if b then Err (At ts) else rest end room false (lines_of (length (include_symbols line)) ps) ts) ≡ mapped text_draft (r.read_without room line ps o ts)
without_is end room line ps true None ts s le e = failed text_draft ts
without_is end room line ps true (Some h) ts s le e = absurd (cc)
without_is end room line ps false None ts s le e = absurd (cc)
without_is end room line ps false (Some h) ts s le e = rest_is end room line ps false h ts le e

lines_behind_is : (end room : ℕ) (line : LineText) (ps : PragmasText) (ts : List Symbol) → length ts ≤ end → end - length ts ≡ length (include_symbols line) + length (pragmas_symbols ps)
    → lines_behind end room (lines_of (length (include_symbols line)) ps) ts
    ≡ mapped text_draft (either the_prelude (λ _. after (r.read_function true room) λ f. finished (record { line = line; pragmas = ps; has_prelude = true; calls_allowed = refl; function = f })) (r.read_without room line ps (holding (not (context_calls ps)))) ts)
lines_behind_is end room line ps ts le e =
    either_mapped the_prelude _ _ (λ _ us. rest end room true (lines_of (length (include_symbols line)) ps) us) _ text_draft ts
    (λ k us c.
    let one = past_one the_prelude ts k us c in
    rest_is end room line ps true refl us (omega arith) (omega arith))
    (without_is end room line ps (context_calls ps) (holding (not (context_calls ps))) ts (held (not (context_calls ps))) le (omega arith))

include_count : (line : LineText) → length (include_symbols line) ≡ 4
include_count line = let e = line_count line in omega arith

pub text_is : (room : ℕ) (ss : List Symbol) → text (length ss) room ss ≡ mapped text_draft (read_text room ss)
unfolding read_text after
text_is room ss =
    on_is hash _ _ text_draft ss (λ k us c.
    let one = past_one hash ss k us c in
    on_is (this_word (codes "include")) _ _ text_draft us (λ k vs c.
    let two = past_one (this_word (codes "include")) us k vs c in
    on_is header _ _ text_draft vs (λ k ws c.
    let three = past_one header vs k ws c in
    either_turned line_end ends_line (λ _. tt) (λ x. refl) _ fail (λ _ xs. include_behind (length ss) room xs) (Err (At ws)) text_draft ws
    (λ line xs c.
    let four = past_one line_end ws line xs c in
    let less : length xs ≤ length ss = omega arith in
    let count = include_count line in
    let place : length ss - length xs ≡ length (include_symbols line) = omega arith in
    then_is (more_lines (length ss) room no_lines xs) (all hash (r.pragma_more room) g.no_pragmas xs) (lines_of (length (include_symbols line))) _ _ text_draft
    (lines_is (length ss) room xs less ∙ ap (λ n. mapped (lines_of n) (all hash (r.pragma_more room) g.no_pragmas xs)) place) (λ ps ys q.
    let more = ap length ((all_lines_sound room xs ps ys q)) ∙ length-append (pragmas_symbols ps) ys in
    lines_behind_is (length ss) room line ps ys (omega arith) (omega arith)))
    (failed text_draft ws))))

-- ---- What the code answers

mapped_ok : {A D : Type 0} (f : A → D) (x : Read Symbol A) (b : D) (us : List Symbol) → mapped f x ≡ Ok (b, us) → (a : A) × (x ≡ Ok (a, us)) × (b ≡ f a)
mapped_ok f (Ok x) b us e = let k = same_ok (f x.0) x.1 b us e in (x.0, (λ i. Ok (x.0, k.1 i)), sym k.0)
mapped_ok f (Err (At ts)) b us e = absurd (cc)
mapped_ok f (Err Deep) b us e = absurd (cc)

mapped_at : {A D : Type 0} (f : A → D) (x : Read Symbol A) (us : List Symbol) → mapped f x ≡ Err (At us) → x ≡ Err (At us)
mapped_at f (Ok x) us e = absurd (cc)
mapped_at {A} {D} f (Err (At ts)) us e = ap (λ l. Err (At l)) (same_at {T = Symbol} {A = D} ts us e)
mapped_at f (Err Deep) us e = absurd (cc)

mapped_deep : {A D : Type 0} (f : A → D) (x : Read Symbol A) → mapped f x ≡ Err Deep → x ≡ Err Deep
mapped_deep f (Ok x) e = absurd (cc)
mapped_deep f (Err (At ts)) e = absurd (cc)
mapped_deep f (Err Deep) e = refl

drop_within : (ss : List Symbol) (n : ℕ) → drop (length ss - length (drop n ss)) ss ≡ drop n ss
drop_within ss zero = let e : length ss - length ss ≡ 0 = omega arith in ap (λ m. drop m ss) e
drop_within [] (suc n) = refl
drop_within (x ∷ ss) (suc n) =
    let count = length-drop n ss in
    let e : suc (length ss) - length (drop n ss) ≡ suc (length ss - length (drop n ss)) = omega arith in
    ap (λ m. drop m (x ∷ ss)) e ∙ drop_within ss n

none_behind : (xs ys : List Symbol) → xs ≡ xs ++ ys → ys ≡ []
none_behind xs [] e = refl
none_behind xs (y ∷ ys) e = absurd (omega (arith, ap length e, length-append xs (y ∷ ys)))

module _ (room : ℕ) (symbols : List code.Symbol) where
  abbrev all_seen : List Symbol
  all_seen = map seen symbols

  is_mapped : text (length symbols) room all_seen ≡ mapped text_draft (read_text room all_seen)
  is_mapped = ap (λ n. text n room all_seen) (sym (length-map symbols seen)) ∙ text_is room all_seen

  pub answered : (t : TextDraft) (n : ℕ) → text (length symbols) room all_seen ≡ Ok (drafts.text t, drop n all_seen) → IsRead room all_seen (Ok t)
  answered t n e =
      let k = mapped_ok text_draft (read_text room all_seen) (drafts.text t) (drop n all_seen) (sym is_mapped ∙ e) in
      let spelled = text_spelled room all_seen k.0 (drop n all_seen) k.1 in
      let sound = (text_rule room).sound all_seen k.0 (drop n all_seen) k.1 in
      let end : drop n all_seen ≡ [] = none_behind (text_symbols k.0) (drop n all_seen) (sym spelled ∙ sound) in
      (k.0, k.1 ∙ ap (λ l. Ok (k.0, l)) end, k.2)

  pub stopped : (n : ℕ) → text (length symbols) room all_seen ≡ Err (At (drop n all_seen)) → IsRead room all_seen (Err (s.At (length symbols - length (drop n all_seen))))
  stopped n e =
      let all = length-map symbols seen in
      (mapped_at text_draft (read_text room all_seen) (drop n all_seen) (sym is_mapped ∙ e) ∙ ap (λ l. Err (At l)) (sym (drop_within all_seen n)) ∙ ap (λ m. Err (At (drop (m - length (drop n all_seen)) all_seen))) all, omega arith)

  pub too_deep : text (length symbols) room all_seen ≡ Err Deep → read_text room all_seen ≡ Err Deep
  too_deep e = mapped_deep text_draft (read_text room all_seen) (sym is_mapped ∙ e)
