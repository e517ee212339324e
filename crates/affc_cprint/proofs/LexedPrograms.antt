-- Statements, declarations and whole texts of the grammar are laid out as their tokens.
use Rattle.std.proofs.Common.{◌≡◌, ℕ, zero, suc, Bool, true, false, List, [], ◌∷◌, ◌++◌, codes, Option, Some, None, refl, ap, sym, append_assoc, if◌then◌else◌}
use Rattle.affc_lex.specs.declared.token.Kind.TheVariants.{Word, Header, Hash, LineEnd, Prelude, Mark}
use Rattle.affc_lex.specs.declared.piece.What.TheVariants.{Token as of_kind}
use Rattle.affc_lex.specs.declared.piece.Spot.{Spot}
use Rattle.affc_lex.specs.declared.piece.Spot.TheVariants.{Fresh, Inside, Directive}
use Rattle.affc_lex.specs.Pieces.{longer_mark, next_spot, prelude}
use Rattle.affc_ast.specs.declared.tree.Op.{Op}
use Rattle.affc_ast.specs.declared.tree.Op.TheVariants.{Add, Sub, Mul, And, Or, Xor}
use Rattle.affc_grammar.specs.Grammar.{word, number, mark, bound_mark, assign_mark, StepText, then_up, up_then, up_by_one, LocalsText, no_locals, and_local, StmtsText, no_stmts, and_stmt, StmtText, simple, block, SimpleText, for_loop, if_then, if_else, assign, BodyText, braces, bare, ParamText, number_param, array_param, ParamsText, param, and_param, NamesText, one_array, and_array, DeclsText, no_decls, and_decl, FunctionText, IntText, line_feed as feed, text_end, PragmasText, no_pragmas, and_range, and_context, Text, ix_symbols, dims_symbols, dim_symbols, cond_symbols, value_symbols, step_symbols, locals_symbols, stmts_symbols, stmt_symbols, simple_symbols, body_symbols, const_symbols, param_symbols, params_symbols, names_symbols, decls_symbols, function_symbols, int_symbols, pragma_symbols, pragmas_symbols, include_symbols, prelude_symbols, text_symbols}
use Rattle.affc_cprint.specs.Layout.{◌then◌, dims_layout, value_layout, indent, step_layout, locals_layout, stmts_layout, stmt_layout, simple_layout, body_before_else, body_layout, const_layout, param_layout, params_layout, names_layout, decls_layout, function_layout, int_layout, pragmas_layout, prelude_layout}
use Rattle.affc_cprint.proofs.Stretch.{Stretch, ◌join◌, nothing}
use Rattle.affc_cprint.proofs.Spelled.{AllStand, stand_parts, Loose, IsName, name_of_symbol, numeral_of_symbol, lone, minus_before}
use Rattle.affc_cprint.proofs.LexedExpressions.{token, space, line_feed, with_symbols, with_text, named, numbered, IsMark, marked, gap, between, opening, closing, bracket, bracket_end, comma, minus_mark, numeral_first, ix_lexed, dims_lexed, array_lexed, cond_lexed, value_lexed}

-- ---- Marks of statements

equals_mark : IsMark (codes "=")
equals_mark = record { is = refl; calm = λ rest h. h }

step_mark : IsMark (codes "++")
step_mark = record { is = refl; calm = λ rest h. h }

plus_equals : IsMark (codes "+=")
plus_equals = record { is = refl; calm = λ rest h. h }

bound_is_mark : (strict : Bool) → IsMark (bound_mark strict)
bound_is_mark true = record { is = refl; calm = λ rest h. h }
bound_is_mark false = record { is = refl; calm = λ rest h. h }

assign_is_mark : (op : Option Op) → IsMark (assign_mark op)
assign_is_mark None = record { is = refl; calm = λ rest h. h }
assign_is_mark (Some Add) = record { is = refl; calm = λ rest h. h }
assign_is_mark (Some Sub) = record { is = refl; calm = λ rest h. h }
assign_is_mark (Some Mul) = record { is = refl; calm = λ rest h. h }
assign_is_mark (Some And) = record { is = refl; calm = λ rest h. h }
assign_is_mark (Some Or) = record { is = refl; calm = λ rest h. h }
assign_is_mark (Some Xor) = record { is = refl; calm = λ rest h. h }

-- `; `
semicolon : (after : List ℕ) → Stretch Inside (codes "; ") (mark (codes ";") ∷ []) Inside after
semicolon after = between false (codes ";") after (record { is = refl; calm = λ rest h. h }) join gap after

-- `;` and a line feed
ended : (after : List ℕ) → Stretch Inside (codes ";\n") (mark (codes ";") ∷ []) Fresh after
ended after = record { pieces = token Mark (codes ";") ∷ line_feed ∷ []; spelled = refl; standing = rw (lone 59 refl refl refl (10 ∷ after)) refl; leads = refl; its_symbols = refl; calm = λ rest h. h }

-- ` {` and a line feed
brace : (after : List ℕ) → Stretch Inside (codes " {\n") (mark (codes "{") ∷ []) Fresh after
brace after = record { pieces = space ∷ token Mark (codes "{") ∷ line_feed ∷ []; spelled = refl; standing = rw (lone 123 refl refl refl (10 ∷ after)) refl; leads = refl; its_symbols = refl; calm = λ rest h. h }

block_brace : (after : List ℕ) → Stretch Fresh (codes "{\n") (mark (codes "{") ∷ []) Fresh after
block_brace after = record { pieces = token Mark (codes "{") ∷ line_feed ∷ []; spelled = refl; standing = rw (lone 123 refl refl refl (10 ∷ after)) refl; leads = refl; its_symbols = refl; calm = λ rest h. h }

brace_end : (after : List ℕ) → Stretch Fresh (codes "}\n") (mark (codes "}") ∷ []) Fresh after
brace_end after = record { pieces = token Mark (codes "}") ∷ line_feed ∷ []; spelled = refl; standing = rw (lone 125 refl refl refl (10 ∷ after)) refl; leads = refl; its_symbols = refl; calm = λ rest h. h }

-- `} ` before the word `else`
brace_before : (after : List ℕ) → Stretch Fresh (codes "} ") (mark (codes "}") ∷ []) Inside after
brace_before after = record { pieces = token Mark (codes "}") ∷ space ∷ []; spelled = refl; standing = rw (lone 125 refl refl refl (32 ∷ after)) refl; leads = refl; its_symbols = refl; calm = λ rest h. h }

else_name : IsName (codes "else")
else_name = record { is = refl; other = refl }

-- a body begins with a space
body_loose : {prelude dangles : Bool} (level : ℕ) (c : BodyText prelude dangles) (after : List ℕ) → Loose (body_layout level c ++ after)
body_loose level (braces ss) after = refl
body_loose level (bare x) after = refl

indented : (level : ℕ) (after : List ℕ) → Stretch Fresh (indent level) [] Fresh after
indented zero after = nothing after
indented (suc level) after = record { pieces = space ∷ space ∷ []; spelled = refl; standing = refl; leads = refl; its_symbols = refl; calm = λ rest h. h } join indented level after

-- ---- Statements

-- the beginning of a line, or a place inside of it
abbrev pub start : (is_fresh : Bool) → Spot
start true = Fresh
start false = Inside

-- `for (int64_t `
for_head : (is_fresh : Bool) (after : List ℕ) → Stretch (start is_fresh) (codes "for (int64_t ") (word (codes "for") ∷ mark (codes "(") ∷ word (codes "int64_t") ∷ []) Inside after
for_head true after = record { pieces = token Word (codes "for") ∷ space ∷ token Mark (codes "(") ∷ token Word (codes "int64_t") ∷ space ∷ []; spelled = refl; standing = refl; leads = refl; its_symbols = refl; calm = λ rest h. h }
for_head false after = record { pieces = token Word (codes "for") ∷ space ∷ token Mark (codes "(") ∷ token Word (codes "int64_t") ∷ space ∷ []; spelled = refl; standing = refl; leads = refl; its_symbols = refl; calm = λ rest h. h }

-- `if (`
if_head : (is_fresh : Bool) (after : List ℕ) → Stretch (start is_fresh) (codes "if (") (word (codes "if") ∷ mark (codes "(") ∷ []) Inside after
if_head true after = record { pieces = token Word (codes "if") ∷ space ∷ token Mark (codes "(") ∷ []; spelled = refl; standing = rw (lone 40 refl refl refl after) refl; leads = refl; its_symbols = refl; calm = λ rest h. h }
if_head false after = record { pieces = token Word (codes "if") ∷ space ∷ token Mark (codes "(") ∷ []; spelled = refl; standing = rw (lone 40 refl refl refl after) refl; leads = refl; its_symbols = refl; calm = λ rest h. h }

-- `const int64_t ` at the beginning of a line
local_head : (after : List ℕ) → Stretch Fresh (codes "const int64_t ") (word (codes "const") ∷ word (codes "int64_t") ∷ []) Inside after
local_head after = record { pieces = token Word (codes "const") ∷ space ∷ token Word (codes "int64_t") ∷ space ∷ []; spelled = refl; standing = refl; leads = refl; its_symbols = refl; calm = λ rest h. h }

-- ` = `
equals : (after : List ℕ) → Stretch Inside (codes " = ") (mark (codes "=") ∷ []) Inside after
equals after = gap _ join between false (codes "=") _ equals_mark join gap after

name_starts : (is_fresh : Bool) (w : List ℕ) → next_spot (start is_fresh) (of_kind Word) w ≡ Inside
name_starts true w = refl
name_starts false w = refl

-- a step before a bracket
step_lexed : (step : StepText) (after : List ℕ) → AllStand (step_symbols step) → Stretch Inside (step_layout step) (step_symbols step) Inside (codes ")" ++ after)
step_lexed (then_up w) after s = let n = name_of_symbol w (mark (codes "++") ∷ []) s in named w _ n.0 refl refl join marked false (codes "++") _ step_mark refl
step_lexed (up_then w) after s = let n = name_of_symbol w [] s in marked false (codes "++") (w ++ (codes ")" ++ after)) step_mark (longest w n.0) join named w _ n.0 refl refl
  where
    longest : (w : List ℕ) → IsName w → longer_mark (codes "++") (w ++ (codes ")" ++ after)) ≡ false
    longest [] n = refl
    longest (b ∷ w) n = refl
step_lexed (up_by_one w) after s =
    let n = name_of_symbol w (mark (codes "+=") ∷ number (codes "1") ∷ []) s in
    named w _ n.0 refl refl join gap _ join between false (codes "+=") _ plus_equals join gap _ join numbered false (codes "1") _ (record { is = refl; small = refl }) refl

locals_lexed : {prelude : Bool} (level : ℕ) (c : LocalsText prelude) (after : List ℕ) → AllStand (locals_symbols c) → Stretch Fresh (locals_layout level c) (locals_symbols c) Fresh after
locals_lexed level no_locals after s = nothing after
locals_lexed level (and_local _ ls w a) after s =
    let p = stand_parts (locals_symbols ls) (word (codes "const") ∷ word (codes "int64_t") ∷ word w ∷ mark (codes "=") ∷ (ix_symbols a ++ mark (codes ";") ∷ [])) s in
    let n = name_of_symbol w (mark (codes "=") ∷ (ix_symbols a ++ mark (codes ";") ∷ [])) p.1 in
    let q = stand_parts (ix_symbols a) (mark (codes ";") ∷ []) n.1 in
    locals_lexed level ls _ p.0 join indented level _ join local_head _ join named w _ n.0 refl refl join equals _ join ix_lexed false a (codes ";\n" ++ after) q.0 refl join ended after

mutual
  pub stmts_lexed : {prelude : Bool} (level : ℕ) (c : StmtsText prelude) (after : List ℕ) → AllStand (stmts_symbols c) → Stretch Fresh (stmts_layout level c) (stmts_symbols c) Fresh after
  stmts_lexed level no_stmts after s = nothing after
  stmts_lexed level (and_stmt ss x) after s =
      let p = stand_parts (stmts_symbols ss) (stmt_symbols x) s in
      stmts_lexed level ss _ p.0 join indented level _ join stmt_lexed level x after p.1

  stmt_lexed : {prelude : Bool} (level : ℕ) (c : StmtText prelude) (after : List ℕ) → AllStand (stmt_symbols c) → Stretch Fresh (stmt_layout level c) (stmt_symbols c) Fresh after
  stmt_lexed level (simple x) after s = simple_lexed true level x after s
  stmt_lexed level (block ls ss) after s =
      let p = stand_parts (locals_symbols ls) (stmts_symbols ss ++ mark (codes "}") ∷ []) s in
      let q = stand_parts (stmts_symbols ss) (mark (codes "}") ∷ []) p.1 in
      block_brace _ join locals_lexed (suc level) ls _ p.0 join stmts_lexed (suc level) ss _ q.0 join indented level _ join brace_end after

  simple_lexed : {prelude dangles : Bool} (is_fresh : Bool) (level : ℕ) (c : SimpleText prelude dangles) (after : List ℕ) → AllStand (simple_symbols c) → Stretch (start is_fresh) (simple_layout level c) (simple_symbols c) Fresh after
  simple_lexed is_fresh level (for_loop iterator low tested strict high step body) after s =
      let n = name_of_symbol iterator (mark (codes "=") ∷ (ix_symbols low ++ mark (codes ";") ∷ word tested ∷ mark (bound_mark strict) ∷ (ix_symbols high ++ mark (codes ";") ∷ (step_symbols step ++ mark (codes ")") ∷ body_symbols body)))) s in
      let p = stand_parts (ix_symbols low) (mark (codes ";") ∷ word tested ∷ mark (bound_mark strict) ∷ (ix_symbols high ++ mark (codes ";") ∷ (step_symbols step ++ mark (codes ")") ∷ body_symbols body))) n.1 in
      let m = name_of_symbol tested (mark (bound_mark strict) ∷ (ix_symbols high ++ mark (codes ";") ∷ (step_symbols step ++ mark (codes ")") ∷ body_symbols body))) p.1 in
      let q = stand_parts (ix_symbols high) (mark (codes ";") ∷ (step_symbols step ++ mark (codes ")") ∷ body_symbols body)) m.1 in
      let r = stand_parts (step_symbols step) (mark (codes ")") ∷ body_symbols body) q.1 in
      for_head is_fresh _ join named iterator _ n.0 refl refl join equals _ join ix_lexed false low _ p.0 refl join semicolon _ join named tested _ m.0 refl refl join gap _ join between false (bound_mark strict) _ (bound_is_mark strict) join gap _
      join ix_lexed false high _ q.0 refl join semicolon _ join step_lexed step _ r.0 join closing false _ join body_lexed level body after r.1
  simple_lexed is_fresh level (if_then c body) after s =
      let p = stand_parts (cond_symbols c) (mark (codes ")") ∷ body_symbols body) s in
      if_head is_fresh _ join cond_lexed false c _ p.0 refl join closing false _ join body_lexed level body after p.1
  simple_lexed is_fresh level (if_else c body other) after s =
      let p = stand_parts (cond_symbols c) (mark (codes ")") ∷ (body_symbols body ++ word (codes "else") ∷ body_symbols other)) s in
      let q = stand_parts (body_symbols body) (word (codes "else") ∷ body_symbols other) p.1 in
      if_head is_fresh _ join cond_lexed false c _ p.0 refl join closing false _
      join with_symbols ((body_symbols body ++ word (codes "else") ∷ []) ++ body_symbols other) (body_symbols body ++ word (codes "else") ∷ body_symbols other) (append_assoc (body_symbols body) (word (codes "else") ∷ []) (body_symbols other))
      (before_else_lexed level body (body_layout level other ++ after) q.0 (body_loose level other after) join body_lexed level other after q.1)
  simple_lexed is_fresh level (assign w subs op v) after s =
      let p = stand_parts (word w ∷ dims_symbols subs) (mark (assign_mark op) ∷ (value_symbols v ++ mark (codes ";") ∷ [])) s in
      let q = stand_parts (value_symbols v) (mark (codes ";") ∷ []) p.1 in
      with_text ((w then dims_layout subs) then codes " " then assign_mark op then codes " " then value_layout v then codes ";\n") (simple_layout level (assign w subs op v)) (append_assoc w (dims_layout subs) (codes " " then assign_mark op then codes " " then value_layout v then codes ";\n"))
      (array_lexed w subs _ p.0 refl (name_starts is_fresh w) join gap _ join between false (assign_mark op) _ (assign_is_mark op) join gap _ join value_lexed v (codes ";\n" ++ after) q.0 refl join ended after)

  before_else_lexed : {prelude dangles : Bool} (level : ℕ) (c : BodyText prelude dangles) (after : List ℕ) → AllStand (body_symbols c) → Loose after → Stretch Inside (body_before_else level c) (body_symbols c ++ word (codes "else") ∷ []) Inside after
  before_else_lexed level (braces ss) after s loose =
      let p = stand_parts (stmts_symbols ss) (mark (codes "}") ∷ []) s in
      with_symbols (mark (codes "{") ∷ (stmts_symbols ss ++ mark (codes "}") ∷ word (codes "else") ∷ [])) (body_symbols (braces ss) ++ word (codes "else") ∷ [])
      (ap (λ l. mark (codes "{") ∷ l) (sym (append_assoc (stmts_symbols ss) (mark (codes "}") ∷ []) (word (codes "else") ∷ []))))
      (brace _ join stmts_lexed (suc level) ss _ p.0 join indented level _ join brace_before _ join named (codes "else") after else_name loose refl)
  before_else_lexed level (bare x) after s loose = gap _ join simple_lexed false level x _ s join indented level _ join named (codes "else") after else_name loose refl

  body_lexed : {prelude dangles : Bool} (level : ℕ) (c : BodyText prelude dangles) (after : List ℕ) → AllStand (body_symbols c) → Stretch Inside (body_layout level c) (body_symbols c) Fresh after
  body_lexed level (braces ss) after s =
      let p = stand_parts (stmts_symbols ss) (mark (codes "}") ∷ []) s in
      brace _ join stmts_lexed (suc level) ss _ p.0 join indented level _ join brace_end after
  body_lexed level (bare x) after s = gap _ join simple_lexed false level x after s

-- ---- The function

-- `uint64_t `
element : (after : List ℕ) → Stretch Inside (codes "uint64_t ") (word (codes "uint64_t") ∷ []) Inside after
element after = record { pieces = token Word (codes "uint64_t") ∷ space ∷ []; spelled = refl; standing = refl; leads = refl; its_symbols = refl; calm = λ rest h. h }

number_head : (after : List ℕ) → Stretch Inside (codes "int64_t ") (word (codes "int64_t") ∷ []) Inside after
number_head after = record { pieces = token Word (codes "int64_t") ∷ space ∷ []; spelled = refl; standing = refl; leads = refl; its_symbols = refl; calm = λ rest h. h }

const_lexed : (is_const : Bool) (after : List ℕ) → Stretch Inside (const_layout is_const) (const_symbols is_const) Inside after
const_lexed true after = record { pieces = token Word (codes "const") ∷ space ∷ []; spelled = refl; standing = refl; leads = refl; its_symbols = refl; calm = λ rest h. h }
const_lexed false after = nothing after

param_lexed : {prelude : Bool} (c : ParamText prelude) (after : List ℕ) → AllStand (param_symbols c) → Loose after → Stretch Inside (param_layout c) (param_symbols c) Inside after
param_lexed (number_param w) after s loose = let n = name_of_symbol w [] s in number_head _ join named w after n.0 loose refl
param_lexed (array_param is_const w first others) after s loose =
    let p = stand_parts (const_symbols is_const) (word (codes "uint64_t") ∷ word w ∷ (dim_symbols first ++ dims_symbols others)) s in
    let n = name_of_symbol w (dim_symbols first ++ dims_symbols others) p.1 in
    let q = stand_parts (dim_symbols first) (dims_symbols others) n.1 in
    let r = stand_parts (ix_symbols first) (mark (codes "]") ∷ []) q.0 in
    const_lexed is_const _ join element _ join named w _ n.0 refl refl
    join with_symbols (mark (codes "[") ∷ (ix_symbols first ++ mark (codes "]") ∷ dims_symbols others)) (dim_symbols first ++ dims_symbols others) (ap (λ ss. mark (codes "[") ∷ ss) (sym (append_assoc (ix_symbols first) (mark (codes "]") ∷ []) (dims_symbols others))))
    (bracket _ join ix_lexed false first _ r.0 refl join bracket_end _ join dims_lexed others after q.1)

params_lexed : {prelude : Bool} (c : ParamsText prelude) (after : List ℕ) → AllStand (params_symbols c) → Loose after → Stretch Inside (params_layout c) (params_symbols c) Inside after
params_lexed (param a) after s loose = param_lexed a after s loose
params_lexed (and_param ps a) after s loose =
    let p = stand_parts (params_symbols ps) (mark (codes ",") ∷ param_symbols a) s in
    params_lexed ps _ p.0 refl join comma false _ join param_lexed a after p.1 loose

names_lexed : {prelude : Bool} (c : NamesText prelude) (after : List ℕ) → AllStand (names_symbols c) → Loose after → Stretch Inside (names_layout c) (names_symbols c) Inside after
names_lexed (one_array w dims) after s loose = array_lexed w dims after s loose refl
names_lexed (and_array ns w dims) after s loose =
    let p = stand_parts (names_symbols ns) (mark (codes ",") ∷ word w ∷ dims_symbols dims) s in
    names_lexed ns _ p.0 refl join comma false _ join array_lexed w dims after p.1 loose refl

-- `  uint64_t ` at the beginning of a line
decl_head : (after : List ℕ) → Stretch Fresh (codes "  uint64_t ") (word (codes "uint64_t") ∷ []) Inside after
decl_head after = record { pieces = space ∷ space ∷ token Word (codes "uint64_t") ∷ space ∷ []; spelled = refl; standing = refl; leads = refl; its_symbols = refl; calm = λ rest h. h }

decls_lexed : {prelude : Bool} (c : DeclsText prelude) (after : List ℕ) → AllStand (decls_symbols c) → Stretch Fresh (decls_layout c) (decls_symbols c) Fresh after
decls_lexed no_decls after s = nothing after
decls_lexed (and_decl ds ns) after s =
    let p = stand_parts (decls_symbols ds) (word (codes "uint64_t") ∷ (names_symbols ns ++ mark (codes ";") ∷ [])) s in
    let q = stand_parts (names_symbols ns) (mark (codes ";") ∷ []) p.1 in
    decls_lexed ds _ p.0 join decl_head _ join names_lexed ns (codes ";\n" ++ after) q.0 refl join ended after

-- `void `
void_head : (after : List ℕ) → Stretch Fresh (codes "void ") (word (codes "void") ∷ []) Inside after
void_head after = record { pieces = token Word (codes "void") ∷ space ∷ []; spelled = refl; standing = refl; leads = refl; its_symbols = refl; calm = λ rest h. h }

-- `) {` and a line feed
function_brace : (after : List ℕ) → Stretch Inside (codes ") {\n") (mark (codes ")") ∷ mark (codes "{") ∷ []) Fresh after
function_brace after = record { pieces = token Mark (codes ")") ∷ space ∷ token Mark (codes "{") ∷ line_feed ∷ []; spelled = refl; standing = rw (lone 123 refl refl refl (10 ∷ after)) refl; leads = refl; its_symbols = refl; calm = λ rest h. h }

function_lexed : {prelude : Bool} (c : FunctionText prelude) (after : List ℕ) → AllStand (function_symbols c) → Stretch Fresh (function_layout c) (function_symbols c) Fresh after
function_lexed c after s =
    let n = name_of_symbol c.name (mark (codes "(") ∷ (params_symbols c.params ++ mark (codes ")") ∷ mark (codes "{") ∷ (decls_symbols c.decls ++ (stmts_symbols c.stmts ++ mark (codes "}") ∷ [])))) s in
    let p = stand_parts (params_symbols c.params) (mark (codes ")") ∷ mark (codes "{") ∷ (decls_symbols c.decls ++ (stmts_symbols c.stmts ++ mark (codes "}") ∷ []))) n.1 in
    let q = stand_parts (decls_symbols c.decls) (stmts_symbols c.stmts ++ mark (codes "}") ∷ []) p.1 in
    let r = stand_parts (stmts_symbols c.stmts) (mark (codes "}") ∷ []) q.1 in
    void_head _ join named c.name _ n.0 refl refl join opening false _ join params_lexed c.params _ p.0 refl join function_brace _ join decls_lexed c.decls _ q.0 join stmts_lexed 1 c.stmts _ r.0 join brace_end after

-- ---- The text

int_lexed : (i : IntText) (after : List ℕ) → AllStand (int_symbols i) → Loose after → Stretch Directive (int_layout i) (int_symbols i) Directive after
int_lexed i after s loose = of i.negative s
  where
    of : (b : Bool) → AllStand (if b then mark (codes "-") ∷ number i.digits ∷ [] else number i.digits ∷ [])
        → Stretch Directive (if b then codes "-" then i.digits else i.digits) (if b then mark (codes "-") ∷ number i.digits ∷ [] else number i.digits ∷ []) Directive after
    of true s =
        let n = numeral_of_symbol i.digits [] s in
        marked true (codes "-") (i.digits ++ after) minus_mark (minus_before (i.digits ++ after) (numeral_first i.digits after n.0)) join numbered true i.digits after n.0 loose
    of false s = numbered true i.digits after (numeral_of_symbol i.digits [] s).0 loose

-- lines that end with a line feed, and whose tokens a text can have
abbrev pub LinesStand : PragmasText → Type 0
LinesStand no_pragmas = Unit {0}
LinesStand (and_range ps w low high line) = LinesStand ps × (line ≡ feed) × AllStand (word w ∷ (int_symbols low ++ int_symbols high))
LinesStand (and_context ps cs line) = LinesStand ps × (line ≡ feed) × AllStand (cond_symbols cs)

line_lexed : (after : List ℕ) → Stretch Directive (codes "\n") (record { kind = LineEnd; bytes = codes "\n" } ∷ []) Fresh after
line_lexed after = record { pieces = token LineEnd (codes "\n") ∷ []; spelled = refl; standing = refl; leads = refl; its_symbols = refl; calm = λ rest h. h }

range_head : (after : List ℕ) → Stretch Fresh (codes "#pragma affc param ") (pragma_symbols (codes "param")) Directive after
range_head after = record {
  pieces = token Hash (codes "#") ∷ token Word (codes "pragma") ∷ space ∷ token Word (codes "affc") ∷ space ∷ token Word (codes "param") ∷ space ∷ [];
  spelled = refl;
  standing = refl;
  leads = refl;
  its_symbols = refl;
  calm = λ rest h. h;
}

context_head : (after : List ℕ) → Stretch Fresh (codes "#pragma affc context ") (pragma_symbols (codes "context")) Directive after
context_head after = record {
  pieces = token Hash (codes "#") ∷ token Word (codes "pragma") ∷ space ∷ token Word (codes "affc") ∷ space ∷ token Word (codes "context") ∷ space ∷ [];
  spelled = refl;
  standing = refl;
  leads = refl;
  its_symbols = refl;
  calm = λ rest h. h;
}

pub pragmas_lexed : (c : PragmasText) (after : List ℕ) → LinesStand c → Stretch Fresh (pragmas_layout c) (pragmas_symbols c) Fresh after
pragmas_lexed no_pragmas after s = nothing after
pragmas_lexed (and_range ps w low high text_end) after s = absurd (cc)
pragmas_lexed (and_range ps w low high feed) after s =
    let n = name_of_symbol w (int_symbols low ++ int_symbols high) s.2 in
    let q = stand_parts (int_symbols low) (int_symbols high) n.1 in
    pragmas_lexed ps _ s.0 join range_head _ join named w _ n.0 refl refl join gap _ join int_lexed low _ q.0 refl join gap _ join int_lexed high (codes "\n" ++ after) q.1 refl join line_lexed after
pragmas_lexed (and_context ps cs text_end) after s = absurd (cc)
pragmas_lexed (and_context ps cs feed) after s =
    pragmas_lexed ps _ s.0 join context_head _ join cond_lexed true cs (codes "\n" ++ after) s.2 refl join line_lexed after

include_lexed : (after : List ℕ) → Stretch Fresh (codes "#include <stdint.h>\n") (include_symbols feed) Fresh after
include_lexed after = record {
  pieces = token Hash (codes "#") ∷ token Word (codes "include") ∷ space ∷ token Header (codes "<stdint.h>") ∷ token LineEnd (codes "\n") ∷ [];
  spelled = refl;
  standing = refl;
  leads = refl;
  its_symbols = refl;
  calm = λ rest h. h;
}

prelude_lexed : (has_prelude : Bool) (after : List ℕ) → Stretch Fresh (prelude_layout has_prelude) (prelude_symbols has_prelude) Fresh after
prelude_lexed true after = record { pieces = token Prelude prelude ∷ []; spelled = refl; standing = refl; leads = refl; its_symbols = refl; calm = λ rest h. h }
prelude_lexed false after = nothing after

-- A text whose lines end with line feeds is laid out as its tokens.
pub text_lexed : (c : Text) → c.line ≡ feed → LinesStand c.pragmas → AllStand (function_symbols c.function)
    → Stretch Fresh (codes "#include <stdint.h>\n" then pragmas_layout c.pragmas then prelude_layout c.has_prelude then function_layout c.function) (text_symbols c) Fresh []
text_lexed c line lines s =
    with_symbols (include_symbols feed ++ (pragmas_symbols c.pragmas ++ (prelude_symbols c.has_prelude ++ function_symbols c.function))) (text_symbols c) (ap (λ l. include_symbols l ++ (pragmas_symbols c.pragmas ++ (prelude_symbols c.has_prelude ++ function_symbols c.function))) (sym line))
    (include_lexed _ join pragmas_lexed c.pragmas _ lines join prelude_lexed c.has_prelude _ join function_lexed c.function [] s)
