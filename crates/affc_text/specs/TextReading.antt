-- Reading drafts of the function, of the lines before it and of the text. Only the crate's private clauses cite it: `end` is the number behind the last
-- token, so that the first of some tokens at the text's end has the number `end - length tokens`.
use Rattle.std.specs.Prelude.{[], ◌∷◌, ◌++◌, ℕ, zero, suc, ◌-◌, Bool, true, false, ◌&&◌, ◌||◌, List, length, take, codes, Ok, Err, if◌then◌else◌, ℤ, pos, neg_ℤ}
use Rattle.affc_ast.specs.declared.tree.Role.{Role}
use Rattle.affc_ast.specs.declared.tree.Role.TheVariants.{Input, Output, Temp}
use Rattle.affc_grammar.specs.Grammar.{Symbol, Name, has_call}
use Rattle.affc_grammar.specs.Draft.{IxDraft, WordDraft, word_draft, StmtsDraft, DeclDraft, ParamDraft, number_param, array_param, range, context, TextDraft}
use Rattle.affc_grammar.specs.Reader.{At, Deep, Reader, then_read}
use Rattle.affc_grammar.specs.Reading.{this_mark, this_word, any_word, hash, header, the_prelude, First, first_of}
use Rattle.affc_syntax.specs.Ahead.{past, number_value}
use Rattle.affc_syntax.specs.Readers.{on_past, closed, all_more}
use Rattle.affc_syntax.specs.IxReading as ix
use Rattle.affc_syntax.specs.draft.Drafts.{stmts_after}
use Rattle.affc_syntax.specs.CondReading.{comparisons}
use Rattle.affc_text.specs.Parts.{Inside, no_inside, Function, Lines, no_lines}
use Rattle.affc_text.specs.StmtReading.{named, ends_line, is_none, is_first_word, statement, stmts_inside, block_inside}

-- ---- Parameters

-- extents, each in its brackets, of which there is one or more
abbrev pub extents : (prelude : Bool) (end room : ℕ) → Reader Symbol (List IxDraft)
extents prelude end room ts =
    on_past (past (this_mark (codes "[")) ts) (λ _ us.
    then_read (ix.inside prelude end room us) (λ a vs.
    on_past (past (this_mark (codes "]")) vs) (λ _ ws. then_read (ix.dims prelude end room ws) (λ ds xs. Ok (a ∷ ds, xs)))
    (Err (At vs))))
    (Err (At ts))

-- behind `uint64_t`
abbrev pub array : (prelude : Bool) (end room : ℕ) → Role → Reader Symbol ParamDraft
array prelude end room role ts = then_read (named end ts) (λ w us. then_read (extents prelude end room us) (λ es vs. Ok (array_param (record { word = w; role = role; extents = es }), vs)))

abbrev pub param : (prelude : Bool) (end room : ℕ) → Reader Symbol ParamDraft
param prelude end room ts =
    on_past (past (this_word (codes "int64_t")) ts) (λ _ us. then_read (named end us) (λ w vs. Ok (number_param w, vs)))
    (on_past (past (this_word (codes "const")) ts) (λ _ us. on_past (past (this_word (codes "uint64_t")) us) (λ _ vs. array prelude end room Input vs) (Err (At us)))
    (on_past (past (this_word (codes "uint64_t")) ts) (λ _ us. array prelude end room Output us) (Err (At ts))))

abbrev pub param_more : (prelude : Bool) (end room : ℕ) → Unit {0} → List ParamDraft → Reader Symbol (List ParamDraft)
param_more prelude end room _ ps us = then_read (param prelude end room us) (λ a vs. Ok (ps ++ a ∷ [], vs))

abbrev pub more_params : (prelude : Bool) (end room : ℕ) → List ParamDraft → Reader Symbol (List ParamDraft)
more_params prelude end room = all_more (this_mark (codes ",")) (param_more prelude end room)

abbrev pub params : (prelude : Bool) (end room : ℕ) → Reader Symbol (List ParamDraft)
params prelude end room ts = then_read (param_more prelude end room tt [] ts) (more_params prelude end room)

-- behind a bracket that was opened where so many could be
unfoldable pub params_inside : (prelude : Bool) (end : ℕ) → (room : ℕ) → Reader Symbol (List ParamDraft)
params_inside prelude end zero ts = Err Deep
params_inside prelude end (suc room) ts = params prelude end room ts

-- ---- Declarations

-- behind the Word of a temporary
abbrev pub temp : (prelude : Bool) (end room : ℕ) → List DeclDraft → WordDraft → Reader Symbol (List DeclDraft)
temp prelude end room ds w us = then_read (ix.dims prelude end room us) (λ es vs. Ok (ds ++ record { word = w; role = Temp; extents = es } ∷ [], vs))

abbrev pub temp_more : (prelude : Bool) (end room : ℕ) → Unit {0} → List DeclDraft → Reader Symbol (List DeclDraft)
temp_more prelude end room _ ds us = then_read (named end us) (temp prelude end room ds)

abbrev pub more_temps : (prelude : Bool) (end room : ℕ) → List DeclDraft → Reader Symbol (List DeclDraft)
more_temps prelude end room = all_more (this_mark (codes ",")) (temp_more prelude end room)

-- behind `uint64_t` and a Word
abbrev pub decl_behind : (prelude : Bool) (end room : ℕ) → Inside → Name → Reader Symbol Inside
decl_behind prelude end room i w us =
    then_read (temp prelude end room i.temps (word_draft (end - length us - 1) w) us) (λ ds vs.
    then_read (more_temps prelude end room ds vs) (λ es ws. closed (codes ";") (record { temps = es; stmts = i.stmts }) ws))

-- ---- What stands in the function

abbrev pub inside_stmt : (prelude : Bool) (end room : ℕ) → First → Inside → Reader Symbol Inside
inside_stmt prelude end room first i us =
    then_read (statement prelude end room (stmts_inside prelude end room) (block_inside prelude end room) first us) (λ read vs. Ok (record { temps = i.temps; stmts = stmts_after i.stmts read }, vs))

-- whether the token begins a declaration where a Word follows
abbrev pub may_be_decl : First → StmtsDraft → Bool
may_be_decl first ss = is_none ss && is_first_word first (codes "uint64_t")

abbrev pub inside_more : (prelude : Bool) (end room : ℕ) → First → Inside → Reader Symbol Inside
inside_more prelude end room first i us =
    if may_be_decl first i.stmts
    then on_past (past any_word us) (λ w vs. decl_behind prelude end room i w vs) (inside_stmt prelude end room first i us)
    else inside_stmt prelude end room first i us

abbrev pub inner : (prelude : Bool) (end room : ℕ) → Inside → Reader Symbol Inside
inner prelude end room = all_more first_of (inside_more prelude end room)

-- behind a "{" that was opened where so many brackets could be
unfoldable pub function_inside : (prelude : Bool) (end : ℕ) → (room : ℕ) → Reader Symbol Inside
function_inside prelude end zero ts = Err Deep
function_inside prelude end (suc room) ts = inner prelude end room no_inside ts

-- behind the parameters
abbrev pub function_behind : (prelude : Bool) (end room : ℕ) → WordDraft → List ParamDraft → Reader Symbol Function
function_behind prelude end room w ps ts =
    on_past (past (this_mark (codes ")")) ts) (λ _ us.
    on_past (past (this_mark (codes "{")) us) (λ _ vs.
    then_read (function_inside prelude end room vs) (λ i ws. closed (codes "}") (record { name = w; params = ps; temps = i.temps; stmts = i.stmts }) ws))
    (Err (At us)))
    (Err (At ts))

abbrev pub function : (prelude : Bool) (end room : ℕ) → Reader Symbol Function
function prelude end room ts =
    on_past (past (this_word (codes "void")) ts) (λ _ us.
    then_read (named end us) (λ w vs.
    on_past (past (this_mark (codes "(")) vs) (λ _ ws. then_read (params_inside prelude end room ws) (function_behind prelude end room w)) (Err (At vs))))
    (Err (At ts))

-- ---- Lines

abbrev pub itself : ℤ → ℤ
itself n = n

abbrev pub int : Reader Symbol ℤ
int ts =
    on_past (past (this_mark (codes "-")) ts) (λ _ us. on_past (past number_value us) (λ n vs. Ok (neg_ℤ (pos n), vs)) (Err (At us)))
    (on_past (past number_value ts) (λ n us. Ok (pos n, us)) (Err (At ts)))

-- the end of a line, with what was read before it
abbrev pub line_closed : {A : Type 0} → A → Reader Symbol A
line_closed a ts = on_past (past ends_line ts) (λ _ us. Ok (a, us)) (Err (At ts))

-- behind the word `param`
abbrev pub range_behind : (end : ℕ) → Lines → Reader Symbol Lines
range_behind end ls ts =
    then_read (named end ts) (λ w us.
    then_read (int us) (λ low vs.
    then_read (int vs) (λ high ws. line_closed (record { pragmas = ls.pragmas ++ range w (end - length us) low high ∷ []; calls = ls.calls }) ws)))

-- the first so many of these as are not left
abbrev pub taken : (ts left : List Symbol) → List Symbol
taken ts left = take (length ts - length left) ts

-- behind the word `context`
abbrev pub context_behind : (end room : ℕ) → Lines → Reader Symbol Lines
context_behind end room ls ts =
    then_read (comparisons true end room ts) (λ cs us. line_closed (record { pragmas = ls.pragmas ++ context (end - length ts - 1) cs ∷ []; calls = ls.calls || has_call (taken ts us) }) us)

-- behind a "#"
abbrev pub line_more : (end room : ℕ) → Unit {0} → Lines → Reader Symbol Lines
line_more end room _ ls ts =
    on_past (past (this_word (codes "pragma")) ts) (λ _ us.
    on_past (past (this_word (codes "affc")) us) (λ _ vs.
    on_past (past (this_word (codes "param")) vs) (λ _ ws. range_behind end ls ws)
    (on_past (past (this_word (codes "context")) vs) (λ _ ws. context_behind end room ls ws) (Err (At vs))))
    (Err (At us)))
    (Err (At ts))

abbrev pub more_lines : (end room : ℕ) → Lines → Reader Symbol Lines
more_lines end room = all_more hash (line_more end room)

-- ---- The text

-- behind the lines, with the function, which is the last of the text
abbrev pub ended : (has_prelude : Bool) → Lines → Function → Reader Symbol TextDraft
ended has_prelude ls f [] = Ok (record { pragmas = ls.pragmas; has_prelude = has_prelude; function = f.name; params = f.params; temps = f.temps; body = f.stmts }, [])
ended has_prelude ls f (x ∷ ts) = Err (At (x ∷ ts))

abbrev pub rest : (end room : ℕ) (has_prelude : Bool) → Lines → Reader Symbol TextDraft
rest end room has_prelude ls ts = then_read (function has_prelude end room ts) (ended has_prelude ls)

-- behind the lines; a text without the prelude has no calls in its lines
abbrev pub lines_behind : (end room : ℕ) → Lines → Reader Symbol TextDraft
lines_behind end room ls ts = on_past (past the_prelude ts) (λ _ us. rest end room true ls us) (if ls.calls then Err (At ts) else rest end room false ls ts)

-- behind the first line
abbrev pub include_behind : (end room : ℕ) → Reader Symbol TextDraft
include_behind end room ts = then_read (more_lines end room no_lines ts) (lines_behind end room)

abbrev pub text : (end room : ℕ) → Reader Symbol TextDraft
text end room ts =
    on_past (past hash ts) (λ _ us.
    on_past (past (this_word (codes "include")) us) (λ _ vs.
    on_past (past header vs) (λ _ ws.
    on_past (past ends_line ws) (λ _ xs. include_behind end room xs) (Err (At ws)))
    (Err (At vs)))
    (Err (At us)))
    (Err (At ts))
