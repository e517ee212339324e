-- Functions and texts that are spelled so are read.
use Rattle.std.proofs.Common.{◌≡◌, ℕ, Bool, true, false, not, ◌||◌, List, [], ◌∷◌, ◌++◌, Some, refl, sym, ap, subst, codes, IsTrue, append-nil}
use mathlib.Core.Bool.{Bool-set}
use Rattle.affc_lex.specs.declared.token.Kind.TheVariants.{Prelude}
use Rattle.affc_lex.specs.Bytes.{same}
use Rattle.affc_lex.specs.Pieces.{prelude}
use Rattle.affc_grammar.specs.Grammar as g
use Rattle.affc_grammar.specs.Grammar.{Symbol, Name, LineText, line_feed, text_end, word, number, mark, IxText, DimsText, StmtsText, StmtText, ParamText, ParamsText, NamesText, DeclsText, FunctionText, IntText, PragmasText, Text, ix_symbols, dim_symbols, dims_symbols, cond_symbols, stmts_symbols, param_symbols, params_symbols, names_symbols, decls_symbols, function_symbols, int_symbols, line_symbols, pragmas_symbols, prelude_symbols, text_symbols, context_calls}
use Rattle.affc_grammar.specs.Reader.{Reader, on, all, IsReader}
use Rattle.affc_grammar.specs.Reading.{this_mark, any_word, hash, line_end, First, a_word, first_of, read_array, read_param, param_more, read_params, name_more, read_names, Inside, and_ended, inside_stmt, inside_word, inside_more, read_function, read_int, pragma_more, read_without, read_text}
use Rattle.affc_grammar.proofs.Tests.{first_test, holding_is}
use Rattle.affc_grammar.proofs.Rules.{param_more_rule, name_more_rule, inside_more_rule, pragma_rule}
use Rattle.affc_grammar.proofs.Done.{Gets, NotNext, gets_give, gets_after, gets_on, gets_other, gets_end, gets_turn, gets_finished}
use Rattle.affc_grammar.proofs.Complete.{EndsIx, regroup, ix_inside_gets, dims_gets, cond_gets, inside_room}
use Rattle.affc_grammar.proofs.CompleteStatements.{first_word, simple_tail, stmt_first, stmt_tail, tail_no_word, tokens, Loop, in_function, stmts_open}

-- ---- Parameters

array_gets : (calls : Bool) (room : ℕ) (is_const : Bool) (w : Name) (a : IxText calls) (ds : DimsText calls) (rest : List Symbol) → NotNext (this_mark (codes "[")) rest → Gets (read_array calls room is_const) (word w ∷ ((dim_symbols a ++ dims_symbols ds) ++ rest)) (g.array_param is_const w a ds) rest
array_gets calls room is_const w a ds rest e =
    gets_on _ _ _ refl (gets_on _ _ _ refl (gets_after _
    (regroup (ix_symbols a ++ mark (codes "]") ∷ []) (dims_symbols ds) rest (regroup (ix_symbols a) (mark (codes "]") ∷ []) (dims_symbols ds ++ rest) (ix_inside_gets calls a room (mark (codes "]") ∷ (dims_symbols ds ++ rest)) (refl, refl, refl))))
    (gets_on _ _ _ refl (gets_after _ (dims_gets calls ds room rest e) gets_give))))

param_gets : (calls : Bool) (c : ParamText calls) (room : ℕ) (rest : List Symbol) → NotNext (this_mark (codes "[")) rest → Gets (read_param calls room) (param_symbols c ++ rest) c rest
param_gets calls (g.number_param w) room rest e = gets_on _ _ _ refl (gets_on _ _ _ refl gets_give)
param_gets calls (g.array_param true w a ds) room rest e = gets_other _ _ refl (gets_on _ _ _ refl (gets_on _ _ _ refl (array_gets calls room true w a ds rest e)))
param_gets calls (g.array_param false w a ds) room rest e = gets_other _ _ refl (gets_other _ _ refl (gets_on _ _ _ refl (array_gets calls room false w a ds rest e)))

param_reader : (calls : Bool) (room : ℕ) (x : Symbol) (k : Unit {0}) → this_mark (codes ",") x ≡ Some k → (ps : ParamsText calls) → IsReader (param_more calls room k ps)
param_reader calls room x k q ps = (param_more_rule calls room k ps).reader

params_open : (calls : Bool) (c : ParamsText calls) (room : ℕ) (rest : List Symbol) (d : ParamsText calls) (end : List Symbol) → NotNext (this_mark (codes "[")) rest → Gets (all (this_mark (codes ",")) (param_more calls room) c) rest d end → Gets (read_params calls room) (params_symbols c ++ rest) d end
params_open calls (g.param a) room rest d end e h = gets_after _ (param_gets calls a room rest e) h
params_open calls (g.and_param ps a) room rest d end e h =
    regroup (params_symbols ps) (mark (codes ",") ∷ param_symbols a) rest
    (params_open calls ps room (mark (codes ",") ∷ (param_symbols a ++ rest)) d end refl
    (gets_turn (param_reader calls room) refl (gets_after _ (param_gets calls a room rest e) gets_give) h))

-- ---- Declarations

abbrev names_first : {calls : Bool} → NamesText calls → Name
names_first (g.one_array w ds) = w
names_first (g.and_array ns w ds) = names_first ns

abbrev names_tail : {calls : Bool} → NamesText calls → List Symbol
names_tail (g.one_array w ds) = dims_symbols ds
names_tail (g.and_array ns w ds) = names_tail ns ++ mark (codes ",") ∷ word w ∷ dims_symbols ds

names_split : {calls : Bool} (ns : NamesText calls) → names_symbols ns ≡ word (names_first ns) ∷ names_tail ns
names_split (g.one_array w ds) = refl
names_split (g.and_array ns w ds) = ap (λ l. l ++ mark (codes ",") ∷ word w ∷ dims_symbols ds) (names_split ns)

name_reader : (calls : Bool) (room : ℕ) (x : Symbol) (k : Unit {0}) → this_mark (codes ",") x ≡ Some k → (ns : NamesText calls) → IsReader (name_more calls room k ns)
name_reader calls room x k q ns = (name_more_rule calls room k ns).reader

names_open : (calls : Bool) (c : NamesText calls) (room : ℕ) (rest : List Symbol) (d : NamesText calls) (end : List Symbol) → NotNext (this_mark (codes "[")) rest → Gets (all (this_mark (codes ",")) (name_more calls room) c) rest d end → Gets (read_names calls room (names_first c)) (names_tail c ++ rest) d end
names_open calls (g.one_array w ds) room rest d end e h = gets_after _ (dims_gets calls ds room rest e) h
names_open calls (g.and_array ns w ds) room rest d end e h =
    regroup (names_tail ns) (mark (codes ",") ∷ word w ∷ dims_symbols ds) rest
    (names_open calls ns room (mark (codes ",") ∷ word w ∷ (dims_symbols ds ++ rest)) d end refl
    (gets_turn (name_reader calls room) refl (gets_on _ _ _ refl (gets_after _ (dims_gets calls ds room rest e) gets_give)) h))

inside_reader : (calls : Bool) (room : ℕ) (x : Symbol) (k : First) → first_of x ≡ Some k → (i : Inside calls) → IsReader (inside_more calls room k i)
inside_reader calls room x k q i = (inside_more_rule calls room k i).reader

abbrev inside_loop : (calls : Bool) (room : ℕ) → Inside calls → Reader Symbol (Inside calls)
inside_loop calls room = all first_of (inside_more calls room)

decls_open : (calls : Bool) (c : DeclsText calls) (room : ℕ) (rest : List Symbol) (d : Inside calls) (end : List Symbol) → Gets (inside_loop calls room (record { decls = c; stmts = g.no_stmts })) rest d end
    → Gets (inside_loop calls room (record { decls = g.no_decls; stmts = g.no_stmts })) (decls_symbols c ++ rest) d end
decls_open calls g.no_decls room rest d end h = h
decls_open calls (g.and_decl ds ns) room rest d end h =
    regroup (decls_symbols ds) (word (codes "uint64_t") ∷ (names_symbols ns ++ mark (codes ";") ∷ [])) rest
    (decls_open calls ds room (word (codes "uint64_t") ∷ ((names_symbols ns ++ mark (codes ";") ∷ []) ++ rest)) d end
    (subst (λ l. Gets (inside_loop calls room (record { decls = ds; stmts = g.no_stmts })) (word (codes "uint64_t") ∷ ((l ++ mark (codes ";") ∷ []) ++ rest)) d end) (sym (names_split ns))
    (gets_turn (inside_reader calls room) (first_test.passes (a_word (codes "uint64_t")))
    (gets_on _ _ _ refl (gets_after _ (regroup (names_tail ns) (mark (codes ";") ∷ []) rest (names_open calls ns room (mark (codes ";") ∷ rest) ns (mark (codes ";") ∷ rest) refl (gets_end _ _ refl))) (gets_on _ _ _ refl gets_give))) h)))

inside_word_off : (calls : Bool) (room : ℕ) (ds : DeclsText calls) (ss : StmtsText calls) (w : Name) (c : Bool) (ts rest : List Symbol) (b : Inside calls) → NotNext any_word ts → Gets (inside_stmt calls room ds ss (a_word w)) ts b rest → Gets (inside_word calls room ds ss w c) ts b rest
inside_word_off calls room ds g.no_stmts w true ts rest b e h = gets_other _ _ e h
inside_word_off calls room ds g.no_stmts w false ts rest b e h = h
inside_word_off calls room ds (g.and_stmt ss s) w c ts rest b e h = h

inside_more_off : (calls : Bool) (room : ℕ) (ds : DeclsText calls) (ss : StmtsText calls) (s : StmtText calls) (us rest : List Symbol) (b : Inside calls) → Gets (inside_stmt calls room ds ss (stmt_first s)) (stmt_tail s ++ us) b rest → Gets (inside_more calls room (stmt_first s) (record { decls = ds; stmts = ss })) (stmt_tail s ++ us) b rest
inside_more_off calls room ds ss (g.simple s) us rest b h = inside_word_off calls room ds ss (first_word s) (same (first_word s) (codes "uint64_t")) (simple_tail s ++ us) rest b (tail_no_word any_word (λ bytes us. refl) s us) h
inside_more_off calls room ds ss (g.block ks ts) us rest b h = h

abbrev inside_loop_of : (calls : Bool) (room : ℕ) (ds : DeclsText calls) → Loop calls room in_function
inside_loop_of calls room ds = record {
  more = inside_more calls room;
  put = λ ss. record { decls = ds; stmts = ss };
  reader = inside_reader calls room;
  one = λ ss s us rest e h. inside_more_off calls room ds ss s us rest (record { decls = ds; stmts = and_ended ss e }) (gets_after _ h gets_give);
}

function_gets : (calls : Bool) (f : FunctionText calls) (room : ℕ) (rest : List Symbol) → Gets (read_function calls room) (function_symbols f ++ rest) f rest
function_gets calls f room rest =
    gets_on _ _ _ refl (gets_on _ _ _ refl (gets_on _ _ _ refl (gets_after _
    (regroup (params_symbols f.params) (mark (codes ")") ∷ mark (codes "{") ∷ (decls_symbols f.decls ++ (stmts_symbols f.stmts ++ mark (codes "}") ∷ []))) rest (inside_room room (λ r. params_open calls f.params r _ f.params _ refl (gets_end _ _ refl))))
    (gets_on _ _ _ refl (gets_on _ _ _ refl (gets_after _
    (regroup (decls_symbols f.decls) (stmts_symbols f.stmts ++ mark (codes "}") ∷ []) rest (inside_room room (λ r. decls_open calls f.decls r ((stmts_symbols f.stmts ++ mark (codes "}") ∷ []) ++ rest) (record { decls = f.decls; stmts = f.stmts }) (mark (codes "}") ∷ rest)
    (regroup (stmts_symbols f.stmts) (mark (codes "}") ∷ []) rest (stmts_open calls r in_function (inside_loop_of calls r f.decls) f.stmts (tokens (mark (codes "}") ∷ rest) (λ k. refl)) (record { decls = f.decls; stmts = f.stmts }) (mark (codes "}") ∷ rest) (gets_end _ _ refl))))))
    (gets_on _ _ _ refl gets_give)))))))

-- ---- Lines

int_parts : (negative : Bool) (digits : List ℕ) (rest : List Symbol) → Gets read_int (int_symbols (record { negative = negative; digits = digits }) ++ rest) (record { negative = negative; digits = digits }) rest
int_parts true digits rest = gets_on _ _ _ refl (gets_on _ _ _ refl gets_give)
int_parts false digits rest = gets_other _ _ refl (gets_on _ _ _ refl gets_give)

int_gets : (i : IntText) (rest : List Symbol) → Gets read_int (int_symbols i ++ rest) i rest
int_gets i rest = int_parts i.negative i.digits rest

line_gets : {A : Type 0} (line : LineText) (past : LineText → Reader Symbol A) {a : A} {rest end : List Symbol} → Gets (past line) rest a end → Gets (on line_end past) (line_symbols line ++ rest) a end
line_gets line_feed past h = gets_on _ _ _ refl h
line_gets text_end past h = gets_on _ _ _ refl h

line_ends : (line : LineText) (rest : List Symbol) → EndsIx (line_symbols line ++ rest)
line_ends line_feed rest = (refl, refl, refl)
line_ends text_end rest = (refl, refl, refl)

line_no_mark : (bytes : List ℕ) (line : LineText) (rest : List Symbol) → NotNext (this_mark bytes) (line_symbols line ++ rest)
line_no_mark bytes line_feed rest = refl
line_no_mark bytes text_end rest = refl

pragma_reader : (room : ℕ) (x : Symbol) (k : Unit {0}) → hash x ≡ Some k → (ps : PragmasText) → IsReader (pragma_more room k ps)
pragma_reader room x k q ps = (pragma_rule room k ps).reader

pragmas_open : (c : PragmasText) (room : ℕ) (rest : List Symbol) (d : PragmasText) (end : List Symbol) → Gets (all hash (pragma_more room) c) rest d end → Gets (all hash (pragma_more room) g.no_pragmas) (pragmas_symbols c ++ rest) d end
pragmas_open g.no_pragmas room rest d end h = h
pragmas_open (g.and_range ps w low high line) room rest d end h =
    regroup (pragmas_symbols ps) _ rest
    (pragmas_open ps room _ d end
    (gets_turn (pragma_reader room) refl (gets_on _ _ _ refl (gets_on _ _ _ refl (gets_on _ _ _ refl (gets_on _ _ _ refl
    (gets_after _ (regroup (int_symbols low) (int_symbols high ++ line_symbols line) rest (int_gets low _))
    (gets_after _ (regroup (int_symbols high) (line_symbols line) rest (int_gets high _)) (line_gets line _ gets_give))))))) h))
pragmas_open (g.and_context ps c line) room rest d end h =
    regroup (pragmas_symbols ps) _ rest
    (pragmas_open ps room _ d end
    (gets_turn (pragma_reader room) refl (gets_on _ _ _ refl (gets_on _ _ _ refl (gets_other _ _ refl (gets_on _ _ _ refl
    (gets_after _ (regroup (cond_symbols c) (line_symbols line) rest (cond_gets true false c room (line_symbols line ++ rest) (line_ends line rest, line_no_mark (codes "&&") line rest) (line_no_mark (codes "||") line rest))) (line_gets line _ gets_give)))))) h))

-- ---- Texts

ended : (calls : Bool) (f : FunctionText calls) (room : ℕ) → Gets (read_function calls room) (function_symbols f) f []
ended calls f room = subst (λ l. Gets (read_function calls room) l f []) (append-nil (function_symbols f)) (function_gets calls f room [])

pragmas_gets : (ps : PragmasText) (room : ℕ) (rest : List Symbol) → NotNext hash rest → Gets (all hash (pragma_more room) g.no_pragmas) (pragmas_symbols ps ++ rest) ps rest
pragmas_gets ps room rest e = pragmas_open ps room rest ps rest (gets_end _ _ e)

text_parts : (room : ℕ) (line : LineText) (ps : PragmasText) (b : Bool) (h : IsTrue (b || not (context_calls ps))) (f : FunctionText b)
    → Gets (read_text room) (text_symbols (record { line = line; pragmas = ps; has_prelude = b; calls_allowed = h; function = f })) (record { line = line; pragmas = ps; has_prelude = b; calls_allowed = h; function = f }) []
unfolding read_text
text_parts room line ps true h f =
    subst (λ h. Gets (read_text room) (text_symbols (record { line = line; pragmas = ps; has_prelude = true; calls_allowed = h; function = f })) (record { line = line; pragmas = ps; has_prelude = true; calls_allowed = h; function = f }) []) (Bool-set true true refl h)
    (gets_on _ _ _ refl (gets_on _ _ _ refl (gets_on _ _ _ refl (line_gets line _ (gets_after _ (pragmas_gets ps room (record { kind = Prelude; bytes = prelude } ∷ function_symbols f) refl)
    (gets_on _ _ _ refl (gets_after _ (ended true f room) gets_finished)))))))
text_parts room line ps false h f =
    gets_on _ _ _ refl (gets_on _ _ _ refl (gets_on _ _ _ refl (line_gets line _ (gets_after _ (pragmas_gets ps room (function_symbols f) refl)
    (gets_other _ _ refl (subst (λ o. Gets (read_without room line ps o) (function_symbols f) (record { line = line; pragmas = ps; has_prelude = false; calls_allowed = h; function = f }) []) (sym (holding_is (not (context_calls ps)) h)) (gets_after _ (ended false f room) gets_finished)))))))

pub text_gets : (c : Text) (room : ℕ) → Gets (read_text room) (text_symbols c) c []
text_gets c room = text_parts room c.line c.pragmas c.has_prelude c.calls_allowed c.function
