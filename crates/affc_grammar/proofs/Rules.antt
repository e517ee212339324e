-- Each reader of specs/Reading is a reader of its rule.
use Rattle.std.proofs.Common.{◌≡◌, ℕ, zero, suc, ◌+◌, ◌-◌, Bool, true, false, not, ◌||◌, ◌==◌, List, [], ◌∷◌, ◌++◌, Option, Some, None, refl, sym, ap, ◌∙◌, subst, codes, IsTrue, arith, append_assoc, append-nil}
use Rattle.affc_ast.specs.declared.tree.Op.{Op}
use Rattle.affc_ast.specs.declared.tree.Op.TheVariants.{Add, Sub, Mul, And, Or, Xor}
use Rattle.affc_ast.specs.declared.tree.Rel.{Rel}
use Rattle.affc_ast.specs.declared.tree.Rel.TheVariants.{Less, LessEqual, Greater, GreaterEqual, Equal, NotEqual}
use Rattle.affc_ast.specs.Joined.{is_ordered}
use Rattle.affc_grammar.specs.Grammar as g
use Rattle.affc_grammar.specs.Grammar.{Symbol, Name, Digits, LineText, line_feed, text_end, Choice, minimum, Rounding, down, word, number, mark, is_divisor, IxText, TermText, FactorText, AtomText, DimsText, CondText, AllText, PrimText, ValueText, level_of, StepText, LocalsText, StmtsText, StmtText, SimpleText, BodyText, ParamText, ParamsText, NamesText, DeclsText, FunctionText, IntText, PragmasText, Text, ix_symbols, term_symbols, factor_symbols, atom_symbols, dims_symbols, cond_symbols, all_symbols, prim_symbols, value_symbols, step_symbols, locals_symbols, stmts_symbols, stmt_symbols, simple_symbols, body_symbols, param_symbols, params_symbols, names_symbols, decls_symbols, function_symbols, int_symbols, pragmas_symbols, text_symbols, rel_mark, zero_mark, op_mark, shift_mark, bound_mark, assign_mark, choice_name, rounding_name, dim_symbols, const_symbols, pragma_symbols, line_symbols, context_calls, prelude_symbols}
use Rattle.affc_lex.specs.Bytes.{same}
use Rattle.affc_lex.specs.Pieces.{prelude}
use Rattle.affc_lex.specs.declared.token.Kind.TheVariants.{Header, Hash, LineEnd, Prelude}
use Rattle.affc_grammar.specs.Limits.{count_open}
use Rattle.affc_grammar.specs.Reader.{Reader, give, after, all, Turn, going, done, inside, finished}
use Rattle.affc_grammar.specs.Reading.{choose, Callee, of_choice, of_rounding, callee_name, callees, read_call, read_called, read_named, read_atom, read_factor, times_more, read_factors, read_term, joined, sum_more, read_terms, read_sum, ix_inside, read_ix, dims_more, read_dims, dims_behind, Half, condition, expression, Mixed, conditions, index, read_remainder, read_divided, read_compared, read_closed, read_half, only_condition, read_prim, and_more, read_ands, or_more, read_ors, read_half_more, mixed_inside, read_cond, is_type_name, read_parens, read_plain, complements, read_tildes, read_primary, op_of, op_more, shift_more, read_operands, read_level, value_inside, read_value, read_step, Head, for_head, if_head, else_head, Heads, head, and_head, and_one, with_open, under, opened, Closing, closed, waiting, close, close_one, settled, Ended, one_stmt, and_else, and_ended, read_for, read_if, read_stored, read_assign, read_two, read_else, read_closing, head_words, read_head, assigned_under, read_worded, First, a_word, a_brace, first_of, read_body, read_under, read_simple, read_stmt, stmt_more, Block, local_behind, block_stmt, block_word, block_more, stmts_inside, block_inside, read_array, read_param, param_more, read_params, name_more, read_names, Inside, decl_behind, inside_stmt, inside_word, inside_more, read_inside, read_function, read_int, pragma_more, read_without, read_text, holding}
use Rattle.affc_grammar.proofs.Rule.{Rule, give_rule, fail_rule, deep_rule, after_rule, nested_rule, then_rule, refront, either_rule, on_rule, all_rule, until_rule, finished_rule, raise, turn_spelled}
use Rattle.affc_grammar.proofs.Tests.{mark_test, word_test, any_word_test, any_number_test, any_value_test, hash_test, header_test, prelude_test, line_test, sum_test, shift_test, bound_test, rel_test, zero_test, zero_number_test, assign_test, one_test, divisor_test, shift_number_test, op_test, first_symbol, first_test, callee_is, head_word, head_is, sign_mark, same_bytes, line_bytes}

-- a text is a whole of a rule where nothing was read before
abbrev pub Whole : {C : Type 0} → (room at : ℕ) → (C → List Symbol) → Reader Symbol C → Type 0
Whole room at spelled p = Rule count_open room at at spelled (λ r. r) p

-- how brackets count

flat_sign : (b : Bool) (n : ℕ) → count_open n (mark (sign_mark b)) ≡ n
flat_sign true n = refl
flat_sign false n = refl

flat_shift : (b : Bool) (n : ℕ) → count_open n (mark (shift_mark b)) ≡ n
flat_shift true n = refl
flat_shift false n = refl

flat_bound : (b : Bool) (n : ℕ) → count_open n (mark (bound_mark b)) ≡ n
flat_bound true n = refl
flat_bound false n = refl

flat_rel : (rel : Rel) (n : ℕ) → count_open n (mark (rel_mark rel)) ≡ n
flat_rel Less n = refl
flat_rel LessEqual n = refl
flat_rel Greater n = refl
flat_rel GreaterEqual n = refl
flat_rel Equal n = refl
flat_rel NotEqual n = refl

flat_zero : (b : Bool) (n : ℕ) → count_open n (mark (zero_mark b)) ≡ n
flat_zero true n = refl
flat_zero false n = refl

flat_op : (op : Op) (n : ℕ) → count_open n (mark (op_mark op)) ≡ n
flat_op Add n = refl
flat_op Sub n = refl
flat_op Mul n = refl
flat_op And n = refl
flat_op Or n = refl
flat_op Xor n = refl

flat_assign : (op : Option Op) (n : ℕ) → count_open n (mark (assign_mark op)) ≡ n
flat_assign None n = refl
flat_assign (Some Add) n = refl
flat_assign (Some Sub) n = refl
flat_assign (Some Mul) n = refl
flat_assign (Some And) n = refl
flat_assign (Some Or) n = refl
flat_assign (Some Xor) n = refl

opens : (bytes : List ℕ) → ((n : ℕ) → count_open n (mark bytes) ≡ n + 1) → Unit {0} → (n : ℕ) → count_open (n + 0) (mark bytes) ≡ n + 1
opens bytes e k n = e (n + 0) ∙ omega arith

closes : (bytes : List ℕ) → ((n : ℕ) → count_open n (mark bytes) ≡ n - 1) → Unit {0} → (n : ℕ) → count_open (n + 1) (mark bytes) ≡ n + 0
closes bytes e k n = e (n + 1) ∙ omega arith

pub open_paren : Unit {0} → (n : ℕ) → count_open (n + 0) (mark (codes "(")) ≡ n + 1
open_paren = opens (codes "(") (λ n. refl)

pub close_paren : Unit {0} → (n : ℕ) → count_open (n + 1) (mark (codes ")")) ≡ n + 0
close_paren = closes (codes ")") (λ n. refl)

pub open_square : Unit {0} → (n : ℕ) → count_open (n + 0) (mark (codes "[")) ≡ n + 1
open_square = opens (codes "[") (λ n. refl)

pub close_square : Unit {0} → (n : ℕ) → count_open (n + 1) (mark (codes "]")) ≡ n + 0
close_square = closes (codes "]") (λ n. refl)

pub open_brace : Unit {0} → (n : ℕ) → count_open (n + 0) (mark (codes "{")) ≡ n + 1
open_brace = opens (codes "{") (λ n. refl)

pub close_brace : Unit {0} → (n : ℕ) → count_open (n + 1) (mark (codes "}")) ≡ n + 0
close_brace = closes (codes "}") (λ n. refl)

-- ---- Whole-number expressions

pub call_rule : {room : ℕ} {inner : Reader Symbol (IxText true)} → Whole room 1 ix_symbols inner → (f : Callee) → Rule count_open room 1 0 atom_symbols (λ r. word (callee_name f) ∷ mark (codes "(") ∷ r) (read_call inner f)
call_rule rule (of_choice f) =
    after_rule rule λ a. on_rule tt (mark_test (codes ",")) (λ k n. refl) λ _. after_rule rule λ b. on_rule tt (mark_test (codes ")")) close_paren λ _.
    give_rule (g.chosen refl f a b) (λ r. simp append_assoc)
call_rule rule (of_rounding f) =
    after_rule rule λ a. on_rule tt (mark_test (codes ",")) (λ k n. refl) λ _. on_rule (codes "1", refl) divisor_test (λ k n. refl) λ by. on_rule tt (mark_test (codes ")")) close_paren λ _.
    give_rule (g.divided refl f a by.0 by.1) (λ r. simp append_assoc)

pub called_rule : {room : ℕ} {inner : Reader Symbol (IxText true)} → Whole room 1 ix_symbols inner → (w : Name) (o : Option Callee) → choose callees w ≡ o → Rule count_open room 0 0 atom_symbols (λ r. word w ∷ r) (read_called inner w o)
called_rule rule w None e = give_rule (g.name w) (λ r. refl)
called_rule {room} {inner} rule w (Some f) e =
    either_rule (mark_test (codes "(")) open_paren
    (λ _. subst (λ v. Rule count_open room 1 0 atom_symbols (λ r. word v ∷ mark (codes "(") ∷ r) (read_call inner f)) (sym (callee_is w f e)) (call_rule rule f))
    (give_rule (g.name w) (λ r. refl))

pub named_rule : (calls : Bool) {room : ℕ} {inner : Reader Symbol (IxText calls)} → Whole room 1 ix_symbols inner → (w : Name) → Rule count_open room 0 0 atom_symbols (λ r. word w ∷ r) (read_named calls inner w)
named_rule true rule w = called_rule rule w (choose callees w) refl
named_rule false rule w = give_rule (g.name w) (λ r. refl)

module _ {calls : Bool} {room : ℕ} {inner : Reader Symbol (IxText calls)} (rule : Whole room 1 ix_symbols inner) where
  pub atom_rule : Whole room 0 atom_symbols (read_atom calls inner)
  atom_rule =
      either_rule any_number_test (λ k n. refl) (λ digits. give_rule (g.literal digits) (λ r. refl))
      (either_rule any_word_test (λ k n. refl) (λ w. named_rule calls rule w)
      (on_rule tt (mark_test (codes "(")) open_paren λ _. after_rule rule λ a. on_rule tt (mark_test (codes ")")) close_paren λ _. give_rule (g.grouped a) (λ r. simp append_assoc)))

  pub factor_rule : Whole room 0 factor_symbols (read_factor calls inner)
  factor_rule =
      either_rule (mark_test (codes "-")) (λ k n. refl) (λ _. after_rule atom_rule λ a. give_rule (g.negated a) (λ r. refl))
      (after_rule atom_rule λ a. give_rule (g.atom a) (λ r. refl))

  pub times_rule : (k : Unit {0}) (a : TermText calls) → Rule count_open room 0 0 term_symbols (λ r. term_symbols a ++ mark (codes "*") ∷ r) (times_more calls inner k a)
  times_rule k a = after_rule factor_rule λ b. give_rule (g.times a b) (λ r. simp append_assoc)

  pub factors_rule : (a : FactorText calls) → Rule count_open room 0 0 term_symbols (λ r. factor_symbols a ++ r) (read_factors calls inner a)
  factors_rule a = all_rule (mark_test (codes "*")) (λ k n. refl) times_rule (g.factor a)

  pub term_rule : Whole room 0 term_symbols (read_term calls inner)
  term_rule = after_rule factor_rule factors_rule

  pub joined_symbols : (b : Bool) (a : IxText calls) (c : TermText calls) (r : List Symbol) → ix_symbols a ++ mark (sign_mark b) ∷ (term_symbols c ++ r) ≡ ix_symbols (joined b a c) ++ r
  joined_symbols true a c r = simp append_assoc
  joined_symbols false a c r = simp append_assoc

  pub plus_rule : (b : Bool) (a : IxText calls) → Rule count_open room 0 0 ix_symbols (λ r. ix_symbols a ++ mark (sign_mark b) ∷ r) (sum_more calls inner b a)
  plus_rule b a = after_rule term_rule λ c. give_rule (joined b a c) (λ r. joined_symbols b a c r)

  pub terms_rule : (a : TermText calls) → Rule count_open room 0 0 ix_symbols (λ r. term_symbols a ++ r) (read_terms calls inner a)
  terms_rule a = all_rule sum_test (λ k n. flat_sign k (n + 0)) plus_rule (g.term a)

  pub sum_rule : Whole room 0 ix_symbols (read_sum calls inner)
  sum_rule = after_rule term_rule terms_rule

pub ix_inside_rule : (calls : Bool) (room : ℕ) → Whole room 1 ix_symbols (ix_inside calls room)
unfolding ix_inside
ix_inside_rule calls zero = deep_rule (g.term (g.factor (g.atom (g.literal (codes "0")))), number (codes "0") ∷ [], refl)
ix_inside_rule calls (suc room) = raise (sum_rule (ix_inside_rule calls room))

pub ix_rule : (calls : Bool) (room : ℕ) → Whole room 0 ix_symbols (read_ix calls room)
ix_rule calls room = sum_rule (ix_inside_rule calls room)

pub dim_rule : (calls : Bool) (room : ℕ) (k : Unit {0}) (ds : DimsText calls) → Rule count_open room 1 0 dims_symbols (λ r. dims_symbols ds ++ mark (codes "[") ∷ r) (dims_more calls room k ds)
dim_rule calls room k ds = after_rule (ix_inside_rule calls room) λ a. on_rule tt (mark_test (codes "]")) close_square λ _. give_rule (g.and_dim ds a) (λ r. simp append_assoc)

pub dims_rule : (calls : Bool) (room : ℕ) → Whole room 0 dims_symbols (read_dims calls room)
dims_rule calls room = all_rule (mark_test (codes "[")) open_square (dim_rule calls room) g.no_dims

pub dims_behind_rule : (calls : Bool) (room : ℕ) → Rule count_open room 1 0 dims_symbols (λ r. mark (codes "[") ∷ r) (dims_behind calls room)
dims_behind_rule calls room = then_rule (λ x y. refl) (dim_rule calls room tt g.no_dims) λ d. all_rule (mark_test (codes "[")) open_square (dim_rule calls room) d

-- ---- Conditions

abbrev pub half_symbols : {calls wide : Bool} → Half calls wide → List Symbol
half_symbols (condition q) = prim_symbols q
half_symbols (expression a) = ix_symbols a

abbrev pub mixed_symbols : {calls wide : Bool} → Mixed calls wide → List Symbol
mixed_symbols (conditions c) = cond_symbols c
mixed_symbols (index a) = ix_symbols a

less_told : (wide : Bool) → IsTrue (wide || is_ordered Less)
less_told true = refl
less_told false = refl

remainder_rule : {calls : Bool} {room : ℕ} (t : TermText calls) → Rule count_open room 0 0 half_symbols (λ r. term_symbols t ++ mark (codes "%") ∷ r) (read_remainder t)
remainder_rule t =
    on_rule (codes "1", refl) divisor_test (λ k n. refl) λ by. on_rule true zero_test (λ k n. flat_zero k (n + 0)) λ so. on_rule tt zero_number_test (λ k n. refl) λ _.
    give_rule (condition (g.divisible refl t by.0 by.1 so)) (λ r. simp append_assoc)

divided_rule : {calls : Bool} {room : ℕ} (wide : Bool) (a : IxText calls) → Rule count_open room 0 0 half_symbols (λ r. ix_symbols a ++ r) (read_divided wide a)
divided_rule true (g.term t) = either_rule (mark_test (codes "%")) (λ k n. refl) (λ _. remainder_rule t) (give_rule (expression (g.term t)) (λ r. refl))
divided_rule true (g.plus a b) = give_rule (expression (g.plus a b)) (λ r. refl)
divided_rule true (g.minus a b) = give_rule (expression (g.minus a b)) (λ r. refl)
divided_rule false a = give_rule (expression a) (λ r. refl)

module _ {calls wide : Bool} {room : ℕ} {inner : Reader Symbol (IxText calls)} {mixed : Reader Symbol (Mixed calls wide)} (rule : Whole room 1 ix_symbols inner) (mixed_rule : Whole room 1 mixed_symbols mixed) where
  pub compared_rule : (a : IxText calls) → Rule count_open room 0 0 half_symbols (λ r. ix_symbols a ++ r) (read_compared calls wide inner a)
  compared_rule a =
      either_rule (rel_test wide) (λ k n. flat_rel k.0 (n + 0)) (λ rel. after_rule (sum_rule rule) λ b. give_rule (condition (g.compared a rel.0 rel.1 b)) (λ r. simp append_assoc))
      (divided_rule wide a)

  pub closed_rule : (m : Mixed calls wide) → Rule count_open room 0 0 half_symbols (λ r. mark (codes "(") ∷ (mixed_symbols m ++ mark (codes ")") ∷ r)) (read_closed calls wide inner m)
  closed_rule (conditions c) = give_rule (condition (g.enclosed c)) (λ r. simp append_assoc)
  closed_rule (index a) =
      then_rule (λ x y. simp append_assoc) (refront (λ r. simp append_assoc) (factors_rule rule (g.atom (g.grouped a)))) λ b.
      then_rule (λ x y. append_assoc (term_symbols b) x y) (terms_rule rule b) compared_rule

  pub half_rule : Whole room 0 half_symbols (read_half calls wide inner mixed)
  half_rule =
      either_rule (mark_test (codes "(")) open_paren (λ _. after_rule mixed_rule λ m. on_rule tt (mark_test (codes ")")) close_paren λ _. closed_rule m)
      (after_rule (sum_rule rule) λ a. compared_rule a)

  pub only_condition_rule : (h : Half calls wide) → Rule count_open room 0 0 prim_symbols (λ r. half_symbols h ++ r) (only_condition h)
  only_condition_rule (condition q) = give_rule q (λ r. refl)
  only_condition_rule (expression a) = fail_rule (g.compared a Less (less_told wide) (g.term (g.factor (g.atom (g.literal (codes "0"))))), mark (codes "<") ∷ number (codes "0") ∷ [], refl)

  pub prim_rule : Whole room 0 prim_symbols (read_prim calls wide inner mixed)
  prim_rule = after_rule half_rule only_condition_rule

  pub and_rule : (k : Unit {0}) (a : AllText calls wide) → Rule count_open room 0 0 all_symbols (λ r. all_symbols a ++ mark (codes "&&") ∷ r) (and_more calls wide inner mixed k a)
  and_rule k a = after_rule prim_rule λ q. give_rule (g.and_prim a q) (λ r. simp append_assoc)

  pub ands_rule : (q : PrimText calls wide) → Rule count_open room 0 0 all_symbols (λ r. prim_symbols q ++ r) (read_ands calls wide inner mixed q)
  ands_rule q = all_rule (mark_test (codes "&&")) (λ k n. refl) and_rule (g.prim q)

pub or_rule : {calls : Bool} {room : ℕ} {inner : Reader Symbol (IxText calls)} {mixed : Reader Symbol (Mixed calls true)} → Whole room 1 ix_symbols inner → Whole room 1 mixed_symbols mixed
    → (k : Unit {0}) (c : CondText calls true) → Rule count_open room 0 0 cond_symbols (λ r. cond_symbols c ++ mark (codes "||") ∷ r) (or_more calls inner mixed k c)
or_rule rule mixed_rule k c =
    after_rule (prim_rule rule mixed_rule) λ q.
    nested_rule (λ r. cond_symbols c ++ mark (codes "||") ∷ r) (λ r. prim_symbols q ++ r) (λ x y. append_assoc (prim_symbols q) x y) (ands_rule rule mixed_rule q) λ a. give_rule (g.or_all refl c a) (λ r. simp append_assoc)

pub ors_rule : {calls : Bool} (wide : Bool) {room : ℕ} {inner : Reader Symbol (IxText calls)} {mixed : Reader Symbol (Mixed calls wide)} → Whole room 1 ix_symbols inner → Whole room 1 mixed_symbols mixed
    → (a : AllText calls wide) → Rule count_open room 0 0 cond_symbols (λ r. all_symbols a ++ r) (read_ors calls wide inner mixed a)
ors_rule true rule mixed_rule a = all_rule (mark_test (codes "||")) (λ k n. refl) (or_rule rule mixed_rule) (g.all_of a)
ors_rule false rule mixed_rule a = give_rule (g.all_of a) (λ r. refl)

pub half_more_rule : {calls : Bool} (wide : Bool) {room : ℕ} {inner : Reader Symbol (IxText calls)} {mixed : Reader Symbol (Mixed calls wide)} → Whole room 1 ix_symbols inner → Whole room 1 mixed_symbols mixed
    → (h : Half calls wide) → Rule count_open room 0 0 mixed_symbols (λ r. half_symbols h ++ r) (read_half_more calls wide inner mixed h)
half_more_rule wide rule mixed_rule (condition q) =
    then_rule (λ x y. append_assoc (prim_symbols q) x y) (ands_rule rule mixed_rule q) λ a.
    then_rule (λ x y. append_assoc (all_symbols a) x y) (ors_rule wide rule mixed_rule a) λ c. give_rule (conditions c) (λ r. refl)
half_more_rule wide rule mixed_rule (expression a) = give_rule (index a) (λ r. refl)

pub mixed_inside_rule : (calls wide : Bool) (room : ℕ) → Whole room 1 mixed_symbols (mixed_inside calls wide room)
unfolding mixed_inside
mixed_inside_rule calls wide zero = deep_rule (index (g.term (g.factor (g.atom (g.literal (codes "0"))))), number (codes "0") ∷ [], refl)
mixed_inside_rule calls wide (suc room) =
    let rule = ix_inside_rule calls room in
    let mixed_rule = mixed_inside_rule calls wide room in
    raise (after_rule (half_rule rule mixed_rule) (half_more_rule wide rule mixed_rule))

pub cond_rule : (calls wide : Bool) (room : ℕ) → Whole room 0 cond_symbols (read_cond calls wide room)
cond_rule calls wide room =
    let rule = ix_inside_rule calls room in
    let mixed_rule = mixed_inside_rule calls wide room in
    after_rule (prim_rule rule mixed_rule) λ q.
    then_rule (λ x y. append_assoc (prim_symbols q) x y) (ands_rule rule mixed_rule q) λ a.
    then_rule (λ x y. append_assoc (all_symbols a) x y) (ors_rule wide rule mixed_rule a) λ c. give_rule c (λ r. refl)

pub inside_rule : {C : Type 0} {spelled : C → List Symbol} {p : ℕ → Reader Symbol C} → ((room : ℕ) → Whole room 0 spelled (p room)) → (room : ℕ) → Whole room 1 spelled (inside p room)
unfolding inside
inside_rule rule zero = deep_rule (rule 0).can
inside_rule rule (suc room) = raise (rule room)

-- ---- Values

pub type_name_symbols : {calls : Bool} {n : ℕ} (v : ValueText calls n) → is_type_name v ≡ true → value_symbols v ≡ word (codes "uint64_t") ∷ []
type_name_symbols (g.complement v) e = absurd (cc)
type_name_symbols (g.load w g.no_dims) e = ap (λ b. word b ∷ []) (same_bytes w (codes "uint64_t") e)
type_name_symbols (g.load w (g.and_dim ds a)) e = absurd (cc)
type_name_symbols (g.constant bytes) e = absurd (cc)
type_name_symbols (g.parens v) e = absurd (cc)
type_name_symbols (g.cast a) e = absurd (cc)
type_name_symbols (g.operand v) e = type_name_symbols v e
type_name_symbols (g.binary a op h b) e = absurd (cc)
type_name_symbols (g.shift v left by h) e = absurd (cc)

abbrev pub tilde_symbols : ℕ → List Symbol
tilde_symbols zero = []
tilde_symbols (suc n) = tilde_symbols n ++ mark (codes "~") ∷ []

pub complement_symbols : {calls : Bool} (n : ℕ) (v : ValueText calls 0) (r : List Symbol) → tilde_symbols n ++ (value_symbols v ++ r) ≡ value_symbols (complements n v) ++ r
complement_symbols zero v r = refl
complement_symbols (suc n) v r = append_assoc (tilde_symbols n) (mark (codes "~") ∷ []) (value_symbols v ++ r) ∙ complement_symbols n (g.complement v) r

pub tilde_rule : {room : ℕ} (k : Unit {0}) (n : ℕ) → Rule count_open room 0 0 tilde_symbols (λ r. tilde_symbols n ++ mark (codes "~") ∷ r) (give (suc n))
tilde_rule k n = give_rule (suc n) (λ r. sym (append_assoc (tilde_symbols n) (mark (codes "~") ∷ []) r))

pub tildes_rule : {room : ℕ} → Whole room 0 tilde_symbols read_tildes
tildes_rule = all_rule (mark_test (codes "~")) (λ k n. refl) tilde_rule zero

module _ {calls : Bool} {room : ℕ} {inner : Reader Symbol (ValueText calls 6)} (rule : Whole room 1 value_symbols inner) where
  pub parens_rule : (v : ValueText calls 6) (b : Bool) → is_type_name v ≡ b → Rule count_open room 0 0 value_symbols (λ r. mark (codes "(") ∷ (value_symbols v ++ mark (codes ")") ∷ r)) (read_parens calls room v b)
  parens_rule v true e =
      either_rule (mark_test (codes "(")) open_paren
      (λ _. after_rule (ix_inside_rule calls room) λ a. on_rule tt (mark_test (codes ")")) close_paren λ _. give_rule (g.cast a) (λ r. ap (λ l. mark (codes "(") ∷ (l ++ mark (codes ")") ∷ mark (codes "(") ∷ (ix_symbols a ++ mark (codes ")") ∷ r))) (type_name_symbols v e) ∙ simp append_assoc))
      (give_rule (g.parens v) (λ r. simp append_assoc))
  parens_rule v false e = give_rule (g.parens v) (λ r. simp append_assoc)

  pub plain_rule : Whole room 0 value_symbols (read_plain calls room inner)
  plain_rule =
      either_rule any_value_test (λ k n. refl) (λ bytes. give_rule (g.constant bytes) (λ r. refl))
      (either_rule any_word_test (λ k n. refl) (λ w. after_rule (dims_rule calls room) λ ds. give_rule (g.load w ds) (λ r. refl))
      (on_rule tt (mark_test (codes "(")) open_paren λ _. after_rule rule λ v. on_rule tt (mark_test (codes ")")) close_paren λ _. parens_rule v (is_type_name v) refl))

  pub primary_rule : Whole room 0 value_symbols (read_primary calls room inner)
  primary_rule = after_rule tildes_rule λ n. after_rule plain_rule λ v. give_rule (complements n v) (λ r. complement_symbols n v r)

pub op_rule : {calls : Bool} {room : ℕ} (n : ℕ) {level : Reader Symbol (ValueText calls n)} → Whole room 0 value_symbols level → (k : (op : Op) × IsTrue (level_of op == suc n)) (a : ValueText calls (suc n)) → Rule count_open room 0 0 value_symbols (λ r. value_symbols a ++ mark (op_mark k.0) ∷ r) (op_more n level k a)
op_rule n rule k a = after_rule rule λ b. give_rule (g.binary a k.0 k.1 b) (λ r. simp append_assoc)

pub shift_rule : {calls : Bool} {room : ℕ} (left : Bool) (a : ValueText calls 3) → Rule count_open room 0 0 value_symbols (λ r. value_symbols a ++ mark (shift_mark left) ∷ r) (shift_more left a)
shift_rule left a = on_rule (codes "1", refl) shift_number_test (λ k m. refl) λ by. give_rule (g.shift a left by.0 by.1) (λ r. simp append_assoc)

pub ops_rule : {calls : Bool} {room : ℕ} (n : ℕ) {level : Reader Symbol (ValueText calls n)} → Whole room 0 value_symbols level → (a : ValueText calls n) → Rule count_open room 0 0 value_symbols (λ r. value_symbols a ++ r) (all (op_of n) (op_more n level) (g.operand a))
ops_rule n rule a = all_rule (op_test n) (λ k m. flat_op k.0 (m + 0)) (op_rule n rule) (g.operand a)

pub operands_rule : {calls : Bool} {room : ℕ} (n : ℕ) {level : Reader Symbol (ValueText calls n)} → Whole room 0 value_symbols level → (a : ValueText calls n) → Rule count_open room 0 0 value_symbols (λ r. value_symbols a ++ r) (read_operands n level a)
operands_rule zero rule a = ops_rule zero rule a
operands_rule (suc zero) rule a = ops_rule (suc zero) rule a
operands_rule (suc (suc zero)) rule a = all_rule shift_test (λ k m. flat_shift k (m + 0)) shift_rule (g.operand a)
operands_rule (suc (suc (suc n))) rule a = ops_rule (suc (suc (suc n))) rule a

pub level_rule : {calls : Bool} {room : ℕ} {primary : Reader Symbol (ValueText calls 0)} → Whole room 0 value_symbols primary → (n : ℕ) → Whole room 0 value_symbols (read_level primary n)
level_rule rule zero = rule
level_rule rule (suc n) = after_rule (level_rule rule n) (operands_rule n (level_rule rule n))

abbrev pub no_value : {calls : Bool} → ValueText calls 6
no_value = g.operand (g.operand (g.operand (g.operand (g.operand (g.operand (g.constant (codes "0ULL")))))))

pub value_inside_rule : (calls : Bool) (room : ℕ) → Whole room 1 value_symbols (value_inside calls room)
unfolding value_inside
value_inside_rule calls zero = deep_rule (no_value, value_symbols (no_value {calls = calls}), refl)
value_inside_rule calls (suc room) = raise (level_rule (primary_rule (value_inside_rule calls room)) 6)

pub value_rule : (calls : Bool) (room : ℕ) → Whole room 0 value_symbols (read_value calls room)
value_rule calls room = level_rule (primary_rule (value_inside_rule calls room)) 6

-- ---- Statements

pub step_rule : {room : ℕ} (at : ℕ) → Whole room at step_symbols read_step
step_rule at =
    either_rule (mark_test (codes "++")) (λ k n. refl) (λ _. on_rule [] any_word_test (λ k n. refl) λ w. give_rule (g.up_then w) (λ r. refl))
    (on_rule [] any_word_test (λ k n. refl) λ w.
    either_rule (mark_test (codes "++")) (λ k n. refl) (λ _. give_rule (g.then_up w) (λ r. refl))
    (on_rule tt (mark_test (codes "+=")) (λ k n. refl) λ _. on_rule tt one_test (λ k n. refl) λ _. give_rule (g.up_by_one w) (λ r. refl)))

abbrev pub head_symbols : {calls : Bool} → Head calls → List Symbol
head_symbols (for_head iterator low tested strict high step) =
    word (codes "for") ∷ mark (codes "(") ∷ word (codes "int64_t") ∷ word iterator ∷ mark (codes "=") ∷ (ix_symbols low ++ mark (codes ";") ∷ word tested ∷ mark (bound_mark strict) ∷ (ix_symbols high ++ mark (codes ";") ∷ (step_symbols step ++ mark (codes ")") ∷ [])))
head_symbols (if_head c) = word (codes "if") ∷ mark (codes "(") ∷ (cond_symbols c ++ mark (codes ")") ∷ [])
head_symbols (else_head c body) = word (codes "if") ∷ mark (codes "(") ∷ (cond_symbols c ++ mark (codes ")") ∷ (body_symbols body ++ word (codes "else") ∷ []))

abbrev pub heads_symbols : {calls : Bool} → Heads calls → List Symbol
heads_symbols (head h) = head_symbols h
heads_symbols (and_head hs h) = heads_symbols hs ++ head_symbols h

abbrev pub before_symbols : {calls : Bool} → Option (Heads calls) → List Symbol
before_symbols None = []
before_symbols (Some hs) = heads_symbols hs

pub with_open_symbols : {calls : Bool} (h : Head calls) (body : BodyText calls true) → simple_symbols (with_open h body) ≡ head_symbols h ++ body_symbols body
with_open_symbols (for_head iterator low tested strict high step) body = simp append_assoc
with_open_symbols (if_head c) body = simp append_assoc
with_open_symbols (else_head c body) other = simp append_assoc

pub under_symbols : {calls : Bool} (hs : Heads calls) (body : BodyText calls true) → simple_symbols (under hs body) ≡ heads_symbols hs ++ body_symbols body
under_symbols (head h) body = with_open_symbols h body
under_symbols (and_head hs h) body = under_symbols hs (g.bare (with_open h body)) ∙ ap (λ l. heads_symbols hs ++ l) (with_open_symbols h body) ∙ sym (append_assoc (heads_symbols hs) (head_symbols h) (body_symbols body))

pub opened_symbols : {calls : Bool} (hs : Option (Heads calls)) (s : SimpleText calls true) → simple_symbols (opened hs s) ≡ before_symbols hs ++ simple_symbols s
opened_symbols None s = refl
opened_symbols (Some hs) s = under_symbols hs (g.bare s)

pub and_one_symbols : {calls : Bool} (hs : Option (Heads calls)) (h : Head calls) (r : List Symbol) → before_symbols hs ++ (head_symbols h ++ r) ≡ heads_symbols (and_one hs h) ++ r
and_one_symbols None h r = refl
and_one_symbols (Some hs) h r = sym (append_assoc (heads_symbols hs) (head_symbols h) r)

abbrev pub closing_symbols : {calls : Bool} → Closing calls → List Symbol
closing_symbols (closed s) = simple_symbols s
closing_symbols (waiting hs c body) = before_symbols hs ++ simple_symbols (g.if_then c body)

for_symbols : {calls dangles : Bool} (iterator : Name) (low : IxText calls) (tested : Name) (strict : Bool) (high : IxText calls) (step : StepText) (body : BodyText calls dangles)
    → simple_symbols (g.for_loop iterator low tested strict high step body) ≡ head_symbols (for_head iterator low tested strict high step) ++ body_symbols body
for_symbols iterator low tested strict high step body = simp append_assoc

then_symbols : {calls dangles : Bool} (c : CondText calls true) (body : BodyText calls dangles) → simple_symbols (g.if_then c body) ≡ head_symbols (if_head c) ++ body_symbols body
then_symbols c body = simp append_assoc

else_symbols : {calls dangles : Bool} (c : CondText calls true) (body : BodyText calls false) (other : BodyText calls dangles) → simple_symbols (g.if_else c body other) ≡ head_symbols (else_head c body) ++ body_symbols other
else_symbols c body other = simp append_assoc

behind : (xs ys zs us : List Symbol) → us ≡ ys ++ zs → xs ++ us ≡ (xs ++ ys) ++ zs
behind xs ys zs us e = ap (λ l. xs ++ l) e ∙ sym (append_assoc xs ys zs)

pub close_symbols : {calls : Bool} (hs : Heads calls) (body : BodyText calls false) → closing_symbols (close hs body) ≡ heads_symbols hs ++ body_symbols body
close_symbols (head (for_head iterator low tested strict high step)) body = for_symbols iterator low tested strict high step body
close_symbols (head (if_head c)) body = then_symbols c body
close_symbols (head (else_head c body)) other = else_symbols c body other
close_symbols (and_head hs (for_head iterator low tested strict high step)) body =
    close_symbols hs (g.bare (g.for_loop iterator low tested strict high step body)) ∙ behind (heads_symbols hs) _ (body_symbols body) _ (for_symbols iterator low tested strict high step body)
close_symbols (and_head hs (if_head c)) body = behind (heads_symbols hs) _ (body_symbols body) _ (then_symbols c body)
close_symbols (and_head hs (else_head c body)) other = close_symbols hs (g.bare (g.if_else c body other)) ∙ behind (heads_symbols hs) _ (body_symbols other) _ (else_symbols c body other)

pub close_one_symbols : {calls : Bool} (hs : Option (Heads calls)) (s : SimpleText calls false) → closing_symbols (close_one hs s) ≡ before_symbols hs ++ simple_symbols s
close_one_symbols None s = refl
close_one_symbols (Some hs) s = close_symbols hs (g.bare s)

settled_symbols : {calls : Bool} (k : Closing calls) → stmt_symbols (settled k) ≡ closing_symbols k
settled_symbols (closed s) = refl
settled_symbols (waiting hs c body) = opened_symbols hs (g.if_then c body)

abbrev pub ended_symbols : {calls : Bool} → Ended calls → List Symbol
ended_symbols (one_stmt s) = stmt_symbols s
ended_symbols (and_else s t) = simple_symbols s ++ simple_symbols t

pub and_ended_symbols : {calls : Bool} (ss : StmtsText calls) (e : Ended calls) (r : List Symbol) → stmts_symbols ss ++ (ended_symbols e ++ r) ≡ stmts_symbols (and_ended ss e) ++ r
and_ended_symbols ss (one_stmt s) r = sym (append_assoc (stmts_symbols ss) (stmt_symbols s) r)
and_ended_symbols ss (and_else s t) r = simp append_assoc

pub for_rule : (calls : Bool) (room : ℕ) → Rule count_open room 1 0 head_symbols (λ r. word (codes "for") ∷ mark (codes "(") ∷ r) (read_for calls room)
for_rule calls room =
    on_rule tt (word_test (codes "int64_t")) (λ k n. refl) λ _. on_rule [] any_word_test (λ k n. refl) λ iterator. on_rule tt (mark_test (codes "=")) (λ k n. refl) λ _. after_rule (ix_inside_rule calls room) λ low. on_rule tt (mark_test (codes ";")) (λ k n. refl) λ _.
    on_rule [] any_word_test (λ k n. refl) λ tested. on_rule true bound_test (λ k n. flat_bound k (n + 1)) λ strict. after_rule (ix_inside_rule calls room) λ high. on_rule tt (mark_test (codes ";")) (λ k n. refl) λ _.
    after_rule (step_rule 1) λ step. on_rule tt (mark_test (codes ")")) close_paren λ _. give_rule (for_head iterator low tested strict high step) (λ r. simp append_assoc)

pub if_rule : (calls : Bool) (room : ℕ) → Rule count_open room 1 0 head_symbols (λ r. word (codes "if") ∷ mark (codes "(") ∷ r) (read_if calls room)
if_rule calls room = after_rule (inside_rule (cond_rule calls true) room) λ c. on_rule tt (mark_test (codes ")")) close_paren λ _. give_rule (if_head c) (λ r. simp append_assoc)

pub head_rule : (calls : Bool) (room : ℕ) (is_for : Bool) → Rule count_open room 1 0 head_symbols (λ r. word (head_word is_for) ∷ mark (codes "(") ∷ r) (read_head calls room is_for)
head_rule calls room true = for_rule calls room
head_rule calls room false = if_rule calls room

pub stored_rule : (calls : Bool) (room : ℕ) (w : Name) (ds : DimsText calls) (op : Option Op) → Rule count_open room 0 0 simple_symbols (λ r. word w ∷ (dims_symbols ds ++ mark (assign_mark op) ∷ r)) (read_stored calls room w ds op)
stored_rule calls room w ds op = after_rule (value_rule calls room) λ v. on_rule tt (mark_test (codes ";")) (λ k n. refl) λ _. give_rule (g.assign w ds op v) (λ r. simp append_assoc)

pub assign_rule : (calls : Bool) (room : ℕ) (w : Name) → Rule count_open room 0 0 simple_symbols (λ r. word w ∷ r) (read_assign calls room w)
assign_rule calls room w = after_rule (dims_rule calls room) λ ds. on_rule None assign_test (λ k n. flat_assign k (n + 0)) λ op. stored_rule calls room w ds op

abbrev pub progress_symbols : {calls : Bool} → Turn (Heads calls) (Ended calls) → List Symbol
progress_symbols = turn_spelled heads_symbols ended_symbols

pub two_rule : (calls : Bool) (room : ℕ) (s : SimpleText calls true) (w : Name) (ds : DimsText calls) (op : Option Op)
    → Rule count_open room 0 0 progress_symbols (λ r. simple_symbols s ++ word w ∷ (dims_symbols ds ++ mark (assign_mark op) ∷ r)) (read_two s (read_stored calls room w ds op))
two_rule calls room s w ds op =
    nested_rule (λ r. simple_symbols s ++ r) (λ r. word w ∷ (dims_symbols ds ++ mark (assign_mark op) ∷ r)) (λ x y. ap (λ l. word w ∷ l) (append_assoc (dims_symbols ds) (mark (assign_mark op) ∷ x) y)) (stored_rule calls room w ds op) λ t.
    give_rule (done (and_else s t)) (λ r. sym (append_assoc (simple_symbols s) (simple_symbols t) r))

going_symbols : {calls : Bool} (hs : Option (Heads calls)) (c : CondText calls true) (body : BodyText calls false) (r : List Symbol)
    → simple_symbols (opened hs (g.if_then c body)) ++ word (codes "else") ∷ r ≡ heads_symbols (and_one hs (else_head c body)) ++ r
going_symbols hs c body r =
    ap (λ l. l ++ word (codes "else") ∷ r) (opened_symbols hs (g.if_then c body)) ∙ append_assoc (before_symbols hs) (simple_symbols (g.if_then c body)) (word (codes "else") ∷ r)
    ∙ ap (λ l. before_symbols hs ++ l) (same_head c body r) ∙ and_one_symbols hs (else_head c body) r
  where
    same_head : {calls : Bool} (c : CondText calls true) (body : BodyText calls false) (r : List Symbol) → simple_symbols (g.if_then c body) ++ word (codes "else") ∷ r ≡ head_symbols (else_head c body) ++ r
    same_head c body r = simp append_assoc

pub else_rule : (calls : Bool) (room : ℕ) (hs : Option (Heads calls)) (c : CondText calls true) (body : BodyText calls false)
    → Rule count_open room 0 0 progress_symbols (λ r. simple_symbols (opened hs (g.if_then c body)) ++ word (codes "else") ∷ r) (read_else calls room hs c body)
else_rule calls room hs c body =
    let s = opened hs (g.if_then c body) in
    either_rule (mark_test (codes "[")) open_square
    (λ _. nested_rule (λ r. simple_symbols s ++ word (codes "else") ∷ r) (λ r. mark (codes "[") ∷ r) (λ x y. refl) (dims_behind_rule calls room) λ ds.
    on_rule None assign_test (λ k n. flat_assign k (n + 0)) λ op. two_rule calls room s (codes "else") ds op)
    (either_rule assign_test (λ k n. flat_assign k (n + 0)) (λ op. two_rule calls room s (codes "else") g.no_dims op)
    (give_rule (going (and_one hs (else_head c body))) (going_symbols hs c body)))

pub closing_rule : (calls : Bool) (room : ℕ) (k : Closing calls) → Rule count_open room 0 0 progress_symbols (λ r. closing_symbols k ++ r) (read_closing calls room k)
closing_rule calls room (closed s) = give_rule (done (one_stmt (g.simple s))) (λ r. refl)
closing_rule calls room (waiting hs c body) =
    refront (λ r. ap (λ l. l ++ r) (settled_symbols (waiting hs c body)))
    (either_rule (word_test (codes "else")) (λ k n. refl) (λ _. else_rule calls room hs c body) (give_rule (done (one_stmt (settled (waiting hs c body)))) (λ r. refl)))

pub assigned_rule : (calls : Bool) (room : ℕ) (hs : Option (Heads calls)) (w : Name) → Rule count_open room 0 0 progress_symbols (λ r. before_symbols hs ++ word w ∷ r) (assigned_under calls room hs w)
assigned_rule calls room hs w =
    nested_rule (λ r. before_symbols hs ++ r) (λ r. word w ∷ r) (λ x y. refl) (assign_rule calls room w) λ s.
    refront (λ r. ap (λ l. l ++ r) (close_one_symbols hs s) ∙ append_assoc (before_symbols hs) (simple_symbols s) r) (closing_rule calls room (close_one hs s))

pub worded_rule : (calls : Bool) (room : ℕ) (hs : Option (Heads calls)) (w : Name) (o : Option Bool) → choose head_words w ≡ o → Rule count_open room 0 0 progress_symbols (λ r. before_symbols hs ++ word w ∷ r) (read_worded calls room hs w o)
worded_rule calls room hs w None e = assigned_rule calls room hs w
worded_rule calls room hs w (Some is_for) e =
    either_rule (mark_test (codes "(")) open_paren
    (λ _. nested_rule (λ r. before_symbols hs ++ r) (λ r. word w ∷ mark (codes "(") ∷ r) (λ x y. refl)
    (subst (λ v. Rule count_open room 1 0 head_symbols (λ r. word v ∷ mark (codes "(") ∷ r) (read_head calls room is_for)) (sym (head_is w is_for e)) (head_rule calls room is_for))
    (λ h. give_rule (going (and_one hs h)) (λ r. and_one_symbols hs h r)))
    (assigned_rule calls room hs w)

abbrev pub first_depth : First → ℕ
first_depth (a_word w) = 0
first_depth a_brace = 1

pub first_counts : (k : First) (n : ℕ) → count_open (n + 0) (first_symbol k) ≡ n + first_depth k
first_counts (a_word w) n = refl
first_counts a_brace n = open_brace tt n

-- statements and the "}" behind them
abbrev pub closed_symbols : {calls : Bool} → StmtsText calls → List Symbol
closed_symbols ss = stmts_symbols ss ++ mark (codes "}") ∷ []

module _ (calls : Bool) (room : ℕ) {body : Reader Symbol (StmtsText calls)} {block : Reader Symbol (StmtText calls)} (body_rule : Rule count_open room 1 0 closed_symbols (λ r. r) body) (block_rule : Rule count_open room 1 0 stmt_symbols (λ r. mark (codes "{") ∷ r) block) where
  pub under_body_rule : (k : First) (hs : Heads calls) → Rule count_open room (first_depth k) 0 progress_symbols (λ r. heads_symbols hs ++ first_symbol k ∷ r) (read_body calls room body k hs)
  under_body_rule (a_word w) hs = worded_rule calls room (Some hs) w (choose head_words w) refl
  under_body_rule a_brace hs =
      after_rule body_rule λ ss.
      refront (λ r. ap (λ l. l ++ r) (close_symbols hs (g.braces ss)) ∙ append_assoc (heads_symbols hs) (mark (codes "{") ∷ closed_symbols ss) r) (closing_rule calls room (close hs (g.braces ss)))

  can_end : (hs : Heads calls) → (e : Ended calls) × (tail : List Symbol) × (ended_symbols e ≡ heads_symbols hs ++ tail)
  can_end hs = let k = close hs (g.braces g.no_stmts) in (one_stmt (settled k), mark (codes "{") ∷ mark (codes "}") ∷ [], settled_symbols k ∙ close_symbols hs (g.braces g.no_stmts))

  pub under_rule : (s : Turn (Heads calls) (Ended calls)) → Rule count_open room 0 0 ended_symbols (λ r. progress_symbols s ++ r) (read_under calls room body s)
  under_rule (going hs) = until_rule first_test first_counts under_body_rule can_end hs
  under_rule (done e) = give_rule e (λ r. refl)

  pub simple_rule : (w : Name) → Rule count_open room 0 0 ended_symbols (λ r. word w ∷ r) (read_simple calls room body w)
  simple_rule w = then_rule (λ x y. refl) (worded_rule calls room None w (choose head_words w) refl) under_rule

  pub stmt_rule : (k : First) → Rule count_open room (first_depth k) 0 ended_symbols (λ r. first_symbol k ∷ r) (read_stmt calls room body block k)
  stmt_rule (a_word w) = simple_rule w
  stmt_rule a_brace = then_rule (λ x y. refl) block_rule λ s. give_rule (one_stmt s) (λ r. refl)

  pub stmt_more_rule : (k : First) (ss : StmtsText calls) → Rule count_open room (first_depth k) 0 stmts_symbols (λ r. stmts_symbols ss ++ first_symbol k ∷ r) (stmt_more calls room body block k ss)
  stmt_more_rule k ss = nested_rule (λ r. stmts_symbols ss ++ r) (λ r. first_symbol k ∷ r) (λ x y. refl) (stmt_rule k) λ e. give_rule (and_ended ss e) (and_ended_symbols ss e)

  pub stmts_rule : Whole room 0 stmts_symbols (all first_of (stmt_more calls room body block) g.no_stmts)
  stmts_rule = all_rule first_test first_counts stmt_more_rule g.no_stmts

abbrev pub block_symbols : {calls : Bool} → Block calls → List Symbol
block_symbols b = locals_symbols b.locals ++ stmts_symbols b.stmts

pub local_rule : (room : ℕ) (ls : LocalsText true) → Rule count_open room 0 0 block_symbols (λ r. (locals_symbols ls ++ []) ++ word (codes "const") ∷ word (codes "int64_t") ∷ r) (local_behind room ls)
local_rule room ls =
    on_rule [] any_word_test (λ k n. refl) λ w. on_rule tt (mark_test (codes "=")) (λ k n. refl) λ _. after_rule (ix_rule true room) λ a. on_rule tt (mark_test (codes ";")) (λ k n. refl) λ _.
    give_rule (record { locals = g.and_local refl ls w a; stmts = g.no_stmts }) (λ r. simp (append_assoc, append-nil))

module _ (calls : Bool) (room : ℕ) {body : Reader Symbol (StmtsText calls)} {block : Reader Symbol (StmtText calls)} (body_rule : Rule count_open room 1 0 closed_symbols (λ r. r) body) (block_rule : Rule count_open room 1 0 stmt_symbols (λ r. mark (codes "{") ∷ r) block) where
  pub block_stmt_rule : (ls : LocalsText calls) (ss : StmtsText calls) (k : First) → Rule count_open room (first_depth k) 0 block_symbols (λ r. (locals_symbols ls ++ stmts_symbols ss) ++ first_symbol k ∷ r) (block_stmt calls room body block ls ss k)
  block_stmt_rule ls ss k = nested_rule (λ r. (locals_symbols ls ++ stmts_symbols ss) ++ r) (λ r. first_symbol k ∷ r) (λ x y. refl) (stmt_rule calls room body_rule block_rule k) λ e.
      give_rule (record { locals = ls; stmts = and_ended ss e }) (λ r. append_assoc (locals_symbols ls) (stmts_symbols ss) (ended_symbols e ++ r) ∙ ap (λ l. locals_symbols ls ++ l) (and_ended_symbols ss e r) ∙ sym (append_assoc (locals_symbols ls) (stmts_symbols (and_ended ss e)) r))

pub block_word_rule : (calls : Bool) (room : ℕ) {body : Reader Symbol (StmtsText calls)} {block : Reader Symbol (StmtText calls)} → Rule count_open room 1 0 closed_symbols (λ r. r) body → Rule count_open room 1 0 stmt_symbols (λ r. mark (codes "{") ∷ r) block
    → (ls : LocalsText calls) (ss : StmtsText calls) (w : Name) (b : Bool) → same w (codes "const") ≡ b → Rule count_open room 0 0 block_symbols (λ r. (locals_symbols ls ++ stmts_symbols ss) ++ word w ∷ r) (block_word calls room body block ls ss w b)
block_word_rule true room {body} {block} body_rule block_rule ls g.no_stmts w true e =
    either_rule (word_test (codes "int64_t")) (λ k n. refl)
    (λ _. subst (λ v. Rule count_open room 0 0 block_symbols (λ r. (locals_symbols ls ++ []) ++ word v ∷ word (codes "int64_t") ∷ r) (local_behind room ls)) (sym (same_bytes w (codes "const") e)) (local_rule room ls))
    (block_stmt_rule true room body_rule block_rule ls g.no_stmts (a_word w))
block_word_rule true room body_rule block_rule ls g.no_stmts w false e = block_stmt_rule true room body_rule block_rule ls g.no_stmts (a_word w)
block_word_rule true room body_rule block_rule ls (g.and_stmt ss s) w b e = block_stmt_rule true room body_rule block_rule ls (g.and_stmt ss s) (a_word w)
block_word_rule false room body_rule block_rule ls ss w b e = block_stmt_rule false room body_rule block_rule ls ss (a_word w)

pub block_more_rule : (calls : Bool) (room : ℕ) {body : Reader Symbol (StmtsText calls)} {block : Reader Symbol (StmtText calls)} → Rule count_open room 1 0 closed_symbols (λ r. r) body → Rule count_open room 1 0 stmt_symbols (λ r. mark (codes "{") ∷ r) block
    → (k : First) (b : Block calls) → Rule count_open room (first_depth k) 0 block_symbols (λ r. block_symbols b ++ first_symbol k ∷ r) (block_more calls room body block k b)
block_more_rule calls room body_rule block_rule (a_word w) b = block_word_rule calls room body_rule block_rule b.locals b.stmts w (same w (codes "const")) refl
block_more_rule calls room body_rule block_rule a_brace b = block_stmt_rule calls room body_rule block_rule b.locals b.stmts a_brace

mutual
  unfolding stmts_inside

  pub stmts_inside_rule : (calls : Bool) (room : ℕ) → Rule count_open room 1 0 closed_symbols (λ r. r) (stmts_inside calls room)
  stmts_inside_rule calls zero = deep_rule (g.no_stmts, mark (codes "}") ∷ [], refl)
  stmts_inside_rule calls (suc room) =
      after_rule (raise (stmts_rule calls room (stmts_inside_rule calls room) (block_inside_rule calls room))) λ ss. on_rule tt (mark_test (codes "}")) close_brace λ _. give_rule ss (λ r. sym (append_assoc (stmts_symbols ss) (mark (codes "}") ∷ []) r))

  pub block_inside_rule : (calls : Bool) (room : ℕ) → Rule count_open room 1 0 stmt_symbols (λ r. mark (codes "{") ∷ r) (block_inside calls room)
  block_inside_rule calls zero = deep_rule (g.block g.no_locals g.no_stmts, mark (codes "}") ∷ [], refl)
  block_inside_rule calls (suc room) =
      after_rule (raise (all_rule first_test first_counts (block_more_rule calls room (stmts_inside_rule calls room) (block_inside_rule calls room)) (record { locals = g.no_locals; stmts = g.no_stmts }))) λ b. on_rule tt (mark_test (codes "}")) close_brace λ _. give_rule (g.block b.locals b.stmts) (λ r. simp append_assoc)

-- ---- The function

pub array_rule : (calls : Bool) (room : ℕ) (is_const : Bool) → Rule count_open room 0 0 param_symbols (λ r. const_symbols is_const ++ word (codes "uint64_t") ∷ r) (read_array calls room is_const)
array_rule calls room is_const =
    on_rule [] any_word_test (λ k n. refl) λ w. on_rule tt (mark_test (codes "[")) open_square λ _. after_rule (ix_inside_rule calls room) λ a. on_rule tt (mark_test (codes "]")) close_square λ _. after_rule (dims_rule calls room) λ ds.
    give_rule (g.array_param is_const w a ds) (λ r. simp append_assoc)

pub param_rule : (calls : Bool) (room : ℕ) → Whole room 0 param_symbols (read_param calls room)
param_rule calls room =
    either_rule (word_test (codes "int64_t")) (λ k n. refl) (λ _. on_rule [] any_word_test (λ k n. refl) λ w. give_rule (g.number_param w) (λ r. refl))
    (either_rule (word_test (codes "const")) (λ k n. refl) (λ _. on_rule tt (word_test (codes "uint64_t")) (λ k n. refl) λ _. array_rule calls room true)
    (on_rule tt (word_test (codes "uint64_t")) (λ k n. refl) λ _. array_rule calls room false))

pub param_more_rule : (calls : Bool) (room : ℕ) (k : Unit {0}) (ps : ParamsText calls) → Rule count_open room 0 0 params_symbols (λ r. params_symbols ps ++ mark (codes ",") ∷ r) (param_more calls room k ps)
param_more_rule calls room k ps = after_rule (param_rule calls room) λ a. give_rule (g.and_param ps a) (λ r. simp append_assoc)

pub params_rule : (calls : Bool) (room : ℕ) → Whole room 0 params_symbols (read_params calls room)
params_rule calls room = after_rule (param_rule calls room) λ a. all_rule (mark_test (codes ",")) (λ k n. refl) (param_more_rule calls room) (g.param a)

pub name_more_rule : (calls : Bool) (room : ℕ) (k : Unit {0}) (ns : NamesText calls) → Rule count_open room 0 0 names_symbols (λ r. names_symbols ns ++ mark (codes ",") ∷ r) (name_more calls room k ns)
name_more_rule calls room k ns = on_rule [] any_word_test (λ k n. refl) λ w. after_rule (dims_rule calls room) λ ds. give_rule (g.and_array ns w ds) (λ r. simp append_assoc)

pub names_rule : (calls : Bool) (room : ℕ) (w : Name) → Rule count_open room 0 0 names_symbols (λ r. word w ∷ r) (read_names calls room w)
names_rule calls room w = after_rule (dims_rule calls room) λ ds. all_rule (mark_test (codes ",")) (λ k n. refl) (name_more_rule calls room) (g.one_array w ds)

abbrev pub inside_symbols : {calls : Bool} → Inside calls → List Symbol
inside_symbols i = decls_symbols i.decls ++ stmts_symbols i.stmts

module _ (calls : Bool) (room : ℕ) where
  pub decl_rule : (ds : DeclsText calls) (w : Name) → Rule count_open room 0 0 inside_symbols (λ r. (decls_symbols ds ++ []) ++ word (codes "uint64_t") ∷ word w ∷ r) (decl_behind calls room ds w)
  decl_rule ds w =
      nested_rule (λ r. (decls_symbols ds ++ []) ++ word (codes "uint64_t") ∷ r) (λ r. word w ∷ r) (λ x y. refl) (names_rule calls room w) λ ns. on_rule tt (mark_test (codes ";")) (λ k n. refl) λ _.
      give_rule (record { decls = g.and_decl ds ns; stmts = g.no_stmts }) (λ r. simp (append_assoc, append-nil))

  pub inside_stmt_rule : (ds : DeclsText calls) (ss : StmtsText calls) (k : First) → Rule count_open room (first_depth k) 0 inside_symbols (λ r. (decls_symbols ds ++ stmts_symbols ss) ++ first_symbol k ∷ r) (inside_stmt calls room ds ss k)
  inside_stmt_rule ds ss k = nested_rule (λ r. (decls_symbols ds ++ stmts_symbols ss) ++ r) (λ r. first_symbol k ∷ r) (λ x y. refl) (stmt_rule calls room (stmts_inside_rule calls room) (block_inside_rule calls room) k) λ e.
      give_rule (record { decls = ds; stmts = and_ended ss e }) (λ r. append_assoc (decls_symbols ds) (stmts_symbols ss) (ended_symbols e ++ r) ∙ ap (λ l. decls_symbols ds ++ l) (and_ended_symbols ss e r) ∙ sym (append_assoc (decls_symbols ds) (stmts_symbols (and_ended ss e)) r))

  pub inside_word_rule : (ds : DeclsText calls) (ss : StmtsText calls) (w : Name) (b : Bool) → same w (codes "uint64_t") ≡ b → Rule count_open room 0 0 inside_symbols (λ r. (decls_symbols ds ++ stmts_symbols ss) ++ word w ∷ r) (inside_word calls room ds ss w b)
  inside_word_rule ds g.no_stmts w true e =
      either_rule any_word_test (λ k n. refl)
      (λ u. subst (λ v. Rule count_open room 0 0 inside_symbols (λ r. (decls_symbols ds ++ []) ++ word v ∷ word u ∷ r) (decl_behind calls room ds u)) (sym (same_bytes w (codes "uint64_t") e)) (decl_rule ds u))
      (inside_stmt_rule ds g.no_stmts (a_word w))
  inside_word_rule ds g.no_stmts w false e = inside_stmt_rule ds g.no_stmts (a_word w)
  inside_word_rule ds (g.and_stmt ss s) w b e = inside_stmt_rule ds (g.and_stmt ss s) (a_word w)

  pub inside_more_rule : (k : First) (i : Inside calls) → Rule count_open room (first_depth k) 0 inside_symbols (λ r. inside_symbols i ++ first_symbol k ∷ r) (inside_more calls room k i)
  inside_more_rule (a_word w) i = inside_word_rule i.decls i.stmts w (same w (codes "uint64_t")) refl
  inside_more_rule a_brace i = inside_stmt_rule i.decls i.stmts a_brace

  pub read_inside_rule : Whole room 0 inside_symbols (read_inside calls room)
  read_inside_rule = all_rule first_test first_counts inside_more_rule (record { decls = g.no_decls; stmts = g.no_stmts })

pub function_rule : (calls : Bool) (room : ℕ) → Whole room 0 function_symbols (read_function calls room)
function_rule calls room =
    on_rule tt (word_test (codes "void")) (λ k n. refl) λ _. on_rule [] any_word_test (λ k n. refl) λ w. on_rule tt (mark_test (codes "(")) open_paren λ _. after_rule (inside_rule (params_rule calls) room) λ ps. on_rule tt (mark_test (codes ")")) close_paren λ _.
    on_rule tt (mark_test (codes "{")) open_brace λ _. after_rule (inside_rule (read_inside_rule calls) room) λ i. on_rule tt (mark_test (codes "}")) close_brace λ _.
    give_rule (record { name = w; params = ps; decls = i.decls; stmts = i.stmts }) (λ r. simp append_assoc)

-- ---- The text

pub int_rule : {room : ℕ} → Whole room 0 int_symbols read_int
int_rule =
    either_rule (mark_test (codes "-")) (λ k n. refl) (λ _. on_rule [] any_number_test (λ k n. refl) λ digits. give_rule (record { negative = true; digits = digits }) (λ r. refl))
    (on_rule [] any_number_test (λ k n. refl) λ digits. give_rule (record { negative = false; digits = digits }) (λ r. refl))

line_symbol : (line : LineText) → line_symbols line ≡ record { kind = LineEnd; bytes = line_bytes line } ∷ []
line_symbol line_feed = refl
line_symbol text_end = refl

pub pragma_rule : (room : ℕ) (k : Unit {0}) (ps : PragmasText) → Rule count_open room 0 0 pragmas_symbols (λ r. pragmas_symbols ps ++ record { kind = Hash; bytes = codes "#" } ∷ r) (pragma_more room k ps)
pragma_rule room k ps =
    on_rule tt (word_test (codes "pragma")) (λ k n. refl) λ _. on_rule tt (word_test (codes "affc")) (λ k n. refl) λ _.
    either_rule (word_test (codes "param")) (λ k n. refl)
    (λ _. on_rule [] any_word_test (λ k n. refl) λ w. after_rule int_rule λ low. after_rule int_rule λ high. on_rule line_feed line_test (λ k n. refl) λ line. give_rule (g.and_range ps w low high line) (λ r. rw line_symbol (simp append_assoc)))
    (on_rule tt (word_test (codes "context")) (λ k n. refl) λ _. after_rule (cond_rule true false room) λ c. on_rule line_feed line_test (λ k n. refl) λ line. give_rule (g.and_context ps c line) (λ r. rw line_symbol (simp append_assoc)))

-- the text up to the lines before the prelude
abbrev pub begun : LineText → PragmasText → List Symbol → List Symbol
begun line ps r = record { kind = Hash; bytes = codes "#" } ∷ word (codes "include") ∷ record { kind = Header; bytes = codes "<stdint.h>" } ∷ record { kind = LineEnd; bytes = line_bytes line } ∷ (pragmas_symbols ps ++ r)

pub text_is : (line : LineText) (ps : PragmasText) (b : Bool) (h : IsTrue (b || not (context_calls ps))) (f : FunctionText b) → begun line ps (prelude_symbols b ++ (function_symbols f ++ [])) ≡ text_symbols (record { line = line; pragmas = ps; has_prelude = b; calls_allowed = h; function = f })
text_is line_feed ps b h f = rw append-nil
text_is text_end ps b h f = rw append-nil

pub with_prelude_rule : (room : ℕ) (line : LineText) (ps : PragmasText) → Rule count_open room 0 0 text_symbols (λ r. begun line ps (record { kind = Prelude; bytes = prelude } ∷ r)) (after (read_function true room) λ f. finished (record { line = line; pragmas = ps; has_prelude = true; calls_allowed = refl; function = f }))
with_prelude_rule room line ps = after_rule (function_rule true room) λ f. finished_rule (record { line = line; pragmas = ps; has_prelude = true; calls_allowed = refl; function = f }) (text_is line ps true refl f)

pub without_rule : (room : ℕ) (line : LineText) (ps : PragmasText) (o : Option (IsTrue (not (context_calls ps)))) → Rule count_open room 0 0 text_symbols (begun line ps) (read_without room line ps o)
without_rule room line ps None = fail_rule (let c = (with_prelude_rule room line ps).can in (c.0, record { kind = Prelude; bytes = prelude } ∷ c.1, c.2))
without_rule room line ps (Some h) = after_rule (function_rule false room) λ f. finished_rule (record { line = line; pragmas = ps; has_prelude = false; calls_allowed = h; function = f }) (text_is line ps false h f)

pub text_rule : (room : ℕ) → Whole room 0 text_symbols (read_text room)
unfolding read_text
text_rule room =
    on_rule tt hash_test (λ k n. refl) λ _. on_rule tt (word_test (codes "include")) (λ k n. refl) λ _. on_rule tt header_test (λ k n. refl) λ _. on_rule line_feed line_test (λ k n. refl) λ line.
    after_rule (all_rule hash_test (λ k n. refl) (pragma_rule room) g.no_pragmas) λ ps.
    either_rule prelude_test (λ k n. refl) (λ _. with_prelude_rule room line ps) (without_rule room line ps (holding (not (context_calls ps))))
