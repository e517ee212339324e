-- The tests of one token: what passes is spelled so.
use Rattle.std.proofs.Common.{◌≡◌, ℕ, suc, Bool, true, false, ◌||◌, ◌==◌, List, [], ◌∷◌, Option, Some, None, refl, sym, ap, ◌∙◌, codes, IsTrue, cond}
use mathlib.Core.Bool.{Bool-set}
use Rattle.std.proofs.lemmas.Bool.{eqb-true, eq-eqb, and_parts, and_from}
use Rattle.affc_lex.specs.declared.token.Kind.{Kind}
use Rattle.affc_lex.specs.declared.token.Kind.TheVariants.{Word, Number, Value, Header, Hash, LineEnd, Prelude, Mark}
use Rattle.affc_lex.specs.Bytes.{same}
use Rattle.affc_lex.specs.Lexes.{is_hash, is_line_end}
use Rattle.affc_lex.specs.Pieces.{prelude}
use Rattle.affc_ast.specs.declared.tree.Op.{Op}
use Rattle.affc_ast.specs.declared.tree.Op.TheVariants.{Add, Sub, Mul, And, Or, Xor}
use Rattle.affc_ast.specs.declared.tree.Rel.{Rel}
use Rattle.affc_ast.specs.declared.tree.Rel.TheVariants.{Less, LessEqual, Greater, GreaterEqual, Equal, NotEqual}
use Rattle.affc_ast.specs.Joined.{is_ordered}
use Rattle.affc_grammar.specs.Grammar.{Symbol, Name, LineText, line_feed, text_end, minimum, maximum, remainder, down, up, word, number, mark, is_word_kind, is_mark_kind, is_divisor, is_shift, op_mark, rel_mark, shift_mark, bound_mark, zero_mark, assign_mark, level_of}
use Rattle.affc_grammar.specs.Reading.{choose, the_bytes, of_kind, this_mark, this_word, any_word, any_number, any_value, is_number_kind, is_value_kind, is_header_kind, is_prelude_kind, hash, header, the_prelude, line_end, holding, with_proof, divisor, shift_number, Callee, of_choice, of_rounding, callee_name, callees, sum_sign, rels, at_width, rel_of, zero_sign, zero_number, ops, at_level, op_of, shift_sign, one, bound_of, assign_of, head_words, First, a_word, a_brace, first_of, brace_or_none, word_or}
use Rattle.affc_grammar.proofs.Rule.{IsTest}

pub same_bytes : (xs ys : List ℕ) → same xs ys ≡ true → xs ≡ ys
same_bytes [] [] e = refl
same_bytes [] (y ∷ ys) e = absurd (cc)
same_bytes (x ∷ xs) [] e = absurd (cc)
same_bytes (x ∷ xs) (y ∷ ys) e =
    let parts = and_parts (x == y) (same xs ys) e in
    let heads : x ≡ y = eqb-true x y parts.0 in
    let tails : xs ≡ ys = same_bytes xs ys parts.1 in
    (λ i. heads i ∷ tails i)

pub bytes_same : (xs : List ℕ) → same xs xs ≡ true
bytes_same [] = refl
bytes_same (x ∷ xs) = and_from (x == x) (same xs xs) (eq-eqb x x refl) (bytes_same xs)

-- each row of a table has the bytes that are spelled
abbrev pub Spells : {K : Type 0} → (K → List ℕ) → List (List ℕ × K) → Type 0
Spells spelled [] = Unit {0}
Spells spelled (row ∷ rows) = (row.0 ≡ spelled row.1) × Spells spelled rows

pub chosen_bytes : {K : Type 0} (spelled : K → List ℕ) (rows : List (List ℕ × K)) → Spells spelled rows → (bytes : List ℕ) (k : K) → choose rows bytes ≡ Some k → bytes ≡ spelled k
chosen_bytes spelled [] valid bytes k e = absurd (cc)
chosen_bytes {K} spelled (row ∷ rows) valid bytes k e = at (chosen_bytes spelled rows valid.1 bytes k) (same row.0 bytes) refl e
  where
    at : (choose rows bytes ≡ Some k → bytes ≡ spelled k) → (b : Bool) → same row.0 bytes ≡ b → cond b (Some row.1) (choose rows bytes) ≡ Some k → bytes ≡ spelled k
    at others true q h =
        let it : row.1 ≡ k = cc in
        sym (same_bytes row.0 bytes q) ∙ valid.0 ∙ ap spelled it
    at others false q h = others h

module _ {K : Type 0} (is_kind : Kind → Bool) (f : List ℕ → Option K) where
  of_kind_parts : (s : Symbol) (k : K) → of_kind is_kind f s ≡ Some k → (is_kind s.kind ≡ true) × (f s.bytes ≡ Some k)
  of_kind_parts s k e = at (is_kind s.kind) refl e
    where
      at : (b : Bool) → is_kind s.kind ≡ b → cond b (f s.bytes) None ≡ Some k → (is_kind s.kind ≡ true) × (f s.bytes ≡ Some k)
      at true q h = (q, h)
      at false q h = absurd (cc)

pub kind_test : {K : Type 0} (is_kind : Kind → Bool) (kind : Kind) (f : List ℕ → Option K) (spelled : K → List ℕ) → ((other : Kind) → is_kind other ≡ true → other ≡ kind) → is_kind kind ≡ true → ((bytes : List ℕ) (k : K) → f bytes ≡ Some k → bytes ≡ spelled k) → ((k : K) → f (spelled k) ≡ Some k)
    → IsTest (of_kind is_kind f) (λ k. record { kind = kind; bytes = spelled k })
kind_test is_kind kind f spelled unique its only passes = record {
  only = λ s k e.
      let parts = of_kind_parts is_kind f s k e in
      let kinds = unique s.kind parts.0 in
      let texts = only s.bytes k parts.1 in
      (λ i. record { kind = kinds i; bytes = texts i });
  passes = λ k. rw its (passes k);
}

word_kind : (kind : Kind) → is_word_kind kind ≡ true → kind ≡ Word
word_kind Word e = refl
word_kind Number e = absurd (cc)
word_kind Value e = absurd (cc)
word_kind Header e = absurd (cc)
word_kind Hash e = absurd (cc)
word_kind LineEnd e = absurd (cc)
word_kind Prelude e = absurd (cc)
word_kind Mark e = absurd (cc)

mark_kind : (kind : Kind) → is_mark_kind kind ≡ true → kind ≡ Mark
mark_kind Mark e = refl
mark_kind Word e = absurd (cc)
mark_kind Number e = absurd (cc)
mark_kind Value e = absurd (cc)
mark_kind Header e = absurd (cc)
mark_kind Hash e = absurd (cc)
mark_kind LineEnd e = absurd (cc)
mark_kind Prelude e = absurd (cc)

number_kind : (kind : Kind) → is_number_kind kind ≡ true → kind ≡ Number
number_kind Number e = refl
number_kind Word e = absurd (cc)
number_kind Value e = absurd (cc)
number_kind Header e = absurd (cc)
number_kind Hash e = absurd (cc)
number_kind LineEnd e = absurd (cc)
number_kind Prelude e = absurd (cc)
number_kind Mark e = absurd (cc)

value_kind : (kind : Kind) → is_value_kind kind ≡ true → kind ≡ Value
value_kind Value e = refl
value_kind Word e = absurd (cc)
value_kind Number e = absurd (cc)
value_kind Header e = absurd (cc)
value_kind Hash e = absurd (cc)
value_kind LineEnd e = absurd (cc)
value_kind Prelude e = absurd (cc)
value_kind Mark e = absurd (cc)

hash_kind : (kind : Kind) → is_hash kind ≡ true → kind ≡ Hash
hash_kind Hash e = refl
hash_kind Word e = absurd (cc)
hash_kind Number e = absurd (cc)
hash_kind Value e = absurd (cc)
hash_kind Header e = absurd (cc)
hash_kind LineEnd e = absurd (cc)
hash_kind Prelude e = absurd (cc)
hash_kind Mark e = absurd (cc)

header_kind : (kind : Kind) → is_header_kind kind ≡ true → kind ≡ Header
header_kind Header e = refl
header_kind Word e = absurd (cc)
header_kind Number e = absurd (cc)
header_kind Value e = absurd (cc)
header_kind Hash e = absurd (cc)
header_kind LineEnd e = absurd (cc)
header_kind Prelude e = absurd (cc)
header_kind Mark e = absurd (cc)

line_kind : (kind : Kind) → is_line_end kind ≡ true → kind ≡ LineEnd
line_kind LineEnd e = refl
line_kind Word e = absurd (cc)
line_kind Number e = absurd (cc)
line_kind Value e = absurd (cc)
line_kind Header e = absurd (cc)
line_kind Hash e = absurd (cc)
line_kind Prelude e = absurd (cc)
line_kind Mark e = absurd (cc)

prelude_kind : (kind : Kind) → is_prelude_kind kind ≡ true → kind ≡ Prelude
prelude_kind Prelude e = refl
prelude_kind Word e = absurd (cc)
prelude_kind Number e = absurd (cc)
prelude_kind Value e = absurd (cc)
prelude_kind Header e = absurd (cc)
prelude_kind Hash e = absurd (cc)
prelude_kind LineEnd e = absurd (cc)
prelude_kind Mark e = absurd (cc)

-- ---- Tables

mark_table : {K : Type 0} (rows : List (List ℕ × K)) (spelled : K → List ℕ) → Spells spelled rows → ((k : K) → choose rows (spelled k) ≡ Some k) → IsTest (of_kind is_mark_kind (choose rows)) (λ k. mark (spelled k))
mark_table rows spelled valid passes = kind_test is_mark_kind Mark (choose rows) spelled mark_kind refl (chosen_bytes spelled rows valid) passes

the_bytes_pass : (bytes : List ℕ) → the_bytes bytes bytes ≡ Some tt
the_bytes_pass bytes = rw (bytes_same bytes)

pub mark_test : (bytes : List ℕ) → IsTest (this_mark bytes) (λ _. mark bytes)
mark_test bytes = mark_table ((bytes, tt) ∷ []) (λ _. bytes) (refl, tt) (λ _. the_bytes_pass bytes)

pub word_test : (w : Name) → IsTest (this_word w) (λ _. word w)
word_test w = kind_test is_word_kind Word (the_bytes w) (λ _. w) word_kind refl (chosen_bytes (λ _. w) ((w, tt) ∷ []) (refl, tt)) (λ _. the_bytes_pass w)

some_same : (bytes k : List ℕ) → ◌≡◌ {A = Option (List ℕ)} (Some bytes) (Some k) → bytes ≡ k
some_same bytes k e = cc

pub any_word_test : IsTest any_word word
any_word_test = kind_test is_word_kind Word Some (λ w. w) word_kind refl some_same (λ w. refl)

pub any_number_test : IsTest any_number number
any_number_test = kind_test is_number_kind Number Some (λ w. w) number_kind refl some_same (λ w. refl)

pub any_value_test : IsTest any_value (λ bytes. record { kind = Value; bytes = bytes })
any_value_test = kind_test is_value_kind Value Some (λ w. w) value_kind refl some_same (λ w. refl)

pub hash_test : IsTest hash (λ _. record { kind = Hash; bytes = codes "#" })
hash_test = kind_test is_hash Hash (the_bytes (codes "#")) (λ _. codes "#") hash_kind refl (chosen_bytes (λ _. codes "#") ((codes "#", tt) ∷ []) (refl, tt)) (λ _. refl)

pub header_test : IsTest header (λ _. record { kind = Header; bytes = codes "<stdint.h>" })
header_test = kind_test is_header_kind Header (the_bytes (codes "<stdint.h>")) (λ _. codes "<stdint.h>") header_kind refl (chosen_bytes (λ _. codes "<stdint.h>") ((codes "<stdint.h>", tt) ∷ []) (refl, tt)) (λ _. refl)

pub prelude_test : IsTest the_prelude (λ _. record { kind = Prelude; bytes = prelude })
prelude_test = kind_test is_prelude_kind Prelude (the_bytes prelude) (λ _. prelude) prelude_kind refl (chosen_bytes (λ _. prelude) ((prelude, tt) ∷ []) (refl, tt)) (λ _. the_bytes_pass prelude)

abbrev pub line_bytes : LineText → List ℕ
line_bytes line_feed = codes "\n"
line_bytes text_end = []

pub line_test : IsTest line_end (λ line. record { kind = LineEnd; bytes = line_bytes line })
line_test = kind_test is_line_end LineEnd (choose ((codes "\n", line_feed) ∷ ([], text_end) ∷ [])) line_bytes line_kind refl (chosen_bytes line_bytes ((codes "\n", line_feed) ∷ ([], text_end) ∷ []) (refl, (refl, tt))) (elim [ line_feed ↦ refl | text_end ↦ refl ])

abbrev pub sign_mark : Bool → List ℕ
sign_mark true = codes "+"
sign_mark false = codes "-"

pub sum_test : IsTest sum_sign (λ b. mark (sign_mark b))
sum_test = mark_table ((codes "+", true) ∷ (codes "-", false) ∷ []) sign_mark (refl, (refl, tt)) (elim [ true ↦ refl | false ↦ refl ])

pub shift_test : IsTest shift_sign (λ b. mark (shift_mark b))
shift_test = mark_table ((codes "<<", true) ∷ (codes ">>", false) ∷ []) shift_mark (refl, (refl, tt)) (elim [ true ↦ refl | false ↦ refl ])

pub bound_test : IsTest bound_of (λ b. mark (bound_mark b))
bound_test = mark_table ((codes "<", true) ∷ (codes "<=", false) ∷ []) bound_mark (refl, (refl, tt)) (elim [ true ↦ refl | false ↦ refl ])

pub zero_test : IsTest zero_sign (λ b. mark (zero_mark b))
zero_test = mark_table ((codes "==", true) ∷ (codes "!=", false) ∷ []) zero_mark (refl, (refl, tt)) (elim [ true ↦ refl | false ↦ refl ])

assign_passes : (op : Option Op) → choose ((codes "=", None) ∷ (codes "+=", Some Add) ∷ (codes "-=", Some Sub) ∷ (codes "*=", Some Mul) ∷ (codes "&=", Some And) ∷ (codes "|=", Some Or) ∷ (codes "^=", Some Xor) ∷ []) (assign_mark op) ≡ Some op
assign_passes None = refl
assign_passes (Some Add) = refl
assign_passes (Some Sub) = refl
assign_passes (Some Mul) = refl
assign_passes (Some And) = refl
assign_passes (Some Or) = refl
assign_passes (Some Xor) = refl

pub assign_test : IsTest assign_of (λ op. mark (assign_mark op))
assign_test =
    mark_table ((codes "=", None) ∷ (codes "+=", Some Add) ∷ (codes "-=", Some Sub) ∷ (codes "*=", Some Mul) ∷ (codes "&=", Some And) ∷ (codes "|=", Some Or) ∷ (codes "^=", Some Xor) ∷ []) assign_mark (refl, (refl, (refl, (refl, (refl, (refl, (refl, tt)))))))
    assign_passes

pub one_test : IsTest one (λ _. number (codes "1"))
one_test = kind_test is_number_kind Number (the_bytes (codes "1")) (λ _. codes "1") number_kind refl (chosen_bytes (λ _. codes "1") ((codes "1", tt) ∷ []) (refl, tt)) (λ _. refl)

pub zero_number_test : IsTest zero_number (λ _. number (codes "0"))
zero_number_test = kind_test is_number_kind Number (the_bytes (codes "0")) (λ _. codes "0") number_kind refl (chosen_bytes (λ _. codes "0") ((codes "0", tt) ∷ []) (refl, tt)) (λ _. refl)

-- ---- With a proof

pub holding_is : (b : Bool) (h : IsTrue b) → holding b ≡ Some h
holding_is true h = ap Some (Bool-set true true refl h)
holding_is false h = absurd (cc)

module _ {P : List ℕ → Bool} (digits : List ℕ) where
  proved_only : (o : Option (IsTrue (P digits))) (k : (by : List ℕ) × IsTrue (P by)) → with_proof digits o ≡ Some k → digits ≡ k.0
  proved_only None k e = absurd (cc)
  proved_only (Some h) k e =
      let it : ◌≡◌ {A = (by : List ℕ) × IsTrue (P by)} (digits, h) k = cc in
      ap (λ p. p.0) it

pub divisor_test : IsTest divisor (λ by. number by.0)
divisor_test =
    kind_test is_number_kind Number (λ bytes. with_proof bytes (holding (is_divisor bytes))) (λ by. by.0) number_kind refl
    (λ bytes k e. proved_only {P = is_divisor} bytes (holding (is_divisor bytes)) k e)
    (λ k. ap (λ o. with_proof k.0 o) (holding_is (is_divisor k.0) k.1))

pub shift_number_test : IsTest shift_number (λ by. number by.0)
shift_number_test =
    kind_test is_number_kind Number (λ bytes. with_proof bytes (holding (is_shift bytes))) (λ by. by.0) number_kind refl
    (λ bytes k e. proved_only {P = is_shift} bytes (holding (is_shift bytes)) k e)
    (λ k. ap (λ o. with_proof k.0 o) (holding_is (is_shift k.0) k.1))

ops_pass : (op : Op) → choose ops (op_mark op) ≡ Some op
ops_pass Add = refl
ops_pass Sub = refl
ops_pass Mul = refl
ops_pass And = refl
ops_pass Or = refl
ops_pass Xor = refl

op_is : (n : ℕ) (bytes : List ℕ) (o : Option Op) → choose ops bytes ≡ o → (k : (op : Op) × IsTrue (level_of op == suc n)) → at_level n o ≡ Some k → bytes ≡ op_mark k.0
op_is n bytes None q k e = absurd (cc)
op_is n bytes (Some op) q k e = chosen_bytes op_mark ops (refl, (refl, (refl, (refl, (refl, (refl, tt)))))) bytes op q ∙ same_op (holding (level_of op == suc n)) e
  where
    same_op : (o : Option (IsTrue (level_of op == suc n))) → with_proof op o ≡ Some k → op_mark op ≡ op_mark k.0
    same_op None h = absurd (cc)
    same_op (Some proof) h =
        let it : ◌≡◌ {A = (op : Op) × IsTrue (level_of op == suc n)} (op, proof) k = cc in
        ap (λ p. op_mark p.0) it

pub op_test : (n : ℕ) → IsTest (op_of n) (λ k. mark (op_mark k.0))
op_test n =
    kind_test is_mark_kind Mark (λ bytes. at_level n (choose ops bytes)) (λ k. op_mark k.0) mark_kind refl
    (λ bytes k e. op_is n bytes (choose ops bytes) refl k e)
    (λ k. ap (at_level n) (ops_pass k.0) ∙ ap (λ o. with_proof k.0 o) (holding_is (level_of k.0 == suc n) k.1))

rels_pass : (rel : Rel) → choose rels (rel_mark rel) ≡ Some rel
rels_pass Less = refl
rels_pass LessEqual = refl
rels_pass Greater = refl
rels_pass GreaterEqual = refl
rels_pass Equal = refl
rels_pass NotEqual = refl

rel_is : (wide : Bool) (bytes : List ℕ) (o : Option Rel) → choose rels bytes ≡ o → (k : (rel : Rel) × IsTrue (wide || is_ordered rel)) → at_width wide o ≡ Some k → bytes ≡ rel_mark k.0
rel_is wide bytes None q k e = absurd (cc)
rel_is wide bytes (Some rel) q k e = chosen_bytes rel_mark rels (refl, (refl, (refl, (refl, (refl, (refl, tt)))))) bytes rel q ∙ same_rel (holding (wide || is_ordered rel)) e
  where
    same_rel : (o : Option (IsTrue (wide || is_ordered rel))) → with_proof rel o ≡ Some k → rel_mark rel ≡ rel_mark k.0
    same_rel None h = absurd (cc)
    same_rel (Some proof) h =
        let it : ◌≡◌ {A = (rel : Rel) × IsTrue (wide || is_ordered rel)} (rel, proof) k = cc in
        ap (λ p. rel_mark p.0) it

pub rel_test : (wide : Bool) → IsTest (rel_of wide) (λ k. mark (rel_mark k.0))
rel_test wide =
    kind_test is_mark_kind Mark (λ bytes. at_width wide (choose rels bytes)) (λ k. rel_mark k.0) mark_kind refl
    (λ bytes k e. rel_is wide bytes (choose rels bytes) refl k e)
    (λ k. ap (at_width wide) (rels_pass k.0) ∙ ap (λ o. with_proof k.0 o) (holding_is (wide || is_ordered k.0) k.1))

abbrev pub first_symbol : First → Symbol
first_symbol (a_word w) = word w
first_symbol a_brace = mark (codes "{")

first_only : (s : Symbol) (o : Option Name) (b : Option (Unit {0})) → any_word s ≡ o → this_mark (codes "{") s ≡ b → (k : First) → word_or o (brace_or_none b) ≡ Some k → s ≡ first_symbol k
first_only s None None p q k e = absurd (cc)
first_only s None (Some u) p q k e =
    let it : a_brace ≡ k = cc in
    (mark_test (codes "{")).only s tt q ∙ ap first_symbol it
first_only s (Some w) b p q k e =
    let it : a_word w ≡ k = cc in
    any_word_test.only s w p ∙ ap first_symbol it

pub first_test : IsTest first_of first_symbol
first_test = record {
  only = λ s k e. first_only s (any_word s) (this_mark (codes "{") s) refl refl k e;
  passes = elim [ a_word w ↦ refl | a_brace ↦ refl ];
}

-- ---- Tables of words

pub callee_is : (w : Name) (f : Callee) → choose callees w ≡ Some f → w ≡ callee_name f
callee_is = chosen_bytes callee_name callees (refl, (refl, (refl, (refl, (refl, tt)))))

pub callee_passes : (f : Callee) → choose callees (callee_name f) ≡ Some f
callee_passes (of_choice minimum) = refl
callee_passes (of_choice maximum) = refl
callee_passes (of_choice remainder) = refl
callee_passes (of_rounding down) = refl
callee_passes (of_rounding up) = refl

abbrev pub head_word : Bool → Name
head_word true = codes "for"
head_word false = codes "if"

pub head_is : (w : Name) (is_for : Bool) → choose head_words w ≡ Some is_for → w ≡ head_word is_for
head_is = chosen_bytes head_word head_words (refl, (refl, tt))
