-- Expressions, conditions and values of the grammar are laid out as their tokens.
use Rattle.std.proofs.Common.{◌≡◌, ℕ, Bool, true, false, List, [], ◌∷◌, ◌++◌, codes, refl, ap, sym, ◌∙◌, append_assoc}
use Rattle.std.specs.List.{list_all}
use Rattle.std.proofs.lemmas.List.{append-nil}
use Rattle.std.proofs.lemmas.Bool.{and_parts, and_from, false≢true}
use Rattle.affc_lex.specs.declared.token.Kind.{Kind}
use Rattle.affc_lex.specs.declared.token.Kind.TheVariants.{Word, Number, Value, Mark}
use Rattle.affc_lex.specs.declared.piece.What.TheVariants.{Space, Token as of_kind}
use Rattle.affc_lex.specs.declared.piece.Spot.{Spot}
use Rattle.affc_lex.specs.declared.piece.Spot.TheVariants.{Inside, Directive}
use Rattle.affc_lex.specs.Bytes.{is_letter_or_digit, next_is}
use Rattle.affc_lex.specs.Pieces.{Piece, is_mark, longer_mark, next_spot}
use Rattle.affc_lex.specs.Lexes.{contains_refused}
use Rattle.affc_ast.specs.declared.tree.Op.{Op}
use Rattle.affc_ast.specs.declared.tree.Op.TheVariants.{Add, Sub, Mul, And, Or, Xor}
use Rattle.affc_ast.specs.declared.tree.Rel.{Rel}
use Rattle.affc_ast.specs.declared.tree.Rel.TheVariants.{Less, LessEqual, Greater, GreaterEqual, Equal, NotEqual}
use Rattle.affc_grammar.specs.Grammar.{Symbol, word, number, mark, minimum, maximum, remainder, down, up, choice_name, rounding_name, rel_mark, zero_mark, op_mark, shift_mark, IxText, term, plus, minus, TermText, factor, times, FactorText, atom, negated, AtomText, literal, name, grouped, chosen, divided, DimsText, no_dims, and_dim, CondText, all_of, or_all, AllText, prim, and_prim, PrimText, enclosed, compared, divisible, ValueText, complement, load, constant, parens, cast, operand, binary, shift, ix_symbols, term_symbols, factor_symbols, atom_symbols, dims_symbols, dim_symbols, cond_symbols, all_symbols, prim_symbols, value_symbols}
use Rattle.affc_cprint.specs.Layout.{◌then◌, ix_layout, term_layout, factor_layout, atom_layout, dims_layout, cond_layout, all_layout, prim_layout, value_layout}
use Rattle.affc_cprint.proofs.Stretch.{Stretch, ◌join◌, nothing, Calm}
use Rattle.affc_cprint.proofs.Spelled.{AllStand, stand_parts, Loose, IsName, IsNumeral, IsConstant, name_of_symbol, numeral_of_symbol, no_prelude, letters_calm, letters_of_word, letters_of_digits, digits_of_number, value_calm, on_off, lone, spaced, minus_before, goes_on_minus, letter_no_minus}

-- inside of a line of the text, or of one with `#`
abbrev pub line_spot : (is_directive : Bool) → Spot
line_spot true = Directive
line_spot false = Inside

abbrev pub token : Kind → List ℕ → Piece
token kind bytes = record { what = of_kind kind; bytes = bytes }

abbrev pub space : Piece
space = record { what = Space; bytes = 32 ∷ [] }

abbrev pub line_feed : Piece
line_feed = record { what = Space; bytes = 10 ∷ [] }

pub with_symbols : {spot next : Spot} {text after : List ℕ} (ks ls : List Symbol) → ks ≡ ls → Stretch spot text ks next after → Stretch spot text ls next after
with_symbols ks ls e s = record { pieces = s.pieces; spelled = s.spelled; standing = s.standing; leads = s.leads; its_symbols = s.its_symbols ∙ e; calm = s.calm }

pub with_text : {spot next : Spot} {after : List ℕ} {ks : List Symbol} (a b : List ℕ) → a ≡ b → Stretch spot a ks next after → Stretch spot b ks next after
with_text a b e s = record { pieces = s.pieces; spelled = s.spelled ∙ e; standing = s.standing; leads = s.leads; its_symbols = s.its_symbols; calm = λ rest h. ap (λ x. contains_refused (x ++ rest)) (sym e) ∙ s.calm rest h }

-- ---- Tokens

pub named : {spot next : Spot} (w after : List ℕ) → IsName w → Loose after → next_spot spot (of_kind Word) w ≡ next → Stretch spot w (word w ∷ []) next after
named w after n loose leads = record {
  pieces = token Word w ∷ [];
  spelled = append-nil w;
  standing = and_from _ _ (and_from _ _ (and_from _ _ n.is (on_off loose)) (on_off (no_prelude w after n.is loose n.other))) refl;
  leads = leads;
  its_symbols = refl;
  calm = letters_calm w (letters_of_word w n.is);
}

pub named_in : (d : Bool) (w after : List ℕ) → IsName w → Loose after → Stretch (line_spot d) w (word w ∷ []) (line_spot d) after
named_in true w after n loose = named w after n loose refl
named_in false w after n loose = named w after n loose refl

pub numbered : (d : Bool) (ds after : List ℕ) → IsNumeral ds → Loose after → Stretch (line_spot d) ds (number ds ∷ []) (line_spot d) after
numbered d ds after n loose = record {
  pieces = token Number ds ∷ [];
  spelled = append-nil ds;
  standing = and_from _ _ (and_from _ _ (and_from _ _ n.is n.small) (on_off loose)) refl;
  leads = leads d;
  its_symbols = refl;
  calm = letters_calm ds (letters_of_digits ds (digits_of_number ds n.is));
}
  where
    leads : (d : Bool) → next_spot (line_spot d) (of_kind Number) ds ≡ line_spot d
    leads true = refl
    leads false = refl

pub valued : (bytes after : List ℕ) → IsConstant bytes → Loose after → Stretch Inside bytes (record { kind = Value; bytes = bytes } ∷ []) Inside after
valued bytes after n loose = record {
  pieces = token Value bytes ∷ [];
  spelled = append-nil bytes;
  standing = and_from _ _ (and_from _ _ (and_from _ _ n.is n.small) (on_off loose)) refl;
  leads = refl;
  its_symbols = refl;
  calm = value_calm bytes n.is;
}

pub record IsMark (m : List ℕ) : Type 0 where
  pub is : is_mark m ≡ true
  pub calm : Calm m

pub marked : (d : Bool) (m after : List ℕ) → IsMark m → longer_mark m after ≡ false → Stretch (line_spot d) m (mark m ∷ []) (line_spot d) after
marked true m after k longest = record {
  pieces = token Mark m ∷ [];
  spelled = append-nil m;
  standing = and_from _ _ (and_from _ _ (and_from _ _ k.is (on_off longest)) refl) refl;
  leads = refl;
  its_symbols = refl;
  calm = k.calm;
}
marked false m after k longest = record {
  pieces = token Mark m ∷ [];
  spelled = append-nil m;
  standing = and_from _ _ (and_from _ _ (and_from _ _ k.is (on_off longest)) refl) refl;
  leads = refl;
  its_symbols = refl;
  calm = k.calm;
}

-- one space
pub gap : {spot : Spot} (after : List ℕ) → Stretch spot (codes " ") [] spot after
gap after = record { pieces = space ∷ []; spelled = refl; standing = refl; leads = refl; its_symbols = refl; calm = λ rest h. h }

-- a mark between spaces
pub between : (d : Bool) (m after : List ℕ) → IsMark m → Stretch (line_spot d) m (mark m ∷ []) (line_spot d) (32 ∷ after)
between d m after k = marked d m (32 ∷ after) k (spaced m after k.is)

pub opening : (d : Bool) (after : List ℕ) → Stretch (line_spot d) (codes "(") (mark (codes "(") ∷ []) (line_spot d) after
opening d after = marked d (codes "(") after (record { is = refl; calm = λ rest h. h }) (lone 40 refl refl refl after)

pub closing : (d : Bool) (after : List ℕ) → Stretch (line_spot d) (codes ")") (mark (codes ")") ∷ []) (line_spot d) after
closing d after = marked d (codes ")") after (record { is = refl; calm = λ rest h. h }) (lone 41 refl refl refl after)

pub bracket : (after : List ℕ) → Stretch Inside (codes "[") (mark (codes "[") ∷ []) Inside after
bracket after = marked false (codes "[") after (record { is = refl; calm = λ rest h. h }) (lone 91 refl refl refl after)

pub bracket_end : (after : List ℕ) → Stretch Inside (codes "]") (mark (codes "]") ∷ []) Inside after
bracket_end after = marked false (codes "]") after (record { is = refl; calm = λ rest h. h }) (lone 93 refl refl refl after)

pub comma : (d : Bool) (after : List ℕ) → Stretch (line_spot d) (codes ", ") (mark (codes ",") ∷ []) (line_spot d) after
comma d after = between d (codes ",") after (record { is = refl; calm = λ rest h. h }) join gap after

-- ---- Whole-number expressions

plus_mark : IsMark (codes "+")
plus_mark = record { is = refl; calm = λ rest h. h }

pub minus_mark : IsMark (codes "-")
minus_mark = record { is = refl; calm = λ rest h. h }

times_mark : IsMark (codes "*")
times_mark = record { is = refl; calm = λ rest h. h }

-- a word or a number doesn't go on a minus
pub letters_first : (w after : List ℕ) → list_all is_letter_or_digit w ≡ true → (w ≡ [] → ⊥) → next_is goes_on_minus (w ++ after) ≡ false
letters_first [] after h some = absurd (some refl)
letters_first (b ∷ w) after h some = letter_no_minus b (and_parts (is_letter_or_digit b) (list_all is_letter_or_digit w) h).0

pub numeral_first : (ds after : List ℕ) → IsNumeral ds → next_is goes_on_minus (ds ++ after) ≡ false
numeral_first [] after n = absurd (false≢true n.is)
numeral_first (b ∷ ds) after n = letters_first (b ∷ ds) after (letters_of_digits (b ∷ ds) (digits_of_number (b ∷ ds) n.is)) (λ e. cc)

name_first : (w after : List ℕ) → IsName w → next_is goes_on_minus (w ++ after) ≡ false
name_first [] after n = absurd (false≢true n.is)
name_first (b ∷ w) after n = letters_first (b ∷ w) after (letters_of_word (b ∷ w) n.is) (λ e. cc)

atom_first : {prelude : Bool} (a : AtomText prelude) (after : List ℕ) → AllStand (atom_symbols a) → next_is goes_on_minus (atom_layout a ++ after) ≡ false
atom_first (literal ds) after s = numeral_first ds after (numeral_of_symbol ds [] s).0
atom_first (name w) after s = name_first w after (name_of_symbol w [] s).0
atom_first (grouped a) after s = refl
atom_first (chosen _ minimum a b) after s = refl
atom_first (chosen _ maximum a b) after s = refl
atom_first (chosen _ remainder a b) after s = refl
atom_first (divided _ down a by _) after s = refl
atom_first (divided _ up a by _) after s = refl

mutual
  pub ix_lexed : {prelude : Bool} (d : Bool) (c : IxText prelude) (after : List ℕ) → AllStand (ix_symbols c) → Loose after → Stretch (line_spot d) (ix_layout c) (ix_symbols c) (line_spot d) after
  ix_lexed d (term a) after s loose = term_lexed d a after s loose
  ix_lexed d (plus a b) after s loose =
      let p = stand_parts (ix_symbols a) (mark (codes "+") ∷ term_symbols b) s in
      ix_lexed d a (codes " + " ++ term_layout b ++ after) p.0 refl join gap _ join between d (codes "+") _ plus_mark join gap _ join term_lexed d b after p.1 loose
  ix_lexed d (minus a b) after s loose =
      let p = stand_parts (ix_symbols a) (mark (codes "-") ∷ term_symbols b) s in
      ix_lexed d a (codes " - " ++ term_layout b ++ after) p.0 refl join gap _ join between d (codes "-") _ minus_mark join gap _ join term_lexed d b after p.1 loose

  pub term_lexed : {prelude : Bool} (d : Bool) (c : TermText prelude) (after : List ℕ) → AllStand (term_symbols c) → Loose after → Stretch (line_spot d) (term_layout c) (term_symbols c) (line_spot d) after
  term_lexed d (factor a) after s loose = factor_lexed d a after s loose
  term_lexed d (times a b) after s loose =
      let p = stand_parts (term_symbols a) (mark (codes "*") ∷ factor_symbols b) s in
      term_lexed d a (codes " * " ++ factor_layout b ++ after) p.0 refl join gap _ join between d (codes "*") _ times_mark join gap _ join factor_lexed d b after p.1 loose

  pub factor_lexed : {prelude : Bool} (d : Bool) (c : FactorText prelude) (after : List ℕ) → AllStand (factor_symbols c) → Loose after → Stretch (line_spot d) (factor_layout c) (factor_symbols c) (line_spot d) after
  factor_lexed d (atom a) after s loose = atom_lexed d a after s loose
  factor_lexed d (negated a) after s loose =
      marked d (codes "-") (atom_layout a ++ after) minus_mark (minus_before (atom_layout a ++ after) (atom_first a after s)) join atom_lexed d a after s loose

  pub atom_lexed : {prelude : Bool} (d : Bool) (c : AtomText prelude) (after : List ℕ) → AllStand (atom_symbols c) → Loose after → Stretch (line_spot d) (atom_layout c) (atom_symbols c) (line_spot d) after
  atom_lexed d (literal ds) after s loose = numbered d ds after (numeral_of_symbol ds [] s).0 loose
  atom_lexed d (name w) after s loose = named_in d w after (name_of_symbol w [] s).0 loose
  atom_lexed d (grouped a) after s loose =
      let p = stand_parts (ix_symbols a) (mark (codes ")") ∷ []) s in
      opening d _ join ix_lexed d a (codes ")" ++ after) p.0 refl join closing d after
  atom_lexed d (chosen _ f a b) after s loose =
      let n = name_of_symbol (choice_name f) (mark (codes "(") ∷ (ix_symbols a ++ mark (codes ",") ∷ (ix_symbols b ++ mark (codes ")") ∷ []))) s in
      let p = stand_parts (ix_symbols a) (mark (codes ",") ∷ (ix_symbols b ++ mark (codes ")") ∷ [])) n.1 in
      let q = stand_parts (ix_symbols b) (mark (codes ")") ∷ []) p.1 in
      named_in d (choice_name f) _ n.0 refl join opening d _ join ix_lexed d a _ p.0 refl join comma d _ join ix_lexed d b (codes ")" ++ after) q.0 refl join closing d after
  atom_lexed d (divided _ f a by _) after s loose =
      let n = name_of_symbol (rounding_name f) (mark (codes "(") ∷ (ix_symbols a ++ mark (codes ",") ∷ number by ∷ mark (codes ")") ∷ [])) s in
      let p = stand_parts (ix_symbols a) (mark (codes ",") ∷ number by ∷ mark (codes ")") ∷ []) n.1 in
      let q = numeral_of_symbol by (mark (codes ")") ∷ []) p.1 in
      named_in d (rounding_name f) _ n.0 refl join opening d _ join ix_lexed d a _ p.0 refl join comma d _ join numbered d by (codes ")" ++ after) q.0 refl join closing d after

-- ---- Subscripts and extents

dims_first : {prelude : Bool} (c : DimsText prelude) (after : List ℕ) → Loose after → Loose (dims_layout c ++ after)
dims_first no_dims after loose = loose
dims_first (and_dim ds a) after loose = ap (next_is is_letter_or_digit) (append_assoc (dims_layout ds) (codes "[" then ix_layout a then codes "]") after) ∙ dims_first ds ((codes "[" then ix_layout a then codes "]") ++ after) refl

pub dims_lexed : {prelude : Bool} (c : DimsText prelude) (after : List ℕ) → AllStand (dims_symbols c) → Stretch Inside (dims_layout c) (dims_symbols c) Inside after
dims_lexed no_dims after s = nothing after
dims_lexed (and_dim ds a) after s =
    let p = stand_parts (dims_symbols ds) (dim_symbols a) s in
    let q = stand_parts (ix_symbols a) (mark (codes "]") ∷ []) p.1 in
    dims_lexed ds _ p.0 join bracket _ join ix_lexed false a (codes "]" ++ after) q.0 refl join bracket_end after

-- an array with its subscripts
pub array_lexed : {prelude : Bool} {spot : Spot} (w : List ℕ) (c : DimsText prelude) (after : List ℕ) → AllStand (word w ∷ dims_symbols c) → Loose after → next_spot spot (of_kind Word) w ≡ Inside
    → Stretch spot (w then dims_layout c) (word w ∷ dims_symbols c) Inside after
array_lexed w c after s loose leads =
    let n = name_of_symbol w (dims_symbols c) s in
    named w (dims_layout c ++ after) n.0 (dims_first c after loose) leads join dims_lexed c after n.1

-- ---- Conditions

pub rel_is_mark : (rel : Rel) → IsMark (rel_mark rel)
rel_is_mark Less = record { is = refl; calm = λ rest h. h }
rel_is_mark LessEqual = record { is = refl; calm = λ rest h. h }
rel_is_mark Greater = record { is = refl; calm = λ rest h. h }
rel_is_mark GreaterEqual = record { is = refl; calm = λ rest h. h }
rel_is_mark Equal = record { is = refl; calm = λ rest h. h }
rel_is_mark NotEqual = record { is = refl; calm = λ rest h. h }

both_mark : IsMark (codes "&&")
both_mark = record { is = refl; calm = λ rest h. h }

either_mark : IsMark (codes "||")
either_mark = record { is = refl; calm = λ rest h. h }

remainder_mark : IsMark (codes "%")
remainder_mark = record { is = refl; calm = λ rest h. h }

zero_is_mark : (so : Bool) → IsMark (zero_mark so)
zero_is_mark true = record { is = refl; calm = λ rest h. h }
zero_is_mark false = record { is = refl; calm = λ rest h. h }

mutual
  pub cond_lexed : {prelude wide : Bool} (d : Bool) (c : CondText prelude wide) (after : List ℕ) → AllStand (cond_symbols c) → Loose after → Stretch (line_spot d) (cond_layout c) (cond_symbols c) (line_spot d) after
  cond_lexed d (all_of a) after s loose = all_lexed d a after s loose
  cond_lexed d (or_all _ c a) after s loose =
      let p = stand_parts (cond_symbols c) (mark (codes "||") ∷ all_symbols a) s in
      cond_lexed d c (codes " || " ++ all_layout a ++ after) p.0 refl join gap _ join between d (codes "||") _ either_mark join gap _ join all_lexed d a after p.1 loose

  all_lexed : {prelude wide : Bool} (d : Bool) (c : AllText prelude wide) (after : List ℕ) → AllStand (all_symbols c) → Loose after → Stretch (line_spot d) (all_layout c) (all_symbols c) (line_spot d) after
  all_lexed d (prim q) after s loose = prim_lexed d q after s loose
  all_lexed d (and_prim a q) after s loose =
      let p = stand_parts (all_symbols a) (mark (codes "&&") ∷ prim_symbols q) s in
      all_lexed d a (codes " && " ++ prim_layout q ++ after) p.0 refl join gap _ join between d (codes "&&") _ both_mark join gap _ join prim_lexed d q after p.1 loose

  prim_lexed : {prelude wide : Bool} (d : Bool) (c : PrimText prelude wide) (after : List ℕ) → AllStand (prim_symbols c) → Loose after → Stretch (line_spot d) (prim_layout c) (prim_symbols c) (line_spot d) after
  prim_lexed d (enclosed c) after s loose =
      let p = stand_parts (cond_symbols c) (mark (codes ")") ∷ []) s in
      opening d _ join cond_lexed d c (codes ")" ++ after) p.0 refl join closing d after
  prim_lexed d (compared a rel _ b) after s loose =
      let p = stand_parts (ix_symbols a) (mark (rel_mark rel) ∷ ix_symbols b) s in
      ix_lexed d a _ p.0 refl join gap _ join between d (rel_mark rel) _ (rel_is_mark rel) join gap _ join ix_lexed d b after p.1 loose
  prim_lexed d (divisible _ t by _ so) after s loose =
      let p = stand_parts (term_symbols t) (mark (codes "%") ∷ number by ∷ mark (zero_mark so) ∷ number (codes "0") ∷ []) s in
      let q = numeral_of_symbol by (mark (zero_mark so) ∷ number (codes "0") ∷ []) p.1 in
      term_lexed d t _ p.0 refl join gap _ join between d (codes "%") _ remainder_mark join gap _ join numbered d by _ q.0 refl join gap _ join between d (zero_mark so) _ (zero_is_mark so) join gap _ join numbered d (codes "0") after (record { is = refl; small = refl }) loose

-- ---- Values

op_is_mark : (op : Op) → IsMark (op_mark op)
op_is_mark Add = record { is = refl; calm = λ rest h. h }
op_is_mark Sub = record { is = refl; calm = λ rest h. h }
op_is_mark Mul = record { is = refl; calm = λ rest h. h }
op_is_mark And = record { is = refl; calm = λ rest h. h }
op_is_mark Or = record { is = refl; calm = λ rest h. h }
op_is_mark Xor = record { is = refl; calm = λ rest h. h }

shift_is_mark : (left : Bool) → IsMark (shift_mark left)
shift_is_mark true = record { is = refl; calm = λ rest h. h }
shift_is_mark false = record { is = refl; calm = λ rest h. h }

tilde : (after : List ℕ) → Stretch Inside (codes "~") (mark (codes "~") ∷ []) Inside after
tilde after = marked false (codes "~") after (record { is = refl; calm = λ rest h. h }) (lone 126 refl refl refl after)

-- `(uint64_t)(`
cast_opening : (after : List ℕ) → Stretch Inside (codes "(uint64_t)(") (mark (codes "(") ∷ word (codes "uint64_t") ∷ mark (codes ")") ∷ mark (codes "(") ∷ []) Inside after
cast_opening after = record {
  pieces = token Mark (codes "(") ∷ token Word (codes "uint64_t") ∷ token Mark (codes ")") ∷ token Mark (codes "(") ∷ [];
  spelled = refl;
  standing = rw (lone 41 refl refl refl (40 ∷ after)) (rw (lone 40 refl refl refl after) refl);
  leads = refl;
  its_symbols = refl;
  calm = λ rest h. h;
}

constant_of_symbol : (bytes : List ℕ) → AllStand (record { kind = Value; bytes = bytes } ∷ []) → IsConstant bytes
constant_of_symbol bytes s =
    let p = and_parts _ true s in
    let q = and_parts _ true p.0 in
    let r = and_parts _ _ q.0 in
    record { is = r.0; small = r.1 }

pub value_lexed : {prelude : Bool} {n : ℕ} (c : ValueText prelude n) (after : List ℕ) → AllStand (value_symbols c) → Loose after → Stretch Inside (value_layout c) (value_symbols c) Inside after
value_lexed (complement v) after s loose = tilde _ join value_lexed v after s loose
value_lexed (load w subs) after s loose = array_lexed w subs after s loose refl
value_lexed (constant bytes) after s loose = valued bytes after (constant_of_symbol bytes s) loose
value_lexed (parens v) after s loose =
    let p = stand_parts (value_symbols v) (mark (codes ")") ∷ []) s in
    opening false _ join value_lexed v (codes ")" ++ after) p.0 refl join closing false after
value_lexed (cast a) after s loose =
    let p = stand_parts (ix_symbols a) (mark (codes ")") ∷ []) s in
    cast_opening _ join ix_lexed false a (codes ")" ++ after) p.0 refl join closing false after
value_lexed (operand v) after s loose = value_lexed v after s loose
value_lexed (binary a op _ b) after s loose =
    let p = stand_parts (value_symbols a) (mark (op_mark op) ∷ value_symbols b) s in
    value_lexed a _ p.0 refl join gap _ join between false (op_mark op) _ (op_is_mark op) join gap _ join value_lexed b after p.1 loose
value_lexed (shift v left by _) after s loose =
    let p = stand_parts (value_symbols v) (mark (shift_mark left) ∷ number by ∷ []) s in
    let q = numeral_of_symbol by [] p.1 in
    value_lexed v _ p.0 refl join gap _ join between false (shift_mark left) _ (shift_is_mark left) join gap _ join numbered false by after q.0 loose
