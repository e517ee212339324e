-- What is written for a value at its place, with the brackets that it has there.
use Rattle.std.proofs.Common.{◌≡◌, ℕ, Bool, true, false, nat_lt, Option, Some, None, is_some, IsTrue, List, ◌++◌, refl, sym, ap, ◌∙◌, codes, if◌then◌else◌, decimal as digits_of}
use Rattle.std.proofs.lemmas.List.{append-nil}
use Rattle.std.specs.List.{flat_map}
use Rattle.affc_ast.specs.declared.tree.ArrayId.{ArrayId}
use Rattle.affc_ast.specs.declared.tree.Ix.{Ix}
use Rattle.affc_ast.specs.declared.tree.Val.{Val}
use Rattle.affc_ast.specs.declared.tree.Val.TheVariants.{Load, Const, Cast}
use Rattle.affc_ast.specs.Recursion.{by_val}
use Rattle.affc_ast.specs.declared.tree.Op.{Op}
use Rattle.affc_ast.specs.declared.tree.Op.TheVariants as op
use Rattle.affc_grammar.specs.Grammar.{Digits, ValueText, load, constant, cast, complement, binary, op_mark, shift_mark, level_of, is_shift}
use Rattle.affc_grammar.specs.Printed.{Names, array_name, ix_text, dims_text, value_step, ValueWritten, primary_written, times_written, plus_written, shift_written, and_written, xor_written, or_written, binary_written, shift_by, holding}
use Rattle.affc_cprint.specs.declared.brackets.Level.{Level}
use Rattle.affc_cprint.specs.declared.brackets.Level.TheVariants.{Primary, Product, Sum, Shifted, And, Xor, Or}
use Rattle.affc_cprint.specs.Layout.{◌then◌, ix_layout, value_layout}
use Rattle.affc_cprint.specs.Places.{bracketed}
use Rattle.affc_cprint.specs.Statements.{dim_added}
use Rattle.affc_cprint.proofs.Chains.{dims_are}
use Rattle.affc_cprint.specs.Levels.{value_at, number_of, op_left, op_right, amount_layout, binary_layout, shift_layout}

pub primary_at : {prelude : Bool} (level : Level) (v : ValueText prelude 0) → value_at level (primary_written v) ≡ value_layout v
primary_at Primary v = refl
primary_at Product v = refl
primary_at Sum v = refl
primary_at Shifted v = refl
primary_at And v = refl
primary_at Xor v = refl
primary_at Or v = refl

times_at : {prelude : Bool} (level : Level) (v : ValueText prelude 1) → value_at level (times_written v) ≡ bracketed (nat_lt (number_of level) 1) (value_layout v)
times_at Primary v = refl
times_at Product v = sym (append-nil (value_layout v))
times_at Sum v = sym (append-nil (value_layout v))
times_at Shifted v = sym (append-nil (value_layout v))
times_at And v = sym (append-nil (value_layout v))
times_at Xor v = sym (append-nil (value_layout v))
times_at Or v = sym (append-nil (value_layout v))

plus_at : {prelude : Bool} (level : Level) (v : ValueText prelude 2) → value_at level (plus_written v) ≡ bracketed (nat_lt (number_of level) 2) (value_layout v)
plus_at Primary v = refl
plus_at Product v = refl
plus_at Sum v = sym (append-nil (value_layout v))
plus_at Shifted v = sym (append-nil (value_layout v))
plus_at And v = sym (append-nil (value_layout v))
plus_at Xor v = sym (append-nil (value_layout v))
plus_at Or v = sym (append-nil (value_layout v))

shift_at : {prelude : Bool} (level : Level) (v : ValueText prelude 3) → value_at level (shift_written v) ≡ bracketed (nat_lt (number_of level) 3) (value_layout v)
shift_at Primary v = refl
shift_at Product v = refl
shift_at Sum v = refl
shift_at Shifted v = sym (append-nil (value_layout v))
shift_at And v = sym (append-nil (value_layout v))
shift_at Xor v = sym (append-nil (value_layout v))
shift_at Or v = sym (append-nil (value_layout v))

and_at : {prelude : Bool} (level : Level) (v : ValueText prelude 4) → value_at level (and_written v) ≡ bracketed (nat_lt (number_of level) 4) (value_layout v)
and_at Primary v = refl
and_at Product v = refl
and_at Sum v = refl
and_at Shifted v = refl
and_at And v = sym (append-nil (value_layout v))
and_at Xor v = sym (append-nil (value_layout v))
and_at Or v = sym (append-nil (value_layout v))

xor_at : {prelude : Bool} (level : Level) (v : ValueText prelude 5) → value_at level (xor_written v) ≡ bracketed (nat_lt (number_of level) 5) (value_layout v)
xor_at Primary v = refl
xor_at Product v = refl
xor_at Sum v = refl
xor_at Shifted v = refl
xor_at And v = refl
xor_at Xor v = sym (append-nil (value_layout v))
xor_at Or v = sym (append-nil (value_layout v))

or_at : {prelude : Bool} (level : Level) (v : ValueText prelude 6) → value_at level (or_written v) ≡ bracketed (nat_lt (number_of level) 6) (value_layout v)
or_at Primary v = refl
or_at Product v = refl
or_at Sum v = refl
or_at Shifted v = refl
or_at And v = refl
or_at Xor v = refl
or_at Or v = sym (append-nil (value_layout v))

pub binary_at : {prelude : Bool} (level : Level) (o : Op) (a b : ValueWritten prelude) → value_at level (binary_written o a b)
    ≡ bracketed (nat_lt (number_of level) (level_of o)) (value_at (op_left o) a then codes " " then op_mark o then codes " " then value_at (op_right o) b)
binary_at level op.Mul a b = times_at level (binary a.level_1 op.Mul refl b.level_0)
binary_at level op.Add a b = plus_at level (binary a.level_2 op.Add refl b.level_1)
binary_at level op.Sub a b = plus_at level (binary a.level_2 op.Sub refl b.level_1)
binary_at level op.And a b = and_at level (binary a.level_4 op.And refl b.level_3)
binary_at level op.Xor a b = xor_at level (binary a.level_5 op.Xor refl b.level_4)
binary_at level op.Or a b = or_at level (binary a.level_6 op.Or refl b.level_5)

shifted_by : {prelude : Bool} (left : Bool) (v : ValueText prelude 3) (by : Digits) (b : Bool) (e : is_shift by ≡ b) (h : Option (IsTrue (is_shift by))) → is_some h ≡ b
    → value_layout (shift_by left v by h) ≡ value_layout v then codes " " then shift_mark left then codes " " then (if b then by else codes "0")
shifted_by left v by true e (Some h) s = refl
shifted_by left v by true e None s = cc
shifted_by left v by false e (Some h) s = cc
shifted_by left v by false e None s = refl

pub held : (b : Bool) → is_some (holding b) ≡ b
held true = refl
held false = refl

pub shift_at_level : {prelude : Bool} (level : Level) (left : Bool) (a : ValueWritten prelude) (by : ℕ)
    → value_at level (shift_written (shift_by left a.level_3 (digits_of by) (holding (is_shift (digits_of by)))))
    ≡ bracketed (nat_lt (number_of level) 3) (value_at Shifted a then codes " " then shift_mark left then codes " " then amount_layout by)
shift_at_level level left a by =
    rw (
      shift_at level (shift_by left a.level_3 (digits_of by) (holding (is_shift (digits_of by)))),
      shifted_by left a.level_3 (digits_of by) (is_shift (digits_of by)) refl (holding (is_shift (digits_of by))) (held (is_shift (digits_of by))),
    ) refl

-- a load, and its subscripts
pub load_pieces : (prelude : Bool) (names : Names) (level : Level) (v : Val) (id : ArrayId) (subs slice : List Ix) → v ≡ Load id subs → slice ≡ subs
    → value_at level (by_val (value_step prelude names) v) ≡ array_name names id ++ flat_map (dim_added prelude names) slice
load_pieces prelude names level v id subs slice is same =
    ap (λ x. value_at level (by_val (value_step prelude names) x)) is
    ∙ primary_at level (load (array_name names id) (dims_text prelude names subs))
    ∙ ap (λ t. array_name names id ++ t) (dims_are prelude names subs)
    ∙ ap (λ es. array_name names id ++ flat_map (dim_added prelude names) es) (sym same)

pub const_text : (prelude : Bool) (names : Names) (level : Level) (v : Val) (n : ℕ) → v ≡ Const n → value_at level (by_val (value_step prelude names) v) ≡ digits_of n ++ codes "ULL"
const_text prelude names level v n is = ap (λ x. value_at level (by_val (value_step prelude names) x)) is ∙ primary_at level (constant (digits_of n ++ codes "ULL"))

pub cast_text : (prelude : Bool) (names : Names) (level : Level) (v : Val) (e : Ix) → v ≡ Cast e
    → value_at level (by_val (value_step prelude names) v) ≡ codes "(uint64_t)(" then ix_layout (ix_text prelude names e) then codes ")"
cast_text prelude names level v e is = ap (λ x. value_at level (by_val (value_step prelude names) x)) is ∙ primary_at level (cast (ix_text prelude names e))

pub not_text : {prelude : Bool} (level : Level) (v a : ValueWritten prelude) → v ≡ primary_written (complement a.level_0) → value_at level v ≡ codes "~" ++ value_at Primary a
not_text level v a is = ap (value_at level) is ∙ primary_at level (complement a.level_0)

pub binary_text : {prelude : Bool} (level : Level) (v : ValueWritten prelude) (o : Op) (a b : ValueWritten prelude) → v ≡ binary_written o a b
    → value_at level v ≡ bracketed (nat_lt (number_of level) (level_of o)) (binary_layout o a b)
binary_text level v o a b is = ap (value_at level) is ∙ binary_at level o a b

pub shift_text : {prelude : Bool} (level : Level) (v : ValueWritten prelude) (left : Bool) (a : ValueWritten prelude) (by : ℕ)
    → v ≡ shift_written (shift_by left a.level_3 (digits_of by) (holding (is_shift (digits_of by)))) → value_at level v ≡ bracketed (nat_lt (number_of level) 3) (shift_layout left a by)
shift_text level v left a by is = ap (value_at level) is ∙ shift_at_level level left a by
