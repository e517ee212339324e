-- The trees of affine texts that are fine are plain, and a value has as many loads as its text.
use Rattle.std.proofs.Common.{◌≡◌, ℕ, suc, ◌+◌, Bool, true, false, List, [], ◌∷◌, ◌++◌, length, flat_map, Option, Some, None, Ok, Err, refl, sym, ap, ◌∙◌, length-append}
use Rattle.std.specs.Prelude.{◌&&◌}
use Rattle.affc_ast.specs.declared.tree.Compare.{Compare}
use Rattle.affc_ast.specs.declared.tree.Ix.{Ix}
use Rattle.affc_ast.specs.declared.tree.Op.{Op}
use Rattle.affc_ast.specs.declared.tree.Val.{Val}
use Rattle.affc_ast.specs.declared.tree.Val.TheVariants as val
use Rattle.affc_ast.specs.Joined.{is_ordered}
use Rattle.affc_ast.proofs.Steps.{not_here, bin_here, shift_here}
use Rattle.affc_grammar.specs.declared.fault.NameWhy.{NameWhy}
use Rattle.affc_grammar.specs.Draft.{IxDraft, CompareDraft, ValueDraft, load, constant, cast, complement, binary, shift}
use Rattle.affc_grammar.specs.Names.{Scope, Checked, allowed, each, array_named, ix_tree, compare_tree, value_tree}
use Rattle.affc_grammar.specs.Limits.{products_in, large_parts, sides, value_texts, loads_in}
use Rattle.affc_trace.proofs.Members.{hold_both}
use Rattle.affc_domain.specs.Accesses.{accesses_step, accesses_in}
use Rattle.affc_domain.specs.Plain.{is_plain, all_plain, plain_tests, plain_value, plain_value_step}
use Rattle.affc_plain.proofs.Forms.{HasNoCalls, then_ok}
use Rattle.affc_plain.proofs.Small.{HasNumbers, tree_is_plain}

-- ---- What the grammar and the limits give

-- of an affine text
pub record IsFine (d : IxDraft) : Type 0 where
  pub calls : HasNoCalls d
  pub products : products_in d ≡ []
  pub parts : large_parts d ≡ []

abbrev pub AllFine : List IxDraft → Type 0
AllFine [] = Unit {0}
AllFine (d ∷ ds) = IsFine d × AllFine ds

-- comparisons without "!="
abbrev pub AreOrdered : List CompareDraft → Type 0
AreOrdered [] = Unit {0}
AreOrdered (c ∷ cs) = (is_ordered c.rel ≡ true) × AreOrdered cs

pub fine_parts : (xs ys : List IxDraft) → AllFine (xs ++ ys) → AllFine xs × AllFine ys
fine_parts [] ys h = (tt, h)
fine_parts (x ∷ xs) ys h = let r = fine_parts xs ys h.1 in ((h.0, r.0), r.1)

pub ok_of : {A : Type 0} {x y : A} → ◌≡◌ {A = Checked A} (Ok x) (Ok y) → x ≡ y
ok_of {x = x} e = ap (λ r. elim r [ Ok a ↦ a | Err f ↦ x ]) e

pub allowed_ok : {A : Type 0} (why : Option NameWhy) (at : ℕ) (r : Checked A) (a : A) → allowed why at r ≡ Ok a → (why ≡ None) × (r ≡ Ok a)
allowed_ok None at r a e = (refl, e)
allowed_ok (Some w) at r a e = absurd (cc)

-- ---- Steps at values

not_plain : (x : Val) (n : ℕ) → plain_value (val.Not x) n ≡ plain_value x n
not_plain x n = ap (λ g. g n) (not_here plain_value_step x)

bin_plain : (op : Op) (x y : Val) (n : ℕ) → plain_value (val.Bin op x y) n ≡ (plain_value x n && plain_value y n)
bin_plain op x y n = ap (λ g. g n) (bin_here plain_value_step op x y)

shift_plain : (left : Bool) (x : Val) (by : ℕ) (n : ℕ) → plain_value (val.Shift left x by) n ≡ plain_value x n
shift_plain left x by n = ap (λ g. g n) (shift_here plain_value_step left x by)

-- ---- Expressions in a scope

module _ (scope : Scope) (n : ℕ) (numbers : HasNumbers scope n) where
  pub ix_plain : (d : IxDraft) (e : Ix) → ix_tree scope d ≡ Ok e → IsFine d → is_plain n e ≡ true
  ix_plain d e t f = tree_is_plain n scope numbers d e t f.calls f.products f.parts

  pub list_plain : (ds : List IxDraft) (es : List Ix) → each (ix_tree scope) ds ≡ Ok es → AllFine ds → all_plain n es ≡ true
  list_plain [] es t f = ap (all_plain n) (sym (ok_of t))
  list_plain (d ∷ ds) es t f =
      let r = then_ok (ix_tree scope d) _ es t in
      let q = then_ok (each (ix_tree scope) ds) _ es r.2 in
      ap (all_plain n) (sym (ok_of q.2)) ∙ hold_both (is_plain n r.0) (all_plain n q.0) (ix_plain d r.0 r.1 f.0) (list_plain ds q.0 q.1 f.1)

  pub tests_plain : (cs : List CompareDraft) (ys : List Compare) → each (compare_tree scope) cs ≡ Ok ys → AllFine (flat_map sides cs) → AreOrdered cs → plain_tests n ys ≡ true
  tests_plain [] ys t f o = ap (plain_tests n) (sym (ok_of t))
  tests_plain (c ∷ cs) ys t f o =
      let r = then_ok (compare_tree scope c) _ ys t in
      let q = then_ok (each (compare_tree scope) cs) _ ys r.2 in
      let a = then_ok (ix_tree scope c.left) _ r.0 r.1 in
      let b = then_ok (ix_tree scope c.right) _ r.0 a.2 in
      let l : is_plain n r.0.left ≡ true = ap (λ (y : Compare). is_plain n y.left) (sym (ok_of b.2)) ∙ ix_plain c.left a.0 a.1 f.0 in
      let m : is_plain n r.0.right ≡ true = ap (λ (y : Compare). is_plain n y.right) (sym (ok_of b.2)) ∙ ix_plain c.right b.0 b.1 f.1.0 in
      let k : is_ordered r.0.rel ≡ true = ap (λ (y : Compare). is_ordered y.rel) (sym (ok_of b.2)) ∙ o.0 in
      ap (plain_tests n) (sym (ok_of q.2))
      ∙ hold_both (is_plain n r.0.left) (is_plain n r.0.right && (is_ordered r.0.rel && plain_tests n q.0)) l
      (hold_both (is_plain n r.0.right) (is_ordered r.0.rel && plain_tests n q.0) m (hold_both (is_ordered r.0.rel) (plain_tests n q.0) k (tests_plain cs q.0 q.1 f.1.1 o.1)))

  pub value_plain : (v : ValueDraft) (x : Val) → value_tree scope v ≡ Ok x → AllFine (value_texts v) → plain_value x n ≡ true
  value_plain (load at w subs) x t f =
      let r = then_ok (array_named scope at w false (length subs)) _ x t in
      let q = then_ok (each (ix_tree scope) subs) _ x r.2 in
      ap (λ z. plain_value z n) (sym (ok_of q.2)) ∙ list_plain subs q.0 q.1 f
  value_plain (constant k) x t f = ap (λ z. plain_value z n) (sym (ok_of t))
  value_plain (cast a) x t f =
      let r = then_ok (ix_tree scope a) _ x t in
      ap (λ z. plain_value z n) (sym (ok_of r.2)) ∙ ix_plain a r.0 r.1 f.0
  value_plain (complement v) x t f =
      let r = then_ok (value_tree scope v) _ x t in
      ap (λ z. plain_value z n) (sym (ok_of r.2)) ∙ not_plain r.0 n ∙ value_plain v r.0 r.1 f
  value_plain (binary op v w) x t f =
      let r = then_ok (value_tree scope v) _ x t in
      let q = then_ok (value_tree scope w) _ x r.2 in
      let g = fine_parts (value_texts v) (value_texts w) f in
      ap (λ z. plain_value z n) (sym (ok_of q.2)) ∙ bin_plain op r.0 q.0 n ∙ hold_both (plain_value r.0 n) (plain_value q.0 n) (value_plain v r.0 r.1 g.0) (value_plain w q.0 q.1 g.1)
  value_plain (shift left v by) x t f =
      let r = then_ok (value_tree scope v) _ x t in
      ap (λ z. plain_value z n) (sym (ok_of r.2)) ∙ shift_plain left r.0 by n ∙ value_plain v r.0 r.1 f

-- ---- How many there are

pub each_length : {A B : Type 0} (f : A → Checked B) (xs : List A) (ys : List B) → each f xs ≡ Ok ys → length ys ≡ length xs
each_length f [] ys t = ap length (sym (ok_of t))
each_length f (x ∷ xs) ys t =
    let r = then_ok (f x) _ ys t in
    let q = then_ok (each f xs) _ ys r.2 in
    ap length (sym (ok_of q.2)) ∙ ap suc (each_length f xs q.0 q.1)

-- a value has as many loads as its text
pub loads_are : (scope : Scope) (v : ValueDraft) (x : Val) → value_tree scope v ≡ Ok x → length (accesses_in x) ≡ loads_in v
loads_are scope (load at w subs) x t =
    let r = then_ok (array_named scope at w false (length subs)) _ x t in
    let q = then_ok (each (ix_tree scope) subs) _ x r.2 in
    ap (λ z. length (accesses_in z)) (sym (ok_of q.2))
loads_are scope (constant k) x t = ap (λ z. length (accesses_in z)) (sym (ok_of t))
loads_are scope (cast a) x t =
    let r = then_ok (ix_tree scope a) _ x t in
    ap (λ z. length (accesses_in z)) (sym (ok_of r.2))
loads_are scope (complement v) x t =
    let r = then_ok (value_tree scope v) _ x t in
    ap (λ z. length (accesses_in z)) (sym (ok_of r.2)) ∙ ap length (not_here accesses_step r.0) ∙ loads_are scope v r.0 r.1
loads_are scope (binary op v w) x t =
    let r = then_ok (value_tree scope v) _ x t in
    let q = then_ok (value_tree scope w) _ x r.2 in
    ap (λ z. length (accesses_in z)) (sym (ok_of q.2)) ∙ ap length (bin_here accesses_step op r.0 q.0) ∙ length-append (accesses_in r.0) (accesses_in q.0)
    ∙ ap (λ n. n + length (accesses_in q.0)) (loads_are scope v r.0 r.1) ∙ ap (λ n. loads_in v + n) (loads_are scope w q.0 q.1)
loads_are scope (shift left v by) x t =
    let r = then_ok (value_tree scope v) _ x t in
    ap (λ z. length (accesses_in z)) (sym (ok_of r.2)) ∙ ap length (shift_here accesses_step left r.0 by) ∙ loads_are scope v r.0 r.1
