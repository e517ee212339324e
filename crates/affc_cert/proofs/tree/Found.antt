-- What the nodes of a tree are, from what the looks into a value gave.
use Rattle.affc_cert.specs.tree.Stacks.{tree_stack_nodes}
use Rattle.affc_cert.specs.tree.Trees.{tree_kind_of, tree_kind_of_tag}
use Rattle.affc_cert.specs.tree.Values.{test_node, div_node, source_node, input_node, tree_nodes_of}
use Rattle.affc_cert.specs.declared.tree.kind.TreeKind.TheVariants as Kind
use Rattle.affc_certvalue.proofs.Found.{is_array}
use Rattle.affc_certvalue.specs.Values.{list_value, whole_value, form_value, forms_value}
use Rattle.affc_quast.specs.Seen.{seen}
use Rattle.affc_quast.specs.declared.quast.Quast.{Quast}
use Rattle.affc_rows.specs.Forms.{Affine}
use Rattle.serde_json.specs.Data.{Data, null, boolean, number, string, array, object}
use Rattle.serde_json.specs.Find.{as_str}
use Rattle.serde_json.specs.View.{view, items_view}
use Rattle.serde_json.specs.declared.value.Value.{Value}
use Rattle.std.proofs.Common.{◌≡◌, ℕ, ℤ, pos, List, [], ◌∷◌, ◌++◌, length, get_or, Bool, true, false, if◌then◌else◌, codes, bytes_eq, refl, sym, ap, ap₂, ◌∙◌, arith, append-nil, append_assoc}
use Rattle.std.proofs.lemmas.Slice.Eq.{bytes_eq-Decides}

test_by : (one two three four : Bool) → (if one then Kind.Test else (if two then Kind.Div else (if three then Kind.Source else (if four then Kind.Input else Kind.Other)))) ≡ Kind.Test → one ≡ true
test_by true two three four e = refl
test_by false true three four e = absurd (cc)
test_by false false true four e = absurd (cc)
test_by false false false true e = absurd (cc)
test_by false false false false e = absurd (cc)

test_tag : (d : Data) → tree_kind_of_tag (as_str d) ≡ Kind.Test → string (codes "t") ≡ d
test_tag null e = absurd (cc)
test_tag (boolean b) e = absurd (cc)
test_tag (number n) e = absurd (cc)
test_tag (string s) e = ap string (sym ((bytes_eq-Decides s (codes "t")).0 (test_by (bytes_eq s (codes "t")) (bytes_eq s (codes "d")) (bytes_eq s (codes "w")) (bytes_eq s (codes "i")) e)))
test_tag (array ds) e = absurd (cc)
test_tag (object ms) e = absurd (cc)

div_by : (one two three four : Bool) → (if one then Kind.Test else (if two then Kind.Div else (if three then Kind.Source else (if four then Kind.Input else Kind.Other)))) ≡ Kind.Div → two ≡ true
div_by true two three four e = absurd (cc)
div_by false true three four e = refl
div_by false false true four e = absurd (cc)
div_by false false false true e = absurd (cc)
div_by false false false false e = absurd (cc)

div_tag : (d : Data) → tree_kind_of_tag (as_str d) ≡ Kind.Div → string (codes "d") ≡ d
div_tag null e = absurd (cc)
div_tag (boolean b) e = absurd (cc)
div_tag (number n) e = absurd (cc)
div_tag (string s) e = ap string (sym ((bytes_eq-Decides s (codes "d")).0 (div_by (bytes_eq s (codes "t")) (bytes_eq s (codes "d")) (bytes_eq s (codes "w")) (bytes_eq s (codes "i")) e)))
div_tag (array ds) e = absurd (cc)
div_tag (object ms) e = absurd (cc)

source_by : (one two three four : Bool) → (if one then Kind.Test else (if two then Kind.Div else (if three then Kind.Source else (if four then Kind.Input else Kind.Other)))) ≡ Kind.Source → three ≡ true
source_by true two three four e = absurd (cc)
source_by false true three four e = absurd (cc)
source_by false false true four e = refl
source_by false false false true e = absurd (cc)
source_by false false false false e = absurd (cc)

source_tag : (d : Data) → tree_kind_of_tag (as_str d) ≡ Kind.Source → string (codes "w") ≡ d
source_tag null e = absurd (cc)
source_tag (boolean b) e = absurd (cc)
source_tag (number n) e = absurd (cc)
source_tag (string s) e = ap string (sym ((bytes_eq-Decides s (codes "w")).0 (source_by (bytes_eq s (codes "t")) (bytes_eq s (codes "d")) (bytes_eq s (codes "w")) (bytes_eq s (codes "i")) e)))
source_tag (array ds) e = absurd (cc)
source_tag (object ms) e = absurd (cc)

input_by : (one two three four : Bool) → (if one then Kind.Test else (if two then Kind.Div else (if three then Kind.Source else (if four then Kind.Input else Kind.Other)))) ≡ Kind.Input → four ≡ true
input_by true two three four e = absurd (cc)
input_by false true three four e = absurd (cc)
input_by false false true four e = absurd (cc)
input_by false false false true e = refl
input_by false false false false e = absurd (cc)

input_tag : (d : Data) → tree_kind_of_tag (as_str d) ≡ Kind.Input → string (codes "i") ≡ d
input_tag null e = absurd (cc)
input_tag (boolean b) e = absurd (cc)
input_tag (number n) e = absurd (cc)
input_tag (string s) e = ap string (sym ((bytes_eq-Decides s (codes "i")).0 (input_by (bytes_eq s (codes "t")) (bytes_eq s (codes "d")) (bytes_eq s (codes "w")) (bytes_eq s (codes "i")) e)))
input_tag (array ds) e = absurd (cc)
input_tag (object ms) e = absurd (cc)

pub is_test : (f : Affine) (vs : List Value) (a : Value) → tree_kind_of (items_view vs) ≡ Kind.Test → length vs ≡ 2 → form_value f ≡ view (get_or vs 1 a) → test_node f ≡ array (items_view vs)
is_test f [] a k h e = absurd (omega arith)
is_test f (t ∷ []) a k h e = absurd (omega arith)
is_test f (t ∷ b ∷ []) a k h e = ap₂ (λ x y. list_value (x ∷ y ∷ [])) (test_tag (view t) k) e
is_test f (t ∷ b ∷ c ∷ vs) a k h e = absurd (omega arith)

pub is_div : (f : Affine) (by : ℤ) (vs : List Value) (a b : Value) → tree_kind_of (items_view vs) ≡ Kind.Div → length vs ≡ 3 → form_value f ≡ view (get_or vs 1 a) → whole_value by ≡ view (get_or vs 2 b)
    → div_node f by ≡ array (items_view vs)
is_div f by [] a b k h e g = absurd (omega arith)
is_div f by (t ∷ []) a b k h e g = absurd (omega arith)
is_div f by (t ∷ x ∷ []) a b k h e g = absurd (omega arith)
is_div f by (t ∷ x ∷ y ∷ []) a b k h e g = rw (div_tag (view t) k, e, g) refl
is_div f by (t ∷ x ∷ y ∷ z ∷ vs) a b k h e g = absurd (omega arith)

pub is_source : (s : ℕ) (fs : List Affine) (vs : List Value) (a b : Value) → tree_kind_of (items_view vs) ≡ Kind.Source → length vs ≡ 3 → whole_value (pos s) ≡ view (get_or vs 1 a)
    → forms_value fs ≡ view (get_or vs 2 b) → source_node s fs ≡ array (items_view vs)
is_source s fs [] a b k h e g = absurd (omega arith)
is_source s fs (t ∷ []) a b k h e g = absurd (omega arith)
is_source s fs (t ∷ x ∷ []) a b k h e g = absurd (omega arith)
is_source s fs (t ∷ x ∷ y ∷ []) a b k h e g = rw (source_tag (view t) k, e, g) refl
is_source s fs (t ∷ x ∷ y ∷ z ∷ vs) a b k h e g = absurd (omega arith)

pub ruleset tree_parts_found = (is_test, is_div, is_source)

pub is_input : (vs : List Value) → tree_kind_of (items_view vs) ≡ Kind.Input → length vs ≡ 1 → input_node ≡ array (items_view vs)
is_input [] k h = absurd (omega arith)
is_input (t ∷ []) k h = ap (λ x. list_value (x ∷ [])) (input_tag (view t) k)
is_input (t ∷ a ∷ vs) k h = absurd (omega arith)

pub ruleset tree_node_steps = (is_array, is_input)

pub tree_stack_top : (ts : List Quast) (t : Quast) → tree_stack_nodes (ts ++ t ∷ []) ≡ tree_nodes_of (seen t) ++ tree_stack_nodes ts
tree_stack_top [] t = sym (append-nil (tree_nodes_of (seen t)))
tree_stack_top (q ∷ ts) t = ap (λ ds. ds ++ tree_nodes_of (seen q)) (tree_stack_top ts t) ∙ append_assoc (tree_nodes_of (seen t)) (tree_stack_nodes ts) (tree_nodes_of (seen q))

pub ruleset tree_stack_steps = (tree_stack_top, append_assoc)

pub ruleset tree_stack_ends = (tree_stack_top, append-nil)
