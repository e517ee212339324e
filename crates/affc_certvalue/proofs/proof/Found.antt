-- What a proof is, from what the looks into a value gave.
use Rattle.affc_certvalue.specs.proof.Proofs.{steps_of}
use Rattle.affc_certvalue.specs.proof.Stacks.{stack_nodes}
use Rattle.affc_certvalue.specs.proof.Values.{pair_value, multipliers_value, leaf_node, cut_node, split_node, nodes_of}
use Rattle.affc_certvalue.specs.proof.Verdicts.{kind_of, kind_of_tag}
use Rattle.affc_certvalue.specs.declared.proof.kind.Kind.TheVariants as Kind
use Rattle.affc_certvalue.proofs.Found.{is_list}
use Rattle.affc_certvalue.specs.Values.{whole_value, list_value, numbers_value, form_value}
use Rattle.affc_farkas.specs.declared.proof.Proof.{Proof}
use Rattle.affc_rows.specs.Forms.{Affine}
use Rattle.serde_json.specs.Data.{Data, null, boolean, number, string, array, object}
use Rattle.serde_json.specs.Find.{as_array, as_str}
use Rattle.serde_json.specs.View.{view, items_view}
use Rattle.serde_json.specs.declared.value.Value.{Value}
use Rattle.std.proofs.Common.{◌≡◌, ℕ, ◌+◌, ◌-◌, ℤ, pos, List, [], ◌∷◌, ◌++◌, length, get_or, map, Some, refl, sym, ap, ap₂, ◌∙◌, arith, Bool, true, false, if◌then◌else◌, codes, bytes_eq, append-nil, append_assoc}
use Rattle.std.proofs.lemmas.Slice.Eq.{bytes_eq-Decides}

pub is_multipliers : (by : List (ℕ × ℕ)) (d : Data) (vs : List Value) → Some (items_view vs) ≡ as_array d → map pair_value by ≡ map view vs → multipliers_value by ≡ d
is_multipliers by d vs e f = is_list d vs (map pair_value by) e f

two_values : (vs : List Value) (d e : Value) → length vs ≡ 2 → view (get_or vs 0 d) ∷ view (get_or vs 1 e) ∷ [] ≡ map view vs
two_values [] d e h = absurd (omega arith)
two_values (a ∷ []) d e h = absurd (omega arith)
two_values (a ∷ b ∷ []) d e h = refl
two_values (a ∷ b ∷ c ∷ vs) d e h = absurd (omega arith)

pub is_pair : (p : ℕ × ℕ) (d : Data) (vs : List Value) (a b : Value) → Some (items_view vs) ≡ as_array d → length vs ≡ 2 → whole_value (pos p.0) ≡ view (get_or vs 0 a) → whole_value (pos p.1) ≡ view (get_or vs 1 b) → pair_value p ≡ d
is_pair p d vs a b e h f g = is_list d vs _ e (ap₂ (λ x y. x ∷ y ∷ []) f g ∙ two_values vs a b h)

pub ruleset pair_steps = (is_pair, is_list)

-- ---- Nodes

tag_by : (one two three : Bool) (s : List ℕ) → (if one then Kind.Leaf else (if two then Kind.Cut else (if three then Kind.Split else Kind.Other))) ≡ Kind.Leaf → one ≡ true
tag_by true two three s e = refl
tag_by false true three s e = absurd (cc)
tag_by false false true s e = absurd (cc)
tag_by false false false s e = absurd (cc)

cut_by : (one two three : Bool) → (if one then Kind.Leaf else (if two then Kind.Cut else (if three then Kind.Split else Kind.Other))) ≡ Kind.Cut → two ≡ true
cut_by true two three e = absurd (cc)
cut_by false true three e = refl
cut_by false false true e = absurd (cc)
cut_by false false false e = absurd (cc)

split_by : (one two three : Bool) → (if one then Kind.Leaf else (if two then Kind.Cut else (if three then Kind.Split else Kind.Other))) ≡ Kind.Split → three ≡ true
split_by true two three e = absurd (cc)
split_by false true three e = absurd (cc)
split_by false false true e = refl
split_by false false false e = absurd (cc)

leaf_tag : (d : Data) → kind_of_tag (as_str d) ≡ Kind.Leaf → string (codes "f") ≡ d
leaf_tag null e = absurd (cc)
leaf_tag (boolean b) e = absurd (cc)
leaf_tag (number n) e = absurd (cc)
leaf_tag (string s) e = ap string (sym ((bytes_eq-Decides s (codes "f")).0 (tag_by (bytes_eq s (codes "f")) (bytes_eq s (codes "c")) (bytes_eq s (codes "s")) s e)))
leaf_tag (array ds) e = absurd (cc)
leaf_tag (object ms) e = absurd (cc)

cut_tag : (d : Data) → kind_of_tag (as_str d) ≡ Kind.Cut → string (codes "c") ≡ d
cut_tag null e = absurd (cc)
cut_tag (boolean b) e = absurd (cc)
cut_tag (number n) e = absurd (cc)
cut_tag (string s) e = ap string (sym ((bytes_eq-Decides s (codes "c")).0 (cut_by (bytes_eq s (codes "f")) (bytes_eq s (codes "c")) (bytes_eq s (codes "s")) e)))
cut_tag (array ds) e = absurd (cc)
cut_tag (object ms) e = absurd (cc)

split_tag : (d : Data) → kind_of_tag (as_str d) ≡ Kind.Split → string (codes "s") ≡ d
split_tag null e = absurd (cc)
split_tag (boolean b) e = absurd (cc)
split_tag (number n) e = absurd (cc)
split_tag (string s) e = ap string (sym ((bytes_eq-Decides s (codes "s")).0 (split_by (bytes_eq s (codes "f")) (bytes_eq s (codes "c")) (bytes_eq s (codes "s")) e)))
split_tag (array ds) e = absurd (cc)
split_tag (object ms) e = absurd (cc)

pub is_leaf : (by : List (ℕ × ℕ)) (vs : List Value) (a : Value) → kind_of (items_view vs) ≡ Kind.Leaf → length vs ≡ 2 → multipliers_value by ≡ view (get_or vs 1 a) → leaf_node by ≡ array (items_view vs)
is_leaf by [] a k h e = absurd (omega arith)
is_leaf by (t ∷ []) a k h e = absurd (omega arith)
is_leaf by (t ∷ b ∷ []) a k h e = ap₂ (λ x y. list_value (x ∷ y ∷ [])) (leaf_tag (view t) k) e
is_leaf by (t ∷ b ∷ c ∷ vs) a k h e = absurd (omega arith)

pub is_cut : (by : List (ℕ × ℕ)) (g : ℤ) (row : Affine) (vs : List Value) (a b c : Value) → kind_of (items_view vs) ≡ Kind.Cut → length vs ≡ 4
    → multipliers_value by ≡ view (get_or vs 1 a) → whole_value g ≡ view (get_or vs 2 b) → form_value row ≡ view (get_or vs 3 c) → cut_node by g row ≡ array (items_view vs)
is_cut by g row [] a b c k h e f r = absurd (omega arith)
is_cut by g row (t ∷ []) a b c k h e f r = absurd (omega arith)
is_cut by g row (t ∷ x ∷ []) a b c k h e f r = absurd (omega arith)
is_cut by g row (t ∷ x ∷ y ∷ []) a b c k h e f r = absurd (omega arith)
is_cut by g row (t ∷ x ∷ y ∷ z ∷ []) a b c k h e f r = rw (cut_tag (view t) k, e, f, r) refl
is_cut by g row (t ∷ x ∷ y ∷ z ∷ w ∷ vs) a b c k h e f r = absurd (omega arith)

pub is_split : (cs : List ℤ) (at : ℤ) (vs : List Value) (a b : Value) → kind_of (items_view vs) ≡ Kind.Split → length vs ≡ 3
    → numbers_value cs ≡ view (get_or vs 1 a) → whole_value at ≡ view (get_or vs 2 b) → split_node cs at ≡ array (items_view vs)
is_split cs at [] a b k h e f = absurd (omega arith)
is_split cs at (t ∷ []) a b k h e f = absurd (omega arith)
is_split cs at (t ∷ x ∷ []) a b k h e f = absurd (omega arith)
is_split cs at (t ∷ x ∷ y ∷ []) a b k h e f = rw (split_tag (view t) k, e, f) refl
is_split cs at (t ∷ x ∷ y ∷ z ∷ vs) a b k h e f = absurd (omega arith)

pub ruleset node_parts = (is_leaf, is_cut, is_split)

-- ---- The stack

pub stack_top : (ps : List Proof) (p : Proof) → stack_nodes (ps ++ p ∷ []) ≡ nodes_of (steps_of p) ++ stack_nodes ps
stack_top [] p = sym (append-nil (nodes_of (steps_of p)))
stack_top (q ∷ ps) p = ap (λ ds. ds ++ nodes_of (steps_of q)) (stack_top ps p) ∙ append_assoc (nodes_of (steps_of p)) (stack_nodes ps) (nodes_of (steps_of q))

pub ruleset stack_steps = (stack_top, append_assoc)

pub ruleset stack_ends = (stack_top, append-nil)
