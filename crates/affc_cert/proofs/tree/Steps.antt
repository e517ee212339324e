-- Verdicts on the nodes of a tree, at the places of a list.
use Rattle.affc_cert.specs.tree.Taken.{IsTaken}
use Rattle.affc_cert.specs.tree.Trees.{loops_at, source_number, source_parts, tree_kind_of, kind_in, opened, tree_node, tree_nodes}
use Rattle.affc_cert.specs.declared.tree.kind.Place.{Place}
use Rattle.affc_cert.specs.declared.tree.kind.TreeKind.{TreeKind as Kind}
use Rattle.affc_cert.specs.declared.tree.kind.TreeKind.TheVariants as TreeKind
use Rattle.affc_cert.specs.declared.tree.layout.Store.{Store}
use Rattle.affc_certvalue.proofs.Parts.{other_than_one, other_than_2, tagged_one, tagged_two}
use Rattle.affc_certvalue.proofs.Steps.{worse_worse, worse_fine, worse_shape, next_item, no_item}
use Rattle.affc_certvalue.specs.Verdicts.{worse, exactly, behind_tag, list}
use Rattle.affc_certvalue.specs.declared.verdict.Verdict.{Verdict}
use Rattle.affc_certvalue.specs.declared.verdict.Verdict.TheVariants.{Shape, Fine}
use Rattle.serde_json.specs.Data.{Data, item}
use Rattle.serde_json.specs.Find.{as_number, as_array}
use Rattle.serde_json.specs.View.{view, items_view}
use Rattle.serde_json.specs.declared.value.Value.{Value}
use Rattle.std.proofs.Common.{◌≡◌, ◌≢◌, ℕ, zero, suc, ◌+◌, ◌<◌, ◌≤◌, List, [], ◌∷◌, ◌++◌, length, get_or, drop, reverse, Some, None, refl, sym, ap, ap₂, subst, ◌∙◌, arith, add-one, eq-eqb, ne_eqb}
use Rattle.std.proofs.lemmas.List.{reverse-append, length-reverse}

loop_other_by_one : (ss : List Store) (n i : ℕ) (d : Store) → i < length ss → (get_or ss i d).statement ≢ n → loops_at n (drop i ss) ≡ loops_at n (drop (suc i) ss)
loop_other_by_one [] n i d h e = absurd (omega arith)
loop_other_by_one (s ∷ ss) n zero d h e = rw (ne_eqb n s.statement (λ same. e (sym same))) refl
loop_other_by_one (s ∷ ss) n (suc i) d h e = loop_other_by_one ss n i d (omega arith) e

pub loop_other : (ss : List Store) (n i : ℕ) (d : Store) → i < length ss → (get_or ss i d).statement ≢ n → loops_at n (drop i ss) ≡ loops_at n (drop (i + 1) ss)
loop_other ss n i d h e = loop_other_by_one ss n i d h e ∙ ap (λ k. loops_at n (drop k ss)) (sym (add-one i))

pub loop_here : (ss : List Store) (n i : ℕ) (d : Store) → i < length ss → (get_or ss i d).statement ≡ n → loops_at n (drop i ss) ≡ Some (get_or ss i d).loops
loop_here [] n i d h e = absurd (omega arith)
loop_here (s ∷ ss) n zero d h e = rw (eq-eqb n s.statement (sym e)) refl
loop_here (s ∷ ss) n (suc i) d h e = loop_here ss n i d (omega arith) e

pub loop_none : (ss : List Store) (n i : ℕ) → length ss ≤ i → loops_at n (drop i ss) ≡ None
loop_none [] n zero h = refl
loop_none [] n (suc i) h = refl
loop_none (s ∷ ss) n zero h = absurd (omega arith)
loop_none (s ∷ ss) n (suc i) h = loop_none ss n i (omega arith)

pub ruleset loop_steps = (loop_other, loop_here, loop_none)

-- the number of a leaf's statement, and its forms
pub source_three : (ss : List Store) (columns : ℕ) (vs : List Value) (d e : Value) → length vs ≡ 3
    → source_parts ss columns (behind_tag (items_view vs)) ≡ source_number ss columns (as_number (view (get_or vs 1 d))) (view (get_or vs 2 e))
source_three ss columns [] d e h = absurd (omega arith)
source_three ss columns (t ∷ []) d e h = absurd (omega arith)
source_three ss columns (t ∷ a ∷ []) d e h = absurd (omega arith)
source_three ss columns (t ∷ a ∷ b ∷ []) d e h = refl
source_three ss columns (t ∷ a ∷ b ∷ c ∷ vs) d e h = absurd (omega arith)

pub source_other : (ss : List Store) (columns : ℕ) (vs : List Value) → length vs ≢ 3 → source_parts ss columns (behind_tag (items_view vs)) ≡ Shape
source_other ss columns [] h = refl
source_other ss columns (t ∷ []) h = refl
source_other ss columns (t ∷ a ∷ []) h = refl
source_other ss columns (t ∷ a ∷ b ∷ []) h = absurd (h refl)
source_other ss columns (t ∷ a ∷ b ∷ c ∷ vs) h = refl

pub ruleset source_steps = (source_three, source_other)

pub none_behind : (vs : List Value) → length vs ≡ 1 → exactly [] (behind_tag (items_view vs)) ≡ Fine
none_behind [] h = absurd (omega arith)
none_behind (t ∷ []) h = refl
none_behind (t ∷ a ∷ vs) h = absurd (omega arith)

pub some_behind : (vs : List Value) → tree_kind_of (items_view vs) ≡ TreeKind.Input → length vs ≢ 1 → exactly [] (behind_tag (items_view vs)) ≡ Shape
some_behind [] k h = absurd (cc)
some_behind (t ∷ []) k h = absurd (h refl)
some_behind (t ∷ a ∷ vs) k h = refl

pub ruleset node_parts = (worse_shape, other_than_one, other_than_2, tagged_one, tagged_two, none_behind, some_behind)

-- ---- Places on a stack, whose last comes first

pub top_place : {A : Type 0} (xs : List A) (x : A) → reverse (xs ++ x ∷ []) ≡ x ∷ reverse xs
top_place xs x = reverse-append xs (x ∷ [])

pub ruleset open_steps = (top_place, add-one)

pub node_taken : (ss : List Store) (place : Place) (before now after : List Place) (kind : Kind) (d : Data) (x : Verdict) → before ≡ place ∷ now → x ≡ list (tree_node ss place) d
    → kind ≡ kind_in (as_array d) → after ≡ opened place kind now → IsTaken ss d x before after
node_taken ss place before now after kind d x b g k a ds =
    ap (λ ps. tree_nodes ss ps (item d ds)) b ∙ ap₂ (λ v ps. worse v (tree_nodes ss ps ds)) (sym g) (sym (a ∙ ap (λ t. opened place t now) k))

pub no_place : (ss : List Store) (vs : List Value) (i : ℕ) → i < length vs → tree_nodes ss [] (items_view (drop i vs)) ≡ Shape
no_place ss [] i h = absurd (omega arith)
no_place ss (v ∷ vs) zero h = refl
no_place ss (v ∷ vs) (suc i) h = no_place ss vs i (omega arith)

places_left : (ss : List Store) (vs : List Value) (i : ℕ) (places : List Place) → length vs ≤ i → 0 < length places → tree_nodes ss places (items_view (drop i vs)) ≡ Shape
places_left ss vs i [] h some = absurd (omega arith)
places_left ss vs i (p ∷ ps) h some = ap (tree_nodes ss (p ∷ ps)) (no_item vs i h)

pub left_open : (ss : List Store) (vs : List Value) (i : ℕ) (places : List Place) (w whole : Verdict) → length vs ≤ i → 0 < length places → worse w (tree_nodes ss (reverse places) (items_view (drop i vs))) ≡ whole → Shape ≡ whole
left_open ss vs i places w whole h some e =
    sym (ap (worse w) (places_left ss vs i (reverse places) h (subst (λ n. 0 < n) (sym (length-reverse places)) some)) ∙ worse_shape w) ∙ e

pub all_closed : (ss : List Store) (vs : List Value) (i : ℕ) (places : List Place) (w whole : Verdict) → length vs ≤ i → length places ≡ 0 → worse w (tree_nodes ss (reverse places) (items_view (drop i vs))) ≡ whole → w ≡ whole
all_closed ss vs i [] w whole h none e = sym (ap (worse w) (ap (tree_nodes ss []) (no_item vs i h)) ∙ worse_fine w) ∙ e
all_closed ss vs i (p ∷ ps) w whole h none e = absurd (omega arith)

pub place_kept : (ss : List Store) (vs : List Value) (i : ℕ) (d : Value) (before after : List Place) (w v x whole : Verdict) → i < length vs
    → worse w (tree_nodes ss before (items_view (drop i vs))) ≡ whole → v ≡ worse w x → IsTaken ss (view (get_or vs i d)) x before after
    → worse v (tree_nodes ss after (items_view (drop (i + 1) vs))) ≡ whole
place_kept ss vs i d before after w v x whole h e f taken =
    let behind = items_view (drop (suc i) vs) in
    ap₂ worse f (ap (λ j. tree_nodes ss after (items_view (drop j vs))) (add-one i)) ∙ worse_worse w x (tree_nodes ss after behind) ∙ ap (worse w) (sym (taken behind))
    ∙ ap (λ ds. worse w (tree_nodes ss before ds)) (sym (next_item vs i d h)) ∙ e
