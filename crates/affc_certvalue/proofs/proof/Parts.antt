-- Verdicts on multipliers and on the nodes of a proof, at the places of a list.
use Rattle.affc_certvalue.specs.proof.Verdicts.{pair, multipliers, order_from, proof_node, proof_nodes, arity_of}
use Rattle.affc_certvalue.proofs.Steps.{worse_worse, worse_fine, worse_shape, next_item, no_item}
use Rattle.affc_certvalue.specs.Verdicts.{worse, all_of, list}
use Rattle.affc_certvalue.specs.declared.verdict.Verdict.{Verdict}
use Rattle.affc_certvalue.specs.declared.verdict.Verdict.TheVariants.{Shape, Fine}
use Rattle.serde_json.proofs.Views.{items_len-items_view}
use Rattle.serde_json.specs.Find.{as_array}
use Rattle.serde_json.specs.View.{view, items_view}
use Rattle.serde_json.specs.declared.value.Value.{Value}
use Rattle.std.proofs.Common.{◌≡◌, ◌≢◌, ℕ, zero, suc, ◌+◌, ◌-◌, ◌<◌, ◌≤◌, List, [], ◌∷◌, length, get_or, drop, None, true, add-one, ap₂, lt-ltb, le-ltb, refl, sym, ap, ◌∙◌, arith}

-- ---- The number of multipliers

pub multipliers_many : (vs : List Value) → 1024 < length vs → multipliers (items_view vs) ≡ Shape
multipliers_many vs h = rw (items_len-items_view vs, lt-ltb 1024 (length vs) h) refl

pub multipliers_few : (vs : List Value) → length vs ≤ 1024 → multipliers (items_view vs) ≡ worse (order_from None true (items_view vs)) (all_of pair (items_view vs))
multipliers_few vs h = rw (items_len-items_view vs, le-ltb 1024 (length vs) h) refl

pub ruleset multiplier_count = (multipliers_many, multipliers_few)

-- ---- Nodes

pub node_step : (vs : List Value) (i : ℕ) (d : Value) (n : ℕ) → i < length vs
    → proof_nodes (suc n) (items_view (drop i vs)) ≡ worse (list proof_node (view (get_or vs i d))) (proof_nodes (n + arity_of (as_array (view (get_or vs i d)))) (items_view (drop (suc i) vs)))
node_step vs i d n h = ap (proof_nodes (suc n)) (next_item vs i d h)

pub node_late : (vs : List Value) (i : ℕ) → i < length vs → proof_nodes 0 (items_view (drop i vs)) ≡ Shape
node_late [] i h = absurd (omega arith)
node_late (v ∷ vs) zero h = refl
node_late (v ∷ vs) (suc i) h = node_late vs i (omega arith)

pub node_early : (vs : List Value) (i n : ℕ) → length vs ≤ i → 0 < n → proof_nodes n (items_view (drop i vs)) ≡ Shape
node_early vs i zero h some = absurd (omega arith)
node_early vs i (suc n) h some = ap (proof_nodes (suc n)) (no_item vs i h)

pub node_end : (vs : List Value) (i : ℕ) → length vs ≤ i → proof_nodes 0 (items_view (drop i vs)) ≡ Fine
node_end vs i h = ap (proof_nodes 0) (no_item vs i h)

pub node_kept : (vs : List Value) (i n k : ℕ) (d : Value) (w v x whole : Verdict) → i < length vs → n ≢ 0
    → worse w (proof_nodes n (items_view (drop i vs))) ≡ whole → v ≡ worse w x → x ≡ list proof_node (view (get_or vs i d)) → k ≡ arity_of (as_array (view (get_or vs i d)))
    → worse v (proof_nodes (n - 1 + k) (items_view (drop (i + 1) vs))) ≡ whole
node_kept vs i zero k d w v x whole h some e f g a = absurd (some refl)
node_kept vs i (suc n) k d w v x whole h some e f g a =
    let same : proof_nodes (suc n - 1 + k) (items_view (drop (i + 1) vs)) ≡ proof_nodes (n + arity_of (as_array (view (get_or vs i d)))) (items_view (drop (suc i) vs)) =
    let less : suc n - 1 ≡ n = omega arith in
    ap₂ (λ p q. proof_nodes p (items_view (drop q vs))) (ap (λ p. p + k) less ∙ ap (λ p. n + p) a) (add-one i) in
    let here = list proof_node (view (get_or vs i d)) in
    let behind = proof_nodes (n + arity_of (as_array (view (get_or vs i d)))) (items_view (drop (suc i) vs)) in
    ap₂ worse (f ∙ ap (worse w) g) same ∙ worse_worse w here behind ∙ ap (worse w) (sym (node_step vs i d n h)) ∙ e

pub ruleset node_steps = (worse_worse, worse_fine, worse_shape, node_late, node_early, node_end, node_kept)
