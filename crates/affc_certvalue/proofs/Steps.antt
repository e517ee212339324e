-- How verdicts on lists go along the lists.
use Rattle.affc_certvalue.specs.Verdicts.{worse, all_of}
use Rattle.affc_certvalue.specs.declared.verdict.Verdict.{Verdict}
use Rattle.affc_certvalue.specs.declared.verdict.Verdict.TheVariants.{Shape, Number, Fine}
use Rattle.serde_json.specs.Data.{Data, no_items, item}
use Rattle.serde_json.specs.View.{view, items_view}
use Rattle.serde_json.specs.declared.value.Value.{Value}
use Rattle.std.proofs.Common.{◌≡◌, ℕ, zero, suc, ◌+◌, ◌<◌, ◌≤◌, List, [], ◌∷◌, length, get_or, drop, add-one, ap₂, refl, sym, ap, ◌∙◌, arith}

pub worse_worse : (a b c : Verdict) → worse (worse a b) c ≡ worse a (worse b c)
worse_worse Shape b c = refl
worse_worse Number Shape c = refl
worse_worse Number Number Shape = refl
worse_worse Number Number Number = refl
worse_worse Number Number Fine = refl
worse_worse Number Fine Shape = refl
worse_worse Number Fine Number = refl
worse_worse Number Fine Fine = refl
worse_worse Fine b c = refl

pub worse_fine : (a : Verdict) → worse a Fine ≡ a
worse_fine Shape = refl
worse_fine Number = refl
worse_fine Fine = refl

pub worse_shape : (a : Verdict) → worse a Shape ≡ Shape
worse_shape Shape = refl
worse_shape Number = refl
worse_shape Fine = refl

-- the values from a place on: the one there, and those behind it
pub next_item : (vs : List Value) (i : ℕ) (d : Value) → i < length vs → items_view (drop i vs) ≡ item (view (get_or vs i d)) (items_view (drop (suc i) vs))
next_item [] i d h = absurd (omega arith)
next_item (v ∷ vs) zero d h = refl
next_item (v ∷ vs) (suc i) d h = next_item vs i d (omega arith)

pub no_item : (vs : List Value) (i : ℕ) → length vs ≤ i → items_view (drop i vs) ≡ no_items
no_item [] zero h = refl
no_item [] (suc i) h = refl
no_item (v ∷ vs) zero h = absurd (omega arith)
no_item (v ∷ vs) (suc i) h = no_item vs i (omega arith)

-- one more value of a list is judged
pub all_kept : (judge : Data → Verdict) (vs : List Value) (i : ℕ) (d : Value) (w v x whole : Verdict) → i < length vs
    → worse w (all_of judge (items_view (drop i vs))) ≡ whole → v ≡ worse w x → x ≡ judge (view (get_or vs i d))
    → worse v (all_of judge (items_view (drop (i + 1) vs))) ≡ whole
all_kept judge vs i d w v x whole h e f g =
    let rest = all_of judge (items_view (drop (suc i) vs)) in
    ap₂ worse (f ∙ ap (worse w) g) (ap (λ q. all_of judge (items_view (drop q vs))) (add-one i)) ∙ worse_worse w (judge (view (get_or vs i d))) rest
    ∙ ap (λ ds. worse w (all_of judge ds)) (sym (next_item vs i d h)) ∙ e

pub ruleset list_steps = (worse_worse, worse_fine, worse_shape, next_item, no_item)
