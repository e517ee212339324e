-- An order that agrees with the target is the target.
use Rattle.std.proofs.Common.{◌≡◌, List, [], ◌∷◌, refl, sym, ap, subst, ◌∙◌, inl, inr}
use Rattle.affc_ast.specs.declared.tree.Instance.{Instance}
use Rattle.affc_trace.specs.Law.{IsIn}
use Rattle.affc_trace.specs.Orders.{Earlier, AreDistinct}
use Rattle.affc_trace.specs.Target.{target}
use Rattle.affc_trace.proofs.Contents.{target_is_reordered_law}
use Rattle.affc_trace.proofs.Legality.{earlier_is_in, one_way}
use Rattle.affc_floor.specs.PositionLaws.{OrderIsTarget}

pub same_order : (xs ys : List Instance) → AreDistinct xs → AreDistinct ys → ((a : Instance) → IsIn a xs → IsIn a ys) → ((a : Instance) → IsIn a ys → IsIn a xs)
    → ((a b : Instance) → Earlier xs a b → Earlier ys a b) → xs ≡ ys
same_order [] [] d e f g h = refl
same_order [] (y ∷ ys) d e f g h = absurd (g y (inl refl))
same_order (x ∷ xs) [] d e f g h = absurd (f x (inl refl))
same_order (x ∷ xs) (y ∷ ys) d e f g h =
    let first : x ≡ y = elim (f x (inl refl)) [
      | inl q ↦ q
      | inr i ↦ elim (g y (inl refl)) [
        | inl q ↦ sym q
        | inr j ↦ absurd (one_way (y ∷ ys) x y e (h x y (inl (refl, j))) (inl (refl, i)))
      ]
    ] in
    let tails : xs ≡ ys = same_order xs ys d.1 e.1
    (λ a i. elim (f a (inr i)) [ inl q ↦ absurd (d.0 (subst (λ z. IsIn z xs) (q ∙ sym first) i)) | inr j ↦ j ])
    (λ a i. elim (g a (inr i)) [ inl q ↦ absurd (e.0 (subst (λ z. IsIn z ys) (q ∙ first) i)) | inr j ↦ j ])
    (λ a b k. elim (h a b (inr k)) [ inl q ↦ absurd (d.0 (subst (λ z. IsIn z xs) (q.0 ∙ sym first) (earlier_is_in xs a b k))) | inr j ↦ j ]) in
    ap (λ z. z ∷ xs) first ∙ ap (λ l. y ∷ l) tails

pub order_is_target : OrderIsTarget
order_is_target program schedule p order distinct members agrees =
    let re = target_is_reordered_law program schedule p in
    same_order order (target program schedule p) distinct re.once_in_target (λ a i. re.kept a ((members a).0 i)) (λ a i. (members a).1 (re.no_other a i)) agrees
