-- The value of a mixed row at a rational point.
use Rattle.std.proofs.Common.{◌≡◌, List, length, ℤ, ◌+ℤ◌, ◌*ℤ◌, ap, ◌∙◌, arith}
use Rattle.std.proofs.lemmas.Int.{ints}
use Rattle.affc_rows.specs.Forms.{Affine, dot, mixed_form}
use Rattle.affc_rows.proofs.IntLemmas.{mul-add}
use Rattle.affc_rows.proofs.ValueLemmas.{dot-mixed}
use Rattle.affc_farkas.specs.Rational.{scaled_value}
use Rattle.affc_farkas.proofs.Between.{swap}

spread : (w u v p q r1 r2 : ℤ) → w ≡ u +ℤ v → r1 ≡ u +ℤ p → r2 ≡ v +ℤ q → w +ℤ (p +ℤ q) ≡ r1 +ℤ r2
spread w u v p q r1 r2 a b e = omega (arith, ints)

pub scaled_value-mixed : (s : ℤ) (f : Affine) (t : ℤ) (g : Affine) (x : List ℤ) (d : ℤ) → length f.coefs ≡ length g.coefs → length f.coefs ≡ length x
    → scaled_value (mixed_form s f t g) x d ≡ (s *ℤ scaled_value f x d) +ℤ (t *ℤ scaled_value g x d)
scaled_value-mixed s f t g x d h l =
    let e = dot-mixed s f.coefs t g.coefs x h l in
    let m = mul-add d (s *ℤ f.constant) (t *ℤ g.constant) in
    let a = mul-add s (dot f.coefs x) (d *ℤ f.constant) ∙ ap (λ z. (s *ℤ dot f.coefs x) +ℤ z) (swap s d f.constant) in
    let b = mul-add t (dot g.coefs x) (d *ℤ g.constant) ∙ ap (λ z. (t *ℤ dot g.coefs x) +ℤ z) (swap t d g.constant) in
    ap (λ z. dot (mixed_form s f t g).coefs x +ℤ z) m
    ∙ spread _ (s *ℤ dot f.coefs x) (t *ℤ dot g.coefs x) (d *ℤ (s *ℤ f.constant)) (d *ℤ (t *ℤ g.constant)) _ _ e a b
