-- Values of forms at rational points.
use Rattle.std.proofs.Common.{◌≡◌, ℕ, zero, suc, ◌+◌, List, [], ◌∷◌, ◌++◌, length, map, get_or, replicate, ℤ, pos, negsuc, ◌+ℤ◌, ◌-ℤ◌, ◌*ℤ◌, ◌≤ℤ◌, neg_ℤ, refl, sym, ap, subst, ◌∙◌, arith}
use Rattle.std.specs.Prelude.{◌↔◌}
use Rattle.std.specs.List.{All}
use Rattle.std.proofs.lemmas.Int.{ints}
use Rattle.std.proofs.lemmas.List.{length-map}
use Rattle.std.proofs.lemmas.List.Elements.{All-nil, All-cons}
use lib.IntN.{*ℤ-zero}
use Rattle.affc_rows.specs.Forms.{Affine, dot, value, mixed_form, HaveColumns, column_of, constants_of, values_of, composed}
use Rattle.affc_rows.specs.Vocabulary.{form_at}
use Rattle.affc_rows.proofs.IntLemmas.{mul-add}
use Rattle.affc_farkas.specs.Rational.{scaled_value}
use Rattle.affc_farkas.proofs.Between.{swap}
use Rattle.affc_farkas.proofs.Points.{scaled_value-mixed}
use Rattle.affc_eliminate.proofs.Rooms.{mul-neg}
use Rattle.affc_eliminate.proofs.project.Points.{itself}
use Rattle.affc_ast.specs.declared.tree.Ix.{Ix}
use Rattle.affc_ast.specs.declared.tree.Rel.{Rel}
use Rattle.affc_ast.specs.declared.tree.Rel.TheVariants.{Less, LessEqual, Greater, GreaterEqual, Equal, NotEqual}
use Rattle.affc_domain.specs.Affine.{form_of}
use Rattle.affc_domain.proofs.FormLemmas.{form_width, column_value, number_value}
use Rattle.affc_nest.specs.Domains.{gap_row, compare_rows, column_form, number_form}
use Rattle.affc_nest.proofs.WidenLemmas.{widen_form}
use Rattle.affc_order.proofs.ColumnLemmas.{at_value}
use Rattle.affc_loopends.specs.TimeSets.{scaled_at, AreRelated}

-- ---- Rows one after the other

-- each of these rows is at least 0 at x / d
abbrev pub Held : List ℤ → ℤ → List Affine → Type 0
Held x d [] = Unit {0}
Held x d (r ∷ rs) = (pos 0 ≤ℤ scaled_value r x d) × Held x d rs

pub held_all : (x : List ℤ) (d : ℤ) (rows : List Affine) → All (λ r. pos 0 ≤ℤ scaled_value r x d) rows ↔ Held x d rows
held_all x d [] = ((λ a. tt), (λ h. All-nil (λ r. pos 0 ≤ℤ scaled_value r x d)))
held_all x d (r ∷ rs) = let h = held_all x d rs in (
  (λ a. (a 0 r (omega arith), h.0 (λ i k lt. a (suc i) k (omega arith)))),
  (λ m. All-cons (λ q. pos 0 ≤ℤ scaled_value q x d) r rs m.0 (h.1 m.1)),
)

pub held_append : (x : List ℤ) (d : ℤ) (rows more : List Affine) → Held x d (rows ++ more) ↔ (Held x d rows × Held x d more)
held_append x d [] more = ((λ h. (tt, h)), (λ h. h.1))
held_append x d (r ∷ rs) more = let h = held_append x d rs more in (
  (λ a. let b = h.0 a.1 in ((a.0, b.0), b.1)),
  (λ m. (m.0.0, h.1 (m.0.1, m.1))),
)

-- ---- Differences

-- the value of b - a - k
pub gap_scaled : (a b : Affine) (k : ℕ) (x : List ℤ) (d : ℤ) → length a.coefs ≡ length x → length b.coefs ≡ length x
    → scaled_value (gap_row a b k) x d ≡ (scaled_value b x d -ℤ scaled_value a x d) -ℤ (d *ℤ pos k)
gap_scaled a b k x d h g =
    let m = mixed_form (pos 1) b (negsuc 0) a in
    let less : d *ℤ (m.constant -ℤ pos k) ≡ (d *ℤ m.constant) -ℤ (d *ℤ pos k) = split d m.constant (pos k) in
    moved (dot m.coefs x) (d *ℤ (m.constant -ℤ pos k)) (d *ℤ m.constant) (scaled_value b x d) (scaled_value a x d) (d *ℤ pos k) less (scaled_value-mixed (pos 1) b (negsuc 0) a x d (g ∙ sym h) g)
  where
    as_sum : (c k : ℤ) → c -ℤ k ≡ c +ℤ neg_ℤ k
    as_sum c k = omega (arith, ints)

    split : (d c k : ℤ) → d *ℤ (c -ℤ k) ≡ (d *ℤ c) -ℤ (d *ℤ k)
    split d c k = ap (λ z. d *ℤ z) (as_sum c k) ∙ mul-add d c (neg_ℤ k) ∙ ap (λ z. (d *ℤ c) +ℤ z) (mul-neg d k) ∙ sym (as_sum (d *ℤ c) (d *ℤ k))

    moved : (u v w y z l : ℤ) → v ≡ w -ℤ l → u +ℤ w ≡ (pos 1 *ℤ y) +ℤ (negsuc 0 *ℤ z) → u +ℤ v ≡ (y -ℤ z) -ℤ l
    moved u v w y z l e f = omega (arith, ints)

-- the rows of a comparison of two forms with these values
module _ (x : List ℤ) (d : ℤ) (a b : Affine) (u : length a.coefs ≡ length x) (v : length b.coefs ≡ length x) (p q : ℤ) (at_a : scaled_value a x d ≡ p) (at_b : scaled_value b x d ≡ q) where
  pub at_most_held : (pos 0 ≤ℤ scaled_value (gap_row a b 0) x d) ↔ (p ≤ℤ q)
  at_most_held = let e = gap_scaled a b 0 x d u v in let z = *ℤ-zero d in ((λ h. down (scaled_value (gap_row a b 0) x d) (scaled_value b x d) (scaled_value a x d) (d *ℤ pos 0) p q e z at_a at_b h), (λ h. up (scaled_value (gap_row a b 0) x d) (scaled_value b x d) (scaled_value a x d) (d *ℤ pos 0) p q e z at_a at_b h))
    where
      down : (w y z l p q : ℤ) → w ≡ (y -ℤ z) -ℤ l → l ≡ pos 0 → z ≡ p → y ≡ q → pos 0 ≤ℤ w → p ≤ℤ q
      down w y z l p q e f g h k = omega (arith, ints)

      up : (w y z l p q : ℤ) → w ≡ (y -ℤ z) -ℤ l → l ≡ pos 0 → z ≡ p → y ≡ q → p ≤ℤ q → pos 0 ≤ℤ w
      up w y z l p q e f g h k = omega (arith, ints)

  pub less_held : (pos 0 ≤ℤ scaled_value (gap_row a b 1) x d) ↔ ((p +ℤ d) ≤ℤ q)
  less_held = let e = gap_scaled a b 1 x d u v in let z = one d in ((λ h. down (scaled_value (gap_row a b 1) x d) (scaled_value b x d) (scaled_value a x d) (d *ℤ pos 1) p q d e z at_a at_b h), (λ h. up (scaled_value (gap_row a b 1) x d) (scaled_value b x d) (scaled_value a x d) (d *ℤ pos 1) p q d e z at_a at_b h))
    where
      one : (d : ℤ) → d *ℤ pos 1 ≡ d
      one d = omega (arith, ints)

      down : (w y z l p q d : ℤ) → w ≡ (y -ℤ z) -ℤ l → l ≡ d → z ≡ p → y ≡ q → pos 0 ≤ℤ w → (p +ℤ d) ≤ℤ q
      down w y z l p q d e f g h k = omega (arith, ints)

      up : (w y z l p q d : ℤ) → w ≡ (y -ℤ z) -ℤ l → l ≡ d → z ≡ p → y ≡ q → (p +ℤ d) ≤ℤ q → pos 0 ≤ℤ w
      up w y z l p q d e f g h k = omega (arith, ints)

pub compare_held : (x : List ℤ) (d : ℤ) (rel : Rel) (a b : Affine) → length a.coefs ≡ length x → length b.coefs ≡ length x → (p q : ℤ) → scaled_value a x d ≡ p → scaled_value b x d ≡ q
    → Held x d (compare_rows rel a b) ↔ AreRelated d rel p q
compare_held x d Less a b u v p q f g = let h = less_held x d a b u v p q f g in ((λ m. h.0 m.0), (λ m. (h.1 m, tt)))
compare_held x d LessEqual a b u v p q f g = let h = at_most_held x d a b u v p q f g in ((λ m. h.0 m.0), (λ m. (h.1 m, tt)))
compare_held x d Greater a b u v p q f g = let h = less_held x d b a v u q p g f in ((λ m. h.0 m.0), (λ m. (h.1 m, tt)))
compare_held x d GreaterEqual a b u v p q f g = let h = at_most_held x d b a v u q p g f in ((λ m. h.0 m.0), (λ m. (h.1 m, tt)))
compare_held x d NotEqual a b u v p q f g = itself (Unit {0})
compare_held x d Equal a b u v p q f g =
    let h = at_most_held x d a b u v p q f g in
    let k = at_most_held x d b a v u q p g f in (
      (λ m. same p q (h.0 m.1.0) (k.0 m.0)),
      (λ m. (k.1 (over q p (sym m)), (h.1 (over p q m), tt))),
    )
  where
    same : (p q : ℤ) → p ≤ℤ q → q ≤ℤ p → p ≡ q
    same p q h k = omega (arith, ints)

    over : (p q : ℤ) → p ≡ q → p ≤ℤ q
    over p q e = omega (arith, ints)

-- ---- Columns, numbers, expressions

pub column_scaled : (x : List ℤ) (d : ℤ) (j : ℕ) → scaled_value (column_form (length x) j) x d ≡ get_or x j (pos 0)
column_scaled x d j = omega (arith, ints, column_value x j, *ℤ-zero d)

pub number_scaled : (x : List ℤ) (d : ℤ) (n : ℕ) (z : ℤ) → scaled_value (number_form n z) x d ≡ d *ℤ z
number_scaled x d n z = omega (arith, ints, number_value n (pos 0) x)

zeros_more : (cs xs more : List ℤ) → length cs ≡ length xs → dot (cs ++ replicate (length more) (pos 0)) (xs ++ more) ≡ dot cs xs
zeros_more [] [] more e = omega (arith, ints, number_value (length more) (pos 0) more)
zeros_more [] (x ∷ xs) more e = absurd (omega arith)
zeros_more (c ∷ cs) [] more e = absurd (omega arith)
zeros_more (c ∷ cs) (x ∷ xs) more e = ap (λ z. (c *ℤ x) +ℤ z) (zeros_more cs xs more (omega arith))

pub form_scaled : (names more : List ℤ) (d : ℤ) (e : Ix) → scaled_value (form_of (length names) (length more) e) (names ++ more) d ≡ scaled_at names d e
form_scaled names more d e =
    let f = form_of (length names) 0 e in
    ap (λ g. scaled_value g (names ++ more) d) (widen_form (length names) (length more) e)
    ∙ ap (λ z. z +ℤ (d *ℤ f.constant)) (zeros_more f.coefs names more (form_width (length names) 0 e ∙ nothing (length names)))
  where
    nothing : (n : ℕ) → n + 0 ≡ n
    nothing n = omega arith

-- ---- Images

-- the form with its constant times d
abbrev at_scale : ℤ → Affine → Affine
at_scale d f = record { coefs = f.coefs; constant = d *ℤ f.constant }

columns_same : (d : ℤ) (j : ℕ) (gs : List Affine) → column_of j (map (at_scale d) gs) ≡ column_of j gs
columns_same d j [] = refl
columns_same d j (g ∷ gs) = ap (λ cs. get_or g.coefs j (pos 0) ∷ cs) (columns_same d j gs)

composed_same : (d : ℤ) (cs : List ℤ) (gs : List Affine) (j n : ℕ) → composed cs (map (at_scale d) gs) j n ≡ composed cs gs j n
composed_same d cs gs j zero = refl
composed_same d cs gs j (suc n) =
    ap (λ ds. dot cs ds ∷ composed cs (map (at_scale d) gs) (suc j) n) (columns_same d j gs) ∙ ap (λ ds. dot cs (column_of j gs) ∷ ds) (composed_same d cs gs (suc j) n)

constants_scaled : (d : ℤ) (cs : List ℤ) (gs : List Affine) → dot cs (constants_of (map (at_scale d) gs)) ≡ d *ℤ dot cs (constants_of gs)
constants_scaled d [] gs = sym (*ℤ-zero d)
constants_scaled d (c ∷ cs) [] = sym (*ℤ-zero d)
constants_scaled d (c ∷ cs) (g ∷ gs) =
    ap (λ z. (c *ℤ (d *ℤ g.constant)) +ℤ z) (constants_scaled d cs gs) ∙ ap (λ z. z +ℤ (d *ℤ dot cs (constants_of gs))) (swap c d g.constant) ∙ sym (mul-add d (c *ℤ g.constant) (dot cs (constants_of gs)))

values_scaled : (d : ℤ) (gs : List Affine) (x : List ℤ) → values_of (map (at_scale d) gs) x ≡ map (λ g. scaled_value g x d) gs
values_scaled d [] x = refl
values_scaled d (g ∷ gs) x = ap (λ zs. scaled_value g x d ∷ zs) (values_scaled d gs x)

-- the value of a form with its columns' images is its value at the images' values
pub images_scaled : (n : ℕ) (gs : List Affine) (f : Affine) (x : List ℤ) (d : ℤ) → length gs ≡ length f.coefs → HaveColumns n gs → length x ≡ n
    → scaled_value (form_at n gs f) x d ≡ scaled_value f (map (λ g. scaled_value g x d) gs) d
images_scaled n gs f x d h w l =
    let hs : List Affine = map (at_scale d) gs in
    ap (λ z. dot (composed f.coefs gs 0 n) x +ℤ z) (mul-add d (dot f.coefs (constants_of gs)) f.constant)
    ∙ ap (λ z. dot (composed f.coefs gs 0 n) x +ℤ (z +ℤ (d *ℤ f.constant))) (sym (constants_scaled d f.coefs gs))
    ∙ ap (λ cs. dot cs x +ℤ (dot f.coefs (constants_of hs) +ℤ (d *ℤ f.constant))) (sym (composed_same d f.coefs gs 0 n))
    ∙ ap (λ k. value (form_at k hs (at_scale d f)) x) (sym l)
    ∙ at_value hs (at_scale d f) x (length-map gs (at_scale d) ∙ h) (subst (λ k. HaveColumns k hs) (sym l) (widths gs w))
    ∙ ap (value (at_scale d f)) (values_scaled d gs x)
  where
    widths : (hs : List Affine) → HaveColumns n hs → HaveColumns n (map (at_scale d) hs)
    widths [] w = All-nil (λ g. length g.coefs ≡ n)
    widths (h ∷ hs) w = All-cons (λ g. length g.coefs ≡ n) (at_scale d h) (map (at_scale d) hs) (w 0 h (omega arith)) (widths hs (λ i k lt. w (suc i) k (omega arith)))
