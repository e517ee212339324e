-- The rational points of a statement's system are its time points.
use Rattle.std.proofs.Common.{◌≡◌, ℕ, zero, suc, ◌+◌, ◌-◌, List, [], ◌∷◌, ◌++◌, length, map, get_or, ℤ, pos, ◌≤ℤ◌, refl, sym, ap, subst, ◌∙◌, arith, length-append, append_assoc}
use Rattle.std.specs.Prelude.{◌↔◌}
use Rattle.std.specs.List.{All}
use Rattle.std.proofs.lemmas.List.{take-append-drop, map-append, length-map, length-take-le, length-drop}
use Rattle.std.proofs.lemmas.List.Elements.{All-head, All-tail, All-append}
use Rattle.affc_rows.specs.Forms.{Affine, HaveColumns}
use Rattle.affc_rows.specs.Vocabulary.{form_at}
use Rattle.affc_rows.proofs.ValueLemmas.{length-composed}
use Rattle.affc_rows.proofs.VocabularyLemmas.{unit_width}
use Rattle.affc_farkas.specs.Rational.{scaled_value}
use Rattle.affc_eliminate.proofs.project.Points.{itself}
use Rattle.affc_ast.specs.declared.tree.Rel.TheVariants.{Equal}
use Rattle.affc_trace.specs.Inverses.{column, columns_from}
use Rattle.affc_domain.specs.Rounds.{loops_in}
use Rattle.affc_domain.proofs.ColumnLemmas.{cons_is}
use Rattle.affc_domain.proofs.Lists.{length_push, at_seam}
use Rattle.affc_nest.specs.Domains.{column_form, compare_rows, domain_rows}
use Rattle.affc_nest.proofs.WidthLemmas.{rows_wide}
use Rattle.affc_order.proofs.CodeLemmas.{columns_are}
use Rattle.affc_order.proofs.ColumnLemmas.{from_width, from_long}
use Rattle.affc_loopends.specs.TimeSets.{Timed, IsShaped, IsTimePoint, parameters_at, components_at, iterators_at}
use Rattle.affc_loopends.specs.TimeRows.{images, component_rows, system_of}
use Rattle.affc_loopends.proofs.Both.{both, at_equal}
use Rattle.affc_loopends.proofs.Scaled.{Held, held_all, held_append, compare_held, column_scaled, images_scaled}
use Rattle.affc_loopends.proofs.Turns.{domain_held}

-- ---- Images

-- the columns themselves
columns_scaled : (d : ℤ) (x front p rest : List ℤ) (c j m : ℕ) → x ≡ front ++ (p ++ rest) → length x ≡ c → length front ≡ j → length p ≡ m → map (λ g. scaled_value g x d) (columns_from c j m) ≡ p
columns_scaled d x front [] rest c j zero is l at e = refl
columns_scaled d x front [] rest c j (suc m) is l at e = absurd (omega arith)
columns_scaled d x front (y ∷ p) rest c j zero is l at e = absurd (omega arith)
columns_scaled d x front (y ∷ p) rest c j (suc m) is l at e =
    let here : scaled_value (column c j) x d ≡ y =
    ap (λ f. scaled_value f x d) (sym (columns_are c j)) ∙ ap (λ k. scaled_value (column_form k j) x d) (sym l) ∙ column_scaled x d j ∙ ap (λ k. get_or x k (pos 0)) (sym at) ∙ ap (λ ys. get_or ys (length front) (pos 0)) is ∙ at_seam front y (p ++ rest) in
    ap (λ z. z ∷ map (λ g. scaled_value g x d) (columns_from c (suc j) m)) here
    ∙ ap (λ zs. y ∷ zs) (columns_scaled d x (front ++ y ∷ []) p rest c (suc j) m (is ∙ sym (append_assoc front (y ∷ []) (p ++ rest))) l (length_push front y ∙ ap suc at) (omega arith))

pub images_long : (params components : ℕ) (inverse : List Affine) → length (images params components inverse) ≡ params + length inverse
images_long params components inverse = length-append (columns_from (params + components) 0 params) inverse ∙ ap (λ k. k + length inverse) (from_long (params + components) 0 params)

pub images_wide : (params components : ℕ) (inverse : List Affine) → HaveColumns (params + components) inverse → HaveColumns (params + components) (images params components inverse)
images_wide params components inverse w =
    All-append (λ g. length g.coefs ≡ params + components) (columns_from (params + components) 0 params) inverse (from_width (params + components) 0 params) w

-- ---- Rows with images

rows_held : (c : ℕ) (gs : List Affine) (x : List ℤ) (d : ℤ) (rows : List Affine) → HaveColumns (length gs) rows → HaveColumns c gs → length x ≡ c
    → Held x d (map (form_at c gs) rows) ↔ Held (map (λ g. scaled_value g x d) gs) d rows
rows_held c gs x d [] w u l = itself (Unit {0})
rows_held c gs x d (r ∷ rs) w u l =
    let ys = map (λ g. scaled_value g x d) gs in
    both (pos 0 ≤ℤ scaled_value (form_at c gs r) x d) (pos 0 ≤ℤ scaled_value r ys d) (Held x d (map (form_at c gs) rs)) (Held ys d rs)
    (at_equal (λ z. pos 0 ≤ℤ z) (scaled_value (form_at c gs r) x d) (scaled_value r ys d) (images_scaled c gs r x d (sym (All-head (λ f. length f.coefs ≡ length gs) r rs w)) u l))
    (rows_held c gs x d rs (All-tail (λ f. length f.coefs ≡ length gs) r rs w) u l)

-- ---- Components

heads : {A : Type 0} (x y : A) (xs ys : List A) → x ∷ xs ≡ y ∷ ys → (x ≡ y) × (xs ≡ ys)
heads x y xs ys e = (cc, cc)

components_held : (c : ℕ) (gs : List Affine) (x : List ℤ) (d : ℤ) (fs : List Affine) (front ts : List ℤ) (j : ℕ) → HaveColumns (length gs) fs → HaveColumns c gs → length x ≡ c → x ≡ front ++ ts → length front ≡ j → length ts ≡ length fs
    → Held x d (component_rows c j gs fs) ↔ (map (λ f. scaled_value f (map (λ g. scaled_value g x d) gs) d) fs ≡ ts)
components_held c gs x d [] front [] j w u l is at e = ((λ h. refl), (λ h. tt))
components_held c gs x d [] front (t ∷ ts) j w u l is at e = absurd (omega arith)
components_held c gs x d (f ∷ fs) front [] j w u l is at e = absurd (omega arith)
components_held c gs x d (f ∷ fs) front (t ∷ ts) j w u l is at e =
    let ys = map (λ g. scaled_value g x d) gs in
    let a = column_form c j in
    let b = form_at c gs f in
    let column : scaled_value a x d ≡ t = ap (λ k. scaled_value (column_form k j) x d) (sym l) ∙ column_scaled x d j ∙ ap (λ k. get_or x k (pos 0)) (sym at) ∙ ap (λ zs. get_or zs (length front) (pos 0)) is ∙ at_seam front t ts in
    let value = images_scaled c gs f x d (sym (All-head (λ r. length r.coefs ≡ length gs) f fs w)) u l in
    let here = compare_held x d Equal a b (unit_width c j ∙ sym l) (length-composed f.coefs gs 0 c ∙ sym l) t (scaled_value f ys d) column value in
    let later = components_held c gs x d fs (front ++ t ∷ []) ts (suc j) (All-tail (λ r. length r.coefs ≡ length gs) f fs w) u l (is ∙ sym (append_assoc front (t ∷ []) ts)) (length_push front t ∙ ap suc at) (omega arith) in
    let split = held_append x d (compare_rows Equal a b) (component_rows c (suc j) gs fs) in (
      (λ h. let s = split.0 h in cons_is (scaled_value f ys d) t (map (λ q. scaled_value q ys d) fs) ts (sym (here.0 s.0)) (later.0 s.1)),
      (λ h. let s = heads (scaled_value f ys d) t (map (λ q. scaled_value q ys d) fs) ts h in split.1 (here.1 (sym s.0), later.1 s.1)),
    )

-- ---- Time points

module _ (s : Timed) (x : List ℤ) (d : ℤ) (shaped : IsShaped s) (width : length x ≡ length s.params + length s.times) (one : pos 1 ≤ℤ d) where
  parameters_long : length (parameters_at s x) ≡ length s.params
  parameters_long = length-take-le (length s.params) x (omega arith)

  components_long : length (components_at s x) ≡ length s.times
  components_long = length-drop (length s.params) x ∙ less (length x) (length s.params) (length s.times) width
    where
      less : (n m k : ℕ) → n ≡ m + k → n - m ≡ k
      less n m k e = omega arith

  iterators_long : length (iterators_at s x d) ≡ loops_in s.around
  iterators_long = length-map s.inverse (λ g. scaled_value g x d) ∙ shaped.iterators

  images_are : map (λ g. scaled_value g x d) (images (length s.params) (length s.times) s.inverse) ≡ parameters_at s x ++ iterators_at s x d
  images_are =
      let c = length s.params + length s.times in
      map-append (λ g. scaled_value g x d) (columns_from c 0 (length s.params)) s.inverse
      ∙ ap (λ zs. zs ++ iterators_at s x d) (columns_scaled d x [] (parameters_at s x) (components_at s x) c 0 (length s.params) (sym (take-append-drop (length s.params) x)) width refl parameters_long)

  pub exact : All (λ r. pos 0 ≤ℤ scaled_value r x d) (system_of s).rows ↔ IsTimePoint s x d
  exact =
      let m = length s.params in
      let c = m + length s.times in
      let gs = images m (length s.times) s.inverse in
      let p = parameters_at s x in
      let its = iterators_at s x d in
      let rows = domain_rows s.params s.context s.ranges s.around in
      let gl : length gs ≡ m + loops_in s.around = images_long m (length s.times) s.inverse ∙ ap (λ k. m + k) shaped.iterators in
      let gw = images_wide m (length s.times) s.inverse shaped.inverse in
      let all = held_all x d (system_of s).rows in
      let split = held_append x d (map (form_at c gs) rows) (component_rows c m gs s.times) in
      let domain = rows_held c gs x d rows (subst (λ k. HaveColumns k rows) (sym gl) (rows_wide s.params s.context s.ranges s.around)) gw width in
      let turn = domain_held d s.params s.context s.ranges s.around p its parameters_long iterators_long shaped.ranges in
      let times = components_held c gs x d s.times p (components_at s x) m (subst (λ k. HaveColumns k s.times) (sym gl) shaped.times) gw width (sym (take-append-drop m x)) parameters_long components_long in (
        (λ h.
            let a = split.0 (all.0 h) in
            let t = turn.0 (subst (λ ys. Held ys d rows) images_are (domain.0 a.0)) in
            record {
              width = width;
              divisor = one;
              parameters = t.0;
              context = t.1;
              turn = t.2;
              within = t.3;
              times = ap (λ ys. map (λ f. scaled_value f ys d) s.times) (sym images_are) ∙ times.0 a.1;
            }),
        (λ h. all.1 (split.1 (
          domain.1 (subst (λ ys. Held ys d rows) (sym images_are) (turn.1 (h.parameters, h.context, h.turn, h.within))),
          times.1 (ap (λ ys. map (λ f. scaled_value f ys d) s.times) images_are ∙ h.times),
        ))),
      )
