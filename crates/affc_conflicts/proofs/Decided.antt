-- What the questions of a fold decide.
use Rattle.std.proofs.Common.{◌≡◌, ◌⊎◌, inl, inr, ℕ, zero, suc, ◌+◌, ◌<◌, ◌≤◌, List, [], ◌∷◌, ◌++◌, length, take, get_or, ℤ, pos, negsuc, neg_ℤ, ◌-ℤ◌, ◌≤ℤ◌, ◌<ℤ◌, refl, sym, ap, subst, ◌∙◌, arith}
use Rattle.std.specs.Prelude.{unsigned_abs, slice_get, Some}
use Rattle.std.specs.List.{All, Contains}
use Rattle.std.proofs.lemmas.Int.{ints}
use Rattle.std.proofs.lemmas.Option.{same_Some, slice_get_within, slice_get-get_or}
use Rattle.std.proofs.lemmas.List.Elements.{All-nil, All-cons, All-weaker, All-get_or}
use Rattle.affc_rows.specs.Forms.{Affine, HaveColumns, dot, value, values_of}
use Rattle.affc_system.specs.Systems.{Rows, Meets, IsPoint, HasNoPoint}
use Rattle.affc_system.specs.Pairs.{IsSubscript}
use Rattle.affc_system.specs.ElementPairs.{IsPairAt, IsPairOf}
use Rattle.affc_system.specs.declared.pairs.PairSystem.{PairSystem}
use Rattle.affc_system.proofs.SystemLemmas.{point_of_more_rows}
use Rattle.affc_ast.specs.declared.tree.Rel.TheVariants.{Equal}
use Rattle.affc_trace.specs.Law.{IsIn}
use Rattle.affc_trace.proofs.LastStores.{append_nil}
use Rattle.affc_trace.proofs.Members.{to_first, to_second, to_flat_map}
use Rattle.affc_domain.proofs.FormLemmas.{number_value, number_width}
use Rattle.affc_basis.specs.declared.fold.Modulus.{Modulus}
use Rattle.affc_basis.specs.Slices.{minus, along, InSlice}
use Rattle.affc_basis.specs.Folds.{forms_of}
use Rattle.affc_domain.proofs.Lists.{stands_in}
use Rattle.affc_nest.specs.Domains.{gap_row, compare_rows, number_form, box_rows}
use Rattle.affc_nest.specs.Laws.{NoneHasAPoint}
use Rattle.affc_nest.proofs.DomainLemmas.{Met, to_all, from_all, met_append, no_gap_up, say_rows}
use Rattle.affc_nest.proofs.PointLemmas.{box_met}
use Rattle.affc_conflicts.specs.Conditions.{InContext}
use Rattle.affc_conflicts.specs.Questions.{context_system, positive_question, distance, agree_rows, slice_system, over_columns, distance_question, distance_questions, mark_questions, row_questions, questions_from}
use Rattle.affc_conflicts.specs.Laws.{IsOver, FoldQuestionsDecide}
use Rattle.affc_conflicts.proofs.Turned.{dot-turned, along-turned}
use Rattle.affc_conflicts.proofs.Distances.{width_of_distance, value_of_distance, value_over_columns, width_over_columns}

-- ---- the context

pub point_of_context : (context : Rows) (ranges : List (ℤ × ℤ)) (p : List ℤ) → InContext context ranges p → IsPoint (context_system context ranges) p
point_of_context context ranges p here =
    let w : length p ≡ context.columns = here.meets.width in
    let box : Met p (box_rows context.columns 0 ranges) =
    subst (λ n. Met p (box_rows n 0 ranges)) w (subst (λ q. Met q (box_rows (length q) 0 ranges)) (append_nil p) (box_met ranges [] p [] here.inside)) in
    record {
      width = w;
      meets = to_all p (box_rows context.columns 0 ranges ++ context.rows) (met_append p (box_rows context.columns 0 ranges) context.rows box (from_all p context.rows here.meets.meets));
    }

pub one : (p : List ℤ) (row : Affine) → Meets p row → All (Meets p) (row ∷ [])
one p row m = All-cons (Meets p) row [] m (All-nil (Meets p))

pub split : (a b : ℤ) → (a <ℤ b) ⊎ (b ≤ℤ a)
split a b = by_sign a b (b -ℤ a) refl
  where
    by_sign : (a b d : ℤ) → b -ℤ a ≡ d → (a <ℤ b) ⊎ (b ≤ℤ a)
    by_sign a b (pos zero) e = inr (omega (arith, ints))
    by_sign a b (pos (suc n)) e = inl (omega (arith, ints))
    by_sign a b (negsuc n) e = inr (omega (arith, ints))

at_least_one : (v : ℤ) → pos 0 <ℤ v → pos 1 ≤ℤ v
at_least_one v h = omega (arith, ints)

pub is_positive : (context : Rows) (ranges : List (ℤ × ℤ)) (b : Affine) → length b.coefs ≡ context.columns → HasNoPoint (positive_question context ranges b)
    → (p : List ℤ) → InContext context ranges p → pos 1 ≤ℤ value b p
is_positive context ranges b w none p here = elim (split (pos 0) (value b p)) [
  | inl h ↦ at_least_one (value b p) h
  | inr h ↦
      let zero' : Affine = number_form context.columns (pos 0) in
      let n : length p ≡ context.columns = here.meets.width in
      let wb : length b.coefs ≡ length p = w ∙ sym n in
      let wz : length zero'.coefs ≡ length p = number_width context.columns (pos 0) ∙ sym n in
      let row = no_gap_up b zero' p wb wz b zero' wb wz (subst (λ v. value b p ≤ℤ v) (sym (number_value context.columns (pos 0) p)) h) in
      absurd (none p (point_of_more_rows (context_system context ranges) (gap_row b zero' 0 ∷ []) p (point_of_context context ranges p here) (one p _ row)))
]

-- ---- a system

none_is_zero : (v : ℤ) → unsigned_abs v ≡ 0 → v ≡ pos 0
none_is_zero v h = omega (arith, ints)

same_up : (u v : ℤ) → u ≡ v → u ≤ℤ v
same_up u v h = omega (arith, ints)

far_up : (d b : ℤ) (n : ℕ) → b ≤ℤ pos (unsigned_abs d) → d ≡ pos n → b ≤ℤ d
far_up d b n h e = omega (arith, ints)

far_down : (d c b : ℤ) (n : ℕ) → b ≤ℤ pos (unsigned_abs d) → d ≡ negsuc n → c ≡ neg_ℤ d → b ≤ℤ c
far_down d c b n h e f = omega (arith, ints)

pub subscripts_wide : (n : ℕ) (fs : List Affine) → All (IsSubscript n) fs → HaveColumns n fs
subscripts_wide n fs h = All-weaker (IsSubscript n) (λ (g : Affine). length g.coefs ≡ n) (λ f s. s.width) fs h

module _ (dimensions parameters : ℕ) (rows : List Affine) (s : PairSystem) (over : IsOver parameters dimensions s) (wide : HaveColumns dimensions rows) (z : List ℤ) (meets : IsPoint s.system z) where
  abbrev x : List ℤ
  x = values_of s.x.items z

  abbrev y : List ℤ
  y = values_of s.y.items z

  wx : HaveColumns s.system.columns s.x.items
  wx = subscripts_wide s.system.columns s.x.items s.x_fits

  wy : HaveColumns s.system.columns s.y.items
  wy = subscripts_wide s.system.columns s.y.items s.y_fits

  -- the rows of a slice are met, where the elements lie apart along no row before
  agree_met : (rs : List Affine) (k : ℕ) → 1 ≤ dimensions → ((j : ℕ) (row : Affine) → slice_get rs j ≡ Some row → length row.coefs ≡ dimensions)
      → ((j : ℕ) (row : Affine) → j < k → slice_get rs j ≡ Some row → along row x y ≡ 0) → Met z (agree_rows s (take k rs))
  agree_met rs zero some w agree = tt
  agree_met [] (suc k) some w agree = tt
  agree_met (r ∷ rs) (suc k) some w agree =
      let d : Affine = distance r s.x.items s.y.items in
      let o : Affine = number_form s.system.columns (pos 0) in
      let wr : length r.coefs ≡ dimensions = w 0 r refl in
      let few : 1 ≤ length s.x.items = subst (λ n. 1 ≤ n) (sym over.x_each) some in
      let wd : length d.coefs ≡ length z = width_of_distance r s.system.columns s.x.items s.y.items few (over.y_each ∙ sym over.x_each) wx wy ∙ sym meets.width in
      let wo : length o.coefs ≡ length z = number_width s.system.columns (pos 0) ∙ sym meets.width in
      let v : value d z ≡ dot r.coefs (minus x y) = value_of_distance r s.system.columns s.x.items s.y.items z few (over.x_each ∙ sym wr) (over.y_each ∙ sym over.x_each) wx wy meets.width in
      let e : value d z ≡ value o z = v ∙ none_is_zero _ (agree 0 r (omega arith) refl) ∙ sym (number_value s.system.columns (pos 0) z) in
      met_append z (compare_rows Equal d o) (agree_rows s (take k rs)) (say_rows d o z wd wo Equal (same_up _ _ e, same_up _ _ (sym e)))
      (agree_met rs k some (λ j row at. w (suc j) row at) (λ j row h at. agree (suc j) row (omega arith) at))

  in_slice_system : (k : ℕ) → 1 ≤ dimensions → ((j : ℕ) (row : Affine) → slice_get rows j ≡ Some row → length row.coefs ≡ dimensions)
      → ((j : ℕ) (row : Affine) → j < k → slice_get rows j ≡ Some row → along row x y ≡ 0) → IsPoint (slice_system rows k s) z
  in_slice_system k some w agree = point_of_more_rows s.system (agree_rows s (take k rows)) z meets (to_all z (agree_rows s (take k rows)) (agree_met rows k some w agree))

  module _ (k : ℕ) (row b : Affine) (some : 1 ≤ dimensions) (w : (j : ℕ) (r : Affine) → slice_get rows j ≡ Some r → length r.coefs ≡ dimensions) (wr : length row.coefs ≡ dimensions) (wb : length b.coefs ≡ parameters)
      (agree : (j : ℕ) (r : Affine) → j < k → slice_get rows j ≡ Some r → along r x y ≡ 0) (p : List ℤ) (at : take parameters z ≡ p) where
    abbrev modulus : Affine
    modulus = over_columns s.system.columns b

    here : value modulus z ≡ value b p
    here = value_over_columns s.system.columns b z ∙ ap (λ n. value b (take n z)) wb ∙ ap (value b) at

    modulus_width : length modulus.coefs ≡ length z
    modulus_width = width_over_columns s.system.columns b (subst (λ n. n ≤ s.system.columns) (sym wb) over.parameters_first) ∙ sym meets.width

    meets_question : (xs ys : List Affine) → length xs ≡ dimensions → length ys ≡ dimensions → HaveColumns s.system.columns xs → HaveColumns s.system.columns ys
        → value b p ≤ℤ dot row.coefs (minus (values_of xs z) (values_of ys z)) → HasNoPoint (distance_question rows k row b s xs ys) → ⊥
    meets_question xs ys ex ey hx hy h none =
        let d : Affine = distance row xs ys in
        let few : 1 ≤ length xs = subst (λ n. 1 ≤ n) (sym ex) some in
        let wd : length d.coefs ≡ length z = width_of_distance row s.system.columns xs ys few (ey ∙ sym ex) hx hy ∙ sym meets.width in
        let v : value d z ≡ dot row.coefs (minus (values_of xs z) (values_of ys z)) = value_of_distance row s.system.columns xs ys z few (ex ∙ sym wr) (ey ∙ sym ex) hx hy meets.width in
        let le : value modulus z ≤ℤ value d z = subst (λ u. u ≤ℤ value d z) (sym here) (subst (λ u. value b p ≤ℤ u) (sym v) h) in
        let gap : Meets z (gap_row modulus d 0) = no_gap_up modulus d z modulus_width wd modulus d modulus_width wd le in
        none z (point_of_more_rows (slice_system rows k s) (gap_row modulus d 0 ∷ []) z (in_slice_system k some w agree) (one z (gap_row modulus d 0) gap))

    pub below : HasNoPoint (distance_question rows k row b s s.x.items s.y.items) → HasNoPoint (distance_question rows k row b s s.y.items s.x.items) → pos (along row x y) <ℤ value b p
    below none_forward none_backward = elim (split (pos (along row x y)) (value b p)) [
      | inl h ↦ h
      | inr h ↦ absurd (by_sign (dot row.coefs (minus x y)) refl h)
    ]
      where
        by_sign : (d : ℤ) → dot row.coefs (minus x y) ≡ d → value b p ≤ℤ pos (along row x y) → ⊥
        by_sign (pos n) e h = meets_question s.x.items s.y.items over.x_each over.y_each wx wy (far_up _ _ n h e) none_forward
        by_sign (negsuc n) e h = meets_question s.y.items s.x.items over.y_each over.x_each wy wx (far_down _ _ _ n h e (dot-turned row.coefs x y)) none_backward

-- ---- all questions

row_asked : (context : Rows) (ranges : List (ℤ × ℤ)) (systems : List PairSystem) (rows : List Affine) (rs : List Affine) (ms : List Modulus) (k j : ℕ) (row : Affine) (m : Modulus)
    → NoneHasAPoint (questions_from context ranges systems rows k rs ms) → slice_get rs j ≡ Some row → slice_get ms j ≡ Some m → NoneHasAPoint (row_questions context ranges systems rows (k + j) row m)
row_asked context ranges systems rows [] ms k j row m none e f = absurd (omega (arith, slice_get_within [] j row e))
row_asked context ranges systems rows (r ∷ rs) [] k j row m none e f = absurd (omega (arith, slice_get_within [] j m f))
row_asked context ranges systems rows (r ∷ rs) (n ∷ ms) k zero row m none e f = λ q h.
    let at : k ≡ k + 0 = omega arith in
    none q (to_first (row_questions context ranges systems rows k r n) (questions_from context ranges systems rows (suc k) rs ms) q
    (subst (λ i. IsIn q (row_questions context ranges systems rows i r n)) (sym at)
    (subst (λ v. IsIn q (row_questions context ranges systems rows (k + 0) v n)) (sym (same_Some r row e)) (subst (λ v. IsIn q (row_questions context ranges systems rows (k + 0) row v)) (sym (same_Some n m f)) h))))
row_asked context ranges systems rows (r ∷ rs) (n ∷ ms) k (suc j) row m none e f =
    let at : suc k + j ≡ k + suc j = omega arith in
    subst (λ i. NoneHasAPoint (row_questions context ranges systems rows i row m)) at
    (row_asked context ranges systems rows rs ms (suc k) j row m (λ q h. none q (to_second (row_questions context ranges systems rows k r n) (questions_from context ranges systems rows (suc k) rs ms) q h)) e f)

pub modulus_at : (ms : List Modulus) (k : ℕ) (b : Affine) → slice_get (forms_of ms) k ≡ Some b → (m : Modulus) × (slice_get ms k ≡ Some m) × (m.form ≡ b)
modulus_at [] k b e = absurd (omega (arith, slice_get_within [] k b e))
modulus_at (m ∷ ms) zero b e = (m, refl, same_Some m.form b e)
modulus_at (m ∷ ms) (suc k) b e = modulus_at ms k b e

pub all_at : {X : Type 0} (P : X → Type 0) (xs : List X) → All P xs → (i : ℕ) (x : X) → slice_get xs i ≡ Some x → P x
all_at P xs all i x e =
    let h = slice_get_within xs i x e in
    subst P (same_Some (get_or xs i x) x (sym (slice_get-get_or xs i x h) ∙ e)) (All-get_or P xs i x h all)

module _ (context : Rows) (ranges : List (ℤ × ℤ)) (systems : List PairSystem) (rows : List Affine) (over : (s : PairSystem) → Contains systems s → IsOver context.columns (length rows) s) (wide : HaveColumns (length rows) rows)
    (k : ℕ) (row b : Affine) (at : slice_get rows k ≡ Some row) (wb : length b.coefs ≡ context.columns) (p : List ℤ) (here : InContext context ranges p)
    (none : NoneHasAPoint (distance_questions rows k row b systems)) where
  some_rows : 1 ≤ length rows
  some_rows = let h = slice_get_within rows k row at in omega arith

  widths : (j : ℕ) (r : Affine) → slice_get rows j ≡ Some r → length r.coefs ≡ length rows
  widths = all_at (λ (g : Affine). length g.coefs ≡ length rows) rows wide

  asked : (s : PairSystem) (q : Rows) → Contains systems s
      → IsIn q (distance_question rows k row b s s.x.items s.y.items ∷ distance_question rows k row b s s.y.items s.x.items ∷ []) → HasNoPoint q
  asked s q there h =
      let i : IsIn s systems = stands_in systems there.0 s (slice_get-get_or systems there.0 s there.1 ∙ ap Some there.2) in
      none q (to_flat_map (λ t. distance_question rows k row b t t.x.items t.y.items ∷ distance_question rows k row b t t.y.items t.x.items ∷ []) systems s q i h)

  far : (s : PairSystem) → Contains systems s → (u v : List ℤ) → IsPairAt s p u v → ((j : ℕ) (r : Affine) → j < k → slice_get rows j ≡ Some r → along r u v ≡ 0) → pos (along row u v) <ℤ value b p
  far s there u v pair agree =
      let z = pair.point in
      let same : (r : Affine) → along r u v ≡ along r (values_of s.x.items z) (values_of s.y.items z) = λ r.
      ap (λ t. along r t v) (sym pair.first) ∙ ap (λ t. along r (values_of s.x.items z) t) (sym pair.second) in
      let front : take context.columns z ≡ p = ap (λ n. take n z) (sym here.meets.width) ∙ pair.parameters in
      subst (λ n. pos n <ℤ value b p) (sym (same row))
      (below (length rows) context.columns rows s (over s there) wide z pair.meets k row b some_rows widths (widths k row at) wb (λ j r h g. sym (same r) ∙ agree j r h g) p front
      (asked s _ there (inl refl)) (asked s _ there (inr (inl refl))))

  pub exceeds : (x y : List ℤ) → InSlice (IsPairOf systems p) rows k x y → pos (along row x y) <ℤ value b p
  exceeds x y slice = elim slice.pair.either [
    | inl e ↦ far slice.pair.system slice.pair.there x y e slice.agrees
    | inr e ↦ subst (λ n. pos n <ℤ value b p) (along-turned row x y) (far slice.pair.system slice.pair.there y x e (λ j r h g. along-turned r x y ∙ slice.agrees j r h g))
  ]

pub fold_questions_decide : FoldQuestionsDecide
fold_questions_decide context ranges systems rows ms over wide moduli_wide none p here k row b at at_b =
    let m = modulus_at ms k b at_b in
    let wb : length b.coefs ≡ context.columns = all_at (λ (g : Affine). length g.coefs ≡ context.columns) (forms_of ms) moduli_wide k b at_b in
    let number : 0 + k ≡ k = omega arith in
    let asked : NoneHasAPoint (row_questions context ranges systems rows k row m.0) =
    subst (λ i. NoneHasAPoint (row_questions context ranges systems rows i row m.0)) number (row_asked context ranges systems rows rows ms 0 k row m.0 none at m.1) in
    let positive : HasNoPoint (positive_question context ranges b) = subst (λ f. HasNoPoint (positive_question context ranges f)) m.2 (asked _ (inl refl)) in
    let distances : NoneHasAPoint (distance_questions rows k row b systems) = subst (λ f. NoneHasAPoint (distance_questions rows k row f systems)) m.2
    (λ q h. asked q (inr (to_first (distance_questions rows k row m.0.form systems) (mark_questions context ranges m.0.form m.0.mark) q h))) in
    (is_positive context ranges b wb positive p here, exceeds context ranges systems rows over wide k row b at wb p here distances)
