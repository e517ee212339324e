-- The rows of the orders of two parts are few, and within the limits of rows.
use Rattle.std.proofs.Common.{◌≡◌, ℕ, zero, suc, ◌+◌, ◌-◌, ◌*◌, ◌^◌, ◌<◌, ◌≤◌, Bool, true, false, IsTrue, List, [], ◌∷◌, ◌++◌, length, map, refl, sym, ap, subst, ◌∙◌, arith}
use Rattle.std.specs.Prelude.{nat_lt, nat_le, ◌&&◌}
use Rattle.std.specs.List.{All}
use Rattle.std.proofs.lemmas.Bool.{leb-true}
use Rattle.std.proofs.lemmas.List.Elements.{All-nil, All-cons, All-head, All-tail, All-append}
use Rattle.affc_rows.specs.Forms.{Affine}
use Rattle.affc_rows.specs.Sizes.{IsWithin}
use Rattle.affc_rows.proofs.SizeLemmas.{spread_within, all_raised}
use Rattle.affc_system.specs.Systems.{IsRow}
use Rattle.affc_ast.specs.declared.tree.Rel.TheVariants.{Less, Equal}
use Rattle.affc_trace.specs.declared.schedule.Schedule.{Schedule}
use Rattle.affc_trace.specs.declared.schedule.Schedule.TheVariants.{Source, Time}
use Rattle.affc_trace.specs.declared.schedule.TimeMap.{TimeMap}
use Rattle.affc_trace.specs.Inverses.{columns_from}
use Rattle.affc_trace.specs.Target.{maps_within, within_limits}
use Rattle.affc_trace.proofs.Runs.{length_append}
use Rattle.affc_domain.specs.Loops.{shared}
use Rattle.affc_domain.proofs.Lists.{both_true}
use Rattle.affc_domain.proofs.OrderLemmas.{shared_left}
use Rattle.affc_nest.specs.Asked.{IsNest}
use Rattle.affc_nest.specs.Domains.{compare_rows, gap_row}
use Rattle.affc_nest.specs.declared.nest.Nest.{Nest}
use Rattle.affc_nest.specs.Parts.{statement_of}
use Rattle.affc_nest.specs.Sides.{IsSide}
use Rattle.affc_nest.proofs.RowLemmas.{gap_is_row}
use Rattle.affc_order.specs.Asked.{IsScheduled}
use Rattle.affc_order.specs.Placed.{HasMap, IsOrder}
use Rattle.affc_order.specs.Posed.{Posed, form_at}
use Rattle.affc_order.specs.Spread.{spread}
use Rattle.affc_order.specs.Systems.{coordinates_of, first_posed, forms_or_none, lex_systems, loops_of, over, pair_columns, rows_in, second_posed, source_order, source_systems, target_order, time_forms, turned_systems}
use Rattle.affc_order.proofs.CodeLemmas.{columns_sides, few_loops, is_nest}
use Rattle.affc_order.proofs.DepthLemmas.{timed}
use Rattle.affc_order.proofs.PlacedLemmas.{slight_forms}
use Rattle.affc_order.proofs.SpreadLemmas.{at_columns}

-- ---- Comparisons of sides

lex_orders : (columns n : ℕ) (fs gs rows : List Affine) (tie : Bool) → (length rows + 2 * n) + 1 ≤ 26 → All (IsSide columns) fs → All (IsSide columns) gs → All (IsRow columns) rows
    → All (IsOrder columns) (map rows_in (lex_systems columns n fs gs rows tie))
lex_orders columns zero fs gs rows tie h s t r = at_tie tie
  where
    less : (k : ℕ) → (k + 2 * 0) + 1 ≤ 26 → k ≤ 26
    less k h = omega (arith, h)

    at_tie : (z : Bool) → All (IsOrder columns) (map rows_in (lex_systems columns 0 fs gs rows z))
    at_tie true = All-cons (IsOrder columns) rows [] (record { few = less (length rows) h; fit = r }) (All-nil (IsOrder columns))
    at_tie false = All-nil (IsOrder columns)
lex_orders columns (suc n) [] gs rows tie h s t r = All-nil (IsOrder columns)
lex_orders columns (suc n) (f ∷ fs) [] rows tie h s t r = All-nil (IsOrder columns)
lex_orders columns (suc n) (f ∷ fs) (g ∷ gs) rows tie h s t r =
    let a = All-head (IsSide columns) f fs s in
    let b = All-head (IsSide columns) g gs t in
    All-cons (IsOrder columns) (rows ++ compare_rows Less f g) (map rows_in (lex_systems columns n fs gs (rows ++ compare_rows Equal f g) tie))
    (record { few = one (length rows) n (length (rows ++ compare_rows Less f g)) (length_append rows (compare_rows Less f g)) h; fit = All-append (IsRow columns) rows (compare_rows Less f g) r (single f g 1 a b (omega arith)) })
    (lex_orders columns n fs gs (rows ++ compare_rows Equal f g) tie (two (length rows) n (length (rows ++ compare_rows Equal f g)) (length_append rows (compare_rows Equal f g)) h)
    (All-tail (IsSide columns) f fs s) (All-tail (IsSide columns) g gs t)
    (All-append (IsRow columns) rows (compare_rows Equal f g) r (All-cons (IsRow columns) (gap_row g f 0) (gap_row f g 0 ∷ []) (gap_is_row columns g f 0 b a (omega arith)) (single f g 0 a b (omega arith)))))
  where
    single : (f g : Affine) (k : ℕ) → IsSide columns f → IsSide columns g → k ≤ 1 → All (IsRow columns) (gap_row f g k ∷ [])
    single f g k a b h = All-cons (IsRow columns) (gap_row f g k) [] (gap_is_row columns f g k a b h) (All-nil (IsRow columns))

    one : (x n y : ℕ) → y ≡ x + 1 → (x + 2 * suc n) + 1 ≤ 26 → y ≤ 26
    one x n y e h = omega (arith, e, h)

    two : (x n y : ℕ) → y ≡ x + 2 → (x + 2 * suc n) + 1 ≤ 26 → (y + 2 * n) + 1 ≤ 26
    two x n y e h = omega (arith, e, h)

source_rows : (nest : Nest) → IsNest nest → (columns : ℕ) (a b : Posed) → a.part < length nest.entries → All (IsSide columns) a.iterators → All (IsSide columns) b.iterators → All (IsOrder columns) (map rows_in (source_order nest columns a b))
source_rows nest n columns a b h s t =
    let ls = loops_of nest a.part in
    let ms = loops_of nest b.part in
    lex_orders columns (shared ls ms) a.iterators b.iterators [] (nat_lt (statement_of nest a.part) (statement_of nest b.part)) (bound (shared ls ms) (length ls) (shared_left ls ms) (few_loops nest n a.part h)) s t (All-nil (IsRow columns))
  where
    bound : (k l : ℕ) → k ≤ l → l ≤ 6 → (0 + 2 * k) + 1 ≤ 26
    bound k l g f = omega (arith, g, f)

-- ---- The rows of an order over its columns are its systems

lex_again : (columns n : ℕ) (fs gs rows : List Affine) (tie : Bool) → map (over columns) (map rows_in (lex_systems columns n fs gs rows tie)) ≡ lex_systems columns n fs gs rows tie
lex_again columns zero fs gs rows true = refl
lex_again columns zero fs gs rows false = refl
lex_again columns (suc n) [] gs rows tie = refl
lex_again columns (suc n) (f ∷ fs) [] rows tie = refl
lex_again columns (suc n) (f ∷ fs) (g ∷ gs) rows tie = ap (λ ss. over columns (rows ++ compare_rows Less f g) ∷ ss) (lex_again columns n fs gs (rows ++ compare_rows Equal f g) tie)

pub source_again : (nest : Nest) (first second : ℕ) (made : List (List Affine)) → made ≡ map rows_in (source_systems nest first second) → map (over (pair_columns nest first second)) made ≡ source_systems nest first second
source_again nest first second made e =
    let columns = pair_columns nest first second in
    ap (map (over columns)) e
    ∙ lex_again columns (shared (loops_of nest first) (loops_of nest second)) (first_posed nest first second).iterators (second_posed nest first second).iterators [] (nat_lt (statement_of nest first) (statement_of nest second))

-- ---- Times at columns

whole : (m c l columns : ℕ) → m ≤ c → c + l ≤ columns → ((m + (c - m)) + l) + (columns - c - l) ≡ columns
whole m c l columns h g = omega arith

-- a form over the parameters and coordinates, put at the columns of the parameters and those from c on
at_place : (m c l columns : ℕ) (f : Affine) → m ≤ c → c + l ≤ columns → length f.coefs ≡ m + l
    → spread m (c - m) (columns - c - l) f ≡ form_at columns (columns_from columns 0 m ++ columns_from columns c l) f
at_place m c l columns f h g w =
    sym (subst (λ k. form_at k (columns_from k 0 m ++ columns_from k c l) f ≡ spread m (c - m) (columns - c - l) f) (whole m c l columns h g)
    (subst (λ k. form_at (((m + (c - m)) + l) + (columns - c - l)) (columns_from (((m + (c - m)) + l) + (columns - c - l)) 0 m ++ columns_from (((m + (c - m)) + l) + (columns - c - l)) k l) f ≡ spread m (c - m) (columns - c - l) f)
    (place m c h) (at_columns m (c - m) l (columns - c - l) f w)))
  where
    place : (m c : ℕ) → m ≤ c → m + (c - m) ≡ c
    place m c h = omega arith

placed_slight : (m c l columns : ℕ) (fs : List Affine) → m ≤ c → c + l ≤ columns → All (IsWithin (m + l) 256 (2 ^ 30)) fs
    → All (IsWithin columns 256 (2 ^ 30)) (map (form_at columns (columns_from columns 0 m ++ columns_from columns c l)) fs)
placed_slight m c l columns [] h g w = All-nil (IsWithin columns 256 (2 ^ 30))
placed_slight m c l columns (f ∷ fs) h g w =
    let images = columns_from columns 0 m ++ columns_from columns c l in
    let one : IsWithin (m + l) 256 (2 ^ 30) f = All-head (IsWithin (m + l) 256 (2 ^ 30)) f fs w in
    All-cons (IsWithin columns 256 (2 ^ 30)) (form_at columns images f) (map (form_at columns images) fs)
    (subst (IsWithin columns 256 (2 ^ 30)) (at_place m c l columns f h g one.width) (spread_within m (c - m) l (columns - c - l) columns 256 (2 ^ 30) f one (whole m c l columns h g)))
    (placed_slight m c l columns fs h g (All-tail (IsWithin (m + l) 256 (2 ^ 30)) f fs w))

times_sides : (nest : Nest) (maps : List TimeMap) (columns part c : ℕ) → HasMap nest maps part → length nest.params ≤ c → c + coordinates_of nest part ≤ columns
    → All (IsSide columns) (time_forms nest maps columns (record { part = part; iterators = columns_from columns c (coordinates_of nest part) }))
times_sides nest maps columns part c has h g =
    let images = columns_from columns 0 (length nest.params) ++ columns_from columns c (coordinates_of nest part) in
    subst (All (IsSide columns)) (ap (λ o. map (form_at columns images) (forms_or_none o)) (sym has.there))
    (all_raised columns 256 (2 ^ 30) (2 ^ 16) (2 ^ 32) (map (form_at columns images) has.time_map.forms) (omega arith) (omega arith)
    (placed_slight (length nest.params) c (coordinates_of nest part) columns has.time_map.forms h g
    (slight_forms (length nest.params + coordinates_of nest part) has.time_map.forms has.columns has.slight)))

-- ---- Two parts

turned_rows : (nest : Nest) (schedule : Schedule) → IsScheduled nest schedule → (first second : ℕ) → first < length nest.entries → second < length nest.entries
    → All (IsOrder (pair_columns nest first second)) (map rows_in (turned_systems nest first second schedule))
turned_rows nest schedule q first second h g = by_kind schedule refl q.slight
  where
    columns : ℕ
    columns = pair_columns nest first second

    a : Posed
    a = first_posed nest first second

    b : Posed
    b = second_posed nest first second

    long : (n : ℕ) → n ≤ 12 → (0 + 2 * n) + 1 ≤ 26
    long n h = omega (arith, h)

    room : (m k l : ℕ) → m + k ≤ (m + k) + l
    room m k l = omega arith

    front : (m k : ℕ) → m ≤ m + k
    front m k = omega arith

    by_kind : (s : Schedule) → schedule ≡ s → IsTrue (within_limits s) → All (IsOrder columns) (map rows_in (turned_systems nest first second s))
    by_kind Source is w =
        source_rows nest (is_nest nest schedule q) columns b a g (columns_sides columns (length nest.params + coordinates_of nest first) (coordinates_of nest second))
        (columns_sides columns (length nest.params) (coordinates_of nest first))
    by_kind (Time components maps) is w =
        let u = both_true (nat_le 1 components && nat_le components 12) (maps_within maps) w in
        let few = leb-true components 12 (both_true (nat_le 1 components) (nat_le components 12) u.0).1 in
        let own = times_sides nest maps columns first (length nest.params) (timed nest schedule q components maps is first h).has (omega arith) (room (length nest.params) (coordinates_of nest first) (coordinates_of nest second)) in
        let its = times_sides nest maps columns second (length nest.params + coordinates_of nest first) (timed nest schedule q components maps is second g).has (front (length nest.params) (coordinates_of nest first)) (omega arith) in
        lex_orders columns components (time_forms nest maps columns b) (time_forms nest maps columns a) [] (nat_lt (statement_of nest second) (statement_of nest first)) (long components few) its own (All-nil (IsRow columns))

module _ (nest : Nest) (first second columns : ℕ) (fs gs : List Affine) (made : List (List Affine)) (c : columns ≡ pair_columns nest first second)
    (f : fs ≡ columns_from (pair_columns nest first second) (length nest.params) (coordinates_of nest first))
    (g : gs ≡ columns_from (pair_columns nest first second) (length nest.params + coordinates_of nest first) (coordinates_of nest second)) where
  abbrev at : List Affine → Posed
  at xs = record { part = first; iterators = xs }

  abbrev beside : List Affine → Posed
  beside xs = record { part = second; iterators = xs }

  pub source_systems_fit : IsNest nest → first < length nest.entries → made ≡ map rows_in (source_order nest columns (at fs) (beside gs)) → All (IsOrder (pair_columns nest first second)) made
  source_systems_fit n h e =
      let k = pair_columns nest first second in
      subst (All (IsOrder k)) (sym (e ∙ ap (λ m. map rows_in (source_order nest m (at fs) (beside gs))) c ∙ ap (λ xs. map rows_in (source_order nest k (at xs) (beside gs))) f
      ∙ ap (λ xs. map rows_in (source_order nest k (first_posed nest first second) (beside xs))) g))
      (source_rows nest n k (first_posed nest first second) (second_posed nest first second) h (columns_sides k (length nest.params) (coordinates_of nest first))
      (columns_sides k (length nest.params + coordinates_of nest first) (coordinates_of nest second)))

  pub turned_systems_fit : (schedule : Schedule) → IsScheduled nest schedule → first < length nest.entries → second < length nest.entries → made ≡ map rows_in (target_order nest schedule columns (beside gs) (at fs))
      → All (IsOrder (pair_columns nest first second)) made
  turned_systems_fit schedule q h l e =
      let k = pair_columns nest first second in
      subst (All (IsOrder k)) (sym (e ∙ ap (λ m. map rows_in (target_order nest schedule m (beside gs) (at fs))) c ∙ ap (λ xs. map rows_in (target_order nest schedule k (beside gs) (at xs))) f
      ∙ ap (λ xs. map rows_in (target_order nest schedule k (beside xs) (first_posed nest first second))) g))
      (turned_rows nest schedule q first second h l)
