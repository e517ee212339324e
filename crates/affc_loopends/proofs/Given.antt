-- What the code is given.
use Rattle.std.proofs.Common.{◌≡◌, ℕ, ◌^◌, [], ◌∷◌, ◌++◌, map, zero, suc, ◌+◌, ◌-◌, ◌*◌, ◌≤◌, List, length, IsTrue, ℤ, refl, sym, ap, subst, ◌∙◌, arith}
use Rattle.std.specs.List.{All}
use Rattle.std.proofs.lemmas.List.{length-map}
use Rattle.std.proofs.lemmas.List.Elements.{All-nil, All-cons, All-append, All-head, All-tail}
use Rattle.affc_rows.specs.Forms.{Affine, HaveColumns, columns_of}
use Rattle.affc_rows.specs.Vocabulary.{form_at}
use Rattle.affc_rows.proofs.SizeLemmas.{column_within, all_raised}
use Rattle.affc_system.specs.Systems.{Rows, IsRow}
use Rattle.affc_trace.specs.declared.schedule.TimeMap.{TimeMap}
use Rattle.affc_trace.specs.Law.{IsIn}
use Rattle.affc_domain.specs.Ranges.{number_ranges}
use Rattle.affc_domain.specs.Rounds.{loops_in}
use Rattle.affc_system.proofs.SystemLemmas.{rows_of}
use Rattle.affc_trace.specs.Inverses.{column, columns_from}
use Rattle.affc_nest.specs.Asked.{IsNest}
use Rattle.affc_nest.specs.declared.nest.Entry.{Entry}
use Rattle.affc_nest.specs.declared.nest.Nest.{Nest}
use Rattle.affc_nest.specs.Domains.{column_form, gap_row}
use Rattle.affc_nest.proofs.EntryLemmas.{loops_are, ranges_there, domain_is}
use Rattle.affc_nest.proofs.PlaceProofs.{near_numbers, near_within}
use Rattle.affc_nest.proofs.QuestionProofs.{nest_few, few_numbered, domain_small, entry_in}
use Rattle.affc_order.specs.Placed.{AreImages}
use Rattle.affc_order.proofs.CodeLemmas.{columns_are}
use Rattle.affc_order.proofs.PlacedLemmas.{slight_forms}
use Rattle.affc_loopends.specs.Images.{AreComposable}
use Rattle.affc_loopends.specs.Sizes.{IsTimed, IsSlight, IsNear}
use Rattle.affc_loopends.specs.TimeRows.{component_rows}
use Rattle.affc_loopends.proofs.Composed.{is_composed, composed_row, gap_is_row}
use Rattle.affc_loopends.proofs.Exact.{images_long}
use Rattle.affc_loopends.proofs.Near.{domain_near}

params_are : (nest : Nest) (n : IsNest nest) → nest.params ≡ number_ranges n.program.params
params_are nest n = ap (λ (x : Nest). x.params) n.is

-- the rows of a domain are near
rows_near : (nest : Nest) (n : IsNest nest) (e : Entry) → IsIn e nest.entries → IsTrue e.alive → All (IsNear (length nest.params + length e.loops)) e.domain.rows
rows_near nest n e i alive =
    let o = entry_in nest n e i in
    let ps = number_ranges n.program.params in
    let rs = o.site.its_rounds in
    let w = ranges_there n.program o.statement e n.has o.site alive in
    let d = domain_is n.program o.statement e o.site w.0 w.1 in
    let near = domain_near ps n.program.context w.0 rs (near_numbers ps n.has.plain.ranges) (near_within ps w.0 rs w.1) n.has.plain.context o.plain.rounds in
    let count : length ps + loops_in rs ≡ length nest.params + length e.loops =
    ap (λ k. length ps + k) (sym (loops_are n.program o.statement e o.site)) ∙ ap (λ qs. length qs + length e.loops) (sym (params_are nest n)) in
    subst (λ k. All (IsNear k) e.domain.rows) count (subst (λ (q : Rows). All (IsNear (length ps + loops_in rs)) q.rows) (sym d) near)

own_slight : (c j n : ℕ) → All (IsSlight c) (columns_from c j n)
own_slight c j zero = All-nil (IsSlight c)
own_slight c j (suc n) = All-cons (IsSlight c) (column c j) (columns_from c (suc j) n) (subst (IsSlight c) (columns_are c j) (column_within c 256 (2 ^ 30) j (omega arith))) (own_slight c (suc j) n)

module _ (c : ℕ) (gs : List Affine) (few : length gs ≤ 10) (slight : All (IsSlight c) gs) where
  images_rows : (rows : List Affine) → All (IsNear (length gs)) rows → All (IsRow c) (map (form_at c gs) rows)
  images_rows [] h = All-nil (IsRow c)
  images_rows (r ∷ rs) h =
      All-cons (IsRow c) (form_at c gs r) (map (form_at c gs) rs) (composed_row c (form_at c gs r) (is_composed c gs few slight r (All-head (IsNear (length gs)) r rs h))) (images_rows rs (All-tail (IsNear (length gs)) r rs h))

  components_rows : (j : ℕ) (fs : List Affine) → All (IsNear (length gs)) fs → All (IsRow c) (component_rows c j gs fs)
  components_rows j [] h = All-nil (IsRow c)
  components_rows j (f ∷ fs) h =
      let a = column_form c j in
      let b = form_at c gs f in
      let p = column_within c (2 ^ 30) (2 ^ 52) j (omega arith) in
      let q = is_composed c gs few slight f (All-head (IsNear (length gs)) f fs h) in
      All-cons (IsRow c) (gap_row b a 0) (gap_row a b 0 ∷ component_rows c (suc j) gs fs) (gap_is_row c b a q p)
      (All-cons (IsRow c) (gap_row a b 0) (component_rows c (suc j) gs fs) (gap_is_row c a b p q) (components_rows (suc j) fs (All-tail (IsNear (length gs)) f fs h)))

components_count : (c j : ℕ) (gs fs : List Affine) → length (component_rows c j gs fs) ≡ 2 * length fs
components_count c j gs [] = refl
components_count c j gs (f ∷ fs) = let e = components_count c (suc j) gs fs in omega arith

pub composable : (nest : Nest) (e : Entry) (m : TimeMap) → IsTimed nest e m → AreComposable (length nest.params) e.domain.rows m.forms m.inverse
composable nest e m t =
    let loops : length m.inverse ≡ length e.loops = t.map_of.iterators in
    let c = length nest.params + length e.loops in
    let width : c ≡ length nest.params + length m.inverse = ap (λ k. length nest.params + k) (sym loops) in
    let forms = slight_forms c m.forms (subst (λ k. HaveColumns k m.forms) t.map_of.columns m.shaped) t.forms in
    record {
      few_params = nest_few nest t.is_nest;
      few_iterators = subst (λ k. k ≤ 6) (sym loops) (few_numbered nest e t.is_nest t.there);
      few_components = t.few;
      few_rows = domain_small nest e t.is_nest t.there;
      slight = slight_forms (length nest.params + length m.forms) m.inverse (subst (λ k. HaveColumns k m.inverse) (same (columns_of m.forms) (length nest.params) (length e.loops) (length m.forms) (length m.inverse) t.map_of.columns loops) m.inverse_shaped) t.inverse;
      near_rows = subst (λ k. All (IsNear k) e.domain.rows) width (rows_near nest t.is_nest e t.there t.alive);
      near_times = subst (λ k. All (IsNear k) m.forms) width (all_raised c 256 (2 ^ 30) (2 ^ 17) (2 ^ 34) m.forms (omega arith) (omega arith) forms);
    }
  where
    same : (c m k n i : ℕ) → c ≡ m + k → i ≡ k → (c - i) + n ≡ m + n
    same c m k n i e f = omega arith

module _ (params : ℕ) (domain times inverse : List Affine) (h : AreComposable params domain times inverse) (gs : List Affine) (is : gs ≡ columns_from (params + length times) 0 params ++ inverse) where
  count : length gs ≡ params + length inverse
  count = ap length is ∙ images_long params (length times) inverse

  few : length gs ≤ 10
  few = sum (length gs) params (length inverse) count h.few_params h.few_iterators
    where
      sum : (n p i : ℕ) → n ≡ p + i → p ≤ 4 → i ≤ 6 → n ≤ 10
      sum n p i e g k = omega (arith, e, g, k)

  slight : All (IsSlight (params + length times)) gs
  slight =
      let c = params + length times in
      subst (All (IsSlight c)) (sym is) (All-append (IsSlight c) (columns_from c 0 params) inverse (own_slight c 0 params) h.slight)

  near_rows : All (IsNear (length gs)) domain
  near_rows = subst (λ k. All (IsNear k) domain) (sym count) h.near_rows

  near_times : All (IsNear (length gs)) times
  near_times = subst (λ k. All (IsNear k) times) (sym count) h.near_times

  pub made_images : AreImages (params + length times) gs
  made_images = record { few = few; rows = rows_of (params + length times) 256 (2 ^ 30) gs (omega arith) (omega arith) slight }

  pub made_rows : All (IsRow (length gs)) domain
  made_rows = rows_of (length gs) (2 ^ 17) (2 ^ 34) domain (omega arith) (omega arith) near_rows

  pub made_times : All (IsRow (length gs)) times
  made_times = rows_of (length gs) (2 ^ 17) (2 ^ 34) times (omega arith) (omega arith) near_times

  -- the rows of the domain and those of the components, as the code makes them
  pub domain_fit : (start made rows : List Affine) → start ≡ [] → made ≡ start ++ map (form_at (params + length times) gs) domain → rows ≡ made → All (IsRow (params + length times)) rows × (length rows ≤ 134)
  domain_fit start made rows s m r =
      let e : rows ≡ map (form_at (params + length times) gs) domain = r ∙ m ∙ ap (λ z. z ++ map (form_at (params + length times) gs) domain) s in (
        subst (All (IsRow (params + length times))) (sym e) (images_rows (params + length times) gs few slight domain near_rows),
        subst (λ k. k ≤ 134) (sym (ap length e ∙ length-map domain (form_at (params + length times) gs))) h.few_rows,
      )

  pub times_fit : (start made rows : List Affine) → start ≡ [] → made ≡ start ++ component_rows (params + length times) params gs times → rows ≡ made → All (IsRow (params + length times)) rows × (length rows ≤ 24)
  times_fit start made rows s m r =
      let e : rows ≡ component_rows (params + length times) params gs times = r ∙ m ∙ ap (λ z. z ++ component_rows (params + length times) params gs times) s in (
        subst (All (IsRow (params + length times))) (sym e) (components_rows (params + length times) gs few slight params times near_times),
        twice (length rows) (length times) (ap length e ∙ components_count (params + length times) params gs times) h.few_components,
      )
    where
      twice : (m n : ℕ) → m ≡ 2 * n → n ≤ 12 → m ≤ 24
      twice m n e g = omega (arith, e, g)

-- ---- What the code has made

pub code_composable : (nest : Nest) (e : Entry) (m : TimeMap) → IsTimed nest e m → (params : List (ℤ × ℤ)) (domain times inverse : List Affine) → params ≡ nest.params → domain ≡ e.domain.rows → times ≡ m.forms → inverse ≡ m.inverse
    → AreComposable (length params) domain times inverse
code_composable nest e m t params domain times inverse a b c d =
    subst (λ ps. AreComposable (length ps) domain times inverse) (sym a)
    (subst (λ xs. AreComposable (length nest.params) xs times inverse) (sym b)
    (subst (λ xs. AreComposable (length nest.params) e.domain.rows xs inverse) (sym c)
    (subst (λ xs. AreComposable (length nest.params) e.domain.rows m.forms xs) (sym d) (composable nest e m t))))
