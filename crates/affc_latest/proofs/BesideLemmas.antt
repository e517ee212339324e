-- A statement that stores the array beside a load: its rows, its ranges and its latest store.
use Rattle.std.proofs.Common.{◌≡◌, ℕ, ◌+◌, ◌^◌, ◌<◌, ◌≤◌, ℤ, IsTrue, List, [], ◌∷◌, ◌++◌, length, map, Option, refl, sym, ap, subst, ◌∙◌, inl, inr, arith}
use Rattle.std.specs.Prelude.{◌&&◌, IfSome}
use Rattle.std.specs.List.{All}
use Rattle.std.proofs.lemmas.List.Elements.{All-nil, All-cons, All-head, All-tail, All-append}
use Rattle.affc_rows.specs.Forms.{Affine}
use Rattle.affc_system.specs.Boxes.{pin}
use Rattle.affc_system.specs.Pairs.{WithinReach}
use Rattle.affc_system.specs.Systems.{Rows}
use Rattle.affc_ast.specs.declared.tree.Instance.{Instance}
use Rattle.affc_ast.specs.Trace.{trace}
use Rattle.affc_trace.specs.declared.schedule.Schedule.TheVariants as schedule
use Rattle.affc_trace.specs.Law.{IsIn}
use Rattle.affc_trace.proofs.Runs.{length_append}
use Rattle.affc_domain.specs.Ranges.{is_near}
use Rattle.affc_domain.proofs.Lists.{both_true, length_map, stands_in}
use Rattle.affc_nest.specs.Asked.{IsNest}
use Rattle.affc_nest.specs.Domains.{with_rows}
use Rattle.affc_nest.specs.declared.nest.Access.{Access}
use Rattle.affc_nest.specs.declared.nest.Entry.{Entry}
use Rattle.affc_nest.specs.declared.nest.Nest.{Nest}
use Rattle.affc_nest.proofs.EntryLemmas.{ranges_hold_iterators}
use Rattle.affc_order.specs.Spread.{spread}
use Rattle.affc_order.specs.Placed.{IsOrder}
use Rattle.affc_order.specs.Systems.{over, pair_columns, rows_in, source_systems}
use Rattle.affc_order.proofs.RowLemmas.{source_again}
use Rattle.affc_sched.specs.Touched.{Each}
use Rattle.affc_sched.specs.Legality.{IsAsked}
use Rattle.affc_sched.specs.Questions.{equal_rows}
use Rattle.affc_sched.proofs.LegalLemmas.{entry_at}
use Rattle.affc_sched.proofs.PairLemmas as pairs
use Rattle.affc_sched.proofs.Lists.{all_from, each_from}
use Rattle.affc_sched.proofs.PairLemmas.{columns_of_pair}
use Rattle.affc_quast.specs.Paths.{IsNear}
use Rattle.affc_quast.specs.Sources.{loads_in}
use Rattle.affc_latest.specs.Latest.{IsLatest}
use Rattle.affc_flow.specs.Writers.{Writes}
use Rattle.affc_latest.specs.Stores.{store_rows, store_system, beside_box, IsLastIn, IsNamedNest, AreBeside, IsStoreBy, IsLatestBy, IsWriterAt}
use Rattle.affc_latest.proofs.AmongLemmas.{one_by}
use Rattle.affc_latest.proofs.LastLemmas.{within, latest_by, names_writer}

-- ---- Nests

pub is_nest : (nest : Nest) → IsNamedNest nest → IsNest nest
is_nest nest n = record { program = n.program; has = n.has; is = n.is }

pub may_be_asked : (nest : Nest) → IsNamedNest nest → IsAsked nest schedule.Source
may_be_asked nest n = record { scheduled = record { program = n.program; has = n.has; is = n.is; fits = tt; slight = refl }; named = n.named }

pub counted_entry : (nest : Nest) → IsNamedNest nest → (e : Entry) → IsIn e nest.entries → e.part < length nest.entries
counted_entry nest n e i = (pairs.stands_in nest (is_nest nest n) e i).counted

pub its_store_is : (nest : Nest) (array : ℕ) (v : Entry) (y : Access) → Writes nest array v y → IsIn y v.accesses
its_store_is nest array v y w = stands_in v.accesses (loads_in v) y w.last

pub few_dimensions : (nest : Nest) → IsNamedNest nest → (v : Entry) (y : Access) (array : ℕ) → Writes nest array v y → length y.subs ≤ 4
few_dimensions nest n v y array w = pairs.few_subs nest schedule.Source (may_be_asked nest n) v w.among y (its_store_is nest array v y w)

-- ---- Rows

abbrev whole_store : (rows : List Affine) (ps : List (ℤ × ℤ)) (outer inner : ℕ) (ys xs : List Affine) → Rows
whole_store rows ps outer inner ys xs = record {
  columns = (length ps + outer) + inner;
  rows = map (spread (length ps) 0 inner) rows ++ equal_rows (map (spread (length ps) 0 inner) ys) (map (spread (length ps) outer 0) xs);
}

pub store_made : (nest : Nest) (v e : Entry) (y x : Access) (ps : List (ℤ × ℤ)) (outer inner : ℕ) (ys xs : List Affine) (system system' : Rows)
    → ps ≡ nest.params → outer ≡ length v.loops → inner ≡ length e.loops → ys ≡ y.subs → xs ≡ x.subs
    → (length nest.params + length v.loops) + length e.loops ≡ pair_columns nest v.part e.part
    → system ≡ record { columns = (length ps + outer) + inner; rows = map (spread (length ps) 0 inner) v.domain.rows }
    → system' ≡ with_rows system (equal_rows (map (spread (length ps) 0 inner) ys) (map (spread (length ps) outer 0) xs))
    → system' ≡ record { columns = pair_columns nest v.part e.part; rows = store_rows nest v e y x }
store_made nest v e y x ps outer inner ys xs system system' p o i w u columns one two =
    two ∙ ap (λ (s : Rows). with_rows s (equal_rows (map (spread (length ps) 0 inner) ys) (map (spread (length ps) outer 0) xs))) one
    ∙ ap (λ rs. whole_store v.domain.rows rs outer inner ys xs) p
    ∙ ap (λ k. whole_store v.domain.rows nest.params k inner ys xs) o
    ∙ ap (λ k. whole_store v.domain.rows nest.params (length v.loops) k ys xs) i
    ∙ ap (λ fs. whole_store v.domain.rows nest.params (length v.loops) (length e.loops) fs xs) w
    ∙ ap (λ gs. whole_store v.domain.rows nest.params (length v.loops) (length e.loops) y.subs gs) u
    ∙ ap (λ k. record { columns = k; rows = store_rows nest v e y x }) columns

pub domain_kept : (F : Affine → Affine) (rows : List Affine) (system : Rows) (columns : ℕ) → system ≡ record { columns = columns; rows = map F rows } → length rows ≤ 134 → length system.rows ≤ 134
domain_kept F rows system columns e h =
    let b = length_map F rows in
    let d : length system.rows ≡ length (map F rows) = ap (λ (r : Rows). length r.rows) e in
    omega (arith, h, b, d)

-- ---- Ranges

near_range : (r : ℤ × ℤ) → IsTrue (is_near r.0 && is_near r.1) → WithinReach r
near_range r h =
    let b = both_true (is_near r.0) (is_near r.1) h in
    record { low = within r.0 (2 ^ 31) (2 ^ 60) b.0 (omega arith); high = within r.1 (2 ^ 31) (2 ^ 60) b.1 (omega arith) }

pins_reach : (xs : List ℤ) → All IsNear xs → All WithinReach (map pin xs)
pins_reach [] h = All-nil WithinReach
pins_reach (x ∷ xs) h =
    let n = All-head IsNear x xs h in
    All-cons WithinReach (pin x) (map pin xs) (record { low = n; high = n }) (pins_reach xs (All-tail IsNear x xs h))

at_one : {A : Type 0} (P : A → Type 0) (xs : List A) → All P xs → (x : A) → IsIn x xs → P x
at_one P [] h x i = absurd i
at_one P (y ∷ xs) h x (inl e) = subst P (sym e) (All-head P y xs h)
at_one P (y ∷ xs) h x (inr i) = at_one P xs (All-tail P y xs h) x i

-- ---- One statement

module _ (nest : Nest) (v e : Entry) (y x : Access) (p its : List ℤ) (pair : Rows) (ranges : List (ℤ × ℤ)) (h : AreBeside nest v e y x p its pair ranges) where
  n : IsNest nest
  n = is_nest nest h.reading.nested

  each : length v.ranges ≡ length v.loops
  each = (ranges_hold_iterators n.program v.part v n.has (entry_at n.program n.has v (subst (λ (z : Nest). IsIn v z.entries) n.is h.writes.among)) h.writes.alive).each

  long : length ranges ≡ (length nest.params + length v.loops) + length e.loops
  long =
      ap length h.ranges_are ∙ length_append (map pin p) (v.ranges ++ map pin its) ∙ ap (λ k. length (map pin p) + k) (length_append v.ranges (map pin its))
      ∙ sum (length (map pin p)) (length v.ranges) (length (map pin its)) (length nest.params) (length v.loops) (length e.loops) (length_map pin p ∙ h.reading.params) each (length_map pin its ∙ h.reading.loops)
    where
      sum : (a b c m k n : ℕ) → a ≡ m → b ≡ k → c ≡ n → a + (b + c) ≡ (m + k) + n
      sum a b c m k n e f g = omega (arith, e, f, g)

  pub ranges_long : (order : List Affine) (system : Rows) → system ≡ with_rows pair order → length ranges ≡ system.columns
  ranges_long order system s =
      long ∙ columns_of_pair nest n v e h.writes.among h.reading.touched.there ∙ sym (ap (λ (r : Rows). r.columns) s ∙ ap (λ (r : Rows). r.columns) h.rows)

  pub ranges_room : (params loops : ℕ) → params ≡ length nest.params → loops ≡ length v.loops → params + loops ≤ length ranges
  ranges_room params loops q r = room params loops (length nest.params) (length v.loops) (length e.loops) (length ranges) q r long
    where
      room : (a b m k n l : ℕ) → a ≡ m → b ≡ k → l ≡ (m + k) + n → a + b ≤ l
      room a b m k n l e f g = omega (arith, e, f, g)

  pub ranges_reach : All WithinReach ranges
  ranges_reach =
      let r = ranges_hold_iterators n.program v.part v n.has (entry_at n.program n.has v (subst (λ (z : Nest). IsIn v z.entries) n.is h.writes.among)) h.writes.alive in
      subst (All WithinReach) (sym h.ranges_are)
      (All-append WithinReach (map pin p) (v.ranges ++ map pin its) (pins_reach p h.reading.params_near)
      (All-append WithinReach v.ranges (map pin its) (all_from WithinReach v.ranges (λ q i. near_range q (r.near q i).1)) (pins_reach its h.reading.loops_near)))

  module _ (order : List Affine) (system : Rows) (statement params loops : ℕ) (made : system ≡ with_rows pair order) (s : statement ≡ v.part) (q : params ≡ length nest.params) (r : loops ≡ length v.loops)
      (found : Option Instance) (last : IsLastIn system ranges statement params loops found) where
    last_there : IsLastIn (store_system nest v e y x (over pair.columns order)) (beside_box p v.ranges its) v.part (length nest.params) (length v.loops) found
    last_there =
        subst (λ k. IsLastIn (store_system nest v e y x (over pair.columns order)) (beside_box p v.ranges its) v.part (length nest.params) k found) r
        (subst (λ k. IsLastIn (store_system nest v e y x (over pair.columns order)) (beside_box p v.ranges its) v.part k loops found) q
        (subst (λ k. IsLastIn (store_system nest v e y x (over pair.columns order)) (beside_box p v.ranges its) k params loops found) s
        (subst (λ rs. IsLastIn (store_system nest v e y x (over pair.columns order)) rs statement params loops found) h.ranges_are
        (subst (λ z. IsLastIn z ranges statement params loops found) (made ∙ ap (λ (z : Rows). with_rows z order) h.rows) last))))

    pub one_latest : IsIn (over pair.columns order) (source_systems nest v.part e.part) → IsLatestBy nest v e y x p its (over pair.columns order ∷ []) found
    one_latest i = one_by nest v e y x p its (over pair.columns order) found (λ program is loads.
        subst (λ z. IsLatest (trace program p) (IsStoreBy z program p its v e y x (over pair.columns order)) found) (sym is)
        (latest_by program p its e x loads v y (subst (λ z. Writes z x.array.0 v y) is h.writes) (its_store_is nest x.array.0 v y h.writes) (over pair.columns order)
        (subst (λ z. IsIn (over pair.columns order) (source_systems z v.part e.part)) is i) found
        (subst (λ (z : Nest). IsLastIn (store_system z v e y x (over pair.columns order)) (beside_box p v.ranges its) v.part (length z.params) (length v.loops) found) is last_there)))

    pub one_writer : IfSome found (IsWriterAt nest x.array.0)
    one_writer =
        subst (λ z. IfSome found (IsWriterAt z x.array.0)) (sym n.is)
        (names_writer n.program n.has p (h.reading.params ∙ ap (λ (z : Nest). length z.params) n.is) its x.array.0 v y (subst (λ z. Writes z x.array.0 v y) n.is h.writes) (store_system nest v e y x (over pair.columns order)) found
        (subst (λ (z : Nest). IsLastIn (store_system nest v e y x (over pair.columns order)) (beside_box p v.ranges its) v.part (length z.params) (length v.loops) found) n.is last_there))

-- ---- All orders

pub orders_again : (nest : Nest) (v e : Entry) (y x : Access) (pair : Rows) (held made : List (List Affine)) → pair ≡ record { columns = pair_columns nest v.part e.part; rows = store_rows nest v e y x }
    → held ≡ made → made ≡ map rows_in (source_systems nest v.part e.part) → map (over pair.columns) held ≡ source_systems nest v.part e.part
orders_again nest v e y x pair held made p h is =
    ap (λ (r : Rows). map (over r.columns) held) p ∙ ap (map (over (pair_columns nest v.part e.part))) h ∙ source_again nest v.part e.part made is

pub orders_fit : (nest : Nest) (v e : Entry) (y x : Access) (pair : Rows) (held made : List (List Affine)) → pair ≡ record { columns = pair_columns nest v.part e.part; rows = store_rows nest v e y x }
    → held ≡ made → All (IsOrder (pair_columns nest v.part e.part)) made → All (IsOrder pair.columns) held
orders_fit nest v e y x pair held made p h fit = subst (All (IsOrder pair.columns)) (sym h) (subst (λ (r : Rows). All (IsOrder r.columns) made) (sym p) fit)

pub all_over : {A B : Type 0} (F : A → B) (xs : List A) (ys : List B) → map F xs ≡ ys → Each (λ x. IsIn (F x) ys) xs
all_over {A = A} F xs ys e = subst (λ zs. Each (λ x. IsIn (F x) zs) xs) e (each_from (λ x. IsIn (F x) (map F xs)) xs (mapped_in xs))
  where
    mapped_in : (xs : List A) (x : A) → IsIn x xs → IsIn (F x) (map F xs)
    mapped_in [] x i = absurd i
    mapped_in (y ∷ ys) x (inl e) = inl (ap F e)
    mapped_in (y ∷ ys) x (inr i) = inr (mapped_in ys x i)
