-- The later of two instances, and the latest of more and more of them.
use Rattle.std.proofs.Common.{◌≡◌, ℕ, ◌+◌, ◌≤◌, ℤ, IsTrue, Bool, true, false, true≢false, List, [], ◌∷◌, ◌++◌, length, map, Option, Some, None, refl, sym, ap, subst, ◌∙◌, ◌⊎◌, inl, inr, Fits, w32, rules, arith}
use Rattle.std.specs.Prelude.{◌↔◌, IfSome, ◌<◌}
use Rattle.std.proofs.lemmas.Option.{slice_get_within}
use Rattle.affc_rows.specs.Forms.{Affine}
use Rattle.affc_system.specs.Systems.{Rows, IsPoint}
use Rattle.affc_ast.specs.declared.tree.Instance.{Instance}
use Rattle.affc_ast.specs.declared.tree.Program.{Program}
use Rattle.affc_ast.specs.Trace.{trace}
use Rattle.affc_trace.specs.declared.schedule.Schedule.TheVariants as schedule
use Rattle.affc_trace.specs.Dataflow.{same_instance}
use Rattle.affc_trace.specs.Law.{IsIn}
use Rattle.affc_trace.specs.Orders.{Earlier}
use Rattle.affc_trace.proofs.EndedReads.{append_assoc}
use Rattle.affc_trace.proofs.Legality.{either_way}
use Rattle.affc_trace.proofs.Once.{once}
use Rattle.affc_trace.proofs.Runs.{length_append}
use Rattle.affc_trace.proofs.Targets.{same_instance_decides}
use Rattle.affc_domain.specs.Ranges.{number_ranges}
use Rattle.affc_nest.specs.Asked.{IsNest}
use Rattle.affc_nest.specs.declared.nest.Nest.{Nest}
use Rattle.affc_nest.proofs.QuestionProofs.{nest_few}
use Rattle.affc_nest.specs.Laws.{HasNest}
use Rattle.affc_nest.specs.Nests.{nest_of}
use Rattle.std.specs.List.{All}
use Rattle.affc_order.specs.Laws.{IsPointOfOne}
use Rattle.affc_order.specs.Placed.{IsOrder}
use Rattle.affc_order.specs.Systems.{loops_or_none, loops_of, over, pair_columns, rows_in, source_systems}
use Rattle.affc_order.proofs.CodeLemmas.{few_loops}
use Rattle.affc_order.proofs.OrderLemmas.{systems_are_the_orders}
use Rattle.affc_order.proofs.RowLemmas.{source_again}
use Rattle.affc_latest.specs.Latest.{IsLatest}
use Rattle.affc_latest.specs.Stores.{IsNumbered, IsWriterAt, IsLaterOf}
use Rattle.affc_latest.proofs.LatestLemmas.{later_of_two, either_order, only_second}

-- ---- A point of one of some orders

pub one_met : (columns : ℕ) (orders rest : List (List Affine)) (order : List Affine) (system : Rows) (point : List ℤ) → orders ≡ order ∷ rest → system ≡ over columns order → IsPoint system point
    → IsPointOfOne (map (over columns) orders) point
one_met columns orders rest order system point e s m =
    subst (λ os. IsPointOfOne (map (over columns) os) point) (sym e) (record { system = over columns order; there = inl refl; meets = subst (λ z. IsPoint z point) s m })

pub others_met : (columns : ℕ) (orders rest : List (List Affine)) (order : List Affine) (system : Rows) (point : List ℤ) (t : Bool) → orders ≡ order ∷ rest → system ≡ over columns order → (IsPoint system point → ⊥)
    → (IsTrue t ↔ IsPointOfOne (map (over columns) rest) point) → IsTrue t ↔ IsPointOfOne (map (over columns) orders) point
others_met columns orders rest order system point t e s none h = subst (λ os. IsTrue t ↔ IsPointOfOne (map (over columns) os) point) (sym e) ((λ k. more (h.0 k)), λ m. h.1 (less m m.there))
  where
    more : IsPointOfOne (map (over columns) rest) point → IsPointOfOne (map (over columns) (order ∷ rest)) point
    more m = record { system = m.system; there = inr m.there; meets = m.meets }

    less : (m : IsPointOfOne (map (over columns) (order ∷ rest)) point) → IsIn m.system (map (over columns) (order ∷ rest)) → IsPointOfOne (map (over columns) rest) point
    less m (inl q) = absurd (none (subst (λ z. IsPoint z point) (q ∙ sym s) m.meets))
    less m (inr i) = record { system = m.system; there = i; meets = m.meets }

-- ---- Two instances at the columns of their orders

pub three_lists : (ps rs ss : List ℤ) → (ps ++ rs) ++ ss ≡ ps ++ (rs ++ ss)
three_lists ps rs ss = append_assoc ps rs ss

pub counted : (nest : Nest) (w : Instance) → IsNumbered nest w → w.statement < length nest.entries
counted nest w h = slice_get_within nest.entries w.statement h.entry h.there

its_loops : (nest : Nest) (w : Instance) → IsNumbered nest w → length w.iterators ≡ length (loops_of nest w.statement)
its_loops nest w h = h.long ∙ sym (ap (λ o. length (loops_or_none o)) h.there)

-- instances of statements that store an array are such instances
pub writers_numbered : (nest : Nest) (array : ℕ) (o : Option Instance) → IfSome o (IsWriterAt nest array) → IfSome o (IsNumbered nest)
writers_numbered nest array None h = tt
writers_numbered nest array (Some w) h = record { entry = h.entry; there = h.there; long = h.long }

pub either_writes : (nest : Nest) (array : ℕ) (first second later : Option Instance) → IfSome first (IsWriterAt nest array) → IfSome second (IsWriterAt nest array) → (later ≡ first) ⊎ (later ≡ second) → IfSome later (IsWriterAt nest array)
either_writes nest array first second later h g (inl e) = subst (λ o. IfSome o (IsWriterAt nest array)) (sym e) h
either_writes nest array first second later h g (inr e) = subst (λ o. IfSome o (IsWriterAt nest array)) (sym e) g

pub point_long : (nest : Nest) (p point : List ℤ) (u w : Instance) → length p ≡ length nest.params → IsNumbered nest u → IsNumbered nest w → point ≡ p ++ (u.iterators ++ w.iterators)
    → length point ≡ pair_columns nest u.statement w.statement
point_long nest p point u w l a b f =
    ap length f ∙ length_append p (u.iterators ++ w.iterators) ∙ ap (λ k. length p + k) (length_append u.iterators w.iterators)
    ∙ sum (length p) (length u.iterators) (length w.iterators) (length nest.params) (length (loops_of nest u.statement)) (length (loops_of nest w.statement)) l (its_loops nest u a) (its_loops nest w b)
  where
    sum : (a b c m k n : ℕ) → a ≡ m → b ≡ k → c ≡ n → a + (b + c) ≡ (m + k) + n
    sum a b c m k n e f g = omega (arith, e, f, g)

module _ (nest : Nest) (n : IsNest nest) (u w : Instance) (a : IsNumbered nest u) (b : IsNumbered nest w) (columns : ℕ) (e : columns ≡ pair_columns nest u.statement w.statement) where
  few_columns : pair_columns nest u.statement w.statement ≤ 16
  few_columns =
      let p = nest_few nest n in
      let f = few_loops nest n u.statement (counted nest u a) in
      let g = few_loops nest n w.statement (counted nest w b) in
      omega arith

  pub columns_few : columns ≤ 128
  columns_few = most columns (pair_columns nest u.statement w.statement) e few_columns
    where
      most : (k m : ℕ) → k ≡ m → m ≤ 16 → k ≤ 128
      most k m e h = omega (arith, e, h)

  pub cast_fits : Fits w32 columns
  cast_fits = fits columns columns_few
    where
      fits : (k : ℕ) → k ≤ 128 → Fits w32 k
      fits k h = first_of (omega (arith, h), search (rules, h), grind (arith, h))

module _ (nest : Nest) (u w : Instance) (columns : ℕ) (held made : List (List Affine)) (h : held ≡ made) where
  pub orders_at : All (IsOrder (pair_columns nest u.statement w.statement)) made → columns ≡ pair_columns nest u.statement w.statement → All (IsOrder columns) held
  orders_at fit e = subst (λ k. All (IsOrder k) held) (sym e) (subst (All (IsOrder (pair_columns nest u.statement w.statement))) (sym h) fit)

  pub says_earlier : (point point' : List ℤ) (t : Bool) → made ≡ map rows_in (source_systems nest u.statement w.statement) → point ≡ point' → columns ≡ pair_columns nest u.statement w.statement
      → IsTrue t ↔ IsPointOfOne (map (over columns) held) point → IsTrue t ↔ IsPointOfOne (source_systems nest u.statement w.statement) point'
  says_earlier point point' t is q e m =
      subst (λ xs. IsTrue t ↔ IsPointOfOne (source_systems nest u.statement w.statement) xs) q
      (subst (λ ss. IsTrue t ↔ IsPointOfOne ss point) (ap (λ k. map (over k) held) e ∙ ap (map (over (pair_columns nest u.statement w.statement))) h ∙ source_again nest u.statement w.statement made is) m)

-- ---- The later

module _ (nest : Nest) (p : List ℤ) (l : length p ≡ length nest.params) (u w : Instance) where
  says : (program : Program) → nest ≡ nest_of program → HasNest program → IsIn u (trace program p) → IsIn w (trace program p)
      → IsPointOfOne (source_systems nest u.statement w.statement) (p ++ (u.iterators ++ w.iterators)) ↔ Earlier (trace program p) u w
  says program is has i j =
      let k : length p ≡ length (number_ranges program.params) = l ∙ ap (λ (n : Nest). length n.params) is in
      subst (λ n. IsPointOfOne (source_systems n u.statement w.statement) (p ++ (u.iterators ++ w.iterators)) ↔ Earlier (trace program p) u w) (sym is)
      ((systems_are_the_orders program schedule.Source p u w has tt k i j).in_source)

  pub second_is_later : IsPointOfOne (source_systems nest u.statement w.statement) (p ++ (u.iterators ++ w.iterators)) → IsLaterOf nest p (Some u) (Some w) (Some w)
  second_is_later m = λ program is has i j. inl (refl, inr ((says program is has i j).0 m))

  pub first_is_later : (IsPointOfOne (source_systems nest u.statement w.statement) (p ++ (u.iterators ++ w.iterators)) → ⊥) → IsLaterOf nest p (Some u) (Some w) (Some u)
  first_is_later m = λ program is has i j. inr (refl, chosen program is has i j (same_instance w u) refl)
    where
      chosen : (program : Program) → nest ≡ nest_of program → HasNest program → IsIn u (trace program p) → IsIn w (trace program p) → (t : Bool) → same_instance w u ≡ t → (w ≡ u) ⊎ Earlier (trace program p) w u
      chosen program is has i j true e = inl ((same_instance_decides w u).0 e)
      chosen program is has i j false e = elim (either_way (trace program p) w u (λ q. true≢false (sym ((same_instance_decides w u).1 q) ∙ e)) j i) [
        | inl k ↦ inr k
        | inr k ↦ absurd (m ((says program is has i j).1 k))
      ]

-- ---- The latest of two kinds

pub same_latest : {I : Type 0} (trace : List I) (P Q : I → Type 0) → ((v : I) → P v → Q v) → ((v : I) → Q v → P v) → (o : Option I) → IsLatest trace P o → IsLatest trace Q o
same_latest trace P Q to from None l = λ v q. l v (from v q)
same_latest trace P Q to from (Some w) l = (to w l.0, λ v q. l.1 v (from v q))

pub later_joined : (nest : Nest) (program : Program) (p : List ℤ) → nest ≡ nest_of program → HasNest program → (P Q : Instance → Type 0)
    → ((w : Instance) → P w → IsIn w (trace program p)) → ((w : Instance) → Q w → IsIn w (trace program p)) → (u w r : Option Instance)
    → IsLatest (trace program p) P u → IsLatest (trace program p) Q w → IsLaterOf nest p u w r → IsLatest (trace program p) (λ v. P v ⊎ Q v) r
later_joined nest program p is has P Q ps qs None w r a b l = subst (IsLatest (trace program p) (λ v. P v ⊎ Q v)) (sym l) (only_second (trace program p) P Q w a b)
later_joined nest program p is has P Q ps qs (Some u) None r a b l =
    subst (IsLatest (trace program p) (λ v. P v ⊎ Q v)) (sym l) (either_order (trace program p) Q P (Some u) (only_second (trace program p) Q P (Some u) b a))
later_joined nest program p is has P Q ps qs (Some u) (Some w) r a b l = elim (l program is has (ps u a.0) (qs w b.0)) [
  | inl k ↦ subst (IsLatest (trace program p) (λ v. P v ⊎ Q v)) (sym k.0) (later_of_two (trace program p) P Q u w (once program p) a b k.1)
  | inr k ↦ subst (IsLatest (trace program p) (λ v. P v ⊎ Q v)) (sym k.0)
      (either_order (trace program p) Q P (Some u) (later_of_two (trace program p) Q P w u (once program p) b a k.1))
]
