-- The stores before a load are the points of two instances with equal subscripts, of which the store's is earlier.
use Rattle.std.proofs.Common.{◌≡◌, ◌+◌, ℤ, List, [], ◌++◌, length, map, drop, Some, refl, sym, ap, subst, ◌∙◌}
use Rattle.std.specs.List.{All}
use Rattle.std.specs.Prelude.{slice_get}
use Rattle.std.proofs.lemmas.List.Elements.{All-drop}
use Rattle.std.proofs.lemmas.Option.{same_Some}
use Rattle.affc_rows.specs.Forms.{Affine}
use Rattle.affc_system.specs.Systems.{Rows, Meets, IsPoint}
use Rattle.affc_ast.specs.declared.tree.Instance.{Instance}
use Rattle.affc_ast.specs.declared.tree.Program.{Program}
use Rattle.affc_ast.specs.Store.{Element}
use Rattle.affc_ast.specs.Trace.{trace, store_of}
use Rattle.affc_trace.specs.declared.schedule.Schedule.TheVariants as schedule
use Rattle.affc_trace.specs.Law.{IsIn}
use Rattle.affc_trace.specs.Orders.{Earlier}
use Rattle.affc_trace.proofs.LastStores.{append_nil}
use Rattle.affc_domain.specs.Ranges.{number_ranges}
use Rattle.affc_nest.specs.declared.nest.Access.{Access}
use Rattle.affc_nest.specs.declared.nest.Entry.{Entry}
use Rattle.affc_nest.specs.declared.nest.Nest.{Nest}
use Rattle.affc_nest.specs.Laws.{element_at}
use Rattle.affc_nest.specs.Nests.{nest_of}
use Rattle.affc_order.specs.Systems.{pair_columns, source_systems, first_posed, second_posed}
use Rattle.affc_order.proofs.LexLemmas.{both_met, met_both}
use Rattle.affc_order.proofs.OrderLemmas.{order_columns, systems_are_the_orders}
use Rattle.affc_sched.specs.Questions.{of_first, of_second, context_count, equal_rows, pair_rows}
use Rattle.affc_sched.proofs.LegalLemmas.{Stood, stood, entry_at, rows_wide, rows_of, rows_say, say_rows, zs_long, as_many_each}
use Rattle.affc_sched.proofs.PointLemmas.{spread_met}
use Rattle.affc_flow.specs.Laws.{Loads}
use Rattle.affc_flow.specs.Writers.{Writes}
use Rattle.affc_latest.specs.Stores.{StoresBefore, store_rows, store_system}
use Rattle.affc_flow.proofs.PathLemmas.{parameters_are, reader_stands}
use Rattle.affc_flow.proofs.WriterLemmas.{stored_there}

module _ (program : Program) (p its : List ℤ) (e : Entry) (x : Access) (h : Loads program p its e x) (v : Entry) (y : Access) (writes : Writes (nest_of program) x.array.0 v y) (made : IsIn y v.accesses) where
  abbrev n : Nest
  n = nest_of program

  abbrev b : Instance
  b = record { statement = e.part; iterators = its }

  v_stands : (ws : List ℤ) → length ws ≡ length v.loops → Stood program p v ws
  v_stands ws long = record { among = writes.among; at = entry_at program h.has v writes.among; alive = writes.alive; long = long }

  as_many : length y.subs ≡ length x.subs
  as_many = as_many_each program h.has h.named v e (entry_at program h.has v writes.among) h.entry y x made h.made writes.of_array

  its_store : (ws : List ℤ) → Stood program p v ws → element_at (p ++ ws) y ≡ store_of program p (record { statement = v.part; iterators = ws })
  its_store ws t =
      let s = stored_there program h.has p (parameters_are program p its e x h) v ws t in
      ap (element_at (p ++ ws)) (sym (same_Some s.access y (sym s.last ∙ writes.last))) ∙ s.is

  -- the rows of the load's own domain are met
  reader_rows : (ws : List ℤ) → Stood program p v ws → All (Meets (p ++ (ws ++ its))) (map (of_second (nest_of program) v e) (drop (context_count (nest_of program)) e.domain.rows))
  reader_rows ws t =
      let l = parameters_are program p its e x h in
      let s = reader_stands program p its e x h in
      let k = context_count (nest_of program) in
      subst (λ ys. All (Meets ys) (map (of_second (nest_of program) v e) (drop (context_count (nest_of program)) e.domain.rows))) (ap (λ ys. p ++ (ws ++ ys)) (append_nil its))
      (spread_met p ws its [] (length (number_ranges program.params)) (length v.loops) 0 (sym l) (sym t.long) (drop k e.domain.rows)
      (All-drop (λ g. length g.coefs ≡ length p + length its) k e.domain.rows (rows_wide program h.has p l e its s))
      (All-drop (Meets (p ++ its)) k e.domain.rows (rows_of program h.has p l e its s h.context h.runs)))

  with_reader : (ws : List ℤ) → Stood program p v ws → All (Meets (p ++ (ws ++ its))) (store_rows (nest_of program) v e y x) → All (Meets (p ++ (ws ++ its))) (pair_rows (nest_of program) v e y x)
  with_reader ws t m =
      let zs : List ℤ = p ++ (ws ++ its) in
      let own : List Affine = map (of_first (nest_of program) v e) v.domain.rows in
      let same : List Affine = equal_rows (map (of_first (nest_of program) v e) y.subs) (map (of_second (nest_of program) v e) x.subs) in
      let rest : List Affine = map (of_second (nest_of program) v e) (drop (context_count (nest_of program)) e.domain.rows) in
      let u = met_both zs own same m in
      both_met zs (own ++ rest) same (both_met zs own rest u.0 (reader_rows ws t)) u.1

  without_reader : (ws : List ℤ) → All (Meets (p ++ (ws ++ its))) (pair_rows (nest_of program) v e y x) → All (Meets (p ++ (ws ++ its))) (store_rows (nest_of program) v e y x)
  without_reader ws m =
      let zs : List ℤ = p ++ (ws ++ its) in
      let own : List Affine = map (of_first (nest_of program) v e) v.domain.rows in
      let same : List Affine = equal_rows (map (of_first (nest_of program) v e) y.subs) (map (of_second (nest_of program) v e) x.subs) in
      let rest : List Affine = map (of_second (nest_of program) v e) (drop (context_count (nest_of program)) e.domain.rows) in
      let u = met_both zs (own ++ rest) same m in
      both_met zs own same (met_both zs own rest u.0).0 u.1

  -- a point is a store
  pub point_stores : (o : Rows) → IsIn o (source_systems (nest_of program) v.part e.part) → (ws : List ℤ) → length ws ≡ length v.loops → IsPoint (store_system (nest_of program) v e y x o) (p ++ (ws ++ its))
      → StoresBefore program p (record { statement = e.part; iterators = its }) (element_at (p ++ its) x) v (record { statement = v.part; iterators = ws })
  point_stores o i ws long m =
      let l = parameters_are program p its e x h in
      let s = reader_stands program p its e x h in
      let t = v_stands ws long in
      let zs : List ℤ = p ++ (ws ++ its) in
      let r = met_both zs (store_rows n v e y x) o.rows m.meets in
      let f = rows_say program h.has p ws its l v e t s y x made h.made as_many (with_reader ws t r.0) in
      let w : Instance = record { statement = v.part; iterators = ws } in
      let say = systems_are_the_orders program schedule.Source p w b h.has tt l f.first_runs f.second_runs in
      let columns : o.columns ≡ pair_columns n v.part e.part =
      order_columns n schedule.Source (pair_columns n v.part e.part) (first_posed n v.part e.part) (second_posed n v.part e.part) o i in
      record {
        statement = refl;
        runs = f.first_runs;
        stores = (λ i. (sym writes.of_array i, sym f.equal i)) ∙ its_store ws t;
        earlier = say.in_source.0 (record { system = o; there = i; meets = record { width = m.width ∙ sym columns; meets = r.1 } });
      }

  -- and each store is a point
  pub record Found (w : Instance) : Type 0 where
    pub order : Rows
    pub there : IsIn order (source_systems (nest_of program) v.part e.part)
    pub long : length w.iterators ≡ length v.loops
    pub point : IsPoint (store_system (nest_of program) v e y x order) (p ++ (w.iterators ++ its))

  pub stores_point : (w : Instance) → StoresBefore program p (record { statement = e.part; iterators = its }) (element_at (p ++ its) x) v w → Found w
  stores_point w q =
      let l = parameters_are program p its e x h in
      let s = reader_stands program p its e x h in
      let r = stood program h.has p w h.context q.runs in
      let same : r.0 ≡ v = same_Some r.0 v (sym (subst (λ k. slice_get (nest_of program).entries k ≡ Some r.0) (r.1 ∙ q.statement) r.2.at) ∙ entry_at program h.has v writes.among) in
      let t : Stood program p v w.iterators = subst (λ v. Stood program p v w.iterators) same r.2 in
      let is : w ≡ record { statement = v.part; iterators = w.iterators } = λ i. record { statement = q.statement i; iterators = w.iterators } in
      let w' : Instance = record { statement = v.part; iterators = w.iterators } in
      let zs : List ℤ = p ++ (w.iterators ++ its) in
      let runs : IsIn w' (trace program p) = subst (λ z. IsIn z (trace program p)) is q.runs in
      let element : element_at (p ++ its) x ≡ element_at (p ++ w.iterators) y = q.stores ∙ ap (store_of program p) is ∙ sym (its_store w.iterators t) in
      let say = systems_are_the_orders program schedule.Source p w' b h.has tt l runs h.runs in
      let o = say.in_source.1 (subst (λ z. Earlier (trace program p) z b) is q.earlier) in
      let rows = say_rows program h.has p w.iterators its l v e t s y x made h.made (record { context = h.context; first_runs = runs; second_runs = h.runs; equal = sym (ap (λ (z : Element). z.1) element) }) in
      record {
        order = o.system;
        there = o.there;
        long = t.long;
        point = record {
          width = sym (zs_long program h.has p w.iterators its l v e t s y x made h.made);
          meets = both_met zs (store_rows n v e y x) o.system.rows (without_reader w.iterators rows) o.meets.meets;
        };
      }
