-- The systems of an order hold a point exactly where the first of two instances is earlier.
use Rattle.std.proofs.Common.{◌≡◌, ℕ, ◌+◌, ◌<◌, ℤ, IsTrue, List, [], ◌++◌, length, map, Some, refl, sym, ap, subst, ◌∙◌, arith}
use Rattle.std.specs.Prelude.{nat_lt, slice_get, ◌↔◌}
use Rattle.std.specs.declared.cmp.Ordering.TheVariants as ord
use Rattle.std.specs.Ordering.{nat_cmp}
use Rattle.std.proofs.lemmas.Bool.Decides.{nat_tests}
use Rattle.std.proofs.lemmas.Option.{slice_get_within}
use Rattle.affc_rows.specs.Forms.{Affine, values_of, HaveColumns}
use Rattle.affc_system.specs.Systems.{Rows}
use Rattle.affc_ast.specs.declared.tree.Instance.{Instance}
use Rattle.affc_ast.specs.declared.tree.Program.{Program}
use Rattle.affc_ast.specs.Trace.{assignments, trace}
use Rattle.affc_trace.specs.declared.schedule.Schedule.{Schedule}
use Rattle.affc_trace.specs.declared.schedule.Schedule.TheVariants.{Source, Time}
use Rattle.affc_trace.specs.Inverses.{columns_from}
use Rattle.affc_trace.specs.Law.{IsIn}
use Rattle.affc_trace.specs.Orders.{Earlier}
use Rattle.affc_trace.specs.Target.{target, time_of, numbers_in}
use Rattle.affc_trace.proofs.EndedReads.{append_assoc}
use Rattle.affc_trace.proofs.LastStores.{append_nil}
use Rattle.affc_trace.proofs.Ordered.{target_is_by_time}
use Rattle.affc_trace.proofs.Runs.{length_append}
use Rattle.affc_domain.specs.Loops.{IsBefore, shared, loop_numbers}
use Rattle.affc_domain.specs.Ranges.{number_ranges}
use Rattle.affc_domain.proofs.OrderLemmas.{one_each, order_of_the_text, before_tie}
use Rattle.affc_domain.proofs.PlainLemmas.{has_assignment}
use Rattle.affc_domain.proofs.TurnLemmas.{instances_turn}
use Rattle.affc_domain.proofs.Lists.{there_is}
use Rattle.affc_domain.proofs.RangeLemmas.{numbers_are}
use Rattle.affc_nest.specs.declared.nest.Entry.{Entry}
use Rattle.affc_nest.specs.declared.nest.Nest.{Nest}
use Rattle.affc_nest.specs.Laws.{HasNest, IsEntry}
use Rattle.affc_nest.specs.Nests.{nest_of}
use Rattle.affc_nest.specs.Parts.{statement_or_none, statement_of}
use Rattle.affc_nest.proofs.EntryLemmas.{site_of, entries_stand}
use Rattle.affc_order.specs.Laws.{IsPointOfOne, SourceOrderIsTheTrace, TargetOrderIsTheTarget, SystemsAreTheOrders, SchedulesAreAsked}
use Rattle.affc_order.specs.Posed.{Posed, IsPosed, form_at}
use Rattle.affc_order.specs.Systems.{loops_or_none, loops_of, source_order, forms_or_none, time_forms, target_order, pair_columns, first_posed, second_posed}
use Rattle.affc_order.proofs.ColumnLemmas.{at_width, from_width, segment_at}
use Rattle.affc_order.proofs.LexLemmas.{lex_columns, lex_is_before, before_is_lex}
use Rattle.affc_order.proofs.TimeLemmas.{nat_less, less_nat, less_before, before_less, time_value}

-- ---- Statements

-- the entry of an instance's statement
pub entry_of_instance : (program : Program) (p : List ℤ) (i : Instance) → HasNest program → IsIn i (trace program p) → (e : Entry) × IsEntry program i.statement e
entry_of_instance program p i has stands =
    let t = (instances_turn program p i).0 stands in
    let a = has_assignment program i.statement t.0 t.1 in
    there_is (nest_of program).entries i.statement (fewer (entries_stand program has).0 (slice_get_within (assignments program) i.statement a.0 a.1))
  where
    fewer : {x y k : ℕ} → x ≡ y → k < y → k < x
    fewer e h = omega (arith, e, h)

-- an instance stands under the number of its statement
pub statement_is : (program : Program) (p : List ℤ) (i : Instance) → HasNest program → IsIn i (trace program p) → statement_of (nest_of program) i.statement ≡ i.statement
statement_is program p i has stands =
    let e = entry_of_instance program p i has stands in
    ap statement_or_none e.1 ∙ ((entries_stand program has).1 i.statement e.0 e.1).statement

-- a nest's loops are the program's
pub loops_are_numbered : (program : Program) (p : List ℤ) (i : Instance) → HasNest program → IsIn i (trace program p) → slice_get (loop_numbers program) i.statement ≡ Some (loops_of (nest_of program) i.statement)
loops_are_numbered program p i has stands =
    let e = entry_of_instance program p i has stands in
    let s = site_of program i.statement e.0 e.1 in
    let own : e.0.loops ≡ s.loops = ap (λ (x : Entry). x.loops) s.is in
    s.loops_at ∙ ap (λ (ls : List ℕ). Some ls) (sym own) ∙ ap (λ o. Some (loops_or_none o)) (sym e.1)

-- each system of an order is over the columns
pub order_columns : (nest : Nest) (schedule : Schedule) (columns : ℕ) (a b : Posed) (s : Rows) → IsIn s (target_order nest schedule columns a b) → s.columns ≡ columns
order_columns nest Source columns a b s i =
    lex_columns columns (shared (loops_of nest a.part) (loops_of nest b.part)) a.iterators b.iterators [] (nat_lt (statement_of nest a.part) (statement_of nest b.part)) s i
order_columns nest (Time n maps) columns a b s i =
    lex_columns columns n (time_forms nest maps columns a) (time_forms nest maps columns b) [] (nat_lt (statement_of nest a.part) (statement_of nest b.part)) s i

-- ---- Posed instances

same_before : (n : ℕ) (xs ys us vs : List ℤ) (s t s' t' : ℕ) → xs ≡ us → ys ≡ vs → s ≡ s' → t ≡ t' → IsBefore n xs ys (IsTrue (nat_lt s t)) ≡ IsBefore n us vs (IsTrue (nat_lt s' t'))
same_before n xs ys us vs s t s' t' e f g h =
    ap (λ zs. IsBefore n zs ys (IsTrue (nat_lt s t))) e ∙ ap (λ zs. IsBefore n us zs (IsTrue (nat_lt s t))) f
    ∙ ap (λ k. IsBefore n us vs (IsTrue (nat_lt k t))) g ∙ ap (λ k. IsBefore n us vs (IsTrue (nat_lt s' k))) h

less_of : (m n : ℕ) → IsTrue (nat_lt m n) → m < n
less_of m n h = grind (arith, nat_tests)

of_less : (m n : ℕ) → m < n → IsTrue (nat_lt m n)
of_less m n h = grind (arith, nat_tests)

pub source_order_is_the_trace : SourceOrderIsTheTrace
source_order_is_the_trace program p more a b i j has stands stands' f g =
    let zs : List ℤ = p ++ more in
    let ls : List ℕ = loops_of (nest_of program) i.statement in
    let ms : List ℕ = loops_of (nest_of program) j.statement in
    let n = shared (loops_of (nest_of program) a.part) (loops_of (nest_of program) b.part) in
    let numbers : n ≡ shared ls ms =
    ap (λ k. shared (loops_of (nest_of program) k) (loops_of (nest_of program) b.part)) f.part ∙ ap (λ k. shared ls (loops_of (nest_of program) k)) g.part in
    let first = statement_of (nest_of program) a.part in
    let second = statement_of (nest_of program) b.part in
    let first_is : first ≡ i.statement = ap (statement_of (nest_of program)) f.part ∙ statement_is program p i has stands in
    let second_is : second ≡ j.statement = ap (statement_of (nest_of program)) g.part ∙ statement_is program p j has stands' in
    let tie = nat_lt first second in
    let law = order_of_the_text program p i j ls ms stands stands' (loops_are_numbered program p i has stands) (loops_are_numbered program p j has stands') in
    let same : IsBefore n (values_of a.iterators zs) (values_of b.iterators zs) (IsTrue tie) ≡ IsBefore (shared ls ms) i.iterators j.iterators (IsTrue (nat_lt i.statement j.statement)) =
    ap (λ k. IsBefore k (values_of a.iterators zs) (values_of b.iterators zs) (IsTrue tie)) numbers
    ∙ same_before (shared ls ms) (values_of a.iterators zs) (values_of b.iterators zs) i.iterators j.iterators first second i.statement j.statement f.iterators g.iterators first_is second_is in (
      λ o. law.1 (before_tie (shared ls ms) i.iterators j.iterators (IsTrue (nat_lt i.statement j.statement)) (i.statement < j.statement) (less_of i.statement j.statement)
          (subst (λ T. T) same (lex_is_before zs n a.iterators b.iterators tie f.columns g.columns o))),
      λ e. before_is_lex zs n a.iterators b.iterators tie f.columns g.columns
          (subst (λ T. T) (sym same) (before_tie (shared ls ms) i.iterators j.iterators (i.statement < j.statement) (IsTrue (nat_lt i.statement j.statement)) (of_less i.statement j.statement) (law.0 e))),
    )

pub target_order_is_the_target : TargetOrderIsTheTarget
target_order_is_the_target program Source p more a b i j has fits numbers stands stands' f g =
    source_order_is_the_trace program p more a b i j has stands stands' f g
target_order_is_the_target program (Time n maps) p more a b i j has fits long stands stands' f g =
    let zs : List ℤ = p ++ more in
    let m = length (number_ranges program.params) in
    let numbers : length p ≡ numbers_in program.params = long ∙ sym (numbers_are program.params) in
    let first = statement_of (nest_of program) a.part in
    let second = statement_of (nest_of program) b.part in
    let first_is : first ≡ i.statement = ap (statement_of (nest_of program)) f.part ∙ statement_is program p i has stands in
    let second_is : second ≡ j.statement = ap (statement_of (nest_of program)) g.part ∙ statement_is program p j has stands' in
    let u = time_value program n maps p more fits numbers a i stands f first first_is in
    let v = time_value program n maps p more fits numbers b j stands' g second second_is in
    let fs : List Affine = time_forms (nest_of program) maps (length zs) a in
    let gs : List Affine = time_forms (nest_of program) maps (length zs) b in
    let wf : HaveColumns (length zs) fs = at_width (length zs) (columns_from (length zs) 0 m ++ a.iterators) (forms_or_none (slice_get maps first)) in
    let wg : HaveColumns (length zs) gs = at_width (length zs) (columns_from (length zs) 0 m ++ b.iterators) (forms_or_none (slice_get maps second)) in
    let xs : List ℤ = time_of maps p i in
    let ys : List ℤ = time_of maps p j in
    let r = nat_cmp i.statement j.statement in
    let tie = nat_lt first second in
    let fv : values_of fs zs ≡ xs = subst (λ k. values_of (map (form_at (length zs) (columns_from (length zs) 0 k ++ a.iterators)) (forms_or_none (slice_get maps first))) zs ≡ xs) long u.0 in
    let gv : values_of gs zs ≡ ys = subst (λ k. values_of (map (form_at (length zs) (columns_from (length zs) 0 k ++ b.iterators)) (forms_or_none (slice_get maps second))) zs ≡ ys) long v.0 in
    let law = target_is_by_time program n maps p i j fits numbers in
    let same : IsBefore n (values_of fs zs) (values_of gs zs) (IsTrue tie) ≡ IsBefore n xs ys (IsTrue (nat_lt i.statement j.statement)) =
    same_before n (values_of fs zs) (values_of gs zs) xs ys first second i.statement j.statement fv gv first_is second_is in (
      λ o. law.1 (
        stands,
        stands',
        before_less n xs ys r u.1 v.1
            (before_tie n xs ys (IsTrue (nat_lt i.statement j.statement)) (r ≡ ord.Less) (less_nat i.statement j.statement) (subst (λ T. T) same (lex_is_before zs n fs gs tie wf wg o))),
      ),
      λ e. before_is_lex zs n fs gs tie wf wg
          (subst (λ T. T) (sym same) (before_tie n xs ys (r ≡ ord.Less) (IsTrue (nat_lt i.statement j.statement)) (nat_less i.statement j.statement) (less_before n xs ys r u.1 v.1 (law.0 e).2))),
    )

-- ---- Two statements

-- an instance has an iterator for each loop round its statement
pub as_many_loops : (program : Program) (p : List ℤ) (i : Instance) → HasNest program → IsIn i (trace program p) → length (loops_of (nest_of program) i.statement) ≡ length i.iterators
as_many_loops program p i has stands = one_each program p i (loops_of (nest_of program) i.statement) stands (loops_are_numbered program p i has stands)

module _ (program : Program) (p : List ℤ) (i j : Instance) (has : HasNest program) (long : length p ≡ length (number_ranges program.params))
    (first_long : length (loops_of (nest_of program) i.statement) ≡ length i.iterators) (second_long : length (loops_of (nest_of program) j.statement) ≡ length j.iterators) where
  abbrev zs : List ℤ
  zs = p ++ (i.iterators ++ j.iterators)

  pub pair_width : pair_columns (nest_of program) i.statement j.statement ≡ length zs
  pair_width =
      ap (λ k. (k + length (loops_of (nest_of program) i.statement)) + length (loops_of (nest_of program) j.statement)) (sym long)
      ∙ ap (λ k. (length p + k) + length (loops_of (nest_of program) j.statement)) first_long ∙ ap (λ k. (length p + length i.iterators) + k) second_long
      ∙ sum (length p) (length i.iterators) (length j.iterators) ∙ ap (λ k. length p + k) (sym (length_append i.iterators j.iterators)) ∙ sym (length_append p (i.iterators ++ j.iterators))
    where
      sum : (x y z : ℕ) → (x + y) + z ≡ x + (y + z)
      sum x y z = omega arith

  pub first_is_posed : IsPosed zs (first_posed (nest_of program) i.statement j.statement) i
  first_is_posed = record {
    part = refl;
    iterators = segment_at zs p i.iterators j.iterators (pair_columns (nest_of program) i.statement j.statement) (length (number_ranges program.params)) (length (loops_of (nest_of program) i.statement)) refl pair_width (sym long) first_long;
    columns = subst (λ k. HaveColumns k (columns_from (pair_columns (nest_of program) i.statement j.statement) (length (number_ranges program.params)) (length (loops_of (nest_of program) i.statement)))) pair_width
        (from_width (pair_columns (nest_of program) i.statement j.statement) (length (number_ranges program.params)) (length (loops_of (nest_of program) i.statement)));
  }

  pub second_is_posed : IsPosed zs (second_posed (nest_of program) i.statement j.statement) j
  second_is_posed =
      let m = length (number_ranges program.params) in
      let k = m + length (loops_of (nest_of program) i.statement) in
      let n = pair_columns (nest_of program) i.statement j.statement in
      let l = length (loops_of (nest_of program) j.statement) in
      let front : k ≡ length (p ++ i.iterators) = ap (λ x. x + length (loops_of (nest_of program) i.statement)) (sym long) ∙ ap (λ x. length p + x) first_long ∙ sym (length_append p i.iterators) in
      record {
        part = refl;
        iterators = segment_at zs (p ++ i.iterators) j.iterators [] n k l
            (sym (append_assoc p i.iterators j.iterators) ∙ ap (λ ys. (p ++ i.iterators) ++ ys) (sym (append_nil j.iterators))) pair_width front second_long;
        columns = subst (λ x. HaveColumns x (columns_from n k l)) pair_width (from_width n k l);
      }

pub systems_are_the_orders : SystemsAreTheOrders
systems_are_the_orders program schedule p i j has fits long stands stands' =
    let nest = nest_of program in
    let more : List ℤ = i.iterators ++ j.iterators in
    let zs : List ℤ = p ++ more in
    let u = as_many_loops program p i has stands in
    let v = as_many_loops program p j has stands' in
    let w = pair_width program p i j has long u v in
    let a = first_posed nest i.statement j.statement in
    let b = second_posed nest i.statement j.statement in
    let f = first_is_posed program p i j has long u v in
    let g = second_is_posed program p i j has long u v in
    record {
      in_source = subst (λ n. IsPointOfOne (source_order nest n a b) zs ↔ Earlier (trace program p) i j) (sym w) (source_order_is_the_trace program p more a b i j has stands stands' f g);
      in_target = subst (λ n. IsPointOfOne (target_order nest schedule n a b) zs ↔ Earlier (target program schedule p) i j) (sym w) (target_order_is_the_target program schedule p more a b i j has fits long stands stands' f g);
      turned_round = subst (λ n. IsPointOfOne (target_order nest schedule n b a) zs ↔ Earlier (target program schedule p) j i) (sym w) (target_order_is_the_target program schedule p more b a j i has fits long stands' stands g f);
    }

pub schedules_are_asked : SchedulesAreAsked
schedules_are_asked program schedule has fits slight = record { program = program; has = has; is = refl; fits = fits; slight = slight }
