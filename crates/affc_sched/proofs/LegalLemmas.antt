-- What the questions decide.
use Rattle.std.proofs.Common.{◌≡◌, ℕ, ◌+◌, ℤ, Bool, true, false, IsTrue, List, [], ◌∷◌, ◌++◌, length, map, take, drop, refl, sym, ap, subst, ◌∙◌, ◌⊎◌, inl, inr, arith}
use Rattle.std.specs.Prelude.{slice_get, nat_eq, Some, ◌||◌}
use Rattle.std.specs.List.{All}
use Rattle.std.proofs.lemmas.Bool.{eq-eqb, eqb-true}
use Rattle.std.proofs.lemmas.List.{take-append-drop}
use Rattle.std.proofs.lemmas.List.Elements.{All-append, All-drop}
use Rattle.affc_rows.specs.Forms.{Affine, values_of, HaveColumns}
use Rattle.affc_system.specs.Boxes.{InBox}
use Rattle.affc_system.specs.Systems.{Rows, Meets, IsPoint}
use Rattle.affc_ast.specs.declared.tree.Instance.{Instance}
use Rattle.affc_ast.specs.declared.tree.Program.{Program}
use Rattle.affc_ast.specs.Store.{Element}
use Rattle.affc_ast.specs.Trace.{trace, loads_of, store_of}
use Rattle.affc_trace.specs.declared.schedule.Schedule.{Schedule}
use Rattle.affc_trace.specs.declared.schedule.Schedule.TheVariants.{Source, Time}
use Rattle.affc_trace.specs.declared.schedule.TimeMap.{TimeMap}
use Rattle.affc_trace.specs.Dataflow.{Violates}
use Rattle.affc_trace.specs.Effects.{effect}
use Rattle.affc_trace.specs.Law.{IsIn}
use Rattle.affc_trace.specs.Laws.{IsInContext}
use Rattle.affc_trace.specs.Orders.{Earlier, Dependent}
use Rattle.affc_trace.specs.Target.{target, IsScheduleOf}
use Rattle.affc_trace.proofs.LastStores.{append_nil}
use Rattle.affc_trace.proofs.Legality.{earlier_is_in, later_is_in, one_way, either_way}
use Rattle.affc_trace.proofs.Members.{both_hold, hold_both, either_holds, holds_first, holds_second}
use Rattle.affc_trace.proofs.Once.{once}
use Rattle.affc_trace.proofs.Runs.{length_append}
use Rattle.affc_trace.proofs.Targets.{target_is_reordered}
use Rattle.affc_domain.specs.Ranges.{number_ranges}
use Rattle.affc_domain.proofs.Lists.{length_map, place_of, stands_in}
use Rattle.affc_domain.proofs.RangeLemmas.{box_length, in_ranges, box_append}
use Rattle.affc_domain.proofs.ColumnLemmas.{no_columns, more_columns}
use Rattle.affc_nest.specs.declared.nest.Access.{Access}
use Rattle.affc_nest.specs.declared.nest.Entry.{Entry}
use Rattle.affc_nest.specs.declared.nest.Nest.{Nest}
use Rattle.affc_nest.specs.Laws.{HasNest, IsEntry, NamesArrays, element_at}
use Rattle.affc_nest.specs.Nests.{nest_of}
use Rattle.affc_nest.specs.Parts.{statement_or_none, statement_of}
use Rattle.affc_nest.specs.Questions.{extents_or_none}
use Rattle.affc_nest.proofs.AccessLemmas.{accesses_are_events}
use Rattle.affc_nest.proofs.EntryLemmas.{entries_stand, points_are_instances, none_where_not_alive, ranges_hold_iterators}
use Rattle.affc_nest.proofs.QuestionLemmas.{as_many}
use Rattle.affc_nest.proofs.QuestionProofs.{sub_side, nests_are_asked}
use Rattle.affc_order.specs.Systems.{loops_or_none, loops_of, coordinates_of, pair_columns, source_systems, turned_systems, first_posed, second_posed}
use Rattle.affc_order.proofs.LexLemmas.{both_met, met_both}
use Rattle.affc_order.proofs.OrderLemmas.{entry_of_instance, as_many_loops, pair_width, order_columns, systems_are_the_orders}
use Rattle.affc_sched.specs.Laws.{parameters_at, first_at, second_at, PointsViolate, Answers, ViolationsArePoints, QuestionsDecide, PointsAreBoxed}
use Rattle.affc_sched.specs.Questions.{Question, Touch, touches, may_depend, equal_rows, context_count, of_first, of_second, pair_domain, pair_rows, question}
use Rattle.affc_sched.proofs.AskedLemmas.{Asked, asked, is_asked}
use Rattle.affc_sched.proofs.PointLemmas.{front, middle, end, front_long, middle_long, end_long, front_middle_end, spread_met, met_spread, spread_values, all_spread, equal_values, values_equal}
use Rattle.affc_sched.proofs.TouchLemmas.{touch_in, touched, stored, touching, storing}
use Rattle.affc_sched.proofs.WidthLemmas.{domain_wide, context_rows_met}

-- ---- Entries

pub entry_at : (program : Program) → HasNest program → (e : Entry) → IsIn e (nest_of program).entries → IsEntry program e.part e
entry_at program has e i =
    let k = place_of (nest_of program).entries e i in
    subst (λ s. slice_get (nest_of program).entries s ≡ Some e) (sym ((entries_stand program has).1 k.0 e k.1).number) k.1

-- the number of its statement
pub statement_at : (program : Program) → HasNest program → (e : Entry) → IsEntry program e.part e → statement_of (nest_of program) e.part ≡ e.part
statement_at program has e h = ap statement_or_none h ∙ ((entries_stand program has).1 e.part e h).statement

loops_at : (program : Program) (statement : ℕ) (e : Entry) → IsEntry program statement e → loops_of (nest_of program) statement ≡ e.loops
loops_at program statement e h = ap loops_or_none h

all_in : (n : ℕ) (fs : List Affine) → ((f : Affine) → IsIn f fs → length f.coefs ≡ n) → HaveColumns n fs
all_in n [] h = no_columns n
all_in n (f ∷ fs) h = more_columns n f fs (h f (inl refl)) (all_in n fs (λ g i. h g (inr i)))

subs_have : (program : Program) (has : HasNest program) (e : Entry) → IsIn e (nest_of program).entries → (x : Access) → IsIn x e.accesses → HaveColumns e.domain.columns x.subs
subs_have program has e i x j =
    all_in e.domain.columns x.subs (λ f k. (sub_side (nest_of program) e f (nests_are_asked program has) i (record { access = x; made = j; of_access = k })).width)

-- ---- A point of two instances

-- an entry with an instance
pub record Stood (program : Program) (p : List ℤ) (e : Entry) (its : List ℤ) : Type 0 where
  pub among : IsIn e (nest_of program).entries
  pub at : IsEntry program e.part e
  pub alive : IsTrue e.alive
  pub long : length its ≡ length e.loops

abbrev pub instance_of : Entry → List ℤ → Instance
instance_of e its = record { statement = e.part; iterators = its }

module _ (program : Program) (has : HasNest program) (p : List ℤ) (l : length p ≡ length (number_ranges program.params)) (e : Entry) (its : List ℤ) (s : Stood program p e its) where
  pub entry_columns : e.domain.columns ≡ length p + length its
  entry_columns =
      ((entries_stand program has).1 e.part e s.at).columns ∙ ap (λ k. k + length e.loops) (sym l) ∙ ap (λ k. length p + k) (sym s.long)

  pub point_long : length (p ++ its) ≡ e.domain.columns
  point_long = length_append p its ∙ sym entry_columns

  pub rows_wide : HaveColumns (length p + length its) e.domain.rows
  rows_wide =
      subst (λ k. HaveColumns k e.domain.rows) (ap (λ k. k + length e.loops) (sym l) ∙ ap (λ k. length p + k) (sym s.long)) (domain_wide program has e.part e s.at s.alive)

  pub subs_wide : (x : Access) → IsIn x e.accesses → HaveColumns (length p + length its) x.subs
  subs_wide x i = subst (λ k. HaveColumns k x.subs) entry_columns (subs_have program has e s.among x i)

  pub runs : All (Meets (p ++ its)) e.domain.rows → IsInContext program p × IsIn (instance_of e its) (trace program p)
  runs m = (points_are_instances program p (instance_of e its) e has s.at s.alive l).0 (record { width = point_long; meets = m })

  pub rows_of : IsInContext program p → IsIn (instance_of e its) (trace program p) → All (Meets (p ++ its)) e.domain.rows
  rows_of inside i = ((points_are_instances program p (instance_of e its) e has s.at s.alive l).1 (inside, i)).meets

  -- where p is in the context, the rows behind those of the context say the rest
  pub runs_behind : IsInContext program p → All (Meets (p ++ its)) (drop (context_count (nest_of program)) e.domain.rows) → IsIn (instance_of e its) (trace program p)
  runs_behind inside m =
      let k = context_count (nest_of program) in
      let front = context_rows_met program has e.part e s.at s.alive p its inside s.long in
      (runs (subst (All (Meets (p ++ its))) (take-append-drop k e.domain.rows) (All-append (Meets (p ++ its)) (take k e.domain.rows) (drop k e.domain.rows) front m))).1

  pub events_are : map (element_at (p ++ its)) e.accesses ≡ loads_of program p (instance_of e its) ++ store_of program p (instance_of e its) ∷ []
  events_are = accesses_are_events program p (instance_of e its) e has s.at point_long

module _ (program : Program) (has : HasNest program) (p bs cs : List ℤ) (l : length p ≡ length (number_ranges program.params)) (a b : Entry) (s : Stood program p a bs) (t : Stood program p b cs)
    (x y : Access) (x_in : IsIn x a.accesses) (y_in : IsIn y b.accesses) where
  abbrev nest : Nest
  nest = nest_of program

  abbrev zs : List ℤ
  zs = p ++ (bs ++ cs)

  first_long : length (loops_of (nest_of program) a.part) ≡ length bs
  first_long = ap length (loops_at program a.part a s.at) ∙ sym s.long

  second_long : length (loops_of (nest_of program) b.part) ≡ length cs
  second_long = ap length (loops_at program b.part b t.at) ∙ sym t.long

  pub zs_long : pair_columns (nest_of program) a.part b.part ≡ length zs
  zs_long = pair_width program p (instance_of a bs) (instance_of b cs) has l first_long second_long

  whole : zs ≡ p ++ (bs ++ (cs ++ []))
  whole = ap (λ ys. p ++ (bs ++ ys)) (sym (append_nil cs))

  abbrev xs : List Affine
  xs = map (of_first (nest_of program) a b) x.subs

  abbrev ys : List Affine
  ys = map (of_second (nest_of program) a b) y.subs

  xs_value : values_of (map (of_first (nest_of program) a b) x.subs) zs ≡ values_of x.subs (p ++ bs)
  xs_value = spread_values p [] bs cs (length (number_ranges program.params)) 0 (length b.loops) (sym l) refl x.subs (subs_wide program has p l a bs s x x_in)

  ys_value : values_of (map (of_second (nest_of program) a b) y.subs) zs ≡ values_of y.subs (p ++ cs)
  ys_value =
      ap (values_of (map (of_second (nest_of program) a b) y.subs)) whole
      ∙ spread_values p bs cs [] (length (number_ranges program.params)) (length a.loops) 0 (sym l) (sym s.long) y.subs (subs_wide program has p l b cs t y y_in)

  xs_wide : HaveColumns (length zs) (map (of_first (nest_of program) a b) x.subs)
  xs_wide =
      let m = length (number_ranges program.params) in
      let w : HaveColumns (m + length a.loops) x.subs = subst (λ k. HaveColumns k x.subs) (ap (λ k. k + length bs) l ∙ ap (λ k. m + k) s.long) (subs_wide program has p l a bs s x x_in) in
      subst (λ k. HaveColumns k (map (of_first (nest_of program) a b) x.subs)) (sum m (length a.loops) (length b.loops) ∙ counted) (all_spread m 0 (length a.loops) (length b.loops) x.subs w)
    where
      sum : (m k n : ℕ) → ((m + 0) + k) + n ≡ (m + k) + n
      sum m k n = omega arith

      counted : (length (number_ranges program.params) + length a.loops) + length b.loops ≡ length zs
      counted =
          ap (λ k. (length (number_ranges program.params) + k) + length b.loops) (sym (ap length (loops_at program a.part a s.at)))
          ∙ ap (λ k. (length (number_ranges program.params) + length (loops_of (nest_of program) a.part)) + k) (sym (ap length (loops_at program b.part b t.at))) ∙ zs_long

  ys_wide : HaveColumns (length zs) (map (of_second (nest_of program) a b) y.subs)
  ys_wide =
      let m = length (number_ranges program.params) in
      let w : HaveColumns (m + length b.loops) y.subs = subst (λ k. HaveColumns k y.subs) (ap (λ k. k + length cs) l ∙ ap (λ k. m + k) t.long) (subs_wide program has p l b cs t y y_in) in
      subst (λ k. HaveColumns k (map (of_second (nest_of program) a b) y.subs)) (sum m (length a.loops) (length b.loops) ∙ counted) (all_spread m (length a.loops) (length b.loops) 0 y.subs w)
    where
      sum : (m k n : ℕ) → ((m + k) + n) + 0 ≡ (m + k) + n
      sum m k n = omega arith

      counted : (length (number_ranges program.params) + length a.loops) + length b.loops ≡ length zs
      counted =
          ap (λ k. (length (number_ranges program.params) + k) + length b.loops) (sym (ap length (loops_at program a.part a s.at)))
          ∙ ap (λ k. (length (number_ranges program.params) + length (loops_of (nest_of program) a.part)) + k) (sym (ap length (loops_at program b.part b t.at))) ∙ zs_long

  -- what the rows say
  pub record Facts : Type 0 where
    pub context : IsInContext program p
    pub first_runs : IsIn (instance_of a bs) (trace program p)
    pub second_runs : IsIn (instance_of b cs) (trace program p)
    pub equal : values_of x.subs (p ++ bs) ≡ values_of y.subs (p ++ cs)

  abbrev k : ℕ
  k = context_count (nest_of program)

  pub rows_say : length x.subs ≡ length y.subs → All (Meets zs) (pair_rows (nest_of program) a b x y) → Facts
  rows_say d m =
      let n = nest_of program in
      let m' = length (number_ranges program.params) in
      let u = met_both zs (pair_domain n a b) (equal_rows xs ys) m in
      let w = met_both zs (map (of_first n a b) a.domain.rows) (map (of_second n a b) (drop k b.domain.rows)) u.0 in
      let one = runs program has p l a bs s (met_spread p [] bs cs m' 0 (length b.loops) (sym l) refl a.domain.rows (rows_wide program has p l a bs s) w.0) in
      let rest : All (Meets (p ++ cs)) (drop k b.domain.rows) =
      met_spread p bs cs [] m' (length a.loops) 0 (sym l) (sym s.long) (drop k b.domain.rows) (All-drop (λ g. length g.coefs ≡ length p + length cs) k b.domain.rows (rows_wide program has p l b cs t))
      (subst (λ qs. All (Meets qs) (map (of_second n a b) (drop k b.domain.rows))) whole w.1) in
      let long : length xs ≡ length ys = length_map (of_first n a b) x.subs ∙ d ∙ sym (length_map (of_second n a b) y.subs) in
      record {
        context = one.0;
        first_runs = one.1;
        second_runs = runs_behind program has p l b cs t one.0 rest;
        equal = sym xs_value ∙ equal_values zs xs ys xs_wide ys_wide long u.1 ∙ ys_value;
      }

  pub say_rows : Facts → All (Meets zs) (pair_rows (nest_of program) a b x y)
  say_rows f =
      let n = nest_of program in
      let m' = length (number_ranges program.params) in
      let one : All (Meets zs) (map (of_first n a b) a.domain.rows) =
      spread_met p [] bs cs m' 0 (length b.loops) (sym l) refl a.domain.rows (rows_wide program has p l a bs s) (rows_of program has p l a bs s f.context f.first_runs) in
      let two : All (Meets zs) (map (of_second n a b) (drop k b.domain.rows)) =
      subst (λ qs. All (Meets qs) (map (of_second n a b) (drop k b.domain.rows))) (sym whole)
      (spread_met p bs cs [] m' (length a.loops) 0 (sym l) (sym s.long) (drop k b.domain.rows) (All-drop (λ g. length g.coefs ≡ length p + length cs) k b.domain.rows (rows_wide program has p l b cs t))
      (All-drop (Meets (p ++ cs)) k b.domain.rows (rows_of program has p l b cs t f.context f.second_runs))) in
      both_met zs (pair_domain n a b) (equal_rows xs ys) (both_met zs (map (of_first n a b) a.domain.rows) (map (of_second n a b) (drop k b.domain.rows)) one two)
      (values_equal zs xs ys xs_wide ys_wide (xs_value ∙ f.equal ∙ sym ys_value))

-- ---- Elements

same_element_at : (point point' : List ℤ) (x y : Access) → x.array.0 ≡ y.array.0 → values_of x.subs point ≡ values_of y.subs point' → element_at point x ≡ element_at point' y
same_element_at point point' x y e f = λ i. (e i, f i)

pub one_array : (x y : Touch) → IsTrue (may_depend x y) → x.0.array.0 ≡ y.0.array.0
one_array x y h = eqb-true x.0.array.0 y.0.array.0 (both_hold (nat_eq x.0.array.0 y.0.array.0) (x.1 || y.1) h).0

one_stores : (x y : Touch) → IsTrue (may_depend x y) → (x.1 ≡ true) ⊎ (y.1 ≡ true)
one_stores x y h = either_holds x.1 y.1 (both_hold (nat_eq x.0.array.0 y.0.array.0) (x.1 || y.1) h).1

may_be : (x y : Touch) → x.0.array.0 ≡ y.0.array.0 → (x.1 ≡ true) ⊎ (y.1 ≡ true) → IsTrue (may_depend x y)
may_be x y e (inl s) = hold_both (nat_eq x.0.array.0 y.0.array.0) (x.1 || y.1) (eq-eqb x.0.array.0 y.0.array.0 e) (holds_first x.1 y.1 s)
may_be x y e (inr s) = hold_both (nat_eq x.0.array.0 y.0.array.0) (x.1 || y.1) (eq-eqb x.0.array.0 y.0.array.0 e) (holds_second x.1 y.1 s)

-- accesses of one array have equally many subscripts
pub as_many_each : (program : Program) (has : HasNest program) → NamesArrays program → (a b : Entry) → IsEntry program a.part a → IsEntry program b.part b
    → (x y : Access) → IsIn x a.accesses → IsIn y b.accesses → x.array.0 ≡ y.array.0 → length x.subs ≡ length y.subs
as_many_each program has named a b h g x y i j e =
    as_many program a.part a named h x i ∙ ap (λ k. length (extents_or_none (slice_get (nest_of program).arrays k))) e ∙ sym (as_many program b.part b named g y j)

-- ---- One question

module _ (program : Program) (has : HasNest program) (named : NamesArrays program) (components : ℕ) (maps : List TimeMap) (fits : IsScheduleOf program (Time components maps))
    (p bs cs : List ℤ) (l : length p ≡ length (number_ranges program.params)) (a b : Entry) (s : Stood program p a bs) (t : Stood program p b cs) where
  abbrev sch : Schedule
  sch = Time components maps

  abbrev i : Instance
  i = instance_of a bs

  abbrev j : Instance
  j = instance_of b cs

  pub violates : (x y : Touch) → IsIn x (touches a.accesses) → IsIn y (touches b.accesses) → IsTrue (may_depend x y)
      → (earlier later : Rows) → IsIn earlier (source_systems (nest_of program) a.part b.part) → IsIn later (turned_systems (nest_of program) a.part b.part sch)
      → All (Meets (p ++ (bs ++ cs))) (pair_rows (nest_of program) a b x.0 y.0 ++ (earlier.rows ++ later.rows)) → IsInContext program p × Violates program sch p i j
  violates x y x_in y_in may earlier later e_in l_in m =
      let n = nest_of program in
      let zs : List ℤ = p ++ (bs ++ cs) in
      let x_at = touch_in a.accesses x x_in in
      let y_at = touch_in b.accesses y y_in in
      let w : pair_columns n a.part b.part ≡ length zs = zs_long program has p bs cs l a b s t x.0 y.0 x_at y_at in
      let array = one_array x y may in
      let u = met_both zs (pair_rows n a b x.0 y.0) (earlier.rows ++ later.rows) m in
      let o = met_both zs earlier.rows later.rows u.1 in
      let f = rows_say program has p bs cs l a b s t x.0 y.0 x_at y_at (as_many_each program has named a b s.at t.at x.0 y.0 x_at y_at array) u.0 in
      let say = systems_are_the_orders program sch p i j has fits l f.first_runs f.second_runs in
      let e_columns : earlier.columns ≡ pair_columns n a.part b.part = order_columns n Source (pair_columns n a.part b.part) (first_posed n a.part b.part) (second_posed n a.part b.part) earlier e_in in
      let l_columns : later.columns ≡ pair_columns n a.part b.part = order_columns n sch (pair_columns n a.part b.part) (second_posed n a.part b.part) (first_posed n a.part b.part) later l_in in
      let first : Earlier (trace program p) i j = say.in_source.0 (record { system = earlier; there = e_in; meets = record { width = sym (e_columns ∙ w); meets = o.0 } }) in
      let turned : Earlier (target program sch p) j i = say.turned_round.0 (record { system = later; there = l_in; meets = record { width = sym (l_columns ∙ w); meets = o.1 } }) in
      let distinct = once program p in
      let ea = events_are program has p l a bs s in
      let eb = events_are program has p l b cs t in
      let same : element_at (p ++ bs) x.0 ≡ element_at (p ++ cs) y.0 = same_element_at (p ++ bs) (p ++ cs) x.0 y.0 array f.equal in (
        f.context,
        record {
          different = λ q. one_way (trace program p) i j distinct first (subst (λ z. Earlier (trace program p) z i) q (subst (λ z. Earlier (trace program p) i z) (sym q) first));
          dependent = record {
            element = element_at (p ++ bs) x.0;
            first = touched (element_at (p ++ bs)) a.accesses (loads_of program p i) (store_of program p i) ea x x_in;
            second = subst (λ z. IsIn z (loads_of program p j) ⊎ (z ≡ store_of program p j)) (sym same) (touched (element_at (p ++ cs)) b.accesses (loads_of program p j) (store_of program p j) eb y y_in);
            stored = elim (one_stores x y may) [
              | inl h ↦ inl (stored (element_at (p ++ bs)) a.accesses (loads_of program p i) (store_of program p i) ea x x_in h)
              | inr h ↦ inr (same ∙ stored (element_at (p ++ cs)) b.accesses (loads_of program p j) (store_of program p j) eb y y_in h)
            ];
          };
          earlier = first;
          not_earlier = λ back. one_way (target program sch p) j i (target_is_reordered program sch p distinct).once_in_target turned back;
        },
      )

  -- two accesses of a dependence
  record Pair : Type 0 where
    x : Touch
    x_in : IsIn x (touches a.accesses)
    y : Touch
    y_in : IsIn y (touches b.accesses)
    may : IsTrue (may_depend x y)
    equal : values_of x.0.subs (p ++ bs) ≡ values_of y.0.subs (p ++ cs)

  pair_for : Dependent (effect program p) i j → Pair
  pair_for d = chosen d.stored
    where
      ea : map (element_at (p ++ bs)) a.accesses ≡ loads_of program p i ++ store_of program p i ∷ []
      ea = events_are program has p l a bs s

      eb : map (element_at (p ++ cs)) b.accesses ≡ loads_of program p j ++ store_of program p j ∷ []
      eb = events_are program has p l b cs t

      made : (x y : Touch) → IsIn x (touches a.accesses) → IsIn y (touches b.accesses) → (x.1 ≡ true) ⊎ (y.1 ≡ true) → element_at (p ++ bs) x.0 ≡ element_at (p ++ cs) y.0 → Pair
      made x y x_in y_in s e = record {
        x = x;
        x_in = x_in;
        y = y;
        y_in = y_in;
        may = may_be x y (ap (λ (z : Element). z.0) e) s;
        equal = ap (λ (z : Element). z.1) e;
      }

      chosen : (d.element ≡ store_of program p i) ⊎ (d.element ≡ store_of program p j) → Pair
      chosen (inl e) =
          let x = storing (element_at (p ++ bs)) a.accesses (loads_of program p i) (store_of program p i) ea in
          let y = touching (element_at (p ++ cs)) b.accesses (loads_of program p j) (store_of program p j) eb d.element d.second in
          made x.0 y.0 x.1 y.1 (inl x.2) (sym x.3 ∙ sym e ∙ y.2)
      chosen (inr e) =
          let x = touching (element_at (p ++ bs)) a.accesses (loads_of program p i) (store_of program p i) ea d.element d.first in
          let y = storing (element_at (p ++ cs)) b.accesses (loads_of program p j) (store_of program p j) eb in
          made x.0 y.0 x.1 y.1 (inr y.2) (sym x.2 ∙ e ∙ y.3)

  pub answered : IsInContext program p → Dependent (effect program p) i j → Earlier (trace program p) i j → Earlier (target program sch p) j i → Answers program sch p i j
  answered inside d first turned =
      let n = nest_of program in
      let zs : List ℤ = p ++ (bs ++ cs) in
      let c = pair_for d in
      let x_at = touch_in a.accesses c.x c.x_in in
      let y_at = touch_in b.accesses c.y c.y_in in
      let i_in = earlier_is_in (trace program p) i j first in
      let j_in = later_is_in (trace program p) i j first in
      let say = systems_are_the_orders program sch p i j has fits l i_in j_in in
      let o = say.in_source.1 first in
      let u = say.turned_round.1 turned in
      let rows = pair_rows n a b c.x.0 c.y.0 in
      let q : Question = question n a b rows o.system u.system in
      let w : pair_columns n a.part b.part ≡ length zs = zs_long program has p bs cs l a b s t c.x.0 c.y.0 x_at y_at in
      let f : All (Meets zs) rows = say_rows program has p bs cs l a b s t c.x.0 c.y.0 x_at y_at (record { context = inside; first_runs = i_in; second_runs = j_in; equal = c.equal }) in
      record {
        question = q;
        asked = is_asked n components maps q (record {
          first = a;
          first_in = s.among;
          first_alive = s.alive;
          from_touch = c.x;
          from_in = c.x_in;
          second = b;
          second_in = t.among;
          second_alive = t.alive;
          to_touch = c.y;
          to_in = c.y_in;
          may = c.may;
          earlier = o.system;
          earlier_in = o.there;
          later = u.system;
          later_in = u.there;
          is = refl;
        });
        first = refl;
        second = refl;
        point = record { width = sym w; meets = both_met zs rows (o.system.rows ++ u.system.rows) f (both_met zs o.system.rows u.system.rows o.meets.meets u.meets.meets) };
      }

-- ---- The laws

-- an instance of the trace stands with its entry
pub stood : (program : Program) (has : HasNest program) (p : List ℤ) (i : Instance) → IsInContext program p → IsIn i (trace program p)
    → (e : Entry) × (e.part ≡ i.statement) × Stood program p e i.iterators
stood program has p i inside r =
    let e = entry_of_instance program p i has r in
    let number : e.0.part ≡ i.statement = ((entries_stand program has).1 i.statement e.0 e.1).number in
    let h : IsEntry program e.0.part e.0 = subst (λ k. IsEntry program k e.0) (sym number) e.1 in
    let alive : IsTrue e.0.alive = living e.0 e.1 e.0.alive refl in
    (e.0, number, record { among = stands_in (nest_of program).entries i.statement e.0 e.1; at = h; alive = alive; long = sym (as_many_loops program p i has r) ∙ ap length (loops_at program i.statement e.0 e.1) })
  where
    living : (e : Entry) → IsEntry program i.statement e → (t : Bool) → e.alive ≡ t → IsTrue e.alive
    living e h true alive = alive
    living e h false dead = absurd ((none_where_not_alive program e i has h dead).1 p inside r)

pub points_violate : PointsViolate
points_violate program Source q point has named fits i is = absurd i
points_violate program (Time components maps) q point has named fits i is =
    let k = asked (nest_of program) components maps q i in
    subst (λ (z : Question). IsInContext program (parameters_at (nest_of program) z point) × Violates program (Time components maps) (parameters_at (nest_of program) z point) (first_at (nest_of program) z point) (second_at (nest_of program) z point))
    (sym k.is) (core k (subst (λ (z : Question). IsPoint z.system point) k.is is))
  where
    n : Nest
    n = nest_of program

    m : ℕ
    m = length (number_ranges program.params)

    core : (k : Asked (nest_of program) (Time components maps) q) → (there : IsPoint (question (nest_of program) k.first k.second (pair_rows (nest_of program) k.first k.second k.from_touch.0 k.to_touch.0) k.earlier k.later).system point)
        → IsInContext program (take m point)
        × Violates program (Time components maps) (take m point)
        (record { statement = statement_of n k.first.part; iterators = middle m (coordinates_of n k.first.part) (coordinates_of n k.second.part) point there.width })
        (record { statement = statement_of n k.second.part; iterators = end m (coordinates_of n k.first.part) (coordinates_of n k.second.part) point there.width })
    core k is =
        let a : Entry = k.first in
        let b : Entry = k.second in
        let ha = entry_at program has a k.first_in in
        let hb = entry_at program has b k.second_in in
        let l1 = coordinates_of n a.part in
        let l2 = coordinates_of n b.part in
        let w : length point ≡ (m + l1) + l2 = is.width in
        let p : List ℤ = front m l1 l2 point w in
        let bs : List ℤ = middle m l1 l2 point w in
        let cs : List ℤ = end m l1 l2 point w in
        let s : Stood program p a bs = record { among = k.first_in; at = ha; alive = k.first_alive; long = middle_long m l1 l2 point w ∙ ap length (loops_at program a.part a ha) } in
        let t : Stood program p b cs = record { among = k.second_in; at = hb; alive = k.second_alive; long = end_long m l1 l2 point w ∙ ap length (loops_at program b.part b hb) } in
        let found = violates program has named components maps fits p bs cs (front_long m l1 l2 point w) a b s t k.from_touch k.to_touch k.from_in k.to_in k.may k.earlier k.later k.earlier_in k.later_in
        (subst (λ zs. All (Meets zs) (pair_rows n a b k.from_touch.0 k.to_touch.0 ++ (k.earlier.rows ++ k.later.rows))) (sym (front_middle_end m l1 l2 point w)) is.meets) in
        subst (λ x. IsInContext program p × Violates program (Time components maps) p (record { statement = x; iterators = bs }) (record { statement = statement_of n b.part; iterators = cs }))
        (sym (statement_at program has a ha))
        (subst (λ y. IsInContext program p × Violates program (Time components maps) p (record { statement = a.part; iterators = bs }) (record { statement = y; iterators = cs })) (sym (statement_at program has b hb)) found)

turned_question : (program : Program) (components : ℕ) (maps : List TimeMap) (p : List ℤ) (a b : Instance) → HasNest program → NamesArrays program → IsScheduleOf program (Time components maps) → IsInContext program p
    → Dependent (effect program p) a b → Earlier (trace program p) a b → Earlier (target program (Time components maps) p) b a → Answers program (Time components maps) p a b
turned_question program components maps p a b has named fits inside d first turned =
    let u = stood program has p a inside (earlier_is_in (trace program p) a b first) in
    let v = stood program has p b inside (later_is_in (trace program p) a b first) in
    let l : length p ≡ length (number_ranges program.params) = sym (box_length (number_ranges program.params) p (in_ranges program.params p inside.ranges)) in
    let ia : instance_of u.0 a.iterators ≡ a = λ i. record { statement = u.1 i; iterators = a.iterators } in
    let ib : instance_of v.0 b.iterators ≡ b = λ i. record { statement = v.1 i; iterators = b.iterators } in
    let goal = λ (x y : Instance). Dependent (effect program p) x y → Earlier (trace program p) x y → Earlier (target program (Time components maps) p) y x → Answers program (Time components maps) p x y in
    subst (λ x. goal x b) ia (subst (λ y. goal (instance_of u.0 a.iterators) y) ib
    (answered program has named components maps fits p a.iterators b.iterators l u.0 v.0 u.2 v.2 inside)) d first turned

pub violations_are_points : ViolationsArePoints
violations_are_points program Source p a b has named fits inside v = absurd (v.not_earlier v.earlier)
violations_are_points program (Time components maps) p a b has named fits inside v =
    let same = target_is_reordered program (Time components maps) p (once program p) in
    let i = same.kept a (earlier_is_in (trace program p) a b v.earlier) in
    let j = same.kept b (later_is_in (trace program p) a b v.earlier) in
    elim (either_way (target program (Time components maps) p) a b v.different i j) [
      | inl e ↦ absurd (v.not_earlier e)
      | inr e ↦ turned_question program components maps p a b has named fits inside v.dependent v.earlier e
    ]

pub questions_decide : QuestionsDecide
questions_decide program Source has named fits = (λ none p inside a b different dependent first. first, λ legal q i. absurd i)
questions_decide program (Time components maps) has named fits = (
  λ none p inside a b different dependent first.
      let same = target_is_reordered program (Time components maps) p (once program p) in
      let i = same.kept a (earlier_is_in (trace program p) a b first) in
      let j = same.kept b (later_is_in (trace program p) a b first) in
      elim (either_way (target program (Time components maps) p) a b different i j) [
        | inl e ↦ e
        | inr e ↦ let r = turned_question program components maps p a b has named fits inside dependent first e in absurd (none r.question r.asked (p ++ (a.iterators ++ b.iterators)) r.point)
      ],
  λ legal q i point is.
      let r = points_violate program (Time components maps) q point has named fits i is in
      r.1.not_earlier (legal (parameters_at (nest_of program) q point) r.0 (first_at (nest_of program) q point) (second_at (nest_of program) q point) r.1.different r.1.dependent r.1.earlier),
)

-- ---- Ranges

pub points_are_boxed : PointsAreBoxed
points_are_boxed program Source q point has named fits i is = absurd i
points_are_boxed program (Time components maps) q point has named fits i is =
    let n = nest_of program in
    let k = asked n components maps q i in
    let v = points_violate program (Time components maps) q point has named fits i is in
    let p : List ℤ = parameters_at n q point in
    let m = length (number_ranges program.params) in
    let ha = entry_at program has k.first k.first_in in
    let hb = entry_at program has k.second k.second_in in
    let first : Instance = first_at n q point in
    let second : Instance = second_at n q point in
    let first_in = earlier_is_in (trace program p) first second v.1.earlier in
    let second_in = later_is_in (trace program p) first second v.1.earlier in
    let first_of : first.statement ≡ k.first.part = ap (λ (z : Question). statement_of n z.first) k.is ∙ statement_at program has k.first ha in
    let second_of : second.statement ≡ k.second.part = ap (λ (z : Question). statement_of n z.second) k.is ∙ statement_at program has k.second hb in
    let a = (ranges_hold_iterators program k.first.part k.first has ha k.first_alive).hold p first first_of v.0 first_in in
    let b = (ranges_hold_iterators program k.second.part k.second has hb k.second_alive).hold p second second_of v.0 second_in in
    let w : length point ≡ (m + coordinates_of n q.first) + coordinates_of n q.second = is.width ∙ ap (λ (z : Question). z.system.columns) k.is ∙ sym (ap (λ (z : Question). pair_columns n z.first z.second) k.is) in
    let whole : p ++ (first.iterators ++ second.iterators) ≡ point = front_middle_end m (coordinates_of n q.first) (coordinates_of n q.second) point w in
    subst (InBox q.ranges) whole
    (subst (λ rs. InBox rs (p ++ (first.iterators ++ second.iterators))) (sym (ap (λ (z : Question). z.ranges) k.is))
    (box_append n.params (k.first.ranges ++ k.second.ranges) p (first.iterators ++ second.iterators) (in_ranges program.params p v.0.ranges)
    (box_append k.first.ranges k.second.ranges first.iterators second.iterators a b)))
