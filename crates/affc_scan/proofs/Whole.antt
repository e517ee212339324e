-- What is found by a walk is the program's.
use Rattle.std.proofs.Common.{◌≡◌, ℕ, zero, suc, ◌+◌, ℤ, true, false, true≢false, List, [], ◌∷◌, ◌++◌, length, length-append, map, Some, None, refl, sym, ap, subst, ◌∙◌, inl, inr, arith}
use Rattle.std.specs.Prelude.{slice_get, if◌then◌else◌}
use Rattle.std.proofs.lemmas.Option.{slice_get_within}
use Rattle.affc_ast.specs.declared.tree.Compare.{Compare}
use Rattle.affc_ast.specs.declared.tree.Program.{Program}
use Rattle.affc_ast.specs.declared.tree.Stmt.{Stmt}
use Rattle.affc_ast.specs.Trace.{Assignment, assignments}
use Rattle.affc_system.specs.Boxes.{IsBox}
use Rattle.affc_trace.specs.declared.schedule.TimeMap.{TimeMap}
use Rattle.affc_trace.specs.declared.schedule.Schedule.TheVariants.{Time}
use Rattle.affc_trace.specs.Law.{IsIn}
use Rattle.affc_trace.specs.Target.{numbers_in}
use Rattle.affc_trace.proofs.Members.{to_map}
use Rattle.affc_domain.specs.Loops.{loop_numbers}
use Rattle.affc_domain.specs.Ranges.{Ranges, Within, Never, Wide, ranges_of, number_ranges}
use Rattle.affc_domain.specs.Rounds.{Round, rounds, loops_in}
use Rattle.affc_domain.proofs.CountLemmas.{numbers_of_each}
use Rattle.affc_domain.proofs.PlainLemmas.{rounds_of_each, assignments_are_plain, few_loops}
use Rattle.affc_domain.proofs.Lists.{place_of, there_is}
use Rattle.affc_domain.proofs.RangeLemmas.{numbers_are}
use Rattle.affc_nest.specs.declared.nest.Nest.{Nest}
use Rattle.affc_nest.specs.Laws.{HasNest}
use Rattle.affc_nest.specs.Nests.{is_alive, ranges_in, entries_of, nest_of}
use Rattle.affc_nest.specs.Sites.{Place, all_around, all_assigned, places_of}
use Rattle.affc_nest.proofs.PlaceLemmas.{rounds_walked, assignments_walked}
use Rattle.affc_loops.specs.Between.{body_between, program_between}
use Rattle.affc_loops.specs.Ends.{each_ends, all_ends, ends_of}
use Rattle.affc_loops.specs.Laws.{HaveSameLoops}
use Rattle.affc_loops.specs.Loops.{Scheduled, box_in, boxes, scheduled_from, scheduled, time_ranges}
use Rattle.affc_loops.proofs.Boxes.{is_wide, none_wide}
use Rattle.affc_loops.proofs.SameLoops.{boxes_same}
use Rattle.affc_loopends.specs.declared.bounds.Bounds.{Bounds}
use Rattle.affc_loopends.specs.Sizes.{IsTimed}
use Rattle.affc_loopends.specs.TimeRows.{time_system, system_of}
use Rattle.affc_loopends.specs.TimeSets.{Timed, timed_in}
use Rattle.affc_loopends.specs.Whys.{AreBoundsFrom}
use Rattle.affc_loopends.specs.scanned.Scanned.{AreBounds, AreBoundsOfEach, all_loose, all_sides, IsBetween}
use Rattle.affc_scan.specs.declared.gathered.Gathered.{Gathered}
use Rattle.affc_scan.specs.declared.alive.Alive.{Alive}
use Rattle.affc_scan.specs.Gathered.{IsProjectable, AllProjectable, AreBoundsOf, AreBoundsOfAll, Gathers}
use Rattle.affc_scan.specs.Laws.{IsNestFor, OwnNest}
use Rattle.affc_scan.specs.Alive.{numbered, as_scheduled}
use Rattle.affc_scan.specs.Numbered.{box_of, Numbered, scheduled_in, numbered_in, HasSpans, AllPrintable, AllSpan}
use Rattle.affc_scan.proofs.SightProofs.{assignment_sight}
use Rattle.affc_scan.proofs.Fitting.{fits_one, all_printable, all_span, ranges_ordered, ranges_long}
use Rattle.affc_scan.proofs.Numbers.{IsNumbered, is_numbered, nest_stands, long, is_timed, its_system}
use Rattle.affc_scan.proofs.AliveSteps.{Stand, all_numbered, whole_from, walk_scheduled}

-- ---- Boxes

box_case : (r : Ranges) → is_wide r ≡ false → (if is_alive r then Some (ranges_in r) else None) ≡ box_in r
box_case (Within rs) e = refl
box_case Never e = refl
box_case (Wide n) e = absurd (true≢false e)

boxes_are : (params : List (ℤ × ℤ)) (context : List Compare) (k : ℕ) (rss : List (List Round)) (lss : List (List ℕ)) (as' : List Assignment) → length rss ≡ length lss → length rss ≡ length as'
    → ((j : ℕ) (rs : List Round) → slice_get rss j ≡ Some rs → is_wide (ranges_of params rs) ≡ false)
    → map box_of (entries_of params context k rss lss as') ≡ map (λ rs. box_in (ranges_of params rs)) rss
boxes_are params context k [] lss as' l m w = refl
boxes_are params context k (rs ∷ rss) [] as' l m w = absurd (omega arith)
boxes_are params context k (rs ∷ rss) (ls ∷ lss) [] l m w = absurd (omega arith)
boxes_are params context k (rs ∷ rss) (ls ∷ lss) (a ∷ as') l m w =
    ap (λ b. b ∷ map box_of (entries_of params context (suc k) rss lss as')) (box_case (ranges_of params rs) (w zero rs refl))
    ∙ ap (λ bs. box_in (ranges_of params rs) ∷ bs) (boxes_are params context (suc k) rss lss as' (omega arith) (omega arith) (λ j qs e. w (suc j) qs e))

entries_boxes : (program : Program) → HasNest program → map box_of (nest_of program).entries ≡ boxes program
entries_boxes program h =
    boxes_are (number_ranges program.params) program.context 0 (rounds program) (loop_numbers program) (assignments program)
    (rounds_of_each program ∙ sym (numbers_of_each program)) (rounds_of_each program) (none_wide (number_ranges program.params) 0 (rounds program) h.near)

-- a nest that is the source's gives the boxes of a program with the source's loops
nest_boxes : (source other : Program) (nest : Nest) → HasNest source → HaveSameLoops source other → nest ≡ nest_of source → map box_of nest.entries ≡ boxes other
nest_boxes source other nest h same e = ap (λ (q : Nest). map box_of q.entries) e ∙ entries_boxes source h ∙ sym (boxes_same source other same)

-- ---- With another body

abbrev with_body : Program → List Stmt → Program
with_body program body = record { name = program.name; params = program.params; context = program.context; temps = program.temps; body = body; prelude = true }

abbrev timed_by : List (ℤ × ℤ) → List Compare → List Round → (ranges : List (ℤ × ℤ)) → TimeMap → Timed
timed_by params context rs ranges m = record { params = params; context = context; around = rs; ranges = ranges; times = m.forms; inverse = m.inverse }

-- ---- The whole

module _ (program : Program) (nest : Nest) (n : ℕ) (maps : List TimeMap) (found : List Place) (ps : List Alive) (is : IsNestFor program nest (Time n maps))
    (walked : found ≡ places_of program) (statements : map numbered ps ≡ numbered_in found maps nest.entries) where
  abbrev own : List (ℤ × ℤ)
  own = number_ranges is.source.params

  abbrev ss : List Numbered
  ss = map numbered ps

  abbrev es : List Scheduled
  es = map as_scheduled ps

  abbrev times : List (ℤ × ℤ)
  times = time_ranges nest.params es

  abbrev loops : HaveSameLoops is.source program
  loops = is.same_times.same_loops

  own_params : nest.params ≡ own
  own_params = ap (λ (q : Nest). q.params) is.its_nest

  params_are : nest.params ≡ number_ranges program.params
  params_are = own_params ∙ sym loops.same_ranges

  numbered_are : ss ≡ numbered_in (places_of program) maps nest.entries
  numbered_are = statements ∙ ap (λ q. numbered_in q maps nest.entries) walked

  has : HasNest is.source
  has = record { plain = is.has_loops.plain; near = is.has_loops.near }

  same_in : map scheduled_in ss ≡ scheduled program maps
  same_in =
      let boxed = nest_boxes is.source program nest has loops is.its_nest in
      ap (map scheduled_in) numbered_are
      ∙ walk_scheduled (places_of program) maps 0 (places_of program) maps nest.entries (whole_from (places_of program)) (whole_from maps) (subst (λ (q : Nest). Stand 0 q.entries) (sym is.its_nest) (nest_stands is.source has))
      ∙ ap (λ rss. scheduled_from 0 rss (all_assigned (places_of program)) maps (map box_of nest.entries)) (rounds_walked program)
      ∙ ap (λ as'. scheduled_from 0 (rounds program) as' maps (map box_of nest.entries)) (assignments_walked program)
      ∙ ap (λ bs. scheduled_from 0 (rounds program) (assignments program) maps bs) boxed

  same : es ≡ scheduled program maps
  same = all_numbered ps ∙ same_in

  times_own : times ≡ time_ranges own (scheduled program maps)
  times_own = ap (λ q. time_ranges q es) own_params ∙ ap (time_ranges own) same

  times_same : times ≡ time_ranges (number_ranges program.params) (scheduled program maps)
  times_same = ap (λ q. time_ranges q es) params_are ∙ ap (time_ranges (number_ranges program.params)) same

  pub printable_there : (first : ℕ) → first ≡ length nest.params → AllPrintable first es
  printable_there first e =
      subst (λ k. AllPrintable k es) (sym (e ∙ ap length own_params)) (subst (AllPrintable (length own)) (sym same) (all_printable is.source program n maps is.has_loops loops is.in_sight))

  pub spans_there : AllSpan nest.params es
  spans_there = subst (λ q. AllSpan q es) (sym own_params) (subst (AllSpan own) (sym same) (all_span is.source program n maps is.has_loops loops is.in_sight))

  pub ordered_there : IsBox times
  ordered_there = subst IsBox (sym times_own) (ranges_ordered is.source program n maps is.has_loops loops is.in_sight)

  -- ---- each statement

  in_scheduled : (s : Numbered) → IsIn s ss → IsIn (scheduled_in s) (scheduled program maps)
  in_scheduled s i = subst (IsIn (scheduled_in s)) same_in (to_map scheduled_in ss s i)

  around : all_around (places_of program) ≡ rounds is.source
  around = rounds_walked program ∙ loops.same_rounds

  numbered_here : (s : Numbered) → IsIn s ss → IsNumbered (places_of program) (nest_of is.source).entries maps s
  numbered_here s i =
      is_numbered (places_of program) (nest_of is.source).entries maps s (nest_stands is.source has) (subst (IsIn s) (numbered_are ∙ ap (λ (q : Nest). numbered_in (places_of program) maps q.entries) is.its_nest) i)

  projects_one : (s : Numbered) → IsIn s ss → IsProjectable nest (nest.params ++ times) s
  projects_one s i =
      let k = numbered_here s i in
      let components = long is.source n maps is.has_loops (places_of program) around s k in
      let all = ap length times_own ∙ ranges_long is.source program n maps is.has_loops loops is.in_sight (scheduled_in s) (in_scheduled s i) in
      record {
        timed = subst (λ (q : Nest). IsTimed q s.entry s.times) (sym is.its_nest) (is_timed is.source n maps is.has_loops (places_of program) around s k);
        columns = length-append nest.params times ∙ ap (λ c. length nest.params + c) (all ∙ sym components);
        spans = subst (λ q. HasSpans q (scheduled_in s)) (sym own_params) (fits_one is.source program n maps is.has_loops loops is.in_sight (scheduled_in s) (in_scheduled s i)).1;
      }

  projects_from : (ts : List Numbered) → ((s : Numbered) → IsIn s ts → IsIn s ss) → AllProjectable nest (nest.params ++ times) ts
  projects_from [] f = tt
  projects_from (s ∷ ts) f = (projects_one s (f s (inl refl)), projects_from ts (λ t i. f t (inr i)))

  pub projects_there : AllProjectable nest (nest.params ++ times) ss
  projects_there = projects_from ss (λ s i. i)

  -- ---- and their bounds

  abbrev ranges : List (ℤ × ℤ)
  ranges = time_ranges (number_ranges program.params) (scheduled program maps)

  timed_same : (s : Numbered) → timed_in is.source s.place.around s.entry.ranges s.times ≡ timed_in program s.place.around s.entry.ranges s.times
  timed_same s =
      ap (λ q. timed_by q is.source.context s.place.around s.entry.ranges s.times) (sym loops.same_ranges)
      ∙ ap (λ c. timed_by (number_ranges program.params) c s.place.around s.entry.ranges s.times) (sym is.same_times.same_context)

  system_same : (s : Numbered) → IsIn s ss
      → time_system (length nest.params) s.entry.domain.rows s.times.forms s.times.inverse ≡ system_of (timed_in program s.place.around s.entry.ranges s.times)
  system_same s i =
      ap (λ (q : Nest). time_system (length q.params) s.entry.domain.rows s.times.forms s.times.inverse) is.its_nest
      ∙ its_system is.source n maps is.has_loops (places_of program) around s (numbered_here s i)
      ∙ ap system_of (timed_same s)

  first_column : length nest.params ≡ numbers_in program.params
  first_column = ap length params_are ∙ sym (numbers_are program.params)

  columns_same : nest.params ++ times ≡ number_ranges program.params ++ ranges
  columns_same = ap (λ q. q ++ times) params_are ∙ ap (λ q. number_ranges program.params ++ q) times_same

  bounds_one : (s : Numbered) (bs : List Bounds) → IsIn s ss → AreBoundsOf nest (nest.params ++ times) s bs → AreBounds program ranges (scheduled_in s) bs
  bounds_one s bs i b = record {
    one_each = b.one_each;
    projected =
        subst (λ q. AreBoundsFrom q (numbers_in program.params) (number_ranges program.params ++ ranges) bs) (system_same s i)
        (subst (λ k. AreBoundsFrom (time_system (length nest.params) s.entry.domain.rows s.times.forms s.times.inverse) k (number_ranges program.params ++ ranges) bs) first_column
        (subst (λ q. AreBoundsFrom (time_system (length nest.params) s.entry.domain.rows s.times.forms s.times.inverse) (length nest.params) q bs) columns_same b.projected));
  }

  bounds_from : (ts : List Numbered) (bss : List (List Bounds)) → ((s : Numbered) → IsIn s ts → IsIn s ss) → AreBoundsOfAll nest (nest.params ++ times) ts bss
      → AreBoundsOfEach program ranges (map scheduled_in ts) bss
  bounds_from [] [] f b = tt
  bounds_from [] (bs ∷ bss) f b = absurd b
  bounds_from (s ∷ ts) [] f b = absurd b
  bounds_from (s ∷ ts) (bs ∷ bss) f b = (bounds_one s bs (f s (inl refl)) b.0, bounds_from ts bss (λ t i. f t (inr i)) b.1)

  -- ---- the program

  module _ (first : ℕ) (made : Gathered) (counted : first ≡ length nest.params) (g : Gathers nest (nest.params ++ times) first ss made) where
    ends_are : made.ends ≡ ends_of program maps (all_sides g.bounds)
    ends_are =
        g.ends
        ∙ ap (λ k. all_ends (each_ends k nest.params (map scheduled_in ss) (all_sides g.bounds))) (counted ∙ first_column)
        ∙ ap (λ q. all_ends (each_ends (numbers_in program.params) q (map scheduled_in ss) (all_sides g.bounds))) params_are
        ∙ ap (λ l. all_ends (each_ends (numbers_in program.params) (number_ranges program.params) l (all_sides g.bounds))) same_in

    body_is : (b : List Stmt) → b ≡ body_between first made.ends es → b ≡ (program_between program maps (ends_of program maps (all_sides g.bounds))).body
    body_is b e =
        e
        ∙ ap (λ k. body_between k made.ends es) (counted ∙ first_column)
        ∙ ap (λ ends. body_between (numbers_in program.params) ends es) ends_are
        ∙ ap (body_between (numbers_in program.params) (ends_of program maps (all_sides g.bounds))) same

    pub between_there : (b : List Stmt) (q : Program) → b ≡ body_between first made.ends es → q ≡ with_body program b → IsBetween program maps (record { program = q; loose = made.loose })
    between_there b q e f = record {
      bounds = g.bounds;
      are_bounds = subst (λ l. AreBoundsOfEach program ranges l g.bounds) same_in (bounds_from ss g.bounds (λ s i. i) g.are_bounds);
      is = f ∙ ap (with_body program) (body_is b e);
      loose = g.loose ∙ ap (λ l. all_loose l g.bounds) same_in;
    }

-- ---- A source's own nest

pub own_nest : OwnNest
own_nest source nest schedule h e = record {
  source = source;
  has_loops = h;
  same_times = record { same_loops = record { same_rounds = refl; same_ranges = refl }; same_context = refl };
  its_nest = e;
  in_sight = λ a i.
      let k = place_of (assignments source) a i in
      let long = rounds_of_each source in
      let below = slice_get_within (assignments source) k.0 a k.1 in
      let rs = there_is (rounds source) k.0 (omega (arith, long, below)) in
      let there = assignments_are_plain source h.plain k.0 rs.0 a rs.1 k.1 in
      let loops = few_loops (length (number_ranges source.params)) 0 0 rs.0 (omega arith) there.0 in
      let few = h.plain.few_numbers in
      assignment_sight (length (number_ranges source.params) + (0 + loops_in rs.0)) (omega (arith, loops, few)) a there.1;
}
