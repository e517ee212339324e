-- Ends by rows that hold at the times of all instances hold the times.
use Rattle.std.proofs.Common.{◌≡◌, ℕ, suc, ◌+◌, ◌≤◌, ℤ, ◌≤ℤ◌, true, IsTrue, List, [], ◌∷◌, ◌++◌, length, map, refl, sym, ap, subst, ◌∙◌, inl, inr, arith}
use Rattle.std.specs.List.{All}
use Rattle.std.proofs.lemmas.Int.{ints}
use Rattle.std.proofs.lemmas.List.Elements.{All-nil, All-cons}
use Rattle.affc_rows.specs.Forms.{Affine, HaveColumns}
use Rattle.affc_system.specs.Boxes.{IsBox, IsRange, InBox, corner}
use Rattle.affc_system.proofs.BoxLemmas.{corner_in_box, corner_is_corner, value_least}
use Rattle.affc_ast.specs.declared.tree.Instance.{Instance}
use Rattle.affc_ast.specs.declared.tree.Ix.{Ix}
use Rattle.affc_ast.specs.declared.tree.Program.{Program}
use Rattle.affc_ast.specs.Fits.{within_ranges}
use Rattle.affc_ast.specs.Trace.{assignments, trace}
use Rattle.affc_trace.specs.declared.schedule.Schedule.TheVariants.{Time}
use Rattle.affc_trace.specs.declared.schedule.TimeMap.{TimeMap}
use Rattle.affc_trace.specs.Law.{IsIn}
use Rattle.affc_trace.specs.Target.{numbers_in, loops_round, time_by, time_of}
use Rattle.affc_trace.proofs.Depths.{depth}
use Rattle.affc_trace.proofs.Ordered.{map_of}
use Rattle.affc_domain.specs.Ranges.{number_ranges}
use Rattle.affc_domain.specs.Rounds.{rounds}
use Rattle.affc_domain.proofs.PlainLemmas.{has_assignment}
use Rattle.affc_domain.proofs.TurnLemmas.{instances_turn}
use Rattle.affc_loops.specs.Between.{LiesBetween, IsTurn, HoldTimes}
use Rattle.affc_loops.specs.Ends.{Sides, joined, ends_from, both_ends, each_ends, all_ends, ends_of, AreRowsOf, AreRowsOfEach}
use Rattle.affc_loops.specs.Laws.{HasLoops, HaveSameLoops, RowsHoldTimes, TurnsMeetRows}
use Rattle.affc_loops.specs.Loops.{Scheduled, boxes, scheduled, times_of, time_ranges}
use Rattle.affc_loops.specs.Spans.{span, hulls}
use Rattle.affc_loops.proofs.BetweenLaws.{few, slight, its_own, box, numbers, enclosed, ranges_small}
use Rattle.affc_loops.proofs.Boxes.{params_ordered}
use Rattle.affc_loops.proofs.EndLists.{Nested, Keeps, keeps_run, keeps_both, keeps_from, lies_from, both_long, lies_first, lies_second, from_long, turns_from}
use Rattle.affc_loops.proofs.Joined.{joined_all, joined_any}
use Rattle.affc_loops.proofs.Scheduled.{has_scheduled}
use Rattle.affc_loops.proofs.SameLoops.{AreAlike, alike_times, numbers_same, scheduled_alike}
use Rattle.affc_loops.proofs.Sizes.{spans}
use Rattle.affc_loops.proofs.TimeRanges.{Spans, min_below, min_below_too, max_above, max_above_too, ordered_append, here_long, ranges_long, here_holds}

-- ---- the ranges of a statement's times lie within those of all

same : (z : ℤ) → z ≤ℤ z
same z = omega (arith, ints)

nested_self : (rs : List (ℤ × ℤ)) → IsBox rs → Nested rs rs
nested_self [] o = tt
nested_self (r ∷ rs) o = (same r.0, o 0 r (omega arith), same r.1, nested_self rs (λ i x l. o (suc i) x (omega arith)))

nested_first : (rs ss : List (ℤ × ℤ)) → length rs ≡ length ss → IsBox rs → Nested rs (hulls rs ss)
nested_first [] ss l o = tt
nested_first (r ∷ rs) [] l o = absurd (omega arith)
nested_first (r ∷ rs) (s ∷ ss) l o =
    (min_below r.0 s.0 r.0 (same r.0), o 0 r (omega arith), max_above r.1 s.1 r.1 (same r.1), nested_first rs ss (omega arith) (λ i x m. o (suc i) x (omega arith)))

nested_second : (bs rs ss : List (ℤ × ℤ)) → length rs ≡ length ss → Nested bs ss → Nested bs (hulls rs ss)
nested_second [] [] [] l n = tt
nested_second [] (r ∷ rs) [] l n = absurd (omega arith)
nested_second [] rs (s ∷ ss) l n = absurd n
nested_second (b ∷ bs) rs [] l n = absurd n
nested_second (b ∷ bs) [] (s ∷ ss) l n = absurd (omega arith)
nested_second (b ∷ bs) (r ∷ rs) (s ∷ ss) l n = (min_below_too r.0 s.0 b.0 n.0, n.1, max_above_too r.1 s.1 b.1 n.2, nested_second bs rs ss (omega arith) n.3)

nested_long : (bs rs : List (ℤ × ℤ)) → Nested bs rs → length bs ≡ length rs
nested_long [] [] n = refl
nested_long [] (r ∷ rs) n = absurd n
nested_long (b ∷ bs) [] n = absurd n
nested_long (b ∷ bs) (r ∷ rs) n = ap suc (nested_long bs rs n.3)

spans_ordered : (b : List (ℤ × ℤ)) (fs : List Affine) → HaveColumns (length b) fs → IsBox b → IsBox (map (span b) fs)
spans_ordered b [] w o = All-nil IsRange
spans_ordered b (f ∷ fs) w o =
    let wide : length f.coefs ≡ length b = w 0 f (omega arith) in
    All-cons IsRange (span b f) (map (span b) fs) (value_least f b (corner true f.coefs b) wide (corner_in_box b (corner true f.coefs b) o (corner_is_corner true f.coefs b wide)))
    (spans_ordered b fs (λ i g l. w (suc i) g (omega arith)) o)

module _ (params : List (ℤ × ℤ)) (n : ℕ) (ordered : IsBox params) where
  times_ordered : (e : Scheduled) → Spans params n e → IsBox (times_of params e)
  times_ordered e s = spans_ordered (params ++ e.ranges) e.times.forms s.columns (ordered_append params e.ranges ordered s.ordered)

  scheduled_nested : (es : List Scheduled) → ((e : Scheduled) → IsIn e es → Spans params n e) → (e : Scheduled) → IsIn e es → Nested (times_of params e) (time_ranges params es)
  scheduled_nested [] s e i = absurd i
  scheduled_nested (f ∷ []) s e (inl q) = subst (λ (g : Scheduled). Nested (times_of params g) (times_of params f)) (sym q) (nested_self (times_of params f) (times_ordered f (s f (inl refl))))
  scheduled_nested (f ∷ []) s e (inr i) = absurd i
  scheduled_nested (f ∷ g ∷ es) s e i =
      let long : length (times_of params f) ≡ length (time_ranges params (g ∷ es)) = here_long params n ordered f (s f (inl refl)) ∙ sym (ranges_long params n ordered g es (λ h j. s h (inr j))) in
      elim i [
        | inl q ↦
            subst (λ (h : Scheduled). Nested (times_of params h) (hulls (times_of params f) (time_ranges params (g ∷ es)))) (sym q)
            (nested_first (times_of params f) (time_ranges params (g ∷ es)) long (times_ordered f (s f (inl refl))))
        | inr j ↦ nested_second (times_of params e) (times_of params f) (time_ranges params (g ∷ es)) long (scheduled_nested (g ∷ es) (λ h k. s h (inr k)) e j)
      ]

-- ---- the ends of all statements

module _ (source : Program) (n : ℕ) (maps : List TimeMap) (h : HasLoops source (Time n maps)) (p : List ℤ) (within : IsTrue (within_ranges source.params p)) where
  abbrev params : List (ℤ × ℤ)
  params = number_ranges source.params

  abbrev all : List Scheduled
  all = scheduled source maps

  abbrev ranges : List (ℤ × ℤ)
  ranges = time_ranges params all

  abbrev ordered : IsBox params
  ordered = params_ordered params (h.plain).ranges

  inside : InBox params p
  inside = box source source n maps h (its_own source) p within

  spans_of : (e : Scheduled) → IsIn e all → Spans params n e
  spans_of e i = spans source n maps h.plain h.near h.scheduled (few source n maps h) (slight source n maps h) e i

  nested : (e : Scheduled) → IsIn e all → Nested (times_of params e) ranges
  nested e i = scheduled_nested params n ordered all spans_of e i

  abbrev ends_at : Scheduled → List Sides → List (Ix × Ix)
  ends_at e ss = ends_from (length p) (length p) ss (times_of params e)

  abbrev each : List Scheduled → List (List Sides) → List (List (Ix × Ix))
  each es rows = each_ends (length p) params es rows

  no_more : length p ≤ length p
  no_more = omega arith

  as_long : (e : Scheduled) (ss : List Sides) → IsIn e all → AreRowsOf source maps ranges p e ss → length ss ≡ length (times_of params e)
  as_long e ss i r = r.one_each ∙ sym (nested_long (times_of params e) ranges (nested e i))

  one_keeps : (e : Scheduled) (ss : List Sides) → IsIn e all → AreRowsOf source maps ranges p e ss → Keeps ranges (ends_at e ss) p
  one_keeps e ss i r =
      keeps_from (length p) (length p) ss (times_of params e) ranges params p (params ++ ranges) refl no_more refl inside r.are_sides r.one_each (nested e i)
      (ranges_small source source n maps h (its_own source) p within)

  one_long : (e : Scheduled) (ss : List Sides) → IsIn e all → AreRowsOf source maps ranges p e ss → length (ends_at e ss) ≡ length ranges
  one_long e ss i r = from_long (length p) (length p) ss (times_of params e) (as_long e ss i r) ∙ nested_long (times_of params e) ranges (nested e i)

  each_keeps : (es : List Scheduled) (rows : List (List Sides)) → ((e : Scheduled) → IsIn e es → IsIn e all) → AreRowsOfEach source maps ranges p es rows → All (λ ends. Keeps ranges ends p) (each es rows)
  each_keeps [] [] sub r = All-nil (λ ends. Keeps ranges ends p)
  each_keeps [] (ss ∷ rows) sub r = absurd r
  each_keeps (e ∷ es) [] sub r = absurd r
  each_keeps (e ∷ es) (ss ∷ rows) sub r = All-cons (λ ends. Keeps ranges ends p) (ends_at e ss) (each es rows) (one_keeps e ss (sub e (inl refl)) r.0) (each_keeps es rows (λ f i. sub f (inr i)) r.1)

  each_long : (es : List Scheduled) (rows : List (List Sides)) → ((e : Scheduled) → IsIn e es → IsIn e all) → AreRowsOfEach source maps ranges p es rows → All (λ ends. length ends ≡ length ranges) (each es rows)
  each_long [] [] sub r = All-nil (λ ends. length ends ≡ length ranges)
  each_long [] (ss ∷ rows) sub r = absurd r
  each_long (e ∷ es) [] sub r = absurd r
  each_long (e ∷ es) (ss ∷ rows) sub r = All-cons (λ ends. length ends ≡ length ranges) (ends_at e ss) (each es rows) (one_long e ss (sub e (inl refl)) r.0) (each_long es rows (λ f i. sub f (inr i)) r.1)

  -- an instance's statement, and the ranges of its times
  record Own (a : Instance) : Type 0 where
    its_statement : Scheduled
    there : IsIn its_statement all
    its_number : a.statement ≡ its_statement.statement
    in_times : InBox (times_of params its_statement) (time_of maps p a)

  own : (a : Instance) → IsIn a (trace source p) → Own a
  own a i =
      let t = (instances_turn source p a).0 i in
      let b = enclosed source source n maps h (its_own source) p within a i in
      let s = has_assignment source a.statement t.0 t.1 in
      let m = map_of (numbers_in source.params) n (loops_round source) maps h.scheduled a.statement (length a.iterators) (depth source p a i) in
      let e : Scheduled = record { statement = 0 + a.statement; around = t.0; assignment = s.0; times = m.0; ranges = b.0 } in
      let there : IsIn e all = has_scheduled 0 (rounds source) (assignments source) maps (boxes source) a.statement t.0 s.0 m.0 b.0 t.1 s.1 m.1 b.1 in
      record {
        its_statement = e;
        there = there;
        its_number = (let z : a.statement ≡ 0 + a.statement = omega arith in z);
        in_times = subst (InBox (times_of params e)) (sym (ap (λ o. time_by o (p ++ a.iterators)) m.1)) (here_holds params n ordered e (spans_of e there) p a.iterators inside b.2);
      }

  -- one of the ends holds it
  each_holds : (es : List Scheduled) (rows : List (List Sides)) → ((e : Scheduled) → IsIn e es → IsIn e all) → AreRowsOfEach source maps ranges p es rows
      → (a : Instance) → IsIn a (trace source p) → (e : Scheduled) → IsIn e es → a.statement ≡ e.statement → InBox (times_of params e) (time_of maps p a)
      → (ends : List (Ix × Ix)) × IsIn ends (each es rows) × LiesBetween ends p (time_of maps p a)
  each_holds [] rows sub r a i e j k b = absurd j
  each_holds (f ∷ es) [] sub r a i e j k b = absurd r
  each_holds (f ∷ es) (ss ∷ rows) sub r a i e (inl q) k b =
      let own_rows : AreRowsOf source maps ranges p f ss = r.0 in (
        ends_at f ss,
        inl refl,
        lies_from (length p) (length p) ss (times_of params f) p (time_of maps p a) (params ++ ranges) refl no_more own_rows.are_sides (as_long f ss (sub f (inl refl)) own_rows)
            (own_rows.hold a i (k ∙ ap (λ (g : Scheduled). g.statement) q)) (subst (λ (g : Scheduled). InBox (times_of params g) (time_of maps p a)) q b),
      )
  each_holds (f ∷ es) (ss ∷ rows) sub r a i e (inr j) k b = let t = each_holds es rows (λ g l. sub g (inr l)) r.1 a i e j k b in (t.0, inr t.1, t.2)

  -- so do those of all
  times_held : (es : List Scheduled) (rows : List (List Sides)) → all ≡ es → AreRowsOfEach source maps ranges p es rows → HoldTimes source maps (all_ends (each es rows)) p
  times_held [] [] q r =
      let none : ranges ≡ [] = ap (time_ranges params) q in
      record {
        one_each = ap length (sym none);
        run = keeps_run ranges [] p (subst (λ rs. Keeps rs [] p) (sym none) tt);
        hold = λ a i. let o = own a i in absurd (subst (IsIn o.its_statement) q o.there);
      }
  times_held [] (ss ∷ rows) q r = absurd r
  times_held (e ∷ es) [] q r = absurd r
  times_held (e ∷ es) (ss ∷ rows) q r =
      let sub : (f : Scheduled) → IsIn f (e ∷ es) → IsIn f all = λ f i. subst (IsIn f) (sym q) i in
      let more : (f : Scheduled) → IsIn f es → IsIn f all = λ f i. sub f (inr i) in
      let long : length (ends_at e ss) ≡ length ranges = one_long e ss (sub e (inl refl)) r.0 in
      let longs = each_long es rows more r.1 in
      let closed : (as' bs : List (Ix × Ix)) → length as' ≡ length ranges → length bs ≡ length ranges → length (both_ends as' bs) ≡ length ranges = λ as' bs k l. both_long as' bs (k ∙ sym l) ∙ k in
      record {
        one_each = joined_all both_ends (λ ends. length ends ≡ length ranges) closed (ends_at e ss) (each es rows) long longs;
        run = keeps_run ranges (joined both_ends (ends_at e ss) (each es rows)) p
            (joined_all both_ends (λ ends. Keeps ranges ends p) (λ as' bs k l. keeps_both ranges as' bs p k l) (ends_at e ss) (each es rows) (one_keeps e ss (sub e (inl refl)) r.0) (each_keeps es rows more r.1));
        hold = λ a i.
            let o = own a i in
            let t = each_holds (e ∷ es) (ss ∷ rows) sub r a i o.its_statement (subst (IsIn o.its_statement) q o.there) o.its_number o.in_times in
            joined_any both_ends (λ ends. length ends ≡ length ranges) (λ ends. LiesBetween ends p (time_of maps p a)) closed
            (λ as' bs k l m. lies_first as' bs p (time_of maps p a) (k ∙ sym l) m) (λ as' bs k l m. lies_second as' bs p (time_of maps p a) (k ∙ sym l) m)
            (ends_at e ss) (each es rows) long longs t.0 t.1 t.2;
      }

pub rows_hold_times : RowsHoldTimes
rows_hold_times source n maps rows p h within r =
    subst (λ first. HoldTimes source maps (all_ends (each_ends first (number_ranges source.params) (scheduled source maps) rows)) p) (numbers source source n maps h (its_own source) p within)
    (times_held source n maps h p within (scheduled source maps) rows refl r)

-- the rows of one statement alone
pub turns_meet_rows : TurnsMeetRows
turns_meet_rows source maps e sides ranges p components q long s turn =
    turns_from (length p) (length p) sides (times_of (number_ranges source.params) e) p components ranges refl (let z : length p ≤ length p = omega arith in z) s
    (subst (λ first. IsTurn (all_ends (each_ends first (number_ranges source.params) (e ∷ []) (sides ∷ []))) p components) (sym long)
    (subst (λ es. IsTurn (all_ends (each_ends (numbers_in source.params) (number_ranges source.params) es (sides ∷ []))) p components) q turn))

-- ---- the ends of programs with the same loops

alike_ends : (first : ℕ) (known : List (ℤ × ℤ)) (es fs : List Scheduled) (rows : List (List Sides)) → AreAlike es fs → each_ends first known es rows ≡ each_ends first known fs rows
alike_ends first known [] [] rows h = refl
alike_ends first known [] (f ∷ fs) rows h = absurd h
alike_ends first known (e ∷ es) [] rows h = absurd h
alike_ends first known (e ∷ es) (f ∷ fs) [] h = refl
alike_ends first known (e ∷ es) (f ∷ fs) (ss ∷ rows) h =
    ap (λ box. ends_from first first ss box ∷ each_ends first known es rows) (alike_times known e f h.0 h.1) ∙ ap (λ rest. ends_from first first ss (times_of known f) ∷ rest) (alike_ends first known es fs rows h.2)

pub ends_same : (source other : Program) → HaveSameLoops source other → (maps : List TimeMap) (rows : List (List Sides)) → ends_of other maps rows ≡ ends_of source maps rows
ends_same source other same maps rows =
    ap (λ first. all_ends (each_ends first (number_ranges other.params) (scheduled other maps) rows)) (numbers_same source other same)
    ∙ ap (λ params. all_ends (each_ends (numbers_in source.params) params (scheduled other maps) rows)) same.same_ranges
    ∙ ap all_ends (alike_ends (numbers_in source.params) (number_ranges source.params) (scheduled other maps) (scheduled source maps) rows (scheduled_alike source other same maps))
