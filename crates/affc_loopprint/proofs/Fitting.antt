-- What the limits of a schedule and of its source give of the statements that are printed, and of the ranges of their times.
use Rattle.std.proofs.Common.{◌≡◌, ℕ, ◌+◌, ◌^◌, ◌≤◌, ℤ, Bool, true, false, unsigned_abs, List, ◌++◌, length, get_or, Some, sym, ap, subst, ◌∙◌, arith}
use Rattle.std.specs.Prelude.{slice_get}
use Rattle.std.specs.List.{All}
use Rattle.std.proofs.lemmas.List.Elements.{All-append, All-map}
use Rattle.std.proofs.lemmas.Option.{same_Some}
use Rattle.affc_rows.specs.Forms.{Affine, value, magnitude, HaveColumns}
use Rattle.affc_system.specs.Boxes.{IsBox, InBox, corner}
use Rattle.affc_system.proofs.BoxLemmas.{corner_in_box, corner_is_corner}
use Rattle.affc_ast.specs.declared.tree.Ix.{Ix}
use Rattle.affc_ast.specs.declared.tree.Program.{Program}
use Rattle.affc_ast.specs.Trace.{assignments}
use Rattle.affc_trace.specs.declared.schedule.TimeMap.{TimeMap}
use Rattle.affc_trace.specs.declared.schedule.Schedule.TheVariants.{Time}
use Rattle.affc_trace.specs.Law.{IsIn}
use Rattle.affc_trace.specs.Target.{numbers_in}
use Rattle.affc_trace.proofs.Runs.{length_append}
use Rattle.affc_domain.specs.Ranges.{number_ranges}
use Rattle.affc_domain.specs.Rounds.{rounds, loops_in}
use Rattle.affc_domain.proofs.PlainLemmas.{rounds_are_plain, few_loops}
use Rattle.affc_domain.proofs.RangeLemmas.{numbers_are}
use Rattle.affc_loops.specs.Between.{body_between}
use Rattle.affc_loops.specs.Laws.{HasLoops, HaveSameLoops}
use Rattle.affc_loops.specs.Limits.{IsSlight}
use Rattle.affc_loops.specs.Loops.{Scheduled, boxes, scheduled, times_of, loop_names}
use Rattle.affc_loops.specs.Spans.{span}
use Rattle.affc_loops.proofs.Boxed.{box_length}
use Rattle.affc_loops.proofs.Boxes.{sits, near_box, params_ordered}
use Rattle.affc_loops.proofs.Guards.{names_count}
use Rattle.affc_loops.proofs.Scheduled.{is_scheduled_at, shape_of}
use Rattle.affc_loops.proofs.SameLoops.{boxes_same, numbers_same}
use Rattle.affc_loops.proofs.Sizes.{Within, map_within, near_within, params_within, time_most, box_within, slight_below, value_within}
use Rattle.affc_loops.proofs.TimeRanges.{Spans, here_long, ordered_append}
use Rattle.affc_loops.proofs.BetweenLaws.{slight}

-- the loops of a program between these ends, with these statements
abbrev pub loops_program : Program → List (Ix × Ix) → List Scheduled → Program
loops_program program ends es = record {
  name = program.name;
  params = program.params;
  context = program.context;
  temps = program.temps;
  body = body_between (numbers_in program.params) ends es;
  prelude = true;
}

-- a statement of a program, with times of n components
pub record Fitting (program : Program) (n : ℕ) (e : Scheduled) : Type 0 where
  pub at : ℕ
  pub its_rounds : slice_get (rounds program) at ≡ Some e.around
  pub its_assignment : slice_get (assignments program) at ≡ Some e.assignment
  pub few : length (loop_names e.around) ≤ 6
  pub box : length e.ranges ≡ length (loop_names e.around)
  pub near : All (Within (2 ^ 31)) e.ranges
  pub ordered : IsBox e.ranges
  pub components : length e.times.forms ≡ n
  pub iterators : length e.times.inverse ≡ length (loop_names e.around)
  pub columns : HaveColumns (numbers_in program.params + length (loop_names e.around)) e.times.forms
  pub inverse_columns : HaveColumns (numbers_in program.params + n) e.times.inverse
  pub slight : All IsSlight e.times.forms
  pub inverse_slight : All IsSlight e.times.inverse

-- ---- What is given

module _ (source other : Program) (n : ℕ) (maps : List TimeMap) (has : HasLoops source (Time n maps)) (same : HaveSameLoops source other) where
  pub fitting : (e : Scheduled) → IsIn e (scheduled other maps) → Fitting other n e
  fitting e i =
      let h = is_scheduled_at 0 (rounds other) (assignments other) maps (boxes other) e i in
      let here = ap (λ l. slice_get l h.at) (sym same.same_rounds) ∙ h.its_guards in
      let s = sits source h.at e.ranges (ap (λ l. slice_get l h.at) (sym (boxes_same source other same)) ∙ h.its_ranges) in
      let b = near_box (number_ranges source.params) s.around e.ranges s.is_box in
      let around : s.around ≡ e.around = same_Some s.around e.around (sym s.its_rounds ∙ here) in
      let shape = shape_of source n maps has.scheduled h.at e.around e.times here h.its_times in
      let w = map_within maps h.at e.times (slight source n maps has) h.its_times in
      let l : length e.ranges ≡ loops_in e.around = b.long ∙ ap loops_in around in
      let q : length (loop_names e.around) ≡ loops_in e.around = names_count e.around in
      let c = shape.columns in
      let p = shape.components in
      let t = shape.iterators in
      let wide = ap (λ m. m + length (loop_names e.around)) (sym (numbers_same source other same)) in
      record {
        at = h.at;
        its_rounds = h.its_guards;
        its_assignment = h.its_assignment;
        few = (let f = few_loops (length (number_ranges source.params)) 0 0 e.around (omega arith) (rounds_are_plain source has.plain h.at e.around here) in omega (arith, f, q));
        box = l ∙ sym q;
        near = near_within e.ranges b.near;
        ordered = b.ordered;
        components = p;
        iterators = t;
        columns = subst (λ m. HaveColumns m e.times.forms) (c ∙ wide) e.times.shaped;
        inverse_columns = (let g = numbers_same source other same in subst (λ m. HaveColumns m e.times.inverse) (omega (arith, c, p, t, g)) e.times.inverse_shaped);
        slight = w.forms;
        inverse_slight = w.inverse;
      }

  -- the ranges of a statement's times

  abbrev known : List (ℤ × ℤ)
  known = number_ranges other.params

  ordered : IsBox known
  ordered = subst IsBox (sym same.same_ranges) (params_ordered (number_ranges source.params) (has.plain).ranges)

  spans : (e : Scheduled) → IsIn e (scheduled other maps) → Spans known n e
  spans e i =
      let f = fitting e i in
      let a = length_append known e.ranges in
      let b = numbers_are other.params in
      let c = f.box in
      record { components = f.components; columns = subst (λ m. HaveColumns m e.times.forms) (omega (arith, a, b, c)) f.columns; ordered = f.ordered }

  pub times_count : (e : Scheduled) → IsIn e (scheduled other maps) → length (times_of known e) ≡ n
  times_count e i = here_long known n ordered e (spans e i)

  module _ (e : Scheduled) (i : IsIn e (scheduled other maps)) where
    abbrev box : List (ℤ × ℤ)
    box = known ++ e.ranges

    known_near : All (Within (2 ^ 31)) known
    known_near =
        subst (All (Within (2 ^ 31))) (sym same.same_ranges)
        (λ j r l.
        let w : Within (2 ^ 24) (get_or (number_ranges source.params) j r) = params_within (number_ranges source.params) (has.plain).ranges j r l in
        let a = w.0 in let b = w.1 in
        (omega (arith, a), omega (arith, b)))

    short : length box ≤ 10
    short =
        let f = fitting e i in
        let a = length_append known e.ranges in
        let b = ap length same.same_ranges in
        let c = has.plain.few_numbers in
        let d = f.box in
        let g = f.few in
        omega (arith, a, b, c, d, g)

    at_corner : (greatest : Bool) (g : Affine) → IsSlight g → length g.coefs ≡ length box → unsigned_abs (value g (corner greatest g.coefs box)) ≤ time_most
    at_corner greatest g s wide =
        let xs = corner greatest g.coefs box in
        let there : InBox box xs = corner_in_box box xs (ordered_append known e.ranges ordered (fitting e i).ordered) (corner_is_corner greatest g.coefs box wide) in
        let long : length xs ≡ length box = box_length box xs there in
        let l = short in
        let near : All (Within (2 ^ 31)) box = All-append (Within (2 ^ 31)) known e.ranges known_near (fitting e i).near in
        let m : magnitude g xs ≤ time_most = slight_below g xs 10 (2 ^ 31) s (box_within box xs (2 ^ 31) there near) (omega (arith, long, l)) in
        let v : unsigned_abs (value g xs) ≤ magnitude g xs = value_within g xs in
        omega (arith, m, v)

    pub times_fit : All (Within (2 ^ 62)) (times_of known e)
    times_fit =
        All-map (Within (2 ^ 62)) (span box) e.times.forms (λ j g l.
        let f = get_or e.times.forms j g in
        let s : IsSlight f = (fitting e i).slight j g l in
        let w : length f.coefs ≡ length box = (spans e i).columns j g l in
        let a : unsigned_abs (value f (corner false f.coefs box)) ≤ time_most = at_corner false f s w in
        let b : unsigned_abs (value f (corner true f.coefs box)) ≤ time_most = at_corner true f s w in
        (omega (arith, a), omega (arith, b)))
