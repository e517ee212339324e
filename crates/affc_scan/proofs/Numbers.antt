-- Each entry that can have instances, with the place and the times of its statement.
use Rattle.std.proofs.Common.{◌≡◌, ℕ, zero, suc, ◌+◌, ◌≤◌, ◌&&◌, IsTrue, List, [], ◌∷◌, length, Option, Some, None, refl, sym, ap, subst, ◌∙◌, inl, inr, arith}
use Rattle.std.specs.Prelude.{slice_get}
use Rattle.std.proofs.lemmas.Option.{none-some, same_Some}
use Rattle.affc_ast.specs.declared.tree.Program.{Program}
use Rattle.affc_trace.specs.declared.schedule.Schedule.TheVariants.{Time}
use Rattle.affc_trace.specs.declared.schedule.TimeMap.{TimeMap}
use Rattle.affc_trace.specs.Law.{IsIn}
use Rattle.affc_trace.specs.Target.{all_slight, maps_within, numbers_in}
use Rattle.affc_trace.proofs.Once.{in_append}
use Rattle.affc_domain.specs.Ranges.{number_ranges, ranges_of}
use Rattle.affc_domain.specs.Rounds.{rounds, loops_in}
use Rattle.affc_domain.proofs.Lists.{both_true, to_mapped, stands_in, in_if}
use Rattle.affc_domain.proofs.RangeLemmas.{numbers_are}
use Rattle.affc_nest.specs.declared.nest.Entry.{Entry}
use Rattle.affc_nest.specs.Laws.{HasNest}
use Rattle.affc_nest.specs.Nests.{nest_of}
use Rattle.affc_nest.specs.Sites.{Place, all_around}
use Rattle.affc_nest.proofs.EntryLemmas.{site_of, entries_stand, loops_are, ranges_are_within}
use Rattle.affc_loops.specs.Laws.{HasLoops}
use Rattle.affc_loops.specs.Loops.{loop_names}
use Rattle.affc_loops.proofs.Guards.{names_count}
use Rattle.affc_loops.proofs.BetweenLaws.{few, slight}
use Rattle.affc_loops.proofs.Scheduled.{shape_of}
use Rattle.affc_loopends.specs.Sizes.{IsTimed}
use Rattle.affc_loopends.specs.TimeRows.{time_system, system_of}
use Rattle.affc_loopends.specs.TimeSets.{timed_in}
use Rattle.affc_loopends.proofs.Statements.{entries_are_timed}
use Rattle.affc_scan.specs.Numbered.{Numbered, if_alive, numbered_in}
use Rattle.affc_scan.proofs.AliveSteps.{Stand}

-- ---- Which entry it is

pub record IsNumbered (ps : List Place) (es : List Entry) (ms : List TimeMap) (s : Numbered) : Type 0 where
  pub at : ℕ
  pub its_place : slice_get ps at ≡ Some s.place
  pub its_entry : slice_get es at ≡ Some s.entry
  pub its_times : slice_get ms at ≡ Some s.times
  pub alive : IsTrue s.entry.alive

-- one of these entries, with what its statement has
record Among (ps : List Place) (es : List Entry) (ms : List TimeMap) (s : Numbered) : Type 0 where
  at : ℕ
  its_entry : slice_get es at ≡ Some s.entry
  its_place : slice_get ps s.entry.statement ≡ Some s.place
  its_times : slice_get ms s.entry.statement ≡ Some s.times
  alive : IsTrue s.entry.alive

this_entry : (ps : List Place) (e : Entry) (es : List Entry) (ms : List TimeMap) (s : Numbered) (o : Option Place) (q : Option TimeMap) → slice_get ps e.statement ≡ o → slice_get ms e.statement ≡ q
    → IsIn s (if_alive o e q) → Among ps (e ∷ es) ms s
this_entry ps e es ms s None q f g i = absurd i
this_entry ps e es ms s (Some p) None f g i = absurd i
this_entry ps e es ms s (Some p) (Some m) f g i =
    let r = in_if e.alive (record { place = p; entry = e; times = m } ∷ []) s i in
    elim r.1 [
      | inl is ↦ record {
        at = 0;
        its_entry = ap (λ (x : Numbered). Some x.entry) (sym is);
        its_place = ap (λ (x : Numbered). slice_get ps x.entry.statement) is ∙ f ∙ ap (λ (x : Numbered). Some x.place) (sym is);
        its_times = ap (λ (x : Numbered). slice_get ms x.entry.statement) is ∙ g ∙ ap (λ (x : Numbered). Some x.times) (sym is);
        alive = subst (λ (x : Numbered). IsTrue x.entry.alive) (sym is) r.0;
      }
      | inr none ↦ absurd none
    ]

among : (ps : List Place) (es : List Entry) (ms : List TimeMap) (s : Numbered) → IsIn s (numbered_in ps ms es) → Among ps es ms s
among ps [] ms s i = absurd i
among ps (e ∷ es) ms s i = elim (in_append (if_alive (slice_get ps e.statement) e (slice_get ms e.statement)) (numbered_in ps ms es) s i) [
  | inl j ↦ this_entry ps e es ms s (slice_get ps e.statement) (slice_get ms e.statement) refl refl j
  | inr j ↦ let r = among ps es ms s j in record { at = suc r.at; its_entry = r.its_entry; its_place = r.its_place; its_times = r.its_times; alive = r.alive }
]

pub is_numbered : (ps : List Place) (es : List Entry) (ms : List TimeMap) (s : Numbered) → Stand 0 es → IsIn s (numbered_in ps ms es) → IsNumbered ps es ms s
is_numbered ps es ms s stand i =
    let r = among ps es ms s i in
    let own : s.entry.statement ≡ r.at = stand r.at s.entry r.its_entry ∙ no_first r.at in
    record { at = r.at; its_place = ap (slice_get ps) (sym own) ∙ r.its_place; its_entry = r.its_entry; its_times = ap (slice_get ms) (sym own) ∙ r.its_times; alive = r.alive }
  where
    no_first : (n : ℕ) → 0 + n ≡ n
    no_first n = omega arith

-- the entries of a nest are of the statements of their numbers
pub nest_stands : (source : Program) → HasNest source → Stand 0 (nest_of source).entries
nest_stands source has j e there = ((entries_stand source has).1 j e there).statement ∙ first j
  where
    first : (n : ℕ) → n ≡ 0 + n
    first n = omega arith

-- ---- Its time set

slight_at : (ms : List TimeMap) (k : ℕ) (m : TimeMap) → IsTrue (maps_within ms) → slice_get ms k ≡ Some m → IsTrue (all_slight m.forms) × IsTrue (all_slight m.inverse)
slight_at [] k m h e = absurd (none-some m e)
slight_at (x ∷ ms) zero m h e =
    subst (λ (y : TimeMap). IsTrue (all_slight y.forms) × IsTrue (all_slight y.inverse)) (same_Some x m e)
    (both_true (all_slight x.forms) (all_slight x.inverse) (both_true (all_slight x.forms && all_slight x.inverse) (maps_within ms) h).0)
slight_at (x ∷ ms) (suc k) m h e = slight_at ms k m (both_true (all_slight x.forms && all_slight x.inverse) (maps_within ms) h).1 e

module _ (source : Program) (n : ℕ) (maps : List TimeMap) (h : HasLoops source (Time n maps)) (ps : List Place) (walked : all_around ps ≡ rounds source) (s : Numbered)
    (is : IsNumbered ps (nest_of source).entries maps s) where
  abbrev has : HasNest source
  has = record { plain = h.plain; near = h.near }

  its_rounds : slice_get (rounds source) is.at ≡ Some s.place.around
  its_rounds = ap (λ rss. slice_get rss is.at) (sym walked) ∙ to_mapped (λ (p : Place). p.around) ps is.at s.place is.its_place

  pub long : length s.times.forms ≡ n
  long = (shape_of source n maps h.scheduled is.at s.place.around s.times its_rounds is.its_times).components

  pub is_timed : IsTimed (nest_of source) s.entry s.times
  is_timed =
      let shape = shape_of source n maps h.scheduled is.at s.place.around s.times its_rounds is.its_times in
      let site = site_of source is.at s.entry is.its_entry in
      let around = same_Some site.its_rounds s.place.around (sym site.rounds_at ∙ its_rounds) in
      let names : length (loop_names s.place.around) ≡ length s.entry.loops = names_count s.place.around ∙ ap loops_in (sym around) ∙ sym (loops_are source is.at s.entry site) in
      let numbers : numbers_in source.params ≡ length (number_ranges source.params) = numbers_are source.params in
      let within = slight_at maps is.at s.times (slight source n maps h) is.its_times in
      let most : n ≤ 12 = few source n maps h in
      record {
        is_nest = record { program = source; has = has; is = refl };
        there = stands_in (nest_of source).entries is.at s.entry is.its_entry;
        alive = is.alive;
        map_of = record {
          columns = shape.columns ∙ ap (λ k. k + length (loop_names s.place.around)) numbers ∙ ap (λ k. length (number_ranges source.params) + k) names;
          components = refl;
          iterators = shape.iterators ∙ names;
        };
        few = subst (λ k. k ≤ 12) (sym long) most;
        forms = within.0;
        inverse = within.1;
      }

  -- the system that is made is that of the statement
  pub its_system : time_system (length (nest_of source).params) s.entry.domain.rows s.times.forms s.times.inverse ≡ system_of (timed_in source s.place.around s.entry.ranges s.times)
  its_system =
      let t = entries_are_timed source is.at s.entry s.times has is.its_entry is.alive in
      let around = same_Some t.0 s.place.around (sym t.2 ∙ its_rounds) in
      let site = site_of source is.at s.entry is.its_entry in
      let same = same_Some site.its_rounds t.0 (sym site.rounds_at ∙ t.2) in
      let ranges = ranges_are_within source is.at s.entry site t.1 (ap (ranges_of (number_ranges source.params)) same ∙ t.3) in
      t.4 ∙ ap (λ rs. system_of (timed_in source rs t.1 s.times)) around ∙ ap (λ b. system_of (timed_in source s.place.around b s.times)) (sym ranges)
