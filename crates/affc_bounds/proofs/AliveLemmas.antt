-- The questions of a program's nest may be asked in the boxes of its parameters and iterators.
use Rattle.std.proofs.Common.{◌≡◌, ℕ, ◌+◌, ◌≤◌, ℤ, IsTrue, List, [], ◌∷◌, length, refl, sym, ap, subst, ◌∙◌, inl, inr, arith}
use Rattle.std.specs.Prelude.{◌&&◌, nat_le}
use Rattle.std.specs.List.{All}
use Rattle.std.proofs.lemmas.Bool.{leb-true}
use Rattle.std.proofs.lemmas.List.Elements.{All-append}
use Rattle.affc_rows.specs.Forms.{Affine}
use Rattle.affc_system.specs.Pairs.{WithinReach}
use Rattle.affc_ast.specs.declared.tree.Program.{Program}
use Rattle.affc_trace.specs.Law.{IsIn}
use Rattle.affc_trace.proofs.Runs.{length_append}
use Rattle.affc_domain.specs.Accesses.{accesses_of}
use Rattle.affc_domain.specs.Plain.{all_plain, plain_value}
use Rattle.affc_domain.specs.Ranges.{number_ranges}
use Rattle.affc_domain.specs.Rounds.{loops_in}
use Rattle.affc_domain.proofs.Lists.{both_true, length_map, place_of}
use Rattle.affc_domain.proofs.PlainLemmas.{assignments_are_plain}
use Rattle.affc_nest.specs.Asked.{IsNest, IsSubscript}
use Rattle.affc_nest.specs.declared.nest.Access.{Access}
use Rattle.affc_nest.specs.declared.nest.Entry.{Entry}
use Rattle.affc_nest.specs.declared.nest.Nest.{Nest}
use Rattle.affc_nest.specs.Laws.{HasNest, IsEntry}
use Rattle.affc_nest.specs.Nests.{access_form, nest_of}
use Rattle.affc_nest.specs.Sides.{NearRanges}
use Rattle.affc_nest.proofs.EntryLemmas.{site_of, entries_stand, ranges_there, ranges_are_within, ranges_hold_iterators}
use Rattle.affc_nest.proofs.PlaceProofs.{near_numbers, near_within}
use Rattle.affc_nest.proofs.QuestionProofs.{nest_near, nests_are_asked}
use Rattle.affc_nest.proofs.IntervalLemmas.{near_reach}
use Rattle.affc_bounds.specs.Looks.{AreSubscripts, HaveSubscripts, IsAlive, AreAlive}

-- ---- Subscripts

some_subs : (e : Entry) (xs : List Affine) → ((x : Affine) → IsIn x xs → IsSubscript e x) → AreSubscripts e xs
some_subs e [] f = tt
some_subs e (x ∷ xs) f = (f x (inl refl), some_subs e xs (λ y i. f y (inr i)))

some_accesses : (e : Entry) (xs : List Access) → ((x : Access) → IsIn x xs → IsIn x e.accesses) → HaveSubscripts e xs
some_accesses e [] f = tt
some_accesses e (x ∷ xs) f = (some_subs e x.subs (λ s i. record { access = x; made = f x (inl refl); of_access = i }), some_accesses e xs (λ y i. f y (inr i)))

-- ---- Entries

module _ (program : Program) (has : HasNest program) where
  few_accesses : (k : ℕ) (e : Entry) → IsEntry program k e → length e.accesses ≤ 16
  few_accesses k e h =
      let s = site_of program k e h in
      let m = length (number_ranges program.params) in
      let a = s.assignment in
      let plain = (assignments_are_plain program has.plain k s.its_rounds a s.rounds_at s.assignment_at).1 in
      let b = both_true (nat_le (length (accesses_of a)) 16) (all_plain (m + (0 + loops_in s.its_rounds)) a.subs && plain_value a.value (m + (0 + loops_in s.its_rounds))) plain in
      let l : length e.accesses ≡ length (accesses_of a) = ap (λ (x : Entry). length x.accesses) s.is ∙ length_map (access_form (m + loops_in s.its_rounds)) (accesses_of a) in
      let f : length (accesses_of a) ≤ 16 = leb-true (length (accesses_of a)) 16 b.0 in
      subst (λ n. n ≤ 16) (sym l) f

  entry_alive : (e : Entry) → IsIn e (nest_of program).entries → IsTrue e.alive → IsAlive (nest_of program) e
  entry_alive e i alive =
      let k = place_of (nest_of program).entries e i in
      let r = ranges_hold_iterators program k.0 e has k.1 alive in
      let s = (entries_stand program has).1 k.0 e k.1 in
      let ps = number_ranges program.params in
      let o = site_of program k.0 e k.1 in
      let w = ranges_there program k.0 e has o alive in
      let near : NearRanges e.ranges = subst NearRanges (sym (ranges_are_within program k.0 e o w.0 w.1)) (near_within ps w.0 o.its_rounds w.1) in
      record {
        nest_of = nests_are_asked program has;
        there = i;
        columns = length_append ps e.ranges ∙ ap (λ n. length ps + n) r.each ∙ sym s.columns;
        reach = All-append WithinReach ps e.ranges (near_reach ps (near_numbers ps has.plain.ranges)) (near_reach e.ranges near);
        few = few_accesses k.0 e k.1;
        subs = some_accesses e e.accesses (λ x j. j);
      }

  some_alive : (es : List Entry) → ((e : Entry) → IsIn e es → IsIn e (nest_of program).entries) → AreAlive (nest_of program) es
  some_alive [] f = tt
  some_alive (e ∷ es) f = (entry_alive e (f e (inl refl)), some_alive es (λ x i. f x (inr i)))

pub all_alive : (nest : Nest) → IsNest nest → AreAlive nest nest.entries
all_alive nest n = subst (λ (x : Nest). AreAlive x x.entries) (sym n.is) (some_alive n.program n.has (nest_of n.program).entries (λ e i. i))

-- ---- Parameters

pub params_reach : (nest : Nest) → IsNest nest → All WithinReach nest.params
params_reach nest n = near_reach nest.params (nest_near nest n)
