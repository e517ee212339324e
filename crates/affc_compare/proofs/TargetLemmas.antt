-- The comparisons are the order in the target, and what is asked of them gives small numbers.
use Rattle.std.proofs.Common.{◌≡◌, ℕ, ◌+◌, ◌≤◌, ℤ, List, [], ◌∷◌, length, sym, ap, subst, ◌∙◌, ◌⊎◌, inl, inr, arith, Ordering}
use Rattle.std.specs.Prelude.{◌↔◌}
use Rattle.std.specs.declared.cmp.Ordering.TheVariants.{Less, Equal}
use Rattle.std.specs.Ordering.{ordering_reverse}
use Rattle.std.specs.Cmp.{IsTotalOrder, tied_itself}
use Rattle.affc_rows.specs.Forms.{HaveColumns}
use Rattle.affc_ast.specs.declared.tree.Instance.{Instance}
use Rattle.affc_ast.specs.declared.tree.Program.{Program}
use Rattle.affc_ast.specs.Trace.{trace}
use Rattle.affc_trace.specs.declared.schedule.Schedule.TheVariants.{Source, Time}
use Rattle.affc_trace.specs.declared.schedule.TimeMap.{TimeMap}
use Rattle.affc_trace.specs.Law.{IsIn}
use Rattle.affc_trace.specs.Orders.{Earlier}
use Rattle.affc_trace.specs.Target.{target, time_cmp, IsMapOf, numbers_in, loops_round}
use Rattle.affc_trace.proofs.Depths.{depth}
use Rattle.affc_trace.proofs.Once.{once}
use Rattle.affc_trace.proofs.Ordered.{time_cmp_total, map_of, target_is_by_time}
use Rattle.affc_trace.proofs.Targets.{target_is_reordered}
use Rattle.affc_domain.proofs.RangeLemmas.{numbers_are}
use Rattle.affc_compare.specs.Asked.{AreAsked}
use Rattle.affc_compare.specs.Compared.{IsOrderIn}
use Rattle.affc_compare.specs.Source.{loops_cmp, source_cmp}
use Rattle.affc_compare.specs.Sharing.{common_loops}
use Rattle.affc_compare.specs.Timed.{IsTimed, AreBothTimed}
use Rattle.affc_compare.proofs.SourceLemmas.{few_iterators, loops_cmp_total, less_is_earlier, common_turned}
use Rattle.affc_compare.proofs.TimeLemmas.{slight_map, slight_maps}

-- ---- Orders

one_is_earlier : {I : Type 0} (xs : List I) (a b : I) → IsIn a xs → IsIn b xs → (a ≡ b) ⊎ (Earlier xs a b ⊎ Earlier xs b a)
one_is_earlier [] a b i j = absurd i
one_is_earlier (x ∷ xs) a b (inl e) (inl f) = inl (e ∙ sym f)
one_is_earlier (x ∷ xs) a b (inl e) (inr j) = inr (inl (inl (e, j)))
one_is_earlier (x ∷ xs) a b (inr i) (inl f) = inr (inr (inl (f, i)))
one_is_earlier (x ∷ xs) a b (inr i) (inr j) = elim (one_is_earlier xs a b i j) [
  | inl e ↦ inl e
  | inr r ↦ elim r [ inl h ↦ inr (inl (inr h)) | inr h ↦ inr (inr (inr h)) ]
]

-- a total comparison that is less exactly where the first is earlier
module _ (order : List Instance) (cmp : Instance → Instance → Ordering) (total : IsTotalOrder cmp) (a b : Instance) (i : IsIn a order) (j : IsIn b order)
    (forth : (cmp a b ≡ Less) ↔ Earlier order a b) (back : (cmp b a ≡ Less) ↔ Earlier order b a) where
  not_less : (o : Ordering) → o ≡ Equal → o ≡ Less → ⊥
  not_less o e h = absurd (cc)

  same : cmp a b ≡ Equal → a ≡ b
  same e = elim (one_is_earlier order a b i j) [
    | inl s ↦ s
    | inr r ↦ elim r [ inl h ↦ absurd (not_less (cmp a b) e (forth.1 h)) | inr h ↦ absurd (not_less (cmp b a) (total.antisymm b a ∙ ap ordering_reverse e) (back.1 h)) ]
  ]

  is_order : IsOrderIn order a b (cmp a b)
  is_order = record {
    less = forth;
    equal = (same, λ e. subst (λ z. cmp a z ≡ Equal) e (tied_itself total a));
    greater = (λ e. back.0 (total.antisymm b a ∙ ap ordering_reverse e), λ h. total.antisymm a b ∙ ap ordering_reverse (back.1 h));
  }

-- ---- The source

module _ (program : Program) (p : List ℤ) (a b : Instance) (h : AreAsked program Source p a b) where
  pub in_source : IsOrderIn (trace program p) a b (source_cmp program a b)
  in_source =
      let n = common_loops program a.statement b.statement in
      let turned : n ≡ common_loops program b.statement a.statement = common_turned program p a b h.first h.second in
      is_order (trace program p) (loops_cmp n) (loops_cmp_total n) a b h.first h.second (less_is_earlier program p a b h.first h.second)
      (subst (λ k. (loops_cmp k b a ≡ Less) ↔ Earlier (trace program p) b a) (sym turned) (less_is_earlier program p b a h.second h.first))

-- ---- Times

module _ (program : Program) (n : ℕ) (maps : List TimeMap) (p : List ℤ) (a b : Instance) (h : AreAsked program (Time n maps) p a b) where
  timed : (i : Instance) → IsIn i (trace program p) → IsTimed n maps p i
  timed i stands =
      let r = map_of (numbers_in program.params) n (loops_round program) maps h.fits i.statement (length i.iterators) (depth program p i stands) in
      let m : TimeMap = r.0 in
      let shape : IsMapOf (numbers_in program.params) (length i.iterators) n m = r.2 in
      let few : length i.iterators ≤ 6 = few_iterators program p i h.plain stands in
      record {
        time_map = m;
        there = r.1;
        components = shape.components;
        columns = subst (λ k. HaveColumns k m.forms) (shape.columns ∙ ap (λ k. k + length i.iterators) (sym h.numbers)) m.shaped;
        slight = slight_map maps i.statement m (slight_maps n maps h.slight) r.1;
        few = omega (arith, few, h.numbers, numbers_are program.params, h.plain.few_numbers);
      }

  pub both_timed : AreBothTimed maps p a b
  both_timed = record { length_of_time = n; first = timed a h.first; second = timed b h.second }

  in_target : (i : Instance) → IsIn i (trace program p) → IsIn i (target program (Time n maps) p)
  in_target = (target_is_reordered program (Time n maps) p (once program p)).kept

  pub in_time : IsOrderIn (target program (Time n maps) p) a b (time_cmp maps p a b)
  in_time =
      let forth = target_is_by_time program n maps p a b h.fits h.numbers in
      let back = target_is_by_time program n maps p b a h.fits h.numbers in
      is_order (target program (Time n maps) p) (time_cmp maps p) (time_cmp_total maps p) a b (in_target a h.first) (in_target b h.second)
      (λ e. forth.1 (h.first, h.second, e), λ e. (forth.0 e).2) (λ e. back.1 (h.second, h.first, e), λ e. (back.0 e).2)
