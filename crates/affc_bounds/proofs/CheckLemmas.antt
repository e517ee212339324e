-- What the check's answers say of a program.
use Rattle.std.proofs.Common.{◌≡◌, ℤ, pos, ◌≤ℤ◌, ◌<ℤ◌, Bool, true, false, List, [], ◌∷◌, ◌++◌, get_or, Some, None, refl, sym, subst, ◌∙◌, inl, inr, arith}
use Rattle.std.proofs.lemmas.Int.{ints}
use Rattle.affc_system.specs.Order.{LexLe}
use Rattle.affc_ast.specs.declared.tree.Program.{Program}
use Rattle.affc_ast.specs.Fits.{whole}
use Rattle.affc_ast.specs.Trace.{events, loads_of, store_of}
use Rattle.affc_ast.specs.Values.{is_within}
use Rattle.affc_trace.specs.Law.{IsIn}
use Rattle.affc_trace.specs.Laws.{IsInContext}
use Rattle.affc_trace.proofs.Members.{to_first, to_second}
use Rattle.affc_domain.specs.Arrays.{declared_arrays, extents_at}
use Rattle.affc_domain.proofs.Lists.{place_of}
use Rattle.affc_safe.specs.Safe.{LiesWithin}
use Rattle.affc_nest.specs.Laws.{HasNest, NamesArrays}
use Rattle.affc_nest.specs.Nests.{nest_of}
use Rattle.affc_nest.proofs.AccessLemmas.{context_is_the_context}
use Rattle.affc_nest.proofs.QuestionLemmas.{or_less}
use Rattle.affc_bounds.specs.Faults.{ExtentsStand, AccessesStand, StaysWithin, IsMeaningFault}
use Rattle.affc_bounds.specs.Found.{IsFirst}
use Rattle.affc_bounds.specs.Looks.{ContextSays, InArrays, InEntries, IsClean, IsFaultOf, empty, narrow, outside}
use Rattle.affc_bounds.specs.Spots.{IsOutside, spot_of}
use Rattle.affc_bounds.specs.declared.fault.MeaningFault.{MeaningFault}
use Rattle.affc_bounds.specs.declared.fault.MeaningFault.TheVariants.{Extent}
use Rattle.affc_bounds.specs.declared.found.Found.{Found}
use Rattle.affc_bounds.proofs.AccessLemmas.{found_is_outside, found_at, outside_is_found}
use Rattle.affc_bounds.proofs.ExtentLemmas.{found_is_narrow, narrow_is_found}

module _ (program : Program) (has : HasNest program) where
  -- ---- The context

  some_context : ContextSays (nest_of program) true → (p : List ℤ) × IsInContext program p
  some_context c = (c.0, (context_is_the_context program c.0 has.plain).1 (c.1, c.2))

  no_context : ContextSays (nest_of program) false → (p : List ℤ) → IsInContext program p → ⊥
  no_context none p inside = let c = (context_is_the_context program p has.plain).0 inside in none p c.0 c.1

  -- ---- Extents

  extents_stand : IsFirst (InArrays (nest_of program) 0 (nest_of program).arrays) None → ExtentsStand program
  extents_stand none p inside d e i j =
      elim (or_less (pos 0) (whole e p)) [
        | inl low ↦ let k = place_of (declared_arrays program) d i in
            absurd (none _ (narrow_is_found program has p k.0 (record { context = inside; decl = d; declared = k.1; extent = e; is_extent = j; below = low })))
        | inr high ↦ at_least (whole e p) high
      ]
    where
      at_least : (z : ℤ) → pos 0 <ℤ z → pos 1 ≤ℤ z
      at_least z h = omega (arith, ints)

  first_narrow : (fault : MeaningFault) (found : Found) → fault ≡ found.fault → IsFirst (InArrays (nest_of program) 0 (nest_of program).arrays) (Some found) → IsMeaningFault program fault
  first_narrow fault found e h =
      let s = found_is_narrow program has found h.0 in
      subst (IsMeaningFault program) (sym (e ∙ s.fault)) (
        has.near,
        record {
          narrow = s.narrow;
          first = λ q other n. subst (λ k. LexLe k (q ++ pos other ∷ [])) s.key (h.1 (record { key = q ++ pos other ∷ []; fault = Extent (record { 0 = other }) q }) (narrow_is_found program has q other n));
        },
      )

  -- ---- Accesses

  module _ (named : NamesArrays program) where
    accesses_stand : IsFirst (InEntries (nest_of program) (nest_of program).entries) None → AccessesStand program
    accesses_stand none p inside b x i t = chosen (is_within x.1 (get_or (extents_at (declared_arrays program) p) x.0 [])) refl
      where
        there : IsIn x (events program p b)
        there = elim t [
          | inl loaded ↦ to_first (loads_of program p b) (store_of program p b ∷ []) x loaded
          | inr stored ↦ to_second (loads_of program p b) (store_of program p b ∷ []) x (inl stored)
        ]

        chosen : (v : Bool) → is_within x.1 (get_or (extents_at (declared_arrays program) p) x.0 []) ≡ v → LiesWithin program p x
        chosen true e = e
        chosen false e =
            let k = place_of (events program p b) x there in
            let o : IsOutside program p b k.0 = record { context = inside; runs = i; element = x; touched = k.1; outside = λ w. let no : true ≡ false = sym w ∙ e in absurd (cc) } in
            absurd (none _ (outside_is_found program has named p b k.0 o))

    first_outside : (fault : MeaningFault) (found : Found) → fault ≡ found.fault → IsFirst (InArrays (nest_of program) 0 (nest_of program).arrays) None
        → IsFirst (InEntries (nest_of program) (nest_of program).entries) (Some found) → IsMeaningFault program fault
    first_outside fault found e none h =
        let s = found_is_outside program has found h.0 in
        subst (IsMeaningFault program) (sym (e ∙ s.fault)) (record {
          near = has.near;
          extents = extents_stand none;
          first = record {
            outside = s.outside;
            first = λ q b other o. subst (λ k. LexLe k (spot_of q b other)) s.key (h.1 (found_at o.element.0 other q b) (outside_is_found program has named q b other o));
          };
          of_array = s.of_array;
        })

    -- ---- The answers

    pub clean_stays : IsClean (nest_of program) → StaysWithin program
    clean_stays c = record { near = has.near; some = some_context c.context; extents = extents_stand c.extents; accesses = accesses_stand c.accesses }

    pub fault_says : (fault : MeaningFault) → IsFaultOf (nest_of program) fault → IsMeaningFault program fault
    fault_says fault (empty e none) = subst (IsMeaningFault program) (sym e) (has.near, no_context none)
    fault_says fault (narrow found e h) = first_narrow fault found e h
    fault_says fault (outside found e none h) = first_outside fault found e none h
