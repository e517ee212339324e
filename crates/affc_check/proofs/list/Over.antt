-- What clash systems are over.
use Rattle.std.proofs.Common.{◌≡◌, ◌≢◌, ℕ, ◌+◌, ◌≤◌, ℤ, List, length, Some, sym, ap, subst, ◌∙◌, inl, inr, arith}
use Rattle.std.specs.Prelude.{slice_get}
use Rattle.std.specs.List.{Contains}
use Rattle.std.proofs.lemmas.Option.{same_Some, slice_get-get_or}
use Rattle.affc_system.specs.ElementPairs.{IsPairAt, IsPairOf}
use Rattle.affc_system.specs.declared.pairs.PairSystem.{PairSystem}
use Rattle.affc_ast.specs.declared.tree.Program.{Program}
use Rattle.affc_trace.specs.declared.schedule.Schedule.{Schedule}
use Rattle.affc_trace.specs.Law.{IsIn}
use Rattle.affc_trace.proofs.Members.{to_map}
use Rattle.affc_domain.specs.Ranges.{number_ranges}
use Rattle.affc_domain.proofs.Lists.{length_map, stands_in}
use Rattle.affc_domain.proofs.ColumnLemmas.{values_long}
use Rattle.affc_nest.specs.declared.nest.Access.{Access}
use Rattle.affc_nest.specs.declared.nest.ArrayInfo.{ArrayInfo}
use Rattle.affc_nest.specs.declared.nest.Entry.{Entry}
use Rattle.affc_nest.specs.Laws.{HasNest, NamesArrays}
use Rattle.affc_nest.specs.Nests.{nest_of}
use Rattle.affc_nest.specs.Questions.{extents_or_none}
use Rattle.affc_nest.proofs.QuestionLemmas.{as_many}
use Rattle.affc_sched.proofs.LegalLemmas.{entry_at}
use Rattle.affc_quast.specs.Limits.{Shaped, HaveShapes}
use Rattle.affc_quast.specs.Trees.{Tree}
use Rattle.affc_quast.proofs.RangeLemmas.{leaves_are_over}
use Rattle.affc_conflicts.specs.Laws.{IsOver}
use Rattle.affc_life.specs.Clashes.{Clash, clash_of, of_reader, of_writer, clashes}
use Rattle.affc_life.specs.Laws.{AreShaped, AreClashes}
use Rattle.affc_life.proofs.LiveLemmas.{load_among, store_among, shape, elements_differ}
use Rattle.affc_life.proofs.MadeLemmas.{made}

-- trees that have their shapes
pub are_shaped : (program : Program) (trees : List Tree) → HaveShapes (nest_of program) trees → AreShaped (nest_of program) trees
are_shaped program trees shapes s k e tree at less there =
    let t = shapes s k e at less in
    subst (Shaped (length (nest_of program).params + length e.loops)) (same_Some t.0 tree (sym t.1 ∙ there)) t.2

module _ (program : Program) (has : HasNest program) (named : NamesArrays program) (trees : List Tree) (shaped : AreShaped (nest_of program) trees) (schedule : Schedule)
    (array : ℕ) (info : ArrayInfo) (declared : slice_get (nest_of program).arrays array ≡ Some info) where
  -- the dimensions of the array
  dimensions : (e : Entry) → IsIn e (nest_of program).entries → (x : Access) → IsIn x e.accesses → x.array.0 ≡ array → length x.subs ≡ length info.extents
  dimensions e i x j of_array =
      as_many program e.part e named (entry_at program has e i) x j ∙ ap (λ n. length (extents_or_none (slice_get (nest_of program).arrays n))) of_array ∙ ap (λ o. length (extents_or_none o)) declared

  pub is_over : (s : PairSystem) → IsIn (clash_of s) (clashes (nest_of program) trees schedule array) → IsOver (nest_of program).context.columns (length info.extents) s
  is_over s asked =
      let k = made (nest_of program) trees schedule array (clash_of s) asked in
      let over = leaves_are_over (length (number_ranges program.params) + length k.reader.loops) k.tree k.leaf (shape program has trees schedule array shaped (clash_of s) k) k.leaf_in in
      record {
        parameters_first = enough (length (number_ranges program.params)) (length k.reader.loops) (length k.leaf.divisions) k.leaf.columns (length k.of_leaf.writer.loops) s.system.columns over.width (ap (λ (d : Clash). d.system.columns) k.of_leaf.is);
        x_each = ap (λ (d : Clash). length d.x) k.of_leaf.is ∙ length_map (of_reader (nest_of program) k.reader k.leaf k.of_leaf.writer) k.load.subs
            ∙ dimensions k.reader k.reader_in k.load (load_among program has trees schedule array shaped (clash_of s) k) k.loads;
        y_each = ap (λ (d : Clash). length d.y) k.of_leaf.is ∙ length_map (of_writer (nest_of program) k.reader k.leaf k.of_leaf.writer) k.of_leaf.store.subs
            ∙ dimensions k.of_leaf.writer k.of_leaf.writer_in k.of_leaf.store (store_among program has trees schedule array shaped (clash_of s) k) k.of_leaf.stores;
      }
    where
      enough : (m l d c w n : ℕ) → c ≡ (m + l) + d → n ≡ c + w → m ≤ n
      enough m l d c w n e f = omega (arith, e, f)

  pub asked_of : (systems : List PairSystem) → AreClashes program trees schedule array systems → (s : PairSystem) → Contains systems s → IsIn (clash_of s) (clashes (nest_of program) trees schedule array)
  asked_of systems are s there = subst (IsIn (clash_of s)) are (to_map clash_of systems s (stands_in systems there.0 s (slice_get-get_or systems there.0 s there.1 ∙ ap Some there.2)))

  pub are_over : (systems : List PairSystem) → AreClashes program trees schedule array systems → (s : PairSystem) → Contains systems s → IsOver (nest_of program).context.columns (length info.extents) s
  are_over systems are s there = is_over s (asked_of systems are s there)

  -- the elements of a pair differ, and have a number for each dimension
  pub are_proper : (systems : List PairSystem) → AreClashes program trees schedule array systems → (p x y : List ℤ) → IsPairOf systems p x y → (x ≢ y) × (length x ≡ length info.extents) × (length y ≡ length info.extents)
  are_proper systems are p x y h = elim h.either [ inl e ↦ proper x y e | inr e ↦ let r = proper y x e in ((λ q. r.0 (sym q)), r.2, r.1) ]
    where
      proper : (x y : List ℤ) → IsPairAt h.system p x y → (x ≢ y) × (length x ≡ length info.extents) × (length y ≡ length info.extents)
      proper x y e =
          let s = h.system in
          let over = are_over systems are s h.there in (
            λ q. elements_differ program trees schedule array (clash_of s) e.point has shaped (asked_of systems are s h.there) e.meets (e.first ∙ q ∙ sym e.second),
            sym (ap length e.first) ∙ values_long s.x.items e.point ∙ over.x_each,
            sym (ap length e.second) ∙ values_long s.y.items e.point ∙ over.y_each,
          )
