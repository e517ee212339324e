-- The ranges of a clash system hold its points.
use Rattle.std.proofs.Common.{◌≡◌, ◌+◌, ℤ, IsTrue, List, [], ◌∷◌, ◌++◌, length, take, refl, sym, ap, subst, ◌∙◌, inl, inr}
use Rattle.std.specs.Prelude.{◌&&◌}
use Rattle.std.specs.List.{All}
use Rattle.std.proofs.lemmas.List.Elements.{All-nil, All-cons, All-append}
use Rattle.affc_system.specs.Boxes.{InBox}
use Rattle.affc_system.specs.Pairs.{WithinReach}
use Rattle.affc_ast.specs.declared.tree.Program.{Program}
use Rattle.affc_trace.specs.Law.{IsIn}
use Rattle.affc_trace.proofs.EndedReads.{append_assoc}
use Rattle.affc_trace.proofs.Runs.{length_append}
use Rattle.affc_domain.specs.Ranges.{is_near, number_ranges}
use Rattle.affc_domain.proofs.RangeLemmas.{in_ranges, box_append}
use Rattle.affc_nest.specs.declared.nest.Entry.{Entry}
use Rattle.affc_nest.specs.Laws.{HasNest, AreRanges}
use Rattle.affc_nest.specs.Nests.{nest_of}
use Rattle.affc_nest.proofs.EntryLemmas.{ranges_hold_iterators}
use Rattle.affc_nest.proofs.IntervalLemmas.{close_range, reach, near_reach}
use Rattle.affc_nest.proofs.PlaceProofs.{near_params}
use Rattle.affc_sched.proofs.LegalLemmas.{instance_of, entry_at}
use Rattle.affc_quast.specs.Leaves.{leaves_of, path_ranges}
use Rattle.affc_quast.specs.Limits.{Shaped}
use Rattle.affc_quast.proofs.RangeLemmas.{path_ranges_long, path_ranges_near, leaf_count, leaf_box}
use Rattle.affc_life.specs.Clashes.{Clash}
use Rattle.affc_life.specs.Laws.{ClashesAreBoxed}
use Rattle.affc_life.proofs.LiveLemmas.{reader_at, shape, facts_at, path_long, front_long, cut_front}
use Rattle.affc_life.proofs.MadeLemmas.{made}

-- ---- Ends within 2^60

each_reach : (rs : List (ℤ × ℤ)) → ((r : ℤ × ℤ) → IsIn r rs → IsTrue (is_near r.0 && is_near r.1)) → All WithinReach rs
each_reach [] h = All-nil WithinReach
each_reach (r ∷ rs) h = All-cons WithinReach r rs (reach r (close_range r (h r (inl refl)))) (each_reach rs (λ q i. h q (inr i)))

module _ (program : Program) (has : HasNest program) (e : Entry) (e_in : IsIn e (nest_of program).entries) (alive : IsTrue e.alive) where
  pub ranges_are : AreRanges program e.part e
  ranges_are = ranges_hold_iterators program e.part e has (entry_at program has e e_in) alive

  pub entry_reach : All WithinReach e.ranges
  entry_reach = each_reach e.ranges (λ r i. (ranges_are.near r i).1)

-- ---- The law

pub clashes_are_boxed : ClashesAreBoxed
clashes_are_boxed program trees schedule array c has shaped near asked =
    let k = made (nest_of program) trees schedule array c asked in
    let e : Entry = k.reader in
    let w : Entry = k.of_leaf.writer in
    let params = number_ranges program.params in
    let m = length params in
    let re = ranges_are program has e k.reader_in k.alive in
    let rw = ranges_are program has w k.of_leaf.writer_in k.of_leaf.writer_alive in
    let start : List (ℤ × ℤ) = params ++ e.ranges in
    let path : List (ℤ × ℤ) = path_ranges start k.leaf.divisions in
    let are : c.ranges ≡ path ++ w.ranges = ap (λ (c : Clash). c.ranges) k.of_leaf.is in
    let start_long : length start ≡ m + length e.loops = length_append params e.ranges ∙ ap (λ n. m + n) re.each in
    record {
      width = ap length are ∙ length_append path w.ranges
          ∙ ap (λ n. n + length w.ranges) (path_ranges_long start k.leaf.divisions ∙ ap (λ n. n + length k.leaf.divisions) start_long ∙ sym (leaf_count (m + length e.loops) k.tree k.leaf k.leaf_in))
          ∙ ap (λ n. k.leaf.columns + n) rw.each ∙ sym (ap (λ (c : Clash). c.system.columns) k.of_leaf.is);
      within = subst (All WithinReach) (sym are)
          (All-append WithinReach path w.ranges
          (path_ranges_near start k.leaf.divisions (All-append WithinReach params e.ranges (near_reach params (near_params params program refl has.plain)) (entry_reach program has e k.reader_in k.alive)))
          (entry_reach program has w k.of_leaf.writer_in k.of_leaf.writer_alive));
      holds = λ point is.
          let p : List ℤ = take m point in
          let l : length p ≡ m = front_long program has trees schedule array shaped c k point is in
          let t = cut_front program has trees schedule array shaped c k point is in
          let f = facts_at program has trees schedule array shaped c k p l point t in
          let long : m + length e.loops ≡ length (p ++ t.bs) = path_long program has trees schedule array shaped c k p l point t in
          let one : InBox start (p ++ t.bs) = box_append params e.ranges p t.bs (in_ranges program.params p f.context.ranges) (re.hold p (instance_of e t.bs) refl f.context f.reader_runs) in
          let two : InBox path ((p ++ t.bs) ++ t.qs) =
          leaf_box k.tree (p ++ t.bs) t.qs start k.leaf (subst (λ n. Shaped n k.tree) long (shape program has trees schedule array shaped c k)) (subst (λ n. IsIn k.leaf (leaves_of n k.tree)) long k.leaf_in) one
          (near p f.context e.part k.number e k.tree (reader_at program has trees schedule array shaped c k) k.counts k.tree_there (instance_of e t.bs) refl f.reader_runs) t.q_long f.path in
          let all : InBox (path ++ w.ranges) (((p ++ t.bs) ++ t.qs) ++ t.cs) = box_append path w.ranges ((p ++ t.bs) ++ t.qs) t.cs two (rw.hold p (instance_of w t.cs) refl f.context f.writer_runs) in
          let whole : point ≡ ((p ++ t.bs) ++ t.qs) ++ t.cs = t.is ∙ sym (append_assoc p t.bs (t.qs ++ t.cs)) ∙ sym (append_assoc (p ++ t.bs) t.qs t.cs) in
          subst (λ rs. InBox rs point) (sym are) (subst (InBox (path ++ w.ranges)) (sym whole) all);
    }
