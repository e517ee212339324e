-- What the text of trees asks of them, and of their nest.
use Rattle.std.proofs.Common.{◌≡◌, ℕ, suc, ◌+◌, ◌-◌, ◌^◌, ◌<◌, ◌≤◌, Bool, true, false, List, [], ◌∷◌, length, Some, refl, sym, ap, subst, ◌∙◌, arith}
use Rattle.std.specs.Prelude.{slice_get, nat_lt}
use Rattle.std.specs.List.{All}
use Rattle.std.proofs.lemmas.Bool.{ltb-true, ltb-false}
use Rattle.std.proofs.lemmas.Option.{same_Some, slice_get_within}
use Rattle.affc_ast.specs.declared.tree.Program.{Program}
use Rattle.affc_ast.specs.Trace.{assignments}
use Rattle.affc_trace.specs.Law.{IsIn}
use Rattle.affc_domain.proofs.Lists.{length_map, place_of, there_is, to_mapped}
use Rattle.affc_nest.specs.declared.nest.Entry.{Entry}
use Rattle.affc_nest.specs.declared.nest.Nest.{Nest}
use Rattle.affc_nest.specs.Laws.{HasNest}
use Rattle.affc_nest.specs.Nests.{nest_of}
use Rattle.affc_nest.proofs.EntryLemmas.{entries_stand}
use Rattle.affc_sched.proofs.Lists.{all_from}
use Rattle.affc_quast.specs.declared.quast.Flow.{Flow}
use Rattle.affc_quast.specs.declared.quast.Quast.{Quast}
use Rattle.affc_quast.specs.Limits.{narrow, AreTreesWithin}
use Rattle.affc_quast.specs.Seen.{seen, trees_of}
use Rattle.affc_quast.specs.Sources.{loads_in, loads_before}
use Rattle.affc_quast.specs.Trees.{depth_of}
use Rattle.affc_latest.specs.Stores.{IsNamedNest}
use Rattle.affc_dataflow.proofs.FindLemmas.{few_accesses}

-- the load whose tree has this number
record LoadOf (es : List Entry) (k : ℕ) : Type 0 where
  statement : ℕ
  entry : Entry
  there : slice_get es statement ≡ Some entry
  load : ℕ
  below : load < loads_in entry
  is : loads_before es statement + load ≡ k

load_of : (es : List Entry) (k : ℕ) → k < loads_before es (length es) → LoadOf es k
load_of [] k h = absurd (omega (arith, h))
load_of (e ∷ es) k h = by (nat_lt k (loads_in e)) refl (λ l. load_of es (k - loads_in e) l)
  where
    by : (t : Bool) → nat_lt k (loads_in e) ≡ t → (k - loads_in e < loads_before es (length es) → LoadOf es (k - loads_in e)) → LoadOf (e ∷ es) k
    by true q later = record { statement = 0; entry = e; there = refl; load = k; below = ltb-true k (loads_in e) q; is = omega arith }
    by false q later =
        let m : loads_in e ≤ k = ltb-false k (loads_in e) q in
        let r = later (omega (arith, h, m)) in
        let i = r.is in
        record { statement = suc r.statement; entry = r.entry; there = r.there; load = r.load; below = r.below; is = omega (arith, i, m) }

module _ (nest : Nest) (flow : Flow) (limits : AreTreesWithin narrow 302 12 nest (trees_of flow)) where
  abbrev Short : Quast → Type 0
  Short tree = depth_of (seen tree) ≤ 400

  one_short : (tree : Quast) → IsIn tree flow.trees → Short tree
  one_short tree i =
      let k = place_of flow.trees tree i in
      let inside : k.0 < loads_before nest.entries (length nest.entries) =
      (let a = slice_get_within flow.trees k.0 tree k.1 in let b = length_map seen flow.trees in let c = limits.no_more in omega (arith, a, b, c)) in
      let r = load_of nest.entries k.0 inside in
      let x = there_is r.entry.accesses r.load (fewer (length r.entry.accesses) r.load r.below) in
      let t = limits.each r.statement r.load r.entry x.0 r.there r.below x.1 in
      let at : slice_get (trees_of flow) k.0 ≡ Some t.0 = subst (λ n. slice_get (trees_of flow) n ≡ Some t.0) r.is t.1 in
      let same : t.0 ≡ seen tree = same_Some t.0 (seen tree) (sym at ∙ to_mapped seen flow.trees k.0 tree k.1) in
      let s : depth_of (seen tree) ≤ 302 = subst (λ z. depth_of z ≤ 302) same t.2.short in
      omega (arith, s)
    where
      fewer : (n m : ℕ) → m < n - 1 → m < n
      fewer n m h = omega (arith, h)

  pub all_short : All (λ (tree : Quast). depth_of (seen tree) ≤ 400) flow.trees
  all_short = all_from Short flow.trees one_short

pub all_few : (nest : Nest) → IsNamedNest nest → All (λ (e : Entry). length e.accesses < 2 ^ 31) nest.entries
all_few nest named = all_from (λ (e : Entry). length e.accesses < 2 ^ 31) nest.entries (λ e i. let f = few_accesses nest named e i in omega (arith, f))

pub entries_few : (program : Program) (nest : Nest) → HasNest program → nest ≡ nest_of program → length nest.entries < 2 ^ 32
entries_few program nest has is =
    let count : length nest.entries ≡ length (assignments program) = ap (λ (n : Nest). length n.entries) is ∙ (entries_stand program has).0 in
    let few = has.plain.few_assignments in
    omega (arith, count, few)
