-- Lists that are taken in two parts.
use Rattle.std.proofs.Common.{◌≡◌, List, [], ◌∷◌, ◌++◌, map, sym, ap, subst, ◌∙◌, inl, inr}
use Rattle.affc_trace.proofs.EndedReads.{append_assoc}
use Rattle.affc_trace.proofs.LastStores.{map_append}
use Rattle.affc_trace.proofs.Once.{in_append}
use Rattle.affc_nest.specs.declared.nest.Entry.{Entry}
use Rattle.affc_nest.specs.declared.nest.Nest.{Nest}
use Rattle.affc_quast.specs.Trees.{Tree}
use Rattle.affc_dataflow.specs.Finds.{AreTreesFrom, AddsTreesFrom}
use Rattle.affc_flow.specs.Laws.{NoneHasAPoint}
use Rattle.affc_flow.specs.Questions.{Question}
use Rattle.affc_dataflow.specs.Guesses.{asked}
use Rattle.affc_dataflow.specs.declared.asked.Question as held

-- ---- Questions

none_in_parts : (xs ys : List Question) → NoneHasAPoint xs → NoneHasAPoint ys → NoneHasAPoint (xs ++ ys)
none_in_parts xs ys f g q i = elim (in_append xs ys q i) [
  | inl j ↦ f q j
  | inr j ↦ g q j
]

pub both_parts : (questions first others : List held.Question) → questions ≡ first ++ others → NoneHasAPoint (map asked first) → NoneHasAPoint (map asked others) → NoneHasAPoint (map asked questions)
both_parts questions first others is f g =
    subst NoneHasAPoint (sym (ap (map asked) is ∙ map_append asked first others)) (none_in_parts (map asked first) (map asked others) f g)

-- ---- Trees

trees_in_parts : (nest : Nest) (es fs : List Entry) (ts us : List Tree) → AreTreesFrom nest es ts → AreTreesFrom nest fs us → AreTreesFrom nest (es ++ fs) (ts ++ us)
trees_in_parts nest [] fs ts us h g = subst (λ vs. AreTreesFrom nest fs (vs ++ us)) (sym h) g
trees_in_parts nest (e ∷ es) fs ts us h g = (h.0, h.1 ++ us, ap (λ vs. vs ++ us) h.2 ∙ append_assoc h.0 h.1 us, h.3, trees_in_parts nest es fs h.1 us h.4 g)

pub trees_added : (nest : Nest) (entries first others : List Entry) (old mid new : List Tree) → entries ≡ first ++ others → AddsTreesFrom nest first old mid → AddsTreesFrom nest others mid new → AddsTreesFrom nest entries old new
trees_added nest entries first others old mid new is f g = (
  f.0 ++ g.0,
  g.1 ∙ ap (λ ts. ts ++ g.0) f.1 ∙ append_assoc old f.0 g.0,
  subst (λ es. AreTreesFrom nest es (f.0 ++ g.0)) (sym is) (trees_in_parts nest first others f.0 g.0 f.2 g.2),
)
