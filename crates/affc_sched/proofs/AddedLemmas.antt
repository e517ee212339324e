-- Questions put behind one another.
use Rattle.std.proofs.Common.{◌≡◌, ℕ, ◌+◌, ◌<◌, List, [], ◌++◌, length, map, flat_map, take, get_or, sym, ap, subst, ◌∙◌}
use Rattle.std.specs.List.{All}
use Rattle.std.proofs.lemmas.List.{map-append}
use Rattle.std.proofs.lemmas.List.Elements.{All-append}
use Rattle.affc_trace.proofs.EndedReads.{append_assoc}
use Rattle.affc_system.specs.Systems.{Rows}
use Rattle.affc_sched.specs.Questions.{Question}
use Rattle.affc_products.proofs.ProvedLemmas.{flat_more}
use Rattle.affc_products.specs.Parts.{IsWithin}
use Rattle.affc_products.specs.Groups.{group_systems}
use Rattle.affc_products.specs.declared.group.Group.{Group}
use Rattle.affc_sched.specs.Pairs.{AreAdded}

abbrev systems_of : List Question → List Rows
systems_of qs = map (λ q. q.system) qs

-- some and then others
pub added_twice : (a b c : List Group) (qs rs : List Question) → AreAdded a b qs → AreAdded b c rs → AreAdded a c (qs ++ rs)
added_twice a b c qs rs h g = record {
  put =
      g.put ∙ ap (λ ss. ss ++ systems_of rs) h.put ∙ append_assoc (flat_map group_systems a) (systems_of qs) (systems_of rs)
      ∙ ap (λ ss. flat_map group_systems a ++ ss) (sym (map-append (λ (q : Question). q.system) qs rs));
  within = subst (All IsWithin) (sym (map-append (λ (q : Question). q.system) qs rs)) (All-append IsWithin (systems_of qs) (systems_of rs) h.within g.within);
}

-- those of one more of a list
pub more_added : {A : Type 0} (F : A → List Question) (xs : List A) (i : ℕ) (x : A) (b c : List Group) → i < length xs → x ≡ get_or xs i x
    → AreAdded [] b (flat_map F (take i xs)) → AreAdded b c (F x) → AreAdded [] c (flat_map F (take (i + 1) xs))
more_added F xs i x b c l e h g =
    subst (AreAdded [] c) (sym (flat_more F xs i x l ∙ ap (λ z. flat_map F (take i xs) ++ F z) (sym e))) (added_twice [] b c (flat_map F (take i xs)) (F x) h g)
