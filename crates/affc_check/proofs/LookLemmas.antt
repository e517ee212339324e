-- Items that are looked at behind others.
use Rattle.std.proofs.Common.{◌≡◌, ℕ, ◌+◌, ◌<◌, List, [], ◌∷◌, ◌++◌, length, flat_map, sym, ap, subst, arith, ◌∙◌}
use Rattle.std.proofs.lemmas.List.{length-append}
use Rattle.std.proofs.lemmas.List.Concat.{flat_map-append}
use Rattle.affc_farkas.specs.declared.proof.Proof.{Proof}
use Rattle.affc_trace.proofs.EndedReads.{append_assoc}
use Rattle.affc_trace.proofs.LastStores.{append_nil}
use Rattle.affc_trace.proofs.Runs.{slice_left}
use Rattle.affc_check.specs.Answers.{FailsAtQuestion, FailsAtPoint}
use Rattle.affc_check.specs.Looked.{Stands, Looks, AreLooked, PartsLooked}
use Rattle.affc_check.specs.Steps.{Leaves}
use Rattle.affc_check.specs.list.Held.{listed_said}
use Rattle.affc_check.specs.list.Items.{Item, Question, Shown}
use Rattle.affc_check.specs.list.Limits.{AnyPasses}
use Rattle.affc_check.specs.declared.checks.Looked.{Looked}
use Rattle.affc_check.specs.declared.checks.Looked.TheVariants.{Unproved, Unmet}
use Rattle.affc_check.proofs.CheckLemmas.{fails_behind, fails_inside, get_behind}
use Rattle.affc_check.specs.declared.list.item.Listed.{Listed}
use Rattle.affc_check.proofs.list.ListingLemmas.{none_below}
use Rattle.affc_check.proofs.list.PartLemmas.{none_of_nil, none_cons, neither_passes}

-- ---- One after the other

pub leaves_behind : (is js : List Item) (proofs rest more : List Proof) → Leaves is proofs rest → Leaves js rest more → Leaves (is ++ js) proofs more
leaves_behind [] js proofs rest more h g = subst (λ ps. Leaves js ps more) h g
leaves_behind (Question system ∷ is) js [] rest more h g = absurd h
leaves_behind (Question system ∷ is) js (p ∷ ps) rest more h g = (h.0, leaves_behind is js ps rest more h.1 g)
leaves_behind (Shown system point ∷ is) js proofs rest more h g = (h.0, leaves_behind is js proofs rest more h.1 g)

pub so_many : (is js : List Item) (number count next : ℕ) → number ≡ length is → count ≡ length js → next ≡ number + count → next ≡ length (is ++ js)
so_many is js number count next a b c = let l = length-append is js in omega (arith, a, b, c, l)

pub question_behind : (is js : List Item) (proofs rest : List Proof) (number at failed : ℕ) → Leaves is proofs rest → number ≡ length is → failed ≡ number + at → FailsAtQuestion js rest at
    → FailsAtQuestion (is ++ js) proofs failed
question_behind is js proofs rest number at failed h a b f =
    let e : failed ≡ length is + at = omega (arith, a, b) in
    record { first = fails_behind is js proofs rest at failed e h f.first; system = f.system; question = get_behind is js at failed (Question f.system) e f.question }

pub point_behind : (is js : List Item) (proofs rest : List Proof) (number at failed : ℕ) → Leaves is proofs rest → number ≡ length is → failed ≡ number + at → FailsAtPoint js rest at
    → FailsAtPoint (is ++ js) proofs failed
point_behind is js proofs rest number at failed h a b f =
    let e : failed ≡ length is + at = omega (arith, a, b) in
    record { first = fails_behind is js proofs rest at failed e h f.first; system = f.system; point = f.point; shown = get_behind is js at failed (Shown f.system f.point) e f.shown }

-- where one failed, it is the first of more
pub unproved_stays : (number : ℕ) (items : List Item) → Looks (Unproved number) (Unproved number) items
unproved_stays number items before proofs f =
    record { first = fails_inside before items proofs number f.first; system = f.system; question = slice_left before items number (Question f.system) f.question }

pub unmet_stays : (number : ℕ) (items : List Item) → Looks (Unmet number) (Unmet number) items
unmet_stays number items before proofs f =
    record { first = fails_inside before items proofs number f.first; system = f.system; point = f.point; shown = slice_left before items number (Shown f.system f.point) f.shown }

pub unproved_at : (l : Looked) (number : ℕ) (items : List Item) → l ≡ Unproved number → Looks l l items
unproved_at l number items e = subst (λ k. Looks k k items) (sym e) (unproved_stays number items)

pub unmet_at : (l : Looked) (number : ℕ) (items : List Item) → l ≡ Unmet number → Looks l l items
unmet_at l number items e = subst (λ k. Looks k k items) (sym e) (unmet_stays number items)

-- ---- Lists of items

pub looks_none : (l : Looked) → Looks l l []
looks_none l before proofs h = subst (λ is. Stands l is proofs) (sym (append_nil before)) h

pub looks_twice : (a b c : Looked) (xs ys : List Item) → Looks a b xs → Looks b c ys → Looks a c (xs ++ ys)
looks_twice a b c xs ys h g before proofs s = subst (λ is. Stands c is proofs) (append_assoc before xs ys) (g (before ++ xs) proofs (h before proofs s))

pub looks_same : (a b : Looked) (xs ys : List Item) → xs ≡ ys → Looks a b xs → Looks a b ys
looks_same a b xs ys e h = subst (Looks a b) e h

pub looks_of_none : (l : Looked) (xs : List Listed) → length xs < 1 → Looks l l (flat_map listed_said xs)
looks_of_none l xs h = looks_same l l [] (flat_map listed_said xs) (ap (flat_map listed_said) (sym (none_below xs h))) (looks_none l)

pub looks_halves : (a b c : Looked) (xs ys zs : List Listed) → zs ≡ xs ++ ys → Looks a b (flat_map listed_said xs) → Looks b c (flat_map listed_said ys) → Looks a c (flat_map listed_said zs)
looks_halves a b c xs ys zs e h g =
    looks_same a c (flat_map listed_said xs ++ flat_map listed_said ys) (flat_map listed_said zs) (sym (ap (flat_map listed_said) e ∙ flat_map-append listed_said xs ys))
    (looks_twice a b c (flat_map listed_said xs) (flat_map listed_said ys) h g)

-- ---- Items within the limits

no_item_passes : AnyPasses [] → ⊥
no_item_passes a = absurd a.there

pub none_looked : (l : Looked) → AreLooked l l []
none_looked l = record { looks = looks_none l; within = no_item_passes }

pub looked_twice : (a b c : Looked) (xs ys : List Item) → AreLooked a b xs → AreLooked b c ys → AreLooked a c (xs ++ ys)
looked_twice a b c xs ys h g = record { looks = looks_twice a b c xs ys h.looks g.looks; within = neither_passes xs ys h.within g.within }

pub no_parts_looked : (l : Looked) → PartsLooked l l []
no_parts_looked l = record { looks = looks_none l; within = none_of_nil AnyPasses }

pub part_looked : (a b c : Looked) (xs : List Item) (parts : List (List Item)) → AreLooked a b xs → PartsLooked b c parts → PartsLooked a c (xs ∷ parts)
part_looked a b c xs parts h g = record { looks = looks_twice a b c xs (flat_map (λ items. items) parts) h.looks g.looks; within = none_cons AnyPasses xs parts h.within g.within }
