-- Conditions that are joined, one after another.
use Rattle.std.proofs.Common.{◌≡◌, ℕ, ◌+◌, ◌<◌, ◌≤◌, List, [], ◌∷◌, ◌++◌, length, get_or, take, map, Ok, refl, sym, ap, ◌∙◌, subst}
use Rattle.affc_ast.specs.declared.tree.Cond.{Cond}
use Rattle.affc_ast.specs.declared.tree.Cond.TheVariants as c
use Rattle.affc_grammar.specs.Draft as d
use Rattle.affc_grammar.specs.Names as names
use Rattle.affc_grammar.specs.Names.{Checked, Scope, ◌>>=◌}
use Rattle.affc_syntax.specs.declared.draft.draft.CondDraft as code
use Rattle.affc_syntax.specs.declared.draft.draft.CondDraft.TheVariants as k
use Rattle.affc_syntax.proofs.draft.Outs.{cond-All, cond-Any}
use Rattle.affc_syntax.specs.draft.Drafts.{conds_of, conds_after, cond}
use Rattle.affc_names.specs.declared.fault.NameFault.{NameFault}
use Rattle.affc_names.specs.declared.fault.NameFault.TheVariants.{Memory, Refused}
use Rattle.affc_names.specs.Gives.{Fails}
use Rattle.affc_names.specs.Stored as stored
use Rattle.affc_names.proofs.Grown.{no_larger, turn, stops}

-- how many conditions there are
abbrev mutual
  pub conds_weight : d.CondsDraft → ℕ
  conds_weight d.no_conds = 0
  conds_weight (d.and_cond cs c) = conds_weight cs + cond_weight c

  pub cond_weight : d.CondDraft → ℕ
  cond_weight (d.comparison c) = 1
  cond_weight (d.divisible a by_at by so) = 1
  cond_weight (d.all_of cs) = 1 + conds_weight cs
  cond_weight (d.any_of cs) = 1 + conds_weight cs

pub cond_lighter : (cs : List code.CondDraft) (i : ℕ) (c : code.CondDraft) → i < length cs → c ≡ get_or cs i c → cond_weight (cond c) ≤ conds_weight (conds_of (map cond cs))
cond_lighter = no_larger cond d.no_conds d.and_cond conds_after (λ cs. refl) (λ cs x xs. refl) conds_weight cond_weight (λ cs x. refl)

abbrev trees_of : Scope → d.CondsDraft → Checked (List Cond)
trees_of scope cs = names.conds_tree scope (stored.conds cs)

abbrev tree_of : Scope → d.CondDraft → Checked Cond
tree_of scope c = names.cond_tree scope (stored.cond c)

pub conds_turn : (scope : Scope) (cs : List code.CondDraft) (i : ℕ) (c : code.CondDraft) (done : List Cond) (t : Cond) → i < length cs → c ≡ get_or cs i c
    → names.conds_tree scope (stored.conds (conds_of (map cond (take i cs)))) ≡ Ok done → names.cond_tree scope (stored.cond (cond c)) ≡ Ok t
    → names.conds_tree scope (stored.conds (conds_of (map cond (take (i + 1) cs)))) ≡ Ok (done ++ t ∷ [])
conds_turn scope = turn cond d.no_conds d.and_cond conds_after (λ cs. refl) (λ cs x xs. refl) (trees_of scope) (tree_of scope) (λ cs x. refl)

pub conds_stops : (scope : Scope) (cs : List code.CondDraft) (i : ℕ) (c : code.CondDraft) (done : List Cond) (fault : NameFault) → i < length cs → c ≡ get_or cs i c
    → names.conds_tree scope (stored.conds (conds_of (map cond (take i cs)))) ≡ Ok done → Fails fault (names.cond_tree scope (stored.cond (cond c)))
    → Fails fault (names.conds_tree scope (stored.conds (conds_of (map cond cs))))
conds_stops scope = stops cond d.no_conds d.and_cond conds_after (λ cs. refl) (λ cs x xs. refl) (trees_of scope) (tree_of scope) (λ cs x. refl)

abbrev pub answered_conds : List Cond → Checked (List Cond)
answered_conds l = Ok l

-- ---- A condition by what it joins

fails_joined : (f : List Cond → Cond) (m : Checked (List Cond)) (fault : NameFault) → Fails fault m → Fails fault (m >>= (λ ts. Ok (f ts)))
fails_joined f m Memory h = tt
fails_joined f m (Refused at why) h = ap (λ n. n >>= (λ ts. Ok (f ts))) h

module _ (scope : Scope) (x : code.CondDraft) (cs slice : List code.CondDraft) (same : slice ≡ cs) where
  all_is : x ≡ k.All cs → tree_of scope (cond x) ≡ trees_of scope (conds_of (map cond slice)) >>= (λ ts. Ok (c.All ts))
  all_is is = ap (λ y. tree_of scope (cond y)) is ∙ ap (tree_of scope) (cond-All cs) ∙ ap (λ l. trees_of scope (conds_of (map cond l)) >>= (λ ts. Ok (c.All ts))) (sym same)

  any_is : x ≡ k.Any cs → tree_of scope (cond x) ≡ trees_of scope (conds_of (map cond slice)) >>= (λ ts. Ok (c.Any ts))
  any_is is = ap (λ y. tree_of scope (cond y)) is ∙ ap (tree_of scope) (cond-Any cs) ∙ ap (λ l. trees_of scope (conds_of (map cond l)) >>= (λ ts. Ok (c.Any ts))) (sym same)

  pub all_made : x ≡ k.All cs → (ts : List Cond) → names.conds_tree scope (stored.conds (conds_of (map cond slice))) ≡ Ok ts → names.cond_tree scope (stored.cond (cond x)) ≡ Ok (c.All ts)
  all_made is ts e = all_is is ∙ ap (λ m. m >>= (λ us. Ok (c.All us))) e

  pub any_made : x ≡ k.Any cs → (ts : List Cond) → names.conds_tree scope (stored.conds (conds_of (map cond slice))) ≡ Ok ts → names.cond_tree scope (stored.cond (cond x)) ≡ Ok (c.Any ts)
  any_made is ts e = any_is is ∙ ap (λ m. m >>= (λ us. Ok (c.Any us))) e

  pub all_fails : x ≡ k.All cs → (fault : NameFault) → Fails fault (names.conds_tree scope (stored.conds (conds_of (map cond slice)))) → Fails fault (names.cond_tree scope (stored.cond (cond x)))
  all_fails is fault h = subst (Fails fault) (sym (all_is is)) (fails_joined c.All (trees_of scope (conds_of (map cond slice))) fault h)

  pub any_fails : x ≡ k.Any cs → (fault : NameFault) → Fails fault (names.conds_tree scope (stored.conds (conds_of (map cond slice)))) → Fails fault (names.cond_tree scope (stored.cond (cond x)))
  any_fails is fault h = subst (Fails fault) (sym (any_is is)) (fails_joined c.Any (trees_of scope (conds_of (map cond slice))) fault h)
