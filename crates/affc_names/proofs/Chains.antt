-- Chains of operators, step by step.
use Rattle.std.proofs.Common.{◌≡◌, ℕ, suc, ◌+◌, ◌<◌, ◌≤◌, List, [], ◌∷◌, ◌++◌, length, get_or, take, drop, reverse, fold, Ok, Err, refl, sym, ap, ◌∙◌, arith, drop-cons, add-one}
use Rattle.std.proofs.lemmas.List.{drop_all, reverse-append}
use Rattle.std.proofs.lemmas.List.Sums.{fold-append}
use Rattle.affc_ast.specs.declared.tree.Ix.{Ix}
use Rattle.affc_ast.specs.declared.tree.Val.{Val}
use Rattle.affc_grammar.specs.Draft as d
use Rattle.affc_grammar.specs.Names.{Checked, Refusal, Scope, ◌>>=◌, ix_tree, value_tree}
use Rattle.affc_syntax.specs.draft.Drafts.{ix, value}
use Rattle.affc_syntax.proofs.draft.Nodes.{nodes, value_nodes}
use Rattle.affc_names.specs.declared.chain.Join.{Join}
use Rattle.affc_names.specs.declared.chain.Join.TheVariants.{Plus, Minus, Times}
use Rattle.affc_names.specs.declared.chain.IxStep.{IxStep}
use Rattle.affc_names.specs.declared.chain.ValueStep.{ValueStep}
use Rattle.affc_names.specs.declared.chain.ValueStep.TheVariants as v
use Rattle.affc_names.specs.declared.fault.NameFault.{NameFault}
use Rattle.affc_names.specs.declared.fault.NameFault.TheVariants.{Memory, Refused}
use Rattle.affc_names.specs.Chains.{joined, with_step, joined_trees, step_tree, with_value_step, value_step_tree}
use Rattle.affc_names.specs.Gives.{Fails}
use Rattle.affc_names.specs.Stored as stored
use Rattle.affc_names.proofs.Each.{whole}

-- ---- Any steps

-- one step more is known, before those that were known
pub one_more : {A S : Type 0} (f : A → S → A) (a b : A) (s : S) (ss : List S) → a ≡ f b s → fold f a (reverse ss) ≡ fold f b (reverse (ss ++ s ∷ []))
one_more f a b s ss is = ap (λ x. fold f x (reverse ss)) is ∙ ap (fold f b) (sym (reverse-append ss (s ∷ [])))

-- what is answered behind steps, where g answers behind one
abbrev pub followed : {S X : Type 0} → (X → S → Checked X) → Checked X → List S → Checked X
followed g m ss = fold (λ n s. n >>= (λ x. g x s)) m ss

refused_on : {S X : Type 0} (g : X → S → Checked X) (r : Refusal) (ss : List S) → followed g (Err r) ss ≡ Err r
refused_on g r [] = refl
refused_on g r (s ∷ ss) = refused_on g r ss

next_is : {S X : Type 0} (g : X → S → Checked X) (x : X) (ss : List S) (i : ℕ) (s : S) → i < length ss → s ≡ get_or ss i s
    → followed g (Ok x) (drop i ss) ≡ followed g (g x s) (drop (suc i) ss)
next_is g x ss i s lt is = ap (followed g (Ok x)) (drop-cons ss i s lt ∙ ap (λ z. z ∷ drop (suc i) ss) (sym is))

pub goes : {S X : Type 0} (g : X → S → Checked X) (e : Checked X) (ss : List S) (i : ℕ) (s : S) (x y : X) → i < length ss → s ≡ get_or ss i s
    → e ≡ followed g (Ok x) (drop i ss) → g x s ≡ Ok y → e ≡ followed g (Ok y) (drop (i + 1) ss)
goes g e ss i s x y lt is before here =
    before
    ∙ next_is g x ss i s lt is
    ∙ ap (λ m. followed g m (drop (suc i) ss)) here
    ∙ ap (λ n. followed g (Ok y) (drop n ss)) (sym (add-one i))

pub stops : {S X : Type 0} (g : X → S → Checked X) (e : Checked X) (ss : List S) (i : ℕ) (s : S) (x : X) (fault : NameFault) → i < length ss → s ≡ get_or ss i s
    → e ≡ followed g (Ok x) (drop i ss) → Fails fault (g x s) → Fails fault e
stops g e ss i s x Memory lt is before here = tt
stops g e ss i s x (Refused at why) lt is before here =
    before
    ∙ next_is g x ss i s lt is
    ∙ ap (λ m. followed g m (drop (suc i) ss)) here
    ∙ refused_on g (record { at = at; why = why }) (drop (suc i) ss)

pub ends : {S X : Type 0} (g : X → S → Checked X) (e : Checked X) (ss : List S) (i : ℕ) (x : X) → length ss ≤ i → e ≡ followed g (Ok x) (drop i ss) → e ≡ Ok x
ends g e ss i x le before = before ∙ ap (followed g (Ok x)) (drop_all i ss le)

-- the tree of a chain, where f takes a step and g gives the tree behind it
module _ {A S X : Type 0} (f : A → S → A) (tree : A → Checked X) (g : X → S → Checked X) (law : (a : A) (s : S) → tree (f a s) ≡ tree a >>= (λ x. g x s)) where
  is_followed : (a : A) (ss : List S) → tree (fold f a ss) ≡ followed g (tree a) ss
  is_followed a [] = refl
  is_followed a (s ∷ ss) = is_followed (f a s) ss ∙ ap (λ m. followed g m ss) (law a s)

  starts : (whole a : A) (ss : List S) (x : X) → whole ≡ fold f a ss → tree a ≡ Ok x → tree whole ≡ followed g (Ok x) ss
  starts whole a ss x is e = ap tree is ∙ is_followed a ss ∙ ap (λ m. followed g m ss) e

  first_fails : (whole a : A) (ss : List S) (fault : NameFault) → whole ≡ fold f a ss → Fails fault (tree a) → Fails fault (tree whole)
  first_fails whole a ss Memory is e = tt
  first_fails whole a ss (Refused at why) is e =
      ap tree is ∙ is_followed a ss ∙ ap (λ m. followed g m ss) e ∙ refused_on g (record { at = at; why = why }) ss

-- sizes, where a step adds more than its own
module _ {A S : Type 0} (f : A → S → A) (size : A → ℕ) (own : S → ℕ) (larger : (a : A) (s : S) → size a + own s < size (f a s)) where
  first_smaller : (a : A) (ss : List S) → size a ≤ size (fold f a ss)
  first_smaller a [] = omega arith
  first_smaller a (s ∷ ss) = let h = first_smaller (f a s) ss in let l = larger a s in omega (arith, h, l)

  step_smaller : (whole a : A) (ss : List S) (i : ℕ) (s : S) → whole ≡ fold f a ss → i < length ss → s ≡ get_or ss i s → own s < size whole
  step_smaller w a ss i s w_is lt is =
      let before = fold f a (take i ss) in
      let e : w ≡ fold f (f before s) (drop (suc i) ss) = w_is ∙ ap (fold f a) (whole ss i s lt is) ∙ fold-append f a (take i ss) (s ∷ drop (suc i) ss) in
      let h = first_smaller (f before s) (drop (suc i) ss) in
      let l = larger before s in
      let m : size w ≡ size (fold f (f before s) (drop (suc i) ss)) = ap size e in
      omega (arith, h, l, m)

-- ---- Expressions

pub larger : (a : d.IxDraft) (s : IxStep) → nodes a + nodes (ix s.right.now) < nodes (with_step a s)
larger a s = by s.join (ix s.right.now)
  where
    by : (j : Join) (b : d.IxDraft) → nodes a + nodes b < nodes (joined j a b)
    by Plus b = omega arith
    by Minus b = omega arith
    by (Times at) b = omega arith

tree_behind : (scope : Scope) (a : d.IxDraft) (s : IxStep) → ix_tree scope (stored.ix (with_step a s)) ≡ ix_tree scope (stored.ix a) >>= (λ x. step_tree scope x s)
tree_behind scope a s = by s.join (ix s.right.now)
  where
    by : (j : Join) (b : d.IxDraft)
        → ix_tree scope (stored.ix (joined j a b)) ≡ ix_tree scope (stored.ix a) >>= (λ x. ix_tree scope (stored.ix b) >>= (λ y. Ok (joined_trees j x y)))
    by Plus b = refl
    by Minus b = refl
    by (Times at) b = refl

abbrev tree_of : Scope → d.IxDraft → Checked Ix
tree_of scope a = ix_tree scope (stored.ix a)

pub ix_starts : (scope : Scope) (whole a : d.IxDraft) (ss : List IxStep) (x : Ix) → whole ≡ fold with_step a ss → ix_tree scope (stored.ix a) ≡ Ok x
    → ix_tree scope (stored.ix whole) ≡ followed (step_tree scope) (Ok x) ss
ix_starts scope = starts with_step (tree_of scope) (step_tree scope) (tree_behind scope)

pub ix_first_fails : (scope : Scope) (whole a : d.IxDraft) (ss : List IxStep) (fault : NameFault) → whole ≡ fold with_step a ss → Fails fault (ix_tree scope (stored.ix a))
    → Fails fault (ix_tree scope (stored.ix whole))
ix_first_fails scope = first_fails with_step (tree_of scope) (step_tree scope) (tree_behind scope)

pub ix_first_smaller : (whole a : d.IxDraft) (ss : List IxStep) → whole ≡ fold with_step a ss → nodes a ≤ nodes whole
ix_first_smaller whole a ss is =
    let h = first_smaller with_step nodes (λ s. nodes (ix s.right.now)) larger a ss in
    let e : nodes whole ≡ nodes (fold with_step a ss) = ap nodes is in
    omega (arith, h, e)

pub ix_step_smaller : (whole a : d.IxDraft) (ss : List IxStep) (i : ℕ) (s : IxStep) → whole ≡ fold with_step a ss → i < length ss → s ≡ get_or ss i s
    → nodes (ix s.right.now) < nodes whole
ix_step_smaller = step_smaller with_step nodes (λ s. nodes (ix s.right.now)) larger

-- ---- Values

-- how many nodes a step has
abbrev pub step_nodes : ValueStep → ℕ
step_nodes v.Complement = 0
step_nodes (v.Shift left by) = 0
step_nodes (v.Binary op b) = value_nodes (value b.now)

pub value_larger : (a : d.ValueDraft) (s : ValueStep) → value_nodes a + step_nodes s < value_nodes (with_value_step a s)
value_larger a v.Complement = omega arith
value_larger a (v.Shift left by) = omega arith
value_larger a (v.Binary op b) = omega arith

value_tree_behind : (scope : Scope) (a : d.ValueDraft) (s : ValueStep) → value_tree scope (stored.value (with_value_step a s)) ≡ value_tree scope (stored.value a) >>= (λ x. value_step_tree scope x s)
value_tree_behind scope a v.Complement = refl
value_tree_behind scope a (v.Shift left by) = refl
value_tree_behind scope a (v.Binary op b) = refl

abbrev value_tree_of : Scope → d.ValueDraft → Checked Val
value_tree_of scope a = value_tree scope (stored.value a)

pub value_starts : (scope : Scope) (whole a : d.ValueDraft) (ss : List ValueStep) (x : Val) → whole ≡ fold with_value_step a ss → value_tree scope (stored.value a) ≡ Ok x
    → value_tree scope (stored.value whole) ≡ followed (value_step_tree scope) (Ok x) ss
value_starts scope = starts with_value_step (value_tree_of scope) (value_step_tree scope) (value_tree_behind scope)

pub value_first_fails : (scope : Scope) (whole a : d.ValueDraft) (ss : List ValueStep) (fault : NameFault) → whole ≡ fold with_value_step a ss
    → Fails fault (value_tree scope (stored.value a)) → Fails fault (value_tree scope (stored.value whole))
value_first_fails scope = first_fails with_value_step (value_tree_of scope) (value_step_tree scope) (value_tree_behind scope)

pub value_step_smaller : (whole a : d.ValueDraft) (ss : List ValueStep) (i : ℕ) (s : ValueStep) → whole ≡ fold with_value_step a ss → i < length ss → s ≡ get_or ss i s
    → step_nodes s < value_nodes whole
value_step_smaller = step_smaller with_value_step value_nodes step_nodes value_larger
