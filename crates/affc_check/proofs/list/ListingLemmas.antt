-- All items of a certificate.
use Rattle.std.proofs.Common.{◌≡◌, ℕ, ◌+◌, ◌<◌, ℤ, List, [], ◌∷◌, ◌++◌, length, map, flat_map, refl, sym, ap, subst, inl, inr, arith, ◌∙◌}
use Rattle.affc_trace.specs.declared.schedule.Schedule.{Schedule}
use Rattle.affc_trace.specs.Law.{IsIn}
use Rattle.affc_trace.proofs.EndedReads.{append_assoc}
use Rattle.affc_trace.proofs.LastStores.{append_nil}
use Rattle.affc_system.specs.declared.pairs.PairSystem.{PairSystem}
use Rattle.affc_domain.proofs.Lists.{length_map}
use Rattle.affc_nest.specs.Questions.{extent_questions, bound_questions}
use Rattle.affc_nest.specs.declared.nest.Nest.{Nest}
use Rattle.affc_sched.specs.Touched.{Each}
use Rattle.affc_sched.specs.Questions.{legality_questions}
use Rattle.affc_quast.specs.Seen.{seen, trees_of}
use Rattle.affc_quast.specs.Trees.{Tree}
use Rattle.affc_life.specs.Clashes.{clash_of, clashes}
use Rattle.affc_life.specs.Sizes.{AnyLarge}
use Rattle.affc_cert.specs.declared.cert.Cert.{Cert}
use Rattle.affc_certvalue.specs.declared.fold.fold.CertFold.{CertFold}
use Rattle.affc_check.specs.list.Certs.{AreFoldsSaid, AreItems, IsCertWithin, IsFoldSaid}
use Rattle.affc_check.specs.list.Held.{context_item, legality_item}
use Rattle.affc_check.specs.list.Items.{Item, Question, FoldShown, fold_items, items}
use Rattle.affc_check.specs.list.Limits.{AnyPasses, IsFirst, HoldsOfNone}
use Rattle.affc_check.specs.list.Listed.{AreListed, PartsListed, IsFirstPart}
use Rattle.affc_check.specs.list.Passes.{FoldPasses, PassesFirst, items_by_tree}
use Rattle.affc_check.specs.list.Walks.{fold_shown, folds_shown, IsFoldAsked, AreSystems, SystemsAdded, FoldsListed, IsListing}
use Rattle.affc_check.proofs.list.FoldLemmas.{fold_is_said}
use Rattle.affc_check.proofs.list.PartLemmas.{none_of_nil, none_cons, part_here, part_later}
use Rattle.affc_check.proofs.list.TreeLemmas.{trees_flat}

-- ---- Folds

pub none_below : {A : Type 0} (xs : List A) → length xs < 1 → xs ≡ []
none_below [] h = refl
none_below (x ∷ xs) h = absurd (omega (arith, h))

no_systems : (nest : Nest) (schedule : Schedule) (trees : List Tree) (ss : List (List PairSystem)) → AreSystems nest schedule trees [] ss → ss ≡ []
no_systems nest schedule trees [] h = refl
no_systems nest schedule trees (s ∷ ss) h = absurd h

pub no_folds : (nest : Nest) (schedule : Schedule) (trees : List Tree) (cs : List CertFold) (ss : List (List PairSystem)) (a : List Item) → cs ≡ [] → AreSystems nest schedule trees cs ss → FoldsListed nest schedule trees cs ss a a
no_folds nest schedule trees cs ss a e h =
    let none : ss ≡ [] = no_systems nest schedule trees ss (subst (λ z. AreSystems nest schedule trees z ss) e h) in
    subst (λ z. FoldsListed nest schedule trees z ss a a) (sym e)
    (subst (λ z. FoldsListed nest schedule trees [] z a a) (sym none) (record { said = tt; put = sym (append_nil a); within = none_of_nil (FoldPasses nest schedule trees) }))

-- ---- Their clash systems

module _ (nest : Nest) (schedule : Schedule) (trees : List Tree) (cs rest : List CertFold) (c : CertFold) (is : cs ≡ c ∷ rest) where
  pub large_ends : (before : List (List PairSystem)) → AnyLarge (clashes nest trees schedule c.array.0) → SystemsAdded nest schedule trees cs before before
  large_ends before h = record { systems = []; put = sym (append_nil before); are = subst (λ z. AreSystems nest schedule trees z []) (sym is) h }

  pub one_added : (own : List PairSystem) (before mid after : List (List PairSystem)) → map clash_of own ≡ clashes nest trees schedule c.array.0 → ¬ (AnyLarge (clashes nest trees schedule c.array.0))
      → mid ≡ before ++ own ∷ [] → SystemsAdded nest schedule trees rest mid after → SystemsAdded nest schedule trees cs before after
  one_added own before mid after e fits m h = record {
    systems = own ∷ h.systems;
    put = h.put ∙ ap (λ z. z ++ h.systems) m ∙ append_assoc before (own ∷ []) h.systems;
    are = subst (λ z. AreSystems nest schedule trees z (own ∷ h.systems)) (sym is) (fold_is_said nest schedule trees c own e, fits, h.are);
  }

pub all_added : (nest : Nest) (schedule : Schedule) (trees : List Tree) (cs folds : List CertFold) (none after : List (List PairSystem)) → folds ≡ cs → none ≡ [] → SystemsAdded nest schedule trees folds none after
    → AreSystems nest schedule trees cs after
all_added nest schedule trees cs folds none after e n h =
    subst (λ z. AreSystems nest schedule trees z after) e (subst (AreSystems nest schedule trees folds) (sym (h.put ∙ ap (λ z. z ++ h.systems) n)) h.are)

-- ---- The items of folds

module _ (nest : Nest) (schedule : Schedule) (trees : List Tree) (cs rest : List CertFold) (c : CertFold) (is : cs ≡ c ∷ rest) where
  -- the clash systems of the first fold, and those of the others
  abbrev First : List PairSystem → Type 0
  First own = IsFoldSaid nest schedule trees c (fold_shown c own) × ¬ (AnyLarge (clashes nest trees schedule c.array.0))

  pub first_systems : (ss others : List (List PairSystem)) (own : List PairSystem) → ss ≡ own ∷ others → AreSystems nest schedule trees cs ss → First own × AreSystems nest schedule trees rest others
  first_systems ss others own e h =
      let all : AreSystems nest schedule trees (c ∷ rest) (own ∷ others) = subst (AreSystems nest schedule trees (c ∷ rest)) e (subst (λ z. AreSystems nest schedule trees z ss) is h) in
      ((all.0, all.1), all.2)

  pub no_first : (ss : List (List PairSystem)) → ss ≡ [] → AreSystems nest schedule trees cs ss → FoldPasses nest schedule trees c
  no_first ss e h = inl (subst (AreSystems nest schedule trees (c ∷ rest)) e (subst (λ z. AreSystems nest schedule trees z ss) is h))

  pub folds_listed : (ss others : List (List PairSystem)) (own : List PairSystem) (a b d : List Item) → ss ≡ own ∷ others → IsFoldSaid nest schedule trees c (fold_shown c own) → AreListed a b (fold_items nest (fold_shown c own))
      → ¬ (FoldPasses nest schedule trees c) → FoldsListed nest schedule trees rest others b d → FoldsListed nest schedule trees cs ss a d
  folds_listed ss others own a b d e said listed clear h =
      let more = flat_map (fold_items nest) (folds_shown rest others) in
      subst (λ cs. FoldsListed nest schedule trees cs ss a d) (sym is)
      (subst (λ z. FoldsListed nest schedule trees (c ∷ rest) z a d) (sym e)
      (record {
        said = (said, h.said);
        put = h.put ∙ ap (λ z. z ++ more) listed.put ∙ append_assoc a (fold_items nest (fold_shown c own)) more;
        within = none_cons (FoldPasses nest schedule trees) c rest clear h.within;
      }))

  pub fold_first : (first part : ℕ) → part ≡ first → FoldPasses nest schedule trees c → IsFirstPart (FoldPasses nest schedule trees) first cs part
  fold_first first part e p = subst (λ cs. IsFirstPart (FoldPasses nest schedule trees) first cs part) (sym is) (part_here (FoldPasses nest schedule trees) first part c rest e p)

  pub fold_later : (first next part : ℕ) → next ≡ first + 1 → ¬ (FoldPasses nest schedule trees c) → IsFirstPart (FoldPasses nest schedule trees) next rest part → IsFirstPart (FoldPasses nest schedule trees) first cs part
  fold_later first next part e clear h =
      subst (λ cs. IsFirstPart (FoldPasses nest schedule trees) first cs part) (sym is) (part_later (FoldPasses nest schedule trees) first next part c rest e clear h)

pub folds_asked : (nest : Nest) (c : Cert) (folds : List CertFold) → IsCertWithin nest c → folds ≡ c.folds → Each (IsFoldAsked nest (trees_of c.flow)) folds
folds_asked nest c folds w e = subst (Each (IsFoldAsked nest (trees_of c.flow))) (sym e) (all c.folds (λ f i. record { limits = w.trees; of_array = w.certificate.folds f i; within = w.folds f i }))
  where
    all : (fs : List CertFold) → ((f : CertFold) → IsIn f fs → IsFoldAsked nest (trees_of c.flow) f) → Each (IsFoldAsked nest (trees_of c.flow)) fs
    all [] h = tt
    all (f ∷ fs) h = (h f (inl refl), all fs (λ g i. h g (inr i)))

-- ---- All items

four : {A : Type 0} (a b c d e : List A) → (((a ++ b) ++ c) ++ d) ++ e ≡ a ++ (b ++ (c ++ (d ++ e)))
four a b c d e = append_assoc ((a ++ b) ++ c) d e ∙ append_assoc (a ++ b) c (d ++ e) ∙ append_assoc a b (c ++ (d ++ e))

module _ (nest : Nest) (schedule : Schedule) (c : Cert) (p : List ℤ) (point : Item) (i0 i1 i2 i3 i4 i5 i6 : List Item) (shown : List FoldShown)
    (context : p ≡ c.context) (of_point : point ≡ context_item nest p) (none : i0 ≡ [])
    (h1 : i1 ≡ i0 ++ point ∷ []) (h2 : i2 ≡ i1 ++ map Question (extent_questions nest)) (h3 : i3 ≡ i2 ++ map Question (bound_questions nest))
    (h4 : i4 ≡ i3 ++ flat_map (λ items. items) (items_by_tree nest (trees_of c.flow))) (h5 : i5 ≡ i4 ++ map legality_item (legality_questions nest schedule))
    (h6 : i6 ≡ i5 ++ flat_map (fold_items nest) shown) where
  chain : i6 ≡ context_item nest c.context
      ∷ (map Question (extent_questions nest) ++ (map Question (bound_questions nest) ++ (flat_map (λ items. items) (items_by_tree nest (trees_of c.flow)) ++ (map legality_item (legality_questions nest schedule)
      ++ flat_map (fold_items nest) shown))))
  chain =
      let a = map Question (extent_questions nest) in
      let b = map Question (bound_questions nest) in
      let t = flat_map (λ items. items) (items_by_tree nest (trees_of c.flow)) in
      let l = map legality_item (legality_questions nest schedule) in
      let f = flat_map (fold_items nest) shown in
      let first : i1 ≡ context_item nest c.context ∷ [] = h1 ∙ ap (λ z. z ++ point ∷ []) none ∙ ap (λ z. z ∷ []) (of_point ∙ ap (context_item nest) context) in
      h6 ∙ ap (λ z. z ++ f) (h5 ∙ ap (λ z. z ++ l) (h4 ∙ ap (λ z. z ++ t) (h3 ∙ ap (λ z. z ++ b) (h2 ∙ ap (λ z. z ++ a) first))))
      ∙ ap (λ z. context_item nest c.context ∷ z) (four a b t l f)

  -- these are all of them
  pub are_all : i6 ≡ items nest schedule c.context (trees_of c.flow) shown
  are_all =
      chain
      ∙ ap (λ t. context_item nest c.context ∷ (map Question (extent_questions nest) ++ (map Question (bound_questions nest) ++ (t ++ (map legality_item (legality_questions nest schedule) ++ flat_map (fold_items nest) shown))))) (trees_flat nest (trees_of c.flow))

module _ (nest : Nest) (schedule : Schedule) (c : Cert) (p : List ℤ) (point : Item) (i0 i1 i2 i3 i4 i5 i6 : List Item) (systems : List (List PairSystem)) (folds : List CertFold)
    (context : p ≡ c.context) (of_point : point ≡ context_item nest p) (none : i0 ≡ []) (of_cert : folds ≡ c.folds)
    (h1 : i1 ≡ i0 ++ point ∷ []) (h2 : i2 ≡ i1 ++ map Question (extent_questions nest)) (h3 : i3 ≡ i2 ++ map Question (bound_questions nest))
    (h4 : PartsListed i3 i4 (items_by_tree nest (trees_of c.flow))) (h5 : i5 ≡ i4 ++ map legality_item (legality_questions nest schedule))
    (h6 : FoldsListed nest schedule (trees_of c.flow) folds systems i5 i6) where
  pub is_listing : IsListing nest schedule c i6 systems
  is_listing =
      record {
        said = subst (λ fs. AreFoldsSaid nest schedule (trees_of c.flow) fs (folds_shown fs systems)) of_cert h6.said;
        are = are_all nest schedule c p point i0 i1 i2 i3 i4 i5 i6 (folds_shown folds systems) context of_point none h1 h2 h3 h4.put h5 h6.put
            ∙ ap (λ fs. items nest schedule c.context (trees_of c.flow) (folds_shown fs systems)) of_cert;
        within = record {
          trees = h4.within;
          folds = subst (HoldsOfNone (FoldPasses nest schedule (trees_of c.flow))) of_cert h6.within;
        };
      }

-- ---- The part that passes first

pub tree_is_first : (nest : Nest) (schedule : Schedule) (c : Cert) (part : ℕ) → IsFirstPart AnyPasses 1 (items_by_tree nest (trees_of c.flow)) part → PassesFirst nest schedule c part
tree_is_first nest schedule c part h = inl (record { tree = h.number; number = h.is; first = h.holds })

pub fold_is_first : (nest : Nest) (schedule : Schedule) (c : Cert) (folds : List CertFold) (first part : ℕ) → folds ≡ c.folds → first ≡ length c.flow.trees + 1 → HoldsOfNone AnyPasses (items_by_tree nest (trees_of c.flow))
    → IsFirstPart (FoldPasses nest schedule (trees_of c.flow)) first folds part → PassesFirst nest schedule c part
fold_is_first nest schedule c folds first part e f trees h =
    let many : length (trees_of c.flow) ≡ length c.flow.trees = length_map seen c.flow.trees in
    inr (record {
      trees = trees;
      fold = h.number;
      number = sum part first h.number (length c.flow.trees) (length (trees_of c.flow)) h.is f many;
      first = subst (λ fs. IsFirst (FoldPasses nest schedule (trees_of c.flow)) fs h.number) e h.holds;
    })
  where
    sum : (p f n t k : ℕ) → p ≡ f + n → f ≡ t + 1 → k ≡ t → p ≡ (1 + k) + n
    sum p f n t k a b d = omega (arith, a, b, d)

-- ---- The items

pub are_items : (nest : Nest) (schedule : Schedule) (c : Cert) (is : List Item) (systems : List (List PairSystem)) → IsListing nest schedule c is systems → AreItems nest schedule c is
are_items nest schedule c is systems h = record { folds = folds_shown c.folds systems; said = h.said; are = h.are }
